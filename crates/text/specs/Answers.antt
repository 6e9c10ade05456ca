-- What an operation gives, by document 01.
use Rattle.std.specs.Prelude.{ℕ}

-- a line put: the refusal number, 0 for none, and the place behind it
pub record LinePut : Type 0 where
  pub refusal : ℕ
  pub end : ℕ
