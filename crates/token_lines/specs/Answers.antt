-- What the line of a token is answered by.
use Rattle.std.specs.Prelude.{ℕ, List}

-- a refusal's number, or 0, and the bytes of a line, zeros where refused
pub record TokenLine : Type 0 where
  pub refusal : ℕ
  pub bytes : List ℕ
