-- What a message that crosses answers.
use Rattle.std.specs.Prelude.{ℕ}
use Rattle.pins.specs.declared.Pins.{Pins}

-- the refusal's number, 0 for none; the first number that a call at the card's pins gave, or 0; and the state after
pub record Across : Type 0 where
  pub refusal : ℕ
  pub card : ℕ
  pub pins : Pins
