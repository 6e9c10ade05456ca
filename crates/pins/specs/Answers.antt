-- What an operation at the pins makes of card and shifter: the refusal's number, 0 for none, and the state after.
use Rattle.std.specs.Prelude.{ℕ, Bool}
use Rattle.pins.specs.declared.Pins.{Pins}

pub record PinsAfter : Type 0 where
  pub refusal : ℕ
  pub pins : Pins

-- and the bit sent
pub record Clocked : Type 0 where
  pub refusal : ℕ
  pub pins : Pins
  pub bit : Bool
