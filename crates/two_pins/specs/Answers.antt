-- What a call at the pins of a card with two ports gives back, beside lent memory.
use Rattle.std.specs.Prelude.{ℕ, Bool}
use Rattle.two_pins.specs.declared.PortPins.{PortPins}

-- a refusal's number, or 0, and the state after
pub record PortPinsAfter : Type 0 where
  pub refusal : ℕ
  pub pins : PortPins

-- a refusal's number, or 0, the state after, and the bit sent, 0 where refused
pub record PortClocked : Type 0 where
  pub refusal : ℕ
  pub pins : PortPins
  pub bit : Bool
