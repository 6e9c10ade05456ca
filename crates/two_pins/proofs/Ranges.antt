-- A state in range at the pins, the card and both shifters, stays in range by every call, refused or not; so the two ports are not both inactive.
-- Assumes nothing.
use Prim.Native.Nat.{ℕ}
use mathlib.Core.Bool.{Bool, true, false, ◌||◌}
use mathlib.Core.List.{List}
use mathlib.Core.Path.{◌≡◌}
use borrow.Author.Tests.{ltb-false, le-ltb}
use Rattle.two_ports.specs.State.{out_of_range}
use Rattle.two_ports.proofs.Cases.{neither}
use Rattle.two_ports.proofs.Ranges.{PortsRange, ports-not-out, ports-in-range, module-ports-ranged, selected-ports-ranged, told-ports-ranged, took-ports-ranged, released-ports-ranged}
use Rattle.two_pins.specs.PortPins.{left_at, module_port_pins, selected_port_pins, clocked_port, released_port_pins}
use Rattle.two_pins.specs.declared.PortPins.{PortPins}
use Rattle.two_pins.proofs.Order.{shifters_out}
use Rattle.two_pins.proofs.Run.{Kept, module-kept, select-kept, clock-kept, release-kept}

-- the count of a shifter lies outside its range, or the card does
abbrev pub out_at_pins : PortPins → Bool
out_at_pins q = shifters_out q || out_of_range q.ports

-- in range: the card, and the count of each shifter, 0 to 15
abbrev pub PinsRange : PortPins → Type 0
PinsRange = Kept PortsRange

pub pins-in-range : (q : PortPins) → out_at_pins q ≡ false → PinsRange q
pins-in-range q h =
    let (shifters, card) = neither (shifters_out q) (out_of_range q.ports) h in
    let (near, far) = neither _ _ shifters in
    record { card = ports-in-range q.ports card; shifters = record { near = ltb-false 15 _ near; far = ltb-false 15 _ far } }

pub pins-not-out : (q : PortPins) → PinsRange q → out_at_pins q ≡ false
pins-not-out q r = rw (le-ltb 15 _ r.shifters.near, le-ltb 15 _ r.shifters.far, ports-not-out q.ports r.card)

-- ---- every call

module _ (q : PortPins) (i : PinsRange q) where
  pub module-pins-ranged : (stf : Bool) (state : ℕ) → PinsRange (module_port_pins q stf state).pins
  module-pins-ranged stf state = module-kept PortsRange q i stf state (module-ports-ranged q.ports stf state i.card)

  pub select-pins-ranged : (p : ℕ) → PinsRange (selected_port_pins q p).pins
  select-pins-ranged p = select-kept PortsRange q i p (selected-ports-ranged q.ports p i.card)

  pub clock-pins-ranged : (p : ℕ) (memory : List ℕ) (bit : Bool) → PinsRange (clocked_port q p memory bit).pins
  clock-pins-ranged p memory bit =
      clock-kept PortsRange q i p memory bit (λ d r. told-ports-ranged d p r memory) (λ d w r. took-ports-ranged d p r memory w)

  pub release-pins-ranged : (p size : ℕ) → PinsRange (released_port_pins q p size).pins
  release-pins-ranged p size = release-kept PortsRange q i p size (released-ports-ranged q.ports p i.card size (left_at q p))

-- a state in range has an active port
pub one-active-at-pins : (q : PortPins) → out_at_pins q ≡ false → (q.ports.near.active || q.ports.far.active) ≡ true
one-active-at-pins q h = (pins-in-range q h).card.one_active
