-- One case law for each call at the pins that is no bit: a property holds after it if it holds where the call is refused and where it is not.
-- Assumes nothing.
use Prim.Native.Nat.{ℕ}
use mathlib.Core.Bool.{Bool}
use mathlib.Core.List.{List}
use mathlib.Core.Path.{◌≡◌}
use Rattle.rules.specs.Refusals as refusal
use Rattle.rules.proofs.Cases.{by-number}
use Rattle.shifter.specs.Shifter.{cleared}
use Rattle.two_ports.specs.Ports.{module_ports, selected_ports, released_ports, memory_after_ports}
use Rattle.two_ports.specs.State.{seen_from}
use Rattle.two_pins.specs.PortPins.{port_pins_of, gives_port_pins, pins_from, behind_shifters, left_at, module_port_pins, selected_port_pins, released_port_pins, memory_after_port_pins}
use Rattle.two_pins.specs.declared.PortPins.{PortPins}
use Rattle.two_pins.specs.Answers.{PortPinsAfter}

-- the numbers that they answer
abbrev pub module_number : PortPins → Bool → ℕ → ℕ
module_number q stf state = behind_shifters q (module_ports q.ports stf state).refusal

abbrev pub select_number : PortPins → ℕ → ℕ
select_number q p = behind_shifters q (selected_ports q.ports p).refusal

abbrev pub release_number : PortPins → ℕ → ℕ → ℕ
release_number q p size = behind_shifters q (released_ports q.ports p size (left_at q p)).refusal

module _ (P : PortPinsAfter → Type 0) (q : PortPins) where
  pub module-pins-case : (stf : Bool) (state : ℕ)
      → ((module_number q stf state ≡ refusal.none → ⊥) → P (gives_port_pins (module_number q stf state) q))
      → (module_number q stf state ≡ refusal.none
      → P (gives_port_pins refusal.none (port_pins_of (module_ports q.ports stf state).ports q.near q.far)))
      → P (module_port_pins q stf state)
  unfolding module_port_pins
  module-pins-case stf state = by-number P (module_number q stf state)

  pub select-pins-case : (p : ℕ)
      → ((select_number q p ≡ refusal.none → ⊥) → P (gives_port_pins (select_number q p) q))
      → (select_number q p ≡ refusal.none
      → P (gives_port_pins refusal.none (pins_from p (port_pins_of (seen_from p (selected_ports q.ports p).ports) cleared (pins_from p q).far))))
      → P (selected_port_pins q p)
  unfolding selected_port_pins
  select-pins-case p = by-number P (select_number q p)

  pub release-pins-case : (p size : ℕ)
      → ((release_number q p size ≡ refusal.none → ⊥) → P (gives_port_pins (release_number q p size) q))
      → (release_number q p size ≡ refusal.none
      → P (gives_port_pins refusal.none (port_pins_of (released_ports q.ports p size (left_at q p)).ports q.near q.far)))
      → P (released_port_pins q p size)
  unfolding released_port_pins
  release-pins-case p size = by-number P (release_number q p size)

pub memory-pins-case : (P : List ℕ → Type 0) (q : PortPins) (p : ℕ) (memory : List ℕ)
    → ((behind_shifters q refusal.none ≡ refusal.none → ⊥) → P memory)
    → (behind_shifters q refusal.none ≡ refusal.none → P (memory_after_ports q.ports p memory (left_at q p)))
    → P (memory_after_port_pins q p memory)
unfolding memory_after_port_pins
memory-pins-case P q p memory = by-number P (behind_shifters q refusal.none)
