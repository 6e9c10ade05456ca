-- Whatever the calls of a card with two ports keep, its calls at the pins keep. So of a card behind its shifters that is run from power-up the card
-- is one run from power-up, and all that is known of such cards holds of it, and both shifters are in range.
-- Assumes nothing.
use Prim.Native.Nat.{ℕ, ◌≤◌}
use mathlib.Core.Bool.{Bool, true, ◌||◌}
use mathlib.Core.List.{List}
use mathlib.Core.Path.{◌≡◌, sym, ◌∙◌, subst}
use lib.Dec.{eqb, lit≤}
use Rattle.rules.proofs.Cases.{by-test}
use Rattle.shifter.specs.declared.Shifter.{Shifter}
use Rattle.two_ports.specs.Ports.{module_ports, selected_ports, told_ports, took_ports, released_ports}
use Rattle.two_ports.specs.Run as run
use Rattle.two_ports.specs.Run.{RunPorts}
use Rattle.two_ports.specs.declared.Ports.{Ports}
use Rattle.two_ports.proofs.Frame.{seen-twice}
use Rattle.two_ports.proofs.Ranges.{never-both-inactive}
use Rattle.two_pins.specs.PortPins.{pins_from, left_at, powered_port_pins, module_port_pins, selected_port_pins, clocked_port, released_port_pins}
use Rattle.two_pins.specs.Run.{RunPortPins, power_up, set_module, select, clock, release}
use Rattle.two_pins.specs.declared.PortPins.{PortPins}
use Rattle.two_pins.proofs.Cases.{module-pins-case, select-pins-case, release-pins-case}
use Rattle.two_pins.proofs.Clock.{pins-ports, pins-twice, clock-has, clock-far, clock-ranged}

-- both shifters are in range; so they are seen from a port
pub record Shifters (q : PortPins) : Type 0 where
  pub near : q.near.count ≤ 15
  pub far : q.far.count ≤ 15

pub shifters-from : (p : ℕ) (q : PortPins) → Shifters q → Shifters (pins_from p q)
unfolding pins_from
shifters-from p q h = by-test Shifters (eqb p 1) (λ t. record { near = h.far; far = h.near }) (λ f. h)

shifters-back : (p : ℕ) (q : PortPins) → Shifters (pins_from p q) → Shifters q
shifters-back p q h = subst Shifters (pins-twice p q) (shifters-from p (pins_from p q) h)

-- ---- what the card's own calls keep, the calls at the pins keep too, with both shifters in range

pub record Kept (P : Ports → Type 0) (q : PortPins) : Type 0 where
  pub card : P q.ports
  pub shifters : Shifters q

module _ (P : Ports → Type 0) (q : PortPins) (h : Kept P q) where
  pub module-kept : (stf : Bool) (state : ℕ) → P (module_ports q.ports stf state).ports → Kept P (module_port_pins q stf state).pins
  module-kept stf state card =
      module-pins-case (λ a. Kept P a.pins) q stf state (λ r. h)
      (λ n. record { card = card; shifters = record { near = h.shifters.near; far = h.shifters.far } })

  pub select-kept : (p : ℕ) → P (selected_ports q.ports p).ports → Kept P (selected_port_pins q p).pins
  select-kept p card =
      select-pins-case (λ a. Kept P a.pins) q p (λ r. h)
      (λ n. record {
        card = subst P (sym (pins-ports p _ ∙ seen-twice p (selected_ports q.ports p).ports)) card;
        shifters = shifters-from p _ (record { near = lit≤ tt; far = (shifters-from p q h.shifters).far });
      })

  pub clock-kept : (p : ℕ) (memory : List ℕ) (bit : Bool) → ((d : Ports) → P d → P (told_ports d p memory).ports)
      → ((d : Ports) (w : ℕ) → P d → P (took_ports d p memory w).ports) → Kept P (clocked_port q p memory bit).pins
  clock-kept p memory bit tells takes =
      let x : Shifters (pins_from p q) = shifters-from p q h.shifters in
      record {
        card = clock-has q p memory bit P h.card tells takes;
        shifters = shifters-back p _ (record {
          near = clock-ranged q p memory bit x.near;
          far = subst (λ (s : Shifter). s.count ≤ 15) (sym (clock-far q p memory bit)) x.far;
        });
      }

  pub release-kept : (p size : ℕ) → P (released_ports q.ports p size (left_at q p)).ports → Kept P (released_port_pins q p size).pins
  release-kept p size card =
      release-pins-case (λ a. Kept P a.pins) q p size (λ r. h)
      (λ n. record { card = card; shifters = record { near = h.shifters.near; far = h.shifters.far } })

-- ---- run from power-up

pub record SoundPortPins (q : PortPins) : Type 0 where
  pub run : RunPorts q.ports
  pub shifters : Shifters q

run-kept : {q : PortPins} → RunPortPins q → Kept RunPorts q
unfolding powered_port_pins
run-kept (power_up size e) = record { card = run.power_up size e; shifters = record { near = lit≤ tt; far = lit≤ tt } }
run-kept (set_module {q} r stf state) = let h = run-kept r in module-kept RunPorts q h stf state (run.set_module h.card stf state)
run-kept (select {q} r p) = let h = run-kept r in select-kept RunPorts q h p (run.select h.card p)
run-kept (clock {q} r p memory bit) = clock-kept RunPorts q (run-kept r) p memory bit (λ d c. run.tell c p memory) (λ d w c. run.take_word c p memory w)
run-kept (release {q} r p size) = let h = run-kept r in release-kept RunPorts q h p size (run.release h.card p size (left_at q p))

pub run-port-pins : {q : PortPins} → RunPortPins q → SoundPortPins q
run-port-pins r = record { run = (run-kept r).card; shifters = (run-kept r).shifters }

-- the ports are never both inactive
pub never-both-inactive-at-pins : {q : PortPins} → RunPortPins q → (q.ports.near.active || q.ports.far.active) ≡ true
never-both-inactive-at-pins r = never-both-inactive (run-port-pins r).run
