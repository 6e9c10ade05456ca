-- A power-up that is not refused keeps nothing of the state before it: it leaves what it gives by value, of a card with one port and of one with two,
-- with and without shifters. (Where it is refused the state stays: proofs/Refusals of these crates.)
-- Assumes nothing.
use Prim.Native.Nat.{ℕ}
use native.Mathlib.Omega.{arith}
use mathlib.Core.Bool.{cond}
use mathlib.Core.Path.{◌≡◌, refl}
use lib.Dec.{eqb}
use Rattle.rules.specs.Refusals as refusal
use Rattle.card.specs.Card.{gives_card, powered, powered_up}
use Rattle.card.specs.declared.Card.{Card}
use Rattle.card.specs.Answers.{CardAfter}
use Rattle.card.proofs.Cases.{powered-case}
use Rattle.shifter.specs.Shifter.{cleared}
use Rattle.pins.specs.Pins.{pins_of, gives_pins, powered_pins, powered_up_pins}
use Rattle.pins.specs.declared.Pins.{Pins}
use Rattle.two_ports.specs.Ports.{gives_ports, powered_ports, powered_up_ports}
use Rattle.two_ports.specs.declared.Ports.{Ports}
use Rattle.two_ports.specs.Answers.{PortsAfter}
use Rattle.two_ports.proofs.Cases.{powered-ports-case}
use Rattle.two_pins.specs.PortPins.{port_pins_of, gives_port_pins, powered_port_pins, powered_up_port_pins}
use Rattle.two_pins.specs.declared.PortPins.{PortPins}

pub powered-up-done : (c : Card) (size : ℕ) → (powered size).refusal ≡ refusal.none → powered_up c size ≡ powered size
unfolding powered_up
powered-up-done c size =
    powered-case (λ a. a.refusal ≡ refusal.none → cond (eqb a.refusal refusal.none) (gives_card refusal.none a.card) (gives_card a.refusal c) ≡ a) size
    (λ h. absurd (omega (arith, h))) (λ s h. refl)

pub powered-up-pins-done : (p : Pins) (size : ℕ) → (powered_pins size).refusal ≡ refusal.none → powered_up_pins p size ≡ powered_pins size
unfolding powered_up_pins powered_pins
powered-up-pins-done p size =
    powered-case
    (λ (a : CardAfter).
    a.refusal ≡ refusal.none
    → cond (eqb a.refusal refusal.none) (gives_pins refusal.none (pins_of a.card cleared)) (gives_pins a.refusal p) ≡ gives_pins a.refusal (pins_of a.card cleared)) size
    (λ h. absurd (omega (arith, h))) (λ s h. refl)

pub powered-up-ports-done : (d : Ports) (size : ℕ) → (powered_ports size).refusal ≡ refusal.none → powered_up_ports d size ≡ powered_ports size
unfolding powered_up_ports
powered-up-ports-done d size =
    powered-ports-case
    (λ a. a.refusal ≡ refusal.none → cond (eqb a.refusal refusal.none) (gives_ports refusal.none a.ports) (gives_ports a.refusal d) ≡ a) size
    (λ h. absurd (omega (arith, h))) (λ s h. refl)

pub powered-up-port-pins-done : (q : PortPins) (size : ℕ) → (powered_port_pins size).refusal ≡ refusal.none
    → powered_up_port_pins q size ≡ powered_port_pins size
unfolding powered_up_port_pins powered_port_pins
powered-up-port-pins-done q size =
    powered-ports-case
    (λ (a : PortsAfter).
    a.refusal ≡ refusal.none
    → cond (eqb a.refusal refusal.none) (gives_port_pins refusal.none (port_pins_of a.ports cleared cleared)) (gives_port_pins a.refusal q)
    ≡ gives_port_pins a.refusal (port_pins_of a.ports cleared cleared)) size
    (λ h. absurd (omega (arith, h))) (λ s h. refl)
