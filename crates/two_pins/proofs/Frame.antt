-- At the pins too a call on a port leaves the other port: its shifter always, and its record unless an accepted ACTIVATE or DEACTIVATE is released.
-- The module state leaves both. Select clears the port's own shifter, and release leaves it. A dead message sends 0, whatever the shifter holds,
-- leaves the shifter too, and its release only ends it.
-- Assumes nothing.
use Prim.Native.Nat.{ℕ}
use mathlib.Core.Bool.{Bool, false}
use mathlib.Core.List.{List}
use mathlib.Core.Logic.{◌⊎◌, inl}
use mathlib.Core.Path.{◌≡◌, refl, sym, ap, ◌∙◌}
use Rattle.rules.specs.Refusals as refusal
use Rattle.judge.proofs.Laws.{never}
use Rattle.card.specs.Exchange.{fields}
use Rattle.card.specs.State.{emptied}
use Rattle.shifter.specs.Shifter.{cleared}
use Rattle.shifter.specs.declared.Shifter.{Shifter}
use Rattle.two_ports.specs.Ports.{selected_ports, switched, release_dead}
use Rattle.two_ports.specs.State.{no_bases, live, seen_from, with_near, view_from}
use Rattle.two_ports.specs.declared.PortRecord.{PortRecord}
use Rattle.two_ports.specs.declared.Ports.{Ports}
use Rattle.two_ports.proofs.Dead.{dead-release, dead-release-memory}
use Rattle.two_ports.proofs.Frame.{own_record, other_record, seen-twice, select-frame, tell-frame, take-frame, Switches, release-frame, module-frame}
use Rattle.two_ports.proofs.Refusals.{released-ports-number}
use Rattle.two_pins.specs.PortPins.{port_pins_of, pins_from, left_at, module_port_pins, selected_port_pins, bit_near, clocked_port, released_port_pins, memory_after_port_pins}
use Rattle.two_pins.specs.declared.PortPins.{PortPins}
use Rattle.two_pins.proofs.Cases.{release_number, select_number, module-pins-case, select-pins-case, release-pins-case, memory-pins-case}
use Rattle.two_pins.proofs.Clock.{pins-ports, pins-twice, quiet, clocked-port-case, clock-near-case, clock-has}

-- the shifter of a port, and that of the other one
abbrev pub own_shifter : ℕ → PortPins → Shifter
own_shifter p q = (pins_from p q).near

abbrev pub other_shifter : ℕ → PortPins → Shifter
other_shifter p q = (pins_from p q).far

module _ (q : PortPins) (p : ℕ) where
  -- ---- select

  -- seen from the port: the card's own answer, behind a clear shifter and the other one
  abbrev select_done : PortPins
  select_done = port_pins_of (seen_from p (selected_ports q.ports p).ports) cleared (other_shifter p q)

  pub select-other-shifter : other_shifter p (selected_port_pins q p).pins ≡ other_shifter p q
  select-other-shifter =
      select-pins-case (λ a. other_shifter p a.pins ≡ other_shifter p q) q p (λ r. refl)
      (λ n. ap (λ (x : PortPins). x.far) (pins-twice p select_done))

  pub select-clears-shifter : select_number q p ≡ refusal.none → own_shifter p (selected_port_pins q p).pins ≡ cleared
  select-clears-shifter n =
      select-pins-case (λ a. own_shifter p a.pins ≡ cleared) q p (λ r. absurd (r n)) (λ _. ap (λ (x : PortPins). x.near) (pins-twice p select_done))

  pub select-other-record : other_record p (selected_port_pins q p).pins.ports ≡ other_record p q.ports
  select-other-record =
      select-pins-case (λ a. other_record p a.pins.ports ≡ other_record p q.ports) q p (λ r. refl)
      (λ n. ap (other_record p) (pins-ports p select_done ∙ seen-twice p (selected_ports q.ports p).ports) ∙ select-frame q.ports p)

  -- ---- a bit: that the other port's shifter stays is `clock-far`

  pub clock-other-record : (memory : List ℕ) (bit : Bool) → other_record p (clocked_port q p memory bit).pins.ports ≡ other_record p q.ports
  clock-other-record memory bit =
      clock-has q p memory bit (λ d. other_record p d ≡ other_record p q.ports) refl (λ d e. tell-frame d p memory ∙ e)
      (λ d w e. take-frame d p memory w ∙ e)

  -- ---- release: both shifters stay

  pub release-shifters : (size : ℕ) → ((released_port_pins q p size).pins.near ≡ q.near) × ((released_port_pins q p size).pins.far ≡ q.far)
  release-shifters size =
      release-pins-case (λ a. (a.pins.near ≡ q.near) × (a.pins.far ≡ q.far)) q p size (λ r. (refl, refl)) (λ n. (refl, refl))

  pub release-other-record : (size : ℕ)
      → (other_record p (released_port_pins q p size).pins.ports ≡ other_record p q.ports)
      ⊎ (Switches q.ports p size (left_at q p)
      × (other_record p (released_port_pins q p size).pins.ports ≡ switched (other_record p q.ports) (fields (view_from p q.ports)).code))
  release-other-record size =
      release-pins-case (λ a. Q (other_record p a.pins.ports)) q p size (λ r. inl refl) (λ n. release-frame q.ports p size (left_at q p))
    where
      Q : PortRecord → Type 0
      Q r = (r ≡ other_record p q.ports)
          ⊎ (Switches q.ports p size (left_at q p) × (r ≡ switched (other_record p q.ports) (fields (view_from p q.ports)).code))

  -- ---- a dead message

  module _ (dead : live (own_record p q.ports) ≡ false) where
    near-dead : live (pins_from p q).ports.near ≡ false
    near-dead = ap (λ (d : Ports). live d.near) (pins-ports p q) ∙ dead

    -- nothing changes, the shifter neither, and the bit sent is 0, whether the bit is refused or not
    pub dead-clock : (memory : List ℕ) (bit : Bool) → ((clocked_port q p memory bit).pins ≡ q) × ((clocked_port q p memory bit).bit ≡ false)
    unfolding bit_near
    dead-clock memory bit =
        clocked-port-case q p memory bit (λ c. (c.pins ≡ q) × (c.bit ≡ false)) (λ r. (refl, refl))
        (λ n. (clock-near-case q p memory bit (λ y. pins_from p y ≡ q) (λ l. never (sym l ∙ near-dead)) (λ f. pins-twice p q), rw near-dead))

    -- its port is no longer selected, and nothing else changes: the shifters stay by `release-shifters`
    pub dead-release-at-pins : (size : ℕ) → release_number q p size ≡ refusal.none
        → seen_from p (released_port_pins q p size).pins.ports
        ≡ with_near (seen_from p q.ports) (record {
          active = (own_record p q.ports).active;
          dropped = false;
          held = no_bases;
          port = record { status = (own_record p q.ports).port.status; last = (own_record p q.ports).port.last; message = emptied false };
        })
    unfolding release_dead
    dead-release-at-pins size n =
        release-pins-case (λ a. seen_from p a.pins.ports ≡ release_dead (seen_from p q.ports)) q p size (λ r. absurd (r n))
        (λ _. dead-release q.ports p dead size (left_at q p) (sym (released-ports-number q.ports p size (left_at q p)) ∙ (quiet q _ n).card))

    pub dead-memory-at-pins : (memory : List ℕ) → memory_after_port_pins q p memory ≡ memory
    dead-memory-at-pins memory =
        memory-pins-case (λ m. m ≡ memory) q p memory (λ r. refl) (λ n. dead-release-memory q.ports p dead memory (left_at q p))

-- ---- the module state leaves both shifters and both records

module _ (q : PortPins) (stf : Bool) (state : ℕ) where
  pub module-shifters : ((module_port_pins q stf state).pins.near ≡ q.near) × ((module_port_pins q stf state).pins.far ≡ q.far)
  module-shifters = module-pins-case (λ a. (a.pins.near ≡ q.near) × (a.pins.far ≡ q.far)) q stf state (λ r. (refl, refl)) (λ n. (refl, refl))

  pub module-record : (p : ℕ) → own_record p (module_port_pins q stf state).pins.ports ≡ own_record p q.ports
  module-record p =
      module-pins-case (λ a. own_record p a.pins.ports ≡ own_record p q.ports) q stf state (λ r. refl) (λ n. module-frame q.ports p stf state)
