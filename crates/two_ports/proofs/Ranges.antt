-- A state in range stays in range by every call, refused or not; so the ports are never both inactive, at any card run from power-up.
-- Assumes nothing.
use Prim.Native.Nat.{ℕ, ◌≤◌}
use native.Mathlib.Omega.{arith}
use mathlib.Core.Bool.{Bool, true, false, not, ◌||◌, or_comm}
use mathlib.Core.List.{List}
use mathlib.Core.Path.{◌≡◌, refl, sym, ◌∙◌, subst}
use borrow.Author.Tests.{ltb-false, le-ltb, not-false}
use lib.Dec.{ltb}
use Rattle.rules.specs.Refusals as refusal
use Rattle.card.specs.State as card
use Rattle.card.specs.State.{emptied, fresh, sized}
use Rattle.card.proofs.Laws.{InRange}
use Rattle.card.proofs.Sound.{not-out}
use Rattle.card.proofs.Ranges.{told-ranged, took-ranged, released-ranged}
use Rattle.two_ports.specs.declared.PortRecord.{PortRecord}
use Rattle.two_ports.specs.declared.Ports.{Ports}
use Rattle.two_ports.specs.State.{fresh_ports, turned, seen_from, with_near, view, view_from, out_of_range}
use Rattle.two_ports.specs.Ports.{powered_ports, module_ports, select_near, selected_ports, tell_near, told_ports, take_near, took_ports, far_moved, release_live, release_dead, release_near, released_ports}
use Rattle.two_ports.specs.Run.{RunPorts, power_up, set_module, select, tell, take_word, release}
use Rattle.two_ports.proofs.Cases.{neither, ports-settable, is-live, powered-ports-case, module-ports-case, tell-near-case, take-near-case, release-near-case, moved-case}
use Rattle.two_ports.proofs.Frame.{seen-twice, seen-has, select-seen, tell-seen, take-seen, release-seen}

pub record PortsRange (d : Ports) : Type 0 where
  pub size : sized d.size ≡ true
  pub near_count : d.near.port.message.count ≤ 67
  pub far_count : d.far.port.message.count ≤ 67
  pub module_state : d.module_state ≤ 15
  pub one_active : (d.near.active || d.far.active) ≡ true

-- that is: no call is refused by State
pub ports-not-out : (d : Ports) → PortsRange d → out_of_range d ≡ false
unfolding out_of_range
ports-not-out d r = rw (r.size, le-ltb 67 _ r.near_count, le-ltb 67 _ r.far_count, le-ltb 15 _ r.module_state, r.one_active)

pub ports-in-range : (d : Ports) → out_of_range d ≡ false → PortsRange d
unfolding out_of_range
ports-in-range d h =
    let short : Bool = not (sized d.size) || ltb 67 d.near.port.message.count in
    let (h₁, active) = neither (short || ltb 67 d.far.port.message.count || ltb 15 d.module_state) _ h in
    let (h₂, state) = neither (short || ltb 67 d.far.port.message.count) _ h₁ in
    let (h₃, far) = neither short _ h₂ in
    let (size, near) = neither (not (sized d.size)) _ h₃ in
    record {
      size = not-false (sized d.size) size;
      near_count = ltb-false 67 d.near.port.message.count near;
      far_count = ltb-false 67 d.far.port.message.count far;
      module_state = ltb-false 15 d.module_state state;
      one_active = not-false (d.near.active || d.far.active) active;
    }

-- what a port sees is in range
pub view-ranged : (d : Ports) → PortsRange d → InRange (view d)
unfolding view
view-ranged d r = record { size = r.size; count = r.near_count; module_state = r.module_state }

turned-ranged : (d : Ports) → PortsRange d → PortsRange (turned d)
turned-ranged d r =
    record {
      size = r.size;
      near_count = r.far_count;
      far_count = r.near_count;
      module_state = r.module_state;
      one_active = or_comm d.far.active d.near.active ∙ r.one_active;
    }

pub seen-ranged : (p : ℕ) (d : Ports) → PortsRange d → PortsRange (seen_from p d)
seen-ranged = seen-has PortsRange turned-ranged

-- as a port sees it, and so as it is
back-ranged : (p : ℕ) (d : Ports) → PortsRange (seen_from p d) → PortsRange d
back-ranged p d r = subst PortsRange (seen-twice p d) (seen-ranged p (seen_from p d) r)

-- what a port sees is out of range then as little as the whole
pub ranged-alike : (p : ℕ) (d : Ports) → PortsRange d → out_of_range d ≡ card.out_of_range (view_from p d)
ranged-alike p d i = ports-not-out d i ∙ sym (not-out (view_from p d) (view-ranged (seen_from p d) (seen-ranged p d i)))

-- ---- calls on the near port

-- another record of it, as active as before
near-ranged : (d : Ports) (r : PortRecord) → PortsRange d → r.active ≡ d.near.active → r.port.message.count ≤ 67 → PortsRange (with_near d r)
near-ranged d r i a c =
    record { size = i.size; near_count = c; far_count = i.far_count; module_state = i.module_state; one_active = rw a i.one_active }

select-near-ranged : (d : Ports) → PortsRange d → PortsRange (select_near d)
unfolding select_near emptied
select-near-ranged d i = near-ranged d _ i refl (omega arith)

tell-near-ranged : (d : Ports) (memory : List ℕ) → PortsRange d → PortsRange (tell_near d memory)
tell-near-ranged d memory i =
    tell-near-case PortsRange d memory (λ l. near-ranged d _ i refl (told-ranged (view d) memory (view-ranged d i)).count) (λ l. i)

take-near-ranged : (d : Ports) (memory : List ℕ) (word : ℕ) → PortsRange d → PortsRange (take_near d memory word)
take-near-ranged d memory word i =
    take-near-case PortsRange d memory word (λ l. near-ranged d _ i refl (took-ranged (view d) memory word (view-ranged d i)).count) (λ l. i)

pub moved-count : (d : Ports) (left : ℕ) → d.far.port.message.count ≤ 67 → (far_moved d left).port.message.count ≤ 67
unfolding emptied
moved-count d left h = moved-case (λ r. r.port.message.count ≤ 67) d left (λ a e. h) (λ a e. omega arith) h

-- a live message may switch off the other port: its own is active
release-near-ranged : (d : Ports) (size left : ℕ) → PortsRange d → PortsRange (release_near d size left)
unfolding release_live release_dead emptied
release-near-ranged d size left i =
    release-near-case PortsRange d size left
    (λ l. record {
      size = i.size;
      near_count = (released-ranged (view d) size left (view-ranged d i)).count;
      far_count = moved-count d left i.far_count;
      module_state = i.module_state;
      one_active = rw (is-live d.near l).active;
    })
    (λ l. near-ranged d _ i refl (omega arith))

-- ---- every call

pub powered-ports-ranged : (size : ℕ) → (powered_ports size).refusal ≡ refusal.none → PortsRange (powered_ports size).ports
unfolding fresh_ports fresh emptied
powered-ports-ranged size =
    powered-ports-case (λ a. a.refusal ≡ refusal.none → PortsRange a.ports) size (λ h. absurd (omega arith))
    (λ s h. record { size = s; near_count = omega arith; far_count = omega arith; module_state = omega arith; one_active = refl })

pub module-ports-ranged : (d : Ports) (stf : Bool) (state : ℕ) → PortsRange d → PortsRange (module_ports d stf state).ports
module-ports-ranged d stf state i =
    module-ports-case (λ a. PortsRange a.ports) d stf state (λ r. i)
    (λ q. record {
      size = i.size;
      near_count = i.near_count;
      far_count = i.far_count;
      module_state = (ports-settable d state q).small;
      one_active = i.one_active;
    })

module _ (d : Ports) (p : ℕ) (i : PortsRange d) where
  pub selected-ports-ranged : PortsRange (selected_ports d p).ports
  selected-ports-ranged =
      back-ranged p _ (select-seen PortsRange d p (λ r. seen-ranged p d i) (λ q. select-near-ranged (seen_from p d) (seen-ranged p d i)))

  pub told-ports-ranged : (memory : List ℕ) → PortsRange (told_ports d p memory).ports
  told-ports-ranged memory =
      back-ranged p _ (tell-seen PortsRange d p memory (λ r. seen-ranged p d i) (λ q. tell-near-ranged (seen_from p d) memory (seen-ranged p d i)))

  pub took-ports-ranged : (memory : List ℕ) (word : ℕ) → PortsRange (took_ports d p memory word).ports
  took-ports-ranged memory word =
      back-ranged p _ (take-seen PortsRange d p memory word (λ r. seen-ranged p d i) (λ q. take-near-ranged (seen_from p d) memory word (seen-ranged p d i)))

  pub released-ports-ranged : (size left : ℕ) → PortsRange (released_ports d p size left).ports
  released-ports-ranged size left =
      back-ranged p _ (release-seen PortsRange d p size left (λ r. seen-ranged p d i) (λ q. release-near-ranged (seen_from p d) size left (seen-ranged p d i)))

-- ---- every card run from power-up

pub run-ranged : {d : Ports} → RunPorts d → PortsRange d
run-ranged (power_up size h) = powered-ports-ranged size h
run-ranged (set_module {d = d} r stf state) = module-ports-ranged d stf state (run-ranged r)
run-ranged (select {d = d} r p) = selected-ports-ranged d p (run-ranged r)
run-ranged (tell {d = d} r p memory) = told-ports-ranged d p (run-ranged r) memory
run-ranged (take_word {d = d} r p memory word) = took-ports-ranged d p (run-ranged r) memory word
run-ranged (release {d = d} r p size left) = released-ports-ranged d p (run-ranged r) size left

pub never-both-inactive : {d : Ports} → RunPorts d → (d.near.active || d.far.active) ≡ true
never-both-inactive r = (run-ranged r).one_active
