-- One case law for each operation of the card with two ports: a property holds after it if it holds where the operation refuses and where it does
-- not, and there for a live message and for a dead one. And what a refusal number tells that is None.
-- Assumes nothing.
use Prim.Native.Nat.{ℕ, ◌≤◌}
use native.Mathlib.Omega.{arith}
use mathlib.Core.Bool.{Bool, true, false, not, ◌&&◌, ◌||◌}
use mathlib.Core.List.{List}
use mathlib.Core.Path.{◌≡◌, refl, ap}
use borrow.Author.Tests.{eqb-true, leb-true, not-true}
use lib.Dec.{eqb, leb}
use lib.ListN.{length}
use Rattle.rules.specs.Refusals as refusal
use Rattle.rules.specs.Rules.{activate, deactivate}
use Rattle.rules.proofs.Cases.{by-test, by-number}
use Rattle.judge.proofs.Laws.{never}
use Rattle.token.proofs.Good.{both}
use Rattle.card.specs.Exchange.{fields, taken, told, took, with_told}
use Rattle.card.specs.Release.{acted, noted, ended, is_accepted, release_refusal, released, memory_after}
use Rattle.card.specs.State.{emptied, sized}
use Rattle.card.specs.declared.Card.{Card}
use Rattle.card.specs.declared.Port.{Port}
use Rattle.card.proofs.Cases.{told-case, took-case, released-case, ended-case}
use Rattle.card.proofs.Laws.{fails, holds}
use Rattle.two_ports.specs.declared.PortRecord.{PortRecord}
use Rattle.two_ports.specs.declared.Ports.{Ports}
use Rattle.two_ports.specs.Answers.{PortsAfter, PortsTold}
use Rattle.two_ports.specs.State.{is_selected, live, fresh_ports, is_port, seen_from, with_near_port, view, out_of_range}
use Rattle.two_ports.specs.Ports.{gives_ports, refusal_at, powered_ports, ports_module_refusal, with_ports_module, module_ports, ports_select_refusal, select_near, selected_ports, ports_word_refusal, tell_near, word_near, told_ports, take_near, took_ports, ports_release_refusal, switched_on, switched_off, switched, far_moved, release_live, release_dead, release_near, released_ports, memory_near, memory_after_ports}

-- ---- the operations

pub powered-ports-case : (P : PortsAfter → Type 0) (size : ℕ)
    → P (gives_ports refusal.size (fresh_ports 0))
    → (sized size ≡ true → P (gives_ports refusal.none (fresh_ports size)))
    → P (powered_ports size)
unfolding powered_ports
powered-ports-case P size refused done = by-test P (sized size) done (λ e. refused)

pub module-ports-case : (P : PortsAfter → Type 0) (d : Ports) (stf : Bool) (state : ℕ)
    → ((ports_module_refusal d state ≡ refusal.none → ⊥) → P (gives_ports (ports_module_refusal d state) d))
    → (ports_module_refusal d state ≡ refusal.none → P (gives_ports refusal.none (with_ports_module d stf state)))
    → P (module_ports d stf state)
unfolding module_ports
module-ports-case P d stf state = by-number P (ports_module_refusal d state)

pub selected-ports-case : (P : PortsAfter → Type 0) (d : Ports) (p : ℕ)
    → ((ports_select_refusal d p ≡ refusal.none → ⊥) → P (gives_ports (ports_select_refusal d p) d))
    → (ports_select_refusal d p ≡ refusal.none → P (gives_ports refusal.none (seen_from p (select_near (seen_from p d)))))
    → P (selected_ports d p)
unfolding selected_ports
selected-ports-case P d p = by-number P (ports_select_refusal d p)

pub told-ports-case : (P : PortsTold → Type 0) (d : Ports) (p : ℕ) (memory : List ℕ)
    → ((ports_word_refusal d p (length memory) ≡ refusal.none → ⊥) → P (record { refusal = ports_word_refusal d p (length memory); ports = d; word = 0 }))
    → (ports_word_refusal d p (length memory) ≡ refusal.none
    → P (record { refusal = refusal.none; ports = seen_from p (tell_near (seen_from p d) memory); word = word_near (seen_from p d) memory }))
    → P (told_ports d p memory)
unfolding told_ports
told-ports-case P d p memory = by-number P (ports_word_refusal d p (length memory))

pub took-ports-case : (P : PortsAfter → Type 0) (d : Ports) (p : ℕ) (memory : List ℕ) (word : ℕ)
    → ((ports_word_refusal d p (length memory) ≡ refusal.none → ⊥) → P (gives_ports (ports_word_refusal d p (length memory)) d))
    → (ports_word_refusal d p (length memory) ≡ refusal.none → P (gives_ports refusal.none (seen_from p (take_near (seen_from p d) memory word))))
    → P (took_ports d p memory word)
unfolding took_ports
took-ports-case P d p memory word = by-number P (ports_word_refusal d p (length memory))

pub released-ports-case : (P : PortsAfter → Type 0) (d : Ports) (p size left : ℕ)
    → ((ports_release_refusal d p size left ≡ refusal.none → ⊥) → P (gives_ports (ports_release_refusal d p size left) d))
    → (ports_release_refusal d p size left ≡ refusal.none → P (gives_ports refusal.none (seen_from p (release_near (seen_from p d) size left))))
    → P (released_ports d p size left)
unfolding released_ports
released-ports-case P d p size left = by-number P (ports_release_refusal d p size left)

pub memory-ports-case : (P : List ℕ → Type 0) (d : Ports) (p : ℕ) (memory : List ℕ) (left : ℕ)
    → ((ports_release_refusal d p (length memory) left ≡ refusal.none → ⊥) → P memory)
    → (ports_release_refusal d p (length memory) left ≡ refusal.none → P (memory_near (seen_from p d) memory left))
    → P (memory_after_ports d p memory left)
unfolding memory_after_ports
memory-ports-case P d p memory left = by-number P (ports_release_refusal d p (length memory) left)

-- ---- on the near port: a live message, or a dead one

pub tell-near-case : (P : Ports → Type 0) (d : Ports) (memory : List ℕ)
    → (live d.near ≡ true → P (with_near_port d (told (view d) memory).card.port))
    → (live d.near ≡ false → P d)
    → P (tell_near d memory)
unfolding tell_near
tell-near-case P d memory = by-test P (live d.near)

pub take-near-case : (P : Ports → Type 0) (d : Ports) (memory : List ℕ) (word : ℕ)
    → (live d.near ≡ true → P (with_near_port d (took (view d) memory word).card.port))
    → (live d.near ≡ false → P d)
    → P (take_near d memory word)
unfolding take_near
take-near-case P d memory word = by-test P (live d.near)

pub release-near-case : (P : Ports → Type 0) (d : Ports) (size left : ℕ)
    → (live d.near ≡ true → P (release_live d size left))
    → (live d.near ≡ false → P (release_dead d))
    → P (release_near d size left)
unfolding release_near
release-near-case P d size left = by-test P (live d.near)

pub memory-near-case : (P : List ℕ → Type 0) (d : Ports) (memory : List ℕ) (left : ℕ)
    → (live d.near ≡ true → P (memory_after (view d) memory left))
    → (live d.near ≡ false → P memory)
    → P (memory_near d memory left)
unfolding memory_near
memory-near-case P d memory left = by-test P (live d.near)

-- the far port's record after a live message of the near one: switched on by ACTIVATE, off by DEACTIVATE, and else as it was
pub moved-case : (P : PortRecord → Type 0) (d : Ports) (left : ℕ)
    → (is_accepted (view d) left ≡ true → (fields (view d)).code ≡ activate.code → P (switched_on d.far))
    → (is_accepted (view d) left ≡ true → (fields (view d)).code ≡ deactivate.code → P (switched_off d.far))
    → P d.far
    → P (far_moved d left)
unfolding far_moved switched
moved-case P d left on off same =
    by-test P (is_accepted (view d) left)
    (λ a. by-test P (eqb (fields (view d)).code activate.code) (λ e. on a (eqb-true _ activate.code e))
    (λ e. by-test P (eqb (fields (view d)).code deactivate.code) (λ f. off a (eqb-true _ deactivate.code f)) (λ f. same)))
    (λ a. same)

-- ---- a live message

pub record Live (r : PortRecord) : Type 0 where
  pub active : r.active ≡ true
  pub selected : is_selected r ≡ true
  pub kept : r.dropped ≡ false

pub is-live : (r : PortRecord) → live r ≡ true → Live r
unfolding live
is-live r h =
    let (selected_active, kept) = both (r.active && is_selected r) (not r.dropped) h in
    let (active, selected) = both r.active (is_selected r) selected_active in
    record { active = active; selected = selected; kept = not-true r.dropped kept }

pub live-is : (r : PortRecord) → Live r → live r ≡ true
unfolding live
live-is r l = rw (l.active, l.selected, l.kept)

-- where the message stays open, it stays live
still-live : (d : Ports) (p : Port) → p.message.opened ≡ is_selected d.near → live (with_near_port d p).near ≡ live d.near
unfolding live
still-live d p e = ap (λ (o : Bool). d.near.active && o && not d.near.dropped) e

-- ---- a word told or taken leaves a message open, and a live one live; a release leaves none

pub told-opened : (c : Card) (memory : List ℕ) → (told c memory).card.port.message.opened ≡ c.port.message.opened
unfolding with_told
told-opened c memory = told-case (λ t. t.card.port.message.opened ≡ c.port.message.opened) c memory (λ r. refl) (λ q. refl)

pub took-opened : (c : Card) (memory : List ℕ) (word : ℕ) → (took c memory word).card.port.message.opened ≡ c.port.message.opened
unfolding taken
took-opened c memory word = took-case (λ a. a.card.port.message.opened ≡ c.port.message.opened) c memory word (λ r. refl) (λ q. refl)

pub told-live : (d : Ports) (memory : List ℕ) → live (with_near_port d (told (view d) memory).card.port).near ≡ live d.near
unfolding view
told-live d memory = still-live d _ (told-opened (view d) memory)

pub took-live : (d : Ports) (memory : List ℕ) (word : ℕ) → live (with_near_port d (took (view d) memory word).card.port).near ≡ live d.near
unfolding view
took-live d memory word = still-live d _ (took-opened (view d) memory word)

ended-empty : (c : Card) (left : ℕ) → (ended c left).port.message ≡ emptied false
unfolding noted acted
ended-empty c left = ended-case (λ e. e.port.message ≡ emptied false) c left refl (λ v. refl) (λ v. refl)

pub released-empty : (c : Card) (size left : ℕ) → release_refusal c size left ≡ refusal.none → (released c size left).card.port.message ≡ emptied false
released-empty c size left q = released-case (λ a. a.card.port.message ≡ emptied false) c size left (λ r. absurd (r q)) (λ q. ended-empty c left)

-- ---- a call that is not refused

-- on a port: the state is in range, the port is 0 or 1, and what the port sees does not refuse either
pub record Unrefused (d : Ports) (p number : ℕ) : Type 0 where
  pub ranged : out_of_range d ≡ false
  pub port : is_port p ≡ true
  pub quiet : number ≡ refusal.none

pub unrefused : (d : Ports) (p : ℕ) (size_fits : Bool) (number : ℕ) → refusal_at d p size_fits number ≡ refusal.none → Unrefused d p number
unfolding refusal_at
unrefused d p size_fits number h =
    let (ranged, h₁) = fails (out_of_range d) (omega arith) h in
    let (port, h₂) = holds (is_port p) (by-test (λ n. n ≡ refusal.none → ⊥) size_fits (λ e n. omega arith) (λ e n. omega arith)) h₁ in
    record { ranged = ranged; port = port; quiet = h₂ }

-- of the module state: neither port is selected
pub record PortsSettable (d : Ports) (state : ℕ) : Type 0 where
  pub ranged : out_of_range d ≡ false
  pub near_closed : is_selected d.near ≡ false
  pub far_closed : is_selected d.far ≡ false
  pub small : state ≤ 15

pub neither : (a b : Bool) → (a || b) ≡ false → (a ≡ false) × (b ≡ false)
neither false b h = (refl, h)
neither true b h = never h

pub ports-settable : (d : Ports) (state : ℕ) → ports_module_refusal d state ≡ refusal.none → PortsSettable d state
unfolding ports_module_refusal
ports-settable d state h =
    let (ranged, h₁) = fails (out_of_range d) (omega arith) h in
    let (closed, h₂) = fails (is_selected d.near || is_selected d.far) (omega arith) h₁ in
    let (near, far) = neither (is_selected d.near) (is_selected d.far) closed in
    let (small, h₃) = holds (leb state 15) (omega arith) h₂ in
    record { ranged = ranged; near_closed = near; far_closed = far; small = leb-true state 15 small }
