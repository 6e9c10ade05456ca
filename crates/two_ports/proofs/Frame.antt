-- A call on a port leaves the other port's record as it is, unless it releases an accepted ACTIVATE or DEACTIVATE; and it never switches its own
-- port. The module state leaves both records.
-- Assumes nothing.
use Prim.Native.Nat.{ℕ, zero, suc, ◌-◌}
use native.Mathlib.Omega.{arith}
use mathlib.Core.Bool.{Bool, true, false, cond}
use mathlib.Core.List.{List}
use mathlib.Core.Logic.{◌⊎◌, inl, inr}
use mathlib.Core.Path.{◌≡◌, refl, sym, ap, ◌∙◌}
use borrow.Author.Tests.{leb-true}
use lib.Dec.{eqb}
use lib.ListN.{length}
use Rattle.rules.specs.Refusals as refusal
use Rattle.rules.specs.Rules.{activate, deactivate}
use Rattle.rules.proofs.Cases.{by-test, by-number}
use Rattle.judge.proofs.Laws.{never}
use Rattle.card.specs.Exchange.{fields}
use Rattle.card.specs.Release.{is_accepted}
use Rattle.two_ports.specs.declared.PortRecord.{PortRecord}
use Rattle.two_ports.specs.declared.Ports.{Ports}
use Rattle.two_ports.specs.Answers.{PortsAfter}
use Rattle.two_ports.specs.State.{live, is_port, turned, seen_from, view_from}
use Rattle.two_ports.specs.Ports.{done_at, with_ports_module, module_ports, select_near, ports_select_refusal, selected_ports, ports_word_refusal, tell_near, told_ports, take_near, took_ports, switched, far_moved, release_live, release_dead, release_near, ports_release_refusal, released_ports}
use Rattle.two_ports.proofs.Cases.{module-ports-case, told-ports-case, tell-near-case, take-near-case, release-near-case, moved-case}

-- ---- the two turned round

-- twice is not at all
pub seen-twice : (p : ℕ) (d : Ports) → seen_from p (seen_from p d) ≡ d
unfolding seen_from
seen-twice p d = by-test (λ e. seen_from p e ≡ d) (eqb p 1) (λ t. rw t refl) (λ t. rw t refl)

-- from the other port it is the other way round
pub across : (p : ℕ) (d : Ports) → is_port p ≡ true → seen_from (1 - p) d ≡ turned (seen_from p d)
unfolding seen_from is_port
across zero d h = refl
across (suc zero) d h = refl
across (suc (suc p)) d h = absurd (omega (arith, leb-true (suc (suc p)) 1 h))

-- a property that does not ask which port is near
pub seen-has : (P : Ports → Type 0) → ((d : Ports) → P d → P (turned d)) → (p : ℕ) (d : Ports) → P d → P (seen_from p d)
unfolding seen_from
seen-has P turns p d h = by-test P (eqb p 1) (λ t. turns d h) (λ t. h)

-- the bases are common
pub seen-bases : (p : ℕ) (d : Ports) → (seen_from p d).bases ≡ d.bases
unfolding seen_from
seen-bases p d = by-test (λ (e : Ports). e.bases ≡ d.bases) (eqb p 1) (λ t. refl) (λ t. refl)

-- the record of a port, and that of the other one
abbrev pub own_record : ℕ → Ports → PortRecord
own_record p d = (seen_from p d).near

abbrev pub other_record : ℕ → Ports → PortRecord
other_record p d = (seen_from p d).far

-- ---- what a port sees after a call on it: where it is not refused, the near port's call done

module _ (P : Ports → Type 0) (d : Ports) (p : ℕ) where
  done-seen : (number : ℕ) (near : Ports)
      → ((number ≡ refusal.none → ⊥) → P (seen_from p d))
      → (number ≡ refusal.none → P near)
      → P (seen_from p (done_at number d p near).ports)
  done-seen number near refused done =
      by-number (λ (a : PortsAfter). P (seen_from p a.ports)) number refused (λ q. rw (seen-twice p near) (done q))

  pub select-seen : ((ports_select_refusal d p ≡ refusal.none → ⊥) → P (seen_from p d))
      → (ports_select_refusal d p ≡ refusal.none → P (select_near (seen_from p d)))
      → P (seen_from p (selected_ports d p).ports)
  unfolding selected_ports
  select-seen = done-seen (ports_select_refusal d p) (select_near (seen_from p d))

  pub tell-seen : (memory : List ℕ)
      → ((ports_word_refusal d p (length memory) ≡ refusal.none → ⊥) → P (seen_from p d))
      → (ports_word_refusal d p (length memory) ≡ refusal.none → P (tell_near (seen_from p d) memory))
      → P (seen_from p (told_ports d p memory).ports)
  tell-seen memory refused done =
      told-ports-case (λ t. P (seen_from p t.ports)) d p memory refused (λ q. rw (seen-twice p (tell_near (seen_from p d) memory)) (done q))

  pub take-seen : (memory : List ℕ) (word : ℕ)
      → ((ports_word_refusal d p (length memory) ≡ refusal.none → ⊥) → P (seen_from p d))
      → (ports_word_refusal d p (length memory) ≡ refusal.none → P (take_near (seen_from p d) memory word))
      → P (seen_from p (took_ports d p memory word).ports)
  unfolding took_ports
  take-seen memory word = done-seen (ports_word_refusal d p (length memory)) (take_near (seen_from p d) memory word)

  pub release-seen : (size left : ℕ)
      → ((ports_release_refusal d p size left ≡ refusal.none → ⊥) → P (seen_from p d))
      → (ports_release_refusal d p size left ≡ refusal.none → P (release_near (seen_from p d) size left))
      → P (seen_from p (released_ports d p size left).ports)
  unfolding released_ports
  release-seen size left = done-seen (ports_release_refusal d p size left) (release_near (seen_from p d) size left)

-- ---- the other port's record

pub select-frame : (d : Ports) (p : ℕ) → other_record p (selected_ports d p).ports ≡ other_record p d
unfolding select_near
select-frame d p = select-seen (λ e. e.far ≡ other_record p d) d p (λ r. refl) (λ q. refl)

pub tell-frame : (d : Ports) (p : ℕ) (memory : List ℕ) → other_record p (told_ports d p memory).ports ≡ other_record p d
tell-frame d p memory =
    tell-seen (λ e. e.far ≡ other_record p d) d p memory (λ r. refl)
    (λ q. tell-near-case (λ e. e.far ≡ other_record p d) (seen_from p d) memory (λ l. refl) (λ l. refl))

pub take-frame : (d : Ports) (p : ℕ) (memory : List ℕ) (word : ℕ) → other_record p (took_ports d p memory word).ports ≡ other_record p d
take-frame d p memory word =
    take-seen (λ e. e.far ≡ other_record p d) d p memory word (λ r. refl)
    (λ q. take-near-case (λ e. e.far ≡ other_record p d) (seen_from p d) memory word (λ l. refl) (λ l. refl))

-- a release that is not refused, of a live message that is accepted, and which is ACTIVATE or DEACTIVATE
pub record Switches (d : Ports) (p size left : ℕ) : Type 0 where
  pub quiet : ports_release_refusal d p size left ≡ refusal.none
  pub is_live : live (own_record p d) ≡ true
  pub accepts_last : is_accepted (view_from p d) left ≡ true
  pub code : ((fields (view_from p d)).code ≡ activate.code) ⊎ ((fields (view_from p d)).code ≡ deactivate.code)

-- only then it changes, and then it is switched on or off
pub release-frame : (d : Ports) (p size left : ℕ)
    → (other_record p (released_ports d p size left).ports ≡ other_record p d)
    ⊎ (Switches d p size left × (other_record p (released_ports d p size left).ports ≡ switched (other_record p d) (fields (view_from p d)).code))
unfolding release_live release_dead switched
release-frame d p size left =
    release-seen (λ e. Q e.far) d p size left (λ r. inl refl)
    (λ q. release-near-case (λ e. Q e.far) (seen_from p d) size left
    (λ l. moved-case Q (seen_from p d) left
    (λ a c. inr (record { quiet = q; is_live = l; accepts_last = a; code = inl c }, rw c refl))
    (λ a c. inr (record { quiet = q; is_live = l; accepts_last = a; code = inr c }, rw c refl))
    (inl refl))
    (λ l. inl refl))
  where
    Q : PortRecord → Type 0
    Q r = (r ≡ other_record p d) ⊎ (Switches d p size left × (r ≡ switched (other_record p d) (fields (view_from p d)).code))

pub release-switches : (d : Ports) (p size left : ℕ) → Switches d p size left
    → other_record p (released_ports d p size left).ports ≡ switched (other_record p d) (fields (view_from p d)).code
unfolding release_live release_dead far_moved
release-switches d p size left s =
    release-seen (λ e. e.far ≡ new) d p size left (λ r. absurd (r s.quiet))
    (λ q. release-near-case (λ e. e.far ≡ new) (seen_from p d) size left (λ l. rw s.accepts_last) (λ l. never (sym s.is_live ∙ l)))
  where
    new : PortRecord
    new = switched (other_record p d) (fields (view_from p d)).code

-- ---- a call on a port does not switch that port

module _ (d : Ports) (p : ℕ) where
  pub select-active : (own_record p (selected_ports d p).ports).active ≡ (own_record p d).active
  unfolding select_near
  select-active = select-seen (λ e. e.near.active ≡ (own_record p d).active) d p (λ r. refl) (λ q. refl)

  pub tell-active : (memory : List ℕ) → (own_record p (told_ports d p memory).ports).active ≡ (own_record p d).active
  tell-active memory =
      tell-seen (λ e. e.near.active ≡ (own_record p d).active) d p memory (λ r. refl)
      (λ q. tell-near-case (λ e. e.near.active ≡ (own_record p d).active) (seen_from p d) memory (λ l. refl) (λ l. refl))

  pub take-active : (memory : List ℕ) (word : ℕ) → (own_record p (took_ports d p memory word).ports).active ≡ (own_record p d).active
  take-active memory word =
      take-seen (λ e. e.near.active ≡ (own_record p d).active) d p memory word (λ r. refl)
      (λ q. take-near-case (λ e. e.near.active ≡ (own_record p d).active) (seen_from p d) memory word (λ l. refl) (λ l. refl))

  pub release-active : (size left : ℕ) → (own_record p (released_ports d p size left).ports).active ≡ (own_record p d).active
  unfolding release_live release_dead
  release-active size left =
      release-seen (λ e. e.near.active ≡ (own_record p d).active) d p size left (λ r. refl)
      (λ q. release-near-case (λ e. e.near.active ≡ (own_record p d).active) (seen_from p d) size left (λ l. refl) (λ l. refl))

-- ---- the module state leaves both

pub module-seen : (p : ℕ) (d : Ports) (stf : Bool) (state : ℕ) → seen_from p (with_ports_module d stf state) ≡ with_ports_module (seen_from p d) stf state
unfolding seen_from
module-seen p d stf state = go (eqb p 1)
  where
    go : (t : Bool) → cond t (turned (with_ports_module d stf state)) (with_ports_module d stf state) ≡ with_ports_module (cond t (turned d) d) stf state
    go true = refl
    go false = refl

pub module-frame : (d : Ports) (p : ℕ) (stf : Bool) (state : ℕ) → own_record p (module_ports d stf state).ports ≡ own_record p d
module-frame d p stf state =
    module-ports-case (λ a. own_record p a.ports ≡ own_record p d) d stf state (λ r. refl)
    (λ q. ap (λ (e : Ports). e.near) (module-seen p d stf state))
