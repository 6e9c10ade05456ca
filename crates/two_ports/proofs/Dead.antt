-- A dead message sends 0x0000 and has no effect: nothing is taken, and its release stores nothing, leaves status bits, last token and all that the
-- ports have in common, and only ends it. Once dropped it stays so to its release, whatever is called meanwhile, even if its port is switched on.
-- Assumes nothing.
use Prim.Native.Nat.{ℕ, ◌-◌}
use mathlib.Core.Bool.{Bool, true, false, not, ◌&&◌, and-false}
use mathlib.Core.List.{List}
use mathlib.Core.Logic.{◌⊎◌, inl, inr}
use mathlib.Core.Path.{◌≡◌, refl, sym, ap, ◌∙◌, subst}
use lib.Dec.{eqb}
use Rattle.rules.specs.Refusals as refusal
use Rattle.rules.specs.Rules.{activate, deactivate}
use Rattle.rules.proofs.Cases.{by-test}
use Rattle.judge.proofs.Laws.{never}
use Rattle.card.specs.Card.{selected}
use Rattle.card.specs.Exchange.{fields}
use Rattle.card.specs.State.{emptied}
use Rattle.card.proofs.Cases.{selected-case}
use Rattle.two_ports.specs.declared.PortRecord.{PortRecord}
use Rattle.two_ports.specs.declared.Ports.{Ports}
use Rattle.two_ports.specs.State.{no_bases, is_selected, live, is_port, seen_from, with_near, view, view_from}
use Rattle.two_ports.specs.Ports.{module_ports, ports_select_refusal, selected_ports, word_near, told_ports, took_ports, switched, release_dead, ports_release_refusal, released_ports, memory_after_ports}
use Rattle.two_ports.proofs.Cases.{unrefused, told-ports-case, took-ports-case, memory-ports-case, tell-near-case, take-near-case, release-near-case, memory-near-case}
use Rattle.two_ports.proofs.Frame.{own_record, other_record, seen-twice, across, select-seen, release-seen, select-frame, tell-frame, take-frame, release-frame, Switches, module-frame}

-- ---- a dead message

module _ (d : Ports) (p : ℕ) (dead : live (own_record p d) ≡ false) where
  pub dead-tell : (memory : List ℕ) → ((told_ports d p memory).ports ≡ d) × ((told_ports d p memory).word ≡ 0)
  unfolding word_near
  dead-tell memory =
      told-ports-case (λ t. (t.ports ≡ d) × (t.word ≡ 0)) d p memory (λ r. (refl, refl))
      (λ q. (tell-near-case (λ e. seen_from p e ≡ d) (seen_from p d) memory (λ l. never (sym l ∙ dead)) (λ l. seen-twice p d), rw dead))

  pub dead-take : (memory : List ℕ) (word : ℕ) → (took_ports d p memory word).ports ≡ d
  dead-take memory word =
      took-ports-case (λ a. a.ports ≡ d) d p memory word (λ r. refl)
      (λ q. take-near-case (λ e. seen_from p e ≡ d) (seen_from p d) memory word (λ l. never (sym l ∙ dead)) (λ l. seen-twice p d))

  -- its port is no longer selected, and nothing else changes
  pub dead-release : (size left : ℕ) → ports_release_refusal d p size left ≡ refusal.none
      → seen_from p (released_ports d p size left).ports
      ≡ with_near (seen_from p d) (record {
        active = (own_record p d).active;
        dropped = false;
        held = no_bases;
        port = record { status = (own_record p d).port.status; last = (own_record p d).port.last; message = emptied false };
      })
  unfolding release_dead
  dead-release size left q =
      release-seen (λ e. e ≡ release_dead (seen_from p d)) d p size left (λ r. absurd (r q))
      (λ _. release-near-case (λ e. e ≡ release_dead (seen_from p d)) (seen_from p d) size left (λ l. never (sym l ∙ dead)) (λ l. refl))

  pub dead-release-memory : (memory : List ℕ) (left : ℕ) → memory_after_ports d p memory left ≡ memory
  dead-release-memory memory left =
      memory-ports-case (λ m. m ≡ memory) d p memory left (λ r. refl)
      (λ q. memory-near-case (λ m. m ≡ memory) (seen_from p d) memory left (λ l. never (sym l ∙ dead)) (λ l. refl))

-- ---- a dropped message, of a port that is selected: dead, whether the port is active or not

pub record Dropped (r : PortRecord) : Type 0 where
  pub selected : is_selected r ≡ true
  pub dropped : r.dropped ≡ true

pub dropped-dead : (r : PortRecord) → Dropped r → live r ≡ false
unfolding live
dropped-dead r h = ap (λ (t : Bool). r.active && is_selected r && not t) h.dropped ∙ and-false (r.active && is_selected r)

-- a port that is switched on or off keeps its status bits and its last token
pub switched-keeps : (r : PortRecord) (code : ℕ) → ((switched r code).port.status ≡ r.port.status) × ((switched r code).port.last ≡ r.port.last)
unfolding switched
switched-keeps r code =
    let P : PortRecord → Type 0 = λ s. (s.port.status ≡ r.port.status) × (s.port.last ≡ r.port.last) in
    by-test P (eqb code activate.code) (λ e. (refl, refl)) (λ e. by-test P (eqb code deactivate.code) (λ f. (refl, refl)) (λ f. (refl, refl)))

-- and ACTIVATE does not bring a dropped message back
switched-dropped : (r : PortRecord) (code : ℕ) → Dropped r → Dropped (switched r code)
unfolding switched emptied
switched-dropped r code h =
    by-test Dropped (eqb code activate.code) (λ e. record { selected = h.selected; dropped = h.dropped })
    (λ e. by-test Dropped (eqb code deactivate.code) (λ f. record { selected = h.selected; dropped = h.selected }) (λ f. h))

-- by calls of the port itself, but release
module _ (p : ℕ) (d : Ports) (h : Dropped (own_record p d)) where
  pub select-dropped : Dropped (own_record p (selected_ports d p).ports)
  unfolding ports_select_refusal view
  select-dropped = select-seen (λ e. Dropped e.near) d p (λ r. h) (λ q. absurd (closed (unrefused d p true _ q).quiet))
    where
      closed : (selected (view_from p d)).refusal ≡ refusal.none → ⊥
      closed = selected-case (λ x. x.refusal ≡ refusal.none → ⊥) (view_from p d) (λ n r q. r q) (λ r o q. never (sym h.selected ∙ o))

  pub tell-dropped : (memory : List ℕ) → Dropped (own_record p (told_ports d p memory).ports)
  tell-dropped memory = rw (dead-tell d p (dropped-dead (own_record p d) h) memory).0 h

  pub take-dropped : (memory : List ℕ) (word : ℕ) → Dropped (own_record p (took_ports d p memory word).ports)
  take-dropped memory word = rw (dead-take d p (dropped-dead (own_record p d) h) memory word) h

  -- and of the module state
  pub module-dropped : (stf : Bool) (state : ℕ) → Dropped (own_record p (module_ports d stf state).ports)
  module-dropped stf state = subst Dropped (sym (module-frame d p stf state)) h

-- by calls of the other port
module _ (p : ℕ) (port : is_port p ≡ true) (d : Ports) (h : Dropped (own_record p d)) where
  own : (e : Ports) → other_record (1 - p) e ≡ own_record p e
  own e = ap (λ (x : Ports). x.far) (across p e port)

  stays : (e : Ports) → other_record (1 - p) e ≡ other_record (1 - p) d → Dropped (own_record p e)
  stays e same = subst Dropped (sym (own d) ∙ sym same ∙ own e) h

  pub other-select-dropped : Dropped (own_record p (selected_ports d (1 - p)).ports)
  other-select-dropped = stays _ (select-frame d (1 - p))

  pub other-tell-dropped : (memory : List ℕ) → Dropped (own_record p (told_ports d (1 - p) memory).ports)
  other-tell-dropped memory = stays _ (tell-frame d (1 - p) memory)

  pub other-take-dropped : (memory : List ℕ) (word : ℕ) → Dropped (own_record p (took_ports d (1 - p) memory word).ports)
  other-take-dropped memory word = stays _ (take-frame d (1 - p) memory word)

  pub other-release-dropped : (size left : ℕ) → Dropped (own_record p (released_ports d (1 - p) size left).ports)
  other-release-dropped size left = go (release-frame d (1 - p) size left)
    where
      after : Ports
      after = (released_ports d (1 - p) size left).ports

      go : (other_record (1 - p) after ≡ other_record (1 - p) d)
          ⊎ (Switches d (1 - p) size left × (other_record (1 - p) after ≡ switched (other_record (1 - p) d) (fields (view_from (1 - p) d)).code))
          → Dropped (own_record p after)
      go (inl same) = stays after same
      go (inr (s, e)) = subst Dropped (sym e ∙ own after) (switched-dropped (other_record (1 - p) d) _ (subst Dropped (sym (own d)) h))
