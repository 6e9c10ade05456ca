-- From power-up, with the other port silent, a card with two ports is on one port the card with one port: whatever is called on it, every refusal,
-- every word told, every memory, and what the port sees are those of that card.
-- Assumes nothing.
use Prim.Native.Nat.{ℕ, ◌≤◌}
use native.Mathlib.Omega.{arith}
use mathlib.Core.Bool.{Bool, true, false, cond, not, ◌||◌, or-false}
use mathlib.Core.List.{List, [], ◌∷◌}
use mathlib.Core.Path.{◌≡◌, refl, sym, ap, ap₂, ◌∙◌, subst}
use borrow.Author.Tests.{le-ltb}
use lib.Dec.{eqb, ltb}
use lib.ListN.{length}
use Rattle.rules.specs.Refusals as refusal
use Rattle.rules.proofs.Cases.{by-test}
use Rattle.judge.proofs.Laws.{never}
use Rattle.card.specs.Card.{gives_card, powered, word_refusal}
use Rattle.card.specs.Release.{release_refusal}
use Rattle.card.specs.State as card
use Rattle.card.specs.State.{emptied, fresh, sized}
use Rattle.card.specs.declared.Card.{Card}
use Rattle.card.specs.Answers.{CardAfter}
use Rattle.card.specs.declared.Message.{Message}
use Rattle.card.specs.declared.Port.{Port}
use Rattle.card.specs.Answers.{Told}
use Rattle.card.proofs.Laws.{lent, released-lent}
use Rattle.two_ports.specs.declared.Ports.{Ports}
use Rattle.two_ports.specs.OnePort.{seen_after, OneCall, set_module, select, tell, take_word, release, Answer, gives, one_answer, port_answer, all_given, after_all}
use Rattle.two_ports.specs.State.{is_selected, live, fresh_ports, is_port, seen_from, with_near_port, view, view_from, out_of_range}
use Rattle.two_ports.specs.Ports.{gives_ports, powered_ports, module_ports, select_near, selected_ports, told_ports, took_ports, far_moved, release_live, release_dead, release_near, ports_release_refusal, released_ports}
use Rattle.two_ports.proofs.Cases.{is-live, live-is, unrefused, released-empty, powered-ports-case, module-ports-case, tell-near-case, take-near-case, release-near-case, moved-case}
use Rattle.two_ports.proofs.Frame.{own_record, seen-bases, select-seen, tell-seen, take-seen, release-seen, module-seen}
use Rattle.two_ports.proofs.Ranges.{moved-count}
use Rattle.two_ports.proofs.Alone.{select-alone, tell-alone, take-alone, release-alone, memory-alone, module-alone, out-seen}

-- ---- two sides that answer each call alike, one seeing what the other is, answer any calls alike

pub record SameAnswer {C G S T : Type 0} (f : S → C → Answer G S) (g : T → C → Answer G T)
    (sees : S → T) (I : S → Type 0) (s : S) (call : C) : Type 0 where
  pub given : (f s call).given ≡ (g (sees s) call).given
  pub seen : sees (f s call).after ≡ (g (sees s) call).after
  pub kept : I (f s call).after

pub record SameAnswers {C G S T : Type 0} (f : S → C → Answer G S) (g : T → C → Answer G T)
    (sees : S → T) (s : S) (t : T) (calls : List C) : Type 0 where
  -- all that is given back
  pub given : all_given f s calls ≡ all_given g t calls
  -- what is seen at the end
  pub seen : sees (after_all f s calls) ≡ after_all g t calls

pub all-alike : {C G S T : Type 0} (f : S → C → Answer G S) (g : T → C → Answer G T) (sees : S → T) (I : S → Type 0)
    → ((s : S) → I s → (call : C) → SameAnswer f g sees I s call)
    → (s : S) (t : T) → sees s ≡ t → I s → (calls : List C) → SameAnswers f g sees s t calls
unfolding all_given after_all
all-alike f g sees I each s t e i [] = record { given = refl; seen = e }
all-alike {C} {G} {S} {T} f g sees I each s t e i (call ∷ calls) =
    let one = each s i call in
    let rest = all-alike f g sees I each (f s call).after (g t call).after (one.seen ∙ ap (λ (x : T). (g x call).after) e) one.kept calls in
    record {
      given = ap₂ (λ (x : G) (xs : List G). x ∷ xs) (one.given ∙ ap (λ (x : T). (g x call).given) e) rest.given;
      seen = rest.seen;
    }

-- ---- one port alone: it is active, an open message is not dropped and has the bases as they stand, and the other port is not selected

pub record Alone (e : Ports) : Type 0 where
  pub active : e.near.active ≡ true
  pub opened : is_selected e.near ≡ true → (e.near.dropped ≡ false) × (e.near.held ≡ e.bases)
  pub far_closed : is_selected e.far ≡ false
  pub far_count : e.far.port.message.count ≤ 67

alone-alike : (p : ℕ) (d : Ports) → Alone (seen_from p d) → out_of_range d ≡ card.out_of_range (view_from p d)
alone-alike p d a = out-seen p d ∙ near-alike (seen_from p d) a
  where
    drops : (x m : Bool) → (x || false || m || false) ≡ (x || m)
    drops x m = or-false (x || false || m) ∙ ap (λ (y : Bool). y || m) (or-false x)

    near-alike : (e : Ports) → Alone e → out_of_range e ≡ card.out_of_range (view e)
    near-alike e a =
        unfold out_of_range card.out_of_range view in
        ap₂ (λ (f on : Bool). not (sized e.size) || ltb 67 e.near.port.message.count || f || ltb 15 e.module_state || not (on || e.far.active))
        (le-ltb 67 _ a.far_count) a.active
        ∙ drops (not (sized e.size) || ltb 67 e.near.port.message.count) (ltb 15 e.module_state)

-- an open message is live
alone-live : (e : Ports) → Alone e → is_selected e.near ≡ true → live e.near ≡ true
alone-live e a o = live-is e.near (record { active = a.active; selected = o; kept = (a.opened o).0 })

-- ---- it stays alone by each call on it

select-near-alone : (e : Ports) → Alone e → Alone (select_near e)
unfolding select_near
select-near-alone e a =
    record { active = a.active; opened = λ o. (ap not a.active, rw a.active); far_closed = a.far_closed; far_count = a.far_count }

-- another port part, where the message was live
port-alone : (e : Ports) (p : Port) → Alone e → live e.near ≡ true → Alone (with_near_port e p)
port-alone e p a l =
    record { active = a.active; opened = λ o. a.opened (is-live e.near l).selected; far_closed = a.far_closed; far_count = a.far_count }

-- ACTIVATE and DEACTIVATE do not select the other port
moved-closed : (e : Ports) (left : ℕ) → is_selected e.far ≡ false → is_selected (far_moved e left) ≡ false
unfolding emptied
moved-closed e left h = moved-case (λ r. is_selected r ≡ false) e left (λ a f. h) (λ a f. h) h

release-near-alone : (e : Ports) (size left : ℕ) → Alone e → release_refusal (view e) size left ≡ refusal.none → Alone (release_near e size left)
unfolding release_live release_dead emptied
release-near-alone e size left a q =
    release-near-case Alone e size left
    (λ l. record {
      active = a.active;
      opened = λ o. never (sym o ∙ ap (λ (m : Message). m.opened) (released-empty (view e) size left q));
      far_closed = moved-closed e left a.far_closed;
      far_count = moved-count e left a.far_count;
    })
    (λ l. record { active = a.active; opened = λ o. never (sym o); far_closed = a.far_closed; far_count = a.far_count })

module _ (p : ℕ) (d : Ports) (a : Alone (seen_from p d)) where
  module-stays-alone : (stf : Bool) (state : ℕ) → Alone (seen_from p (module_ports d stf state).ports)
  module-stays-alone stf state =
      module-ports-case (λ x. Alone (seen_from p x.ports)) d stf state (λ r. a)
      (λ q. subst Alone (sym (module-seen p d stf state))
      (record { active = a.active; opened = a.opened; far_closed = a.far_closed; far_count = a.far_count }))

  select-stays-alone : Alone (seen_from p (selected_ports d p).ports)
  select-stays-alone = select-seen Alone d p (λ r. a) (λ q. select-near-alone (seen_from p d) a)

  pub tell-stays-alone : (memory : List ℕ) → Alone (seen_from p (told_ports d p memory).ports)
  tell-stays-alone memory =
      tell-seen Alone d p memory (λ r. a) (λ q. tell-near-case Alone (seen_from p d) memory (λ l. port-alone (seen_from p d) _ a l) (λ l. a))

  pub take-stays-alone : (memory : List ℕ) (word : ℕ) → Alone (seen_from p (took_ports d p memory word).ports)
  take-stays-alone memory word =
      take-seen Alone d p memory word (λ r. a) (λ q. take-near-case Alone (seen_from p d) memory word (λ l. port-alone (seen_from p d) _ a l) (λ l. a))

  release-stays-alone : (size left : ℕ) → Alone (seen_from p (released_ports d p size left).ports)
  unfolding ports_release_refusal
  release-stays-alone size left =
      release-seen Alone d p size left (λ r. a) (λ q. release-near-alone (seen_from p d) size left a (unrefused d p _ _ q).quiet)

-- ---- a call on the port: what it gives back, and what the port sees then

abbrev pub AloneFrom : ℕ → Ports → Type 0
AloneFrom p d = Alone (seen_from p d)

abbrev pub SameCall : ℕ → Ports → OneCall → Type 0
SameCall p = SameAnswer (port_answer p) one_answer (view_from p) (AloneFrom p)

module _ (p : ℕ) (port : is_port p ≡ true) (d : Ports) (a : Alone (seen_from p d)) where
  pub alike : out_of_range d ≡ card.out_of_range (view_from p d)
  alike = alone-alike p d a

  is-open : (size : ℕ) → word_refusal (view_from p d) size ≡ refusal.none → is_selected (own_record p d) ≡ true
  unfolding view
  is-open size q = (lent (view_from p d) size q).opened

  pub alive : (size : ℕ) → word_refusal (view_from p d) size ≡ refusal.none → live (own_record p d) ≡ true
  alive size q = alone-live (seen_from p d) a (is-open size q)

  pub same-call : (call : OneCall) → SameCall p d call
  unfolding port_answer one_answer
  same-call (set_module stf state) =
      let same = module-alone p port d alike stf state a.far_closed in
      record {
        given = ap (λ (x : CardAfter). gives x.refusal 0 []) same;
        seen = ap (λ (x : CardAfter). x.card) same;
        kept = module-stays-alone p d a stf state;
      }
  same-call select =
      let same = select-alone p port d alike a.active in
      record {
        given = ap (λ (x : CardAfter). gives x.refusal 0 []) same;
        seen = ap (λ (x : CardAfter). x.card) same;
        kept = select-stays-alone p d a;
      }
  same-call (tell memory) =
      let same = tell-alone p port d alike memory (alive (length memory)) in
      record {
        given = ap (λ (x : Told). gives x.refusal x.word memory) same;
        seen = ap (λ (x : Told). x.card) same;
        kept = tell-stays-alone p d a memory;
      }
  same-call (take_word memory word) =
      let same = take-alone p port d alike memory (alive (length memory)) word in
      record {
        given = ap (λ (x : CardAfter). gives x.refusal 0 memory) same;
        seen = ap (λ (x : CardAfter). x.card) same;
        kept = take-stays-alone p d a memory word;
      }
  same-call (release memory left) =
      let lent_by : (q : release_refusal (view_from p d) (length memory) left ≡ refusal.none) → word_refusal (view_from p d) (length memory) ≡ refusal.none
      = released-lent (view_from p d) (length memory) left in
      let same = release-alone p port d alike (length memory) left
      (λ q. (alive (length memory) (lent_by q), (a.opened (is-open (length memory) (lent_by q))).1 ∙ seen-bases p d)) in
      record {
        given = ap₂ (λ (x : CardAfter) (m : List ℕ). gives x.refusal 0 m) same
            (memory-alone p port d alike memory left (λ q. alive (length memory) (lent_by q)));
        seen = ap (λ (x : CardAfter). x.card) same;
        kept = release-stays-alone p d a (length memory) left;
      }

-- ---- any calls on the port from power-up

-- every refusal, every word told, every lent memory, and what the port sees
abbrev pub SameCalls : ℕ → Ports → Card → List OneCall → Type 0
SameCalls p = SameAnswers (port_answer p) one_answer (view_from p)

-- power-up, refused or not
fresh-seen : (p size : ℕ) → view_from p (fresh_ports size) ≡ fresh size
unfolding seen_from view fresh_ports fresh emptied
fresh-seen p size = by-test (λ (e : Ports). view e ≡ fresh size) (eqb p 1) (λ t. refl) (λ t. refl)

pub power-up-alone : (p size : ℕ) → seen_after p (powered_ports size) ≡ powered size
unfolding powered_ports powered
power-up-alone p size = go (sized size)
  where
    go : (t : Bool) → seen_after p (cond t (gives_ports refusal.none (fresh_ports size)) (gives_ports refusal.size (fresh_ports 0)))
        ≡ cond t (gives_card refusal.none (fresh size)) (gives_card refusal.size (fresh 0))
    go true = ap (gives_card refusal.none) (fresh-seen p size)
    go false = ap (gives_card refusal.size) (fresh-seen p 0)

fresh-alone : (p size : ℕ) → Alone (seen_from p (fresh_ports size))
unfolding seen_from fresh_ports fresh emptied
fresh-alone p size = by-test Alone (eqb p 1) (λ t. both) (λ t. both)
  where
    both : Alone (fresh_ports size)
    both = record { active = refl; opened = λ o. never (sym o); far_closed = refl; far_count = omega arith }

pub powered-alone : (p size : ℕ) → AloneFrom p (powered_ports size).ports
powered-alone p size = powered-ports-case (λ x. AloneFrom p x.ports) size (fresh-alone p 0) (λ e. fresh-alone p size)

-- whatever size it is powered up with, and whatever is called on the port
pub one-port : (p size : ℕ) → is_port p ≡ true → (calls : List OneCall) → SameCalls p (powered_ports size).ports (powered size).card calls
one-port p size port =
    all-alike (port_answer p) one_answer (view_from p) (AloneFrom p) (same-call p port) (powered_ports size).ports (powered size).card
    (ap (λ (x : CardAfter). x.card) (power-up-alone p size)) (powered-alone p size)
