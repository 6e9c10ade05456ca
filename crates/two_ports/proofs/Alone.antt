-- A port of a card with two ports is a card with one port: what it sees goes by each call on it as that card goes. A word is told and taken, and a
-- message released, where the call is refused or the message live; it is released alike where the common bases are still those of its select.
-- Assumes nothing.
use Prim.Native.Nat.{ℕ}
use mathlib.Core.Bool.{Bool, true, false, cond, not, ◌||◌, or_comm, or_assoc, or-false}
use mathlib.Core.List.{List}
use mathlib.Core.Path.{◌≡◌, refl, sym, ap, ap₂, ◌∙◌}
use lib.Dec.{eqb, leb, ltb}
use lib.ListN.{length}
use Rattle.rules.specs.Refusals as refusal
use Rattle.rules.proofs.Cases.{by-test}
use Rattle.judge.proofs.Laws.{never}
use Rattle.judge.specs.declared.Bases.{Bases}
use Rattle.token.specs.Response.{any_set}
use Rattle.card.specs.Card.{gives_card, selected, module_refusal, module_set, word_refusal}
use Rattle.card.specs.Exchange.{told, took, with_told, fields}
use Rattle.card.specs.Release.{bases_after, first32, silent, judged, acted, noted, ended, is_accepted, release_refusal, released, memory_after}
use Rattle.card.specs.State as card
use Rattle.card.specs.State.{emptied, with_message, with_port, with_module, sized}
use Rattle.card.specs.declared.Card.{Card}
use Rattle.card.specs.declared.Message.{Message}
use Rattle.card.specs.declared.Port.{Port}
use Rattle.card.specs.Answers.{Told}
use Rattle.card.proofs.Cases.{selected-case, module-case, told-case, took-case, released-case, memory-case}
use Rattle.card.proofs.Refusals.{selected-refused}
use Rattle.two_ports.specs.declared.Ports.{Ports}
use Rattle.two_ports.specs.OnePort.{seen_after, seen_told}
use Rattle.two_ports.specs.State.{no_bases, is_selected, live, is_port, seen_from, with_near_port, view, view_from, out_of_range}
use Rattle.two_ports.specs.Ports.{ports_module_refusal, with_ports_module, module_ports, ports_select_refusal, select_near, selected_ports, ports_word_refusal, tell_near, word_near, told_ports, take_near, took_ports, bases_moved, release_live, release_near, ports_release_refusal, released_ports, memory_after_ports}
use Rattle.two_ports.proofs.Cases.{is-live, told-opened, took-opened, released-empty, module-ports-case, selected-ports-case, told-ports-case, took-ports-case, released-ports-case, memory-ports-case, tell-near-case, take-near-case, release-near-case, memory-near-case}
use Rattle.two_ports.proofs.Frame.{own_record, other_record, seen-twice, seen-bases, module-seen}
use Rattle.two_ports.proofs.Refusals.{select-at-port, word-at-port, release-at-port}

-- ---- the near port: what it sees after a call that is not refused

pub view-selects : (d : Ports) → d.near.active ≡ true → (selected (view d)).refusal ≡ refusal.none
    → gives_card refusal.none (view (select_near d)) ≡ selected (view d)
view-selects d a =
    selected-case (λ x. x.refusal ≡ refusal.none → gives_card refusal.none (view (select_near d)) ≡ x) (view d) (λ n r q. absurd (r q))
    (λ r o q. opens o)
  where
    opens : (view d).port.message.opened ≡ false
        → gives_card refusal.none (view (select_near d)) ≡ gives_card refusal.none (with_message (view d) (emptied true))
    opens o = unfold view select_near emptied in rw (o, a)

-- the near port with another port part, whose message is open alike
view-port : (d : Ports) (p : Port) → p.message.opened ≡ is_selected d.near → view (with_near_port d p) ≡ with_port (view d) p
unfolding view
view-port d p e = rw e

pub view-tells : (d : Ports) (memory : List ℕ) → live d.near ≡ true → view (tell_near d memory) ≡ (told (view d) memory).card
unfolding view with_told
view-tells d memory l =
    tell-near-case (λ e. view e ≡ (told (view d) memory).card) d memory
    (λ l. view-port d _ (told-opened (view d) memory)
    ∙ told-case (λ t. with_port (view d) t.card.port ≡ t.card) (view d) memory (λ r. refl) (λ q. refl))
    (λ f. never (sym l ∙ f))

word-told : (d : Ports) (memory : List ℕ) → live d.near ≡ true → word_near d memory ≡ (told (view d) memory).word
unfolding word_near
word-told d memory l = rw l

pub view-takes : (d : Ports) (memory : List ℕ) (word : ℕ) → live d.near ≡ true → view (take_near d memory word) ≡ (took (view d) memory word).card
unfolding view
view-takes d memory word l =
    take-near-case (λ e. view e ≡ (took (view d) memory word).card) d memory word
    (λ l. view-port d _ (took-opened (view d) memory word)
    ∙ took-case (λ a. with_port (view d) a.card.port ≡ a.card) (view d) memory word (λ r. refl) (λ q. refl))
    (λ f. never (sym l ∙ f))

-- what a release leaves of a card: its time and its port are other ones, and its bases where the message was accepted
abbrev ended_as : Card → Bases → Card → Card
ended_as c b x = record {
  size = c.size;
  time = x.time;
  bases = b;
  stf = c.stf;
  module_state = c.module_state;
  port = x.port;
}

abbrev bases_of_ended : Card → ℕ → Bases → Bases
bases_of_ended c left b = cond (is_accepted c left) (bases_after b (fields c).code (first32 c)) b

ended-parts : (c : Card) (left : ℕ) → ended_as c (bases_of_ended c left c.bases) (ended c left) ≡ ended c left
unfolding ended noted acted is_accepted
ended-parts c left = go (silent c left) refl (any_set (judged c left)) refl
  where
    go : (s : Bool) → silent c left ≡ s → (v : Bool) → any_set (judged c left) ≡ v
        → ended_as c (bases_of_ended c left c.bases) (ended c left) ≡ ended c left
    go true es v ev = rw es
    go false es true ev = rw (es, ev)
    go false es false ev = rw (es, ev)

-- while it is selected, the bases are those of its select
pub live-bases : (d : Ports) → is_selected d.near ≡ true → (view d).bases ≡ d.near.held
unfolding view
live-bases d o = ap (λ (t : Bool). cond t d.near.held d.bases) o

live-view : (d : Ports) (size left : ℕ) → release_refusal (view d) size left ≡ refusal.none
    → view (release_live d size left) ≡ ended_as (view d) (bases_of_ended (view d) left d.bases) (released (view d) size left).card
unfolding view release_live bases_moved emptied
live-view d size left q =
    ap (λ (m : Message). ended_as (view d) (cond m.opened no_bases (bases_moved d left)) (released (view d) size left).card)
    (released-empty (view d) size left q)

released-quiet : (c : Card) (size left : ℕ) → release_refusal c size left ≡ refusal.none → (released c size left).card ≡ ended c left
released-quiet c size left q = released-case (λ a. a.card ≡ ended c left) c size left (λ r. absurd (r q)) (λ q. refl)

-- where the common bases are still those of its select
pub view-releases : (d : Ports) (size left : ℕ) → live d.near ≡ true → release_refusal (view d) size left ≡ refusal.none → d.near.held ≡ d.bases
    → view (release_near d size left) ≡ (released (view d) size left).card
view-releases d size left l q h =
    release-near-case (λ e. view e ≡ (released (view d) size left).card) d size left
    (λ l. live-view d size left q
    ∙ ap₂ (λ (b : Bases) (x : Card). ended_as (view d) (bases_of_ended (view d) left b) x)
    (sym (live-bases d (is-live d.near l).selected ∙ h)) (released-quiet (view d) size left q)
    ∙ ended-parts (view d) left
    ∙ sym (released-quiet (view d) size left q))
    (λ f. never (sym l ∙ f))

view-module : (d : Ports) (stf : Bool) (state : ℕ) → view (with_ports_module d stf state) ≡ with_module (view d) stf state
unfolding view
view-module d stf state = refl

-- ---- what does not ask which port is near

either-seen : (p : ℕ) (d : Ports) → (is_selected d.near || is_selected d.far) ≡ (is_selected (own_record p d) || is_selected (other_record p d))
unfolding seen_from
either-seen p d =
    by-test (λ (e : Ports). (is_selected d.near || is_selected d.far) ≡ (is_selected e.near || is_selected e.far)) (eqb p 1)
    (λ t. or_comm (is_selected d.near) (is_selected d.far)) (λ t. refl)

pub out-seen : (p : ℕ) (d : Ports) → out_of_range d ≡ out_of_range (seen_from p d)
unfolding seen_from out_of_range
out-seen p d =
    by-test (λ (e : Ports). out_of_range d ≡ out_of_range e) (eqb p 1)
    (λ t. turns (not (sized d.size)) (ltb 67 d.near.port.message.count) (ltb 67 d.far.port.message.count) (ltb 15 d.module_state)
    d.near.active d.far.active)
    (λ t. refl)
  where
    turns : (s n f m a b : Bool) → (s || n || f || m || not (a || b)) ≡ (s || f || n || m || not (b || a))
    turns s n f m a b =
        ap₂ (λ (x y : Bool). x || m || not y) (or_assoc s n f ∙ ap (λ (x : Bool). s || x) (or_comm n f) ∙ sym (or_assoc s f n)) (or_comm a b)

-- ---- a port

abbrev told_as : ℕ → Card → ℕ → Told
told_as n c w = record { refusal = n; card = c; word = w }

module _ (p : ℕ) (port : is_port p ≡ true) (d : Ports) (alike : out_of_range d ≡ card.out_of_range (view_from p d)) where
  -- select, where the port is active
  pub select-alone : (own_record p d).active ≡ true → seen_after p (selected_ports d p) ≡ selected (view_from p d)
  select-alone a =
      selected-ports-case (λ x. seen_after p x ≡ selected (view_from p d)) d p
      (λ r. ap₂ gives_card number (sym (selected-refused (view_from p d) (λ n. r (number ∙ n)))))
      (λ q. ap (λ (e : Ports). gives_card refusal.none (view e)) (seen-twice p (select_near (seen_from p d)))
      ∙ view-selects (seen_from p d) a (sym number ∙ q))
    where
      number : ports_select_refusal d p ≡ (selected (view_from p d)).refusal
      number = select-at-port p port d alike

  -- a word told or taken, where it is refused or the message live
  module _ (memory : List ℕ) (alive : word_refusal (view_from p d) (length memory) ≡ refusal.none → live (own_record p d) ≡ true) where
    word-number : ports_word_refusal d p (length memory) ≡ word_refusal (view_from p d) (length memory)
    word-number = word-at-port p port d alike (length memory)

    pub tell-alone : seen_told p (told_ports d p memory) ≡ told (view_from p d) memory
    tell-alone =
        told-ports-case (λ t. seen_told p t ≡ told (view_from p d) memory) d p memory
        (λ r. told-case (λ t. told_as (ports_word_refusal d p (length memory)) (view_from p d) 0 ≡ t) (view_from p d) memory
        (λ _. ap (λ (n : ℕ). told_as n (view_from p d) 0) word-number) (λ q. absurd (r (word-number ∙ q))))
        (λ q. let l = alive (sym word-number ∙ q) in
        ap₂ (told_as refusal.none) (ap view (seen-twice p (tell_near (seen_from p d) memory)) ∙ view-tells (seen_from p d) memory l)
        (word-told (seen_from p d) memory l)
        ∙ told-case (λ t. told_as refusal.none t.card t.word ≡ t) (view_from p d) memory (λ r. absurd (r (sym word-number ∙ q))) (λ _. refl))

    pub take-alone : (word : ℕ) → seen_after p (took_ports d p memory word) ≡ took (view_from p d) memory word
    take-alone word =
        took-ports-case (λ a. seen_after p a ≡ took (view_from p d) memory word) d p memory word
        (λ r. took-case (λ a. gives_card (ports_word_refusal d p (length memory)) (view_from p d) ≡ a) (view_from p d) memory word
        (λ _. ap (λ (n : ℕ). gives_card n (view_from p d)) word-number) (λ q. absurd (r (word-number ∙ q))))
        (λ q. let l = alive (sym word-number ∙ q) in
        ap (gives_card refusal.none) (ap view (seen-twice p (take_near (seen_from p d) memory word)) ∙ view-takes (seen_from p d) memory word l)
        ∙ took-case (λ a. gives_card refusal.none a.card ≡ a) (view_from p d) memory word (λ r. absurd (r (sym word-number ∙ q))) (λ _. refl))

  -- release, where it is refused, or the message live and the common bases still those of its select
  pub release-alone : (size left : ℕ)
      → (release_refusal (view_from p d) size left ≡ refusal.none → (live (own_record p d) ≡ true) × ((own_record p d).held ≡ d.bases))
      → seen_after p (released_ports d p size left) ≡ released (view_from p d) size left
  release-alone size left alive =
      released-ports-case (λ a. seen_after p a ≡ released (view_from p d) size left) d p size left
      (λ r. released-case (λ a. gives_card (ports_release_refusal d p size left) (view_from p d) ≡ a) (view_from p d) size left
      (λ _. ap (λ (n : ℕ). gives_card n (view_from p d)) number) (λ q. absurd (r (number ∙ q))))
      (λ q. let (l, h) = alive (sym number ∙ q) in
      ap (gives_card refusal.none) (ap view (seen-twice p (release_near (seen_from p d) size left))
      ∙ view-releases (seen_from p d) size left l (sym number ∙ q) (h ∙ sym (seen-bases p d)))
      ∙ released-case (λ a. gives_card refusal.none a.card ≡ a) (view_from p d) size left (λ r. absurd (r (sym number ∙ q))) (λ _. refl))
    where
      number : ports_release_refusal d p size left ≡ release_refusal (view_from p d) size left
      number = release-at-port p port d alike size left

  -- the memory goes by the bases of the select, whatever has become of the common ones
  pub memory-alone : (memory : List ℕ) (left : ℕ) → (release_refusal (view_from p d) (length memory) left ≡ refusal.none → live (own_record p d) ≡ true)
      → memory_after_ports d p memory left ≡ memory_after (view_from p d) memory left
  memory-alone memory left alive =
      memory-ports-case (λ m. m ≡ memory_after (view_from p d) memory left) d p memory left
      (λ r. memory-case (λ m. memory ≡ m) (view_from p d) memory left (λ _. refl) (λ q. absurd (r (number ∙ q))))
      (λ q. memory-near-case (λ m. m ≡ memory_after (view_from p d) memory left) (seen_from p d) memory left (λ l. refl)
      (λ f. never (sym (alive (sym number ∙ q)) ∙ f)))
    where
      number : ports_release_refusal d p (length memory) left ≡ release_refusal (view_from p d) (length memory) left
      number = release-at-port p port d alike (length memory) left

  -- the module state, where the other port is not selected
  pub module-alone : (stf : Bool) (state : ℕ) → is_selected (other_record p d) ≡ false
      → seen_after p (module_ports d stf state) ≡ module_set (view_from p d) stf state
  module-alone stf state o =
      module-ports-case (λ a. seen_after p a ≡ module_set (view_from p d) stf state) d stf state
      (λ r. module-case (λ a. gives_card (ports_module_refusal d state) (view_from p d) ≡ a) (view_from p d) stf state
      (λ _. ap (λ (n : ℕ). gives_card n (view_from p d)) number) (λ q. absurd (r (number ∙ q))))
      (λ q. ap (gives_card refusal.none) (ap view (module-seen p d stf state) ∙ view-module (seen_from p d) stf state)
      ∙ module-case (λ a. gives_card refusal.none (with_module (view_from p d) stf state) ≡ a) (view_from p d) stf state
      (λ r. absurd (r (sym number ∙ q))) (λ _. refl))
    where
      opened : (is_selected d.near || is_selected d.far) ≡ (view_from p d).port.message.opened
      opened = unfold view in either-seen p d ∙ ap (λ (x : Bool). is_selected (own_record p d) || x) o ∙ or-false (is_selected (own_record p d))

      number : ports_module_refusal d state ≡ module_refusal (view_from p d) state
      number = unfold ports_module_refusal module_refusal in
          ap₂ (λ (a b : Bool). cond a refusal.state (cond b refusal.still_open (cond (leb state 15) refusal.none refusal.argument))) alike opened
