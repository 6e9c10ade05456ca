-- A refusal changes nothing: where a record's line is `E`, the card's state and the memory are as they were given. And where a word is told, taking it
-- is not refused.
-- Assumes nothing.
use Prim.Native.Nat.{ℕ, ◌/◌, ◌%◌}
use mathlib.Core.Bool.{Bool, true, false}
use mathlib.Core.List.{List}
use mathlib.Core.Path.{◌≡◌, refl, sym, ◌∙◌}
use borrow.Author.Tests.{eqb-true, eqb-false, ne_eqb}
use lib.Dec.{eqb}
use lib.ListN.{length}
use Rattle.rules.specs.Refusals as refusal
use Rattle.rules.proofs.Cases.{by-number}
use Rattle.card.specs.Card.{word_refusal}
use Rattle.card.specs.Exchange.{with_told}
use Rattle.card.specs.State as card
use Rattle.card.proofs.Cases.{told-case}
use Rattle.two_ports.specs.Ports.{module_ports, selected_ports, ports_word_refusal, tell_near, told_ports, took_ports, released_ports}
use Rattle.two_ports.specs.State.{with_near_port, seen_from, view}
use Rattle.two_ports.specs.declared.Ports.{Ports}
use Rattle.two_ports.proofs.Cases.{unrefused, tell-near-case}
use Rattle.two_ports.proofs.Frame.{tell-seen}
use Rattle.two_ports.proofs.Ranges.{ports-in-range, told-ports-ranged, ranged-alike}
use Rattle.two_ports.proofs.Refusals.{module-ports-refused, selected-ports-refused, told-ports-number, took-ports-number, released-ports-refused, memory-ports-refused, word-at-port}
use Rattle.text.specs.Kinds as kind
use Rattle.text.specs.Lines.{line_gives}
use Rattle.text.specs.declared.Line.{Line}
use Rattle.text.specs.declared.Line.TheVariants.{Selected, Taken, Released, ModuleSet}
use Rattle.text.specs.declared.Record.{Record}
use Rattle.replay.specs.Replay.{module_state}
use Rattle.port_replay.specs.PortReplay.{PortOutcome, said, select_at, word_at, release_at, module_on_both, port_of, operation_of, port_replayed, port_replayed_memory}

-- ---- a word told is not refused when it is taken

-- what the near port's card refuses is not changed by the note of a word
tell-near-number : (d : Ports) (memory : List ℕ) (size : ℕ) → word_refusal (view d) size ≡ refusal.none
    → word_refusal (view (tell_near d memory)) size ≡ refusal.none
unfolding view word_refusal card.out_of_range with_told
tell-near-number d memory size quiet =
    tell-near-case (λ e. word_refusal (view e) size ≡ refusal.none) d memory
    (λ l. told-case (λ t. word_refusal (view (with_near_port d t.card.port)) size ≡ refusal.none) (view d) memory (λ r. quiet) (λ q. quiet))
    (λ l. quiet)

pub take-after-tell : (d : Ports) (p : ℕ) (memory : List ℕ) (word : ℕ) → (told_ports d p memory).refusal ≡ refusal.none
    → (took_ports (told_ports d p memory).ports p memory word).refusal ≡ refusal.none
unfolding ports_word_refusal
take-after-tell d p memory word none =
    let u = unrefused d p _ _ (sym (told-ports-number d p memory) ∙ none) in
    let after = (told_ports d p memory).ports in
    let ranged = told-ports-ranged d p (ports-in-range d u.ranged) memory in
    took-ports-number after p memory word
    ∙ word-at-port p u.port after (ranged-alike p after ranged) (length memory)
    ∙ tell-seen (λ e. word_refusal (view e) (length memory) ≡ refusal.none) d p memory (λ r. u.quiet)
    (λ q. tell-near-number (seen_from p d) memory (length memory) u.quiet)

-- ---- one record

-- an operation's line, and what its refusal law says of the state
said-refused : (number : ℕ) (d after : Ports) (p : ℕ) (line : Line) {M : Type 0} → (line_gives line).refusal ≡ refusal.none
    → ((number ≡ refusal.none → ⊥) → (after ≡ d) × M)
    → ((said number after p line).line.refusal ≡ refusal.none → ⊥) → ((said number after p line).ports ≡ d) × M
said-refused number d after p line {M} none law =
    by-number (λ (o : PortOutcome). (o.line.refusal ≡ refusal.none → ⊥) → (o.ports ≡ d) × M) number (λ n h. law n) (λ e h. absurd (h none))

module _ (d : Ports) (memory : List ℕ) (r : Record) where
  Stays : Type 0
  Stays = ((port_replayed d memory r).line.refusal ≡ refusal.none → ⊥) → ((port_replayed d memory r).ports ≡ d) × (port_replayed_memory d memory r ≡ memory)

  on-select : operation_of r ≡ kind.select → Stays
  unfolding Stays port_replayed port_replayed_memory select_at
  on-select e =
      let a = selected_ports d (port_of r) in
      rw e (said-refused a.refusal d a.ports (port_of r) Selected refl (λ n. (selected-ports-refused d (port_of r) n, refl)))

  on-word : operation_of r ≡ kind.word → Stays
  unfolding Stays port_replayed port_replayed_memory word_at
  on-word e =
      let t = told_ports d (port_of r) memory in
      let a = took_ports t.ports (port_of r) memory r.word in
      rw e (by-number (λ (o : PortOutcome). (o.line.refusal ≡ refusal.none → ⊥) → (o.ports ≡ d) × (memory ≡ memory)) t.refusal (λ n h. (refl, refl))
      (λ q. said-refused a.refusal d a.ports (port_of r) (Taken r.word t.word) refl
      (λ n. absurd (n (take-after-tell d (port_of r) memory r.word q)))))

  on-release : operation_of r ≡ kind.release → Stays
  unfolding Stays port_replayed port_replayed_memory release_at
  on-release e =
      let a = released_ports d (port_of r) (length memory) r.value in
      rw e (said-refused a.refusal d a.ports (port_of r) (Released (seen_from (port_of r) a.ports).near.port.status) refl
      (λ n. (released-ports-refused d (port_of r) (length memory) r.value n, memory-ports-refused d (port_of r) memory r.value n)))

  on-module : r.kind ≡ kind.set_module → Stays
  unfolding Stays port_replayed port_replayed_memory module_on_both
  on-module e =
      let a = module_ports d (eqb (r.value / 16 % 2) 1) (module_state r.value) in
      rw e (said-refused a.refusal d a.ports 0 ModuleSet refl (λ n. (module-ports-refused d _ _ n, refl)))

  on-other : (operation_of r ≡ kind.select → ⊥) → (operation_of r ≡ kind.word → ⊥) → (operation_of r ≡ kind.release → ⊥) → (r.kind ≡ kind.set_module → ⊥) → Stays
  unfolding Stays port_replayed port_replayed_memory
  on-other s w l m = rw (ne_eqb _ _ s, ne_eqb _ _ w, ne_eqb _ _ l, ne_eqb _ _ m) (λ h. (refl, refl))

  pub replay-refused : ((port_replayed d memory r).line.refusal ≡ refusal.none → ⊥)
      → ((port_replayed d memory r).ports ≡ d) × (port_replayed_memory d memory r ≡ memory)
  unfolding Stays
  replay-refused =
      is (operation_of r) kind.select on-select
      (λ s. is (operation_of r) kind.word on-word
      (λ w. is (operation_of r) kind.release on-release
      (λ l. is r.kind kind.set_module on-module (on-other s w l))))
    where
      is : (n k : ℕ) → (n ≡ k → Stays) → ((n ≡ k → ⊥) → Stays) → Stays
      is n k same other = go (eqb n k) refl
        where
          go : (b : Bool) → eqb n k ≡ b → Stays
          go true e = same (eqb-true _ _ e)
          go false e = other (eqb-false _ _ e)
