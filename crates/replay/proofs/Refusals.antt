-- A refusal changes nothing: of a play, card, memory and buffer are as they were given, and no byte is written; of a record, card and memory.
-- Assumes nothing.
use Prim.Native.Nat.{ℕ, ◌/◌, ◌%◌}
use mathlib.Core.Bool.{Bool, true, false}
use mathlib.Core.List.{List}
use mathlib.Core.Path.{◌≡◌, refl}
use borrow.Author.Tests.{eqb-true, eqb-false, ne_eqb}
use lib.Dec.{eqb}
use lib.ListN.{length}
use Rattle.rules.specs.Refusals as refusal
use Rattle.rules.proofs.Cases.{by-number, refused-second}
use Rattle.card.specs.declared.Card.{Card}
use Rattle.card.specs.Card.{selected, module_set}
use Rattle.card.specs.Exchange.{exchanged}
use Rattle.card.specs.Release.{released}
use Rattle.card.proofs.Refusals.{selected-refused, module-refused, exchanged-refused, released-refused, memory-refused}
use Rattle.text.specs.Kinds as kind
use Rattle.text.specs.Lines.{Shown, line_gives}
use Rattle.text.specs.declared.Line.{Line}
use Rattle.text.specs.declared.Line.TheVariants.{Selected, Taken, Released, ModuleSet}
use Rattle.text.specs.declared.Record.{Record}
use Rattle.replay.specs.Replay.{said, on_select, on_word, on_release, module_state, on_module, replayed, replayed_memory, play_refusal, played, played_memory, played_buffer}
use Rattle.replay.specs.Answers.{Played}

pub play-refused : (c : Card) (memory bytes buffer : List ℕ) → ((played c memory bytes (length buffer)).refusal ≡ refusal.none → ⊥)
    → ((played c memory bytes (length buffer)).card ≡ c) × ((played c memory bytes (length buffer)).written ≡ 0)
    × (played_memory c memory bytes (length buffer) ≡ memory)
    × (played_buffer c memory bytes buffer ≡ buffer)
unfolding played played_memory played_buffer
play-refused c memory bytes buffer h =
    rw (refused-second (λ (a : Played). a.refusal) (eqb (play_refusal bytes (length buffer)) refusal.none) _ _ refl h) (refl, refl, refl, refl)

-- ---- one record: where its line is `E`, card and memory are as they were given

-- an operation's line, and what its refusal law says
said-refused : (number : ℕ) (c : Card) (line : Line) {A : Type 0} → (line_gives line).refusal ≡ refusal.none
    → ((number ≡ refusal.none → ⊥) → A) → ((said number c line).line.refusal ≡ refusal.none → ⊥) → A
said-refused number c line {A} none law =
    by-number (λ (s : Shown). (s.refusal ≡ refusal.none → ⊥) → A) number (λ n h. law n) (λ e h. absurd (h none))

module _ (c : Card) (memory : List ℕ) (r : Record) where
  Stays : Type 0
  Stays = ((replayed c memory r).line.refusal ≡ refusal.none → ⊥) → ((replayed c memory r).card ≡ c) × (replayed_memory c memory r ≡ memory)

  on-select : r.kind ≡ kind.select → Stays
  unfolding Stays replayed replayed_memory on_select
  on-select e = rw e (said-refused (selected c).refusal (selected c).card Selected refl (λ n. (selected-refused c n, refl)))

  on-word : r.kind ≡ kind.word → Stays
  unfolding Stays replayed replayed_memory on_word
  on-word e =
      let x = exchanged c memory r.word in
      rw e (said-refused x.refusal x.card (Taken r.word x.sent) refl (λ n. ((exchanged-refused c memory r.word n).0, refl)))

  on-release : r.kind ≡ kind.release → Stays
  unfolding Stays replayed replayed_memory on_release
  on-release e =
      let a = released c (length memory) r.value in
      rw e (said-refused a.refusal a.card (Released a.card.port.status) refl
      (λ n. (released-refused c (length memory) r.value n, memory-refused c memory r.value n)))

  on-module : r.kind ≡ kind.set_module → Stays
  unfolding Stays replayed replayed_memory on_module
  on-module e =
      let a = module_set c (eqb (r.value / 16 % 2) 1) (module_state r.value) in
      rw e (said-refused a.refusal a.card ModuleSet refl (λ n. (module-refused c _ _ n, refl)))

  on-other : (r.kind ≡ kind.select → ⊥) → (r.kind ≡ kind.word → ⊥) → (r.kind ≡ kind.release → ⊥) → (r.kind ≡ kind.set_module → ⊥) → Stays
  unfolding Stays replayed replayed_memory
  on-other s w l m = rw (ne_eqb _ _ s, ne_eqb _ _ w, ne_eqb _ _ l, ne_eqb _ _ m) (λ h. (refl, refl))

  pub replay-refused : ((replayed c memory r).line.refusal ≡ refusal.none → ⊥)
      → ((replayed c memory r).card ≡ c) × (replayed_memory c memory r ≡ memory)
  unfolding Stays
  replay-refused =
      is kind.select on-select (λ s. is kind.word on-word (λ w. is kind.release on-release (λ l. is kind.set_module on-module (on-other s w l))))
    where
      is : (k : ℕ) → (r.kind ≡ k → Stays) → ((r.kind ≡ k → ⊥) → Stays) → Stays
      is k same other = go (eqb r.kind k) refl
        where
          go : (b : Bool) → eqb r.kind k ≡ b → Stays
          go true e = same (eqb-true _ _ e)
          go false e = other (eqb-false _ _ e)
