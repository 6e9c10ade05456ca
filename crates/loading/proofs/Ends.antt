-- The end of a stage, and the end of a card's load.
-- Assumes nothing.
use Prim.Native.Nat.{ℕ, ◌+◌, ◌*◌, ◌<◌}
use native.Mathlib.Omega.{arith}
use mathlib.Core.Path.{◌≡◌, refl, sym, ap, ◌∙◌}
use mathlib.Core.Bool.{true, false}
use mathlib.Core.Logic.{inl, inr}
use mathlib.Core.List.{List, [], ◌∷◌, ◌++◌, append-nil}
use lib.ListN.{length, drop, replicate}
use lib.Seq.{take-length}
use Rattle.judge.proofs.Laws.{never}
use Rattle.controller.specs.declared.sure.Verdict.TheVariants as verdict
use Rattle.loader.specs.Loader.{load_gives, block_words, loader, last_block, next_card, next_stage, moved, noted}
use Rattle.loader.specs.declared.Load.TheVariants.{Loaded, Stopped}
use Rattle.loader.specs.declared.Loader.{Loader}
use Rattle.delivery.specs.AnyCommand.{Course, called, with_base}
use Rattle.delivery.specs.Delivery.{Side, Kept}
use Rattle.delivery.proofs.SideLaws.{Lawful, based-start}
use Rattle.loading.specs.Loading.{Slot, verdict_at, Before, loaded_to, blocks, all_done, StoppedThere, LoadMeans, LoadPremises}
use Rattle.loading.proofs.Rounds.{Around, unit_of, Past, slot_of, settled, waits}

-- ---- the end of a stage

-- a card's side, where nothing of a stage was sent yet
abbrev pub begin : {S : Type 0} → S → List ℕ → Course S
begin x memory = record { turn = 0; side = x; memory = memory; calls = []; refused = [] }

-- a stage more is Done
abbrev pub one_more : {S : Type 0} → Past → Course S → Past
one_more past e = record { verdicts = past.verdicts ++ (verdict.Done ∷ []); calls = past.calls ++ e.calls; sent = past.sent }

module _ {S : Type 0} (o : Around S) (cards len card : ℕ) where
  pub settled-unsure : (s : Loader) (past : Past) (e : Course S) → e.turn ≡ 7 → e.refused ≡ []
      → settled o s past e
      ≡ unit_of o (next_card s) (Stopped s.place (block_words s.length s.place)) (slot_of past (past.verdicts ++ (verdict.Unsure ∷ [])) e) []
  unfolding settled moved noted verdict_at
  settled-unsure s past e t r = rw (t, r)

  pub base-done : (place : ℕ) (past : Past) (e : Course S) → e.turn ≡ 6 → e.refused ≡ []
      → settled o (loader cards len card place 0 0) past e ≡ waits o (loader cards len card place 1 0) (one_more past e) (begin e.side e.memory)
  unfolding settled moved noted next_stage verdict_at
  base-done place past e t r = rw (t, r, append-nil (past.calls ++ e.calls))

  pub block-done : (place : ℕ) (past : Past) (e : Course S) → e.turn ≡ 6 → e.refused ≡ [] → last_block (loader cards len card place 1 0) ≡ false
      → settled o (loader cards len card place 1 0) past e
      ≡ waits o (loader cards len card (place + block_words len place) 0 0) (one_more past e) (begin e.side e.memory)
  unfolding settled moved noted next_stage verdict_at
  block-done place past e t r l = rw (t, r, l, append-nil (past.calls ++ e.calls))

  pub last-done : (place : ℕ) (past : Past) (e : Course S) → e.turn ≡ 6 → e.refused ≡ [] → last_block (loader cards len card place 1 0) ≡ true
      → settled o (loader cards len card place 1 0) past e
      ≡ unit_of o (next_card (loader cards len card place 1 0)) Loaded (slot_of past (past.verdicts ++ (verdict.Done ∷ [])) e) []
  unfolding settled moved noted next_stage verdict_at
  last-done place past e t r l = rw (t, r, l)

-- ---- what the end of a card's load means

module _ {side : Side} (b : Before side.State) (table : List ℕ) (end : Slot side.State) (base : ℕ)
    (kept : Kept side.alone (with_base base (called side b.side end.calls)) (side.card end.side)) (runs : side.Runs end.side) where
  pub stopped-means : (place j : ℕ) → place ≡ 63 * j → place < length table → all_done end.verdicts ≡ false
      → StoppedThere table b.memory place (block_words (length table) place) end.verdicts end.memory
      → LoadMeans side b table (load_gives (Stopped place (block_words (length table) place))) end
  stopped-means place j e h d there = record {
    every = λ v. never (sym v);
    only = λ v. never (sym v ∙ d);
    loaded = λ v. never (sym v);
    stopped = λ v. (record { inside = h; whole = omega arith; words = refl }, there);
    ends = inr refl;
    base = base;
    kept = kept;
    runs = runs;
  }

  pub loaded-means : end.memory ≡ loaded_to table b.memory (length table) → end.verdicts ≡ replicate (2 * blocks (length table)) verdict.Done
      → LoadMeans side b table (load_gives Loaded) end
  loaded-means m s = record {
    every = λ v. s;
    only = λ v. refl;
    loaded = λ v. m ∙ ap (λ (x : List ℕ). x ++ drop (length table) b.memory) (take-length table);
    stopped = λ v. never (sym v);
    ends = inl refl;
    base = base;
    kept = kept;
    runs = runs;
  }

-- an empty table is loaded
pub nothing-loaded : {side : Side} → Lawful side → (b : Before side.State) → LoadPremises side b → (table : List ℕ) → length table ≡ 0
    → LoadMeans side b table (load_gives Loaded) (record { side = b.side; memory = b.memory; calls = []; verdicts = []; sent = 0 })
nothing-loaded {side} l b p table none =
    loaded-means b table _ (side.card b.side).bases.write_base (based-start side l p.run p.idle) p.run (rw none) (rw none)
