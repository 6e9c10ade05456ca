-- The load of one card of a unit, whatever befalls its messages. By induction over the blocks.
-- Assumes nothing.
use Prim.Native.Nat.{ℕ, zero, suc, ◌+◌, ◌*◌, ◌/◌, ◌≤◌, ◌<◌}
use native.Mathlib.Omega.{arith}
use mathlib.Core.Path.{◌≡◌, refl, sym, ap, ap₂, ◌∙◌}
use mathlib.Core.Bool.{Bool, true, false}
use mathlib.Core.Logic.{◌⊎◌, inl, inr, ⊎_elim}
use mathlib.Core.List.{List, [], ◌∷◌, ◌++◌}
use borrow.Author.Tests.{leb-true, leb-false, eqb-true}
use lib.Dec.{lit≤}
use lib.ListN.{length, replicate, length-append}
use Rattle.bits.specs.Buffers.{written}
use Rattle.bits.specs.Lines.{AreWords}
use Rattle.judge.specs.Judge.{word_place, is_even}
use Rattle.judge.specs.declared.Bases.{Bases}
use Rattle.judge.proofs.Laws.{doubled}
use Rattle.controller.specs.Base.{base_command, base_block}
use Rattle.controller.specs.Sure.{done_at}
use Rattle.controller.specs.declared.sure.Verdict.TheVariants as verdict
use Rattle.loader.specs.Loader.{load_gives, block_words, block_at, loader, base_at, stage_command, stage_block, last_block}
use Rattle.loader.specs.declared.Load.{Load}
use Rattle.loader.specs.declared.Load.TheVariants.{NotYet, Loaded, Stopped}
use Rattle.loader.specs.declared.Loader.{Loader}
use Rattle.loader.proofs.StateLaws.{Serving}
use Rattle.delivery.specs.AnyCommand.{Fates, Course, sure_command, EndsDone, called, NoDamage, with_base, BaseMeans, BaseSends}
use Rattle.delivery.specs.Delivery.{Side, Kept, target, EvenBase, Inside, BlockWritten}
use Rattle.delivery.specs.Play.{ModuleCall}
use Rattle.delivery.proofs.Judged.{write_of}
use Rattle.delivery.proofs.Kept.{kept-opened}
use Rattle.delivery.proofs.SideLaws.{Starts, called-aside, based-start, based-kept, based-based}
use Rattle.delivery.proofs.Write.{WriteSends, WriteMeans, write-means, write-undamaged}
use Rattle.loading.specs.Loading.{longest, Slot, Unit, Passages, Before, loaded_to, blocks, StoppedThere, LoadMeans, LoadPremises, CardUndamaged}
use Rattle.delivery.proofs.Demand3.{Demand3}
use Rattle.loading.proofs.Blocks.{unsure-not-all, unsure-next, done-next, block-long, block-words, loaded-long, written-next}
use Rattle.loading.proofs.Ends.{begin, one_more, settled-unsure, base-done, block-done, last-done, stopped-means, loaded-means}
use Rattle.loading.proofs.Reach.{Reaches, reached, then, within}
use Rattle.loading.proofs.Rounds.{Around, records_of, unit_of, Past, slot_of, settled, waits, sent_to, Placed, fates_from, Staged, staged}

-- ---- one card

-- the records and slots before the card, and the number of all
pub record Here {S : Type 0} (o : Around S) (cards : ℕ) : Type 0 where
  pub slots_before : length o.before ≡ o.number
  pub records_before : length o.records_before ≡ o.number
  pub counted : length (records_of o NotYet) ≡ cards

module _ (side : Side) (z : Demand3 side) (table : List ℕ) (words : AreWords table) (short : length table ≤ 32768)
    (passages : Passages) (lent : (i n : ℕ) → longest (length table) ≤ length (passages i n).buffer)
    (o : Around side.State) (cards : ℕ) (few : cards ≤ 32) (here : Here o cards)
    (b : Before side.State) (p : LoadPremises side b) (holds : length table ≤ (side.card b.side).size) where
  abbrev len : ℕ
  len = length table

  abbrev old : List ℕ
  old = b.memory

  -- the two stages at a place
  abbrev base_stage : ℕ → Loader
  base_stage place = loader cards len o.number place 0 0

  abbrev block_stage : ℕ → Loader
  block_stage place = loader cards len o.number place 1 0

  in-old : len ≤ length old
  in-old = rw p.lent holds

  listed-here : o.number < cards
  listed-here = omega (arith, here.counted, here.records_before, length-append o.records_before (record { size = o.size; verdict = NotYet } ∷ o.records_behind))

  ready : (place j stage : ℕ) → place ≡ 63 * j → place < len → stage ≤ 1 → Serving (loader cards len o.number place stage 0)
  ready place j stage e h l =
      record { cards = few; length = short; card = listed-here; place = h; whole = omega arith; stage = l; turn = lit≤ tt }

  placed : (place stage : ℕ) → Placed o (loader cards len o.number place stage 0)
  placed place stage =
      record { slots_before = here.slots_before; records_before = here.records_before; numbered = refl; counted = here.counted }

  -- the card's load ends within some messages, and the next card's turn has come
  pub record CardEnded (m : ℕ) (u : Unit side.State) : Type 0 where
    pub load : Load
    pub slot : Slot side.State
    pub means : LoadMeans side b table (load_gives load) slot
    pub undamaged : CardUndamaged passages o.number → (load_gives load).loaded ≡ true
    pub reaches : Reaches side table passages m u (unit_of o (loader cards len (o.number + 1) 0 0 0) load slot [])

  ended-later : {m k : ℕ} {u v : Unit side.State} → Reaches side table passages m u v → CardEnded k v → CardEnded (m + k) u
  ended-later r e = record { load = e.load; slot = e.slot; means = e.means; undamaged = e.undamaged; reaches = then side table passages r e.reaches }

  ended-within : {m k : ℕ} {u : Unit side.State} → m ≤ k → CardEnded m u → CardEnded k u
  ended-within h e = record { load = e.load; slot = e.slot; means = e.means; undamaged = e.undamaged; reaches = within side table passages h e.reaches }

  -- where the load stands before a base setting, and before a block
  record Goes (place j base : ℕ) (calls : List ModuleCall) (x : side.State) (memory : List ℕ) : Type 0 where
    at_block : place ≡ 63 * j
    some : place < len
    kept : Kept side.alone (with_base base (called side b.side calls)) (side.card x)
    run : side.Runs x
    memory_is : memory ≡ loaded_to table old place

  abbrev block : ℕ → List ℕ
  block place = block_at table place

  module _ {place j base : ℕ} {calls : List ModuleCall} {x : side.State} {memory : List ℕ} (g : Goes place j base calls x memory) where
    starts : Starts side b.side x
    starts = record { run = p.run; idle = p.idle; run_later = g.run }

    is-size : (side.card x).size ≡ (side.card b.side).size
    is-size = g.kept.size ∙ (called-aside side z.lawful p.run calls).size

    is-lent : length memory ≡ (side.card x).size
    is-lent = ap length g.memory_is ∙ loaded-long table old in-old place (omega (arith, g.some)) ∙ p.lent ∙ sym is-size

    base-sends : BaseSends side x memory (base_at place)
    base-sends = record { run = g.run; idle = kept-opened g.kept; lent = is-lent; fits = omega (arith, g.some, short) }

    write-sends : WriteSends side x memory 0 (block place)
    write-sends = record {
      run = g.run;
      idle = kept-opened g.kept;
      lent = is-lent;
      sub_in_range = lit≤ tt;
      short = omega (arith, block-long table place);
      words = block-words table place words;
    }

    base-even : base ≡ base_at place → EvenBase (side.card x)
    base-even r = ap (λ (y : Bases). is_even y.write_base) g.kept.bases ∙ ap is_even r ∙ (doubled place 0).1

    target-is : base ≡ base_at place → target (side.card x) 0 ≡ place
    target-is r =
        ap (λ (y : Bases). word_place y.write_base 0) g.kept.bases ∙ ap (λ (n : ℕ). word_place n 0) r ∙ (doubled place 0).0 ∙ omega arith

    block-inside : base ≡ base_at place → Inside (side.card x) 0 (block place)
    block-inside r = rw (target-is r, block-long table place, is-size) (omega (arith, g.some, holds))

    -- the block goes to its place
    block-written : (now : List ℕ) → BlockWritten (side.card x) memory 0 (block place) now → base ≡ base_at place
        → now ≡ loaded_to table old (place + block_words len place)
    block-written now (_, _, e) r =
        e ∙ ap₂ (λ (m : List ℕ) (t : ℕ). written m t (block place)) g.memory_is (target-is r) ∙ written-next table old in-old place (omega (arith, g.some))

  -- ---- stage by stage

  not-done : {A : Type 0} (turn : ℕ) → turn ≡ 7 → done_at turn ≡ true → A
  not-done turn t v = let six : turn ≡ 6 = eqb-true turn 6 v in absurd (omega arith)

  -- base or block was Unsure
  stopped-here : (place j : ℕ) → place ≡ 63 * j → place < len → (stage base : ℕ) (past : Past) (e : Course side.State) → e.turn ≡ 7 → e.refused ≡ []
      → Kept side.alone (with_base base (called side b.side (past.calls ++ e.calls))) (side.card e.side) → side.Runs e.side
      → StoppedThere table old place (block_words len place) (past.verdicts ++ (verdict.Unsure ∷ [])) e.memory
      → (CardUndamaged passages o.number → EndsDone e)
      → (m : ℕ) → CardEnded m (settled o (loader cards len o.number place stage 0) past e)
  stopped-here place j w h stage base past e t r kept run there cl m = record {
    load = Stopped place (block_words len place);
    slot = slot_of past (past.verdicts ++ (verdict.Unsure ∷ [])) e;
    means = stopped-means b table (slot_of past (past.verdicts ++ (verdict.Unsure ∷ [])) e) base kept run place j w h (unsure-not-all past.verdicts) there;
    undamaged = λ x. not-done e.turn t (cl x);
    reaches = reached side table passages m (settled-unsure o cards len o.number (loader cards len o.number place stage 0) past e t r);
  }

  -- the load from a block on, with messages for k blocks
  abbrev From : ℕ → Type 0
  From k = (place j base : ℕ) (past : Past) (x : side.State) (memory : List ℕ) → Goes place j base past.calls x memory
      → past.verdicts ≡ replicate (2 * j) verdict.Done → len ≤ place + 63 * k
      → CardEnded (6 * k) (waits o (base_stage place) past (begin x memory))

  -- after a block's messages
  module _ (k : ℕ) (later : From k) (past : Past) {place j : ℕ} {x : side.State} {memory : List ℕ} (g : Goes place j (base_at place) past.calls x memory)
      (so_far : past.verdicts ≡ replicate (2 * j + 1) verdict.Done) (enough : len ≤ place + 63 * suc k) (e : Course side.State)
      (m : WriteMeans side x memory 0 (block place) e) (cl : CardUndamaged passages o.number → EndsDone e) where
    abbrev block_end : Unit side.State
    block_end = settled o (block_stage place) past e

    block-kept : Kept side.alone (with_base (base_at place) (called side b.side (past.calls ++ e.calls))) (side.card e.side)
    block-kept = based-kept side z.lawful (starts g) (base_at place) (side.card e.side) past.calls e.calls g.kept m.kept

    block-new : BlockWritten (side.card x) memory 0 (block place) e.memory → e.memory ≡ loaded_to table old (place + block_words len place)
    block-new w = block-written g e.memory w refl

    block-unsure : e.turn ≡ 7 → (e.memory ≡ memory) ⊎ BlockWritten (side.card x) memory 0 (block place) e.memory → CardEnded (6 * k) block_end
    block-unsure t w =
        let number : 2 * j + 1 ≡ 2 * (place / 63) + 1 = omega (arith, g.at_block) in
        stopped-here place j g.at_block g.some 1 (base_at place) past e t m.unrefused block-kept m.runs
        (inr (unsure-next (2 * j + 1) _ so_far number, ⊎_elim (λ y. inl (y ∙ g.memory_is)) (λ y. inr (block-new y)) w)) cl (6 * k)

    block-last : e.turn ≡ 6 → BlockWritten (side.card x) memory 0 (block place) e.memory → last_block (block_stage place) ≡ true → CardEnded (6 * k) block_end
    unfolding last_block
    block-last t w last =
        let all : len ≤ place + block_words len place = leb-true _ _ last in
        let end : place + block_words len place ≡ len = omega (arith, g.some) in
        let number : 2 * j + 1 + 1 ≡ 2 * blocks len = omega (arith, g.at_block, g.some) in
        let slot : Slot side.State = slot_of past (past.verdicts ++ (verdict.Done ∷ [])) e in
        record {
          load = Loaded;
          slot = slot;
          means = loaded-means b table slot (base_at place) block-kept m.runs (block-new w ∙ ap (loaded_to table old) end) (done-next (2 * j + 1) _ so_far number);
          undamaged = λ y. refl;
          reaches = reached side table passages (6 * k) (last-done o cards len o.number place past e t m.unrefused last);
        }

    block-next : e.turn ≡ 6 → BlockWritten (side.card x) memory 0 (block place) e.memory → last_block (block_stage place) ≡ false → CardEnded (6 * k) block_end
    unfolding last_block
    block-next t w last =
        let more : place + block_words len place < len = leb-false _ _ last in
        let number : 2 * j + 1 + 1 ≡ 2 * suc j = omega arith in
        rw (block-done o cards len o.number place past e t m.unrefused last)
        (later (place + block_words len place) (suc j) (base_at place) (one_more past e) e.side e.memory
        (record { at_block = omega (arith, g.at_block); some = more; kept = block-kept; run = m.runs; memory_is = block-new w })
        (done-next (2 * j + 1) _ so_far number) (omega (arith, g.some)))

    block-case : CardEnded (6 * k) block_end
    block-case =
        ⊎_elim (λ v. go (last_block (block_stage place)) refl (eqb-true e.turn 6 v) (m.done v)) (λ v. block-unsure (eqb-true e.turn 7 v) (m.unsure v)) m.ends
      where
        go : (c : Bool) → last_block (block_stage place) ≡ c → e.turn ≡ 6 → BlockWritten (side.card x) memory 0 (block place) e.memory → CardEnded (6 * k) block_end
        go true l t w = block-last t w l
        go false l t w = block-next t w l

  -- the messages of the stages: a base setting, and a WRITE
  base-staged : (past : Past) {place j base : ℕ} {x : side.State} {memory : List ℕ} → Goes place j base past.calls x memory
      → Staged side table passages o (base_stage place) past 3 (waits o (base_stage place) past (begin x memory))
      (sure_command side x memory base_command (base_block (base_at place)) (fates_from passages o.number past.sent))
  unfolding stage_command stage_block
  base-staged past {place} {j} {base} {x} {memory} g =
      staged side table passages lent o (base_stage place) (ready place j 0 g.at_block g.some (lit≤ tt)) refl (placed place 0) past x memory

  block-staged : (past : Past) {place j : ℕ} {x : side.State} {memory : List ℕ} → Goes place j (base_at place) past.calls x memory
      → Staged side table passages o (block_stage place) past 3 (waits o (block_stage place) past (begin x memory))
      (sure_command side x memory (write_of (length (block place)) 0) (block place) (fates_from passages o.number past.sent))
  unfolding stage_command stage_block
  block-staged past {place} {j} {x} {memory} g =
      rw (block-long table place)
      (staged side table passages lent o (block_stage place) (ready place j 1 g.at_block g.some (lit≤ tt)) refl (placed place 1) past x memory)

  undamaged-fates : CardUndamaged passages o.number → (n : ℕ) → NoDamage (fates_from passages o.number n)
  undamaged-fates c n = record { first = c n; second = c (suc n); third = c (suc (suc n)) }

  -- after a base setting's messages
  module _ (k : ℕ) (later : From k) (past : Past) {place j base : ℕ} {x : side.State} {memory : List ℕ} (g : Goes place j base past.calls x memory)
      (so_far : past.verdicts ≡ replicate (2 * j) verdict.Done) (enough : len ≤ place + 63 * suc k) (e : Course side.State)
      (m : BaseMeans side x memory (base_at place) e) (cl : CardUndamaged passages o.number → EndsDone e) where
    abbrev base_end : Unit side.State
    base_end = settled o (base_stage place) past e

    base-stopped : (base' : ℕ) → e.turn ≡ 7 → Kept side.alone (with_base base' (called side b.side (past.calls ++ e.calls))) (side.card e.side)
        → CardEnded (3 + 6 * k) base_end
    base-stopped base' t kept =
        let number : 2 * j ≡ 2 * (place / 63) = omega (arith, g.at_block) in
        stopped-here place j g.at_block g.some 0 base' past e t m.unrefused kept m.runs
        (inl (unsure-next (2 * j) _ so_far number, m.memory_kept ∙ g.memory_is)) cl (3 + 6 * k)

    base-unsure : e.turn ≡ 7
        → Kept side.alone (called side x e.calls) (side.card e.side) ⊎ Kept side.alone (with_base (base_at place) (called side x e.calls)) (side.card e.side)
        → CardEnded (3 + 6 * k) base_end
    base-unsure t (inl y) = base-stopped base t (based-kept side z.lawful (starts g) base (side.card e.side) past.calls e.calls g.kept y)
    base-unsure t (inr y) = base-stopped (base_at place) t (based-based side z.lawful (starts g) base (base_at place) (side.card e.side) past.calls e.calls g.kept y)

    base-next : e.turn ≡ 6 → Kept side.alone (with_base (base_at place) (called side x e.calls)) (side.card e.side) → CardEnded (3 + 6 * k) base_end
    base-next t y =
        let past₁ : Past = one_more past e in
        let g₁ : Goes place j (base_at place) past₁.calls e.side e.memory
        = record {
          at_block = g.at_block;
          some = g.some;
          kept = based-based side z.lawful (starts g) base (base_at place) (side.card e.side) past.calls e.calls g.kept y;
          run = m.runs;
          memory_is = m.memory_kept ∙ g.memory_is;
        } in
        let st : Staged side table passages o (block_stage place) past₁ 3 (waits o (block_stage place) past₁ (begin e.side e.memory))
        (sure_command side e.side e.memory (write_of (length (block place)) 0) (block place) (fates_from passages o.number past₁.sent))
        = block-staged past₁ g₁ in
        let f : Fates = fates_from passages o.number past₁.sent in
        rw (base-done o cards len o.number place past e t m.unrefused)
        (ended-later st.reaches
        (block-case k later (sent_to past₁ st.count) g₁
        (done-next (2 * j) _ so_far refl) enough _
        (write-means side z.lawful z.any e.side e.memory 0 (block place) (write-sends g₁) f)
        (λ c. write-undamaged side z.lawful z.any_undamaged e.side e.memory 0 (block place) (write-sends g₁) (base-even g₁ refl) (block-inside g₁ refl) f (undamaged-fates c past₁.sent))))

    base-case : CardEnded (3 + 6 * k) base_end
    base-case = ⊎_elim (λ v. base-next (eqb-true e.turn 6 v) (m.done v)) (λ v. base-unsure (eqb-true e.turn 7 v) (m.unsure v)) m.ends

  -- by induction over the blocks
  load-none : From zero
  load-none place j base past x memory g s enough = absurd (omega (arith, g.some))

  load-more : (k : ℕ) → From k → From (suc k)
  load-more k later place j base past x memory g s enough =
      let f : Fates = fates_from passages o.number past.sent in
      let st : Staged side table passages o (base_stage place) past 3 (waits o (base_stage place) past (begin x memory))
      (sure_command side x memory base_command (base_block (base_at place)) f)
      = base-staged past g in
      ended-within (omega arith)
      (ended-later st.reaches
      (base-case k later (sent_to past st.count) g s enough _
      (z.base x memory (base_at place) (base-sends g) f)
      (λ c. z.base_undamaged x memory (base_at place) (base-sends g) f (undamaged-fates c past.sent))))

  load-from : (k : ℕ) → From k
  load-from zero = load-none
  load-from (suc k) = load-more k (load-from k)

  -- a card, from its first message on: six messages a word of the table are enough
  pub card-served : 0 < len
      → CardEnded (6 * len) (unit_of o (loader cards len o.number 0 0 0) NotYet (record { side = b.side; memory = old; calls = []; verdicts = []; sent = 0 }) [])
  card-served some =
      load-from len 0 0 (side.card b.side).bases.write_base (record { verdicts = []; calls = []; sent = 0 }) b.side old
      (record { at_block = refl; some = some; kept = based-start side z.lawful p.run p.idle; run = p.run; memory_is = refl }) refl (omega arith)
