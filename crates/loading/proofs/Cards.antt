-- The cards of a unit, one after the other. By induction over the list.
-- Assumes nothing.
use Prim.Native.Nat.{ℕ, suc, ◌+◌, ◌*◌, ◌≤◌, ◌<◌}
use native.Mathlib.Nat.{suc-mul}
use native.Mathlib.Numerals.{add-one}
use native.Mathlib.Omega.{arith}
use mathlib.Core.Path.{◌≡◌, refl, sym, ap, ◌∙◌}
use mathlib.Core.List.{List, [], ◌∷◌, ◌++◌, map}
use lib.ListN.{length, length-append}
use lib.Seq.{append_snoc}
use Rattle.bits.specs.Lines.{AreWords}
use Rattle.loader.specs.Loader.{loader, smallest}
use Rattle.loader.specs.declared.Load.{Load}
use Rattle.loader.specs.declared.Load.TheVariants.{NotYet, Loaded}
use Rattle.listed.specs.Listed.{with_verdict, sizes}
use Rattle.listed.specs.declared.CardRecord.{CardRecord}
use Rattle.delivery.specs.Delivery.{Side}
use Rattle.delivery.proofs.SideLaws.{Lawful}
use Rattle.loading.specs.Loading.{longest, Slot, Unit, Passages, Before, entries, waiting, LoadPremises, EachMeets, no_card, one_more, Each, no_slot, one_served}
use Rattle.loading.proofs.Ends.{nothing-loaded}
use Rattle.delivery.proofs.Demand3.{Demand3}
use Rattle.loading.proofs.OneCard.{Here, CardEnded, card-served}
use Rattle.loading.proofs.Reach.{Reaches, reached, to, then, within}
use Rattle.loading.proofs.Rounds.{Around, unit_of}

-- the records of some cards, and one verdict for all
abbrev pub started_with : {S : Type 0} → Load → List (Before S) → List CardRecord
started_with {S} load bs = map (with_verdict load) (entries bs)

pub started-long : {S : Type 0} (load : Load) (bs : List (Before S)) → length (started_with load bs) ≡ length bs
started-long load [] = refl
started-long load (b ∷ bs) = ap suc (started-long load bs)

module _ (side : Side) (z : Demand3 side)
    (table : List ℕ) (words : AreWords table) (some : 0 < length table) (short : length table ≤ 32768)
    (passages : Passages) (lent : (i n : ℕ) → longest (length table) ≤ length (passages i n).buffer)
    (cards : ℕ) (few : cards ≤ 32) where
  abbrev B : Type 0
  B = Before side.State

  -- the cards before have been served
  abbrev behind_them : List (Slot side.State) → List CardRecord → List B → Unit side.State
  behind_them before records bs = record {
    state = loader cards (length table) (length before) 0 0 0;
    records = records ++ started_with NotYet bs;
    slots = before ++ waiting bs;
    refused = [];
  }

  pub record AllEnded (m : ℕ) (before : List (Slot side.State)) (records : List CardRecord) (bs : List B) (u : Unit side.State) : Type 0 where
    pub ends : List (Slot side.State)
    pub told : List CardRecord
    pub each : Each side table passages (length before) bs told ends
    pub reaches : Reaches side table passages m u
        (record { state = loader cards (length table) cards 0 0 0; records = records ++ told; slots = before ++ ends; refused = [] })

  abbrev pub Rest : List B → Type 0
  Rest bs = (before : List (Slot side.State)) (records : List CardRecord) → length before + length bs ≡ cards → length records ≡ length before
      → length table ≤ smallest (sizes (entries bs))
      → AllEnded (length bs * (6 * length table)) before records bs (behind_them before records bs)

  all-within : {m k : ℕ} {before : List (Slot side.State)} {records : List CardRecord} {bs : List B} {u : Unit side.State} → m ≤ k
      → AllEnded m before records bs u → AllEnded k before records bs u
  all-within h r = record { ends = r.ends; told = r.told; each = r.each; reaches = within side table passages h r.reaches }

  rest-none : Rest []
  rest-none before records n m holds =
      let all : length before ≡ cards = omega arith in
      record {
        ends = [];
        told = [];
        each = no_slot;
        reaches = reached side table passages _ (ap (λ (k : ℕ). record { state = loader cards (length table) k 0 0 0; records = records ++ []; slots = before ++ []; refused = [] }) all);
      }

  -- six messages a word for each card
  parts : (a b : ℕ) → b + a * b ≤ suc a * b
  parts a b = rw suc-mul (omega arith)

  -- one card, and those behind it
  module _ (b : B) (bs : List B) (q : LoadPremises side b) (before : List (Slot side.State)) (records : List CardRecord)
      (n : length before + length (b ∷ bs) ≡ cards) (m : length records ≡ length before) (holds : length table ≤ (side.card b.side).size) where
    abbrev around : Around side.State
    around = record {
      number = length before;
      before = before;
      behind = waiting bs;
      records_before = records;
      records_behind = started_with NotYet bs;
      size = b.entry.size;
    }

    here : Here around cards
    here = record {
      slots_before = refl;
      records_before = m;
      counted = omega (arith, length-append records (started_with NotYet (b ∷ bs)), started-long NotYet (b ∷ bs));
    }

    served : CardEnded side z table words short passages lent around cards few here b q holds (6 * length table) (behind_them before records (b ∷ bs))
    served = card-served side z table words short passages lent around cards few here b q holds some

    abbrev end : Slot side.State
    end = served.slot

    abbrev told : CardRecord
    told = record { size = b.entry.size; verdict = served.load }

    abbrev more : List (Slot side.State)
    more = before ++ (end ∷ [])

    abbrev more_records : List CardRecord
    more_records = records ++ (told ∷ [])

    one-longer : length more ≡ length before + 1
    one-longer = length-append before (end ∷ [])

    as-long : length more_records ≡ length more
    as-long = length-append records (told ∷ []) ∙ ap (λ (k : ℕ). k + 1) m ∙ sym one-longer

    -- then the next one's turn has come
    next-begins : unit_of around (loader cards (length table) (length before + 1) 0 0 0) served.load end [] ≡ behind_them more more_records bs
    next-begins = rw (one-longer, append_snoc before end (waiting bs), append_snoc records told (started_with NotYet bs))

    -- it stands before the others
    joined : {k : ℕ} → AllEnded k more more_records bs (behind_them more more_records bs)
        → AllEnded (6 * length table + k) before records (b ∷ bs) (behind_them before records (b ∷ bs))
    joined r = record {
      ends = end ∷ r.ends;
      told = told ∷ r.told;
      each = one_served served.means refl served.undamaged (rw (one-longer, add-one) at r.each);
      reaches =
          then side table passages (to side table passages next-begins served.reaches)
          (to side table passages (rw (append_snoc before end r.ends, append_snoc records told r.told)) r.reaches);
    }

    with-rest : Rest bs → length table ≤ smallest (sizes (entries bs))
        → AllEnded (length (b ∷ bs) * (6 * length table)) before records (b ∷ bs) (behind_them before records (b ∷ bs))
    with-rest later others-hold =
        let left : length more + length bs ≡ cards = omega (arith, one-longer) in
        all-within (parts (length bs) (6 * length table)) (joined (later more more_records left as-long others-hold))

  -- the table is in every card that it is in the smallest of
  in-first : (b : B) (bs : List B) → LoadPremises side b → length table ≤ smallest (sizes (entries (b ∷ bs))) → length table ≤ (side.card b.side).size
  unfolding smallest
  in-first b bs q holds = omega (arith, q.sized)

  in-others : (b : B) (bs : List B) → length table ≤ smallest (sizes (entries (b ∷ bs))) → length table ≤ smallest (sizes (entries bs))
  unfolding smallest
  in-others b bs holds = omega arith

  rest-more : (b : B) (bs : List B) → LoadPremises side b → Rest bs → Rest (b ∷ bs)
  rest-more b bs q later before records n m holds = with-rest b bs q before records n m (in-first b bs q holds) later (in-others b bs holds)

  pub rest : {bs : List B} → EachMeets side bs → Rest bs
  rest no_card = rest-none
  rest (one_more {b = b} {bs = bs} q f) = rest-more b bs q (rest f)

-- an empty table
pub nothing-to-load : (side : Side) → Lawful side → (table : List ℕ) → length table ≡ 0 → (passages : Passages) {bs : List (Before side.State)} → EachMeets side bs
    → (i : ℕ) → Each side table passages i bs (started_with Loaded bs) (waiting bs)
nothing-to-load side l table none passages no_card i = no_slot
nothing-to-load side l table none passages (one_more {b = b} q f) i =
    one_served (nothing-loaded l b q table none) refl (λ c. refl) (nothing-to-load side l table none passages f (suc i))
