-- What a start and a give do to the list: it keeps its length and its sizes; a start that is not refused sets every verdict, and a give
-- that is not refused that of the card that is served alone, which has a record.
-- And which lists a start takes, and with which number it refuses the others.
-- Assumes nothing.
use Prim.Native.Nat.{ℕ, zero, suc, zero-le, suc-le-suc, ◌<◌, ◌≤◌}
use native.Mathlib.Nat.{not-suc-le-zero, le_of_suc-le-suc, zero-lt-suc}
use native.Mathlib.Omega.{arith}
use mathlib.Core.Bool.{true, false, cond, ◌&&◌, and-false, true≢false}
use mathlib.Core.List.{List, [], ◌∷◌, map, map-map}
use mathlib.Core.Logic.{◌≢◌}
use mathlib.Core.Path.{◌≡◌, refl, sym, ◌∙◌, ap, subst}
use borrow.Author.Tests.{eq-eqb, ne_eqb, le-leb, lt-leb, leb-true, ltb-true}
use lib.Dec.{eqb, leb}
use lib.ListN.{length, get_or, length-map, length-set}
use lib.Seq.{get_or-set_same, get_or-set_other, map-set_same}
use Rattle.rules.specs.Refusals as refusal
use Rattle.rules.proofs.Cases.{by-test, by-number}
use Rattle.token.proofs.Good.{both}
use Rattle.loader.specs.Loader.{smallest, largest, is_size, load_goes, load_start_refusal, load_give_refusal, load_given}
use Rattle.loader.specs.declared.Loader.{Loader}
use Rattle.loader.specs.Answers.{LoadGiven}
use Rattle.loader.proofs.StepLaws.{start-number, start-few, start-held, give-passed}
use Rattle.listed.specs.Listed.{with_verdict, sizes, no_record, list_started, records_started, list_given, records_given}
use Rattle.listed.specs.declared.CardRecord.{CardRecord}
use Rattle.listed.proofs.Sizes.{higher}

-- ---- start

module _ (records : List CardRecord) (len : ℕ) where
  pub length-started : length (records_started records len) ≡ length records
  unfolding records_started
  length-started =
      by-test (λ (l : List CardRecord). length l ≡ length records) (eqb (list_started records len).refusal refusal.none)
      (λ _. length-map records (with_verdict (list_started records len).load)) (λ _. refl)

  pub sizes-started : sizes (records_started records len) ≡ sizes records
  unfolding records_started
  sizes-started =
      by-test (λ (l : List CardRecord). sizes l ≡ sizes records) (eqb (list_started records len).refusal refusal.none)
      (λ _. map-map (λ (r : CardRecord). r.size) (with_verdict (list_started records len).load) records) (λ _. refl)

  -- every verdict is set
  pub all-started : (list_started records len).refusal ≡ refusal.none → records_started records len ≡ map (with_verdict (list_started records len).load) records
  unfolding records_started
  all-started none = rw (eq-eqb _ _ none)

  pub verdict-started : (list_started records len).refusal ≡ refusal.none → (j : ℕ) → j < length records
      → get_or (records_started records len) j no_record ≡ with_verdict (list_started records len).load (get_or records j no_record)
  verdict-started none j within =
      ap (λ (l : List CardRecord). get_or l j no_record) (all-started none) ∙ get_or-each (with_verdict (list_started records len).load) records j within
    where
      get_or-each : (f : CardRecord → CardRecord) (l : List CardRecord) (j : ℕ) → j < length l → get_or (map f l) j no_record ≡ f (get_or l j no_record)
      get_or-each f [] j within = absurd (not-suc-le-zero within)
      get_or-each f (r ∷ l) zero within = refl
      get_or-each f (r ∷ l) (suc j) within = get_or-each f l j (le_of_suc-le-suc within)

-- ---- give

module _ (records : List CardRecord) (s : Loader) (words : List ℕ) where
  abbrev served : CardRecord
  served = with_verdict (list_given records s words).load (get_or records s.card no_record)

  pub length-given : length (records_given records s words) ≡ length records
  unfolding records_given
  length-given =
      by-test (λ (l : List CardRecord). length l ≡ length records) (eqb (list_given records s words).refusal refusal.none)
      (λ _. length-set records s.card served) (λ _. refl)

  pub sizes-given : sizes (records_given records s words) ≡ sizes records
  unfolding records_given
  sizes-given =
      by-test (λ (l : List CardRecord). sizes l ≡ sizes records) (eqb (list_given records s words).refusal refusal.none)
      (λ _. map-set_same (λ (r : CardRecord). r.size) records s.card served no_record refl) (λ _. refl)

  -- the others stay
  pub others-given : (j : ℕ) → j ≢ s.card → get_or (records_given records s words) j no_record ≡ get_or records j no_record
  unfolding records_given
  others-given j other =
      by-test (λ (l : List CardRecord). get_or l j no_record ≡ get_or records j no_record) (eqb (list_given records s words).refusal refusal.none)
      (λ _. get_or-set_other records s.card j served no_record other) (λ _. refl)

  -- words that are not refused are of a card of the list
  pub has-record : (list_given records s words).refusal ≡ refusal.none → s.card < length records
  unfolding load_given load_goes
  has-record =
      by-number (λ (g : LoadGiven). g.refusal ≡ refusal.none → s.card < length records) (load_give_refusal s (length records) (length words))
      (λ refused none. absurd (refused none))
      (λ none _. let gives = give-passed s (length records) (length words) none in subst (λ (n : ℕ). s.card < n) (sym gives.cards_same) (ltb-true s.card s.cards gives.goes))

  pub verdict-given : (list_given records s words).refusal ≡ refusal.none → get_or (records_given records s words) s.card no_record ≡ served
  unfolding records_given
  verdict-given none = rw (eq-eqb _ _ none) (get_or-set_same records s.card served no_record (has-record none))

-- so a card behind the end of the list is always refused
pub no-record : (records : List CardRecord) (s : Loader) (words : List ℕ) → length records ≤ s.card → (list_given records s words).refusal ≡ refusal.none → ⊥
no-record records s words past none = omega (arith, past, has-record records s words none)

-- ---- the smallest and the largest size

pub smallest-least : (records : List CardRecord) (j : ℕ) → j < length records → smallest (sizes records) ≤ (get_or records j no_record).size
unfolding smallest
smallest-least [] j within = absurd (not-suc-le-zero within)
smallest-least (r ∷ rs) zero within = omega arith
smallest-least (r ∷ rs) (suc j) within = omega (arith, smallest-least rs j (le_of_suc-le-suc within))

pub largest-most : (records : List CardRecord) (j : ℕ) → j < length records → (get_or records j no_record).size ≤ largest (sizes records)
unfolding largest
largest-most [] j within = absurd (not-suc-le-zero within)
largest-most (r ∷ rs) zero within = omega (arith, higher r.size (largest (sizes rs)))
largest-most (r ∷ rs) (suc j) within = omega (arith, higher r.size (largest (sizes rs)), largest-most rs j (le_of_suc-le-suc within))

least-above : (b : ℕ) (records : List CardRecord) → b ≤ 4294967295 → ((j : ℕ) → j < length records → b ≤ (get_or records j no_record).size)
    → b ≤ smallest (sizes records)
unfolding smallest
least-above b [] low all = low
least-above b (r ∷ rs) low all = omega (arith, all 0 (zero-lt-suc _), least-above b rs low (λ j within. all (suc j) (suc-le-suc within)))

largest-below : (b : ℕ) (records : List CardRecord) → ((j : ℕ) → j < length records → (get_or records j no_record).size ≤ b)
    → largest (sizes records) ≤ b
unfolding largest
largest-below b [] all = zero-le
largest-below b (r ∷ rs) all =
    omega (arith, higher r.size (largest (sizes rs)), all 0 (zero-lt-suc _), largest-below b rs (λ j within. all (suc j) (suc-le-suc within)))

-- ---- which lists a start takes

-- a card as the loader takes it: its size is from 1 to 32,768, and the table has a place in it
pub record Loadable (len size : ℕ) : Type 0 where
  pub some : 1 ≤ size
  pub most : size ≤ 32768
  pub fits : len ≤ size

-- a start that is not refused: at most 32 cards, each of which is so
pub record Taken (records : List CardRecord) (len : ℕ) : Type 0 where
  pub few : length records ≤ 32
  pub each : (j : ℕ) → j < length records → Loadable len (get_or records j no_record).size

pub taken : (records : List CardRecord) (len : ℕ) → (list_started records len).refusal ≡ refusal.none → Taken records len
taken records len none =
    let passed = sym (start-number _ _ _ _) ∙ none in
    record {
      few = start-few _ _ _ _ passed;
      each = λ j within.
          let start = start-held _ _ _ _ passed (λ empty. omega (arith, within, empty)) in
          record {
            some = omega (arith, start.least_some, smallest-least records j within);
            most = omega (arith, start.greatest_most, largest-most records j within);
            fits = omega (arith, start.held, smallest-least records j within);
          };
    }

-- every size is one that a card can have
abbrev pub RightSizes : List CardRecord → Type 0
RightSizes records = (j : ℕ) → j < length records → is_size (get_or records j no_record).size ≡ true

is-size : (n : ℕ) → 1 ≤ n → n ≤ 32768 → is_size n ≡ true
is-size n some most = rw (le-leb 1 n some, le-leb n 32768 most)

size-is : (n : ℕ) → is_size n ≡ true → (1 ≤ n) × (n ≤ 32768)
size-is n right = let (some, most) = both (leb 1 n) (leb n 32768) right in (leb-true 1 n some, leb-true n 32768 most)

-- then so are the smallest and the largest of them, and the number rests on how many cards there are and on the table alone
module _ (r : CardRecord) (rs : List CardRecord) (len : ℕ) (right : RightSizes (r ∷ rs)) where
  abbrev these : List CardRecord
  these = r ∷ rs

  first : (1 ≤ r.size) × (r.size ≤ 32768)
  first = size-is r.size (right 0 (zero-lt-suc _))

  right-number : (list_started these len).refusal ≡ cond (leb (length these) 32 && leb len (smallest (sizes these))) refusal.none refusal.argument
  unfolding load_start_refusal
  right-number =
      start-number _ _ _ _ ∙
      rw (
        ne_eqb (length these) 0 (λ none. omega (arith, none)),
        is-size (smallest (sizes these)) (least-above 1 these (omega arith) (λ j within. (size-is _ (right j within)).0))
            (omega (arith, smallest-least these 0 (zero-lt-suc _), first)),
        is-size (largest (sizes these)) (omega (arith, largest-most these 0 (zero-lt-suc _), first))
            (largest-below 32768 these (λ j within. (size-is _ (right j within)).1)),
      )

pub takes : (records : List CardRecord) (len : ℕ) → Taken records len → (list_started records len).refusal ≡ refusal.none
unfolding load_start_refusal
takes [] len so = start-number _ _ _ _
takes (r ∷ rs) len so =
    let first = so.each 0 (zero-lt-suc _) in
    let small = least-above len (r ∷ rs) (omega (arith, first.fits, first.most)) (λ j within. (so.each j within).fits) in
    right-number r rs len (λ j within. is-size _ (so.each j within).some (so.each j within).most)
    ∙ rw (le-leb (length (r ∷ rs)) 32 so.few, le-leb len (smallest (sizes (r ∷ rs))) small)

-- ---- which number a refused start gives: Size exactly where a size is wrong; else Argument where there are more than 32 cards, or the
-- table is longer than one of them, and by `takes` nowhere else

pub wrong-size : (records : List CardRecord) (len j : ℕ) → j < length records → is_size (get_or records j no_record).size ≡ false
    → (list_started records len).refusal ≡ refusal.size
unfolding load_start_refusal
wrong-size records len j within wrong =
    start-number _ _ _ _ ∙
    rw (ne_eqb (length records) 0 (λ none. omega (arith, within, none)))
    (by-test (λ (n : ℕ). n ≡ refusal.size) (is_size least && is_size greatest) (λ right. absurd (true≢false (sym (is-right right) ∙ wrong))) (λ _. refl))
  where
    least : ℕ
    least = smallest (sizes records)

    greatest : ℕ
    greatest = largest (sizes records)

    is-right : (is_size least && is_size greatest) ≡ true → is_size (get_or records j no_record).size ≡ true
    is-right right =
        let (low, high) = both (is_size least) (is_size greatest) right in
        is-size (get_or records j no_record).size (omega (arith, size-is least low, smallest-least records j within)) (omega (arith, size-is greatest high, largest-most records j within))

pub right-sizes : (records : List CardRecord) (len : ℕ) → RightSizes records → (list_started records len).refusal ≡ refusal.size → ⊥
unfolding load_start_refusal
right-sizes [] len right size = omega (arith, sym (start-number _ _ _ _) ∙ size)
right-sizes (r ∷ rs) len right size =
    by-test (λ (n : ℕ). n ≡ refusal.size → ⊥) (leb (length (r ∷ rs)) 32 && leb len (smallest (sizes (r ∷ rs)))) {a = refusal.none} {b = refusal.argument}
    (λ _ e. omega (arith, e)) (λ _ e. omega (arith, e)) (sym (right-number r rs len right) ∙ size)

pub too-many : (records : List CardRecord) (len : ℕ) → RightSizes records → 32 < length records → (list_started records len).refusal ≡ refusal.argument
too-many [] len right many = absurd (not-suc-le-zero many)
too-many (r ∷ rs) len right many = right-number r rs len right ∙ rw (lt-leb (length (r ∷ rs)) 32 many)

pub too-long : (records : List CardRecord) (len j : ℕ) → RightSizes records → j < length records → (get_or records j no_record).size < len
    → (list_started records len).refusal ≡ refusal.argument
too-long [] len j right within long = absurd (not-suc-le-zero within)
too-long (r ∷ rs) len j right within long =
    right-number r rs len right
    ∙ rw (lt-leb len (smallest (sizes (r ∷ rs))) (omega (arith, smallest-least (r ∷ rs) j within, long)), and-false (leb (length (r ∷ rs)) 32))
