-- The load of a table into a unit, at any side of which any command in the middle and the base setting are known.
-- Assumes nothing.
use Prim.Native.Nat.{ℕ, suc, ◌*◌, ◌≤◌, ◌<◌}
use native.Mathlib.Omega.{arith}
use mathlib.Core.Path.{◌≡◌, refl, sym, ap, ◌∙◌}
use mathlib.Core.Bool.{Bool, true, false, ◌||◌}
use mathlib.Core.List.{List, [], ◌∷◌}
use borrow.Author.Tests.{eqb-true, eqb-false}
use lib.Dec.{eqb, lit≤}
use lib.ListN.{length}
use Rattle.bits.specs.Lines.{AreWords}
use Rattle.rules.specs.Refusals as refusal
use Rattle.card.specs.Whole.{listed}
use Rattle.loader.specs.Loader.{loader, all_over, smallest, largest, load_start_refusal, load_started}
use Rattle.loader.specs.Answers.{AllOver}
use Rattle.loader.specs.declared.Load.{Load}
use Rattle.loader.specs.declared.Load.TheVariants.{NotYet, Loaded}
use Rattle.loader.specs.declared.Loader.{Loader}
use Rattle.loader.proofs.StateLaws.{neither, Over, over-in-range, over-stays}
use Rattle.loader.proofs.StepLaws.{start-number, Held, start-few, start-held}
use Rattle.listed.specs.Listed.{sizes, list_started, records_started}
use Rattle.delivery.specs.Delivery.{Side}
use Rattle.loading.specs.Loading.{longest, Unit, Passages, serve_all, Before, entries, waiting, load_unit, EachMeets, no_card, one_more, Each, no_slot, UnitMeans, Loading}
use Rattle.delivery.proofs.Demand3.{Demand3}
use Rattle.loading.proofs.Cards.{started_with, AllEnded, rest, nothing-to-load}
use Rattle.loading.proofs.Reach.{stays, ended}

-- behind the last card all is over
over-behind : (cards len : ℕ) → cards ≤ 32 → len ≤ 32768 → all_over (loader cards len cards 0 0 0) ≡ record { refusal = refusal.none; over = true }
unfolding all_over
over-behind cards len few short =
    let all : Over (loader cards len cards 0 0 0) = record { card = refl; place = refl; stage = refl; turn = refl } in
    rw (over-in-range (loader cards len cards 0 0 0) few short all, over-stays (loader cards len cards 0 0 0) all)

module _ (side : Side) (z : Demand3 side)
    (cards : List (Before side.State)) (table : List ℕ) (passages : Passages)
    (started : (list_started (entries cards) (length table)).refusal ≡ refusal.none) where
  abbrev n : ℕ
  n = length (entries cards)

  abbrev len : ℕ
  len = length table

  abbrev start_taken : load_start_refusal n (smallest (sizes (entries cards))) (largest (sizes (entries cards))) len ≡ refusal.none
  start_taken = sym (start-number n (smallest (sizes (entries cards))) (largest (sizes (entries cards))) len) ∙ started

  few : n ≤ 32
  few = start-few n (smallest (sizes (entries cards))) (largest (sizes (entries cards))) len start_taken

  -- the unit at the start
  abbrev begun : Loader → Load → Unit side.State
  begun s load = record { state = s; records = started_with load cards; slots = waiting cards; refused = [] }

  abbrev fuel : ℕ
  fuel = length cards * (6 * len)

  -- an empty table, or no card
  starts-over : (eqb len 0 || eqb n 0) ≡ true → load_unit side cards table passages ≡ begun (loader n 0 n 0 0 0) Loaded
  unfolding load_unit records_started load_started listed
  starts-over e =
      rw (start_taken, e)
      (stays side table passages _ (begun (loader n 0 n 0 0 0) Loaded) (ap (λ (a : AllOver). a.over) (over-behind n 0 few (lit≤ tt))))

  starts-going : (eqb len 0 || eqb n 0) ≡ false → load_unit side cards table passages ≡ serve_all side table passages fuel (begun (loader n len 0 0 0 0) NotYet)
  unfolding load_unit records_started load_started listed
  starts-going e = rw (start_taken, e)

  over-each : {bs : List (Before side.State)} → EachMeets side bs → (eqb len 0 || eqb (length (entries bs)) 0) ≡ true
      → Each side table passages 0 bs (started_with Loaded bs) (waiting bs)
  over-each no_card e = no_slot
  over-each (one_more {b = b} {bs = bs} q f) e = nothing-to-load side z.lawful table (go (eqb len 0) refl e) passages (one_more {b = b} {bs = bs} q f) 0
    where
      go : (c : Bool) → eqb len 0 ≡ c → (c || eqb (suc (length (entries bs))) 0) ≡ true → len ≡ 0
      go true x y = eqb-true len 0 x
      go false x y = let z : suc (length (entries bs)) ≡ 0 = eqb-true _ 0 y in absurd (omega arith)

  over-means : (eqb len 0 || eqb n 0) ≡ true → EachMeets side cards → UnitMeans side cards table passages (load_unit side cards table passages)
  over-means e meets =
      rw (starts-over e) (record { each = over-each meets e; over = over-behind n 0 few (lit≤ tt); unrefused = refl })

  -- the load goes card by card
  entries-long : {S : Type 0} (bs : List (Before S)) → length (entries bs) ≡ length bs
  entries-long [] = refl
  entries-long (b ∷ bs) = ap suc (entries-long bs)

  module _ (words : AreWords table) (lent : (i k : ℕ) → longest len ≤ length (passages i k).buffer) (meets : EachMeets side cards) (e : (eqb len 0 || eqb n 0) ≡ false) where
    both-some : (len ≡ 0 → ⊥) × (n ≡ 0 → ⊥)
    both-some = let (a, b) = neither (eqb len 0) (eqb n 0) e in (eqb-false len 0 a, eqb-false n 0 b)

    some : 0 < len
    some = omega (arith, both-some.0)

    held : Held (smallest (sizes (entries cards))) (largest (sizes (entries cards))) len
    held = start-held n (smallest (sizes (entries cards))) (largest (sizes (entries cards))) len start_taken both-some.1

    short : len ≤ 32768
    short = omega (arith, held.held, held.least_most)

    all : AllEnded side z table words some short passages lent n few (length cards * (6 * len)) [] [] cards (begun (loader n len 0 0 0 0) NotYet)
    all = rest side z table words some short passages lent n few meets [] [] (omega (arith, entries-long cards)) refl held.held

    going-means : UnitMeans side cards table passages (load_unit side cards table passages)
    going-means =
        let over : all_over (loader n len n 0 0 0) ≡ record { refusal = refusal.none; over = true } = over-behind n len few short in
        rw (starts-going e, ended side table passages all.reaches (ap (λ (a : AllOver). a.over) over) fuel (omega arith))
        (record { each = all.each; over = over; unrefused = refl })

pub loading-holds : (side : Side) → Demand3 side → Loading side
loading-holds side z cards table passages meets words started lent = go (eqb (length table) 0 || eqb (length (entries cards)) 0) refl
  where
    go : (c : Bool) → (eqb (length table) 0 || eqb (length (entries cards)) 0) ≡ c → UnitMeans side cards table passages (load_unit side cards table passages)
    go true e = over-means side z cards table passages started e meets
    go false e = going-means side z cards table passages started words lent meets e
