-- While one card is served, every other card, its memory and its record stay.
-- Assumes nothing.
use Prim.Native.Nat.{ℕ, zero, suc}
use native.Mathlib.Omega.{arith}
use mathlib.Core.Path.{◌≡◌, refl, sym, ap, ◌∙◌}
use mathlib.Core.List.{List, [], ◌∷◌, ◌++◌}
use lib.ListN.{length, take, drop, get_or}
use Rattle.rules.specs.Refusals as refusal
use Rattle.rules.proofs.Cases.{by-test, by-number}
use Rattle.loader.specs.Loader.{out_of_load, load_goes, card_now, load_ask_refusal, load_asked}
use Rattle.loader.specs.Answers.{CardNow}
use Rattle.loader.specs.Answers.{LoadAsked}
use Rattle.loader.specs.declared.Loader.{Loader}
use Rattle.listed.specs.Listed.{no_record}
use Rattle.listed.proofs.ListLaws.{length-given, others-given}
use Rattle.delivery.specs.Delivery.{Side}
use Rattle.loading.specs.Loading.{Slot, Unit, Passages, served, unit_round, OthersStay}

-- ---- lists

module _ {A : Type 0} where
  -- another one in a place leaves the rest
  other-slot : (l : List A) (i j : ℕ) (x y : A) (rest : List A) → drop i l ≡ y ∷ rest → (j ≡ i → ⊥)
      → take 1 (drop j (take i l ++ (x ∷ rest))) ≡ take 1 (drop j l)
  other-slot l zero zero x y rest e n = absurd (n refl)
  other-slot l zero (suc j) x y rest e n = rw e
  other-slot [] (suc i) j x y rest e n = let z : 0 ≡ suc (length rest) = ap length e in absurd (omega arith)
  other-slot (a ∷ l) (suc i) zero x y rest e n = refl
  other-slot (a ∷ l) (suc i) (suc j) x y rest e n = other-slot l i j x y rest e (λ c. n (ap suc c))

  -- two lists of one length with the same in a place, be it behind their end
  same-there : (d : A) (l m : List A) (j : ℕ) → length l ≡ length m → get_or l j d ≡ get_or m j d → take 1 (drop j l) ≡ take 1 (drop j m)
  same-there d [] [] j n e = refl
  same-there d [] (y ∷ m) j n e = absurd (omega arith)
  same-there d (x ∷ l) [] j n e = absurd (omega arith)
  same-there d (x ∷ l) (y ∷ m) zero n e = ap (λ (a : A). a ∷ []) e
  same-there d (x ∷ l) (y ∷ m) (suc j) n e = same-there d l m j (omega arith) e

-- ---- the number of the card

now-card : (s : Loader) → (card_now s).refusal ≡ refusal.none → (card_now s).card ≡ s.card
unfolding card_now
now-card s =
    by-test (λ (a : CardNow). a.refusal ≡ refusal.none → a.card ≡ s.card) (out_of_load s) (λ o e. absurd (omega arith))
    (λ o. by-test (λ (a : CardNow). a.refusal ≡ refusal.none → a.card ≡ s.card) (load_goes s) (λ g e. refl) (λ g e. absurd (omega arith)))

asked-card : (s : Loader) (table : List ℕ) (room : ℕ) → (load_asked s table room).state.card ≡ s.card
unfolding load_asked
asked-card s table room = by-number (λ (a : LoadAsked). a.state.card ≡ s.card) (load_ask_refusal s table room) (λ r. refl) (λ r. refl)

-- ---- one message

module _ (side : Side) (table : List ℕ) (passages : Passages) (u : Unit side.State) (j : ℕ) where
  abbrev Stays : Unit side.State → Type 0
  Stays v = (take 1 (drop j v.slots) ≡ take 1 (drop j u.slots)) × (take 1 (drop j v.records) ≡ take 1 (drop j u.records))

  served-stays : (slots : List (Slot side.State)) → drop u.state.card u.slots ≡ slots → (j ≡ u.state.card → ⊥)
      → Stays (served side table passages u u.state.card slots)
  unfolding served
  served-stays [] e n = (refl, refl)
  served-stays (slot ∷ rest) e n = (
    other-slot u.slots u.state.card j _ slot rest e n,
    same-there no_record _ u.records j (length-given u.records _ _) (others-given u.records _ _ j (λ c. n (c ∙ asked-card u.state table _))),
  )

  round-stays : (j ≡ (card_now u.state).card → ⊥) → Stays (unit_round side table passages u)
  unfolding unit_round
  round-stays n =
      by-number Stays (card_now u.state).refusal (λ r. (refl, refl))
      (λ r. rw (now-card u.state r) (served-stays (drop u.state.card u.slots) refl (λ c. n (c ∙ sym (now-card u.state r)))))

pub others-stay : (side : Side) → OthersStay side
others-stay side table passages u j n = round-stays side table passages u j n
