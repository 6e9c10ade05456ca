-- A refusal changes nothing: where the number that an operation answers is not 0, card, shifter and lent memory are as they were given, and the bit given back is 0. A refused power-up gives the card's power-up state with size 0, and leaves card and shifter that the caller holds as they were.
-- Assumes nothing.
use Prim.Native.Nat.{ℕ}
use mathlib.Core.Bool.{Bool, false, cond}
use mathlib.Core.List.{List}
use mathlib.Core.Path.{◌≡◌, refl, ap}
use borrow.Author.Tests.{eq-eqb, ne_eqb}
use lib.Dec.{eqb}
use lib.ListN.{length}
use Rattle.rules.specs.Refusals as refusal
use Rattle.rules.proofs.Cases.{by-number}
use Rattle.card.specs.Card.{selected, module_set, word_refusal}
use Rattle.card.specs.Release.{released}
use Rattle.card.specs.State.{fresh}
use Rattle.card.specs.declared.Card.{Card}
use Rattle.card.specs.Answers.{CardAfter}
use Rattle.card.proofs.Cases.{powered-case}
use Rattle.card.proofs.Refusals.{powered-refused, module-refused, released-refused, memory-refused}
use Rattle.shifter.specs.Shifter.{cleared, left_over}
use Rattle.pins.specs.Pins.{pins_of, shifter_refusal, behind_shifter, answered, gives_pins, powered_pins, powered_up_pins, selected_pins, module_pins, clocked, released_pins, memory_after_pins}
use Rattle.pins.specs.Answers.{Clocked}
use Rattle.pins.specs.declared.Pins.{Pins}
use Rattle.pins.specs.Answers.{PinsAfter}

pub powered-pins-refused : (size : ℕ) → ((powered_pins size).refusal ≡ refusal.none → ⊥) → (powered_pins size).pins ≡ pins_of (fresh 0) cleared
unfolding powered_pins
powered-pins-refused size h = ap (λ (c : Card). pins_of c cleared) (powered-refused size h)

-- card and shifter before their power-up become what the power-up gives, refused or not
pub powered-up-pins-off : (size : ℕ) → powered_up_pins (pins_of (fresh 0) cleared) size ≡ powered_pins size
unfolding powered_up_pins powered_pins
powered-up-pins-off size =
    powered-case
    (λ (a : CardAfter).
    cond (eqb a.refusal refusal.none) (gives_pins refusal.none (pins_of a.card cleared)) (gives_pins a.refusal (pins_of (fresh 0) cleared))
    ≡ gives_pins a.refusal (pins_of a.card cleared))
    size refl (λ s. refl)

module _ (p : Pins) where
  pub powered-up-pins-refused : (size : ℕ) → ((powered_up_pins p size).refusal ≡ refusal.none → ⊥) → (powered_up_pins p size).pins ≡ p
  unfolding powered_up_pins
  powered-up-pins-refused size = by-number (λ (r : PinsAfter). (r.refusal ≡ refusal.none → ⊥) → r.pins ≡ p) (powered_pins size).refusal (λ _ h. refl) (λ _ h. absurd (h refl))

  -- where the card's answer keeps the card, so does the answer at the pins
  answered-refused : (a : CardAfter) → ((a.refusal ≡ refusal.none → ⊥) → a.card ≡ p.card) → ((answered p a).refusal ≡ refusal.none → ⊥) → (answered p a).pins ≡ p
  answered-refused a kept =
      by-number (λ (r : PinsAfter). (r.refusal ≡ refusal.none → ⊥) → r.pins ≡ p) (shifter_refusal p) (λ _ h. refl)
      (λ _ h. ap (λ (c : Card). pins_of c p.shifter) (kept h))

  pub selected-pins-refused : ((selected_pins p).refusal ≡ refusal.none → ⊥) → (selected_pins p).pins ≡ p
  unfolding selected_pins
  selected-pins-refused = by-number (λ (r : PinsAfter). (r.refusal ≡ refusal.none → ⊥) → r.pins ≡ p) (behind_shifter p (selected p.card).refusal) (λ _ h. refl) (λ _ h. absurd (h refl))

  pub module-pins-refused : (stf : Bool) (state : ℕ) → ((module_pins p stf state).refusal ≡ refusal.none → ⊥) → (module_pins p stf state).pins ≡ p
  unfolding module_pins
  module-pins-refused stf state = answered-refused (module_set p.card stf state) (module-refused p.card stf state)

  pub clocked-refused : (memory : List ℕ) (bit : Bool) → ((clocked p memory bit).refusal ≡ refusal.none → ⊥) → ((clocked p memory bit).pins ≡ p) × ((clocked p memory bit).bit ≡ false)
  unfolding clocked
  clocked-refused memory bit =
      by-number (λ (r : Clocked). (r.refusal ≡ refusal.none → ⊥) → (r.pins ≡ p) × (r.bit ≡ false)) (behind_shifter p (word_refusal p.card (length memory)))
      (λ _ h. (refl, refl)) (λ _ h. absurd (h refl))

  pub released-pins-refused : (size : ℕ) → ((released_pins p size).refusal ≡ refusal.none → ⊥) → (released_pins p size).pins ≡ p
  unfolding released_pins
  released-pins-refused size = answered-refused (released p.card size (left_over p.shifter).bits) (released-refused p.card size (left_over p.shifter).bits)

  pub memory-pins-refused : (memory : List ℕ) → ((released_pins p (length memory)).refusal ≡ refusal.none → ⊥) → memory_after_pins p memory ≡ memory
  unfolding released_pins memory_after_pins
  memory-pins-refused memory =
      let left : ℕ = (left_over p.shifter).bits in
      by-number (λ (r : PinsAfter). (r.refusal ≡ refusal.none → ⊥) → memory_after_pins p memory ≡ memory) (shifter_refusal p)
      (λ n h. rw (ne_eqb (shifter_refusal p) refusal.none n))
      (λ e h. rw (eq-eqb (shifter_refusal p) refusal.none e) (memory-refused p.card memory left h))
