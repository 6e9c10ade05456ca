-- A damaged line part by part: its bits, and the first of its refusals.
-- Assumes nothing.
use Prim.Native.Nat.{ℕ, zero, suc, ◌+◌}
use native.Mathlib.Nat.{add-zero}
use native.Mathlib.Omega.{arith}
use mathlib.Core.Path.{◌≡◌, refl, sym, ap, ◌∙◌}
use mathlib.Core.Bool.{Bool, false}
use mathlib.Core.List.{List, [], ◌∷◌, ◌++◌, append_assoc}
use borrow.Author.Tests.{ne_eqb}
use lib.Dec.{eqb}
use lib.ListN.{length}
use Rattle.rules.specs.Refusals as refusal
use Rattle.card.specs.Whole.{listed}
use Rattle.pins.specs.AtPins.{Ran, behind}
use Rattle.pins.specs.Answers.{Clocked}
use Rattle.pins.specs.declared.Pins.{Pins}
use Rattle.crossing.specs.Crossing.{first_of}
use Rattle.crossing.specs.Steps.{bit_across, line_across, or_else}
use Rattle.crossing.specs.declared.Damage.{Damage}

-- ---- the first refusal

-- a number above 0 is a refusal's
number-none : (a : ℕ) → eqb (suc a) refusal.none ≡ false
number-none a = ne_eqb (suc a) 0 (λ e. omega arith)

pub or-else-assoc : (a b c : ℕ) → or_else (or_else a b) c ≡ or_else a (or_else b c)
unfolding or_else
or-else-assoc zero b c = refl
or-else-assoc (suc a) b c = rw (number-none a, number-none a)

pub or-else-none : (a : ℕ) → or_else a refusal.none ≡ a
unfolding or_else
or-else-none zero = refl
or-else-none (suc a) = rw (number-none a)

pub first-listed : (number : ℕ) (numbers : List ℕ) → first_of (listed number ++ numbers) ≡ or_else number (first_of numbers)
unfolding first_of listed or_else
first-listed zero numbers = refl
first-listed (suc number) numbers = rw (number-none number)

pub first-one : (number : ℕ) → first_of (listed number) ≡ number
unfolding first_of listed
first-one zero = refl
first-one (suc number) = rw (number-none number)

-- ---- a line

-- first some bits, then others
unfoldable pub joined : Ran → Ran → Ran
joined r s = record { pins = s.pins; sent = r.sent ++ s.sent; refused = r.refused ++ s.refused }

module _ (d : Damage) (memory : List ℕ) where
  pub across-on : (i : ℕ) (p : Pins) (xs ys : List Bool)
      → line_across d i p memory (xs ++ ys) ≡ joined (line_across d i p memory xs) (line_across d (i + length xs) (line_across d i p memory xs).pins memory ys)
  unfolding line_across joined
  across-on i p [] ys = ap (λ (k : ℕ). line_across d k p memory ys) (sym (add-zero i))
  across-on i p (b ∷ xs) ys =
      let first : Clocked = bit_across d i p memory b in
      let r : Ran = line_across d (suc i) first.pins memory xs in
      let s : Ran = line_across d (suc i + length xs) r.pins memory ys in
      let next : suc i + length xs ≡ i + suc (length xs) = omega arith in
      ap (behind first) (across-on (suc i) first.pins xs ys)
      ∙ ap (λ (l : List ℕ). record { pins = s.pins; sent = first.bit ∷ (r.sent ++ s.sent); refused = l }) (sym (append_assoc (listed first.refusal) r.refused s.refused))
      ∙ ap (λ (k : ℕ). joined (behind first r) (line_across d k r.pins memory ys)) next

  pub length-across : (i : ℕ) (p : Pins) (line : List Bool) → length (line_across d i p memory line).sent ≡ length line
  unfolding line_across
  length-across i p [] = refl
  length-across i p (b ∷ line) = ap suc (length-across (suc i) (bit_across d i p memory b).pins line)

  pub first-across : (i : ℕ) (p : Pins) (line : List Bool) (numbers : List ℕ)
      → first_of ((line_across d i p memory line).refused ++ numbers) ≡ or_else (first_of (line_across d i p memory line).refused) (first_of numbers)
  unfolding line_across first_of or_else
  first-across i p [] numbers = refl
  first-across i p (b ∷ line) numbers =
      let first : Clocked = bit_across d i p memory b in
      let rest : List ℕ = (line_across d (suc i) first.pins memory line).refused in
      ap first_of (append_assoc (listed first.refusal) rest numbers)
      ∙ first-listed first.refusal (rest ++ numbers)
      ∙ ap (or_else first.refusal) (first-across (suc i) first.pins line numbers)
      ∙ sym (or-else-assoc first.refusal (first_of rest) (first_of numbers))
      ∙ ap (λ (n : ℕ). or_else n (first_of numbers)) (sym (first-listed first.refusal rest))
