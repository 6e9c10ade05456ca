-- A property of what a test chooses, or a refusal number, holds if it holds of both choices; and which of two answers a refused one is.
-- Assumes nothing.
use Prim.Native.Nat.{ℕ}
use mathlib.Core.Bool.{Bool, true, false, cond}
use mathlib.Core.Path.{◌≡◌, refl}
use borrow.Author.Tests.{eqb-true, eqb-false}
use lib.Dec.{eqb}
use Rattle.rules.specs.Refusals as refusal

pub by-test : {A : Type 0} (P : A → Type 0) (t : Bool) {a b : A} → (t ≡ true → P a) → (t ≡ false → P b) → P (cond t a b)
by-test P true f g = f refl
by-test P false f g = g refl

pub by-number : {A : Type 0} (P : A → Type 0) (n : ℕ) {a b : A}
    → ((n ≡ refusal.none → ⊥) → P b) → (n ≡ refusal.none → P a) → P (cond (eqb n refusal.none) a b)
by-number P n refused done = by-test P (eqb n refusal.none) (λ e. done (eqb-true n refusal.none e)) (λ e. refused (eqb-false n refusal.none e))

-- a refused answer is not the one of the two whose number is None
pub refused-second : {A : Type 0} (number : A → ℕ) (test : Bool) (a b : A) → number a ≡ refusal.none
    → (number (cond test a b) ≡ refusal.none → ⊥) → test ≡ false
refused-second number true a b none h = absurd (h none)
refused-second number false a b none h = refl

pub refused-first : {A : Type 0} (number : A → ℕ) (test : Bool) (a b : A) → number b ≡ refusal.none
    → (number (cond test a b) ≡ refusal.none → ⊥) → test ≡ true
refused-first number true a b none h = refl
refused-first number false a b none h = absurd (h none)
