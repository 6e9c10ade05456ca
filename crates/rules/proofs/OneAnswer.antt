-- No two refusals have one number, and none has 0: so an answer's number leaves one answer, and one value where it is none.
use mathlib.Core.Bool.{Bool, true, false, true≢false}
use mathlib.Core.Path.{◌≡◌, refl, sym, ap, ◌∙◌}
use Prim.Native.Nat.{ℕ}
use lib.Dec.{eqb}
use Rattle.std.specs.Prelude.{Result, Ok, Err, IfOk, [], ◌∷◌, get_or}
use Rattle.rules.specs.Refusal.{number_of, refusal_of}
use Rattle.rules.specs.declared.refusal.Refusal.{Refusal}
use Rattle.rules.specs.declared.refusal.Refusal.TheVariants.{Size, State, Open, Closed, Argument, Room, Turn, Count, Record}

-- the refusal with a number; Size where none has it
pub with_number : ℕ → Refusal
with_number n = get_or (Size ∷ Size ∷ State ∷ Open ∷ Closed ∷ Argument ∷ Room ∷ Turn ∷ Count ∷ Record ∷ []) n Size

pub with-own-number : (r : Refusal) → with_number (number_of r) ≡ r
unfolding with_number
with-own-number Size = refl
with-own-number State = refl
with-own-number Open = refl
with-own-number Closed = refl
with-own-number Argument = refl
with-own-number Room = refl
with-own-number Turn = refl
with-own-number Count = refl
with-own-number Record = refl

pub same-refusal : (r s : Refusal) → number_of r ≡ number_of s → r ≡ s
same-refusal r s h = sym (with-own-number r) ∙ ap with_number h ∙ with-own-number s

pub some-number : (r : Refusal) → eqb (number_of r) 0 ≡ false
some-number Size = refl
some-number State = refl
some-number Open = refl
some-number Closed = refl
some-number Argument = refl
some-number Room = refl
some-number Turn = refl
some-number Count = refl
some-number Record = refl

pub not-none : (r : Refusal) → 0 ≡ number_of r → ⊥
not-none r h = true≢false (ap (λ n. eqb n 0) h ∙ some-number r)

-- an answer with no value
pub same-answer : (r s : Result Unit Refusal) → refusal_of r ≡ refusal_of s → r ≡ s
same-answer (Ok _) (Ok _) h = refl
same-answer (Ok _) (Err b) h = absurd (not-none b h)
same-answer (Err a) (Ok _) h = absurd (not-none a (sym h))
same-answer (Err a) (Err b) h = ap Err (same-refusal a b h)

-- an answer whose value is said
pub same-value : {A : Type 0} (v : A) (r s : Result A Refusal) → refusal_of r ≡ refusal_of s
    → IfOk r (λ x. x ≡ v) → IfOk s (λ x. x ≡ v) → r ≡ s
same-value v (Ok a) (Ok b) h p q = ap Ok (p ∙ sym q)
same-value v (Ok a) (Err b) h p q = absurd (not-none b h)
same-value v (Err a) (Ok b) h p q = absurd (not-none a (sym h))
same-value v (Err a) (Err b) h p q = ap Err (same-refusal a b h)
