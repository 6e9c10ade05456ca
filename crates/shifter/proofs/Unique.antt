-- Each public operation's contract leaves one answer, and one content of the shifter that it was lent.
-- Assumes nothing.
use mathlib.Core.Bool.{Bool, true, false, cond}
use mathlib.Core.Path.{◌≡◌, refl, sym, ap, ap₂, ◌∙◌}
use Prim.Native.Nat.{ℕ}
use Rattle.std.specs.Prelude.{Result, Ok, Err, IfOk, Option, Some, None}
use Rattle.rules.specs.Refusal.{refusal_of}
use Rattle.rules.specs.declared.refusal.Refusal.{Refusal}
use Rattle.rules.proofs.OneAnswer.{same-refusal, same-answer, same-value, not-none}
use Rattle.shifter.specs.Answers.{Sent, sent_with, shift_gives}
use Rattle.shifter.specs.declared.Shift.{Shift}
use Rattle.shifter.specs.declared.Shifter.{Shifter}
use Rattle.shifter.proofs.Shifter.shifted.Reads as shifted
use Rattle.shifter.proofs.Shifter.clearing.Reads as clearing
use Rattle.shifter.proofs.Shifter.left_over.Reads as left_over
use Rattle.shifter.proofs.Shifter.shift.Reads as shift
use Rattle.shifter.proofs.Shifter.clear.Reads as clear
use Rattle.shifter.proofs.Shifter.left.Reads as left

-- an answer whose value some property leaves no choice
same-by : {A : Type 0} (P : A → Type 0) (one : (x y : A) → P x → P y → x ≡ y) (r s : Result A Refusal) → refusal_of r ≡ refusal_of s
    → IfOk r P → IfOk s P → r ≡ s
same-by P one (Ok a) (Ok b) h p q = ap Ok (one a b p q)
same-by P one (Ok a) (Err b) h p q = absurd (not-none b h)
same-by P one (Err a) (Ok b) h p q = absurd (not-none a (sym h))
same-by P one (Err a) (Err b) h p q = ap Err (same-refusal a b h)

-- a bit and a word, found again from the answer that they stand for
found : Sent → Shift
found s = record { bit = s.bit; word = cond s.complete (Some s.word) None }

found-again : (b : Bool) (w : Option ℕ) → found (sent_with b w) ≡ record { bit = b; word = w }
unfolding found
found-again b (Some w) = refl
found-again b None = refl

one-sent : (x y : Shift) → shift_gives x ≡ shift_gives y → x ≡ y
one-sent x y e = sym (found-again x.bit x.word) ∙ ap found e ∙ found-again y.bit y.word

pub one-shifted : (κs : _) (a : _) (r s : _) (e f : _) → shifted.Post κs a r e → shifted.Post κs a s f → r ≡ s
one-shifted κs a r s e f p q =
    same-by _ (λ x y h k. ap₂ (λ (t : Shifter) (u : Shift). (t, u)) (h.0 ∙ sym k.0) (one-sent x.1 y.1 (h.1 ∙ sym k.1))) r s (p.0 ∙ sym q.0) p.1.0 q.1.0

pub one-clearing : (κs : _) (a : _) (r s : _) (e f : _) → clearing.Post κs a r e → clearing.Post κs a s f → r ≡ s
one-clearing κs a r s e f p q = same-value _ r s (p.0 ∙ sym q.0) p.1 q.1

pub one-left-over : (κs : _) (a : _) (r s : _) (e f : _) → left_over.Post κs a r e → left_over.Post κs a s f → r ≡ s
one-left-over κs a r s e f p q = same-value _ r s (p.0 ∙ sym q.0) p.1.0 q.1.0

pub one-shift : (κs : _) (a : _) (r s : _) (e f : _) → shift.Post κs a r e → shift.Post κs a s f → (r ≡ s) × (e.0.now ≡ f.0.now)
one-shift κs a r s e f p q = (same-by _ (λ x y h k. one-sent x y (h ∙ sym k)) r s (p.0 ∙ sym q.0) p.1.0 q.1.0, p.1.1.0 ∙ sym q.1.1.0)

pub one-clear : (κs : _) (a : _) (r s : _) (e f : _) → clear.Post κs a r e → clear.Post κs a s f → (r ≡ s) × (e.0.now ≡ f.0.now)
one-clear κs a r s e f p q = (same-answer r s (p.0 ∙ sym q.0), p.1 ∙ sym q.1)

pub one-left : (κs : _) (a : _) (r s : _) (e f : _) → left.Post κs a r e → left.Post κs a s f → r ≡ s
one-left κs a r s e f p q = same-value _ r s (p.0 ∙ sym q.0) p.1.0 q.1.0
