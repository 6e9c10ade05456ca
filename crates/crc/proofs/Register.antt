-- Laws of the check register, for every polynomial: it is linear, takes in whole runs of bits at once, and can be resumed.
-- Assumes nothing.
use Prim.Native.Nat.{ℕ, zero, suc, ◌%◌, ◌^◌, ◌≤◌, ◌<◌}
use native.Mathlib.Nat.{zero-div, zero-mod, mod-eq_of_lt}
use native.Mathlib.Omega.{arith}
use mathlib.Core.Path.{◌≡◌, refl, sym, ap, ap₂, ◌∙◌}
use mathlib.Core.Bool.{Bool, true, false, ◌&&◌}
use mathlib.Core.List.{List, [], ◌∷◌, ◌++◌}
use lib.Dec.{eqb}
use lib.ListN.{length, replicate}
use Rattle.bits.specs.Bits.{bits, number, flip}
use Rattle.crc.specs.Crc.{shift, step, feed, crc}
use Rattle.bits.proofs.Digits.{flips, length-bits, bits-number, number-bits, number-lt}

-- ---- bits and bit lists, flipped

pub flip-false : (x : Bool) → flip x false ≡ x
flip-false true = refl
flip-false false = refl

pub flip-comm : (x y : Bool) → flip x y ≡ flip y x
flip-comm true true = refl
flip-comm true false = refl
flip-comm false true = refl
flip-comm false false = refl

pub flip-assoc : (x y z : Bool) → flip (flip x y) z ≡ flip x (flip y z)
flip-assoc false y z = refl
flip-assoc true false z = refl
flip-assoc true true true = refl
flip-assoc true true false = refl

flip-left-comm : (x y z : Bool) → flip x (flip y z) ≡ flip y (flip x z)
flip-left-comm x y z = sym (flip-assoc x y z) ∙ ap (λ (f : Bool). flip f z) (flip-comm x y) ∙ flip-assoc y x z

flip-and : (x y t : Bool) → (flip x y && t) ≡ flip (x && t) (y && t)
flip-and false y t = refl
flip-and true true true = refl
flip-and true true false = refl
flip-and true false true = refl
flip-and true false false = refl

ruleset sorted = (flip-and, flip-assoc, flip-comm, flip-left-comm)

pub flips-nil : (xs : List Bool) → flips xs [] ≡ xs
unfolding flips
flips-nil [] = refl
flips-nil (x ∷ xs) = refl

-- n bits that are all 0
abbrev pub zeros : ℕ → List Bool
zeros n = replicate n false

-- ---- lengths

pub length-shift : (f : Bool) (taps rest : List Bool) → length (shift f taps rest) ≡ length taps
unfolding shift
length-shift f [] rest = refl
length-shift f (t ∷ taps) [] = ap suc (length-shift f taps [])
length-shift f (t ∷ taps) (r ∷ rest) = ap suc (length-shift f taps rest)

pub length-step : (taps reg : List Bool) (b : Bool) → length (step taps reg b) ≡ length taps
unfolding step
length-step taps [] b = length-shift b taps []
length-step taps (r ∷ rest) b = length-shift (flip r b) taps rest

pub length-feed : (taps reg message : List Bool) → length reg ≡ length taps → length (feed taps reg message) ≡ length taps
unfolding feed
length-feed taps reg [] e = e
length-feed taps reg (b ∷ message) e = length-feed taps (step taps reg b) message (length-step taps reg b)

-- ---- one message after another

pub feed-append : (taps reg before after : List Bool) → feed taps reg (before ++ after) ≡ feed taps (feed taps reg before) after
unfolding feed
feed-append taps reg [] after = refl
feed-append taps reg (b ∷ before) after = feed-append taps (step taps reg b) before after

pub crc-append : (taps : List Bool) (start : ℕ) (before after : List Bool) → crc taps start (before ++ after) ≡ crc taps (crc taps start before) after
unfolding crc
crc-append taps start before after =
    ap number
    (feed-append taps (bits (length taps) start) before after
    ∙ ap (λ (reg : List Bool). feed taps reg after) (sym (back (feed taps (bits (length taps) start) before) (length-feed taps (bits (length taps) start) before (length-bits (length taps) start)))))
  where
    back : (reg : List Bool) → length reg ≡ length taps → bits (length taps) (number reg) ≡ reg
    back reg e = rw (← e) (bits-number reg)

pub crc-none : (taps : List Bool) (start : ℕ) → start < 2 ^ length taps → crc taps start [] ≡ start
unfolding crc feed
crc-none taps start h = number-bits (length taps) start ∙ mod-eq_of_lt h

pub crc-lt : (taps : List Bool) (start : ℕ) (message : List Bool) → crc taps start message < 2 ^ length taps
unfolding crc
crc-lt taps start message =
    rw (length-feed taps (bits (length taps) start) message (length-bits (length taps) start)) at (number-lt (feed taps (bits (length taps) start) message))

-- ---- linearity

shift-flips : (f g : Bool) (taps xs ys : List Bool) → shift (flip f g) taps (flips xs ys) ≡ flips (shift f taps xs) (shift g taps ys)
unfolding shift flips
shift-flips f g [] xs ys = refl
shift-flips f g (t ∷ taps) [] [] = ap₂ ◌∷◌ (simp sorted) (shift-flips f g taps [] [])
shift-flips f g (t ∷ taps) [] (y ∷ ys) = ap₂ ◌∷◌ (simp sorted) (shift-flips f g taps [] ys)
shift-flips f g (t ∷ taps) (x ∷ xs) [] = ap₂ ◌∷◌ (simp sorted) (ap (shift (flip f g) taps) (sym (flips-nil xs)) ∙ shift-flips f g taps xs [])
shift-flips f g (t ∷ taps) (x ∷ xs) (y ∷ ys) = ap₂ ◌∷◌ (simp sorted) (shift-flips f g taps xs ys)

pub step-flips : (taps r s : List Bool) (b c : Bool) → step taps (flips r s) (flip b c) ≡ flips (step taps r b) (step taps s c)
unfolding step flips
step-flips taps [] [] b c = shift-flips b c taps [] []
step-flips taps [] (y ∷ ys) b c = rw (flip-left-comm y b c) (shift-flips b (flip y c) taps [] ys)
step-flips taps (x ∷ xs) [] b c = rw (← flip-assoc x b c) (ap (shift (flip (flip x b) c) taps) (sym (flips-nil xs)) ∙ shift-flips (flip x b) c taps xs [])
step-flips taps (x ∷ xs) (y ∷ ys) b c = ap (λ (f : Bool). shift f taps (flips xs ys)) (simp sorted) ∙ shift-flips (flip x b) (flip y c) taps xs ys

pub feed-flips : (taps r s a b : List Bool) → length a ≡ length b → feed taps (flips r s) (flips a b) ≡ flips (feed taps r a) (feed taps s b)
unfolding feed flips
feed-flips taps r s [] [] e = refl
feed-flips taps r s [] (y ∷ b) e = absurd (omega arith)
feed-flips taps r s (x ∷ a) [] e = absurd (omega arith)
feed-flips taps r s (x ∷ a) (y ∷ b) e =
    ap (λ (reg : List Bool). feed taps reg (flips a b)) (step-flips taps r s x y)
    ∙ feed-flips taps (step taps r x) (step taps s y) a b (omega arith)

-- ---- a run of bits taken in at once: flipped into the register, and then shifted through

shift-absorb : (f : Bool) (taps rest run : List Bool) → length run ≤ length taps → shift f taps (flips rest run) ≡ flips (shift f taps rest) run
unfolding shift flips
shift-absorb f [] rest [] h = refl
shift-absorb f [] rest (b ∷ run) h = absurd (omega arith)
shift-absorb f (t ∷ taps) [] [] h = refl
shift-absorb f (t ∷ taps) (r ∷ rest) [] h = refl
shift-absorb f (t ∷ taps) [] (b ∷ run) h = ap (λ (l : List Bool). flip (f && t) b ∷ l) (shift-absorb f taps [] run (omega arith))
shift-absorb f (t ∷ taps) (r ∷ rest) (b ∷ run) h = ap₂ ◌∷◌ (sym (flip-assoc (f && t) r b)) (shift-absorb f taps rest run (omega arith))

step-absorb : (taps reg : List Bool) (b : Bool) (run : List Bool) → length run ≤ length taps → step taps (flips reg (b ∷ run)) false ≡ flips (step taps reg b) run
unfolding step flips
step-absorb taps [] b run h = rw (flip-false b) (shift-absorb b taps [] run h)
step-absorb taps (r ∷ reg) b run h = rw (flip-false (flip r b)) (shift-absorb (flip r b) taps reg run h)

pub feed-absorb : (taps reg run : List Bool) → length run ≤ length taps → feed taps reg run ≡ feed taps (flips reg run) (zeros (length run))
unfolding feed
feed-absorb taps reg [] h = sym (flips-nil reg)
feed-absorb taps reg (b ∷ run) h =
    feed-absorb taps (step taps reg b) run (omega arith)
    ∙ ap (λ (r : List Bool). feed taps r (zeros (length run))) (sym (step-absorb taps reg b run (omega arith)))

-- ---- zeros

pub bits-zero : (k : ℕ) → bits k 0 ≡ zeros k
unfolding bits
bits-zero zero = refl
bits-zero (suc k) = ap₂ ◌∷◌ (ap (λ (q : ℕ). eqb (q % 2) 1) (zero-div (2 ^ k))) (bits-zero k)

pub number-zeros : (k : ℕ) → number (zeros k) ≡ 0
number-zeros k = ap number (sym (bits-zero k)) ∙ number-bits k 0 ∙ zero-mod (2 ^ k)
