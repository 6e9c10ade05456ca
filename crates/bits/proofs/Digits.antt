-- Bit lists and the numbers that they write: there and back, joined, and flipped.
-- Assumes nothing.
use Prim.Native.Nat.{ℕ, zero, suc, ◌+◌, ◌*◌, ◌/◌, ◌%◌, ◌^◌, ◌≤◌, ◌<◌}
use native.Mathlib.Nat.{add-suc, suc-add, zero-add, add_assoc, add-mul, mul_assoc, mod-lt, mod-one, zero-mul, add_comm, mul_comm, pow-suc}
use native.Mathlib.Numerals.{one-add, add-one}
use native.Mathlib.Omega.{arith}
use mathlib.Core.Path.{◌≡◌, refl, sym, ap, ap₂, ◌∙◌, subst}
use mathlib.Core.Bool.{Bool, true, false}
use mathlib.Core.List.{List, [], ◌∷◌, ◌++◌}
use lib.Dec.{eqb, lit<}
use lib.ListN.{length, length-append}
use lib.Pow.{pow-add, mod-pow-add, shr-shr, field, mod-mod-pow, high, low}
use lib.Arith.{digits_lt}
use lib.Bits.{bit_xor, xor_block, xor_shr, xor_mod}
use Rattle.bits.specs.Bits.{bits, number, digit, flip}

-- two bit lists flipped against each other; behind the end of either nothing is flipped
unfoldable pub flips : List Bool → List Bool → List Bool
flips [] ys = ys
flips (x ∷ xs) [] = x ∷ xs
flips (x ∷ xs) (y ∷ ys) = flip x y ∷ flips xs ys

pub length-bits : (k n : ℕ) → length (bits k n) ≡ k
unfolding bits
length-bits zero n = refl
length-bits (suc k) n = ap suc (length-bits k n)

-- a remainder by 2, tested and written again
pub digit-odd : (m : ℕ) → m < 2 → digit (eqb m 1) ≡ m
digit-odd zero h = refl
digit-odd (suc zero) h = refl
digit-odd (suc (suc m)) h = absurd (omega arith)

-- the number that the k low digits of n write
pub number-bits : (k n : ℕ) → number (bits k n) ≡ n % 2 ^ k
unfolding bits number
number-bits zero n = sym (mod-one n)
number-bits (suc k) n =
    rw (length-bits k n, number-bits k n, digit-odd (n / 2 ^ k % 2) (mod-lt (n / 2 ^ k) (lit< tt)))
    (sym (mod-pow-add n 1 k) ∙ ap (λ (e : ℕ). n % 2 ^ e) (one-add k))

-- the j high digits, then the k low ones
pub bits-split : (j k n : ℕ) → bits (j + k) n ≡ bits j (n / 2 ^ k) ++ bits k n
unfolding bits
bits-split zero k n = rw zero-add
bits-split (suc j) k n =
    ap (λ (e : ℕ). bits e n) (suc-add j k)
    ∙ rw (shr-shr n k j, add_comm k j, bits-split j k n)

-- the j low digits of n are those of its low part
bits-low : (j i n : ℕ) → bits j (n % 2 ^ (i + j)) ≡ bits j n
unfolding bits
bits-low zero i n = refl
bits-low (suc j) i n =
    rw (add-suc i j, ← suc-add i j)
    (ap₂ (λ (d : ℕ) (ds : List Bool). eqb d 1 ∷ ds)
    (ap (λ (m : ℕ). m % 2) (field n (suc i) j) ∙ ap (λ (e : ℕ). n / 2 ^ j % 2 ^ e % 2) (sym (add-one i)) ∙ mod-mod-pow (n / 2 ^ j) i 1)
    (bits-low j (suc i) n))

pub bits-mod : (k n : ℕ) → bits k (n % 2 ^ k) ≡ bits k n
bits-mod k n = ap (λ (e : ℕ). bits k (n % 2 ^ e)) (sym (zero-add k)) ∙ bits-low k 0 n

-- a number made of two parts has the digits of both
pub bits-join : (j k high low : ℕ) → low < 2 ^ k → bits (j + k) (high * 2 ^ k + low) ≡ bits j high ++ bits k low
bits-join j k h l lt =
    bits-split j k (h * 2 ^ k + l)
    ∙ ap₂ (λ (a b : List Bool). a ++ b) (ap (bits j) (high h k lt)) (sym (bits-mod k (h * 2 ^ k + l)) ∙ ap (bits k) (low h k lt))

pub number-append : (xs ys : List Bool) → number (xs ++ ys) ≡ number xs * 2 ^ length ys + number ys
unfolding number
number-append [] ys = rw (zero-mul, zero-add)
number-append (x ∷ xs) ys =
    rw (length-append xs ys, pow-add 2 (length xs) (length ys), number-append xs ys, add-mul, mul_assoc, add_assoc)

pub digit-lt : (b : Bool) → digit b < 2
digit-lt true = lit< tt
digit-lt false = lit< tt

pub number-lt : (xs : List Bool) → number xs < 2 ^ length xs
unfolding number
number-lt [] = lit< tt
number-lt (x ∷ xs) =
    subst (λ (m : ℕ). digit x * 2 ^ length xs + number xs < m) (mul_comm 2 (2 ^ length xs) ∙ sym (pow-suc 2 (length xs))) (digits_lt {m = 2} (digit-lt x) (number-lt xs))

odd-digit : (b : Bool) → eqb (digit b % 2) 1 ≡ b
odd-digit true = refl
odd-digit false = refl

pub bits-number : (xs : List Bool) → bits (length xs) (number xs) ≡ xs
unfolding bits number
bits-number [] = refl
bits-number (x ∷ xs) =
    ap₂ (λ (d : Bool) (ds : List Bool). d ∷ ds)
    (ap (λ (m : ℕ). eqb (m % 2) 1) (high (digit x) (length xs) (number-lt xs)) ∙ odd-digit x)
    (sym (bits-low (length xs) 0 (digit x * 2 ^ length xs + number xs))
    ∙ rw (zero-add, low (digit x) (length xs) (number-lt xs)) (bits-number xs))

pub number-injective : (xs ys : List Bool) → length xs ≡ length ys → number xs ≡ number ys → xs ≡ ys
number-injective xs ys e n = sym (bits-number xs) ∙ ap₂ bits e n ∙ bits-number ys

pub length-flips : (xs ys : List Bool) → length ys ≤ length xs → length (flips xs ys) ≡ length xs
unfolding flips
length-flips [] [] h = refl
length-flips [] (y ∷ ys) h = absurd (omega arith)
length-flips (x ∷ xs) [] h = refl
length-flips (x ∷ xs) (y ∷ ys) h = ap suc (length-flips xs ys (omega arith))

digit-flip : (x y : Bool) → digit (flip x y) ≡ bit_xor (digit x) (digit y)
digit-flip false y = refl
digit-flip true false = refl
digit-flip true true = refl

pub number-flips : (xs ys : List Bool) → length xs ≡ length ys → number (flips xs ys) ≡ bit_xor (number xs) (number ys)
unfolding number flips
number-flips [] ys e = refl
number-flips (x ∷ xs) [] e = absurd (omega arith)
number-flips (x ∷ xs) (y ∷ ys) e =
    let same : length xs ≡ length ys = omega arith in
    rw (length-flips xs ys (omega arith), number-flips xs ys same, digit-flip x y, ← same)
    (sym (xor_block (length xs) (digit x) (digit y) (number xs) (number ys) (number-lt xs) (rw same (number-lt ys))))

odd-xor : (m n : ℕ) → m < 2 → n < 2 → eqb (bit_xor m n) 1 ≡ flip (eqb m 1) (eqb n 1)
odd-xor zero n hm hn = refl
odd-xor (suc zero) zero hm hn = refl
odd-xor (suc zero) (suc zero) hm hn = refl
odd-xor (suc zero) (suc (suc n)) hm hn = absurd (omega arith)
odd-xor (suc (suc m)) n hm hn = absurd (omega arith)

pub bits-xor : (k m n : ℕ) → bits k (bit_xor m n) ≡ flips (bits k m) (bits k n)
unfolding bits flips
bits-xor zero m n = refl
bits-xor (suc k) m n =
    ap₂ (λ (d : Bool) (ds : List Bool). d ∷ ds)
    (ap (λ (q : ℕ). eqb (q % 2) 1) (xor_shr m n k)
    ∙ ap (λ (q : ℕ). eqb q 1) (xor_mod (m / 2 ^ k) (n / 2 ^ k) 1)
    ∙ odd-xor (m / 2 ^ k % 2) (n / 2 ^ k % 2) (mod-lt (m / 2 ^ k) (lit< tt)) (mod-lt (n / 2 ^ k) (lit< tt)))
    (bits-xor k m n)
