-- Linear maps of numbers, by their bits: two that agree at each single bit agree. A check from 0 is such a map, for every polynomial, so
-- another way to compute it is right where one computed test of the single bits says so.
-- Assumes nothing.
use Prim.Native.Nat.{ℕ, zero, suc, ◌+◌, ◌*◌, ◌/◌, ◌%◌, ◌^◌, ◌<◌}
use native.Mathlib.Nat.{add-zero, zero-mul, one-mul, mod-lt, mod-one, mod-eq_of_lt, div-eq_of_lt}
use native.Mathlib.Numerals.{one-add}
use native.Mathlib.Omega.{arith}
use mathlib.Core.Path.{◌≡◌, refl, sym, ap, ap₂, ◌∙◌}
use mathlib.Core.Bool.{Bool, true, false}
use mathlib.Core.List.{List, [], ◌∷◌}
use lib.Arith.{bin_ind}
use lib.Bits.{bit_xor, differ, xor_step, xor_comm, xor_self, xor_zero_r, xor_shr, xor_mod, xor_block, xor_shifted}
use lib.Dec.{eqb, lit<}
use lib.ListN.{length}
use lib.Pow.{pow_pos, mod-pow-add}
use Rattle.bits.specs.Bits.{bits, number, digit}
use Rattle.crc.specs.Crc.{feed, crc}
use Rattle.bits.proofs.Digits.{length-bits, bits-split, bits-xor, number-flips, digit-odd}
use Rattle.crc.proofs.Register.{length-feed, feed-flips, crc-append}

-- ---- the order of a sum

digits-assoc : (x y z : Bool) → differ (bit_xor (digit x) (digit y)) (digit z) ≡ differ (digit x) (bit_xor (digit y) (digit z))
digits-assoc false false z = refl
digits-assoc false true false = refl
digits-assoc false true true = refl
digits-assoc true false z = refl
digits-assoc true true false = refl
digits-assoc true true true = refl

odd-assoc : (x y z : ℕ) → differ (bit_xor (x % 2) (y % 2)) (z % 2) ≡ differ (x % 2) (bit_xor (y % 2) (z % 2))
odd-assoc x y z = rw (← written x, ← written y, ← written z) (digits-assoc (eqb (x % 2) 1) (eqb (y % 2) 1) (eqb (z % 2) 1))
  where
    written : (n : ℕ) → digit (eqb (n % 2) 1) ≡ n % 2
    written n = digit-odd (n % 2) (mod-lt n (lit< tt))

xor-assoc : (a b c : ℕ) → bit_xor (bit_xor a b) c ≡ bit_xor a (bit_xor b c)
xor-assoc =
    bin_ind
    (λ (a : ℕ). (b c : ℕ) → bit_xor (bit_xor a b) c ≡ bit_xor a (bit_xor b c))
    (λ b c. refl)
    (λ a rest b c. xor_step (bit_xor a b) c
    ∙ ap₂ (λ (q d : ℕ). q * 2 + d)
    (ap (λ (q : ℕ). bit_xor q (c / 2)) (xor_shr a b 1) ∙ rest (b / 2) (c / 2) ∙ ap (bit_xor (a / 2)) (sym (xor_shr b c 1)))
    (ap (λ (d : ℕ). differ d (c % 2)) (xor_mod a b 1) ∙ odd-assoc a b c ∙ ap (differ (a % 2)) (sym (xor_mod b c 1)))
    ∙ sym (xor_step a (bit_xor b c)))

pub xor-swap : (a b c d : ℕ) → bit_xor (bit_xor a b) (bit_xor c d) ≡ bit_xor (bit_xor a c) (bit_xor b d)
xor-swap a b c d =
    xor-assoc a b (bit_xor c d)
    ∙ ap (bit_xor a) (sym (xor-assoc b c d) ∙ ap (λ (m : ℕ). bit_xor m d) (xor_comm b c) ∙ xor-assoc c b d)
    ∙ sym (xor-assoc a c (bit_xor b d))

-- ---- linear maps

pub record Linear (f : ℕ → ℕ) : Type 0 where
  pub of_sum : (a b : ℕ) → f (bit_xor a b) ≡ bit_xor (f a) (f b)

pub same : Linear (λ v. v)
same = record { of_sum = λ a b. refl }

pub up : (k : ℕ) → Linear (λ v. v * 2 ^ k)
up k = record { of_sum = λ a b. sym (simp add-zero at (xor_block k a b 0 0 (pow_pos k) (pow_pos k))) }

pub down : (k : ℕ) → Linear (λ v. v / 2 ^ k)
down k = record { of_sum = λ a b. xor_shr a b k }

pub low : (k : ℕ) → Linear (λ v. v % 2 ^ k)
low k = record { of_sum = λ a b. xor_mod a b k }

module _ {f g : ℕ → ℕ} (lf : Linear f) (lg : Linear g) where
  pub then : Linear (λ v. g (f v))
  then = record { of_sum = λ a b. ap g (lf.of_sum a b) ∙ lg.of_sum (f a) (f b) }

  pub plus : Linear (λ v. bit_xor (f v) (g v))
  plus = record { of_sum = λ a b. ap₂ bit_xor (lf.of_sum a b) (lg.of_sum a b) ∙ xor-swap (f a) (f b) (g a) (g b) }

-- a check of sums, begun at a sum, is the sum of the checks
pub crc-sum : (taps : List Bool) (k c d m n : ℕ) → crc taps (bit_xor c d) (bits k (bit_xor m n)) ≡ bit_xor (crc taps c (bits k m)) (crc taps d (bits k n))
unfolding crc
crc-sum taps k c d m n =
    let w : ℕ = length taps in
    ap number
    (ap₂ (feed taps) (bits-xor w c d) (bits-xor k m n)
    ∙ feed-flips taps (bits w c) (bits w d) (bits k m) (bits k n) (length-bits k m ∙ sym (length-bits k n)))
    ∙ number-flips (feed taps (bits w c) (bits k m)) (feed taps (bits w d) (bits k n))
    (length-feed taps (bits w c) (bits k m) (length-bits w c) ∙ sym (length-feed taps (bits w d) (bits k n) (length-bits w d)))

module _ (taps : List Bool) (k : ℕ) where
  -- the check of k bits from 0
  abbrev pub of_message : ℕ → ℕ
  of_message n = crc taps 0 (bits k n)

  pub message : Linear of_message
  message = record { of_sum = crc-sum taps k 0 0 }

  -- the check of k zeros, from a start value
  abbrev pub of_start : ℕ → ℕ
  of_start c = crc taps c (bits k 0)

  pub start : Linear of_start
  start = record { of_sum = λ c d. crc-sum taps k c d 0 0 }

  -- a check is the sum of both
  pub parted : (c n : ℕ) → crc taps c (bits k n) ≡ bit_xor (of_start c) (of_message n)
  parted c n = ap (λ (m : ℕ). crc taps m (bits k n)) (sym (xor_zero_r c)) ∙ crc-sum taps k c 0 0 n

-- zeros in front change no check from 0
pub leading : (taps : List Bool) (j k n : ℕ) → n < 2 ^ k → of_message taps (j + k) n ≡ of_message taps k n
leading taps j k n h =
    ap (crc taps 0) (bits-split j k n) ∙ crc-append taps 0 (bits j (n / 2 ^ k)) (bits k n)
    ∙ ap (λ (c : ℕ). crc taps c (bits k n)) (ap (of_message taps j) (div-eq_of_lt h) ∙ (message taps j).of_sum 0 0 ∙ xor_self (of_message taps j 0))

-- ---- single bits

-- what f gives of each of k single bits
unfoldable pub singles : (ℕ → ℕ) → ℕ → List ℕ
singles f zero = []
singles f (suc k) = f (2 ^ k) ∷ singles f k

module _ {f g : ℕ → ℕ} (lf : Linear f) (lg : Linear g) where
  none : f 0 ≡ g 0
  none = lf.of_sum 0 0 ∙ xor_self (f 0) ∙ sym (lg.of_sum 0 0 ∙ xor_self (g 0))

  top : (k d : ℕ) → d < 2 → f (2 ^ k) ≡ g (2 ^ k) → f (d * 2 ^ k) ≡ g (d * 2 ^ k)
  top k zero h e = rw zero-mul none
  top k (suc zero) h e = rw one-mul e
  top k (suc (suc d)) h e = absurd (omega arith)

  agree-low : (k : ℕ) → singles f k ≡ singles g k → (v : ℕ) → f (v % 2 ^ k) ≡ g (v % 2 ^ k)
  unfolding singles
  agree-low zero e v = rw mod-one none
  agree-low (suc k) e v =
      let d : ℕ = v / 2 ^ k % 2 in
      let parts : v % 2 ^ suc k ≡ bit_xor (d * 2 ^ k) (v % 2 ^ k) =
      ap (λ (j : ℕ). v % 2 ^ j) (sym (one-add k)) ∙ mod-pow-add v 1 k ∙ sym (xor_shifted d k (v % 2 ^ k) (mod-lt v (pow_pos k))) in
      ap f parts ∙ lf.of_sum (d * 2 ^ k) (v % 2 ^ k)
      ∙ ap₂ bit_xor (top k d (mod-lt (v / 2 ^ k) (lit< tt)) (cc)) (agree-low k (cc) v)
      ∙ sym (ap g parts ∙ lg.of_sum (d * 2 ^ k) (v % 2 ^ k))

  -- maps that are the same at k single bits are the same below 2^k
  pub agree : (k : ℕ) → singles f k ≡ singles g k → (v : ℕ) → v < 2 ^ k → f v ≡ g v
  agree k e v h = rw (← mod-eq_of_lt h) (agree-low k e v)
