-- The CRC-16's polynomial is (x + 1) (x^15 + x + 1). A message's checks by these two factors decide its CRC-16.
-- Assumes nothing.
use Prim.Native.Nat.{ℕ, ◌*◌, ◌%◌, ◌^◌, ◌<◌}
use native.Mathlib.Omega.{arith}
use mathlib.Core.Path.{◌≡◌, refl, sym, ap, ap₂, ◌∙◌}
use mathlib.Core.Bool.{Bool, true, false}
use mathlib.Core.List.{List, [], ◌∷◌}
use lib.Bits.{bit_xor, xor_lt}
use Rattle.bits.specs.Bits.{bits, number, digit}
use Rattle.bits.proofs.Digits.{digit-lt}
use Rattle.crc.specs.Crc.{shift, step, feed, crc, taps16}
use Rattle.crc.proofs.Linear.{Linear, same, low, then, plus, xor-swap, message, of_message, start, of_start, parted, singles, agree}
use Rattle.crc.proofs.Maps.{shl, fold, folded}
use Rattle.crc.proofs.Register.{crc-append, crc-none, crc-lt}

-- x + 1
abbrev pub taps1 : List Bool
taps1 = bits 1 0b1

-- x^15 + x + 1
abbrev pub taps15 : List Bool
taps15 = bits 15 0b11

-- the parity of 64 bits
abbrev pub parity_of : ℕ → ℕ
parity_of = of_message taps1 64

-- p times x^15 + x + 1
unfoldable pub times_factor : ℕ → ℕ
times_factor p = bit_xor (bit_xor (p * 2 ^ 15 % 2 ^ 64) (p * 2 ^ 1 % 2 ^ 64)) p % 65536

times-factor : Linear times_factor
unfolding times_factor
times-factor = then (plus (plus (shl 15) (shl 1)) same) (low 16)

-- of the two numbers of 16 bits of which x^15 + x + 1 leaves as much as of x q, the one with an even number of ones
unfoldable pub even_of : ℕ → ℕ
even_of q = bit_xor (folded 15 1 (q * 2 ^ 1 % 2 ^ 64)) (times_factor (parity_of (folded 15 1 (q * 2 ^ 1 % 2 ^ 64)))) % 65536

pub even-of : Linear even_of
unfolding even_of
even-of = then (then (shl 1) (fold 15 1)) (then (plus same (then (message taps1 64) times-factor)) (low 16))

-- the CRC-16 from the check q by x^15 + x + 1 and the check p by x + 1
abbrev pub joint : ℕ → ℕ → ℕ
joint q p = bit_xor (even_of q) (times_factor p)

-- one bit more, fed to both checks before they are joined or to the CRC-16 behind it, is the same
module _ (q p d : ℕ) (hq : q < 2 ^ 15) (hp : p < 2 ^ 1) (hd : d < 2 ^ 1) where
  one-more : joint (crc taps15 q (bits 1 d)) (crc taps1 p (bits 1 d)) ≡ crc taps16 (joint q p) (bits 1 d)
  unfolding even_of times_factor folded singles bits number shift step feed crc taps16
  one-more =
      ap₂ bit_xor
      (ap even_of (parted taps15 1 q d) ∙ even-of.of_sum (of_start taps15 1 q) (of_message taps15 1 d))
      (ap times_factor (parted taps1 1 p d) ∙ times-factor.of_sum (of_start taps1 1 p) (of_message taps1 1 d))
      ∙ xor-swap (even_of (of_start taps15 1 q)) (even_of (of_message taps15 1 d)) (times_factor (of_start taps1 1 p)) (times_factor (of_message taps1 1 d))
      ∙ ap₂ bit_xor
      (ap₂ bit_xor
      (agree (then (start taps15 1) even-of) (then even-of (start taps16 1)) 15 refl q hq)
      (agree (then (start taps1 1) times-factor) (then times-factor (start taps16 1)) 1 refl p hp)
      ∙ sym ((start taps16 1).of_sum (even_of q) (times_factor p)))
      (agree (plus (then (message taps15 1) even-of) (then (message taps1 1) times-factor)) (message taps16 1) 1 refl d hd)
      ∙ sym (parted taps16 1 (joint q p) d)

one-bit : (b : Bool) → b ∷ [] ≡ bits 1 (digit b)
unfolding bits
one-bit true = refl
one-bit false = refl

joint-lt : (q p : ℕ) → joint q p < 2 ^ 16
unfolding even_of times_factor
joint-lt q p = xor_lt 16 (even_of q) (times_factor p) (omega arith) (omega arith)

-- so are more bits
joint-feeds : (q p : ℕ) (line : List Bool) → q < 2 ^ 15 → p < 2 ^ 1
    → joint (crc taps15 q line) (crc taps1 p line) ≡ crc taps16 (joint q p) line
unfolding bits taps16
joint-feeds q p [] hq hp = ap₂ joint (crc-none taps15 q hq) (crc-none taps1 p hp) ∙ sym (crc-none taps16 (joint q p) (joint-lt q p))
joint-feeds q p (b ∷ line) hq hp =
    ap₂ joint (first taps15 q) (first taps1 p)
    ∙ joint-feeds (crc taps15 q (bits 1 (digit b))) (crc taps1 p (bits 1 (digit b))) line (crc-lt taps15 q _) (crc-lt taps1 p _)
    ∙ ap (λ (c : ℕ). crc taps16 c line) (one-more q p (digit b) hq hp (digit-lt b))
    ∙ sym (first taps16 (joint q p))
  where
    first : (taps : List Bool) (c : ℕ) → crc taps c (b ∷ line) ≡ crc taps (crc taps c (bits 1 (digit b))) line
    first taps c = crc-append taps c (b ∷ []) line ∙ ap (λ (l : List Bool). crc taps (crc taps c l) line) (one-bit b)

-- so a message's checks by the two factors decide its CRC-16
pub by-factors : (line : List Bool) → joint (crc taps15 0 line) (crc taps1 0 line) ≡ crc taps16 0 line
unfolding even_of times_factor folded bits number shift step feed crc
by-factors line = joint-feeds 0 0 line (omega arith) (omega arith)
