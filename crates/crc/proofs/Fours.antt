-- Words taken four at a time: two numbers of 64 bits stand for those passed, of which the CRC-16's two factors leave as much.
-- Assumes nothing.
use Prim.Native.Nat.{ℕ, suc, ◌+◌, ◌<◌}
use native.Mathlib.Omega.{arith}
use mathlib.Core.Path.{◌≡◌, refl, sym, ap, ◌∙◌}
use mathlib.Core.Bool.{Bool}
use mathlib.Core.List.{List, [], ◌∷◌, ◌++◌, append_assoc}
use lib.Bits.{bit_xor}
use lib.ListN.{length, get_or, take}
use lib.Seq.{take-suc}
use Rattle.bits.specs.Bits.{bits, number, stream}
use Rattle.bits.proofs.Lines.{stream-append}
use Rattle.crc.specs.Crc.{shift, step, feed, crc}
use Rattle.crc.proofs.Factors.{taps1, taps15, parity_of}
use Rattle.crc.proofs.Linear.{same, message, of_message, start, parted, singles, agree}
use Rattle.crc.proofs.Register.{crc-append, crc-lt}

-- x^15 + x + 1 leaves as much of the words as of `rest`, and x + 1 as much as of `sum`
abbrev pub Leaves : List ℕ → ℕ → ℕ → Type 0
Leaves words rest sum = (crc taps15 0 (stream 16 words) ≡ of_message taps15 64 rest) × (crc taps1 0 (stream 16 words) ≡ parity_of sum)

pub leaves-none : Leaves [] 0 0
unfolding stream bits number shift step feed crc
leaves-none = (refl, refl)

-- 64 bits leave a parity as it was, but for their own
parity-more : (sum four : ℕ) → crc taps1 (parity_of sum) (bits 64 four) ≡ parity_of (bit_xor sum four)
unfolding singles bits number shift step feed crc
parity-more sum four =
    parted taps1 64 (parity_of sum) four
    ∙ ap (λ (p : ℕ). bit_xor p (parity_of four)) (agree (start taps1 64) same 1 refl (parity_of sum) (crc-lt taps1 0 (bits 64 sum)))
    ∙ sym ((message taps1 64).of_sum sum four)

module _ (words : List ℕ) (i : ℕ) (there : i + 3 < length words) where
  abbrev pub four_at : List ℕ
  four_at = get_or words i 0 ∷ get_or words (i + 1) 0 ∷ get_or words (i + 2) 0 ∷ get_or words (i + 3) 0 ∷ []

  take-four : take (i + 4) words ≡ take i words ++ four_at
  take-four =
      one (i + 3) (i + 4) (omega arith) (omega arith)
      ∙ ap (λ (l : List ℕ). l ++ (get_or words (i + 3) 0 ∷ []))
      (one (i + 2) (i + 3) (omega arith) (omega arith)
      ∙ ap (λ (l : List ℕ). l ++ (get_or words (i + 2) 0 ∷ []))
      (one (i + 1) (i + 2) (omega arith) (omega arith)
      ∙ ap (λ (l : List ℕ). l ++ (get_or words (i + 1) 0 ∷ [])) (one i (i + 1) (omega arith) (omega arith))))
      ∙ simp append_assoc
    where
      one : (k n : ℕ) → n ≡ suc k → k < length words → take n words ≡ take k words ++ (get_or words k 0 ∷ [])
      one k n e h = ap (λ (m : ℕ). take m words) e ∙ take-suc words k 0 h

  -- four words more, which are the bits of one number
  module _ (four : ℕ) (read : bits 64 four ≡ stream 16 four_at) where
    crc-more : (taps : List Bool) → crc taps 0 (stream 16 (take (i + 4) words)) ≡ crc taps (crc taps 0 (stream 16 (take i words))) (bits 64 four)
    crc-more taps =
        ap (crc taps 0) (ap (stream 16) take-four ∙ stream-append 16 (take i words) four_at ∙ ap (λ (l : List Bool). stream 16 (take i words) ++ l) (sym read))
        ∙ crc-append taps 0 (stream 16 (take i words)) (bits 64 four)

    pub leaves-more : (rest sum next : ℕ) → Leaves (take i words) rest sum
        → of_message taps15 64 next ≡ crc taps15 (of_message taps15 64 rest) (bits 64 four) → Leaves (take (i + 4) words) next (bit_xor sum four)
    leaves-more rest sum next leaves e = (
      crc-more taps15 ∙ ap (λ (c : ℕ). crc taps15 c (bits 64 four)) leaves.0 ∙ sym e,
      crc-more taps1 ∙ ap (λ (c : ℕ). crc taps1 c (bits 64 four)) leaves.1 ∙ parity-more sum four,
    )
