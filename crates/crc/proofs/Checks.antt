-- What the protocol's two checks detect: the laws of `Detect` at their polynomials, by computed tests.
-- Assumes nothing.
use Prim.Native.Nat.{ℕ, ◌/◌, ◌%◌, ◌<◌}
use native.Mathlib.Nat.{mod-eq_of_lt}
use mathlib.Core.Path.{◌≡◌, refl, sym, ap, ◌∙◌}
use mathlib.Core.Bool.{Bool, true}
use mathlib.Core.Logic.{◌↔◌}
use mathlib.Core.List.{List, [], ◌∷◌, ◌++◌, append-nil, append_assoc}
use Rattle.bits.specs.Bits.{bits, stream}
use Rattle.crc.specs.Crc.{crc, taps4, taps16, crc4, crc16, crc16_after}
use Rattle.crc.specs.Errors.{Burst, Flip}
use Rattle.crc.proofs.Detect.{constant, closing, burst-seen, flip-seen}
use Rattle.bits.proofs.Digits.{bits-split}
use Rattle.bits.proofs.Lines.{stream-append}

pub odd4 : constant taps4 ≡ true
unfolding constant taps4 bits
odd4 = refl

pub odd16 : constant taps16 ≡ true
unfolding constant taps16 bits
odd16 = refl

-- ---- over words

-- a token's check is right exactly where the CRC-4 of all its 32 bits is 0
token-bits : (first second : ℕ) → stream 16 (first ∷ second ∷ []) ≡ (bits 16 first ++ bits 12 (second / 16)) ++ bits 4 second
unfolding stream
token-bits first second =
    ap (λ (l : List Bool). bits 16 first ++ l) (append-nil (bits 16 second) ∙ bits-split 12 4 second)
    ∙ sym (append_assoc (bits 16 first) (bits 12 (second / 16)) (bits 4 second))

pub token-closing : (first second : ℕ) → (crc4 first second ≡ second % 16) ↔ (crc taps4 0 (stream 16 (first ∷ second ∷ [])) ≡ 0)
unfolding crc4 taps4 bits
token-closing first second = rw (token-bits first second) (closing taps4 odd4 0 second (bits 16 first ++ bits 12 (second / 16)))

words-bits : (words : List ℕ) (check : ℕ) → stream 16 (words ++ (check ∷ [])) ≡ stream 16 words ++ bits 16 check
unfolding stream
words-bits words check = stream-append 16 words (check ∷ []) ∙ ap (λ (l : List Bool). stream 16 words ++ l) (append-nil (bits 16 check))

-- words have a check exactly where the CRC-16 of the words and the check is 0
pub words-closing : (words : List ℕ) (check : ℕ) → check < 65536 → (crc16 words ≡ check) ↔ (crc16 (words ++ (check ∷ [])) ≡ 0)
unfolding crc16_after taps16 bits
words-closing words check h = rw (words-bits words check) (rw (mod-eq_of_lt h) at (closing taps16 odd16 0 check (stream 16 words)))

-- A token, got damaged. Right checks of both are equal checks over all bits.
module _ (first second first' second' : ℕ) (right : crc4 first second ≡ second % 16) (right' : crc4 first' second' ≡ second' % 16) where
  both-right : crc taps4 0 (stream 16 (first ∷ second ∷ [])) ≡ crc taps4 0 (stream 16 (first' ∷ second' ∷ []))
  both-right = (token-closing first second).0 right ∙ sym ((token-closing first' second').0 right')

  -- with one flipped bit its check is wrong
  pub token-flip-seen : Flip (stream 16 (first ∷ second ∷ [])) (stream 16 (first' ∷ second' ∷ [])) → ⊥
  token-flip-seen d = flip-seen taps4 odd4 0 d both-right

  -- with a burst of up to four bits and a right check it is as it was sent
  pub token-burst-seen : Burst 4 (stream 16 (first ∷ second ∷ [])) (stream 16 (first' ∷ second' ∷ []))
      → stream 16 (first ∷ second ∷ []) ≡ stream 16 (first' ∷ second' ∷ [])
  unfolding taps4 bits
  token-burst-seen d = burst-seen taps4 odd4 0 d both-right

-- The same for words with their check word, which may be damaged too.
module _ (words words' : List ℕ) (check check' : ℕ) (fits : check < 65536) (fits' : check' < 65536) (right : crc16 words ≡ check) (right' : crc16 words' ≡ check') where
  both-close : crc16 (words ++ (check ∷ [])) ≡ crc16 (words' ++ (check' ∷ []))
  both-close = (words-closing words check fits).0 right ∙ sym ((words-closing words' check' fits').0 right')

  pub words-flip-seen : Flip (stream 16 (words ++ (check ∷ []))) (stream 16 (words' ++ (check' ∷ []))) → ⊥
  unfolding crc16_after
  words-flip-seen d = flip-seen taps16 odd16 0 d both-close

  -- a burst of up to sixteen bits
  pub words-burst-seen : Burst 16 (stream 16 (words ++ (check ∷ []))) (stream 16 (words' ++ (check' ∷ [])))
      → stream 16 (words ++ (check ∷ [])) ≡ stream 16 (words' ++ (check' ∷ []))
  unfolding crc16_after taps16 bits
  words-burst-seen d = burst-seen taps16 odd16 0 d both-close
