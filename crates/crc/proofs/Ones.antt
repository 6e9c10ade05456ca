-- What x + 1 leaves of bits is their parity: whether an odd number of them is set.
-- Assumes nothing.
use Prim.Native.Nat.{ℕ, zero, suc, ◌+◌, ◌*◌, ◌/◌, ◌%◌, ◌^◌, ◌<◌}
use native.Mathlib.Nat.{mod-lt, mod-one, mod-eq_of_lt}
use native.Mathlib.Numerals.{one-add}
use native.Mathlib.Omega.{arith}
use mathlib.Core.Path.{◌≡◌, refl, sym, ap, ◌∙◌}
use mathlib.Core.Bool.{Bool, true, false}
use mathlib.Core.List.{List, [], ◌∷◌}
use lib.Count.{ones_in, ones, ones_cat}
use lib.Dec.{eqb, lit<}
use lib.Pow.{pow_pos, mod-pow-add}
use Rattle.bits.specs.Bits.{bits, digit, number}
use Rattle.crc.specs.Crc.{shift, step, feed, crc}
use Rattle.crc.proofs.Factors.{taps1}

-- one bit more, from a register of one bit
more : (m : List Bool) (n d : ℕ) → d < 2 → ((r : Bool) → number (feed taps1 (r ∷ []) m) ≡ (digit r + n) % 2)
    → (r : Bool) → number (feed taps1 (r ∷ []) (eqb d 1 ∷ m)) ≡ (digit r + (ones d + n)) % 2
unfolding shift step feed bits ones ones_in
more m n zero h rest true = rest true ∙ omega arith
more m n zero h rest false = rest false ∙ omega arith
more m n (suc zero) h rest true = rest false ∙ omega arith
more m n (suc zero) h rest false = rest true ∙ omega arith
more m n (suc (suc d)) h rest r = absurd (omega arith)

from-bit : (k v : ℕ) (r : Bool) → number (feed taps1 (r ∷ []) (bits k v)) ≡ (digit r + ones (v % 2 ^ k)) % 2
unfolding feed bits number ones ones_in
from-bit zero v true = rw (mod-one v) refl
from-bit zero v false = rw (mod-one v) refl
from-bit (suc k) v r =
    more (bits k v) (ones (v % 2 ^ k)) (v / 2 ^ k % 2) (mod-lt (v / 2 ^ k) (lit< tt)) (from-bit k v) r
    ∙ ap (λ (x : ℕ). (digit r + x) % 2)
    (sym (ap (λ (n : ℕ). ones (v % 2 ^ n)) (sym (one-add k)) ∙ ap ones (mod-pow-add v 1 k) ∙ ones_cat k (v / 2 ^ k % 2) (v % 2 ^ k) (mod-lt v (pow_pos k))))

pub parity-ones : (v : ℕ) → v < 2 ^ 64 → ones v % 2 ≡ crc taps1 0 (bits 64 v)
unfolding crc bits
parity-ones v h = sym (from-bit 64 v false ∙ rw (mod-eq_of_lt h) (omega arith))

pub ruleset by_ones = (parity-ones)
