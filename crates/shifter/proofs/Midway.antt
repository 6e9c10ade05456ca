-- The shifter in the middle of a word: one bit more, and the bit that completes the word. Select leaves it in the middle of none, and so does each sixteenth bit.
-- Assumes nothing.
use Prim.Native.Nat.{ℕ, zero, suc, ◌+◌, ◌-◌, ◌*◌, ◌/◌, ◌%◌, ◌^◌, ◌≤◌, ◌<◌}
use native.Mathlib.Nat.{mod-eq_of_lt, lt_of_lt_of_le}
use native.Mathlib.Numerals.{add-one}
use native.Mathlib.Omega.{arith}
use mathlib.Core.Path.{◌≡◌, refl, sym, ap, ◌∙◌}
use mathlib.Core.Bool.{Bool, true, false}
use mathlib.Core.List.{List, [], ◌∷◌, ◌++◌}
use borrow.Author.Tests.{le-ltb, eq-eqb, ne_eqb}
use lib.Dec.{eqb}
use lib.ListN.{length, drop, get_or, length-append}
use lib.Seq.{drop-cons}
use lib.Pow.{pow_mono}
use Rattle.bits.specs.Bits.{bits, number, digit}
use Rattle.bits.proofs.Digits.{length-bits, number-append, number-lt}
use Rattle.rules.specs.Refusals as refusal
use Rattle.shifter.specs.Shifter.{cleared, current, joined, sent_bit, step}
use Rattle.shifter.specs.declared.Shifter.{Shifter}

-- these bits of a word have come, while this word goes out
unfoldable pub midway : ℕ → List Bool → Shifter
midway w [] = cleared
midway w (x ∷ xs) = record { count = length (x ∷ xs); taken = number (x ∷ xs); sending = w }

-- ---- one bit, while the word w goes out

module _ (s : Shifter) (next w : ℕ) (same : current s next ≡ w) (bit : Bool) where
  pub step-within : s.count < 15
      → step s next bit
      ≡ record {
        shifter = record { count = s.count + 1; taken = joined s bit; sending = w };
        answer = record { refusal = refusal.none; bit = eqb (w / 2 ^ (15 - s.count) % 2) 1; complete = false; word = 0 };
      }
  unfolding step sent_bit
  step-within h = rw (le-ltb 15 s.count (omega arith), ne_eqb s.count 15 (λ e. omega arith), same)

  pub step-last : s.count ≡ 15
      → step s next bit
      ≡ record {
        shifter = cleared;
        answer = record { refusal = refusal.none; bit = eqb (w / 2 ^ 0 % 2) 1; complete = true; word = joined s bit };
      }
  unfolding step sent_bit
  step-last h = rw (le-ltb 15 s.count (omega arith), eq-eqb s.count 15 h, same, h)

-- ---- the bits of a word

-- bit i of a word
bit-at : (k i w : ℕ) → i < k → get_or (bits k w) i false ≡ eqb (w / 2 ^ (k - suc i) % 2) 1
unfolding bits
bit-at zero i w h = absurd (omega arith)
bit-at (suc k) zero w h = ap (λ (e : ℕ). eqb (w / 2 ^ e % 2) 1) (omega arith)
bit-at (suc k) (suc i) w h = bit-at k i w (omega arith) ∙ ap (λ (e : ℕ). eqb (w / 2 ^ e % 2) 1) (omega arith)

number-snoc : (xs : List Bool) (b : Bool) → number (xs ++ (b ∷ [])) ≡ number xs * 2 + digit b
number-snoc xs b = number-append xs (b ∷ []) ∙ ap (λ (d : ℕ). number xs * 2 + d) (one b)
  where
    one : (b : Bool) → number (b ∷ []) ≡ digit b
    one true = unfold number in refl
    one false = unfold number in refl

-- the bit that goes out is the next one of the word
pub next-bit : (w : ℕ) (xs : List Bool) (b : Bool) → length xs < 16 → get_or (bits 16 w) (length xs) false ∷ drop (length (xs ++ (b ∷ []))) (bits 16 w) ≡ drop (length xs) (bits 16 w)
next-bit w xs b h =
    ap (λ (n : ℕ). get_or (bits 16 w) (length xs) false ∷ drop n (bits 16 w)) (length-append xs (b ∷ []) ∙ add-one (length xs))
    ∙ sym (drop-cons (bits 16 w) (length xs) false (omega (arith, length-bits 16 w)))

-- ---- the shifter in the middle

module _ (w : ℕ) where
  pub midway-count : (xs : List Bool) → (midway w xs).count ≡ length xs
  unfolding midway
  midway-count [] = refl
  midway-count (x ∷ xs) = refl

  midway-taken : (xs : List Bool) → (midway w xs).taken ≡ number xs
  unfolding midway number
  midway-taken [] = refl
  midway-taken (x ∷ xs) = refl

  midway-joined : (xs : List Bool) (b : Bool) → length xs < 16 → joined (midway w xs) b ≡ number (xs ++ (b ∷ []))
  unfolding joined
  midway-joined xs b h =
      let long : length (xs ++ (b ∷ [])) ≤ 16 = simp length-append (omega arith) in
      let small : number (xs ++ (b ∷ [])) < 65536 = lt_of_lt_of_le (number-lt (xs ++ (b ∷ []))) (pow_mono {i = length (xs ++ (b ∷ []))} {j = 16} long) in
      ap (λ (n : ℕ). (n * 2 + digit b) % 65536) (midway-taken xs) ∙ ap (λ (n : ℕ). n % 65536) (sym (number-snoc xs b)) ∙ mod-eq_of_lt small

  midway-next : (xs : List Bool) (b : Bool) → record { count = length xs + 1; taken = number (xs ++ (b ∷ [])); sending = w } ≡ midway w (xs ++ (b ∷ []))
  unfolding midway
  midway-next [] b = refl
  midway-next (x ∷ xs) b = ap (λ (n : ℕ). record { count = n; taken = number ((x ∷ xs) ++ (b ∷ [])); sending = w }) (sym (length-append (x ∷ xs) (b ∷ [])))

  -- whatever is handed in, where it is the word itself for the first bit
  module _ (xs : List Bool) (next : ℕ) (same : current (midway w xs) next ≡ w) (b : Bool) where
    pub step-midway : length xs < 15
        → step (midway w xs) next b
        ≡ record {
          shifter = midway w (xs ++ (b ∷ []));
          answer = record { refusal = refusal.none; bit = get_or (bits 16 w) (length xs) false; complete = false; word = 0 };
        }
    step-midway h =
        step-within (midway w xs) next w same b (rw (midway-count xs) h)
        ∙ rw (midway-joined xs b (omega arith), midway-count xs, midway-next xs b, bit-at 16 (length xs) w (omega arith), place)
      where
        place : 16 - suc (length xs) ≡ 15 - length xs
        place = omega arith

    pub step-sixteenth : length xs ≡ 15
        → step (midway w xs) next b
        ≡ record {
          shifter = cleared;
          answer = record { refusal = refusal.none; bit = get_or (bits 16 w) (length xs) false; complete = true; word = number (xs ++ (b ∷ [])) };
        }
    step-sixteenth h =
        step-last (midway w xs) next w same b (midway-count xs ∙ h)
        ∙ rw (midway-joined xs b (omega arith), h, bit-at 16 15 w (omega arith))

  -- the word handed in is looked at with the first bit alone
  pub current-later : (x : Bool) (xs : List Bool) (next : ℕ) → current (midway w (x ∷ xs)) next ≡ w
  unfolding midway current
  current-later x xs next = rw (ne_eqb (suc (length xs)) 0 (λ e. omega arith))
