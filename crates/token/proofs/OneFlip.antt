-- A good token with one flipped bit: its CRC-4 is wrong, and with it the mark that has the bit, if one has; so it is not good.
-- Assumes nothing.
use Prim.Native.Nat.{ℕ, suc, ◌+◌, ◌/◌, ◌%◌, ◌^◌}
use native.Mathlib.Nat.{div-one, zero-add}
use mathlib.Core.Bool.{Bool, true, false, not, ◌&&◌, ◌||◌, not-eq-not, true≢false}
use mathlib.Core.List.{List, [], ◌∷◌, ◌++◌}
use mathlib.Core.Path.{◌≡◌, refl, sym, ap, ◌∙◌}
use lib.Dec.{eqb, leb}
use lib.ListN.{length, take, drop}
use Rattle.bits.specs.Bits.{bits, number, stream}
use Rattle.bits.proofs.Digits.{length-bits}
use Rattle.crc.specs.Crc.{shift, step, feed, crc, taps4, crc4}
use Rattle.crc.specs.Errors.{Flip}
use Rattle.crc.proofs.Checks.{token-flip-seen}
use Rattle.token.specs.Command.{command_marks, good_command, command_wrong}
use Rattle.token.specs.Marks.{check_right, good_marks, wrong, wrong_marks}
use Rattle.token.specs.OneFlip.{in_first, in_second, in_prefix, command_wrong_at, response_wrong_at}
use Rattle.token.specs.Response.{response_marks, good_response, response_wrong}
use Rattle.token.specs.declared.marks.Marks.{Marks}
use Rattle.token.specs.declared.marks.Wrong.{Wrong}
use Rattle.token.proofs.Good.{good-check, right-check, good-command, good-response}
use Rattle.token.proofs.Windows.{window_number, window-flipped, word-window}

-- bits of word 1 and of word 2, as bits of the line: n of them behind j, and m below them in the word
first-window : (a b j n m : ℕ) → j + (n + m) ≡ 16 → window_number j n (stream 16 (a ∷ b ∷ [])) ≡ a / 2 ^ m % 2 ^ n
unfolding stream
first-window a b j n m e =
    ap (λ (k : ℕ). window_number j n (bits k a ++ (bits 16 b ++ []))) (sym e)
    ∙ rw (zero-add j) at (word-window [] (bits 16 b ++ []) 0 j n m a refl)

second-window : (a b j n m : ℕ) → j + (n + m) ≡ 16 → window_number (16 + j) n (stream 16 (a ∷ b ∷ [])) ≡ b / 2 ^ m % 2 ^ n
unfolding stream
second-window a b j n m e =
    ap (λ (k : ℕ). window_number (16 + j) n (bits 16 a ++ (bits k b ++ []))) (sym e)
    ∙ word-window (bits 16 a) [] 16 j n m b (length-bits 16 a)

-- two tests that a flip may spoil
either : (a b : Bool) {p q : Bool} → p ≡ not a → q ≡ not b → not (p && q) ≡ (a || b)
either true b e f = rw e
either false true e f = rw (e, f)
either false false e f = rw (e, f)

module _ (first second first' second' : ℕ) (flip : Flip (stream 16 (first ∷ second ∷ [])) (stream 16 (first' ∷ second' ∷ []))) where
  abbrev place : ℕ
  place = length flip.before

  first-flipped : (j n m last c : ℕ) → j + (n + m) ≡ 16 → suc last ≡ j + n → first / 2 ^ m % 2 ^ n ≡ c
      → eqb (first' / 2 ^ m % 2 ^ n) c ≡ not (leb j place && leb place last)
  first-flipped j n m last c whole e was =
      ap (λ (v : ℕ). eqb v c) (sym (first-window first' second' j n m whole))
      ∙ window-flipped flip j n c (first-window first second j n m whole ∙ was) last e

  second-flipped : (j n m last c : ℕ) → j + (n + m) ≡ 16 → suc last ≡ 16 + j + n → second / 2 ^ m % 2 ^ n ≡ c
      → eqb (second' / 2 ^ m % 2 ^ n) c ≡ not (leb (16 + j) place && leb place last)
  second-flipped j n m last c whole e was =
      ap (λ (v : ℕ). eqb v c) (sym (second-window first' second' j n m whole))
      ∙ window-flipped flip (16 + j) n c (second-window first second j n m whole ∙ was) last e

  check-flipped : check_right first second ≡ true → check_right first' second' ≡ false
  check-flipped h =
      (not-eq-not {b = false}).0
      (λ h'.
      token-flip-seen first second first' second'
      (right-check first second h ∙ rw (div-one second))
      (right-check first' second' h' ∙ rw (div-one second'))
      flip)

  not-good : (m m' : Marks) → m.check ≡ check_right first second → m'.check ≡ check_right first' second' → good_marks m ≡ true → good_marks m' ≡ false
  not-good m m' e e' h =
      (not-eq-not {b = false}).0
      (λ h'. true≢false (sym (good-check m' h') ∙ e' ∙ check-flipped (sym e ∙ good-check m h)))

  -- what one flipped bit makes wrong, by its place
  pub command-flipped : good_command first second ≡ true → command_wrong first' second' ≡ command_wrong_at place
  unfolding good_command command_marks command_wrong wrong_marks command_wrong_at in_prefix in_first in_second
  command-flipped h =
      let g = good-command first second h in
      let (p, q) = g.prefixes in
      let (s, t) = g.spares in
      rw (
        either (in_first 15 14 place) (in_second 15 14 place) (first-flipped 0 2 14 1 0b01 refl refl p) (second-flipped 0 2 14 17 0b01 refl refl q),
        either (in_first 7 6 place) (in_second 5 4 place) (first-flipped 8 2 6 9 0b11 refl refl s) (second-flipped 10 2 4 27 0b11 refl refl t),
        check-flipped (good-check (command_marks first second) h),
      )

  pub response-flipped : good_response first second ≡ true → response_wrong first' second' ≡ response_wrong_at place
  unfolding good_response response_marks response_wrong wrong_marks response_wrong_at in_prefix in_first in_second
  response-flipped h =
      let g = good-response first second h in
      let (p, q) = g.prefixes in
      let (s, t) = g.spares in
      rw (
        either (in_first 15 14 place) (in_second 15 14 place) (first-flipped 0 2 14 1 0b10 refl refl p) (second-flipped 0 2 14 17 0b10 refl refl q),
        either (in_first 9 4 place) (in_second 13 4 place) (first-flipped 6 6 4 11 0 refl refl s) (second-flipped 2 10 4 27 0x078 refl refl t),
        check-flipped (good-check (response_marks first second) h),
      )

  -- so the token is not good
  pub command-flip-not-good : good_command first second ≡ true → good_command first' second' ≡ false
  unfolding good_command command_marks
  command-flip-not-good = not-good (command_marks first second) (command_marks first' second') refl refl

  pub response-flip-not-good : good_response first second ≡ true → good_response first' second' ≡ false
  unfolding good_response response_marks
  response-flip-not-good = not-good (response_marks first second) (response_marks first' second') refl refl

-- ---- such flips, computed

-- a good token, and what one flipped bit at a place makes wrong of it
pub record FlipMakes (good : ℕ → ℕ → Bool) (wrong_of : ℕ → ℕ → Wrong) (place : ℕ) (w : Wrong) : Type 0 where
  pub first : ℕ
  pub second : ℕ
  pub first' : ℕ
  pub second' : ℕ
  pub flip : Flip (stream 16 (first ∷ second ∷ [])) (stream 16 (first' ∷ second' ∷ []))
  pub was : good first second ≡ true
  pub at_place : length flip.before ≡ place
  pub is : wrong_of first' second' ≡ w

-- a bit at a place, flipped
flip-of : (place : ℕ) (bit : Bool) (sent got : List Bool) → sent ≡ take place sent ++ (bit ∷ drop (suc place) sent)
    → got ≡ take place sent ++ (not bit ∷ drop (suc place) sent) → Flip sent got
flip-of place bit sent got was is = record { before = take place sent; bit = bit; after = drop (suc place) sent; was = was; is = is }

-- a bit of the prefix, one of the spare, and one of neither
pub command-flips : FlipMakes good_command command_wrong 1 (wrong true false true) × FlipMakes good_command command_wrong 9 (wrong false true true)
    × FlipMakes good_command command_wrong 31 (wrong false false true)
unfolding flip-of stream bits number good_command good_marks command_marks command_wrong wrong_marks check_right crc4 crc feed step shift taps4
command-flips = (
  record { first = 0x4DC3; second = 0x4439; first' = 0x0DC3; second' = 0x4439; flip = flip-of 1 true _ _ refl refl; was = refl; at_place = refl; is = refl },
  record { first = 0x4DC3; second = 0x4439; first' = 0x4D83; second' = 0x4439; flip = flip-of 9 true _ _ refl refl; was = refl; at_place = refl; is = refl },
  record { first = 0x4DC3; second = 0x4439; first' = 0x4DC3; second' = 0x4438; flip = flip-of 31 true _ _ refl refl; was = refl; at_place = refl; is = refl },
)

pub response-flips : FlipMakes good_response response_wrong 16 (wrong true false true) × FlipMakes good_response response_wrong 18 (wrong false true true)
    × FlipMakes good_response response_wrong 3 (wrong false false true)
unfolding flip-of stream bits number good_response good_marks response_marks response_wrong wrong_marks check_right crc4 crc feed step shift taps4
response-flips = (
  record { first = 0x9000; second = 0x878D; first' = 0x9000; second' = 0x078D; flip = flip-of 16 true _ _ refl refl; was = refl; at_place = refl; is = refl },
  record { first = 0x9000; second = 0x878D; first' = 0x9000; second' = 0xA78D; flip = flip-of 18 false _ _ refl refl; was = refl; at_place = refl; is = refl },
  record { first = 0x9000; second = 0x878D; first' = 0x8000; second' = 0x878D; flip = flip-of 3 true _ _ refl refl; was = refl; at_place = refl; is = refl },
)
