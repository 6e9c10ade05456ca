-- Sixteen bits through the shifter exchange a word: from count 0, whatever else the shifter holds, the bits of the word handed in with the
-- first of them go out, from bit 15, and the sixteenth completes the word of the bits that came and leaves the shifter clear. What is
-- handed in with the fifteen others does not matter.
-- Assumes nothing.
use Prim.Native.Nat.{ℕ, suc, ◌+◌, ◌-◌, ◌*◌, ◌/◌, ◌%◌, ◌^◌, ◌≤◌, ◌<◌}
use native.Mathlib.Nat.{add-zero, add-mul, add_assoc, mul-one, mul_assoc, mul_comm, div-add-mod', mul-add-mod_self_right, mul-mod_left, pow-suc}
use native.Mathlib.Omega.{arith}
use mathlib.Core.Bool.{Bool, true, false}
use mathlib.Core.List.{List, [], ◌∷◌, ◌++◌, append_assoc}
use mathlib.Core.Path.{◌≡◌, refl, sym, ap, ap₂, subst, ◌∙◌}
use borrow.Author.Tests.{ne_eqb}
use lib.Dec.{lit≤}
use lib.ListN.{length, drop, get_or, length-append, length-drop, drop_of_length-le}
use Rattle.bits.specs.Bits.{bits, digit, number}
use Rattle.bits.proofs.Digits.{length-bits}
use Rattle.rules.specs.Refusals as refusal
use Rattle.shifter.specs.Shifter.{cleared, current, joined, step}
use Rattle.shifter.specs.Answers.{Sent}
use Rattle.shifter.specs.declared.Shifter.{Shifter}
use Rattle.shifter.specs.Answers.{Step}
use Rattle.shifter.proofs.Midway.{midway, step-within, step-last, next-bit, step-midway, step-sixteenth, current-later}

-- ---- bit after bit. `nexts i` is the card's next word as it stands at bit i.

unfoldable pub answers : Shifter → (ℕ → ℕ) → List Bool → List Sent
answers s nexts [] = []
answers s nexts (bit ∷ more) = (step s (nexts 0) bit).answer ∷ answers (step s (nexts 0) bit).shifter (λ i. nexts (suc i)) more

unfoldable pub after : Shifter → (ℕ → ℕ) → List Bool → Shifter
after s nexts [] = s
after s nexts (bit ∷ more) = after (step s (nexts 0) bit).shifter (λ i. nexts (suc i)) more

-- ---- the answers to the bits of a word, while the bits `out` go out: the last of them completes the word

abbrev pub passing : Bool → Sent
passing b = record { refusal = refusal.none; bit = b; complete = false; word = 0 }

abbrev pub completes : ℕ → Bool → Sent
completes word b = record { refusal = refusal.none; bit = b; complete = true; word = word }

unfoldable pub exchanging : ℕ → List Bool → List Sent
exchanging word [] = []
exchanging word (b ∷ []) = completes word b ∷ []
exchanging word (b ∷ c ∷ out) = passing b ∷ exchanging word (c ∷ out)

passes : (word : ℕ) (b : Bool) (out : List Bool) → 0 < length out → exchanging word (b ∷ out) ≡ passing b ∷ exchanging word out
unfolding exchanging
passes word b [] h = absurd (omega arith)
passes word b (c ∷ out) h = refl

-- the bits ys behind bits xs that have come
module _ (w : ℕ) where
  Exchanges : List Bool → List Bool → List Sent → Shifter → Type 0
  Exchanges xs ys given last = (given ≡ exchanging (number (xs ++ ys)) (drop (length xs) (bits 16 w))) × (last ≡ cleared)

  held : (xs : List Bool) (b : Bool) (next : ℕ) → current (midway w (xs ++ (b ∷ []))) next ≡ w
  held [] b next = current-later w b [] next
  held (x ∷ xs) b next = current-later w x (xs ++ (b ∷ [])) next

  -- what follows one step
  then : (nexts : ℕ → ℕ) (xs ys more : List Bool) → Step → Type 0
  then nexts xs ys more p = Exchanges xs ys (p.answer ∷ answers p.shifter nexts more) (after p.shifter nexts more)

  exchanges : (ys xs : List Bool) (nexts : ℕ → ℕ) → length xs + length ys ≡ 16 → length xs < 16 → current (midway w xs) (nexts 0) ≡ w
      → Exchanges xs ys (answers (midway w xs) nexts ys) (after (midway w xs) nexts ys)
  unfolding answers after exchanging Exchanges then
  exchanges [] xs nexts all h same = absurd (omega arith)
  exchanges (b ∷ []) xs nexts all h same =
      let none : drop (length (xs ++ (b ∷ []))) (bits 16 w) ≡ [] = drop_of_length-le (bits 16 w) {i = length (xs ++ (b ∷ []))} (simp length-append (omega (arith, length-bits 16 w))) in
      let last : drop (length xs) (bits 16 w) ≡ get_or (bits 16 w) (length xs) false ∷ [] = sym (next-bit w xs b h) ∙ ap (λ (l : List Bool). get_or (bits 16 w) (length xs) false ∷ l) none in
      subst (then (λ i. nexts (suc i)) xs (b ∷ []) []) (sym (step-sixteenth w xs (nexts 0) same b (omega arith)))
      (ap (exchanging (number (xs ++ (b ∷ [])))) (sym last), refl)
  exchanges (b ∷ y ∷ ys) xs nexts all h same =
      let g : Bool = get_or (bits 16 w) (length xs) false in
      let more : List Bool = drop (length (xs ++ (b ∷ []))) (bits 16 w) in
      let one : length (xs ++ (b ∷ [])) ≡ length xs + 1 = length-append xs (b ∷ []) in
      let some : 0 < length more = omega (arith, length-drop (length (xs ++ (b ∷ []))) (bits 16 w), length-bits 16 w) in
      let ih = exchanges (y ∷ ys) (xs ++ (b ∷ [])) (λ i. nexts (suc i)) (omega arith) (omega arith) (held xs b (nexts 1)) in
      subst (then (λ i. nexts (suc i)) xs (b ∷ y ∷ ys) (y ∷ ys)) (sym (step-midway w xs (nexts 0) same b (omega arith))) (
        ap (λ (l : List Sent). passing g ∷ l) ih.0
            ∙ sym (passes (number ((xs ++ (b ∷ [])) ++ (y ∷ ys))) g more some)
            ∙ ap₂ exchanging (ap number (append_assoc xs (b ∷ []) (y ∷ ys))) (next-bit w xs b h),
        ih.1,
      )

-- ---- what stood in a shifter before a word's first bit falls off

regroup : (m q r p n : ℕ) → (q * m + r) * p + n ≡ q * p * m + (r * p + n)
regroup m q r p n = rw (add-mul (q * m) r p, mul_assoc q m p, mul_comm m p, ← mul_assoc q p m, add_assoc (q * p * m) (r * p) n)

fallen : (x p n : ℕ) → (x % 65536 * p + n) % 65536 ≡ (x * p + n) % 65536
fallen x p n =
    sym (ap (λ (y : ℕ). (y * p + n) % 65536) (sym (div-add-mod' x 65536))
    ∙ ap (λ (y : ℕ). y % 65536) (regroup 65536 (x / 65536) (x % 65536) p n)
    ∙ mul-add-mod_self_right (x / 65536 * p) 65536 (x % 65536 * p + n))

-- numbers that are alike in their 16 low bits stay so with the same number added
same-low : (x y n : ℕ) → x % 65536 ≡ y % 65536 → (x + n) % 65536 ≡ (y + n) % 65536
same-low x y n e =
    ap (λ (z : ℕ). (z + n) % 65536) (sym (mul-one x))
    ∙ sym (fallen x 1 n)
    ∙ ap (λ (z : ℕ). (z * 1 + n) % 65536) e
    ∙ fallen y 1 n
    ∙ ap (λ (z : ℕ). (z + n) % 65536) (mul-one y)

one-more : (t d p : ℕ) → (t * 2 + d) * p ≡ t * (p * 2) + d * p
one-more t d p = rw (add-mul (t * 2) d p, mul_assoc t 2 p, mul_comm 2 p)

-- one bit more, where p stands for the places that are still to come
joined-alike : (x y d p : ℕ) → y * (p * 2) % 65536 ≡ x * (p * 2) % 65536 → (y * 2 + d) % 65536 * p % 65536 ≡ (x * 2 + d) % 65536 * p % 65536
joined-alike x y d p e = shifted y ∙ same-low (y * (p * 2)) (x * (p * 2)) (d * p) e ∙ sym (shifted x)
  where
    shifted : (z : ℕ) → (z * 2 + d) % 65536 * p % 65536 ≡ (z * (p * 2) + d * p) % 65536
    shifted z =
        ap (λ (n : ℕ). n % 65536) (sym (add-zero ((z * 2 + d) % 65536 * p)))
        ∙ fallen (z * 2 + d) p 0
        ∙ ap (λ (n : ℕ). n % 65536) (add-zero ((z * 2 + d) * p) ∙ one-more z d p)

-- two shifters that differ at most in bits that will have fallen off when the word is complete
record Alike (s t : Shifter) : Type 0 where
  small : s.count ≤ 15
  count : t.count ≡ s.count
  sends : (next : ℕ) → current t next ≡ current s next
  taken : t.taken * 2 ^ (16 - s.count) % 65536 ≡ s.taken * 2 ^ (16 - s.count) % 65536

module _ (s t : Shifter) (a : Alike s t) (next : ℕ) (bit : Bool) where
  -- a bit within a word: the same answer, and alike again
  within-alike : s.count < 15 → ((step t next bit).answer ≡ (step s next bit).answer) × Alike (step s next bit).shifter (step t next bit).shifter
  unfolding joined
  within-alike h =
      let place : 16 - s.count ≡ suc (15 - s.count) = omega arith in
      let less : 16 - (s.count + 1) ≡ 15 - s.count = omega arith in
      let high : t.taken * (2 ^ (15 - s.count) * 2) % 65536 ≡ s.taken * (2 ^ (15 - s.count) * 2) % 65536 = rw (place, pow-suc 2 (15 - s.count)) at a.taken in
      rw (step-within s next (current s next) refl bit h, step-within t next (current s next) (a.sends next) bit (rw a.count h), a.count) (
        refl,
        record {
          small = omega arith;
          count = refl;
          sends = λ n. unfold current in rw (ne_eqb (s.count + 1) 0 (λ e. omega arith));
          taken = rw less (joined-alike s.taken t.taken (digit bit) (2 ^ (15 - s.count)) high);
        },
      )

  -- the last bit of a word: the same answer, and both are clear
  last-alike : s.count ≡ 15 → step t next bit ≡ step s next bit
  unfolding joined
  last-alike e =
      let low : t.taken * 2 % 65536 ≡ s.taken * 2 % 65536 = rw e at a.taken in
      rw (
        step-last s next (current s next) refl bit e,
        step-last t next (current s next) (a.sends next) bit (a.count ∙ e),
        same-low (t.taken * 2) (s.taken * 2) (digit bit) low,
      )

-- the bits up to the end of the word
alike-line : (s t : Shifter) → Alike s t → (nexts : ℕ → ℕ) (line : List Bool) → s.count + length line ≡ 16
    → (answers t nexts line ≡ answers s nexts line) × (after t nexts line ≡ after s nexts line)
unfolding answers after
alike-line s t a nexts [] e = absurd (omega (arith, a.small))
alike-line s t a nexts (bit ∷ []) e =
    let same = last-alike s t a (nexts 0) bit (omega arith) in
    (ap (λ (p : Step). p.answer ∷ []) same, ap (λ (p : Step). p.shifter) same)
alike-line s t a nexts (bit ∷ y ∷ line) e =
    let h : s.count < 15 = omega arith in
    let (one, again) = within-alike s t a (nexts 0) bit h in
    let more : (step s (nexts 0) bit).shifter.count ≡ s.count + 1 = rw (step-within s (nexts 0) (current s (nexts 0)) refl bit h) in
    let (rest, end) = alike-line (step s (nexts 0) bit).shifter (step t (nexts 0) bit).shifter again (λ i. nexts (suc i)) (y ∷ line) (omega arith) in
    (ap₂ ◌∷◌ one rest, end)

-- ---- one word, from count 0, whatever else the shifter holds

pub sixteen : (s : Shifter) (nexts : ℕ → ℕ) (line : List Bool) → s.count ≡ 0 → length line ≡ 16
    → (answers s nexts line ≡ exchanging (number line) (bits 16 (nexts 0))) × (after s nexts line ≡ cleared)
unfolding midway current Exchanges
sixteen s nexts line none long =
    let a : Alike cleared s
    = record {
      small = lit≤ tt;
      count = none;
      sends = λ n. rw none;
      taken = mul-mod_left s.taken 65536;
    } in
    let (same, end) = alike-line cleared s a nexts line (omega (arith, long)) in
    let (sent, clear) = exchanges (nexts 0) line [] nexts (omega (arith, long)) (omega arith) refl in
    (same ∙ sent, end ∙ clear)
