-- What the two loops carry from turn to turn: with what is still to come it makes up the whole.
-- Assumes nothing.
use Prim.Native.Nat.{ℕ, suc, ◌+◌, ◌-◌, ◌*◌, ◌/◌, ◌%◌, ◌^◌, ◌≤◌, ◌<◌}
use native.Mathlib.Nat.{add-zero, zero-add, add_assoc, sub-zero}
use native.Mathlib.Numerals.{add-one}
use native.Mathlib.Omega.{arith}
use mathlib.Core.Path.{◌≡◌, refl, sym, ap, ap₂, ◌∙◌, subst}
use mathlib.Core.Bool.{Bool}
use mathlib.Core.List.{List, [], ◌∷◌, ◌++◌, append_assoc, append-nil}
use lib.Dec.{eqb}
use lib.ListN.{length, get_or, set, take, drop, take-append-drop, drop_of_length-le}
use lib.Seq.{drop-cons, take_at, drop_at, take-suc-set, drop-set-lt}
use Rattle.bits.specs.Bits.{bits, digit, number, stream}
use Rattle.bits.specs.Buffers.{over}
use Rattle.bits.specs.Lines.{words}
use Rattle.bits.proofs.Digits.{length-bits, number-lt}
use Rattle.bits.proofs.Lines.{length-words}
use Rattle.pins.specs.AtPins.{Ran, behind}
use Rattle.pins.specs.Answers.{Clocked}
use Rattle.pins.specs.declared.Pins.{Pins}
use Rattle.crossing.specs.Crossing.{first_of}
use Rattle.crossing.specs.Steps.{bit_across, line_across, or_else, Told, told, WordAcross, word_across}
use Rattle.crossing.specs.declared.Damage.{Damage}
use Rattle.crossing.proofs.Line.{joined, across-on, length-across, first-across, first-listed, or-else-assoc, or-else-none}

-- ---- the bits of a word

-- the number and the bits read so far, and the bits to come
unfoldable pub word_from : ℕ → ℕ → Ran → WordAcross
word_from before read rest = record { card = or_else before (first_of rest.refused); pins = rest.pins; word = read + number rest.sent }

-- one bit more
word-more : (before read : ℕ) (c : Clocked) (rest : Ran)
    → word_from before read (behind c rest) ≡ word_from (or_else before c.refusal) (read + digit c.bit * 2 ^ length rest.sent) rest
unfolding word_from number
word-more before read c rest =
    ap₂ (λ (n w : ℕ). record { card = n; pins = rest.pins; word = w })
    (ap (or_else before) (first-listed c.refusal rest.refused) ∙ sym (or-else-assoc before c.refusal (first_of rest.refused)))
    (sym (add_assoc read (digit c.bit * 2 ^ length rest.sent) (number rest.sent)))

module _ (d : Damage) (memory : List ℕ) (k word : ℕ) where
  -- from bit `at` on
  unfoldable pub word_rest : ℕ → Pins → Ran
  word_rest at p = line_across d (k * 16 + at) p memory (bits (16 - at) word)

  pub word-starts : (p : Pins) → word_across (line_across d (k * 16) p memory (bits 16 word)) ≡ word_from 0 0 (word_rest 0 p)
  unfolding word_across word_from word_rest or_else
  word-starts p = rw (add-zero (k * 16), zero-add)

  -- the bit that goes now
  unfoldable pub word_bit : ℕ → Pins → Clocked
  word_bit at p = bit_across d (k * 16 + at) p memory (eqb (word / 2 ^ (15 - at) % 2) 1)

  word-next : (before read n i : ℕ) (p : Pins)
      → let c = bit_across d i p memory (eqb (word / 2 ^ n % 2) 1) in
      word_from before read (line_across d i p memory (bits (suc n) word))
      ≡ word_from (or_else before c.refusal) (read + digit c.bit * 2 ^ n) (line_across d (suc i) c.pins memory (bits n word))
  unfolding line_across bits
  word-next before read n i p =
      let c : Clocked = bit_across d i p memory (eqb (word / 2 ^ n % 2) 1) in
      let rest : Ran = line_across d (suc i) c.pins memory (bits n word) in
      word-more before read c rest
      ∙ ap (λ (l : ℕ). word_from (or_else before c.refusal) (read + digit c.bit * 2 ^ l) rest)
      (length-across d memory (suc i) c.pins (bits n word) ∙ length-bits n word)

  pub word-goes-on : (before read at : ℕ) (p : Pins) → at < 16
      → word_from before read (word_rest at p)
      ≡ word_from (or_else before (word_bit at p).refusal) (read + digit (word_bit at p).bit * 2 ^ (15 - at)) (word_rest (at + 1) (word_bit at p).pins)
  unfolding word_rest word_bit
  word-goes-on before read at p more =
      let c : Clocked = bit_across d (k * 16 + at) p memory (eqb (word / 2 ^ (15 - at) % 2) 1) in
      let left : 16 - at ≡ suc (15 - at) = omega arith in
      let less : 15 - at ≡ 16 - (at + 1) = omega arith in
      let next : suc (k * 16 + at) ≡ k * 16 + (at + 1) = omega arith in
      ap (λ (n : ℕ). word_from before read (line_across d (k * 16 + at) p memory (bits n word))) left
      ∙ word-next before read (15 - at) (k * 16 + at) p
      ∙ ap₂ (λ (n j : ℕ). word_from (or_else before c.refusal) (read + digit c.bit * 2 ^ (15 - at)) (line_across d j c.pins memory (bits n word))) less next

  pub word-ends : (before read : ℕ) (p : Pins) → word_from before read (word_rest 16 p) ≡ record { card = before; pins = p; word = read }
  unfolding word_from word_rest bits line_across first_of number
  word-ends before read p = rw (or-else-none before, add-zero read)

  -- a word's bits make a word
  pub word-fits : (before read at : ℕ) (p q : Pins) → word_across (line_across d (k * 16) q memory (bits 16 word)) ≡ word_from before read (word_rest at p)
      → at < 16 → read + digit (word_bit at p).bit * 2 ^ (15 - at) < 65536
  unfolding word_across word_from
  word-fits before read at p q e more =
      let line : List Bool = (line_across d (k * 16) q memory (bits 16 word)).sent in
      let long : length line ≡ 16 = length-across d memory (k * 16) q (bits 16 word) ∙ length-bits 16 word in
      let below : number line < 65536 = subst (λ (l : ℕ). number line < 2 ^ l) long (number-lt line) in
      omega (arith, ap (λ (w : WordAcross). w.word) (e ∙ word-goes-on before read at p more))

-- ---- the words of a message

-- the number so far, and the words to come
unfoldable pub told_from : ℕ → Ran → Told
told_from before rest = record { card = or_else before (first_of rest.refused); pins = rest.pins }

-- k words that were read, and those to come, n in all
unfoldable pub got_from : ℕ → ℕ → List ℕ → List Bool → List ℕ
got_from k n got line = take k got ++ words (n - k) line ++ drop n got

pub got-starts : (n : ℕ) (got : List ℕ) (line : List Bool) → over (words n line) got ≡ got_from 0 n got line
unfolding got_from
got-starts n got line = rw (sub-zero n, length-words n line)

pub got-goes-on : (k n : ℕ) (got : List ℕ) (xs ys : List Bool) → k < n → n ≤ length got → length xs ≡ 16
    → got_from k n got (xs ++ ys) ≡ got_from (k + 1) n (set got k (number xs)) ys
unfolding got_from words
got-goes-on k n got xs ys more room long =
    let after : List ℕ = set got k (number xs) in
    let one : n - k ≡ suc (n - (k + 1)) = omega arith in
    let first : words (n - k) (xs ++ ys) ≡ number xs ∷ words (n - (k + 1)) ys
    = ap (λ (m : ℕ). words m (xs ++ ys)) one ∙ ap₂ (λ (x y : List Bool). number x ∷ words (n - (k + 1)) y) (take_at xs ys 16 long) (drop_at xs ys 16 long) in
    let front : take (k + 1) after ≡ take k got ++ (number xs ∷ []) = rw (add-one k) (take-suc-set got k (number xs) (omega arith)) in
    let behind-them : drop n after ≡ drop n got = drop-set-lt n got k (number xs) more in
    rw (first, front, behind-them) (ap (λ (l : List ℕ). l ++ drop n got) (sym (append_assoc (take k got) (number xs ∷ []) (words (n - (k + 1)) ys))))

pub got-ends : (k n : ℕ) (got : List ℕ) (line : List Bool) → k ≡ n → got_from k n got line ≡ got
unfolding got_from words
got-ends k n got line e =
    let none : n - k ≡ 0 = omega arith in
    rw (none, e, append-nil (take n got)) (take-append-drop n got)

module _ (d : Damage) (memory sent : List ℕ) where
  -- from word k on
  unfoldable pub line_rest : ℕ → Pins → Ran
  line_rest k p = line_across d (k * 16) p memory (stream 16 (drop k sent))

  -- word k
  unfoldable pub line_word : ℕ → Pins → Ran
  line_word k p = line_across d (k * 16) p memory (bits 16 (get_or sent k 0))

  pub line-starts : (p : Pins) → told (line_across d 0 p memory (stream 16 sent)) ≡ told_from 0 (line_rest 0 p)
  unfolding told told_from line_rest or_else
  line-starts p = refl

  rest-first : (k : ℕ) (p : Pins) → k < length sent → line_rest k p ≡ joined (line_word k p) (line_rest (k + 1) (line_word k p).pins)
  unfolding line_rest line_word stream
  rest-first k p some =
      let w : ℕ = get_or sent k 0 in
      let next : k * 16 + length (bits 16 w) ≡ (k + 1) * 16 = omega (arith, length-bits 16 w) in
      let tail : drop k sent ≡ w ∷ drop (k + 1) sent = rw (add-one k) (drop-cons sent k 0 some) in
      ap (λ (l : List ℕ). line_across d (k * 16) p memory (stream 16 l)) tail
      ∙ across-on d memory (k * 16) p (bits 16 w) (stream 16 (drop (k + 1) sent))
      ∙ ap (λ (j : ℕ). joined (line_across d (k * 16) p memory (bits 16 w)) (line_across d j (line_across d (k * 16) p memory (bits 16 w)).pins memory (stream 16 (drop (k + 1) sent)))) next

  pub line-goes-on : (before k : ℕ) (p : Pins) → k < length sent
      → told_from before (line_rest k p) ≡ told_from (or_else before (first_of (line_word k p).refused)) (line_rest (k + 1) (line_word k p).pins)
  unfolding told_from joined line_word
  line-goes-on before k p some =
      let rest : Ran = line_rest (k + 1) (line_word k p).pins in
      ap (told_from before) (rest-first k p some)
      ∙ ap (λ (n : ℕ). record { card = n; pins = rest.pins })
      (ap (or_else before) (first-across d memory (k * 16) p (bits 16 (get_or sent k 0)) rest.refused)
      ∙ sym (or-else-assoc before (first_of (line_word k p).refused) (first_of rest.refused)))

  pub words-go-on : (k : ℕ) (p : Pins) (got : List ℕ) → k < length sent → length sent ≤ length got
      → got_from k (length sent) got (line_rest k p).sent ≡ got_from (k + 1) (length sent) (set got k (number (line_word k p).sent)) (line_rest (k + 1) (line_word k p).pins).sent
  unfolding joined
  words-go-on k p got some room =
      let long : length (line_word k p).sent ≡ 16 = unfold line_word in (length-across d memory (k * 16) p (bits 16 (get_or sent k 0)) ∙ length-bits 16 (get_or sent k 0)) in
      ap (λ (r : Ran). got_from k (length sent) got r.sent) (rest-first k p some)
      ∙ got-goes-on k (length sent) got (line_word k p).sent (line_rest (k + 1) (line_word k p).pins).sent some room long

  pub line-ends : (before k : ℕ) (p : Pins) → length sent ≤ k → told_from before (line_rest k p) ≡ record { card = before; pins = p }
  unfolding told_from line_rest line_across stream first_of
  line-ends before k p all = rw (drop_of_length-le sent {i = k} all, or-else-none before)
