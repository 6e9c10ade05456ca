-- Bit by bit through the shifter is word by word. Sixteen bits exchange a word; a whole line gives the card, the memory, the bits
-- and the refusals that it gives word by word.
-- Assumes nothing.
use Prim.Native.Nat.{ℕ, zero, suc, ◌+◌, ◌*◌, ◌/◌, ◌≤◌, ◌<◌}
use native.Mathlib.Omega.{arith}
use mathlib.Core.Path.{◌≡◌, refl, sym, ap, ap₂, ◌∙◌}
use mathlib.Core.Bool.{Bool, false}
use mathlib.Core.List.{List, [], ◌∷◌, ◌++◌, append_assoc, append-nil}
use borrow.Author.Tests.{le-ltb, eq-eqb, ne_eqb}
use lib.Dec.{lit≤}
use lib.ListN.{length, get_or, take, drop, length-append, length-take, length-drop, drop_of_length-le, take-append-drop}
use lib.Seq.{drop-drop, take-append-add}
use Rattle.bits.specs.Bits.{bits, number, stream}
use Rattle.bits.proofs.Digits.{length-bits}
use Rattle.bits.specs.Lines as lines
use Rattle.bits.specs.Lines.{words, whole_words}
use Rattle.card.specs.Card.{module_set, word_refusal}
use Rattle.card.specs.Exchange.{told, exchanged, with_told, next_word, taken}
use Rattle.card.specs.Release.{release_refusal, released, memory_after}
use Rattle.card.specs.State.{note_of}
use Rattle.card.specs.declared.Card.{Card}
use Rattle.card.specs.Answers.{CardAfter}
use Rattle.card.specs.Answers.{Told}
use Rattle.card.proofs.Cases.{told-quiet, told-refusal, exchanged-quiet}
use Rattle.card.proofs.Laws.{in-range, lent, released-lent}
use Rattle.card.proofs.Ranges.{exchanged-ranged}
use Rattle.card.proofs.Refusals.{released-number}
use Rattle.card.proofs.Sound.{not-out}
use Rattle.card.proofs.Telling.{release-ignores-note, memory-ignores-note}
use Rattle.shifter.specs.Shifter.{cleared, current, step, left_over}
use Rattle.shifter.specs.Answers.{LeftOver}
use Rattle.shifter.specs.declared.Shifter.{Shifter}
use Rattle.shifter.specs.Answers.{Step}
use Rattle.card.specs.Whole.{after, answers, listed, listened, card_after_line, memory_after_line, sent_bits, refusals_of, heard}
use Rattle.card.proofs.Closed.{Closed, selected-idle, closed, through}
use Rattle.card.proofs.Holding.{Idle, holding, word-quiet}
use Rattle.pins.specs.AtPins.{Ran, behind, ran, released_after, heard_at_pins}
use Rattle.pins.specs.Pins.{pins_of, gives_pins, shifter_refusal, behind_shifter, selected_pins, module_pins, told_first, took_last, clocked, released_pins, memory_after_pins}
use Rattle.pins.specs.Answers.{Clocked}
use Rattle.pins.specs.declared.Pins.{Pins}
use Rattle.shifter.proofs.Midway.{midway, midway-count, next-bit, step-midway, step-sixteenth, current-later}

-- ---- a shifter whose count is in range

left-taken : (s : Shifter) → s.count ≤ 15 → left_over s ≡ record { refusal = 0; bits = s.count }
unfolding left_over
left-taken s h = rw (le-ltb 15 s.count h)

unrefused : (p : Pins) → p.shifter.count ≤ 15 → shifter_refusal p ≡ 0
unfolding shifter_refusal
unrefused p h = ap (λ (l : LeftOver). l.refusal) (left-taken p.shifter h)

-- a module-state call behind it is the card's
pub module-at-pins : (p : Pins) → p.shifter.count ≤ 15 → (stf : Bool) (state : ℕ)
    → (module_pins p stf state).pins.card ≡ (module_set p.card stf state).card
unfolding module_pins
module-at-pins p h stf state = rw (unrefused p h)

-- ---- the bits of one word

module _ (c : Card) (memory : List ℕ) where
  -- the word that goes out
  abbrev out : ℕ
  out = next_word c memory

  -- the card while some bits of the word come in: the word that goes out is told with the first
  half : List Bool → Card
  half [] = c
  half (x ∷ xs) = (told c memory).card

  -- some bits of a word have come
  mid : List Bool → Pins
  mid xs = pins_of (half xs) (midway out xs)

  module _ (quiet : word_refusal c (length memory) ≡ 0) where
    told-next : (told c memory).word ≡ out
    told-next = ap (λ (t : Told). t.word) (told-quiet c memory quiet)

    half-quiet : (xs : List Bool) → word_refusal (half xs) (length memory) ≡ 0
    unfolding half
    half-quiet [] = quiet
    half-quiet (x ∷ xs) =
        ap (λ (t : Told). word_refusal t.card (length memory)) (told-quiet c memory quiet) ∙ told-refusal c memory (length memory) ∙ quiet

    half-more : (xs : List Bool) (b : Bool) → half (xs ++ (b ∷ [])) ≡ (told c memory).card
    unfolding half
    half-more [] b = refl
    half-more (x ∷ xs) b = refl

    first-card : (xs : List Bool) → (told_first (mid xs) memory).card ≡ (told c memory).card
    unfolding told_first mid half midway
    first-card [] = refl
    first-card (x ∷ xs) = rw (ne_eqb (length (x ∷ xs)) 0 (omega arith))

    first-word : (xs : List Bool) → current (midway out xs) (told_first (mid xs) memory).word ≡ out
    unfolding current told_first mid half midway
    first-word [] = told-next
    first-word (x ∷ xs) = current-later out x xs _

    module _ (xs : List Bool) (b : Bool) where
      number-quiet : length xs < 16 → behind_shifter (mid xs) 0 ≡ 0
      unfolding behind_shifter mid
      number-quiet h = rw (unrefused (mid xs) (rw (midway-count out xs) (omega arith)))

      -- what a step of the shifter makes of the card
      turned : Step → Clocked
      turned t = record { refusal = 0; pins = pins_of (took_last (told c memory).card memory t.answer) t.shifter; bit = t.answer.bit }

      clocked-turned : length xs < 16 → clocked (mid xs) memory b ≡ turned (step (midway out xs) (told_first (mid xs) memory).word b)
      unfolding clocked turned mid
      clocked-turned h = rw (half-quiet xs, number-quiet h, first-card xs)

      clocked-within : length xs < 15 → clocked (mid xs) memory b ≡ record { refusal = 0; pins = mid (xs ++ (b ∷ [])); bit = get_or (bits 16 out) (length xs) false }
      unfolding turned took_last mid
      clocked-within h = rw (half-more xs b) (clocked-turned (omega arith) ∙ ap turned (step-midway out xs _ (first-word xs) b h))

      clocked-last : length xs ≡ 15
          → clocked (mid xs) memory b
          ≡ record { refusal = 0; pins = pins_of (exchanged c memory (number (xs ++ (b ∷ [])))).card cleared; bit = get_or (bits 16 out) (length xs) false }
      unfolding turned took_last exchanged
      clocked-last h = clocked-turned (omega arith) ∙ ap turned (step-sixteenth out xs _ (first-word xs) b h)

      -- the bits behind this one
      then : List Bool → Clocked → Ran
      then ys r = behind r (ran r.pins memory ys)

    -- bits that complete no word
    part : (ys xs : List Bool) → length xs + length ys < 16
        → ran (mid xs) memory ys ≡ record { pins = mid (xs ++ ys); sent = take (length ys) (drop (length xs) (bits 16 out)); refused = [] }
    unfolding ran then listed
    part [] xs h = ap (λ (l : List Bool). record { pins = mid l; sent = []; refused = [] }) (sym (append-nil xs))
    part (b ∷ ys) xs h =
        let all : length (xs ++ (b ∷ [])) + length ys < 16 = simp length-append (omega arith) in
        ap (then xs b ys) (clocked-within xs b (omega arith))
        ∙ ap (behind (record { refusal = 0; pins = mid (xs ++ (b ∷ [])); bit = get_or (bits 16 out) (length xs) false })) (part ys (xs ++ (b ∷ [])) all)
        ∙ ap₂ (λ (l : List Bool) (t : List Bool). record { pins = mid l; sent = take (suc (length ys)) t; refused = [] }) (append_assoc xs (b ∷ []) ys) (next-bit out xs b (omega arith))

    -- and sixteen bits: the word goes to the card, and the next word has gone out
    whole : (ys xs : List Bool) → length xs + length ys ≡ 16 → length xs < 16
        → ran (mid xs) memory ys ≡ record { pins = pins_of (exchanged c memory (number (xs ++ ys))).card cleared; sent = drop (length xs) (bits 16 out); refused = [] }
    unfolding ran then listed
    whole [] xs all h = absurd (omega arith)
    whole (b ∷ []) xs all h =
        let none : drop (length (xs ++ (b ∷ []))) (bits 16 out) ≡ [] = drop_of_length-le (bits 16 out) {i = length (xs ++ (b ∷ []))} (simp length-append (omega (arith, length-bits 16 out))) in
        ap (then xs b []) (clocked-last xs b (omega arith))
        ∙ ap (λ (l : List Bool). record { pins = pins_of (exchanged c memory (number (xs ++ (b ∷ [])))).card cleared; sent = l; refused = [] })
        (ap (λ (l : List Bool). get_or (bits 16 out) (length xs) false ∷ l) (sym none) ∙ next-bit out xs b h)
    whole (b ∷ y ∷ ys) xs all h =
        let rest : length (xs ++ (b ∷ [])) + length (y ∷ ys) ≡ 16 = simp length-append (omega arith) in
        ap (then xs b (y ∷ ys)) (clocked-within xs b (omega arith))
        ∙ ap (behind (record { refusal = 0; pins = mid (xs ++ (b ∷ [])); bit = get_or (bits 16 out) (length xs) false }))
        (whole (y ∷ ys) (xs ++ (b ∷ [])) rest (simp length-append (omega arith)))
        ∙ ap₂ (λ (l : List Bool) (t : List Bool). record { pins = pins_of (exchanged c memory (number l)).card cleared; sent = t; refused = [] })
        (append_assoc xs (b ∷ []) (y ∷ ys)) (next-bit out xs b h)

    -- so with one memory from a word's first bit to its last, whatever it is before and behind them, sixteen bits exchange a word
    pub word-at-pins : (line : List Bool) → length line ≡ 16
        → ran (pins_of c cleared) memory line ≡ record { pins = pins_of (exchanged c memory (number line)).card cleared; sent = bits 16 (next_word c memory); refused = [] }
    unfolding mid half midway
    word-at-pins line h = whole line [] (omega (arith, h)) (omega arith)

    -- the card stays one that takes words
    stays-quiet : (word : ℕ) → word_refusal (exchanged c memory word).card (length memory) ≡ 0
    unfolding word_refusal taken
    stays-quiet word =
        let l = lent c (length memory) quiet in
        rw (not-out (exchanged c memory word).card (exchanged-ranged c memory word (in-range c l.ranged))) (rw (exchanged-quiet c memory word quiet) (rw (eq-eqb _ _ l.same, l.opened)))

    -- release does not look at the word told
    half-released : (xs : List Bool) (left : ℕ) → release_refusal c (length memory) left ≡ 0 → released (half xs) (length memory) left ≡ released c (length memory) left
    unfolding half with_told
    half-released [] left h = refl
    half-released (x ∷ xs) left h =
        ap (λ (t : Told). released t.card (length memory) left) (told-quiet c memory quiet) ∙ release-ignores-note c (note_of out) (length memory) left h

    half-memory : (xs : List Bool) (left : ℕ) → memory_after (half xs) memory left ≡ memory_after c memory left
    unfolding half with_told
    half-memory [] left = refl
    half-memory (x ∷ xs) left =
        ap (λ (t : Told). memory_after t.card memory left) (told-quiet c memory quiet) ∙ memory-ignores-note c (note_of out) memory left

    sent-next : (word : ℕ) → (exchanged c memory word).sent ≡ out
    unfolding exchanged
    sent-next word = told-next

-- ---- a line

-- first some bits, then others
joined : Ran → Ran → Ran
joined r s = record { pins = s.pins; sent = r.sent ++ s.sent; refused = r.refused ++ s.refused }

ran-on : (p : Pins) (memory : List ℕ) (xs ys : List Bool) → ran p memory (xs ++ ys) ≡ joined (ran p memory xs) (ran (ran p memory xs).pins memory ys)
unfolding ran joined
ran-on p memory [] ys = refl
ran-on p memory (b ∷ xs) ys =
    let first : Clocked = clocked p memory b in
    let r : Ran = ran first.pins memory xs in
    let s : Ran = ran r.pins memory ys in
    ap (behind first) (ran-on first.pins memory xs ys)
    ∙ ap (λ (l : List ℕ). record { pins = s.pins; sent = first.bit ∷ (r.sent ++ s.sent); refused = l }) (sym (append_assoc (listed first.refusal) r.refused s.refused))

-- the card after n words, the bits of the next one, and what was sent
line_ran : Card → List ℕ → ℕ → List Bool → Ran
line_ran c memory n line = record {
  pins = mid (after c memory (words n line)) memory (drop (n * 16) line);
  sent = take (length line) (stream 16 (answers c memory (words n line) ++ ((told (after c memory (words n line)) memory).word ∷ [])));
  refused = [];
}

line-at-pins : (n : ℕ) (c : Card) (memory : List ℕ) → word_refusal c (length memory) ≡ 0 → (line : List Bool) → length line / 16 ≡ n
    → ran (pins_of c cleared) memory line ≡ line_ran c memory n line
unfolding line_ran joined words after answers stream midway mid half
line-at-pins zero c memory quiet line h =
    part c memory quiet line [] (omega arith)
    ∙ ap (λ (l : List Bool). record { pins = mid c memory line; sent = take (length line) l; refused = [] })
    (sym (append-nil (bits 16 (next_word c memory))) ∙ ap (λ (w : ℕ). bits 16 w ++ []) (sym (told-next c memory quiet)))
line-at-pins (suc n) c memory quiet line h =
    let front : List Bool = take 16 line in
    let rest : List Bool = drop 16 line in
    let c' : Card = (exchanged c memory (number front)).card in
    let sixteen : length front ≡ 16 = length-take 16 line ∙ omega arith in
    let fewer : length rest / 16 ≡ n = omega (arith, length-drop 16 line) in
    let long : length line ≡ length (bits 16 (next_word c memory)) + length rest = omega (arith, length-drop 16 line, length-bits 16 (next_word c memory)) in
    let place : 16 + n * 16 ≡ suc n * 16 = omega arith in
    let tail : List Bool = stream 16 (answers c' memory (words n rest) ++ ((told (after c' memory (words n rest)) memory).word ∷ [])) in
    ap (ran (pins_of c cleared) memory) (sym (take-append-drop 16 line))
    ∙ ran-on (pins_of c cleared) memory front rest
    ∙ ap (λ (r : Ran). joined r (ran r.pins memory rest)) (word-at-pins c memory quiet front sixteen)
    ∙ ap (joined (record { pins = pins_of c' cleared; sent = bits 16 (next_word c memory); refused = [] })) (line-at-pins n c' memory (stays-quiet c memory quiet (number front)) rest fewer)
    ∙ ap₂ (λ (l : List Bool) (t : List Bool). record { pins = mid (after c' memory (words n rest)) memory l; sent = t; refused = [] })
    (drop-drop (n * 16) 16 line ∙ ap (λ (k : ℕ). drop k line) place)
    (sym (take-append-add (bits 16 (next_word c memory)) tail (length rest))
    ∙ ap₂ (λ (k w : ℕ). take k (bits 16 w ++ tail)) (sym long) (sym (sent-next c memory quiet (number front))))

-- ---- a whole message

module _ (c : Card) (memory : List ℕ) (idle : Idle c memory) (s : Shifter) (in-range : s.count ≤ 15) (line : List Bool) where
  -- the card with its message open
  abbrev opened : Card
  opened = holding c [] 0

  -- select opens the message and clears the shifter
  select-pins : selected_pins (pins_of c s) ≡ gives_pins 0 (pins_of opened cleared)
  unfolding selected_pins behind_shifter
  select-pins = rw (unrefused (pins_of c s) in-range, selected-idle c memory idle)

  abbrev end : Ran
  end = line_ran opened memory (length line / 16) line

  all-ran : ran (pins_of opened cleared) memory line ≡ end
  all-ran = line-at-pins (length line / 16) opened memory (word-quiet c memory idle [] 0 (lit≤ tt)) line refl

  left : end.pins.shifter.count ≡ lines.bits_left line
  unfolding line_ran mid lines.bits_left
  left = midway-count _ (drop (length line / 16 * 16) line) ∙ length-drop (length line / 16 * 16) line ∙ omega arith

  small : end.pins.shifter.count ≤ 15
  unfolding lines.bits_left
  small = omega (arith, left)

  left-is : (left_over end.pins.shifter).bits ≡ lines.bits_left line
  left-is = ap (λ (l : LeftOver). l.bits) (left-taken end.pins.shifter small) ∙ left

  message-closed : Closed c memory (whole_words line) (lines.bits_left line)
  message-closed = closed c memory idle (whole_words line) (lines.bits_left line) (unfold lines.bits_left in omega arith)

  -- the card after the words, which takes the release
  heard-words : Card
  heard-words = after opened memory (whole_words line)

  release-quiet : release_refusal heard-words (length memory) (lines.bits_left line) ≡ 0
  unfolding heard-words
  release-quiet =
      sym (released-number heard-words (length memory) (lines.bits_left line))
      ∙ ap (λ (a : CardAfter). a.refusal) (rw (selected-idle c memory idle) at message-closed.card_is)

  word-quiet-after : word_refusal heard-words (length memory) ≡ 0
  word-quiet-after = released-lent heard-words (length memory) (lines.bits_left line) release-quiet

  rest : List Bool
  rest = drop (length line / 16 * 16) line

  -- at the pins a card hears a line as it hears it word by word
  pub at-pins : through (λ (p : Pins). p.card) (heard_at_pins (pins_of c s) memory line) ≡ heard c memory line
  unfolding through line_ran mid heard_at_pins released_after heard card_after_line memory_after_line sent_bits refusals_of listened whole_words released_pins memory_after_pins listed heard-words rest
  at-pins = rw (select-pins, all-ran, unrefused end.pins small, left-is, half-released heard-words memory word-quiet-after rest (lines.bits_left line) release-quiet, half-memory heard-words memory word-quiet-after rest (lines.bits_left line), message-closed.select_quiet, message-closed.words_quiet, card_after_line, sent_bits, listened, selected-idle c memory idle)
