-- What every card run from power-up behind its shifter has; and a whole message is such a run.
-- Assumes nothing.
use Prim.Native.Nat.{ℕ, ◌≤◌, ◌<◌}
use native.Mathlib.Omega.{arith}
use mathlib.Core.Path.{◌≡◌, refl, sym, ap}
use mathlib.Core.Bool.{Bool, true, false}
use mathlib.Core.List.{List, [], ◌∷◌}
use borrow.Author.Tests.{eqb-true, eqb-false, ne_eqb, le-ltb}
use lib.Dec.{eqb, ltb, lit≤}
use lib.ListN.{length}
use Rattle.rules.specs.Refusals as refusal
use Rattle.rules.proofs.Cases.{by-test, by-number}
use Rattle.judge.proofs.Laws.{never}
use Rattle.card.specs.Card.{selected, module_set, word_refusal}
use Rattle.card.specs.Exchange.{with_told}
use Rattle.card.specs.Release.{acted, noted, released}
use Rattle.card.specs.State.{emptied, note_of}
use Rattle.card.specs.Run as run
use Rattle.card.specs.Run.{Run}
use Rattle.card.specs.declared.Card.{Card}
use Rattle.card.specs.Answers.{CardAfter}
use Rattle.card.specs.declared.Note.{Note}
use Rattle.card.specs.Answers.{Told}
use Rattle.card.proofs.Cases.{module-case, told-quiet, released-case, ended-case}
use Rattle.card.proofs.Laws.{lent}
use Rattle.card.proofs.Telling.{take-by-note}
use Rattle.shifter.specs.Shifter.{current, step, left_over}
use Rattle.shifter.specs.Answers.{Sent}
use Rattle.shifter.specs.declared.Shifter.{Shifter}
use Rattle.pins.specs.AtPins.{ran, released_after, heard_at_pins}
use Rattle.pins.specs.Pins.{shifter_refusal, behind_shifter, answered, powered_pins, module_pins, selected_pins, told_first, took_last, clocked, released_pins}
use Rattle.pins.specs.Run.{RunPins, power_up, select, set_module, clock, release}
use Rattle.pins.specs.Answers.{Clocked}
use Rattle.pins.specs.declared.Pins.{Pins}
use Rattle.pins.specs.Answers.{PinsAfter}

-- the card is one run from power-up, and the shifter is in range; and in the middle of a word of an open message the word told is the one whose
-- bits go out
pub record SoundPins (p : Pins) : Type 0 where
  pub run : Run p.card
  pub in_range : p.shifter.count ≤ 15
  pub sends_told : p.card.port.message.opened ≡ true → 0 < p.shifter.count → p.card.port.message.note ≡ note_of p.shifter.sending

-- a step leaves the shifter in range
step-in-range : (s : Shifter) (next : ℕ) (bit : Bool) → s.count ≤ 15 → (step s next bit).shifter.count ≤ 15
unfolding step
step-in-range s next bit h = go (ltb 15 s.count) (eqb s.count 15) refl refl
  where
    go : (a b : Bool) → ltb 15 s.count ≡ a → eqb s.count 15 ≡ b → (step s next bit).shifter.count ≤ 15
    go true b e f = rw e h
    go false true e f = rw (e, f) (lit≤ tt)
    go false false e f = rw (e, f) (omega (arith, eqb-false s.count 15 f))

-- a word told, and a word taken, where they are
first-runs : (p : Pins) (memory : List ℕ) → Run p.card → Run (told_first p memory).card
unfolding told_first
first-runs p memory r = by-test (λ (t : Told). Run t.card) (eqb p.shifter.count 0) (λ e. run.tell r memory) (λ e. r)

last-runs : (c : Card) (memory : List ℕ) (sent : Sent) → Run c → Run (took_last c memory sent)
unfolding took_last
last-runs c memory sent r = by-test Run sent.complete (λ e. run.take_word r memory sent.word) (λ e. r)

-- what is not refused at the pins is not refused by the card
card-quiet : (p : Pins) (number : ℕ) → behind_shifter p number ≡ refusal.none → number ≡ refusal.none
unfolding behind_shifter
card-quiet p number = by-number (λ n. n ≡ refusal.none → number ≡ refusal.none) (shifter_refusal p) (λ r e. absurd (r e)) (λ e q. q)

module _ (p : Pins) (h : SoundPins p) (memory : List ℕ) (quiet : word_refusal p.card (length memory) ≡ refusal.none) where
  -- the word told with the first bit goes out, and is noted; later it is noted already
  first-noted : (told_first p memory).card.port.message.note ≡ note_of (current p.shifter (told_first p memory).word)
  unfolding told_first current with_told
  first-noted = go (eqb p.shifter.count 0) refl
    where
      go : (b : Bool) → eqb p.shifter.count 0 ≡ b → (told_first p memory).card.port.message.note ≡ note_of (current p.shifter (told_first p memory).word)
      go true e = rw (e, told-quiet p.card memory quiet)
      go false e =
          rw e
          (h.sends_told (lent p.card (length memory) quiet).opened (omega (arith, eqb-false p.shifter.count 0 e)))

  -- a bit within a word leaves it noted; the sixteenth leaves the shifter clear
  step-noted : (bit : Bool) →
      let done = step p.shifter (told_first p memory).word bit in
      0 < done.shifter.count → (took_last (told_first p memory).card memory done.answer).port.message.note ≡ note_of done.shifter.sending
  unfolding step took_last
  step-noted bit = go (eqb p.shifter.count 15) refl
    where
      go : (b : Bool) → eqb p.shifter.count 15 ≡ b →
          let done = step p.shifter (told_first p memory).word bit in
          0 < done.shifter.count → (took_last (told_first p memory).card memory done.answer).port.message.note ≡ note_of done.shifter.sending
      go true e = rw (le-ltb 15 p.shifter.count h.in_range, e) (λ some. absurd (omega arith))
      go false e = rw (le-ltb 15 p.shifter.count h.in_range, e) (λ some. first-noted)

pub clocked-in-range : (p : Pins) (memory : List ℕ) (bit : Bool) → p.shifter.count ≤ 15 → (clocked p memory bit).pins.shifter.count ≤ 15
unfolding clocked
clocked-in-range p memory bit h =
    by-number (λ (x : Clocked). x.pins.shifter.count ≤ 15) (behind_shifter p (word_refusal p.card (length memory))) (λ refused. h)
    (λ taken. step-in-range p.shifter (told_first p memory).word bit h)

sound-clocked : (p : Pins) → SoundPins p → (memory : List ℕ) (bit : Bool) → SoundPins (clocked p memory bit).pins
unfolding clocked
sound-clocked p h memory bit =
    by-number (λ (x : Clocked). SoundPins x.pins) (behind_shifter p (word_refusal p.card (length memory))) (λ refused. h)
    (λ taken. record {
      run = last-runs (told_first p memory).card memory _ (first-runs p memory h.run);
      in_range = step-in-range p.shifter (told_first p memory).word bit h.in_range;
      sends_told = λ opened. step-noted p h memory (card-quiet p _ taken) bit;
    })

sound-selected : (p : Pins) → SoundPins p → SoundPins (selected_pins p).pins
unfolding selected_pins
sound-selected p h =
    by-number (λ (x : PinsAfter). SoundPins x.pins) (behind_shifter p (selected p.card).refusal) (λ refused. h)
    (λ taken. record { run = run.select h.run; in_range = lit≤ tt; sends_told = λ opened some. absurd (omega arith) })

-- a call of the card alone, behind a shifter that stays: a message that is open then is the one that was
module _ (p : Pins) (h : SoundPins p) where
  Same : Card → Type 0
  Same c = c.port.message.opened ≡ true → c.port.message ≡ p.card.port.message

  sound-answered : (a : CardAfter) → Run a.card → Same a.card → SoundPins (answered p a).pins
  unfolding Same
  sound-answered a r same =
      by-number (λ (x : PinsAfter). SoundPins x.pins) (shifter_refusal p) (λ refused. h)
      (λ taken. record {
        run = r;
        in_range = h.in_range;
        sends_told = λ opened. rw (same opened) (h.sends_told (rw (same opened) at opened));
      })

  sound-module : (stf : Bool) (state : ℕ) → SoundPins (module_pins p stf state).pins
  unfolding module_pins Same
  sound-module stf state =
      sound-answered (module_set p.card stf state) (run.set_module h.run stf state)
      (module-case (λ a. Same a.card) p.card stf state (λ r _. refl) (λ q _. refl))

  sound-released : (size : ℕ) → SoundPins (released_pins p size).pins
  unfolding released_pins Same noted acted emptied
  sound-released size =
      let left : ℕ = (left_over p.shifter).bits in
      sound-answered (released p.card size left) (run.release h.run size left)
      (released-case (λ a. Same a.card) p.card size left (λ r _. refl)
      (λ q. ended-case Same p.card left (λ opened. never (sym opened)) (λ v opened. never (sym opened)) (λ v opened. never (sym opened))))

pub run-pins : {p : Pins} → RunPins p → SoundPins p
unfolding powered_pins
run-pins (power_up size e) = record { run = run.power_up size e; in_range = lit≤ tt; sends_told = λ opened some. absurd (omega arith) }
run-pins (select {p} r) = sound-selected p (run-pins r)
run-pins (set_module {p} r stf state) = sound-module p (run-pins r) stf state
run-pins (clock {p} r memory bit) = sound-clocked p (run-pins r) memory bit
run-pins (release {p} r size) = sound-released p (run-pins r) size

-- ---- a word's later bits

module _ (p : Pins) (memory other : List ℕ) (bit : Bool) (later : 0 < p.shifter.count) (same : length other ≡ length memory) where
  -- a bit that comes where a word is told: memory counts for its size alone
  by-note : p.card.port.message.note.told ≡ true → clocked p other bit ≡ clocked p memory bit
  unfolding clocked told_first took_last
  by-note noted =
      rw (same, ne_eqb p.shifter.count 0 (omega arith), take-by-note p.card memory other (step p.shifter 0 bit).answer.word noted same)

  refused-alike : eqb (behind_shifter p (word_refusal p.card (length memory))) refusal.none ≡ false → clocked p other bit ≡ clocked p memory bit
  unfolding clocked
  refused-alike e = rw (same, e)

  -- so what goes out, and what the running check will go over, was read with the word's first bit, whatever the later ones are lent
  pub later-bits : RunPins p → clocked p other bit ≡ clocked p memory bit
  later-bits r = go (eqb (behind_shifter p (word_refusal p.card (length memory))) refusal.none) refl
    where
      go : (b : Bool) → eqb (behind_shifter p (word_refusal p.card (length memory))) refusal.none ≡ b → clocked p other bit ≡ clocked p memory bit
      go true e =
          let opened = (lent p.card (length memory) (card-quiet p _ (eqb-true _ _ e))).opened in
          by-note (ap (λ (n : Note). n.told) ((run-pins r).sends_told opened later))
      go false e = refused-alike e

-- ---- a whole message

bits-run : {p : Pins} → RunPins p → (memory : List ℕ) (line : List Bool) → RunPins (ran p memory line).pins
unfolding ran
bits-run r memory [] = r
bits-run {p = p} r memory (b ∷ line) = bits-run {p = (clocked p memory b).pins} (clock r memory b) memory line

pub message-run : {p : Pins} → RunPins p → (memory : List ℕ) (line : List Bool) → RunPins (heard_at_pins p memory line).side
unfolding heard_at_pins released_after
message-run r memory line = release (bits-run (select r) memory line) (length memory)
