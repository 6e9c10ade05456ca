-- `crossing::cross_word` meets its contract: in each turn one of sixteen bits, the highest first.
use Prim.Native.Nat.{ℕ, ◌+◌, ◌-◌, ◌*◌, ◌%◌, ◌^◌, ◌<◌}
use native.Mathlib.Nat.{mod-eq_of_lt}
use native.Mathlib.Omega.{arith}
use mathlib.Core.Path.{◌≡◌, refl, ap, ◌∙◌}
use Rattle.bits.specs.Bits.{bits, digit}
use Rattle.crossing.specs.Crossing.{first_number}
use Rattle.crossing.specs.Steps.{line_across, word_across}
use Rattle.pins.specs.Answers.{Clocked}
use Rattle.crossing.proofs.Turns.{word_from, word_rest, word_bit, word-starts, word-goes-on, word-ends, word-fits}
use Rattle.crossing.proofs.cross_word.Goals as goal
use Rattle.crossing.proofs.cross_word.Goals.{After-digit_of}

-- a turn's bit
abbrev turn_bit : After-digit_of → Clocked
turn_bit c = word_bit c.args.damage c.args.memory.now c.args.k c.args.word c.loop-at.at c.loop-at.pins

bit-read : (c : After-digit_of) → c.cross_bit-got.result.0 ≡ (turn_bit c).bit
unfolding word_bit
bit-read c = c.cross_bit-got.ensures.bit

bit-refused : (c : After-digit_of) → first_number c.cross_bit-got.result.1 ≡ (turn_bit c).refusal
unfolding word_bit
bit-refused c = c.cross_bit-got.ensures.refused

bit-after : (c : After-digit_of) → c.cross_bit-got.new.pins ≡ (turn_bit c).pins
unfolding word_bit
bit-after c = c.cross_bit-got.ensures.after

-- and what it adds to the word
added : (c : After-digit_of)
    → (c.digit_of.result * 2 ^ (15 - c.loop-at.at) % 65536 ≡ digit (turn_bit c).bit * 2 ^ (15 - c.loop-at.at))
    × (c.loop-at.read + digit (turn_bit c).bit * 2 ^ (15 - c.loop-at.at) < 65536)
added c =
    let b : Clocked = turn_bit c in
    let fits : c.loop-at.read + digit b.bit * 2 ^ (15 - c.loop-at.at) < 65536
    = word-fits c.args.damage c.args.memory.now c.args.k c.args.word (first_number c.loop-at.refused) c.loop-at.read c.loop-at.at c.loop-at.pins c.args.pins.now c.loop-at.invariant c.loop-at-test.true in
    let one : c.digit_of.result ≡ digit b.bit = c.digit_of.ensures.0 ∙ ap digit (bit-read c) in
    (ap (λ (n : ℕ). n * 2 ^ (15 - c.loop-at.at) % 65536) one ∙ mod-eq_of_lt (omega arith), fits)

pub loop-at-init : goal.loop-at-init
loop-at-init c = word-starts c.args.damage c.args.memory.now c.args.k c.args.word c.args.pins.now

pub overflow_add-read : goal.overflow_add-read
overflow_add-read c = omega (arith, added (goal.at.overflow_add-read c).After-digit_of)

pub loop-at-preserved : goal.loop-at-preserved
loop-at-preserved c =
    let p = (goal.at.loop-at-preserved c).After-digit_of in
    rw (c.first_of_two-refused.ensures, (added p).0, bit-refused p, bit-after p)
    (c.loop-at.invariant
    ∙ word-goes-on c.args.damage c.args.memory.now c.args.k c.args.word (first_number c.loop-at.refused) c.loop-at.read c.loop-at.at c.loop-at.pins c.loop-at-test.true)

pub returns : goal.returns
returns c =
    let end : c.loop-at.at ≡ 16 = omega arith in
    let whole : word_across (line_across c.args.damage (c.args.k * 16) c.args.pins.now c.args.memory.now (bits 16 c.args.word))
    ≡ record { card = first_number c.loop-at.refused; pins = c.loop-at.pins; word = c.loop-at.read }
    = c.loop-at.invariant
    ∙ ap (λ (n : ℕ). word_from (first_number c.loop-at.refused) c.loop-at.read (word_rest c.args.damage c.args.memory.now c.args.k c.args.word n c.loop-at.pins)) end
    ∙ word-ends c.args.damage c.args.memory.now c.args.k c.args.word (first_number c.loop-at.refused) c.loop-at.read c.loop-at.pins in
    rw whole (record { word = refl; refused = refl; after = refl })
