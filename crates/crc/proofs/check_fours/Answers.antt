-- `crc::check_fours` meets its contract. The loop's invariant: whole fours are passed, and the factors leave as much of them as of `rest` and `sum`.
use Prim.Native.Nat.{ℕ, ◌+◌, ◌*◌, ◌/◌, ◌<◌}
use native.Mathlib.Omega.{arith}
use mathlib.Core.Path.{◌≡◌, subst, sym, ap, ◌∙◌}
use lib.Bits.{bit_xor}
use lib.ListN.{length, take}
use Rattle.bits.specs.Bits.{stream}
use Rattle.crc.specs.Crc.{crc16, crc16_after}
use Rattle.crc.proofs.Fours.{Leaves, leaves-none, leaves-more}
use Rattle.crc.proofs.Words.{crc16-none}
use Rattle.crc.proofs.check_fours.Goals as goal

pub returns-then-count-lt4 : goal.returns-then-count-lt4
returns-then-count-lt4 g c =
    let words = g.P.Payload.words c.args.payload.now in
    let none : length words / 4 * 4 ≡ 0 = omega arith in
    rw none (sym (crc16-none 0 (omega arith)))

pub loop-k-init : goal.loop-k-init
loop-k-init g c = (omega arith, leaves-none)

pub loop-k-preserved : goal.loop-k-preserved
loop-k-preserved g c =
    let words = g.P.Payload.words c.args.payload.now in
    let at = c.loop-k in
    let four = c.four_words-four in
    let next = c.with_four-rest in
    let read = rw (c.word.ensures, c.word-in-loop-k.ensures, c.word-in-loop-k-2.ensures, c.word-in-loop-k-3.ensures) at four.ensures in
    let there : at.k * 4 + 3 < length words = omega arith in
    let further : at.k * 4 + 4 ≡ (at.k + 1) * 4 = omega arith in (
      next.ensures.0,
      subst (λ (n : ℕ). Leaves (take n words) next.result (bit_xor at.sum four.result)) further
          (leaves-more words (at.k * 4) there four.result read at.rest at.sum next.result at.invariant.1 next.ensures.1),
    )

pub returns : goal.returns
unfolding crc16_after
returns g c =
    let words = g.P.Payload.words c.args.payload.now in
    let at = c.loop-k in
    let all : at.k ≡ length words / 4 = omega arith in
    c.by_factors.ensures (stream 16 (take (at.k * 4) words)) at.invariant.1.0 at.invariant.1.1 ∙ ap (λ (n : ℕ). crc16 (take (n * 4) words)) all
