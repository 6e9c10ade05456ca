-- `check_after` meets its contract: zeros leave a check of 0.
use Rattle.std.proofs.Common.{◌≡◌, refl, sym, [], ◌∷◌}
use borrow.Author.Tests.{le-leb}
use Rattle.bits.specs.Bits.{bits, number, stream}
use Rattle.crc.specs.Crc.{crc, crc16_after, feed, shift, step, taps16}
use Rattle.card.specs.Exchange.{check_after}
use Rattle.card.proofs.Card.check_after.Goals as goal

zeros : crc16_after 0 (0 ∷ []) ≡ 0
unfolding crc16_after crc number feed stream bits step taps16 shift
zeros = refl

pub returns-then-check-eq0 : goal.returns-then-check-eq0
unfolding check_after
returns-then-check-eq0 c = rw (le-leb 2 c.args.self.now.port.message.count c.if-self-lt2.false, c.if-sent-eq0.true, c.if-check-eq0.true) (sym zeros)
