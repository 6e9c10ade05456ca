-- `card::off_card` meets its contract: the RESET token is the one that the definition computes.
use Rattle.std.proofs.Common.{refl}
use Rattle.card.specs.State.{fresh, emptied}
use Rattle.bits.specs.Bits.{bits, number}
use Rattle.crc.specs.Crc.{shift, step, feed, crc, taps4, crc4}
use Rattle.token.specs.Command.{command_first, command_upper, command_second}
use Rattle.token.specs.Marks.{with_check}
use Rattle.card.proofs.off_card.Goals as goal

pub returns : goal.returns
unfolding fresh emptied command_first command_upper command_second with_check crc4 crc feed step shift number bits taps4
returns c = refl
