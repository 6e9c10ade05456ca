-- `crc::check_of` meets its contract. The loop's invariant: `check` is the CRC-16 of the words passed.
use Prim.Native.Nat.{ℕ}
use native.Mathlib.Omega.{arith}
use mathlib.Core.Path.{sym, ap, ap₂, ◌∙◌}
use mathlib.Core.List.{[], ◌∷◌}
use lib.ListN.{get_or}
use lib.Seq.{take_all}
use Rattle.crc.specs.Crc.{crc16, crc16_after}
use Rattle.crc.proofs.Words.{crc16-next}
use Rattle.crc.proofs.check_of.Goals as goal

pub loop-i-preserved : goal.loop-i-preserved
loop-i-preserved g c =
    let words = g.P.Payload.words c.args.payload.now in
    let at = c.loop-i in
    c.check_word-check.ensures
    ∙ ap₂ (λ (s : ℕ) (w : ℕ). crc16_after s (w ∷ [])) at.invariant c.word.ensures
    ∙ sym (crc16-next words at.i (omega arith))

pub returns : goal.returns
returns g c =
    let words = g.P.Payload.words c.args.payload.now in
    let at = c.loop-i in
    at.invariant ∙ ap crc16 (take_all at.i words (omega arith))
