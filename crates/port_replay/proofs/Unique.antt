-- The public operation's contract leaves one answer, and one content of what it is lent.
-- Assumes nothing.
use mathlib.Core.Path.{◌≡◌, sym, ap, ap₂, ◌∙◌}
use mathlib.Core.Bool.{Bool}
use Rattle.text.specs.declared.Line.{Line}
use Rattle.text.proofs.Unique.{one-line}
use Rattle.port_replay.specs.PortReplay.{PortOutcome}
use Rattle.port_replay.proofs.replay.Reads as replay

pub one-replay : (κs : _) (a : _) (r s : _) (e f : _) → replay.Post κs a r e → replay.Post κs a s f
    → (r ≡ s) × (e.0.now ≡ f.0.now) × (e.1.0.now ≡ f.1.0.now)
one-replay κs a r s e f p q =
    let same = p.0 ∙ sym q.0 in
    let lines = one-line r.line s.line (ap (λ (o : PortOutcome). o.line) same) in (
      ap₂ (λ (l : Line) (b : Bool). record { line = l; small = b }) lines (ap (λ (o : PortOutcome). o.small) same),
      ap (λ (o : PortOutcome). o.ports) same,
      p.1 ∙ sym q.1,
    )
