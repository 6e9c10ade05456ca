-- Each public operation's contract leaves one answer, and one content of what it is lent.
-- Assumes nothing.
use mathlib.Core.Path.{◌≡◌, sym, ◌∙◌}
use Rattle.rules.proofs.OneAnswer.{same-value}
use Rattle.text.proofs.Unique.{one-line}
use Rattle.replay.proofs.module_state.Reads as module_state
use Rattle.replay.proofs.play.Reads as play
use Rattle.replay.proofs.replay.Reads as replay

pub one-replay : (κs : _) (a : _) (r s : _) (e f : _) → replay.Post κs a r e → replay.Post κs a s f
    → (r ≡ s) × (e.0.now ≡ f.0.now) × (e.1.0.now ≡ f.1.0.now)
one-replay κs a r s e f p q = (one-line r s (p.0 ∙ sym q.0), p.1.0 ∙ sym q.1.0, p.1.1 ∙ sym q.1.1)

pub one-play : (κs : _) (a : _) (r s : _) (e f : _) → play.Post κs a r e → play.Post κs a s f
    → (r ≡ s) × (e.0.now ≡ f.0.now) × (e.1.0.now ≡ f.1.0.now) × (e.1.1.1.0.now ≡ f.1.1.1.0.now)
one-play κs a r s e f p q =
    (same-value _ r s (p.0 ∙ sym q.0) p.1.0 q.1.0, p.1.1.0 ∙ sym q.1.1.0, p.1.1.1.0 ∙ sym q.1.1.1.0, p.1.1.1.1 ∙ sym q.1.1.1.1)

pub one-module-state : (κs : _) (a : _) (r s : _) (e f : _) → module_state.Post κs a r e → module_state.Post κs a s f → r ≡ s
one-module-state κs a r s e f p q = p ∙ sym q
