-- Each public operation's contract leaves one answer, one state after, and one content of the lent memory.
-- Assumes nothing.
use mathlib.Core.Path.{◌≡◌, sym, ap₂, ◌∙◌}
use Rattle.std.specs.Prelude.{Result}
use Rattle.rules.specs.declared.refusal.Refusal.{Refusal}
use Rattle.rules.proofs.OneAnswer.{same-answer, same-value}
use Rattle.two_ports.specs.declared.Ports.{Ports}
use Rattle.two_ports.proofs.PortRecord.empty.Reads as empty
use Rattle.two_ports.proofs.PortRecord.is_live.Reads as is_live
use Rattle.two_ports.proofs.Ports.is_out_of_range.Reads as is-out-of-range
use Rattle.two_ports.proofs.Ports.power_up.Reads as power-up
use Rattle.two_ports.proofs.Ports.powered.Reads as powered
use Rattle.two_ports.proofs.Ports.answer_at.Reads as answer-at
use Rattle.two_ports.proofs.Ports.refusal_at.Reads as refusal-at
use Rattle.two_ports.proofs.Ports.with_near.Reads as with-near
use Rattle.two_ports.proofs.views.with_emptied.Reads as with-emptied
use Rattle.two_ports.proofs.Ports.release.Reads as release
use Rattle.two_ports.proofs.Ports.select.Reads as select
use Rattle.two_ports.proofs.Ports.set_module.Reads as set-module
use Rattle.two_ports.proofs.Ports.set_near_port.Reads as set-near-port
use Rattle.two_ports.proofs.Ports.take.Reads as take
use Rattle.two_ports.proofs.Ports.tell.Reads as tell
use Rattle.two_ports.proofs.Ports.turn.Reads as turn
use Rattle.two_ports.proofs.Ports.view.Reads as view
use Rattle.two_ports.proofs.Ports.view_from.Reads as view-from
use Rattle.two_ports.proofs.Ports.word_refusal.Reads as word-refusal

-- ---- what a port sees

pub one-turn : (κs : _) (a : _) (r s : _) (e f : _) → turn.Post κs a r e → turn.Post κs a s f → e.0.now ≡ f.0.now
one-turn κs a r s e f p q = p ∙ sym q

pub one-view : (κs : _) (a : _) (r s : _) (e f : _) → view.Post κs a r e → view.Post κs a s f → r ≡ s
one-view κs a r s e f p q = p ∙ sym q

pub one-view-from : (κs : _) (a : _) (r s : _) (e f : _) → view-from.Post κs a r e → view-from.Post κs a s f → r ≡ s
one-view-from κs a r s e f p q = p ∙ sym q

pub one-is-live : (κs : _) (a : _) (r s : _) (e f : _) → is_live.Post κs a r e → is_live.Post κs a s f → r ≡ s
one-is-live κs a r s e f p q = p ∙ sym q

pub one-with-near : (κs : _) (a : _) (r s : _) (e f : _) → with-near.Post κs a r e → with-near.Post κs a s f → r ≡ s
one-with-near κs a r s e f p q = p ∙ sym q

pub one-with-emptied : (κs : _) (a : _) (r s : _) (e f : _) → with-emptied.Post κs a r e → with-emptied.Post κs a s f → r ≡ s
one-with-emptied κs a r s e f p q = p ∙ sym q

pub one-set-near-port : (κs : _) (a : _) (r s : _) (e f : _) → set-near-port.Post κs a r e → set-near-port.Post κs a s f → e.0.now ≡ f.0.now
one-set-near-port κs a r s e f p q = p ∙ sym q

pub one-empty : (κs : _) (a : _) (r s : _) (e f : _) → empty.Post κs a r e → empty.Post κs a s f → e.0.now ≡ f.0.now
one-empty κs a r s e f p q = p ∙ sym q

-- ---- refusals

pub one-is-out-of-range : (κs : _) (a : _) (r s : _) (e f : _) → is-out-of-range.Post κs a r e → is-out-of-range.Post κs a s f → r ≡ s
one-is-out-of-range κs a r s e f p q = p ∙ sym q

pub one-refusal-at : (κs : _) (a : _) (r s : _) (e f : _) → refusal-at.Post κs a r e → refusal-at.Post κs a s f → r ≡ s
one-refusal-at κs a r s e f p q = p ∙ sym q

pub one-answer-at : (κs : _) (a : _) (r s : _) (e f : _) → answer-at.Post κs a r e → answer-at.Post κs a s f → r ≡ s
one-answer-at κs a r s e f p q = same-answer r s (p.0 ∙ sym q.0)

pub one-word-refusal : (κs : _) (a : _) (r s : _) (e f : _) → word-refusal.Post κs a r e → word-refusal.Post κs a s f → r ≡ s
one-word-refusal κs a r s e f p q = same-answer r s (p.0 ∙ sym q.0)

-- ---- the calls

pub one-powered : (κs : _) (a : _) (r s : _) (e f : _) → powered.Post κs a r e → powered.Post κs a s f → r ≡ s
one-powered κs a r s e f p q = ap₂ (λ (x : Ports) (y : Result Unit Refusal). (x, y)) (p.1 ∙ sym q.1) (same-answer r.1 s.1 (p.0 ∙ sym q.0))

pub one-power-up : (κs : _) (a : _) (r s : _) (e f : _) → power-up.Post κs a r e → power-up.Post κs a s f → (r ≡ s) × (e.0.now ≡ f.0.now)
one-power-up κs a r s e f p q = (same-answer r s (p.0 ∙ sym q.0), p.1.0 ∙ sym q.1.0)

pub one-set-module : (κs : _) (a : _) (r s : _) (e f : _) → set-module.Post κs a r e → set-module.Post κs a s f → (r ≡ s) × (e.0.now ≡ f.0.now)
one-set-module κs a r s e f p q = (same-answer r s (p.0 ∙ sym q.0), p.1.0 ∙ sym q.1.0)

pub one-select : (κs : _) (a : _) (r s : _) (e f : _) → select.Post κs a r e → select.Post κs a s f → (r ≡ s) × (e.0.now ≡ f.0.now)
one-select κs a r s e f p q = (same-answer r s (p.0 ∙ sym q.0), p.1.0 ∙ sym q.1.0)

pub one-tell : (κs : _) (a : _) (r s : _) (e f : _) → tell.Post κs a r e → tell.Post κs a s f → (r ≡ s) × (e.0.now ≡ f.0.now)
one-tell κs a r s e f p q = (same-value _ r s (p.0 ∙ sym q.0) p.1.0 q.1.0, p.1.1.0 ∙ sym q.1.1.0)

pub one-take : (κs : _) (a : _) (r s : _) (e f : _) → take.Post κs a r e → take.Post κs a s f → (r ≡ s) × (e.0.now ≡ f.0.now)
one-take κs a r s e f p q = (same-answer r s (p.0 ∙ sym q.0), p.1.0 ∙ sym q.1.0)

pub one-release : (κs : _) (a : _) (r s : _) (e f : _) → release.Post κs a r e → release.Post κs a s f
    → (r ≡ s) × (e.0.now ≡ f.0.now) × (e.1.1.0.now ≡ f.1.1.0.now)
one-release κs a r s e f p q = (same-answer r s (p.0 ∙ sym q.0), p.1.0 ∙ sym q.1.0, p.1.1.0 ∙ sym q.1.1.0)
