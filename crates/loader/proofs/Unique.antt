-- Each public operation's contract leaves one answer, one state after it and one content of the lent buffer.
-- κs are the call's lifetimes, a its arguments, r and s two answers, e and f the parameters at exit.
-- Assumes nothing.
use mathlib.Core.Path.{◌≡◌, sym, ◌∙◌}
use Rattle.rules.proofs.OneAnswer.{same-value}
use Rattle.loader.proofs.Loader.start.Reads as start
use Rattle.loader.proofs.Loader.card_now.Reads as card-now
use Rattle.loader.proofs.Loader.all_over.Reads as all-over
use Rattle.loader.proofs.Loader.ask.Reads as ask
use Rattle.loader.proofs.Loader.give.Reads as give

pub one-start : (κs : _) (a : _) (r s : _) (e f : _) → start.Post κs a r e → start.Post κs a s f → r ≡ s
one-start κs a r s e f p q = same-value _ r s (p.0 ∙ sym q.0) p.1 q.1

pub one-card-now : (κs : _) (a : _) (r s : _) (e f : _) → card-now.Post κs a r e → card-now.Post κs a s f → r ≡ s
one-card-now κs a r s e f p q = same-value _ r s (p.0 ∙ sym q.0) p.1 q.1

pub one-all-over : (κs : _) (a : _) (r s : _) (e f : _) → all-over.Post κs a r e → all-over.Post κs a s f → r ≡ s
one-all-over κs a r s e f p q = same-value _ r s (p.0 ∙ sym q.0) p.1 q.1

pub one-ask : (κs : _) (a : _) (r s : _) (e f : _) → ask.Post κs a r e → ask.Post κs a s f
    → (r ≡ s) × (e.0.now ≡ f.0.now) × (e.1.1.0.now ≡ f.1.1.0.now)
one-ask κs a r s e f p q =
    (same-value _ r s (p.0 ∙ sym q.0) p.1.0 q.1.0, p.1.1.0 ∙ sym q.1.1.0, p.1.1.1 ∙ sym q.1.1.1)

pub one-give : (κs : _) (a : _) (r s : _) (e f : _) → give.Post κs a r e → give.Post κs a s f → (r ≡ s) × (e.0.now ≡ f.0.now)
one-give κs a r s e f p q = (same-value _ r s (p.0 ∙ sym q.0) p.1.0 q.1.0, p.1.1 ∙ sym q.1.1)
