-- Each public operation's contract leaves one answer, one state after and one content of the lent buffer. Where an answer is an enum, it is found
-- again from its number and values, so no two of its cases give the same.
-- κs are the call's lifetimes, a its arguments, r and s two answers, e and f the parameters at exit.
-- Assumes nothing.
use mathlib.Core.Bool.{cond}
use mathlib.Core.Path.{◌≡◌, refl, sym, ap, ◌∙◌}
use Rattle.std.specs.Prelude.{Result, Ok, Err}
use Rattle.rules.specs.declared.refusal.Refusal.{Refusal}
use Rattle.rules.proofs.OneAnswer.{same-answer, same-value, same-refusal, not-none}
use Rattle.retry.specs.Rounds.{RoundsStart, rounds_start_gives, RoundsSaid, rounds_verdict_gives}
use Rattle.retry.specs.declared.Rounds.{Rounds}
use Rattle.retry.specs.declared.RoundsVerdict.{RoundsVerdict}
use Rattle.retry.specs.declared.RoundsVerdict.TheVariants as verdict-as
use Rattle.retry.proofs.Rounds.ask.Reads as ask
use Rattle.retry.proofs.Rounds.give.Reads as give
use Rattle.retry.proofs.Rounds.start.Reads as start
use Rattle.retry.proofs.Rounds.start_command.Reads as start-command
use Rattle.retry.proofs.Rounds.start_short.Reads as start-short
use Rattle.retry.proofs.Rounds.verdict.Reads as verdict
use Rattle.retry.proofs.Rounds.words.Reads as words

-- ---- start

-- two starts that give the same are the same
pub same-rounds-started : (r s : Result Rounds Refusal) → rounds_start_gives r ≡ rounds_start_gives s → r ≡ s
same-rounds-started (Ok a) (Ok b) h = ap (λ (w : RoundsStart). Ok w.state) h
same-rounds-started (Ok a) (Err e) h = absurd (not-none e (ap (λ (w : RoundsStart). w.refusal) h))
same-rounds-started (Err d) (Ok b) h = absurd (not-none d (sym (ap (λ (w : RoundsStart). w.refusal) h)))
same-rounds-started (Err d) (Err e) h = ap Err (same-refusal d e (ap (λ (w : RoundsStart). w.refusal) h))

pub one-start-command : (κs : _) (a : _) (r s : _) (e f : _) → start-command.Post κs a r e → start-command.Post κs a s f → r ≡ s
one-start-command κs a r s e f p q = same-rounds-started r s (p ∙ sym q)

pub one-start : (κs : _) (a : _) (r s : _) (e f : _) → start.Post κs a r e → start.Post κs a s f → r ≡ s
one-start κs a r s e f p q = same-rounds-started r s (p ∙ sym q)

pub one-start-short : (κs : _) (a : _) (r s : _) (e f : _) → start-short.Post κs a r e → start-short.Post κs a s f → r ≡ s
one-start-short κs a r s e f p q = same-rounds-started r s (p ∙ sym q)

-- ---- ask and give

pub one-ask : (κs : _) (a : _) (r s : _) (e f : _) → ask.Post κs a r e → ask.Post κs a s f
    → (r ≡ s) × (e.0.now ≡ f.0.now) × (e.1.1.0.now ≡ f.1.1.0.now)
one-ask κs a r s e f p q = (same-value _ r s (p.0 ∙ sym q.0) p.1.0 q.1.0, p.1.1.0 ∙ sym q.1.1.0, p.1.1.1 ∙ sym q.1.1.1)

pub one-give : (κs : _) (a : _) (r s : _) (e f : _) → give.Post κs a r e → give.Post κs a s f → (r ≡ s) × (e.0.now ≡ f.0.now)
one-give κs a r s e f p q = (same-answer r s (p.0 ∙ sym q.0), p.1 ∙ sym q.1)

-- ---- verdict

verdict_in : RoundsSaid → RoundsVerdict
verdict_in s = cond s.again verdict-as.Again (cond s.done verdict-as.Done (cond s.unsure verdict-as.Unsure verdict-as.NotYet))

said-none : (v : RoundsVerdict) → (rounds_verdict_gives (Ok v)).refusal ≡ 0
said-none verdict-as.NotYet = refl
said-none verdict-as.Again = refl
said-none verdict-as.Done = refl
said-none verdict-as.Unsure = refl

verdict-found : (v : RoundsVerdict) → verdict_in (rounds_verdict_gives (Ok v)) ≡ v
unfolding verdict_in
verdict-found verdict-as.NotYet = refl
verdict-found verdict-as.Again = refl
verdict-found verdict-as.Done = refl
verdict-found verdict-as.Unsure = refl

-- two verdicts that give the same are the same
pub same-rounds-verdict : (r s : Result RoundsVerdict Refusal) → rounds_verdict_gives r ≡ rounds_verdict_gives s → r ≡ s
same-rounds-verdict (Ok v) (Ok w) h = ap Ok (sym (verdict-found v) ∙ ap verdict_in h ∙ verdict-found w)
same-rounds-verdict (Ok v) (Err e) h = absurd (not-none e (sym (said-none v) ∙ ap (λ (s : RoundsSaid). s.refusal) h))
same-rounds-verdict (Err d) (Ok w) h = absurd (not-none d (sym (ap (λ (s : RoundsSaid). s.refusal) h ∙ said-none w)))
same-rounds-verdict (Err d) (Err e) h = ap Err (same-refusal d e (ap (λ (s : RoundsSaid). s.refusal) h))

pub one-verdict : (κs : _) (a : _) (r s : _) (e f : _) → verdict.Post κs a r e → verdict.Post κs a s f → r ≡ s
one-verdict κs a r s e f p q = same-rounds-verdict r s (p ∙ sym q)

-- ---- the words laid out for the bus

pub one-words : (κs : _) (a : _) (r s : _) (e f : _) → words.Post κs a r e → words.Post κs a s f → r ≡ s
one-words κs a r s e f p q = same-value _ r s (p.0 ∙ sym q.0) p.1 q.1
