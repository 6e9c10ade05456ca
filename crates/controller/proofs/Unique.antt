-- Each public operation's contract leaves one answer, one state after and one content of the lent buffer. Where an answer is an enum, it is found
-- again from its number and values, so no two of its cases give the same.
-- κs are the call's lifetimes, a its arguments, r and s two answers, e and f the parameters at exit.
-- Assumes nothing.
use Prim.Native.Nat.{ℕ, ◌<◌}
use mathlib.Core.Bool.{true≢false, cond}
use mathlib.Core.Path.{◌≡◌, refl, sym, ap, ◌∙◌}
use Rattle.std.specs.Prelude.{Result, Ok, Err, IfOk, get_or, [], ◌∷◌}
use native.Mathlib.Omega.{arith}
use Rattle.rules.specs.Refusal.{refusal_of}
use Rattle.rules.specs.declared.refusal.Refusal.{Refusal}
use Rattle.rules.proofs.OneAnswer.{same-answer, same-value, same-refusal, not-none}
use Rattle.token.specs.declared.response.Response.{Response}
use Rattle.controller.specs.Reader.{Answer, reading_gives}
use Rattle.controller.specs.Sure.{Start, started_gives, Said, verdict_gives}
use Rattle.controller.specs.Turns.{number_of_turn, NamesTurn}
use Rattle.controller.specs.declared.reader.Unread.{Unread}
use Rattle.controller.specs.declared.reader.Unread.TheVariants.{Payload, Token, Refused}
use Rattle.controller.specs.declared.sure.SureWrite.{SureWrite}
use Rattle.controller.specs.declared.sure.Verdict.{Verdict}
use Rattle.controller.specs.declared.sure.Verdict.TheVariants as verdict-as
use Rattle.controller.specs.declared.turn.Message.{Message}
use Rattle.controller.specs.declared.turn.Message.TheVariants.{First, Command, Last}
use Rattle.controller.specs.declared.turn.Turn.{Turn}
use Rattle.controller.specs.declared.turn.Turn.TheVariants.{Ask, Give, Done, Unsure}
use Rattle.controller.proofs.builder.build.Reads as build
use Rattle.controller.proofs.reader.payload_of.Reads as payload-of
use Rattle.controller.proofs.reader.read_answer.Reads as read_answer
use Rattle.controller.proofs.sure.SureWrite.ask.Reads as ask
use Rattle.controller.proofs.sure.SureWrite.give.Reads as give
use Rattle.controller.proofs.sure.SureWrite.start.Reads as start
use Rattle.controller.proofs.sure.SureWrite.verdict.Reads as verdict
use Rattle.controller.proofs.turn.Message.build.Reads as build-message
use Rattle.controller.proofs.turn.Message.command.Reads as command
use Rattle.controller.proofs.turn.Message.turn_after.Reads as turn-after-message
use Rattle.controller.proofs.turn.Message.turn_given.Reads as turn-given
use Rattle.controller.proofs.turn.Turn.asks.Reads as asks
use Rattle.controller.proofs.turn.Turn.gives.Reads as gives
use Rattle.controller.proofs.turn.TurnTryFromU8.try_from.Reads as try-from
use Rattle.controller.proofs.turn.U8FromTurn.from.Reads as from-turn
use Rattle.controller.proofs.turn.build_turn.Reads as build-turn
use Rattle.controller.proofs.turn.command_at.Reads as command-at
use Rattle.controller.proofs.turn.is_ask.Reads as is_ask
use Rattle.controller.proofs.turn.is_give.Reads as is-give
use Rattle.controller.proofs.turn.turn_after.Reads as turn-after

-- ---- message builder

pub one-build : (κs : _) (a : _) (r s : _) (e f : _) → build.Post κs a r e → build.Post κs a s f
    → (r ≡ s) × (e.1.1.1.1.0.now ≡ f.1.1.1.1.0.now)
one-build κs a r s e f p q = (same-value _ r s (p.0 ∙ sym q.0) p.1.0 q.1.0, p.1.1 ∙ sym q.1.1)

-- ---- answer reader

-- two readings that give the same are the same
pub same-reading : (r s : Result Response Unread) → reading_gives r ≡ reading_gives s → r ≡ s
same-reading (Ok f) (Ok g) h = ap (λ (a : Answer). Ok a.fields) h
same-reading (Err (Payload f)) (Err (Payload g)) h = ap (λ (a : Answer). Err (Payload a.fields)) h
same-reading (Err (Token w)) (Err (Token v)) h = ap (λ (a : Answer). Err (Token a.wrong)) h
same-reading (Err (Refused d)) (Err (Refused e)) h = ap (λ (r : Refusal). Err (Refused r)) (same-refusal d e (ap (λ (a : Answer). a.refusal) h))
same-reading (Ok f) (Err (Payload g)) h = absurd (true≢false (ap (λ (a : Answer). a.payload) h))
same-reading (Ok f) (Err (Token v)) h = absurd (true≢false (ap (λ (a : Answer). a.payload) h))
same-reading (Ok f) (Err (Refused e)) h = absurd (true≢false (ap (λ (a : Answer). a.payload) h))
same-reading (Err (Payload f)) (Ok g) h = absurd (true≢false (sym (ap (λ (a : Answer). a.payload) h)))
same-reading (Err (Payload f)) (Err (Token v)) h = absurd (true≢false (ap (λ (a : Answer). a.token) h))
same-reading (Err (Payload f)) (Err (Refused e)) h = absurd (true≢false (ap (λ (a : Answer). a.token) h))
same-reading (Err (Token w)) (Ok g) h = absurd (true≢false (sym (ap (λ (a : Answer). a.payload) h)))
same-reading (Err (Token w)) (Err (Payload g)) h = absurd (true≢false (sym (ap (λ (a : Answer). a.token) h)))
same-reading (Err (Token w)) (Err (Refused e)) h = absurd (not-none e (ap (λ (a : Answer). a.refusal) h))
same-reading (Err (Refused d)) (Ok g) h = absurd (true≢false (sym (ap (λ (a : Answer). a.payload) h)))
same-reading (Err (Refused d)) (Err (Payload g)) h = absurd (true≢false (sym (ap (λ (a : Answer). a.token) h)))
same-reading (Err (Refused d)) (Err (Token v)) h = absurd (not-none d (sym (ap (λ (a : Answer). a.refusal) h)))

pub one-read-answer : (κs : _) (a : _) (r s : _) (e f : _) → read_answer.Post κs a r e → read_answer.Post κs a s f → r ≡ s
one-read-answer κs a r s e f p q = same-reading r s (p.0 ∙ sym q.0)

pub one-payload-of : (κs : _) (a : _) (r s : _) (e f : _) → payload-of.Post κs a r e → payload-of.Post κs a s f → r.now ≡ s.now
one-payload-of κs a r s e f p q = p ∙ sym q

-- ---- turns by their names

turn_numbered : ℕ → Turn
turn_numbered n = get_or (Ask First ∷ Give First ∷ Ask Command ∷ Give Command ∷ Ask Last ∷ Give Last ∷ Done ∷ []) n Unsure

with-own-number : (t : Turn) → turn_numbered (number_of_turn t) ≡ t
unfolding turn_numbered
with-own-number (Ask First) = refl
with-own-number (Give First) = refl
with-own-number (Ask Command) = refl
with-own-number (Give Command) = refl
with-own-number (Ask Last) = refl
with-own-number (Give Last) = refl
with-own-number Done = refl
with-own-number Unsure = refl

-- no two turns have one number
pub same-turn : (t u : Turn) → number_of_turn t ≡ number_of_turn u → t ≡ u
same-turn t u h = sym (with-own-number t) ∙ ap turn_numbered h ∙ with-own-number u

up-to-7 : (t : Turn) → 7 < number_of_turn t → ⊥
up-to-7 (Ask First) h = absurd (omega arith)
up-to-7 (Give First) h = absurd (omega arith)
up-to-7 (Ask Command) h = absurd (omega arith)
up-to-7 (Give Command) h = absurd (omega arith)
up-to-7 (Ask Last) h = absurd (omega arith)
up-to-7 (Give Last) h = absurd (omega arith)
up-to-7 Done h = absurd (omega arith)
up-to-7 Unsure h = absurd (omega arith)

same-named : (n : ℕ) (r s : Result Turn Refusal) → NamesTurn n r → NamesTurn n s → r ≡ s
same-named n (Ok t) (Ok u) p q = ap Ok (same-turn t u (p ∙ sym q))
same-named n (Ok t) (Err e) p q = absurd (up-to-7 t (rw p q.1))
same-named n (Err d) (Ok u) p q = absurd (up-to-7 u (rw q p.1))
same-named n (Err d) (Err e) p q = ap Err (p.0 ∙ sym q.0)

pub one-try-from : (κs : _) (a : _) (r s : _) (e f : _) → try-from.Post κs a r e → try-from.Post κs a s f → r ≡ s
one-try-from κs a r s e f p q = same-named _ r s p q

message_at : Turn → Message
message_at (Ask m) = m
message_at (Give m) = m
message_at Done = First
message_at Unsure = First

-- a message that is named by its turn's number
same-message : (turn : Message → Turn) → ((m : Message) → message_at (turn m) ≡ m) → (n : ℕ) (r s : Result Message Refusal) → refusal_of r ≡ refusal_of s
    → IfOk r (λ m. number_of_turn (turn m) ≡ n) → IfOk s (λ m. number_of_turn (turn m) ≡ n) → r ≡ s
same-message turn back n (Ok a) (Ok b) h p q = ap Ok (sym (back a) ∙ ap message_at (same-turn (turn a) (turn b) (p ∙ sym q)) ∙ back b)
same-message turn back n (Ok a) (Err e) h p q = absurd (not-none e h)
same-message turn back n (Err d) (Ok b) h p q = absurd (not-none d (sym h))
same-message turn back n (Err d) (Err e) h p q = ap Err (same-refusal d e h)

pub one-asks : (κs : _) (a : _) (r s : _) (e f : _) → asks.Post κs a r e → asks.Post κs a s f → r ≡ s
unfolding message_at
one-asks κs a r s e f p q = same-message Ask (λ m. refl) _ r s (p.0 ∙ sym q.0) p.1.0 q.1.0

pub one-gives : (κs : _) (a : _) (r s : _) (e f : _) → gives.Post κs a r e → gives.Post κs a s f → r ≡ s
unfolding message_at
one-gives κs a r s e f p q = same-message Give (λ m. refl) _ r s (p.0 ∙ sym q.0) p.1 q.1

pub one-from-turn : (κs : _) (a : _) (r s : _) (e f : _) → from-turn.Post κs a r e → from-turn.Post κs a s f → r ≡ s
one-from-turn κs a r s e f p q = p ∙ sym q

-- ---- any command in the middle

pub one-command : (κs : _) (a : _) (r s : _) (e f : _) → command.Post κs a r e → command.Post κs a s f → r ≡ s
one-command κs a r s e f p q = p.0 ∙ sym q.0

pub one-build-message : (κs : _) (a : _) (r s : _) (e f : _) → build-message.Post κs a r e → build-message.Post κs a s f
    → (r ≡ s) × (e.1.1.1.0.now ≡ f.1.1.1.0.now)
one-build-message κs a r s e f p q = (same-value _ r s (p.0 ∙ sym q.0) p.1.0 q.1.0, p.1.1 ∙ sym q.1.1)

pub one-turn-after-message : (κs : _) (a : _) (r s : _) (e f : _) → turn-after-message.Post κs a r e → turn-after-message.Post κs a s f → r ≡ s
one-turn-after-message κs a r s e f p q = same-turn r s (p ∙ sym q)

same-given : (n : ℕ) (r s : Result Turn Refusal) → (refusal_of r ≡ refusal_of s)
    → IfOk r (λ t. number_of_turn t ≡ n) → IfOk s (λ t. number_of_turn t ≡ n) → r ≡ s
same-given n (Ok t) (Ok u) h p q = ap Ok (same-turn t u (p ∙ sym q))
same-given n (Ok t) (Err e) h p q = absurd (not-none e h)
same-given n (Err d) (Ok u) h p q = absurd (not-none d (sym h))
same-given n (Err d) (Err e) h p q = ap Err (same-refusal d e h)

pub one-turn-given : (κs : _) (a : _) (r s : _) (e f : _) → turn-given.Post κs a r e → turn-given.Post κs a s f → r ≡ s
one-turn-given κs a r s e f p q = same-given _ r s (p.0 ∙ sym q.0) p.1 q.1

pub one-command-at : (κs : _) (a : _) (r s : _) (e f : _) → command-at.Post κs a r e → command-at.Post κs a s f → r ≡ s
one-command-at κs a r s e f p q = p ∙ sym q

pub one-is-ask : (κs : _) (a : _) (r s : _) (e f : _) → is_ask.Post κs a r e → is_ask.Post κs a s f → r ≡ s
one-is-ask κs a r s e f p q = p ∙ sym q

pub one-is-give : (κs : _) (a : _) (r s : _) (e f : _) → is-give.Post κs a r e → is-give.Post κs a s f → r ≡ s
one-is-give κs a r s e f p q = p ∙ sym q

pub one-build-turn : (κs : _) (a : _) (r s : _) (e f : _) → build-turn.Post κs a r e → build-turn.Post κs a s f
    → (r ≡ s) × (e.1.1.1.0.now ≡ f.1.1.1.0.now)
one-build-turn κs a r s e f p q = (same-value _ r s (p.0 ∙ sym q.0) p.1.0 q.1.0, p.1.1 ∙ sym q.1.1)

pub one-turn-after : (κs : _) (a : _) (r s : _) (e f : _) → turn-after.Post κs a r e → turn-after.Post κs a s f → r ≡ s
one-turn-after κs a r s e f p q = p ∙ sym q

-- ---- the sure write

-- two starts that give the same are the same
pub same-started : (r s : Result SureWrite Refusal) → started_gives r ≡ started_gives s → r ≡ s
same-started (Ok a) (Ok b) h = ap (λ (w : Start). Ok w.state) h
same-started (Ok a) (Err e) h = absurd (not-none e (ap (λ (w : Start). w.refusal) h))
same-started (Err d) (Ok b) h = absurd (not-none d (sym (ap (λ (w : Start). w.refusal) h)))
same-started (Err d) (Err e) h = ap Err (same-refusal d e (ap (λ (w : Start). w.refusal) h))

pub one-start : (κs : _) (a : _) (r s : _) (e f : _) → start.Post κs a r e → start.Post κs a s f → r ≡ s
one-start κs a r s e f p q = same-started r s (p ∙ sym q)

pub one-ask : (κs : _) (a : _) (r s : _) (e f : _) → ask.Post κs a r e → ask.Post κs a s f
    → (r ≡ s) × (e.0.now ≡ f.0.now) × (e.1.1.0.now ≡ f.1.1.0.now)
one-ask κs a r s e f p q = (same-value _ r s (p.0 ∙ sym q.0) p.1.0 q.1.0, p.1.1.0 ∙ sym q.1.1.0, p.1.1.1 ∙ sym q.1.1.1)

pub one-give : (κs : _) (a : _) (r s : _) (e f : _) → give.Post κs a r e → give.Post κs a s f → (r ≡ s) × (e.0.now ≡ f.0.now)
one-give κs a r s e f p q = (same-answer r s (p.0 ∙ sym q.0), p.1 ∙ sym q.1)

verdict_in : Said → Verdict
verdict_in s = cond s.done verdict-as.Done (cond s.unsure verdict-as.Unsure verdict-as.NotYet)

said-none : (v : Verdict) → (verdict_gives (Ok v)).refusal ≡ 0
said-none verdict-as.NotYet = refl
said-none verdict-as.Done = refl
said-none verdict-as.Unsure = refl

verdict-found : (v : Verdict) → verdict_in (verdict_gives (Ok v)) ≡ v
unfolding verdict_in
verdict-found verdict-as.NotYet = refl
verdict-found verdict-as.Done = refl
verdict-found verdict-as.Unsure = refl

-- two verdicts that give the same are the same
pub same-verdict : (r s : Result Verdict Refusal) → verdict_gives r ≡ verdict_gives s → r ≡ s
same-verdict (Ok v) (Ok w) h = ap Ok (sym (verdict-found v) ∙ ap verdict_in h ∙ verdict-found w)
same-verdict (Ok v) (Err e) h = absurd (not-none e (sym (said-none v) ∙ ap (λ (s : Said). s.refusal) h))
same-verdict (Err d) (Ok w) h = absurd (not-none d (sym (ap (λ (s : Said). s.refusal) h ∙ said-none w)))
same-verdict (Err d) (Err e) h = ap Err (same-refusal d e (ap (λ (s : Said). s.refusal) h))

pub one-verdict : (κs : _) (a : _) (r s : _) (e f : _) → verdict.Post κs a r e → verdict.Post κs a s f → r ≡ s
one-verdict κs a r s e f p q = same-verdict r s (p ∙ sym q)
