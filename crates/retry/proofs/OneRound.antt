-- One round is the sure write, call by call.
-- Assumes nothing.
use Prim.Native.Nat.{ℕ, ◌+◌, ◌≤◌, ◌<◌}
use native.Mathlib.Omega.{arith}
use mathlib.Core.Bool.{Bool, true, false, cond, ◌&&◌}
use mathlib.Core.List.{List, [], ◌∷◌}
use mathlib.Core.Logic.{inr, ⊎_elim}
use mathlib.Core.Path.{◌≡◌, refl, sym, ap, ◌∙◌}
use borrow.Author.Tests.{eqb-true, eq-eqb, le-ltb}
use lib.Dec.{eqb, ltb, lit≤, lit<}
use lib.ListN.{length}
use Rattle.rules.specs.Refusals as refusal
use Rattle.rules.specs.Rules.{message_words, write}
use Rattle.token.specs.Command.{command, command_fits}
use Rattle.token.specs.declared.command.Command.{Command}
use Rattle.controller.specs.Sure.{command_at, turn_after, write_command, sure, with_turn, started, out_of_range, ask_refusal, asked, asked_buffer, give_refusal, given, verdict_of}
use Rattle.retry.specs.Promises.{RoundsCall, ask, give, rounds_after, sure_of, start_of, asked_of, given_of, said_of, IsOne, OneRound}
use Rattle.retry.specs.Rounds.{rounds, may_repeat, may_start, RoundsStart, no_rounds, short_rounds, rounds_started, ended_rounds, counted, settled, rounds_ask_refusal, rounds_asked, rounds_asked_buffer, rounds_give_refusal, rounds_given, again_at, rounds_verdict}
use Rattle.retry.specs.declared.Rounds.{Rounds}
use Rattle.retry.proofs.StateLaws.{start-limits, repeats, Ranged, in-range, ranged-in, open-left, give-low, give-in-turn, asks-in, gives-in, ask-same as ask-same-command, give-same as give-same-command}

-- of WRITE, all that is asked is a token
write-starts : (len sub : ℕ) → may_start (command write.code len sub) 1 ≡ command_fits (command write.code len sub)
unfolding may_start may_repeat
write-starts len sub = go (command_fits (command write.code len sub))
  where
    go : (b : Bool) → (b && true && true && true && true) ≡ b
    go true = refl
    go false = refl

starts-one : (len sub : ℕ) → start_of (short_rounds len sub) ≡ started len sub
unfolding rounds_started started
starts-one len sub = rw (write-starts len sub) (go (command_fits (command write.code len sub)))
  where
    go : (b : Bool) → start_of (cond b (record { refusal = refusal.none; state = rounds (command write.code len sub) 1 0 0 0 }) (record { refusal = refusal.argument; state = rounds (command 0 0 0) 0 0 0 0 }))
        ≡ cond b (record { refusal = refusal.none; state = sure len sub 0 }) (record { refusal = refusal.argument; state = sure 0 0 0 })
    go true = refl
    go false = refl

-- with one round, the turn is the sure write's
pub settled-one : (s : Rounds) (turn : ℕ) → s.most ≡ 1 → ended_rounds s < s.most → sure_of (settled s turn) ≡ with_turn (sure_of s) turn
unfolding settled counted
settled-one s turn one left = go (eqb turn 7) (eqb s.turn 1) refl
  where
    go : (b f : Bool) → eqb turn 7 ≡ b
        → sure_of (cond b (cond f (counted s (s.early + 1) s.late) (counted s s.early (s.late + 1))) (rounds s.command s.most s.early s.late turn))
        ≡ with_turn (sure_of s) turn
    go true true q = rw (eq-eqb (s.early + 1 + s.late) s.most (omega arith), eqb-true turn 7 q)
    go true false q = rw (eq-eqb (s.early + (s.late + 1)) s.most (omega arith), eqb-true turn 7 q)
    go false f q = refl

module _ (s : Rounds) (one : IsOne s) where
  ranged : Ranged s
  ranged = in-range s one.in_range

  same-command : write_command (sure_of s) ≡ s.command
  same-command = ap (λ (code : ℕ). command code s.command.length s.command.sub_address) (sym one.writes)

  turn-in : s.turn ≤ 7
  turn-in = ⊎_elim (λ (p, q). omega arith) (λ (p, q). omega arith) ranged.place

  state-in : out_of_range (sure_of s) ≡ false
  unfolding out_of_range
  state-in = rw (same-command, (repeats s.command (start-limits s.command s.most ranged.starts).repeats).fits, le-ltb 7 s.turn turn-in)

  ask-same : (count room : ℕ) → ask_refusal (sure_of s) count room ≡ rounds_ask_refusal s count room
  unfolding rounds_ask_refusal ask_refusal
  ask-same count room = rw (one.in_range, state-in, same-command)

  give-same : (count : ℕ) → give_refusal (sure_of s) count ≡ rounds_give_refusal s count
  unfolding rounds_give_refusal give_refusal
  give-same count = rw (one.in_range, state-in, same-command)

  asks-one : (block : List ℕ) (room : ℕ) → asked_of (rounds_asked s block room) ≡ asked (sure_of s) block room
  unfolding rounds_asked asked
  asks-one block room = rw (ask-same (length block) room, same-command) (go (eqb (rounds_ask_refusal s (length block) room) refusal.none))
    where
      go : (b : Bool)
          → asked_of (cond b (record { refusal = refusal.none; words = message_words (command_at s.command s.turn).length; state = rounds s.command s.most s.early s.late (s.turn + 1) })
          (record { refusal = rounds_ask_refusal s (length block) room; words = 0; state = s }))
          ≡ cond b (record { refusal = refusal.none; words = message_words (command_at s.command s.turn).length; state = with_turn (sure_of s) (s.turn + 1) })
          (record { refusal = rounds_ask_refusal s (length block) room; words = 0; state = sure_of s })
      go true = refl
      go false = refl

  buffers-one : (block buffer : List ℕ) → rounds_asked_buffer s block buffer ≡ asked_buffer (sure_of s) block buffer
  unfolding rounds_asked_buffer asked_buffer
  buffers-one block buffer = rw (ask-same (length block) (length buffer), same-command)

  gives-one : (words : List ℕ) → given_of (rounds_given s words) ≡ given (sure_of s) words
  unfolding rounds_given given
  gives-one words = rw (give-same (length words), same-command) (go (eqb (rounds_give_refusal s (length words)) refusal.none) refl)
    where
      go : (b : Bool) → eqb (rounds_give_refusal s (length words)) refusal.none ≡ b
          → given_of (cond b (record { refusal = refusal.none; state = settled s (turn_after s.command s.turn words) })
          (record { refusal = rounds_give_refusal s (length words); state = s }))
          ≡ cond b (record { refusal = refusal.none; state = with_turn (sure_of s) (turn_after s.command s.turn words) })
          (record { refusal = rounds_give_refusal s (length words); state = sure_of s })
      go true e =
          rw (settled-one s (turn_after s.command s.turn words) one.single
          (open-left s ranged (give-low s.turn (give-in-turn s (length words) e))))
      go false e = refl

  says-one : said_of (rounds_verdict s) ≡ verdict_of (sure_of s)
  unfolding rounds_verdict verdict_of
  says-one = rw (one.in_range, state-in)

  -- at turn 0 no round has ended
  ends-one : (rounds_verdict s).again ≡ false
  unfolding rounds_verdict again_at
  ends-one = rw one.in_range (go (eqb s.turn 0) refl)
    where
      go : (b : Bool) → eqb s.turn 0 ≡ b → (b && ltb 0 (ended_rounds s)) ≡ false
      go false e = refl
      go true e =
          let zero : s.turn ≡ 0 = eqb-true s.turn 0 e in
          let single : s.most ≡ 1 = one.single in
          let left : ended_rounds s < s.most = open-left s ranged (omega arith) in
          le-ltb 0 (ended_rounds s) (omega arith)

begins-one : (len sub : ℕ) → (short_rounds len sub).refusal ≡ refusal.none → IsOne (short_rounds len sub).state
unfolding rounds_started
begins-one len sub = go (may_start (command write.code len sub) 1) refl
  where
    go : (b : Bool) → may_start (command write.code len sub) 1 ≡ b
        → (let a : RoundsStart = cond b (record { refusal = refusal.none; state = rounds (command write.code len sub) 1 0 0 0 }) no_rounds in
        a.refusal ≡ refusal.none → IsOne a.state)
    go true starts none = record { writes = refl; single = refl; in_range = ranged-in _ (record { starts = starts; place = inr (lit≤ tt, lit< tt) }) }
    go false starts none = absurd (omega (arith, none))

-- ask and give keep it
ask-one : (s : Rounds) → IsOne s → (block : List ℕ) (room : ℕ) → IsOne (rounds_asked s block room).state
ask-one s one block room =
    let (command-stays, most-stays) = ask-same-command s block room in
    record { writes = ap (λ (t : Command). t.code) command-stays ∙ one.writes; single = most-stays ∙ one.single; in_range = asks-in s one.in_range block room }

give-one : (s : Rounds) → IsOne s → (words : List ℕ) → IsOne (rounds_given s words).state
give-one s one words =
    let (command-stays, most-stays) = give-same-command s words in
    record { writes = ap (λ (t : Command). t.code) command-stays ∙ one.writes; single = most-stays ∙ one.single; in_range = gives-in s one.in_range words }

stays-one : (s : Rounds) → IsOne s → (calls : List RoundsCall) → IsOne (rounds_after s calls)
unfolding rounds_after
stays-one s one [] = one
stays-one s one (ask block buffer ∷ calls) = stays-one (rounds_asked s block (length buffer)).state (ask-one s one block (length buffer)) calls
stays-one s one (give words ∷ calls) = stays-one (rounds_given s words).state (give-one s one words) calls

pub one-round : OneRound
one-round = record { begins = begins-one; stays = stays-one; starts = starts-one; asks = asks-one; buffers = buffers-one; gives = gives-one; says = says-one; ends = ends-one }
