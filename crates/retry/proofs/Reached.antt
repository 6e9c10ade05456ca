-- Every state in range is one that some calls make of a start: rounds that end early, rounds that end late, and the turns of the running one.
-- Assumes nothing.
use Prim.Native.Nat.{ℕ, zero, suc, ◌+◌, ◌≤◌, ◌<◌}
use native.Mathlib.Omega.{arith}
use mathlib.Core.Bool.{true, false, cond}
use mathlib.Core.List.{List, [], ◌∷◌}
use mathlib.Core.Logic.{inl, inr}
use mathlib.Core.Path.{◌≡◌, refl, sym, ap, ◌∙◌}
use borrow.Author.Tests.{eq-eqb, ne_eqb}
use lib.Dec.{eqb, lit≤}
use lib.ListN.{length, replicate, length-replicate}
use Rattle.bits.specs.Bits.{bits, number, stream}
use Rattle.crc.specs.Crc.{shift, step, feed, crc, taps4, taps16, crc4, crc16, crc16_after, agrees}
use Rattle.rules.specs.Rules.{message_words}
use Rattle.token.specs.Command.{command_fits, command_first, command_second, command_marks, good_command}
use Rattle.token.specs.Marks.{check_right, good_marks}
use Rattle.token.specs.Response.{any_set, response_marks, good_response, response_fields, response_read}
use Rattle.token.specs.declared.command.Command.{Command}
use Rattle.token.proofs.CommandTrip.{limits}
use Rattle.controller.specs.Builder.{is_reading, block_fits}
use Rattle.controller.specs.Reader.{read_refusal, token_good, payload_good, fields_read, answer_read}
use Rattle.controller.specs.Sure.{readback_command, command_at, is_ask, is_give, read_good, passes, is_token, confirms, turn_after}
use Rattle.retry.specs.Promises.{RoundsCall, ask, give, rounds_after, Led}
use Rattle.retry.specs.Rounds.{rounds, may_start, rounds_started, out_of_rounds, counted, settled}
use Rattle.retry.specs.declared.Rounds.{Rounds}
use Rattle.retry.specs.Answers.{RoundsAsked}
use Rattle.retry.specs.Answers.{RoundsGiven}
use Rattle.retry.proofs.CallLaws.{asked-at, given-at}
use Rattle.retry.proofs.StateLaws.{start-limits, repeats, Place, in-range, ranged-in}
use Rattle.retry.proofs.WordLaws.{message-short}

-- ---- what is lent and given

-- a buffer with room for every message
abbrev buffer : List ℕ
buffer = replicate 66 0

-- an answer to READBACK that is not good, and a card's that shows RESET's token
abbrev not_good : List ℕ
not_good = 0 ∷ 0 ∷ 0 ∷ 0 ∷ 0 ∷ []

abbrev shows_reset : List ℕ
shows_reset = 0x8000 ∷ 0x8780 ∷ 0x40C0 ∷ 0x4033 ∷ 0x0FB1 ∷ []

-- one that shows a command's token
abbrev shows : Command → List ℕ
shows t = 0x8000 ∷ 0x8780 ∷ command_first t ∷ command_second t ∷ crc16 (command_first t ∷ command_second t ∷ []) ∷ []

not-good : read_good not_good ≡ false
unfolding read_good answer_read read_refusal token_good payload_good response_read message_words good_response response_marks good_marks check_right crc4 crc feed step shift stream number bits taps4
not-good = refl

reset-passes : passes shows_reset ≡ true
unfolding passes read_good answer_read read_refusal token_good payload_good response_read agrees message_words good_command command_marks good_response response_marks good_marks check_right crc4 crc16_after crc feed step shift stream number bits taps4 taps16
reset-passes = refl

-- the token of its response is good, and its status clean
clean-answer : ((response_read 0x8000 0x8780).good ≡ true) × (any_set (response_read 0x8000 0x8780).fields.status ≡ false)
unfolding response_read good_response response_marks response_fields good_marks check_right any_set crc4 crc feed step shift stream number bits taps4
clean-answer = (refl, refl)

shows-confirms : (t : Command) → command_fits t ≡ true → confirms t (shows t) ≡ true
unfolding confirms read_good answer_read read_refusal token_good payload_good fields_read agrees message_words is_token
shows-confirms t fits =
    rw (clean-answer.0, clean-answer.1, fits, eq-eqb (crc16 (command_first t ∷ command_second t ∷ [])) _ refl, eq-eqb (command_first t) _ refl, eq-eqb (command_second t) _ refl)

-- ---- one turn after the other

module _ (t : Command) (most : ℕ) (starts : may_start t most ≡ true) where
  fits : command_fits t ≡ true
  fits = (repeats t (start-limits t most starts).repeats).fits

  -- the command's block
  abbrev count : ℕ
  count = cond (is_reading t.code) 0 t.length

  abbrev block : List ℕ
  block = replicate count 0

  block-fits : block_fits t (length block) ≡ true
  unfolding block_fits
  block-fits = eq-eqb _ _ (length-replicate count 0)

  room : message_words t.length ≤ length buffer
  room =
      let (code, len, sub) = limits t fits in
      omega (arith, message-short t.length)

  -- the call that leads from one turn to the next, and those that lead to a turn
  call_at : ℕ → RoundsCall
  call_at zero = ask [] buffer
  call_at (suc zero) = give shows_reset
  call_at (suc (suc zero)) = ask block buffer
  call_at (suc (suc (suc zero))) = give (replicate (message_words t.length) 0)
  call_at (suc (suc (suc (suc zero)))) = ask [] buffer
  call_at (suc (suc (suc (suc (suc n))))) = give (shows t)

  up_to : ℕ → List RoundsCall → List RoundsCall
  up_to zero calls = calls
  up_to (suc n) calls = up_to n (call_at n ∷ calls)

  module _ (e l : ℕ) (left : e + l < most) where
    abbrev at : ℕ → Rounds
    at turn = rounds t most e l turn

    at-in : (turn : ℕ) → turn ≤ 6 → out_of_rounds (at turn) ≡ false
    at-in turn h = ranged-in (at turn) (record { starts = starts; place = inr (h, left) })

    -- asks
    ask-first : (calls : List RoundsCall) → rounds_after (at 0) (ask [] buffer ∷ calls) ≡ rounds_after (at 1) calls
    unfolding rounds_after command_at is_ask command_fits block_fits is_reading message_words
    ask-first calls =
        ap (λ (a : RoundsAsked). rounds_after a.state calls)
        (asked-at (at 0) readback_command [] buffer
        (record { in_range = at-in 0 (lit≤ tt); turn = refl; command_is = refl; fits = refl; fits_block = refl; room = lit≤ tt }))

    ask-command : (calls : List RoundsCall) → rounds_after (at 2) (ask block buffer ∷ calls) ≡ rounds_after (at 3) calls
    unfolding rounds_after command_at is_ask
    ask-command calls =
        ap (λ (a : RoundsAsked). rounds_after a.state calls)
        (asked-at (at 2) t block buffer
        (record { in_range = at-in 2 (lit≤ tt); turn = refl; command_is = refl; fits = fits; fits_block = block-fits; room = room }))

    ask-last : (calls : List RoundsCall) → rounds_after (at 4) (ask [] buffer ∷ calls) ≡ rounds_after (at 5) calls
    unfolding rounds_after command_at is_ask command_fits block_fits is_reading message_words
    ask-last calls =
        ap (λ (a : RoundsAsked). rounds_after a.state calls)
        (asked-at (at 4) readback_command [] buffer
        (record { in_range = at-in 4 (lit≤ tt); turn = refl; command_is = refl; fits = refl; fits_block = refl; room = lit≤ tt }))

    -- gives
    give-by : (turn : ℕ) → turn ≤ 6 → is_give turn ≡ true → (words : List ℕ) → length words ≡ message_words (command_at t turn).length
        → (calls : List RoundsCall) → rounds_after (at turn) (give words ∷ calls) ≡ rounds_after (settled (at turn) (turn_after t turn words)) calls
    unfolding rounds_after
    give-by turn h gives words same calls = ap (λ (a : RoundsGiven). rounds_after a.state calls) (given-at (at turn) words (at-in turn h) gives same)

    give-passing : (calls : List RoundsCall) → rounds_after (at 1) (give shows_reset ∷ calls) ≡ rounds_after (at 2) calls
    unfolding is_give command_at message_words turn_after settled
    give-passing calls = give-by 1 (lit≤ tt) refl shows_reset refl calls ∙ rw reset-passes

    give-command : (calls : List RoundsCall) → rounds_after (at 3) (give (replicate (message_words t.length) 0) ∷ calls) ≡ rounds_after (at 4) calls
    unfolding is_give command_at turn_after settled
    give-command calls = give-by 3 (lit≤ tt) refl (replicate (message_words t.length) 0) (length-replicate (message_words t.length) 0) calls

    give-confirming : (calls : List RoundsCall) → rounds_after (at 5) (give (shows t) ∷ calls) ≡ rounds_after (at 6) calls
    unfolding is_give command_at message_words turn_after settled
    give-confirming calls = give-by 5 (lit≤ tt) refl (shows t) refl calls ∙ rw (shows-confirms t fits)

    give-early : (calls : List RoundsCall) → rounds_after (at 1) (give not_good ∷ calls) ≡ rounds_after (counted (at 1) (e + 1) l) calls
    unfolding is_give command_at message_words turn_after settled passes
    give-early calls = give-by 1 (lit≤ tt) refl not_good refl calls ∙ rw not-good

    give-late : (calls : List RoundsCall) → rounds_after (at 5) (give not_good ∷ calls) ≡ rounds_after (counted (at 5) e (l + 1)) calls
    unfolding is_give command_at message_words turn_after settled confirms
    give-late calls = give-by 5 (lit≤ tt) refl not_good refl calls ∙ rw not-good

    one-turn : (turn : ℕ) → turn ≤ 5 → (calls : List RoundsCall) → rounds_after (at turn) (call_at turn ∷ calls) ≡ rounds_after (at (suc turn)) calls
    unfolding call_at
    one-turn zero h = ask-first
    one-turn (suc zero) h = give-passing
    one-turn (suc (suc zero)) h = ask-command
    one-turn (suc (suc (suc zero))) h = give-command
    one-turn (suc (suc (suc (suc zero)))) h = ask-last
    one-turn (suc (suc (suc (suc (suc zero))))) h = give-confirming
    one-turn (suc (suc (suc (suc (suc (suc n)))))) h = absurd (omega arith)

    up-to : (turn : ℕ) → turn ≤ 6 → (calls : List RoundsCall) → rounds_after (at 0) (up_to turn calls) ≡ rounds_after (at turn) calls
    unfolding up_to
    up-to zero h calls = refl
    up-to (suc n) h calls = up-to n (omega arith) (call_at n ∷ calls) ∙ one-turn n (omega arith) calls

  -- ---- whole rounds that are Unsure

  -- so many rounds ended: the next begins, or all are over
  abbrev ended : ℕ → ℕ → Rounds
  ended e l = rounds t most e l (cond (eqb (e + l) most) 7 0)

  still-open : (e l : ℕ) → e + l < most → ended e l ≡ rounds t most e l 0
  still-open e l left = rw (ne_eqb (e + l) most (λ same. omega arith))

  earlies : ℕ → List RoundsCall → List RoundsCall
  earlies zero calls = calls
  earlies (suc n) calls = ask [] buffer ∷ give not_good ∷ earlies n calls

  lates : ℕ → List RoundsCall → List RoundsCall
  lates zero calls = calls
  lates (suc n) calls = up_to 5 (give not_good ∷ lates n calls)

  early-more : (n e : ℕ) → n + e ≤ most → (calls : List RoundsCall) → rounds_after (ended e 0) (earlies n calls) ≡ rounds_after (ended (n + e) 0) calls
  unfolding earlies counted
  early-more zero e h calls = let same : 0 + e ≡ e = omega arith in rw same
  early-more (suc n) e h calls =
      let left : e + 0 < most = omega arith in
      let same : n + (e + 1) ≡ suc n + e = omega arith in
      ap (λ (s : Rounds). rounds_after s (earlies (suc n) calls)) (still-open e 0 left)
      ∙ ask-first e 0 left _ ∙ give-early e 0 left _
      ∙ early-more n (e + 1) (omega arith) calls ∙ ap (λ (k : ℕ). rounds_after (ended k 0) calls) same

  late-more : (e n l : ℕ) → e + (n + l) ≤ most → (calls : List RoundsCall) → rounds_after (ended e l) (lates n calls) ≡ rounds_after (ended e (n + l)) calls
  unfolding lates counted
  late-more e zero l h calls = let same : 0 + l ≡ l = omega arith in rw same
  late-more e (suc n) l h calls =
      let left : e + l < most = omega arith in
      let same : n + (l + 1) ≡ suc n + l = omega arith in
      ap (λ (s : Rounds). rounds_after s (lates (suc n) calls)) (still-open e l left)
      ∙ up-to e l left 5 (lit≤ tt) _ ∙ give-late e l left _
      ∙ late-more e n (l + 1) (omega arith) calls ∙ ap (λ (k : ℕ). rounds_after (ended e k) calls) same

  -- the first is open, since there is at least one
  all-more : (e l : ℕ) → e + l ≤ most → (calls : List RoundsCall) → rounds_after (rounds t most 0 0 0) (earlies e (lates l calls)) ≡ rounds_after (ended e l) calls
  all-more e l h calls =
      let some : 0 + 0 < most = omega (arith, (start-limits t most starts).some) in
      let early : e + 0 ≡ e = omega arith in
      let late : l + 0 ≡ l = omega arith in
      ap (λ (s : Rounds). rounds_after s (earlies e (lates l calls))) (sym (still-open 0 0 some))
      ∙ early-more e 0 (omega arith) (lates l calls) ∙ ap (λ (k : ℕ). rounds_after (ended k 0) (lates l calls)) early
      ∙ late-more e l 0 (omega arith) calls ∙ ap (λ (k : ℕ). rounds_after (ended e k) calls) late

  -- the calls that lead to a state
  calls_to : (e l turn : ℕ) → List RoundsCall
  calls_to e l turn = earlies e (lates l (cond (eqb turn 7) [] (up_to turn [])))

  leads-open : (e l turn : ℕ) → e + l < most → turn ≤ 6 → rounds_after (rounds t most 0 0 0) (calls_to e l turn) ≡ rounds t most e l turn
  unfolding calls_to rounds_after
  leads-open e l turn left low =
      rw (ne_eqb turn 7 (λ same. omega arith))
      (all-more e l (omega arith) (up_to turn [])
      ∙ ap (λ (s : Rounds). rounds_after s (up_to turn [])) (still-open e l left) ∙ up-to e l left turn low [])

  leads-over : (e l : ℕ) → e + l ≡ most → rounds_after (rounds t most 0 0 0) (calls_to e l 7) ≡ rounds t most e l 7
  unfolding calls_to rounds_after
  leads-over e l all = all-more e l (omega arith) [] ∙ rw (eq-eqb (e + l) most all)

-- ---- any state in range

module _ (s : Rounds) (starts : may_start s.command s.most ≡ true) where
  leads : Place s → rounds_after (rounds s.command s.most 0 0 0) (calls_to s.command s.most starts s.early s.late s.turn) ≡ s
  leads (inr (low, left)) = leads-open s.command s.most starts s.early s.late s.turn left low
  leads (inl (seven, all)) = rw seven (leads-over s.command s.most starts s.early s.late all)

pub led : (s : Rounds) → out_of_rounds s ≡ false → Led s
unfolding rounds_started
led s h =
    let r = in-range s h in
    record {
      accepted = rw r.starts;
      calls = calls_to s.command s.most r.starts s.early s.late s.turn;
      leads = rw r.starts (leads s r.starts r.place);
    }
