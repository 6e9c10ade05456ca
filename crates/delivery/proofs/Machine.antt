-- The sure write is WRITE between two READBACKs: each ask and each give is taken, the words asked for are the built message, and the turn that follows
-- is the same. It is a fact of the controller alone, whoever hears the messages.
-- Assumes nothing.
use Prim.Native.Nat.{ℕ, ◌+◌, ◌≤◌}
use native.Mathlib.Omega.{arith}
use mathlib.Core.Path.{◌≡◌, refl, sym, ap, ◌∙◌}
use mathlib.Core.Bool.{Bool, true, false, cond}
use mathlib.Core.List.{List, [], ◌++◌, append-nil}
use borrow.Author.Tests.{le-ltb, le-leb, eq-eqb}
use lib.Dec.{eqb, lit≤}
use lib.ListN.{length, take}
use lib.Seq.{take_at}
use Rattle.bits.specs.Bits.{stream}
use Rattle.bits.proofs.Lines.{length-words}
use Rattle.rules.specs.Rules.{message_words}
use Rattle.token.specs.Command.{command_fits}
use Rattle.token.specs.declared.command.Command.{Command}
use Rattle.judge.proofs.Laws.{never}
use Rattle.card.specs.Whole.{listed, Hears}
use Rattle.controller.specs.Builder.{is_reading, message, block_fits, build_refusal, buffer_after}
use Rattle.controller.specs.Sure.{readback_command, command_at, is_ask, is_give, passes, turn_after, write_command, with_turn, sure, started, out_of_range, ask_refusal, asked, asked_buffer, give_refusal, given}
use Rattle.controller.specs.Answers.{Asked}
use Rattle.controller.specs.declared.sure.SureWrite.{SureWrite}
use Rattle.controller.proofs.MessageLaws.{message-whole}
use Rattle.delivery.specs.AnyCommand.{Fate, Fates, Course, leg, legs, sure_command}
use Rattle.delivery.specs.Delivery.{Side, Room, sure_write}
use Rattle.delivery.specs.Play.{Sets, settings, crossed, Going, asked_words, round, between, Buffers, Damages, Calls, play}
use Rattle.delivery.proofs.Judged.{write_of, write-fits}

-- ---- a message asked for in its turn

-- a command that an ask takes: its fields fit, the block fits it, and the buffer has room
record Asks (s : SureWrite) (t : Command) (block buffer : List ℕ) : Type 0 where
  in_state : out_of_range s ≡ false
  turn : is_ask s.turn ≡ true
  command_is : command_at (write_command s) s.turn ≡ t
  fits : command_fits t ≡ true
  fits_block : block_fits t (length block) ≡ true
  room : message_words t.length ≤ length buffer

module _ (s : SureWrite) (t : Command) (block buffer : List ℕ) (h : Asks s t block buffer) where
  build-taken : build_refusal t (length block) (length buffer) ≡ 0
  unfolding build_refusal
  build-taken = rw (h.fits, h.fits_block, le-leb (message_words t.length) (length buffer) h.room)

  ask-taken : ask_refusal s (length block) (length buffer) ≡ 0
  unfolding ask_refusal
  ask-taken = rw (h.in_state, h.turn, h.command_is) build-taken

  asked-at : asked s block (length buffer) ≡ record { refusal = 0; words = message_words t.length; state = with_turn s (s.turn + 1) }
  unfolding asked
  asked-at = rw (ask-taken, h.command_is)

  -- the front of the lent buffer is the built message, whatever stood in the buffer
  words-asked : asked_words s block buffer ≡ message t block
  unfolding asked_words asked_buffer buffer_after message
  words-asked =
      ap (λ (a : Asked). take a.words (asked_buffer s block buffer)) asked-at
      ∙ rw (ask-taken, h.command_is, build-taken)
      (take_at (message t block) _ (message_words t.length) (omega (arith, message-whole t block h.fits_block)))

-- ---- an answer given in its turn

given-at : (s : SureWrite) (ws : List ℕ) → out_of_range s ≡ false → is_give s.turn ≡ true
    → length ws ≡ message_words (command_at (write_command s) s.turn).length
    → given s ws ≡ record { refusal = 0; state = with_turn s (turn_after (write_command s) s.turn ws) }
unfolding given give_refusal
given-at s ws h t n = rw (h, t, eq-eqb _ _ n)

-- ---- the turns of the three messages

pub record Turns (middle : Command) (turn : ℕ) (t : Command) : Type 0 where
  pub small : turn ≤ 6
  pub ask : is_ask turn ≡ true
  pub give : is_give (turn + 1) ≡ true
  pub asks : command_at middle turn ≡ t
  pub gives : command_at middle (turn + 1) ≡ t

module _ (middle : Command) (turn : ℕ) where
  pub first-turns : turn ≡ 0 → Turns middle turn readback_command
  unfolding command_at is_ask is_give
  first-turns e = rw e (record { small = lit≤ tt; ask = refl; give = refl; asks = refl; gives = refl })

  pub middle-turns : turn ≡ 2 → Turns middle turn middle
  unfolding command_at is_ask is_give
  middle-turns e = rw e (record { small = lit≤ tt; ask = refl; give = refl; asks = refl; gives = refl })

  pub last-turns : turn ≡ 4 → Turns middle turn readback_command
  unfolding command_at is_ask is_give
  last-turns e = rw e (record { small = lit≤ tt; ask = refl; give = refl; asks = refl; gives = refl })

-- ---- the rounds

module _ (n sub : ℕ) (n-fits : n ≤ 63) (sub-fits : sub ≤ 255) where
  pub in-state : (turn : ℕ) → turn ≤ 7 → out_of_range (sure n sub turn) ≡ false
  unfolding out_of_range
  in-state turn h = rw (write-fits n sub n-fits sub-fits, le-ltb 7 turn h)

  -- the sure write, where the command between two READBACKs stands
  abbrev pub going : {S : Type 0} → Course S → Going S
  going g = record { state = sure n sub g.turn; side = g.side; memory = g.memory; calls = g.calls; refused = g.refused }

  module _ {S : Type 0} (hears : Hears S) (sets : Sets S) (f : Fate) (buffer : List ℕ) (g : Course S) where
    abbrev w : Command
    w = write_of n sub

    -- one message, with the device's calls before it
    abbrev One : List ℕ → Type 0
    One block = round hears block buffer f.damage (between sets f.calls (going g)) ≡ going (leg hears sets w block f g)

    round-leg : (t : Command) (block : List ℕ) → Turns w g.turn t → command_fits t ≡ true → block_fits t (length block) ≡ true
        → message_words t.length ≤ length buffer → One block
    unfolding round between leg listed
    round-leg t block at fits fits_block room =
        let s : SureWrite = sure n sub g.turn in
        let h : Asks s t block buffer = record {
          in_state = in-state g.turn (omega (arith, at.small));
          turn = at.ask;
          command_is = at.asks;
          fits = fits;
          fits_block = fits_block;
          room = room;
        } in
        rw (asked-at s t block buffer h, words-asked s t block buffer h, at.asks)
        (rw (
          given-at (sure n sub (g.turn + 1)) _ (in-state (g.turn + 1) (omega (arith, at.small))) at.give
              (length-words _ _ ∙ ap (λ (x : Command). message_words x.length) (sym at.gives)),
          append-nil g.refused,
          append-nil (g.refused ++ (crossed hears f.damage (settings sets f.calls g.side) g.memory (stream 16 (message t block))).refused),
        ))

    readback-leg : Turns w g.turn readback_command → message_words readback_command.length ≤ length buffer → One []
    unfolding command_fits block_fits is_reading
    readback-leg at room = round-leg readback_command [] at refl refl room

    write-leg : (block : List ℕ) → length block ≡ n → Turns w g.turn w → message_words n ≤ length buffer → One block
    unfolding block_fits is_reading
    write-leg block long at room = round-leg w block at (write-fits n sub n-fits sub-fits) (eq-eqb _ _ long) room

-- ---- all three

-- what befalls the sure write's messages: the device calls nothing before the first
abbrev pub fates_of : Damages → Calls → Fates
fates_of d calls = record {
  first = record { calls = []; damage = d.first };
  second = record { calls = calls.second; damage = d.second };
  third = record { calls = calls.third; damage = d.third };
}

module _ (side : Side) (s : side.State) (memory : List ℕ) (sub : ℕ) (block : List ℕ) (b : Buffers) (n-fits : length block ≤ 63) (sub-fits : sub ≤ 255) (room : Room block b)
    (d : Damages) (calls : Calls) where
  abbrev middle : Command
  middle = write_of (length block) sub

  abbrev goes : Course side.State → Going side.State
  goes = going (length block) sub n-fits sub-fits

  abbrev start : Course side.State
  start = record { turn = 0; side = s; memory = memory; calls = []; refused = [] }

  abbrev first : Course side.State
  first = leg side.hears side.sets middle [] (fates_of d calls).first start

  abbrev second : Course side.State
  second = leg side.hears side.sets middle block (fates_of d calls).second first

  abbrev third : Course side.State
  third = leg side.hears side.sets middle [] (fates_of d calls).third second

  -- the first message is followed by the WRITE, unless all is over
  goes-on : eqb first.turn 7 ≡ false → first.turn ≡ 2
  unfolding leg turn_after
  goes-on = go (passes _)
    where
      go : (a : Bool) → (let turn : ℕ = cond a 2 7 in eqb turn 7 ≡ false → turn ≡ 2)
      go true e = refl
      go false e = never e

  then-last : first.turn ≡ 2 → second.turn ≡ 4
  unfolding leg turn_after
  then-last e = rw e

  abbrev rounds : Going side.State → Going side.State
  rounds g =
      round side.hears [] b.third d.third (between side.sets calls.third
      (round side.hears block b.second d.second (between side.sets calls.second g)))

  first-round : round side.hears [] b.first d.first (goes start) ≡ goes first
  unfolding between settings
  first-round =
      readback-leg (length block) sub n-fits sub-fits side.hears side.sets (fates_of d calls).first b.first start (first-turns middle 0 refl) room.first

  more-rounds : first.turn ≡ 2 → rounds (goes first) ≡ goes third
  more-rounds e =
      ap (λ (g : Going side.State). round side.hears [] b.third d.third (between side.sets calls.third g))
      (write-leg (length block) sub n-fits sub-fits side.hears side.sets (fates_of d calls).second b.second first block refl
      (middle-turns middle first.turn e) room.second)
      ∙ readback-leg (length block) sub n-fits sub-fits side.hears side.sets (fates_of d calls).third b.third second
      (last-turns middle second.turn (then-last e)) room.third

  pub write-legs : sure_write side s memory sub block b d calls ≡ goes (sure_command side s memory middle block (fates_of d calls))
  unfolding play legs started listed
  write-legs = rw (write-fits (length block) sub n-fits sub-fits) (rw first-round (go (eqb first.turn 7) refl))
    where
      go : (a : Bool) → eqb first.turn 7 ≡ a → cond a (goes first) (rounds (goes first)) ≡ goes (cond a first third)
      go true e = refl
      go false e = more-rounds (goes-on e)
