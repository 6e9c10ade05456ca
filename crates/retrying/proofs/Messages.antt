-- A round is the command between two READBACKs: each ask and each give is taken, the words asked for are the built message, and the turn that follows
-- is the round's, or counts it. It is a fact of the controller alone, whoever hears the messages.
-- Assumes nothing.
use Prim.Native.Nat.{ℕ, ◌+◌, ◌≤◌, ◌<◌}
use native.Mathlib.Omega.{arith}
use mathlib.Core.Bool.{Bool, true, false, cond}
use mathlib.Core.List.{List, [], ◌++◌, append-nil, append_assoc}
use mathlib.Core.Logic.{◌⊎◌, inl, inr}
use mathlib.Core.Path.{◌≡◌, refl, sym, ap, ◌∙◌}
use borrow.Author.Tests.{eq-eqb}
use lib.Dec.{eqb}
use lib.ListN.{length}
use Rattle.bits.specs.Bits.{stream}
use Rattle.bits.proofs.Lines.{length-words}
use Rattle.rules.specs.Rules.{message_words}
use Rattle.token.specs.Command.{command_fits}
use Rattle.token.specs.declared.command.Command.{Command}
use Rattle.card.specs.Whole.{listed, Hears}
use Rattle.controller.specs.Builder.{is_reading, message, block_fits}
use Rattle.controller.specs.Sure.{readback_command, passes, turn_after}
use Rattle.retry.specs.Promises.{message_asked}
use Rattle.retry.specs.Rounds.{rounds, may_start, out_of_rounds, counted, settled}
use Rattle.retry.specs.declared.Rounds.{Rounds}
use Rattle.retry.proofs.CallLaws.{Asks, asked-at, words-asked, given-at}
use Rattle.retry.proofs.StateLaws.{ask-low, ranged-in}
use Rattle.delivery.specs.AnyCommand.{Fate, Course, leg, legs}
use Rattle.delivery.specs.Play.{ModuleCall, Sets, settings, crossed}
use Rattle.delivery.proofs.Machine.{Turns, first-turns, middle-turns, last-turns}
use Rattle.retrying.specs.Retrying.{Trying, RoundPassage, try_message, try_round, RoomFor}

-- a round of a state with rounds left
module _ (t : Command) (most early late : ℕ) (starts : may_start t most ≡ true) (left : early + late < most) where
  abbrev pub at : ℕ → Rounds
  at turn = rounds t most early late turn

  at-in : (turn : ℕ) → turn ≤ 6 → out_of_rounds (at turn) ≡ false
  at-in turn h = ranged-in (at turn) (record { starts = starts; place = inr (h, left) })

  module _ {S : Type 0} (hears : Hears S) (sets : Sets S) (past : List ModuleCall) where
    -- the play, where the command between two READBACKs stands: a state, the device's calls before the round, and the words laid out
    abbrev pub stands : Rounds → ℕ → Course S → Trying S
    stands s laid g = record { state = s; side = g.side; memory = g.memory; calls = past ++ g.calls; refused = g.refused; laid = laid }

    -- one message
    module _ (block buffer : List ℕ) (f : Fate) (g : Course S) (laid : ℕ) where
      abbrev next : Course S
      next = leg hears sets t block f g

      abbrev One : Type 0
      One = try_message hears sets block buffer f (stands (at g.turn) laid g)
          ≡ stands (settled (at (g.turn + 1)) next.turn) (laid + length (message_asked (at g.turn) block buffer)) next

      message-leg : (k : Command) → Turns t g.turn k → command_fits k ≡ true → block_fits k (length block) ≡ true
          → message_words k.length ≤ length buffer → One
      unfolding try_message leg listed
      message-leg k turns fits fits_block room =
          let s : Rounds = at g.turn in
          let h : Asks s k block buffer = record {
            in_range = at-in g.turn turns.small;
            turn = turns.ask;
            command_is = turns.asks;
            fits = fits;
            fits_block = fits_block;
            room = room;
          } in
          rw (asked-at s k block buffer h, words-asked s k block buffer h, turns.asks)
          (rw (
            given-at (at (g.turn + 1)) _ (at-in (g.turn + 1) (omega (arith, ask-low g.turn turns.ask))) turns.give
                (length-words _ _ ∙ ap (λ (x : Command). message_words x.length) (sym turns.gives)),
            append-nil g.refused,
            append-nil (g.refused ++ (crossed hears f.damage (settings sets f.calls g.side) g.memory (stream 16 (message k block))).refused),
            append_assoc past g.calls f.calls,
          ))

      readback-message : Turns t g.turn readback_command → length block ≡ 0 → message_words readback_command.length ≤ length buffer → One
      unfolding command_fits block_fits is_reading
      readback-message turns none room = message-leg readback_command turns refl (rw none) room

    -- ---- the three messages

    module _ (block : List ℕ) (p : RoundPassage) (fits : command_fits t ≡ true) (fits_block : block_fits t (length block) ≡ true) (room : RoomFor t p.buffers)
        (s : S) (memory : List ℕ) (laid : ℕ) where
      abbrev pub start : Course S
      start = record { turn = 0; side = s; memory = memory; calls = []; refused = [] }

      abbrev first : Course S
      first = leg hears sets t [] p.fates.first start

      abbrev second : Course S
      second = leg hears sets t block p.fates.second first

      abbrev third : Course S
      third = leg hears sets t [] p.fates.third second

      first-turn : (first.turn ≡ 2) ⊎ (first.turn ≡ 7)
      unfolding leg turn_after
      first-turn = go (passes _)
        where
          go : (a : Bool) → (let m : ℕ = cond a 2 7 in (m ≡ 2) ⊎ (m ≡ 7))
          go true = inl refl
          go false = inr refl

      second-turn : first.turn ≡ 2 → second.turn ≡ 4
      unfolding leg turn_after
      second-turn e = rw e

      abbrev try_first : Trying S → Trying S
      try_first g = try_message hears sets [] p.buffers.first p.fates.first g

      abbrev try_second : Trying S → Trying S
      try_second g = try_message hears sets block p.buffers.second p.fates.second g

      abbrev try_third : Trying S → Trying S
      try_third g = try_message hears sets [] p.buffers.third p.fates.third g

      abbrev pub before : Trying S
      before = stands (at 0) laid start

      abbrev laid₁ : ℕ
      laid₁ = laid + length (message_asked (at 0) [] p.buffers.first)

      abbrev laid₂ : ℕ
      laid₂ = laid₁ + length (message_asked (at first.turn) block p.buffers.second)

      abbrev laid₃ : ℕ
      laid₃ = laid₂ + length (message_asked (at second.turn) [] p.buffers.third)

      after-first : try_first before ≡ stands (settled (at 1) first.turn) laid₁ first
      after-first = readback-message [] p.buffers.first p.fates.first start laid (first-turns t 0 refl) refl room.first

      -- in the middle of a round the turn is the round's own
      on : (from turn : ℕ) → (turn ≡ 2) ⊎ (turn ≡ 4) → settled (at from) turn ≡ at turn
      unfolding settled
      on from turn (inl e) = rw e
      on from turn (inr e) = rw e

      after-third : first.turn ≡ 2 → try_third (try_second (stands (at first.turn) laid₁ first)) ≡ stands (settled (at (second.turn + 1)) third.turn) laid₃ third
      after-third e =
          ap try_third
          (message-leg block p.buffers.second p.fates.second first laid₁ t (middle-turns t first.turn e) fits fits_block room.second
          ∙ ap (λ (s : Rounds). stands s laid₂ second) (on (first.turn + 1) second.turn (inr (second-turn e))))
          ∙ readback-message [] p.buffers.third p.fates.third second laid₂ (last-turns t second.turn (second-turn e)) refl room.third

      -- a round that ended at its first READBACK is not in the middle
      ended-first : (turn : ℕ) → turn ≡ 7 → eqb (settled (at 1) turn).turn 2 ≡ false
      unfolding settled counted
      ended-first turn e = rw e (go (eqb (early + 1 + late) most))
        where
          go : (b : Bool) → eqb (cond b 7 0) 2 ≡ false
          go true = refl
          go false = refl

      -- where a round leaves it: the turn at whose give it ends, and the words then laid out
      pub record Rounded (g : Trying S) (end : Course S) : Type 0 where
        pub from : ℕ
        pub laid_then : ℕ
        pub is : g ≡ stands (settled (at from) end.turn) laid_then end

      abbrev more : Trying S → Trying S
      more g = cond (eqb g.state.turn 2) (try_third (try_second g)) g

      abbrev all : Course S
      all = cond (eqb first.turn 7) first third

      rounded-by : (first.turn ≡ 2) ⊎ (first.turn ≡ 7) → Rounded (more (try_first before)) all
      rounded-by (inr e) =
          let end : all ≡ first = rw e in
          record {
            from = 1;
            laid_then = laid₁;
            is = rw (after-first, end, ended-first first.turn e);
          }
      rounded-by (inl e) =
          let end : all ≡ third = rw e in
          let two : eqb first.turn 2 ≡ true = eq-eqb _ _ e in
          record {
            from = second.turn + 1;
            laid_then = laid₃;
            is = rw (after-first, end, on 1 first.turn (inl e), two) (after-third e);
          }

      pub rounded : Rounded (try_round hears sets block p before) (legs hears sets t block p.fates start)
      unfolding try_round legs
      rounded = rounded-by first-turn
