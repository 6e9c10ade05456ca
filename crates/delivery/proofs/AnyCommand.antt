-- Demand 3 for any command in the middle, for every side that hears its messages as a card alone does.
-- Assumes nothing.
use Prim.Native.Nat.{ℕ}
use native.Mathlib.Omega.{arith}
use mathlib.Core.Path.{◌≡◌, refl, sym, ap, ◌∙◌, subst}
use mathlib.Core.Bool.{Bool, true, false, cond}
use mathlib.Core.Logic.{◌⊎◌, inl, inr, ⊎_elim}
use mathlib.Core.List.{List, [], ◌++◌}
use lib.Dec.{eqb}
use Rattle.bits.specs.Lines.{words}
use Rattle.link.specs.Damage.{Damage, undamaged}
use Rattle.rules.specs.Rules.{message_words}
use Rattle.token.specs.Command.{command_token}
use Rattle.token.specs.Response.{clean}
use Rattle.token.specs.declared.command.Command.{Command}
use Rattle.judge.proofs.Laws.{never}
use Rattle.card.specs.State.{emptied}
use Rattle.card.specs.declared.Card.{Card}
use Rattle.card.specs.declared.Message.{Message}
use Rattle.card.specs.declared.Port.{Port}
use Rattle.controller.specs.Builder.{payload}
use Rattle.controller.specs.Sure.{readback_command, command_at, passes, confirms, turn_after}
use Rattle.delivery.specs.AnyCommand.{Fates, Course, leg, legs, sure_command, EndsDone, EndsUnsure, Acted, Still, called, Means, Sends, AnyCommand, NoDamage, AnyUndamaged}
use Rattle.delivery.specs.Delivery.{Side, Kept}
use Rattle.delivery.specs.Play.{ModuleCall, Crossed}
use Rattle.delivery.proofs.Accept.{Sendable}
use Rattle.delivery.proofs.Acts.{Took, took-acted, took-moved, took-later, took-either, accepts-passes}
use Rattle.delivery.proofs.Command.{command-done}
use Rattle.delivery.proofs.Effects.{sent-took, undamaged-works, readback-sendable, readback-still}
use Rattle.delivery.proofs.Ended.{Passes, sent}
use Rattle.delivery.proofs.Kept.{kept-trans, kept-either, like-kept}
use Rattle.delivery.proofs.Readbacks.{read_back, undamaged-passes, undamaged-confirms}
use Rattle.delivery.proofs.Sending.{can-send, sends-idle, calls-idle}
use Rattle.delivery.proofs.SideLaws.{Starts, called-aside, later-kept, took-called}
use Rattle.delivery.proofs.Sides.{Follows, Leg, leg-meets}
use Rattle.delivery.proofs.Told.{told}

module _ (side : Side) (w : Follows side) where
  abbrev C : Type 0
  C = Course side.State

  -- ---- one message, told of the card that the side has

  -- what a message leaves of the card that it found, it leaves of the side's own
  module _ {t k : Command} {block : List ℕ} {f : _} {g g' : C} (l : Leg side w t k block f g g') where
    abbrev sent_here : Crossed Card
    sent_here = sent k block f.damage l.found g.memory

    found-closed : l.found.port.message ≡ emptied false
    found-closed = l.idle.closed

    -- the card found is the one that the device's calls left
    found-kept : Kept side.alone (called side g.side f.calls) l.found
    found-kept = like-kept l.like (sym (ap (λ (p : Port). p.message) l.like.port) ∙ found-closed)

    found-still : Still side.alone (called side g.side f.calls) g.memory l.found g.memory
    found-still = (found-kept, refl)

    after-kept : Kept side.alone sent_here.side (side.card g'.side)
    after-kept = like-kept l.after (sym (ap (λ (p : Port). p.message) l.after.port) ∙ l.ready.idle.closed)

    after-still : Still side.alone sent_here.side sent_here.memory (side.card g'.side) g'.memory
    after-still = (after-kept, l.memory_is)

    -- it did not act
    left-still : Still true l.found g.memory sent_here.side sent_here.memory
        → Still side.alone (called side g.side f.calls) g.memory (side.card g'.side) g'.memory
    left-still (k, m) = (
      kept-trans _ _ _ found-kept (kept-trans _ _ _ (kept-either side.alone k) after-kept),
      l.memory_is ∙ m,
    )

    -- it acted
    left-took : Took true l.found g.memory k block sent_here.side sent_here.memory
        → Took side.alone (called side g.side f.calls) g.memory k block (side.card g'.side) g'.memory
    left-took a =
        took-moved k block _ l.found g.memory g.memory found-still
        (took-later k block sent_here.side _ sent_here.memory _ after-still (took-either k block side.alone a))

  -- ---- three messages

  module _ {s : side.State} {memory : List ℕ} {t : Command} {block : List ℕ} (p : Sends side s memory t block) (f : Fates) where
    sendable : Sendable t (payload t block)
    sendable = can-send side w.lawful p

    start : C
    start = record { turn = 0; side = s; memory = memory; calls = []; refused = [] }

    first : C
    first = leg side.hears side.sets t [] f.first start

    second : C
    second = leg side.hears side.sets t block f.second first

    third : C
    third = leg side.hears side.sets t [] f.third second

    abbrev calls₁ : List ModuleCall
    calls₁ = f.first.calls

    abbrev calls₂ : List ModuleCall
    calls₂ = f.second.calls

    abbrev calls₃ : List ModuleCall
    calls₃ = f.third.calls

    -- the first READBACK
    first-leg : Leg side w t readback_command [] f.first start first
    unfolding start first command_at
    first-leg = leg-meets side w t [] f.first start (record { run = p.run; idle = sends-idle side w.lawful p }) readback_command refl readback-sendable

    first_got : List ℕ
    first_got = words 5 (read_back f.first.damage first-leg.found memory).got

    first-turn : first.turn ≡ cond (passes first_got) 2 7
    unfolding start turn_after message_words first_got
    first-turn = first-leg.turn_is

    first-still : Still side.alone (called side s calls₁) memory (side.card first.side) first.memory
    unfolding start
    first-still = left-still first-leg (readback-still first-leg.found memory first-leg.idle f.first.damage)

    -- where it passes, the command
    module _ (passed : first.turn ≡ 2) where
      second-leg : Leg side w t t block f.second first second
      unfolding second command_at
      second-leg = leg-meets side w t block f.second first first-leg.ready t (ap (command_at t) passed) sendable

      second-turn : second.turn ≡ 4
      unfolding turn_after
      second-turn = second-leg.turn_is ∙ rw passed

      -- and the last READBACK
      third-leg : Leg side w t readback_command [] f.third second third
      unfolding third command_at
      third-leg = leg-meets side w t [] f.third second second-leg.ready readback_command (ap (command_at t) second-turn) readback-sendable

      last_got : List ℕ
      last_got = words 5 (read_back f.third.damage third-leg.found second.memory).got

      third-turn : third.turn ≡ cond (confirms t last_got) 6 7
      unfolding turn_after message_words last_got
      third-turn = third-leg.turn_is ∙ rw second-turn

      starts-first : Starts side s first.side
      starts-first = record { run = p.run; idle = p.idle; run_later = first-leg.ready.run }

      starts-second : Starts side s second.side
      starts-second = record { run = p.run; idle = p.idle; run_later = second-leg.ready.run }

      third-still : Still side.alone (called side second.side calls₃) second.memory (side.card third.side) third.memory
      third-still = left-still third-leg (readback-still third-leg.found second.memory third-leg.idle f.third.damage)

      -- the card that the device's calls alone would have left, before the command
      still-then : Still side.alone (called side s (calls₁ ++ calls₂)) memory (called side first.side calls₂) first.memory
      still-then = (later-kept side w.lawful starts-first calls₁ calls₂ first-still.0, first-still.1)

      -- a command that acted, or did not act, told of that card and of the card in the end
      in-the-end : Took true second-leg.found first.memory t block (sent t block f.second.damage second-leg.found first.memory).side
          (sent t block f.second.damage second-leg.found first.memory).memory
          → Acted side.alone (called side s (calls₁ ++ calls₂ ++ calls₃)) memory t block (side.card third.side) third.memory
      in-the-end a =
          let moved = took-moved t block _ _ memory first.memory still-then (left-took second-leg a) in
          let late = took-called side w.lawful t block starts-second (calls₁ ++ calls₂) calls₃ moved in
          took-acted t block sendable (calls-idle side w.lawful p (calls₁ ++ calls₂ ++ calls₃))
          (took-later t block _ (side.card third.side) second.memory third.memory third-still late)

      still-in-the-end : Still true second-leg.found first.memory (sent t block f.second.damage second-leg.found first.memory).side
          (sent t block f.second.damage second-leg.found first.memory).memory
          → Still side.alone (called side s (calls₁ ++ calls₂ ++ calls₃)) memory (side.card third.side) third.memory
      still-in-the-end e =
          let (k, m) = left-still second-leg e in
          let so_far : Kept side.alone (called side s (calls₁ ++ calls₂)) (side.card second.side) = kept-trans _ _ _ still-then.0 k in (
            kept-trans _ _ _ (later-kept side w.lawful starts-second (calls₁ ++ calls₂) calls₃ so_far) third-still.0,
            third-still.1 ∙ m ∙ first-still.1,
          )

      -- both READBACKs say Done, so the command acted once
      done-acted : passes first_got ≡ true → confirms t last_got ≡ true
          → Acted side.alone (called side s (calls₁ ++ calls₂ ++ calls₃)) memory t block (side.card third.side) third.memory
      unfolding first_got last_got start
      done-acted x y =
          in-the-end (command-done first-leg.found second-leg.found third-leg.found memory first.memory second.memory t block sendable
          (told t p.fits p.other) f.first.damage f.second.damage f.third.damage
          first-leg.idle second-leg.idle third-leg.idle
          (second-leg.like.port ∙ (called-aside side w.lawful first-leg.ready.run calls₂).port ∙ first-leg.after.port)
          (third-leg.like.port ∙ (called-aside side w.lawful second-leg.ready.run calls₃).port ∙ second-leg.after.port)
          x y)

      either-end : Still side.alone (called side s (calls₁ ++ calls₂ ++ calls₃)) memory (side.card third.side) third.memory
          ⊎ Acted side.alone (called side s (calls₁ ++ calls₂ ++ calls₃)) memory t block (side.card third.side) third.memory
      either-end =
          ⊎_elim (λ e. inl (still-in-the-end e)) (λ a. inr (in-the-end a))
          (sent-took t block sendable second-leg.found first.memory second-leg.idle f.second.damage)

      -- ---- all three

      third-means : Means side s memory t block third
      unfolding emptied start first second third leg
      third-means = go (confirms t last_got) refl third-turn
        where
          go : (b : Bool) → confirms t last_got ≡ b → third.turn ≡ cond b 6 7 → Means side s memory t block third
          go b y is = record {
            done = λ v. done-acted passed-first (sure b y is v);
            unsure = λ v. either-end;
            ends = ends b is;
            unrefused = third-leg.quiet ∙ second-leg.quiet ∙ first-leg.quiet;
            runs = third-leg.ready.run;
            closed = ap (λ (m : Message). m.opened) third-leg.ready.idle.closed;
            lent = third-leg.ready.idle.lent;
          }
            where
              passed-first : passes first_got ≡ true
              passed-first = two (passes first_got) refl (sym first-turn ∙ passed)
                where
                  two : (a : Bool) → passes first_got ≡ a → (let m : ℕ = cond a 2 7 in m ≡ 2) → passes first_got ≡ true
                  two true e h = e
                  two false e h = absurd (omega arith)

              sure : (b : Bool) → confirms t last_got ≡ b → third.turn ≡ cond b 6 7 → EndsDone third → confirms t last_got ≡ true
              sure true y is v = y
              sure false y is v = never (sym v ∙ ap (λ (n : ℕ). eqb n 6) is)

              ends : (b : Bool) → third.turn ≡ cond b 6 7 → EndsDone third ⊎ EndsUnsure third
              ends true is = inl (ap (λ (n : ℕ). eqb n 6) is)
              ends false is = inr (ap (λ (n : ℕ). eqb n 7) is)

    -- ---- a first READBACK that does not pass

    first-means : first.turn ≡ 7 → Means side s memory t block first
    unfolding emptied start first leg
    first-means seven = record {
      done = λ v. never (sym v ∙ ap (λ (n : ℕ). eqb n 6) seven);
      unsure = λ v. inl first-still;
      ends = inr (ap (λ (n : ℕ). eqb n 7) seven);
      unrefused = first-leg.quiet;
      runs = first-leg.ready.run;
      closed = ap (λ (m : Message). m.opened) first-leg.ready.idle.closed;
      lent = first-leg.ready.idle.lent;
    }

    -- after the first message it is Unsure at once, or the others follow
    abbrev ended_by : Bool → C
    ended_by unsure = cond unsure first third

    is-ended : sure_command side s memory t block f ≡ ended_by (eqb first.turn 7)
    unfolding legs start first second third
    is-ended = refl

    means : Means side s memory t block (sure_command side s memory t block f)
    means = rw is-ended (go (passes first_got) first-turn)
      where
        go : (a : Bool) → first.turn ≡ cond a 2 7 → Means side s memory t block (ended_by (eqb first.turn 7))
        go true e = subst (λ (b : Bool). Means side s memory t block (ended_by b)) (sym (ap (λ (n : ℕ). eqb n 7) e)) (third-means e)
        go false e = subst (λ (b : Bool). Means side s memory t block (ended_by b)) (sym (ap (λ (n : ℕ). eqb n 7) e)) (first-means e)

    -- ---- without damage

    module _ (ok : Passes t (side.card s)) (none : NoDamage f) where
      passed : passes first_got ≡ true
      unfolding first_got start
      passed =
          let port : first-leg.found.port ≡ (side.card s).port = first-leg.like.port ∙ (called-aside side w.lawful p.run calls₁).port in
          ap (λ (d : Damage). passes (words 5 (read_back d first-leg.found memory).got)) none.first
          ∙ undamaged-passes first-leg.found memory first-leg.idle (rw port (w.lawful.sound p.run).last)

      two : first.turn ≡ 2
      two = first-turn ∙ ap (λ (a : Bool). cond a 2 7) passed

      -- the command is accepted
      accepted : ((side.card second.side).port.status ≡ clean) × ((side.card second.side).port.last ≡ command_token t)
      accepted =
          let l = second-leg two in
          let aside = called-aside side w.lawful p.run (calls₁ ++ calls₂) in
          let k : Kept side.alone (called side s (calls₁ ++ calls₂)) l.found = kept-trans _ _ _ (still-then two).0 (found-kept l) in
          let (status, last) = undamaged-works t block sendable l.found first.memory l.idle (rw (k.size, k.bases, aside.size, aside.bases) ok) in
          let port : (side.card second.side).port ≡ (sent t block undamaged l.found first.memory).side.port
          = l.after.port ∙ ap (λ (d : Damage). (sent t block d l.found first.memory).side.port) none.second in
          (ap (λ (x : Port). x.status) port ∙ status, ap (λ (x : Port). x.last) port ∙ last)

      confirmed : confirms t (last_got two) ≡ true
      unfolding last_got
      confirmed =
          let l = third-leg two in
          let port : l.found.port ≡ (side.card second.side).port
          = l.like.port ∙ (called-aside side w.lawful (second-leg two).ready.run calls₃).port in
          let (status, last) = accepted in
          ap (λ (d : Damage). confirms t (words 5 (read_back d l.found second.memory).got)) none.third
          ∙ undamaged-confirms l.found second.memory l.idle t p.fits (ap (λ (x : Port). x.status) port ∙ status) (ap (λ (x : Port). x.last) port ∙ last)

      ends-done : EndsDone (sure_command side s memory t block f)
      ends-done =
          ap (λ (g : C). eqb g.turn 6) (is-ended ∙ ap (λ (n : ℕ). ended_by (eqb n 7)) two)
          ∙ ap (λ (n : ℕ). eqb n 6) (third-turn two ∙ ap (λ (b : Bool). cond b 6 7) confirmed)

pub any-command : (side : Side) → Follows side → AnyCommand side
any-command side w s memory t block p f = means side w p f

pub any-undamaged : (side : Side) → Follows side → AnyUndamaged side
any-undamaged side w s memory t block p ok f none =
    ends-done side w p f (accepts-passes t block (sendable side w p f) (side.card s) memory (sends-idle side w.lawful p) ok) none
