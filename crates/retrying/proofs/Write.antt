-- The sure write of up to r rounds: a use of any command, for every side for which demand 3 holds. And one round is the sure write.
-- Assumes nothing.
use Prim.Native.Nat.{ℕ, ◌≤◌}
use native.Mathlib.Omega.{arith}
use mathlib.Core.Bool.{true}
use mathlib.Core.List.{List, []}
use mathlib.Core.Logic.{inl, inr, ⊎_elim}
use mathlib.Core.Path.{◌≡◌, refl, sym, ap, ◌∙◌}
use borrow.Author.Tests.{eq-eqb, le-leb}
use lib.Dec.{lit≤, lit<}
use lib.ListN.{length}
use Rattle.rules.specs.Refusals as refusal
use Rattle.token.specs.declared.command.Command.{Command}
use Rattle.card.specs.Whole.{listed}
use Rattle.controller.specs.Builder.{is_reading, block_fits}
use Rattle.controller.specs.declared.sure.SureWrite.{SureWrite}
use Rattle.retry.specs.Rounds.{rounds, may_repeat, may_start, RoundsStart, rounds_started, sure_rounds, short_rounds, rounds_verdict}
use Rattle.retry.proofs.OneRound.{settled-one}
use Rattle.retry.proofs.StateLaws.{start-is, start-in}
use Rattle.delivery.specs.AnyCommand.{Course, sure_command}
use Rattle.delivery.specs.Delivery.{Side, Room, sure_write, Premises}
use Rattle.delivery.specs.Play.{Buffers, Damages, Calls}
use Rattle.delivery.proofs.Demand3.{Demand3}
use Rattle.delivery.proofs.Judged.{write_of, write-fits}
use Rattle.delivery.proofs.Machine.{fates_of, write-legs}
use Rattle.delivery.proofs.SideLaws.{Lawful}
use Rattle.delivery.proofs.Write.{WriteSends, sends, acted-written, acted-kept, inside-accepted}
use Rattle.retrying.specs.Retrying.{Trying, RoundPassage, try_round, goes_on, tried, tried_to, RoundsIn, RoomFor, RoundsSend, RoundsMeaning, RoundsPremises, RoundsDelivery, RoundsUndamaged, going_of, one_passage, OnePlay}
use Rattle.retrying.proofs.Messages.{rounded}
use Rattle.retrying.proofs.Reports.{words-reported}
use Rattle.retrying.proofs.Rounds.{any-rounds, any-round-undamaged}

block-whole : (block : List ℕ) (sub : ℕ) → block_fits (write_of (length block) sub) (length block) ≡ true
unfolding block_fits is_reading
block-whole block sub = eq-eqb (length block) (length block) refl

room-in : (block : List ℕ) (sub : ℕ) {b : Buffers} → Room block b → RoomFor (write_of (length block) sub) b
room-in block sub r = record { first = r.first; second = r.second; third = r.third }

-- WRITE may be sent again, up to eight times
write-starts : (n sub : ℕ) → n ≤ 63 → sub ≤ 255 → {most : ℕ} → RoundsIn most → may_start (write_of n sub) most ≡ true
unfolding may_start may_repeat
write-starts n sub short fits {most} r = rw (write-fits n sub short fits, le-leb 1 most r.some, le-leb most 8 r.few)

module _ (side : Side) (all : Demand3 side) (s : side.State) (memory : List ℕ) (sub : ℕ) (block : List ℕ) (most : ℕ) (passages : ℕ → RoundPassage)
    (p : RoundsPremises side s memory sub block most passages) where
  abbrev l : Lawful side
  l = all.lawful

  abbrev w : Command
  w = write_of (length block) sub

  write : WriteSends side s memory sub block
  write = record {
    run = p.first.run;
    idle = p.first.idle;
    lent = p.first.lent;
    sub_in_range = p.first.sub_in_range;
    short = p.first.short;
    words = p.first.words;
  }

  can-send : RoundsSend side s memory w block most passages
  can-send = record {
    sends = sends side l s memory sub block write;
    no_tick = λ e. omega arith;
    rounds = p.rounds;
    room = λ i allowed. room-in block sub (p.room i allowed);
  }

  taken : (rounds_started w most).refusal ≡ refusal.none
  taken = ap (λ (a : RoundsStart). a.refusal) (start-is w most (write-starts (length block) sub p.first.short p.first.sub_in_range p.rounds))

  rounds-meaning : (n : ℕ) → RoundsMeaning side s memory sub block most n (tried_to side s memory (sure_rounds (length block) sub most) block passages n)
  rounds-meaning n =
      let end : Trying side.State = tried_to side s memory (sure_rounds (length block) sub most) block passages n in
      let m = any-rounds side all s memory w block most passages can-send n in
      let (reports, bounded) = words-reported side s memory w most taken block passages n in
      let written = acted-written side l s memory sub block write end.calls in
      let kept = acted-kept side l s memory sub block write end.calls in
      record {
        done = λ v. written (m.done v);
        either = ⊎_elim (λ (k, e). inl e) (λ a. inr (written a)) m.either;
        tries = m.tries;
        unrefused = m.unrefused;
        reports = reports;
        bounded = bounded;
        kept = ⊎_elim (λ (k, e). k) (λ a. kept a) m.either;
        runs = m.runs;
      }

pub rounds-delivery : (side : Side) → Demand3 side → RoundsDelivery side
rounds-delivery = rounds-meaning

pub rounds-undamaged : (side : Side) → Demand3 side → RoundsUndamaged side
rounds-undamaged side all s memory sub block most passages p even inside =
    any-round-undamaged side all s memory (write_of (length block) sub) block most passages (can-send side all s memory sub block most passages p)
    (inside-accepted side all.lawful s memory sub block (write side all s memory sub block most passages p) even inside)

-- ---- one round is the sure write

module _ (side : Side) (s : side.State) (memory : List ℕ) (sub : ℕ) (block : List ℕ) {b : Buffers} (p : Premises side s memory sub block b)
    (d : Damages) (calls : Calls) where
  abbrev middle : Command
  middle = write_of (length block) sub

  starts : may_start middle 1 ≡ true
  starts = write-starts (length block) sub p.short p.sub_in_range (record { some = lit≤ tt; few = lit≤ tt })

  abbrev begun : Trying side.State
  begun = record { state = rounds middle 1 0 0 0; side = s; memory = memory; calls = []; refused = []; laid = 0 }

  abbrev end : Course side.State
  end = sure_command side s memory middle block (fates_of d calls)

  one-round : going_of (try_round side.hears side.sets block (one_passage b d calls) begun) ≡ sure_write side s memory sub block b d calls
  one-round =
      let r = rounded middle 1 0 0 starts (lit< tt) side.hears side.sets [] block (one_passage b d calls) (write-fits (length block) sub p.short p.sub_in_range)
      (block-whole block sub) (room-in block sub p.room) s memory 0 in
      ap going_of r.is
      ∙ ap (λ (x : SureWrite). record { state = x; side = end.side; memory = end.memory; calls = end.calls; refused = end.refused })
      (settled-one (rounds middle 1 0 0 r.from) end.turn refl (lit< tt))
      ∙ sym (write-legs side s memory sub block b p.short p.sub_in_range p.room d calls)

  goes-first : goes_on (rounds middle 1 0 0 0) ≡ true
  unfolding goes_on rounds_verdict
  goes-first = rw (start-in middle 1 starts)

  one-play : (passages : ℕ → RoundPassage) → passages 0 ≡ one_passage b d calls
      → going_of (tried_to side s memory (short_rounds (length block) sub) block passages 1) ≡ sure_write side s memory sub block b d calls
  unfolding tried listed
  one-play passages e = rw (start-is middle 1 starts, goes-first, e) one-round

pub one-round-plays : (side : Side) → OnePlay side
one-round-plays side s memory sub block b p d calls passages e = one-play side s memory sub block p d calls passages e
