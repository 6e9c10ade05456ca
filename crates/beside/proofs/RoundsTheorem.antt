-- Request 7 on one port of a card with two, while the other port is busy and none of the excluded commands of it is accepted: word by word and bit
-- by bit.
-- Assumes nothing.
use Prim.Native.Nat.{ℕ}
use mathlib.Core.List.{List}
use mathlib.Core.Path.{subst}
use Rattle.delivery.specs.Delivery.{Side}
use Rattle.delivery.proofs.Demand3.{Demand3}
use Rattle.retrying.specs.Retrying.{Trying, RoundPassage, RoundsDone, RoundsMeaning, RoundsPremises}
use Rattle.retrying.proofs.Write.{rounds-delivery, rounds-undamaged}
use Rattle.beside.specs.Beside.{excluded, Beside, beside_on}
use Rattle.beside.specs.Layers.{Layer, ports_in_words, ports_at_pins}
use Rattle.beside.specs.RoundsBeside.{RoundsDeliveryBeside, RoundsUndamagedBeside}
use Rattle.beside.proofs.Barred.{beside_but}
use Rattle.beside.proofs.RoundsPlays.{tried-same}
use Rattle.beside.proofs.Theorem.{left-out-in-words, left-out-at-pins, premises}

module _ (layer : Layer) (p : ℕ) (all : Demand3 (beside_but layer excluded p)) where
  abbrev free : Side
  free = beside_on layer p

  abbrev but : Side
  but = beside_but layer excluded p

  -- premises and meaning do not speak of how a message is heard
  rounds-premises : {s : Beside layer} {memory : List ℕ} {sub : ℕ} {block : List ℕ} {most : ℕ} {passages : ℕ → RoundPassage}
      → RoundsPremises free s memory sub block most passages → RoundsPremises but s memory sub block most passages
  rounds-premises h = record { first = premises layer p all h.first; rounds = h.rounds; room = h.room }

  rounds-meaning : {s : Beside layer} {memory : List ℕ} {sub : ℕ} {block : List ℕ} {most n : ℕ} {end : Trying (Beside layer)}
      → RoundsMeaning but s memory sub block most n end → RoundsMeaning free s memory sub block most n end
  rounds-meaning m = record {
    done = m.done;
    either = m.either;
    tries = m.tries;
    unrefused = m.unrefused;
    reports = m.reports;
    bounded = m.bounded;
    kept = m.kept;
    runs = m.runs;
  }

  delivered : RoundsDeliveryBeside layer excluded p
  delivered s memory sub block most passages h n none =
      rounds-meaning
      (subst (RoundsMeaning but s memory sub block most n) (tried-same layer excluded p block passages _ n none)
      (rounds-delivery but all s memory sub block most passages (rounds-premises h) n))

  undamaged : RoundsUndamagedBeside layer excluded p
  undamaged s memory sub block most passages h even inside i allowed clear n later none =
      subst RoundsDone (tried-same layer excluded p block passages _ n none)
      (rounds-undamaged but all s memory sub block most passages (rounds-premises h) even inside i allowed clear n later)

-- ---- the sentences of request 7

pub rounds-beside : (p : ℕ) → RoundsDeliveryBeside ports_in_words excluded p
rounds-beside p = delivered ports_in_words p (left-out-in-words p)

pub rounds-undamaged-beside : (p : ℕ) → RoundsUndamagedBeside ports_in_words excluded p
rounds-undamaged-beside p = undamaged ports_in_words p (left-out-in-words p)

pub rounds-beside-at-pins : (p : ℕ) → RoundsDeliveryBeside ports_at_pins excluded p
rounds-beside-at-pins p = delivered ports_at_pins p (left-out-at-pins p)

pub rounds-undamaged-beside-at-pins : (p : ℕ) → RoundsUndamagedBeside ports_at_pins excluded p
rounds-undamaged-beside-at-pins p = undamaged ports_at_pins p (left-out-at-pins p)
