-- The cards so far are noted, and the others are as they were.
use Rattle.std.proofs.Common.{◌≡◌, ◌++◌, map, take, drop}
use Rattle.listed.specs.Listed.{with_verdict}
use Rattle.listed.proofs.note_all.Given as goal

abbrev pub invariant-loop-card : goal.invariant-loop-card
invariant-loop-card l = l.cards ≡ map (with_verdict l.load) (take l.card-index l.initial.cards) ++ drop l.card-index l.initial.cards
