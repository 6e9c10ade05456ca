-- What holds of a command of up to r rounds whatever is asked and given: Done and Unsure end it, the words reported are the sum over the messages built,
-- the ranges are exact, and one round is the sure write.
-- Assumes nothing.
use Prim.Native.Nat.{◌+◌, ◌*◌, ◌≤◌}
use native.Mathlib.Omega.{arith}
use mathlib.Core.Bool.{true, false}
use mathlib.Core.List.{List, [], ◌∷◌}
use mathlib.Core.Path.{◌≡◌, refl, ap, ◌∙◌}
use lib.ListN.{length}
use Rattle.retry.specs.Promises.{RoundsCall, ask, give, rounds_after, VerdictStays, words_built, Reported, InRangeStays, NoneElse, OneRound}
use Rattle.retry.specs.Rounds.{rounds, may_start, out_of_rounds, rounds_asked, rounds_given, running_words, laid_out, words_laid}
use Rattle.retry.specs.declared.Rounds.{Rounds}
use Rattle.retry.proofs.OneRound as one
use Rattle.retry.proofs.Reached.{led}
use Rattle.retry.proofs.StateLaws.{over-turn, ask-out-of-turn, give-out-of-turn, not-refused, start-is, start-in, SameCommand, ask-same, give-same, asks-in, gives-in}
use Rattle.retry.proofs.WordLaws.{ask-adds, give-adds-none, laid-most}

-- ---- over any calls, from any state

sum-after : (s : Rounds) (calls : List RoundsCall) → laid_out (rounds_after s calls) ≡ laid_out s + words_built s calls
unfolding rounds_after words_built
sum-after s [] = omega arith
sum-after s (ask block buffer ∷ calls) =
    let later = sum-after (rounds_asked s block (length buffer)).state calls in
    let now = ask-adds s block buffer in
    omega arith
sum-after s (give words ∷ calls) =
    let later = sum-after (rounds_given s words).state calls in
    let now = give-adds-none s words in
    omega arith

same-after : (s : Rounds) (calls : List RoundsCall) → SameCommand s (rounds_after s calls)
unfolding rounds_after
same-after s [] = (refl, refl)
same-after s (ask block buffer ∷ calls) =
    let (command-later, most-later) = same-after (rounds_asked s block (length buffer)).state calls in
    let (command-now, most-now) = ask-same s block (length buffer) in
    (command-later ∙ command-now, most-later ∙ most-now)
same-after s (give words ∷ calls) =
    let (command-later, most-later) = same-after (rounds_given s words).state calls in
    let (command-now, most-now) = give-same s words in
    (command-later ∙ command-now, most-later ∙ most-now)

pub in-range-stays : InRangeStays
unfolding rounds_after
in-range-stays s [] h = h
in-range-stays s (ask block buffer ∷ calls) h = in-range-stays (rounds_asked s block (length buffer)).state calls (asks-in s h block (length buffer))
in-range-stays s (give words ∷ calls) h = in-range-stays (rounds_given s words).state calls (gives-in s h words)

-- ---- Done and Unsure

pub verdict-stays : VerdictStays
unfolding rounds_after
verdict-stays s over [] = refl
verdict-stays s over (ask block buffer ∷ calls) =
    ap (λ (x : Rounds). rounds_after x calls) (ask-out-of-turn s (over-turn s over).0 block (length buffer)) ∙ verdict-stays s over calls
verdict-stays s over (give words ∷ calls) =
    ap (λ (x : Rounds). rounds_after x calls) (give-out-of-turn s (over-turn s over).1 words) ∙ verdict-stays s over calls

-- ---- from a start

pub reported : Reported
unfolding words_laid
reported t most accepted calls = rw (start-is t most starts) (rw (inside, sum), bound)
  where
    starts : may_start t most ≡ true
    starts = not-refused t most accepted

    inside : out_of_rounds (rounds_after (rounds t most 0 0 0) calls) ≡ false
    inside = in-range-stays (rounds t most 0 0 0) calls (start-in t most starts)

    sum : laid_out (rounds_after (rounds t most 0 0 0) calls) ≡ words_built (rounds t most 0 0 0) calls
    sum =
        let none : laid_out (rounds t most 0 0 0) ≡ 0 = unfold laid_out running_words in omega arith in
        omega (arith, sum-after (rounds t most 0 0 0) calls)

    bound : words_built (rounds t most 0 0 0) calls ≤ most * (t.length + 13)
    bound =
        let (command-same, most-same) = same-after (rounds t most 0 0 0) calls in
        let low = laid-most (rounds_after (rounds t most 0 0 0) calls) inside in
        rw (sum, most-same, command-same) at low

pub none-else : NoneElse
none-else = led

pub one-round : OneRound
one-round = one.one-round
