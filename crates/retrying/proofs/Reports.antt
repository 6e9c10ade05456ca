-- The words that a state reports are those of the messages built, over any number of rounds, whatever befalls them.
-- Assumes nothing.
use Prim.Native.Nat.{ℕ, zero, suc, ◌+◌, ◌*◌, ◌≤◌}
use native.Mathlib.Omega.{arith}
use mathlib.Core.Bool.{true, false}
use mathlib.Core.List.{List, []}
use mathlib.Core.Path.{◌≡◌, refl, ap, ◌∙◌}
use lib.Dec.{eqb}
use lib.ListN.{length}
use Rattle.rules.specs.Refusals as refusal
use Rattle.rules.proofs.Cases.{by-test}
use Rattle.token.specs.declared.command.Command.{Command}
use Rattle.card.specs.Whole.{Hears, listed}
use Rattle.retry.specs.Promises.{message_asked}
use Rattle.retry.specs.Rounds.{rounds, may_start, out_of_rounds, rounds_asked, running_words, laid_out, words_laid}
use Rattle.retry.proofs.StateLaws.{ask-same, give-same, asks-in, gives-in, not-refused, start-is, start-in}
use Rattle.retry.proofs.WordLaws.{ask-adds, give-adds-none, laid-most}
use Rattle.delivery.specs.AnyCommand.{Fate}
use Rattle.delivery.specs.Delivery.{Side}
use Rattle.delivery.specs.Play.{Sets}
use Rattle.retrying.specs.Retrying.{Trying, RoundPassage, try_message, try_round, goes_on, tried, WordsReported}

module _ (t : Command) (most : ℕ) (starts : may_start t most ≡ true) where
  -- the state is in range, of this command and these rounds, and reports what was built
  record Reports {S : Type 0} (g : Trying S) : Type 0 where
    in_range : out_of_rounds g.state ≡ false
    command : g.state.command ≡ t
    rounds_most : g.state.most ≡ most
    words : laid_out g.state ≡ g.laid

  module _ {S : Type 0} (hears : Hears S) (sets : Sets S) where
    message-reports : (block buffer : List ℕ) (f : Fate) (g : Trying S) → Reports g → Reports (try_message hears sets block buffer f g)
    unfolding try_message
    message-reports block buffer f g h =
        let asked_in = asks-in g.state h.in_range block (length buffer) in
        let (command-asked, most-asked) = ask-same g.state block (length buffer) in
        let (command-given, most-given) = give-same (rounds_asked g.state block (length buffer)).state _ in
        record {
          in_range = gives-in (rounds_asked g.state block (length buffer)).state asked_in _;
          command = command-given ∙ command-asked ∙ h.command;
          rounds_most = most-given ∙ most-asked ∙ h.rounds_most;
          words = give-adds-none (rounds_asked g.state block (length buffer)).state _ ∙ ask-adds g.state block buffer ∙ ap (λ (n : ℕ). n + length (message_asked g.state block buffer)) h.words;
        }

    round-reports : (block : List ℕ) (p : RoundPassage) (g : Trying S) → Reports g → Reports (try_round hears sets block p g)
    unfolding try_round
    round-reports block p g h =
        let first = message-reports [] p.buffers.first p.fates.first g h in
        by-test Reports (eqb (try_message hears sets [] p.buffers.first p.fates.first g).state.turn 2)
        (λ e. message-reports [] p.buffers.third p.fates.third _ (message-reports block p.buffers.second p.fates.second _ first))
        (λ e. first)

    tried-reports : (block : List ℕ) (passages : ℕ → RoundPassage) (g : Trying S) → Reports g → (n : ℕ) → Reports (tried hears sets block passages g n)
    unfolding tried
    tried-reports block passages g h zero = h
    tried-reports block passages g h (suc n) =
        let before = tried-reports block passages g h n in
        by-test Reports (goes_on (tried hears sets block passages g n).state) (λ e. round-reports block (passages n) _ before) (λ e. before)

pub words-reported : (side : Side) → WordsReported side
unfolding words_laid laid_out running_words listed
words-reported side s memory t most accepted block passages n = rw (start-is t most starts) (means (tried-reports t most starts side.hears side.sets block passages _ first n))
  where
    starts : may_start t most ≡ true
    starts = not-refused t most accepted

    first : Reports t most starts {S = side.State} (record { state = rounds t most 0 0 0; side = s; memory = memory; calls = []; refused = []; laid = 0 })
    first = record { in_range = start-in t most starts; command = refl; rounds_most = refl; words = unfold laid_out running_words in omega arith }

    means : {g : Trying side.State} → Reports t most starts g
        → (words_laid g.state ≡ record { refusal = refusal.none; words = g.laid }) × (g.laid ≤ most * (t.length + 13))
    means {g} h =
        let bound : laid_out g.state ≤ g.state.most * (g.state.command.length + 13) = laid-most g.state h.in_range in
        (rw (h.in_range, h.words), rw (h.words, h.rounds_most, h.command) at bound)
