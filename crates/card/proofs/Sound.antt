-- What every card run from power-up has: its state is in range, its last token is a good command token, where no message is open
-- the message is empty, and where no word is told the note's word is 0.
-- Assumes nothing.
use Prim.Native.Nat.{ℕ}
use mathlib.Core.Bool.{Bool, true, false}
use mathlib.Core.List.{List}
use mathlib.Core.Path.{◌≡◌, refl, sym, ◌∙◌}
use native.Mathlib.Omega.{arith}
use borrow.Author.Tests.{le-ltb}
use lib.ListN.{length}
use Rattle.rules.specs.Refusals as refusal
use Rattle.rules.specs.Rules.{reset}
use Rattle.judge.proofs.Laws.{never, token-passed, passed-good}
use Rattle.token.proofs.CommandTrip.{command-good}
use Rattle.token.specs.Command.{command, command_fits, good_command}
use Rattle.card.specs.Release.{acted, noted, ended, released}
use Rattle.card.specs.Card.{powered, selected, module_set}
use Rattle.card.specs.Exchange.{told, took, exchanged, with_told, word1, word2, taken}
use Rattle.card.specs.Run.{Run, power_up, select, set_module, tell, take_word, release}
use Rattle.card.specs.State.{emptied, fresh, out_of_range}
use Rattle.card.specs.declared.Card.{Card}
use Rattle.card.proofs.Cases.{powered-case, selected-case, module-case, told-case, took-case, released-case, ended-case}
use Rattle.card.proofs.Laws.{InRange, lent, accepted-token}
use Rattle.card.proofs.Ranges.{powered-ranged, selected-ranged, told-ranged, took-ranged, released-ranged, module-ranged}

pub record Sound (c : Card) : Type 0 where
  pub ranged : InRange c
  pub last : good_command c.port.last.first c.port.last.second ≡ true
  pub closed : c.port.message.opened ≡ false → c.port.message ≡ emptied false
  pub none_told : c.port.message.note.told ≡ false → c.port.message.note.word ≡ 0

-- a state in range is not refused by State
pub not-out : (c : Card) → InRange c → out_of_range c ≡ false
unfolding out_of_range
not-out c r = rw (r.size, le-ltb 67 _ r.count, le-ltb 15 _ r.module_state)

-- ---- each call leaves a sound card. Its ranges are known (Ranges.antt), and each case takes them over.

pub powered-sound : (size : ℕ) → (powered size).refusal ≡ refusal.none → Sound (powered size).card
unfolding fresh emptied command_fits
powered-sound size h =
    powered-case (λ a. a.refusal ≡ refusal.none → InRange a.card → Sound a.card) size (λ h i. absurd (omega arith))
    (λ s h i. record {
      ranged = i;
      last = command-good (command reset.code 0 0) refl;
      closed = λ e. refl;
      none_told = λ e. refl;
    })
    h (powered-ranged size h)

selected-sound : (c : Card) → Sound c → Sound (selected c).card
unfolding emptied
selected-sound c s =
    selected-case (λ a. InRange a.card → Sound a.card) c (λ n r i. s)
    (λ r o i. record { ranged = i; last = s.last; closed = λ e. never e; none_told = λ e. refl })
    (selected-ranged c s.ranged)

module-sound : (c : Card) (stf : Bool) (state : ℕ) → Sound c → Sound (module_set c stf state).card
module-sound c stf state s =
    module-case (λ a. InRange a.card → Sound a.card) c stf state (λ r i. s)
    (λ q i. record { ranged = i; last = s.last; closed = s.closed; none_told = s.none_told })
    (module-ranged c stf state s.ranged)

pub told-sound : (c : Card) (memory : List ℕ) → Sound c → Sound (told c memory).card
unfolding with_told
told-sound c memory s =
    told-case (λ a. InRange a.card → Sound a.card) c memory (λ r i. s)
    (λ q i. record { ranged = i; last = s.last; closed = λ e. never (sym (lent c (length memory) q).opened ∙ e); none_told = λ e. never e })
    (told-ranged c memory s.ranged)

pub took-sound : (c : Card) (memory : List ℕ) (word : ℕ) → Sound c → Sound (took c memory word).card
unfolding taken
took-sound c memory word s =
    took-case (λ a. InRange a.card → Sound a.card) c memory word (λ r i. s)
    (λ q i. record { ranged = i; last = s.last; closed = λ e. never (sym (lent c (length memory) q).opened ∙ e); none_told = λ e. refl })
    (took-ranged c memory word s.ranged)

ended-sound : (c : Card) (left : ℕ) → Sound c → InRange (ended c left) → Sound (ended c left)
unfolding noted acted emptied
ended-sound c left s =
    ended-case (λ d. InRange d → Sound d) c left
    (λ i. record { ranged = i; last = s.last; closed = λ e. refl; none_told = λ e. refl })
    (λ v i. record { ranged = i; last = s.last; closed = λ e. refl; none_told = λ e. refl })
    (λ v i. record {
      ranged = i;
      last = passed-good (word1 c) (word2 c) (token-passed c.size c.bases (word1 c) (word2 c) (accepted-token c left v)).one;
      closed = λ e. refl;
      none_told = λ e. refl;
    })

pub released-sound : (c : Card) (size left : ℕ) → Sound c → Sound (released c size left).card
released-sound c size left s =
    released-case (λ a. InRange a.card → Sound a.card) c size left (λ r i. s) (λ q. ended-sound c left s) (released-ranged c size left s.ranged)

pub run-sound : {c : Card} → Run c → Sound c
run-sound (power_up size h) = powered-sound size h
run-sound (select {c = c} r) = selected-sound c (run-sound r)
run-sound (set_module {c = c} r stf state) = module-sound c stf state (run-sound r)
run-sound (tell {c = c} r memory) = told-sound c memory (run-sound r)
run-sound (take_word {c = c} r memory word) = took-sound c memory word (run-sound r)
run-sound (release {c = c} r size left) = released-sound c size left (run-sound r)

-- ---- a word exchanged is told and taken

pub word-run : {c : Card} → Run c → (memory : List ℕ) (word : ℕ) → Run (exchanged c memory word).card
unfolding exchanged
word-run r memory word = take_word (tell r memory) memory word
