-- The turns by name. In a state a turn is its number, and a caller may hand in any.
use Rattle.std.specs.Prelude.{ℕ, Result, MatchResult, ◌≡◌, ◌<◌}
use Rattle.rules.specs.declared.refusal.Refusal.{Refusal}
use Rattle.rules.specs.declared.refusal.Refusal.TheVariants.{State}
use Rattle.controller.specs.declared.turn.Message.TheVariants.{First, Command, Last}
use Rattle.controller.specs.declared.turn.Turn.{Turn}
use Rattle.controller.specs.declared.turn.Turn.TheVariants.{Ask, Give, Done, Unsure}

abbrev pub number_of_turn : Turn → ℕ
number_of_turn (Ask First) = 0
number_of_turn (Give First) = 1
number_of_turn (Ask Command) = 2
number_of_turn (Give Command) = 3
number_of_turn (Ask Last) = 4
number_of_turn (Give Last) = 5
number_of_turn Done = 6
number_of_turn Unsure = 7

-- a number up to 7 names its turn; above 7 it names none, which is the refusal State
abbrev pub NamesTurn : ℕ → Result Turn Refusal → Type 0
NamesTurn number r = MatchResult r (λ turn. number_of_turn turn ≡ number) (λ e. (e ≡ State) × (7 < number))
