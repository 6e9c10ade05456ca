-- What the calls of rounds give, by request 7: the number of a refusal, 0 for none, and the rest.
use Rattle.std.specs.Prelude.{ℕ}
use Rattle.retry.specs.declared.Rounds.{Rounds}

-- asking for the next message: the number of words written, and the state after
pub record RoundsAsked : Type 0 where
  pub refusal : ℕ
  pub words : ℕ
  pub state : Rounds

-- giving the words that came back
pub record RoundsGiven : Type 0 where
  pub refusal : ℕ
  pub state : Rounds

-- the words laid out for the bus
pub record WordsLaid : Type 0 where
  pub refusal : ℕ
  pub words : ℕ
