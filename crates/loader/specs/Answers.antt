-- What the loader's operations answer, as their definitions give it: the refusal's number, 0 for none, and what it comes with.
use Rattle.std.specs.Prelude.{ℕ, Bool}
use Rattle.loader.specs.declared.Load.{Load}
use Rattle.loader.specs.declared.Loader.{Loader}

-- starting a load: what it says of every card at first, and the state
pub record LoadStarted : Type 0 where
  pub refusal : ℕ
  pub load : Load
  pub state : Loader

-- asking for the next message: the number of words written, and the state after
pub record LoadAsked : Type 0 where
  pub refusal : ℕ
  pub words : ℕ
  pub state : Loader

-- giving the words that came back: what is now said of the card that was served, and the state after
pub record LoadGiven : Type 0 where
  pub refusal : ℕ
  pub load : Load
  pub state : Loader

-- the card that is to be selected
pub record CardNow : Type 0 where
  pub refusal : ℕ
  pub card : ℕ

-- whether all is over
pub record AllOver : Type 0 where
  pub refusal : ℕ
  pub over : Bool
