-- What the operations on a list by value answer: the loader's answer, and the cards after it.
use Rattle.loader.specs.Answers.{LoadStarted, LoadGiven}
use Rattle.listed.specs.declared.Cards.{Cards}

pub record CardsStarted : Type 0 where
  pub started : LoadStarted
  pub cards : Cards

pub record CardsGiven : Type 0 where
  pub given : LoadGiven
  pub cards : Cards
