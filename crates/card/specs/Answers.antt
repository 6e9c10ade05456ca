-- What an operation of a card makes of it: the refusal's number, 0 for none, and the state after.
use Rattle.std.specs.Prelude.{ℕ}
use Rattle.card.specs.declared.Card.{Card}

pub record CardAfter : Type 0 where
  pub refusal : ℕ
  pub card : Card

-- and the word that the card will send
pub record Told : Type 0 where
  pub refusal : ℕ
  pub card : Card
  pub word : ℕ
