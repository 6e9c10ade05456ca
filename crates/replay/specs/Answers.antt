-- What a play gives: the refusal's number, 0 for none, the card after it, and how many bytes of lines were put.
use Rattle.std.specs.Prelude.{ℕ}
use Rattle.card.specs.declared.Card.{Card}

pub record Played : Type 0 where
  pub refusal : ℕ
  pub card : Card
  pub written : ℕ
