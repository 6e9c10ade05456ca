-- What the controller's operations give, by document 01. An operation that is refused gives the number of its refusal, 0 for none.
use Rattle.std.specs.Prelude.{ℕ}
use Rattle.controller.specs.declared.sure.SureWrite.{SureWrite}

-- building a message: the refusal number, and the number of words written
pub record MessageBuilt : Type 0 where
  pub refusal : ℕ
  pub words : ℕ

-- asking a sure write for its next message: the refusal number, the number of words written, and the state after
pub record Asked : Type 0 where
  pub refusal : ℕ
  pub words : ℕ
  pub state : SureWrite

-- giving it the words that came back
pub record Given : Type 0 where
  pub refusal : ℕ
  pub state : SureWrite
