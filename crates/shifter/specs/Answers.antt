-- What an operation of a shifter makes of it: the refusal's number, 0 for none, and the answer or the shifter after.
use Rattle.std.specs.Prelude.{ℕ, Bool, true, false, Option, Some, None}
use Rattle.rules.specs.Refusals as refusal
use Rattle.shifter.specs.declared.Shift.{Shift}
use Rattle.shifter.specs.declared.Shifter.{Shifter}

-- the bit sent, and whether a word is complete, and which
pub record Sent : Type 0 where
  pub refusal : ℕ
  pub bit : Bool
  pub complete : Bool
  pub word : ℕ

-- the shifter after, and the answer
pub record Step : Type 0 where
  pub shifter : Shifter
  pub answer : Sent

pub record ShifterAfter : Type 0 where
  pub refusal : ℕ
  pub shifter : Shifter

-- the bits that are no whole word
pub record LeftOver : Type 0 where
  pub refusal : ℕ
  pub bits : ℕ

-- the answer that a bit and a word stand for: the word is 0 where none is complete
abbrev pub sent_with : Bool → Option ℕ → Sent
sent_with b (Some w) = record { refusal = refusal.none; bit = b; complete = true; word = w }
sent_with b None = record { refusal = refusal.none; bit = b; complete = false; word = 0 }

abbrev pub shift_gives : Shift → Sent
shift_gives s = sent_with s.bit s.word
