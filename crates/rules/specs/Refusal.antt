-- A refusal's number, and the number that an answer stands for: 0 for none, else its refusal's.
use Rattle.std.specs.Prelude.{ℕ, Result, Ok, Err}
use Rattle.rules.specs.Refusals as refusal
use Rattle.rules.specs.declared.refusal.Refusal.{Refusal}
use Rattle.rules.specs.declared.refusal.Refusal.TheVariants.{Size, State, Open, Closed, Argument, Room, Turn, Count, Record}

abbrev pub number_of : Refusal → ℕ
number_of Size = refusal.size
number_of State = refusal.state
number_of Open = refusal.still_open
number_of Closed = refusal.closed
number_of Argument = refusal.argument
number_of Room = refusal.room
number_of Turn = refusal.turn
number_of Count = refusal.count
number_of Record = refusal.bad_record

abbrev pub refusal_of : {A : Type 0} → Result A Refusal → ℕ
refusal_of (Ok _) = refusal.none
refusal_of (Err r) = number_of r
