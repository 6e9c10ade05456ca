-- What a reader has given to a buffer.
use Rattle.std.specs.Prelude.{ℕ, ◌<◌, ◌≤◌, List, length, take}
use Rattle.std.specs.declared.option.Option.{Option}
use Rattle.std.specs.Io.KnownBytes.{Consumes, IsAtEnd}

-- Of a reader that had the bytes `old` to give and has `new` left: the bytes between stand at the buffer's start.
abbrev pub HasRead : Option (List ℕ) → Option (List ℕ) → List ℕ → Type 0
HasRead old new buffer = (n : ℕ) × (n ≤ length buffer) × Consumes old new (take n buffer)

-- Of such a reader: fewer bytes than were asked for were left, and they are read.
abbrev pub HasEnded : ℕ → Option (List ℕ) → Option (List ℕ) → Type 0
HasEnded count old new = (front : List ℕ) × (length front < count) × Consumes old new front × IsAtEnd new
