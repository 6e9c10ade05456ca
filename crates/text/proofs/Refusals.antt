-- A refused put changes nothing: the buffer is as it was lent, and the place stays.
-- Assumes nothing.
use Prim.Native.Nat.{ℕ}
use mathlib.Core.Bool.{false}
use mathlib.Core.List.{List}
use mathlib.Core.Path.{◌≡◌, refl}
use borrow.Author.Tests.{ne_eqb}
use lib.Dec.{eqb}
use lib.ListN.{length}
use Rattle.rules.specs.Refusals as refusal
use Rattle.text.specs.Lines.{Shown}
use Rattle.text.specs.Text.{room_refusal, buffer_with, put_refusal, line_put, buffer_with_line}

pub put-refused : (buffer : List ℕ) (place : ℕ) (s : Shown) → ((line_put (length buffer) place s).refusal ≡ refusal.none → ⊥)
    → ((line_put (length buffer) place s).end ≡ place) × (buffer_with_line buffer place s ≡ buffer)
unfolding line_put buffer_with_line
put-refused buffer place s h =
    let no : eqb (put_refusal (length buffer) place s) refusal.none ≡ false = ne_eqb _ _ h in
    rw no (refl, refl)

pub bytes-refused : (buffer : List ℕ) (place : ℕ) (bytes : List ℕ) → (room_refusal (length buffer) place (length bytes) ≡ refusal.none → ⊥)
    → buffer_with buffer place bytes ≡ buffer
bytes-refused buffer place bytes h =
    let no : eqb (room_refusal (length buffer) place (length bytes)) refusal.none ≡ false = ne_eqb _ _ h in
    rw no
