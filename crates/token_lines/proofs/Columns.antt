-- A mark's column: its name, or as many dashes.
-- Assumes nothing.
use Prim.Native.Nat.{ℕ}
use mathlib.Core.Bool.{Bool, true, false, false≢true}
use mathlib.Core.List.{List, [], ◌∷◌}
use mathlib.Core.Path.{◌≡◌, refl, ap, ◌∙◌}
use lib.ListN.{length, replicate}
use Rattle.token_lines.specs.TokenLines.{dash, column}

pub named : (name : List ℕ) (wrong : Bool) → wrong ≡ true → name ≡ column name wrong
unfolding column
named [] true e = refl
named (l ∷ name) true e = ap (λ (rest : List ℕ). l ∷ rest) (named name true refl)
named name false e = absurd (false≢true e)

pub dashes : (name : List ℕ) (n : ℕ) (wrong : Bool) → length name ≡ n → wrong ≡ false → replicate n dash ≡ column name wrong
unfolding column
dashes name n wrong size e = rw (← size, e) (go name)
  where
    go : (name : List ℕ) → replicate (length name) dash ≡ column name false
    go [] = refl
    go (l ∷ name) = ap (λ (rest : List ℕ). dash ∷ rest) (go name)

pub ruleset columns = (named, dashes)
