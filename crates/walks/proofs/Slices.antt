-- What the walks over a slice of any element type share.
--     bytes        an element's size, which MIR has as a numeral
--     index-fits   an element's offset in bytes is a usize
--     slice-kept   an exit: what a walk has of a `&mut [T]` once it is closed at the list zs is what the parameter owns at zs. The machine value passed has the old list's length, which is zs's
-- Assumes `Logic`.
use mathlib.Core.Path.{◌≡◌, sym, ap, subst}
use Prim.Native.Nat.{ℕ, ◌<◌, ◌*◌, ◌^◌}
use native.Mathlib.Nat.{mul-le-mul_right, lt_of_le_of_lt, le_of_lt}
use native.Mathlib.Omega.{arith}
use mathlib.Core.List.{[], ◌∷◌, List}
use lib.ListN.{length}
use seplogic.Ra.Ura.{Ura}
use mir.Syntax.{named}
use base.Logic.{ent, sep}
use base.Fml.{Lft, GName, fobs, fbor}
use types.Logic.{Logic, sem}
use types.Kit.{‵, ◌$◌, ◌∵◌, !, qed, fjoin, done}
use denote.RattleType.{RattleType}
use denote.Memory.{mem}
use denote.Shadow.{pure_i}
use denote.Ref.{MutBor}
use denote.Slice.{slice_val, MutSlice, Room, heres, coded_holeys, mut_slice_at}
use denote.Lend.{Held}

abbrev pub bytes : RattleType → ℕ
bytes R = (mem R).size

pub index-fits : (s n i : ℕ) → i < n → n * s < 2 ^ 63 → i * s < 2 ^ 64
index-fits s n i within room =
    let most : i * s < 2 ^ 63 = lt_of_le_of_lt (mul-le-mul_right s (le_of_lt within)) room in
    omega (arith, most)

module _ {M : Type 1} {𝓤 : Ura M} (𝓛 : Logic 𝓤) (R : RattleType) (κ : Lft) (b o : ℕ) (γ : GName) where
  -- the borrow at the list l
  abbrev pub borrowed : List R.Denot → MutBor (List R.Denot)
  borrowed l = record { ref_ptr = (b, o); ghost_name = γ; now = l }

  pub slice-kept : (ys zs : List R.Denot) → length zs ≡ length ys → Room R (length ys)
      → ent 𝓤 (sep 𝓤 (sem 𝓛 (fobs γ ((coded_holeys R).code (heres R zs)))) (sem 𝓛 (fbor κ (Held R (length zs) b o γ)))) (sem 𝓛 ((MutSlice (named 0) κ R).own_val (borrowed zs) (slice_val (b, o) (length ys) ∷ [])))
  slice-kept ys zs e room =
      qed 𝓛 (‵ (fobs γ ((coded_holeys R).code (heres R zs))) ∷ ‵ (fbor κ (Held R (length zs) b o γ)) ∷ []) ∵ fjoin ! $
      pure_i ! (mut_slice_at R (borrowed zs) (slice_val (b, o) (length ys) ∷ [])) (tt, (tt, tt)) (ap (λ (m : ℕ). slice_val (b, o) m ∷ []) (sym e), subst (Room R) (sym e) room) $ done !
