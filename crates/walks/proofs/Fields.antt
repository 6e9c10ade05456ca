-- A field that is an array of structs. In its struct it stands at the tuples of its elements, and on its own at the elements themselves: the same machine value, and the same relation, but not by computation.
--     field_val, field-val-is      the field's machine value, as the struct spells it, is the array's
--     array-of-field, field-of-array      so is the relation, each way
-- Assumes nothing.
use Prim.Native.Nat.{ℕ}
use mathlib.Core.Path.{◌≡◌, refl, sym, ap, subst}
use mathlib.Core.List.{List, [], ◌∷◌, map, map-map}
use lib.ListN.{length-map}
use mir.Val.{Val}
use base.Fml.{fex, fsep, feq}
use denote.RattleType.{RattleType}
use denote.Shadow.{shadow}
use denote.Array.{each, array_val, in_array}
use denote.Struct.Declared as S
use denote.Struct.Struct.{Struct, Plains}
use denote.Struct.Laws as SL
use Rattle.walks.proofs.Plain.{IsA, struct_plain, array_plain}

module _ (R : RattleType) (X : Type 0) (to : X → R.Denot) where
  each-same : (xs : List X) (us : List Val) → each X (λ d vs. R.own_val (to d) vs) xs us ≡ each R.Denot R.own_val (map to xs) us
  each-same [] [] = refl
  each-same [] (u ∷ us) = refl
  each-same (x ∷ xs) [] = refl
  each-same (x ∷ xs) (u ∷ us) = ap (fsep (R.own_val (to x) (u ∷ []))) (each-same xs us)

  own-same : (n : ℕ) (xs : List X) (vs : List Val) → in_array X (λ d ws. R.own_val (to d) ws) n xs vs ≡ in_array R.Denot R.own_val n (map to xs) vs
  own-same n xs vs = λ i. fex (List Val) (λ us. fsep (fsep (feq (List Val) vs (array_val us ∷ [])) (feq ℕ (sym (length-map xs to) i) n)) (each-same xs us i))

module _ (T : S.Declared) (L : SL.Laws T) (pl : Plains (S.fields T)) (n : ℕ) where
  abbrev pub field_val : List T.D → Val
  field_val ys = array_val (map (SL.tuple_val T L) (map T.to ys))

  abbrev pub IsField : List T.D → Type 0
  IsField ys = shadow (in_array (Struct (S.shape T)).Denot (Struct (S.shape T)).own_val n (map T.to ys) (field_val ys ∷ []))

  pub field-val-is : (ys : List T.D) → field_val ys ≡ (array_plain (struct_plain T L pl) n).val ys
  field-val-is ys = ap array_val (map-map (SL.tuple_val T L) T.to ys)

  abbrev at_val : (ys : List T.D) → Val → Type 0
  at_val ys v = shadow (in_array T.D (λ d ws. (Struct (S.shape T)).own_val (T.to d) ws) n ys (v ∷ []))

  pub array-of-field : (ys : List T.D) → IsField ys → IsA (array_plain (struct_plain T L pl) n) ys
  array-of-field ys is = subst (at_val ys) (field-val-is ys) (subst shadow (sym (own-same (Struct (S.shape T)) T.D T.to n ys (field_val ys ∷ []))) is)

  pub field-of-array : (ys : List T.D) → IsA (array_plain (struct_plain T L pl) n) ys → IsField ys
  field-of-array ys is = subst shadow (own-same (Struct (S.shape T)) T.D T.to n ys (field_val ys ∷ [])) (subst (at_val ys) (sym (field-val-is ys)) is)
