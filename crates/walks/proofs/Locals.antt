-- What a walk needs that lends a local: a local that holds a plain value is lent for a lifetime that is made for it, and is back, at its last value, once the lifetime is ended.
--     lends-mut, ends-mut      by `&mut`: the lifetime's token, the reference and the lender's part for the local's cell; and the cell again, at the last value
--     lends-shr, ends-shr      by `&`: the same, and the value stays. Where the type is lent so (`Plain.antt`'s `Lends`).        lends-shr-by    by the type's law of sharing
--     lends-part, ends-part    the first k elements of an array, by `&mut`: what lies behind them stays with the walk; and the array's cell again, at their last values
-- A local's cell stands at the type itself and memory's at its raw form. A plain type has one machine value, and so one MIR type τ: `refl` says which.
-- Assumes `Logic`.
use Prim.Native.Nat.{ℕ}
use mathlib.Core.Path.{◌≡◌, refl, sym, subst}
use mathlib.Core.List.{List, [], ◌∷◌, ◌++◌}
use lib.ListN.{length, take, drop as dropped, take-append-drop}
use seplogic.Ra.Ura.{Ura}
use base.Fraction.{full_share}
use mir.Syntax.{Lifetime, Ty, named}
use mir.Val.{Val, vptr}
use base.Logic.{ent}
use base.Fml.{Fml, GName, fsep, fat, flft, flent, fres}
use types.Logic.{Logic, sem}
use types.Kit.{Goal, Soaks, Item, ‵, ◌⊛◌, some, later, Seq, Step, step, ◌$◌, move, drop, use1, use2, use3, await, split, pick, rewrite, fsplit, fjoin, fpick, fpack, feq_i}
use types.SemTy.{Body, Arr, cells}
use types.Share.{arr_parts}
use types.Tokens.{lft_new, lft_end, lent_back}
use denote.RattleType.{RattleType}
use denote.Laws.{Is, shows}
use denote.Array.{Array}
use denote.ArrayMemory.{Single, Array-apart, Array-whole}
use denote.Index.{row, whole_in, whole_out}
use denote.Lend.{Held, lends_ref, ref_back, lends_free, lends_shr as lends_by_law, lends_slice, slice_back}
use denote.Memory.{cell_at, mem, part_at, part_of, shared_of, shares}
use denote.Shares.{SharesFrom}
use denote.Ref.{Bor, MutBor, MutRef, ShrRef}
use denote.Slice.{MutSlice, Room, finally, slice_val}
use denote.Steps.{peeks}
use borrow.Table.Elements.{at, cut_app, join_app}
use Rattle.walks.proofs.Plain.{Plain, IsA, Lends, array_plain, owns-it}

-- the `&` to the local at l
abbrev pub seen : {X : Type 0} → X → ℕ → Bor X
seen x l = record { ref_ptr = (l, 0); now = x }

-- the `&mut` loan of the local at l, under the name γ
abbrev pub loan : {X : Type 0} → X → ℕ → GName → MutBor X
loan x l γ = record { ref_ptr = (l, 0); ghost_name = γ; now = x }

-- the elements ys behind the first m of an array at l
abbrev pub behind : (R : RattleType) → ℕ → List R.Denot → ℕ → Fml
behind R m ys l = cells (mem R) ys l (at 0 (mem R).size m)

module _ {M : Type 1} {𝓤 : Ura M} {𝓛 : Logic 𝓤} {K : Type 0} {Γ : List (Item 𝓤)} {G : Goal 𝓤 𝓛.H} {R : RattleType} where
  -- ---- between a local's cell and "a value lies there", which is what `Denote/Lend.antt` lends and takes back
  lies-in : K → (p : Plain R) {τ : Ty} → R.mir ≡ τ ∷ [] → (x : R.Denot) → IsA p x → (l : ℕ) → Step K 𝓛 (‵ ((mem R).own_at x l 0) ∷ Γ) G (‵ (fat full_share τ l 0 (p.val x)) ∷ Γ) G
  unfolding part_of
  lies-in t p {τ} one x is l = step (λ s.
      use1 𝓛 (‵ (cell_at full_share R.mir (p.val x ∷ []) l 0))
      (subst (λ (τs : List Ty). ent 𝓤 (sem 𝓛 (fat full_share τ l 0 (p.val x))) (sem 𝓛 (cell_at full_share τs (p.val x ∷ []) l 0))) (sym one) (𝓛.laws.at_raw full_share τ l 0 (p.val x))) $
      owns-it t p x is $ move t (1 ∷ 0 ∷ []) $ fjoin t $ fpack t (List Val) (λ us. fsep (cell_at full_share R.mir us l 0) (R.own_val x us)) (p.val x ∷ []) $ s)

  lies-out : K → (p : Plain R) {τ : Ty} → R.mir ≡ τ ∷ [] → (x : R.Denot) (l : ℕ) → (IsA p x → Seq K 𝓛 (‵ (fat full_share τ l 0 (p.val x)) ∷ Γ) G) → Seq K 𝓛 (‵ ((mem R).own_at x l 0) ∷ Γ) G
  unfolding part_of
  lies-out t p {τ} one x l k = fpick t (λ vs. fsplit t $ move t (1 ∷ []) $ peeks t R (Is R) (shows 𝓛 R) x vs (λ is. drop t $
      rewrite t 0 (λ (us : List Val). ‵ (cell_at full_share R.mir us l 0)) (p.tells x vs is) refl $
      use1 𝓛 (‵ (fat full_share τ l 0 (p.val x)))
      (subst (λ (τs : List Ty). ent 𝓤 (sem 𝓛 (cell_at full_share τs (p.val x ∷ []) l 0)) (sem 𝓛 (fat full_share τ l 0 (p.val x)))) (sym one) (𝓛.laws.raw_at full_share τ l 0 (p.val x))) $
      k (subst (Is R x) (p.tells x vs is) is)))

  -- ---- by `&mut`
  pub lends-mut : K → Soaks G → (p : Plain R) {τ : Ty} → R.mir ≡ τ ∷ [] → (ℓ : Lifetime) (x : R.Denot) → IsA p x → (l : ℕ)
      → ((ν : ℕ) (γ : GName) → Seq K 𝓛 (‵ (flft (ν ∷ []) full_share) ∷ ‵ ((MutRef ℓ (ν ∷ []) R).own_val (loan x l γ) (vptr l 0 ∷ [])) ∷ ‵ (flent (ν ∷ []) (Body (mem R) l 0 γ)) ∷ Γ) G)
      → Seq K 𝓛 (‵ (fat full_share τ l 0 (p.val x)) ∷ Γ) G
  lends-mut t z p one ℓ x is l k = lies-in t p one x is l $ lft_new t z (λ ν. move t (1 ∷ []) $
      use1 𝓛 (later (some (λ (γ : GName). ‵ ((MutRef ℓ (ν ∷ []) R).own_val (loan x l γ) (vptr l 0 ∷ [])) ⊛ ‵ (flent (ν ∷ []) (Body (mem R) l 0 γ))))) (lends_ref 𝓛 R ℓ (ν ∷ []) x l 0) $
      await t z $ pick t (λ γ. split t $ move t (2 ∷ []) $ k ν γ))

  pub ends-mut : K → Soaks G → (p : Plain R) {τ : Ty} → R.mir ≡ τ ∷ [] → {ν : ℕ} {γ : GName} (x : R.Denot) (l : ℕ)
      → (IsA p x → Seq K 𝓛 (‵ (fat full_share τ l 0 (p.val x)) ∷ Γ) G)
      → Seq K 𝓛 (‵ (flft (ν ∷ []) full_share) ∷ ‵ (flent (ν ∷ []) (Body (mem R) l 0 γ)) ∷ ‵ (fres γ (R.coded.code x)) ∷ Γ) G
  ends-mut t z p one {ν} {γ} x l k = lft_end t z $ use3 𝓛 (later (‵ ((mem R).own_at x l 0))) (ref_back 𝓛 R (ν ∷ []) γ x l 0) $ await t z $ lies-out t p one x l k

  -- ---- by `&`
  pub lends-shr : K → Soaks G → (p : Plain R) → Lends 𝓛 R → {τ : Ty} → R.mir ≡ τ ∷ [] → (ℓ : Lifetime) (x : R.Denot) → IsA p x → (l : ℕ)
      → ((ν : ℕ) → Seq K 𝓛 (‵ (flft (ν ∷ []) full_share) ∷ ‵ ((ShrRef ℓ (ν ∷ []) R).own_val (seen x l) (vptr l 0 ∷ [])) ∷ ‵ (flent (ν ∷ []) (part_at R full_share x l 0)) ∷ Γ) G)
      → Seq K 𝓛 (‵ (fat full_share τ l 0 (p.val x)) ∷ Γ) G
  lends-shr t z p lends one ℓ x is l k = lies-in t p one x is l $ lft_new t z (λ ν. move t (1 ∷ []) $
      use1 𝓛 (later (‵ ((ShrRef ℓ (ν ∷ []) R).own_val (seen x l) (vptr l 0 ∷ [])) ⊛ ‵ (flent (ν ∷ []) (part_at R full_share x l 0)))) (lends_free 𝓛 R ℓ (ν ∷ []) full_share x l 0 (lends x l 0)) $
      await t z $ split t $ move t (2 ∷ []) $ k ν)

  -- whatever the type's `&` is, by its law of sharing at the lifetime that is made
  pub lends-shr-by : K → Soaks G → (p : Plain R) {τ : Ty} → R.mir ≡ τ ∷ [] → (ℓ : Lifetime) (x : R.Denot) → ((ν : ℕ) → SharesFrom 𝓛 full_share R x (shared_of R x) (ν ∷ [])) → IsA p x → (l : ℕ)
      → ((ν : ℕ) → Seq K 𝓛 (‵ (flft (ν ∷ []) full_share) ∷ ‵ ((ShrRef ℓ (ν ∷ []) R).own_val (seen x l) (vptr l 0 ∷ [])) ∷ ‵ (flent (ν ∷ []) (part_at R full_share x l 0)) ∷ Γ) G)
      → Seq K 𝓛 (‵ (fat full_share τ l 0 (p.val x)) ∷ Γ) G
  lends-shr-by t z p one ℓ x law is l k = lies-in t p one x is l $ lft_new t z (λ ν. move t (1 ∷ 0 ∷ []) $
      use2 𝓛 (later ((‵ ((ShrRef ℓ (ν ∷ []) R).own_val (seen x l) (vptr l 0 ∷ [])) ⊛ ‵ (flent (ν ∷ []) (part_at R full_share x l 0))) ⊛ ‵ (flft (ν ∷ []) full_share)))
      (lends_by_law 𝓛 R ℓ (ν ∷ []) full_share x l 0 (ν ∷ []) (law ν) ((ν ∷ [], full_share) ∷ []) (λ a m. m) (λ a m. m)) $
      await t z $ split t $ split t $ move t (2 ∷ []) $ k ν)

  pub ends-shr : K → Soaks G → (p : Plain R) {τ : Ty} → R.mir ≡ τ ∷ [] → {ν : ℕ} (x : R.Denot) (l : ℕ)
      → (IsA p x → Seq K 𝓛 (‵ (fat full_share τ l 0 (p.val x)) ∷ Γ) G)
      → Seq K 𝓛 (‵ (flft (ν ∷ []) full_share) ∷ ‵ (flent (ν ∷ []) (part_at R full_share x l 0)) ∷ Γ) G
  ends-shr t z p one x l k = lft_end t z $ lent_back t z $ lies-out t p one x l k

module _ {M : Type 1} {𝓤 : Ura M} {𝓛 : Logic 𝓤} {K : Type 0} {Γ : List (Item 𝓤)} {G : Goal 𝓤 𝓛.H} {R : RattleType} where
  -- ---- the first k elements of an array, by `&mut`
  pub lends-part : K → Soaks G → (p : Plain R) → Single R.mir → (n : ℕ) {τ : Ty} → (Array R n).mir ≡ τ ∷ [] → (k : ℕ) (ys : List R.Denot) → IsA (array_plain p n) ys → Room R (length (take k ys)) → (l : ℕ)
      → ((ν : ℕ) (γ : GName) → Seq K 𝓛 (‵ (flft (ν ∷ []) full_share) ∷ ‵ ((MutSlice (named 0) (ν ∷ []) R).own_val (loan (take k ys) l γ) (slice_val (l, 0) (length (take k ys)) ∷ []))
      ∷ ‵ (flent (ν ∷ []) (Held R (length (take k ys)) l 0 γ)) ∷ ‵ (behind R (length (take k ys)) (dropped k ys) l) ∷ Γ) G)
      → Seq K 𝓛 (‵ (fat full_share τ l 0 ((array_plain p n).val ys)) ∷ Γ) G
  lends-part t z p single n one k ys is room l c = lies-in t (array_plain p n) one ys is l $
      use1 𝓛 (‵ ((arr_parts (shares R) n).part full_share ys l 0)) (Array-apart 𝓛 R full_share single n ys l 0) $ fsplit t $ drop t $ use1 𝓛 (‵ (cells (mem R) ys l 0)) (whole_in 𝓛 R ys l 0) $
      rewrite t 0 (λ (zs : List R.Denot). ‵ (cells (mem R) zs l 0)) (sym (take-append-drop k ys)) refl $
      use1 𝓛 (‵ (cells (mem R) (take k ys) l 0) ⊛ ‵ (behind R (length (take k ys)) (dropped k ys) l)) (cut_app 𝓛 (mem R) (take k ys) (dropped k ys) l 0) $ split t $
      lft_new t z (λ ν. move t (1 ∷ []) $
      use1 𝓛 (later (some (λ (γ : GName). ‵ ((MutSlice (named 0) (ν ∷ []) R).own_val (loan (take k ys) l γ) (slice_val (l, 0) (length (take k ys)) ∷ [])) ⊛ ‵ (flent (ν ∷ []) (Held R (length (take k ys)) l 0 γ)))))
      (lends_slice 𝓛 R (named 0) (ν ∷ []) (take k ys) l 0 room) $
      await t z $ pick t (λ γ. split t $ move t (2 ∷ []) $ c ν γ))

  pub ends-part : K → Soaks G → (p : Plain R) (n : ℕ) {τ : Ty} → (Array R n).mir ≡ τ ∷ [] → {ν : ℕ} {γ : GName} (m : ℕ) (zs ys : List R.Denot) → length zs ≡ m → length (zs ++ ys) ≡ n → (l : ℕ)
      → (IsA (array_plain p n) (zs ++ ys) → Seq K 𝓛 (‵ (fat full_share τ l 0 ((array_plain p n).val (zs ++ ys))) ∷ Γ) G)
      → Seq K 𝓛 (‵ (flft (ν ∷ []) full_share) ∷ ‵ (flent (ν ∷ []) (Held R m l 0 γ)) ∷ ‵ (finally R γ zs) ∷ ‵ (behind R m ys l) ∷ Γ) G
  ends-part t z p n one {ν} {γ} m zs ys part whole l c = lft_end t z $ use3 𝓛 (later (‵ ((Arr (mem R) m).own_at zs l 0))) (slice_back 𝓛 R (ν ∷ []) γ zs m l 0) $ await t z $ fsplit t $ drop t $
      rewrite t 1 (λ (i : ℕ). ‵ (behind R i ys l)) (sym part) refl $
      use2 𝓛 (‵ (cells (mem R) (zs ++ ys) l 0)) (join_app 𝓛 (mem R) zs ys l 0) $
      use1 𝓛 (‵ (row R full_share (zs ++ ys) l 0)) (whole_out 𝓛 R (zs ++ ys) l 0) $ feq_i t ℕ (length (zs ++ ys)) n whole $ fjoin t $
      use1 𝓛 (‵ ((mem (Array R n)).own_at (zs ++ ys) l 0)) (Array-whole 𝓛 R full_share n (zs ++ ys) l 0) $ lies-out t (array_plain p n) one (zs ++ ys) l c
