-- Plain types in a walk: numbers, bools, arrays, and the structs and enums of such that a crate declares. What a plain value owns is a fact about it, so a walk need not carry it: it is dropped where it comes and made where it is asked for.
--     Plain R          R's machine value as a function of its denotation, with the laws that a walk uses.        struct_plain, enum_plain, array_plain, uint_plain, bool_plain, unit_plain
--     IsA p x          x is a value of the type.        is-spelt    so is whatever is owned, at the machine value written out
--     owns-it          what x owns, made of that fact
--     opens-plain, closes-plain    a `&mut` to a plain value is opened, with its machine value written out, and closed at another value
--     looks-plain      a fractured borrow of the shares of a plain value that is Copy is looked into, with its machine value written out
--     looks-shared     a `&` to a plain value is, where a `&` to it is opened (`Opens.antt`)
--     copied-opens, whole-opens    so is one to each type that is Copy: by the type's own law (`Copied.antt`), or where its `&` is the shares of the whole value (`Shares.antt`'s `Whole`)
--     Lends 𝓛 R        a value of the type is lent as `&` with no token.        copied-lends, whole-lends    so is one of each type that is Copy, and of each whose `&` is the shares of the whole value
--     elem-plain, put-plain        the element at i is taken out of a row of plain values, and another is put in its place.        back-plain      it is put back as it was
--     calls-lent       a call of a function whose result is plain, and which is handed a reference: the tokens come back, and the result r and the last values ws are known by the callee's clause φ r ws
--     calls-plain      the same where the parameters are plain too: the context stays as it is, and the result r is known by the callee's clause φ r
-- Assumes `Logic`.
use mathlib.Core.Path.{◌≡◌, sym, ap, subst}
use Prim.Native.Nat.{ℕ, ◌<◌}
use mathlib.Core.List.{List, [], ◌∷◌}
use lib.ListN.{length, get_or, set}
use seplogic.Ra.Ura.{Ura}
use base.Fraction.{full_share}
use mir.Syntax.{Width, Callee, Place, Opd as Operand, Body as Code, seq, call}
use mir.Val.{Val, vunit, vbool, vint}
use base.Logic.{SProp, ent, sep, ex, emp, id⊢}
use base.Stored.{Gv}
use base.Fml.{Lft, GName, Share, Fml, ftrue, flft, fobs, fauth, fbor, fobor, fshr_bor}
use prog.Wp.{Env, Calls, Loops}
use types.Logic.{Logic, sem}
use sound.WpLaws.{FmC}
use contract.Monad.{fact}
use types.Kit.{Goal, Soaks, Item, ‵, raw, ◌⊛◌, some, later, Post, Seq, Step, step, ◌$◌, runs, lands, move, drop, use0, use1, split, pick, await, fpick, fsplit}
use types.Run.{Opds}
use types.SemTy.{Body}
use denote.RattleType.{RattleType}
use denote.Laws.{Is, Tells, Makes, Lawful, Copy, shows}
use denote.Memory.{cell_at, hidden_shr, mem, part_at, part_of, shared_of, shares}
use denote.Opens.{Opens, Shut, Cuts-Halves}
use types.Tokens.{shr_bor_dup, shr_bor-open}
use denote.Lends.{Lent, Lent-one}
use denote.Shares.{Whole}
use denote.Copied.{Copied, told_Cuts, whole-copied}
use denote.Plain.{UInt, Boolean, Nothing, uint_Tells, uint_Makes, uint_Lawful, bool_Tells, bool_Makes, bool_Lawful, Nothing-Tells, Nothing-Makes, Nothing-Lawful}
use denote.Array.{Array, array_vals, Array-Tells, Array-Makes, Array-Lawful}
use denote.Index.{place, others, row, elem_out, elem_back, elem_put}
use denote.Steps.{only, opens, closes, looks, peeks, heard}
use denote.Struct.Steps as struct-steps
use denote.Struct.Declared as S
use denote.Struct.Struct.{Plains}
use denote.Struct.Laws as SL
use denote.Enum.Declared as E
use denote.Enum.Enum.{Few, Plainss}
use denote.Enum.Laws as EL
use denote.Triple.Statement.{Contract, Triple}
use denote.Triple.Call.{calls_at}

pub record Plain (R : RattleType) : Type 2 where
  pub val : R.Denot → Val
  pub tells : Tells R (Is R) (λ x. val x ∷ [])
  pub makes : {M : Type 1} {𝓤 : Ura M} (𝓛 : Logic 𝓤) → Makes 𝓛 R (Is R)
  pub lawful : {M : Type 1} {𝓤 : Ura M} (𝓛 : Logic 𝓤) → Lawful 𝓛 R

abbrev pub struct_plain : (T : S.Declared) → SL.Laws T → Plains (S.fields T) → Plain (S.row T)
struct_plain T L pl = record { val = SL.val T L; tells = SL.tells T L; makes = λ 𝓛. SL.makes T pl 𝓛; lawful = λ 𝓛. SL.lawful T L 𝓛 }

abbrev pub enum_plain : (T : E.Declared) → EL.Laws T → Plainss (E.variants T) → Few (E.shape T) → Plain (E.row T)
enum_plain T L pl few = record { val = EL.val T L; tells = EL.tells T L; makes = λ 𝓛. EL.makes T pl 𝓛; lawful = λ 𝓛. EL.lawful T L 𝓛 few }

abbrev pub array_plain : {R : RattleType} → Plain R → (n : ℕ) → Plain (Array R n)
array_plain {R} p n = record {
  val = λ ys. only (array_vals (λ y. p.val y ∷ []) ys);
  tells = Array-Tells R (λ y. p.val y ∷ []) p.tells n;
  makes = λ 𝓛. Array-Makes 𝓛 R (p.makes 𝓛) n;
  lawful = λ 𝓛. Array-Lawful 𝓛 R (p.lawful 𝓛) n;
}

abbrev pub uint_plain : (w : Width) → Plain (UInt w)
uint_plain w = record { val = vint w; tells = uint_Tells w; makes = λ 𝓛. uint_Makes 𝓛 w; lawful = λ 𝓛. uint_Lawful 𝓛 w }

abbrev pub bool_plain : Plain Boolean
bool_plain = record { val = vbool; tells = bool_Tells; makes = λ 𝓛. bool_Makes 𝓛; lawful = λ 𝓛. bool_Lawful 𝓛 }

abbrev pub unit_plain : Plain Nothing
unit_plain = record { val = λ _. vunit; tells = Nothing-Tells; makes = λ 𝓛. Nothing-Makes 𝓛; lawful = λ 𝓛. Nothing-Lawful 𝓛 }

module _ {R : RattleType} (p : Plain R) where
  abbrev pub IsA : R.Denot → Type 0
  IsA x = Is R x (p.val x ∷ [])

  pub is-spelt : (x : R.Denot) (vs : List Val) → Is R x vs → IsA x
  is-spelt x vs is = subst (Is R x) (p.tells x vs is) is

-- a value of the type is lent as `&` with no token. So is each type that is Copy, and each whose `&` is the shares of the whole value
module _ {M : Type 1} {𝓤 : Ura M} (𝓛 : Logic 𝓤) (R : RattleType) where
  abbrev pub Lends : Type 1
  Lends = (x : R.Denot) (b o : ℕ) → Lent 𝓛 (part_at R full_share x b o) (shared_of R x b o)

  pub copied-lends : Copied 𝓛 R → Lends
  copied-lends c = c.lends full_share

  pub whole-lends : Whole R → Lends
  whole-lends wh x b o = subst (Lent 𝓛 (part_at R full_share x b o)) (sym (wh x b o)) (Lent-one 𝓛 (λ q. part_at R q x b o) full_share)

  -- and a `&` to it is opened, where the type is Copy
  pub copied-opens : Copied 𝓛 R → Opens 𝓛 R
  copied-opens c = c.opens

  pub whole-opens : Plain R → Whole R → Copy 𝓛 R → Opens 𝓛 R
  whole-opens p wh copied = (whole-copied 𝓛 R wh p.val p.tells copied).opens

module _ {M : Type 1} {𝓤 : Ura M} {𝓛 : Logic 𝓤} {K : Type 0} {Γ : List (Item 𝓤)} {G : Goal 𝓤 𝓛.H} {R : RattleType} where
  pub owns-it : K → (p : Plain R) (x : R.Denot) → IsA p x → Step K 𝓛 (‵ (R.own_val x (p.val x ∷ [])) ∷ Γ) G Γ G
  owns-it t p x is = use0 𝓛 (‵ (R.own_val x (p.val x ∷ []))) (p.makes 𝓛 x _ is)

module _ {M : Type 1} {𝓤 : Ura M} {𝓛 : Logic 𝓤} {K : Type 0} {Γ : List (Item 𝓤)} where
  open 𝓛 use {H}

  module _ {G : Goal 𝓤 H} {R : RattleType} where
    -- ---- behind a reference
    pub opens-plain : K → Soaks G → (p : Plain R) {κ : Lft} {q : Share} {γ : GName} (x : R.Denot) (b o : ℕ)
        → (IsA p x → Seq K 𝓛 (‵ (cell_at full_share R.mir (p.val x ∷ []) b o) ∷ ‵ (fobor κ q (Body (mem R) b o γ)) ∷ ‵ (fobs γ (R.coded.code x)) ∷ ‵ (fauth γ (R.coded.code x)) ∷ Γ) G)
        → Seq K 𝓛 (‵ (fobs γ (R.coded.code x)) ∷ ‵ (fbor κ (Body (mem R) b o γ)) ∷ ‵ (flft κ q) ∷ Γ) G
    opens-plain t z p x b o k = opens t z R {h = x} b o (λ vs. struct-steps.spelt t R (Is R) (shows 𝓛 R) (λ y. p.val y ∷ []) p.tells full_share x vs b o $
        move t (1 ∷ []) $ peeks t R (Is R) (shows 𝓛 R) x (p.val x ∷ []) (λ is. drop t $ k is))

    pub closes-plain : K → Soaks G → (p : Plain R) {κ : Lft} {q : Share} {u v : Gv} (x : R.Denot) → IsA p x → {γ : GName} (b o : ℕ)
        → Step K 𝓛 (‵ (fobs γ (R.coded.code x)) ∷ ‵ (fbor κ (Body (mem R) b o γ)) ∷ ‵ (flft κ q) ∷ Γ) G
        (‵ (cell_at full_share R.mir (p.val x ∷ []) b o) ∷ ‵ (fobor κ q (Body (mem R) b o γ)) ∷ ‵ (fobs γ u) ∷ ‵ (fauth γ v) ∷ Γ) G
    closes-plain t z p x is b o = step (λ s. owns-it t p x is $ move t (1 ∷ 0 ∷ []) $ closes t z R x (p.val x ∷ []) b o $ s)

    pub looks-plain : K → Soaks G → (p : Plain R) → Copy 𝓛 R → {κ : Lft} {q : Share} (x : R.Denot) (b o : ℕ)
        → ((q' : Share) → IsA p x → Seq K 𝓛 (‵ (cell_at q' R.mir (p.val x ∷ []) b o) ∷ ‵ (R.own_val x (p.val x ∷ [])) ∷ ‵ (fobor κ q (part_at R q' x b o)) ∷ ‵ (fshr_bor κ (λ s. part_at R s x b o)) ∷ Γ) G)
        → Seq K 𝓛 (‵ (fshr_bor κ (λ s. part_at R s x b o)) ∷ ‵ (flft κ q) ∷ Γ) G
    unfolding part_of
    looks-plain t z p copied x b o k = shr_bor_dup t $ move t (0 ∷ 2 ∷ []) $
        shr_bor-open t z (Cuts-Halves 𝓛 (λ s. part_at R s x b o) (told_Cuts 𝓛 R (λ y. p.val y ∷ []) p.tells copied x b o)) (λ q'. move t (1 ∷ []) $ fpick t (λ vs. fsplit t $
        struct-steps.spelt t R (Is R) (shows 𝓛 R) (λ y. p.val y ∷ []) p.tells q' x vs b o $ move t (1 ∷ []) $ peeks t R (Is R) (shows 𝓛 R) x (p.val x ∷ []) (λ is. move t (1 ∷ 0 ∷ []) $ k q' is)))

    pub looks-shared : K → Soaks G → (p : Plain R) → Opens 𝓛 R → {κ : Lft} {q : Share} (x : R.Denot) (b o : ℕ)
        → ((q' : Share) → IsA p x → Seq K 𝓛 (‵ (cell_at q' R.mir (p.val x ∷ []) b o) ∷ ‵ (R.own_val x (p.val x ∷ [])) ∷ Shut 𝓛 κ q (part_at R q' x b o) ∷ ‵ (hidden_shr R κ x b o) ∷ Γ) G)
        → Seq K 𝓛 (‵ (hidden_shr R κ x b o) ∷ ‵ (flft κ q) ∷ Γ) G
    looks-shared t z p opened x b o k = looks t z R opened x b o (λ q' vs. struct-steps.spelt t R (Is R) (shows 𝓛 R) (λ y. p.val y ∷ []) p.tells q' x vs b o $
        move t (1 ∷ []) $ peeks t R (Is R) (shows 𝓛 R) x (p.val x ∷ []) (λ is. move t (1 ∷ 0 ∷ []) $ k q' is))

    -- ---- in a slice
    pub elem-plain : K → (p : Plain R) (q : Share) (ys : List R.Denot) (i : ℕ) (d : R.Denot) (b o : ℕ) → i < length ys
        → (IsA p (get_or ys i d) → Seq K 𝓛 (‵ (cell_at q R.mir (p.val (get_or ys i d) ∷ []) b (place (mem R).size o i)) ∷ ‵ (others (shares R) q ys i b o) ∷ Γ) G) → Seq K 𝓛 (‵ (row R q ys b o) ∷ Γ) G
    elem-plain t p q ys i d b o within k = elem_out t R (Is R) (shows 𝓛 R) (λ y. p.val y ∷ []) p.tells q ys i d b o within (λ is. move t (1 ∷ []) $ drop t $ k is)

    pub put-plain : K → (p : Plain R) (q : Share) (ys : List R.Denot) (i : ℕ) (y : R.Denot) → IsA p y → (b o : ℕ) → i < length ys
        → Step K 𝓛 (‵ (row R q (set ys i y) b o) ∷ Γ) G (‵ (cell_at q R.mir (p.val y ∷ []) b (place (mem R).size o i)) ∷ ‵ (others (shares R) q ys i b o) ∷ Γ) G
    put-plain t p q ys i y is b o within = step (λ s. owns-it t p y is $ move t (1 ∷ 0 ∷ []) $ elem_put t R q ys i y (p.val y ∷ []) b o within $ s)

    pub back-plain : K → (p : Plain R) (q : Share) (ys : List R.Denot) (i : ℕ) (d : R.Denot) → IsA p (get_or ys i d) → (b o : ℕ) → i < length ys
        → Step K 𝓛 (‵ (row R q ys b o) ∷ Γ) G (‵ (cell_at q R.mir (p.val (get_or ys i d) ∷ []) b (place (mem R).size o i)) ∷ ‵ (others (shares R) q ys i b o) ∷ Γ) G
    back-plain t p q ys i d is b o within = step (λ s. owns-it t p (get_or ys i d) is $ move t (1 ∷ 0 ∷ []) $ elem_back t R q ys i d (p.val (get_or ys i d) ∷ []) b o within $ s)

  -- ---- a call. `said` is what the callee's `post` is: the tokens, the result, and for some last values what says them and the clause
  module _ {E : Env 𝓤 H} {C : Calls 𝓤 H} {f : Callee} {xs : List Operand} {Λ : Loops 𝓤 H} {q : Post 𝓤 H} {d : Place} where
    pub calls-lent : K → FmC 𝓤 H 𝓛.laws C → {rest : Code} (c : Contract 𝓤) → Triple 𝓤 (C f) c → (y : c.Ghost) → Opds K 𝓛 (raw (c.pre y) ∷ Γ) E xs (c.args y)
        → {R : RattleType} (p : Plain R) {Ws : Type 0} (tokens : Fml) (lasts : Ws → Fml) (φ : R.Denot → Ws → Type 0)
        → ((w : Val) → c.post y w ≡ H.⇛ (ex 𝓤 (λ (r : R.Denot). sep 𝓤 (sep 𝓤 (sem 𝓛 tokens) (sem 𝓛 (R.own_val r (w ∷ [])))) (ex 𝓤 (λ (ws : Ws). sep 𝓤 (sem 𝓛 (lasts ws)) (fact 𝓤 (φ r ws)))))))
        → ((r : R.Denot) (ws : Ws) → φ r ws → IsA p r → Seq K 𝓛 (‵ tokens ∷ ‵ (lasts ws) ∷ Γ) (lands C Λ E d (p.val r) rest q)) → Seq K 𝓛 (raw (c.pre y) ∷ Γ) (runs C Λ E (seq (call f xs d) rest) q)
    calls-lent t fm {rest} c met y os {R} p {Ws} tokens lasts φ said k = calls_at t fm c met y os (λ w.
        use1 𝓛 (later (some (λ (r : R.Denot). (‵ tokens ⊛ ‵ (R.own_val r (w ∷ []))) ⊛ some (λ (ws : Ws). ‵ (lasts ws) ⊛ raw (fact 𝓤 (φ r ws)))))) (subst (λ (P : SProp 𝓤). ent 𝓤 (c.post y w) P) (said w) (id⊢ 𝓤 (c.post y w))) $
        await t tt $ pick t (λ r. split t $ move t (1 ∷ []) $ pick t (λ ws. split t $ move t (1 ∷ []) $ heard t (φ r ws) (λ e. move t (1 ∷ []) $ split t $ move t (1 ∷ []) $ peeks t R (Is R) (shows 𝓛 R) r (w ∷ []) (λ is. drop t $
        subst (λ (u : Val). Seq K 𝓛 (‵ tokens ∷ ‵ (lasts ws) ∷ Γ) (lands C Λ E d u rest q)) (sym (ap only (p.tells r (w ∷ []) is))) (k r ws e (is-spelt p r (w ∷ []) is)))))))

    -- of a callee whose parameters are plain too: there is no token, and the clause speaks of no last value
    pub calls-plain : K → FmC 𝓤 H 𝓛.laws C → {rest : Code} (c : Contract 𝓤) → Triple 𝓤 (C f) c → (y : c.Ghost) → ent 𝓤 (emp 𝓤) (c.pre y) → Opds K 𝓛 (raw (c.pre y) ∷ Γ) E xs (c.args y)
        → {R : RattleType} (p : Plain R) {Ws : Type 0} (lasts : Ws → Fml) (φ : R.Denot → Type 0)
        → ((w : Val) → c.post y w ≡ H.⇛ (ex 𝓤 (λ (r : R.Denot). sep 𝓤 (sep 𝓤 (emp 𝓤) (sem 𝓛 (R.own_val r (w ∷ [])))) (ex 𝓤 (λ (ws : Ws). sep 𝓤 (sem 𝓛 (lasts ws)) (fact 𝓤 (φ r)))))))
        → ((r : R.Denot) → φ r → IsA p r → Seq K 𝓛 Γ (lands C Λ E d (p.val r) rest q)) → Seq K 𝓛 Γ (runs C Λ E (seq (call f xs d) rest) q)
    calls-plain t fm c met y asked os p lasts φ said k = use0 𝓛 (raw (c.pre y)) asked $ calls-lent t fm c met y os p ftrue lasts (λ r _. φ r) said (λ r ws e is. drop t $ drop t $ k r e is)
