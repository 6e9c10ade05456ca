-- A sure write, and a load, in which no barred command of the other port is accepted: with the barred calls left out it is the same, since there are
-- none. What has been accepted stays noted, so none was accepted in any message of it.
-- Assumes nothing.
use Prim.Native.Nat.{ℕ, zero, suc}
use mathlib.Core.Bool.{Bool, true, false, cond}
use mathlib.Core.List.{List, [], ◌∷◌, ◌++◌, append_assoc}
use mathlib.Core.Path.{◌≡◌, refl, sym, ap, ◌∙◌, subst}
use lib.Dec.{eqb}
use lib.ListN.{take, drop, take-append-drop}
use Rattle.rules.specs.Refusals as refusal
use Rattle.rules.proofs.Cases.{by-test}
use Rattle.link.specs.Damage.{Damage, unseen, cut, bits_flipped}
use Rattle.loader.specs.Loader.{card_now, all_over}
use Rattle.delivery.specs.Delivery.{Side}
use Rattle.delivery.specs.Play.{crossed, ModuleCall, settings, Going, round, between, Buffers, Damages, Calls, play}
use Rattle.loading.specs.Loading.{Slot, Unit, Passages, served, unit_round, serve_all, Before, load_unit}
use Rattle.beside.specs.Beside.{Beside, beside_on, NoneOf, accepted_of_all}
use Rattle.beside.specs.Layers.{Layer}
use Rattle.beside.proofs.Barred.{beside_but, in-both, of-both, heard-keeps, nothing-left-out}

module _ (layer : Layer) (barred : List ℕ) (p : ℕ) where
  abbrev B : Type 0
  B = Beside layer

  abbrev free : Side
  free = beside_on layer p

  abbrev but : Side
  but = beside_but layer barred p

  abbrev None : B → Type 0
  None b = NoneOf barred b.accepted

  -- ---- a message with its damage

  pub crossed-keeps : (d : Damage) (b : B) (memory : List ℕ) (line : List Bool) → None (crossed free.hears d b memory line).side → None b
  unfolding crossed
  crossed-keeps (unseen fill) b memory line none = none
  crossed-keeps (cut k fill) b memory line none = heard-keeps layer barred p b memory (take k line) none
  crossed-keeps (bits_flipped i j) b memory line none = heard-keeps layer barred p b memory _ none

  pub crossed-same : (d : Damage) (b : B) (memory : List ℕ) (line : List Bool) → None (crossed free.hears d b memory line).side
      → crossed but.hears d b memory line ≡ crossed free.hears d b memory line
  unfolding crossed
  crossed-same (unseen fill) b memory line none = refl
  crossed-same (cut k fill) b memory line none = rw (nothing-left-out layer barred p b memory (take k line) none)
  crossed-same (bits_flipped i j) b memory line none = rw (nothing-left-out layer barred p b memory _ none)

  -- the device's calls
  pub set-keeps : (calls : List ModuleCall) (b : B) → (settings free.sets calls b).accepted ≡ b.accepted
  unfolding settings
  set-keeps [] b = refl
  set-keeps (m ∷ calls) b = set-keeps calls (free.sets b m.stf m.state)

  -- ---- the sure write

  round-keeps : (block buffer : List ℕ) (d : Damage) (g : Going B) → None (round free.hears block buffer d g).side → None g.side
  unfolding round
  round-keeps block buffer d g none = crossed-keeps d g.side g.memory _ none

  round-same : (block buffer : List ℕ) (d : Damage) (g : Going B) → None (round free.hears block buffer d g).side
      → round but.hears block buffer d g ≡ round free.hears block buffer d g
  unfolding round
  round-same block buffer d g none = rw (crossed-same d g.side g.memory _ none)

  between-keeps : (calls : List ModuleCall) (g : Going B) → None (between free.sets calls g).side → None g.side
  unfolding between
  between-keeps calls g none = subst (NoneOf barred) (set-keeps calls g.side) none

  pub play-same : (block : List ℕ) (b : Buffers) (d : Damages) (calls : Calls) (g : Going B)
      → None (play free.hears free.sets block b d calls g).side
      → play but.hears but.sets block b d calls g ≡ play free.hears free.sets block b d calls g
  unfolding play
  play-same block b d calls g none = go (eqb first.state.turn 7) refl
    where
      first : Going B
      first = round free.hears [] b.first d.first g

      before-second : Going B
      before-second = between free.sets calls.second first

      second : Going B
      second = round free.hears block b.second d.second before-second

      before-third : Going B
      before-third = between free.sets calls.third second

      third : Going B
      third = round free.hears [] b.third d.third before-third

      go : (t : Bool) → eqb first.state.turn 7 ≡ t
          → play but.hears but.sets block b d calls g ≡ play free.hears free.sets block b d calls g
      go true e = rw (round-same [] b.first d.first g (rw e at none), e)
      go false e =
          let in-third : None third.side = rw e at none in
          let in-second : None second.side = between-keeps calls.third second (round-keeps [] b.third d.third before-third in-third) in
          let in-first : None first.side = between-keeps calls.second first (round-keeps block b.second d.second before-second in-second) in
          rw (
            round-same [] b.first d.first g in-first,
            round-same block b.second d.second before-second in-second,
            round-same [] b.third d.third before-third in-third,
          )

  -- ---- a load

  abbrev NoneInAll : List (Slot B) → Type 0
  NoneInAll slots = NoneOf barred (accepted_of_all slots)

  all-append : (slots more : List (Slot B)) → accepted_of_all (slots ++ more) ≡ accepted_of_all slots ++ accepted_of_all more
  unfolding accepted_of_all
  all-append [] more = refl
  all-append (slot ∷ slots) more =
      ap (λ (l : List ℕ). slot.side.accepted ++ l) (all-append slots more) ∙ sym (append_assoc slot.side.accepted (accepted_of_all slots) (accepted_of_all more))

  -- none in a slot, in those before it and in those behind it
  parted : (slots : List (Slot B)) (slot : Slot B) (rest : List (Slot B)) → NoneInAll (slots ++ (slot ∷ rest))
      → NoneInAll slots × None slot.side × NoneInAll rest
  unfolding accepted_of_all
  parted slots slot rest none =
      let (before, behind) = in-both (accepted_of_all slots) (accepted_of_all (slot ∷ rest)) barred (rw (all-append slots (slot ∷ rest)) at none) in
      let (own, later) = in-both slot.side.accepted (accepted_of_all rest) barred behind in
      (before, own, later)

  joined : (slots : List (Slot B)) (slot : Slot B) (rest : List (Slot B)) → NoneInAll slots → None slot.side → NoneInAll rest
      → NoneInAll (slots ++ (slot ∷ rest))
  unfolding accepted_of_all
  joined slots slot rest before own later =
      rw (all-append slots (slot ∷ rest))
      (of-both (accepted_of_all slots) (accepted_of_all (slot ∷ rest)) barred before (of-both slot.side.accepted (accepted_of_all rest) barred own later))

  module _ (table : List ℕ) (passages : Passages) where
    served-keeps : (u : Unit B) (i : ℕ) (slots : List (Slot B)) → drop i u.slots ≡ slots → NoneInAll (served free table passages u i slots).slots
        → NoneInAll u.slots
    unfolding served
    served-keeps u i [] e none = none
    served-keeps u i (slot ∷ rest) e none =
        let (before, own, later) = parted (take i u.slots) _ rest none in
        let fate = (passages i slot.sent).fate in
        let old : None slot.side = subst (NoneOf barred) (set-keeps fate.calls slot.side)
        (crossed-keeps fate.damage (settings free.sets fate.calls slot.side) slot.memory _ own) in
        subst NoneInAll (ap (λ (l : List (Slot B)). take i u.slots ++ l) (sym e) ∙ take-append-drop i u.slots)
        (joined (take i u.slots) slot rest before old later)

    served-same : (u : Unit B) (i : ℕ) (slots : List (Slot B)) → NoneInAll (served free table passages u i slots).slots
        → served but table passages u i slots ≡ served free table passages u i slots
    unfolding served
    served-same u i [] none = refl
    served-same u i (slot ∷ rest) none =
        let (before, own, later) = parted (take i u.slots) _ rest none in
        let fate = (passages i slot.sent).fate in
        rw (crossed-same fate.damage (settings free.sets fate.calls slot.side) slot.memory _ own)

    round-all-keeps : (u : Unit B) → NoneInAll (unit_round free table passages u).slots → NoneInAll u.slots
    unfolding unit_round
    round-all-keeps u =
        by-test (λ (v : Unit B). NoneInAll v.slots → NoneInAll u.slots) (eqb (card_now u.state).refusal refusal.none)
        (λ e none. served-keeps u (card_now u.state).card _ refl none) (λ e none. none)

    round-all-same : (u : Unit B) → NoneInAll (unit_round free table passages u).slots
        → unit_round but table passages u ≡ unit_round free table passages u
    unfolding unit_round
    round-all-same u = go (eqb (card_now u.state).refusal refusal.none)
      where
        card : ℕ
        card = (card_now u.state).card

        go : (t : Bool) → NoneInAll (cond t (served free table passages u card (drop card u.slots)) u).slots
            → cond t (served but table passages u card (drop card u.slots)) u ≡ cond t (served free table passages u card (drop card u.slots)) u
        go true none = served-same u card (drop card u.slots) none
        go false none = refl

    all-served-keeps : (n : ℕ) (u : Unit B) → NoneInAll (serve_all free table passages n u).slots → NoneInAll u.slots
    unfolding serve_all
    all-served-keeps zero u none = none
    all-served-keeps (suc n) u none =
        by-test (λ (v : Unit B). NoneInAll v.slots → NoneInAll u.slots) (all_over u.state).over
        (λ e h. h) (λ e h. round-all-keeps u (all-served-keeps n (unit_round free table passages u) h)) none

    all-served-same : (n : ℕ) (u : Unit B) → NoneInAll (serve_all free table passages n u).slots
        → serve_all but table passages n u ≡ serve_all free table passages n u
    unfolding serve_all
    all-served-same zero u none = refl
    all-served-same (suc n) u none = go (λ h. all-served-same n next h) (all_over u.state).over none
      where
        next : Unit B
        next = unit_round free table passages u

        go : (NoneInAll (serve_all free table passages n next).slots → serve_all but table passages n next ≡ serve_all free table passages n next)
            → (t : Bool) → NoneInAll (cond t u (serve_all free table passages n next)).slots
            → cond t u (serve_all but table passages n (unit_round but table passages u)) ≡ cond t u (serve_all free table passages n next)
        go later true h = refl
        go later false h = ap (serve_all but table passages n) (round-all-same u (all-served-keeps n next h)) ∙ later h

  pub load-same : (cards : List (Before B)) (table : List ℕ) (passages : Passages) → NoneInAll (load_unit free cards table passages).slots
      → load_unit but cards table passages ≡ load_unit free cards table passages
  unfolding load_unit
  load-same cards table passages none = all-served-same table passages _ _ none
