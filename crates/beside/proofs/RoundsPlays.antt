-- A sure write of up to r rounds in which no barred command of the other port is accepted: with the barred calls left out it is the same.
-- Assumes nothing.
use Prim.Native.Nat.{ℕ, zero, suc}
use mathlib.Core.Bool.{Bool, true, false}
use mathlib.Core.List.{List, []}
use mathlib.Core.Path.{◌≡◌, refl, subst}
use lib.Dec.{eqb}
use Rattle.rules.proofs.Cases.{by-test}
use Rattle.delivery.specs.AnyCommand.{Fate}
use Rattle.delivery.specs.Delivery.{Side}
use Rattle.delivery.specs.Play.{settings}
use Rattle.retrying.specs.Retrying.{Trying, RoundPassage, try_message, try_round, goes_on, tried}
use Rattle.beside.specs.Beside.{Beside, beside_on, NoneOf}
use Rattle.beside.specs.Layers.{Layer}
use Rattle.beside.proofs.Barred.{beside_but}
use Rattle.beside.proofs.WholePlays.{crossed-keeps, crossed-same, set-keeps}

module _ (layer : Layer) (barred : List ℕ) (p : ℕ) where
  abbrev T : Type 0
  T = Trying (Beside layer)

  abbrev free : Side
  free = beside_on layer p

  abbrev but : Side
  but = beside_but layer barred p

  abbrev None : T → Type 0
  None g = NoneOf barred g.side.accepted

  -- ---- a message

  message-keeps : (block buffer : List ℕ) (f : Fate) (g : T) → None (try_message free.hears free.sets block buffer f g) → None g
  unfolding try_message
  message-keeps block buffer f g none =
      subst (NoneOf barred) (set-keeps layer barred p f.calls g.side)
      (crossed-keeps layer barred p f.damage (settings free.sets f.calls g.side) g.memory _ none)

  message-same : (block buffer : List ℕ) (f : Fate) (g : T) → None (try_message free.hears free.sets block buffer f g)
      → try_message but.hears but.sets block buffer f g ≡ try_message free.hears free.sets block buffer f g
  unfolding try_message
  message-same block buffer f g none =
      rw (crossed-same layer barred p f.damage (settings free.sets f.calls g.side) g.memory _ none)

  -- ---- a round

  module _ (block : List ℕ) (q : RoundPassage) (g : T) where
    abbrev first : T
    first = try_message free.hears free.sets [] q.buffers.first q.fates.first g

    abbrev second : T
    second = try_message free.hears free.sets block q.buffers.second q.fates.second first

    abbrev third : T
    third = try_message free.hears free.sets [] q.buffers.third q.fates.third second

    in-second : None third → None second
    in-second = message-keeps [] q.buffers.third q.fates.third second

    in-first : None third → None first
    in-first none = message-keeps block q.buffers.second q.fates.second first (in-second none)

    round-keeps : None (try_round free.hears free.sets block q g) → None g
    unfolding try_round
    round-keeps =
        by-test (λ (h : T). None h → None g) (eqb first.state.turn 2)
        (λ e none. message-keeps [] q.buffers.first q.fates.first g (in-first none))
        (λ e none. message-keeps [] q.buffers.first q.fates.first g none)

    round-same : None (try_round free.hears free.sets block q g)
        → try_round but.hears but.sets block q g ≡ try_round free.hears free.sets block q g
    unfolding try_round
    round-same none = go (eqb first.state.turn 2) refl
      where
        go : (b : Bool) → eqb first.state.turn 2 ≡ b
            → try_round but.hears but.sets block q g ≡ try_round free.hears free.sets block q g
        go false e = rw (message-same [] q.buffers.first q.fates.first g (rw e at none), e)
        go true e =
            let last : None third = rw e at none in
            rw (
              message-same [] q.buffers.first q.fates.first g (in-first last),
              message-same block q.buffers.second q.fates.second first (in-second last),
              message-same [] q.buffers.third q.fates.third second last,
            )

  -- ---- any number of rounds

  module _ (block : List ℕ) (passages : ℕ → RoundPassage) (g : T) where
    abbrev freely : ℕ → T
    freely = tried free.hears free.sets block passages g

    abbrev barredly : ℕ → T
    barredly = tried but.hears but.sets block passages g

    one-keeps : (n : ℕ) → None (freely (suc n)) → None (freely n)
    unfolding tried
    one-keeps n =
        by-test (λ (h : T). None h → None (freely n)) (goes_on (freely n).state)
        (λ e none. round-keeps block (passages n) (freely n) none) (λ e none. none)

    pub tried-same : (n : ℕ) → None (freely n) → barredly n ≡ freely n
    unfolding tried
    tried-same zero none = refl
    tried-same (suc n) none = go (tried-same n (one-keeps n none)) (goes_on (freely n).state) refl
      where
        go : barredly n ≡ freely n → (b : Bool) → goes_on (freely n).state ≡ b → barredly (suc n) ≡ freely (suc n)
        go same false e = rw (same, e)
        go same true e = rw (same, e) (round-same block (passages n) (freely n) (rw e at none))
