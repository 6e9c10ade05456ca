-- Plays in which a call of the other port does not happen where a barred command would be accepted by it. All of them have demand 3 (Walk.antt),
-- with no premise over the other port; and a message in which no barred command is accepted is heard in the same way, since nothing is left out.
-- Assumes nothing.
use Prim.Native.Nat.{ℕ, ◌-◌}
use mathlib.Core.Bool.{Bool, false, cond}
use mathlib.Core.List.{List, [], ◌∷◌, ◌++◌}
use mathlib.Core.Path.{◌≡◌, refl, ap, ◌∙◌}
use lib.ListN.{length, take}
use Rattle.card.specs.Whole.{Hears}
use Rattle.delivery.specs.Delivery.{Side}
use Rattle.two_ports.proofs.Cases.{neither}
use Rattle.beside.specs.Beside.{is_in, any_in, Holds, happens, all_happen, accepted_by, Beside, next_of, later_of, Walked, behind, walked, heard_beside, beside_on, NoneOf}
use Rattle.beside.specs.Layers.{Did, Layer}

-- ---- the plays

module _ (layer : Layer) (barred : List ℕ) (p : ℕ) where
  unfoldable pub happens_but : layer.Call → Holds layer.State → Holds layer.State
  happens_but call h = cond (any_in (layer.accepts (1 - p) h.state h.memory call) barred) h (happens layer p call h)

  unfoldable pub all_happen_but : List layer.Call → Holds layer.State → Holds layer.State
  all_happen_but [] h = h
  all_happen_but (call ∷ calls) h = all_happen_but calls (happens_but call h)

  unfoldable pub walked_but : List layer.Call → Beside layer → List ℕ → Walked layer
  walked_but [] b memory = record { side = b; memory = memory; sent = []; refused = [] }
  walked_but (call ∷ calls) b memory =
      let before : Holds layer.State = record { state = b.state; memory = memory } in
      let h = all_happen_but (next_of b.coming) before in
      let d = layer.does p h.state h.memory call in
      behind d
      (walked_but calls
      (record { state = d.state; coming = later_of b.coming; accepted = b.accepted ++ accepted_by layer p (next_of b.coming) before })
      d.memory)

  unfoldable pub heard_but : Hears (Beside layer)
  heard_but b memory line =
      let w = walked_but (layer.message line) b memory in
      record { side = w.side; memory = w.memory; sent = take (length line) w.sent; refused = w.refused }

  abbrev pub beside_but : Side
  beside_but = record {
    State = Beside layer;
    hears = heard_but;
    sets = (beside_on layer p).sets;
    card = (beside_on layer p).card;
    Runs = (beside_on layer p).Runs;
    alone = false;
  }

-- ---- nothing is left out

-- of two lists together none is barred where none of either is
pub in-both : (codes more barred : List ℕ) → NoneOf barred (codes ++ more) → NoneOf barred codes × NoneOf barred more
unfolding any_in
in-both [] more barred h = (refl, h)
in-both (code ∷ codes) more barred h =
    let (one, rest) = neither (is_in code barred) (any_in (codes ++ more) barred) h in
    let (first, second) = in-both codes more barred rest in
    (rw (one, first), second)

pub of-both : (codes more barred : List ℕ) → NoneOf barred codes → NoneOf barred more → NoneOf barred (codes ++ more)
unfolding any_in
of-both [] more barred first second = second
of-both (code ∷ codes) more barred first second =
    let (one, rest) = neither (is_in code barred) (any_in codes barred) first in
    rw (one, of-both codes more barred rest second)

module _ (layer : Layer) (barred : List ℕ) (p : ℕ) where
  happens-same : (call : layer.Call) (h : Holds layer.State) → NoneOf barred (layer.accepts (1 - p) h.state h.memory call)
      → happens_but layer barred p call h ≡ happens layer p call h
  unfolding happens_but
  happens-same call h none = rw none

  pub all-same : (calls : List layer.Call) (h : Holds layer.State) → NoneOf barred (accepted_by layer p calls h)
      → all_happen_but layer barred p calls h ≡ all_happen layer p calls h
  unfolding all_happen_but all_happen accepted_by
  all-same [] h none = refl
  all-same (call ∷ calls) h none =
      let (one, rest) = in-both (layer.accepts (1 - p) h.state h.memory call) (accepted_by layer p calls (happens layer p call h)) barred none in
      ap (all_happen_but layer barred p calls) (happens-same call h one) ∙ all-same calls (happens layer p call h) rest

  -- what has been accepted stays noted
  walked-keeps : (calls : List layer.Call) (b : Beside layer) (memory : List ℕ) → NoneOf barred (walked layer p calls b memory).side.accepted
      → NoneOf barred b.accepted
  unfolding walked
  walked-keeps [] b memory none = none
  walked-keeps (call ∷ calls) b memory none = (in-both b.accepted _ barred (walked-keeps calls _ _ none)).0

  walked-same : (calls : List layer.Call) (b : Beside layer) (memory : List ℕ) → NoneOf barred (walked layer p calls b memory).side.accepted
      → walked_but layer barred p calls b memory ≡ walked layer p calls b memory
  unfolding walked_but walked
  walked-same [] b memory none = refl
  walked-same (call ∷ calls) b memory none =
      let before : Holds layer.State = record { state = b.state; memory = memory } in
      let h : Holds layer.State = all_happen layer p (next_of b.coming) before in
      let d : Did layer.State = layer.does p h.state h.memory call in
      let next : Beside layer = record { state = d.state; coming = later_of b.coming; accepted = b.accepted ++ accepted_by layer p (next_of b.coming) before } in
      let (old, new) = in-both b.accepted (accepted_by layer p (next_of b.coming) before) barred (walked-keeps calls next d.memory none) in
      rw (all-same (next_of b.coming) before new) (ap (behind d) (walked-same calls next d.memory none))

  -- for a whole message
  pub heard-keeps : (b : Beside layer) (memory : List ℕ) (line : List Bool) → NoneOf barred (heard_beside layer p b memory line).side.accepted
      → NoneOf barred b.accepted
  unfolding heard_beside
  heard-keeps b memory line none = walked-keeps (layer.message line) b memory none

  pub nothing-left-out : (b : Beside layer) (memory : List ℕ) (line : List Bool) → NoneOf barred (heard_beside layer p b memory line).side.accepted
      → heard_but layer barred p b memory line ≡ heard_beside layer p b memory line
  unfolding heard_but heard_beside
  nothing-left-out b memory line none =
      ap (λ (w : Walked layer). record { side = w.side; memory = w.memory; sent = take (length line) w.sent; refused = w.refused })
      (walked-same (layer.message line) b memory none)
