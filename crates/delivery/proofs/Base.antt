-- Demand 3 for setting the write base: a use of any command in the middle, for every side.
-- Assumes nothing.
use Prim.Native.Nat.{ℕ, zero, suc, ◌<◌}
use native.Mathlib.Omega.{arith}
use mathlib.Core.Path.{◌≡◌, refl, ◌∙◌}
use mathlib.Core.Logic.{inl, inr, ⊎_elim}
use mathlib.Core.List.{List}
use lib.Dec.{lit<}
use Rattle.bits.specs.Lines.{AreWords}
use Rattle.card.specs.declared.Card.{Card}
use Rattle.card.proofs.Closed.{card_acted}
use Rattle.controller.specs.Base.{base_command, base_block}
use Rattle.controller.specs.Builder.{is_reading, message, block_fits}
use Rattle.delivery.specs.AnyCommand.{sure_command, Accepts, Acted, called, Sends, AnyCommand, AnyUndamaged, with_base, BaseSends, BaseSetting, BaseUndamaged}
use Rattle.delivery.specs.Delivery.{Side, Kept}
use Rattle.delivery.specs.Play.{ModuleCall}
use Rattle.delivery.proofs.Acts.{Took}
use Rattle.delivery.proofs.Effects.{base-acted, base-stored}
use Rattle.delivery.proofs.Judged.{base-fits, base-passes}
use Rattle.delivery.proofs.Kept.{kept-trans, kept-either}
use Rattle.delivery.proofs.Sending.{acted-then, passes-accepted}
use Rattle.delivery.proofs.SideLaws.{Lawful}

base-words : (base : ℕ) → base < 4294967296 → AreWords (base_block base)
unfolding AreWords
base-words base h zero = omega arith
base-words base h (suc zero) = omega arith
base-words base h (suc (suc i)) = lit< tt

module _ (side : Side) (l : Lawful side) (s : side.State) (memory : List ℕ) (base : ℕ) (p : BaseSends side s memory base) where
  sends : Sends side s memory base_command (base_block base)
  unfolding block_fits is_reading
  sends =
      record {
        run = p.run;
        idle = p.idle;
        lent = p.lent;
        fits = base-fits;
        fits_block = refl;
        words = base-words base p.fits;
        other = λ e. omega arith;
      }

  -- one that acted: the write base is this one, and the memory stays
  module _ (calls : List ModuleCall) {c' : Card} {memory' : List ℕ} (a : Acted side.alone (called side s calls) memory base_command (base_block base) c' memory') where
    took : Took side.alone (called side s calls) memory base_command (base_block base) c' memory'
    took = acted-then side l sends calls a

    base-set : Kept side.alone (with_base base (called side s calls)) c'
    base-set =
        kept-trans (with_base base (called side s calls)) (card_acted (called side s calls) (message base_command (base_block base))) c'
        (kept-either side.alone (base-acted base (called side s calls))) took.card

    memory-stays : memory' ≡ memory
    memory-stays = took.stores ∙ base-stored base (called side s calls) memory

  -- every card accepts it
  base-accepted : Accepts (side.card s) memory base_command (base_block base)
  base-accepted = passes-accepted side l sends (base-passes (side.card s).size (side.card s).bases)

pub base-holds : (side : Side) → Lawful side → AnyCommand side → BaseSetting side
base-holds side l any s memory base p f =
    let m = any s memory base_command (base_block base) (sends side l s memory base p) f in
    let calls : List ModuleCall = (sure_command side s memory base_command (base_block base) f).calls in
    let set = base-set side l s memory base p calls in
    let stays = memory-stays side l s memory base p calls in
    record {
      done = λ v. set (m.done v);
      unsure = λ v. ⊎_elim (λ (k, e). inl k) (λ a. inr (set a)) (m.unsure v);
      memory_kept = ⊎_elim (λ v. stays (m.done v)) (λ v. ⊎_elim (λ (k, e). e) (λ a. stays a) (m.unsure v)) m.ends;
      ends = m.ends;
      unrefused = m.unrefused;
      runs = m.runs;
    }

pub base-undamaged : (side : Side) → Lawful side → AnyUndamaged side → BaseUndamaged side
base-undamaged side l any s memory base p =
    any s memory base_command (base_block base) (sends side l s memory base p) (base-accepted side l s memory base p)
