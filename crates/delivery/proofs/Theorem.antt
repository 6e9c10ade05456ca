-- Demand 3, both halves: for the card alone, word by word, and for the card behind its shifter, bit by bit. For any command in the middle, for the
-- sure write, and for setting the write base.
-- Assumes nothing.
use Prim.Native.Nat.{ℕ}
use mathlib.Core.Bool.{true}
use mathlib.Core.List.{List}
use mathlib.Core.Path.{◌≡◌, refl, ap}
use Rattle.card.specs.Whole.{Heard, heard}
use Rattle.card.specs.declared.Card.{Card}
use Rattle.card.proofs.Closed.{through}
use Rattle.pins.proofs.Pinned.{at-pins}
use Rattle.pins.proofs.Run.{run-pins, message-run}
use Rattle.delivery.specs.AnyCommand.{AnyCommand, AnyUndamaged, OddCommand, BaseSetting, BaseUndamaged}
use Rattle.delivery.specs.Delivery.{Side, in_words, at_pins, sure_write, Premises, Delivery, Undamaged, OddBase}
use Rattle.delivery.specs.Play.{settings, Buffers, Damages, Calls}
use Rattle.delivery.proofs.Demand3.{Demand3, demand-3}
use Rattle.delivery.proofs.SideLaws.{lawful-in-words, lawful-at-pins}
use Rattle.delivery.proofs.Ended.{run-heard}
use Rattle.delivery.proofs.Kept.{like-self, like-same}
use Rattle.delivery.proofs.Sides.{Follows}

-- a card alone
in-words-follow : Follows in_words
in-words-follow = record {
  lawful = lawful-in-words;
  meets = λ c r memory idle line. record {
    found = c;
    like = like-self c;
    ranged = idle.ranged;
    after = like-self (heard c memory line).side;
    memory_same = refl;
    sent_same = refl;
    refused_same = refl;
    runs = run-heard r memory line;
  };
}

-- at the pins a card hears each message as it does alone
at-pins-follow : Follows at_pins
unfolding through
at-pins-follow = record {
  lawful = lawful-at-pins;
  meets = λ p r memory idle line.
      let same = at-pins p.card memory idle p.shifter (run-pins r).in_range line in
      record {
        found = p.card;
        like = like-self p.card;
        ranged = idle.ranged;
        after = like-same (ap (λ (h : Heard Card). h.side) same);
        memory_same = ap (λ (h : Heard Card). h.memory) same;
        sent_same = ap (λ (h : Heard Card). h.sent) same;
        refused_same = ap (λ (h : Heard Card). h.refused) same;
        runs = message-run r memory line;
      };
}

pub in-words : Demand3 in_words
in-words = demand-3 in_words in-words-follow

pub at-the-pins : Demand3 at_pins
at-the-pins = demand-3 at_pins at-pins-follow

-- ---- any command in the middle

pub any-command : AnyCommand in_words
any-command = in-words.any

pub any-undamaged : AnyUndamaged in_words
any-undamaged = in-words.any_undamaged

pub odd-command : OddCommand in_words
odd-command = in-words.odd

pub any-at-pins : AnyCommand at_pins
any-at-pins = at-the-pins.any

pub any-undamaged-at-pins : AnyUndamaged at_pins
any-undamaged-at-pins = at-the-pins.any_undamaged

pub odd-command-at-pins : OddCommand at_pins
odd-command-at-pins = at-the-pins.odd

-- ---- the sure write

pub delivery : Delivery in_words
delivery = in-words.delivery

pub undamaged-delivery : Undamaged in_words
undamaged-delivery = in-words.undamaged

pub odd-base : OddBase in_words
odd-base = in-words.odd_base

pub delivery-at-pins : Delivery at_pins
delivery-at-pins = at-the-pins.delivery

pub undamaged-at-pins : Undamaged at_pins
undamaged-at-pins = at-the-pins.undamaged

pub odd-base-at-pins : OddBase at_pins
odd-base-at-pins = at-the-pins.odd_base

-- ---- setting the write base

pub base-in-words : BaseSetting in_words
base-in-words = in-words.base

pub base-undamaged-in-words : BaseUndamaged in_words
base-undamaged-in-words = in-words.base_undamaged

pub base-at-pins : BaseSetting at_pins
base-at-pins = at-the-pins.base

pub base-undamaged-at-pins : BaseUndamaged at_pins
base-undamaged-at-pins = at-the-pins.base_undamaged

-- ---- what a sure write keeps where the controller is alone with the card

-- the time too, and STF and module state but for the device's own calls
abbrev pub AllKept : Side → Type 0
AllKept side = (s : side.State) (memory : List ℕ) (sub : ℕ) (block : List ℕ) (b : Buffers) → Premises side s memory sub block b
    → (d : Damages) (calls : Calls)
    → let end = sure_write side s memory sub block b d calls in
    let before = side.card (settings side.sets end.calls s) in
    let after = side.card end.side in
    (after.time ≡ before.time) × (after.stf ≡ before.stf) × (after.module_state ≡ before.module_state)

all-kept : (side : Side) → side.alone ≡ true → Delivery side → AllKept side
all-kept side alone all s memory sub block b h d calls =
    let kept = (all s memory sub block b h d calls).kept in
    (kept.time alone, kept.stf alone, kept.module_state alone)

pub all-kept-in-words : AllKept in_words
all-kept-in-words = all-kept in_words refl delivery

pub all-kept-at-pins : AllKept at_pins
all-kept-at-pins = all-kept at_pins refl delivery-at-pins
