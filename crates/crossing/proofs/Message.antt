-- A whole message: what `cross` answers, from what its bits make of the card.
-- Assumes nothing.
use Prim.Native.Nat.{ℕ, ◌≤◌, ◌<◌}
use mathlib.Core.Bool.{Bool}
use mathlib.Core.Path.{◌≡◌, refl, sym, ap, ◌∙◌}
use mathlib.Core.List.{List, ◌++◌, append_assoc}
use borrow.Author.Tests.{lt-ltb, le-ltb}
use lib.ListN.{length}
use Rattle.bits.specs.Bits.{stream}
use Rattle.bits.specs.Buffers.{over}
use Rattle.bits.specs.Lines.{words}
use Rattle.rules.specs.Refusals as refusal
use Rattle.card.specs.Whole.{listed}
use Rattle.pins.specs.AtPins.{Ran}
use Rattle.pins.specs.Pins.{selected_pins, released_pins, memory_after_pins}
use Rattle.pins.specs.declared.Pins.{Pins}
use Rattle.delivery.specs.Play.{Crossed}
use Rattle.crossing.specs.Crossing.{first_of, played, across, memory_across, got_across}
use Rattle.crossing.specs.Steps.{line_across, or_else, told}
use Rattle.crossing.specs.declared.Damage.{Damage}
use Rattle.crossing.specs.declared.Damage.TheVariants.{Unseen}
use Rattle.crossing.proofs.Damaged.{heard_of, missed_of, played-unseen, played-seen}
use Rattle.crossing.proofs.Line.{first-across, first-listed, first-one, or-else-assoc}

module _ (d : Damage) (p : Pins) (memory sent got : List ℕ) where
  pub without-room : length got < length sent
      → (across p memory sent d (length got) ≡ record { refusal = refusal.room; card = refusal.none; pins = p }) × (memory_across p memory sent d (length got) ≡ memory) × (got_across p memory sent d got ≡ got)
  unfolding across memory_across got_across
  without-room h = rw (lt-ltb (length got) (length sent) h) (refl, refl, refl)

  -- with room, from the message as it was played
  with-room : (c : Crossed Pins) → length sent ≤ length got → played p memory sent d ≡ c
      → (across p memory sent d (length got) ≡ record { refusal = refusal.none; card = first_of c.refused; pins = c.side })
      × (memory_across p memory sent d (length got) ≡ c.memory)
      × (got_across p memory sent d got ≡ over (words (length sent) c.got) got)
  unfolding across memory_across got_across
  with-room c h e = rw (le-ltb (length got) (length sent) h, e) (refl, refl, refl)

  -- no select, and no release
  abbrev missed : Ran
  missed = line_across d 0 p memory (stream 16 sent)

  pub message-unseen : length sent ≤ length got → (fill : Bool) → d ≡ Unseen fill
      → (across p memory sent d (length got) ≡ record { refusal = refusal.none; card = (told missed).card; pins = (told missed).pins })
      × (memory_across p memory sent d (length got) ≡ memory)
      × (got_across p memory sent d got ≡ over (words (length sent) missed.sent) got)
  unfolding missed_of told
  message-unseen h fill e = with-room (missed_of memory missed) h (rw e (played-unseen p memory sent fill))

  -- between both
  abbrev heard : Ran
  heard = line_across d 0 (selected_pins p).pins memory (stream 16 sent)

  -- the first refusal of select, bits and release
  first-number : (select release : ℕ) → first_of (listed select ++ heard.refused ++ listed release) ≡ or_else (or_else select (first_of heard.refused)) release
  first-number select release =
      let all : List ℕ = heard.refused in
      ap first_of (append_assoc (listed select) all (listed release))
      ∙ first-listed select (all ++ listed release)
      ∙ ap (or_else select) (first-across d memory 0 (selected_pins p).pins (stream 16 sent) (listed release) ∙ ap (or_else (first_of all)) (first-one release))
      ∙ sym (or-else-assoc select (first_of all) release)

  pub message-seen : length sent ≤ length got → ((fill : Bool) → d ≡ Unseen fill → ⊥)
      → let released = released_pins heard.pins (length memory) in
      (across p memory sent d (length got) ≡ record { refusal = refusal.none; card = or_else (or_else (selected_pins p).refusal (first_of heard.refused)) released.refusal; pins = released.pins })
      × (memory_across p memory sent d (length got) ≡ memory_after_pins heard.pins memory)
      × (got_across p memory sent d got ≡ over (words (length sent) heard.sent) got)
  unfolding heard_of
  message-seen h other =
      let released = released_pins heard.pins (length memory) in
      let r = with-room (heard_of p memory heard) h (played-seen p memory sent d other) in
      (r.0 ∙ ap (λ (n : ℕ). record { refusal = refusal.none; card = n; pins = released.pins }) (first-number (selected_pins p).refusal released.refusal), r.1, r.2)
