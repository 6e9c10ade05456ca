-- What each kind of damage makes of a line bit by bit is what a message's `crossed` makes of the whole line.
-- Assumes nothing.
use Prim.Native.Nat.{ℕ, zero, suc, ◌+◌, ◌≤◌, ◌<◌}
use native.Mathlib.Nat.{sub-zero, zero-sub, suc-sub-suc}
use native.Mathlib.Omega.{arith}
use mathlib.Core.Path.{◌≡◌, refl, sym, ap, ap₂, ◌∙◌}
use mathlib.Core.Bool.{Bool, true, false, not}
use mathlib.Core.List.{List, [], ◌∷◌, ◌++◌}
use borrow.Author.Tests.{lt-ltb, le-ltb, eq-eqb, ne_eqb}
use lib.ListN.{length, take, replicate}
use Rattle.bits.specs.Bits.{stream}
use Rattle.card.specs.Whole.{listed}
use Rattle.link.specs.Damage.{flip_at, flipped, filled}
use Rattle.pins.specs.Pins.{selected_pins, clocked, released_pins, memory_after_pins}
use Rattle.pins.specs.AtPins.{Ran, behind, ran, released_after, heard_at_pins}
use Rattle.pins.specs.Answers.{Clocked}
use Rattle.pins.specs.declared.Pins.{Pins}
use Rattle.delivery.specs.Play.{Crossed, crossed}
use Rattle.crossing.specs.Crossing.{damage_of, played}
use Rattle.crossing.specs.Steps.{seen, fill_of, turned, to_card, to_controller, bit_across, line_across}
use Rattle.crossing.specs.declared.Damage.{Damage}
use Rattle.crossing.specs.declared.Damage.TheVariants.{Unseen, Cut, Flipped}

-- no bit is seen any more
unheard : Bool → Pins → List Bool → Ran
unheard fill p line = record { pins = p; sent = replicate (length line) fill; refused = [] }

-- the bits sent come back changed
home : (List Bool → List Bool) → Ran → Ran
home way r = record { pins = r.pins; sent = way r.sent; refused = r.refused }

module _ (memory : List ℕ) where
  bit-unheard : (d : Damage) (i : ℕ) (p : Pins) (b : Bool) → seen d i ≡ false → bit_across d i p memory b ≡ record { refusal = 0; pins = p; bit = fill_of d }
  unfolding bit_across
  bit-unheard d i p b e = rw e

  line-unheard : (d : Damage) (line : List Bool) (i : ℕ) (p : Pins) → ((j : ℕ) → i ≤ j → seen d j ≡ false) → line_across d i p memory line ≡ unheard (fill_of d) p line
  unfolding line_across unheard listed
  line-unheard d [] i p h = refl
  line-unheard d (b ∷ line) i p h =
      ap (λ (c : Clocked). behind c (line_across d (suc i) c.pins memory line)) (bit-unheard d i p b (h i (omega arith)))
      ∙ ap (behind (record { refusal = 0; pins = p; bit = fill_of d })) (line-unheard d line (suc i) p (λ j g. h j (omega arith)))

  -- ---- cut

  module _ (there : ℕ) (fill : Bool) where
    abbrev cut : Damage
    cut = Cut there fill

    cut-seen : (i : ℕ) → i < there → seen cut i ≡ true
    unfolding seen
    cut-seen i h = lt-ltb i there h

    cut-unseen : (i : ℕ) → there ≤ i → seen cut i ≡ false
    unfolding seen
    cut-unseen i h = le-ltb i there h

    bit-cut : (i : ℕ) (p : Pins) (b : Bool) → i < there → bit_across cut i p memory b ≡ clocked p memory b
    unfolding bit_across to_card to_controller
    bit-cut i p b h = rw (cut-seen i h)

    line-cut : (line : List Bool) (i n : ℕ) (p : Pins) → there ≡ i + n
        → line_across cut i p memory line ≡ home (filled n fill (length line)) (ran p memory (take n line))
    unfolding line_across ran home filled
    line-cut [] i zero p e = refl
    line-cut [] i (suc n) p e = rw (zero-sub (suc n))
    line-cut (b ∷ line) i zero p e = rw (sub-zero (suc (length line))) (unfold unheard in line-unheard cut (b ∷ line) i p (λ j h. cut-unseen j (omega arith)))
    line-cut (b ∷ line) i (suc n) p e =
        ap (λ (c : Clocked). behind c (line_across cut (suc i) c.pins memory line)) (bit-cut i p b (omega arith))
        ∙ ap (behind (clocked p memory b)) (line-cut line (suc i) n (clocked p memory b).pins (omega arith))
        ∙ rw (suc-sub-suc (length line) n)

  -- ---- flipped

  -- from bit i on
  flip_from : ℕ → ℕ → List Bool → List Bool
  flip_from place i [] = []
  flip_from place i (b ∷ line) = turned place i b ∷ flip_from place (suc i) line

  turned-here : (i : ℕ) (b : Bool) → turned i i b ≡ not b
  unfolding turned
  turned-here i b = rw (eq-eqb i i refl)

  turned-apart : (place i : ℕ) (b : Bool) → (i ≡ place → ⊥) → turned place i b ≡ b
  unfolding turned
  turned-apart place i b h = rw (ne_eqb i place h)

  flip-behind : (line : List Bool) (place i : ℕ) → place < i → flip_from place i line ≡ line
  unfolding flip_from
  flip-behind [] place i h = refl
  flip-behind (b ∷ line) place i h = ap₂ ◌∷◌ (turned-apart place i b (λ e. omega arith)) (flip-behind line place (suc i) (omega arith))

  flip-from : (line : List Bool) (place i n : ℕ) → place ≡ i + n → flip_from place i line ≡ flip_at n line
  unfolding flip_from flip_at
  flip-from [] place i zero e = refl
  flip-from [] place i (suc n) e = refl
  flip-from (b ∷ line) place i zero e =
      let here : place ≡ i = omega arith in
      ap₂ ◌∷◌ (ap (λ (x : ℕ). turned x i b) here ∙ turned-here i b) (flip-behind line place (suc i) (omega arith))
  flip-from (b ∷ line) place i (suc n) e = ap₂ ◌∷◌ (turned-apart place i b (λ q. omega arith)) (flip-from line place (suc i) n (omega arith))

  module _ (there back : ℕ) where
    abbrev flips : Damage
    flips = Flipped there back

    bit-flips : (i : ℕ) (p : Pins) (b : Bool)
        → let c = clocked p memory (turned there i b) in
        bit_across flips i p memory b ≡ record { refusal = c.refusal; pins = c.pins; bit = turned back i c.bit }
    unfolding bit_across seen to_card to_controller
    bit-flips i p b = refl

    line-flips : (line : List Bool) (i : ℕ) (p : Pins)
        → line_across flips i p memory line ≡ home (flip_from back i) (ran p memory (flip_from there i line))
    unfolding line_across ran home flip_from
    line-flips [] i p = refl
    line-flips (b ∷ line) i p =
        let c : Clocked = clocked p memory (turned there i b) in
        ap (λ (x : Clocked). behind x (line_across flips (suc i) x.pins memory line)) (bit-flips i p b)
        ∙ ap (behind (record { refusal = c.refusal; pins = c.pins; bit = turned back i c.bit })) (line-flips line (suc i) c.pins)

    line-flipped : (line : List Bool) (p : Pins)
        → line_across flips 0 p memory line ≡ home (flip_at back) (ran p memory (flip_at there line))
    unfolding home
    line-flipped line p =
        let r : Ran = ran p memory (flip_at there line) in
        line-flips line 0 p
        ∙ ap (λ (l : List Bool). home (flip_from back 0) (ran p memory l)) (flip-from line there 0 there (omega arith))
        ∙ ap (λ (l : List Bool). record { pins = r.pins; sent = l; refused = r.refused }) (flip-from r.sent back 0 back (omega arith))

-- ---- a message

-- one that is seen: select, its bits, release
unfoldable pub heard_of : Pins → List ℕ → Ran → Crossed Pins
heard_of p memory r = record {
  side = (released_pins r.pins (length memory)).pins;
  memory = memory_after_pins r.pins memory;
  got = r.sent;
  refused = listed (selected_pins p).refusal ++ r.refused ++ listed (released_pins r.pins (length memory)).refusal;
}

-- and one that is not
unfoldable pub missed_of : List ℕ → Ran → Crossed Pins
missed_of memory r = record { side = r.pins; memory = memory; got = r.sent; refused = r.refused }

module _ (p : Pins) (memory sent : List ℕ) where
  pub played-unseen : (fill : Bool) → played p memory sent (Unseen fill) ≡ missed_of memory (line_across (Unseen fill) 0 p memory (stream 16 sent))
  unfolding played damage_of crossed missed_of unheard seen
  played-unseen fill = ap (missed_of memory) (sym (line-unheard memory (Unseen fill) (stream 16 sent) 0 p (λ j h. refl)))

  -- one that is seen goes between select and release
  abbrev Seen : Damage → Type 0
  Seen d = played p memory sent d ≡ heard_of p memory (line_across d 0 (selected_pins p).pins memory (stream 16 sent))

  played-cut : (there : ℕ) (fill : Bool) → Seen (Cut there fill)
  unfolding played damage_of crossed heard_of home heard_at_pins released_after
  played-cut there fill = ap (heard_of p memory) (sym (line-cut memory there fill (stream 16 sent) 0 there (selected_pins p).pins (omega arith)))

  played-flipped : (there back : ℕ) → Seen (Flipped there back)
  unfolding played damage_of crossed heard_of home heard_at_pins released_after flipped
  played-flipped there back = ap (heard_of p memory) (sym (line-flipped memory there back (stream 16 sent) (selected_pins p).pins))

  pub played-seen : (d : Damage) → ((fill : Bool) → d ≡ Unseen fill → ⊥) → Seen d
  played-seen (Unseen fill) other = absurd (other fill refl)
  played-seen (Cut there fill) other = played-cut there fill
  played-seen (Flipped there back) other = played-flipped there back
