-- What the tests of start, ask and give tell.
-- Assumes nothing.
use Prim.Native.Nat.{ℕ, ◌≤◌}
use native.Mathlib.Omega.{arith}
use mathlib.Core.Bool.{Bool, true, false, cond, ◌&&◌, ◌||◌}
use mathlib.Core.List.{List, []}
use mathlib.Core.Logic.{◌⊎◌, inl, inr, ⊎_elim}
use mathlib.Core.Path.{◌≡◌, refl, sym}
use borrow.Author.Tests.{leb-true, eqb-true, ne_eqb}
use lib.Dec.{eqb, leb}
use lib.ListN.{length, take, drop}
use Rattle.rules.specs.Refusals as refusal
use Rattle.rules.specs.Rules.{message_words}
use Rattle.rules.proofs.Cases.{by-test, by-number}
use Rattle.token.proofs.Good.{both}
use Rattle.controller.specs.Base.{base_block}
use Rattle.controller.specs.Sure.{command_at, is_ask, is_give}
use Rattle.loader.specs.Loader.{block_words, load_goes, out_of_load, base_at, stage_command, stage_block, turn_block, is_size, load_start_refusal, load_started, load_ask_refusal, load_give_refusal}
use Rattle.loader.specs.Answers.{LoadStarted}
use Rattle.loader.specs.declared.Loader.{Loader}

-- ---- start

-- the number that a start gives
pub start-number : (cards least greatest len : ℕ) → (load_started cards least greatest len).refusal ≡ load_start_refusal cards least greatest len
unfolding load_started
start-number cards least greatest len =
    let n = load_start_refusal cards least greatest len in
    by-number (λ (a : LoadStarted). a.refusal ≡ n) n (λ _. refl)
    (λ none. by-test (λ (a : LoadStarted). a.refusal ≡ n) (eqb len 0 || eqb cards 0) (λ _. sym none) (λ _. sym none))

-- sizes that a start takes, where there is a card
pub record Held (least greatest len : ℕ) : Type 0 where
  pub least_some : 1 ≤ least
  pub least_most : least ≤ 32768
  pub greatest_most : greatest ≤ 32768
  pub held : len ≤ least

start-by : (none sized fits : Bool) → cond none refusal.none (cond sized (cond fits refusal.none refusal.argument) refusal.size) ≡ refusal.none
    → (none ≡ true) ⊎ ((sized ≡ true) × (fits ≡ true))
start-by true sized fits h = inl refl
start-by false true true h = inr (refl, refl)
start-by false true false h = absurd (omega (arith, h))
start-by false false fits h = absurd (omega (arith, h))

module _ (cards least greatest len : ℕ) (h : load_start_refusal cards least greatest len ≡ refusal.none) where
  passed : (eqb cards 0 ≡ true) ⊎ (((is_size least && is_size greatest) ≡ true) × ((leb cards 32 && leb len least) ≡ true))
  unfolding load_start_refusal
  passed = start-by (eqb cards 0) (is_size least && is_size greatest) (leb cards 32 && leb len least) h

  pub start-few : cards ≤ 32
  start-few = ⊎_elim (λ none. omega (arith, eqb-true cards 0 none)) (λ (_, fits). leb-true cards 32 (both (leb cards 32) _ fits).0) passed

  pub start-held : (cards ≡ 0 → ⊥) → Held least greatest len
  start-held some = ⊎_elim (λ none. absurd (some (eqb-true cards 0 none))) go passed
    where
      go : ((is_size least && is_size greatest) ≡ true) × ((leb cards 32 && leb len least) ≡ true) → Held least greatest len
      go (sized, fits) =
          let (small, large) = both (is_size least) (is_size greatest) sized in
          let (one, most) = both (leb 1 least) (leb least 32768) small in
          record {
            least_some = leb-true 1 least one;
            least_most = leb-true least 32768 most;
            greatest_most = leb-true greatest 32768 (both (leb 1 greatest) _ large).1;
            held = leb-true len least (both (leb cards 32) _ fits).1;
          }

-- ---- ask

-- the block of a turn's message
module _ (s : Loader) (table : List ℕ) where
  pub block-none : (s.turn ≡ 2 → ⊥) → turn_block s table ≡ []
  unfolding turn_block
  block-none other = rw (ne_eqb s.turn 2 other)

  pub block-base : s.turn ≡ 2 → s.stage ≡ 0 → turn_block s table ≡ base_block (base_at s.place)
  unfolding turn_block stage_block
  block-base middle base = rw (middle, base)

  pub block-part : s.turn ≡ 2 → (s.stage ≡ 0 → ⊥) → length table ≡ s.length
      → turn_block s table ≡ take (block_words s.length s.place) (drop s.place table)
  unfolding turn_block stage_block
  block-part middle block same = rw (middle, ne_eqb s.stage 0 block, same)

-- an ask that is taken has its turn
pub record InTurn (s : Loader) : Type 0 where
  pub in_load : out_of_load s ≡ false
  pub goes : load_goes s ≡ true
  pub turn : is_ask s.turn ≡ true

turn-by : (out turn : Bool) (n : ℕ) → cond out refusal.state (cond turn n refusal.turn) ≡ refusal.none → (out ≡ false) × (turn ≡ true)
turn-by true turn n h = absurd (omega (arith, h))
turn-by false false n h = absurd (omega (arith, h))
turn-by false true n h = (refl, refl)

pub ask-passed : (s : Loader) (table : List ℕ) (room : ℕ) → load_ask_refusal s table room ≡ refusal.none → InTurn s
unfolding load_ask_refusal
ask-passed s table room h =
    let (inside, turn) = turn-by (out_of_load s) (load_goes s && is_ask s.turn) _ h in
    let (goes, ask) = both (load_goes s) (is_ask s.turn) turn in
    record { in_load = inside; goes = goes; turn = ask }

-- ---- give

-- words that are taken: those of the message that was asked for last, with as many cards as at the start
pub record Gives (s : Loader) (cards count : ℕ) : Type 0 where
  pub in_load : out_of_load s ≡ false
  pub goes : load_goes s ≡ true
  pub turn : is_give s.turn ≡ true
  pub cards_same : cards ≡ s.cards
  pub counted : count ≡ message_words (command_at (stage_command s) s.turn).length

give-by : (out turn cards count : Bool)
    → cond out refusal.state (cond turn (cond cards (cond count refusal.none refusal.count) refusal.argument) refusal.turn) ≡ refusal.none
    → (out ≡ false) × (turn ≡ true) × (cards ≡ true) × (count ≡ true)
give-by true turn cards count h = absurd (omega (arith, h))
give-by false false cards count h = absurd (omega (arith, h))
give-by false true false count h = absurd (omega (arith, h))
give-by false true true false h = absurd (omega (arith, h))
give-by false true true true h = (refl, refl, refl, refl)

pub give-passed : (s : Loader) (cards count : ℕ) → load_give_refusal s cards count ≡ refusal.none → Gives s cards count
unfolding load_give_refusal
give-passed s cards count h =
    let n = message_words (command_at (stage_command s) s.turn).length in
    let (inside, turn, same, counted) =
    give-by (out_of_load s) (load_goes s && is_give s.turn) (eqb cards s.cards) (eqb count n) h in
    let (goes, give) = both (load_goes s) (is_give s.turn) turn in
    record {
      in_load = inside;
      goes = goes;
      turn = give;
      cards_same = eqb-true cards s.cards same;
      counted = eqb-true count n counted;
    }
