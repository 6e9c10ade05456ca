-- A load's steps where they are taken: each ask writes its turn's message, each give takes the words that came back with it, and then the load
-- goes on to a block, a base or a card.
-- Assumes nothing.
use Prim.Native.Nat.{ℕ, zero, suc, ◌+◌, ◌≤◌, ◌<◌}
use native.Mathlib.Omega.{arith}
use mathlib.Core.Bool.{Bool, true, false, cond}
use mathlib.Core.List.{List, []}
use mathlib.Core.Path.{◌≡◌, refl, ap, ◌∙◌}
use borrow.Author.Tests.{ltb-true, ltb-false, leb-true, leb-false, le-leb, eq-eqb, ne_eqb}
use lib.Dec.{eqb, ltb, lit≤, lit<}
use lib.ListN.{length, take, drop, get_or, length-take, length-drop, get_or-eq_default}
use lib.Seq.{take_at, length-take-le, get_or-take, get_or-drop}
use Rattle.bits.specs.Lines.{AreWords}
use Rattle.rules.specs.Refusals as refusal
use Rattle.rules.specs.Rules.{message_words, readback, write}
use Rattle.rules.proofs.Cases.{by-test}
use Rattle.token.specs.Command.{command, command_fits}
use Rattle.token.specs.declared.command.Command.{Command}
use Rattle.controller.specs.Base.{base_command, base_block}
use Rattle.controller.specs.Builder.{is_reading, message, block_fits, build_refusal, buffer_after}
use Rattle.controller.specs.Sure.{readback_command, command_at, is_ask, is_give, turn_after}
use Rattle.controller.proofs.MessageLaws.{message-whole}
use Rattle.loader.specs.Loader.{loader, block_words, block_at, load_goes, out_of_load, base_at, stage_command, stage_block, turn_block, load_turn, load_ask_refusal, load_asked, load_asked_buffer, last_block, next_card, next_stage, moved, noted, load_give_refusal, load_given}
use Rattle.loader.specs.declared.Load.TheVariants.{NotYet, Loaded, Stopped}
use Rattle.loader.specs.Answers.{LoadAsked}
use Rattle.loader.specs.declared.Loader.{Loader}
use Rattle.loader.proofs.StateLaws.{Serving, serving-goes, serving-in-range}

-- ---- the command of a stage, and its block

-- it has a token
pub stage-fits : (s : Loader) → command_fits (stage_command s) ≡ true
unfolding command_fits stage_command
stage-fits s = by-test (λ (t : Command). command_fits t ≡ true) (eqb s.stage 0) (λ base. refl) (λ block. rw (le-leb (block_words s.length s.place) 63 (omega arith)))

-- and is no READBACK
pub stage-other : (s : Loader) → (stage_command s).code ≡ readback.code → ⊥
unfolding stage_command
stage-other s = by-test (λ (t : Command). t.code ≡ readback.code → ⊥) (eqb s.stage 0) (λ base h. absurd (omega (arith, h))) (λ block h. absurd (omega (arith, h)))

-- two halves of a base are words, and so are a part's
base-words : (base : ℕ) → base < 4294967296 → AreWords (base_block base)
unfolding AreWords
base-words base fits zero = omega arith
base-words base fits (suc zero) = omega arith
base-words base fits (suc (suc i)) = lit< tt

part-words : (n place : ℕ) (table : List ℕ) → AreWords table → AreWords (take n (drop place table))
unfolding AreWords
part-words n place table below i = by (ltb i n) refl
  where
    by : (inside : Bool) → ltb i n ≡ inside → get_or (take n (drop place table)) i 0 < 65536
    by true e = rw (get_or-take n (drop place table) i 0 (ltb-true i n e), get_or-drop place table i 0) (below (place + i))
    by false e = rw (get_or-eq_default (take n (drop place table)) 0 {n = i} (omega (arith, length-take n (drop place table), ltb-false i n e))) (lit< tt)

module _ (s : Loader) (table : List ℕ) where
  block-long : s.place < s.length → length table ≡ s.length → length (block_at table s.place) ≡ block_words s.length s.place
  block-long place same =
      rw same (length-take-le (block_words s.length s.place) (drop s.place table) (omega (arith, length-drop s.place table)))

  -- the block is as long as the command says
  pub stage-block-fits : s.place < s.length → length table ≡ s.length → block_fits (stage_command s) (length (stage_block s table)) ≡ true
  unfolding stage_command stage_block block_fits is_reading
  stage-block-fits place same = by (eqb s.stage 0)
    where
      by : (base : Bool)
          → block_fits (cond base base_command (command write.code (block_words s.length s.place) 0)) (length (cond base (base_block (base_at s.place)) (block_at table s.place))) ≡ true
      by true = refl
      by false = eq-eqb _ _ (block-long place same)

  -- and has 16-bit words
  pub stage-words : s.length ≤ 32768 → s.place < s.length → AreWords table → AreWords (stage_block s table)
  unfolding stage_block
  stage-words long place below = by-test AreWords (eqb s.stage 0) (λ base. base-words (base_at s.place) (omega arith)) (λ block. part-words (block_words (length table) s.place) s.place table below)

-- ---- a turn's message

-- what an ask of a turn takes, and the give behind it
pub record Takes (s : Loader) (table : List ℕ) (turn : ℕ) (t : Command) (block : List ℕ) : Type 0 where
  pub asks : is_ask turn ≡ true
  pub gives : is_give (turn + 1) ≡ true
  pub early : turn ≤ 4
  pub here : command_at (stage_command s) turn ≡ t
  pub there : command_at (stage_command s) (turn + 1) ≡ t
  pub block_is : turn_block (load_turn s turn) table ≡ block
  pub fits : command_fits t ≡ true
  pub fits_block : block_fits t (length block) ≡ true

module _ (s : Loader) (table : List ℕ) where
  takes-readback : (turn : ℕ) → is_ask turn ≡ true → is_give (turn + 1) ≡ true → turn ≤ 4 → command_at (stage_command s) turn ≡ readback_command
      → command_at (stage_command s) (turn + 1) ≡ readback_command → turn_block (load_turn s turn) table ≡ [] → Takes s table turn readback_command []
  unfolding command_fits block_fits is_reading
  takes-readback turn asks gives early here there block_is =
      record { asks = asks; gives = gives; early = early; here = here; there = there; block_is = block_is; fits = refl; fits_block = refl }

  pub takes-first : Takes s table 0 readback_command []
  unfolding is_ask is_give command_at turn_block
  takes-first = takes-readback 0 refl refl (lit≤ tt) refl refl refl

  pub takes-last : Takes s table 4 readback_command []
  unfolding is_ask is_give command_at turn_block
  takes-last = takes-readback 4 refl refl (lit≤ tt) refl refl refl

  pub takes-middle : s.place < s.length → length table ≡ s.length → Takes s table 2 (stage_command s) (stage_block s table)
  unfolding is_ask is_give command_at turn_block stage_block
  takes-middle place same = record {
    asks = refl;
    gives = refl;
    early = lit≤ tt;
    here = refl;
    there = refl;
    block_is = refl;
    fits = stage-fits s;
    fits_block = stage-block-fits s table place same;
  }

-- ---- a step that is taken

pub serving-turn : (s : Loader) (turn : ℕ) → Serving s → turn ≤ 5 → Serving (load_turn s turn)
serving-turn s turn v early = record {
  cards = v.cards;
  length = v.length;
  card = v.card;
  place = v.place;
  whole = v.whole;
  stage = v.stage;
  turn = early;
}

pub same-command : (s : Loader) (turn : ℕ) → stage_command (load_turn s turn) ≡ stage_command s
unfolding stage_command
same-command s turn = refl

module _ (s : Loader) (v : Serving s) (table : List ℕ) (turn : ℕ) (t : Command) (block : List ℕ) (k : Takes s table turn t block) where
  in-range : (later : ℕ) → later ≤ 5 → out_of_load (load_turn s later) ≡ false
  in-range later early = serving-in-range (load_turn s later) (serving-turn s later v early)

  goes : (later : ℕ) → load_goes (load_turn s later) ≡ true
  unfolding load_goes
  goes later = serving-goes s v

  module _ (same : length table ≡ s.length) (buffer : List ℕ) (room : message_words t.length ≤ length buffer) where
    build-taken : build_refusal t (length block) (length buffer) ≡ refusal.none
    unfolding build_refusal
    build-taken = rw (k.fits, k.fits_block, le-leb (message_words t.length) (length buffer) room)

    ask-taken : load_ask_refusal (load_turn s turn) table (length buffer) ≡ refusal.none
    unfolding load_ask_refusal
    ask-taken =
        rw (in-range turn (omega (arith, k.early)), goes turn, k.asks, eq-eqb _ _ same, same-command s turn, k.here, k.block_is) build-taken

    pub asked-at : load_asked (load_turn s turn) table (length buffer)
        ≡ record { refusal = refusal.none; words = message_words t.length; state = load_turn s (turn + 1) }
    unfolding load_asked
    asked-at = rw (ask-taken, same-command s turn, k.here)

    -- the front of the lent buffer is the built message, whatever stood in the buffer
    pub words-asked : take (load_asked (load_turn s turn) table (length buffer)).words (load_asked_buffer (load_turn s turn) table buffer) ≡ message t block
    unfolding load_asked_buffer buffer_after message
    words-asked =
        ap (λ (a : LoadAsked). take a.words (load_asked_buffer (load_turn s turn) table buffer)) asked-at
        ∙ rw (ask-taken, same-command s turn, k.here, k.block_is, build-taken)
        (take_at (message t block) _ (message_words t.length) (omega (arith, message-whole t block k.fits_block)))

  -- words of that message, with as many cards as at the start, decide
  pub given-at : (cards : ℕ) (ws : List ℕ) → cards ≡ s.cards → length ws ≡ message_words t.length
      → let next = turn_after (stage_command s) (turn + 1) ws in
      load_given (load_turn s (turn + 1)) cards ws ≡ record { refusal = refusal.none; load = noted s next; state = moved s next }
  unfolding load_given load_give_refusal moved noted next_stage last_block
  given-at cards ws same counted =
      rw (in-range (turn + 1) (omega (arith, k.early)), goes (turn + 1), k.gives, eq-eqb _ _ same, same-command s (turn + 1), k.there, eq-eqb _ _ counted)

-- ---- where the load goes on

module _ (s : Loader) where
  -- a turn that is no verdict stays at its stage, and says nothing
  pub moved-on : (turn : ℕ) → turn ≤ 5 → (moved s turn ≡ load_turn s turn) × (noted s turn ≡ NotYet)
  unfolding moved noted
  moved-on turn early = rw (ne_eqb turn 7 (λ h. omega (arith, h)), ne_eqb turn 6 (λ h. omega (arith, h))) (refl, refl)

  -- Unsure, of base or block, stops the card at the block, and the next card follows
  pub moved-unsure : (moved s 7 ≡ next_card s) × (noted s 7 ≡ Stopped s.place (block_words s.length s.place))
  unfolding moved noted
  moved-unsure = (refl, refl)

  -- a base that is Done is followed by its block
  pub moved-base : s.stage ≡ 0 → (moved s 6 ≡ loader s.cards s.length s.card s.place 1 0) × (noted s 6 ≡ NotYet)
  unfolding moved noted next_stage
  moved-base base = rw base (refl, refl)

  -- a block that is Done by the next block's base
  pub moved-block : (s.stage ≡ 0 → ⊥) → last_block s ≡ false
      → (moved s 6 ≡ loader s.cards s.length s.card (s.place + block_words s.length s.place) 0 0) × (noted s 6 ≡ NotYet)
  unfolding moved noted next_stage
  moved-block block more = rw (ne_eqb s.stage 0 block, more) (refl, refl)

  -- and the last one by the next card: the card is Loaded
  pub moved-last : (s.stage ≡ 0 → ⊥) → last_block s ≡ true → (moved s 6 ≡ next_card s) × (noted s 6 ≡ Loaded)
  unfolding moved noted next_stage
  moved-last block last = rw (ne_eqb s.stage 0 block, last) (refl, refl)

  -- a block that is not the last one is full, and another word follows; the last one ends the table
  pub block-full : last_block s ≡ false → (block_words s.length s.place ≡ 63) × (s.place + 63 < s.length)
  unfolding last_block
  block-full more =
      let short = leb-false s.length (s.place + block_words s.length s.place) more in
      (omega (arith, short), omega (arith, short))

  pub block-last : s.place < s.length → last_block s ≡ true → s.place + block_words s.length s.place ≡ s.length
  unfolding last_block
  block-last place last = omega (arith, leb-true s.length (s.place + block_words s.length s.place) last, place)
