-- A state in range stays in range by every step, refused or not; and a start gives one.
-- Assumes nothing.
use Prim.Native.Nat.{ℕ, ◌+◌, ◌≤◌, ◌<◌}
use native.Mathlib.Omega.{arith}
use mathlib.Core.Bool.{Bool, true, false, ◌||◌, false≢true}
use mathlib.Core.List.{List}
use mathlib.Core.Path.{◌≡◌, refl}
use borrow.Author.Tests.{ltb-true, ltb-false, eqb-true, eqb-false}
use lib.Dec.{eqb, ltb, lit≤}
use lib.ListN.{length}
use Rattle.rules.specs.Refusals as refusal
use Rattle.rules.proofs.Cases.{by-test, by-number}
use Rattle.token.specs.declared.command.Command.{Command}
use Rattle.controller.specs.Sure.{is_ask, passes, confirms, turn_after}
use Rattle.loader.specs.Loader.{loader, block_words, out_of_load, stage_command, load_start_refusal, load_started, load_turn, load_ask_refusal, load_asked, last_block, next_card, next_stage, moved, load_give_refusal, load_given}
use Rattle.loader.specs.Answers.{LoadAsked}
use Rattle.loader.specs.Answers.{LoadGiven}
use Rattle.loader.specs.Answers.{LoadStarted}
use Rattle.loader.specs.declared.Loader.{Loader}
use Rattle.loader.proofs.LoadLaws.{serving-turn, block-full}
use Rattle.loader.proofs.StateLaws.{neither, Serving, serving, serving-in-range, over-in-range}
use Rattle.loader.proofs.StepLaws.{start-few, start-held, ask-passed, give-passed}

abbrev Ranged : Loader → Type 0
Ranged s = out_of_load s ≡ false

-- ---- start

module _ (cards least greatest len : ℕ) where
  begun-ranged : load_start_refusal cards least greatest len ≡ refusal.none → (eqb len 0 || eqb cards 0) ≡ false → Ranged (loader cards len 0 0 0 0)
  begun-ranged none some =
      let (words, card) = neither (eqb len 0) (eqb cards 0) some in
      let w = eqb-false len 0 words in
      let n = eqb-false cards 0 card in
      let sizes = start-held cards least greatest len none n in
      serving-in-range (loader cards len 0 0 0 0) (record {
        cards = start-few cards least greatest len none;
        length = omega (arith, sizes.held, sizes.least_most);
        card = omega (arith, n);
        place = omega (arith, w);
        whole = refl;
        stage = lit≤ tt;
        turn = lit≤ tt;
      })

  pub start-ranged : Ranged (load_started cards least greatest len).state
  unfolding load_started
  start-ranged =
      by-number (λ (a : LoadStarted). Ranged a.state) (load_start_refusal cards least greatest len)
      (λ refused. over-in-range (loader 0 0 0 0 0 0) (lit≤ tt) (lit≤ tt) (record { card = refl; place = refl; stage = refl; turn = refl }))
      (λ none.
      by-test (λ (a : LoadStarted). Ranged a.state) (eqb len 0 || eqb cards 0)
      (λ empty.
      over-in-range (loader cards 0 cards 0 0 0) (start-few cards least greatest len none) (lit≤ tt)
      (record { card = refl; place = refl; stage = refl; turn = refl }))
      (λ some. begun-ranged none some))

-- ---- ask

-- behind a turn at which a message is asked for, its words are given
ask-turn : (turn : ℕ) → is_ask turn ≡ true → turn + 1 ≤ 5
unfolding is_ask
ask-turn turn h = by (eqb turn 0) (eqb turn 2) (eqb turn 4) refl refl refl h
  where
    by : (a b c : Bool) → eqb turn 0 ≡ a → eqb turn 2 ≡ b → eqb turn 4 ≡ c → (a || b || c) ≡ true → turn + 1 ≤ 5
    by true b c p q r h = omega (arith, eqb-true turn 0 p)
    by false true c p q r h = omega (arith, eqb-true turn 2 q)
    by false false true p q r h = omega (arith, eqb-true turn 4 r)
    by false false false p q r h = absurd (false≢true h)

pub ask-ranged : (s : Loader) (table : List ℕ) (room : ℕ) → Ranged s → Ranged (load_asked s table room).state
unfolding load_asked
ask-ranged s table room inside =
    by-number (λ (a : LoadAsked). Ranged a.state) (load_ask_refusal s table room) (λ refused. inside)
    (λ none.
    let asks = ask-passed s table room none in
    serving-in-range (load_turn s (s.turn + 1)) (serving-turn s (s.turn + 1) (serving s inside asks.goes) (ask-turn s.turn asks.turn)))

-- ---- give

-- the words of a turn bring one of eight
turn-limit : (middle : Command) (turn : ℕ) (words : List ℕ) → turn_after middle turn words ≤ 7
unfolding turn_after
turn-limit middle turn words =
    by-test (λ (t : ℕ). t ≤ 7) (eqb turn 1)
    (λ first. by-test (λ (t : ℕ). t ≤ 7) (passes words) (λ h. lit≤ tt) (λ h. lit≤ tt))
    (λ other.
    by-test (λ (t : ℕ). t ≤ 7) (eqb turn 3) (λ h. lit≤ tt)
    (λ last. by-test (λ (t : ℕ). t ≤ 7) (confirms middle words) (λ h. lit≤ tt) (λ h. lit≤ tt)))

module _ (s : Loader) (v : Serving s) where
  -- the next card is served, or there is none
  pub next-served : s.card + 1 < s.cards → Serving (next_card s)
  next-served more = record {
    cards = v.cards;
    length = v.length;
    card = more;
    place = omega (arith, v.place);
    whole = refl;
    stage = lit≤ tt;
    turn = lit≤ tt;
  }

  pub next-ranged : Ranged (next_card s)
  next-ranged = by (ltb (s.card + 1) s.cards) refl
    where
      by : (more : Bool) → ltb (s.card + 1) s.cards ≡ more → Ranged (next_card s)
      by true e = serving-in-range (next_card s) (next-served (ltb-true (s.card + 1) s.cards e))
      by false e =
          over-in-range (next_card s) v.cards v.length
          (record { card = omega (arith, v.card, ltb-false (s.card + 1) s.cards e); place = refl; stage = refl; turn = refl })

  -- so is the block of a base
  pub block-served : Serving (loader s.cards s.length s.card s.place 1 0)
  block-served = record {
    cards = v.cards;
    length = v.length;
    card = v.card;
    place = v.place;
    whole = v.whole;
    stage = lit≤ tt;
    turn = lit≤ tt;
  }

  -- and the base of the block behind one that is not the last
  pub base-served : last_block s ≡ false → Serving (loader s.cards s.length s.card (s.place + block_words s.length s.place) 0 0)
  base-served more =
      let (full, inside) = block-full s more in
      record {
        cards = v.cards;
        length = v.length;
        card = v.card;
        place = omega (arith, full, inside);
        whole = rw full (omega (arith, v.whole));
        stage = lit≤ tt;
        turn = lit≤ tt;
      }

  stage-ranged : Ranged (next_stage s)
  unfolding next_stage
  stage-ranged =
      by-test Ranged (eqb s.stage 0) (λ base. serving-in-range _ block-served)
      (λ block. by-test Ranged (last_block s) (λ last. next-ranged) (λ more. serving-in-range _ (base-served more)))

  pub moved-ranged : (turn : ℕ) → turn ≤ 7 → Ranged (moved s turn)
  unfolding moved
  moved-ranged turn limit =
      by-test Ranged (eqb turn 7) (λ unsure. next-ranged)
      (λ sure.
      by-test Ranged (eqb turn 6) (λ done. stage-ranged)
      (λ on.
      serving-in-range (load_turn s turn)
      (serving-turn s turn v (omega (arith, limit, eqb-false turn 7 sure, eqb-false turn 6 on)))))

pub give-ranged : (s : Loader) (cards : ℕ) (words : List ℕ) → Ranged s → Ranged (load_given s cards words).state
unfolding load_given
give-ranged s cards words inside =
    by-number (λ (a : LoadGiven). Ranged a.state) (load_give_refusal s cards (length words)) (λ refused. inside)
    (λ none.
    moved-ranged s (serving s inside (give-passed s cards (length words) none).goes) (turn_after (stage_command s) s.turn words)
    (turn-limit (stage_command s) s.turn words))
