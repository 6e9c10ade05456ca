-- What the tests of a state of rounds tell, and a state in range that stays in range.
-- Assumes nothing.
use Prim.Native.Nat.{ℕ, ◌+◌, ◌≤◌, ◌<◌}
use native.Mathlib.Omega.{arith}
use mathlib.Core.Bool.{Bool, true, false, cond, not, ◌&&◌, ◌||◌, true≢false}
use mathlib.Core.List.{List}
use mathlib.Core.Logic.{◌⊎◌, inl, inr, ⊎_elim}
use mathlib.Core.Path.{◌≡◌, refl, sym}
use borrow.Author.Tests.{eqb-true, eqb-false, eq-eqb, ne_eqb, ltb-false, le-ltb, leb-false, lt-leb, leb-true, not-true, not-false}
use lib.Dec.{eqb, leb, ltb, lit≤}
use lib.ListN.{length}
use Rattle.rules.specs.Refusals as refusal
use Rattle.rules.specs.Rules.{message_words, tick, readback}
use Rattle.rules.proofs.Cases.{by-test}
use Rattle.token.specs.Command.{command_fits}
use Rattle.token.specs.declared.command.Command.{Command}
use Rattle.token.proofs.Good.{both}
use Rattle.controller.specs.Builder.{build_refusal}
use Rattle.controller.specs.Sure.{command_at, is_ask, is_give, passes, confirms, turn_after}
use Rattle.retry.specs.Rounds.{rounds, may_repeat, may_start, RoundsStart, no_rounds, rounds_started, ended_rounds, out_of_rounds, counted, settled, rounds_ask_refusal, rounds_asked, rounds_give_refusal, rounds_given, RoundsSaid, again_at, rounds_verdict}
use Rattle.retry.specs.declared.Rounds.{Rounds}
use Rattle.retry.specs.Answers.{RoundsAsked}
use Rattle.retry.specs.Answers.{RoundsGiven}

never : {A : Type 0} → true ≡ false → A
never h = absurd (true≢false h)

-- ---- turns

-- a turn that asks is one of three
pub asking : (turn : ℕ) → is_ask turn ≡ true → (turn ≡ 0) ⊎ ((turn ≡ 2) ⊎ (turn ≡ 4))
unfolding is_ask
asking turn h = go (eqb turn 0) (eqb turn 2) (eqb turn 4) refl refl refl h
  where
    go : (a b c : Bool) → eqb turn 0 ≡ a → eqb turn 2 ≡ b → eqb turn 4 ≡ c → (a || b || c) ≡ true → (turn ≡ 0) ⊎ ((turn ≡ 2) ⊎ (turn ≡ 4))
    go true b c p q r h = inl (eqb-true turn 0 p)
    go false true c p q r h = inr (inl (eqb-true turn 2 q))
    go false false true p q r h = inr (inr (eqb-true turn 4 r))
    go false false false p q r h = never (sym h)

-- and one that gives too
pub giving : (turn : ℕ) → is_give turn ≡ true → (turn ≡ 1) ⊎ ((turn ≡ 3) ⊎ (turn ≡ 5))
unfolding is_give
giving turn h = go (eqb turn 1) (eqb turn 3) (eqb turn 5) refl refl refl h
  where
    go : (a b c : Bool) → eqb turn 1 ≡ a → eqb turn 3 ≡ b → eqb turn 5 ≡ c → (a || b || c) ≡ true → (turn ≡ 1) ⊎ ((turn ≡ 3) ⊎ (turn ≡ 5))
    go true b c p q r h = inl (eqb-true turn 1 p)
    go false true c p q r h = inr (inl (eqb-true turn 3 q))
    go false false true p q r h = inr (inr (eqb-true turn 5 r))
    go false false false p q r h = never (sym h)

pub ask-low : (turn : ℕ) → is_ask turn ≡ true → turn ≤ 4
ask-low turn h = ⊎_elim (λ e. omega arith) (λ x. ⊎_elim (λ e. omega arith) (λ e. omega arith) x) (asking turn h)

pub give-low : (turn : ℕ) → is_give turn ≡ true → turn ≤ 5
give-low turn h = ⊎_elim (λ e. omega arith) (λ x. ⊎_elim (λ e. omega arith) (λ e. omega arith) x) (giving turn h)

turn-low : (t : Command) (turn : ℕ) (words : List ℕ) → turn_after t turn words ≤ 7
unfolding turn_after
turn-low t turn words = go (eqb turn 1) (eqb turn 3) (passes words) (confirms t words)
  where
    go : (a b p c : Bool) → cond a (cond p 2 7) (cond b 4 (cond c 6 7)) ≤ 7
    go true b true c = lit≤ tt
    go true b false c = lit≤ tt
    go false true p c = lit≤ tt
    go false false p true = lit≤ tt
    go false false p false = lit≤ tt

-- a call that is not refused is in its turn
in-turn : (out turn : Bool) (n : ℕ) → cond out refusal.state (cond turn n refusal.turn) ≡ refusal.none → (turn ≡ true) × (n ≡ refusal.none)
in-turn true turn n h = absurd (omega (arith, h))
in-turn false true n h = (refl, h)
in-turn false false n h = absurd (omega (arith, h))

pub ask-in-turn : (s : Rounds) (count room : ℕ) → eqb (rounds_ask_refusal s count room) refusal.none ≡ true
    → (is_ask s.turn ≡ true) × (build_refusal (command_at s.command s.turn) count room ≡ refusal.none)
unfolding rounds_ask_refusal
ask-in-turn s count room e = in-turn (out_of_rounds s) (is_ask s.turn) (build_refusal (command_at s.command s.turn) count room) (eqb-true _ _ e)

pub give-in-turn : (s : Rounds) (count : ℕ) → eqb (rounds_give_refusal s count) refusal.none ≡ true → is_give s.turn ≡ true
unfolding rounds_give_refusal
give-in-turn s count e =
    (in-turn (out_of_rounds s) (is_give s.turn) (cond (eqb count (message_words (command_at s.command s.turn).length)) refusal.none refusal.count)
    (eqb-true _ _ e)).0

-- ---- ranges

pub record StartLimits (t : Command) (most : ℕ) : Type 0 where
  pub repeats : may_repeat t ≡ true
  pub some : 1 ≤ most
  pub few : most ≤ 8

pub start-limits : (t : Command) (most : ℕ) → may_start t most ≡ true → StartLimits t most
unfolding may_start
start-limits t most h =
    let (first, few) = both (may_repeat t && leb 1 most) (leb most 8) h in
    let (repeats, some) = both (may_repeat t) (leb 1 most) first in
    record { repeats = repeats; some = leb-true 1 most some; few = leb-true most 8 few }

-- a command that may be repeated has a token, and is neither READBACK nor TICK
pub record Repeats (t : Command) : Type 0 where
  pub fits : command_fits t ≡ true
  pub no_readback : t.code ≡ readback.code → ⊥
  pub no_tick : t.code ≡ tick.code → ⊥

pub repeats : (t : Command) → may_repeat t ≡ true → Repeats t
unfolding may_repeat
repeats t h =
    let (first, other) = both (command_fits t && not (eqb t.code readback.code)) (not (eqb t.code tick.code)) h in
    let (fits, another) = both (command_fits t) (not (eqb t.code readback.code)) first in
    record { fits = fits; no_readback = eqb-false _ _ (not-true _ another); no_tick = eqb-false _ _ (not-true _ other) }

-- where a state in range stands: all rounds ended at turn 7, fewer before
abbrev pub Place : Rounds → Type 0
Place s = ((s.turn ≡ 7) × (ended_rounds s ≡ s.most)) ⊎ ((s.turn ≤ 6) × (ended_rounds s < s.most))

pub record Ranged (s : Rounds) : Type 0 where
  pub starts : may_start s.command s.most ≡ true
  pub place : Place s

pub in-range : (s : Rounds) → out_of_rounds s ≡ false → Ranged s
unfolding out_of_rounds
in-range s h = go (may_start s.command s.most) (ltb 7 s.turn) (eqb s.turn 7) refl refl refl h
  where
    go : (a b c : Bool) → may_start s.command s.most ≡ a → ltb 7 s.turn ≡ b → eqb s.turn 7 ≡ c
        → (not a || b || cond c (not (eqb (ended_rounds s) s.most)) (leb s.most (ended_rounds s))) ≡ false → Ranged s
    go false b c p q r h = never h
    go true true c p q r h = never h
    go true false true p q r h = record { starts = p; place = inl (eqb-true s.turn 7 r, eqb-true (ended_rounds s) s.most (not-false _ h)) }
    go true false false p q r h =
        let low : s.turn ≤ 7 = ltb-false 7 s.turn q in
        let other : s.turn ≡ 7 → ⊥ = eqb-false s.turn 7 r in
        record { starts = p; place = inr (omega arith, leb-false s.most (ended_rounds s) h) }

pub ranged-in : (s : Rounds) → Ranged s → out_of_rounds s ≡ false
unfolding out_of_rounds
ranged-in s r = go r.place
  where
    go : Place s → out_of_rounds s ≡ false
    go (inl (p, q)) = rw (r.starts, p, eq-eqb (ended_rounds s) s.most q)
    go (inr (p, q)) = rw (r.starts, le-ltb 7 s.turn (omega arith), ne_eqb s.turn 7 (λ z. omega arith), lt-leb s.most (ended_rounds s) q)

-- a turn that asks or gives is before the end
pub open-left : (s : Rounds) → Ranged s → s.turn ≤ 5 → ended_rounds s < s.most
open-left s r h = ⊎_elim (λ (p, q). absurd (omega arith)) (λ (p, q). q) r.place

module _ (s : Rounds) (starts : may_start s.command s.most ≡ true) where
  counted-in : (early late : ℕ) → early + late ≤ s.most → out_of_rounds (counted s early late) ≡ false
  unfolding counted
  counted-in early late h = go (eqb (early + late) s.most) refl
    where
      go : (b : Bool) → eqb (early + late) s.most ≡ b → out_of_rounds (rounds s.command s.most early late (cond b 7 0)) ≡ false
      go true q = ranged-in (rounds s.command s.most early late 7) (record { starts = starts; place = inl (refl, eqb-true (early + late) s.most q) })
      go false q =
          let other : early + late ≡ s.most → ⊥ = eqb-false (early + late) s.most q in
          ranged-in (rounds s.command s.most early late 0) (record { starts = starts; place = inr (lit≤ tt, omega arith) })

  pub settled-in : (turn : ℕ) → ended_rounds s < s.most → turn ≤ 7 → out_of_rounds (settled s turn) ≡ false
  unfolding settled
  settled-in turn left h = go (eqb turn 7) (eqb s.turn 1) refl
    where
      go : (b f : Bool) → eqb turn 7 ≡ b
          → out_of_rounds (cond b (cond f (counted s (s.early + 1) s.late) (counted s s.early (s.late + 1))) (rounds s.command s.most s.early s.late turn)) ≡ false
      go true true q = counted-in (s.early + 1) s.late (omega arith)
      go true false q = counted-in s.early (s.late + 1) (omega arith)
      go false f q =
          let other : turn ≡ 7 → ⊥ = eqb-false turn 7 q in
          ranged-in (rounds s.command s.most s.early s.late turn) (record { starts = starts; place = inr (omega arith, left) })

pub asks-in : (s : Rounds) → out_of_rounds s ≡ false → (block : List ℕ) (room : ℕ) → out_of_rounds (rounds_asked s block room).state ≡ false
unfolding rounds_asked
asks-in s h block room = go (eqb (rounds_ask_refusal s (length block) room) refusal.none) refl
  where
    go : (b : Bool) → eqb (rounds_ask_refusal s (length block) room) refusal.none ≡ b → out_of_rounds (rounds_asked s block room).state ≡ false
    go false e = rw (e, h)
    go true e =
        let low : s.turn ≤ 4 = ask-low s.turn (ask-in-turn s (length block) room e).0 in
        let r : Ranged s = in-range s h in
        rw e (ranged-in (rounds s.command s.most s.early s.late (s.turn + 1))
        (record { starts = r.starts; place = inr (omega arith, open-left s r (omega arith)) }))

pub gives-in : (s : Rounds) → out_of_rounds s ≡ false → (words : List ℕ) → out_of_rounds (rounds_given s words).state ≡ false
unfolding rounds_given
gives-in s h words = go (eqb (rounds_give_refusal s (length words)) refusal.none) refl
  where
    go : (b : Bool) → eqb (rounds_give_refusal s (length words)) refusal.none ≡ b → out_of_rounds (rounds_given s words).state ≡ false
    go false e = rw (e, h)
    go true e =
        let r : Ranged s = in-range s h in
        rw e (settled-in s r.starts (turn_after s.command s.turn words)
        (open-left s r (give-low s.turn (give-in-turn s (length words) e))) (turn-low s.command s.turn words))

-- ---- command and most rounds stay

abbrev pub SameCommand : Rounds → Rounds → Type 0
SameCommand s later = (later.command ≡ s.command) × (later.most ≡ s.most)

pub ask-same : (s : Rounds) (block : List ℕ) (room : ℕ) → SameCommand s (rounds_asked s block room).state
unfolding rounds_asked
ask-same s block room =
    by-test (λ (a : RoundsAsked). SameCommand s a.state) (eqb (rounds_ask_refusal s (length block) room) refusal.none) (λ e. (refl, refl)) (λ e. (refl, refl))

settled-same : (s : Rounds) (turn : ℕ) → SameCommand s (settled s turn)
unfolding settled counted
settled-same s turn =
    by-test (SameCommand s) (eqb turn 7) (λ e. by-test (SameCommand s) (eqb s.turn 1) (λ f. (refl, refl)) (λ f. (refl, refl))) (λ e. (refl, refl))

pub give-same : (s : Rounds) (words : List ℕ) → SameCommand s (rounds_given s words).state
unfolding rounds_given
give-same s words =
    by-test (λ (a : RoundsGiven). SameCommand s a.state) (eqb (rounds_give_refusal s (length words)) refusal.none) (λ e. settled-same s _) (λ e. (refl, refl))

-- ---- a start

pub not-refused : (t : Command) (most : ℕ) → (rounds_started t most).refusal ≡ refusal.none → may_start t most ≡ true
unfolding rounds_started
not-refused t most = go (may_start t most)
  where
    go : (b : Bool) → (let a : RoundsStart = cond b (record { refusal = refusal.none; state = rounds t most 0 0 0 }) no_rounds in a.refusal ≡ refusal.none) → b ≡ true
    go true h = refl
    go false h = absurd (omega (arith, h))

pub start-is : (t : Command) (most : ℕ) → may_start t most ≡ true → rounds_started t most ≡ record { refusal = refusal.none; state = rounds t most 0 0 0 }
unfolding rounds_started
start-is t most h = rw h

pub start-in : (t : Command) (most : ℕ) → may_start t most ≡ true → out_of_rounds (rounds t most 0 0 0) ≡ false
start-in t most starts =
    let l = start-limits t most starts in
    ranged-in (rounds t most 0 0 0) (record { starts = starts; place = inr (lit≤ tt, omega (arith, l.some)) })

-- ---- Done and Unsure

-- they are said at turn 6 and at turn 7, at which no message is asked for and no words are given
pub over-turn : (s : Rounds) → ((rounds_verdict s).done ≡ true) ⊎ ((rounds_verdict s).unsure ≡ true) → (is_ask s.turn ≡ false) × (is_give s.turn ≡ false)
unfolding rounds_verdict is_ask is_give
over-turn s h = by (out_of_rounds s) h
  where
    at : (turn : ℕ) → s.turn ≡ turn → (turn ≡ 6) ⊎ (turn ≡ 7) → (is_ask s.turn ≡ false) × (is_give s.turn ≡ false)
    at turn e (inl six) = rw (e, six) (refl, refl)
    at turn e (inr seven) = rw (e, seven) (refl, refl)

    by : (b : Bool)
        → (let said : RoundsSaid = cond b (record { refusal = refusal.state; again = false; done = false; unsure = false })
        (record { refusal = refusal.none; again = again_at s; done = eqb s.turn 6; unsure = eqb s.turn 7 }) in
        (said.done ≡ true) ⊎ (said.unsure ≡ true)) → (is_ask s.turn ≡ false) × (is_give s.turn ≡ false)
    by true (inl e) = never (sym e)
    by true (inr e) = never (sym e)
    by false (inl e) = at s.turn refl (inl (eqb-true s.turn 6 e))
    by false (inr e) = at s.turn refl (inr (eqb-true s.turn 7 e))

-- a call out of turn leaves the state
refused-alike : (out : Bool) → eqb (cond out refusal.state refusal.turn) refusal.none ≡ false
refused-alike true = refl
refused-alike false = refl

pub ask-out-of-turn : (s : Rounds) → is_ask s.turn ≡ false → (block : List ℕ) (room : ℕ) → (rounds_asked s block room).state ≡ s
unfolding rounds_asked rounds_ask_refusal
ask-out-of-turn s h block room = rw (h, refused-alike (out_of_rounds s))

pub give-out-of-turn : (s : Rounds) → is_give s.turn ≡ false → (words : List ℕ) → (rounds_given s words).state ≡ s
unfolding rounds_given rounds_give_refusal
give-out-of-turn s h words = rw (h, refused-alike (out_of_rounds s))
