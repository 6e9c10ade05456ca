-- A command of up to r rounds: what its verdict means, told of the card and the memory before round 1. For every side for which demand 3 holds.
-- Assumes nothing.
use Prim.Native.Nat.{ℕ, zero, suc, ◌+◌, ◌-◌, ◌≤◌, ◌<◌}
use native.Mathlib.Omega.{arith}
use mathlib.Core.Bool.{Bool, true, false, cond}
use mathlib.Core.List.{List, [], ◌++◌, append-nil}
use mathlib.Core.Logic.{◌⊎◌, inl, inr, ⊎_elim}
use mathlib.Core.Path.{◌≡◌, refl, sym, ap, ◌∙◌, subst}
use borrow.Author.Tests.{eqb-true, eqb-false, ne_eqb, le-leb, le-ltb, lt-ltb}
use lib.Dec.{eqb, lit≤}
use Rattle.rules.specs.Rules.{tick, readback}
use Rattle.token.specs.declared.command.Command.{Command}
use Rattle.judge.proofs.Laws.{never}
use Rattle.card.specs.Whole.{listed}
use Rattle.std.specs.Prelude.{Ok}
use Rattle.retry.specs.Rounds.{rounds, may_repeat, may_start, out_of_rounds, counted, settled, rounds_verdict_gives, again_at, rounds_verdict}
use Rattle.retry.specs.declared.Rounds.{Rounds}
use Rattle.retry.proofs.StateLaws.{StartLimits, start-limits, Repeats, repeats, ranged-in, start-is}
use Rattle.delivery.specs.AnyCommand.{Course, EndsDone, EndsUnsure, sure_command, Accepts, Acted, Still, called, Means, Sends, NoDamage}
use Rattle.delivery.specs.Delivery.{Side}
use Rattle.delivery.specs.Play.{ModuleCall, settings}
use Rattle.delivery.proofs.Acts.{Took, took-acted, took-moved, took-later, accepts-passes}
use Rattle.delivery.proofs.Demand3.{Demand3}
use Rattle.delivery.proofs.Ended.{Passes}
use Rattle.delivery.proofs.Kept.{kept-self, kept-trans}
use Rattle.delivery.proofs.Sending.{can-send, sends-idle, calls-idle, acted-then, passes-accepted}
use Rattle.delivery.proofs.SideLaws.{Lawful, Starts as Later, called-aside, later-kept, took-called}
use Rattle.retrying.specs.Retrying.{Trying, RoundPassage, try_round, goes_on, tried, RoundsDone, goes_on_with, Tries, RoundsMean, RoomFor, RoundsSend, AnyRounds, AnyRoundUndamaged}
use Rattle.retrying.proofs.Messages.{stands, Rounded, rounded}
use Rattle.retrying.proofs.Twice.{passes-twice, took-twice}

module _ (side : Side) (all : Demand3 side) {s : side.State} {memory : List ℕ} {t : Command} {block : List ℕ} (p : Sends side s memory t block)
    (most : ℕ) (starts : may_start t most ≡ true) where
  abbrev l : Lawful side
  l = all.lawful

  abbrev X : Type 0
  X = side.State

  limits : StartLimits t most
  limits = start-limits t most starts

  once : Repeats t
  once = repeats t limits.repeats

  -- ---- since round 1

  abbrev TookThen : List ModuleCall → X → List ℕ → Type 0
  TookThen calls x m = Took side.alone (called side s calls) memory t block (side.card x) m

  -- told of the card before round 1, with the device's calls since: it did not act, or it acted once
  abbrev Since : List ModuleCall → X → List ℕ → Type 0
  Since calls x m = Still side.alone (called side s calls) memory (side.card x) m ⊎ TookThen calls x m

  -- one more round
  module _ {x : X} {m : List ℕ} (q : Sends side x m t block) (calls more : List ModuleCall) where
    later : Later side s x
    later = record { run = p.run; idle = p.idle; run_later = q.run }

    still-moved : Still side.alone (called side s calls) memory (side.card x) m
        → Still side.alone (called side s (calls ++ more)) memory (called side x more) m
    still-moved (k, e) = (later-kept side l later calls more k, e)

    took-then : TookThen calls x m → Took side.alone (called side s (calls ++ more)) memory t block (called side x more) m
    took-then = took-called side l t block later calls more

    module _ {x' : X} {m' : List ℕ} where
      then-acted : Since calls x m → Acted side.alone (called side x more) m t block (side.card x') m' → TookThen (calls ++ more) x' m'
      then-acted (inl still) a = took-moved t block _ _ memory m (still-moved still) (acted-then side l q more a)
      then-acted (inr took) a =
          took-twice t block (can-send side l p) once.no_tick (calls-idle side l p (calls ++ more)) (took-then took) (acted-then side l q more a)

      then-still : Since calls x m → Still side.alone (called side x more) m (side.card x') m' → Since (calls ++ more) x' m'
      then-still (inl still) (k, e) = let (k₁, e₁) = still-moved still in inl (kept-trans _ _ _ k₁ k, e ∙ e₁)
      then-still (inr took) still = inr (took-later t block _ _ _ _ still (took-then took))

  -- a card that accepts the command before round 1 accepts it later too
  accepts-later : {x : X} {m : List ℕ} → Sends side x m t block → (calls : List ModuleCall) → Since calls x m → Accepts (side.card s) memory t block
      → Accepts (side.card x) m t block
  accepts-later {x} {m} q calls since ok = passes-accepted side l q (passes since)
    where
      first : Passes t (side.card s)
      first = accepts-passes t block (can-send side l p) (side.card s) memory (sends-idle side l p) ok

      passes : Since calls x m → Passes t (side.card x)
      passes (inl (k, e)) =
          let aside = called-aside side l p.run calls in
          rw (k.size, k.bases, aside.size, aside.bases) first
      passes (inr took) = rw (took.card.size, took.card.bases) (passes-twice t block (can-send side l p) (called side s calls) took.passed)

  -- ---- where it stands after some rounds

  -- open, with as many rounds ended as were made; over, with all ended; or Done
  data End (made : ℕ) (state : Rounds) (calls : List ModuleCall) (x : X) (m : List ℕ) : Type 0 where
    still_open : (e l : ℕ) → state ≡ rounds t most e l 0 → e + l < most → e + l ≡ made → Since calls x m → End made state calls x m
    is_over : (e l : ℕ) → state ≡ rounds t most e l 7 → e + l ≡ most → most ≤ made → Since calls x m → End made state calls x m
    is_sure : (e l : ℕ) → state ≡ rounds t most e l 6 → e + l < most → TookThen calls x m → End made state calls x m

  record Stood (made : ℕ) (g : Trying X) : Type 0 where
    end : End made g.state g.calls g.side g.memory
    unrefused : g.refused ≡ []
    sends : Sends side g.side g.memory t block

  -- a round that was Unsure is counted
  counts : (made e l from : ℕ) (calls : List ModuleCall) (x : X) (m : List ℕ) → e + l < most → e + l ≡ made → Since calls x m
      → End (suc made) (settled (rounds t most e l from) 7) calls x m
  unfolding settled counted
  counts made e l from calls x m left done since = go (eqb from 1)
    where
      counted-end : (e' l' : ℕ) → e' + l' ≡ suc (e + l) → End (suc made) (counted (rounds t most e l from) e' l') calls x m
      counted-end e' l' one = last (eqb (e' + l') most) refl
        where
          last : (b : Bool) → eqb (e' + l') most ≡ b → End (suc made) (rounds t most e' l' (cond b 7 0)) calls x m
          last true q =
              let all : e' + l' ≡ most = eqb-true (e' + l') most q in
              is_over e' l' refl all (omega arith) since
          last false q =
              let other : e' + l' ≡ most → ⊥ = eqb-false (e' + l') most q in
              still_open e' l' refl (omega arith) (omega arith) since

      go : (b : Bool) → End (suc made) (cond b (counted (rounds t most e l from) (e + 1) l) (counted (rounds t most e l from) e (l + 1))) calls x m
      go true = counted-end (e + 1) l (omega arith)
      go false = counted-end e (l + 1) (omega arith)

  sure-settled : (e l from turn : ℕ) → turn ≡ 6 → settled (rounds t most e l from) turn ≡ rounds t most e l 6
  unfolding settled
  sure-settled e l from turn six = rw six

  -- ---- what a state says

  module _ (e l : ℕ) where
    open-in : (turn : ℕ) → turn ≤ 6 → e + l < most → out_of_rounds (rounds t most e l turn) ≡ false
    open-in turn h left = ranged-in (rounds t most e l turn) (record { starts = starts; place = inr (h, left) })

    over-in : e + l ≡ most → out_of_rounds (rounds t most e l 7) ≡ false
    over-in h = ranged-in (rounds t most e l 7) (record { starts = starts; place = inl (refl, h) })

    open-goes : e + l < most → goes_on (rounds t most e l 0) ≡ true
    unfolding goes_on rounds_verdict
    open-goes left = rw (open-in 0 (lit≤ tt) left)

    sure-stops : e + l < most → goes_on (rounds t most e l 6) ≡ false
    unfolding goes_on rounds_verdict
    sure-stops left = rw (open-in 6 (lit≤ tt) left)

    over-stops : e + l ≡ most → goes_on (rounds t most e l 7) ≡ false
    unfolding goes_on rounds_verdict
    over-stops h = rw (over-in h)

    says-open : e + l < most → (rounds_verdict (rounds t most e l 0)).done ≡ false
    unfolding rounds_verdict
    says-open left = rw (open-in 0 (lit≤ tt) left)

    says-sure : e + l < most → ((rounds_verdict (rounds t most e l 6)).done ≡ true) × ((rounds_verdict (rounds t most e l 6)).unsure ≡ false)
    unfolding rounds_verdict
    says-sure left = rw (open-in 6 (lit≤ tt) left) (refl, refl)

    says-over : e + l ≡ most → ((rounds_verdict (rounds t most e l 7)).done ≡ false) × ((rounds_verdict (rounds t most e l 7)).unsure ≡ true)
    unfolding rounds_verdict
    says-over h = rw (over-in h) (refl, refl)

  -- ---- one more round

  module _ (passages : ℕ → RoundPassage) (room : (i : ℕ) → i < most → RoomFor t (passages i).buffers) where
    abbrev try : ℕ → Trying X → Trying X
    try n g = try_round side.hears side.sets block (passages n) g

    module _ (n e l : ℕ) (allowed : n < most) (g : Trying X) (open-state : g.state ≡ rounds t most e l 0) (left : e + l < most) (unrefused : g.refused ≡ [])
        (q : Sends side g.side g.memory t block) where
      abbrev end : Course X
      end = sure_command side g.side g.memory t block (passages n).fates

      means : Means side g.side g.memory t block end
      means = all.any g.side g.memory t block q (passages n).fates

      abbrev begins : Trying X
      begins = record { state = rounds t most e l 0; side = g.side; memory = g.memory; calls = g.calls ++ []; refused = []; laid = g.laid }

      begins-is : g ≡ begins
      begins-is = rw (append-nil g.calls) (go g.state g.refused open-state unrefused)
        where
          go : (x : Rounds) (y : List ℕ) → x ≡ rounds t most e l 0 → y ≡ []
              → (let a : Trying X = record { state = x; side = g.side; memory = g.memory; calls = g.calls; refused = y; laid = g.laid } in
              let b : Trying X = record { state = rounds t most e l 0; side = g.side; memory = g.memory; calls = g.calls; refused = []; laid = g.laid } in a ≡ b)
          go x y h r = rw (h, r)

      the-round : Rounded t most e l starts left side.hears side.sets g.calls block (passages n) p.fits p.fits_block (room n allowed) g.side g.memory g.laid
          (try n begins) end
      the-round = rounded t most e l starts left side.hears side.sets g.calls block (passages n) p.fits p.fits_block (room n allowed) g.side g.memory g.laid

      abbrev ended : Trying X
      ended = stands t most e l starts left side.hears side.sets g.calls (settled (rounds t most e l the-round.from) end.turn) the-round.laid_then end

      round-is : try n g ≡ ended
      round-is = ap (try n) begins-is ∙ the-round.is

      sends-then : Sends side end.side end.memory t block
      sends-then = record {
        run = means.runs;
        idle = means.closed;
        lent = means.lent;
        fits = p.fits;
        fits_block = p.fits_block;
        words = p.words;
        other = p.other;
      }

      round-stood : (made : ℕ) → e + l ≡ made → Since g.calls g.side g.memory → Stood (suc made) (try n g)
      round-stood made done since = subst (Stood (suc made)) (sym round-is) (record { end = ⊎_elim sure unsure means.ends; unrefused = means.unrefused; sends = sends-then })
        where
          sure : EndsDone end → End (suc made) ended.state ended.calls end.side end.memory
          sure v = is_sure e l (sure-settled e l the-round.from end.turn (eqb-true end.turn 6 v)) left (then-acted q g.calls end.calls since (means.done v))

          unsure : EndsUnsure end → End (suc made) ended.state ended.calls end.side end.memory
          unsure v =
              rw (eqb-true end.turn 7 v)
              (counts made e l the-round.from (g.calls ++ end.calls) end.side end.memory left done
              (⊎_elim (λ still. then-still q g.calls end.calls since still) (λ a. inr (then-acted q g.calls end.calls since a)) (means.unsure v)))

      -- an undamaged one is Done
      round-done : Accepts (side.card g.side) g.memory t block → NoDamage (passages n).fates → (try n g).state ≡ rounds t most e l 6
      round-done ok none =
          let v : EndsDone end = all.any_undamaged g.side g.memory t block q ok (passages n).fates none in
          ap (λ (x : Trying X). x.state) round-is ∙ sure-settled e l the-round.from end.turn (eqb-true end.turn 6 v)

    -- ---- any number of rounds

    abbrev begun : Trying X
    begun = record { state = rounds t most 0 0 0; side = s; memory = memory; calls = []; refused = []; laid = 0 }

    abbrev after : ℕ → Trying X
    after = tried side.hears side.sets block passages begun

    begun-stood : Stood 0 begun
    unfolding settings
    begun-stood = record {
      end = still_open 0 0 refl (omega (arith, limits.some)) refl (inl (kept-self (side.card s) (sends-idle side l p).closed, refl));
      unrefused = refl;
      sends = p;
    }

    -- a state with a verdict stays as it is
    stays : (n : ℕ) → goes_on (after n).state ≡ false → after (suc n) ≡ after n
    unfolding tried
    stays n over = rw over

    goes : (n : ℕ) → goes_on (after n).state ≡ true → after (suc n) ≡ try n (after n)
    unfolding tried
    goes n on = rw on

    after-stood : (n : ℕ) → Stood n (after n)
    unfolding tried
    after-stood zero = begun-stood
    after-stood (suc n) = go (after-stood n)
      where
        go : Stood n (after n) → Stood (suc n) (after (suc n))
        go h = by h.end
          where
            by : End n (after n).state (after n).calls (after n).side (after n).memory → Stood (suc n) (after (suc n))
            by (still_open e l is left done since) =
                subst (Stood (suc n)) (sym (goes n (ap goes_on is ∙ open-goes e l left))) (round-stood n e l (omega arith) (after n) is left h.unrefused h.sends n done since)
            by (is_over e l is ended made since) =
                subst (Stood (suc n)) (sym (stays n (ap goes_on is ∙ over-stops e l ended)))
                (record { end = is_over e l is ended (omega arith) since; unrefused = h.unrefused; sends = h.sends })
            by (is_sure e l is left took) =
                subst (Stood (suc n)) (sym (stays n (ap goes_on is ∙ sure-stops e l left))) (record { end = is_sure e l is left took; unrefused = h.unrefused; sends = h.sends })

    -- ---- what it means

    acted : (calls : List ModuleCall) (x : X) (m : List ℕ) → TookThen calls x m → Acted side.alone (called side s calls) memory t block (side.card x) m
    acted calls x m = took-acted t block (can-send side l p) (calls-idle side l p calls)

    -- an open state says that another round begins, or before the first nothing
    open-says : (e l n : ℕ) → e + l < most → e + l ≡ n → rounds_verdict (rounds t most e l 0) ≡ rounds_verdict_gives (Ok (goes_on_with n))
    unfolding rounds_verdict again_at goes_on_with
    open-says e l zero left none = rw (open-in e l 0 (lit≤ tt) left, le-ltb 0 (e + l) (omega arith))
    open-says e l (suc n) left some = rw (open-in e l 0 (lit≤ tt) left, lt-ltb 0 (e + l) (omega arith))

    tries-by : (n : ℕ) → End n (after n).state (after n).calls (after n).side (after n).memory → Tries most n (after n)
    tries-by n (still_open e l is left made since) =
        record {
          again = λ h. inr (ap rounds_verdict is ∙ open-says e l n left made);
          ends = λ h. absurd (omega arith);
        }
    tries-by n (is_over e l is ended made since) =
        record {
          again = λ h. absurd (omega arith);
          ends = λ h. inr (ap (λ (x : Rounds). (rounds_verdict x).unsure) is ∙ (says-over e l ended).1);
        }
    tries-by n (is_sure e l is left took) =
        let told : RoundsDone (after n) = ap (λ (x : Rounds). (rounds_verdict x).done) is ∙ (says-sure e l left).0 in
        record { again = λ h. inl told; ends = λ h. inl told }

    either-by : (n : ℕ) → End n (after n).state (after n).calls (after n).side (after n).memory → Since (after n).calls (after n).side (after n).memory
    either-by n (still_open e l is left made since) = since
    either-by n (is_over e l is ended made since) = since
    either-by n (is_sure e l is left took) = inr took

    -- Done is said of a state that is
    done-by : (n : ℕ) → End n (after n).state (after n).calls (after n).side (after n).memory → RoundsDone (after n)
        → TookThen (after n).calls (after n).side (after n).memory
    done-by n (still_open e l is left made since) v = never (sym v ∙ ap (λ (x : Rounds). (rounds_verdict x).done) is ∙ says-open e l left)
    done-by n (is_over e l is ended made since) v = never (sym v ∙ ap (λ (x : Rounds). (rounds_verdict x).done) is ∙ (says-over e l ended).0)
    done-by n (is_sure e l is left took) v = took

    pub rounds-mean : (n : ℕ) → RoundsMean side s memory t block most n (after n)
    rounds-mean n =
        let h : Stood n (after n) = after-stood n in
        record {
          done = λ v. acted _ _ _ (done-by n h.end v);
          either = ⊎_elim inl (λ took. inr (acted _ _ _ took)) (either-by n h.end);
          tries = tries-by n h.end;
          unrefused = h.unrefused;
          runs = h.sends.run;
          closed = h.sends.idle;
          lent = h.sends.lent;
        }

    -- ---- an undamaged round

    -- Done stays
    done-stays : (e l n : ℕ) → e + l < most → (after n).state ≡ rounds t most e l 6 → (more : ℕ) → (after (more + n)).state ≡ rounds t most e l 6
    done-stays e l n left is zero = let same : 0 + n ≡ n = omega arith in rw same is
    done-stays e l n left is (suc more) =
        let before = done-stays e l n left is more in
        let next : suc more + n ≡ suc (more + n) = omega arith in
        ap (λ (k : ℕ). (after k).state) next ∙
        ap (λ (x : Trying X). x.state) (stays (more + n) (ap goes_on before ∙ sure-stops e l left)) ∙ before

    -- from a state that is Done on
    done-later : (e l m n : ℕ) → e + l < most → (after m).state ≡ rounds t most e l 6 → m ≤ n → RoundsDone (after n)
    done-later e l m n left is h =
        let sum : (n - m) + m ≡ n = omega arith in
        ap (λ (k : ℕ). (rounds_verdict (after k).state).done) (sym sum)
        ∙ ap (λ (x : Rounds). (rounds_verdict x).done) (done-stays e l m left is (n - m)) ∙ (says-sure e l left).0

    pub round-undamaged : Accepts (side.card s) memory t block → (i : ℕ) → i < most → NoDamage (passages i).fates → (n : ℕ) → i < n → RoundsDone (after n)
    round-undamaged ok i allowed none n later = by h.end
      where
        h : Stood i (after i)
        h = after-stood i

        by : End i (after i).state (after i).calls (after i).side (after i).memory → RoundsDone (after n)
        by (is_over e l is ended made since) = absurd (omega arith)
        by (is_sure e l is left took) = done-later e l i n left is (omega arith)
        by (still_open e l is left made since) =
            let then : (after (suc i)).state ≡ rounds t most e l 6
            = ap (λ (x : Trying X). x.state) (goes i (ap goes_on is ∙ open-goes e l left))
            ∙ round-done i e l allowed (after i) is left h.unrefused h.sends (accepts-later h.sends (after i).calls since ok) none in
            done-later e l (suc i) n left then (omega arith)

-- ---- every command that may be started

may-start : {side : Side} {s : side.State} {memory : List ℕ} {t : Command} {block : List ℕ} {most : ℕ} {passages : ℕ → RoundPassage}
    → RoundsSend side s memory t block most passages → may_start t most ≡ true
unfolding may_start may_repeat
may-start {t} {most} p =
    let no_readback : eqb t.code readback.code ≡ false = ne_eqb t.code readback.code p.sends.other in
    let no_tick : eqb t.code tick.code ≡ false = ne_eqb t.code tick.code p.no_tick in
    rw (p.sends.fits, no_readback, no_tick, le-leb 1 most p.rounds.some, le-leb most 8 p.rounds.few)

pub any-rounds : (side : Side) → Demand3 side → AnyRounds side
unfolding listed
any-rounds side all s memory t block most passages p n =
    let starts = may-start p in
    rw (start-is t most starts) (rounds-mean side all p.sends most starts passages p.room n)

pub any-round-undamaged : (side : Side) → Demand3 side → AnyRoundUndamaged side
unfolding listed
any-round-undamaged side all s memory t block most passages p ok i allowed none n later =
    let starts = may-start p in
    rw (start-is t most starts) (round-undamaged side all p.sends most starts passages p.room ok i allowed none n later)
