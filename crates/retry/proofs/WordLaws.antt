-- The words that a state of rounds reports: an ask adds those of the message that it builds, and a give adds none. And their bound.
-- Assumes nothing.
use Prim.Native.Nat.{ℕ, ◌+◌, ◌*◌, ◌≤◌}
use native.Mathlib.Nat.{add-mul, mul-le-mul_right, mul-le-mul_left}
use native.Mathlib.Omega.{arith}
use mathlib.Core.Bool.{Bool, true, false, cond, ◌||◌}
use mathlib.Core.List.{List}
use mathlib.Core.Logic.{◌⊎◌, inl, inr}
use mathlib.Core.Path.{◌≡◌, refl, ap, ◌∙◌}
use lib.Dec.{eqb}
use lib.ListN.{length, take}
use lib.Seq.{take_at}
use Rattle.rules.specs.Refusals as refusal
use Rattle.rules.specs.Rules.{message_words}
use Rattle.rules.proofs.Cases.{by-test}
use Rattle.token.specs.declared.command.Command.{Command}
use Rattle.controller.specs.Builder.{message, block_fits, build_refusal, buffer_after}
use Rattle.controller.specs.Sure.{command_at, is_ask, passes, confirms, turn_after}
use Rattle.controller.proofs.MessageLaws.{message-whole, build-passed}
use Rattle.retry.specs.Promises.{message_asked}
use Rattle.retry.specs.Rounds.{rounds, out_of_rounds, counted, settled, rounds_ask_refusal, rounds_asked, rounds_asked_buffer, rounds_give_refusal, rounds_given, readback_words, whole_round, running_words, laid_out}
use Rattle.retry.specs.declared.Rounds.{Rounds}
use Rattle.retry.proofs.StateLaws.{asking, giving, ask-in-turn, give-in-turn, Place, in-range}

-- ---- an ask

-- a message that was built is as long as it says
built-long : (f : Command) (block buffer : List ℕ) → build_refusal f (length block) (length buffer) ≡ refusal.none
    → length (take (message_words f.length) (buffer_after f block buffer)) ≡ message_words f.length
unfolding buffer_after message
built-long f block buffer h =
    let fits : block_fits f (length block) ≡ true = (build-passed f (length block) (length buffer) h).0 in
    let long : length (message f block) ≡ message_words f.length = omega (arith, message-whole f block fits) in
    rw (h, take_at (message f block) _ (message_words f.length) long) long

running-asked : (t : Command) (turn : ℕ) → is_ask turn ≡ true → running_words t (turn + 1) ≡ running_words t turn + message_words (command_at t turn).length
unfolding running_words command_at
running-asked t turn h = go (asking turn h)
  where
    go : (turn ≡ 0) ⊎ ((turn ≡ 2) ⊎ (turn ≡ 4)) → running_words t (turn + 1) ≡ running_words t turn + message_words (command_at t turn).length
    go (inl e) = rw e (omega arith)
    go (inr (inl e)) = rw e
    go (inr (inr e)) = rw e

pub ask-adds : (s : Rounds) (block buffer : List ℕ) → laid_out (rounds_asked s block (length buffer)).state ≡ laid_out s + length (message_asked s block buffer)
unfolding rounds_asked message_asked rounds_asked_buffer laid_out
ask-adds s block buffer = go (eqb (rounds_ask_refusal s (length block) (length buffer)) refusal.none) refl
  where
    go : (b : Bool) → eqb (rounds_ask_refusal s (length block) (length buffer)) refusal.none ≡ b
        → laid_out (rounds_asked s block (length buffer)).state ≡ laid_out s + length (message_asked s block buffer)
    go false e = rw e (omega arith)
    go true e =
        let h = ask-in-turn s (length block) (length buffer) e in
        rw (e, built-long (command_at s.command s.turn) block buffer h.1) (omega (arith, running-asked s.command s.turn h.0))

-- ---- a give

one-early : (e l a w : ℕ) → (e + 1) * a + l * w + 0 ≡ e * a + l * w + a
one-early e l a w = let p : (e + 1) * a ≡ e * a + 1 * a = add-mul e 1 a in omega arith

one-late : (e l a w : ℕ) → e * a + (l + 1) * w + 0 ≡ e * a + l * w + w
one-late e l a w = let p : (l + 1) * w ≡ l * w + 1 * w = add-mul l 1 w in omega arith

counted-words : (s : Rounds) (early late : ℕ) → laid_out (counted s early late) ≡ early * readback_words + late * whole_round s.command + 0
unfolding laid_out counted running_words
counted-words s early late = go (eqb (early + late) s.most)
  where
    go : (b : Bool) → laid_out (rounds s.command s.most early late (cond b 7 0)) ≡ early * readback_words + late * whole_round s.command + 0
    go true = refl
    go false = refl

settled-words : (t : Command) (most e l turn : ℕ) (words : List ℕ) → (turn ≡ 1) ⊎ ((turn ≡ 3) ⊎ (turn ≡ 5))
    → laid_out (settled (rounds t most e l turn) (turn_after t turn words)) ≡ laid_out (rounds t most e l turn)
unfolding turn_after settled laid_out running_words
settled-words t most e l turn words (inl p) = rw p (go (passes words))
  where
    go : (b : Bool) → laid_out (settled (rounds t most e l 1) (cond b 2 7)) ≡ laid_out (rounds t most e l 1)
    go true = refl
    go false = counted-words (rounds t most e l 1) (e + 1) l ∙ one-early e l readback_words (whole_round t)
settled-words t most e l turn words (inr (inl p)) = rw p
settled-words t most e l turn words (inr (inr p)) = rw p (go (confirms t words))
  where
    go : (b : Bool) → laid_out (settled (rounds t most e l 5) (cond b 6 7)) ≡ laid_out (rounds t most e l 5)
    go true = refl
    go false = counted-words (rounds t most e l 5) e (l + 1) ∙ one-late e l readback_words (whole_round t)

pub give-adds-none : (s : Rounds) (words : List ℕ) → laid_out (rounds_given s words).state ≡ laid_out s
unfolding rounds_given
give-adds-none s words = go (eqb (rounds_give_refusal s (length words)) refusal.none) refl
  where
    go : (b : Bool) → eqb (rounds_give_refusal s (length words)) refusal.none ≡ b → laid_out (rounds_given s words).state ≡ laid_out s
    go false e = rw e
    go true e = rw e (settled-words s.command s.most s.early s.late s.turn words (giving s.turn (give-in-turn s (length words) e)))

-- ---- the bound

-- a message is little longer than its payload
pub message-short : (n : ℕ) → message_words n ≤ n + 3
unfolding message_words
message-short n = by-test (λ (words : ℕ). words ≤ n + 3) (eqb n 0) (λ e. omega arith) (λ e. omega arith)

whole-most : (t : Command) → whole_round t ≤ t.length + 13
unfolding message_words
whole-most t = omega (arith, message-short t.length)

running-most : (t : Command) (turn : ℕ) → running_words t turn ≤ whole_round t
unfolding running_words
running-most t turn = go (eqb turn 1 || eqb turn 2) (eqb turn 3 || eqb turn 4) (eqb turn 5 || eqb turn 6) readback_words (message_words t.length)
  where
    go : (a b c : Bool) (x m : ℕ) → cond a x (cond b (x + m) (cond c (x + m + x) 0)) ≤ x + m + x
    go true b c x m = omega arith
    go false true c x m = omega arith
    go false false true x m = omega arith
    go false false false x m = omega arith

-- so many rounds, each of at most w words
rounds-most : (e l a w run k : ℕ) → a ≤ w → run ≤ k * w → (most v : ℕ) → e + l + k ≤ most → w ≤ v → e * a + l * w + run ≤ most * v
rounds-most e l a w run k h r most v n b =
    let p : e * a ≤ e * w = mul-le-mul_left e h in
    let q : (e + l + k) * w ≡ e * w + l * w + k * w = add-mul (e + l) k w ∙ ap (λ (x : ℕ). x + k * w) (add-mul e l w) in
    let u : (e + l + k) * w ≤ most * w = mul-le-mul_right w n in
    let z : most * w ≤ most * v = mul-le-mul_left most b in
    omega arith

pub laid-most : (s : Rounds) → out_of_rounds s ≡ false → laid_out s ≤ s.most * (s.command.length + 13)
unfolding laid_out
laid-most s h = go (in-range s h).place
  where
    go : Place s → laid_out s ≤ s.most * (s.command.length + 13)
    go (inl (p, q)) =
        rounds-most s.early s.late readback_words (whole_round s.command) (running_words s.command s.turn) 0 (omega arith)
        (rw p (unfold running_words in omega arith)) s.most (s.command.length + 13) (omega arith) (whole-most s.command)
    go (inr (p, q)) =
        rounds-most s.early s.late readback_words (whole_round s.command) (running_words s.command s.turn) 1 (omega arith)
        (omega (arith, running-most s.command s.turn)) s.most (s.command.length + 13) (omega arith) (whole-most s.command)
