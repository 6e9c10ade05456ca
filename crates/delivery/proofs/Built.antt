-- Every message that the controller builds is a whole command.
-- Assumes nothing.
use Prim.Native.Nat.{ℕ, zero, suc, ◌-◌, ◌<◌}
use native.Mathlib.Omega.{arith}
use mathlib.Core.Path.{◌≡◌, refl, sym, ap, ◌∙◌}
use mathlib.Core.Bool.{Bool, true, false, cond, ◌&&◌, ◌||◌}
use mathlib.Core.List.{List, [], ◌∷◌, ◌++◌, append_assoc}
use borrow.Author.Tests.{eq-eqb, eqb-true, lt-ltb}
use lib.Dec.{eqb, ltb, lit<}
use lib.ListN.{length, get_or, take, replicate, length-append}
use lib.Seq.{take_at, get_or_at}
use Rattle.crc.specs.Crc.{crc16, agrees}
use Rattle.crc.proofs.Words.{crc16-lt}
use Rattle.bits.specs.Lines.{AreWords}
use Rattle.rules.specs.Rules.{message_words, read, readback}
use Rattle.token.specs.Command.{command_first, command_second}
use Rattle.token.specs.declared.command.Command.{Command}
use Rattle.token.proofs.CommandTrip.{CommandFits, first-below, second-below}
use Rattle.judge.specs.Judge.{is_checked}
use Rattle.judge.proofs.Laws.{never}
use Rattle.controller.specs.Builder.{is_reading, with_check_word, payload, block_fits}
use Rattle.controller.proofs.MessageLaws.{payload-block, message-whole}
use Rattle.delivery.proofs.Accept.{Sendable}

zeros-below : (n : ℕ) → AreWords (replicate n 0)
unfolding AreWords
zeros-below zero i = lit< tt
zeros-below (suc n) zero = lit< tt
zeros-below (suc n) (suc i) = zeros-below n i

snoc-below : (ws : List ℕ) (w : ℕ) → AreWords ws → w < 65536 → AreWords (ws ++ (w ∷ []))
unfolding AreWords
snoc-below [] w h hw zero = hw
snoc-below [] w h hw (suc i) = lit< tt
snoc-below (x ∷ ws) w h hw zero = h 0
snoc-below (x ∷ ws) w h hw (suc i) = snoc-below ws w (λ j. h (suc j)) hw i

-- a block with its check word
module _ (block : List ℕ) where
  checked-below : AreWords block → AreWords (with_check_word block)
  unfolding with_check_word
  checked-below h = go (eqb (length block) 0)
    where
      go : (b : Bool) → AreWords (cond b [] (block ++ (crc16 block ∷ [])))
      go true = zeros-below 0
      go false = snoc-below block (crc16 block) h (crc16-lt 0 block)

  checked-agrees : agrees (length block) (with_check_word block) ≡ true
  unfolding with_check_word agrees
  checked-agrees = go (eqb (length block) 0)
    where
      ws : Bool → List ℕ
      ws b = cond b [] (block ++ (crc16 block ∷ []))

      go : (b : Bool) → (b || (ltb (length block) (length (ws b)) && eqb (crc16 (take (length block) (ws b))) (get_or (ws b) (length block) 0))) ≡ true
      go true = refl
      go false =
          rw (lt-ltb (length block) (length (block ++ (crc16 block ∷ []))) (simp length-append (omega arith)))
          (rw (take_at block (crc16 block ∷ []) (length block) refl) (eq-eqb _ _ (sym (get_or_at block (crc16 block) [] 0 (length block) refl))))

  -- the block is found again
  pub checked-front : (zs : List ℕ) → take (length block) (with_check_word block ++ zs) ≡ block
  unfolding with_check_word
  checked-front zs = go (eqb (length block) 0) refl
    where
      go : (b : Bool) → eqb (length block) 0 ≡ b → take (length block) (cond b [] (block ++ (crc16 block ∷ [])) ++ zs) ≡ block
      go true e = none block (eqb-true (length block) 0 e)
        where
          none : (l : List ℕ) → length l ≡ 0 → take (length l) zs ≡ l
          none [] h = refl
          none (x ∷ l) h = absurd (omega arith)
      go false e = ap (take (length block)) (append_assoc block (crc16 block ∷ []) zs) ∙ take_at block _ (length block) refl

-- a command that reads has no payload to be looked at
reading-unchecked : (code : ℕ) → is_reading code ≡ true → is_checked code ≡ false
unfolding is_reading is_checked
reading-unchecked code h = go (eqb code read.code) (eqb code readback.code) refl refl h
  where
    go : (a b : Bool) → eqb code read.code ≡ a → eqb code readback.code ≡ b → (a || b) ≡ true → is_checked code ≡ false
    go true b p q h = ap is_checked (eqb-true code read.code p)
    go false true p q h = ap is_checked (eqb-true code readback.code q)
    go false false p q h = never (sym h)

pub sendable : (t : Command) (block : List ℕ) → CommandFits t → AreWords block → block_fits t (length block) ≡ true → Sendable t (payload t block)
unfolding AreWords
sendable t block fits h n =
    record { fits = fits; below = below; count = omega (arith, message-whole t block n); agree = agree (is_reading t.code) refl }
  where
    payload-below : AreWords (payload t block)
    payload-below = unfold payload in go (is_reading t.code)
      where
        go : (b : Bool) → AreWords (cond b (replicate (message_words t.length - 2) 0) (with_check_word block))
        go true = zeros-below (message_words t.length - 2)
        go false = checked-below block h

    below : AreWords (command_first t ∷ command_second t ∷ payload t block)
    below zero = first-below t fits
    below (suc zero) = second-below t fits
    below (suc (suc i)) = payload-below i

    agree : (b : Bool) → is_reading t.code ≡ b → is_checked t.code ≡ true → agrees t.length (payload t block) ≡ true
    agree true e c = never (sym c ∙ reading-unchecked t.code e)
    agree false e c =
        let all : length block ≡ t.length = unfold block_fits in eqb-true _ _ (rw e at n) in
        rw (payload-block t block e, ← all) (checked-agrees block)
