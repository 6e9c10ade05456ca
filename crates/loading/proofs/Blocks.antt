-- The blocks of a table, and the memory after some of them; verdicts and turns.
-- Assumes nothing.
use Prim.Native.Nat.{ℕ, ◌+◌, ◌≤◌, ◌<◌}
use native.Mathlib.Omega.{arith}
use mathlib.Core.Path.{◌≡◌, refl, sym, ap, ap₂, ◌∙◌}
use mathlib.Core.Bool.{Bool, true, false, cond}
use mathlib.Core.List.{List, [], ◌∷◌, ◌++◌}
use borrow.Author.Tests.{ltb-true, ltb-false, ne_eqb}
use lib.Dec.{eqb, ltb, lit≤, lit<}
use lib.ListN.{length, take, drop, get_or, replicate, length-append, length-take, length-drop, replicate-append-replicate, get_or-eq_default}
use lib.Seq.{take_at, take-add, drop-append-add, drop-drop, length-take-le, get_or-take, get_or-drop}
use Rattle.bits.specs.Buffers.{written}
use Rattle.bits.specs.Lines.{AreWords}
use Rattle.rules.specs.Rules.{message_words}
use Rattle.rules.proofs.Cases.{by-test}
use Rattle.token.specs.declared.command.Command.{Command}
use Rattle.controller.specs.declared.sure.Verdict.{Verdict}
use Rattle.controller.specs.declared.sure.Verdict.TheVariants as verdict
use Rattle.loader.specs.Loader.{block_words, block_at, stage_command}
use Rattle.loader.specs.declared.Loader.{Loader}
use Rattle.loading.specs.Loading.{longest, loaded_to, all_done, first_unsure}

-- ---- verdicts

-- not all are Done where one was Unsure
pub unsure-not-all : (before : List Verdict) → all_done (before ++ (verdict.Unsure ∷ [])) ≡ false
unfolding all_done
unsure-not-all [] = refl
unsure-not-all (verdict.Done ∷ before) = unsure-not-all before
unsure-not-all (verdict.Unsure ∷ before) = refl
unsure-not-all (verdict.NotYet ∷ before) = refl

-- some were Done so far: then one is Unsure, or one more is Done
module _ {verdicts : List Verdict} (n m : ℕ) (so_far : verdicts ≡ replicate n verdict.Done) where
  pub unsure-next : n ≡ m → verdicts ++ (verdict.Unsure ∷ []) ≡ first_unsure m
  unsure-next e = ap (λ (l : List Verdict). l ++ (verdict.Unsure ∷ [])) so_far ∙ ap first_unsure e

  pub done-next : n + 1 ≡ m → verdicts ++ (verdict.Done ∷ []) ≡ replicate m verdict.Done
  done-next e =
      ap (λ (l : List Verdict). l ++ (verdict.Done ∷ [])) so_far
      ∙ replicate-append-replicate n 1 verdict.Done
      ∙ ap (λ (k : ℕ). replicate k verdict.Done) e

-- ---- room

-- the longest message is at least a READBACK, or a base setting
pub readback-room : (len : ℕ) → message_words 2 ≤ longest len
unfolding longest message_words
readback-room len = go (ltb len 2) refl
  where
    go : (b : Bool) → ltb len 2 ≡ b → 5 ≤ cond b 5 (cond (eqb (block_words len 0) 0) 2 (block_words len 0 + 3))
    go true e = lit≤ tt
    go false e =
        let two : 2 ≤ len = ltb-false len 2 e in
        let some : eqb (block_words len 0) 0 ≡ false = ne_eqb (block_words len 0) 0 (λ z. omega arith) in
        rw some (omega arith)

-- and at least each block
block-room : (len place : ℕ) → message_words (block_words len place) ≤ longest len
unfolding longest message_words
block-room len place = go (ltb len 2) refl (eqb (block_words len place) 0) refl
  where
    w : ℕ
    w = block_words len place

    go : (b : Bool) → ltb len 2 ≡ b → (c : Bool) → eqb w 0 ≡ c → cond c 2 (w + 3) ≤ cond b 5 (cond (eqb (block_words len 0) 0) 2 (block_words len 0 + 3))
    go true e true f = lit≤ tt
    go true e false f = let less : len < 2 = ltb-true len 2 e in omega arith
    go false e c f =
        let two : 2 ≤ len = ltb-false len 2 e in
        let some : eqb (block_words len 0) 0 ≡ false = ne_eqb (block_words len 0) 0 (λ z. omega arith) in
        rw some (by c)
      where
        by : (c : Bool) → cond c 2 (w + 3) ≤ block_words len 0 + 3
        by true = omega arith
        by false = omega arith

-- so it has room for the command of each stage
pub stage-room : (s : Loader) (len : ℕ) → len ≡ s.length → message_words (stage_command s).length ≤ longest len
unfolding stage_command
stage-room s len e =
    rw e
    (by-test (λ (t : Command). message_words t.length ≤ longest s.length) (eqb s.stage 0) (λ base. readback-room s.length) (λ block. block-room s.length s.place))

-- ---- blocks

pub block-long : (table : List ℕ) (place : ℕ) → length (block_at table place) ≡ block_words (length table) place
block-long table place = simp (length-take, length-drop) (omega arith)

pub block-words : (table : List ℕ) (place : ℕ) → AreWords table → AreWords (block_at table place)
unfolding AreWords
block-words table place words i = go (ltb i n) refl
  where
    n : ℕ
    n = block_words (length table) place

    go : (b : Bool) → ltb i n ≡ b → get_or (block_at table place) i 0 < 65536
    go true e = rw (get_or-take n (drop place table) i 0 (ltb-true i n e), get_or-drop place table i 0) (words (place + i))
    go false e =
        let behind : length (block_at table place) ≤ i = omega (arith, block-long table place, ltb-false i n e) in
        rw (get_or-eq_default (block_at table place) 0 behind) (lit< tt)

-- ---- the memory

module _ (table old : List ℕ) (holds : length table ≤ length old) (place : ℕ) (inside : place ≤ length table) where
  pub loaded-long : length (loaded_to table old place) ≡ length old
  loaded-long = simp (length-append, length-take, length-drop) (omega arith)

  -- a block more
  pub written-next : written (loaded_to table old place) place (block_at table place) ≡ loaded_to table old (place + block_words (length table) place)
  unfolding written
  written-next =
      let front : length (take place table) ≡ place = length-take-le place table inside in
      let n : ℕ = block_words (length table) place in
      ap₂ (λ (x y : List ℕ). (x ++ block_at table place) ++ y)
      (take_at (take place table) (drop place old) place front)
      (ap₂ (λ (a b : ℕ). drop (a + b) (take place table ++ drop place old)) (sym front) (block-long table place)
      ∙ drop-append-add (take place table) (drop place old) n
      ∙ drop-drop n place old)
      ∙ ap (λ (x : List ℕ). x ++ drop (place + n) old) (sym (take-add place n table))
