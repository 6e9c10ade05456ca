-- A command that the card accepts came as it was built, and one that comes as it was built is accepted where its token passes.
-- Assumes nothing.
use Prim.Native.Nat.{ℕ, suc, ◌+◌, ◌*◌, ◌/◌, min}
use native.Mathlib.Omega.{arith}
use mathlib.Core.Path.{◌≡◌, refl, sym, ap, ap₂, ◌∙◌}
use mathlib.Core.Bool.{Bool, true, false, cond}
use mathlib.Core.List.{List, [], ◌∷◌}
use borrow.Author.Tests.{eq-eqb, le-ltb, eqb-true}
use lib.Dec.{eqb, ltb}
use lib.ListN.{length, get_or, take, length-take}
use lib.Seq.{take_all}
use Rattle.bits.specs.Bits.{stream}
use Rattle.crc.specs.Crc.{crc16, agrees}
use Rattle.bits.specs.Lines.{words, whole_words, bits_left, AreWords}
use Rattle.link.specs.Damage.{Flips, flipped}
use Rattle.bits.proofs.Lines.{length-stream, length-words, stream-words, words-take, words-below, words-two, words-more}
use Rattle.link.proofs.Laws.{length-flipped}
use Rattle.link.proofs.Spoilt.{SpoiltPayload, payload-kept, behind-token, token-same}
use Rattle.rules.specs.Rules.{message_words}
use Rattle.token.specs.Command.{command_first, command_second, command_fields}
use Rattle.token.specs.Response.{clean, any_set}
use Rattle.token.specs.declared.command.Command.{Command}
use Rattle.token.proofs.CommandTrip.{CommandFits, command-fields}
use Rattle.token.proofs.Good.{both}
use Rattle.judge.specs.Judge.{me, first_failing, token_status, step4, is_checked, check_status, step5, end_status, judgement}
use Rattle.judge.specs.declared.Bases.{Bases}
use Rattle.judge.proofs.Laws.{never, accepted}
use Rattle.delivery.proofs.Judged.{passed-check, built-check}

-- ---- what acceptance tells of the words

-- the words of an accepted message: a token that passes, as many words as it says, and a payload that agrees if it is looked at
pub record Whole (size : ℕ) (b : Bases) (ws : List ℕ) (left : ℕ) : Type 0 where
  pub first : ℕ
  pub second : ℕ
  pub rest : List ℕ
  pub are : ws ≡ first ∷ second ∷ rest
  pub passes : any_set (token_status size b first second) ≡ false
  pub whole : suc (suc (length rest)) ≡ message_words (command_fields first second).length
  pub none_left : left ≡ 0
  pub agree : is_checked (command_fields first second).code ≡ true → agrees (command_fields first second).length rest ≡ true

-- a test that fails gives ME
held : (t : Bool) → any_set (cond t clean me) ≡ false → t ≡ true
unfolding any_set
held true h = refl
held false h = never h

pub whole : (size : ℕ) (b : Bases) (ws : List ℕ) (left : ℕ) → any_set (judgement size b ws left) ≡ false → Whole size b ws left
unfolding step4 step5 check_status
whole size b [] left h = absurd (omega (arith, (accepted size b [] left h).long))
whole size b (w ∷ []) left h = absurd (omega (arith, (accepted size b (w ∷ []) left h).long))
whole size b (first ∷ second ∷ rest) left h =
    let a = accepted size b (first ∷ second ∷ rest) left h in
    let (count, none_left) = both (eqb (suc (suc (length rest))) (message_words (command_fields first second).length)) (eqb left 0) (held _ a.four) in
    record {
      first = first;
      second = second;
      rest = rest;
      are = refl;
      passes = a.token;
      whole = eqb-true _ _ count;
      none_left = eqb-true _ _ none_left;
      agree = λ ch. held (agrees (command_fields first second).length rest) (rw ch at a.five);
    }

-- ---- what the controller sends

-- a whole command: fields that fit a token, as many words as its length asks for, and a payload that agrees if it is looked at
pub record Sendable (t : Command) (rest : List ℕ) : Type 0 where
  pub fits : CommandFits t
  pub below : AreWords (command_first t ∷ command_second t ∷ rest)
  pub count : suc (suc (length rest)) ≡ message_words t.length
  pub agree : is_checked t.code ≡ true → agrees t.length rest ≡ true

-- it is accepted where its token passes
pub accepts : (t : Command) (rest : List ℕ) → Sendable t rest → (size : ℕ) (b : Bases)
    → any_set (token_status size b (command_first t) (command_second t)) ≡ false → any_set (judgement size b (command_first t ∷ command_second t ∷ rest) 0) ≡ false
unfolding judgement first_failing end_status step4 step5 check_status any_set
accepts t rest s size b ok =
    rw (le-ltb (suc (suc (length rest))) 2 (omega arith), ok, command-fields t s.fits, eq-eqb _ _ s.count) (go (is_checked t.code) refl)
  where
    go : (x : Bool) → is_checked t.code ≡ x → any_set (cond x (cond (agrees t.length rest) clean me) clean) ≡ false
    go true e = rw (s.agree e)
    go false e = refl

-- what the card has taken, if it accepts: the same token, and the same payload if it is looked at
pub record AsBuilt (t : Command) (rest : List ℕ) (size : ℕ) (b : Bases) (line : List Bool) : Type 0 where
  pub payload : List ℕ
  pub are : whole_words line ≡ command_first t ∷ command_second t ∷ payload
  pub passes : any_set (token_status size b (command_first t) (command_second t)) ≡ false
  pub same : is_checked t.code ≡ true → payload ≡ rest

-- a payload with its check that came spoilt
agreed : (n : ℕ) (ws vs : List ℕ) → suc (suc (length ws)) ≡ message_words n → suc (suc (length vs)) ≡ message_words n → AreWords ws → AreWords vs
    → SpoiltPayload ws vs → agrees n ws ≡ true → agrees n vs ≡ true → vs ≡ ws
unfolding agrees message_words
agreed n ws vs h g hw hv e p q = go (eqb n 0) refl
  where
    empty : (l : List ℕ) → suc (suc (length l)) ≡ 2 → l ≡ []
    empty [] h = refl
    empty (x ∷ l) h = absurd (omega arith)

    go : (b : Bool) → eqb n 0 ≡ b → vs ≡ ws
    go true z = empty vs (rw z at g) ∙ sym (empty ws (rw z at h))
    go false z =
        let a : suc (suc (length ws)) ≡ n + 3 = rw z at h in
        let b : suc (suc (length vs)) ≡ n + 3 = rw z at g in
        let right : crc16 (take n ws) ≡ get_or ws n 0 = eqb-true _ _ (both (ltb n (length ws)) _ (rw z at p)).1 in
        let right' : crc16 (take n vs) ≡ get_or vs n 0 = eqb-true _ _ (both (ltb n (length vs)) _ (rw z at q)).1 in
        payload-kept n ws vs (omega arith) (omega arith) hw hv e right right'

module _ (t : Command) (rest : List ℕ) (s : Sendable t rest) (size : ℕ) (b : Bases) where
  abbrev line : List Bool
  line = stream 16 (command_first t ∷ command_second t ∷ rest)

  long : length line ≡ suc (suc (length rest)) * 16
  long = length-stream (command_first t ∷ command_second t ∷ rest)

  -- with a bit turned over
  pub built-flipped : (o : Flips) → Whole size b (whole_words (flipped o line)) (bits_left (flipped o line)) → AsBuilt t rest size b (flipped o line)
  unfolding whole_words AreWords
  built-flipped o a =
      let n : ℕ = length (flipped o line) / 16 in
      let size-is : length (flipped o line) ≡ suc (suc (length rest)) * 16 = length-flipped o line ∙ long in
      let back : stream 16 (words n (flipped o line)) ≡ flipped o line = stream-words n (flipped o line) (omega arith) in
      let got : stream 16 (a.first ∷ a.second ∷ a.rest) ≡ flipped o line = ap (stream 16) (sym a.are) ∙ back in
      let seen : AreWords (a.first ∷ a.second ∷ a.rest) = rw a.are at (words-below n (flipped o line)) in
      let parts = behind-token (command_first t) (command_second t) rest a.first a.second a.rest o got in
      let (one, two) =
      token-same (command_first t) (command_second t) rest a.first a.second a.rest parts (words-two _ _ rest s.below) (words-two _ _ a.rest seen)
      (built-check t s.fits) (passed-check size b a.first a.second a.passes) in
      let all : suc (suc (length a.rest)) ≡ message_words t.length = rw (one, two, command-fields t s.fits) at a.whole in
      let agree : is_checked t.code ≡ true → agrees t.length a.rest ≡ true = rw (one, two, command-fields t s.fits) at a.agree in
      record {
        payload = a.rest;
        are = a.are ∙ ap₂ (λ (x y : ℕ). x ∷ y ∷ a.rest) one two;
        passes = rw (one, two) at a.passes;
        same = λ ch. agreed t.length rest a.rest s.count all (words-more _ _ rest s.below) (words-more _ _ a.rest seen)
            parts.back (s.agree ch) (agree ch);
      }

  -- cut short
  pub built-cut : (k : ℕ) → Whole size b (whole_words (take k line)) (bits_left (take k line)) → AsBuilt t rest size b (take k line)
  unfolding whole_words bits_left
  built-cut k a =
      let n : ℕ = length (take k line) / 16 in
      let ws : List ℕ = command_first t ∷ command_second t ∷ rest in
      let size-is : length (take k line) ≡ min k (suc (suc (length rest)) * 16) = length-take k line ∙ ap (min k) long in
      let count : n ≡ suc (suc (length a.rest)) = sym (length-words n (take k line)) ∙ ap length a.are in
      let got : words n (take k line) ≡ take n ws = words-take n ws k s.below (omega arith) (omega arith) in
      let front : ◌≡◌ {A = List ℕ} (a.first ∷ a.second ∷ a.rest) (command_first t ∷ command_second t ∷ take (length a.rest) rest)
      = sym a.are ∙ got ∙ ap (λ (i : ℕ). take i ws) count in
      let one : a.first ≡ command_first t = cc in
      let two : a.second ≡ command_second t = cc in
      let all : suc (suc (length a.rest)) ≡ suc (suc (length rest)) = rw (one, two, command-fields t s.fits) at a.whole ∙ sym s.count in
      record { payload = rest; are = got ∙ take_all n ws (omega arith); passes = rw (one, two) at a.passes; same = λ ch. refl }
