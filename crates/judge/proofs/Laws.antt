-- What is known where no step failed; that step 1 goes by the token's wrong marks; and of bases.
-- Assumes nothing.
use Prim.Native.Nat.{ℕ, ◌+◌, ◌*◌, ◌%◌, ◌≤◌}
use mathlib.Core.Bool.{Bool, true, false, cond, not, ◌&&◌, ◌||◌, true≢false}
use mathlib.Core.List.{List}
use mathlib.Core.Path.{◌≡◌, refl, sym, ◌∙◌, subst}
use native.Mathlib.Omega.{arith}
use borrow.Author.Tests.{eq-eqb, leb-true, ltb-false}
use lib.Dec.{eqb, ltb}
use lib.ListN.{length, drop, get_or}
use Rattle.rules.specs.Rules.{table, found, row_in, rule_of, tick, read, write}
use Rattle.token.specs.Command.{command_marks, good_command, command_wrong, command_fields, command_read}
use Rattle.token.specs.Marks.{good_marks, wrong_marks}
use Rattle.token.specs.Response.{status, clean, any_set}
use Rattle.token.specs.declared.command.Command.{Command}
use Rattle.token.specs.declared.response.Status.{Status}
use Rattle.token.proofs.Good.{both}
use Rattle.judge.specs.Judge.{me, ar, ic, first_failing, step1, length_fits, sub_fits, sub_status, step2, word_place, is_even, inside, block_status, step3, token_status, step4, step5, end_status, judgement}
use Rattle.judge.specs.declared.Bases.{Bases}

pub never {ℓ} : {A : Type ℓ} → true ≡ false → A
never e = absurd (true≢false e)

-- a status that is set where a test fails: if it is not set, the test holds
holds : (t : Bool) (a s : Status) → any_set s ≡ true → any_set (cond t a s) ≡ false → (t ≡ true) × (any_set a ≡ false)
holds true a s set h = (refl, h)
holds false a s set h = never (sym set ∙ h)

-- ---- the first failing step decides

pub first-passes : (a b : Status) → any_set (first_failing a b) ≡ false → (any_set a ≡ false) × (any_set b ≡ false)
unfolding first_failing
first-passes a b h = go (any_set a) refl h
  where
    go : (t : Bool) → any_set a ≡ t → any_set (cond t a b) ≡ false → (any_set a ≡ false) × (any_set b ≡ false)
    go true e h = never (sym e ∙ h)
    go false e h = (e, h)

-- by what a step gave and what a test of it said
pub fails : {step given : Status} {set : Bool} (next : Status) → given ≡ step → set ≡ any_set given → set ≡ true → given ≡ first_failing step next
unfolding first_failing
fails next e test h = rw (← e, ← test, h)

pub passes : {step given : Status} {set : Bool} (next : Status) → given ≡ step → set ≡ any_set given → set ≡ false → next ≡ first_failing step next
unfolding first_failing
passes next e test h = rw (← e, ← test, h)

-- ---- steps 1 to 3

pub record Passed (size : ℕ) (b : Bases) (first second : ℕ) : Type 0 where
  pub one : any_set (step1 (command_marks first second)) ≡ false
  pub two : any_set (step2 (command_fields first second) (rule_of (command_fields first second).code)) ≡ false
  pub three : any_set (step3 size b (command_fields first second)) ≡ false

pub token-passed : (size : ℕ) (b : Bases) (first second : ℕ) → any_set (token_status size b first second) ≡ false → Passed size b first second
unfolding token_status
token-passed size b first second h =
    let (one, rest) = first-passes (step1 (command_marks first second)) _ h in
    let (two, three) = first-passes (step2 (command_fields first second) (rule_of (command_fields first second).code)) _ rest in
    record { one = one; two = two; three = three }

-- step 1: the token is good
pub passed-good : (first second : ℕ) → any_set (step1 (command_marks first second)) ≡ false → good_command first second ≡ true
unfolding any_set step1 good_command good_marks
passed-good first second h = go (command_marks first second).prefix (command_marks first second).spare (command_marks first second).check h
  where
    go : (p s c : Bool) → any_set (step1 (record { prefix = p; spare = s; check = c })) ≡ false → (p && s && c) ≡ true
    go true true true h = refl
    go true true false h = never h
    go true false true h = never h
    go true false false h = never h
    go false s true h = never h
    go false s false h = never h

-- step 1 sets IC for a wrong prefix or spare and ME for a wrong CRC-4, as the token's reader names them
pub step-1-by-wrong : (first second : ℕ)
    → let w = (command_read first second).wrong in
    step1 (command_marks first second) ≡ status w.check false (w.prefix || w.spare)
unfolding step1 command_read command_wrong wrong_marks
step-1-by-wrong first second = rw (or-of-nots (command_marks first second).prefix (command_marks first second).spare)
  where
    or-of-nots : (p s : Bool) → (not p || not s) ≡ not (p && s)
    or-of-nots true s = refl
    or-of-nots false s = refl

-- step 2: TICK's index is at most 63
pub tick-index : (f : Command) → any_set (step2 f (rule_of f.code)) ≡ false → f.code ≡ tick.code → f.sub_address ≤ 63
unfolding any_set step2 sub_status sub_fits rule_of table row_in
tick-index f h e =
    let listed : any_set (step2 f (found tick)) ≡ false = subst (λ (n : ℕ). any_set (step2 f (rule_of n)) ≡ false) e h in
    let (_, sub) = holds (length_fits f tick) (sub_status f tick) ic refl listed in
    leb-true f.sub_address 63 (holds (sub_fits f tick) clean _ (either (eqb f.code tick.code)) sub).0
  where
    either : (t : Bool) → any_set (cond t ar ic) ≡ true
    either true = refl
    either false = refl

-- step 3: the base of READ or WRITE is even, and its block lies inside the memory
module _ (size : ℕ) (b : Bases) (f : Command) (h : any_set (step3 size b f) ≡ false) where
  abbrev Placed : ℕ → Type 0
  Placed base = (is_even base ≡ true) × (word_place base f.sub_address + f.length ≤ size)

  placed : (base : ℕ) → any_set (block_status size base f) ≡ false → Placed base
  unfolding block_status inside any_set
  placed base e =
      let (even, within) = both (is_even base) (inside size base f) (holds (is_even base && inside size base f) clean ar refl e).0 in
      (even, leb-true _ size within)

  read-placed : f.code ≡ read.code → Placed b.read_base
  unfolding step3 block_status inside
  read-placed e = placed b.read_base (rw e at h)

  write-placed : f.code ≡ write.code → Placed b.write_base
  unfolding step3 block_status inside
  write-placed e = placed b.write_base (rw e at h)

  pub read-even : f.code ≡ read.code → is_even b.read_base ≡ true
  read-even e = (read-placed e).0

  pub read-inside : f.code ≡ read.code → word_place b.read_base f.sub_address + f.length ≤ size
  read-inside e = (read-placed e).1

  pub write-even : f.code ≡ write.code → is_even b.write_base ≡ true
  write-even e = (write-placed e).0

  pub write-inside : f.code ≡ write.code → word_place b.write_base f.sub_address + f.length ≤ size
  write-inside e = (write-placed e).1

-- a place doubled, as a base: the block begins at the place + sub-address, and the base is even
pub doubled : (place sub : ℕ) → (word_place (2 * place) sub ≡ place + sub) × (is_even (2 * place) ≡ true)
unfolding word_place is_even
doubled place sub = (omega arith, eq-eqb (2 * place % 2) 0 (omega arith))

-- ---- all words of a message

pub record Accepted (size : ℕ) (b : Bases) (words : List ℕ) (left : ℕ) : Type 0 where
  pub long : 2 ≤ length words
  pub token : any_set (token_status size b (get_or words 0 0) (get_or words 1 0)) ≡ false
  pub four : any_set (step4 (length words) (command_fields (get_or words 0 0) (get_or words 1 0)).length left) ≡ false
  pub five : any_set (step5 (command_fields (get_or words 0 0) (get_or words 1 0)) (drop 2 words)) ≡ false

pub accepted : (size : ℕ) (b : Bases) (words : List ℕ) (left : ℕ) → any_set (judgement size b words left) ≡ false → Accepted size b words left
unfolding judgement end_status
accepted size b words left h = go (ltb (length words) 2) refl h
  where
    go : (t : Bool) → ltb (length words) 2 ≡ t → any_set (cond t me (first_failing (token_status size b (get_or words 0 0) (get_or words 1 0)) (end_status (command_fields (get_or words 0 0) (get_or words 1 0)) words left))) ≡ false → Accepted size b words left
    go true e h = never (unfold any_set in h)
    go false e h =
        let (token, rest) = first-passes (token_status size b (get_or words 0 0) (get_or words 1 0)) _ h in
        let (four, five) = first-passes (step4 (length words) (command_fields (get_or words 0 0) (get_or words 1 0)).length left) _ rest in
        record { long = ltb-false (length words) 2 e; token = token; four = four; five = five }
