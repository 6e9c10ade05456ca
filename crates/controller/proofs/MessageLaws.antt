-- How words come to lie over the first places of a buffer, what a message is made of, and what the builder's tests tell.
-- Assumes nothing.
use Prim.Native.Nat.{ℕ, suc, ◌+◌, ◌-◌, ◌≤◌, ◌<◌}
use native.Mathlib.Omega.{arith}
use mathlib.Core.Bool.{Bool, true, false, cond, ◌&&◌}
use mathlib.Core.List.{List, [], ◌∷◌, ◌++◌}
use mathlib.Core.Path.{◌≡◌, refl, sym, ap, ◌∙◌}
use borrow.Author.Tests.{eq-eqb, ne_eqb, eqb-true, leb-true}
use borrow.Rule.Slice.PartMut.{put_mid}
use lib.Dec.{eqb, leb, lit<}
use lib.ListN.{length, take, drop, set, replicate, length-append, length-drop, length-replicate}
use lib.Seq.{take_all, drop-drop}
use Rattle.crc.specs.Crc.{crc16}
use Rattle.rules.specs.Refusals as refusal
use Rattle.rules.specs.Rules.{message_words}
use Rattle.rules.specs.declared.refusal.Refusal.{Refusal}
use Rattle.rules.specs.declared.refusal.Refusal.TheVariants.{Argument}
use Rattle.rules.proofs.OneAnswer.{some-number}
use Rattle.std.specs.Prelude.{Result, Ok, Err}
use Rattle.token.proofs.CommandTrip.{command-fields}
use Rattle.token.proofs.Good.{both}
use Rattle.token.specs.Answers.{Built}
use Rattle.token.specs.Command.{command_token, command_fits, command_built, command_built_gives, command_fields}
use Rattle.token.specs.declared.command.Command.{Command}
use Rattle.token.specs.declared.command.CommandToken.{CommandToken}
use Rattle.controller.specs.Builder.{is_reading, with_check_word, payload, block_fits, build_refusal}
use Rattle.bits.specs.Buffers.{over}

-- ---- words over the first places of a buffer

-- lists of no word and of one
pub no-words : (words : List ℕ) → length words ≡ 0 → words ≡ []
no-words [] none = refl
no-words (a ∷ words) none = absurd (omega arith)

pub one-word : (words : List ℕ) (word : ℕ) → length words ≡ 1 → set words 0 word ≡ word ∷ []
one-word [] word one = absurd (omega arith)
one-word (a ∷ []) word one = refl
one-word (a ∷ b ∷ words) word one = absurd (omega arith)

-- a token, and a message's other words written to the part behind it
pub message-laid : (first second words : ℕ) (rest buffer : List ℕ) → length rest + 2 ≡ words
    → put_mid 2 (words - 2) (first ∷ second ∷ drop 2 buffer) rest ≡ over (first ∷ second ∷ rest) buffer
message-laid first second words rest buffer whole =
    let behind : words - 2 ≡ length rest = omega arith in
    let two : 2 + length rest ≡ suc (suc (length rest)) = omega arith in
    rw behind (ap (λ (l : List ℕ). first ∷ second ∷ (rest ++ l)) (drop-drop (length rest) 2 buffer ∙ ap (λ (n : ℕ). drop n buffer) two))

-- ---- the part of a buffer from a place on

-- as it is lent
pub tail-lent : (at : ℕ) (buffer : List ℕ) → at ≤ length buffer → take (length buffer - at) (drop at buffer) ≡ drop at buffer
tail-lent at buffer fits = take_all (length buffer - at) (drop at buffer) (omega (arith, length-drop at buffer))

-- ---- what a message is made of

pub block-none : (block : List ℕ) → length block ≡ 0 → with_check_word block ≡ []
unfolding with_check_word
block-none block none = rw (eq-eqb _ _ none)

pub block-some : (block : List ℕ) → (length block ≡ 0 → ⊥) → with_check_word block ≡ block ++ (crc16 block ∷ [])
unfolding with_check_word
block-some block some = rw (ne_eqb _ _ some)

pub block-length : (block : List ℕ) → (length block ≡ 0 → ⊥) → length (with_check_word block) ≡ length block + 1
block-length block some = rw (block-some block some, length-append)

long-by : (len : ℕ) (none : Bool) → eqb len 0 ≡ none → len + 2 ≤ cond none 2 (len + 3)
long-by len true e = omega (arith, eqb-true len 0 e)
long-by len false e = omega arith

-- a message has its token and its payload at least
pub message-long : (len : ℕ) → len + 2 ≤ message_words len
unfolding message_words
message-long len = long-by len (eqb len 0) refl

pub payload-reading : (f : Command) (block : List ℕ) → is_reading f.code ≡ true → payload f block ≡ replicate (message_words f.length - 2) 0
unfolding payload
payload-reading f block h = rw h

pub payload-block : (f : Command) (block : List ℕ) → is_reading f.code ≡ false → payload f block ≡ with_check_word block
unfolding payload
payload-block f block h = rw h

block-by : (none : Bool) (block : List ℕ) (check : ℕ) → length (cond none [] (block ++ (check ∷ []))) + 2 ≡ cond none 2 (length block + 3)
block-by true block check = refl
block-by false block check = omega (arith, length-append block (check ∷ []))

block-whole : (block : List ℕ) → length (with_check_word block) + 2 ≡ message_words (length block)
unfolding with_check_word message_words
block-whole block = block-by (eqb (length block) 0) block (crc16 block)

payload-by : (reading : Bool) (f : Command) (block : List ℕ) → eqb (length block) (cond reading 0 f.length) ≡ true
    → length (cond reading (replicate (message_words f.length - 2) 0) (with_check_word block)) + 2 ≡ message_words f.length
payload-by true f block h = omega (arith, length-replicate {A = ℕ} (message_words f.length - 2) 0, message-long f.length)
payload-by false f block h = rw (← eqb-true (length block) f.length h) (block-whole block)

-- a token and the payload of a block that fits are as many words as the length asks for
pub message-whole : (f : Command) (block : List ℕ) → block_fits f (length block) ≡ true → length (payload f block) + 2 ≡ message_words f.length
unfolding block_fits payload
message-whole f block h = payload-by (is_reading f.code) f block h

-- ---- what the builder's tests tell

-- where neither of two refusals is given, both tests were passed
pub passed-by : (first second : Bool) (one other : ℕ) → 0 < one → 0 < other → cond first (cond second refusal.none other) one ≡ refusal.none
    → (first ≡ true) × (second ≡ true)
passed-by true true one other p q h = (refl, refl)
passed-by true false one other p q h = absurd (omega arith)
passed-by false second one other p q h = absurd (omega arith)

-- a message that is not refused has a block that fits, and room
pub build-passed : (f : Command) (count room : ℕ) → build_refusal f count room ≡ refusal.none → (block_fits f count ≡ true) × (message_words f.length ≤ room)
unfolding build_refusal
build-passed f count room h =
    let (fits, long) =
    passed-by (command_fits f && block_fits f count) (leb (message_words f.length) room) refusal.argument refusal.room (lit< tt) (lit< tt) h in
    ((both (command_fits f) (block_fits f count) fits).1, leb-true (message_words f.length) room long)

built-by : (fits : Bool) (t made : CommandToken)
    → command_built_gives (Ok t) ≡ cond fits (command_built_gives (Ok made)) (command_built_gives (Err Argument))
    → (fits ≡ true) × (t ≡ made)
built-by true t made h = (refl, ap (λ (b : Built CommandToken). b.token) h)
built-by false t made h = absurd (omega (arith, ap (λ (b : Built CommandToken). b.refusal) h))

-- a token that was built is that of its fields, which fit
pub token-built : (f : Command) (r : Result CommandToken Refusal) (t : CommandToken)
    → command_built_gives r ≡ command_built f.code f.length f.sub_address → r ≡ Ok t
    → (command_fits f ≡ true) × (t ≡ command_token f)
unfolding command_built
token-built f r t made is = built-by (command_fits f) t (command_token f) (ap command_built_gives (sym is) ∙ made)

-- it has the fields that it was built from
pub built-fields : (f : Command) (t : CommandToken) → command_fits f ≡ true → t ≡ command_token f → command_fields t.first t.second ≡ f
built-fields f t fits made = rw made (command-fields f fits)

pub ruleset blocks = (block-length, no-words, one-word)

pub ruleset laying = (message-laid, message-whole)

pub ruleset building = (some-number, eq-eqb, ne_eqb, message-whole, build-passed, token-built, built-fields)
