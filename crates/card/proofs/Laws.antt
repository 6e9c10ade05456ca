-- What refusals and judgements tell that are not there.
-- Assumes nothing.
use Prim.Native.Nat.{ℕ, ◌+◌, ◌≤◌}
use mathlib.Core.Bool.{Bool, true, false, cond, not, ◌||◌}
use mathlib.Core.Path.{◌≡◌, refl, sym, ap, ap₂, ◌∙◌}
use native.Mathlib.Omega.{arith}
use borrow.Author.Tests.{eqb-true, leb-true, ltb-false}
use lib.Dec.{eqb, leb, ltb}
use lib.ListN.{get_or, length-take}
use lib.Seq.{get_or-take}
use Rattle.rules.specs.Refusals as refusal
use Rattle.rules.specs.Rules.{tick, write}
use Rattle.judge.specs.Judge.{token_status, word_place}
use Rattle.judge.proofs.Laws.{never, token-passed, tick-index, write-inside, Accepted, accepted}
use Rattle.token.specs.Command.{command_fields}
use Rattle.token.specs.declared.command.CommandToken.{CommandToken}
use Rattle.token.specs.Response.{any_set}
use Rattle.card.specs.Release.{received, judged, release_refusal}
use Rattle.card.specs.Card.{module_refusal, word_refusal}
use Rattle.card.specs.Exchange.{word1, word2, token_heard, fields, heard_status}
use Rattle.card.specs.State.{sized, out_of_range}
use Rattle.card.specs.declared.Card.{Card}
use Rattle.rules.proofs.Cases.{by-number}

-- ---- ranges

pub record InRange (c : Card) : Type 0 where
  pub size : sized c.size ≡ true
  pub count : c.port.message.count ≤ 67
  pub module_state : c.module_state ≤ 15

pub in-range : (c : Card) → out_of_range c ≡ false → InRange c
unfolding out_of_range
in-range c h = go (sized c.size) refl (ltb 67 c.port.message.count) refl (ltb 15 c.module_state) refl h
  where
    go : (s : Bool) → sized c.size ≡ s → (n : Bool) → ltb 67 c.port.message.count ≡ n → (m : Bool) → ltb 15 c.module_state ≡ m
        → (not s || n || m) ≡ false → InRange c
    go true es false en false em h = record { size = es; count = ltb-false 67 _ en; module_state = ltb-false 15 _ em }
    go true es false en true em h = never h
    go true es true en m em h = never h
    go false es n en m em h = never h

-- ---- a call that is not refused

-- refusals in order: where the number is None, the first test fails, and the number behind it is None
pub fails : (t : Bool) {n m : ℕ} → (n ≡ refusal.none → ⊥) → cond t n m ≡ refusal.none → (t ≡ false) × (m ≡ refusal.none)
fails true r h = absurd (r h)
fails false r h = (refl, h)

-- the same for a test that refuses where it fails
pub holds : (t : Bool) {n m : ℕ} → (m ≡ refusal.none → ⊥) → cond t n m ≡ refusal.none → (t ≡ true) × (n ≡ refusal.none)
holds true r h = (refl, h)
holds false r h = absurd (r h)

pub record Settable (c : Card) (state : ℕ) : Type 0 where
  pub ranged : out_of_range c ≡ false
  pub closed : c.port.message.opened ≡ false
  pub small : state ≤ 15

pub settable : (c : Card) (state : ℕ) → module_refusal c state ≡ refusal.none → Settable c state
unfolding module_refusal
settable c state h =
    let (ranged, h₁) = fails (out_of_range c) (omega arith) h in
    let (closed, h₂) = fails c.port.message.opened (omega arith) h₁ in
    let (small, h₃) = holds (leb state 15) (omega arith) h₂ in
    record { ranged = ranged; closed = closed; small = leb-true state 15 small }

pub record Lent (c : Card) (size : ℕ) : Type 0 where
  pub ranged : out_of_range c ≡ false
  pub same : size ≡ c.size
  pub opened : c.port.message.opened ≡ true

pub lent : (c : Card) (size : ℕ) → word_refusal c size ≡ refusal.none → Lent c size
unfolding word_refusal
lent c size h =
    let (ranged, h₁) = fails (out_of_range c) (omega arith) h in
    let (same, h₂) = holds (eqb size c.size) (omega arith) h₁ in
    let (opened, h₃) = holds c.port.message.opened (omega arith) h₂ in
    record { ranged = ranged; same = eqb-true size c.size same; opened = opened }

pub released-lent : (c : Card) (size left : ℕ) → release_refusal c size left ≡ refusal.none → word_refusal c size ≡ refusal.none
unfolding release_refusal
released-lent c size left = by-number (λ n. n ≡ refusal.none → word_refusal c size ≡ refusal.none) (word_refusal c size) (λ r h. h) (λ q h. q)

-- ---- the token received

pub heard-status : (c : Card) {t : CommandToken} → t ≡ token_heard c → token_status c.size c.bases t.first t.second ≡ heard_status c
heard-status c e = rw e

pub heard-fields : (c : Card) {t : CommandToken} → t ≡ token_heard c → command_fields t.first t.second ≡ fields c
heard-fields c e = rw e

pub length-small : (c : Card) → (fields c).length ≤ 63
unfolding command_fields
length-small c = omega arith

-- ---- an accepted message

module _ (c : Card) (left : ℕ) (h : any_set (judged c left) ≡ false) where
  message-accepted : Accepted c.size c.bases (received c.port.message) left
  unfolding judged
  message-accepted = accepted c.size c.bases (received c.port.message) left h

  -- its token is the one that steps 1 to 3 judged
  pub accepted-token : any_set (heard_status c) ≡ false
  accepted-token =
      let a = message-accepted in
      let two : 2 ≤ c.port.message.count = omega (arith, a.long, length-take c.port.message.count c.port.message.words) in
      let first : get_or (received c.port.message) 0 0 ≡ word1 c = get_or-take c.port.message.count c.port.message.words 0 0 (omega arith) in
      let second : get_or (received c.port.message) 1 0 ≡ word2 c = get_or-take c.port.message.count c.port.message.words 1 0 (omega arith) in
      sym (ap any_set (ap₂ (token_status c.size c.bases) first second)) ∙ a.token

  pub accepted-tick : (fields c).code ≡ tick.code → (fields c).sub_address ≤ 63
  accepted-tick = tick-index (fields c) (token-passed c.size c.bases (word1 c) (word2 c) accepted-token).two

  pub accepted-write : (fields c).code ≡ write.code → word_place c.bases.write_base (fields c).sub_address + (fields c).length ≤ c.size
  accepted-write = write-inside c.size c.bases (fields c) (token-passed c.size c.bases (word1 c) (word2 c) accepted-token).three
