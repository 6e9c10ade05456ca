-- What the controller may conclude from an answer whose response token it reads as good: its first word is the card's own, and
-- the card saw something.
-- Assumes nothing.
use Prim.Native.Nat.{ℕ, zero, suc, ◌+◌, ◌-◌, ◌/◌, ◌%◌, ◌≤◌, ◌<◌}
use native.Mathlib.Nat.{mod-eq_of_lt}
use native.Mathlib.Omega.{arith}
use mathlib.Core.Path.{◌≡◌, sym, ap, ◌∙◌}
use mathlib.Core.Bool.{Bool, true, false, not, ◌&&◌, true≢false}
use mathlib.Core.List.{List, [], ◌∷◌}
use borrow.Author.Tests.{eqb-true, not-true}
use lib.Dec.{eqb, ltb, lit<}
use lib.ListN.{length, get_or, take, drop, replicate, length-take, length-drop}
use lib.Seq.{take_at, take-append-le, take-take, get_or-take, get_or-drop, length-take-le}
use Rattle.bits.specs.Bits.{bits, number, stream}
use Rattle.crc.specs.Crc.{crc16, agrees}
use Rattle.bits.proofs.Digits.{length-bits, bits-number, number-bits, digit-lt}
use Rattle.crc.proofs.Words.{crc4-lt}
use Rattle.bits.specs.Lines.{words, AreWords}
use Rattle.link.specs.Damage.{Flips, flipped, filled}
use Rattle.bits.proofs.Lines.{stream-words, words-below, words-two}
use Rattle.link.proofs.Laws.{length-flipped, length-filled, filled-kept}
use Rattle.link.proofs.Spoilt.{token-same, behind-token}
use Rattle.rules.specs.Rules.{message_words}
use Rattle.token.specs.Command.{command_fits, command_first, command_second}
use Rattle.token.specs.Marks.{at, with_check}
use Rattle.token.specs.Response.{response_first, response_upper, response_second, good_response, response_fields, response_read, any_set}
use Rattle.token.specs.declared.command.Command.{Command}
use Rattle.token.specs.declared.response.Response.{Response}
use Rattle.token.proofs.Good.{both, good-response}
use Rattle.token.proofs.ResponseTrip.{response-good, response-fields}
use Rattle.card.specs.Exchange.{response_of}
use Rattle.card.specs.declared.Card.{Card}
use Rattle.controller.specs.Reader.{read_refusal, token_good, payload_good, fields_read, answer_read}
use Rattle.controller.specs.Sure.{read_good, passes, is_token, confirms}
use Rattle.delivery.proofs.Judged.{response-check}
use Rattle.delivery.proofs.Heard.{r₁, r₂, full, mute, full-long, mute-long, Got, got_filled, got_turned, got_muted}

-- ---- what a reading of five words tells

module _ (ws : List ℕ) (five : length ws ≡ 5) where
  pub read-good : read_good ws ≡ (good_response (get_or ws 0 0) (get_or ws 1 0) && agrees 2 (drop 2 ws))
  unfolding read_good answer_read read_refusal message_words payload_good token_good response_read
  read-good = rw (five, read_good)

  pub read-fields : good_response (get_or ws 0 0) (get_or ws 1 0) ≡ true → (answer_read 2 ws).fields ≡ response_fields (get_or ws 0 0) (get_or ws 1 0)
  unfolding answer_read read_refusal message_words fields_read response_read
  read-fields good = rw (five, good)

  -- a first READBACK that passes has a good token
  pub passes-good : passes ws ≡ true → good_response (get_or ws 0 0) (get_or ws 1 0) ≡ true
  unfolding passes
  passes-good h = (both (good_response (get_or ws 0 0) (get_or ws 1 0)) _ (sym read-good ∙ (both (read_good ws) _ h).0)).0

-- an answer that confirms a token
pub record Confirmed (t : Command) (ws : List ℕ) : Type 0 where
  pub good : good_response (get_or ws 0 0) (get_or ws 1 0) ≡ true
  pub agree : crc16 (take 2 (drop 2 ws)) ≡ get_or (drop 2 ws) 2 0
  pub status : any_set (response_fields (get_or ws 0 0) (get_or ws 1 0)).status ≡ false
  pub first : get_or ws 2 0 ≡ command_first t
  pub second : get_or ws 3 0 ≡ command_second t

pub confirmed : (t : Command) (ws : List ℕ) → length ws ≡ 5 → confirms t ws ≡ true → Confirmed t ws
unfolding confirms is_token any_set agrees
confirmed t ws five h =
    let fields : Response = (answer_read 2 ws).fields in
    let (read, token) = both (read_good ws && not (any_set fields.status)) (is_token t (get_or ws 2 0) (get_or ws 3 0)) h in
    let (front, second) = both (command_fits t && eqb (get_or ws 2 0) (command_first t)) (eqb (get_or ws 3 0) (command_second t)) token in
    let (_, first) = both (command_fits t) (eqb (get_or ws 2 0) (command_first t)) front in
    let (ok, status) = both (read_good ws) (not (any_set fields.status)) read in
    let (good, agree) = both (good_response (get_or ws 0 0) (get_or ws 1 0)) (agrees 2 (drop 2 ws)) (sym (read-good ws five) ∙ ok) in
    record {
      good = good;
      agree = eqb-true _ _ (both (ltb 2 (length (drop 2 ws))) _ agree).1;
      status = sym (ap (λ (f : Response). any_set f.status) (read-fields ws five good)) ∙ not-true _ status;
      first = eqb-true _ _ first;
      second = eqb-true _ _ second;
    }

-- ---- the card's own response token

module _ (c : Card) (fits : c.module_state ≤ 15) where
  -- the status stands in the first word
  pub response-status : (second : ℕ) → (response_fields (r₁ c) second).status ≡ c.port.status
  unfolding response_fields
  response-status second = ap (λ (f : Response). f.status) (response-fields (response_of c) fits)

  pub response-below : (r₁ c < 65536) × (r₂ c < 65536)
  unfolding response_first response_second with_check
  response-below = (
    omega (arith, fits, digit-lt c.stf, digit-lt c.port.status.me, digit-lt c.port.status.ar, digit-lt c.port.status.ic),
    omega (arith, crc4-lt (r₁ c) response_upper),
  )

  own-below : AreWords (r₁ c ∷ r₂ c ∷ [])
  unfolding AreWords
  own-below zero = response-below.0
  own-below (suc zero) = response-below.1
  own-below (suc (suc i)) = lit< tt

-- ---- bits of the words read

word-bit : (line : List Bool) (p i : ℕ) → p + 16 ≤ length line → i < 16 → get_or line (p + i) false ≡ get_or (bits 16 (number (take 16 (drop p line)))) i false
word-bit line p i h hi =
    let long : length (take 16 (drop p line)) ≡ 16 = length-take-le 16 (drop p line) (omega (arith, length-drop p line)) in
    sym (get_or-take 16 (drop p line) i false hi ∙ get_or-drop p line i false)
    ∙ ap (λ (x : List Bool). get_or x i false) (sym (rw long at (bits-number (take 16 (drop p line)))))

-- a response word 2 begins with 1 and 0
prefix-bits : (w : ℕ) → at 15 14 w ≡ 0b10 → get_or (bits 16 w) 0 false ≡ get_or (bits 16 w) 1 false → ⊥
unfolding bits
prefix-bits w h e =
    let a : w / 32768 % 2 ≡ 1 = omega arith in
    let b : w / 16384 % 2 ≡ 0 = omega arith in
    true≢false (rw (a, b) at e)

pub length-got : (c : Card) (line got : List Bool) → Got c line got → length got ≡ 80
length-got c line got (got_filled k fill p e) = ap length e ∙ length-filled k fill 80 (stream 16 (full c)) (full-long c)
length-got c line got (got_turned j p e) = ap length e ∙ length-flipped j (stream 16 (full c)) ∙ full-long c
length-got c line got (got_muted j p e) = ap length e ∙ length-flipped j (stream 16 (mute c)) ∙ mute-long c

module _ (c : Card) (fits : c.module_state ≤ 15) (line got : List Bool) (long : length got ≡ 80)
    (good : good_response (get_or (words 5 got) 0 0) (get_or (words 5 got) 1 0) ≡ true) where
  -- with a bit turned over: the check tells
  turned-first : (rest : List ℕ) (j : Flips) → got ≡ flipped j (stream 16 (r₁ c ∷ r₂ c ∷ rest)) → get_or (words 5 got) 0 0 ≡ r₁ c
  unfolding words
  turned-first rest j e =
      (token-same (r₁ c) (r₂ c) rest (get_or (words 5 got) 0 0) (get_or (words 5 got) 1 0) (drop 2 (words 5 got))
      (behind-token _ _ rest _ _ (drop 2 (words 5 got)) j (stream-words 5 got long ∙ e))
      (own-below c fits) (words-two _ _ _ (words-below 5 got)) (response-check _ _ (response-good (response_of c) fits)) (response-check _ _ good)).0

  -- filled up: the first two bits of word 2 differ, so the cut lies behind word 1
  filled-first : (k : ℕ) (fill : Bool) → got ≡ filled k fill 80 (stream 16 (full c)) → (get_or (words 5 got) 0 0 ≡ r₁ c) × (16 < k)
  unfolding words filled stream full
  filled-first k fill e =
      let s : List Bool = stream 16 (full c) in
      let far : 16 < k
      = filled-kept k fill 80 s 16 17 (full-long c) (lit< tt) (lit< tt)
      (λ q. prefix-bits (get_or (words 5 got) 1 0) (good-response _ _ good).prefixes.1
      (sym (word-bit got 16 0 (omega arith) (lit< tt))
      ∙ ap (λ (x : List Bool). get_or x 16 false) e
      ∙ q
      ∙ ap (λ (x : List Bool). get_or x 17 false) (sym e)
      ∙ word-bit got 16 1 (omega arith) (lit< tt))) in
      let front : take 16 got ≡ bits 16 (r₁ c)
      = ap (take 16) e
      ∙ take-append-le 16 (take k s) (replicate (80 - k) fill) (omega (arith, length-take k s, full-long c))
      ∙ take-take 16 k s (omega arith)
      ∙ take_at (bits 16 (r₁ c)) _ 16 (length-bits 16 (r₁ c)) in
      (ap number front ∙ number-bits 16 (r₁ c) ∙ mod-eq_of_lt (response-below c fits).0, far)

  pub own-first : Got c line got → (get_or (words 5 got) 0 0 ≡ r₁ c) × (line ≡ [] → ⊥)
  unfolding full mute
  own-first (got_filled k fill none_seen e) =
      let (same, far) = filled-first k fill e in
      (same, λ n. let z : k ≡ 0 = none_seen n in omega arith)
  own-first (got_turned j some-seen e) = (turned-first _ j e, some-seen)
  own-first (got_muted j some-seen e) = (turned-first _ j e, some-seen)
