-- What the controller hears of a READBACK's answer.
-- Assumes nothing.
use Prim.Native.Nat.{ℕ, zero, suc, ◌-◌, ◌*◌, ◌/◌, ◌≤◌, min}
use native.Mathlib.Omega.{arith}
use native.Mathlib.Nat.{zero-min, min-zero, suc-min-suc}
use mathlib.Core.Path.{◌≡◌, refl, sym, ap, ap₂, ◌∙◌}
use mathlib.Core.Bool.{Bool, true, false}
use mathlib.Core.Logic.{◌⊎◌, inl, inr, ⊎_elim}
use mathlib.Core.List.{List, [], ◌∷◌, ◌++◌}
use lib.Dec.{lit≤}
use lib.ListN.{length, take, drop, replicate, length-take, take-append-drop}
use lib.Seq.{take-append-le, take_all, take-take}
use Rattle.bits.specs.Bits.{number, stream}
use Rattle.crc.specs.Crc.{crc16}
use Rattle.bits.proofs.Lines.{stream-append, length-stream, stream-words, words-take, words-below, words-two}
use Rattle.bits.specs.Lines.{words, whole_words, AreWords}
use Rattle.link.specs.Damage.{Flips, Damage, unseen, cut, bits_flipped, flipped, filled, undamaged}
use Rattle.link.proofs.Laws.{none-flipped, length-flipped}
use Rattle.link.proofs.Spoilt.{behind-token, token-same}
use Rattle.rules.specs.Rules.{message_words}
use Rattle.token.specs.Command.{command_first, command_second}
use Rattle.token.specs.Response.{response_first, response_second, any_set}
use Rattle.token.proofs.CommandTrip.{command-fields}
use Rattle.judge.specs.Judge.{token_status}
use Rattle.card.specs.Exchange.{response_of, readback_word, passed_word, payload_word, next_word}
use Rattle.card.specs.declared.Card.{Card}
use Rattle.controller.specs.Builder.{is_reading, payload, message}
use Rattle.controller.specs.Sure.{readback_command}
use Rattle.card.specs.Whole.{listened, sent_bits, heard}
use Rattle.delivery.specs.Play.{crossed}
use Rattle.card.proofs.Holding.{Idle, room, holding, push, spoken, spoken-before}
use Rattle.card.proofs.Closed.{closed}
use Rattle.delivery.proofs.Judged.{passed-check, built-check, readback-fits, readback-passes}
use Rattle.delivery.proofs.Ended.{sent, seen}
use Rattle.delivery.proofs.Effects.{readback_line, readback-sendable}

-- the card's own response token
abbrev pub r₁ : Card → ℕ
r₁ c = response_first (response_of c)

abbrev pub r₂ : Card → ℕ
r₂ c = response_second (response_of c)

-- the answer to a READBACK, and to a message whose token is refused
unfoldable pub full : Card → List ℕ
full c = r₁ c ∷ r₂ c ∷ c.port.last.first ∷ c.port.last.second ∷ crc16 (c.port.last.first ∷ c.port.last.second ∷ []) ∷ []

unfoldable pub mute : Card → List ℕ
mute c = r₁ c ∷ r₂ c ∷ 0 ∷ 0 ∷ 0 ∷ []

-- READBACK's own two words
abbrev pub rb₁ : ℕ
rb₁ = command_first readback_command

abbrev pub rb₂ : ℕ
rb₂ = command_second readback_command

spoken-full : (c : Card) (memory : List ℕ) (x y z : ℕ) → spoken c memory [] 0 (rb₁ ∷ rb₂ ∷ x ∷ y ∷ z ∷ []) ≡ full c ++ (0 ∷ [])
unfolding spoken push holding room next_word payload_word passed_word readback_word full
spoken-full c memory x y z = rw (readback-passes c.size c.bases, command-fields readback_command readback-fits)

spoken-mute : (c : Card) (memory : List ℕ) (a b x y z : ℕ) → any_set (token_status c.size c.bases a b) ≡ true
    → spoken c memory [] 0 (a ∷ b ∷ x ∷ y ∷ z ∷ []) ≡ mute c ++ (0 ∷ [])
unfolding spoken push holding room next_word payload_word mute
spoken-mute c memory a b x y z h = rw h

-- ---- the line of a READBACK

readback-words : message readback_command [] ≡ rb₁ ∷ rb₂ ∷ 0 ∷ 0 ∷ 0 ∷ []
unfolding message payload is_reading message_words
readback-words = refl

readback-long : length readback_line ≡ 80
readback-long = length-stream (message readback_command []) ∙ ap (λ (ws : List ℕ). length ws * 16) readback-words

take-min : (k : ℕ) (l : List Bool) → take (min k (length l)) l ≡ take k l
take-min zero l = rw zero-min
take-min (suc k) [] = rw min-zero
take-min (suc k) (x ∷ l) = rw suc-min-suc (ap (λ (t : List Bool). x ∷ t) (take-min k l))

-- the first bits are those of the first words
stream-front : (k n : ℕ) (ws : List ℕ) → k ≤ n * 16 → k ≤ length ws * 16 → take k (stream 16 (take n ws)) ≡ take k (stream 16 ws)
stream-front k n ws h g =
    let long : length (stream 16 (take n ws)) ≡ min n (length ws) * 16 = length-stream (take n ws) ∙ ap (λ (x : ℕ). x * 16) (length-take n ws) in
    sym (take-append-le k (stream 16 (take n ws)) (stream 16 (drop n ws)) (omega arith))
    ∙ ap (take k) (sym (stream-append 16 (take n ws) (drop n ws)) ∙ ap (stream 16) (take-append-drop n ws))

pub full-long : (c : Card) → length (stream 16 (full c)) ≡ 80
unfolding full
full-long c = length-stream (full c)

pub mute-long : (c : Card) → length (stream 16 (mute c)) ≡ 80
unfolding mute
mute-long c = length-stream (mute c)

-- one word more does not show
not-shown : (ws : List ℕ) (k : ℕ) → k ≤ length (stream 16 ws) → take k (stream 16 (ws ++ (0 ∷ []))) ≡ take k (stream 16 ws)
not-shown ws k h = ap (take k) (stream-append 16 ws (0 ∷ [])) ∙ take-append-le k (stream 16 ws) _ h

-- ---- the line that the card saw, and what the controller got: the full answer, filled from a cut on, or with a bit flipped; or the mute one

pub data Got (c : Card) (line got : List Bool) : Type 0 where
  got_filled : (k : ℕ) (fill : Bool) → (line ≡ [] → k ≡ 0) → got ≡ filled k fill 80 (stream 16 (full c)) → Got c line got
  got_turned : (j : Flips) → (line ≡ [] → ⊥) → got ≡ flipped j (stream 16 (full c)) → Got c line got
  got_muted : (j : Flips) → (line ≡ [] → ⊥) → got ≡ flipped j (stream 16 (mute c)) → Got c line got

module _ (c : Card) (memory : List ℕ) (idle : Idle c memory) where
  sent-spoken : (line : List Bool) → sent_bits c memory line ≡ take (length line) (stream 16 (spoken c memory [] 0 (whole_words line)))
  unfolding sent_bits listened
  sent-spoken line = ap (λ (ws : List ℕ). take (length line) (stream 16 ws)) (closed c memory idle (whole_words line) 0 (lit≤ tt)).sends

  -- of any cut the card sends the first bits of its full answer
  cut-bits : (k : ℕ) → sent_bits c memory (take k readback_line) ≡ take k (stream 16 (full c))
  unfolding whole_words full
  cut-bits k =
      let l : List Bool = take k readback_line in
      let n : ℕ = length l / 16 in
      let ws : List ℕ = rb₁ ∷ rb₂ ∷ 0 ∷ 0 ∷ 0 ∷ [] in
      let long : length l ≡ min k 80 = length-take k readback_line ∙ ap (min k) readback-long in
      let some_words : whole_words l ≡ take n ws
      = ap (λ (x : List ℕ). words n (take k (stream 16 x))) readback-words ∙ words-take n ws k below (omega arith) (omega arith) in
      sent-spoken l
      ∙ ap (λ (x : List ℕ). take (length l) (stream 16 (spoken c memory [] 0 x))) some_words
      ∙ ap (λ (x : List ℕ). take (length l) (stream 16 x)) (spoken-before c memory idle n [] 0 ws (omega arith) ∙ ap (take (suc n)) (spoken-full c memory 0 0 0))
      ∙ stream-front (length l) (suc n) (full c ++ (0 ∷ [])) (omega arith) (omega arith)
      ∙ not-shown (full c) (length l) (omega (arith, full-long c))
      ∙ ap (λ (x : ℕ). take x (stream 16 (full c))) (long ∙ ap (min k) (sym (full-long c)))
      ∙ take-min k (stream 16 (full c))
    where
      below : AreWords (rb₁ ∷ rb₂ ∷ 0 ∷ 0 ∷ 0 ∷ [])
      below = unfold payload is_reading message_words in readback-sendable.below

  -- a token with a bit turned over is refused, and then the card sends zeros
  flipped-bits : (i : Flips) → (sent_bits c memory (flipped i readback_line) ≡ stream 16 (full c)) ⊎ (sent_bits c memory (flipped i readback_line) ≡ stream 16 (mute c))
  unfolding whole_words words
  flipped-bits i = go (any_set (token_status c.size c.bases a b)) refl
    where
      l : List Bool
      l = flipped i readback_line

      long : length l ≡ 80
      long = length-flipped i readback_line ∙ readback-long

      five : whole_words l ≡ words 5 l
      five = let n : length l / 16 ≡ 5 = omega (arith, long) in ap (λ (n : ℕ). words n l) n

      a : ℕ
      a = number (take 16 l)

      b : ℕ
      b = number (take 16 (drop 16 l))

      line : stream 16 (words 5 l) ≡ flipped i (stream 16 (rb₁ ∷ rb₂ ∷ 0 ∷ 0 ∷ 0 ∷ []))
      line = stream-words 5 l (omega (arith, long)) ∙ ap (λ (x : List ℕ). flipped i (stream 16 x)) readback-words

      bits-are : (ws : List ℕ) → length (stream 16 ws) ≡ 80 → spoken c memory [] 0 (words 5 l) ≡ ws ++ (0 ∷ []) → sent_bits c memory l ≡ stream 16 ws
      bits-are ws n e =
          sent-spoken l
          ∙ ap (λ (x : List ℕ). take (length l) (stream 16 (spoken c memory [] 0 x))) five
          ∙ ap (λ (x : List ℕ). take (length l) (stream 16 x)) e
          ∙ not-shown ws (length l) (omega (arith, long, n))
          ∙ take_all (length l) (stream 16 ws) (omega (arith, long, n))

      go : (x : Bool) → any_set (token_status c.size c.bases a b) ≡ x
          → (sent_bits c memory l ≡ stream 16 (full c)) ⊎ (sent_bits c memory l ≡ stream 16 (mute c))
      go true e = inr (bits-are (mute c) (mute-long c) (spoken-mute c memory a b _ _ _ e))
      go false e =
          let (p, q) =
          token-same rb₁ rb₂ (0 ∷ 0 ∷ 0 ∷ []) a b (drop 2 (words 5 l)) (behind-token _ _ _ a b (drop 2 (words 5 l)) i line)
          (words-two _ _ _ readback-sendable.below) (words-two a b _ (words-below 5 l)) (built-check readback_command readback-fits) (passed-check _ _ a b e) in
          inl (bits-are (full c) (full-long c) (ap₂ (λ (x y : ℕ). spoken c memory [] 0 (x ∷ y ∷ drop 2 (words 5 l))) p q ∙ spoken-full c memory _ _ _))

  pub readback-heard : (d : Damage) → Got c (seen d readback_line) (sent readback_command [] d c memory).got
  unfolding seen sent crossed heard filled
  readback-heard (unseen fill) = got_filled 0 fill (λ e. refl) (ap (λ (n : ℕ). replicate n fill) readback-long)
  readback-heard (cut k fill) =
      got_filled k fill (λ e. let z : length (take k readback_line) ≡ 0 = ap length e in omega (arith, length-take k readback_line, readback-long))
      (ap₂ (λ (x : List Bool) (n : ℕ). take k x ++ replicate (n - k) fill) (cut-bits k) readback-long
      ∙ ap (λ (x : List Bool). x ++ replicate (80 - k) fill) (take-take k k (stream 16 (full c)) (omega arith)))
  readback-heard (bits_flipped i j) =
      let some_bits : flipped i readback_line ≡ [] → ⊥
      = λ e. let z : length (flipped i readback_line) ≡ 0 = ap length e in omega (arith, length-flipped i readback_line, readback-long) in
      ⊎_elim (λ e. got_turned j some_bits (ap (flipped j) e)) (λ e. got_muted j some_bits (ap (flipped j) e)) (flipped-bits i)

  -- without damage it is the whole answer
  pub undamaged-got : (sent readback_command [] undamaged c memory).got ≡ stream 16 (full c)
  unfolding sent crossed heard
  undamaged-got =
      none-flipped _
      ∙ ap (sent_bits c memory) (none-flipped readback_line ∙ sym (take_all 80 readback_line (omega (arith, readback-long))))
      ∙ cut-bits 80
      ∙ take_all 80 (stream 16 (full c)) (omega (arith, full-long c))
