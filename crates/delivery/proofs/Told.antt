-- A card whose last token is READBACK's does not confirm another command's.
-- Assumes nothing.
use Prim.Native.Nat.{ℕ, zero, suc, ◌+◌, ◌*◌, ◌/◌, ◌%◌, ◌<◌}
use native.Mathlib.Omega.{arith}
use mathlib.Core.Path.{◌≡◌, refl, sym, ap, ap₂, ◌∙◌}
use mathlib.Core.Bool.{Bool, true, false, true≢false}
use mathlib.Core.List.{List, [], ◌∷◌}
use borrow.Author.Tests.{eqb-true, eqb-false}
use lib.Dec.{eqb, lit<}
use lib.ListN.{length, get_or, drop, replicate, get_or-append}
use lib.Seq.{get_or-drop}
use Rattle.bits.specs.Bits.{digit, bits, number, stream}
use Rattle.crc.specs.Crc.{shift, step, feed, crc, taps16, crc16, crc16_after}
use Rattle.crc.proofs.Words.{crc4-lt, crc16-lt}
use Rattle.bits.specs.Lines.{words, AreWords}
use Rattle.link.specs.Damage.{Flips, flipped, filled}
use Rattle.bits.proofs.Lines.{stream-words, words-below, words-more}
use Rattle.link.proofs.Laws.{filled-before, filled-kept}
use Rattle.link.proofs.Spoilt.{payload-kept, behind-token}
use Rattle.rules.specs.Rules.{readback}
use Rattle.token.specs.Command.{command_first, command_upper, command_second, command_token}
use Rattle.token.specs.Marks.{with_check}
use Rattle.token.specs.declared.command.Command.{Command}
use Rattle.token.specs.declared.command.CommandToken.{CommandToken}
use Rattle.token.proofs.CommandTrip.{CommandFits, limits, first-below, second-below}
use Rattle.card.specs.declared.Card.{Card}
use Rattle.controller.specs.Sure.{readback_command}
use Rattle.delivery.proofs.Judged.{readback-fits}
use Rattle.delivery.proofs.Heard.{rb₁, rb₂, r₁, r₂, full, mute, full-long, Got, got_filled, got_turned, got_muted}
use Rattle.delivery.proofs.Read.{Confirmed}

-- a bit of a token's 32
abbrev pub token_bit : Command → ℕ → Bool
token_bit t i = get_or (stream 16 (command_first t ∷ command_second t ∷ [])) i false

-- a token is told from READBACK's, cut or not: some bit of it is not READBACK's, and a later bit is the other way
pub record Told (t : Command) : Type 0 where
  pub place : ℕ
  pub later : ℕ
  pub behind : place < later
  pub inside : later < 32
  pub other : token_bit t place ≡ token_bit readback_command place → ⊥
  pub turns : token_bit t place ≡ token_bit t later → ⊥

-- every command with another code is: behind a 0 of its code come the spare bits, which are 1, and behind a 1 comes word 2, which begins with 0
module _ (t : Command) (fits : CommandFits t) where
  spare-set : token_bit t 8 ≡ true
  unfolding stream bits command_first
  spare-set = let a : command_first t / 128 % 2 ≡ 1 = omega (arith, limits t fits) in rw a

  second-clear : token_bit t 16 ≡ false
  unfolding stream bits command_second with_check command_upper
  second-clear =
      let a : command_second t / 32768 % 2 ≡ 0 = omega (arith, limits t fits, crc4-lt (command_first t) (command_upper t)) in
      rw a

  told-at : (i : ℕ) → i < 8 → (token_bit t i ≡ token_bit readback_command i → ⊥) → Told t
  told-at i h differ = go (token_bit t i) refl
    where
      go : (b : Bool) → token_bit t i ≡ b → Told t
      go true e =
          record { place = i; later = 16; behind = omega arith; inside = lit< tt; other = differ; turns = λ q. true≢false (sym e ∙ q ∙ second-clear) }
      go false e =
          record { place = i; later = 8; behind = h; inside = lit< tt; other = differ; turns = λ q. true≢false (sym spare-set ∙ sym q ∙ e) }

  pub told : (t.code ≡ readback.code → ⊥) → Told t
  unfolding stream bits command_first
  told other =
      go (token_bit t 2) (token_bit t 3) (token_bit t 4) (token_bit t 5) (token_bit t 6) (token_bit t 7) refl refl refl refl refl refl
    where
      bit : (n : ℕ) (b : Bool) → eqb (n % 2) 1 ≡ b → n % 2 ≡ digit b
      bit n true e = eqb-true (n % 2) 1 e
      bit n false e = let z : n % 2 ≡ 1 → ⊥ = eqb-false (n % 2) 1 e in omega arith

      go : (a b c d e f : Bool) → token_bit t 2 ≡ a → token_bit t 3 ≡ b → token_bit t 4 ≡ c → token_bit t 5 ≡ d → token_bit t 6 ≡ e → token_bit t 7 ≡ f → Told t
      go true b c d e f p₂ p₃ p₄ p₅ p₆ p₇ = told-at 2 (lit< tt) (λ q. true≢false (sym p₂ ∙ q))
      go false true c d e f p₂ p₃ p₄ p₅ p₆ p₇ = told-at 3 (lit< tt) (λ q. true≢false (sym p₃ ∙ q))
      go false false false d e f p₂ p₃ p₄ p₅ p₆ p₇ = told-at 4 (lit< tt) (λ q. true≢false (sym q ∙ p₄))
      go false false true true e f p₂ p₃ p₄ p₅ p₆ p₇ = told-at 5 (lit< tt) (λ q. true≢false (sym p₅ ∙ q))
      go false false true false false f p₂ p₃ p₄ p₅ p₆ p₇ = told-at 6 (lit< tt) (λ q. true≢false (sym q ∙ p₆))
      go false false true false true true p₂ p₃ p₄ p₅ p₆ p₇ = told-at 7 (lit< tt) (λ q. true≢false (sym p₇ ∙ q))
      go false false true false true false p₂ p₃ p₄ p₅ p₆ p₇ =
          let w : ℕ = command_first t in
          let code : w / 256 ≡ 64 + t.code = omega (arith, limits t fits) in
          let h₇ : w / 256 ≡ w / 512 * 2 = omega (arith, bit (w / 256) _ p₇) in
          let h₆ : w / 512 ≡ w / 1024 * 2 + 1 = omega (arith, bit (w / 512) _ p₆) in
          let h₅ : w / 1024 ≡ w / 2048 * 2 = omega (arith, bit (w / 1024) _ p₅) in
          let h₄ : w / 2048 ≡ w / 4096 * 2 + 1 = omega (arith, bit (w / 2048) _ p₄) in
          let h₃ : w / 4096 ≡ w / 8192 * 2 = omega (arith, bit (w / 4096) _ p₃) in
          let h₂ : w / 8192 ≡ w / 16384 * 2 = omega (arith, bit (w / 8192) _ p₂) in
          let h₁ : w / 16384 ≡ 1 = omega (arith, limits t fits) in
          absurd (other (omega arith))

-- ---- the two answers' payloads

readback-payload : AreWords (rb₁ ∷ rb₂ ∷ crc16 (rb₁ ∷ rb₂ ∷ []) ∷ [])
unfolding AreWords
readback-payload zero = first-below readback_command readback-fits
readback-payload (suc zero) = second-below readback_command readback-fits
readback-payload (suc (suc zero)) = crc16-lt 0 (rb₁ ∷ rb₂ ∷ [])
readback-payload (suc (suc (suc i))) = lit< tt

zeros-payload : AreWords (0 ∷ 0 ∷ 0 ∷ [])
unfolding AreWords
zeros-payload zero = lit< tt
zeros-payload (suc zero) = lit< tt
zeros-payload (suc (suc zero)) = lit< tt
zeros-payload (suc (suc (suc i))) = lit< tt

zeros-bit : (n i : ℕ) → get_or (replicate n false) i false ≡ false
zeros-bit zero i = refl
zeros-bit (suc n) zero = refl
zeros-bit (suc n) (suc i) = zeros-bit n i

-- the 32 bits of two zero words
zero-bits : (i : ℕ) → get_or (stream 16 (0 ∷ 0 ∷ [])) i false ≡ false
unfolding stream bits
zero-bits i = zeros-bit 32 i

zeros-check : crc16 (0 ∷ 0 ∷ []) ≡ 0
unfolding crc16_after stream crc feed step shift number bits taps16
zeros-check = refl

-- the token in an answer of five words
token-at : (a b first second : ℕ) (rest : List ℕ) (i : ℕ) → i < 32
    → get_or (stream 16 (a ∷ b ∷ first ∷ second ∷ rest)) (32 + i) false ≡ get_or (stream 16 (first ∷ second ∷ [])) i false
unfolding stream bits
token-at a b first second rest i h =
    sym (get_or-drop 32 (stream 16 (a ∷ b ∷ first ∷ second ∷ rest)) i false)
    ∙ get_or-append (stream 16 (first ∷ second ∷ [])) (stream 16 rest) false i h

-- a bit of READBACK's token, in the answer of a card whose last token it is
readback-bit : (c : Card) (i : ℕ) → i < 32 → c.port.last ≡ command_token readback_command
    → get_or (stream 16 (full c)) (32 + i) false ≡ token_bit readback_command i
unfolding full
readback-bit c i h l =
    token-at (r₁ c) (r₂ c) c.port.last.first c.port.last.second _ i h
    ∙ ap (λ (x : CommandToken). get_or (stream 16 (x.first ∷ x.second ∷ [])) i false) l

module _ (c : Card) (line got : List Bool) (long : length got ≡ 80) (t : Command) (told : Told t) (is : Confirmed t (words 5 got)) where
  -- a payload with a bit turned over: the check tells
  turned-payload : (a b d : ℕ) (j : Flips) → AreWords (a ∷ b ∷ d ∷ []) → got ≡ flipped j (stream 16 (r₁ c ∷ r₂ c ∷ a ∷ b ∷ d ∷ [])) → crc16 (a ∷ b ∷ []) ≡ d
      → (command_first t ≡ a) × (command_second t ≡ b)
  unfolding words
  turned-payload a b d j h e check =
      let parts =
      behind-token (r₁ c) (r₂ c) (a ∷ b ∷ d ∷ []) (get_or (words 5 got) 0 0) (get_or (words 5 got) 1 0) (drop 2 (words 5 got)) j (stream-words 5 got long ∙ e) in
      let same : drop 2 (words 5 got) ≡ a ∷ b ∷ d ∷ []
      = payload-kept 2 (a ∷ b ∷ d ∷ []) (drop 2 (words 5 got)) refl refl h (words-more _ _ _ (words-below 5 got)) parts.back check is.agree in
      (sym is.first ∙ ap (λ (l : List ℕ). get_or l 0 0) same, sym is.second ∙ ap (λ (l : List ℕ). get_or l 1 0) same)

  -- a bit of the token that was read
  third-bit : (i : ℕ) → i < 32 → get_or got (32 + i) false ≡ token_bit t i
  unfolding words
  third-bit i h =
      ap (λ (x : List Bool). get_or x (32 + i) false) (sym (stream-words 5 got long))
      ∙ token-at (get_or (words 5 got) 0 0) (get_or (words 5 got) 1 0) (get_or (words 5 got) 2 0) (get_or (words 5 got) 3 0) (drop 4 (words 5 got)) i h
      ∙ ap₂ (λ (x y : ℕ). get_or (stream 16 (x ∷ y ∷ [])) i false) is.first is.second

  pub not-readback : Got c line got → c.port.last ≡ command_token readback_command → ⊥
  unfolding full mute
  not-readback (got_filled k fill p e) l =
      let i : ℕ = told.place in
      let j : ℕ = told.later in
      let s : List Bool = stream 16 (full c) in
      let small : j < 32 = told.inside in
      let before : i < j = told.behind in
      let as-got : (p : ℕ) → get_or got p false ≡ get_or (filled k fill 80 s) p false = λ p. ap (λ (x : List Bool). get_or x p false) e in
      let far : 32 + i < k
      = filled-kept k fill 80 s (32 + i) (32 + j) (full-long c) (omega arith) (omega arith)
      (λ q. told.turns (sym (third-bit i (omega arith)) ∙ as-got (32 + i) ∙ q ∙ sym (as-got (32 + j)) ∙ third-bit j small)) in
      told.other
      (sym (third-bit i (omega arith)) ∙ as-got (32 + i) ∙ filled-before k fill 80 s (32 + i) (full-long c) (omega arith) far ∙ readback-bit c i (omega arith) l)
  not-readback (got_turned j p e) l =
      let (same, same₂) : (command_first t ≡ rb₁) × (command_second t ≡ rb₂)
      = turned-payload rb₁ rb₂ _ j readback-payload
      (e ∙ ap (λ (x : CommandToken). flipped j (stream 16 (r₁ c ∷ r₂ c ∷ x.first ∷ x.second ∷ crc16 (x.first ∷ x.second ∷ []) ∷ []))) l) refl in
      told.other (ap₂ (λ (x y : ℕ). get_or (stream 16 (x ∷ y ∷ [])) told.place false) same same₂)
  not-readback (got_muted j p e) l =
      let (same, same₂) : (command_first t ≡ 0) × (command_second t ≡ 0) = turned-payload 0 0 0 j zeros-payload e zeros-check in
      let none-set : (i : ℕ) → token_bit t i ≡ false
      = λ i. ap₂ (λ (x y : ℕ). get_or (stream 16 (x ∷ y ∷ [])) i false) same same₂ ∙ zero-bits i in
      told.turns (none-set told.place ∙ sym (none-set told.later))
