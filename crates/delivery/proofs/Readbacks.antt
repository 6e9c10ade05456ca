-- What one READBACK tells, damaged or not.
-- Assumes nothing.
use Prim.Native.Nat.{ℕ, zero, suc, ◌/◌, ◌%◌}
use native.Mathlib.Nat.{mod-eq_of_lt, mod-lt}
use native.Mathlib.Omega.{arith}
use mathlib.Core.Path.{◌≡◌, refl, sym, ap, ◌∙◌}
use mathlib.Core.Bool.{Bool, true, false, not}
use mathlib.Core.Logic.{◌⊎◌, inl, inr}
use mathlib.Core.List.{List, [], ◌∷◌, append-nil}
use borrow.Author.Tests.{eq-eqb}
use lib.Dec.{lit<}
use lib.ListN.{length}
use Rattle.bits.specs.Bits.{stream}
use Rattle.crc.specs.Crc.{crc4, crc16, crc16_after, agrees}
use Rattle.bits.proofs.Digits.{bits-mod}
use Rattle.crc.proofs.Words.{crc16-lt}
use Rattle.bits.specs.Lines.{words, AreWords}
use Rattle.link.specs.Damage.{Damage, undamaged}
use Rattle.bits.proofs.Lines.{length-words, words-stream}
use Rattle.token.specs.Command.{command_first, command_second, command_token, command_marks, good_command}
use Rattle.token.specs.Marks.{at, check_right, good_marks}
use Rattle.token.specs.Response.{clean, good_response, any_set}
use Rattle.token.specs.declared.response.Status.{Status}
use Rattle.token.specs.declared.command.Command.{Command}
use Rattle.token.specs.declared.command.CommandToken.{CommandToken}
use Rattle.token.specs.declared.response.Response.{Response}
use Rattle.token.proofs.CommandTrip.{CommandFits, first-below, second-below}
use Rattle.token.proofs.ResponseTrip.{response-good}
use Rattle.card.specs.Release.{noted}
use Rattle.card.specs.Exchange.{response_of}
use Rattle.card.specs.declared.Card.{Card}
use Rattle.controller.specs.Reader.{answer_read}
use Rattle.controller.specs.Builder.{payload}
use Rattle.controller.specs.Sure.{readback_command, read_good, passes, is_token, confirms}
use Rattle.delivery.specs.Play.{Crossed}
use Rattle.card.proofs.Holding.{Idle}
use Rattle.card.proofs.Closed.{acted-last}
use Rattle.delivery.proofs.Ended.{Ended, ignored, refused, taken, sent, seen, sent-ended}
use Rattle.delivery.proofs.Effects.{readback_line, readback-sendable}
use Rattle.delivery.proofs.Heard.{r₁, r₂, full, readback-heard, undamaged-got}
use Rattle.delivery.proofs.Read.{read-good, read-fields, passes-good, Confirmed, confirmed, length-got, own-first, response-status, response-below}
use Rattle.delivery.proofs.Told.{Told, not-readback}

abbrev pub read_back : Damage → Card → List ℕ → Crossed Card
read_back = sent readback_command []

-- ---- with any damage

module _ (c : Card) (memory : List ℕ) (idle : Idle c memory) (d : Damage) where
  abbrev c₁ : Card
  c₁ = (read_back d c memory).side

  abbrev got : List Bool
  got = (read_back d c memory).got

  got-long : length got ≡ 80
  got-long = length-got c (seen d readback_line) got (readback-heard c memory idle d)

  -- a first READBACK that passes leaves a status that is set, or its own token as the last
  pub after-first : passes (words 5 got) ≡ true → (any_set c₁.port.status ≡ true) ⊎ (c₁.port.last ≡ command_token readback_command)
  unfolding noted
  after-first h = go (sent-ended readback_command [] readback-sendable c memory idle d)
    where
      some-seen : seen d readback_line ≡ [] → ⊥
      some-seen =
          (own-first c idle.ranged.module_state (seen d readback_line) got got-long (passes-good (words 5 got) (length-words 5 got) h)
          (readback-heard c memory idle d)).1

      go : Ended readback_command (payload readback_command []) c memory (seen d readback_line) c₁ (read_back d c memory).memory
          → (any_set c₁.port.status ≡ true) ⊎ (c₁.port.last ≡ command_token readback_command)
      go (ignored e p q) = absurd (some-seen e)
      go (refused e p q) = inl (ap (λ (x : Card). any_set x.port.status) p ∙ e)
      go (taken ws j same p q) = inr (ap (λ (x : Card). x.port.last) p ∙ acted-last c _ _ ws)

  -- a last READBACK that confirms a token was sent by a card with a clean status and another last token than READBACK's
  pub before-last : (t : Command) → Told t → confirms t (words 5 got) ≡ true
      → (any_set c.port.status ≡ false) × (c.port.last ≡ command_token readback_command → ⊥)
  before-last t told h =
      let is : Confirmed t (words 5 got) = confirmed t (words 5 got) (length-words 5 got) h in
      let own = (own-first c idle.ranged.module_state (seen d readback_line) got got-long is.good (readback-heard c memory idle d)).0 in (
        sym (ap any_set (response-status c idle.ranged.module_state _)) ∙ rw own at is.status,
        not-readback c (seen d readback_line) got got-long t told is (readback-heard c memory idle d),
      )

-- ---- without damage

-- what a line carries of a word: its low 16 bits. A card that was run from power-up may hold larger numbers as its last token.
abbrev low : ℕ → ℕ
low w = w % 65536

low-good : (a b : ℕ) → good_command a b ≡ true → good_command (low a) (low b) ≡ true
unfolding good_command good_marks command_marks check_right crc4
low-good a b h = rw (prefix a, prefix b, spare a, fixed b, last b, upper b, bits-mod 16 a, bits-mod 12 (b / 16)) h
  where
    prefix : (w : ℕ) → at 15 14 (low w) ≡ at 15 14 w
    prefix w = omega arith

    spare : (w : ℕ) → at 7 6 (low w) ≡ at 7 6 w
    spare w = omega arith

    fixed : (w : ℕ) → at 5 4 (low w) ≡ at 5 4 w
    fixed w = omega arith

    last : (w : ℕ) → at 3 0 (low w) ≡ at 3 0 w
    last w = omega arith

    upper : (w : ℕ) → low w / 16 ≡ w / 16 % 4096
    upper w = omega arith

-- the words that are read
shown : Card → List ℕ
shown c =
    r₁ c ∷ r₂ c ∷ low c.port.last.first ∷ low c.port.last.second
    ∷ crc16 (low c.port.last.first ∷ low c.port.last.second ∷ [])
    ∷ []

module _ (c : Card) (memory : List ℕ) (idle : Idle c memory) where
  shown-below : AreWords (shown c)
  unfolding shown AreWords
  shown-below zero = (response-below c idle.ranged.module_state).0
  shown-below (suc zero) = (response-below c idle.ranged.module_state).1
  shown-below (suc (suc zero)) = mod-lt c.port.last.first (lit< tt)
  shown-below (suc (suc (suc zero))) = mod-lt c.port.last.second (lit< tt)
  shown-below (suc (suc (suc (suc zero)))) = crc16-lt 0 (low c.port.last.first ∷ low c.port.last.second ∷ [])
  shown-below (suc (suc (suc (suc (suc i))))) = lit< tt

  same-bits : stream 16 (full c) ≡ stream 16 (shown c)
  unfolding full shown stream crc16_after
  same-bits = rw (bits-mod 16 c.port.last.first, bits-mod 16 c.port.last.second)

  words-read : words 5 (read_back undamaged c memory).got ≡ shown c
  unfolding shown
  words-read =
      ap (words 5) (undamaged-got c memory idle ∙ same-bits ∙ sym (append-nil (stream 16 (shown c))))
      ∙ words-stream (shown c) [] shown-below

  shown-good : good_response (r₁ c) (r₂ c) ≡ true
  shown-good = response-good (response_of c) idle.ranged.module_state

  reads-good : read_good (shown c) ≡ true
  unfolding shown agrees
  reads-good =
      read-good (shown c) refl
      ∙ rw (shown-good, eq-eqb (crc16 (low c.port.last.first ∷ low c.port.last.second ∷ [])) _ refl)

  -- the first READBACK passes, whatever good token was the last
  pub undamaged-passes : good_command c.port.last.first c.port.last.second ≡ true → passes (words 5 (read_back undamaged c memory).got) ≡ true
  unfolding passes shown
  undamaged-passes good = ap passes words-read ∙ rw (reads-good, low-good _ _ good)

  -- the last one confirms the last token, if the status is clean
  pub undamaged-confirms : (t : Command) → CommandFits t → c.port.status ≡ clean → c.port.last ≡ command_token t
      → confirms t (words 5 (read_back undamaged c memory).got) ≡ true
  unfolding confirms is_token shown any_set
  undamaged-confirms t fits s l =
      let one : low c.port.last.first ≡ command_first t = ap (λ (x : CommandToken). low x.first) l ∙ mod-eq_of_lt (first-below t fits) in
      let two : low c.port.last.second ≡ command_second t = ap (λ (x : CommandToken). low x.second) l ∙ mod-eq_of_lt (second-below t fits) in
      let is-clean : (answer_read 2 (shown c)).fields.status ≡ clean
      = ap (λ (f : Response). f.status) (read-fields (shown c) refl shown-good) ∙ response-status c idle.ranged.module_state _ ∙ s in
      ap (confirms t) words-read
      ∙ rw (reads-good, ap (λ (x : Status). not (any_set x)) is-clean, fits, eq-eqb _ _ one, eq-eqb _ _ two)
