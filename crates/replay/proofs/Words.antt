-- A word told and then taken, by one memory, is exchanged; and where telling is refused, so is the exchange.
-- Assumes nothing.
use Prim.Native.Nat.{ℕ}
use mathlib.Core.Bool.{true≢false}
use mathlib.Core.List.{List}
use mathlib.Core.Path.{◌≡◌, refl, sym, ap, ◌∙◌}
use lib.Dec.{eqb}
use Rattle.rules.specs.Refusals as refusal
use Rattle.rules.specs.Refusal.{number_of}
use Rattle.rules.specs.declared.refusal.Refusal.{Refusal}
use Rattle.rules.proofs.OneAnswer.{some-number}
use Rattle.card.specs.Answers.{CardAfter}
use Rattle.card.specs.Exchange.{exchanged, told, took}
use Rattle.card.specs.declared.Card.{Card}
use Rattle.card.proofs.Refusals.{exchanged-refused, told-refused}
use Rattle.card.proofs.Telling.{take-told}
use Rattle.text.specs.Lines.{line_gives, refused_line}
use Rattle.text.specs.declared.Line.{Line}
use Rattle.text.specs.declared.Line.TheVariants.{Taken}
use Rattle.replay.specs.Replay.{said, on_word}

said-refused : (r : Refusal) (n : ℕ) (c : Card) (line : Line) → number_of r ≡ n → refused_line (number_of r) ≡ (said n c line).line
said-refused r n c line h = rw (← h, some-number r)

said-done : (n : ℕ) (c : Card) (line : Line) → refusal.none ≡ n → line_gives line ≡ (said n c line).line
said-done n c line h = rw (← h)

module _ (c : Card) (memory : List ℕ) (word : ℕ) where
  after : CardAfter
  after = took (told c memory).card memory word

  number : after.refusal ≡ (exchanged c memory word).refusal
  unfolding after
  number = ap (λ (a : CardAfter). a.refusal) (take-told c memory memory word refl)

  pub tell-refused : (r : Refusal) → number_of r ≡ (told c memory).refusal
      → (refused_line (number_of r) ≡ (on_word c memory word).line) × ((told c memory).card ≡ (on_word c memory word).card)
  unfolding on_word exchanged
  tell-refused r h =
      let some : (told c memory).refusal ≡ refusal.none → ⊥ = λ e. true≢false (sym (ap (λ n. eqb n 0) (h ∙ e)) ∙ some-number r) in
      let line = Taken word (told c memory).word in
      (said-refused r (told c memory).refusal (exchanged c memory word).card line h, (told-refused c memory some).0 ∙ sym (exchanged-refused c memory word some).0)

  pub take-refused : (r : Refusal) → number_of r ≡ (took (told c memory).card memory word).refusal
      → (refused_line (number_of r) ≡ (on_word c memory word).line) × ((took (told c memory).card memory word).card ≡ (on_word c memory word).card)
  unfolding on_word exchanged after
  take-refused r h = (said-refused r (exchanged c memory word).refusal (exchanged c memory word).card (Taken word (told c memory).word) (h ∙ number), refl)

  pub taken : refusal.none ≡ (took (told c memory).card memory word).refusal
      → (line_gives (Taken word (told c memory).word) ≡ (on_word c memory word).line) × ((took (told c memory).card memory word).card ≡ (on_word c memory word).card)
  unfolding on_word exchanged after
  taken h = (said-done (exchanged c memory word).refusal (exchanged c memory word).card (Taken word (told c memory).word) (h ∙ number), refl)
