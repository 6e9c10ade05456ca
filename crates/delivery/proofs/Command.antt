-- Any command between two READBACKs: where they say Done, it has acted once.
-- Assumes nothing.
use Prim.Native.Nat.{ℕ}
use mathlib.Core.Path.{◌≡◌, sym, ap, ◌∙◌}
use mathlib.Core.Bool.{true, false}
use mathlib.Core.Logic.{◌⊎◌, inl, inr}
use mathlib.Core.List.{List}
use Rattle.bits.specs.Bits.{stream}
use Rattle.bits.specs.Lines.{words}
use Rattle.link.specs.Damage.{Damage}
use Rattle.token.specs.Command.{command_token}
use Rattle.token.specs.declared.command.Command.{Command}
use Rattle.token.specs.Response.{any_set}
use Rattle.judge.proofs.Laws.{never}
use Rattle.card.specs.Release.{noted}
use Rattle.card.specs.declared.Card.{Card}
use Rattle.card.specs.declared.Port.{Port}
use Rattle.controller.specs.Builder.{payload, message}
use Rattle.controller.specs.Sure.{readback_command, passes, confirms}
use Rattle.delivery.specs.Play.{Crossed}
use Rattle.card.proofs.Holding.{Idle}
use Rattle.delivery.proofs.Accept.{Sendable}
use Rattle.delivery.proofs.Acts.{Took, took-as}
use Rattle.delivery.proofs.Ended.{Ended, ignored, refused, taken, sent, seen, sent-ended}
use Rattle.delivery.proofs.Readbacks.{read_back, after-first, before-last}
use Rattle.delivery.proofs.Told.{Told}

-- the cards that the three messages find, each with the port that the message before left
module _ (c c₁ c₂ : Card) (memory memory₁ memory₂ : List ℕ) (t : Command) (block : List ℕ) (s : Sendable t (payload t block)) (told : Told t) (d₁ d₂ d₃ : Damage) where
  abbrev first : Crossed Card
  first = read_back d₁ c memory

  abbrev second : Crossed Card
  second = sent t block d₂ c₁ memory₁

  abbrev third : Crossed Card
  third = read_back d₃ c₂ memory₂

  pub command-done : Idle c memory → Idle c₁ memory₁ → Idle c₂ memory₂ → c₁.port ≡ first.side.port → c₂.port ≡ second.side.port
      → passes (words 5 first.got) ≡ true → confirms t (words 5 third.got) ≡ true
      → Took true c₁ memory₁ t block second.side second.memory
  unfolding noted
  command-done idle first-idle second-idle same₁ same₂ p q = go (sent-ended t block s c₁ memory₁ first-idle d₂)
    where
      clean-then : (any_set second.side.port.status ≡ false) × (second.side.port.last ≡ command_token readback_command → ⊥)
      clean-then = rw same₂ at (before-last c₂ memory₂ second-idle d₃ t told q)

      neither : (any_set first.side.port.status ≡ true) ⊎ (first.side.port.last ≡ command_token readback_command) → second.side ≡ c₁ → ⊥
      neither (inl set) e = never (sym set ∙ ap (λ (x : Port). any_set x.status) (sym same₁) ∙ ap (λ (x : Card). any_set x.port.status) (sym e) ∙ clean-then.0)
      neither (inr l) e = clean-then.1 (ap (λ (x : Card). x.port.last) e ∙ ap (λ (x : Port). x.last) same₁ ∙ l)

      go : Ended t (payload t block) c₁ memory₁ (seen d₂ (stream 16 (message t block))) second.side second.memory
          → Took true c₁ memory₁ t block second.side second.memory
      go (ignored e same m) = absurd (neither (after-first c memory idle d₁ p) same)
      go (refused e x m) = never (sym e ∙ ap any_set (sym (ap (λ (x : Card). x.port.status) x)) ∙ clean-then.0)
      go (taken ws j same x m) = took-as t block s ws j same x m
