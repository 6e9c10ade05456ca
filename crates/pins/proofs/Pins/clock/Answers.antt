-- `clock` meets its contract: a card that told a word, or would have, takes one.
use Rattle.std.proofs.Common.{◌≡◌, length, sym, ap, ◌∙◌}
use Rattle.rules.specs.Refusals as refusal
use Rattle.rules.proofs.OneAnswer.{not-none}
use Rattle.card.specs.Answers.{Told}
use Rattle.card.specs.Card.{word_refusal}
use Rattle.card.specs.declared.Card.{Card}
use Rattle.card.proofs.Cases.{told-quiet, told-refusal}
use Rattle.pins.specs.declared.Pins.{Pins}
use Rattle.pins.proofs.Pins.clock.Goals as goal
use Rattle.pins.proofs.Pins.clock.Goals.{After-take, then-self-eq0+in_ok-next, else-self-eq0+in_ok-word_refusal}

quiet : (c : After-take) → word_refusal c.if-self-eq0.self.card (length c.args.memory.now) ≡ refusal.none
quiet c =
    let card = c.args.self.now.card in
    let memory = c.args.memory.now in
    elim c.if-self-eq0.branch [
      | then-self-eq0+in_ok-next w ↦
          ap (λ (p : Pins). word_refusal p.card (length memory)) w.self-is
          ∙ ap (λ (d : Card). word_refusal d (length memory)) (w.in_ok-next.ensures.after ∙ ap (λ (t : Told). t.card) (told-quiet card memory (sym w.in_ok-next.ensures.number)))
          ∙ told-refusal card memory (length memory)
          ∙ sym w.in_ok-next.ensures.number
      | else-self-eq0+in_ok-word_refusal w ↦
          ap (λ (p : Pins). word_refusal p.card (length memory)) w.self-is ∙ sym w.in_ok-word_refusal.ensures.answer
    ]

pub returns-in_err-take-clause-answer : goal.returns-in_err-take-clause-answer
returns-in_err-take-clause-answer c = absurd (not-none _ (sym (c.in_err-take.ensures.number ∙ quiet (goal.at.returns-in_err-take-clause-answer c).After-take)))

pub returns-in_err-take-clause-refused : goal.returns-in_err-take-clause-refused
returns-in_err-take-clause-refused c = absurd (not-none _ (sym (c.in_err-take.ensures.number ∙ quiet (goal.at.returns-in_err-take-clause-refused c).After-take)))
