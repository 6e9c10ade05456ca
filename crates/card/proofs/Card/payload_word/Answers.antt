-- `payload_word` meets its contract: a token whose command sends nothing need not be judged, and one that passes has its block inside.
use Rattle.std.proofs.Common.{◌≡◌, ℕ, Bool, true, false, cond, List, refl, sym, ap, ◌∙◌}
use Rattle.judge.proofs.Laws.{token-passed, read-inside}
use Rattle.rules.specs.Rules.{is_command}
use Rattle.rules.specs.declared.Name.TheVariants.{Read, Readback}
use Rattle.token.specs.Response.{any_set}
use Rattle.card.specs.Exchange.{fields, heard_status, passed_word, payload_word, word1, word2}
use Rattle.card.specs.declared.Card.{Card}
use Rattle.card.proofs.Laws.{heard-fields, heard-status}
use Rattle.card.proofs.Card.payload_word.Goals as goal
use Rattle.card.proofs.Card.payload_word.Goals.{After-fields-fields, After-any_set}

nothing-sent : (c : Card) (memory : List ℕ) (k : ℕ) → is_command (fields c).code Read ≡ false → is_command (fields c).code Readback ≡ false
    → payload_word c memory k ≡ 0
unfolding payload_word passed_word
nothing-sent c memory k reads reads-back = rw (reads, reads-back) (same (any_set (heard_status c)))
  where
    same : (t : Bool) → ◌≡◌ {A = ℕ} (cond t 0 0) 0
    same true = refl
    same false = refl

-- the token's fields, and whether it fails one of steps 1 to 3
fields-are : (p : After-fields-fields) → p.fields-fields.result ≡ fields p.args.self.now
fields-are p = p.fields-fields.ensures ∙ heard-fields p.args.self.now p.token_of-token.ensures

failed : (p : After-any_set) → any_set (heard_status p.args.self.now) ≡ p.any_set.result
failed p =
    sym (p.any_set.ensures ∙ ap any_set (p.token_status.ensures ∙ heard-status p.args.self.now p.token_of-token.ensures))

pub returns-then-not-is_command-2 : goal.returns-then-not-is_command-2
returns-then-not-is_command-2 c =
    let same = fields-are (goal.at.returns-then-not-is_command-2 c).After-fields-fields in
    sym (nothing-sent c.args.self.now c.args.memory.now c.args.k
    (rw (← same) (sym c.is_command.ensures ∙ c.if-not-is_command.true))
    (rw (← same) (sym c.is_command-then-not-is_command.ensures ∙ c.if-not-is_command-2.true)))

pub passed_word-requires : goal.passed_word-requires
passed_word-requires c is_read =
    let card = c.args.self.now in
    let same = fields-are (goal.at.passed_word-requires c).After-fields-fields in
    let three = (token-passed card.size card.bases (word1 card) (word2 card) (failed (goal.at.passed_word-requires c).After-any_set ∙ c.if-any_set.false)).three in
    rw (c.requires, same) (read-inside card.size card.bases (fields card) three (rw same at is_read))
