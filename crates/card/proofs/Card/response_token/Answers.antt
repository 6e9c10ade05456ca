-- `response_token` meets its contract: a module state of at most 15 is not refused.
use Rattle.std.proofs.Common.{◌≡◌, refl, sym, ap, ◌∙◌, Result, Ok, Err}
use Rattle.std.specs.Result.{IsOk}
use borrow.Author.Tests.{le-leb}
use Rattle.rules.specs.Refusals as refusal
use Rattle.rules.specs.declared.refusal.Refusal.{Refusal}
use Rattle.rules.proofs.OneAnswer.{not-none}
use Rattle.token.specs.Answers.{Built}
use Rattle.token.specs.Response.{response_token, response_built, response_built_gives}
use Rattle.token.specs.declared.response.ResponseToken.{ResponseToken}
use Rattle.card.specs.Exchange.{response_of}
use Rattle.card.proofs.Card.response_token.Goals as goal
use Rattle.card.proofs.Card.response_token.Goals.{After-new}

-- what was built
known : (c : After-new) → response_built_gives c.new.result ≡ record { refusal = refusal.none; token = response_token (response_of c.args.self.now) }
unfolding response_built
known c = c.new.ensures ∙ rw (le-leb c.args.self.now.module_state 15 c.requires)

not-refused : (r : Result ResponseToken Refusal) → (response_built_gives r).refusal ≡ refusal.none → IsOk r
not-refused (Ok t) h = refl
not-refused (Err e) h = absurd (not-none _ (sym h))

pub unwrap-requires : goal.unwrap-requires
unwrap-requires c = not-refused c.new.result (ap (λ (a : Built ResponseToken). a.refusal) (known (goal.at.unwrap-requires c).After-new))

pub returns : goal.returns
returns c =
    ap (λ (r : Result ResponseToken Refusal). (response_built_gives r).token) (sym c.unwrap.ensures)
    ∙ ap (λ (a : Built ResponseToken). a.token) (known (goal.at.returns c).After-new)
