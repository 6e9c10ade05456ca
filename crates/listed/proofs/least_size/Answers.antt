-- What the fold finds is the smallest size.
use Rattle.std.proofs.Common.{◌≡◌, min, rules, ◌∙◌}
use Rattle.std.specs.Prelude.{fold}
use Rattle.listed.proofs.Sizes.{least-folded}
use Rattle.listed.proofs.least_size.Goals as goal

pub returns : goal.returns
returns c =
    let cards = c.args.cards.now in
    let folded : c.fold.result ≡ fold (λ least r. min r.size least) 4294967295 cards = search rules in
    folded ∙ least-folded cards
