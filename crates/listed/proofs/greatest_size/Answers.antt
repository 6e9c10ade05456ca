-- What the fold finds is the largest size.
use Rattle.std.proofs.Common.{◌≡◌, max, rules, ◌∙◌}
use Rattle.std.specs.Prelude.{fold}
use Rattle.listed.proofs.Sizes.{greatest-folded}
use Rattle.listed.proofs.greatest_size.Goals as goal

pub returns : goal.returns
returns c =
    let cards = c.args.cards.now in
    let folded : c.fold.result ≡ fold (λ greatest r. max r.size greatest) 0 cards = search rules in
    folded ∙ greatest-folded cards
