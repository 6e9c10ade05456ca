-- `store` meets its contract: the block lies inside the room.
use Rattle.std.proofs.Common.{ap, ◌∙◌, arith}
use Rattle.token.specs.declared.command.Command.{Command}
use Rattle.card.proofs.Laws.{heard-fields, length-small}
use Rattle.card.proofs.Card.store.Goals as goal

pub slice_bounds-put-end : goal.slice_bounds-put-end
slice_bounds-put-end c =
    let card = c.args.self.now in
    omega (arith, ap (λ (f : Command). f.length) (c.fields-fields.ensures ∙ heard-fields card c.token_of.ensures), length-small card)
