-- `end` meets its contract: an accepted message lies inside the memory.
use Rattle.std.proofs.Common.{sym, ap, ◌∙◌}
use Rattle.token.specs.Response.{any_set}
use Rattle.card.proofs.Laws.{accepted-tick, accepted-write}
use Rattle.card.proofs.Card.end.Goals as goal

pub store-requires : goal.store-requires
store-requires c =
    rw c.requires.0 (accepted-write c.args.self.now c.args.left (ap any_set (sym c.judged_status-status.ensures) ∙ sym c.any_set.ensures ∙ c.if-any_set.false))

pub act-requires : goal.act-requires
act-requires c =
    accepted-tick c.args.self.now c.args.left (ap any_set (sym c.judged_status-status.ensures) ∙ sym c.any_set.ensures ∙ c.if-any_set.false)
