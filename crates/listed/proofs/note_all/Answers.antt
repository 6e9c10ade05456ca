-- One card more is noted.
use Rattle.std.proofs.Common.{rules}
use Rattle.std.proofs.lemmas.List.Edits.{map_over_more}
use Rattle.listed.specs.Listed.{with_verdict}
use Rattle.listed.proofs.note_all.Goals as goal

pub loop-card-preserved : goal.loop-card-preserved
loop-card-preserved c = search (rules, map_over_more (with_verdict c.args.load))
