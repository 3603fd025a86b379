use Rattle.std.proofs.Common.{rules}
use Rattle.std.proofs.lemmas.List.Edits.{map_over_more}
use Rattle.std.proofs.lemmas.List.{take_all, drop_all, append-nil}
use Rattle.fabric.specs.Table.{freed}
use Rattle.fabric.proofs.records.free_ring.Goals as goal

pub loop-entry-preserved : goal.loop-entry-preserved
loop-entry-preserved c = search (rules, map_over_more freed)

pub returns : goal.returns
returns c = search (rules, take_all, drop_all, append-nil)
