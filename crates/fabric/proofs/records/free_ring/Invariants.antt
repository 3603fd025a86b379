use Rattle.std.proofs.Common.{◌≡◌, ◌++◌, map, take, drop}
use Rattle.fabric.specs.Table.{freed}
use Rattle.fabric.proofs.records.free_ring.Given as goal

-- the records that the walk has passed are freed, the others are as they were
abbrev pub invariant-loop-entry : goal.invariant-loop-entry
invariant-loop-entry l =
    l.records ≡ map freed (take l.entry-index l.initial.records) ++ drop l.entry-index l.initial.records
