use Rattle.std.proofs.Common.{◌≡◌, ℕ, ◌<◌, map, get_or}
use Rattle.frame.specs.Ids.{id_number}
use Rattle.ring.specs.Row.{setting}
use Rattle.ring.proofs.distinct.copy_ids.Given as goal

abbrev pub invariant-loop-k : goal.invariant-loop-k
invariant-loop-k g l = (j : ℕ) → j < l.k → get_or l.ids j 0 ≡ id_number (setting (map g.S.Settled.settled l.row) j).id
