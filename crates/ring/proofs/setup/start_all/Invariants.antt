use Rattle.std.proofs.Common.{◌≡◌, ℕ, ◌<◌, ◌≤◌}
use Rattle.ring.specs.Calls.{Keeps}
use Rattle.ring.specs.Row.{view, seat, setting}
use Rattle.ring.specs.SetUp.{fresh}
use Rattle.ring.proofs.setup.start_all.Given as goal

abbrev pub invariant-loop-k : goal.invariant-loop-k
invariant-loop-k g l =
    let marks = g.F.Fabric.marks in
    ((j : ℕ) → j < l.k → seat (view marks l.row) j ≡ fresh (seat (view marks l.initial.row) j) (setting l.settings j))
    × ((j : ℕ) → l.k ≤ j → seat (view marks l.row) j ≡ seat (view marks l.initial.row) j)
    × Keeps g.F.Fabric.kept l.initial.row l.row
