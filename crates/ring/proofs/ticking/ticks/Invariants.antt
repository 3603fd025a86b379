use Rattle.std.proofs.Common.{◌≡◌, ℕ, suc, ◌+◌, ◌-◌, List, None}
use Rattle.frame.specs.Refusals.{Answer}
use Rattle.ring.specs.declared.station.Station.{Station}
use Rattle.ring.specs.Calls.{Keeps, Ticks, row_gate}
use Rattle.ring.specs.Row.{view}
use Rattle.ring.proofs.ticking.ticks.Given as goal

-- the row may be called; ticks that follow here, with those already made, are ticks from the start; the host's part is kept
abbrev pub invariant-loop : goal.invariant-loop
invariant-loop g l =
    (row_gate (view g.F.Fabric.marks l.row) ≡ None)
    × ((n : ℕ) (r : Answer (Unit {0})) (row' : List (Station g.row.F.Denot))
    → Ticks g.F.Fabric.marks l.station (suc n) l.row r row'
    → Ticks g.F.Fabric.marks l.station (suc n + (l.counter - 1)) l.initial.row r row')
    × Keeps g.F.Fabric.kept l.initial.row l.row
