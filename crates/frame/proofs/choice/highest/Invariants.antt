use Rattle.std.proofs.Common.{◌+◌}
use Rattle.std.specs.List.{IsFirstBest}
use Rattle.frame.proofs.Choosing.{over}
use Rattle.frame.proofs.choice.highest.Given as goal

abbrev pub invariant-loop-i : goal.invariant-loop-i
invariant-loop-i g l = IsFirstBest (over g.T.Ranked.rank) l.items (l.i + 1) l.best
