use Rattle.std.proofs.Common.{◌≡◌, ◌+◌, ◌<◌, length, ◌∙◌, rules, arith}
use Rattle.std.specs.List.{IsFirstBest}
use Rattle.frame.proofs.Choosing.{over, first_best_is, first_best_law, later, later_count, none_is, starts, stays, moves}
use Rattle.frame.proofs.choice.highest.Goals as goal
use Rattle.frame.proofs.choice.highest.Goals.{then-is_higher, else-is_higher}

pub returns-then-is_empty : goal.returns-then-is_empty
returns-then-is_empty g c = record { value = none_is g.T.Ranked.rank _ (search rules); law = search rules }

pub loop-i-init : goal.loop-i-init
loop-i-init g c = starts g.T.Ranked.rank _

pub loop-i-preserved : goal.loop-i-preserved
loop-i-preserved g c =
    let xs = c.args.items.now in
    let next : c.loop-i.i + 1 < length xs = omega (arith, later_count xs) in
    let item = c.item-item.is ∙ later xs c.loop-i.i c.item-item.result in
    elim c.if-is_higher.branch [
      | then-is_higher w ↦ rw w.best-is (moves g.T.Ranked.rank _ _ _ _ _ c.loop-i.invariant next item c.index-items-best.is (search rules))
      | else-is_higher w ↦ rw w.best-is (stays g.T.Ranked.rank _ _ _ _ _ c.loop-i.invariant next item c.index-items-best.is (search rules))
    ]

pub returns : goal.returns
returns g c =
    let xs = c.args.items.now in
    let e : c.loop-i.i + 1 ≡ length xs = grind (arith, later_count xs) in
    let h : IsFirstBest (over g.T.Ranked.rank) xs (length xs) c.loop-i.best = rw e at c.loop-i.invariant in
    record { value = first_best_is g.T.Ranked.rank _ _ h; law = first_best_law g.T.Ranked.rank _ _ h }
