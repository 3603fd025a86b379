use Rattle.std.proofs.Common.{true, false, map, sym, refl}
use Rattle.ring.specs.Row.{lawful}
use Rattle.ring.proofs.Gates.{row_judged}
use Rattle.ring.proofs.opening.check.Goals as goal
use Rattle.ring.proofs.opening.check.Goals.{then-not-are_nodes-via-then-not-are_nodes, then-not-are_nodes-via-else-not-are_nodes+then-not-are_lawful}

pub returns-then-not-are_nodes : goal.returns-then-not-are_nodes
returns-then-not-are_nodes g c =
    let judged = row_judged g.F.Fabric.marks c.args.row.now (sym c.if-not-count_fits.ensures.value) in
    elim c.then-not-are_nodes.branch [
      | then-not-are_nodes-via-then-not-are_nodes w ↦ judged false (lawful (map (λ s. s.values.settings) c.args.row.now)) w.if-not-are_nodes.ensures refl
      | then-not-are_nodes-via-else-not-are_nodes+then-not-are_lawful w ↦ judged true false w.if-not-are_nodes.ensures w.if-not-are_lawful.ensures
    ]

pub returns : goal.returns
returns g c = row_judged g.F.Fabric.marks c.args.row.now (sym c.if-not-count_fits.ensures.value) true true c.if-not-are_nodes.ensures c.if-not-are_lawful.ensures
