use Rattle.std.proofs.Common.{rules}
use Rattle.std.proofs.lemmas.Iterator.{YieldsList-from_slice}
use Rattle.node.specs.Rules.{makes_node}
use Rattle.ring.specs.Row.{all_nodes}
use Rattle.ring.proofs.Views.{all_seats}
use Rattle.ring.proofs.lawful.are_nodes.Goals as goal

pub returns : goal.returns
unfolding all_nodes
returns g c =
    all_seats g.F.Fabric.marks (λ s. makes_node s.values) c.args.row.now _ _ c.all.result c.all.ensures.ran (YieldsList-from_slice c.args.row.now c.iter.ensures.rest) (λ x b q k. search rules)
