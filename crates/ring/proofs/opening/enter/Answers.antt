use Rattle.std.proofs.Common.{◌≡◌, ◌<◌, length, get_or, sym, ap, ◌∙◌, subst, rules}
use Rattle.node.specs.Rules.{makes_node}
use Rattle.ring.specs.Row.{view}
use Rattle.ring.proofs.Views.{seat_read, view_length}
use Rattle.ring.proofs.Gates.{lawful_node, node_made, open_counts}
use Rattle.ring.proofs.opening.enter.Goals as goal

pub unwrap-node-requires : goal.unwrap-node-requires
unwrap-node-requires g c =
    let marks = g.F.Fabric.marks in
    let row = c.args.row.now in
    let i = c.args.station in
    let x = c.in_ok-at.at.now in
    let l : i < length row = search rules in
    let is : x ≡ get_or row i x = search rules in
    let ok = lawful_node (view marks row) (open_counts (view marks row) c.requires).1 i (subst (λ n. i < n) (sym (view_length marks row)) l) in
    node_made _ x.values c.from_values.result c.from_values.ensures (ap (λ s. makes_node s.values) (sym (seat_read marks row i x l is)) ∙ ok)
