use Rattle.std.proofs.Common.{◌≡◌, true, cond, Ok, Err, None, Result, refl, rules}
use Rattle.node.specs.declared.faults.NodeFault.{NodeFault}
use Rattle.node.specs.declared.faults.NodeFault.TheVariants.{NothingToClear}
use Rattle.node.specs.declared.types.Outcome.{Outcome}
use Rattle.node.specs.Calls.{cleared, outcome, taken, takes_clear, turned_away}
use Rattle.node.specs.Faults.{node_refusal}
use Rattle.node.specs.Rules.{makes_node}
use Rattle.node.proofs.Meaning.{taken_keeps}
use Rattle.node.proofs.Steps.{no_port, by_rule, if_taken}
use Rattle.node.proofs.node.Node.clear.Goals as goal

pub take-requires-clause-lawful : goal.take-requires-clause-lawful
take-requires-clause-lawful g c = λ r p.
    let v = c.args.self.now.values in
    let e : r ≡ cond (takes_clear v) (Ok (outcome cleared v)) (Err NothingToClear) = search rules in
    rw e
    (if_taken (λ (o : Outcome). makes_node o.values ≡ true) (takes_clear v) _ _
    (λ t. taken_keeps cleared c.args.self.now _ t refl))

pub returns : goal.returns
returns g c =
    let v = c.args.self.now.values in
    let m = g.F.Fabric.marks c.args.fabric.now in
    let given : Result Outcome NodeFault = cond (takes_clear v) (Ok (outcome cleared v)) (Err NothingToClear) in
    no_port v m given (cond (takes_clear v) (taken m (outcome cleared v)) (turned_away v m (node_refusal None NothingToClear)))
    (by_rule v m None (takes_clear v) _ _) (c.take.ensures None given (λ r p. search rules))
