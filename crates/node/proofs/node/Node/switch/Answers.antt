use Rattle.std.proofs.Common.{◌≡◌, ℕ, true, cond, Ok, Err, Some, Result, refl, ap, ◌∙◌, rules}
use Rattle.node.specs.declared.faults.NodeFault.{NodeFault}
use Rattle.node.specs.declared.faults.NodeFault.TheVariants.{NotNow}
use Rattle.node.specs.declared.types.Outcome.{Outcome}
use Rattle.node.specs.Calls.{switched, outcome, taken, takes_manual, turned_away, port_of, Step}
use Rattle.node.specs.Faults.{node_refusal}
use Rattle.node.specs.Ports.{port_number}
use Rattle.node.specs.Rules.{makes_node}
use Rattle.node.proofs.Meaning.{taken_keeps}
use Rattle.node.proofs.Steps.{at_port, by_rule, if_taken, number_of}
use Rattle.node.proofs.node.Node.switch.Goals as goal

pub take-requires-clause-lawful : goal.take-requires-clause-lawful
take-requires-clause-lawful g c = λ r p.
    let v = c.args.self.now.values in
    let q = c.in_ok-at.at in
    let e : r ≡ cond (takes_manual v) (Ok (outcome (switched q) v)) (Err (NotNow (port_number q))) = search rules in
    rw e
    (if_taken (λ (o : Outcome). makes_node o.values ≡ true) (takes_manual v) _ _
    (λ t. taken_keeps (switched q) c.args.self.now _ t refl))

pub returns : goal.returns
returns g c =
    let v = c.args.self.now.values in
    let m = g.F.Fabric.marks c.args.fabric.now in
    let p = c.args.port in
    let q = c.in_ok-at.at in
    let known : Ok q ≡ port_of p = search rules in
    let given : Result Outcome NodeFault = cond (takes_manual v) (Ok (outcome (switched q) v)) (Err (NotNow (port_number q))) in
    let gives : ℕ → Step = λ n. cond (takes_manual v) (taken m (outcome (switched q) v)) (turned_away v m (node_refusal (Some p) (NotNow n))) in
    at_port v m given p q (λ x. cond (takes_manual v) (taken m (outcome (switched x) v)) (turned_away v m (node_refusal (Some p) (NotNow p)))) known
    (λ u. by_rule v m (Some p) (takes_manual v) _ _ u ∙ ap gives (number_of p q known)) (c.take.ensures (Some p) given (λ r h. search rules))
