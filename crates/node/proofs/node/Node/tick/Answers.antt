use Rattle.std.proofs.Common.{◌≡◌, Ok, None, refl, rules}
use Rattle.node.specs.Calls.{ticked, outcome, taken}
use Rattle.node.proofs.Meaning.{taken_keeps}
use Rattle.node.proofs.Steps.{no_port}
use Rattle.node.proofs.node.Node.tick.Goals as goal

pub take-requires-clause-lawful : goal.take-requires-clause-lawful
take-requires-clause-lawful g c = λ r p.
    let e : r ≡ Ok (outcome ticked c.args.self.now.values) = search rules in rw e (taken_keeps ticked c.args.self.now _ tt refl)

pub returns : goal.returns
returns g c =
    let v = c.args.self.now.values in
    let m = g.F.Fabric.marks c.args.fabric.now in
    no_port v m (Ok (outcome ticked v)) (taken m (outcome ticked v)) (λ _. refl) (c.take.ensures None (Ok (outcome ticked v)) (λ r p. search rules))
