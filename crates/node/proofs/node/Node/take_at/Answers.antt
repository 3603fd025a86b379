use Rattle.std.proofs.Common.{Ok, Some, refl, rules}
use Rattle.node.proofs.Steps.{plain_at}
use Rattle.node.proofs.node.Node.take_at.Goals as goal

pub take-requires-clause-lawful : goal.take-requires-clause-lawful
take-requires-clause-lawful g c = λ r p. search rules

pub returns : goal.returns
returns g c = λ f h.
    let v = c.args.self.now.values in
    let q = c.in_ok-at.at in
    plain_at v (g.F.Fabric.marks c.args.fabric.now) f c.args.port q (f q) (search rules) refl
    (c.take.ensures (Some c.args.port) (Ok (f q)) (λ r p. search rules))
