use Rattle.std.proofs.Common.{rules}
use Rattle.node.specs.Calls.{heard, outcome}
use Rattle.node.proofs.Meaning.{taken_keeps}
use Rattle.node.proofs.node.Node.take_message.Goals as goal

pub take_at-requires-clause-lawful : goal.take_at-requires-clause-lawful
take_at-requires-clause-lawful g c = λ q o p. taken_keeps (heard q c.args.message) c.args.self.now o tt (search rules)

pub returns : goal.returns
returns g c = c.take_at.ensures (λ q. outcome (heard q c.args.message) c.args.self.now.values) (λ q o p. search rules)
