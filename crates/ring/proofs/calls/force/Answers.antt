use Rattle.std.proofs.Common.{rules}
use Rattle.ring.specs.Calls.{force}
use Rattle.ring.proofs.calls.force.Goals as goal

pub returns : goal.returns
returns g c = c.check_and_act.ensures (force c.args.port) (λ p q r h. search rules)
