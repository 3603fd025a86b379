use Rattle.std.proofs.Common.{rules}
use Rattle.ring.specs.Calls.{fail}
use Rattle.ring.proofs.calls.fail.Goals as goal

pub returns : goal.returns
returns g c = c.check_and_act.ensures (fail c.args.port) (λ p q r h. search rules)
