use Rattle.std.proofs.Common.{rules}
use Rattle.ring.specs.Calls.{repair}
use Rattle.ring.proofs.calls.repair.Goals as goal

pub returns : goal.returns
returns g c = c.check_and_act.ensures (repair c.args.port) (λ p q r h. search rules)
