use Rattle.std.proofs.Common.{rules}
use Rattle.ring.specs.Calls.{switch}
use Rattle.ring.proofs.calls.switch.Goals as goal

pub returns : goal.returns
returns g c = c.check_and_act.ensures (switch c.args.port) (λ p q r h. search rules)
