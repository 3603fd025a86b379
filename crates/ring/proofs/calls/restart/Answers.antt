use Rattle.std.proofs.Common.{rules}
use Rattle.ring.specs.Calls.{restart}
use Rattle.ring.proofs.calls.restart.Goals as goal

pub returns : goal.returns
returns g c = c.check_and_act.ensures restart (λ p q r h. search rules)
