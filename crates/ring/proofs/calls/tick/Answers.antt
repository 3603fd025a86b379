use Rattle.std.proofs.Common.{rules}
use Rattle.ring.specs.Calls.{tick}
use Rattle.ring.proofs.calls.tick.Goals as goal

pub returns : goal.returns
returns g c = c.check_and_act.ensures tick (λ p q r h. search rules)
