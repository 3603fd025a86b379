use Rattle.std.proofs.Common.{rules}
use Rattle.ring.specs.Calls.{clear}
use Rattle.ring.proofs.calls.clear.Goals as goal

pub returns : goal.returns
returns g c = c.check_and_act.ensures clear (λ p q r h. search rules)
