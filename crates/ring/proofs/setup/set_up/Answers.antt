use Rattle.std.proofs.Common.{sym, arith}
use Rattle.ring.proofs.Law.{law}
use Rattle.ring.proofs.Starting.{in_range}
use Rattle.ring.proofs.setup.set_up.Goals as goal

pub start_all-requires-clause-range : goal.start_all-requires-clause-range
start_all-requires-clause-range g c = λ k l. in_range c.args.settings.now (sym c.in_default.ensures) k (omega arith)

pub returns-clause-law : goal.returns-clause-law
returns-clause-law g c =
    law c.node_laws.ensures g.F.Fabric.marks c.args.settings.now c.args.row.now c.start_all.new.row c.start_all.auto.row
    (λ k l. in_range c.args.settings.now (sym c.in_default.ensures) k (omega arith)) c.start_all.ensures.seen
