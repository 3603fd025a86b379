use Rattle.std.proofs.Common.{sym, ◌∙◌}
use Rattle.fabric.proofs.Learning.{law_after, named}
use Rattle.fabric.proofs.table.TableFabric.learn.Goals as goal

pub returns-clause-law : goal.returns-clause-law
returns-clause-law c =
    let n = named _ _ c.in_ok-side.side (sym c.try_from.ensures ∙ c.in_ok-side.was) in
    law_after c.args.self.now c.args.address c.args.port c.in_ok-side.side n c.learn_at.ensures.answer c.learn_at.ensures.after
