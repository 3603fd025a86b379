use Rattle.std.proofs.Common.{sym, ◌∙◌, refl}
use Rattle.fabric.proofs.Learning.{way_taken, way_full}
use Rattle.fabric.proofs.table.TableFabric.learn_at.Goals as goal

pub returns-in_default : goal.returns-in_default
returns-in_default c =
    let w = way_full c.args.self.now c.args.address c.args.port c.args.side (sym c.if-is_shut.ensures)
    (sym c.place_for.ensures.place ∙ c.in_default.is) in
    record { answer = w.0; after = w.1; blocks = refl }

pub returns : goal.returns
returns c =
    let w = way_taken c.args.self.now c.args.address c.args.port c.args.side c.in-Some.place (sym c.if-is_shut.ensures)
    (sym c.place_for.ensures.place ∙ c.in-Some.is) in
    record { answer = w.0; after = w.1; blocks = refl }
