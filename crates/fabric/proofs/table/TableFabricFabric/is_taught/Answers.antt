use Rattle.std.proofs.Common.{Ok, sym, ap, ◌∙◌}
use Rattle.fabric.proofs.Flushing.{taught_at}
use Rattle.fabric.proofs.table.TableFabricFabric.is_taught.Goals as goal

pub returns : goal.returns
returns c =
    let at = taught_at c.args.self.now c.args.port c.in_ok-taught.taught (sym c.of_port.ensures ∙ c.in_ok-taught.was) in
    record { answer = ap Ok c.has_side.ensures ∙ at }
