use Rattle.std.proofs.Common.{sym, ◌∙◌}
use Rattle.fabric.specs.Table.{holds}
use Rattle.fabric.proofs.Searches.{first_no, found_there, found_none}
use Rattle.fabric.proofs.table.TableFabric.lookup.Goals as goal

pub returns-in_err-place : goal.returns-in_err-place
returns-in_err-place c =
    let a = c.args.address in
    let rs = c.args.self.now.records in
    let none = found_none a rs (first_no (holds a) rs (sym c.place_of.ensures.place ∙ c.in_err-place.was)) in
    record { value = c.from_residual.ensures ∙ sym none }

pub returns : goal.returns
returns c =
    let there = sym c.place_of.ensures.place ∙ c.in_ok-place.was in
    record { value = c.side.ensures ∙ found_there c.args.address _ c.in_ok-place.place c.args.self.now.records there }
