use Rattle.std.proofs.Common.{Some}
use Rattle.ring.specs.Calls.{deliver}
use Rattle.ring.proofs.Doing.{closes}
use Rattle.ring.proofs.calls.deliver.Goals as goal

pub returns : goal.returns
returns g c =
    closes g.F.Fabric.marks g.F.Fabric.kept c.args.row.now c.args.station (deliver c.args.port c.args.octets.now) c.in_ok-at.at c.in_ok-at.ensures c.hear-answer.new.at
    (Some c.args.port) c.hear-answer.result c.close.result c.close.new.row c.hear-answer.ensures c.close.ensures.answer c.close.ensures.row
