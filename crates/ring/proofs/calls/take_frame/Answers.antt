use Rattle.std.proofs.Common.{None, refl}
use Rattle.ring.specs.Calls.{frame}
use Rattle.ring.proofs.Doing.{closes_node}
use Rattle.ring.proofs.calls.take_frame.Goals as goal

pub returns-clause-done : goal.returns-clause-done
returns-clause-done g c =
    let t = c.take_frame-answer.ensures in
    closes_node g.F.Fabric.marks g.F.Fabric.kept c.args.row.now c.args.station (frame c.args.buffer.now) c.in_ok-at.at c.in_ok-at.ensures
    (record { node = c.take_frame-answer.new.self; fabric = c.in_ok-at.at.fabric }) None c.take_frame-answer.result c.as_ring_answer.result c.close.result c.close.new.row
    (record { answer = t.answer; values = t.values; marks = refl; kept = refl }) c.as_ring_answer.ensures c.close.ensures.answer c.close.ensures.row
