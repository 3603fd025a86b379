use Rattle.ring.proofs.Doing.{closes_node}
use Rattle.ring.proofs.acting.act_in_checked.Goals as goal

pub returns : goal.returns
returns g c = λ a steps.
    closes_node g.F.Fabric.marks g.F.Fabric.kept c.args.row.now c.args.station a c.in_ok-at.at c.in_ok-at.ensures c.step-answer.new.arg2
    c.args.called c.step-answer.result c.as_ring_answer.result c.close.result c.close.new.row
    (steps _ _ c.step-answer.result c.step-answer.ensures) c.as_ring_answer.ensures c.close.ensures.answer c.close.ensures.row
