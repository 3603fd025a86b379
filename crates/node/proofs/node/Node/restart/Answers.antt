use Rattle.node.proofs.Frames.{restart_keeps}
use Rattle.node.proofs.node.Node.restart.Goals as goal

pub commit-requires : goal.commit-requires
commit-requires g c = rw c.restarted-o.ensures (restart_keeps c.args.self.now.values c.args.self.now.settings)
