-- What the ring rests on of its nodes: the laws that the node library promises. Assumes nothing.
use Rattle.node.specs.Laws.{RulesKept, SettingsKept, KeepsABlock, OwnMovesNoPort, FailedMarks, ForcedMarks, RulesPromise, MarkLaw, IdleYields}

pub record NodeLaws : Type 0 where
  pub rules : RulesKept
  pub settings : SettingsKept
  pub block : KeepsABlock
  pub own : OwnMovesNoPort
  pub failed : FailedMarks
  pub forced : ForcedMarks
  pub promise : RulesPromise
  pub mark : MarkLaw
  pub yields : IdleYields
