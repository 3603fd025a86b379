use Rattle.std.proofs.Common.{not, ◌∙◌, rules}
use Rattle.std.proofs.lemmas.Iterator.{YieldsList-from_slice}
use Rattle.std.proofs.lemmas.Iterator.Search.{position_from_yields_List}
use Rattle.node.specs.Rules.{settings_ok}
use Rattle.ring.proofs.Starting.{first_is}
use Rattle.ring.proofs.setup.first_at_fault.Goals as goal

pub returns : goal.returns
returns c =
    position_from_yields_List (λ g. not (settings_ok g)) _ _ c.position.result c.position.ensures.ran (YieldsList-from_slice c.args.settings.now c.iter.ensures.rest) (λ x b q k. search rules)
    ∙ first_is (λ g. not (settings_ok g)) c.args.settings.now
