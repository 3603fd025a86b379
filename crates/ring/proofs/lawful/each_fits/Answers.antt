use Rattle.std.proofs.Common.{◌∙◌, rules}
use Rattle.std.proofs.lemmas.Iterator.{YieldsList-from_slice}
use Rattle.std.proofs.lemmas.Iterator.Consumers.{YieldsList-from_enumerate}
use Rattle.std.proofs.lemmas.Iterator.Search.{all_from_yields_List}
use Rattle.ring.proofs.Settles.{each_fits, fits_with}
use Rattle.ring.proofs.lawful.each_fits.Goals as goal

pub returns : goal.returns
returns g c =
    all_from_yields_List (fits_with g.S.Settled.settled c.args.row.now) _ _ c.all.result c.all.ensures.ran
    (YieldsList-from_enumerate (YieldsList-from_slice c.args.row.now (cc)) (cc)) (λ x b q k. search rules)
    ∙ each_fits g.S.Settled.settled c.args.row.now
