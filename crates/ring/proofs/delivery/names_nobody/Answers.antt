use Rattle.std.proofs.Common.{not, eqb, rules}
use Rattle.std.proofs.lemmas.Iterator.{YieldsList-from_slice}
use Rattle.frame.specs.Ids.{id_number}
use Rattle.ring.proofs.Views.{all_seats}
use Rattle.ring.proofs.delivery.names_nobody.Goals as goal

pub returns : goal.returns
returns g c =
    all_seats g.F.Fabric.marks (λ s. not (eqb (id_number s.values.settings.id) (id_number c.args.node))) c.args.row.now _ _ c.all.result c.all.ensures.ran
    (YieldsList-from_slice c.args.row.now c.iter.ensures.rest) (λ x b q k. search rules)
