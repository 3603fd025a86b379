use Rattle.std.proofs.Common.{true, false, sym, refl, ◌∙◌}
use Rattle.std.proofs.lemmas.Bool.{true≢false}
use Rattle.ring.proofs.Settles.{lawful_is}
use Rattle.ring.proofs.lawful.are_lawful.Goals as goal
use Rattle.ring.proofs.lawful.are_lawful.Goals.{then-are_distinct, else-are_distinct}

pub returns-then-each_fits : goal.returns-then-each_fits
returns-then-each_fits g c =
    let is = lawful_is g.S.Settled.settled c.args.row.now in
    elim c.if-are_distinct.branch [
      | then-are_distinct w ↦ is true true c.count_owners.result w.if-are_distinct.ensures (sym c.if-each_fits.true ∙ w.value-is ∙ w.each_fits.ensures) c.count_owners.ensures
      | else-are_distinct w ↦ absurd (true≢false (sym c.if-each_fits.true ∙ w.value-is ∙ w.if-are_distinct.false))
    ]

pub returns-else-each_fits : goal.returns-else-each_fits
returns-else-each_fits g c =
    let is = lawful_is g.S.Settled.settled c.args.row.now in
    elim c.if-are_distinct.branch [
      | then-are_distinct w ↦ c.if-each_fits.false ∙ is true false _ w.if-are_distinct.ensures (sym c.if-each_fits.false ∙ w.value-is ∙ w.each_fits.ensures) refl
      | else-are_distinct w ↦ c.if-each_fits.false ∙ is false _ _ w.if-are_distinct.ensures refl refl
    ]
