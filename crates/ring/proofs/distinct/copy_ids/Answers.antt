use Rattle.std.proofs.Common.{◌<◌, ◌≢◌, length, sym, ap, ◌∙◌, arith, get_or-set_other, get_or-set_same, below_more}
use Rattle.std.proofs.lemmas.List.{get_or-map}
use Rattle.frame.specs.Ids.{id_number}
use Rattle.ring.specs.Row.{no_settings}
use Rattle.ring.proofs.distinct.copy_ids.Goals as goal

pub loop-k-preserved : goal.loop-k-preserved
loop-k-preserved g c =
    let of = g.S.Settled.settled in
    let ids = c.loop-k.ids in
    let k = c.loop-k.k in
    let row = c.args.row.now in
    below_more _ _
    (λ j h. let ne : j ≢ k = omega arith in get_or-set_other ids k j _ 0 ne ∙ c.loop-k.invariant j h)
    (let in_ids : k < length ids = omega arith in
    let in_row : k < length row = omega arith in
    get_or-set_same ids k _ 0 in_ids ∙ c.from.ensures
    ∙ ap (λ s. id_number s.id) (c.settings.ensures ∙ ap of c.index-row-k.is ∙ sym (get_or-map of row k c.index-row-k.result no_settings in_row)))
