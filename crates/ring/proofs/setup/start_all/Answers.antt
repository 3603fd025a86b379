use Rattle.std.proofs.Common.{◌<◌, length, sym, refl, ap, ◌∙◌, subst, arith}
use Rattle.std.proofs.lemmas.List.{get_or_default}
use Rattle.ring.specs.Row.{view, setting}
use Rattle.ring.proofs.Doing.{keeps_set}
use Rattle.ring.proofs.Views.{view_length}
use Rattle.ring.proofs.Starting.{more_below, more_above, one_started}
use Rattle.ring.proofs.setup.start_all.Goals as goal

pub loop-k-preserved : goal.loop-k-preserved
loop-k-preserved g c =
    let marks = g.F.Fabric.marks in
    let ss = c.args.settings.now in
    let old = view marks c.args.row.now in
    let row = c.loop-k.row in
    let k = c.loop-k.k in
    let x = c.index-row-k.result in
    let l : k < length row = omega arith in
    let m : k < length (view marks row) = subst (λ n. k < n) (sym (view_length marks row)) l in
    let is = one_started marks row k (setting ss k) x c.start.new.station l c.start.ensures.seen in
    let host = keeps_set g.F.Fabric.kept row k c.start.new.station (λ d n. c.start.ensures.host ∙ ap (λ s. g.F.Fabric.kept s.fabric) (get_or_default row k x d n)) in (
      more_below old (view marks row) _ ss k (setting ss k) m is refl c.loop-k.invariant.0 c.loop-k.invariant.1,
      more_above old (view marks row) _ ss k (setting ss k) m is refl c.loop-k.invariant.0 c.loop-k.invariant.1,
      λ j d. host j d ∙ c.loop-k.invariant.2 j d,
    )
