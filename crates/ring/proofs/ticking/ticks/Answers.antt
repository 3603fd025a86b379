use Rattle.std.proofs.Common.{◌≡◌, suc, ◌+◌, ◌-◌, Err, sym, ap, ◌∙◌, subst, arith, rules}
use Rattle.std.proofs.lemmas.Result.{err_from_is_err_and}
use Rattle.frame.specs.Refusals.{gave}
use Rattle.ring.specs.Calls.{Ticks, none, last, more, call, tick}
use Rattle.ring.specs.Faults.{ring_refusal, told_ring, unplaced}
use Rattle.ring.proofs.Doing.{refused_again, row_refuses}
use Rattle.ring.proofs.Lasting.{stays_open}
use Rattle.ring.proofs.ticking.ticks.Goals as goal

pub returns-then-count-eq0-clause-does : goal.returns-then-count-eq0-clause-does
returns-then-count-eq0-clause-does g c = subst (λ n. Ticks g.F.Fabric.marks c.args.station n c.args.row.now (gave tt) c.args.row.now) (sym c.if-count-eq0.true) none

pub returns-in_err-check-clause-does : goal.returns-in_err-check-clause-does
returns-in_err-check-clause-does g c =
    let marks = g.F.Fabric.marks in
    let row = c.args.row.now in
    let n : suc (c.args.count - 1) ≡ c.args.count = omega arith in
    let r = err_from_is_err_and c.from_residual.result c.from_residual.ensures.1 in
    let d = row_refuses marks g.F.Fabric.kept row c.args.station tick c.in_err-check.field-0.0 c.in_err-check.ensures in
    subst (λ t. Ticks marks c.args.station c.args.count row (told_ring t) row) (sym (r.1 ∙ ap Err r.2))
    (subst (λ n. Ticks marks c.args.station n row (told_ring (Err (unplaced c.in_err-check.field-0.0))) row) n (refused_again marks c.args.station (c.args.count - 1) row row _ d.does))

pub returns-in_err-act_in_checked : goal.returns-in_err-act_in_checked
returns-in_err-act_in_checked g c =
    let marks = g.F.Fabric.marks in
    let row = c.args.row.now in
    let x = c.in_err-act_in_checked.field-0.0 in
    let m : suc (c.args.count - c.loop.counter) + (c.loop.counter - 1) ≡ c.args.count = omega arith in
    let r = err_from_is_err_and c.from_residual-in_err-act_in_checked.result c.from_residual-in_err-act_in_checked.ensures.1 in
    let d = c.in_err-act_in_checked.ensures tick (λ p q r h. search rules) in
    record {
      does = subst (λ t. Ticks marks c.args.station c.args.count row (told_ring t) c.act_in_checked.new.row) (sym (r.1 ∙ ap Err r.2))
          (subst (λ n. Ticks marks c.args.station n row (told_ring (Err x)) c.act_in_checked.new.row) m
          (c.loop.invariant.1 (c.args.count - c.loop.counter) _ _ (refused_again marks c.args.station (c.args.count - c.loop.counter) c.loop.row c.act_in_checked.new.row (ring_refusal x) d.does)));
      host = λ k e. d.host k e ∙ c.loop.invariant.2 k e;
    }

pub loop-preserved : goal.loop-preserved
loop-preserved g c =
    let marks = g.F.Fabric.marks in
    let made = c.act_in_checked.ensures tick (λ p q r h. search rules) in (
      stays_open c.node_laws.ensures marks (call c.args.station tick) c.loop.row c.act_in_checked.new.row _ made.does.step c.loop.invariant.0,
      λ n r row' t.
          let m : suc (suc n) + (c.loop.counter - 1) ≡ suc n + (c.loop.counter + 1 - 1) = omega arith in
          subst (λ j. Ticks marks c.args.station j c.args.row.now r row') m (c.loop.invariant.1 (suc n) r row' (more made.does t)),
      λ k d. made.host k d ∙ c.loop.invariant.2 k d,
    )

pub returns : goal.returns
returns g c =
    let marks = g.F.Fabric.marks in
    let end : 1 + (c.loop.counter - 1) ≡ c.args.count = omega arith in
    let made = c.act_in_checked-2.ensures tick (λ p q r h. search rules) in
    record {
      does = subst (λ n. Ticks marks c.args.station n c.args.row.now (told_ring c.act_in_checked-2.result) c.act_in_checked-2.new.row) end
          (c.loop.invariant.1 0 _ _ (last made.does));
      host = λ k d. made.host k d ∙ c.loop.invariant.2 k d;
    }
