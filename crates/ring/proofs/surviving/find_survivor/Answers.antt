use Rattle.std.proofs.Common.{sym, ap, ◌∙◌, subst}
use Rattle.frame.specs.Refusals.{gave}
use Rattle.ring.specs.Row.{view}
use Rattle.ring.specs.Survivor.{SurvivorLaw, sends_nr}
use Rattle.ring.proofs.Survivors.{none_chosen, told}
use Rattle.ring.proofs.surviving.find_survivor.Goals as goal

pub returns-in_err-station-clause-value : goal.returns-in_err-station-clause-value
returns-in_err-station-clause-value g c = c.from_residual.ensures ∙ none_chosen g.F.Fabric.marks c.args.row.now c.in_err-station.ensures.value

pub returns : goal.returns
returns g c =
    let h = c.in_ok-station.ensures in
    let at = c.index-row-station in
    let t = told g.F.Fabric.marks c.args.row.now c.in_ok-station.station at.result at.is h.law h.value c.sends_nr.result (c.sends_nr.ensures ∙ sym (ap (λ s. sends_nr s.values) at.is)) in
    record {
      value = c.then_some.ensures ∙ t.0;
      law = subst (λ o. SurvivorLaw (view g.F.Fabric.marks c.args.row.now) (gave o)) (sym c.then_some.ensures) t.1;
    }
