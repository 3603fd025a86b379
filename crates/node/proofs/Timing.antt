-- Timers, by what a row does to them. Assumes nothing.
use Rattle.std.proofs.Common.{◌≡◌, ℕ, true, leb, arith}
use Rattle.std.proofs.lemmas.Bool.Decides.{nat_tests}
use Rattle.node.specs.declared.types.Delay.{Delay}
use Rattle.node.specs.declared.types.NodeValues.{NodeValues}
use Rattle.node.specs.declared.types.State.{State}
use Rattle.node.specs.declared.types.State.TheVariants.{Pending}
use Rattle.node.specs.declared.types.Settings.{Settings}
use Rattle.node.specs.Names.{guard_start}
use Rattle.node.specs.Rows.{stopped, awaits}
use Rattle.node.specs.Rules.{timers_ok}
use Rattle.node.proofs.Lawful.{Runs}

pub stopped_ok : (v : NodeValues) (u : State) → Runs v → timers_ok v.settings.role v.settings.revertive u (stopped v.timers) ≡ true
stopped_ok v u e = grind (arith, nat_tests)

pub guard_ok : (v : NodeValues) → Runs v → leb v.timers.guard guard_start ≡ true
guard_ok v e = grind (arith, nat_tests)

pub awaits_ok : (g : Settings) (d : Delay) (n : ℕ) → leb n guard_start ≡ true → timers_ok g.role g.revertive Pending (awaits g d n) ≡ true
awaits_ok g d n e = grind (arith, nat_tests)

pub pend_ok : (v : NodeValues) → Runs v → timers_ok v.settings.role v.settings.revertive Pending v.timers ≡ true
pend_ok v e = grind (arith, nat_tests)
