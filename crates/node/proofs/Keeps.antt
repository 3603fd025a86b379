-- Each row keeps the rules. Assumes nothing.
use Rattle.std.proofs.Common.{◌≡◌, true, false, refl, arith}
use Rattle.std.proofs.lemmas.Bool.{cond_both}
use Rattle.std.proofs.lemmas.Bool.Decides.{nat_tests}
use Rattle.fabric.specs.declared.types.Ports.{Ports}
use Rattle.node.specs.declared.types.Delay.TheVariants.{Wtb}
use Rattle.node.specs.declared.types.NodeValues.{NodeValues}
use Rattle.node.specs.declared.types.Outcome.{Outcome}
use Rattle.node.specs.declared.types.Port.{Port}
use Rattle.node.specs.declared.types.State.TheVariants.{Protection, Pending}
use Rattle.node.specs.declared.types.State.TheVariants.{ManualSwitch as Manual, ForcedSwitch as Forced}
use Rattle.node.specs.Calls.{takes_clear, takes_manual}
use Rattle.node.specs.Names.{by_state, is_owner}
use Rattle.node.specs.Ports.{at, with_mark, some}
use Rattle.node.specs.Rows.{force_row, manual_row, fail_row, newly_failed, repair_row, clear_row, with_failed, release}
use Rattle.node.specs.Rules.{settings_ok}
use Rattle.node.specs.Settling.{lowered, tick_row, expires}
use Rattle.node.proofs.Actions.{force_new_sound, force_more_sound, rest_sound, release_sound, seize_failed_sound, clear_fail_sound, present_sound, some_marked}
use Rattle.node.proofs.Lawful.{Sound, Failed, Forcing, Runs}
use Rattle.node.proofs.Split.{in_state}
use Rattle.node.proofs.Timing.{awaits_ok, pend_ok}

abbrev pub Keeps : Outcome → Type 0
Keeps o = Sound o.values

-- outside protection and forced switch no port is failed
pub none_failed : (v : NodeValues) → Failed v → by_state v.state true false true false true ≡ true → some v.failed ≡ false
none_failed v f e = grind arith

pub force_keeps : (v : NodeValues) (p : Port) → Sound v → Sound (force_row v p).values
force_keeps v p s =
    let new = force_new_sound v p s.settings s.timers in
    in_state Keeps v.state _ _ _ _ _ (λ _. new) (λ _. new) (λ _. new) (λ e. force_more_sound v p s e) (λ _. new)

pub manual_keeps : (v : NodeValues) (p : Port) → takes_manual v ≡ true → Sound v → Sound (manual_row v p).values
manual_keeps v p t s = grind (arith, nat_tests)

-- in forced switch the failed marks are free
marked : (v : NodeValues) (f : Ports) → v.state ≡ Forced → Sound v → Sound (with_failed v f)
marked v f e s = grind (arith, nat_tests)

newly_keeps : (v : NodeValues) → settings_ok v.settings ≡ true → Runs v → some v.failed ≡ true → (v.state ≡ Forced → Sound v) → Sound (newly_failed v).values
newly_keeps v g t f s = grind (arith, nat_tests)

pub fail_keeps : (v : NodeValues) (p : Port) → Sound v → Sound (fail_row v p).values
fail_keeps v p s =
    let f = with_mark v.failed p true in
    cond_both (at v.failed p) _ _ Keeps (λ _. s)
    (λ _. newly_keeps (with_failed v f) s.settings s.timers (some_marked v.failed p) (λ e. marked v f e s))

-- a failed port outside forced switch means that a port is blocked
failed_blocks : (v : NodeValues) (p : Port) → Failed v → v.state ≡ Protection → at v.failed p ≡ true → some v.blocked ≡ true
failed_blocks v p f e a = grind arith

-- in the other states no port was failed
not_there : (v : NodeValues) (p : Port) → Failed v → at v.failed p ≡ true → by_state v.state true false true false true ≡ true → ⊥
not_there v p f a e = grind arith

pub repair_keeps : (v : NodeValues) (p : Port) → Sound v → Sound (repair_row v p).values
repair_keeps v p s =
    let w = with_failed v (with_mark v.failed p false) in
    cond_both (at v.failed p) _ _ Keeps
    (λ a. in_state Keeps v.state _ _ _ _ _
    (λ e. absurd (not_there v p s.failed a (grind arith)))
    (λ e. cond_both (some w.failed) _ _ Keeps (λ f. seize_failed_sound w s.settings s.timers f)
    (λ f. clear_fail_sound w s.settings (failed_blocks v p s.failed e a) f))
    (λ e. absurd (not_there v p s.failed a (grind arith)))
    (λ e. marked v (with_mark v.failed p false) e s)
    (λ e. absurd (not_there v p s.failed a (grind arith))))
    (λ _. s)

-- with a command in force a port is blocked
manual_blocks : (v : NodeValues) → v.state ≡ Manual → takes_clear v ≡ true → Forcing v → some v.blocked ≡ true
manual_blocks v e m c = grind arith

forced_blocks : (v : NodeValues) → v.state ≡ Forced → takes_clear v ≡ true → Forcing v → some v.blocked ≡ true
forced_blocks v e m c = grind arith

release_runs : (v : NodeValues) → Runs v → Runs (release v)
release_runs v t = cond_both (some v.blocked) _ _ Runs (λ _. awaits_ok v.settings Wtb 50 refl) (λ _. pend_ok v t)

release_settings : (v : NodeValues) → settings_ok v.settings ≡ true → settings_ok (release v).settings ≡ true
release_settings v g = grind (arith, nat_tests)

release_failed : (v : NodeValues) → some (release v).failed ≡ false → some v.failed ≡ false
release_failed v = grind (arith, nat_tests)

pub clear_keeps : (v : NodeValues) → takes_clear v ≡ true → Sound v → Sound (clear_row v).values
clear_keeps v m s =
    in_state Keeps v.state _ _ _ _ _ (λ _. s) (λ _. s)
    (λ e. release_sound v s.settings (manual_blocks v e m s.forced) (none_failed v s.failed (grind arith)))
    (λ e. present_sound (release v) (release_settings v s.settings) (release_runs v s.timers)
    (λ f. release_sound v s.settings (forced_blocks v e m s.forced) (release_failed v f)))
    (λ e. cond_both (is_owner v.settings.role) _ _ Keeps (λ o. rest_sound v s.settings s.timers (none_failed v s.failed (grind arith)) o) (λ _. s))

-- where a delay timer runs, the node is a revertive owner in pending
pub waits : (v : NodeValues) → Runs v → expires v.timers ≡ true → (is_owner v.settings.role ≡ true) × (v.state ≡ Pending)
waits v t e = grind (arith, nat_tests)

lowered_sound : (v : NodeValues) → Sound v → Sound (lowered v)
lowered_sound v s = grind (arith, nat_tests)

pub tick_keeps : (v : NodeValues) → Sound v → Sound (tick_row v).values
tick_keeps v s =
    let low = lowered_sound v s in
    cond_both (expires v.timers) _ _ Keeps
    (λ e. let w = waits v s.timers e in rest_sound (lowered v) s.settings low.timers (none_failed v s.failed (rw w.1 refl)) w.0)
    (λ _. low)
