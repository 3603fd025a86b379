-- Each action part of the rows keeps the rules. Assumes nothing.
use Rattle.std.proofs.lemmas.Bool.Decides.{nat_tests}
use Rattle.std.proofs.Common.{◌≡◌, true, false, ◌&&◌, is_some, refl, arith}
use Rattle.std.proofs.lemmas.Bool.{and_parts, and_from, or_right}
use Rattle.fabric.specs.declared.types.Ports.{Ports}
use Rattle.node.specs.declared.types.NodeValues.{NodeValues}
use Rattle.node.specs.declared.types.Port.{Port}
use Rattle.node.specs.declared.types.State.TheVariants.{Pending}
use Rattle.node.specs.declared.types.State.TheVariants.{ForcedSwitch as Forced}
use Rattle.node.specs.declared.types.Timers.{Timers}
use Rattle.node.specs.Names.{by_state, is_owner}
use Rattle.node.specs.Ports.{with_mark, some, within}
use Rattle.node.specs.Rows.{seize_failed, force_new, force_more, rest, release, pend, present, clear_fail}
use Rattle.node.specs.Rules.{settings_ok, timers_ok}
use Rattle.node.proofs.Lawful.{Sound, Runs}
use Rattle.node.proofs.Timing.{stopped_ok}

pub some_marked : (m : Ports) (p : Port) → some (with_mark m p true) ≡ true
some_marked m p = grind (arith, nat_tests)

within_more : (m n : Ports) (p : Port) → within m n ≡ true → within (with_mark m p true) (with_mark n p true) ≡ true
within_more m n p e = grind arith

pub seize_failed_sound : (v : NodeValues) → settings_ok v.settings ≡ true → Runs v → some v.failed ≡ true → Sound (seize_failed v).values
seize_failed_sound v g t f = grind (arith, nat_tests)

pub force_new_sound : (v : NodeValues) (p : Port) → settings_ok v.settings ≡ true → Runs v → Sound (force_new v p).values
force_new_sound v p g t = grind (arith, nat_tests)

pub force_more_sound : (v : NodeValues) (p : Port) → Sound v → v.state ≡ Forced → Sound (force_more v p).values
force_more_sound v p s e = record {
  settings = s.settings;
  failed = refl;
  forced = and_from _ _ (within_more v.commands.forced v.blocked p (and_parts _ _ (rw e at s.forced)).0) refl;
  sending = and_from _ _ (some_marked v.commands.forced p) (or_right v.mismatch _ (some_marked v.blocked p));
  timers = stopped_ok v Forced s.timers;
  idle = grind arith;
}

pub rest_sound : (v : NodeValues) → settings_ok v.settings ≡ true → Runs v → some v.failed ≡ false → is_owner v.settings.role ≡ true → Sound (rest v).values
rest_sound v g t f o = grind (arith, nat_tests)

-- with a port blocked and none failed
pub release_sound : (v : NodeValues) → settings_ok v.settings ≡ true → some v.blocked ≡ true → some v.failed ≡ false → Sound (release v)
release_sound v g b f = grind (arith, nat_tests)

-- local SF is presented where a port failed; where none did, what was there has to keep the rules
pub present_sound : (v : NodeValues) → settings_ok v.settings ≡ true → Runs v → (some v.failed ≡ false → Sound v) → Sound (present v).values
present_sound v g t s = grind (arith, nat_tests)

pub clear_fail_sound : (v : NodeValues) → settings_ok v.settings ≡ true → some v.blocked ≡ true → some v.failed ≡ false → Sound (clear_fail v).values
clear_fail_sound v g b f = grind (arith, nat_tests)

-- no command is in force and no failure stands that counts
pub record Free (v : NodeValues) : Type 0 where
  pub forced : some v.commands.forced ≡ false
  pub failed : (some v.failed && by_state v.state true true true false true) ≡ false
  pub manual : is_some v.commands.manual ≡ false

-- to pending from protection, manual switch or forced switch
pub pend_sound : (v : NodeValues) (t : Timers) → Sound v → Free v → some v.failed ≡ false
    → by_state v.state false true true true false ≡ true → timers_ok v.settings.role v.settings.revertive Pending t ≡ true → Sound (pend v t)
pend_sound v t s n f a k = record {
  settings = s.settings;
  failed = grind arith;
  forced = refl;
  sending = let q = s.sending in let x = n.forced in let y = n.manual in grind arith;
  timers = k;
  idle = grind arith;
}
