-- The rules that no node record breaks, each over just the parts that it reads. Assumes nothing.
use Rattle.std.specs.Prelude.{ℕ, Bool, true, false, not, ◌&&◌, ◌||◌, is_some, Some, None, Option, ◌==◌, nat_le}
use Rattle.fabric.specs.declared.types.Ports.{Ports}
use Rattle.frame.specs.Writing.{in_range}
use Rattle.frame.specs.declared.types.Request.{Request}
use Rattle.frame.specs.declared.types.Request.TheVariants.{NoRequest, RplBlocked, ManualSwitch, SignalFail, ForcedSwitch}
use Rattle.node.specs.declared.types.Commands.{Commands}
use Rattle.node.specs.declared.types.Due.{Due}
use Rattle.node.specs.declared.types.NodeValues.{NodeValues}
use Rattle.node.specs.declared.types.Port.{Port}
use Rattle.node.specs.declared.types.Port.TheVariants.{Zero, One}
use Rattle.node.specs.declared.types.Role.{Role}
use Rattle.node.specs.declared.types.Role.TheVariants.{Other, Owner, Neighbour}
use Rattle.node.specs.declared.types.Sending.{Sending}
use Rattle.node.specs.declared.types.Settings.{Settings}
use Rattle.node.specs.declared.types.State.{State}
use Rattle.node.specs.declared.types.Timers.{Timers}
use Rattle.node.specs.Names.{by_state, is_owner, is_sending, guard_start, wtr_start, wtb_start, burst_start, wait_start}
use Rattle.node.specs.Ports.{none, only, at, some, implies, within, same}

-- the RPL port is 0 for role other
abbrev pub rpl_fits : Role → Port → Bool
rpl_fits Other Zero = true
rpl_fits Other One = false
rpl_fits Owner p = true
rpl_fits Neighbour p = true

-- settings in range
unfoldable pub settings_ok : Settings → Bool
settings_ok g = in_range g.id g.channel g.mel && rpl_fits g.role g.rpl

-- a failed port means protection or forced switch, and outside forced switch it is blocked
abbrev pub failed_ok : State → Ports → Ports → Bool
failed_ok s blocked failed = by_state s
    (not (some failed))  -- idle
    (within failed blocked)  -- protection
    (not (some failed))  -- manual switch
    true  -- forced switch
    (not (some failed))  -- pending

abbrev pub manual_blocked : Option Port → Ports → Bool
manual_blocked None b = true
manual_blocked (Some p) b = at b p

abbrev pub none_in_force : Commands → Bool
none_in_force c = not (some c.forced) && not (is_some c.manual)

-- a forced port means forced switch and is blocked; a port under MS means manual switch and is blocked
abbrev pub forced_ok : State → Ports → Commands → Bool
forced_ok s blocked c = by_state s
    (none_in_force c)  -- idle
    (none_in_force c)  -- protection
    (not (some c.forced) && manual_blocked c.manual blocked)  -- manual switch
    (within c.forced blocked && not (is_some c.manual))  -- forced switch
    (none_in_force c)  -- pending

-- which message may be sent: NR only in pending or by an owner with the mismatch mark, and without DNF; NR,RB only by an
-- owner in idle; SF only in protection with a failed port; MS and FS only with that command in force; DNF only with a message
abbrev pub message_ok : Option Request → Role → State → Ports → Commands → Bool → Bool → Bool
message_ok None r s failed c dnf mismatch = not dnf
message_ok (Some NoRequest) r s failed c dnf mismatch = not dnf && (by_state s false false false false true || (is_owner r && mismatch))
message_ok (Some RplBlocked) r s failed c dnf mismatch = is_owner r && by_state s true false false false false
message_ok (Some SignalFail) r s failed c dnf mismatch = by_state s false (some failed) false false false
message_ok (Some ManualSwitch) r s failed c dnf mismatch = is_some c.manual
message_ok (Some ForcedSwitch) r s failed c dnf mismatch = some c.forced

-- and without the mismatch mark a sender blocks the port that its message names. That is port 1 if it alone is blocked, else
-- port 0, so it is blocked exactly if some port is.
abbrev pub sending_ok : Role → State → Ports → Ports → Commands → Sending → Bool → Bool
sending_ok r s blocked failed c m mismatch =
    message_ok m.request r s failed c m.dnf mismatch && (mismatch || implies (is_sending m.request) (some blocked))

-- while nothing is sent, burst and wait are 0; a burst has wait 0; a burst is at most 3, a wait at most 500
abbrev pub due_ok : Bool → ℕ → ℕ → Bool
due_ok true b w = nat_le b burst_start && (nat_le w wait_start && (b == 0 || w == 0))
due_ok false b w = b == 0 && w == 0

abbrev pub burst_ok : Sending → Due → Bool
burst_ok m d = due_ok (is_sending m.request) d.burst d.wait

-- no timer is above its start; WTR and WTB run only at a revertive owner in pending, never both
abbrev pub waits_ok : Bool → ℕ → ℕ → Bool
waits_ok true r b = r == 0 || b == 0
waits_ok false r b = r == 0 && b == 0

abbrev pub timers_ok : Role → Bool → State → Timers → Bool
timers_ok r revertive s t =
    (nat_le t.guard guard_start && (nat_le t.wtr wtr_start && nat_le t.wtb wtb_start))
    && waits_ok (is_owner r && (revertive && by_state s false false false false true)) t.wtr t.wtb

-- the ports that an idle node blocks: owner and neighbour the RPL port, any other none
abbrev pub idle_ports : Role → Port → Ports
idle_ports Other p = none
idle_ports Owner p = only p
idle_ports Neighbour p = only p

-- without the mismatch mark, an idle node blocks these and no other
abbrev pub idle_ok : Role → Port → State → Ports → Bool → Bool
idle_ok r rpl s blocked mismatch = mismatch || by_state s (same blocked (idle_ports r rpl)) true true true true

-- all of them
abbrev pub makes_node : NodeValues → Bool
makes_node v =
    settings_ok v.settings
    && (failed_ok v.state v.blocked v.failed
    && (forced_ok v.state v.blocked v.commands
    && (sending_ok v.settings.role v.state v.blocked v.failed v.commands v.sending v.mismatch
    && (burst_ok v.sending v.due
    && (timers_ok v.settings.role v.settings.revertive v.state v.timers
    && idle_ok v.settings.role v.settings.rpl v.state v.blocked v.mismatch)))))
