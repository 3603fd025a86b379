-- Table 10-2 of ITU-T G.8032: its action parts, then its rows, by request and state; marks and commands go with them.
-- Assumes nothing.
use Rattle.std.specs.Prelude.{ℕ, Bool, true, false, cond, not, ◌&&◌, Some, None, nat_lt}
use Rattle.fabric.specs.declared.types.Ports.{Ports}
use Rattle.frame.specs.Ids.{id_number}
use Rattle.frame.specs.declared.types.NodeId.{NodeId}
use Rattle.frame.specs.declared.types.Request.{Request}
use Rattle.frame.specs.declared.types.Request.TheVariants.{NoRequest, RplBlocked, ManualSwitch, SignalFail, ForcedSwitch}
use Rattle.node.specs.declared.types.Commands.{Commands}
use Rattle.node.specs.declared.types.Delay.{Delay}
use Rattle.node.specs.declared.types.Delay.TheVariants.{Wtr, Wtb}
use Rattle.node.specs.declared.types.NodeValues.{NodeValues}
use Rattle.node.specs.declared.types.Outcome.{Outcome}
use Rattle.node.specs.declared.types.Port.{Port}
use Rattle.node.specs.declared.types.Role.{Role}
use Rattle.node.specs.declared.types.Role.TheVariants.{Other, Owner, Neighbour}
use Rattle.node.specs.declared.types.Sending.{Sending}
use Rattle.node.specs.declared.types.Settings.{Settings}
use Rattle.node.specs.declared.types.State.{State}
use Rattle.node.specs.declared.types.State.TheVariants.{Idle, Protection, Pending}
use Rattle.node.specs.declared.types.State.TheVariants.{ManualSwitch as Manual, ForcedSwitch as Forced}
use Rattle.node.specs.declared.types.Timers.{Timers}
use Rattle.node.specs.Names.{by_state, is_owner, is_other, guard_start, wtr_start, wtb_start}
use Rattle.node.specs.Ports.{none, only, at, with_mark, some, within, meet}
use Rattle.node.specs.Rules.{idle_ports}

-- ---- what rows are made of

abbrev pub no_commands : Commands
no_commands = record { forced = none; manual = None }

abbrev pub forcing : Ports → Commands
forcing f = record { forced = f; manual = None }

abbrev pub send : Request → Bool → Sending
send r dnf = record { request = Some r; dnf = dnf }

abbrev pub silent : Sending
silent = record { request = None; dnf = false }

-- leaving pending stops WTR and WTB
abbrev pub stopped : Timers → Timers
stopped t = record t { wtr = 0; wtb = 0 }

-- Await X: a revertive owner starts X
abbrev pub reverts : Settings → Bool
reverts g = is_owner g.role && g.revertive

abbrev pub awaits : Settings → Delay → ℕ → Timers
awaits g Wtr guard = record { guard = guard; wtr = cond (reverts g) wtr_start 0; wtb = 0 }
awaits g Wtb guard = record { guard = guard; wtr = 0; wtb = cond (reverts g) wtb_start 0 }

-- the values with what a row can change: next state, blocked ports, commands, message, timers
abbrev pub moved : NodeValues → State → Ports → Commands → Sending → Timers → NodeValues
moved v s b c m t = record v { state = s; blocked = b; commands = c; sending = m; timers = t }

abbrev pub with_failed : NodeValues → Ports → NodeValues
with_failed v f = record v { failed = f }

abbrev pub gives : NodeValues → Bool → Outcome
gives v f = record { values = v; flush = f }

-- nothing more changes, and no flush
abbrev pub still : NodeValues → Outcome
still v = gives v false

-- ---- the action parts

-- Seize p with X: where p is blocked already, send X with DNF; else block p, send X and flush. Then open the other port.
abbrev pub seize : NodeValues → Port → Request → State → Commands → Outcome
seize v p x s c = gives (moved v s (only p) c (send x (at v.blocked p)) (stopped v.timers)) (not (at v.blocked p))

-- the same of several ports, blocked when all are
abbrev pub seize_ports : NodeValues → Ports → Request → State → Commands → Outcome
seize_ports v p x s c = gives (moved v s p c (send x (within p v.blocked)) (stopped v.timers)) (not (within p v.blocked))

-- for local SF they are the failed ports, and only ports without failure are opened
abbrev pub seize_failed : NodeValues → Outcome
seize_failed v = seize_ports v v.failed SignalFail Protection no_commands

-- Rest: where the RPL port is blocked, send NR,RB with DNF; else block it, send NR,RB and flush. Open the other port; idle.
abbrev pub rest : NodeValues → Outcome
rest v = seize v v.settings.rpl RplBlocked Idle no_commands

-- Release: where a port is blocked, start guard, send NR, Await WTB. Then pending. Commands end: Clear ends them, and
-- R-APS(MS) leaves manual switch.
abbrev pub release : NodeValues → NodeValues
release v = cond (some v.blocked)
    (moved v Pending v.blocked no_commands (send NoRequest false) (awaits v.settings Wtb guard_start))
    (moved v Pending v.blocked no_commands v.sending v.timers)

-- Yield: open ports without failure, stop sending. WTR and WTB stop too, which only shows where pending is left: while one
-- runs, no message that yields in pending reaches its row.
abbrev pub yield_to : NodeValues → State → Outcome
yield_to v s = still (moved v s (meet v.blocked v.failed) no_commands silent (stopped v.timers))

-- go to pending; what is sent stays
abbrev pub pend : NodeValues → Timers → NodeValues
pend v t = moved v Pending v.blocked no_commands v.sending t

-- the same, and the delay begins; guard runs on
abbrev pub pend_for : NodeValues → Delay → NodeValues
pend_for v d = pend v (awaits v.settings d v.timers.guard)

-- local SF is presented where a port is failed
abbrev pub present : NodeValues → Outcome
present v = cond (some v.failed) (seize_failed v) (still v)

-- ---- the rows of local requests

-- Clear
abbrev pub clear_row : NodeValues → Outcome
clear_row v = by_state v.state
    (still v)  -- idle
    (still v)  -- protection
    (still (release v))  -- manual switch
    (present (release v))  -- forced switch
    (cond (is_owner v.settings.role) (rest v) (still v))  -- pending

-- FS p: outside forced switch Seize; in it block p, send FS, flush
abbrev pub force_more : NodeValues → Port → Outcome
force_more v p =
    gives (moved v Forced (with_mark v.blocked p true) (forcing (with_mark v.commands.forced p true)) (send ForcedSwitch false) (stopped v.timers))
    true

abbrev pub force_new : NodeValues → Port → Outcome
force_new v p = seize v p ForcedSwitch Forced (forcing (only p))

abbrev pub force_row : NodeValues → Port → Outcome
force_row v p = by_state v.state
    (force_new v p)  -- idle
    (force_new v p)  -- protection
    (force_new v p)  -- manual switch
    (force_more v p)  -- forced switch
    (force_new v p)  -- pending

-- MS p, in idle and pending
abbrev pub manual_row : NodeValues → Port → Outcome
manual_row v p = seize v p ManualSwitch Manual (record { forced = none; manual = Some p })

-- a failure: the mark, then outside forced switch local SF; one that stands already changes nothing
abbrev pub newly_failed : NodeValues → Outcome
newly_failed v = by_state v.state
    (seize_failed v)  -- idle
    (seize_failed v)  -- protection
    (seize_failed v)  -- manual switch
    (still v)  -- forced switch
    (seize_failed v)  -- pending

abbrev pub fail_row : NodeValues → Port → Outcome
fail_row v p = cond (at v.failed p) (still v) (newly_failed (with_failed v (with_mark v.failed p true)))

-- local clear SF
abbrev pub clear_fail : NodeValues → Outcome
clear_fail v = still (moved v Pending v.blocked no_commands (send NoRequest false) (awaits v.settings Wtr guard_start))

-- a repair: the mark, then in protection local SF again while the other port is failed, else local clear SF
abbrev pub repaired : NodeValues → Outcome
repaired v = by_state v.state
    (still v)  -- idle
    (cond (some v.failed) (seize_failed v) (clear_fail v))  -- protection
    (still v)  -- manual switch
    (still v)  -- forced switch
    (still v)  -- pending

abbrev pub repair_row : NodeValues → Port → Outcome
repair_row v p = cond (at v.failed p) (repaired (with_failed v (with_mark v.failed p false))) (still v)

-- ---- the rows of received messages

-- R-APS(FS): outside forced switch open both, stop sending
abbrev pub open_both : NodeValues → Outcome
open_both v = still (moved v Forced none no_commands silent (stopped v.timers))

abbrev pub heard_forced : NodeValues → Outcome
heard_forced v = by_state v.state
    (open_both v)  -- idle
    (open_both v)  -- protection
    (open_both v)  -- manual switch
    (still v)  -- forced switch
    (open_both v)  -- pending

-- R-APS(SF)
abbrev pub heard_fail : NodeValues → Outcome
heard_fail v = by_state v.state
    (yield_to v Protection)  -- idle
    (still v)  -- protection
    (yield_to v Protection)  -- manual switch
    (still v)  -- forced switch
    (yield_to v Protection)  -- pending

-- R-APS(MS)
abbrev pub heard_manual : NodeValues → Outcome
heard_manual v = by_state v.state
    (yield_to v Manual)  -- idle
    (still v)  -- protection
    (still (cond (some v.blocked) (release v) v))  -- manual switch
    (still v)  -- forced switch
    (yield_to v Manual)  -- pending

-- R-APS(NR,RB): all but the owner stop sending in idle
abbrev pub quiet_unless_owner : NodeValues → Sending
quiet_unless_owner v = cond (is_owner v.settings.role) v.sending silent

-- from pending: other opens both; neighbour blocks the RPL port and opens the other; owner nothing; idle
abbrev pub to_idle : Role → NodeValues → NodeValues
to_idle Other v = moved v Idle none no_commands silent (stopped v.timers)
to_idle Owner v = moved v Idle v.blocked no_commands v.sending (stopped v.timers)
to_idle Neighbour v = moved v Idle (only v.settings.rpl) no_commands silent (stopped v.timers)

abbrev pub heard_rpl_blocked : NodeValues → Outcome
heard_rpl_blocked v = by_state v.state
    -- idle
    (still (moved v Idle (meet v.blocked (idle_ports v.settings.role v.settings.rpl)) no_commands (quiet_unless_owner v) v.timers))
    (still (pend v v.timers))  -- protection
    (still (pend v v.timers))  -- manual switch
    (present (pend v v.timers))  -- forced switch
    (still (to_idle v.settings.role v))  -- pending

-- R-APS(NR): the sender's ID higher than the own
abbrev pub higher : NodeValues → NodeId → Bool
higher v n = nat_lt (id_number v.settings.id) (id_number n)

abbrev pub heard_no_request : NodeValues → NodeId → Outcome
heard_no_request v n = by_state v.state
    (cond (is_other v.settings.role && higher v n) (yield_to v Idle) (still v))  -- idle
    (still (pend_for v Wtr))  -- protection
    (still (pend_for v Wtb))  -- manual switch
    (present (pend_for v Wtb))  -- forced switch
    (cond (higher v n) (yield_to v Pending) (still v))  -- pending

abbrev pub heard_row : Request → NodeValues → NodeId → Outcome
heard_row ForcedSwitch v n = heard_forced v
heard_row SignalFail v n = heard_fail v
heard_row ManualSwitch v n = heard_manual v
heard_row RplBlocked v n = heard_rpl_blocked v
heard_row NoRequest v n = heard_no_request v n
