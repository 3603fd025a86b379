-- What every call owes after its rows: the burst, and the flush pairs. Assumes nothing.
use Rattle.std.specs.Prelude.{◌-◌, Bool, false, cond, not, ◌&&◌, ◌||◌, [], ◌∷◌, Some, Option, ◌==◌, nat_lt}
use Rattle.std.specs.Bool.{beq}
use Rattle.fabric.specs.declared.types.Ports.{Ports}
use Rattle.frame.specs.declared.types.NodeId.{NodeId}
use Rattle.frame.specs.declared.types.Request.{Request}
use Rattle.frame.specs.declared.types.Request.TheVariants.{NoRequest}
use Rattle.node.specs.declared.types.Delay.TheVariants.{Wtr}
use Rattle.node.specs.declared.types.Due.{Due}
use Rattle.node.specs.declared.types.NodeValues.{NodeValues}
use Rattle.node.specs.declared.types.Outcome.{Outcome}
use Rattle.node.specs.declared.types.Port.{Port}
use Rattle.node.specs.declared.types.Port.TheVariants.{Zero}
use Rattle.node.specs.declared.types.Role.{Role}
use Rattle.node.specs.declared.types.Role.TheVariants.{Other, Owner, Neighbour}
use Rattle.node.specs.declared.types.Settings.{Settings}
use Rattle.node.specs.declared.types.State.TheVariants.{Pending}
use Rattle.node.specs.declared.types.Timers.{Timers}
use Rattle.node.specs.Names.{is_sending, sent_number, burst_start, wait_start}
use Rattle.node.specs.Ports.{only, bpr_of}
use Rattle.node.specs.Rows.{awaits, gives, still, no_commands, send, present, rest}

-- the message sent, with its DNF and BPR, is the same
abbrev pub same_sent : NodeValues → NodeValues → Bool
same_sent v w =
    (sent_number v.sending.request == sent_number w.sending.request)
    && (beq v.sending.dnf w.sending.dnf && beq (bpr_of v.blocked) (bpr_of w.blocked))

-- a port went from open to blocked
abbrev pub newly_blocked : Ports → Ports → Bool
newly_blocked b c = (c.p0 && not b.p0) || (c.p1 && not b.p1)

-- three frames are due and the wait is 0; nothing while nothing is sent
abbrev pub fresh_due : Option Request → Due
fresh_due r = record { burst = cond (is_sending r) burst_start 0; wait = 0 }

abbrev pub zero_pair : NodeId × Bool
zero_pair = (record { octets = 0 ∷ 0 ∷ 0 ∷ 0 ∷ 0 ∷ 0 ∷ [] }, false)

abbrev pub with_due : NodeValues → Due → NodeValues
with_due v d = record v { due = d }

abbrev pub with_pairs : NodeValues → NodeId × Bool → NodeId × Bool → NodeValues
with_pairs v a b = record v { pair0 = a; pair1 = b }

-- from the values before a call, v, and those that its rows gave, w. A call has two rows where Clear, NR or NR,RB leaves
-- forced switch and local SF follows; the first of them changes no port, so one comparison serves.
abbrev pub settled : NodeValues → NodeValues → NodeValues
settled v w =
    with_pairs (with_due w (cond (same_sent v w) v.due (fresh_due w.sending.request)))
    (cond (newly_blocked v.blocked w.blocked) zero_pair w.pair0)
    (cond (newly_blocked v.blocked w.blocked) zero_pair w.pair1)

abbrev pub settle : NodeValues → Outcome → Outcome
settle v o = gives (settled v o.values) o.flush

-- ---- a tick lowers each running timer, and the wait after the burst; a delay timer that reaches 0 expires

abbrev pub lowered_due : Due → Due
lowered_due d = record d { wait = cond (d.burst == 0) (d.wait - 1) d.wait }

abbrev pub lowered : NodeValues → NodeValues
lowered v = record v {
  timers = record { guard = v.timers.guard - 1; wtr = v.timers.wtr - 1; wtb = v.timers.wtb - 1 };
  due = lowered_due v.due;
}

abbrev pub expires : Timers → Bool
expires t = t.wtr == 1 || t.wtb == 1

-- WTR or WTB expires: Rest
abbrev pub tick_row : NodeValues → Outcome
tick_row v = cond (expires v.timers) (rest (lowered v)) (still (lowered v))

-- ---- Start: owner and neighbour block the RPL port, others port 0; send NR; Await WTR; pending

abbrev pub start_port : Role → Port → Port
start_port Other p = Zero
start_port Owner p = p
start_port Neighbour p = p

-- a node as Start leaves it, with these failures; all else is forgotten
abbrev pub started : Settings → Ports → NodeValues
started g f = record {
  settings = g;
  state = Pending;
  blocked = only (start_port g.role g.rpl);
  failed = f;
  commands = no_commands;
  sending = send NoRequest false;
  timers = awaits g Wtr 0;
  due = fresh_due (Some NoRequest);
  pair0 = zero_pair;
  pair1 = zero_pair;
  mismatch = false;
}

-- restart keeps settings and failures, runs Start, and presents a failure; three frames are due
abbrev pub restarted : NodeValues → Outcome
restarted v =
    gives (with_due (present (started v.settings v.failed)).values (fresh_due (present (started v.settings v.failed)).values.sending.request))
    (present (started v.settings v.failed)).flush

-- ---- sending

-- a frame is due while the burst lasts or the wait is 0, and never while nothing is sent
abbrev pub is_due : NodeValues → Bool
is_due v = is_sending v.sending.request && (nat_lt 0 v.due.burst || v.due.wait == 0)

-- when the third frame of a burst is taken, and at each later one, the wait starts
abbrev pub frame_taken : NodeValues → NodeValues
frame_taken v = with_due v (record { burst = v.due.burst - 1; wait = cond (nat_lt 1 v.due.burst) 0 wait_start })
