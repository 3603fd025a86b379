-- What a call of a node gives: its answer, the node's values and the fabric's marks. Assumes nothing.
use Rattle.std.specs.Prelude.{◌≡◌, ℕ, zero, suc, Bool, true, false, cond, not, ◌&&◌, ◌||◌, List, ◌++◌, length, drop, is_some, Some, None, Ok, Err, Option, Result, nat_lt}
use Rattle.std.specs.Bool.{beq}
use Rattle.fabric.specs.Marks.{Marks}
use Rattle.fabric.specs.declared.types.Ports.{Ports}
use Rattle.frame.specs.Reading.{reading}
use Rattle.frame.specs.Refusals.{Refusal, Answer, gave, refused}
use Rattle.frame.specs.Writing.{frame_octets}
use Rattle.frame.specs.declared.types.Body.TheVariants.{Signal}
use Rattle.frame.specs.declared.types.FrameFault.TheVariants.{Buffer}
use Rattle.frame.specs.declared.types.Message.{Message}
use Rattle.frame.specs.declared.types.Request.{Request}
use Rattle.node.specs.declared.faults.NodeFault.{NodeFault}
use Rattle.node.specs.declared.faults.NodeFault.TheVariants.{Frame, NoSuchPort, OutOfStep, NothingToClear, NotNow, NoFrameDue, Settings}
use Rattle.node.specs.declared.node.Node.{Node}
use Rattle.node.specs.declared.types.NodeValues.{NodeValues}
use Rattle.node.specs.declared.types.Outcome.{Outcome}
use Rattle.node.specs.declared.types.Port.{Port}
use Rattle.node.specs.declared.types.Port.TheVariants.{Zero, One}
use Rattle.node.specs.declared.types.Settings.{Settings as NodeSettings}
use Rattle.node.specs.declared.types.Status.{Status}
use Rattle.node.specs.Faults.{node_refusal, told_at, with_port}
use Rattle.node.specs.Names.{by_state, is_owner}
use Rattle.node.specs.Ports.{none, at, some, bpr_of}
use Rattle.node.specs.Receiving.{after_message}
use Rattle.node.specs.Rows.{still, force_row, manual_row, fail_row, repair_row, clear_row}
use Rattle.node.specs.Rules.{settings_ok}
use Rattle.node.specs.Settling.{settle, lowered, tick_row, started, restarted, is_due, frame_taken}

-- ---- what each call does to a node that takes it

-- a call that a node takes; a frame request gives the frame besides
pub data Call : Type 0 where
  forced switched failed repaired : Port → Call
  cleared ticked restarts takes_frame : Call
  heard : Port → Message → Call

-- the values after it, and whether it flushes: the row, then burst and pairs
abbrev pub outcome : Call → NodeValues → Outcome
outcome (forced p) v = settle v (force_row v p)
outcome (switched p) v = settle v (manual_row v p)
outcome (failed p) v = settle v (fail_row v p)
outcome (repaired p) v = settle v (repair_row v p)
outcome cleared v = settle v (clear_row v)
outcome ticked v = settle (lowered v) (tick_row v)
outcome restarts v = restarted v
outcome takes_frame v = still (frame_taken v)
outcome (heard p m) v = after_message v p m

-- ---- refusals, and the fabric

-- what a call answers, and what it leaves in the node and in the fabric
pub record Step : Type 0 where
  pub answer : Answer (Unit {0})
  pub values : NodeValues
  pub marks : Marks

-- the marks of a fabric that is driven to these blocked ports, with or without a flush
abbrev pub driven : Marks → Ports → Bool → Marks
driven m b flush = record {
  blocked = b;
  taught = record { p0 = m.taught.p0 && not flush; p1 = m.taught.p1 && not flush };
}

-- a call that is taken, and one that is refused, which changes nothing
abbrev pub taken : Marks → Outcome → Step
taken m o = record { answer = gave tt; values = o.values; marks = driven m o.values.blocked o.flush }

abbrev pub turned_away : NodeValues → Marks → Refusal → Step
turned_away v m e = record { answer = refused e; values = v; marks = m }

-- 8: the port of a number
abbrev pub port_of : ℕ → Result Port NodeFault
port_of zero = Ok Zero
port_of (suc zero) = Ok One
port_of (suc (suc n)) = Err (NoSuchPort (suc (suc n)))

-- 9: the first port where the fabric's blocked mark is not the node's
abbrev pub in_step : Ports → Ports → Result (Unit {0}) NodeFault
in_step own fabric =
    cond (beq own.p0 fabric.p0)
    (cond (beq own.p1 fabric.p1) (Ok tt) (Err (OutOfStep One)))
    (Err (OutOfStep Zero))

abbrev pub in_step_at : Ports → Ports → Port → Result (Unit {0}) NodeFault
in_step_at own fabric p = cond (beq (at own p) (at fabric p)) (Ok tt) (Err (OutOfStep p))

abbrev pub and_in_step : Result Port NodeFault → Result (Unit {0}) NodeFault → Result Port NodeFault
and_in_step (Ok p) (Ok u) = Ok p
and_in_step (Ok p) (Err e) = Err e
and_in_step (Err e) r = Err e

-- 8, then 9
abbrev pub admitted : NodeValues → Marks → ℕ → Result Port NodeFault
admitted v m p = and_in_step (port_of p) (in_step v.blocked m.blocked)

-- a call at a port: refused by 8 and 9, else as defined
abbrev pub step_at : NodeValues → Marks → ℕ → Result Port NodeFault → (Port → Step) → Step
step_at v m p (Ok q) next = next q
step_at v m p (Err e) next = turned_away v m (node_refusal (Some p) e)

-- a call that names no port: refused by 9, else as defined
abbrev pub step_in : NodeValues → Marks → Result (Unit {0}) NodeFault → Step → Step
step_in v m (Ok u) next = next
step_in v m (Err e) next = turned_away v m (node_refusal None e)

-- a call that can be refused by its own rule too, after 9, given the port that it names
abbrev pub given_step : NodeValues → Marks → Option ℕ → Result (Unit {0}) NodeFault → Result Outcome NodeFault → Step
given_step v m p (Ok u) (Ok o) = taken m o
given_step v m p (Ok u) (Err e) = turned_away v m (node_refusal p e)
given_step v m p (Err e) r = turned_away v m (node_refusal p e)

-- what a call owes to its step: the node's values, and the fabric's marks; what the fabric keeps stays
pub record Leaves {F : Type 0} (marked : F → Marks) (keeps : F → List (List ℕ)) (step : Step) (old new : F) (after : NodeValues) : Type 0 where
  pub values : after ≡ step.values
  pub marks : marked new ≡ step.marks
  pub kept : keeps new ≡ keeps old

-- and its answer, given the port that the call names; where it refuses, the fabric is the very same
pub record Stepped {F : Type 0} (marked : F → Marks) (keeps : F → List (List ℕ)) (called : Option ℕ) (step : Step) (old new : F) (told : Result (Unit {0}) NodeFault) (after : NodeValues) : Type 0 where
  pub answer : told_at called told ≡ step.answer
  pub values : after ≡ step.values
  pub marks : marked new ≡ step.marks
  pub kept : keeps new ≡ keeps old
  pub untouched : (e : NodeFault) → told ≡ Err e → new ≡ old

-- ---- the calls

abbrev pub force_step : NodeValues → Marks → ℕ → Step
force_step v m p = step_at v m p (admitted v m p) (λ q. taken m (outcome (forced q) v))

-- MS is taken in idle and pending
abbrev pub takes_manual : NodeValues → Bool
takes_manual v = by_state v.state true false false false true

abbrev pub manual_step : NodeValues → Marks → ℕ → Step
manual_step v m p =
    step_at v m p (admitted v m p)
    (λ q. cond (takes_manual v) (taken m (outcome (switched q) v)) (turned_away v m (node_refusal (Some p) (NotNow p))))

abbrev pub fail_step : NodeValues → Marks → ℕ → Step
fail_step v m p = step_at v m p (admitted v m p) (λ q. taken m (outcome (failed q) v))

abbrev pub repair_step : NodeValues → Marks → ℕ → Step
repair_step v m p = step_at v m p (admitted v m p) (λ q. taken m (outcome (repaired q) v))

-- Clear is taken with a command in force, and at the owner in idle, protection and pending
abbrev pub takes_clear : NodeValues → Bool
takes_clear v =
    some v.commands.forced
    || (is_some v.commands.manual || (is_owner v.settings.role && by_state v.state true true false false true))

abbrev pub clear_step : NodeValues → Marks → Step
clear_step v m =
    step_in v m (in_step v.blocked m.blocked)
    (cond (takes_clear v) (taken m (outcome cleared v)) (turned_away v m (node_refusal None NothingToClear)))

abbrev pub tick_step : NodeValues → Marks → Step
tick_step v m = step_in v m (in_step v.blocked m.blocked) (taken m (outcome ticked v))

abbrev pub message_step : NodeValues → Marks → ℕ → Message → Step
message_step v m p q = step_at v m p (admitted v m p) (λ r. taken m (outcome (heard r q) v))

abbrev pub restart_step : NodeValues → Marks → Step
restart_step v m = taken m (outcome restarts v)

-- what a frame says to a node at a port: 8, 9, 1 to 6
abbrev pub said_at : ℕ → Answer Message → Answer Message
said_at p (gave q) = gave q
said_at p (refused r) = refused (with_port (Some p) r)

abbrev pub asking : ℕ → Result Port NodeFault → Answer Message → Answer Message
asking p (Ok q) a = said_at p a
asking p (Err e) a = refused (node_refusal (Some p) e)

abbrev pub question : NodeValues → Marks → ℕ → List ℕ → Answer Message
question v m p f = asking p (admitted v m p) (reading f v.settings.channel)

-- a delivery: the question, then the message
abbrev pub delivered : NodeValues → Marks → ℕ → Answer Message → Step
delivered v m p (gave q) = message_step v m p q
delivered v m p (refused r) = turned_away v m r

abbrev pub deliver_step : NodeValues → Marks → ℕ → List ℕ → Step
deliver_step v m p f = delivered v m p (question v m p f)

-- set-up: settings in range give the node that Start leaves, with no failure, and the driven fabric; no flush
abbrev pub set_up_marks : NodeSettings → Marks → Marks
set_up_marks g m = driven m (started g none).blocked false

-- what it answers: 13, or a node with these values
abbrev pub SetUp : NodeSettings → Result Node NodeFault → Type 0
SetUp g (Ok n) = (settings_ok g ≡ true) × (n.values ≡ started g none)
SetUp g (Err e) = (settings_ok g ≡ false) × (node_refusal None e ≡ node_refusal None Settings)

-- ---- sending

-- the message that a node sends, with the BPR of its ports
abbrev pub message_with : NodeValues → Option Request → Option Message
message_with v None = None
message_with v (Some r) = Some (record { node = v.settings.id; body = Signal r v.sending.dnf (bpr_of v.blocked) })

abbrev pub message_sent : NodeValues → Option Message
message_sent v = message_with v v.sending.request

abbrev pub due_message : NodeValues → Option Message
due_message v = cond (is_due v) (message_sent v) None

-- the frame request: 7, then 12
abbrev pub frame_answer : NodeValues → List ℕ → Answer (Unit {0})
frame_answer v buffer =
    cond (nat_lt (length buffer) 55) (refused (node_refusal None (Frame Buffer)))
    (cond (is_due v) (gave tt) (refused (node_refusal None NoFrameDue)))

abbrev pub frame_values : NodeValues → List ℕ → NodeValues
frame_values v buffer = cond (nat_lt (length buffer) 55) v (cond (is_due v) (outcome takes_frame v).values v)

abbrev pub octets_of : NodeValues → Option Message → List ℕ → List ℕ
octets_of v None buffer = buffer
octets_of v (Some q) buffer = frame_octets q v.settings.channel v.settings.mel ++ drop 55 buffer

-- where a frame is due, the first 55 octets are its frame and the rest is as it was; else all is
abbrev pub frame_buffer : NodeValues → List ℕ → List ℕ
frame_buffer v buffer = cond (nat_lt (length buffer) 55) buffer (octets_of v (due_message v) buffer)

-- ---- the status question

abbrev pub status_of : NodeValues → Status
status_of v = record {
  state = v.state;
  role = v.settings.role;
  rpl = v.settings.rpl;
  revertive = v.settings.revertive;
  blocked = v.blocked;
  failed = v.failed;
  forced = v.commands.forced;
  manual = v.commands.manual;
  sent = v.sending.request;
  dnf = v.sending.dnf;
  mismatch = v.mismatch;
  timers = v.timers;
  due = v.due;
}
