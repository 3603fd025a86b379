-- Receiving a message: guard, own ID, mismatch mark, row, flush logic. Assumes nothing.
use Rattle.std.specs.Prelude.{Bool, true, false, cond, not, ◌&&◌, ◌||◌, ◌==◌, nat_lt}
use Rattle.std.specs.Bool.{beq}
use Rattle.frame.specs.Ids.{id_number}
use Rattle.frame.specs.declared.types.Body.{Body}
use Rattle.frame.specs.declared.types.Body.TheVariants.{Event, Signal}
use Rattle.frame.specs.declared.types.Message.{Message}
use Rattle.frame.specs.declared.types.NodeId.{NodeId}
use Rattle.frame.specs.declared.types.Request.{Request}
use Rattle.frame.specs.declared.types.Request.TheVariants.{NoRequest, RplBlocked, ManualSwitch, SignalFail, ForcedSwitch}
use Rattle.node.specs.declared.types.Heard.{Heard}
use Rattle.node.specs.declared.types.NodeValues.{NodeValues}
use Rattle.node.specs.declared.types.Outcome.{Outcome}
use Rattle.node.specs.declared.types.Port.{Port}
use Rattle.node.specs.declared.types.Port.TheVariants.{Zero, One}
use Rattle.node.specs.Claims.{claim_of, reaches}
use Rattle.node.specs.Names.{is_owner}
use Rattle.node.specs.Rows.{gives, still, heard_row}
use Rattle.node.specs.Settling.{settle, with_pairs, zero_pair}

-- the ID is the node's own
abbrev pub is_own : NodeValues → NodeId → Bool
is_own v n = id_number n == id_number v.settings.id

abbrev pub is_rpl_blocked : Request → Bool
is_rpl_blocked NoRequest = false
is_rpl_blocked RplBlocked = true
is_rpl_blocked ManualSwitch = false
is_rpl_blocked SignalFail = false
is_rpl_blocked ForcedSwitch = false

abbrev pub is_no_request : Request → Bool
is_no_request NoRequest = true
is_no_request RplBlocked = false
is_no_request ManualSwitch = false
is_no_request SignalFail = false
is_no_request ForcedSwitch = false

abbrev pub with_mismatch : NodeValues → Bool → NodeValues
with_mismatch v b = record v { mismatch = b }

-- an owner that hears NR,RB of another past guard sets the mismatch mark, also where no row is reached; it stays until restart
abbrev pub is_foreign_rb : NodeValues → Heard → Bool
is_foreign_rb v q = is_owner v.settings.role && (is_rpl_blocked q.request && not (is_own v q.node))

abbrev pub noted : NodeValues → Heard → NodeValues
noted v q = with_mismatch v (v.mismatch || is_foreign_rb v q)

-- a message with the own ID, or below a standing request, reaches no row
abbrev pub reaches_row : NodeValues → Heard → Bool
reaches_row v q = not (is_own v q.node) && reaches v (claim_of q.request)

abbrev pub row_of : NodeValues → Heard → Outcome
row_of v q = cond (reaches_row v q) (heard_row q.request (noted v q) q.node) (still (noted v q))

-- ---- the flush logic

abbrev pub same_pair : NodeId × Bool → NodeId × Bool → Bool
same_pair a b = id_number a.0 == id_number b.0 && beq a.1 b.1

abbrev pub pair_of : Heard → NodeId × Bool
pair_of q = (q.node, q.bpr)

-- NR without RB zeroes the receiving port's pair; another message whose pair differs from the
-- one stored there is stored
abbrev pub pair_after : NodeId × Bool → Heard → NodeId × Bool
pair_after stored q = cond (is_no_request q.request) zero_pair (cond (same_pair (pair_of q) stored) stored (pair_of q))

-- and if it also differs from the other port's pair, carries no DNF and another ID: flush
abbrev pub pair_flushes : NodeValues → (NodeId × Bool) → (NodeId × Bool) → Heard → Bool
pair_flushes v mine other q =
    not (is_no_request q.request)
    && (not (same_pair (pair_of q) mine)
    && (not (same_pair (pair_of q) other) && (not q.dnf && not (is_own v q.node))))

abbrev pub pair_at : NodeValues → Port → NodeId × Bool
pair_at v Zero = v.pair0
pair_at v One = v.pair1

abbrev pub with_pair : NodeValues → Port → NodeId × Bool → NodeValues
with_pair v Zero a = record v { pair0 = a }
with_pair v One a = record v { pair1 = a }

abbrev pub flush_logic : Outcome → Port → Heard → Outcome
flush_logic o Zero q =
    gives (with_pairs o.values (pair_after o.values.pair0 q) o.values.pair1)
    (o.flush || pair_flushes o.values o.values.pair0 o.values.pair1 q)
flush_logic o One q =
    gives (with_pairs o.values o.values.pair0 (pair_after o.values.pair1 q))
    (o.flush || pair_flushes o.values o.values.pair1 o.values.pair0 q)

-- ---- all of it

-- while guard runs a signal is dropped whole
abbrev pub after_signal : NodeValues → Port → Heard → Outcome
after_signal v p q = cond (nat_lt 0 v.timers.guard) (still v) (flush_logic (settle v (row_of v q)) p q)

-- an event only flushes; one with the own ID does nothing
abbrev pub after_body : NodeValues → Port → NodeId → Body → Outcome
after_body v p n Event = gives v (not (is_own v n))
after_body v p n (Signal r d b) = after_signal v p (record { node = n; request = r; dnf = d; bpr = b })

abbrev pub after_message : NodeValues → Port → Message → Outcome
after_message v p m = after_body v p m.node m.body
