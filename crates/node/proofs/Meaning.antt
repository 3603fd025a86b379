-- The laws of the calls. Assumes nothing.
use Rattle.std.proofs.Common.{◌≡◌, suc, ◌≤◌, Bool, true, false, not, ◌||◌, refl, arith, lit≤}
use Rattle.std.proofs.lemmas.Bool.Decides.{nat_tests}
use Rattle.std.proofs.lemmas.Bool.{and_parts, cond_both}
use Rattle.frame.specs.Highest.{first_highest}
use Rattle.frame.specs.declared.types.Body.{Body}
use Rattle.frame.specs.declared.types.Body.TheVariants.{Event, Signal}
use Rattle.frame.specs.declared.types.NodeId.{NodeId}
use Rattle.frame.specs.declared.types.Request.{Request}
use Rattle.frame.specs.declared.types.Request.TheVariants.{NoRequest, RplBlocked, ManualSwitch, SignalFail, ForcedSwitch}
use Rattle.node.specs.declared.claims.Claim.{Claim}
use Rattle.node.specs.declared.claims.Claim.TheVariants.{Clear, LocalFail, LocalClearFail, WtrExpires, WtbExpires}
use Rattle.node.specs.declared.claims.Claim.TheVariants.{Forced as ForcedClaim, Manual as ManualClaim}
use Rattle.node.specs.declared.node.Node.{Node}
use Rattle.node.specs.declared.types.Heard.{Heard}
use Rattle.node.specs.declared.types.NodeValues.{NodeValues}
use Rattle.node.specs.declared.types.Outcome.{Outcome}
use Rattle.node.specs.declared.types.Port.{Port}
use Rattle.node.specs.declared.types.Settings.{Settings}
use Rattle.node.specs.declared.types.State.TheVariants.{Idle, Protection}
use Rattle.node.specs.declared.types.State.TheVariants.{ForcedSwitch as Forced}
use Rattle.node.specs.Calls.{Call, forced, switched, failed, repaired, cleared, ticked, restarts, takes_frame, heard, outcome, takes_manual}
use Rattle.node.specs.Claims.{claim_of, claim_rank, reaches}
use Rattle.node.specs.Laws.{after, MayBeTaken, is_heard, RulesKept, KeepsABlock, OwnMovesNoPort, EventChangesNoValue, FailedMarks, ForcedMarks, RulesPromise, body_sets, MarkLaw, LocalReaches, SettingsKept, IdleYields, named_port}
use Rattle.node.specs.Names.{is_sending}
use Rattle.node.specs.Ports.{none, at, with_mark, some}
use Rattle.node.specs.Receiving.{is_own, noted, reaches_row, row_of, after_body}
use Rattle.node.specs.Rows.{force_row, manual_row, fail_row, repair_row, clear_row, heard_row}
use Rattle.node.specs.Rules.{makes_node, idle_ports}
use Rattle.node.specs.Settling.{lowered, tick_row, restarted}
use Rattle.node.proofs.Frames.{lowered_burst, started_keeps, restart_keeps, frame_keeps}
use Rattle.node.proofs.Hearing.{message_keeps, free_of, standing_rank}
use Rattle.node.proofs.Keeps.{force_keeps, manual_keeps, fail_keeps, repair_keeps, clear_keeps, tick_keeps}
use Rattle.node.proofs.Lawful.{Failed, Forcing, Speaks, Runs, Rests, parts, of_node, all_rules, owed}
use Rattle.node.proofs.Split.{in_state}

-- ---- every call keeps the rules

calls_keep : (c : Call) (v : NodeValues) → makes_node v ≡ true → MayBeTaken c v → makes_node (after c v) ≡ true
calls_keep (forced p) v m t = let r = parts v m in owed v (force_row v p).values r.burst (force_keeps v p r.sound)
calls_keep (switched p) v m t = let r = parts v m in owed v (manual_row v p).values r.burst (manual_keeps v p t r.sound)
calls_keep (failed p) v m t = let r = parts v m in owed v (fail_row v p).values r.burst (fail_keeps v p r.sound)
calls_keep (repaired p) v m t = let r = parts v m in owed v (repair_row v p).values r.burst (repair_keeps v p r.sound)
calls_keep cleared v m t = let r = parts v m in owed v (clear_row v).values r.burst (clear_keeps v t r.sound)
calls_keep ticked v m t = let r = parts v m in owed (lowered v) (tick_row v).values (lowered_burst v r.burst) (tick_keeps v r.sound)
calls_keep restarts v m t = restart_keeps v (parts v m).sound.settings
calls_keep takes_frame v m t = let r = parts v m in frame_keeps v t r.sound r.burst
calls_keep (heard p q) v m t = let r = parts v m in message_keeps v p q r.sound r.burst

-- of a node, what a call that is taken gives
pub taken_keeps : (k : Call) (n : Node) (o : Outcome) → MayBeTaken k n.values → o ≡ outcome k n.values → makes_node o.values ≡ true
taken_keeps k n o t e = rw e (calls_keep k n.values (all_rules n.values (of_node n) n.burst) t)

pub rules_kept : RulesKept
rules_kept = record { set_up = started_keeps; calls = calls_keep }

-- ---- blocks, own messages and events

pub keeps_a_block : KeepsABlock
keeps_a_block c v h e = grind (arith, nat_tests)

own_body : (v : NodeValues) (p : Port) (i : NodeId) (b : Body) → is_own v i ≡ true → (after_body v p i b).values.blocked ≡ v.blocked
own_body v p i b e = grind (arith, nat_tests)

pub own_moves_no_port : OwnMovesNoPort
own_moves_no_port v p m e = own_body v p m.node m.body e

pub event_changes_no_value : EventChangesNoValue
event_changes_no_value v p i = refl

-- ---- failed marks

row_failed : (v : NodeValues) (q : Heard) → (row_of v q).values.failed ≡ v.failed
row_failed v q = grind (arith, nat_tests)

body_failed : (v : NodeValues) (p : Port) (i : NodeId) (b : Body) → (after_body v p i b).values.failed ≡ v.failed
body_failed v p i Event = refl
body_failed v p i (Signal r d b) = let e = row_failed v (record { node = i; request = r; dnf = d; bpr = b }) in grind (arith, nat_tests)

fail_marks : (v : NodeValues) (p : Port) → (fail_row v p).values.failed ≡ with_mark v.failed p true
fail_marks v p = grind (arith, nat_tests)

repair_marks : (v : NodeValues) (p : Port) → (repair_row v p).values.failed ≡ with_mark v.failed p false
repair_marks v p = grind (arith, nat_tests)

force_failed : (v : NodeValues) (p : Port) → (force_row v p).values.failed ≡ v.failed
force_failed v p = grind (arith, nat_tests)

clear_failed : (v : NodeValues) → (clear_row v).values.failed ≡ v.failed
clear_failed v = grind (arith, nat_tests)

tick_failed : (v : NodeValues) → (tick_row v).values.failed ≡ v.failed
tick_failed v = grind (arith, nat_tests)

restart_failed : (v : NodeValues) → (restarted v).values.failed ≡ v.failed
restart_failed v = grind (arith, nat_tests)

pub failed_marks : FailedMarks
failed_marks = record {
  fails = fail_marks;
  repairs = repair_marks;
  forces = force_failed;
  switches = λ v p. refl;
  clears = clear_failed;
  ticks = tick_failed;
  restart = restart_failed;
  frame = λ v. refl;
  hears = λ v p m. body_failed v p m.node m.body;
}

-- ---- forced marks

force_marks : (v : NodeValues) (p : Port) → Forcing v → (force_row v p).values.commands.forced ≡ with_mark v.commands.forced p true
force_marks v p c = grind (arith, nat_tests)

clear_none : (v : NodeValues) → Forcing v → (clear_row v).values.commands.forced ≡ none
clear_none v c = grind (arith, nat_tests)

restart_none : (v : NodeValues) → (restarted v).values.commands.forced ≡ none
restart_none v = grind (arith, nat_tests)

manual_forced : (v : NodeValues) → Forcing v → takes_manual v ≡ true → none ≡ v.commands.forced
manual_forced v c t = grind (arith, nat_tests)

-- a row that ends commands changes no forced mark outside forced switch
fail_forced : (v : NodeValues) (p : Port) → Forcing v → (fail_row v p).values.commands.forced ≡ v.commands.forced
fail_forced v p c = grind (arith, nat_tests)

repair_forced : (v : NodeValues) (p : Port) → Forcing v → (repair_row v p).values.commands.forced ≡ v.commands.forced
repair_forced v p c = grind (arith, nat_tests)

tick_forced : (v : NodeValues) → Forcing v → Runs v → (tick_row v).values.commands.forced ≡ v.commands.forced
tick_forced v c t = grind (arith, nat_tests)

-- messages: where NR or NR,RB reaches a row nothing is forced, and in forced switch no other row does anything
heard_forces : (r : Request) (v : NodeValues) (i : NodeId) → Forcing v → (claim_rank (claim_of r) ≤ 2 → some v.commands.forced ≡ false)
    → (heard_row r v i).values.commands.forced ≡ v.commands.forced
heard_forces ForcedSwitch v i c n = grind (arith, nat_tests)
heard_forces SignalFail v i c n = grind (arith, nat_tests)
heard_forces ManualSwitch v i c n = grind (arith, nat_tests)
heard_forces RplBlocked v i c n =
    let f = n (lit≤ tt) in
    let z : none ≡ v.commands.forced = grind arith in
    in_state (λ (o : Outcome). o.values.commands.forced ≡ v.commands.forced) v.state _ _ _ _ _
    (λ _. z) (λ _. z) (λ _. z) (λ _. grind arith) (λ _. grind arith)
heard_forces NoRequest v i c n =
    let f = n (lit≤ tt) in
    let z : none ≡ v.commands.forced = grind arith in
    in_state (λ (o : Outcome). o.values.commands.forced ≡ v.commands.forced) v.state _ _ _ _ _
    (λ _. grind arith) (λ _. z) (λ _. z) (λ _. grind arith) (λ _. grind arith)

row_forces : (v : NodeValues) (q : Heard) → Forcing v → (row_of v q).values.commands.forced ≡ v.commands.forced
row_forces v q c =
    cond_both (reaches_row v q) _ _ (λ (o : Outcome). o.values.commands.forced ≡ v.commands.forced)
    (λ e. heard_forces q.request (noted v q) q.node c
    (λ l. (free_of v (claim_of q.request) l (and_parts (not (is_own v q.node)) _ e).1).forced))
    (λ _. refl)

body_forces : (v : NodeValues) (p : Port) (i : NodeId) (b : Body) → Forcing v → (after_body v p i b).values.commands.forced ≡ v.commands.forced
body_forces v p i Event c = refl
body_forces v p i (Signal r d b) c =
    let e = row_forces v (record { node = i; request = r; dnf = d; bpr = b }) c in grind (arith, nat_tests)

pub forced_marks : ForcedMarks
forced_marks = record {
  forces = λ v p m. force_marks v p (parts v m).sound.forced;
  clears = λ v m. clear_none v (parts v m).sound.forced;
  restart = restart_none;
  switches = λ v p m t. manual_forced v (parts v m).sound.forced t;
  fails = λ v p m. fail_forced v p (parts v m).sound.forced;
  repairs = λ v p m. repair_forced v p (parts v m).sound.forced;
  ticks = λ v m. let s = (parts v m).sound in tick_forced v s.forced s.timers;
  frame = λ v. refl;
  hears = λ v p q m. body_forces v p q.node q.body (parts v m).sound.forced;
}

-- ---- what the rules promise

names_blocked : (v : NodeValues) → Speaks v → v.mismatch ≡ false → is_sending v.sending.request ≡ true → at v.blocked (named_port v) ≡ true
names_blocked v s m e = grind arith

rests_there : (v : NodeValues) → Rests v → v.mismatch ≡ false → v.state ≡ Idle → v.blocked ≡ idle_ports v.settings.role v.settings.rpl
rests_there v r m e = grind (arith, nat_tests)

forced_blocked : (v : NodeValues) (p : Port) → Forcing v → at v.commands.forced p ≡ true → at v.blocked p ≡ true
forced_blocked v p c e = grind arith

failed_blocked : (v : NodeValues) (p : Port) → Failed v → at v.failed p ≡ true → (v.state ≡ Forced → ⊥) → at v.blocked p ≡ true
failed_blocked v p f e n = grind (arith, nat_tests)

pub rules_promise : RulesPromise
rules_promise v m = let s = (parts v m).sound in record {
  forced = λ p e. forced_blocked v p s.forced e;
  failed = λ p e n. failed_blocked v p s.failed e n;
  sender = names_blocked v s.sending;
  idle = rests_there v s.idle;
}

-- ---- settings and mark

abbrev fixed : NodeValues → Settings × Bool
fixed v = (v.settings, v.mismatch)

row_fixes : (v : NodeValues) (q : Heard) → fixed (row_of v q).values ≡ fixed (noted v q)
row_fixes v q = grind (arith, nat_tests)

body_mark : (v : NodeValues) (p : Port) (i : NodeId) (b : Body) → (after_body v p i b).values.mismatch ≡ (v.mismatch || body_sets v i b)
body_mark v p i Event = grind (arith, nat_tests)
body_mark v p i (Signal r d b) = let e = row_fixes v (record { node = i; request = r; dnf = d; bpr = b }) in grind (arith, nat_tests)

restart_mark : (v : NodeValues) → (restarted v).values.mismatch ≡ false
restart_mark v = grind (arith, nat_tests)

other_mark : (c : Call) (v : NodeValues) → is_heard c ≡ false → (c ≡ restarts → ⊥) → (after c v).mismatch ≡ v.mismatch
other_mark c v h n = grind (arith, nat_tests)

pub mark_law : MarkLaw
mark_law = record {
  hears = λ v p m. body_mark v p m.node m.body;
  restart = restart_mark;
  others = other_mark;
}

pub settings_kept : SettingsKept
settings_kept (forced p) v = grind (arith, nat_tests)
settings_kept (switched p) v = refl
settings_kept (failed p) v = grind (arith, nat_tests)
settings_kept (repaired p) v = grind (arith, nat_tests)
settings_kept cleared v = grind (arith, nat_tests)
settings_kept ticked v = grind (arith, nat_tests)
settings_kept restarts v = grind (arith, nat_tests)
settings_kept takes_frame v = refl
settings_kept (heard p m) v = body_settings v p m.node m.body
  where
    body_settings : (v : NodeValues) (p : Port) (i : NodeId) (b : Body) → (after_body v p i b).values.settings ≡ v.settings
    body_settings v p i Event = refl
    body_settings v p i (Signal r d b) = let e = row_fixes v (record { node = i; request = r; dnf = d; bpr = b }) in grind (arith, nat_tests)

-- ---- local requests

-- what nothing standing outranks reaches its row
reaches_if : (v : NodeValues) (c : Claim) → standing_rank v ≤ suc (claim_rank c) → reaches v c ≡ true
unfolding reaches first_highest
reaches_if v c l = grind (arith, nat_tests)

clear_reaches : (v : NodeValues) → standing_rank v ≤ 15
clear_reaches v = grind (arith, nat_tests)

force_reaches : (v : NodeValues) → standing_rank v ≤ 14
force_reaches v = grind (arith, nat_tests)

manual_reaches : (v : NodeValues) → Forcing v → Failed v → takes_manual v ≡ true → standing_rank v ≤ 8
manual_reaches v c f t = grind (arith, nat_tests)

fail_reaches : (v : NodeValues) → Forcing v → (v.state ≡ Forced → ⊥) → standing_rank v ≤ 12
fail_reaches v c n = grind (arith, nat_tests)

clear_fail_reaches : (v : NodeValues) → Forcing v → v.state ≡ Protection → some v.failed ≡ false → standing_rank v ≤ 11
clear_fail_reaches v c e f = grind (arith, nat_tests)

wtr_reaches : (v : NodeValues) → Forcing v → Failed v → Runs v → v.timers.wtr ≡ 1 → standing_rank v ≤ 7
wtr_reaches v c f t e = grind (arith, nat_tests)

wtb_reaches : (v : NodeValues) → Forcing v → Failed v → Runs v → v.timers.wtb ≡ 1 → standing_rank v ≤ 5
wtb_reaches v c f t e = grind (arith, nat_tests)

pub local_reaches : LocalReaches
local_reaches = record {
  clear = λ v. reaches_if v Clear (clear_reaches v);
  force = λ v. reaches_if v ForcedClaim (force_reaches v);
  manual = λ v m t. let s = (parts v m).sound in reaches_if v ManualClaim (manual_reaches v s.forced s.failed t);
  fail = λ v m n. reaches_if v LocalFail (fail_reaches v (parts v m).sound.forced n);
  clear_fail = λ v m e f. reaches_if v LocalClearFail (clear_fail_reaches v (parts v m).sound.forced e f);
  wtr = λ v m e. let s = (parts v m).sound in reaches_if v WtrExpires (wtr_reaches v s.forced s.failed s.timers e);
  wtb = λ v m e. let s = (parts v m).sound in reaches_if v WtbExpires (wtb_reaches v s.forced s.failed s.timers e);
}

-- ---- an idle node that hears a failure

idle_rank : (v : NodeValues) → Forcing v → Failed v → v.state ≡ Idle → standing_rank v ≤ 10
idle_rank v c f e = grind (arith, nat_tests)

idle_opens : (v : NodeValues) (p : Port) (i : NodeId) (d b : Bool) → Failed v → v.state ≡ Idle → v.timers.guard ≡ 0 → is_own v i ≡ false
    → reaches v (claim_of SignalFail) ≡ true → (after_body v p i (Signal SignalFail d b)).values.blocked ≡ none
idle_opens v p i d b f s g o r = grind (arith, nat_tests)

pub idle_yields : IdleYields
idle_yields v p i d b m s g o =
    let r = (parts v m).sound in idle_opens v p i d b r.failed s g o (reaches_if v (claim_of SignalFail) (idle_rank v r.forced r.failed s))
