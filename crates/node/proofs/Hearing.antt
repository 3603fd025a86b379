-- Each row of a received message keeps the rules. Assumes nothing.
use Rattle.std.proofs.lemmas.Bool.Decides.{nat_tests}
use Rattle.std.proofs.Common.{◌≡◌, ℕ, suc, ◌≤◌, true, false, not, ◌&&◌, ltb, refl, arith, lit≤}
use Rattle.std.proofs.lemmas.Bool.{and_parts, not-true, cond_both}
use Rattle.frame.specs.Highest.{first_highest, highest_rank, option_rank}
use Rattle.frame.specs.declared.types.Body.{Body}
use Rattle.frame.specs.declared.types.Body.TheVariants.{Event, Signal}
use Rattle.frame.specs.declared.types.Message.{Message}
use Rattle.frame.specs.declared.types.NodeId.{NodeId}
use Rattle.frame.specs.declared.types.Request.{Request}
use Rattle.frame.specs.declared.types.Request.TheVariants.{NoRequest, RplBlocked, ManualSwitch, SignalFail, ForcedSwitch}
use Rattle.node.specs.declared.claims.Claim.{Claim}
use Rattle.node.specs.declared.types.Delay.{Delay}
use Rattle.node.specs.declared.types.Delay.TheVariants.{Wtr, Wtb}
use Rattle.node.specs.declared.types.Heard.{Heard}
use Rattle.node.specs.declared.types.NodeValues.{NodeValues}
use Rattle.node.specs.declared.types.Outcome.{Outcome}
use Rattle.node.specs.declared.types.Port.{Port}
use Rattle.node.specs.declared.types.State.{State}
use Rattle.node.specs.declared.types.State.TheVariants.{Idle, Pending}
use Rattle.node.specs.declared.types.State.TheVariants.{ForcedSwitch as Forced}
use Rattle.node.specs.declared.types.Timers.{Timers}
use Rattle.node.specs.Claims.{claim_of, claim_rank, standing, reaches}
use Rattle.node.specs.Names.{by_state, is_owner, is_other}
use Rattle.node.specs.Ports.{some, implies}
use Rattle.node.specs.Receiving.{is_own, noted, reaches_row, row_of, flush_logic, after_body, after_message}
use Rattle.node.specs.Rows.{heard_forced, heard_fail, heard_manual, heard_rpl_blocked, heard_no_request, heard_row, higher, pend, present, yield_to, to_idle, awaits}
use Rattle.node.specs.Rules.{makes_node, timers_ok}
use Rattle.node.specs.Settling.{settle}
use Rattle.node.proofs.Actions.{Free, pend_sound}
use Rattle.node.proofs.Keeps.{Keeps, none_failed}
use Rattle.node.proofs.Lawful.{Sound, Speaks, Rests, Bursts, owed, all_rules}
use Rattle.node.proofs.Split.{in_state}
use Rattle.node.proofs.Timing.{guard_ok, awaits_ok, pend_ok}

-- ---- what it means to be the highest

-- nothing that stands ranks higher
abbrev pub standing_rank : NodeValues → ℕ
standing_rank v = highest_rank (option_rank claim_rank) (standing v)

pub none_higher : (v : NodeValues) (c : Claim) → reaches v c ≡ true → standing_rank v ≤ suc (claim_rank c)
unfolding reaches first_highest
none_higher v c e = grind (arith, nat_tests)

-- NR and NR,RB reach a row only where no command is in force and no failure stands
pub free_of : (v : NodeValues) (c : Claim) → claim_rank c ≤ 2 → reaches v c ≡ true → Free v
free_of v c l e = let h = none_higher v c e in grind (arith, nat_tests)

-- ---- the rows

heard_forced_keeps : (v : NodeValues) → Sound v → Sound (heard_forced v).values
heard_forced_keeps v s = grind (arith, nat_tests)

yields : (v : NodeValues) (u : State) → Sound v → by_state v.state true false true false true ≡ true
    → by_state u (is_other v.settings.role) true true false true ≡ true → Sound (yield_to v u).values
yields v u s e a = grind (arith, nat_tests)

heard_fail_keeps : (v : NodeValues) → Sound v → Sound (heard_fail v).values
heard_fail_keeps v s = grind (arith, nat_tests)

heard_manual_keeps : (v : NodeValues) → Sound v → Sound (heard_manual v).values
heard_manual_keeps v s = grind (arith, nat_tests)

-- outside forced switch nothing is failed
free_failed : (v : NodeValues) → Free v → by_state v.state true true true false true ≡ true → some v.failed ≡ false
free_failed v n e = let f = n.failed in grind arith

pends : (v : NodeValues) (t : Timers) → Sound v → Free v → by_state v.state false true true false false ≡ true
    → timers_ok v.settings.role v.settings.revertive Pending t ≡ true → Sound (pend v t)
pends v t s n e k = pend_sound v t s n (free_failed v n (grind arith)) (grind arith) k

pends_forced : (v : NodeValues) (t : Timers) → Sound v → Free v → v.state ≡ Forced
    → timers_ok v.settings.role v.settings.revertive Pending t ≡ true → Sound (present (pend v t)).values
pends_forced v t s n e k = grind (arith, nat_tests)

-- an owner that hears NR,RB of another has the mark
abbrev Marked : NodeValues → Type 0
Marked v = implies (is_owner v.settings.role) v.mismatch ≡ true

to_idle_sound : (v : NodeValues) → Sound v → Marked v → v.state ≡ Pending → Sound (to_idle v.settings.role v)
to_idle_sound v s m e = grind (arith, nat_tests)

heard_rpl_blocked_keeps : (v : NodeValues) → Sound v → Free v → Marked v → Sound (heard_rpl_blocked v).values
heard_rpl_blocked_keeps v s n m =
    in_state Keeps v.state _ _ _ _ _
    (λ e. record {
      settings = s.settings;
      failed = let f = none_failed v s.failed (rw e refl) in grind arith;
      forced = refl;
      sending = let p = s.forced in let q = s.sending in let r = s.idle in grind arith;
      timers = rw e at s.timers;
      idle = let r = s.idle in grind arith;
    })
    (λ e. pends v v.timers s n (rw e refl) (pend_ok v s.timers))
    (λ e. pends v v.timers s n (rw e refl) (pend_ok v s.timers))
    (λ e. pends_forced v v.timers s n e (pend_ok v s.timers))
    (λ e. to_idle_sound v s m e)

heard_no_request_keeps : (v : NodeValues) (i : NodeId) → Sound v → Free v → Sound (heard_no_request v i).values
heard_no_request_keeps v i s n =
    let g = guard_ok v s.timers in
    let waits : (d : Delay) → timers_ok v.settings.role v.settings.revertive Pending (awaits v.settings d v.timers.guard) ≡ true = λ d. awaits_ok v.settings d v.timers.guard g in
    in_state Keeps v.state _ _ _ _ _
    (λ e. cond_both (is_other v.settings.role && higher v i) _ _ Keeps (λ h. yields v Idle s (rw e refl) (and_parts (is_other v.settings.role) _ h).0) (λ _. s))
    (λ e. pends v (awaits v.settings Wtr v.timers.guard) s n (rw e refl) (waits Wtr))
    (λ e. pends v (awaits v.settings Wtb v.timers.guard) s n (rw e refl) (waits Wtb))
    (λ e. pends_forced v (awaits v.settings Wtb v.timers.guard) s n e (waits Wtb))
    (λ e. cond_both (higher v i) _ _ Keeps (λ _. yields v Pending s (rw e refl) refl) (λ _. s))

heard_keeps : (r : Request) (v : NodeValues) (i : NodeId) → Sound v → (claim_rank (claim_of r) ≤ 2 → Free v) → (r ≡ RplBlocked → Marked v) → Sound (heard_row r v i).values
heard_keeps ForcedSwitch v i s n m = heard_forced_keeps v s
heard_keeps SignalFail v i s n m = heard_fail_keeps v s
heard_keeps ManualSwitch v i s n m = heard_manual_keeps v s
heard_keeps RplBlocked v i s n m = heard_rpl_blocked_keeps v s (n (lit≤ tt)) (m refl)
heard_keeps NoRequest v i s n m = heard_no_request_keeps v i s (n (lit≤ tt))

-- ---- the mark, the row, the flush logic

-- the mark weakens two rules and leaves the others
noted_speaks : (v : NodeValues) (q : Heard) → Speaks v → Speaks (noted v q)
noted_speaks v q s = grind arith

noted_rests : (v : NodeValues) (q : Heard) → Rests v → Rests (noted v q)
noted_rests v q s = grind arith

noted_sound : (v : NodeValues) (q : Heard) → Sound v → Sound (noted v q)
noted_sound v q s = record {
  settings = s.settings;
  failed = s.failed;
  forced = s.forced;
  sending = noted_speaks v q s.sending;
  timers = s.timers;
  idle = noted_rests v q s.idle;
}

noted_marks : (v : NodeValues) (q : Heard) → is_own v q.node ≡ false → q.request ≡ RplBlocked → Marked (noted v q)
noted_marks v q n e = grind arith

row_keeps : (v : NodeValues) (q : Heard) → Sound v → Sound (row_of v q).values
row_keeps v q s =
    cond_both (reaches_row v q) _ _ Keeps
    (λ e. let p = and_parts (not (is_own v q.node)) (reaches v (claim_of q.request)) e in
    heard_keeps q.request (noted v q) q.node (noted_sound v q s)
    (λ l. let n = free_of v (claim_of q.request) l p.1 in record { forced = n.forced; failed = n.failed; manual = n.manual })
    (λ r. noted_marks v q (not-true _ p.0) r))
    (λ _. noted_sound v q s)

-- the flush logic changes pairs alone
logic_keeps : (o : Outcome) (p : Port) (q : Heard) → makes_node o.values ≡ true → makes_node (flush_logic o p q).values ≡ true
logic_keeps o p q e = grind (arith, nat_tests)

body_keeps : (v : NodeValues) (p : Port) (i : NodeId) (b : Body) → Sound v → Bursts v → makes_node (after_body v p i b).values ≡ true
body_keeps v p i Event s u = all_rules v s u
body_keeps v p i (Signal r d b) s u =
    let q : Heard = record { node = i; request = r; dnf = d; bpr = b } in
    cond_both (ltb 0 v.timers.guard) _ _ (λ (o : Outcome). makes_node o.values ≡ true)
    (λ _. all_rules v s u)
    (λ _. logic_keeps (settle v (row_of v q)) p q (owed v (row_of v q).values u (row_keeps v q s)))

pub message_keeps : (v : NodeValues) (p : Port) (m : Message) → Sound v → Bursts v → makes_node (after_message v p m).values ≡ true
message_keeps v p m s u = body_keeps v p m.node m.body s u
