-- What the calls of a node mean to a ring, above the definitions of their steps. Assumes nothing.
use Rattle.std.specs.Prelude.{◌≡◌, Bool, true, false, cond, not, ◌&&◌, ◌||◌, ◌==◌, ◌≢◌}
use Rattle.frame.specs.declared.types.Body.{Body}
use Rattle.frame.specs.declared.types.Body.TheVariants.{Event, Signal}
use Rattle.frame.specs.declared.types.Message.{Message}
use Rattle.frame.specs.declared.types.NodeId.{NodeId}
use Rattle.frame.specs.declared.types.Request.TheVariants.{SignalFail}
use Rattle.node.specs.declared.claims.Claim.TheVariants.{Clear, LocalFail, LocalClearFail, WtrExpires, WtbExpires}
use Rattle.node.specs.declared.claims.Claim.TheVariants.{Forced as ForcedClaim, Manual as ManualClaim}
use Rattle.node.specs.declared.types.NodeValues.{NodeValues}
use Rattle.node.specs.declared.types.Port.{Port}
use Rattle.node.specs.declared.types.Port.TheVariants.{Zero, One}
use Rattle.node.specs.declared.types.Settings.{Settings}
use Rattle.node.specs.declared.types.State.TheVariants.{Idle, Protection}
use Rattle.node.specs.declared.types.State.TheVariants.{ForcedSwitch as Forced}
use Rattle.node.specs.Calls.{Call, forced, switched, failed, repaired, cleared, ticked, restarts, takes_frame, heard, outcome, takes_clear, takes_manual}
use Rattle.node.specs.Claims.{reaches}
use Rattle.node.specs.Names.{is_owner, is_sending}
use Rattle.node.specs.Ports.{none, at, some, with_mark, bpr_of}
use Rattle.node.specs.Receiving.{is_own, is_rpl_blocked}
use Rattle.node.specs.Rules.{makes_node, settings_ok, idle_ports}
use Rattle.node.specs.Settling.{started, is_due}

-- the values after a call that is taken
abbrev pub after : Call → NodeValues → NodeValues
after c v = (outcome c v).values

-- MS, Clear and a frame request are taken only where they may be, all else always
abbrev pub MayBeTaken : Call → NodeValues → Type 0
MayBeTaken (forced p) v = Unit {0}
MayBeTaken (switched p) v = takes_manual v ≡ true
MayBeTaken (failed p) v = Unit {0}
MayBeTaken (repaired p) v = Unit {0}
MayBeTaken cleared v = takes_clear v ≡ true
MayBeTaken ticked v = Unit {0}
MayBeTaken restarts v = Unit {0}
MayBeTaken takes_frame v = is_due v ≡ true
MayBeTaken (heard p m) v = Unit {0}

abbrev pub is_heard : Call → Bool
is_heard (forced p) = false
is_heard (switched p) = false
is_heard (failed p) = false
is_heard (repaired p) = false
is_heard cleared = false
is_heard ticked = false
is_heard restarts = false
is_heard takes_frame = false
is_heard (heard p m) = true

-- every call that is taken keeps every rule, and Start begins with them
pub record RulesKept : Type 0 where
  pub set_up : (g : Settings) → settings_ok g ≡ true → makes_node (started g none) ≡ true
  pub calls : (c : Call) (v : NodeValues) → makes_node v ≡ true → MayBeTaken c v → makes_node (after c v) ≡ true

-- no call changes the settings
abbrev pub SettingsKept : Type 0
SettingsKept = (c : Call) (v : NodeValues) → (after c v).settings ≡ v.settings

-- a call that is no delivery never takes a node's last block
abbrev pub KeepsABlock : Type 0
KeepsABlock = (c : Call) (v : NodeValues) → is_heard c ≡ false → some v.blocked ≡ true → some (after c v).blocked ≡ true

-- a message with the own ID moves no port; an event changes no value of the node (it only flushes)
abbrev pub OwnMovesNoPort : Type 0
OwnMovesNoPort = (v : NodeValues) (p : Port) (m : Message) → is_own v m.node ≡ true → (after (heard p m) v).blocked ≡ v.blocked

abbrev pub EventChangesNoValue : Type 0
EventChangesNoValue = (v : NodeValues) (p : Port) (i : NodeId) → after (heard p (record { node = i; body = Event })) v ≡ v

-- a port is failed from a failure to a repair taken there
pub record FailedMarks : Type 0 where
  pub fails : (v : NodeValues) (p : Port) → (after (failed p) v).failed ≡ with_mark v.failed p true
  pub repairs : (v : NodeValues) (p : Port) → (after (repaired p) v).failed ≡ with_mark v.failed p false
  pub forces : (v : NodeValues) (p : Port) → (after (forced p) v).failed ≡ v.failed
  pub switches : (v : NodeValues) (p : Port) → (after (switched p) v).failed ≡ v.failed
  pub clears : (v : NodeValues) → (after cleared v).failed ≡ v.failed
  pub ticks : (v : NodeValues) → (after ticked v).failed ≡ v.failed
  pub restart : (v : NodeValues) → (after restarts v).failed ≡ v.failed
  pub frame : (v : NodeValues) → (after takes_frame v).failed ≡ v.failed
  pub hears : (v : NodeValues) (p : Port) (m : Message) → (after (heard p m) v).failed ≡ v.failed

-- a port is under FS from an FS taken there to a Clear or restart: of nodes that keep the rules
abbrev pub Forces : NodeValues → NodeValues → Type 0
Forces v w = w.commands.forced ≡ v.commands.forced

pub record ForcedMarks : Type 0 where
  pub forces : (v : NodeValues) (p : Port) → makes_node v ≡ true → (after (forced p) v).commands.forced ≡ with_mark v.commands.forced p true
  pub clears : (v : NodeValues) → makes_node v ≡ true → (after cleared v).commands.forced ≡ none
  pub restart : (v : NodeValues) → (after restarts v).commands.forced ≡ none
  pub switches : (v : NodeValues) (p : Port) → makes_node v ≡ true → takes_manual v ≡ true → Forces v (after (switched p) v)
  pub fails : (v : NodeValues) (p : Port) → makes_node v ≡ true → Forces v (after (failed p) v)
  pub repairs : (v : NodeValues) (p : Port) → makes_node v ≡ true → Forces v (after (repaired p) v)
  pub ticks : (v : NodeValues) → makes_node v ≡ true → Forces v (after ticked v)
  pub frame : (v : NodeValues) → Forces v (after takes_frame v)
  pub hears : (v : NodeValues) (p : Port) (m : Message) → makes_node v ≡ true → Forces v (after (heard p m) v)

-- the port that a message names: 1 where BPR is 1, else 0
abbrev pub named_port : NodeValues → Port
named_port v = cond (bpr_of v.blocked) One Zero

-- what the rules promise of a node's ports
pub record Promised (v : NodeValues) : Type 0 where
  -- a forced port is blocked, and a failed one outside forced switch
  pub forced : (p : Port) → at v.commands.forced p ≡ true → at v.blocked p ≡ true
  pub failed : (p : Port) → at v.failed p ≡ true → (v.state ≢ Forced) → at v.blocked p ≡ true
  -- without the mismatch mark a sender blocks the port that its message names
  pub sender : v.mismatch ≡ false → is_sending v.sending.request ≡ true → at v.blocked (named_port v) ≡ true
  -- and an idle owner or neighbour blocks its RPL port and no other, any other idle node none
  pub idle : v.mismatch ≡ false → v.state ≡ Idle → v.blocked ≡ idle_ports v.settings.role v.settings.rpl

abbrev pub RulesPromise : Type 0
RulesPromise = (v : NodeValues) → makes_node v ≡ true → Promised v

-- a message that sets the mismatch mark: NR,RB of another ID, at an owner, past guard
abbrev pub body_sets : NodeValues → NodeId → Body → Bool
body_sets v i Event = false
body_sets v i (Signal r d b) = v.timers.guard == 0 && (is_owner v.settings.role && (is_rpl_blocked r && not (is_own v i)))

abbrev pub sets_mark : NodeValues → Message → Bool
sets_mark v m = body_sets v m.node m.body

-- such a message sets the mark, whether it reaches a row or not; the mark stays until restart; nothing else sets it
pub record MarkLaw : Type 0 where
  pub hears : (v : NodeValues) (p : Port) (m : Message) → (after (heard p m) v).mismatch ≡ (v.mismatch || sets_mark v m)
  pub restart : (v : NodeValues) → (after restarts v).mismatch ≡ false
  pub others : (c : Call) (v : NodeValues) → is_heard c ≡ false → (c ≢ restarts) → (after c v).mismatch ≡ v.mismatch

-- where a local request has a row, no higher request stands: only messages need the test of the request table
pub record LocalReaches : Type 0 where
  pub clear : (v : NodeValues) → reaches v Clear ≡ true
  pub force : (v : NodeValues) → reaches v ForcedClaim ≡ true
  pub manual : (v : NodeValues) → makes_node v ≡ true → takes_manual v ≡ true → reaches v ManualClaim ≡ true
  pub fail : (v : NodeValues) → makes_node v ≡ true → (v.state ≢ Forced) → reaches v LocalFail ≡ true
  pub clear_fail : (v : NodeValues) → makes_node v ≡ true → v.state ≡ Protection → some v.failed ≡ false → reaches v LocalClearFail ≡ true
  pub wtr : (v : NodeValues) → makes_node v ≡ true → v.timers.wtr ≡ 1 → reaches v WtrExpires ≡ true
  pub wtb : (v : NodeValues) → makes_node v ≡ true → v.timers.wtb ≡ 1 → reaches v WtbExpires ≡ true

-- an idle node past guard that hears SF of another opens both ports
abbrev pub IdleYields : Type 0
IdleYields =
    (v : NodeValues) (p : Port) (i : NodeId) (dnf bpr : Bool)
    → makes_node v ≡ true → v.state ≡ Idle → v.timers.guard ≡ 0 → is_own v i ≡ false
    → (after (heard p (record { node = i; body = Signal SignalFail dnf bpr })) v).blocked ≡ none
