-- Worked examples of one node. Assumes nothing.
use Rattle.std.specs.Prelude.{◌≡◌, ℕ, zero, suc, true, false, [], ◌∷◌}
use Rattle.frame.specs.declared.types.Body.TheVariants.{Signal}
use Rattle.frame.specs.declared.types.Message.{Message}
use Rattle.frame.specs.declared.types.NodeId.{NodeId}
use Rattle.frame.specs.declared.types.Request.TheVariants.{NoRequest, RplBlocked, SignalFail, ForcedSwitch}
use Rattle.node.specs.declared.types.NodeValues.{NodeValues}
use Rattle.node.specs.declared.types.Port.TheVariants.{Zero, One}
use Rattle.node.specs.declared.types.Role.{Role}
use Rattle.node.specs.declared.types.Role.TheVariants.{Other, Owner}
use Rattle.node.specs.declared.types.Settings.{Settings}
use Rattle.node.specs.declared.types.State.TheVariants.{Idle, Protection, Pending}
use Rattle.node.specs.declared.types.State.TheVariants.{ForcedSwitch as Forced}
use Rattle.node.specs.Calls.{forced, failed, repaired, cleared, ticked, heard, outcome}
use Rattle.node.specs.Laws.{after}
use Rattle.node.specs.Ports.{none, only}
use Rattle.node.specs.Rows.{send, silent, still}
use Rattle.node.specs.Settling.{started}

-- an ID that ends in this octet, the first five alike
abbrev pub id_ending : ℕ → NodeId
id_ending k = record { octets = 0x00 ∷ 0x00 ∷ 0x5E ∷ 0x00 ∷ 0x53 ∷ k ∷ [] }

abbrev pub settings_of : ℕ → Role → Settings
settings_of k r = record {
  id = id_ending k;
  channel = record { ring_id = 1; vid = 100 };
  mel = 7;
  role = r;
  rpl = Zero;
  revertive = true;
}

-- a new revertive owner with RPL port 0
abbrev pub new_owner : NodeValues
new_owner = started (settings_of 1 Owner) none

abbrev pub after_ticks : ℕ → NodeValues → NodeValues
after_ticks zero v = v
after_ticks (suc n) v = after_ticks n (after ticked v)

pub record NewOwner : Type 0 where
  pub state : new_owner.state ≡ Pending
  pub ports : new_owner.blocked ≡ only Zero
  pub sends : new_owner.sending ≡ send NoRequest false
  pub wtr : new_owner.timers.wtr ≡ 30000
  pub burst : new_owner.due.burst ≡ 3

-- five minutes later, to the tick
pub record WaitsToRestore : Type 0 where
  pub before : (after_ticks 29999 new_owner).state ≡ Pending
  pub state : (after_ticks 30000 new_owner).state ≡ Idle
  pub sends : (after_ticks 30000 new_owner).sending ≡ send RplBlocked true

-- an idle owner with RPL port 0, forced there: nothing moves, so nothing is flushed
abbrev pub idle_owner : NodeValues
idle_owner = after_ticks 30000 new_owner

pub record ForcedAtRpl : Type 0 where
  pub state : (after (forced Zero) idle_owner).state ≡ Forced
  pub sends : (after (forced Zero) idle_owner).sending ≡ send ForcedSwitch true
  pub flush : (outcome (forced Zero) idle_owner).flush ≡ false

-- a new node of role other whose ID ends in 05 hears NR
abbrev pub new_other : NodeValues
new_other = started (settings_of 5 Other) none

abbrev pub nr_from : ℕ → Message
nr_from k = record { node = id_ending k; body = Signal NoRequest false false }

pub record HearsNoRequest : Type 0 where
  pub higher : (after (heard Zero (nr_from 9)) new_other).blocked ≡ none
  pub quiet : (after (heard Zero (nr_from 9)) new_other).sending ≡ silent
  pub lower : outcome (heard Zero (nr_from 3)) new_other ≡ still new_other

-- both ports failed, port 1 repaired
abbrev pub one_repaired : NodeValues
one_repaired = after (repaired One) (after (failed One) (after (failed Zero) new_other))

pub record RepairedOneOfTwo : Type 0 where
  pub state : one_repaired.state ≡ Protection
  pub sends : one_repaired.sending ≡ send SignalFail true
  pub ports : one_repaired.blocked ≡ only Zero

-- port 1 failed, FS at port 0, then Clear
abbrev pub force_cleared : NodeValues
force_cleared = after cleared (after (forced Zero) (after (failed One) new_other))

pub record ClearsToFailure : Type 0 where
  pub state : force_cleared.state ≡ Protection
  pub ports : force_cleared.blocked ≡ only One
  pub sends : force_cleared.sending ≡ send SignalFail false
  pub guard : force_cleared.timers.guard ≡ 50
