-- The cases of each closed list, with their numbers. Assumes nothing.
use Rattle.std.specs.Prelude.{ℕ, Bool, true, false, is_some, Some, None, Option}
use Rattle.frame.specs.declared.types.Request.{Request}
use Rattle.frame.specs.declared.types.Request.TheVariants.{NoRequest, RplBlocked, ManualSwitch, SignalFail, ForcedSwitch}
use Rattle.node.specs.declared.types.Role.{Role}
use Rattle.node.specs.declared.types.Role.TheVariants.{Other, Owner, Neighbour}
use Rattle.node.specs.declared.types.State.{State}
use Rattle.node.specs.declared.types.State.TheVariants.{Idle, Protection, Pending}
use Rattle.node.specs.declared.types.State.TheVariants.{ManualSwitch as Manual, ForcedSwitch as Forced}

-- a value for each state, A to E
abbrev pub by_state : {X : Type 0} → State → X → X → X → X → X → X
by_state Idle a b c d e = a
by_state Protection a b c d e = b
by_state Manual a b c d e = c
by_state Forced a b c d e = d
by_state Pending a b c d e = e

abbrev pub state_number : State → ℕ
state_number s = by_state s 0 1 2 3 4

abbrev pub role_number : Role → ℕ
role_number Other = 0
role_number Owner = 1
role_number Neighbour = 2

abbrev pub is_owner : Role → Bool
is_owner Other = false
is_owner Owner = true
is_owner Neighbour = false

abbrev pub is_other : Role → Bool
is_other Other = true
is_other Owner = false
is_other Neighbour = false

-- the message that is sent: none, NR, NR,RB, MS, SF, FS
abbrev pub sent_number : Option Request → ℕ
sent_number None = 0
sent_number (Some NoRequest) = 1
sent_number (Some RplBlocked) = 2
sent_number (Some ManualSwitch) = 3
sent_number (Some SignalFail) = 4
sent_number (Some ForcedSwitch) = 5

abbrev pub is_sending : Option Request → Bool
is_sending r = is_some r

-- what each timer starts from, in ticks; the length of a burst, and the wait after it
abbrev pub guard_start : ℕ
guard_start = 50

abbrev pub wtr_start : ℕ
wtr_start = 30000

abbrev pub wtb_start : ℕ
wtb_start = 550

abbrev pub burst_start : ℕ
burst_start = 3

abbrev pub wait_start : ℕ
wait_start = 500
