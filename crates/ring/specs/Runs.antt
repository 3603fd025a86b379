-- The law of runs: what holds of a ring after its set-up and after each call, taken or turned away. Assumes nothing.
use Rattle.std.specs.Prelude.{◌≡◌, ℕ, ◌<◌, Bool, true, false, cond, not, ◌&&◌, ◌||◌, List, [], ◌∷◌, length, Some, ◌==◌, ◌≢◌}
use Rattle.std.specs.Bool.{beq}
use Rattle.fabric.specs.Marks.{Marks}
use Rattle.frame.specs.Ids.{id_number}
use Rattle.frame.specs.Reading.{reading}
use Rattle.frame.specs.Refusals.{gave}
use Rattle.frame.specs.declared.types.Body.{Body}
use Rattle.frame.specs.declared.types.Body.TheVariants.{Event, Signal}
use Rattle.frame.specs.declared.types.Message.{Message}
use Rattle.node.specs.declared.types.NodeValues.{NodeValues}
use Rattle.node.specs.declared.types.Port.{Port}
use Rattle.node.specs.declared.types.Port.TheVariants.{Zero, One}
use Rattle.node.specs.declared.types.State.TheVariants.{Idle}
use Rattle.node.specs.declared.types.State.TheVariants.{ForcedSwitch as Forced}
use Rattle.node.specs.Names.{is_sending, sent_number}
use Rattle.node.specs.Ports.{at, bpr_of}
use Rattle.node.specs.Rules.{idle_ports}
use Rattle.ring.specs.declared.station.Station.{Station}
use Rattle.ring.specs.Calls.{Ask, force, fail, repair, clear, restart, deliver, Call, RingStep}
use Rattle.ring.specs.Row.{Seat, view, seat}

-- ---- history: which ports are failed or under a local forced switch, by the calls that were taken

-- a call, and whether it was taken; in a history the newest comes first
pub record Happening : Type 0 where
  pub asks : Call
  pub taken : Bool

abbrev pub History : Type 0
History = List Happening

-- the number names the port
abbrev pub is_port : Port → ℕ → Bool
is_port Zero n = n == 0
is_port One n = n == 1

-- a failure there, a repair there, an FS there; Clear and restart end every FS of their station
abbrev pub fails : Port → Ask → Bool
fails p (fail n) = is_port p n
fails p _ = false

abbrev pub repairs : Port → Ask → Bool
repairs p (repair n) = is_port p n
repairs p _ = false

abbrev pub forces : Port → Ask → Bool
forces p (force n) = is_port p n
forces p _ = false

abbrev pub ends_force : Ask → Bool
ends_force clear = true
ends_force restart = true
ends_force _ = false

-- a call that passes the test was taken at station i
abbrev pub asked_at : Call → ℕ → (Ask → Bool) → Bool
asked_at c i test = c.station == i && test c.asks

abbrev pub taken_at : Happening → ℕ → (Ask → Bool) → Bool
taken_at e i test = e.taken && asked_at e.asks i test

-- a port is failed from a failure to a repair taken there
abbrev pub failed_by : History → ℕ → Port → Bool
failed_by [] i p = false
failed_by (e ∷ h) i p = taken_at e i (fails p) || (not (taken_at e i (repairs p)) && failed_by h i p)

-- a port is under a local forced switch from an FS taken there to a Clear or restart taken at its station
abbrev pub forced_by : History → ℕ → Port → Bool
forced_by [] i p = false
forced_by (e ∷ h) i p = taken_at e i (forces p) || (not (taken_at e i ends_force) && forced_by h i p)

-- ---- what is seen of a ring

-- blocked, read at the fabric
abbrev pub blocked_at : List Seat → ℕ → Port → Bool
blocked_at ring i p = at (seat ring i).marks.blocked p

abbrev pub SomeBlocked : List Seat → Type 0
SomeBlocked ring = (i : ℕ) × (p : Port) × (i < length ring) × (blocked_at ring i p ≡ true)

-- the port that a message names: 1 where its BPR is 1, else 0
abbrev pub named : Bool → Port
named bpr = cond bpr One Zero

-- the station is sending just that: request (NR and NR,RB are two), DNF and BPR; an event is never being sent
abbrev pub sends_body : NodeValues → Body → Bool
sends_body v Event = false
sends_body v (Signal r dnf bpr) =
    (sent_number v.sending.request == sent_number (Some r)) && (beq v.sending.dnf dnf && beq (bpr_of v.blocked) bpr)

-- the station that the message names, the one with its Node ID, is there and is not sending that message
abbrev pub Unsent : List Seat → Message → Type 0
Unsent ring m =
    (i : ℕ) × (i < length ring) × (id_number (seat ring i).values.settings.id ≡ id_number m.node) × (sends_body (seat ring i).values m.body ≡ false)

-- ---- the law

-- after the history h
pub record Meets (h : History) (ring : List Seat) : Type 0 where
  -- a port under a local forced switch is blocked
  pub forced : (i : ℕ) (p : Port) → i < length ring → forced_by h i p ≡ true → blocked_at ring i p ≡ true
  -- so is every failed port outside the forced switch state
  pub failed : (i : ℕ) (p : Port) → i < length ring → failed_by h i p ≡ true → ((seat ring i).values.state ≢ Forced) → blocked_at ring i p ≡ true
  -- a sending station blocks the port that its message names
  pub sending : (i : ℕ) → i < length ring → is_sending (seat ring i).values.sending.request ≡ true → blocked_at ring i (named (bpr_of (seat ring i).values.blocked)) ≡ true
  -- an idle owner or neighbour blocks its RPL port and no other; any other idle station blocks neither port
  pub idle : (i : ℕ) → i < length ring → (seat ring i).values.state ≡ Idle
      → (seat ring i).marks.blocked ≡ idle_ports (seat ring i).values.settings.role (seat ring i).values.settings.rpl

-- the call is a delivery of a message, as its receiver reads it, that the station named in it is not sending
abbrev pub FalseWord : List Seat → ℕ → Ask → Type 0
FalseWord ring i (deliver p f) = (m : Message) × (reading f (seat ring i).values.settings.channel ≡ gave m) × Unsent ring m
FalseWord ring i _ = ⊥

abbrev pub FalseDelivery : List Seat → Call → Type 0
FalseDelivery ring c = FalseWord ring c.station c.asks

-- if some ring port was blocked before the call and none is after it, the call was such a delivery
abbrev pub Guards : Call → List Seat → List Seat → Type 0
Guards c before then = SomeBlocked before → (SomeBlocked then → ⊥) → FalseDelivery before c

-- the same nodes and the same blocked marks: what the host may do between calls
pub record Alike (ring ring' : List Seat) : Type 0 where
  pub count : length ring' ≡ length ring
  pub values : (i : ℕ) → i < length ring → (seat ring' i).values ≡ (seat ring i).values
  pub blocked : (i : ℕ) → i < length ring → (seat ring' i).marks.blocked ≡ (seat ring i).marks.blocked

module _ {F : Type 0} (marks : F → Marks) where
  -- What may come of a row: any calls in any order, taken or turned away, each doing what its contract says, with anything
  -- between them that changes no node and no blocked mark (a question to the whole row changes nothing).
  pub data After (start : List (Station F)) : History → List (Station F) → Type 0 where
    new : After start [] start
    next : {h : History} {row : List (Station F)} → After start h row
        → (c : Call) (taken? : Bool) (row' : List (Station F)) → RingStep marks c row taken? row'
        → After start (record { asks = c; taken = taken? } ∷ h) row'
    aside : {h : History} {row : List (Station F)} → After start h row
        → (row' : List (Station F)) → Alike (view marks row) (view marks row') → After start h row'

  -- the law of a row that was just set up: whatever comes of it, Meets holds, and Guards of each call that comes next
  pub record Law (start : List (Station F)) : Type 0 where
    pub meets : (h : History) (row : List (Station F)) → After start h row → Meets h (view marks row)
    pub guards : (h : History) (row : List (Station F)) → After start h row
        → (c : Call) (taken? : Bool) (row' : List (Station F)) → RingStep marks c row taken? row'
        → Guards c (view marks row) (view marks row')
