-- The exception in the law of runs is real: an idle ring can lose its last block to a message that nobody sent. Assumes nothing.
use Rattle.std.specs.Prelude.{◌≡◌, ℕ, ◌<◌, Bool, false, List, [], ◌∷◌, length, replicate, None, ◌≢◌}
use Rattle.frame.specs.Ids.{id_number}
use Rattle.frame.specs.Reading.{reading}
use Rattle.frame.specs.Refusals.{gave}
use Rattle.frame.specs.Writing.{frame_octets}
use Rattle.frame.specs.declared.types.Body.TheVariants.{Signal}
use Rattle.frame.specs.declared.types.Message.{Message}
use Rattle.frame.specs.declared.types.NodeId.{NodeId}
use Rattle.frame.specs.declared.types.Request.TheVariants.{SignalFail}
use Rattle.node.specs.declared.types.Port.{Port}
use Rattle.node.specs.declared.types.Role.TheVariants.{Other, Owner, Neighbour}
use Rattle.node.specs.declared.types.State.TheVariants.{Idle}
use Rattle.node.specs.Ports.{port_number}
use Rattle.node.specs.Worked.{id_ending, settings_of}
use Rattle.ring.specs.Calls.{Call, call, clear, deliver, frame, row_gate, ring_answer, ring_buffer, after}
use Rattle.ring.specs.Row.{Seat, blank, seat}
use Rattle.ring.specs.Runs.{SomeBlocked, FalseDelivery}
use Rattle.ring.specs.SetUp.{fresh}

-- an idle station: it has no mismatch mark, and its fabric's blocked marks are the node's, else it takes no delivery (9)
pub record IdleStation (s : Seat) : Type 0 where
  pub state : s.values.state ≡ Idle
  pub plain : s.values.mismatch ≡ false
  pub same : s.marks.blocked ≡ s.values.blocked

-- a lawful row of such stations, with no neighbour among them
pub record IdleRing (ring : List Seat) : Type 0 where
  pub lawful : row_gate ring ≡ None
  pub stations : (k : ℕ) → k < length ring → IdleStation (seat ring k)
  pub alone : (k : ℕ) → k < length ring → (seat ring k).values.settings.role ≢ Neighbour

abbrev pub sf_of : NodeId → Bool → Bool → Message
sf_of n dnf bpr = record { node = n; body = Signal SignalFail dnf bpr }

-- the station is the owner, past guard, and the frame says there: SF, of another station of the ring
pub record Deceives (ring : List Seat) (i : ℕ) (f : List ℕ) : Type 0 where
  pub within : i < length ring
  pub owner : (seat ring i).values.settings.role ≡ Owner
  pub guard : (seat ring i).values.timers.guard ≡ 0
  pub node : NodeId
  pub dnf : Bool
  pub bpr : Bool
  pub reads : reading f (seat ring i).values.settings.channel ≡ gave (sf_of node dnf bpr)
  pub other : ℕ
  pub there : other < length ring
  pub apart : other ≢ i
  pub named : id_number (seat ring other).values.settings.id ≡ id_number node

-- the call is taken and opens the last blocked port, and its message is one that the station named in it is not sending
pub record LosesLast (ring : List Seat) (c : Call) : Type 0 where
  pub taken : ring_answer c ring ≡ gave tt
  pub before : SomeBlocked ring
  pub none_after : SomeBlocked (after c ring) → ⊥
  pub false_word : FalseDelivery ring c

-- such a frame, delivered at either port of the owner of an idle ring without neighbour, does that
abbrev pub ExceptionIsReal : Type 0
ExceptionIsReal =
    (ring : List Seat) (i : ℕ) (p : Port) (f : List ℕ)
    → IdleRing ring → Deceives ring i f → LosesLast ring (call i (deliver (port_number p) f))

-- ---- such a ring, and such a frame

-- an owner and another station are set up
abbrev pub new_ring : List Seat
new_ring = fresh blank (settings_of 1 Owner) ∷ fresh blank (settings_of 5 Other) ∷ []

-- Clear at the owner ends its wait, the frame that it then sends, NR,RB, is taken and delivered to the other: both are idle
abbrev pub cleared_ring : List Seat
cleared_ring = after (call 0 clear) new_ring

abbrev pub no_frame : List ℕ
no_frame = replicate 55 0

abbrev pub rested_ring : List Seat
rested_ring = after (call 1 (deliver 0 (ring_buffer cleared_ring 0 no_frame))) (after (call 0 (frame no_frame)) cleared_ring)

-- SF in the name of the other, without DNF and BPR
abbrev pub false_frame : List ℕ
false_frame = frame_octets (sf_of (id_ending 5) false false) (settings_of 5 Other).channel (settings_of 5 Other).mel

pub record ExceptionOccurs : Type 0 where
  pub ring : IdleRing rested_ring
  pub frame : Deceives rested_ring 0 false_frame
