-- The octets of a frame. Assumes nothing.
use Rattle.std.specs.Prelude.{ℕ, ◌+◌, ◌*◌, ◌/◌, ◌%◌, Bool, cond, ◌&&◌, List, [], ◌∷◌, ◌++◌, length, drop, replicate, nat_le, nat_lt, slice_index}
use Rattle.frame.specs.declared.types.Body.{Body}
use Rattle.frame.specs.declared.types.Body.TheVariants.{Event, Signal}
use Rattle.frame.specs.declared.types.Channel.{Channel}
use Rattle.frame.specs.declared.types.FrameFault.TheVariants.{Buffer, Settings}
use Rattle.frame.specs.declared.types.Message.{Message}
use Rattle.frame.specs.declared.types.NodeId.{NodeId}
use Rattle.frame.specs.Faults.{refusal}
use Rattle.frame.specs.Ids.{id_in_range}
use Rattle.frame.specs.Refusals.{Answer, gave, refused}
use Rattle.frame.specs.Requests.{coded, event_code}

-- a station's ID, ring ID 1 to 239, VID 1 to 4094, MEL 0 to 7
abbrev pub in_range : NodeId → Channel → ℕ → Bool
in_range n c mel =
    id_in_range n && nat_le 1 c.ring_id && nat_le c.ring_id 239 && nat_le 1 c.vid && nat_le c.vid 4094 && nat_le mel 7

-- octet 22: the code in the upper half, the sub-code 0 in the lower
abbrev pub request_octet : Body → ℕ
request_octet Event = event_code * 16
request_octet (Signal r dnf bpr) = (coded r).code * 16

-- octet 23: RB, DNF, BPR from the top, then five zero bits
abbrev pub status_octet : Body → ℕ
status_octet Event = 0
status_octet (Signal r dnf bpr) = cond (coded r).rb 128 0 + cond dnf 64 0 + cond bpr 32 0

-- one octet of the Node ID
abbrev pub id_octet : Message → ℕ → ℕ
id_octet m k = slice_index m.node.octets k

-- the octets 0 to 29
unfoldable pub head_octets : Message → Channel → ℕ → List ℕ
head_octets m c mel =
    -- 0: destination, which ends in the ring ID
    0x01 ∷ 0x19 ∷ 0xA7 ∷ 0x00 ∷ 0x00 ∷ c.ring_id
    -- 6: source, the Node ID
    ∷ id_octet m 0 ∷ id_octet m 1 ∷ id_octet m 2 ∷ id_octet m 3 ∷ id_octet m 4 ∷ id_octet m 5
    -- 12: tag; 14: priority 7 in three bits, a zero bit, the VID in twelve
    ∷ 0x81 ∷ 0x00 ∷ (7 * 32 + c.vid / 256) ∷ (c.vid % 256)
    -- 16: EtherType
    ∷ 0x89 ∷ 0x02
    -- 18: MEL in three bits and version 1 in five; OpCode; flags; TLV offset
    ∷ (mel * 32 + 1) ∷ 0x28 ∷ 0x00 ∷ 0x20
    -- 22: request, status
    ∷ request_octet m.body ∷ status_octet m.body
    -- 24: Node ID
    ∷ id_octet m 0 ∷ id_octet m 1 ∷ id_octet m 2 ∷ id_octet m 3 ∷ id_octet m 4 ∷ id_octet m 5 ∷ []

-- all 55: from 30 on 24 reserved zeros, at 54 the End TLV, zero too
unfoldable pub frame_octets : Message → Channel → ℕ → List ℕ
frame_octets m c mel = head_octets m c mel ++ (replicate 24 0x00 ++ 0x00 ∷ [])

-- what the writer answers, for a buffer
abbrev pub writing : Message → Channel → ℕ → List ℕ → Answer (Unit {0})
writing m c mel buffer =
    cond (in_range m.node c mel)
    (cond (nat_lt (length buffer) 55) (refused (refusal Buffer)) (gave tt))
    (refused (refusal Settings))

-- what it leaves in the buffer: the frame and what stood past it, or all as it was
abbrev pub written : Message → Channel → ℕ → List ℕ → List ℕ
written m c mel buffer =
    cond (in_range m.node c mel && nat_le 55 (length buffer)) (frame_octets m c mel ++ drop 55 buffer) buffer
