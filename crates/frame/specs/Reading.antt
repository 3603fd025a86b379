-- What a frame says. Assumes nothing.
use Rattle.std.specs.Prelude.{ℕ, ◌+◌, ◌/◌, ◌%◌, Bool, cond, List, [], ◌∷◌, length, Some, None, Option, ◌==◌, nat_lt, slice_index}
use Rattle.std.specs.Option.{option_map}
use Rattle.frame.specs.declared.types.Body.{Body}
use Rattle.frame.specs.declared.types.Body.TheVariants.{Event, Signal}
use Rattle.frame.specs.declared.types.Channel.{Channel}
use Rattle.frame.specs.declared.types.FrameFault.TheVariants.{Short, Header, OpCode, TlvOffset, Reserved, TlvEnd}
use Rattle.frame.specs.declared.types.Message.{Message}
use Rattle.frame.specs.declared.types.NodeId.{NodeId}
use Rattle.frame.specs.declared.types.Request.{Request}
use Rattle.frame.specs.declared.types.Request.TheVariants.{NoRequest, RplBlocked, ManualSwitch, SignalFail, ForcedSwitch}
use Rattle.frame.specs.Faults.{refusal}
use Rattle.frame.specs.Refusals.{Answer, gave, refused}
use Rattle.frame.specs.Requests.{event_code}

-- the bit of a weight in an octet
abbrev pub bit : ℕ → ℕ → Bool
bit weight n = n / weight % 2 == 1

-- offset, what stands there, what should: the first offset where these differ
abbrev pub first_unequal : List (ℕ × ℕ × ℕ) → Option ℕ
first_unequal [] = None
first_unequal (x ∷ xs) = cond (x.1 == x.2) (first_unequal xs) (Some x.0)

-- destination, tag, VID (at 14 only its four bits) and EtherType; the source, 6 to 11, is not read
abbrev pub header_octets : List ℕ → Channel → List (ℕ × ℕ × ℕ)
header_octets f c =
    (0, slice_index f 0, 0x01) ∷ (1, slice_index f 1, 0x19) ∷ (2, slice_index f 2, 0xA7) ∷ (3, slice_index f 3, 0x00) ∷ (4, slice_index f 4, 0x00)
    ∷ (5, slice_index f 5, c.ring_id)
    ∷ (12, slice_index f 12, 0x81) ∷ (13, slice_index f 13, 0x00)
    ∷ (14, slice_index f 14 % 16, c.vid / 256) ∷ (15, slice_index f 15, c.vid % 256)
    ∷ (16, slice_index f 16, 0x89) ∷ (17, slice_index f 17, 0x02) ∷ []

abbrev pub first_difference : List ℕ → Channel → Option ℕ
first_difference f c = first_unequal (header_octets f c)

-- the request that a code names, given the RB bit, which only NR has
abbrev pub request_of : ℕ → Bool → Option Request
request_of code rb =
    cond (code == 0) (Some (cond rb RplBlocked NoRequest))
    (cond (code == 7) (Some ManualSwitch)
    (cond (code == 11) (Some SignalFail)
    (cond (code == 13) (Some ForcedSwitch) None)))

-- the request octet (22) and the status octet (23); an event has the sub-code 0, and no status
abbrev pub body_of : ℕ → ℕ → Option Body
body_of request status =
    cond (request / 16 == event_code) (cond (request % 16 == 0) (Some Event) None)
    (option_map (λ r. Signal r (bit 64 status) (bit 32 status)) (request_of (request / 16) (bit 128 status)))

abbrev pub node_of : List ℕ → NodeId
node_of f = record {
  octets = slice_index f 24 ∷ slice_index f 25 ∷ slice_index f 26 ∷ slice_index f 27 ∷ slice_index f 28 ∷ slice_index f 29 ∷ [];
}

-- the message, if the TLV offset, counted from 22, stays in the frame
abbrev pub body_reading : List ℕ → Option Body → Answer Message
body_reading f None = refused (refusal Reserved)
body_reading f (Some b) =
    cond (nat_lt (22 + slice_index f 21) (length f)) (gave (record { node = node_of f; body = b })) (refused (refusal TlvEnd))

-- the octets from 18 on
abbrev pub pdu_reading : List ℕ → Answer Message
pdu_reading f =
    cond (slice_index f 19 == 0x28)
    (cond (nat_lt (slice_index f 21) 32) (refused (refusal TlvOffset)) (body_reading f (body_of (slice_index f 22) (slice_index f 23))))
    (refused (refusal OpCode))

abbrev pub header_reading : Option ℕ → Answer (Unit {0})
header_reading None = gave tt
header_reading (Some k) = refused (refusal (Header k))

-- go on where nothing was refused
abbrev pub then : {X Y : Type 0} → Answer X → Answer Y → Answer Y
then (gave x) next = next
then (refused r) next = refused r

-- the message of a frame on a channel, or the first refusal
unfoldable pub reading : List ℕ → Channel → Answer Message
reading f c =
    cond (nat_lt (length f) 55) (refused (refusal (Short (length f))))
    (then (header_reading (first_difference f c)) (pdu_reading f))
