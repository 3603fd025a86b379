-- A frame that was read and is written again: octet by octet, what is the same. Assumes nothing.
use Rattle.std.specs.Prelude.{◌≡◌, ℕ, ◌+◌, ◌*◌, ◌/◌, ◌%◌, ◌<◌, ◌≤◌, List, ◌≢◌, slice_index, slice_index_or}
use Rattle.frame.specs.Reading.{bit}
use Rattle.frame.specs.Requests.{event_code}

-- f is the frame that was read on the channel, w what the writer made of its message at a level
pub record Rewritten (f : List ℕ) (mel : ℕ) (w : List ℕ) : Type 0 where
  -- 0 to 5, the destination, is the same
  pub destination : (k : ℕ) → k < 6 → slice_index w k ≡ slice_index f k
  -- 6 to 11, the source, is now the Node ID of the message
  pub source : (k : ℕ) → k < 6 → slice_index w (6 + k) ≡ slice_index f (24 + k)
  -- 12 and 13, the tag, are the same
  pub tag : (k : ℕ) → k < 2 → slice_index w (12 + k) ≡ slice_index f (12 + k)
  -- 14 has the same low half, and above it priority 7 and a zero bit in place of what reading ignores
  pub vid_high : slice_index_or w 14 0 % 16 ≡ slice_index f 14 % 16
  pub priority : slice_index_or w 14 0 / 16 ≡ 14
  -- 15, the rest of the VID, and 16 and 17, the EtherType, are the same
  pub vid_low_type : (k : ℕ) → k < 3 → slice_index w (15 + k) ≡ slice_index f (15 + k)
  -- 18 has the level and version 1 in place of what reading ignores
  pub level : slice_index_or w 18 0 ≡ mel * 32 + 1
  -- 19, the OpCode, is the same; 20 has no flags in place of what reading ignores
  pub opcode : slice_index_or w 19 0 ≡ slice_index f 19
  pub flags : slice_index_or w 20 0 ≡ 0
  -- 21 is 32: the same, unless the TLV offset was over 32
  pub tlv_offset : (slice_index w 21 ≡ 32) × (32 ≤ slice_index f 21)
  -- 22 has the same request; the sub-code is 0, as it was in an event, and in other requests reading ignores it
  pub request : slice_index_or w 22 0 / 16 ≡ slice_index f 22 / 16
  pub sub_code : (slice_index w 22 % 16 ≡ 0) × (slice_index f 22 / 16 ≡ event_code → slice_index f 22 % 16 ≡ 0)
  -- 23: RB is the same in NR, DNF and BPR in all requests but an event; every bit that reading ignores is 0
  pub rb : slice_index_or f 22 0 / 16 ≡ 0 → bit 128 (slice_index w 23) ≡ bit 128 (slice_index f 23)
  pub no_rb : (slice_index f 22 / 16 ≢ 0) → slice_index w 23 / 128 ≡ 0
  pub dnf : (slice_index f 22 / 16 ≢ event_code) → bit 64 (slice_index w 23) ≡ bit 64 (slice_index f 23)
  pub bpr : (slice_index f 22 / 16 ≢ event_code) → bit 32 (slice_index w 23) ≡ bit 32 (slice_index f 23)
  pub reserved_bits : slice_index_or w 23 0 % 32 ≡ 0
  pub event_status : slice_index_or f 22 0 / 16 ≡ event_code → slice_index w 23 ≡ 0
  -- 24 to 29, the Node ID, is the same
  pub node : (k : ℕ) → k < 6 → slice_index w (24 + k) ≡ slice_index f (24 + k)
  -- 30 to 54, which reading ignores, are 0
  pub rest : (k : ℕ) → k < 25 → slice_index w (30 + k) ≡ 0
