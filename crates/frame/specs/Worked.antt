-- The worked example of the frame format. Assumes nothing.
use Rattle.std.specs.Prelude.{◌≡◌, true, false, [], ◌∷◌, take, drop}
use Rattle.frame.specs.declared.types.Body.TheVariants.{Signal}
use Rattle.frame.specs.declared.types.Channel.{Channel}
use Rattle.frame.specs.declared.types.Message.{Message}
use Rattle.frame.specs.declared.types.Request.TheVariants.{SignalFail}
use Rattle.frame.specs.Writing.{frame_octets}

-- SF with BPR 1 from 00-00-5E-00-53-01
abbrev pub worked_message : Message
worked_message = record {
  node = record { octets = 0x00 ∷ 0x00 ∷ 0x5E ∷ 0x00 ∷ 0x53 ∷ 0x01 ∷ [] };
  body = Signal SignalFail false true;
}

abbrev pub worked_channel : Channel
worked_channel = record { ring_id = 1; vid = 100 }

-- at MEL 7, the octets 14 to 23
abbrev pub WorkedFrame : Type 0
WorkedFrame =
    take 10 (drop 14 (frame_octets worked_message worked_channel 7))
    ≡ 0xE0 ∷ 0x64 ∷ 0x89 ∷ 0x02 ∷ 0xE1 ∷ 0x28 ∷ 0x00 ∷ 0x20 ∷ 0xB0 ∷ 0x20 ∷ []
