-- The refusals of the frame library. Assumes nothing.
use Rattle.std.specs.Prelude.{Ok, Err, Result}
use Rattle.frame.specs.declared.types.FrameFault.{FrameFault}
use Rattle.frame.specs.declared.types.FrameFault.TheVariants.{Short, Header, OpCode, TlvOffset, Reserved, TlvEnd, Buffer, Settings}
use Rattle.frame.specs.Refusals.{Refusal, Answer, gave, refused, by_frame, at_octet, nowhere}

-- each refusal with its number, its layer and the octet that decided it (of a short frame the length)
abbrev pub refusal : FrameFault → Refusal
refusal (Short n) = at_octet by_frame 1 n
refusal (Header k) = at_octet by_frame 2 k
refusal OpCode = at_octet by_frame 3 19
refusal TlvOffset = at_octet by_frame 4 21
refusal Reserved = at_octet by_frame 5 22
refusal TlvEnd = at_octet by_frame 6 21
refusal Buffer = nowhere by_frame 7
refusal Settings = nowhere by_frame 13

-- what a call of this library answers
abbrev pub told : {X : Type 0} → Result X FrameFault → Answer X
told (Ok x) = gave x
told (Err e) = refused (refusal e)
