use Rattle.std.proofs.Common.{refl, rules}
use Rattle.std.proofs.lemmas.List.{take_rest}
use Rattle.frame.specs.Reading.{reading}
use Rattle.frame.proofs.reading.read_frame.Goals as goal

pub returns : goal.returns
unfolding reading
returns c = let said = (rw take_rest at c.read_pdu.ensures) c.args.frame.now refl in search rules

pub returns-then-frame-lt-FRAME_LENGTH : goal.returns-then-frame-lt-FRAME_LENGTH
unfolding reading
returns-then-frame-lt-FRAME_LENGTH c = search rules

pub returns-in_err-check_header : goal.returns-in_err-check_header
unfolding reading
returns-in_err-check_header c = search rules
