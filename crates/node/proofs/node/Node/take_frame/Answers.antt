use Rattle.std.proofs.Common.{◌≡◌, false, ltb, length, sym, ap, ◌∙◌}
use Rattle.std.proofs.lemmas.Bool.{le-ltb, cond-false}
use Rattle.frame.specs.Faults.{told}
use Rattle.node.proofs.Frames.{due_some, writes, frame_keeps}
use Rattle.node.proofs.Lawful.{of_node}
use Rattle.node.specs.Calls.{octets_of}
use Rattle.node.proofs.node.Node.take_frame.Goals as goal

pub returns-in_err-write_frame : goal.returns-in_err-write_frame
returns-in_err-write_frame c =
    let v = c.args.self.now.values in
    let d = due_some v c.in-Some.message c.in-Some.ensures in
    let w = writes v c.in-Some.message c.args.buffer.now c.args.self.now.settings d.1 c.if-buffer-lt-FRAME_LENGTH.false in
    let e = sym (ap told c.in_err-write_frame.was) ∙ c.write_frame.ensures.answer ∙ w.0 in absurd cc

pub write-requires : goal.write-requires
write-requires c =
    let n = c.args.self.now in
    rw c.frame_taken.ensures (frame_keeps n.values (due_some n.values c.in-Some.message c.in-Some.ensures).0 (of_node n) n.burst)

pub returns-clause-left : goal.returns-clause-left
returns-clause-left c =
    let v = c.args.self.now.values in
    let d = due_some v c.in-Some.message c.in-Some.ensures in
    let w = writes v c.in-Some.message c.args.buffer.now c.args.self.now.settings d.1 c.if-buffer-lt-FRAME_LENGTH.false in
    let short : ltb (length c.args.buffer.now) 55 ≡ false = le-ltb _ _ c.if-buffer-lt-FRAME_LENGTH.false in
    c.write_frame.ensures.left ∙ w.1 ∙ ap (λ o. octets_of v o c.args.buffer.now) c.in-Some.ensures ∙ sym (cond-false _ _ _ short)
