use Rattle.std.proofs.Common.{◌≡◌, length, sym, ◌∙◌, rules}
use Rattle.frame.specs.Writing.{frame_octets}
use Rattle.frame.proofs.Rewrites.{again}
use Rattle.frame.proofs.RoundTrip.{round_trip}
use Rattle.frame.proofs.writing.write_frame.Goals as goal

pub returns : goal.returns
returns c =
    let n : length c.args.message.node.octets ≡ 6 = search rules in
    let e : c.copy_from_slice.new.self ≡ frame_octets c.args.message c.args.channel c.args.mel =
    c.copy_from_slice.ensures.after ∙ c.frame_octets.ensures in
    let h = sym c.is_in_range.ensures ∙ c.if-not-is_in_range.false in
    record {
      answer = search rules;
      left = search rules;
      readable = λ _. rw e (round_trip _ _ _ _ n h);
      rewritten = λ _ f said. rw e (again f _ _ _ _ h said);
    }
