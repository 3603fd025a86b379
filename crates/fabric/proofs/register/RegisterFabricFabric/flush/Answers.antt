use Rattle.std.proofs.Common.{ℕ, false, ap, ◌∙◌}
use Rattle.fabric.specs.Register.{with_bit, word_marks, host_bits}
use Rattle.fabric.proofs.Words.{marks_flushed, host_flushed}
use Rattle.fabric.proofs.register.RegisterFabricFabric.flush.Goals as goal

pub returns : goal.returns
returns c =
    let w = c.args.self.now.word in
    let e = c.with_bit-self.ensures ∙ ap (λ (x : ℕ). with_bit x 28 false) c.with_bit.ensures in
    record { after = ap word_marks e ∙ marks_flushed w; same = ap host_bits e ∙ host_flushed w; exact = e }
