use Rattle.std.proofs.Common.{◌≡◌, ap, ◌∙◌, rules}
use Rattle.fabric.specs.Register.{word_marks, word_with_blocked}
use Rattle.fabric.proofs.Words.{marks_blocked}
use Rattle.fabric.proofs.register.RegisterFabric.mark_blocked.Goals as goal

pub returns-clause-after : goal.returns-clause-after
returns-clause-after c =
    let e : c.with_bit-self.result ≡ word_with_blocked c.args.self.now.word c.args.port c.args.on = search rules in
    ap word_marks e ∙ marks_blocked c.args.self.now.word c.args.port c.args.on
