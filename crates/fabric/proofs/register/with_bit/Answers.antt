use Rattle.std.proofs.Common.{ℕ, ◌-◌, ◌^◌, ◌<◌, sym, ap, ◌∙◌, arith}
use lib.Bits.{bit_or, bit_and}
use Rattle.std.proofs.lemmas.Nat.{one_shl}
use Rattle.fabric.specs.Register.{with_bit}
use Rattle.fabric.proofs.Words.{or_sets, and_clears}
use Rattle.fabric.proofs.register.with_bit.Goals as goal

pub returns-then-on : goal.returns-then-on
returns-then-on c =
    let w = c.args.word in
    let k = c.args.place in
    ap (bit_or w) (one_shl k 32 c.requires) ∙ or_sets w k ∙ ap (with_bit w k) (sym c.if-on.true)

pub returns-else-on : goal.returns-else-on
returns-else-on c =
    let w = c.args.word in
    let k = c.args.place in
    let h : w < 2 ^ 32 = omega (arith, c.ranges.word) in
    ap (λ (m : ℕ). bit_and w (4294967295 - m)) (one_shl k 32 c.requires) ∙ and_clears w k h c.requires ∙ ap (with_bit w k) (sym c.if-on.false)
