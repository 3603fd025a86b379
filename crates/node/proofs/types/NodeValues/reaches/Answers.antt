use Rattle.std.proofs.Common.{◌≡◌, ℕ, eqb, Some, Option, ap, arith, ◌∙◌}
use Rattle.std.proofs.lemmas.Bool.Decides.{nat_tests}
use Rattle.std.specs.Option.{option_eq}
use Rattle.frame.specs.Highest.{first_highest, option_rank}
use Rattle.node.specs.Claims.{claim_rank, is_first, reaches}
use Rattle.node.proofs.types.NodeValues.reaches.Goals as goal

is_zero : (o : Option ℕ) → option_eq eqb o (Some 0) ≡ is_first o
is_zero o = grind (arith, nat_tests)

pub returns : goal.returns
unfolding reaches
returns c = c.eq.ensures ∙ is_zero c.highest.result ∙ ap is_first (c.highest.ensures.value ∙ ap (first_highest (option_rank claim_rank)) (cc))
