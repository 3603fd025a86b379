-- To show a property of what each state gives, show it in each. Assumes nothing.
use Rattle.std.proofs.Common.{◌≡◌, arith}
use Rattle.std.proofs.lemmas.Bool.Decides.{nat_tests}
use Rattle.node.specs.declared.types.State.{State}
use Rattle.node.specs.declared.types.State.TheVariants.{Idle, Protection, Pending}
use Rattle.node.specs.declared.types.State.TheVariants.{ManualSwitch as Manual, ForcedSwitch as Forced}
use Rattle.node.specs.Names.{by_state}

pub in_state : {X : Type 0} (P : X → Type 0) (s : State) (a b c d e : X) → (s ≡ Idle → P a) → (s ≡ Protection → P b) → (s ≡ Manual → P c) → (s ≡ Forced → P d) → (s ≡ Pending → P e) → P (by_state s a b c d e)
in_state P s a b c d e f g h i j = grind (arith, nat_tests)
