-- Moving the block from one ring port to the other. Assumes nothing.
use Rattle.std.specs.Prelude.{ℕ, Bool, cond, ◌&&◌, Ok, Err, Result, nat_lt}
use Rattle.fabric.specs.declared.types.FabricFault.{FabricFault}
use Rattle.fabric.specs.declared.types.FabricFault.TheVariants.{NoSuchPort}
use Rattle.fabric.specs.Marks.{Marks, after_block, after_open, after_flush}

-- ring ports are 0 and 1
abbrev pub on_ring : ℕ → Bool
on_ring p = nat_lt p 2

-- the port to open is looked at first, then the port to block
abbrev pub change_answer : ℕ → ℕ → Result (Unit {0}) FabricFault
change_answer from to = cond (on_ring from) (cond (on_ring to) (Ok tt) (Err (NoSuchPort to))) (Err (NoSuchPort from))

-- with two ring ports: block one, open the other, flush; else nothing changes
abbrev pub after_change : Marks → ℕ → ℕ → Marks
after_change m from to = cond (on_ring from && on_ring to) (after_flush (after_open (after_block m to) from)) m
