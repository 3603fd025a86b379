-- The four marks of a fabric, and what each call answers and does to them. Assumes nothing.
use Rattle.std.specs.Prelude.{ℕ, zero, suc, Bool, true, false, Ok, Err, Result}
use Rattle.fabric.specs.declared.types.FabricFault.{FabricFault}
use Rattle.fabric.specs.declared.types.FabricFault.TheVariants.{NoSuchPort}
use Rattle.fabric.specs.declared.types.Ports.{Ports}

-- for each ring port: blocked, and taught (addresses learned there stand)
pub record Marks : Type 0 where
  pub blocked : Ports
  pub taught : Ports

-- a value for port 0, one for port 1, and one for any other number
abbrev pub by_port : {X : Type 0} → ℕ → X → X → X → X
by_port zero a b c = a
by_port (suc zero) a b c = b
by_port (suc (suc n)) a b c = c

-- an answer for port 0 and one for port 1; any other number is refused
abbrev pub port_answer : {X : Type 0} → ℕ → X → X → Result X FabricFault
port_answer p a b = by_port p (Ok a) (Ok b) (Err (NoSuchPort p))

-- whether a port is blocked, whether it is taught, and that a call was done
abbrev pub blocked_answer : Marks → ℕ → Result Bool FabricFault
blocked_answer m p = port_answer p m.blocked.p0 m.blocked.p1

abbrev pub taught_answer : Marks → ℕ → Result Bool FabricFault
taught_answer m p = port_answer p m.taught.p0 m.taught.p1

abbrev pub done_answer : ℕ → Result (Unit {0}) FabricFault
done_answer p = port_answer p tt tt

-- one port's mark at a value; any other number changes nothing
abbrev pub with_mark : Ports → ℕ → Bool → Ports
with_mark m p b = by_port p (record { p0 = b; p1 = m.p1 }) (record { p0 = m.p0; p1 = b }) m

-- a mark at neither port
abbrev pub no_port : Ports
no_port = record { p0 = false; p1 = false }

-- one port's blocked mark at a value
abbrev pub with_blocked : Marks → ℕ → Bool → Marks
with_blocked m p b = record { blocked = with_mark m.blocked p b; taught = m.taught }

-- block sets a blocked mark, open clears it
abbrev pub after_block : Marks → ℕ → Marks
after_block m p = with_blocked m p true

abbrev pub after_open : Marks → ℕ → Marks
after_open m p = with_blocked m p false

-- flush clears both taught marks
abbrev pub after_flush : Marks → Marks
after_flush m = record { blocked = m.blocked; taught = no_port }
