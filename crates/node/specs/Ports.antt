-- A mark for each of the two ring ports. Assumes nothing.
use Rattle.std.specs.Prelude.{ℕ, Bool, true, false, not, ◌&&◌, ◌||◌}
use Rattle.std.specs.Bool.{beq}
use Rattle.fabric.specs.declared.types.Ports.{Ports}
use Rattle.node.specs.declared.types.Port.{Port}
use Rattle.node.specs.declared.types.Port.TheVariants.{Zero, One}

abbrev pub port_number : Port → ℕ
port_number Zero = 0
port_number One = 1

-- no port, and one port alone
abbrev pub none : Ports
none = record { p0 = false; p1 = false }

abbrev pub only : Port → Ports
only Zero = record { p0 = true; p1 = false }
only One = record { p0 = false; p1 = true }

-- the mark of a port, and the marks with another one there
abbrev pub at : Ports → Port → Bool
at m Zero = m.p0
at m One = m.p1

abbrev pub with_mark : Ports → Port → Bool → Ports
with_mark m Zero b = record m { p0 = b }
with_mark m One b = record m { p1 = b }

-- some port is marked
abbrev pub some : Ports → Bool
some m = m.p0 || m.p1

abbrev pub implies : Bool → Bool → Bool
implies true b = b
implies false b = true

-- each port of m is one of n
abbrev pub within : Ports → Ports → Bool
within m n = implies m.p0 n.p0 && implies m.p1 n.p1

abbrev pub same : Ports → Ports → Bool
same m n = beq m.p0 n.p0 && beq m.p1 n.p1

-- the ports that both have
abbrev pub meet : Ports → Ports → Ports
meet m n = record { p0 = m.p0 && n.p0; p1 = m.p1 && n.p1 }

-- BPR is 1 exactly when port 1 is blocked and port 0 open
abbrev pub bpr_of : Ports → Bool
bpr_of b = b.p1 && not b.p0
