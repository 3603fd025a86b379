-- A fabric with a table of learned addresses. Assumes nothing.
use Rattle.std.specs.Prelude.{ℕ, zero, suc, Bool, true, false, cond, List, [], ◌∷◌, replicate, Some, None, Ok, Err, Option, Result, ◌==◌}
use Rattle.std.specs.List.{list_any}
use Rattle.std.specs.Str.{bytes_eq}
use Rattle.fabric.specs.declared.types.FabricFault.{FabricFault}
use Rattle.fabric.specs.declared.types.FabricFault.TheVariants.{NoSuchPort, OnBlocked, TableFull}
use Rattle.fabric.specs.declared.types.Ports.{Ports}
use Rattle.fabric.specs.declared.table.Address.{Address}
use Rattle.fabric.specs.declared.table.Side.{Side}
use Rattle.fabric.specs.declared.table.Side.TheVariants.{Port0, Port1, OffRing}
use Rattle.fabric.specs.declared.table.Record.{Record}
use Rattle.fabric.specs.declared.table.TableFabric.{TableFabric}
use Rattle.fabric.specs.Marks.{Marks, no_port}

-- the number of a side's port: 0 and 1 on the ring, 2 off it
abbrev pub side_number : Side → ℕ
side_number Port0 = 0
side_number Port1 = 1
side_number OffRing = 2

-- the side that a number names
abbrev pub side_at : ℕ → Option Side
side_at zero = Some Port0
side_at (suc zero) = Some Port1
side_at (suc (suc zero)) = Some OffRing
side_at (suc (suc (suc n))) = None

-- two addresses agree in every octet
abbrev pub same_address : Address → Address → Bool
same_address a b = bytes_eq a.octets b.octets

-- a place of the table, which is free or has a record
abbrev pub Entry : Type 0
Entry = Option Record

abbrev pub known : Address → Side → Entry
known a s = Some (record { address = a; at = s })

-- its record holds this address
abbrev pub holds : Address → Entry → Bool
holds a None = false
holds a (Some r) = same_address r.address a

-- its record is of the port of this number
abbrev pub of_port : ℕ → Entry → Bool
of_port p None = false
of_port p (Some r) = side_number r.at == p

-- it is free
abbrev pub is_free : Entry → Bool
is_free None = true
is_free (Some r) = false

-- the first entry that passes gives way to a new one
abbrev pub put_first : (Entry → Bool) → Entry → List Entry → List Entry
put_first t new [] = []
put_first t new (r ∷ rs) = cond (t r) (new ∷ rs) (r ∷ put_first t new rs)

-- where it says that its address is
abbrev pub side_of : Entry → Option Side
side_of None = None
side_of (Some r) = Some r.at

-- where an address is: what the first record that holds it says
abbrev pub found_at : Address → List Entry → Option Side
found_at a [] = None
found_at a (r ∷ rs) = cond (holds a r) (side_of r) (found_at a rs)

-- a table as it is made: every place free, no port blocked
abbrev pub empty_table : TableFabric
empty_table = record { blocked = no_port; records = replicate 64 None }

-- taught at a ring port: some record of that port stands
abbrev pub table_marks : TableFabric → Marks
table_marks t = record {
  blocked = t.blocked;
  taught = record { p0 = list_any (of_port 0) t.records; p1 = list_any (of_port 1) t.records };
}

-- the octets of an address where it is off the ring, else none
abbrev pub octets_at : Side → Address → List ℕ
octets_at Port0 a = []
octets_at Port1 a = []
octets_at OffRing a = a.octets

-- those of an entry's address, and nothing of a free place
abbrev pub off_ring_octets : Entry → List ℕ
off_ring_octets None = []
off_ring_octets (Some r) = octets_at r.at r.address

-- flush frees the place of a record of a ring port, and leaves any other
abbrev pub left_at : Side → Record → Entry
left_at Port0 r = None
left_at Port1 r = None
left_at OffRing r = Some r

abbrev pub freed : Entry → Entry
freed None = None
freed (Some r) = left_at r.at r

-- a ring port may be blocked; off the ring nothing is
abbrev pub blocked_at : Ports → Side → Bool
blocked_at m Port0 = m.p0
blocked_at m Port1 = m.p1
blocked_at m OffRing = false

-- what learning answers, and the records after it
pub record Learning : Type 0 where
  pub answer : Result (Unit {0}) FabricFault
  pub after : List Entry

-- a refusal changes nothing
abbrev pub refuse : TableFabric → FabricFault → Learning
refuse t e = record { answer = Err e; after = t.records }

-- learning that is taken
abbrev pub accept : List Entry → Learning
accept rs = record { answer = Ok tt; after = rs }

-- at a blocked port refused; a known address moves in place, a new one takes the first free record; else the table is full
abbrev pub learning_at : TableFabric → Address → ℕ → Side → Learning
learning_at t a p s =
    cond (blocked_at t.blocked s) (refuse t (OnBlocked p))
    (cond (list_any (holds a) t.records) (accept (put_first (holds a) (known a s) t.records))
    (cond (list_any is_free t.records) (accept (put_first is_free (known a s) t.records))
    (refuse t (TableFull p))))

-- a number that names no side is refused before all else
abbrev pub learning_on : TableFabric → Address → ℕ → Option Side → Learning
learning_on t a p None = refuse t (NoSuchPort p)
learning_on t a p (Some s) = learning_at t a p s

-- learning an address at the port of this number
abbrev pub learning : TableFabric → Address → ℕ → Learning
learning t a p = learning_on t a p (side_at p)
