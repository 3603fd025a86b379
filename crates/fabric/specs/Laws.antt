-- What learning and flushing mean to a switch, above the definitions of their steps. Assumes nothing.
use Rattle.std.specs.Prelude.{◌≡◌, ℕ, ◌+◌, ◌≤◌, Bool, false, cond, List, [], ◌∷◌, Some, None, Ok, Err, Option, Result}
use Rattle.fabric.specs.declared.types.FabricFault.{FabricFault}
use Rattle.fabric.specs.declared.table.Address.{Address}
use Rattle.fabric.specs.declared.table.Side.{Side}
use Rattle.fabric.specs.declared.table.Side.TheVariants.{Port0, Port1, OffRing}
use Rattle.fabric.specs.Table.{Entry, side_number, same_address, holds, found_at}

-- how many records pass
abbrev pub how_many : (Entry → Bool) → List Entry → ℕ
how_many t [] = 0
how_many t (r ∷ rs) = cond (t r) 1 0 + how_many t rs

-- the number of the port where an address is
abbrev pub number_of : Option Side → Option ℕ
number_of None = None
number_of (Some s) = Some (side_number s)

-- no address stands in two records
abbrev pub Single : List Entry → Type 0
Single rs = (a : Address) → how_many (holds a) rs ≤ 1

-- what a call of learn means to a switch: the address, the port, the records before, the answer, the records after
pub record LearnLaw (a : Address) (p : ℕ) (before : List Entry) (r : Result (Unit {0}) FabricFault) (after : List Entry) : Type 0 where
  -- if it is taken, the address is at that port
  pub placed : r ≡ Ok tt → number_of (found_at a after) ≡ Some p
  -- every other address is where it was
  pub others : (b : Address) → same_address a b ≡ false → found_at b after ≡ found_at b before
  -- if no address stood twice before, none does after
  pub single : Single before → Single after
  -- a refusal changes nothing
  pub unchanged : (e : FabricFault) → r ≡ Err e → after ≡ before

-- what is left of a place by flush
abbrev pub only_off_ring : Option Side → Option Side
only_off_ring None = None
only_off_ring (Some Port0) = None
only_off_ring (Some Port1) = None
only_off_ring (Some OffRing) = Some OffRing

-- what flush means to a switch, where no address stands twice
pub record FlushLaw (before after : List Entry) : Type 0 where
  -- an address is found after exactly if it was found off the ring
  pub found : Single before → (a : Address) → found_at a after ≡ only_off_ring (found_at a before)
  -- and none stands twice after
  pub single : Single before → Single after
