-- Addresses that agree are one, and what a record holds. Assumes nothing.
use Rattle.std.proofs.Common.{◌≡◌, ℕ, Bool, true, false, List, Some, None, refl, ap, ⊎_elim}
use Rattle.std.proofs.lemmas.Bool.{cases_Bool}
use Rattle.std.proofs.lemmas.Slice.Eq.{bytes_eq-Decides}
use Rattle.fabric.specs.declared.table.Address.{Address}
use Rattle.fabric.specs.Table.{Entry, same_address, holds, is_free}

-- by whether a test passes
pub by_cases : {P : Type 0} (b : Bool) → (b ≡ true → P) → (b ≡ false → P) → P
by_cases b f g = ⊎_elim f g (cases_Bool b)

pub same_self : (a : Address) → same_address a a ≡ true
same_self a = (bytes_eq-Decides a.octets a.octets).1 refl

-- an address is its octets
abbrev of_octets : List ℕ → Address
of_octets o = record { octets = o }

pub same_is : (a b : Address) → same_address a b ≡ true → a ≡ b
same_is a b e = ap of_octets ((bytes_eq-Decides a.octets b.octets).0 e)

-- a record that holds one address holds another where the two agree
pub holds_like : (a b : Address) (r : Entry) → holds a r ≡ true → holds b r ≡ same_address a b
holds_like a b None = λ e. absurd cc
holds_like a b (Some r) = λ e. ap (λ (x : Address). same_address x b) (same_is r.address a e)

pub free_holds_none : (b : Address) (r : Entry) → is_free r ≡ true → holds b r ≡ false
free_holds_none b None = λ e. refl
free_holds_none b (Some r) = λ e. absurd cc
