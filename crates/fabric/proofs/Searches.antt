-- What a search for the first record finds. Assumes nothing.
use Rattle.std.proofs.Common.{◌≡◌, ℕ, suc, ◌+◌, ◌-◌, ◌≤◌, Bool, true, false, cond, ◌||◌, List, [], ◌∷◌, get_or, set, is_some, Some, None, sym, refl, ap, ◌∙◌, arith}
use Rattle.fabric.specs.declared.table.Address.{Address}
use Rattle.std.specs.List.{list_any, position_from}
use Rattle.fabric.specs.Table.{Entry, holds, side_of, put_first, found_at}

-- there is a first one where some record passes
pub first_some : (t : Entry → Bool) (n : ℕ) (rs : List Entry) → is_some (position_from t n rs) ≡ list_any t rs
first_some t n [] = refl
first_some t n (r ∷ rs) =
    elim (t r) as (λ v. is_some (cond v (Some n) (position_from t (n + 1) rs)) ≡ (v || list_any t rs))
    [ true ↦ refl | false ↦ first_some t (n + 1) rs ]

pub first_yes : (t : Entry → Bool) (i : ℕ) (rs : List Entry) → position_from t 0 rs ≡ Some i → list_any t rs ≡ true
first_yes t i rs e = sym (first_some t 0 rs) ∙ ap is_some e

pub first_no : (t : Entry → Bool) (rs : List Entry) → position_from t 0 rs ≡ None → list_any t rs ≡ false
first_no t rs e = sym (first_some t 0 rs) ∙ ap is_some e

-- writing at the place that was found
pub first_put : (t : Entry → Bool) (new : Entry) (n i : ℕ) (rs : List Entry) → position_from t n rs ≡ Some i → (n ≤ i) × (set rs (i - n) new ≡ put_first t new rs)
first_put t new n i [] = λ e. absurd cc
first_put t new n i (r ∷ rs) =
    elim (t r) as (λ v. cond v (Some n) (position_from t (n + 1) rs) ≡ Some i → (n ≤ i) × (set (r ∷ rs) (i - n) new ≡ cond v (new ∷ rs) (r ∷ put_first t new rs))) [
      | true ↦ λ e. let f : n ≡ i = cc in let z : i - n ≡ 0 = omega arith in (omega arith, rw z)
      | false ↦ λ e.
          let h = first_put t new (n + 1) i rs e in
          let z : i - n ≡ suc (i - (n + 1)) = omega (arith, h.0) in
          (omega (arith, h.0), rw z (ap (λ q. r ∷ q) h.1))
    ]

-- the record at the place that was found says where the address is
pub first_found : (a : Address) (d : Entry) (n i : ℕ) (rs : List Entry) → position_from (holds a) n rs ≡ Some i → (n ≤ i) × (side_of (get_or rs (i - n) d) ≡ found_at a rs)
first_found a d n i [] = λ e. absurd cc
first_found a d n i (r ∷ rs) =
    elim (holds a r) as (λ v. cond v (Some n) (position_from (holds a) (n + 1) rs) ≡ Some i → (n ≤ i) × (side_of (get_or (r ∷ rs) (i - n) d) ≡ cond v (side_of r) (found_at a rs))) [
      | true ↦ λ e. let f : n ≡ i = cc in let z : i - n ≡ 0 = omega arith in (omega arith, rw z)
      | false ↦ λ e.
          let h = first_found a d (n + 1) i rs e in
          let z : i - n ≡ suc (i - (n + 1)) = omega (arith, h.0) in
          (omega (arith, h.0), rw z h.1)
    ]

pub found_none : (a : Address) (rs : List Entry) → list_any (holds a) rs ≡ false → found_at a rs ≡ None
found_none a [] = λ e. refl
found_none a (r ∷ rs) =
    elim (holds a r) as (λ v. (v || list_any (holds a) rs) ≡ false → cond v (side_of r) (found_at a rs) ≡ None) [
      | true ↦ λ e. absurd cc
      | false ↦ found_none a rs
    ]

-- the same, counted from 0
pub put_there : (t : Entry → Bool) (new : Entry) (i : ℕ) (rs : List Entry) → position_from t 0 rs ≡ Some i → set rs i new ≡ put_first t new rs
put_there t new i rs e = let z : i - 0 ≡ i = omega arith in rw z at (first_put t new 0 i rs e).1

pub found_there : (a : Address) (d : Entry) (i : ℕ) (rs : List Entry) → position_from (holds a) 0 rs ≡ Some i → side_of (get_or rs i d) ≡ found_at a rs
found_there a d i rs e = let z : i - 0 ≡ i = omega arith in rw z at (first_found a d 0 i rs e).1
