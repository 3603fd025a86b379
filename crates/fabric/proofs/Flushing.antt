-- What flush leaves of a table. Assumes nothing.
use Rattle.std.proofs.Common.{◌≡◌, ℕ, zero, suc, ◌+◌, ◌≤◌, Bool, false, cond, eqb, List, [], ◌∷◌, map, Some, None, Ok, sym, refl, ap, ◌∙◌, arith}
use Rattle.std.specs.List.{list_any}
use Rattle.fabric.specs.declared.table.Address.{Address}
use Rattle.fabric.specs.declared.table.Side.{Side}
use Rattle.fabric.specs.declared.table.Side.TheVariants.{Port0, Port1, OffRing}
use Rattle.fabric.specs.declared.table.TableFabric.{TableFabric}
use Rattle.fabric.specs.Marks.{after_flush, port_answer, taught_answer}
use Rattle.fabric.specs.Table.{Entry, known, side_number, same_address, holds, of_port, found_at, off_ring_octets, table_marks, freed}
use Rattle.fabric.specs.Laws.{how_many, only_off_ring, FlushLaw}
use Rattle.fabric.proofs.Addresses.{by_cases}

-- the mark of a ring port is that of its side
pub taught_at : (t : TableFabric) (p : ℕ) (s : Side) → port_answer p Port0 Port1 ≡ Ok s
    → Ok (list_any (of_port (side_number s)) t.records) ≡ taught_answer (table_marks t) p
taught_at t zero s e = let f : Port0 ≡ s = cc in ap (λ (q : Side). Ok (list_any (of_port (side_number q)) t.records)) (sym f)
taught_at t (suc zero) s e = let f : Port1 ≡ s = cc in ap (λ (q : Side). Ok (list_any (of_port (side_number q)) t.records)) (sym f)
taught_at t (suc (suc n)) s e = absurd cc

-- only records of port 2 are left
freed_not_at : (p : ℕ) → eqb 2 p ≡ false → (s : Side) (a : Address) → of_port p (freed (known a s)) ≡ false
freed_not_at p h Port0 a = refl
freed_not_at p h Port1 a = refl
freed_not_at p h OffRing a = h

freed_not : (p : ℕ) → eqb 2 p ≡ false → (r : Entry) → of_port p (freed r) ≡ false
freed_not p h None = refl
freed_not p h (Some r) = freed_not_at p h r.at r.address

any_freed : (t : Entry → Bool) → ((r : Entry) → t (freed r) ≡ false) → (rs : List Entry) → list_any t (map freed rs) ≡ false
any_freed t h [] = refl
any_freed t h (r ∷ rs) = rw (h r) (any_freed t h rs)

-- the marks after flush, whatever list the freed records are
pub marks_freed : (t : TableFabric) (rs : List Entry) → rs ≡ map freed t.records → table_marks (record { blocked = t.blocked; records = rs }) ≡ after_flush (table_marks t)
marks_freed t rs e = rw (e, any_freed (of_port 0) (freed_not 0 refl) t.records, any_freed (of_port 1) (freed_not 1 refl) t.records)

-- what is off the ring stays
octets_freed_at : (s : Side) (a : Address) → off_ring_octets (freed (known a s)) ≡ off_ring_octets (known a s)
octets_freed_at Port0 a = refl
octets_freed_at Port1 a = refl
octets_freed_at OffRing a = refl

octets_freed : (r : Entry) → off_ring_octets (freed r) ≡ off_ring_octets r
octets_freed None = refl
octets_freed (Some r) = octets_freed_at r.at r.address

pub kept_freed : (rs : List Entry) → map off_ring_octets (map freed rs) ≡ map off_ring_octets rs
kept_freed [] = refl
kept_freed (r ∷ rs) = rw (octets_freed r, kept_freed rs)

-- an address that no record holds is found nowhere
found_count : (a : Address) (rs : List Entry) → how_many (holds a) rs ≡ 0 → found_at a rs ≡ None
found_count a [] = λ h. refl
found_count a (r ∷ rs) = λ h.
    by_cases (holds a r) (λ e. let k : 1 + how_many (holds a) rs ≡ 0 = simp e at h in absurd (omega arith)) (λ e. let k : 0 + how_many (holds a) rs ≡ 0 = simp e at h in simp e (found_count a rs (omega arith)))

-- a ring port's record is freed: what is left of the records has no other of its address
gone : (a b : Address) (s : Side) (rs : List Entry) → only_off_ring (Some s) ≡ None → cond (same_address b a) 1 0 + how_many (holds a) rs ≤ 1 → (how_many (holds a) rs ≤ 1 → found_at a (map freed rs) ≡ only_off_ring (found_at a rs)) → found_at a (map freed rs) ≡ only_off_ring (cond (same_address b a) (Some s) (found_at a rs))
gone a b s rs n h k =
    by_cases (same_address b a)
    (λ e. let m : 1 + how_many (holds a) rs ≤ 1 = simp e at h in
    let none = found_count a rs (omega arith) in
    simp e (k (omega arith) ∙ ap only_off_ring none ∙ sym n))
    (λ e. let m : 0 + how_many (holds a) rs ≤ 1 = simp e at h in simp e (k (omega arith)))

found_freed_at : (a b : Address) (s : Side) (rs : List Entry) → how_many (holds a) (known b s ∷ rs) ≤ 1
    → (how_many (holds a) rs ≤ 1 → found_at a (map freed rs) ≡ only_off_ring (found_at a rs))
    → found_at a (map freed (known b s ∷ rs)) ≡ only_off_ring (found_at a (known b s ∷ rs))
found_freed_at a b Port0 rs h k = gone a b Port0 rs refl h k
found_freed_at a b Port1 rs h k = gone a b Port1 rs refl h k
found_freed_at a b OffRing rs h k =
    by_cases (same_address b a) (λ e. simp e)
    (λ e. let m : 0 + how_many (holds a) rs ≤ 1 = simp e at h in simp e (k (omega arith)))

found_freed : (a : Address) (rs : List Entry) → how_many (holds a) rs ≤ 1 → found_at a (map freed rs) ≡ only_off_ring (found_at a rs)
found_freed a [] = λ h. refl
found_freed a (None ∷ rs) = λ h. found_freed a rs (omega arith)
found_freed a (Some r ∷ rs) = λ h. found_freed_at a r.address r.at rs h (found_freed a rs)

count_freed_at : (a b : Address) (s : Side) (rs : List Entry) → how_many (holds a) (map freed rs) ≤ how_many (holds a) rs
    → how_many (holds a) (map freed (known b s ∷ rs)) ≤ how_many (holds a) (known b s ∷ rs)
count_freed_at a b Port0 rs h = omega arith
count_freed_at a b Port1 rs h = omega arith
count_freed_at a b OffRing rs h = omega arith

count_freed : (a : Address) (rs : List Entry) → how_many (holds a) (map freed rs) ≤ how_many (holds a) rs
count_freed a [] = omega arith
count_freed a (None ∷ rs) = omega (arith, count_freed a rs)
count_freed a (Some r ∷ rs) = count_freed_at a r.address r.at rs (count_freed a rs)

pub flush_law : (rs : List Entry) → FlushLaw rs (map freed rs)
flush_law rs =
    record { found = λ h a. found_freed a rs (h a); single = λ h a. omega (arith, h a, count_freed a rs) }
