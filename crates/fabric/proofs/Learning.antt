-- What learning means to a switch. Assumes nothing.
use Rattle.std.proofs.Common.{◌≡◌, ℕ, zero, suc, ◌+◌, ◌≤◌, Bool, true, false, cond, List, [], ◌∷◌, Some, None, Ok, Err, Option, Result, set, sym, refl, ap, ◌∙◌, subst, arith}
use Rattle.std.proofs.lemmas.Bool.{cond_both, or_parts}
use Rattle.std.specs.List.{list_any, position_from}
use Rattle.std.specs.Option.{ok_or, option_or}
use Rattle.fabric.specs.declared.types.FabricFault.{FabricFault}
use Rattle.fabric.specs.declared.types.FabricFault.TheVariants.{OnBlocked, TableFull}
use Rattle.fabric.specs.declared.table.Address.{Address}
use Rattle.fabric.specs.declared.table.Side.{Side}
use Rattle.fabric.specs.declared.table.Side.TheVariants.{Port0, Port1, OffRing}
use Rattle.fabric.specs.declared.table.TableFabric.{TableFabric}
use Rattle.fabric.specs.Table.{Entry, known, side_number, side_at, same_address, holds, is_free, put_first, side_of, found_at, blocked_at, Learning, learning_at}
use Rattle.fabric.specs.Laws.{how_many, number_of, Single, LearnLaw}
use Rattle.fabric.proofs.Addresses.{by_cases, same_self, same_is, holds_like, free_holds_none}
use Rattle.fabric.proofs.Searches.{first_no, first_yes, put_there}

-- a known address is found where its record now says
found_moved : (a : Address) (s : Side) (rs : List Entry) → list_any (holds a) rs ≡ true → found_at a (put_first (holds a) (known a s) rs) ≡ Some s
found_moved a s [] = λ h. absurd cc
found_moved a s (r ∷ rs) = λ h.
    by_cases (holds a r) (λ e. simp (e, same_self a)) (λ e. simp e (found_moved a s rs (simp e at h)))

-- a new address is found where its record says
found_added : (a : Address) (s : Side) (rs : List Entry) → list_any (holds a) rs ≡ false → list_any is_free rs ≡ true → found_at a (put_first is_free (known a s) rs) ≡ Some s
found_added a s [] = λ h k. absurd cc
found_added a s (r ∷ rs) = λ h k.
    let p = or_parts (holds a r) (list_any (holds a) rs) h in
    by_cases (is_free r) (λ e. simp (e, same_self a)) (λ e. let q = p.0 in simp (e, q) (found_added a s rs p.1 (simp e at k)))

-- an address that neither the old nor the new record holds is where it was
found_other : (b : Address) (t : Entry → Bool) (new : Entry) → ((r : Entry) → t r ≡ true → holds b r ≡ false) → holds b new ≡ false → (rs : List Entry) → found_at b (put_first t new rs) ≡ found_at b rs
found_other b t new h k [] = refl
found_other b t new h k (r ∷ rs) =
    by_cases (t r) (λ e. let q = h r e in simp (e, q, k)) (λ e. simp e (ap (λ (f : Option Side). cond (holds b r) (side_of r) f) (found_other b t new h k rs)))

-- how many records pass, after a record gives way to one that passes alike
count_alike : (u t : Entry → Bool) (new : Entry) → ((r : Entry) → t r ≡ true → u r ≡ u new) → (rs : List Entry) → how_many u (put_first t new rs) ≡ how_many u rs
count_alike u t new h [] = refl
count_alike u t new h (r ∷ rs) =
    by_cases (t r) (λ e. let q = h r e in simp (e, q)) (λ e. simp e (ap (λ (n : ℕ). cond (u r) 1 0 + n) (count_alike u t new h rs)))

-- and to any other
count_more : (u t : Entry → Bool) (new : Entry) (rs : List Entry) → how_many u (put_first t new rs) ≤ 1 + how_many u rs
count_more u t new [] = omega arith
count_more u t new (r ∷ rs) =
    by_cases (t r) (λ e. simp e (grind arith)) (λ e. simp e (omega (arith, count_more u t new rs)))

pub count_none : (u : Entry → Bool) (rs : List Entry) → list_any u rs ≡ false → how_many u rs ≡ 0
count_none u [] = λ h. refl
count_none u (r ∷ rs) = λ h. let p = or_parts (u r) (list_any u rs) h in let q = p.0 in simp q (omega (arith, count_none u rs p.1))

single_moved : (a : Address) (s : Side) (rs : List Entry) → Single rs → Single (put_first (holds a) (known a s) rs)
single_moved a s rs h b = omega (arith, h b, count_alike (holds b) (holds a) (known a s) (holds_like a b) rs)

single_added : (a : Address) (s : Side) (rs : List Entry) → list_any (holds a) rs ≡ false → Single rs → Single (put_first is_free (known a s) rs)
single_added a s rs k h b =
    by_cases (same_address a b)
    (λ e. omega (arith, count_more (holds b) is_free (known a s) rs, count_none (holds b) rs (subst (λ (x : Address). list_any (holds x) rs ≡ false) (same_is a b e) k)))
    (λ e. omega (arith, h b, count_alike (holds b) is_free (known a s) (λ r f. free_holds_none b r f ∙ sym e) rs))

-- learning that is refused, moves a known address, or adds a new one
law_refused : (a : Address) (p : ℕ) (rs : List Entry) (e : FabricFault) → LearnLaw a p rs (Err e) rs
law_refused a p rs e = record { placed = λ h. absurd cc; others = λ b h. refl; single = λ h. h; unchanged = λ e h. refl }

-- a call is not both taken and refused
never_both : {P : Type 0} (r : Result (Unit {0}) FabricFault) (e : FabricFault) → r ≡ Ok tt → r ≡ Err e → P
never_both r e g h = absurd cc

law_moved : (a : Address) (p : ℕ) (s : Side) (rs : List Entry) → side_number s ≡ p → list_any (holds a) rs ≡ true → LearnLaw a p rs (Ok tt) (put_first (holds a) (known a s) rs)
law_moved a p s rs n k =
    record {
      placed = λ _. ap number_of (found_moved a s rs k) ∙ ap (λ (x : ℕ). Some x) n;
      others = λ b h. found_other b (holds a) (known a s) (λ r e. holds_like a b r e ∙ h) h rs;
      single = single_moved a s rs;
      unchanged = λ e h. never_both (Ok tt) e refl h;
    }

law_added : (a : Address) (p : ℕ) (s : Side) (rs : List Entry) → side_number s ≡ p → list_any (holds a) rs ≡ false → list_any is_free rs ≡ true → LearnLaw a p rs (Ok tt) (put_first is_free (known a s) rs)
law_added a p s rs n k f =
    record {
      placed = λ _. ap number_of (found_added a s rs k f) ∙ ap (λ (x : ℕ). Some x) n;
      others = λ b h. found_other b is_free (known a s) (free_holds_none b) h rs;
      single = single_added a s rs k;
      unchanged = λ e h. never_both (Ok tt) e refl h;
    }

law_at : (t : TableFabric) (a : Address) (p : ℕ) (s : Side) → side_number s ≡ p → LearnLaw a p t.records (learning_at t a p s).answer (learning_at t a p s).after
law_at t a p s n =
    let rs = t.records in
    let P : Learning → Type 0 = λ l. LearnLaw a p rs l.answer l.after in
    cond_both (blocked_at t.blocked s) _ _ P (λ _. law_refused a p rs (OnBlocked p))
    (λ _. cond_both (list_any (holds a) rs) _ _ P (λ k. law_moved a p s rs n k)
    (λ k. cond_both (list_any is_free rs) _ _ P (λ f. law_added a p s rs n k f) (λ _. law_refused a p rs (TableFull p))))

side_back : (p : ℕ) (s : Side) → side_at p ≡ Some s → side_number s ≡ p
side_back zero s = λ e. let f : Port0 ≡ s = cc in ap side_number (sym f)
side_back (suc zero) s = λ e. let f : Port1 ≡ s = cc in ap side_number (sym f)
side_back (suc (suc zero)) s = λ e. let f : OffRing ≡ s = cc in ap side_number (sym f)
side_back (suc (suc (suc n))) s = λ e. absurd cc

-- the side that was taken for a number is the one that it names
pub named : (o : Option Side) (e : FabricFault) (s : Side) → ok_or o e ≡ Ok s → o ≡ Some s
named None e s h = absurd cc
named (Some q) e s h = cc

-- the law of a call at a side that its number names
pub law_after : (t : TableFabric) (a : Address) (p : ℕ) (s : Side) {r : Result (Unit {0}) FabricFault} {last : List Entry} → side_at p ≡ Some s
    → r ≡ (learning_at t a p s).answer → last ≡ (learning_at t a p s).after → LearnLaw a p t.records r last
law_after t a p s n x y = rw (x, y) (law_at t a p s (side_back p s n))

-- the two ways through a call that is not refused for its port: a place was found, or none
by_place : {P : Type 0} (o : Option ℕ) → (o ≡ None → P) → ((i : ℕ) → o ≡ Some i → P) → P
by_place None f g = f refl
by_place (Some i) f g = g i refl

abbrev held : Address → List Entry → Option ℕ
held a rs = position_from (holds a) 0 rs

abbrev free : List Entry → Option ℕ
free rs = position_from is_free 0 rs

pub way_taken : (t : TableFabric) (a : Address) (p : ℕ) (s : Side) (i : ℕ) → blocked_at t.blocked s ≡ false
    → option_or (held a t.records) (free t.records) ≡ Some i
    → (Ok tt ≡ (learning_at t a p s).answer) × (set t.records i (known a s) ≡ (learning_at t a p s).after)
way_taken t a p s i b h =
    by_place (held a t.records)
    (λ n.
    let f : free t.records ≡ Some i = rw n at h in
    let none = first_no (holds a) t.records n in
    let some = first_yes is_free i t.records f in
    (rw (b, none, some), rw (b, none, some) (put_there is_free (known a s) i t.records f)))
    (λ j e.
    let f : Some j ≡ Some i = rw e at h in
    let g : held a t.records ≡ Some i = e ∙ f in
    let some = first_yes (holds a) i t.records g in
    (rw (b, some), rw (b, some) (put_there (holds a) (known a s) i t.records g)))

pub way_full : (t : TableFabric) (a : Address) (p : ℕ) (s : Side) → blocked_at t.blocked s ≡ false
    → option_or (held a t.records) (free t.records) ≡ None
    → (Err (TableFull p) ≡ (learning_at t a p s).answer) × (t.records ≡ (learning_at t a p s).after)
way_full t a p s b h =
    by_place (held a t.records)
    (λ n.
    let f : free t.records ≡ None = rw n at h in
    let none = first_no (holds a) t.records n in
    let full = first_no is_free t.records f in
    (rw (b, none, full), rw (b, none, full)))
    (λ j e. let f : Some j ≡ None = rw e at h in absurd cc)
