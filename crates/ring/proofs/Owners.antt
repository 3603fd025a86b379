-- A station that a message names, one owner, IDs apart, and an owner that hears no NR,RB but its own. Assumes nothing.
use Rattle.std.proofs.Common.{◌≡◌, ℕ, zero, suc, ◌<◌, ◌≤◌, Bool, true, false, not, ◌&&◌, eqb, List, length, sym, refl, ap, ◌∙◌, subst, ⊎_elim, arith}
use lib.ListN.{length-map}
use Rattle.std.proofs.lemmas.Bool.{and_parts, and_cases, cases_lt, not-false, eqb-true, eq-eqb, true≢false}
use Rattle.std.proofs.lemmas.List.{get_or-map}
use Rattle.frame.specs.Ids.{id_number}
use Rattle.frame.specs.declared.types.Body.{Body}
use Rattle.frame.specs.declared.types.Body.TheVariants.{Event, Signal}
use Rattle.frame.specs.declared.types.Message.{Message}
use Rattle.frame.specs.declared.types.NodeId.{NodeId}
use Rattle.node.specs.Laws.{body_sets}
use Rattle.node.specs.Names.{is_owner}
use Rattle.node.specs.Receiving.{is_own, is_rpl_blocked}
use Rattle.ring.specs.Calls.{is_owners, is_rb, names_nobody, usurps}
use Rattle.ring.specs.Row.{Seat, seat, setting, ring_settings, lawful, fits_at, distinct_ids, new_id, all_below, owners, blank}
use Rattle.ring.proofs.Below.{below_at, only_one}

-- where a test does not pass everywhere, it fails somewhere
fails_somewhere : (f : ℕ → Bool) (n : ℕ) → all_below f n ≡ false → (k : ℕ) × (k < n) × (f k ≡ false)
fails_somewhere f zero h = absurd cc
fails_somewhere f (suc n) h =
    ⊎_elim (λ (e : f n ≡ false). (n, omega arith, e))
    (λ (e : all_below f n ≡ false). let r = fails_somewhere f n e in (r.0, omega (arith, r.1), r.2)) (and_cases (f n) (all_below f n) h)

-- a message that is not refused by 17 names a station
pub named_station : (ring : List Seat) (n : NodeId) → names_nobody ring n ≡ false
    → (k : ℕ) × (k < length ring) × (id_number (seat ring k).values.settings.id ≡ id_number n)
named_station ring n h =
    let r = fails_somewhere (λ k. not (eqb (id_number (seat ring k).values.settings.id) (id_number n))) (length ring) h in
    (r.0, r.1, eqb-true _ _ (not-false (eqb (id_number (seat ring r.0).values.settings.id) (id_number n)) r.2))

setting_at : (ring : List Seat) (k : ℕ) → k < length ring → setting (ring_settings ring) k ≡ (seat ring k).values.settings
setting_at ring k l = get_or-map (λ s. s.values.settings) ring k blank _ l

one_owner : (ring : List Seat) → lawful (ring_settings ring) ≡ true → owners (ring_settings ring) ≡ 1
unfolding lawful
one_owner ring law =
    let ss = ring_settings ring in
    eqb-true (owners ss) 1 (and_parts (all_below (fits_at ss) (length ss)) (eqb (owners ss) 1) (and_parts (distinct_ids ss) _ law).1).1

-- so a station that is an owner is the owner
pub only_owner : (ring : List Seat) → lawful (ring_settings ring) ≡ true → (k i : ℕ) → k < length ring → i < length ring
    → is_owner (seat ring k).values.settings.role ≡ true → is_owner (seat ring i).values.settings.role ≡ true → k ≡ i
only_owner ring law k i m l a b =
    let ss = ring_settings ring in
    let n : length ss ≡ length ring = length-map ring (λ s. s.values.settings) in
    only_one (λ k. is_owner (setting ss k).role) (length ss) (one_owner ring law) k i (subst (λ t. k < t) (sym n) m) (subst (λ t. i < t) (sym n) l)
    (ap (λ s. is_owner s.role) (setting_at ring k m) ∙ a) (ap (λ s. is_owner s.role) (setting_at ring i l) ∙ b)

-- no two stations have the same ID
first_apart : (ring : List Seat) → lawful (ring_settings ring) ≡ true → (j k : ℕ) → j < k → k < length ring
    → id_number (seat ring j).values.settings.id ≡ id_number (seat ring k).values.settings.id → ⊥
unfolding lawful
first_apart ring law j k l m e =
    let ss = ring_settings ring in
    let n : length ss ≡ length ring = length-map ring (λ s. s.values.settings) in
    let new : new_id ss k ≡ true = below_at (new_id ss) (length ss) (and_parts (distinct_ids ss) _ law).0 k (subst (λ t. k < t) (sym n) m) in
    let id : (h : ℕ) → h < length ring → id_number (setting ss h).id ≡ id_number (seat ring h).values.settings.id = λ h q. ap (λ s. id_number s.id) (setting_at ring h q) in
    true≢false (sym (below_at (λ h. not (eqb (id_number (setting ss h).id) (id_number (setting ss k).id))) k new j l)
    ∙ ap not (eq-eqb _ _ (id j (omega arith) ∙ e ∙ sym (id k m))))

pub ids_apart : (ring : List Seat) → lawful (ring_settings ring) ≡ true → (j k : ℕ) → j < length ring → k < length ring → (j ≡ k → ⊥)
    → id_number (seat ring j).values.settings.id ≡ id_number (seat ring k).values.settings.id → ⊥
ids_apart ring law j k l m n e =
    ⊎_elim (λ (q : j < k). first_apart ring law j k q m e) (λ (q : k ≤ j). first_apart ring law k j (omega arith) l (sym e)) (cases_lt j k)

-- an owner that is handed NR,RB which is not refused by 18 is the station that it names
own_rb : (ring : List Seat) (m : Message) (i : ℕ) → lawful (ring_settings ring) ≡ true → i < length ring
    → is_owner (seat ring i).values.settings.role ≡ true → is_rb m.body ≡ true → usurps ring m ≡ false
    → id_number (seat ring i).values.settings.id ≡ id_number m.node
own_rb ring m i law l own rb free =
    let g : ℕ → Bool = is_owners ring m.node in
    let none : all_below (λ k. not (g k)) (length ring) ≡ false = ap (λ b. b && all_below (λ k. not (g k)) (length ring)) (sym rb) ∙ free in
    let r = fails_somewhere (λ k. not (g k)) (length ring) none in
    let k : ℕ = r.0 in
    let both = and_parts (eqb (id_number (seat ring k).values.settings.id) (id_number m.node)) (is_owner (seat ring k).values.settings.role) (not-false (g k) r.2) in
    let same : k ≡ i = only_owner ring law k i r.1 l both.1 own in
    subst (λ j. id_number (seat ring j).values.settings.id ≡ id_number m.node) same (eqb-true _ _ both.0)

no_mark : (g o r own : Bool) → (o ≡ true → r ≡ true → own ≡ true) → (g && (o && (r && not own))) ≡ false
no_mark false o r own h = refl
no_mark true false r own h = refl
no_mark true true false own h = refl
no_mark true true true own h = ap not (h refl refl)

-- so no message that is taken sets its mark
pub sets_none : (ring : List Seat) (m : Message) (i : ℕ) → lawful (ring_settings ring) ≡ true → i < length ring → usurps ring m ≡ false
    → body_sets (seat ring i).values m.node m.body ≡ false
sets_none ring m i law l free = by_body m.body refl
  where
    by_body : (b : Body) → m.body ≡ b → body_sets (seat ring i).values m.node b ≡ false
    by_body Event e = refl
    by_body (Signal r d b) e =
        no_mark (eqb (seat ring i).values.timers.guard 0) (is_owner (seat ring i).values.settings.role) (is_rpl_blocked r) (is_own (seat ring i).values m.node)
        (λ o q. eq-eqb _ _ (sym (own_rb ring m i law l o (ap is_rb e ∙ q) free)))
