-- The law of runs, from the laws of a node. Assumes nothing.
use Rattle.std.proofs.Common.{◌≡◌, ℕ, ◌<◌, Bool, true, false, not, ◌&&◌, ◌||◌, eqb, List, [], ◌∷◌, length, set, Some, None, Option, sym, refl, ap, ◌∙◌, subst, ⊎_elim, arith, length-set, get_or-set_other, get_or-set_same}
use Rattle.std.proofs.lemmas.Bool.{cases_eq, cases_Bool, eq-eqb, ne_eqb, and_parts, or_cases, or_left, or_right}
use Rattle.fabric.specs.Marks.{Marks}
use Rattle.fabric.specs.declared.types.Ports.{Ports}
use Rattle.frame.specs.Ids.{id_number}
use Rattle.frame.specs.Refusals.{Answer, gave, refused}
use Rattle.frame.specs.declared.types.Body.{Body}
use Rattle.frame.specs.declared.types.Body.TheVariants.{Event, Signal}
use Rattle.frame.specs.declared.types.Request.{Request}
use Rattle.node.specs.declared.types.NodeValues.{NodeValues}
use Rattle.node.specs.declared.types.Port.{Port}
use Rattle.node.specs.declared.types.Port.TheVariants.{Zero, One}
use Rattle.node.specs.declared.types.Settings.{Settings}
use Rattle.node.specs.Calls.{Step}
use Rattle.node.specs.Laws as node_laws
use Rattle.node.specs.Names.{is_sending, sent_number}
use Rattle.node.specs.Ports.{at, some, bpr_of}
use Rattle.node.specs.Receiving.{is_own}
use Rattle.node.specs.Rules.{makes_node, settings_ok}
use Rattle.ring.specs.declared.faults.RingFault.{RingFault}
use Rattle.ring.specs.declared.station.Station.{Station}
use Rattle.ring.specs.Calls.{seat_after, Ask, deliver, Call, call, gate, step_of, step_at, answered, moved_if, ring_answer, after, is_gave}
use Rattle.ring.specs.Faults.{placed_at}
use Rattle.ring.specs.NodeLaws.{NodeLaws}
use Rattle.ring.specs.Row.{Seat, view, seat, setting, blank, lawful, all_nodes, ring_settings}
use Rattle.ring.specs.Runs.{Happening, History, fails, repairs, forces, ends_force, failed_by, forced_by, blocked_at, SomeBlocked, named, sends_body, Meets, FalseWord, Guards, After, new, next, aside, Law}
use Rattle.ring.specs.SetUp.{fresh}
use Rattle.ring.proofs.Doing.{unmoved}
use Rattle.ring.proofs.Gates.{open_row, open_counts}
use Rattle.ring.proofs.Owners.{named_station, sets_none}
use Rattle.ring.proofs.Taking.{delivery_or, Takes, Hears, is_delivery, takes, hears}
use Rattle.ring.proofs.Views.{view_length}

-- how a station stands after a history: its node keeps the rules and has no mark, its fabric agrees with it, and its marks are
-- what the history says
record Stands (h : History) (i : ℕ) (s : Seat) : Type 0 where
  pub ok : makes_node s.values ≡ true
  pub plain : s.values.mismatch ≡ false
  pub same : s.marks.blocked ≡ s.values.blocked
  pub failed : (p : Port) → at s.values.failed p ≡ failed_by h i p
  pub forced : (p : Port) → at s.values.commands.forced p ≡ forced_by h i p

AllStand : History → List Seat → Type 0
AllStand h ring = (i : ℕ) → i < length ring → Stands h i (seat ring i)

abbrev happened : Call → Bool → Happening
happened c b = record { asks = c; taken = b }

-- ---- what the law says of stations that stand

module _ (laws : NodeLaws) where
  meets : (h : History) (ring : List Seat) → AllStand h ring → Meets h ring
  unfolding AllStand
  meets h ring st = record {
    forced = λ i p l e. let s = st i l in
        subst (λ (b : Ports). at b p ≡ true) (sym s.same) ((laws.promise (seat ring i).values s.ok).forced p (s.forced p ∙ e));
    failed = λ i p l e n. let s = st i l in
        subst (λ (b : Ports). at b p ≡ true) (sym s.same) ((laws.promise (seat ring i).values s.ok).failed p (s.failed p ∙ e) n);
    sending = λ i l e. let s = st i l in
        subst (λ (b : Ports). at b (named (bpr_of (seat ring i).values.blocked)) ≡ true) (sym s.same) ((laws.promise (seat ring i).values s.ok).sender s.plain e);
    idle = λ i l e. let s = st i l in s.same ∙ (laws.promise (seat ring i).values s.ok).idle s.plain e;
  }

  -- ---- one call more

  -- the station that the call goes to
  stands_there : (h : History) (ring : List Seat) (i : ℕ) (a : Ask) (s : Step) → Takes (seat ring i).values (seat ring i).marks a s → s.values.mismatch ≡ false → Stands h i (seat ring i)
      → Stands (happened (call i a) true ∷ h) i (record { values = s.values; marks = s.marks })
  stands_there h ring i a s t x st =
      let here : true ≡ eqb i i = sym (eq-eqb i i refl) in
      record {
        ok = t.rules;
        plain = x;
        same = t.ports st.same;
        failed = λ p. t.failed p
            ∙ ap (λ (b : Bool). fails p a || (not (repairs p a) && b)) (st.failed p)
            ∙ ap (λ (b : Bool). (b && fails p a) || (not (b && repairs p a) && failed_by h i p)) here;
        forced = λ p. t.forced p
            ∙ ap (λ (b : Bool). forces p a || (not (ends_force a) && b)) (st.forced p)
            ∙ ap (λ (b : Bool). (b && forces p a) || (not (b && ends_force a) && forced_by h i p)) here;
      }

  -- any other station
  stands_else : (h : History) (k i : ℕ) (a : Ask) (s : Seat) → (k ≡ i → ⊥) → Stands h i s → Stands (happened (call k a) true ∷ h) i s
  stands_else h k i a s n st =
      let off : false ≡ eqb k i = sym (ne_eqb k i n) in
      record {
        ok = st.ok;
        plain = st.plain;
        same = st.same;
        failed = λ p. st.failed p ∙ ap (λ (b : Bool). (b && fails p a) || (not (b && repairs p a) && failed_by h i p)) off;
        forced = λ p. st.forced p ∙ ap (λ (b : Bool). (b && forces p a) || (not (b && ends_force a) && forced_by h i p)) off;
      }

  -- a call that was turned away tells nothing of marks
  stands_refused : (h : History) (c : Call) (i : ℕ) (s : Seat) → Stands h i s → Stands (happened c false ∷ h) i s
  stands_refused h c i s st = record { ok = st.ok; plain = st.plain; same = st.same; failed = st.failed; forced = st.forced }

  -- a delivery that is taken leaves the mark off
  plain_there : (ring : List Seat) (i : ℕ) (f : List ℕ) (s : Step) → lawful (ring_settings ring) ≡ true → i < length ring → Hears ring (seat ring i).values f s → (seat ring i).values.mismatch ≡ false → s.values.mismatch ≡ false
  plain_there ring i f s law l h e =
      ap (λ (v : NodeValues). v.mismatch) h.becomes ∙ laws.mark.hears (seat ring i).values h.port h.message
      ∙ ap (λ (b : Bool). b || node_laws.sets_mark (seat ring i).values h.message) e ∙ sets_none ring h.message i law l h.rightful

  -- ---- a call at a station, as it passes the gate

  module _ (h : History) (ring : List Seat) (st : AllStand h ring) (i : ℕ) (a : Ask) (pass : gate ring i ≡ None) (took : is_gave (step_at (call i a) ring).answer ≡ true) where
    within : i < length ring
    within = (open_row ring i pass).1

    here : Stands h i (seat ring i)
    unfolding AllStand
    here = st i within

    settled : lawful (ring_settings ring) ≡ true
    settled = (and_parts (all_nodes ring) (lawful (ring_settings ring)) (open_counts ring (open_row ring i pass).0).1).1

    taking : Takes (seat ring i).values (seat ring i).marks a (step_at (call i a) ring)
    taking = takes laws (seat ring i).values here.ok (seat ring i).marks ring a took

    hearing : (n : ℕ) (f : List ℕ) → a ≡ deliver n f → Hears ring (seat ring i).values f (step_at (call i a) ring)
    hearing n f e =
        subst (λ z. Hears ring (seat ring i).values f (step_of ring (seat ring i) z)) (sym e)
        (hears laws (seat ring i).values here.ok (seat ring i).marks ring n f (subst (λ z. is_gave (step_of ring (seat ring i) z).answer ≡ true) e took)).1

    plain : (step_at (call i a) ring).values.mismatch ≡ false
    plain =
        ⊎_elim (λ (d : (n : ℕ) × (f : List ℕ) × (a ≡ deliver n f)). plain_there ring i d.1 (step_at (call i a) ring) settled within (hearing d.0 d.1 d.2) here.plain)
        (λ (e : is_delivery a ≡ false). taking.plain e here.plain) (delivery_or a)

    abbrev moved : Seat
    moved = seat_after (call i a) ring

    length_moved : length (set ring i moved) ≡ length ring
    length_moved = length-set ring i moved

    seat_moved : seat (set ring i moved) i ≡ moved
    seat_moved = get_or-set_same ring i moved blank within

    seat_other : (k : ℕ) → (k ≡ i → ⊥) → seat (set ring i moved) k ≡ seat ring k
    seat_other k n = get_or-set_other ring i k moved blank n

    stands_moved : AllStand (happened (call i a) true ∷ h) (set ring i moved)
    unfolding AllStand
    stands_moved k l =
        let n : k < length ring = subst (λ m. k < m) length_moved l in
        ⊎_elim
        (λ (q : k ≡ i). subst (λ j. Stands (happened (call i a) true ∷ h) j (seat (set ring i moved) j)) (sym q)
        (subst (λ s. Stands (happened (call i a) true ∷ h) i s) (sym seat_moved) (stands_there h ring i a (step_at (call i a) ring) taking plain here)))
        (λ (q : k ≡ i → ⊥). subst (λ s. Stands (happened (call i a) true ∷ h) k s) (sym (seat_other k q)) (stands_else h i k a (seat ring k) (λ e. q (sym e)) (st k n)))
        (cases_eq k i)

    -- ---- what stays blocked

    kept_there : (p : Port) → at (step_at (call i a) ring).values.blocked p ≡ true → SomeBlocked (set ring i moved)
    kept_there p b = (
      i,
      p,
      subst (λ m. i < m) (sym length_moved) within,
      ap (λ (s : Seat). at s.marks.blocked p) seat_moved ∙ ap (λ (x : Ports). at x p) (taking.ports here.same) ∙ b,
    )

    kept_else : (k : ℕ) (p : Port) → k < length ring → (k ≡ i → ⊥) → blocked_at ring k p ≡ true → SomeBlocked (set ring i moved)
    kept_else k p l n b = (k, p, subst (λ m. k < m) (sym length_moved) l, ap (λ (s : Seat). at s.marks.blocked p) (seat_other k n) ∙ b)

    own_blocked : (p : Port) → blocked_at ring i p ≡ true → at (seat ring i).values.blocked p ≡ true
    own_blocked p b = subst (λ (x : Ports). at x p ≡ true) here.same b

    -- a call that is no delivery leaves a port blocked
    keeps_some : is_delivery a ≡ false → SomeBlocked ring → SomeBlocked (set ring i moved)
    keeps_some d (k, p, l, b) =
        ⊎_elim
        (λ (q : k ≡ i). some_there (taking.block d (at_some (seat ring i).values.blocked p (own_blocked p (subst (λ j. blocked_at ring j p ≡ true) q b)))))
        (λ (q : k ≡ i → ⊥). kept_else k p l q b)
        (cases_eq k i)
      where
        at_some : (b : Ports) (p : Port) → at b p ≡ true → some b ≡ true
        at_some b Zero e = or_left b.p0 b.p1 e
        at_some b One e = or_right b.p0 b.p1 e

        some_there : some (step_at (call i a) ring).values.blocked ≡ true → SomeBlocked (set ring i moved)
        some_there e = ⊎_elim (kept_there Zero) (kept_there One) (or_cases (step_at (call i a) ring).values.blocked.p0 (step_at (call i a) ring).values.blocked.p1 e)

    -- a delivery that takes the last block carried a message that the station named in it was not sending
    false_word : (n : ℕ) (f : List ℕ) → a ≡ deliver n f → (SomeBlocked (set ring i moved) → ⊥) → FalseWord ring i (deliver n f)
    false_word n f e gone =
        let hs = hearing n f e in
        let k = named_station ring hs.message.node hs.names in
        (hs.message, hs.read, (k.0, k.1, k.2, unsent hs k.0 k.1 k.2 hs.message.body refl))
      where
        unsent : (hs : Hears ring (seat ring i).values f (step_at (call i a) ring)) (k : ℕ) → k < length ring → id_number (seat ring k).values.settings.id ≡ id_number hs.message.node
            → (b : Body) → hs.message.body ≡ b → sends_body (seat ring k).values b ≡ false
        unsent hs k l id Event e = refl
        unsent hs k l id (Signal r d b) e =
            ⊎_elim (λ (t : sends_body (seat ring k).values (Signal r d b) ≡ true). absurd (gone (still_blocked t))) (λ (t : sends_body (seat ring k).values (Signal r d b) ≡ false). t)
            (cases_Bool (sends_body (seat ring k).values (Signal r d b)))
          where
            is_sent : (x : Option Request) (y : Request) → eqb (sent_number x) (sent_number (Some y)) ≡ true → is_sending x ≡ true
            is_sent None y t = grind arith
            is_sent (Some z) y t = refl

            still_blocked : sends_body (seat ring k).values (Signal r d b) ≡ true → SomeBlocked (set ring i moved)
            still_blocked t =
                let on : is_sending (seat ring k).values.sending.request ≡ true = is_sent (seat ring k).values.sending.request r (and_parts (eqb (sent_number (seat ring k).values.sending.request) (sent_number (Some r))) _ t).0 in
                let p : Port = named (bpr_of (seat ring k).values.blocked) in
                let there : blocked_at ring k p ≡ true = (meets h ring st).sending k l on in
                ⊎_elim
                (λ (q : k ≡ i).
                let own : is_own (seat ring i).values hs.message.node ≡ true = eq-eqb _ _ (sym (subst (λ j. id_number (seat ring j).values.settings.id ≡ id_number hs.message.node) q id)) in
                let stay : (step_at (call i a) ring).values.blocked ≡ (seat ring i).values.blocked = ap (λ (v : NodeValues). v.blocked) hs.becomes ∙ laws.own (seat ring i).values hs.port hs.message own in
                kept_there p (ap (λ (x : Ports). at x p) stay ∙ own_blocked p (subst (λ j. blocked_at ring j p ≡ true) q there)))
                (λ (q : k ≡ i → ⊥). kept_else k p l q there)
                (cases_eq k i)

    guards_moved : SomeBlocked ring → (SomeBlocked (set ring i moved) → ⊥) → FalseWord ring i a
    guards_moved some gone =
        ⊎_elim (λ (d : (n : ℕ) × (f : List ℕ) × (a ≡ deliver n f)). subst (FalseWord ring i) (sym d.2) (false_word d.0 d.1 d.2 gone))
        (λ (e : is_delivery a ≡ false). absurd (gone (keeps_some e some))) (delivery_or a)

  -- ---- any call

  -- a call is taken where it passes the gate and its station takes it; one that is turned away leaves the ring as it is
  pub by_answer : (ring : List Seat) (i : ℕ) (a : Ask) (P : Bool → List Seat → Type 0)
      → (gate ring i ≡ None → is_gave (step_at (call i a) ring).answer ≡ true → P true (set ring i (seat_after (call i a) ring)))
      → P false ring → P (is_gave (ring_answer (call i a) ring)) (after (call i a) ring)
  by_answer ring i a P up down = by_gate (gate ring i) refl
    where
      by_step : gate ring i ≡ None → (x : Answer (Unit {0})) → (step_at (call i a) ring).answer ≡ x
          → P (is_gave (placed_at i x)) (set ring i (seat_after (call i a) ring))
      by_step q (gave u) e = up q (ap is_gave e)
      by_step q (refused r) e = subst (λ t. P false t) (sym (unmoved ring i a (ap is_gave e))) down

      by_gate : (g : Option RingFault) → gate ring i ≡ g → P (is_gave (answered g (placed_at i (step_at (call i a) ring).answer))) (moved_if g (set ring i (seat_after (call i a) ring)) ring)
      by_gate (Some e) q = down
      by_gate None q = by_step q (step_at (call i a) ring).answer refl

  stands_next : (h : History) (ring : List Seat) (c : Call) → AllStand h ring → AllStand (happened c (is_gave (ring_answer c ring)) ∷ h) (after c ring)
  unfolding AllStand
  stands_next h ring c st =
      by_answer ring c.station c.asks (λ b r. (k : ℕ) → k < length r → Stands (happened c b ∷ h) k (seat r k))
      (λ pass took. stands_moved h ring st c.station c.asks pass took) (λ k l. stands_refused h c k (seat ring k) (st k l))

  guards : (h : History) (ring : List Seat) (c : Call) → AllStand h ring → Guards c ring (after c ring)
  guards h ring c st =
      by_answer ring c.station c.asks (λ _ r. SomeBlocked ring → (SomeBlocked r → ⊥) → FalseWord ring c.station c.asks)
      (λ pass took. guards_moved h ring st c.station c.asks pass took) (λ some gone. absurd (gone some))

  -- ---- runs

  stands_like : (h : History) (i : ℕ) (s t : Seat) → t.values ≡ s.values → t.marks.blocked ≡ s.marks.blocked → Stands h i s → Stands h i t
  stands_like h i s t e b st = record {
    ok = ap makes_node e ∙ st.ok;
    plain = ap (λ (v : NodeValues). v.mismatch) e ∙ st.plain;
    same = b ∙ st.same ∙ ap (λ (v : NodeValues). v.blocked) (sym e);
    failed = λ p. ap (λ (v : NodeValues). at v.failed p) e ∙ st.failed p;
    forced = λ p. ap (λ (v : NodeValues). at v.commands.forced p) e ∙ st.forced p;
  }

  module _ {F : Type 0} (marks : F → Marks) (start : List (Station F)) (from : AllStand [] (view marks start)) where
    stands : {h : History} {row : List (Station F)} → After marks start h row → AllStand h (view marks row)
    unfolding AllStand
    stands new = from
    stands (next {h} {row} r c b row' d) =
        subst (λ ring. AllStand (happened c b ∷ h) ring) (sym d.seen)
        (subst (λ t. AllStand (happened c t ∷ h) (after c (view marks row))) (sym d.taken) (stands_next h (view marks row) c (stands r)))
    stands (aside {h} {row} r row' q) =
        λ i l. let n : i < length (view marks row) = subst (λ m. i < m) q.count l in
        stands_like h i (seat (view marks row) i) (seat (view marks row') i) (q.values i n) (q.blocked i n) (stands r i n)

    law_from : Law marks start
    law_from = record {
      meets = λ h row r. meets h (view marks row) (stands r);
      guards = λ h row r c b row' d. subst (λ ring. Guards c (view marks row) ring) (sym d.seen) (guards h (view marks row) c (stands r));
    }

  -- ---- a new ring

  stands_fresh : (i : ℕ) (s : Seat) (g : Settings) → settings_ok g ≡ true → Stands [] i (fresh s g)
  stands_fresh i s g e = record { ok = laws.rules.set_up g e; plain = refl; same = refl; failed = none_failed; forced = none_forced }
    where
      none_failed : (p : Port) → at (fresh s g).values.failed p ≡ false
      none_failed Zero = refl
      none_failed One = refl

      none_forced : (p : Port) → at (fresh s g).values.commands.forced p ≡ false
      none_forced Zero = refl
      none_forced One = refl

  -- of a row whose stations are all fresh, on settings in range
  pub law : {F : Type 0} (marks : F → Marks) (ss : List Settings) (old start : List (Station F)) → length start ≡ length old
      → ((k : ℕ) → k < length old → settings_ok (setting ss k) ≡ true)
      → ((k : ℕ) → k < length old → seat (view marks start) k ≡ fresh (seat (view marks old) k) (setting ss k)) → Law marks start
  unfolding AllStand
  law marks ss old start n ok h =
      law_from marks start
      (λ i l. let m : i < length old = subst (λ t. i < t) (view_length marks start ∙ n) l in
      subst (λ s. Stands [] i s) (sym (h i m)) (stands_fresh i (seat (view marks old) i) (setting ss i) (ok i m)))
