-- From what a node's call does to what the ring's call does. Assumes nothing.
use Rattle.std.proofs.Common.{◌≡◌, ℕ, zero, suc, ◌<◌, Bool, true, false, cond, ltb, List, [], ◌∷◌, length, get_or, set, is_ok, Some, None, Ok, Err, Option, Result, sym, refl, ap, ◌∙◌, subst, arith, get_or-set_other}
use Rattle.std.proofs.lemmas.Bool.{cond_both}
use Rattle.std.proofs.lemmas.List.{get_or-map, set-get_or}
use Rattle.fabric.specs.Marks.{Marks}
use Rattle.frame.specs.Refusals.{Refusal, Answer, gave, refused}
use Rattle.frame.specs.declared.types.Message.{Message}
use Rattle.node.specs.declared.faults.NodeFault.{NodeFault}
use Rattle.node.specs.declared.types.NodeValues.{NodeValues}
use Rattle.node.specs.declared.types.Port.{Port}
use Rattle.node.specs.Calls as node
use Rattle.node.specs.Calls.{Step}
use Rattle.node.specs.Faults.{told_at}
use Rattle.node.specs.Settling.{is_due}
use Rattle.ring.specs.declared.faults.RingFault.{RingFault}
use Rattle.ring.specs.declared.station.Live.{Live}
use Rattle.ring.specs.declared.station.Station.{Station}
use Rattle.ring.specs.Calls.{seat_after, Ask, force, switch, fail, repair, clear, tick, restart, status, deliver, frame, call, gate, row_gate, names_nobody, usurps, judged, step_of, step_at, answered, moved_if, ring_answer, is_gave, Keeps, Does, Done, Ticks, last, more}
use Rattle.ring.specs.declared.faults.RingRefusal.{RingRefusal}
use Rattle.ring.specs.Faults.{cause_at, placed_at, ring_refusal, told_cause, told_ring, unplaced}
use Rattle.ring.specs.Row.{Seat, seat_of, view, seat, blank}
use Rattle.ring.specs.Steps.{Opened, Stepped, live_seat, written}
use Rattle.ring.proofs.Gates.{gate_shut, row_refusal}
use Rattle.ring.proofs.Views.{view_set}

-- ---- a refusal changes neither values nor marks

abbrev Same : NodeValues → Marks → Step → Type 0
Same v m s = (s.values ≡ v) × (s.marks ≡ m)

abbrev Quiet : NodeValues → Marks → Step → Type 0
Quiet v m s = is_gave s.answer ≡ false → Same v m s

at_port : (v : NodeValues) (m : Marks) (p : ℕ) (r : Result Port NodeFault) (next : Port → Step) → ((q : Port) → Quiet v m (next q)) → Quiet v m (node.step_at v m p r next)
at_port v m p (Ok q) next h = h q
at_port v m p (Err e) next h = λ _. (refl, refl)

in_step : (v : NodeValues) (m : Marks) (r : Result (Unit {0}) NodeFault) (next : Step) → Quiet v m next → Quiet v m (node.step_in v m r next)
in_step v m (Ok u) next h = h
in_step v m (Err e) next h = λ _. (refl, refl)

quiet_message : (v : NodeValues) (m : Marks) (p : ℕ) (q : Message) → Quiet v m (node.message_step v m p q)
quiet_message v m p q = at_port v m p (node.admitted v m p) _ (λ _ e. absurd cc)

quiet_judged : (ring : List Seat) (s : Seat) (p : ℕ) (a : Answer Message) → Quiet s.values s.marks (judged ring s p a)
quiet_judged ring s p (refused r) = λ _. (refl, refl)
quiet_judged ring s p (gave q) =
    let Q : Step → Type 0 = Quiet s.values s.marks in
    cond_both (names_nobody ring q.node) _ _ Q (λ _ _. (refl, refl)) (λ _. cond_both (usurps ring q) _ _ Q (λ _ _. (refl, refl)) (λ _. quiet_message s.values s.marks p q))

abbrev frame_said : Bool → Bool → Refusal → Refusal → Answer (Unit {0})
frame_said short due a b = cond short (refused a) (cond due (gave tt) (refused b))

quiet_frame : (v : NodeValues) (m : Marks) (short due : Bool) (w : NodeValues)
    → (a b : Refusal) → is_gave (frame_said short due a b) ≡ false → cond short v (cond due w v) ≡ v
quiet_frame v m true due w a b e = refl
quiet_frame v m false true w a b e = absurd cc
quiet_frame v m false false w a b e = refl

quiet : (ring : List Seat) (s : Seat) (a : Ask) → Quiet s.values s.marks (step_of ring s a)
quiet ring s (force p) = at_port _ _ p (node.admitted s.values s.marks p) _ (λ _ e. absurd cc)
quiet ring s (switch p) = at_port _ _ p (node.admitted s.values s.marks p) _ (λ q. cond_both (node.takes_manual s.values) _ _ (Quiet s.values s.marks) (λ _ e. absurd cc) (λ _ _. (refl, refl)))
quiet ring s (fail p) = at_port _ _ p (node.admitted s.values s.marks p) _ (λ _ e. absurd cc)
quiet ring s (repair p) = at_port _ _ p (node.admitted s.values s.marks p) _ (λ _ e. absurd cc)
quiet ring s clear = in_step _ _ (node.in_step s.values.blocked s.marks.blocked) _ (cond_both (node.takes_clear s.values) _ _ (Quiet s.values s.marks) (λ _ e. absurd cc) (λ _ _. (refl, refl)))
quiet ring s tick = in_step _ _ (node.in_step s.values.blocked s.marks.blocked) _ (λ e. absurd cc)
quiet ring s restart = λ e. absurd cc
quiet ring s status = λ e. absurd cc
quiet ring s (deliver p f) = quiet_judged ring s p (node.question s.values s.marks p f)
quiet ring s (frame b) = λ e. (quiet_frame s.values s.marks (ltb (length b) 55) (is_due s.values) _ _ _ e, refl)

-- ---- the ring

seat_is : (v : NodeValues) (m : Marks) (s : Seat) → s.values ≡ v → s.marks ≡ m → s ≡ record { values = v; marks = m }
seat_is v m s e f = ap (λ x. record { values = x; marks = s.marks }) e ∙ ap (λ y. record { values = v; marks = y }) f

-- a station that refuses stays as it is
pub unmoved : (ring : List Seat) (i : ℕ) (a : Ask) → is_gave (step_at (call i a) ring).answer ≡ false
    → set ring i (seat_after (call i a) ring) ≡ ring
unmoved ring i a e =
    let same = quiet ring (seat ring i) a e in
    ap (λ t. set ring i t) (sym (seat_is _ _ (seat ring i) (sym same.0) (sym same.1))) ∙ set-get_or ring i blank

-- a station that keeps what its fabric keeps leaves all kept
pub keeps_set : {F : Type 0} (kept : F → List (List ℕ)) (row : List (Station F)) (i : ℕ) (x : Station F)
    → ((d : Station F) → i < length row → kept x.fabric ≡ kept (get_or row i d).fabric) → Keeps kept row (set row i x)
keeps_set kept [] i x h k d = refl
keeps_set kept (s ∷ row) zero x h zero d = h d (omega arith)
keeps_set kept (s ∷ row) zero x h (suc k) d = refl
keeps_set kept (s ∷ row) (suc i) x h zero d = refl
keeps_set kept (s ∷ row) (suc i) x h (suc k) d = keeps_set kept row i x (λ e l. h e (omega arith)) k d

module _ {F : Type 0} (marks : F → Marks) (kept : F → List (List ℕ)) (row : List (Station F)) (i : ℕ) (a : Ask) where
  pub gate_refuses : (e : RingFault) → gate (view marks row) i ≡ Some e → Done marks kept (call i a) row (refused (cause_at None e)) row
  gate_refuses e h = record {
    does = record {
      answer = sym (ap (λ o. answered o (placed_at i (step_at (call i a) (view marks row)).answer)) h);
      step = record {
        taken = sym (ap (λ o. is_gave (answered o (placed_at i (step_at (call i a) (view marks row)).answer))) h);
        seen = sym (ap (λ o. moved_if o (set (view marks row) i (seat_after (call i a) (view marks row))) (view marks row)) h);
        others = λ k d n. refl;
        refused = λ _. refl;
      };
    };
    host = λ k d. refl;
  }

  module _ (x : Live F) (o : Opened marks row i x) (x' : Live F) where
    at_seat : seat (view marks row) i ≡ live_seat marks x
    at_seat =
        seat_is x.node.values (marks x.fabric) (seat (view marks row) i) o.values
        (ap (λ (s : Seat). s.marks) (get_or-map (seat_of marks) row i (written x) blank o.within) ∙ ap marks (o.own (written x)))

    abbrev asks : Step
    asks = step_of (view marks row) (live_seat marks x) a

    steps : asks ≡ step_at (call i a) (view marks row)
    steps = ap (λ s. step_of (view marks row) s a) (sym at_seat)

    hosts : kept x'.fabric ≡ kept x.fabric → Keeps kept row (set row i (written x'))
    hosts keep = keeps_set kept row i (written x') (λ d l. keep ∙ ap kept (sym (o.own d)))

    does : (said : Answer (Unit {0})) (row' : List (Station F)) → Stepped marks kept asks said x x' → row' ≡ cond (is_gave said) (set row i (written x')) row
        → Done marks kept (call i a) row (placed_at i said) row'
    does (gave u) row' s z =
        let told : placed_at i (gave u) ≡ ring_answer (call i a) (view marks row) =
        ap (placed_at i) (s.answer ∙ ap (λ (t : Step). t.answer) steps) ∙ sym (ap (λ g. answered g (placed_at i (step_at (call i a) (view marks row)).answer)) o.passes) in
        record {
          does = record {
            answer = told;
            step = record {
              taken = ap is_gave told;
              seen = ap (view marks) z ∙ view_set marks row i (written x')
                  ∙ ap (λ t. set (view marks row) i t)
                  (ap (λ t. record { values = t; marks = marks x'.fabric }) (s.values ∙ ap (λ (t : Step). t.values) steps)
                  ∙ ap (λ t. record { values = (step_at (call i a) (view marks row)).values; marks = t }) (s.marks ∙ ap (λ (t : Step). t.marks) steps))
                  ∙ sym (ap (λ g. moved_if g (set (view marks row) i (seat_after (call i a) (view marks row))) (view marks row)) o.passes);
              others = λ k d n. ap (λ r. get_or r k d) z ∙ get_or-set_other row i k _ d n;
              refused = λ n. absurd cc;
            };
          };
          host = subst (λ q. Keeps kept row q) (sym z) (hosts s.kept);
        }
    does (refused r) row' s z =
        let told : placed_at i (refused r) ≡ ring_answer (call i a) (view marks row) =
        ap (placed_at i) (s.answer ∙ ap (λ (t : Step). t.answer) steps) ∙ sym (ap (λ g. answered g (placed_at i (step_at (call i a) (view marks row)).answer)) o.passes) in
        record {
          does = record {
            answer = told;
            step = record {
              taken = ap is_gave told;
              seen = ap (view marks) z
                  ∙ sym (ap (λ g. moved_if g (set (view marks row) i (seat_after (call i a) (view marks row))) (view marks row)) o.passes
                  ∙ unmoved (view marks row) i a (ap is_gave (sym (s.answer ∙ ap (λ (t : Step). t.answer) steps))));
              others = λ k d n. ap (λ q. get_or q k d) z;
              refused = λ _. z;
            };
          };
          host = subst (λ q. Keeps kept row q) (sym z) (λ k d. refl);
        }

    -- what a station answers, closed
    pub closes : (called : Option ℕ) (h : Result (Unit {0}) RingFault) (end : Result (Unit {0}) RingRefusal) (row' : List (Station F))
        → Stepped marks kept asks (told_cause called h) x x'
        → told_ring end ≡ placed_at i (told_cause called h) → row' ≡ cond (is_ok h) (set row i (written x')) row → Done marks kept (call i a) row (told_ring end) row'
    closes called h end row' s t z =
        subst (λ r. Done marks kept (call i a) row r row') (sym t)
        (does (told_cause called h) row' s (z ∙ ap (λ b. cond b (set row i (written x')) row) (gave_ok called h)))
      where
        gave_ok : (called : Option ℕ) (h : Result (Unit {0}) RingFault) → is_ok h ≡ is_gave (told_cause called h)
        gave_ok called (Ok u) = refl
        gave_ok called (Err e) = refl

    -- where it is a node that answers
    pub closes_node : (called : Option ℕ) (n : Result (Unit {0}) NodeFault) (h : Result (Unit {0}) RingFault) (end : Result (Unit {0}) RingRefusal) (row' : List (Station F))
        → Stepped marks kept asks (told_at called n) x x' → ((p : Option ℕ) → told_cause p h ≡ told_at p n)
        → told_ring end ≡ placed_at i (told_cause called h) → row' ≡ cond (is_ok h) (set row i (written x')) row → Done marks kept (call i a) row (told_ring end) row'
    closes_node called n h end row' s held t z =
        closes called h end row' (record { answer = held called ∙ s.answer; values = s.values; marks = s.marks; kept = s.kept }) t z

-- ---- ticks

-- a tick that is refused is refused again
pub refused_again : {F : Type 0} (marks : F → Marks) (i n : ℕ) (row row' : List (Station F)) (x : Refusal)
    → Does marks (call i tick) row (refused x) row' → Ticks marks i (suc n) row (refused x) row'
refused_again {F} marks i n row row' x d =
    subst (λ q. Ticks marks i (suc n) row (refused x) q) (sym (d.step.refused refl))
    (again n (subst (λ q. Does marks (call i tick) row (refused x) q) (d.step.refused refl) d))
  where
    again : (n : ℕ) → Does marks (call i tick) row (refused x) row → Ticks marks i (suc n) row (refused x) row
    again zero d = last d
    again (suc n) d = more d (again n d)

-- a row that may not be called refuses every call
pub row_refuses : {F : Type 0} (marks : F → Marks) (kept : F → List (List ℕ)) (row : List (Station F)) (i : ℕ) (a : Ask) (e : RingFault)
    → row_gate (view marks row) ≡ Some e → Done marks kept (call i a) row (refused (ring_refusal (unplaced e))) row
row_refuses marks kept row i a e h =
    subst (λ r. Done marks kept (call i a) row (refused r) row) (sym (row_refusal (view marks row) e h))
    (gate_refuses marks kept row i a e (gate_shut (view marks row) i e h))
