-- A row that may be called stays so, whatever is called. Assumes nothing.
use Rattle.std.proofs.Common.{◌≡◌, ℕ, ◌<◌, Bool, true, List, length, set, None, sym, ap, ◌∙◌, subst, ⊎_elim, length-set, get_or-set_other, get_or-set_same}
use Rattle.std.proofs.lemmas.List.{get_or-map, map-set, set-get_or}
use Rattle.std.proofs.lemmas.Bool.{cases_eq, and_parts, and_from}
use Rattle.fabric.specs.Marks.{Marks}
use Rattle.node.specs.declared.types.Settings.{Settings}
use Rattle.node.specs.Rules.{makes_node}
use Rattle.ring.specs.declared.station.Station.{Station}
use Rattle.ring.specs.Calls.{seat_after, Ask, Call, call, after, gate, is_gave, row_gate, step_at, RingStep}
use Rattle.ring.specs.NodeLaws.{NodeLaws}
use Rattle.ring.specs.Row.{Seat, view, seat, blank, no_settings, all_nodes, count_fits, lawful, lawful_row, ring_settings}
use Rattle.ring.proofs.Below.{below_from}
use Rattle.ring.proofs.Gates.{counts_open, open_counts, open_row, lawful_node}
use Rattle.ring.proofs.Law.{by_answer}
use Rattle.ring.proofs.Taking.{Takes, takes}

module _ (laws : NodeLaws) where
  module _ (ring : List Seat) (i : ℕ) (a : Ask) (pass : gate ring i ≡ None) (took : is_gave (step_at (call i a) ring).answer ≡ true) where
    within : i < length ring
    within = (open_row ring i pass).1

    lawful_before : lawful_row ring ≡ true
    lawful_before = (open_counts ring (open_row ring i pass).0).1

    taking : Takes (seat ring i).values (seat ring i).marks a (step_at (call i a) ring)
    taking = takes laws (seat ring i).values (lawful_node ring lawful_before i within) (seat ring i).marks ring a took

    abbrev moved : List Seat
    moved = set ring i (seat_after (call i a) ring)

    -- what holds of each station before and of the new one holds after
    each : (P : Seat → Type 0) → P (seat_after (call i a) ring) → (k : ℕ) → ((k ≡ i → ⊥) → P (seat ring k)) → P (seat moved k)
    each P new k old =
        ⊎_elim
        (λ (q : k ≡ i). subst (λ j. P (seat moved j)) (sym q) (subst P (sym (get_or-set_same ring i _ blank within)) new))
        (λ (q : k ≡ i → ⊥). subst P (sym (get_or-set_other ring i k _ blank q)) (old q))
        (cases_eq k i)

    same_settings : ring_settings moved ≡ ring_settings ring
    same_settings =
        let of : Seat → Settings = λ s. s.values.settings in
        map-set of ring i _ ∙ ap (λ g. set (ring_settings ring) i g) (taking.settings ∙ sym (get_or-map of ring i blank no_settings within)) ∙ set-get_or (ring_settings ring) i no_settings

    nodes : all_nodes moved ≡ true
    unfolding all_nodes
    nodes =
        below_from (λ k. makes_node (seat moved k).values) (length moved)
        (λ k l. each (λ s. makes_node s.values ≡ true) taking.rules k (λ q. lawful_node ring lawful_before k (subst (λ t. k < t) (length-set ring i _) l)))

    open_moved : row_gate moved ≡ None
    open_moved =
        let counts = open_counts ring (open_row ring i pass).0 in
        counts_open moved (ap count_fits (length-set ring i _) ∙ counts.0)
        (and_from (all_nodes moved) (lawful (ring_settings moved)) nodes (ap lawful same_settings ∙ (and_parts (all_nodes ring) (lawful (ring_settings ring)) lawful_before).1))

  open_after : (ring : List Seat) (c : Call) → row_gate ring ≡ None → row_gate (after c ring) ≡ None
  open_after ring c h = by_answer laws ring c.station c.asks (λ _ r. row_gate r ≡ None) (λ pass took. open_moved ring c.station c.asks pass took) h

  pub stays_open : {F : Type 0} (marks : F → Marks) (c : Call) (row row' : List (Station F)) (b : Bool) → RingStep marks c row b row' → row_gate (view marks row) ≡ None → row_gate (view marks row') ≡ None
  stays_open marks c row row' b s h = ap row_gate s.seen ∙ open_after (view marks row) c h
