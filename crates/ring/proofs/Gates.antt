-- When a call of a ring may go on. Assumes nothing.
use Rattle.std.proofs.Common.{◌≡◌, ℕ, ◌<◌, Bool, true, false, cond, ◌&&◌, ltb, List, map, length, Some, None, Option, IsSome, MatchOption, sym, refl, ap, ◌∙◌, subst}
use Rattle.std.proofs.lemmas.Bool.{and_parts, ltb-true}
use Rattle.fabric.specs.Marks.{Marks}
use Rattle.node.specs.declared.node.Node.{Node}
use Rattle.node.specs.declared.types.NodeValues.{NodeValues}
use Rattle.node.specs.Rules.{makes_node}
use Rattle.ring.specs.declared.faults.RingFault.{RingFault}
use Rattle.ring.specs.declared.faults.RingFault.TheVariants.{Count, Unlawful, NoStation}
use Rattle.ring.specs.declared.station.Station.{Station}
use Rattle.ring.specs.Faults.{cause_at, ring_refusal, unplaced}
use Rattle.ring.specs.Row.{Seat, view, seat, count_fits, lawful, all_nodes, ring_settings, lawful_row}
use Rattle.ring.specs.Calls.{gate, row_gate, then_station}
use Rattle.ring.proofs.Views.{view_length, settings_view}
use Rattle.ring.proofs.Below.{below_at}

abbrev checked : Bool → Bool → Option RingFault
checked few together = cond few (cond together None (Some Unlawful)) (Some Count)

-- 14 and 15 of a row, as the code asks them
module _ {F : Type 0} (marks : F → Marks) (row : List (Station F)) where
  pub row_judged : count_fits (length row) ≡ true → (a b : Bool) → a ≡ all_nodes (view marks row) → b ≡ lawful (map (λ s. s.values.settings) row)
      → row_gate (view marks row) ≡ cond (a && b) None (Some Unlawful)
  row_judged h a b n l =
      ap (λ n. checked (count_fits n) (lawful_row (view marks row))) (view_length marks row) ∙ ap (λ c. checked c (lawful_row (view marks row))) h
      ∙ ap (λ c. checked true (all_nodes (view marks row) && c)) (ap lawful (settings_view marks row) ∙ sym l)
      ∙ ap (λ c. checked true (c && b)) (sym n)

pub gate_shut : (ring : List Seat) (i : ℕ) (e : RingFault) → row_gate ring ≡ Some e → gate ring i ≡ Some e
gate_shut ring i e h = ap (λ o. then_station o (ltb i (length ring))) h

-- what an open gate shows
if_none : {X : Type 0} (b : Bool) (o : Option X) (e : X) → cond b o (Some e) ≡ None → (b ≡ true) × (o ≡ None)
if_none true o e h = (refl, h)
if_none false o e h = absurd cc

pub open_counts : (ring : List Seat) → row_gate ring ≡ None → (count_fits (length ring) ≡ true) × (lawful_row ring ≡ true)
open_counts ring h =
    let a = if_none (count_fits (length ring)) (cond (lawful_row ring) None (Some Unlawful)) Count h in
    (a.0, (if_none (lawful_row ring) None Unlawful a.1).0)

pub counts_open : (ring : List Seat) → count_fits (length ring) ≡ true → lawful_row ring ≡ true → row_gate ring ≡ None
counts_open ring a b = rw (a, b)

past_row : (o : Option RingFault) (b : Bool) → then_station o b ≡ None → (o ≡ None) × (b ≡ true)
past_row None b h = (refl, (if_none b None NoStation h).0)
past_row (Some e) b h = absurd cc

pub open_row : (ring : List Seat) (i : ℕ) → gate ring i ≡ None → (row_gate ring ≡ None) × (i < length ring)
open_row ring i h =
    let a = past_row (row_gate ring) (ltb i (length ring)) h in
    (a.0, ltb-true i (length ring) a.1)

-- a refusal by 14 or 15 names no place
names_no_place : (a b : Bool) (e : RingFault) → cond a (cond b None (Some Unlawful)) (Some Count) ≡ Some e → ring_refusal (unplaced e) ≡ cause_at None e
names_no_place true true e h = absurd cc
names_no_place true false e h = let q : Unlawful ≡ e = cc in subst (λ f. ring_refusal (unplaced f) ≡ cause_at None f) q refl
names_no_place false b e h = let q : Count ≡ e = cc in subst (λ f. ring_refusal (unplaced f) ≡ cause_at None f) q refl

pub row_refusal : (ring : List Seat) (e : RingFault) → row_gate ring ≡ Some e → ring_refusal (unplaced e) ≡ cause_at None e
row_refusal ring e h = names_no_place (count_fits (length ring)) (lawful_row ring) e h

-- in a lawful ring each station's values make a node
pub lawful_node : (ring : List Seat) → lawful_row ring ≡ true → (k : ℕ) → k < length ring → makes_node (seat ring k).values ≡ true
unfolding all_nodes
lawful_node ring h k l = below_at (λ k. makes_node (seat ring k).values) (length ring) (and_parts (all_nodes ring) (lawful (ring_settings ring)) h).0 k l

-- so what makes a node of them gives one
pub node_made : (Q : Node → Type 0) (v : NodeValues) (o : Option Node) → MatchOption o (makes_node v ≡ false) Q → makes_node v ≡ true → IsSome o
node_made Q v None h e = sym h ∙ e
node_made Q v (Some n) h e = refl
