-- The survivor, found among stations. Assumes nothing.
use Rattle.std.proofs.Common.{◌≡◌, ℕ, suc, ◌<◌, ◌≤◌, max, Bool, true, false, cond, eqb, List, [], ◌∷◌, map, length, get_or, Some, None, Option, sym, refl, ap, ◌∙◌, subst, ⊎_elim, arith}
use Rattle.std.specs.Bool.{then_some}
use Rattle.std.specs.Option.{option_map}
use Rattle.std.proofs.lemmas.List.{get_or-map}
use Rattle.std.proofs.lemmas.Bool.{cases_Bool}
use Rattle.fabric.specs.Marks.{Marks}
use Rattle.frame.specs.Highest.{first_highest, first_with, highest_rank, HighestAt}
use Rattle.frame.specs.Ids.{id_number}
use Rattle.frame.specs.Refusals.{gave}
use Rattle.node.specs.declared.types.NodeValues.{NodeValues}
use Rattle.ring.specs.declared.station.Station.{Station}
use Rattle.ring.specs.Row.{Seat, seat_of, view, seat, blank}
use Rattle.ring.specs.Survivor.{sends_nr, nr_rank, if_sending, survivor_of, ring_values, SurvivorLaw}
use Rattle.ring.proofs.Views.{view_length}

-- ---- the choice over a list that is made of another

highest_map : {X Y : Type 0} (rank : Y → ℕ) (f : X → Y) (xs : List X) → highest_rank rank (map f xs) ≡ highest_rank (λ x. rank (f x)) xs
highest_map rank f [] = refl
highest_map rank f (x ∷ xs) = ap (max (rank (f x))) (highest_map rank f xs)

first_map : {X Y : Type 0} (test : Y → Bool) (f : X → Y) (xs : List X) → first_with test (map f xs) ≡ first_with (λ x. test (f x)) xs
first_map test f [] = refl
first_map test f (x ∷ xs) = ap (λ o. cond (test (f x)) (Some 0) (option_map suc o)) (first_map test f xs)

first_highest_map : {X Y : Type 0} (rank : Y → ℕ) (f : X → Y) (xs : List X) → first_highest rank (map f xs) ≡ first_highest (λ x. rank (f x)) xs
unfolding first_highest
first_highest_map rank f xs =
    first_map (λ y. eqb (rank y) (highest_rank rank (map f xs))) f xs ∙ ap (λ n. first_with (λ x. eqb (rank (f x)) n) xs) (highest_map rank f xs)

rank_sending : (v : NodeValues) → sends_nr v ≡ true → nr_rank v ≡ suc (id_number v.settings.id)
rank_sending v e = ap (λ b. cond b (suc (id_number v.settings.id)) 0) e

rank_silent : (v : NodeValues) → sends_nr v ≡ false → nr_rank v ≡ 0
rank_silent v e = ap (λ b. cond b (suc (id_number v.settings.id)) 0) e

module _ {F : Type 0} (marks : F → Marks) (row : List (Station F)) where
  values_of : ring_values (view marks row) ≡ map (λ s. s.values) row
  values_of = each row
    where
      each : (row : List (Station F)) → ring_values (view marks row) ≡ map (λ s. s.values) row
      each [] = refl
      each (s ∷ row) = ap (λ vs. s.values ∷ vs) (each row)

  values_at : (k : ℕ) (d : Station F) → k < length row → (seat (view marks row) k).values ≡ (get_or row k d).values
  values_at k d l = ap (λ (s : Seat). s.values) (get_or-map (seat_of marks) row k d blank l)

  found_at : (k : ℕ) (d : Station F) → k < length row → get_or (ring_values (view marks row)) k blank.values ≡ (get_or row k d).values
  found_at k d l = ap (λ vs. get_or vs k blank.values) values_of ∙ get_or-map (λ s. s.values) row k d blank.values l

  chosen : (o : Option ℕ) → o ≡ first_highest (λ (s : Station F). nr_rank s.values) row → survivor_of (ring_values (view marks row)) ≡ if_sending (ring_values (view marks row)) o
  chosen o e =
      ap (if_sending (ring_values (view marks row))) (ap (first_highest nr_rank) values_of ∙ first_highest_map nr_rank (λ s. s.values) row ∙ sym e)

  pub none_chosen : None ≡ first_highest (λ (s : Station F). nr_rank s.values) row → None ≡ survivor_of (ring_values (view marks row))
  none_chosen e = sym (chosen None e)

  module _ (k : ℕ) (x : Station F) (at : x ≡ get_or row k x) (h : HighestAt (λ (s : Station F). nr_rank s.values) row k) (e : Some k ≡ first_highest (λ (s : Station F). nr_rank s.values) row) where
    sending_chosen : sends_nr x.values ≡ true → Some k ≡ survivor_of (ring_values (view marks row))
    sending_chosen t =
        sym (chosen (Some k) e ∙ ap (λ b. cond b (Some k) None) (ap sends_nr (found_at k x h.within ∙ ap (λ s. s.values) (sym at)) ∙ t))

    silent_chosen : sends_nr x.values ≡ false → None ≡ survivor_of (ring_values (view marks row))
    silent_chosen t =
        sym (chosen (Some k) e ∙ ap (λ b. cond b (Some k) None) (ap sends_nr (found_at k x h.within ∙ ap (λ s. s.values) (sym at)) ∙ t))

    -- the values of the stations as they are ranked
    below : (j : ℕ) → j < length (view marks row) → nr_rank (seat (view marks row) j).values ≤ nr_rank x.values
    below j l =
        let m : j < length row = subst (λ n. j < n) (view_length marks row) l in
        subst (λ v. nr_rank v ≤ nr_rank x.values) (sym (values_at j x m))
        (subst (λ s. nr_rank (get_or row j x).values ≤ nr_rank s.values) (sym at) (h.none_higher j x m))

    own : (seat (view marks row) k).values ≡ x.values
    own = values_at k x h.within ∙ ap (λ s. s.values) (sym at)

    sending_law : sends_nr x.values ≡ true → SurvivorLaw (view marks row) (gave (Some k))
    sending_law t = record {
      within = subst (λ n. k < n) (sym (view_length marks row)) h.within;
      sends = ap sends_nr own ∙ t;
      highest = λ j l s.
          let lower = below j l in
          let a = rank_sending (seat (view marks row) j).values s in
          let b = rank_sending x.values t in
          subst (λ v. id_number (seat (view marks row) j).values.settings.id ≤ id_number v.settings.id) (sym own) (omega arith);
    }

    silent_law : sends_nr x.values ≡ false → SurvivorLaw (view marks row) (gave None)
    silent_law t j l =
        ⊎_elim
        (λ (s : sends_nr (seat (view marks row) j).values ≡ true).
        absurd (let lower = below j l in let a = rank_sending (seat (view marks row) j).values s in let b = rank_silent x.values t in omega arith))
        (λ (s : sends_nr (seat (view marks row) j).values ≡ false). s)
        (cases_Bool (sends_nr (seat (view marks row) j).values))

    -- as the code answers
    pub told : (b : Bool) → b ≡ sends_nr x.values → (then_some b k ≡ survivor_of (ring_values (view marks row))) × SurvivorLaw (view marks row) (gave (then_some b k))
    told true e = (sending_chosen (sym e), sending_law (sym e))
    told false e = (silent_chosen (sym e), silent_law (sym e))
