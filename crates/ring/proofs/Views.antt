-- Reading and writing a row, as it is seen. Assumes nothing.
use Rattle.std.proofs.Common.{◌≡◌, ℕ, ◌<◌, Bool, true, false, Option, List, [], ◌∷◌, map, length, get_or, set, sym, refl, ap, ◌∙◌}
use lib.ListN.{length-map}
use Rattle.std.proofs.lemmas.List.{get_or-map, map-set}
use Rattle.std.specs.Fn.{Called}
use Rattle.std.specs.Iterator.{YieldsThen}
use Rattle.std.specs.List.{FoldsTo, list_all}
use Rattle.std.specs.Option.{MatchOption}
use denote.Param.Members.{Mut}
use Rattle.std.proofs.lemmas.Iterator.{YieldsList}
use Rattle.std.proofs.lemmas.Iterator.Search.{all_from_yields_List}
use Rattle.std.proofs.lemmas.List.Folds.{list_all-map}
use Rattle.fabric.specs.Marks.{Marks}
use Rattle.ring.specs.declared.station.Station.{Station}
use Rattle.ring.specs.Row.{Seat, seat_of, view, seat, blank, all_below, ring_settings}
use Rattle.ring.proofs.Below.{list_below}

module _ {F : Type 0} (marks : F → Marks) where
  pub seat_read : (row : List (Station F)) (k : ℕ) (x : Station F) → k < length row → x ≡ get_or row k x → seat (view marks row) k ≡ seat_of marks x
  seat_read row k x l e = get_or-map (seat_of marks) row k x blank l ∙ ap (seat_of marks) (sym e)

  -- a test of every station, read from the row
  each_seat : (test : Seat → Bool) (row : List (Station F)) → list_all (λ s. test (seat_of marks s)) row ≡ all_below (λ k. test (seat (view marks row) k)) (length (view marks row))
  each_seat test row = sym (list_all-map test (seat_of marks) row) ∙ list_below test blank (view marks row)

  -- as `all` answers it
  pub all_seats : {S A G : Type 0} {steps : S → Option A → S → Type 0} {v : A → Station F} {g : Mut G (A × Unit {0}) Bool} {s : S}
      (test : Seat → Bool) (row : List (Station F)) (u : S) (f : G) (r : Bool)
      → (xs : List A) × (o : Option A) × (j : G) × YieldsThen steps s xs o u × FoldsTo (λ p x q. Called g p (x, tt) true q) f xs j × MatchOption o (r ≡ true) (λ x. (r ≡ false) × ((h : G) × Called g j (x, tt) false h))
      → YieldsList steps v s row → ((x : A) (b : Bool) (q : G) → Called g f (x, tt) b q → (q ≡ f) × (b ≡ test (seat_of marks (v x))))
      → r ≡ all_below (λ k. test (seat (view marks row) k)) (length (view marks row))
  all_seats test row u f r ran from here = all_from_yields_List (λ s. test (seat_of marks s)) u f r ran from here ∙ each_seat test row

  pub view_set : (row : List (Station F)) (k : ℕ) (x : Station F) → view marks (set row k x) ≡ set (view marks row) k (seat_of marks x)
  view_set row k x = map-set (seat_of marks) row k x

  pub view_length : (row : List (Station F)) → length (view marks row) ≡ length row
  view_length row = length-map row (seat_of marks)

  pub settings_view : (row : List (Station F)) → ring_settings (view marks row) ≡ map (λ s. s.values.settings) row
  settings_view [] = refl
  settings_view (s ∷ row) = ap (λ ss. s.values.settings ∷ ss) (settings_view row)
