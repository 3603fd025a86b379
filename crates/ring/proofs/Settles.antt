-- Lawful settings, read from what has settings. Assumes nothing.
use Rattle.std.proofs.Common.{◌≡◌, ℕ, Bool, ◌&&◌, eqb, List, [], ◌∷◌, map, length, get_or, zero-add, sym, refl, ap, ◌∙◌}
use lib.ListN.{length-map}
use Rattle.std.specs.List.{count_by, list_all, enumerate_from}
use Rattle.std.proofs.lemmas.List.FromFn.{length-enumerate_from, get_or-enumerate_from}
use Rattle.std.proofs.lemmas.List.{get_or-map}
use Rattle.node.specs.declared.types.Settings.{Settings}
use Rattle.node.specs.Names.{is_owner}
use Rattle.ring.specs.Row.{same_settings, placed, setting, lawful, fits_at, new_id, distinct_ids, owners, all_below, count_below, no_settings}
use Rattle.ring.proofs.Below.{below_same, count_list, list_below}

module _ {X : Type 0} (of : X → Settings) where
  -- a station with its number fits
  abbrev pub fits_with : List X → ℕ × X → Bool
  fits_with row p = same_settings (of p.1) (setting (map of row) 0) && placed (map of row) p.0 (of p.1)

  pub each_fits : (row : List X) → list_all (fits_with row) (enumerate_from 0 row) ≡ all_below (fits_at (map of row)) (length row)
  each_fits [] = refl
  each_fits (x ∷ xs) =
      let row = x ∷ xs in
      let test : ℕ → Bool = λ k. fits_with row (get_or (enumerate_from 0 row) k (0, x)) in
      list_below (fits_with row) (0, x) (enumerate_from 0 row) ∙ ap (all_below test) (length-enumerate_from 0 row)
      ∙ below_same test (fits_at (map of row)) (length row) (λ k l.
      ap (fits_with row) (get_or-enumerate_from 0 row k (0, x) l) ∙ ap (λ j. fits_with row (j, get_or row k x)) (zero-add k)
      ∙ ap (λ v. same_settings v (setting (map of row) 0) && placed (map of row) k v) (sym (get_or-map of row k x no_settings l)))

  pub lawful_is : (row : List X) (a b : Bool) (n : ℕ) → a ≡ all_below (new_id (map of row)) (length row) → b ≡ all_below (fits_at (map of row)) (length row)
      → n ≡ count_by (λ x. is_owner (of x).role) row → (a && (b && eqb n 1)) ≡ lawful (map of row)
  unfolding lawful
  lawful_is row a b n d e f =
      let ss = map of row in
      let g : length row ≡ length ss = sym (length-map row of) in
      let news : a ≡ distinct_ids ss = d ∙ ap (all_below (new_id ss)) g in
      let fits : b ≡ all_below (fits_at ss) (length ss) = e ∙ ap (all_below (fits_at ss)) g in
      let one : n ≡ owners ss = f ∙ count_list of (λ s. is_owner s.role) no_settings row ∙ ap (count_below (λ k. is_owner (setting ss k).role)) g in
      ap (λ x. x && (b && eqb n 1)) news ∙ ap (λ x. distinct_ids ss && (x && eqb n 1)) fits ∙ ap (λ x. distinct_ids ss && (all_below (fits_at ss) (length ss) && eqb x 1)) one
