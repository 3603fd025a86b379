-- The place of the highest, among equals the first. Assumes nothing.
use Rattle.std.specs.Prelude.{ℕ, suc, ◌<◌, ◌≤◌, max, Bool, cond, List, [], ◌∷◌, length, Some, None, Option, nat_eq, slice_index_or}
use Rattle.std.specs.Option.{option_map}

-- the highest rank in a list
abbrev pub highest_rank : {X : Type 0} → (X → ℕ) → List X → ℕ
highest_rank rank [] = 0
highest_rank rank (x ∷ xs) = max (rank x) (highest_rank rank xs)

-- an empty place ranks below all
abbrev pub option_rank : {X : Type 0} → (X → ℕ) → Option X → ℕ
option_rank rank None = 0
option_rank rank (Some x) = suc (rank x)

-- the place of the first that passes the test
abbrev pub first_with : {X : Type 0} → (X → Bool) → List X → Option ℕ
first_with test [] = None
first_with test (x ∷ xs) = cond (test x) (Some 0) (option_map suc (first_with test xs))

-- the first place that has the highest rank
unfoldable pub first_highest : {X : Type 0} → (X → ℕ) → List X → Option ℕ
first_highest rank xs = first_with (λ x. nat_eq (rank x) (highest_rank rank xs)) xs

-- the same as a law: nothing in the list stands higher, and what stands before stands lower
pub record HighestAt {X : Type 0} (rank : X → ℕ) (xs : List X) (i : ℕ) : Type 0 where
  pub within : i < length xs
  pub none_higher : (k : ℕ) (d : X) → k < length xs → rank (slice_index_or xs k d) ≤ rank (slice_index_or xs i d)
  pub first : (k : ℕ) (d : X) → k < i → rank (slice_index_or xs k d) < rank (slice_index_or xs i d)
