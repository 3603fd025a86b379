-- Distinct IDs, and a sort that shows them. Assumes nothing.
use Rattle.std.proofs.Common.{◌≡◌, ℕ, ◌<◌, Bool, true, false, not, eqb, ltb, List, length, get_or, Decides, sym, refl, ap, ◌∙◌, subst, arith}
use Rattle.std.specs.List.{IsDistinct, IsAllAdjacentAnswer}
use Rattle.std.specs.List.Sorted.{IsPermutation, IsNonDecreasing, IsStrictlyIncreasing}
use Rattle.std.proofs.lemmas.Bool.{lt-ltb, ltb-true, ne_eqb, not-true, true≢false}
use Rattle.std.proofs.lemmas.Bool.Decides.{same_from_decides}
use Rattle.std.proofs.lemmas.List.{get_or_default}
use Rattle.std.proofs.lemmas.List.Kept.{AllPairs-from_increasing}
use Rattle.std.proofs.lemmas.List.Sorted.{IsPermutation-sym}
use Rattle.std.proofs.lemmas.Map.Keys.{IsDistinct-IsPermutation, IsDistinct-from_apart, IsStrictlyIncreasing-from_distinct, apart_from_distinct}
use Rattle.frame.specs.Ids.{id_number}
use Rattle.node.specs.declared.types.Settings.{Settings}
use Rattle.ring.specs.Row.{setting, new_id, all_below}
use Rattle.ring.proofs.Below.{below_at, below_from}

flips : (x y : ℕ) → eqb x y ≡ eqb y x
flips x y = grind arith

distinct_rising : (ys : List ℕ) → IsStrictlyIncreasing ys → IsDistinct eqb ys
distinct_rising ys s = IsDistinct-from_apart eqb ys (λ i j d l m. ne_eqb _ _ (λ q. let lt = AllPairs-from_increasing ys s i j d l m in omega arith))

-- what `is_sorted_by` answers where it compares by `<`
pub rising_is : (ys : List ℕ) (r : Bool) → IsAllAdjacentAnswer (λ x y b. b ≡ ltb x y) ys r → Decides r (IsStrictlyIncreasing ys)
rising_is ys true h = ((λ _ k l. ltb-true _ _ (sym (h k 0 l))), λ _. refl)
rising_is ys false (k, l, h) = ((λ e. absurd cc), λ s. absurd (true≢false (sym (lt-ltb _ _ (s k l)) ∙ sym (h 0))))

-- the numbers of a ring's IDs, in order
module _ (ss : List Settings) (xs : List ℕ) (n : length xs ≡ length ss) (ids : (k : ℕ) → k < length ss → get_or xs k 0 ≡ id_number (setting ss k).id) where
  -- the IDs of two stations are told apart as the numbers are
  apart : (i j d : ℕ) → i < length xs → j < length xs → eqb (id_number (setting ss i).id) (id_number (setting ss j).id) ≡ eqb (get_or xs i d) (get_or xs j d)
  apart i j d l m =
      let at : (k : ℕ) → k < length xs → id_number (setting ss k).id ≡ get_or xs k d = λ k h. sym (ids k (subst (λ t. k < t) n h)) ∙ get_or_default xs k 0 d h in
      ap (λ a. eqb a (id_number (setting ss j).id)) (at i l) ∙ ap (eqb (get_or xs i d)) (at j m)

  new_distinct : all_below (new_id ss) (length ss) ≡ true → IsDistinct eqb xs
  new_distinct h =
      IsDistinct-from_apart eqb xs (λ i j d l m. let k : i < length xs = omega arith in
      sym (apart i j d k m) ∙ not-true _ (below_at (λ i. not (eqb (id_number (setting ss i).id) (id_number (setting ss j).id))) j (below_at (new_id ss) (length ss) h j (subst (λ t. j < t) n m)) i l))

  distinct_new : IsDistinct eqb xs → all_below (new_id ss) (length ss) ≡ true
  distinct_new u =
      below_from (new_id ss) (length ss) (λ k l. below_from (λ j. not (eqb (id_number (setting ss j).id) (id_number (setting ss k).id))) k (λ j m.
      let h : k < length xs = subst (λ t. k < t) (sym n) l in let i : j < length xs = omega arith in
      ap not (apart j k 0 i h ∙ apart_from_distinct eqb xs j k 0 u m h)))

  pub distinct_is : (ys : List ℕ) (r : Bool) → IsPermutation xs ys → IsNonDecreasing ys → Decides r (IsStrictlyIncreasing ys) → r ≡ all_below (new_id ss) (length ss)
  distinct_is ys r s up d =
      same_from_decides r (all_below (new_id ss) (length ss)) d (
        (λ h. IsStrictlyIncreasing-from_distinct ys up (IsDistinct-IsPermutation eqb flips xs ys s (new_distinct h))),
        (λ h. distinct_new (IsDistinct-IsPermutation eqb flips ys xs (IsPermutation-sym xs ys s) (distinct_rising ys h))),
      )
