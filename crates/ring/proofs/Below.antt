-- Tests at every number below one. Assumes nothing.
use Rattle.std.proofs.Common.{◌≡◌, ℕ, zero, suc, ◌+◌, ◌<◌, Bool, true, false, cond, ◌&&◌, List, [], ◌∷◌, map, length, get_or, sym, refl, ap, ◌∙◌, subst, ⊎_elim, arith}
use Rattle.std.specs.List.{list_all, count_by, AllPass}
use Rattle.std.proofs.lemmas.Bool.Decides.{same_from_decides}
use Rattle.std.proofs.lemmas.List.Elements.{All-from_get_or}
use Rattle.std.proofs.lemmas.List.Sums.{AllPass-from_list_all, list_all-from_AllPass, sum_by-cons}
use Rattle.std.proofs.lemmas.Bool.{and_parts, and_from, and_left, and_right, cases_eq}
use Rattle.ring.specs.Row.{all_below, count_below, one_if}

pub below_stops : (f : ℕ → Bool) (k n : ℕ) → k < n → f k ≡ false → all_below f n ≡ false
below_stops f k zero l e = absurd (omega arith)
below_stops f k (suc n) l e =
    ⊎_elim (λ (q : k ≡ n). and_left (f n) (all_below f n) (subst (λ m. f m ≡ false) q e))
    (λ (q : k ≡ n → ⊥). and_right (f n) (all_below f n) (below_stops f k n (omega arith) e)) (cases_eq k n)

pub below_at : (f : ℕ → Bool) (n : ℕ) → all_below f n ≡ true → (k : ℕ) → k < n → f k ≡ true
below_at f zero h k l = absurd (omega arith)
below_at f (suc n) h k l =
    ⊎_elim (λ (q : k ≡ n). subst (λ m. f m ≡ true) (sym q) (and_parts (f n) (all_below f n) h).0)
    (λ (q : k ≡ n → ⊥). below_at f n (and_parts (f n) (all_below f n) h).1 k (omega arith)) (cases_eq k n)

pub below_same : (f g : ℕ → Bool) (n : ℕ) → ((k : ℕ) → k < n → f k ≡ g k) → all_below f n ≡ all_below g n
below_same f g zero h = refl
below_same f g (suc n) h = ap (λ b. b && all_below f n) (h n (omega arith)) ∙ ap (λ b. g n && b) (below_same f g n (λ k l. h k (omega arith)))

pub below_from : (f : ℕ → Bool) (n : ℕ) → ((k : ℕ) → k < n → f k ≡ true) → all_below f n ≡ true
below_from f zero h = refl
below_from f (suc n) h = and_from (f n) (all_below f n) (h n (omega arith)) (below_from f n (λ k l. h k (omega arith)))

-- a test of every place of a list, and how often it passes, as the list's own words say it
pub list_below : {X : Type 0} (test : X → Bool) (d : X) (xs : List X) → list_all test xs ≡ all_below (λ k. test (get_or xs k d)) (length xs)
list_below test d xs =
    let f : ℕ → Bool = λ k. test (get_or xs k d) in
    same_from_decides {P = AllPass test xs} (list_all test xs) (all_below f (length xs))
    (AllPass-from_list_all test xs, list_all-from_AllPass test xs)
    ((λ h. All-from_get_or (λ x. test x ≡ true) xs d (λ k l. below_at f (length xs) h k l)), (λ h. below_from f (length xs) (λ k l. h k d l)))

count_front : (f : ℕ → Bool) (n : ℕ) → count_below f (suc n) ≡ one_if (f 0) + count_below (λ k. f (suc k)) n
count_front f zero = omega arith
count_front f (suc n) = omega (arith, count_front f n)

one_if_is : (b : Bool) → cond b 1 0 ≡ one_if b
one_if_is true = refl
one_if_is false = refl

pub count_list : {X Y : Type 0} (of : X → Y) (test : Y → Bool) (d : Y) (xs : List X) → count_by (λ x. test (of x)) xs ≡ count_below (λ k. test (get_or (map of xs) k d)) (length xs)
count_list of test d [] = refl
count_list of test d (x ∷ xs) =
    sum_by-cons (λ x. cond (test (of x)) 1 0) x xs
    ∙ ap (λ n. n + count_by (λ x. test (of x)) xs) (one_if_is (test (of x))) ∙ ap (λ n. one_if (test (of x)) + n) (count_list of test d xs)
    ∙ sym (count_front (λ k. test (get_or (map of (x ∷ xs)) k d)) (length xs))

-- where a test passes at one number only, two at which it passes are one
none_below : (f : ℕ → Bool) (n : ℕ) → count_below f n ≡ 0 → (k : ℕ) → k < n → f k ≡ true → ⊥
none_below f zero h k l e = omega arith
none_below f (suc n) h k l e =
    ⊎_elim (λ (q : k ≡ n). let o : one_if (f n) ≡ 1 = ap one_if (subst (λ m. f m ≡ true) q e) in omega arith)
    (λ (q : k ≡ n → ⊥). none_below f n (omega arith) k (omega arith) e) (cases_eq k n)

pub only_one : (f : ℕ → Bool) (n : ℕ) → count_below f n ≡ 1 → (i j : ℕ) → i < n → j < n → f i ≡ true → f j ≡ true → i ≡ j
only_one f zero h i j li lj a b = absurd (omega arith)
only_one f (suc n) h i j li lj a b =
    let last : (k : ℕ) → k ≡ n → f k ≡ true → count_below f n ≡ 0 = λ k q e. let o : one_if (f n) ≡ 1 = ap one_if (subst (λ m. f m ≡ true) q e) in omega arith in
    ⊎_elim
    (λ (p : i ≡ n). ⊎_elim (λ (q : j ≡ n). p ∙ sym q) (λ (q : j ≡ n → ⊥). absurd (none_below f n (last i p a) j (omega arith) b)) (cases_eq j n))
    (λ (p : i ≡ n → ⊥). ⊎_elim (λ (q : j ≡ n). absurd (none_below f n (last j q b) i (omega arith) a))
    (λ (q : j ≡ n → ⊥).
    elim (f n) as (λ x. count_below f n + one_if x ≡ 1 → i ≡ j) [
      | true ↦ λ k. absurd (none_below f n (omega arith) i (omega arith) a)
      | false ↦ λ k. only_one f n (omega arith) i j (omega arith) (omega arith) a b
    ] h) (cases_eq j n)) (cases_eq i n)
