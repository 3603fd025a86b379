-- The first best of a list is its first place of the highest rank. Assumes nothing.
use Rattle.std.proofs.Common.{◌≡◌, ℕ, zero, suc, ◌+◌, ◌-◌, ◌<◌, ◌≤◌, Bool, true, false, eqb, ltb, List, [], ◌∷◌, length, get_or, take, drop, Some, None, sym, refl, ap, ◌∙◌, suc-le-suc, zero-le, le_of_suc-le-suc, arith}
use Rattle.std.specs.Option.{option_map}
use Rattle.std.specs.Cmp.{IsStrictWeakOrder}
use Rattle.std.specs.List.{IsFirstBest}
use Rattle.std.proofs.lemmas.List.{get_or-drop, length-drop, take_rest}
use Rattle.std.proofs.lemmas.List.MinMax.{IsFirstBest-keeps, IsFirstBest-none, IsFirstBest-takes, IsStrictWeakOrder-by_number, IsStrictWeakOrder-flip}
use Rattle.std.proofs.lemmas.Bool.{ltb-false, ltb-true, eq-eqb, ne_eqb, cond-true, cond-false}
use Rattle.frame.specs.Highest.{highest_rank, first_with, first_highest, HighestAt}

module _ {X : Type 0} (rank : X → ℕ) where
  highest_below : (xs : List X) (d : X) (n : ℕ) → ((k : ℕ) → k < length xs → rank (get_or xs k d) ≤ n) → highest_rank rank xs ≤ n
  highest_below [] d n h = zero-le
  highest_below (x ∷ xs) d n h =
      omega (arith, h 0 (omega arith), highest_below xs d n (λ k l. h (suc k) (suc-le-suc l)))

  highest_above : (xs : List X) (d : X) (k : ℕ) → k < length xs → rank (get_or xs k d) ≤ highest_rank rank xs
  highest_above [] d k l = absurd (omega arith)
  highest_above (x ∷ xs) d zero l = omega arith
  highest_above (x ∷ xs) d (suc k) l = omega (arith, highest_above xs d k (le_of_suc-le-suc l))

pub first_at : {X : Type 0} (test : X → Bool) (xs : List X) (d : X) (b : ℕ) → b < length xs → test (get_or xs b d) ≡ true
    → ((k : ℕ) → k < b → test (get_or xs k d) ≡ false) → first_with test xs ≡ Some b
first_at test [] d b l t f = absurd (omega arith)
first_at test (x ∷ xs) d zero l t f = cond-true _ _ _ t
first_at test (x ∷ xs) d (suc b) l t f =
    cond-false _ _ _ (f 0 (omega arith))
    ∙ ap (option_map suc) (first_at test xs d b (le_of_suc-le-suc l) t (λ k m. f (suc k) (suc-le-suc m)))

-- x stands higher than y
abbrev pub over : {X : Type 0} → (X → ℕ) → X → X → Bool
over rank x y = ltb (rank y) (rank x)

order : {X : Type 0} (rank : X → ℕ) → IsStrictWeakOrder (over rank)
order rank = IsStrictWeakOrder-flip _ (IsStrictWeakOrder-by_number rank)

-- what stands after the first
pub later : {X : Type 0} (xs : List X) (i : ℕ) (d : X) → get_or (take (length xs - 1) (drop 1 xs)) i d ≡ get_or xs (i + 1) d
later xs i d =
    let next : 1 + i ≡ i + 1 = omega arith in
    ap (λ ys. get_or ys i d) (take_rest xs 1) ∙ get_or-drop 1 xs i d ∙ ap (λ k. get_or xs k d) next

pub later_count : {X : Type 0} (xs : List X) → length (take (length xs - 1) (drop 1 xs)) ≡ length xs - 1
later_count xs = ap length (take_rest xs 1) ∙ length-drop 1 xs

pub starts : {X : Type 0} (rank : X → ℕ) (xs : List X) → IsFirstBest (over rank) xs 1 0
starts rank xs = IsFirstBest-none (order rank) xs

pub stays : {X : Type 0} (rank : X → ℕ) (xs : List X) (i b : ℕ) (x y : X) → IsFirstBest (over rank) xs i b → i < length xs
    → x ≡ get_or xs i x → y ≡ get_or xs b y → over rank x y ≡ false → IsFirstBest (over rank) xs (i + 1) b
stays rank xs i b x y h l p q f = IsFirstBest-keeps (order rank) xs i b x y h l p q f

pub moves : {X : Type 0} (rank : X → ℕ) (xs : List X) (i b : ℕ) (x y : X) → IsFirstBest (over rank) xs i b → i < length xs
    → x ≡ get_or xs i x → y ≡ get_or xs b y → over rank x y ≡ true → IsFirstBest (over rank) xs (i + 1) i
moves rank xs i b x y h l p q f = IsFirstBest-takes (order rank) xs i b x y h l p q f

best_with_default : {X : Type 0} (rank : X → ℕ) (xs : List X) (d : X) (b : ℕ) → b < length xs
    → IsFirstBest (over rank) xs (length xs) b → first_highest rank xs ≡ Some b
unfolding first_highest
best_with_default rank xs d b l h =
    let up : highest_rank rank xs ≤ rank (get_or xs b d) =
    highest_below rank xs d _ (λ k m. ltb-false _ _ (h.1 k d m)) in
    let down = highest_above rank xs d b l in
    let same : rank (get_or xs b d) ≡ highest_rank rank xs = omega arith in
    first_at (λ x. eqb (rank x) (highest_rank rank xs)) xs d b l (eq-eqb _ _ same)
    (λ k m. ne_eqb _ _ (λ e. omega (arith, ltb-true _ _ (h.2 k d m), e)))

pub first_best_is : {X : Type 0} (rank : X → ℕ) (xs : List X) (b : ℕ) → IsFirstBest (over rank) xs (length xs) b
    → Some b ≡ first_highest rank xs
first_best_is rank [] b h = absurd (omega (arith, h.0))
first_best_is rank (x ∷ xs) b h = sym (best_with_default rank (x ∷ xs) x b h.0 h)

pub first_best_law : {X : Type 0} (rank : X → ℕ) (xs : List X) (b : ℕ) → IsFirstBest (over rank) xs (length xs) b → HighestAt rank xs b
first_best_law rank xs b h = record {
  within = h.0;
  none_higher = λ k d m. ltb-false _ _ (h.1 k d m);
  first = λ k d m. ltb-true _ _ (h.2 k d m);
}

pub none_is : {X : Type 0} (rank : X → ℕ) (xs : List X) → length xs ≡ 0 → None ≡ first_highest rank xs
unfolding first_highest
none_is rank [] e = refl
none_is rank (x ∷ xs) e = absurd (omega arith)
