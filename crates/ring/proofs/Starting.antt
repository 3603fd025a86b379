-- Stations set up one after the other. Assumes nothing.
use Rattle.std.proofs.Common.{◌≡◌, ℕ, zero, suc, ◌+◌, ◌<◌, ◌≤◌, Bool, true, false, cond, not, ◌≢◌, List, [], ◌∷◌, length, get_or, set, Some, None, Option, sym, refl, ap, ◌∙◌, subst, ⊎_elim, arith, get_or-set_other, get_or-set_same}
use Rattle.std.specs.Option.{option_map}
use Rattle.std.proofs.lemmas.List.{get_or-map}
use Rattle.std.specs.List.{position, position_from}
use Rattle.std.proofs.lemmas.Iterator.Adapters.{position_from-zero}
use Rattle.std.proofs.lemmas.Bool.{cases_eq, not-false}
use Rattle.fabric.specs.Marks.{Marks}
use Rattle.frame.specs.Highest.{first_with}
use Rattle.node.specs.declared.types.Settings.{Settings}
use Rattle.node.specs.Rules.{settings_ok}
use Rattle.ring.specs.declared.station.Station.{Station}
use Rattle.ring.specs.Row.{Seat, seat_of, view, seat, setting, blank, no_settings}
use Rattle.ring.specs.SetUp.{fresh}
use Rattle.ring.proofs.Views.{view_set}

-- ---- settings in range

test_none : {X : Type 0} (test : X → Bool) (b : Bool) (o : Option ℕ) → cond b (Some 0) (option_map suc o) ≡ None → (b ≡ false) × (o ≡ None)
test_none test true o h = absurd cc
test_none test false None h = (refl, refl)
test_none test false (Some k) h = absurd cc

-- where the first that passes is none, none passes
pub none_passes : {X : Type 0} (test : X → Bool) (xs : List X) (d : X) → first_with test xs ≡ None → (k : ℕ) → k < length xs → test (get_or xs k d) ≡ false
none_passes test [] d h k l = absurd (omega arith)
none_passes test (x ∷ xs) d h zero l = (test_none test (test x) (first_with test xs) h).0
none_passes test (x ∷ xs) d h (suc k) l = none_passes test xs d (test_none test (test x) (first_with test xs) h).1 k (omega arith)

-- the first that passes, as `position` gives it
placed_from : {X : Type 0} (test : X → Bool) (i : ℕ) (xs : List X) → position_from test i xs ≡ option_map (λ k. k + i) (first_with test xs)
placed_from test i [] = refl
placed_from test i (x ∷ xs) = ap (cond (test x) (Some i)) (placed_from test (i + 1) xs) ∙ further (test x) (first_with test xs)
  where
    further : (b : Bool) (o : Option ℕ) → cond b (Some i) (option_map (λ k. k + (i + 1)) o) ≡ option_map (λ k. k + i) (cond b (Some 0) (option_map suc o))
    further true o = ap Some (omega arith)
    further false None = refl
    further false (Some k) = ap Some (omega arith)

pub first_is : {X : Type 0} (test : X → Bool) (xs : List X) → position test xs ≡ first_with test xs
first_is test xs = position_from-zero test xs ∙ placed_from test 0 xs ∙ unmoved (first_with test xs)
  where
    unmoved : (o : Option ℕ) → option_map (λ k. k + 0) o ≡ o
    unmoved None = refl
    unmoved (Some k) = ap Some (omega arith)

pub in_range : (ss : List Settings) → first_with (λ g. not (settings_ok g)) ss ≡ None → (k : ℕ) → k < length ss → settings_ok (setting ss k) ≡ true
in_range ss h k l = not-false (settings_ok (setting ss k)) (none_passes (λ g. not (settings_ok g)) ss no_settings h k l)

-- ---- one more station of a ring

module _ {F : Type 0} (marks : F → Marks) where
  pub one_started : (row : List (Station F)) (k : ℕ) (g : Settings) (x y : Station F) → k < length row
      → seat_of marks y ≡ fresh (seat_of marks (get_or row k x)) g → view marks (set row k y) ≡ set (view marks row) k (fresh (seat (view marks row) k) g)
  one_started row k g x y l s =
      view_set marks row k y ∙ ap (λ t. set (view marks row) k t) (s ∙ ap (λ t. fresh t g) (sym (get_or-map (seat_of marks) row k x blank l)))

module _ (old ring ring' : List Seat) (ss : List Settings) (k : ℕ) (g : Settings) (within : k < length ring) (is : ring' ≡ set ring k (fresh (seat ring k) g)) (gs : g ≡ setting ss k)
    (below : (j : ℕ) → j < k → seat ring j ≡ fresh (seat old j) (setting ss j)) (above : (j : ℕ) → k ≤ j → seat ring j ≡ seat old j) where
  pub more_below : (j : ℕ) → j < k + 1 → seat ring' j ≡ fresh (seat old j) (setting ss j)
  more_below j l =
      ⊎_elim
      (λ (q : j ≡ k). subst (λ i. seat ring' i ≡ fresh (seat old i) (setting ss i)) (sym q)
      (ap (λ r. seat r k) is ∙ get_or-set_same ring k _ _ within ∙ ap (λ s. fresh s g) (above k (omega arith)) ∙ ap (λ t. fresh (seat old k) t) gs))
      (λ (q : j ≡ k → ⊥). ap (λ r. seat r j) is ∙ get_or-set_other ring k j _ _ q ∙ below j (omega arith))
      (cases_eq j k)

  pub more_above : (j : ℕ) → k + 1 ≤ j → seat ring' j ≡ seat old j
  more_above j l =
      let ne : j ≢ k = omega arith in
      ap (λ r. seat r j) is ∙ get_or-set_other ring k j _ _ ne ∙ above j (omega arith)
