-- One bit of a word, set or cleared. Assumes nothing.
use Rattle.std.proofs.Common.{◌≡◌, ℕ, zero, suc, ◌+◌, ◌-◌, ◌*◌, ◌/◌, ◌%◌, ◌^◌, ◌<◌, Bool, true, false, refl, ap, ◌∙◌, pow-suc, one-add, arith}
use lib.Bits.{bit_or, bit_and, and_step, and_zero_l, and_le_l, or_add_and, and_high}
use Rattle.std.proofs.lemmas.Nat.{pow_below}
use Rattle.std.proofs.lemmas.Bool.{eqb-true, eqb-false}
use Rattle.std.proofs.lemmas.Bool.Decides.{nat_tests}
use Rattle.fabric.specs.Marks.{Marks, with_blocked, after_flush}
use Rattle.fabric.specs.Register.{bit, with_bit, word_marks, host_bits, word_with_blocked, word_after_flush}
use Rattle.fabric.proofs.Addresses.{by_cases}

-- a mask of one bit takes that bit
mask_one : (w k : ℕ) → bit_and w (2 ^ k) ≡ w / 2 ^ k % 2 * 2 ^ k
mask_one w k =
    let e : 2 ^ (1 + k) - 2 ^ k ≡ 2 ^ k = rw (one-add k) (omega (arith, pow-suc 2 k)) in
    rw e at (and_high w 1 k)

-- what a mask and its complement take is the whole
and_rest : (k a m : ℕ) → a < 2 ^ k → m < 2 ^ k → bit_and a (2 ^ k - 1 - m) + bit_and a m ≡ a
and_rest zero a m h g =
    let z : a ≡ 0 = omega arith in rw z (omega (arith, and_zero_l (2 ^ 0 - 1 - m), and_zero_l m))
and_rest (suc k) a m h g =
    let p = pow-suc 2 k in
    let n : ℕ = 2 ^ suc k - 1 - m in
    let half : n / 2 ≡ 2 ^ k - 1 - m / 2 = omega arith in
    let odd : n % 2 + m % 2 ≡ 1 = omega arith in
    let ih = and_rest k (a / 2) (m / 2) (omega arith) (omega arith) in
    let s = rw half at (and_step a n) in
    let t = and_step a m in
    omega arith

-- the mask of a set bit is its weight, that of a clear one is 0
mask_set : (w k : ℕ) → bit w k ≡ true → bit_and w (2 ^ k) ≡ 2 ^ k
mask_set w k e = let f = eqb-true (w / 2 ^ k % 2) 1 e in mask_one w k ∙ rw f (omega arith)

mask_clear : (w k : ℕ) → bit w k ≡ false → bit_and w (2 ^ k) ≡ 0
mask_clear w k e = let f : w / 2 ^ k % 2 ≡ 0 = omega (arith, eqb-false (w / 2 ^ k % 2) 1 e) in mask_one w k ∙ rw f (omega arith)

pub or_sets : (w k : ℕ) → bit_or w (2 ^ k) ≡ with_bit w k true
or_sets w k =
    by_cases (bit w k)
    (λ e. rw e (omega (arith, or_add_and w (2 ^ k), mask_set w k e)))
    (λ e. rw e (omega (arith, or_add_and w (2 ^ k), mask_clear w k e)))

pub and_clears : (w k : ℕ) → w < 2 ^ 32 → k < 32 → bit_and w (2 ^ 32 - 1 - 2 ^ k) ≡ with_bit w k false
and_clears w k h g =
    let r = and_rest 32 w (2 ^ k) h (pow_below k 32 g) in
    by_cases (bit w k) (λ e. rw e (omega (arith, r, mask_set w k e))) (λ e. rw e (omega (arith, r, mask_clear w k e)))

-- the marks and the host's bits after block, open and flush
pub marks_blocked : (w p : ℕ) (b : Bool) → word_marks (word_with_blocked w p b) ≡ with_blocked (word_marks w) p b
marks_blocked w zero true = by_cases (bit w 31) (λ e. rw e (grind (arith, nat_tests))) (λ e. rw e (grind (arith, nat_tests)))
marks_blocked w zero false = by_cases (bit w 31) (λ e. rw e (grind (arith, nat_tests))) (λ e. rw e (grind (arith, nat_tests)))
marks_blocked w (suc zero) true = by_cases (bit w 30) (λ e. rw e (grind (arith, nat_tests))) (λ e. rw e (grind (arith, nat_tests)))
marks_blocked w (suc zero) false = by_cases (bit w 30) (λ e. rw e (grind (arith, nat_tests))) (λ e. rw e (grind (arith, nat_tests)))
marks_blocked w (suc (suc n)) b = refl

host_with : (w k : ℕ) (b : Bool) → 2 ^ k % 2 ^ 28 ≡ 0 → with_bit w k b % 2 ^ 28 ≡ w % 2 ^ 28
host_with w k true m = by_cases (bit w k) (λ e. rw e) (λ e. rw e (omega arith))
host_with w k false m =
    by_cases (bit w k) (λ e. rw e (omega (arith, and_le_l w (2 ^ k), mask_set w k e))) (λ e. rw e)

marks_29 : (w : ℕ) → word_marks (with_bit w 29 false) ≡ record { blocked = (word_marks w).blocked; taught = record { p0 = false; p1 = bit w 28 } }
marks_29 w = by_cases (bit w 29) (λ e. rw e (grind (arith, nat_tests))) (λ e. rw e (grind (arith, nat_tests)))

marks_28 : (w : ℕ) → word_marks (with_bit w 28 false) ≡ record { blocked = (word_marks w).blocked; taught = record { p0 = bit w 29; p1 = false } }
marks_28 w = by_cases (bit w 28) (λ e. rw e (grind (arith, nat_tests))) (λ e. rw e (grind (arith, nat_tests)))

abbrev untaught_1 : Marks → Marks
untaught_1 m = record { blocked = m.blocked; taught = record { p0 = m.taught.p0; p1 = false } }

pub marks_flushed : (w : ℕ) → word_marks (word_after_flush w) ≡ after_flush (word_marks w)
marks_flushed w = marks_28 (with_bit w 29 false) ∙ ap untaught_1 (marks_29 w)

pub host_flushed : (w : ℕ) → host_bits (word_after_flush w) ≡ host_bits w
host_flushed w = rw (host_with (with_bit w 29 false) 28 false refl, host_with w 29 false refl)
