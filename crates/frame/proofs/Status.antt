-- The bits of the status octet. Assumes nothing.
use Rattle.std.proofs.Common.{◌≡◌, ℕ, ◌+◌, ◌/◌, ◌%◌, Bool, true, false, cond, refl}
use Rattle.frame.specs.Reading.{bit}

abbrev pub three_bits : Bool → Bool → Bool → ℕ
three_bits rb dnf bpr = cond rb 128 0 + cond dnf 64 0 + cond bpr 32 0

pub record StatusBits (rb dnf bpr : Bool) (n : ℕ) : Type 0 where
  pub rb_bit : bit 128 n ≡ rb
  pub dnf_bit : bit 64 n ≡ dnf
  pub bpr_bit : bit 32 n ≡ bpr
  pub low_bits : n % 32 ≡ 0
  pub high : n / 128 ≡ cond rb 1 0

pub status_bits : (rb dnf bpr : Bool) → StatusBits rb dnf bpr (three_bits rb dnf bpr)
status_bits true true true = record { rb_bit = refl; dnf_bit = refl; bpr_bit = refl; low_bits = refl; high = refl }
status_bits true true false = record { rb_bit = refl; dnf_bit = refl; bpr_bit = refl; low_bits = refl; high = refl }
status_bits true false true = record { rb_bit = refl; dnf_bit = refl; bpr_bit = refl; low_bits = refl; high = refl }
status_bits true false false = record { rb_bit = refl; dnf_bit = refl; bpr_bit = refl; low_bits = refl; high = refl }
status_bits false true true = record { rb_bit = refl; dnf_bit = refl; bpr_bit = refl; low_bits = refl; high = refl }
status_bits false true false = record { rb_bit = refl; dnf_bit = refl; bpr_bit = refl; low_bits = refl; high = refl }
status_bits false false true = record { rb_bit = refl; dnf_bit = refl; bpr_bit = refl; low_bits = refl; high = refl }
status_bits false false false = record { rb_bit = refl; dnf_bit = refl; bpr_bit = refl; low_bits = refl; high = refl }
