-- A fabric in one word of 32 bits. Assumes nothing.
use Rattle.std.specs.Prelude.{ℕ, ◌+◌, ◌-◌, ◌/◌, ◌%◌, ◌^◌, Bool, true, false, cond, List, [], ◌∷◌, ◌==◌}
use Rattle.fabric.specs.Marks.{Marks, by_port}

-- the bit of weight 2 ^ k
abbrev pub bit : ℕ → ℕ → Bool
bit w k = w / 2 ^ k % 2 == 1

-- the word with the bit of weight 2 ^ k set, or cleared
abbrev pub with_bit : ℕ → ℕ → Bool → ℕ
with_bit w k true = cond (bit w k) w (w + 2 ^ k)
with_bit w k false = cond (bit w k) (w - 2 ^ k) w

-- most significant bit first: blocked 0, blocked 1, taught 0, taught 1
abbrev pub word_marks : ℕ → Marks
word_marks w = record {
  blocked = record { p0 = bit w 31; p1 = bit w 30 };
  taught = record { p0 = bit w 29; p1 = bit w 28 };
}

-- the other 28 bits are the host's
abbrev pub host_bits : ℕ → List (List ℕ)
host_bits w = (w % 2 ^ 28 ∷ []) ∷ []

-- the word after block (true) and open (false); any other port changes nothing
abbrev pub word_with_blocked : ℕ → ℕ → Bool → ℕ
word_with_blocked w p b = by_port p (with_bit w 31 b) (with_bit w 30 b) w

-- the word after flush
abbrev pub word_after_flush : ℕ → ℕ
word_after_flush w = with_bit (with_bit w 29 false) 28 false
