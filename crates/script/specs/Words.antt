-- Hex digits. Assumes nothing.
use Rattle.std.specs.Prelude.{ℕ, zero, suc, ◌+◌, ◌-◌, ◌*◌, cond, ◌&&◌, List, [], ◌∷◌, length, Some, None, Ok, Err, Option, Result, ◌==◌, nat_le, slice_index}
use Rattle.script.specs.declared.words.Id.{Id}
use Rattle.script.specs.declared.words.NoId.{NoId}

-- 0 to 9, A to F and a to f, by their ASCII codes
abbrev pub hex_digit : ℕ → Option ℕ
hex_digit c =
    cond (nat_le 48 c && nat_le c 57) (Some (c - 48))
    (cond (nat_le 65 c && nat_le c 70) (Some (c - 65 + 10))
    (cond (nat_le 97 c && nat_le c 102) (Some (c - 97 + 10)) None))

abbrev pub both_digits : Option ℕ → Option ℕ → Option ℕ
both_digits (Some a) (Some b) = Some (a * 16 + b)
both_digits (Some a) None = None
both_digits None o = None

-- two digits, the first higher
abbrev pub hex_octet : ℕ → ℕ → Option ℕ
hex_octet high low = both_digits (hex_digit high) (hex_digit low)

-- one octet more, where there is one, before what follows
abbrev pub octet_then : Option ℕ → Option (List ℕ) → Option (List ℕ)
octet_then (Some o) (Some os) = Some (o ∷ os)
octet_then (Some o) None = None
octet_then None os = None

-- so many octets of a word of two digits each, from place k on
abbrev pub octets_from : List ℕ → ℕ → ℕ → Option (List ℕ)
octets_from w k zero = Some []
octets_from w k (suc n) = octet_then (hex_octet (slice_index w k) (slice_index w (k + 1))) (octets_from w (k + 2) n)

abbrev pub id_of_octets : Option (List ℕ) → Result Id NoId
id_of_octets (Some o) = Ok (record { 0 = record { octets = o } })
id_of_octets None = Err (record {})

-- a Node ID as a word: twelve digits, and nothing else
abbrev pub id_read : List ℕ → Result Id NoId
id_read w = cond (length w == 12) (id_of_octets (octets_from w 0 6)) (Err (record {}))
