-- Node IDs. Assumes nothing.
use Rattle.std.specs.Prelude.{ℕ, ◌+◌, ◌*◌, ◌%◌, ◌^◌, Bool, ◌&&◌, ◌==◌, nat_le, slice_index}
use Rattle.frame.specs.declared.types.NodeId.{NodeId}

-- six octets as one number of 48 bits, the first octet highest
unfoldable pub id_number : NodeId → ℕ
id_number n =
    slice_index n.octets 0 * 2 ^ 40 + slice_index n.octets 1 * 2 ^ 32 + slice_index n.octets 2 * 2 ^ 24
    + slice_index n.octets 3 * 2 ^ 16 + slice_index n.octets 4 * 2 ^ 8 + slice_index n.octets 5

-- a station's ID: not zero, and its first octet even (an odd one marks a group of stations)
abbrev pub id_in_range : NodeId → Bool
id_in_range n = nat_le 1 (id_number n) && slice_index n.octets 0 % 2 == 0
