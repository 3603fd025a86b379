-- What is seen of a row of stations, and which rows are lawful. Assumes nothing.
use Rattle.std.specs.Prelude.{ℕ, zero, suc, ◌+◌, ◌-◌, Bool, true, false, cond, not, ◌&&◌, List, [], map, length, ◌==◌, nat_le, slice_index_or}
use Rattle.fabric.specs.Marks.{Marks}
use Rattle.frame.specs.Ids.{id_number}
use Rattle.node.specs.declared.types.NodeValues.{NodeValues}
use Rattle.node.specs.declared.types.Port.{Port}
use Rattle.node.specs.declared.types.Port.TheVariants.{Zero, One}
use Rattle.node.specs.declared.types.Role.{Role}
use Rattle.node.specs.declared.types.Role.TheVariants.{Other, Owner, Neighbour}
use Rattle.node.specs.declared.types.Settings.{Settings}
use Rattle.node.specs.Names.{is_owner}
use Rattle.node.specs.Ports.{none}
use Rattle.node.specs.Rules.{makes_node}
use Rattle.node.specs.Settling.{started}
use Rattle.ring.specs.declared.station.Station.{Station}

-- a station as it is seen: the node's values, and the four marks at the fabric
pub record Seat : Type 0 where
  pub values : NodeValues
  pub marks : Marks

abbrev pub seat_of : {F : Type 0} → (F → Marks) → Station F → Seat
seat_of marks s = record { values = s.values; marks = marks s.fabric }

abbrev pub view : {F : Type 0} → (F → Marks) → List (Station F) → List Seat
view marks row = map (seat_of marks) row

-- what stands past the end of a list; no rule reads it
abbrev pub no_settings : Settings
no_settings = record {
  id = record { octets = [] };
  channel = record { ring_id = 0; vid = 0 };
  mel = 0;
  role = Other;
  rpl = Zero;
  revertive = false;
}

abbrev pub blank : Seat
blank = record { values = started no_settings none; marks = record { blocked = none; taught = none } }

abbrev pub seat : List Seat → ℕ → Seat
seat ring k = slice_index_or ring k blank

-- a test passes at every number below one, and how often it does
abbrev pub all_below : (ℕ → Bool) → ℕ → Bool
all_below f zero = true
all_below f (suc n) = f n && all_below f n

abbrev pub one_if : Bool → ℕ
one_if true = 1
one_if false = 0

abbrev pub count_below : (ℕ → Bool) → ℕ → ℕ
count_below f zero = 0
count_below f (suc n) = count_below f n + one_if (f n)

-- the station that port p of station k is joined to: port 1 of each joins port 0 of the next, the last joins the first
abbrev pub joined_to : ℕ → ℕ → Port → ℕ
joined_to n k Zero = cond (k == 0) (n - 1) (k - 1)
joined_to n k One = cond (k + 1 == n) 0 (k + 1)

abbrev pub opposite : Port → Port → Bool
opposite Zero Zero = false
opposite Zero One = true
opposite One Zero = true
opposite One One = false

-- the settings of station k
abbrev pub setting : List Settings → ℕ → Settings
setting ss k = slice_index_or ss k no_settings

abbrev pub same_settings : Settings → Settings → Bool
same_settings s t = s.channel.ring_id == t.channel.ring_id && (s.channel.vid == t.channel.vid && s.mel == t.mel)

abbrev pub faces_owner : Settings → Settings → Bool
faces_owner v far = is_owner far.role && opposite v.rpl far.rpl

-- what a station is owed of the one that its RPL port is joined to: a neighbour has the owner's RPL there
abbrev pub stands : Settings → Settings → Role → Bool
stands v far Other = true
stands v far Owner = true
stands v far Neighbour = faces_owner v far

-- so with one owner there is at most one neighbour
abbrev pub placed : List Settings → ℕ → Settings → Bool
placed ss k v = stands v (setting ss (joined_to (length ss) k v.rpl)) v.role

-- no station before k has the ID of station k
abbrev pub new_id : List Settings → ℕ → Bool
new_id ss k = all_below (λ j. not (id_number (setting ss j).id == id_number (setting ss k).id)) k

abbrev pub distinct_ids : List Settings → Bool
distinct_ids ss = all_below (new_id ss) (length ss)

-- ring ID, VID and MEL as at the first station, and a neighbour in its place
abbrev pub fits_at : List Settings → ℕ → Bool
fits_at ss k = same_settings (setting ss k) (setting ss 0) && placed ss k (setting ss k)

abbrev pub owners : List Settings → ℕ
owners ss = count_below (λ k. is_owner (setting ss k).role) (length ss)

-- equal ring ID, VID and MEL, distinct IDs, one owner, and a neighbour only at the other end of the owner's RPL
unfoldable pub lawful : List Settings → Bool
lawful ss = distinct_ids ss && (all_below (fits_at ss) (length ss) && owners ss == 1)

abbrev pub ring_settings : List Seat → List Settings
ring_settings ring = map (λ s. s.values.settings) ring

-- each station's values make a node
unfoldable pub all_nodes : List Seat → Bool
all_nodes ring = all_below (λ k. makes_node (seat ring k).values) (length ring)

abbrev pub lawful_row : List Seat → Bool
lawful_row ring = all_nodes ring && lawful (ring_settings ring)

abbrev pub count_fits : ℕ → Bool
count_fits n = nat_le 2 n && nat_le n 255
