-- The survivor question: which station has the highest ID of those that send NR. Assumes nothing.
use Rattle.std.specs.Prelude.{◌≡◌, ℕ, suc, ◌<◌, ◌≤◌, Bool, true, false, cond, List, map, length, Some, None, Option, ◌==◌, slice_index_or}
use Rattle.frame.specs.Highest.{first_highest}
use Rattle.frame.specs.Ids.{id_number}
use Rattle.frame.specs.Refusals.{Answer, gave, refused}
use Rattle.frame.specs.declared.types.Request.TheVariants.{NoRequest}
use Rattle.node.specs.declared.types.NodeValues.{NodeValues}
use Rattle.node.specs.Names.{sent_number}
use Rattle.ring.specs.declared.faults.RingFault.{RingFault}
use Rattle.ring.specs.Calls.{row_gate}
use Rattle.ring.specs.Faults.{cause_at}
use Rattle.ring.specs.Row.{Seat, seat, blank}

-- the station sends NR (not NR,RB)
abbrev pub sends_nr : NodeValues → Bool
sends_nr v = sent_number v.sending.request == sent_number (Some NoRequest)

-- those that send NR rank by their IDs, above all others
abbrev pub nr_rank : NodeValues → ℕ
nr_rank v = cond (sends_nr v) (suc (id_number v.settings.id)) 0

abbrev pub if_sending : List NodeValues → Option ℕ → Option ℕ
if_sending vs None = None
if_sending vs (Some k) = cond (sends_nr (slice_index_or vs k blank.values)) (Some k) None

-- the one with the highest ID of those that send NR, or none
abbrev pub survivor_of : List NodeValues → Option ℕ
survivor_of vs = if_sending vs (first_highest nr_rank vs)

abbrev pub ring_values : List Seat → List NodeValues
ring_values ring = map (λ s. s.values) ring

abbrev pub survivor_if : Option RingFault → Option ℕ → Answer (Option ℕ)
survivor_if None o = gave o
survivor_if (Some e) o = refused (cause_at None e)

abbrev pub ring_survivor : List Seat → Answer (Option ℕ)
ring_survivor ring = survivor_if (row_gate ring) (survivor_of (ring_values ring))

-- the same as a law: it sends NR, and no other that does has a higher ID; none means that none does
pub record Survives (ring : List Seat) (k : ℕ) : Type 0 where
  pub within : k < length ring
  pub sends : sends_nr (seat ring k).values ≡ true
  pub highest : (j : ℕ) → j < length ring → sends_nr (seat ring j).values ≡ true → id_number (seat ring j).values.settings.id ≤ id_number (seat ring k).values.settings.id

abbrev pub SurvivorLaw : List Seat → Answer (Option ℕ) → Type 0
SurvivorLaw ring (gave (Some k)) = Survives ring k
SurvivorLaw ring (gave None) = (j : ℕ) → j < length ring → sends_nr (seat ring j).values ≡ false
SurvivorLaw ring (refused r) = Unit {0}
