-- The refusals of a ring. Assumes nothing.
use Rattle.std.specs.Prelude.{ℕ, Some, None, Ok, Err, Option, Result}
use Rattle.frame.specs.Refusals.{Refusal, Answer, gave, refused, by_ring, nowhere}
use Rattle.node.specs.Faults.{node_refusal, with_port}
use Rattle.ring.specs.declared.faults.RingFault.{RingFault}
use Rattle.ring.specs.declared.faults.RingFault.TheVariants.{Count, Unlawful, NoStation, Unnamed, NotOwner, Node}
use Rattle.ring.specs.declared.faults.RingRefusal.{RingRefusal}

-- each cause with number, layer and place, given the port that the call names: 17 and 18 at that port, a node's as it stands
abbrev pub cause_at : Option ℕ → RingFault → Refusal
cause_at called Count = nowhere by_ring 14
cause_at called Unlawful = nowhere by_ring 15
cause_at called NoStation = nowhere by_ring 16
cause_at called Unnamed = with_port called (nowhere by_ring 17)
cause_at called NotOwner = with_port called (nowhere by_ring 18)
cause_at called (Node e) = node_refusal called e

abbrev pub with_station : ℕ → Refusal → Refusal
with_station i r = record { number = r.number; layer = r.layer; station = Some i; port = r.port; octet = r.octet }

-- what a refusal tells: number, layer and octet of its cause, and the places beside it
abbrev pub ring_refusal : RingRefusal → Refusal
ring_refusal r = record {
  number = (cause_at None r.cause).number;
  layer = (cause_at None r.cause).layer;
  station = r.station;
  port = r.port;
  octet = (cause_at None r.cause).octet;
}

-- a cause that names no place, as `?` hands it out
abbrev pub unplaced : RingFault → RingRefusal
unplaced e = record { station = None; port = None; cause = e }

abbrev pub told_ring : {X : Type 0} → Result X RingRefusal → Answer X
told_ring (Ok x) = gave x
told_ring (Err e) = refused (ring_refusal e)

abbrev pub told_cause : {X : Type 0} → Option ℕ → Result X RingFault → Answer X
told_cause called (Ok x) = gave x
told_cause called (Err e) = refused (cause_at called e)

-- the station beside a refusal
abbrev pub placed_at : {X : Type 0} → ℕ → Answer X → Answer X
placed_at i (gave x) = gave x
placed_at i (refused r) = refused (with_station i r)
