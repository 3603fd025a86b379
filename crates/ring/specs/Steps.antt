-- What a call makes of the station that it works on, before the row is written. Assumes nothing.
use Rattle.std.specs.Prelude.{◌≡◌, ℕ, ◌<◌, List, length, None, Option, Result, slice_index_or}
use Rattle.std.specs.Borrow.{MutBor}
use Rattle.std.specs.Fn.{Once}
use Rattle.fabric.specs.Marks.{Marks}
use Rattle.frame.specs.Refusals.{Answer}
use Rattle.node.specs.declared.faults.NodeFault.{NodeFault}
use Rattle.node.specs.Calls.{Step}
use Rattle.node.specs.Faults.{told_at}
use Rattle.ring.specs.declared.station.Live.{Live}
use Rattle.ring.specs.declared.station.Station.{Station}
use Rattle.ring.specs.Calls.{Ask, gate, step_of}
use Rattle.ring.specs.Row.{Seat, view, seat}

-- as it is seen, and as it is written into the row
abbrev pub live_seat : {F : Type 0} → (F → Marks) → Live F → Seat
live_seat marks x = record { values = x.node.values; marks = marks x.fabric }

abbrev pub written : {F : Type 0} → Live F → Station F
written x = record { values = x.node.values; fabric = x.fabric }

-- read from station i of a row where the call may go on
pub record Opened {F : Type 0} (marks : F → Marks) (row : List (Station F)) (i : ℕ) (x : Live F) : Type 0 where
  pub passes : gate (view marks row) i ≡ None
  pub within : i < length row
  pub values : (seat (view marks row) i).values ≡ x.node.values
  pub own : (d : Station F) → (slice_index_or row i d).fabric ≡ x.fabric

-- what answered r took x to x' as the step says, and changed nothing that the fabric keeps
pub record Stepped {F : Type 0} (see : F → Marks) (keep : F → List (List ℕ)) (s : Step) (r : Answer (Unit {0})) (x x' : Live F) : Type 0 where
  pub answer : r ≡ s.answer
  pub values : x'.node.values ≡ s.values
  pub marks : see x'.fabric ≡ s.marks
  pub kept : keep x'.fabric ≡ keep x.fabric

-- each call of this closure does so, as the rules say of what is asked
abbrev pub StepsAs : {F S : Type 0} → (F → Marks) → (F → List (List ℕ))
    → Once S (MutBor (Live F) × Unit {0}) (Result (Unit {0}) NodeFault × (MutBor (Live F) × Unit {0})) → S → List Seat → Option ℕ → Ask → Type 0
StepsAs {F} see keep g step ring called a =
    (p q : MutBor (Live F)) (r : Result (Unit {0}) NodeFault) → g.post step (p, tt) (r, (q, tt))
    → Stepped see keep (step_of ring (live_seat see p.now) a) (told_at called r) p.now q.now
