-- What each call of a ring answers, and what it makes of the row. Assumes nothing.
use Rattle.std.specs.Prelude.{◌≡◌, ℕ, suc, Bool, true, false, cond, not, ◌&&◌, List, length, Some, None, Option, ◌==◌, ◌≢◌, nat_lt, slice_index_or, slice_set}
use Rattle.fabric.specs.Marks.{Marks}
use Rattle.frame.specs.Ids.{id_number}
use Rattle.frame.specs.Refusals.{Answer, gave, refused}
use Rattle.frame.specs.declared.types.Body.{Body}
use Rattle.frame.specs.declared.types.Body.TheVariants.{Event, Signal}
use Rattle.frame.specs.declared.types.Message.{Message}
use Rattle.frame.specs.declared.types.NodeId.{NodeId}
use Rattle.node.specs.declared.types.Status.{Status}
use Rattle.node.specs.Calls.{Step, turned_away, force_step, manual_step, fail_step, repair_step, clear_step, tick_step, restart_step, message_step, question, frame_answer, frame_values, frame_buffer, status_of}
use Rattle.node.specs.Names.{is_owner}
use Rattle.node.specs.Receiving.{is_rpl_blocked}
use Rattle.ring.specs.declared.faults.RingFault.{RingFault}
use Rattle.ring.specs.declared.faults.RingFault.TheVariants.{Count, Unlawful, NoStation, Unnamed, NotOwner}
use Rattle.ring.specs.declared.station.Station.{Station}
use Rattle.ring.specs.Faults.{cause_at, placed_at}
use Rattle.ring.specs.Row.{Seat, view, seat, all_below, count_fits, lawful_row}

-- what a station can be asked: at a port, with a frame at a port, with a buffer, or nothing more
pub data Ask : Type 0 where
  force switch fail repair : ℕ → Ask
  clear tick restart status : Ask
  deliver : ℕ → List ℕ → Ask
  frame : List ℕ → Ask

-- a call goes to a station
pub record Call : Type 0 where
  pub station : ℕ
  pub asks : Ask

-- 14, 15
abbrev pub row_gate : List Seat → Option RingFault
row_gate ring = cond (count_fits (length ring)) (cond (lawful_row ring) None (Some Unlawful)) (Some Count)

-- 16, after them
abbrev pub then_station : Option RingFault → Bool → Option RingFault
then_station None there = cond there None (Some NoStation)
then_station (Some e) there = Some e

-- 14, 15, 16
abbrev pub gate : List Seat → ℕ → Option RingFault
gate ring i = then_station (row_gate ring) (nat_lt i (length ring))

-- 17: no station has the ID that the message names
abbrev pub names_nobody : List Seat → NodeId → Bool
names_nobody ring n = all_below (λ k. not (id_number (seat ring k).values.settings.id == id_number n)) (length ring)

-- 18: NR,RB that names another than the owner
abbrev pub is_rb : Body → Bool
is_rb Event = false
is_rb (Signal r dnf bpr) = is_rpl_blocked r

abbrev pub is_owners : List Seat → NodeId → ℕ → Bool
is_owners ring n k = id_number (seat ring k).values.settings.id == id_number n && is_owner (seat ring k).values.settings.role

abbrev pub usurps : List Seat → Message → Bool
usurps ring q = is_rb q.body && all_below (λ k. not (is_owners ring q.node k)) (length ring)

-- a message that was read at a port: 17, 18, then the node
abbrev pub judged : List Seat → Seat → ℕ → Answer Message → Step
judged ring s p (refused r) = turned_away s.values s.marks r
judged ring s p (gave q) =
    cond (names_nobody ring q.node) (turned_away s.values s.marks (cause_at (Some p) Unnamed))
    (cond (usurps ring q) (turned_away s.values s.marks (cause_at (Some p) NotOwner)) (message_step s.values s.marks p q))

-- what a station does with what it is asked
abbrev pub step_of : List Seat → Seat → Ask → Step
step_of ring s (force p) = force_step s.values s.marks p
step_of ring s (switch p) = manual_step s.values s.marks p
step_of ring s (fail p) = fail_step s.values s.marks p
step_of ring s (repair p) = repair_step s.values s.marks p
step_of ring s clear = clear_step s.values s.marks
step_of ring s tick = tick_step s.values s.marks
step_of ring s restart = restart_step s.values s.marks
step_of ring s status = record { answer = gave tt; values = s.values; marks = s.marks }
step_of ring s (deliver p f) = judged ring s p (question s.values s.marks p f)
step_of ring s (frame b) = record { answer = frame_answer s.values b; values = frame_values s.values b; marks = s.marks }

-- a call that passes the gate, and one that does not
abbrev pub answered : Option RingFault → Answer (Unit {0}) → Answer (Unit {0})
answered None a = a
answered (Some e) a = refused (cause_at None e)

abbrev pub moved_if : Option RingFault → List Seat → List Seat → List Seat
moved_if None new old = new
moved_if (Some e) new old = old

abbrev pub step_at : Call → List Seat → Step
step_at c ring = step_of ring (seat ring c.station) c.asks

-- what the call answers, with its station beside a refusal of the station
abbrev pub ring_answer : Call → List Seat → Answer (Unit {0})
ring_answer c ring = answered (gate ring c.station) (placed_at c.station (step_at c ring).answer)

-- the station after the call, as the rules say, and the row: every other as it was
abbrev pub seat_after : Call → List Seat → Seat
seat_after c ring = record { values = (step_at c ring).values; marks = (step_at c ring).marks }

abbrev pub after : Call → List Seat → List Seat
after c ring = moved_if (gate ring c.station) (slice_set ring c.station (seat_after c ring)) ring

abbrev pub is_gave : {X : Type 0} → Answer X → Bool
is_gave (gave x) = true
is_gave (refused r) = false

-- A call with this row is taken or turned away, and leaves row': the station that it goes to as the rules say, every other
-- untouched, and all untouched where it is turned away.
pub record RingStep {F : Type 0} (marks : F → Marks) (c : Call) (row : List (Station F)) (taken? : Bool) (row' : List (Station F)) : Type 0 where
  pub taken : taken? ≡ is_gave (ring_answer c (view marks row))
  pub seen : view marks row' ≡ after c (view marks row)
  pub others : (k : ℕ) (d : Station F) → (k ≢ c.station) → slice_index_or row' k d ≡ slice_index_or row k d
  pub refused : taken? ≡ false → row' ≡ row

-- what a public call promises: its answer, and that step
pub record Does {F : Type 0} (marks : F → Marks) (c : Call) (row : List (Station F)) (r : Answer (Unit {0})) (row' : List (Station F)) : Type 0 where
  pub answer : r ≡ ring_answer c (view marks row)
  pub step : RingStep marks c row (is_gave r) row'

-- what no call changes at any station: what its fabric keeps for its host
abbrev pub Keeps : {F : Type 0} → (F → List (List ℕ)) → List (Station F) → List (Station F) → Type 0
Keeps {F} kept row row' = (k : ℕ) (d : Station F) → kept (slice_index_or row' k d).fabric ≡ kept (slice_index_or row k d).fabric

abbrev pub call : ℕ → Ask → Call
call i a = record { station = i; asks = a }

-- what every call at a station promises: that it does what the rules say, and changes nothing that a fabric keeps
pub record Done {F : Type 0} (marks : F → Marks) (kept : F → List (List ℕ)) (c : Call) (row : List (Station F)) (r : Answer (Unit {0})) (row' : List (Station F)) : Type 0 where
  pub does : Does marks c row r row'
  pub host : Keeps kept row row'

-- what a call answers, but for the value
abbrev pub unit_of : {X : Type 0} → Answer X → Answer (Unit {0})
unit_of (gave x) = gave tt
unit_of (refused r) = refused r

-- the buffer of a frame request
abbrev pub buffer_if : Option RingFault → List ℕ → List ℕ → List ℕ
buffer_if None new old = new
buffer_if (Some e) new old = old

abbrev pub ring_buffer : List Seat → ℕ → List ℕ → List ℕ
ring_buffer ring i b = buffer_if (gate ring i) (frame_buffer (seat ring i).values b) b

-- the status question
abbrev pub status_if : Option RingFault → Status → Answer Status
status_if None s = gave s
status_if (Some e) s = refused (cause_at None e)

abbrev pub ring_status : List Seat → ℕ → Answer Status
ring_status ring i = status_if (gate ring i) (status_of (seat ring i).values)

-- ---- ticks one after the other

-- n ticks at a station, each as a tick does; the answer is the last one's, and of none nothing is refused
pub data Ticks {F : Type 0} (marks : F → Marks) (i : ℕ) : ℕ → List (Station F) → Answer (Unit {0}) → List (Station F) → Type 0 where
  none : {row : List (Station F)} → Ticks marks i 0 row (gave tt) row
  last : {row row' : List (Station F)} {r : Answer (Unit {0})} → Does marks (call i tick) row r row' → Ticks marks i 1 row r row'
  more : {n : ℕ} {row mid row' : List (Station F)} {r s : Answer (Unit {0})}
      → Does marks (call i tick) row s mid → Ticks marks i (suc n) mid r row' → Ticks marks i (suc (suc n)) row r row'
