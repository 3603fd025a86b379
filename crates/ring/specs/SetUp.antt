-- Setting a row up. Assumes nothing.
use Rattle.std.specs.Prelude.{◌≡◌, ℕ, ◌<◌, Bool, true, false, cond, not, ◌&&◌, List, length, Some, None, Option, ◌==◌}
use Rattle.fabric.specs.Marks.{Marks}
use Rattle.frame.specs.Highest.{first_with}
use Rattle.frame.specs.Refusals.{Refusal, Answer, gave, refused}
use Rattle.node.specs.declared.faults.NodeFault.TheVariants.{Settings as OutOfRange}
use Rattle.node.specs.declared.types.Settings.{Settings}
use Rattle.node.specs.Calls.{set_up_marks}
use Rattle.node.specs.Ports.{none as no_port}
use Rattle.node.specs.Rules.{settings_ok}
use Rattle.node.specs.Settling.{started}
use Rattle.ring.specs.declared.faults.RingFault.TheVariants.{Count, Unlawful, Node}
use Rattle.ring.specs.declared.station.Station.{Station}
use Rattle.ring.specs.Calls.{Keeps, is_gave}
use Rattle.ring.specs.Faults.{cause_at, with_station}
use Rattle.ring.specs.Row.{Seat, view, seat, setting, count_fits, lawful}

-- a station that is set up: Start, with no failure; its fabric's blocked marks are driven, with no flush
abbrev pub fresh : Seat → Settings → Seat
fresh s g = record { values = started g no_port; marks = set_up_marks g s.marks }

-- 13 at the first station whose settings are out of range, else 15 where they are not lawful together
abbrev pub settings_refusal : Option ℕ → Bool → Option Refusal
settings_refusal (Some k) together = Some (with_station k (cause_at None (Node OutOfRange)))
settings_refusal None true = None
settings_refusal None false = Some (cause_at None Unlawful)

-- 14, 13, 15, of the row's length and the settings
abbrev pub set_up_refusal : ℕ → List Settings → Option Refusal
set_up_refusal n ss =
    cond (count_fits n && length ss == n)
    (settings_refusal (first_with (λ g. not (settings_ok g)) ss) (lawful ss))
    (Some (cause_at None Count))

abbrev pub unless_refused : Option Refusal → Answer (Unit {0})
unless_refused None = gave tt
unless_refused (Some r) = refused r

-- a set-up of this row with these settings answers r and leaves row'
pub record SetsUp {F : Type 0} (marks : F → Marks) (kept : F → List (List ℕ)) (ss : List Settings) (row : List (Station F)) (r : Answer (Unit {0})) (row' : List (Station F)) : Type 0 where
  pub answer : r ≡ unless_refused (set_up_refusal (length row) ss)
  pub count : length row' ≡ length row
  pub seen : is_gave r ≡ true → (k : ℕ) → k < length row → seat (view marks row') k ≡ fresh (seat (view marks row) k) (setting ss k)
  pub refused : is_gave r ≡ false → row' ≡ row
  pub host : Keeps kept row row'
