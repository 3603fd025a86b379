-- An idle ring loses its last block to a message that nobody sent. Assumes nothing.
use Rattle.std.proofs.Common.{◌≡◌, ℕ, ◌<◌, Bool, true, false, not, eqb, List, length, set, None, Ok, sym, refl, ap, ◌∙◌, subst, ⊎_elim, arith, length-set, get_or-set_other, get_or-set_same}
use Rattle.std.proofs.lemmas.Bool.{cases_eq, and_parts, lt-ltb, eq-eqb, ne_eqb}
use Rattle.fabric.specs.declared.types.Ports.{Ports}
use Rattle.frame.specs.Ids.{id_number}
use Rattle.frame.specs.Refusals.{gave}
use Rattle.frame.specs.declared.types.Body.TheVariants.{Signal}
use Rattle.frame.specs.declared.types.Message.{Message}
use Rattle.frame.specs.declared.types.Request.TheVariants.{SignalFail}
use Rattle.node.specs.declared.types.NodeValues.{NodeValues}
use Rattle.node.specs.declared.types.Port.{Port}
use Rattle.node.specs.declared.types.Role.{Role}
use Rattle.node.specs.declared.types.Role.TheVariants.{Other, Owner, Neighbour}
use Rattle.node.specs.declared.types.State.TheVariants.{Idle}
use Rattle.node.specs.Calls as node
use Rattle.node.specs.Names.{is_owner}
use Rattle.node.specs.Ports.{at, none, only, port_number}
use Rattle.node.specs.Receiving.{is_own}
use Rattle.node.specs.Rules.{makes_node, idle_ports}
use Rattle.ring.specs.Calls.{call, deliver, gate, step_at, names_nobody, seat_after, after, ring_answer}
use Rattle.ring.specs.Exception.{IdleRing, Deceives, LosesLast, ExceptionIsReal, sf_of}
use Rattle.ring.specs.NodeLaws.{NodeLaws}
use Rattle.ring.specs.Row.{Seat, seat, blank, lawful, lawful_row, all_nodes, ring_settings}
use Rattle.ring.specs.Runs.{SomeBlocked, sends_body}
use Rattle.ring.proofs.Below.{below_stops}
use Rattle.ring.proofs.Gates.{open_counts, lawful_node}
use Rattle.ring.proofs.Owners.{ids_apart, only_owner}

-- a port of a station in step is admitted
admits : (q : Port) (b c : Ports) → c ≡ b → node.and_in_step (node.port_of (port_number q)) (node.in_step b c) ≡ Ok q
admits q b c e = grind (e, arith)

-- an idle node sends no SF
unsent : (v : NodeValues) (dnf bpr : Bool) → makes_node v ≡ true → v.state ≡ Idle → sends_body v (Signal SignalFail dnf bpr) ≡ false
unsent v dnf bpr ok idle = grind (ok, idle, arith)

only_at : (b : Ports) (p : Port) → b ≡ only p → at b p ≡ true
only_at b p e = grind (e, arith)

none_at : (b : Ports) (p : Port) → b ≡ none → at b p ≡ true → ⊥
none_at b p e h = grind (e, h, arith)

module _ (laws : NodeLaws) (ring : List Seat) (i : ℕ) (p : Port) (f : List ℕ) (idle : IdleRing ring) (d : Deceives ring i f) where
  lawful_is : lawful_row ring ≡ true
  lawful_is = (open_counts ring idle.lawful).1

  together : lawful (ring_settings ring) ≡ true
  together = (and_parts (all_nodes ring) (lawful (ring_settings ring)) lawful_is).1

  ok : (k : ℕ) → k < length ring → makes_node (seat ring k).values ≡ true
  ok = lawful_node ring lawful_is

  opens : gate ring i ≡ None
  opens = simp (idle.lawful, lt-ltb i (length ring) d.within) refl

  abbrev message : Message
  message = sf_of d.node d.dnf d.bpr

  foreign : is_own (seat ring i).values d.node ≡ false
  foreign = ne_eqb _ _ (λ e. ids_apart ring together d.other i d.there d.within d.apart (d.named ∙ e))

  names : names_nobody ring d.node ≡ false
  names = below_stops (λ k. not (eqb (id_number (seat ring k).values.settings.id) (id_number d.node))) d.other (length ring) d.there (ap not (eq-eqb _ _ d.named))

  -- the message reaches the owner's node
  heard : step_at (call i (deliver (port_number p) f)) ring ≡ node.taken (seat ring i).marks (node.outcome (node.heard p message) (seat ring i).values)
  heard = simp (admits p (seat ring i).values.blocked (seat ring i).marks.blocked (idle.stations i d.within).same, d.reads, names) refl

  abbrev moved : Seat
  moved = seat_after (call i (deliver (port_number p) f)) ring

  row_is : after (call i (deliver (port_number p) f)) ring ≡ set ring i moved
  row_is = simp opens refl

  answer : ring_answer (call i (deliver (port_number p) f)) ring ≡ gave tt
  answer = simp (opens, heard) refl

  ports : (k : ℕ) → k < length ring → (seat ring k).marks.blocked ≡ idle_ports (seat ring k).values.settings.role (seat ring k).values.settings.rpl
  ports k l =
      let s = idle.stations k l in
      s.same ∙ (laws.promise (seat ring k).values (ok k l)).idle s.plain s.state

  before : SomeBlocked ring
  before = (i, (seat ring i).values.settings.rpl, d.within, only_at _ _ (ports i d.within ∙ ap (λ r. idle_ports r (seat ring i).values.settings.rpl) d.owner))

  yields : moved.marks.blocked ≡ none
  yields =
      let s = idle.stations i d.within in
      ap (λ (t : node.Step). t.marks.blocked) heard ∙ laws.yields (seat ring i).values p d.node d.dnf d.bpr (ok i d.within) s.state d.guard foreign

  -- any other station blocks nothing
  other_open : (k : ℕ) → k < length ring → (k ≡ i → ⊥) → (seat ring k).marks.blocked ≡ none
  other_open k l n = ports k l ∙ by_role (seat ring k).values.settings.role refl
    where
      by_role : (r : Role) → (seat ring k).values.settings.role ≡ r → idle_ports r (seat ring k).values.settings.rpl ≡ none
      by_role Other e = refl
      by_role Owner e = absurd (n (only_owner ring together k i l d.within (ap is_owner e) (ap is_owner d.owner)))
      by_role Neighbour e = absurd (idle.alone k l e)

  none_after : SomeBlocked (set ring i moved) → ⊥
  none_after (k, q, l, b) =
      let m : k < length ring = subst (λ n. k < n) (length-set ring i moved) l in
      none_at (seat (set ring i moved) k).marks.blocked q
      (⊎_elim
      (λ (e : k ≡ i). ap (λ j. (seat (set ring i moved) j).marks.blocked) e ∙ ap (λ (s : Seat). s.marks.blocked) (get_or-set_same ring i moved blank d.within) ∙ yields)
      (λ (n : k ≡ i → ⊥). ap (λ (s : Seat). s.marks.blocked) (get_or-set_other ring i k moved blank n) ∙ other_open k m n)
      (cases_eq k i)) b

  loses : LosesLast ring (call i (deliver (port_number p) f))
  loses = record {
    taken = answer;
    before = before;
    none_after = subst (λ r. SomeBlocked r → ⊥) (sym row_is) none_after;
    false_word = (message, d.reads, (d.other, d.there, d.named, unsent (seat ring d.other).values d.dnf d.bpr (ok d.other d.there) (idle.stations d.other d.there).state));
  }

pub exception : NodeLaws → ExceptionIsReal
exception laws = λ ring i p f idle d. loses laws ring i p f idle d
