-- What a call gives, once its port is known and its own rule is asked. Assumes nothing.
use Rattle.std.proofs.Common.{◌≡◌, ℕ, Bool, true, false, cond, List, Ok, Err, Some, None, Option, Result, IfOk, refl, ap, arith, subst, ◌∙◌}
use Rattle.fabric.specs.Marks.{Marks}
use Rattle.node.specs.declared.faults.NodeFault.{NodeFault}
use Rattle.node.specs.declared.types.NodeValues.{NodeValues}
use Rattle.node.specs.declared.types.Outcome.{Outcome}
use Rattle.node.specs.declared.types.Port.{Port}
use Rattle.node.specs.Calls.{Step, Stepped, port_of, in_step, and_in_step, admitted, step_at, step_in, given_step, taken, turned_away}
use Rattle.node.specs.Faults.{node_refusal}
use Rattle.node.specs.Ports.{port_number}

known : (v : NodeValues) (m : Marks) (p : ℕ) (q : Port) (r : Result Outcome NodeFault) (next : Port → Step)
    → ((u : Unit {0}) → given_step v m (Some p) (Ok u) r ≡ next q)
    → (x : Result Port NodeFault) → Ok q ≡ x → (s : Result (Unit {0}) NodeFault)
    → given_step v m (Some p) s r ≡ step_at v m p (and_in_step x s) next
known v m p q r next h (Ok y) e (Ok u) = h u ∙ ap next (cc)
known v m p q r next h (Ok y) e (Err z) = refl
known v m p q r next h (Err y) e s = cc

module _ {F : Type 0} {marked : F → Marks} {keeps : F → List (List ℕ)} {old new : F} {told : Result (Unit {0}) NodeFault} {after : NodeValues}
    (v : NodeValues) (m : Marks) (r : Result Outcome NodeFault) where
  -- a call at a port that there is
  pub at_port : (p : ℕ) (q : Port) (next : Port → Step)
      → Ok q ≡ port_of p → ((u : Unit {0}) → given_step v m (Some p) (Ok u) r ≡ next q)
      → Stepped marked keeps (Some p) (given_step v m (Some p) (in_step v.blocked m.blocked) r) old new told after
      → Stepped marked keeps (Some p) (step_at v m p (admitted v m p) next) old new told after
  at_port p q next e h s =
      subst (λ (t : Step). Stepped marked keeps (Some p) t old new told after)
      (known v m p q r next h (port_of p) e (in_step v.blocked m.blocked)) s

  -- a call that names no port
  pub no_port : (next : Step) → ((u : Unit {0}) → given_step v m None (Ok u) r ≡ next)
      → Stepped marked keeps None (given_step v m None (in_step v.blocked m.blocked) r) old new told after
      → Stepped marked keeps None (step_in v m (in_step v.blocked m.blocked) next) old new told after
  no_port next h s =
      subst (λ (t : Step). Stepped marked keeps None t old new told after) (in_any (in_step v.blocked m.blocked)) s
    where
      in_any : (x : Result (Unit {0}) NodeFault) → given_step v m None x r ≡ step_in v m x next
      in_any (Ok u) = h u
      in_any (Err z) = refl

-- calls without a rule of their own
module _ {F : Type 0} {marked : F → Marks} {keeps : F → List (List ℕ)} {old new : F} {told : Result (Unit {0}) NodeFault} {after : NodeValues}
    (v : NodeValues) (m : Marks) where
  pub plain_at : (f : Port → Outcome) (p : ℕ) (q : Port) (o : Outcome) → Ok q ≡ port_of p → o ≡ f q
      → Stepped marked keeps (Some p) (given_step v m (Some p) (in_step v.blocked m.blocked) (Ok o)) old new told after
      → Stepped marked keeps (Some p) (step_at v m p (admitted v m p) (λ x. taken m (f x))) old new told after
  plain_at f p q o e h s = at_port v m (Ok o) p q (λ x. taken m (f x)) e (λ _. ap (taken m) h) s

-- the number that names a port is the port's
pub number_of : (p : ℕ) (q : Port) → Ok q ≡ port_of p → port_number q ≡ p
number_of p q e = grind arith

-- a call with a rule of its own
pub by_rule : (v : NodeValues) (m : Marks) (p : Option ℕ) (t : Bool) (o : Outcome) (e : NodeFault) (u : Unit {0})
    → given_step v m p (Ok u) (cond t (Ok o) (Err e)) ≡ cond t (taken m o) (turned_away v m (node_refusal p e))
by_rule v m p true o e u = refl
by_rule v m p false o e u = refl

pub if_taken : {X Y : Type 0} (P : X → Type 0) (t : Bool) (o : X) (e : Y) → (t ≡ true → P o) → IfOk (cond t (Ok o) (Err e)) P
if_taken P true o e h = h refl
if_taken P false o e h = tt
