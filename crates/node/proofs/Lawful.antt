-- The rules together, and what settling keeps of them. Assumes nothing.
use Rattle.std.proofs.Common.{arith}
use Rattle.std.proofs.lemmas.Bool.Decides.{nat_tests}
use Rattle.std.proofs.Common.{◌≡◌, ℕ, Bool, true, cond, not, eqb, Option}
use Rattle.std.proofs.lemmas.Bool.{and_parts, and_from, eqb-true}
use Rattle.frame.specs.declared.types.Request.{Request}
use Rattle.node.specs.declared.node.Node.{Node}
use Rattle.node.specs.declared.types.Due.{Due}
use Rattle.node.specs.declared.types.NodeValues.{NodeValues}
use Rattle.node.specs.Names.{is_sending, sent_number}
use Rattle.node.specs.Rules.{settings_ok, failed_ok, forced_ok, sending_ok, burst_ok, due_ok, timers_ok, idle_ok, makes_node}
use Rattle.node.specs.Settling.{settled, same_sent}

abbrev pub Failed : NodeValues → Type 0
Failed v = failed_ok v.state v.blocked v.failed ≡ true

abbrev pub Forcing : NodeValues → Type 0
Forcing v = forced_ok v.state v.blocked v.commands ≡ true

abbrev pub Speaks : NodeValues → Type 0
Speaks v = sending_ok v.settings.role v.state v.blocked v.failed v.commands v.sending v.mismatch ≡ true

abbrev pub Bursts : NodeValues → Type 0
Bursts v = burst_ok v.sending v.due ≡ true

abbrev pub Runs : NodeValues → Type 0
Runs v = timers_ok v.settings.role v.settings.revertive v.state v.timers ≡ true

abbrev pub Rests : NodeValues → Type 0
Rests v = idle_ok v.settings.role v.settings.rpl v.state v.blocked v.mismatch ≡ true

-- the rules but for the burst's, which settling sees to
pub record Sound (v : NodeValues) : Type 0 where
  pub settings : settings_ok v.settings ≡ true
  pub failed : Failed v
  pub forced : Forcing v
  pub sending : Speaks v
  pub timers : Runs v
  pub idle : Rests v

pub of_node : (n : Node) → Sound n.values
of_node n = record {
  settings = n.settings;
  failed = n.failed;
  forced = n.forced;
  sending = n.sending;
  timers = n.timers;
  idle = n.idle;
}

pub all_rules : (v : NodeValues) → Sound v → Bursts v → makes_node v ≡ true
all_rules v s b =
    and_from _ _ s.settings (and_from _ _ s.failed (and_from _ _ s.forced
    (and_from _ _ s.sending (and_from _ _ b (and_from _ _ s.timers s.idle)))))

pub record Parts (v : NodeValues) : Type 0 where
  pub sound : Sound v
  pub burst : Bursts v

pub parts : (v : NodeValues) → makes_node v ≡ true → Parts v
parts v e =
    let a = and_parts (settings_ok v.settings) _ e in
    let b = and_parts (failed_ok v.state v.blocked v.failed) _ a.1 in
    let c = and_parts (forced_ok v.state v.blocked v.commands) _ b.1 in
    let d = and_parts (sending_ok v.settings.role v.state v.blocked v.failed v.commands v.sending v.mismatch) _ c.1 in
    let f = and_parts (burst_ok v.sending v.due) _ d.1 in
    let g = and_parts (timers_ok v.settings.role v.settings.revertive v.state v.timers) _ f.1 in
    record {
      sound = record { settings = a.0; failed = b.0; forced = c.0; sending = d.0; timers = g.0; idle = g.1 };
      burst = f.0;
    }

sending_number : (r : Option Request) → is_sending r ≡ not (eqb (sent_number r) 0)
sending_number r = grind (arith, nat_tests)

due_go : (s x y : Bool) (b w : ℕ) → (s ≡ true → x ≡ y) → due_ok x b w ≡ true → due_ok y (cond s b (cond y 3 0)) (cond s w 0) ≡ true
due_go s x y b w e d = grind (arith, nat_tests)

alike_sending : (v w : NodeValues) → same_sent v w ≡ true → is_sending v.sending.request ≡ is_sending w.sending.request
alike_sending v w e =
    let f = (and_parts (eqb (sent_number v.sending.request) (sent_number w.sending.request)) _ e).0 in
    let n = eqb-true (sent_number v.sending.request) (sent_number w.sending.request) f in
    let x = sending_number v.sending.request in
    let y = sending_number w.sending.request in
    cc

cond_parts : {A B : Type 0} (s : Bool) (f : A → B) (x y : A) → f (cond s x y) ≡ cond s (f x) (f y)
cond_parts s f x y = grind (arith, nat_tests)

settled_burst : (v w : NodeValues) → Bursts v → Bursts (settled v w)
settled_burst v w c =
    simp (cond_parts (same_sent v w) (λ (d : Due). d.burst), cond_parts (same_sent v w) (λ (d : Due). d.wait))
    (due_go (same_sent v w) (is_sending v.sending.request) (is_sending w.sending.request) v.due.burst v.due.wait (alike_sending v w) c)

settled_sound : (v w : NodeValues) → Sound w → Sound (settled v w)
settled_sound v w s = grind (arith, nat_tests)

-- what a row gives, once settled, makes a node
pub owed : (v w : NodeValues) → Bursts v → Sound w → makes_node (settled v w) ≡ true
owed v w b s = all_rules (settled v w) (settled_sound v w s) (settled_burst v w b)
