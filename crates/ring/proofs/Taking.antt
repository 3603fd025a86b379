-- What a call that is taken does to its station, from the laws of a node. Assumes nothing.
use Rattle.std.proofs.Common.{◌≡◌, ℕ, zero, suc, Bool, true, false, cond, not, ◌&&◌, ◌||◌, ltb, List, length, Ok, Err, Result, ◌⊎◌, inl, inr, sym, refl, ap, ◌∙◌, subst}
use Rattle.std.proofs.lemmas.Bool.{cond_both}
use Rattle.fabric.specs.Marks.{Marks}
use Rattle.fabric.specs.declared.types.Ports.{Ports}
use Rattle.frame.specs.Reading.{reading}
use Rattle.frame.specs.Refusals.{Refusal, Answer, gave, refused}
use Rattle.frame.specs.declared.types.Message.{Message}
use Rattle.node.specs.declared.faults.NodeFault.{NodeFault}
use Rattle.node.specs.declared.types.NodeValues.{NodeValues}
use Rattle.node.specs.declared.types.Port.{Port}
use Rattle.node.specs.declared.types.Port.TheVariants.{Zero, One}
use Rattle.node.specs.Calls as node
use Rattle.node.specs.Calls.{Step}
use Rattle.node.specs.Laws.{after, MayBeTaken, is_heard}
use Rattle.node.specs.Ports.{at, none, some, with_mark, port_number}
use Rattle.node.specs.Rules.{makes_node}
use Rattle.node.specs.Settling.{is_due}
use Rattle.ring.specs.Calls.{Ask, force, switch, fail, repair, clear, tick, restart, status, deliver, frame, is_gave, judged, names_nobody, step_of, usurps}
use Rattle.ring.specs.NodeLaws.{NodeLaws}
use Rattle.ring.specs.Row.{Seat}
use Rattle.ring.specs.Runs.{fails, repairs, forces, ends_force}

abbrev pub is_delivery : Ask → Bool
is_delivery (deliver p f) = true
is_delivery _ = false

pub delivery_or : (a : Ask) → ((n : ℕ) × (f : List ℕ) × (a ≡ deliver n f)) ⊎ (is_delivery a ≡ false)
delivery_or (deliver n f) = inl (n, f, refl)
delivery_or (force n) = inr refl
delivery_or (switch n) = inr refl
delivery_or (fail n) = inr refl
delivery_or (repair n) = inr refl
delivery_or clear = inr refl
delivery_or tick = inr refl
delivery_or restart = inr refl
delivery_or status = inr refl
delivery_or (frame b) = inr refl

-- the marks of failures and forced switches, as a call that is taken leaves them
abbrev FailedSo : NodeValues → Ask → NodeValues → Type 0
FailedSo v a w = (p : Port) → at w.failed p ≡ (fails p a || (not (repairs p a) && at v.failed p))

abbrev ForcedSo : NodeValues → Ask → NodeValues → Type 0
ForcedSo v a w = (p : Port) → at w.commands.forced p ≡ (forces p a || (not (ends_force a) && at v.commands.forced p))

-- what is owed of every call that is taken
pub record Takes (v : NodeValues) (m : Marks) (a : Ask) (s : Step) : Type 0 where
  pub rules : makes_node s.values ≡ true
  pub settings : s.values.settings ≡ v.settings
  pub ports : m.blocked ≡ v.blocked → s.marks.blocked ≡ s.values.blocked
  pub failed : FailedSo v a s.values
  pub forced : ForcedSo v a s.values
  pub plain : is_delivery a ≡ false → v.mismatch ≡ false → s.values.mismatch ≡ false
  pub block : is_delivery a ≡ false → some v.blocked ≡ true → some s.values.blocked ≡ true

-- and of a delivery: the message as it was read, which names a station, and as NR,RB the owner
pub record Hears (ring : List Seat) (v : NodeValues) (f : List ℕ) (s : Step) : Type 0 where
  pub message : Message
  pub port : Port
  pub read : reading f v.settings.channel ≡ gave message
  pub names : names_nobody ring message.node ≡ false
  pub rightful : usurps ring message ≡ false
  pub becomes : s.values ≡ after (node.heard port message) v

-- ---- marks at a port

set_at : (f : Ports) (q p : Port) → at (with_mark f q true) p ≡ (fails p (fail (port_number q)) || (not false && at f p))
set_at f Zero Zero = refl
set_at f Zero One = refl
set_at f One Zero = refl
set_at f One One = refl

unset_at : (f : Ports) (q p : Port) → at (with_mark f q false) p ≡ (false || (not (repairs p (repair (port_number q))) && at f p))
unset_at f Zero Zero = refl
unset_at f Zero One = refl
unset_at f One Zero = refl
unset_at f One One = refl

none_at : (p : Port) → at none p ≡ false
none_at Zero = refl
none_at One = refl

-- ---- a call at a port that is taken names port 0 or 1

at_port : (P : Step → Type 0) (v : NodeValues) (m : Marks) (n : ℕ) (next : Port → Step)
    → ((q : Port) → n ≡ port_number q → is_gave (next q).answer ≡ true → P (next q))
    → is_gave (node.step_at v m n (node.admitted v m n) next).answer ≡ true → P (node.step_at v m n (node.admitted v m n) next)
at_port P v m zero next f = in_step (node.in_step v.blocked m.blocked)
  where
    in_step : (r : Result (Unit {0}) NodeFault) → is_gave (node.step_at v m 0 (node.and_in_step (Ok Zero) r) next).answer ≡ true → P (node.step_at v m 0 (node.and_in_step (Ok Zero) r) next)
    in_step (Ok u) h = f Zero refl h
    in_step (Err e) h = absurd cc
at_port P v m (suc zero) next f = in_step (node.in_step v.blocked m.blocked)
  where
    in_step : (r : Result (Unit {0}) NodeFault) → is_gave (node.step_at v m 1 (node.and_in_step (Ok One) r) next).answer ≡ true → P (node.step_at v m 1 (node.and_in_step (Ok One) r) next)
    in_step (Ok u) h = f One refl h
    in_step (Err e) h = absurd cc
at_port P v m (suc (suc n)) next f = λ h. absurd cc

in_step : (P : Step → Type 0) (v : NodeValues) (m : Marks) (r : Result (Unit {0}) NodeFault) (next : Step)
    → (is_gave next.answer ≡ true → P next) → is_gave (node.step_in v m r next).answer ≡ true → P (node.step_in v m r next)
in_step P v m (Ok u) next f = f
in_step P v m (Err e) next f = λ h. absurd cc

module _ (laws : NodeLaws) (v : NodeValues) (ok : makes_node v ≡ true) (m : Marks) where
  -- a call of the node that is no delivery
  calls : (c : node.Call) (a : Ask) → is_heard c ≡ false → MayBeTaken c v → FailedSo v a (after c v) → ForcedSo v a (after c v)
      → (v.mismatch ≡ false → (after c v).mismatch ≡ false) → Takes v m a (node.taken m (node.outcome c v))
  calls c a h t f g x = record {
    rules = laws.rules.calls c v ok t;
    settings = laws.settings c v;
    ports = λ _. refl;
    failed = f;
    forced = g;
    plain = λ _. x;
    block = λ _. laws.block c v h;
  }

  -- what does not restart keeps the mark off
  stays : (c : node.Call) → is_heard c ≡ false → (c ≡ node.restarts → ⊥) → v.mismatch ≡ false → (after c v).mismatch ≡ false
  stays c h n e = laws.mark.others c v h n ∙ e

  kept_marks : (f g : Ports) → f ≡ g → (p : Port) → at f p ≡ (false || (not false && at g p))
  kept_marks f g e p = ap (λ (x : Ports). at x p) e

  takes_force : (q : Port) → Takes v m (force (port_number q)) (node.taken m (node.outcome (node.forced q) v))
  takes_force q =
      calls (node.forced q) (force (port_number q)) refl tt
      (kept_marks _ _ (laws.failed.forces v q))
      (λ p. ap (λ (x : Ports). at x p) (laws.forced.forces v q ok) ∙ set_at v.commands.forced q p)
      (stays (node.forced q) refl (λ e. cc))

  takes_switch : (q : Port) → node.takes_manual v ≡ true → Takes v m (switch (port_number q)) (node.taken m (node.outcome (node.switched q) v))
  takes_switch q t =
      calls (node.switched q) (switch (port_number q)) refl t
      (kept_marks _ _ (laws.failed.switches v q)) (kept_marks _ _ (laws.forced.switches v q ok t))
      (stays (node.switched q) refl (λ e. cc))

  takes_fail : (q : Port) → Takes v m (fail (port_number q)) (node.taken m (node.outcome (node.failed q) v))
  takes_fail q =
      calls (node.failed q) (fail (port_number q)) refl tt
      (λ p. ap (λ (x : Ports). at x p) (laws.failed.fails v q) ∙ set_at v.failed q p)
      (kept_marks _ _ (laws.forced.fails v q ok))
      (stays (node.failed q) refl (λ e. cc))

  takes_repair : (q : Port) → Takes v m (repair (port_number q)) (node.taken m (node.outcome (node.repaired q) v))
  takes_repair q =
      calls (node.repaired q) (repair (port_number q)) refl tt
      (λ p. ap (λ (x : Ports). at x p) (laws.failed.repairs v q) ∙ unset_at v.failed q p)
      (kept_marks _ _ (laws.forced.repairs v q ok))
      (stays (node.repaired q) refl (λ e. cc))

  takes_clear : node.takes_clear v ≡ true → Takes v m clear (node.taken m (node.outcome node.cleared v))
  takes_clear t =
      calls node.cleared clear refl t
      (kept_marks _ _ (laws.failed.clears v)) (λ p. ap (λ (x : Ports). at x p) (laws.forced.clears v ok) ∙ none_at p)
      (stays node.cleared refl (λ e. cc))

  takes_tick : Takes v m tick (node.taken m (node.outcome node.ticked v))
  takes_tick =
      calls node.ticked tick refl tt
      (kept_marks _ _ (laws.failed.ticks v)) (kept_marks _ _ (laws.forced.ticks v ok))
      (stays node.ticked refl (λ e. cc))

  takes_restart : Takes v m restart (node.taken m (node.outcome node.restarts v))
  takes_restart =
      calls node.restarts restart refl tt
      (kept_marks _ _ (laws.failed.restart v)) (λ p. ap (λ (x : Ports). at x p) (laws.forced.restart v) ∙ none_at p)
      (λ _. laws.mark.restart v)

  takes_status : Takes v m status (record { answer = gave tt; values = v; marks = m })
  takes_status = record {
    rules = ok;
    settings = refl;
    ports = λ e. e;
    failed = λ p. refl;
    forced = λ p. refl;
    plain = λ _ e. e;
    block = λ _ e. e;
  }

  abbrev said : Bool → Bool → Refusal → Refusal → Answer (Unit {0})
  said short due x y = cond short (refused x) (cond due (gave tt) (refused y))

  takes_frame : (b : List ℕ) (short due : Bool) (x y : Refusal) → is_due v ≡ due → is_gave (said short due x y) ≡ true
      → Takes v m (frame b) (record { answer = said short due x y; values = cond short v (cond due (after node.takes_frame v) v); marks = m })
  takes_frame b true due x y d h = absurd cc
  takes_frame b false false x y d h = absurd cc
  takes_frame b false true x y d h = record {
    rules = laws.rules.calls node.takes_frame v ok d;
    settings = refl;
    ports = λ e. e;
    failed = λ p. refl;
    forced = λ p. refl;
    plain = λ _ e. e;
    block = λ _ e. e;
  }

  takes_message : (n : ℕ) (f : List ℕ) (q : Port) (x : Message) → Takes v m (deliver n f) (node.taken m (node.outcome (node.heard q x) v))
  takes_message n f q x = record {
    rules = laws.rules.calls (node.heard q x) v ok tt;
    settings = laws.settings (node.heard q x) v;
    ports = λ _. refl;
    failed = kept_marks _ _ (laws.failed.hears v q x);
    forced = kept_marks _ _ (laws.forced.hears v q x ok);
    plain = λ e. absurd cc;
    block = λ e. absurd cc;
  }

  -- what a delivery that is taken shows
  HeardSo : List Seat → ℕ → List ℕ → Step → Type 0
  HeardSo ring n f s = Takes v m (deliver n f) s × Hears ring v f s

  hears_message : (ring : List Seat) (n : ℕ) (f : List ℕ) (x : Message) → reading f v.settings.channel ≡ gave x → names_nobody ring x.node ≡ false → usurps ring x ≡ false
      → is_gave (node.message_step v m n x).answer ≡ true → HeardSo ring n f (node.message_step v m n x)
  unfolding HeardSo
  hears_message ring n f x r a b =
      at_port (λ s. Takes v m (deliver n f) s × Hears ring v f s) v m n _
      (λ q e h. (takes_message n f q x, record { message = x; port = q; read = r; names = a; rightful = b; becomes = refl }))

  -- the question gave what was read
  read_so : (n : ℕ) (r : Result Port NodeFault) (a : Answer Message) (x : Message) → node.asking n r a ≡ gave x → a ≡ gave x
  read_so n (Ok q) (gave y) x e = e
  read_so n (Ok q) (refused y) x e = absurd cc
  read_so n (Err y) a x e = absurd cc

  hears_judged : (ring : List Seat) (n : ℕ) (f : List ℕ) (a : Answer Message) → node.question v m n f ≡ a
      → is_gave (judged ring (record { values = v; marks = m }) n a).answer ≡ true → HeardSo ring n f (judged ring (record { values = v; marks = m }) n a)
  unfolding HeardSo
  hears_judged ring n f (refused r) e = λ h. absurd cc
  hears_judged ring n f (gave x) e =
      let read = read_so n (node.admitted v m n) (reading f v.settings.channel) x e in
      let P : Step → Type 0 = λ s. is_gave s.answer ≡ true → Takes v m (deliver n f) s × Hears ring v f s in
      cond_both (names_nobody ring x.node) _ _ P (λ _ h. absurd cc)
      (λ a. cond_both (usurps ring x) _ _ P (λ _ h. absurd cc) (λ b. hears_message ring n f x read a b))

  pub hears : (ring : List Seat) (n : ℕ) (f : List ℕ) → is_gave (step_of ring (record { values = v; marks = m }) (deliver n f)).answer ≡ true
      → Takes v m (deliver n f) (step_of ring (record { values = v; marks = m }) (deliver n f)) × Hears ring v f (step_of ring (record { values = v; marks = m }) (deliver n f))
  unfolding HeardSo
  hears ring n f = hears_judged ring n f (node.question v m n f) refl

  pub takes : (ring : List Seat) (a : Ask) → is_gave (step_of ring (record { values = v; marks = m }) a).answer ≡ true → Takes v m a (step_of ring (record { values = v; marks = m }) a)
  takes ring (force n) = at_port (λ s. Takes v m (force n) s) v m n _ (λ q e _. subst (λ k. Takes v m (force k) (node.taken m (node.outcome (node.forced q) v))) (sym e) (takes_force q))
  takes ring (switch n) =
      at_port (λ s. Takes v m (switch n) s) v m n _
      (λ q e. cond_both (node.takes_manual v) _ _ (λ s. is_gave s.answer ≡ true → Takes v m (switch n) s)
      (λ t _. subst (λ k. Takes v m (switch k) (node.taken m (node.outcome (node.switched q) v))) (sym e) (takes_switch q t)) (λ _ h. absurd cc))
  takes ring (fail n) = at_port (λ s. Takes v m (fail n) s) v m n _ (λ q e _. subst (λ k. Takes v m (fail k) (node.taken m (node.outcome (node.failed q) v))) (sym e) (takes_fail q))
  takes ring (repair n) = at_port (λ s. Takes v m (repair n) s) v m n _ (λ q e _. subst (λ k. Takes v m (repair k) (node.taken m (node.outcome (node.repaired q) v))) (sym e) (takes_repair q))
  takes ring clear =
      in_step (λ s. Takes v m clear s) v m (node.in_step v.blocked m.blocked) _
      (cond_both (node.takes_clear v) _ _ (λ s. is_gave s.answer ≡ true → Takes v m clear s) (λ t _. takes_clear t) (λ _ h. absurd cc))
  takes ring tick = in_step (λ s. Takes v m tick s) v m (node.in_step v.blocked m.blocked) _ (λ _. takes_tick)
  takes ring restart = λ _. takes_restart
  takes ring status = λ _. takes_status
  takes ring (deliver n f) = λ h. (hears ring n f h).0
  takes ring (frame b) = takes_frame b (ltb (length b) 55) (is_due v) _ _ refl
