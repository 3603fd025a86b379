-- Bursts, ticks, Start and frames keep the rules. Assumes nothing.
use Rattle.std.proofs.Common.{◌≡◌, ℕ, ◌≤◌, true, false, ltb, leb, List, ◌++◌, length, drop, Some, ◌∙◌, arith}
use Rattle.std.proofs.lemmas.Bool.{and_from, le-ltb, le-leb, cond-true, cond-false}
use Rattle.frame.specs.Refusals.{gave}
use Rattle.frame.specs.Writing.{in_range, writing, written, frame_octets}
use Rattle.frame.specs.declared.types.Message.{Message}
use Rattle.std.proofs.lemmas.Bool.Decides.{nat_tests}
use Rattle.node.specs.declared.types.NodeValues.{NodeValues}
use Rattle.node.specs.declared.types.Settings.{Settings}
use Rattle.node.specs.Calls.{due_message}
use Rattle.node.specs.Ports.{none}
use Rattle.node.specs.Rules.{makes_node, settings_ok}
use Rattle.node.specs.Settling.{lowered, started, restarted, is_due, frame_taken}
use Rattle.node.proofs.Lawful.{Sound, Bursts, all_rules}

pub lowered_burst : (v : NodeValues) → Bursts v → Bursts (lowered v)
lowered_burst v b = grind (arith, nat_tests)

pub started_keeps : (g : Settings) → settings_ok g ≡ true → makes_node (started g none) ≡ true
started_keeps g e = grind (arith, nat_tests)

pub restart_keeps : (v : NodeValues) → settings_ok v.settings ≡ true → makes_node (restarted v).values ≡ true
restart_keeps v e = grind (arith, nat_tests)

pub frame_burst : (v : NodeValues) → is_due v ≡ true → Bursts v → Bursts (frame_taken v)
frame_burst v d b = grind (arith, nat_tests)

pub frame_keeps : (v : NodeValues) → is_due v ≡ true → Sound v → Bursts v → makes_node (frame_taken v) ≡ true
frame_keeps v d s b =
    all_rules (frame_taken v) (grind (arith, nat_tests)) (frame_burst v d b)

-- ---- the frame request

pub due_some : (v : NodeValues) (m : Message) → Some m ≡ due_message v → (is_due v ≡ true) × (m.node ≡ v.settings.id)
due_some v m e = grind arith

in_settings : (v : NodeValues) (m : Message) → settings_ok v.settings ≡ true → m.node ≡ v.settings.id
    → in_range m.node v.settings.channel v.settings.mel ≡ true
unfolding settings_ok
in_settings v m s e = grind (arith, nat_tests)

-- a node's own message is written wherever the buffer is long enough
pub writes : (v : NodeValues) (m : Message) (b : List ℕ) → settings_ok v.settings ≡ true → m.node ≡ v.settings.id → 55 ≤ length b
    → (writing m v.settings.channel v.settings.mel b ≡ gave tt)
    × (written m v.settings.channel v.settings.mel b ≡ frame_octets m v.settings.channel v.settings.mel ++ drop 55 b)
writes v m b s e l =
    let r = in_settings v m s e in
    let short : ltb (length b) 55 ≡ false = le-ltb _ _ l in
    let long : leb 55 (length b) ≡ true = le-leb _ _ l in
    (cond-true _ _ _ r ∙ cond-false _ _ _ short, cond-true _ _ _ (and_from _ _ r long))
