-- The refusals of a node. Assumes nothing.
use Rattle.std.specs.Prelude.{ℕ, Ok, Err, Option, Result}
use Rattle.frame.specs.Faults.{refusal}
use Rattle.frame.specs.Refusals.{Refusal, Answer, gave, refused, by_node, at_port, nowhere}
use Rattle.node.specs.declared.faults.NodeFault.{NodeFault}
use Rattle.node.specs.declared.faults.NodeFault.TheVariants.{Frame, NoSuchPort, OutOfStep, NothingToClear, NotNow, NoFrameDue, Settings}
use Rattle.node.specs.Ports.{port_number}

-- a refusal at the port that the call names, if it names one
abbrev pub with_port : Option ℕ → Refusal → Refusal
with_port p r = record r { port = p }

-- each refusal with number, layer and place: the frame's own, 8 and 11 at the call's port, 9 at the first port that differs,
-- 10, 12 and 13 nowhere
abbrev pub node_refusal : Option ℕ → NodeFault → Refusal
node_refusal called (Frame e) = with_port called (refusal e)
node_refusal called (NoSuchPort p) = at_port by_node 8 p
node_refusal called (OutOfStep p) = at_port by_node 9 (port_number p)
node_refusal called NothingToClear = nowhere by_node 10
node_refusal called (NotNow p) = at_port by_node 11 p
node_refusal called NoFrameDue = nowhere by_node 12
node_refusal called Settings = nowhere by_node 13

-- what a call answers, given the port that it names
abbrev pub told_at : {X : Type 0} → Option ℕ → Result X NodeFault → Answer X
told_at called (Ok x) = gave x
told_at called (Err e) = refused (node_refusal called e)
