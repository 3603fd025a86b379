-- The refusals of a fabric. Assumes nothing.
use Rattle.frame.specs.Refusals.{Refusal, at_port, by_fabric}
use Rattle.fabric.specs.declared.types.FabricFault.{FabricFault}
use Rattle.fabric.specs.declared.types.FabricFault.TheVariants.{NoSuchPort, OnBlocked, TableFull}

-- each refusal with its number, its layer and the port that the call named
-- contracts fix the case itself (as Marks and Table say it), and here each case gets its number
abbrev pub refusal : FabricFault → Refusal
refusal (NoSuchPort p) = at_port by_fabric 8 p
refusal (OnBlocked p) = at_port by_fabric 19 p
refusal (TableFull p) = at_port by_fabric 20 p
