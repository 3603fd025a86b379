-- The request table, Table 10-1 of ITU-T G.8032. Assumes nothing.
use Rattle.std.specs.Prelude.{ℕ, zero, suc, Bool, true, false, ◌&&◌, List, [], ◌∷◌, is_some, Some, None, Option, nat_lt}
use Rattle.std.specs.Bool.{then_some}
use Rattle.frame.specs.Highest.{first_highest, option_rank}
use Rattle.frame.specs.declared.types.Request.{Request}
use Rattle.frame.specs.declared.types.Request.TheVariants.{NoRequest, RplBlocked, ManualSwitch, SignalFail, ForcedSwitch}
use Rattle.node.specs.declared.claims.Claim.{Claim}
use Rattle.node.specs.declared.claims.Claim.TheVariants.{Clear, Forced, HeardForced, LocalFail, LocalClearFail, HeardFail, HeardManual, Manual, WtrExpires, WtrRunning, WtbExpires, WtbRunning, HeardRplBlocked, HeardNoRequest}
use Rattle.node.specs.declared.types.NodeValues.{NodeValues}
use Rattle.node.specs.Names.{by_state}
use Rattle.node.specs.Ports.{some}

-- the fourteen requests, the highest first: a higher number stands higher
abbrev pub claim_rank : Claim → ℕ
claim_rank Clear = 14
claim_rank Forced = 13
claim_rank HeardForced = 12
claim_rank LocalFail = 11
claim_rank LocalClearFail = 10
claim_rank HeardFail = 9
claim_rank HeardManual = 8
claim_rank Manual = 7
claim_rank WtrExpires = 6
claim_rank WtrRunning = 5
claim_rank WtbExpires = 4
claim_rank WtbRunning = 3
claim_rank HeardRplBlocked = 2
claim_rank HeardNoRequest = 1

-- the request that a received message makes
abbrev pub claim_of : Request → Claim
claim_of NoRequest = HeardNoRequest
claim_of RplBlocked = HeardRplBlocked
claim_of ManualSwitch = HeardManual
claim_of SignalFail = HeardFail
claim_of ForcedSwitch = HeardForced

-- in forced switch local SF is not counted
abbrev pub fail_stands : NodeValues → Bool
fail_stands v = some v.failed && by_state v.state true true true false true

-- the requests that stand: FS, local SF, MS and running timers
abbrev pub standing : NodeValues → List (Option Claim)
standing v =
    then_some (some v.commands.forced) Forced ∷ then_some (fail_stands v) LocalFail
    ∷ then_some (is_some v.commands.manual) Manual ∷ then_some (nat_lt 0 v.timers.wtr) WtrRunning
    ∷ then_some (nat_lt 0 v.timers.wtb) WtbRunning ∷ []

abbrev pub is_first : Option ℕ → Bool
is_first None = false
is_first (Some zero) = true
is_first (Some (suc n)) = false

-- the new request is put first, then what stands: it reaches its row if it is the one chosen, the first of the highest; an
-- empty place ranks below all
unfoldable pub reaches : NodeValues → Claim → Bool
reaches v c = is_first (first_highest (option_rank claim_rank) (Some c ∷ standing v))
