-- The requests with their codes and bits. Assumes nothing.
use Rattle.std.specs.Prelude.{ℕ, Bool, true, false}
use Rattle.frame.specs.declared.types.Request.{Request}
use Rattle.frame.specs.declared.types.Request.TheVariants.{NoRequest, RplBlocked, ManualSwitch, SignalFail, ForcedSwitch}

-- the code in the upper half of the request octet, and the RB bit of the status octet
pub record Coded : Type 0 where
  pub code : ℕ
  pub rb : Bool

abbrev pub coded : Request → Coded
coded NoRequest = record { code = 0; rb = false }
coded RplBlocked = record { code = 0; rb = true }
coded ManualSwitch = record { code = 7; rb = false }
coded SignalFail = record { code = 11; rb = false }
coded ForcedSwitch = record { code = 13; rb = false }

abbrev pub event_code : ℕ
event_code = 14
