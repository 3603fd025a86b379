use Rattle.std.proofs.Common.{refl}
use Rattle.frame.specs.Highest.{first_highest}
use Rattle.frame.specs.Ids.{id_number}
use Rattle.node.specs.Claims.{reaches}
use Rattle.node.proofs.laws.worked_examples.Goals as goal

pub returns : goal.returns
unfolding id_number reaches first_highest
returns c = record {
  owner = record { state = refl; ports = refl; sends = refl; wtr = refl; burst = refl };
  restores = record { before = refl; state = refl; sends = refl };
  forced = record { state = refl; sends = refl; flush = refl };
  hears = record { higher = refl; quiet = refl; lower = refl };
  repaired = record { state = refl; sends = refl; ports = refl };
  cleared = record { state = refl; ports = refl; sends = refl; guard = refl };
}
