use Rattle.std.proofs.Common.{◌≡◌, ℕ, zero, suc, ◌<◌, false, ◌≢◌, refl, ap, arith}
use Rattle.frame.specs.Highest.{first_highest}
use Rattle.frame.specs.Ids.{id_number}
use Rattle.frame.specs.Reading.{reading}
use Rattle.frame.specs.Writing.{frame_octets, head_octets}
use Rattle.node.specs.declared.types.Role.TheVariants.{Neighbour}
use Rattle.node.specs.Claims.{reaches}
use Rattle.node.specs.Names.{role_number}
use Rattle.node.specs.Rules.{settings_ok}
use Rattle.node.specs.Worked.{id_ending}
use Rattle.ring.specs.Exception.{IdleStation, rested_ring}
use Rattle.ring.specs.Row.{seat, lawful, all_nodes}
use Rattle.ring.proofs.LastBlock.{exception}
use Rattle.ring.proofs.exception.the_exception_is_real.Goals as goal

pub returns-clause-real : goal.returns-clause-real
returns-clause-real c = exception c.node_laws.ensures

pub returns-clause-occurs : goal.returns-clause-occurs
unfolding lawful all_nodes settings_ok reading frame_octets head_octets id_number reaches first_highest
returns-clause-occurs c = record {
  ring = record { lawful = refl; stations = stations; alone = alone };
  frame = record {
    within = omega arith;
    owner = refl;
    guard = refl;
    node = id_ending 5;
    dnf = false;
    bpr = false;
    reads = refl;
    other = 1;
    there = omega arith;
    apart = omega arith;
    named = refl;
  };
}
  where
    stations : (k : ℕ) → k < 2 → IdleStation (seat rested_ring k)
    stations zero l = record { state = refl; plain = refl; same = refl }
    stations (suc zero) l = record { state = refl; plain = refl; same = refl }
    stations (suc (suc k)) l = absurd (omega arith)

    alone : (k : ℕ) → k < 2 → (seat rested_ring k).values.settings.role ≢ Neighbour
    alone zero l e = let z : ◌≡◌ {A = ℕ} 1 2 = ap role_number e in omega arith
    alone (suc zero) l e = let z : ◌≡◌ {A = ℕ} 0 2 = ap role_number e in omega arith
    alone (suc (suc k)) l e = absurd (omega arith)
