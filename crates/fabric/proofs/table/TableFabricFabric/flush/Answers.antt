use Rattle.std.proofs.Common.{List, map, sym, refl, ap, ◌∙◌, subst}
use Rattle.fabric.specs.Laws.{FlushLaw}
use Rattle.fabric.specs.Table.{Entry, off_ring_octets}
use Rattle.fabric.proofs.Flushing.{marks_freed, kept_freed, flush_law}
use Rattle.fabric.proofs.table.TableFabricFabric.flush.Goals as goal

pub returns : goal.returns
returns c =
    let rs = c.args.self.now.records in
    let e = c.free_ring.ensures in
    record {
      after = marks_freed c.args.self.now c.free_ring.new.records e;
      same = ap (map off_ring_octets) e ∙ kept_freed rs;
      records = e;
      blocks = refl;
      law = subst (λ (q : List Entry). FlushLaw rs q) (sym e) (flush_law rs);
    }
