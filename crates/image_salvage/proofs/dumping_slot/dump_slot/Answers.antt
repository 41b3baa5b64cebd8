use Rattle.std.proofs.Common.{subst}
use Rattle.std.proofs.lemmas.Result.{on_ok_weaker}
use Rattle.block_disk.specs.Device.{Device}
use Rattle.recover.specs.Study.{IsStudyOf}
use Rattle.image_salvage.proofs.SlotLemmas.{dumps, refuses_all}
use Rattle.image_salvage.proofs.dumping_slot.dump_slot.Goals as goal

pub returns-in-Ok : goal.returns-in-Ok
returns-in-Ok g c =
    let of = subst (λ (d : Device). IsStudyOf d.now.bytes c.in-Ok.study) c.disk_of-disk.ensures c.in-Ok.ensures.exact in
    record {
      ok = on_ok_weaker c.write_study-dumped.result (dumps c.args.slot c.args.given c.args.image.items (g.W.Write.contents c.args.writer.now) (g.W.Write.contents c.write_study-dumped.new.writer) c.in-Ok.study of) c.write_study-dumped.ensures.ok;
      refused = refuses_all c.args.slot c.args.given c.args.image.items (g.W.Write.contents c.args.writer.now) (g.W.Write.contents c.write_study-dumped.new.writer) c.in-Ok.study of c.write_study-dumped.result c.write_study-dumped.ensures.refused;
    }
