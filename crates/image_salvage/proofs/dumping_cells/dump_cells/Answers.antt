use Rattle.std.proofs.Common.{rules}
use Rattle.std.proofs.lemmas.Result.{on_ok_weaker}
use Rattle.image_salvage.proofs.CellLemmas.{dumps, not_fault, refuses_all}
use Rattle.image_salvage.proofs.dumping_cells.dump_cells.Goals as goal

pub write_cells-dumped-requires : goal.write_cells-dumped-requires
write_cells-dumped-requires g c = record { image = (g.D.Disk.device c.args.disk.now).now.bytes; had = c.in-Ok.ensures.exact }

pub returns-in-Ok : goal.returns-in-Ok
returns-in-Ok g c = record {
  ok = on_ok_weaker c.write_cells-dumped.result (dumps c.args.given (g.D.Disk.device c.args.disk.now).now.bytes (g.W.Write.contents c.args.writer.now) (g.W.Write.contents c.write_cells-dumped.new.writer) c.in-Ok.cells c.in-Ok.ensures.exact) c.write_cells-dumped.ensures.ok;
  refused = refuses_all c.args.given (g.D.Disk.device c.args.disk.now).now.bytes (g.W.Write.contents c.args.writer.now) (g.W.Write.contents c.write_cells-dumped.new.writer) c.in-Ok.cells c.in-Ok.ensures.exact c.write_cells-dumped.result c.write_cells-dumped.ensures.refused;
  same = search rules;
  cause = record {
    later = c.in-Ok.ensures.cause.later;
    failed = λ e. absurd (not_fault c.args.given (g.W.Write.contents c.args.writer.now) (g.W.Write.contents c.write_cells-dumped.new.writer) c.in-Ok.cells c.write_cells-dumped.result c.write_cells-dumped.ensures.refused e);
  };
}
