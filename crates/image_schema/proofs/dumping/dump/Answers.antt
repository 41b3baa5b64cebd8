use Rattle.std.proofs.Common.{rules}
use Rattle.std.proofs.lemmas.Result.{on_ok_weaker}
use Rattle.image_schema.proofs.DumpLemmas.{dumps, refuses_all, not_fault}
use Rattle.image_schema.proofs.dumping.dump.Goals as goal

pub dump_study-dumped-requires : goal.dump_study-dumped-requires
dump_study-dumped-requires g c = record { image = (g.D.Disk.device c.args.disk.now).now.bytes; of = c.in-Ok.ensures.exact }

pub returns-in-Ok : goal.returns-in-Ok
returns-in-Ok g c = record {
  ok = on_ok_weaker c.dump_study-dumped.result (dumps c.args.given (g.D.Disk.device c.args.disk.now).now.bytes (g.W.Write.contents c.args.writer.now) (g.W.Write.contents c.dump_study-dumped.new.writer) c.in-Ok.study c.in-Ok.ensures.exact) c.dump_study-dumped.ensures.ok;
  refused = refuses_all c.args.given (g.D.Disk.device c.args.disk.now).now.bytes (g.W.Write.contents c.args.writer.now) (g.W.Write.contents c.dump_study-dumped.new.writer) c.in-Ok.study c.in-Ok.ensures.exact c.dump_study-dumped.result c.dump_study-dumped.ensures.refused;
  same = search rules;
  cause = record {
    later = c.in-Ok.ensures.cause.later;
    failed = λ e. absurd (not_fault c.args.given (g.W.Write.contents c.args.writer.now) (g.W.Write.contents c.dump_study-dumped.new.writer) c.in-Ok.study c.dump_study-dumped.result c.dump_study-dumped.ensures.refused e);
  };
}
