use Rattle.std.proofs.Common.{rules}
use Rattle.std.proofs.lemmas.Result.{on_ok_weaker}
use Rattle.image_schema.proofs.DrawLemmas.{draws, refuses_all, not_fault}
use Rattle.image_schema.proofs.drawing.draw_named.Goals as goal

pub draw_study-drawn-requires : goal.draw_study-drawn-requires
draw_study-drawn-requires g c = record { image = (g.D.Disk.device c.args.disk.now).now.bytes; of = c.in-Ok.ensures.exact }

pub returns-in-Ok : goal.returns-in-Ok
returns-in-Ok g c = record {
  ok = on_ok_weaker c.draw_study-drawn.result (draws c.args.given c.args.last (g.D.Disk.device c.args.disk.now).now.bytes (g.W.Write.contents c.args.writer.now) (g.W.Write.contents c.draw_study-drawn.new.writer) c.in-Ok.study c.in-Ok.ensures.exact) c.draw_study-drawn.ensures.ok;
  refused = refuses_all c.args.given c.args.last (g.D.Disk.device c.args.disk.now).now.bytes (g.W.Write.contents c.args.writer.now) (g.W.Write.contents c.draw_study-drawn.new.writer) c.in-Ok.study c.in-Ok.ensures.exact c.draw_study-drawn.result c.draw_study-drawn.ensures.refused;
  same = search rules;
  cause = record {
    later = c.in-Ok.ensures.cause.later;
    failed = λ e. absurd (not_fault c.args.given c.args.last (g.W.Write.contents c.args.writer.now) (g.W.Write.contents c.draw_study-drawn.new.writer) c.in-Ok.study c.draw_study-drawn.result c.draw_study-drawn.ensures.refused e);
  };
}
