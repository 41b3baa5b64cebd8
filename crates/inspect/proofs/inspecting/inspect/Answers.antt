use Rattle.std.proofs.Common.{rules, Result, IfErr, subst}
use Rattle.std.proofs.lemmas.Result.{on_ok_weaker}
use Rattle.std.specs.Io.KnownBytes.{Appends}
use Rattle.inspect.specs.declared.error.InspectError.{InspectError}
use Rattle.inspect.specs.Inspection.{IsNotShown}
use Rattle.inspect.specs.StudyText.{study_text}
use Rattle.inspect.proofs.RefusalLemmas.{refuses_all}
use Rattle.inspect.proofs.inspecting.inspect.Goals as goal

pub show-requires : goal.show-requires
show-requires g c =
    let image = (g.D.Disk.device c.args.disk.now).now.bytes in
    record { limits = c.study_law.ensures.limits image c.in-Ok.study c.in-Ok.ensures.exact; numbers = c.study_law.ensures.numbers image c.in-Ok.study c.in-Ok.ensures.exact }

pub returns-in-Ok : goal.returns-in-Ok
returns-in-Ok g c = record {
  ok = on_ok_weaker c.show.result (λ (w : Appends (g.W.Write.contents c.args.writer.now) (g.W.Write.contents c.show.new.writer) (study_text c.in-Ok.study)). record { study = c.in-Ok.study; studied = c.in-Ok.ensures.exact; written = w }) c.show.ensures.ok;
  refused = refuses_all study_text (g.D.Disk.device c.args.disk.now).now.bytes (g.W.Write.contents c.args.writer.now) (g.W.Write.contents c.show.new.writer) c.in-Ok.study c.in-Ok.ensures.exact c.show.result c.show.ensures.refused;
  same = search rules;
  cause = record {
    later = c.in-Ok.ensures.cause.later;
    failed = λ e. absurd (subst (λ (r : Result (Unit {0}) InspectError). IfErr r (IsNotShown (g.W.Write.contents c.args.writer.now) (g.W.Write.contents c.show.new.writer) (study_text c.in-Ok.study))) e c.show.ensures.refused);
  };
}
