use Rattle.std.proofs.Common.{ℕ, List, ◌∙◌, ap, inr, subst}
use Rattle.std.specs.Io.KnownBytes.{Appends}
use Rattle.inspect.specs.ReportText.{report_text}
use Rattle.inspect.specs.Written.{AppendsPart}
use Rattle.image_file.proofs.recovering.recover_at.Goals as goal

pub returns-in-Ok-write_report-clause-ok : goal.returns-in-Ok-write_report-clause-ok
returns-in-Ok-write_report-clause-ok g c =
    let told = c.in-Ok.told in
    let same = ap (λ h. report_text told.report h told.lanes) c.deref.ensures.value in
    record {
      text = report_text told.report told.heap.items told.lanes;
      recovered = c.in-Ok.ensures.ok;
      written = subst (λ (lines : List ℕ). Appends (g.W.Write.contents c.args.writer.now) (g.W.Write.contents c.write_report.new.writer) lines) same c.in-Ok-write_report.ensures.ok;
    }

pub returns-clause-part : goal.returns-clause-part
returns-clause-part g c =
    let told = c.in-Ok.told in
    let found = c.in-Ok.ensures.ok in
    let text = ap (λ h. report_text told.report h told.lanes) c.deref.ensures.value ∙ found.told.text_is in
    inr (
      found.image,
      found.told.taken,
      record {
        study = found.told.study;
        studied = found.told.of;
        written = subst (λ (lines : List ℕ). AppendsPart (g.W.Write.contents c.args.writer.now) (g.W.Write.contents c.write_report.new.writer) lines) text c.in-Err-write_report.ensures.part;
      },
    )

pub returns-clause-way : goal.returns-clause-way
returns-clause-way g c = c.in-Ok.ensures.ok.way
