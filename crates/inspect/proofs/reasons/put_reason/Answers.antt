use Rattle.std.proofs.Common.{ℕ, List, [], ◌∷◌, codes, sym, subst, OnOk, OnErr}
use Rattle.std.specs.Fmt.{decimal}
use Rattle.std.specs.Io.KnownBytes.{Appends}
use Rattle.recover.specs.declared.report.Why.{Why}
use Rattle.inspect.specs.GraphText.{reason_end}
use Rattle.inspect.specs.Pieces.{line}
use Rattle.inspect.specs.Written.{AppendsPart}
use Rattle.inspect.proofs.reasons.put_reason.Goals as goal

pub returns-in-After : goal.returns-in-After
returns-in-After g c =
    let old = g.W.Write.contents c.args.writer.now in
    let new = g.W.Write.contents c.put_line-in-After.new.writer in
    record {
      ok = subst (λ (why : Why). OnOk c.put_line-in-After.result (Appends old new (line (reason_end why)))) (sym c.in-After.is)
          (subst (λ (text : List ℕ). OnOk c.put_line-in-After.result (Appends old new text)) (λ i. line (codes "\\nafter t" ∷ decimal (c.thread_number.ensures i) ∷ codes " " ∷ decimal c.in-After.section ∷ codes "\", style=filled, fillcolor=orange]" ∷ [])) c.put_line-in-After.ensures.ok);
      part = subst (λ (why : Why). OnErr c.put_line-in-After.result (AppendsPart old new (line (reason_end why)))) (sym c.in-After.is)
          (subst (λ (text : List ℕ). OnErr c.put_line-in-After.result (AppendsPart old new text)) (λ i. line (codes "\\nafter t" ∷ decimal (c.thread_number.ensures i) ∷ codes " " ∷ decimal c.in-After.section ∷ codes "\", style=filled, fillcolor=orange]" ∷ [])) c.put_line-in-After.ensures.part);
    }

pub returns-in-Unfinished : goal.returns-in-Unfinished
returns-in-Unfinished g c =
    let old = g.W.Write.contents c.args.writer.now in
    let new = g.W.Write.contents c.put_line.new.writer in
    record {
      ok = subst (λ (why : Why). OnOk c.put_line.result (Appends old new (line (reason_end why)))) (sym c.in-Unfinished.is) c.put_line.ensures.ok;
      part = subst (λ (why : Why). OnErr c.put_line.result (AppendsPart old new (line (reason_end why)))) (sym c.in-Unfinished.is) c.put_line.ensures.part;
    }

pub returns-in-Unsettled : goal.returns-in-Unsettled
returns-in-Unsettled g c =
    let old = g.W.Write.contents c.args.writer.now in
    let new = g.W.Write.contents c.put_line-in-Unsettled.new.writer in
    record {
      ok = subst (λ (why : Why). OnOk c.put_line-in-Unsettled.result (Appends old new (line (reason_end why)))) (sym c.in-Unsettled.is) c.put_line-in-Unsettled.ensures.ok;
      part = subst (λ (why : Why). OnErr c.put_line-in-Unsettled.result (AppendsPart old new (line (reason_end why)))) (sym c.in-Unsettled.is) c.put_line-in-Unsettled.ensures.part;
    }
