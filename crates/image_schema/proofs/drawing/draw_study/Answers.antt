use Rattle.std.proofs.Common.{◌≡◌, ◌∙◌, true, false, Option, sym, subst}
use Rattle.std.specs.Io.KnownBytes.{Appends}
use Rattle.std.proofs.KnownBytes.{Appends-nil}
use Rattle.guards.specs.Schema.{Declarations}
use Rattle.inspect.specs.WholeGraph.{picture_text}
use Rattle.inspect.specs.Written.{AppendsPart}
use Rattle.image_schema.proofs.drawing.draw_study.Goals as goal

pub write_graph-drawn-requires : goal.write_graph-drawn-requires
write_graph-drawn-requires g c = c.study_law.ensures.numbers c.requires.image c.args.study.now c.requires.of

pub returns-then-not-fits_given : goal.returns-then-not-fits_given
returns-then-not-fits_given g c = record {
  ok = tt;
  refused = (
    (λ fits. let both : true ≡ false = sym (c.fits_given.ensures.1 fits) ∙ c.if-not-fits_given.true in absurd cc),
    Appends-nil (g.W.Write.contents c.args.writer.now),
  );
}

pub returns-in-Ok : goal.returns-in-Ok
returns-in-Ok g c =
    let old = g.W.Write.contents c.args.writer.now in
    let new = g.W.Write.contents c.write_graph-drawn.new.writer in
    record {
      ok = record {
        fits = c.fits_given.ensures.0 c.if-not-fits_given.false;
        written = subst (λ (names : Option Declarations). Appends old new (picture_text names c.args.last c.args.study.now)) c.as_ref.ensures.value c.in-Ok.ensures.text.ok;
      };
      refused = tt;
    }

pub returns-in-Err-Write : goal.returns-in-Err-Write
returns-in-Err-Write g c =
    let old = g.W.Write.contents c.args.writer.now in
    let new = g.W.Write.contents c.write_graph-drawn.new.writer in
    record {
      ok = tt;
      refused = record {
        fits = c.fits_given.ensures.0 c.if-not-fits_given.false;
        written = subst (λ (names : Option Declarations). AppendsPart old new (picture_text names c.args.last c.args.study.now)) c.as_ref.ensures.value (c.in-Err-Write.ensures-1.text.part (rw c.in-Err-Write.is at c.in-Err-Write.field-0-is));
      };
    }
