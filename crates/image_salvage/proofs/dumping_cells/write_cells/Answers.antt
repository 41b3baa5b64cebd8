use Rattle.std.proofs.Common.{◌≡◌, ◌∙◌, List, ap, length, subst}
use Rattle.std.specs.Io.KnownBytes.{Appends}
use Rattle.script_declarations.specs.SchemaText.{beginning_with}
use Rattle.guards.specs.Schema.{Declarations}
use Rattle.image_parts.specs.declared.guard_row.GuardRow.{GuardRow}
use Rattle.image_schema.specs.OfImage.{FitsImage}
use Rattle.inspect.specs.Written.{AppendsPart}
use Rattle.image_salvage.specs.Cells.{FitsCells, cells_text, named_by}
use Rattle.image_salvage.specs.Notes.{noted_text}
use Rattle.image_salvage.proofs.dumping_cells.write_cells.Goals as goal

pub write_noted-written-requires : goal.write_noted-written-requires
write_noted-written-requires g c = ap length c.deref-2.ensures.value ∙ c.requires.had.homes.size ∙ c.in-Ok.ensures.fits.fields

pub returns-in-Ok-written : goal.returns-in-Ok-written
returns-in-Ok-written g c =
    let given = c.args.given in
    let cells = c.args.cells.now in
    let is : c.in-Ok.schema ≡ named_by given cells.layout cells.guards.items =
    subst (λ (rows : List GuardRow). c.in-Ok.schema ≡ named_by given cells.layout rows) c.deref.ensures.value c.in-Ok.ensures.ok in
    let fits : FitsCells given cells = subst (λ (rows : List GuardRow). FitsImage (named_by given cells.layout cells.guards.items) cells.layout rows) c.deref.ensures.value
    (subst (λ (schema : Declarations). FitsImage schema cells.layout c.deref.result.now) is c.in-Ok.ensures.fits) in
    let text : noted_text c.cells_note.result.now (beginning_with c.deref-2.result.now c.in-Ok.schema) ≡ cells_text given cells =
    (λ i. noted_text (c.cells_note.ensures i) (beginning_with (c.deref-2.ensures.value i) (is i))) in
    record { ok = record { fits = fits; written = subst (Appends (g.W.Write.contents c.args.writer.now) (g.W.Write.contents c.write_noted-written.new.writer)) text c.in-Ok-written.ensures.ok }; refused = tt }

pub returns-in-Err : goal.returns-in-Err
returns-in-Err g c =
    let given = c.args.given in
    let cells = c.args.cells.now in
    let is : c.in-Ok.schema ≡ named_by given cells.layout cells.guards.items =
    subst (λ (rows : List GuardRow). c.in-Ok.schema ≡ named_by given cells.layout rows) c.deref.ensures.value c.in-Ok.ensures.ok in
    let fits : FitsCells given cells = subst (λ (rows : List GuardRow). FitsImage (named_by given cells.layout cells.guards.items) cells.layout rows) c.deref.ensures.value
    (subst (λ (schema : Declarations). FitsImage schema cells.layout c.deref.result.now) is c.in-Ok.ensures.fits) in
    let text : noted_text c.cells_note.result.now (beginning_with c.deref-2.result.now c.in-Ok.schema) ≡ cells_text given cells =
    (λ i. noted_text (c.cells_note.ensures i) (beginning_with (c.deref-2.ensures.value i) (is i))) in
    record { ok = tt; refused = record { fits = fits; written = subst (AppendsPart (g.W.Write.contents c.args.writer.now) (g.W.Write.contents c.write_noted-written.new.writer)) text c.in-Err.ensures.part } }
