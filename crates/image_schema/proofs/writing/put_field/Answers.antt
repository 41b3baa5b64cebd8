use Rattle.std.proofs.Common.{◌≡◌, List, ℕ, [], ◌∷◌, codes, get_or, ap, subst, sym, ◌∙◌}
use Rattle.std.proofs.lemmas.Option.{get_or_from_slice_get}
use Rattle.std.specs.Fmt.{decimal}
use Rattle.std.specs.List.{concat}
use Rattle.guards.specs.Schema.{guard_of, names_of, owner_of}
use Rattle.script_lines.specs.Grammar.{field_word}
use Rattle.script_declarations.specs.SchemaText.{ended, name_of}
use Rattle.inspect.specs.Written.{Writes}
use Rattle.image_schema.proofs.writing.put_field.Goals as goal

pub returns : goal.returns
returns g c =
    let schema = c.args.schema.now in
    let f = c.args.field.0 in
    let name : c.field_name.result.now ≡ get_or (names_of schema.fields) f [] = sym (get_or_from_slice_get (names_of schema.fields) f c.field_name.result.now [] c.field_name.ensures) in
    let owner : c.object_name.result.now ≡ name_of schema.objects (owner_of schema f) =
    sym (get_or_from_slice_get schema.objects c.owner.result.0 c.object_name.result.now [] c.object_name.ensures) ∙ ap (name_of schema.objects) c.owner.ensures.owner in
    let guard : c.object_name-2.result.now ≡ name_of schema.objects (guard_of schema f) =
    sym (get_or_from_slice_get schema.objects c.guard.result.0 c.object_name-2.result.now [] c.object_name-2.ensures) ∙ ap (name_of schema.objects) c.guard.ensures.guard in
    let word = c.field_word.ensures ∙ ap field_word c.transient.ensures in
    subst (λ (text : List ℕ). Writes g.W.Write.contents c.args.writer.now c.put_line.new.writer text c.put_line.result)
    (λ i. ended (concat (word i ∷ codes " " ∷ name i ∷ codes " " ∷ owner i ∷ codes " " ∷ guard i ∷ codes " " ∷ decimal c.args.value ∷ []))) c.put_line.ensures
