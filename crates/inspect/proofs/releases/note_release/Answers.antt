use Rattle.std.proofs.Common.{◌++◌, ◌∷◌, ◌<◌, [], length, arith, subst, sym, inl, inr}
use Rattle.heap_model.specs.declared.record.UndoRecord.{UndoRecord}
use Rattle.heap_model.specs.declared.record.UndoRecord.TheVariants.{Rel}
use Rattle.inspect.specs.declared.section.SectionId.{SectionId}
use Rattle.inspect.specs.Links.{Release, Tells, released_by}
use Rattle.inspect.proofs.PartLemmas.{always}
use Rattle.inspect.proofs.ReleaseLemmas.{tells_more}
use Rattle.inspect.proofs.releases.note_release.Goals as goal

pub returns-in_ok-insert-in-Rel-clause-ok : goal.returns-in_ok-insert-in-Rel-clause-ok
returns-in_ok-insert-in-Rel-clause-ok c = λ older tells.
    let s = c.section.result in
    let x : Release = record { object = c.in-Rel.object.0; number = c.in-Rel.number; section = s } in
    let noted : Tells c.insert.new.self (older ++ x ∷ []) = tells_more c.args.releases.now c.insert.new.self older x c.in_ok-insert-in-Rel.ensures.updates tells in
    let named : Tells c.insert.new.self (older ++ released_by c.args.numbering c.args.gone (Rel c.in-Rel.object c.in-Rel.number)) =
    subst (λ (t : SectionId). Tells c.insert.new.self (older ++ record { object = c.in-Rel.object.0; number = c.in-Rel.number; section = t } ∷ [])) c.section.ensures noted in
    let by = λ (r : UndoRecord). Tells c.insert.new.self (older ++ released_by c.args.numbering c.args.gone r) in
    elim c.in-Rel.is [ inl e ↦ subst by (sym e) named | inr e ↦ subst by (sym e) named ]

pub returns-in_err-insert-in-Rel-clause-no_memory : goal.returns-in_err-insert-in-Rel-clause-no_memory
returns-in_err-insert-in-Rel-clause-no_memory c =
    let by = λ (r : UndoRecord). 0 < length (released_by c.args.numbering c.args.gone r) in
    let named : by (Rel c.in-Rel.object c.in-Rel.number) = omega arith in
    always c.from_residual.result (elim c.in-Rel.is [ inl e ↦ subst by (sym e) named | inr e ↦ subst by (sym e) named ])
