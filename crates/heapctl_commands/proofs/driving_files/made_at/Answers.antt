use Rattle.std.proofs.Common.{inl, refl, subst}
use Rattle.guards.specs.Schema.{Declarations}
use Rattle.image_file.proofs.PlaceLemmas.{may_be_made, stays_same}
use Rattle.image_file.specs.Formatting.{IsImageFor}
use Rattle.heapctl_commands.specs.Telling.{asked_by}
use Rattle.heapctl_commands.proofs.driving_files.made_at.Goals as goal

pub returns-in-Ok-made-clause-ok : goal.returns-in-Ok-made-clause-ok
returns-in-Ok-made-clause-ok g c =
    let made = c.in-Ok-made in
    (made.field-0-1, subst (λ (s : Declarations). IsImageFor s (asked_by c.args.workers) made.field-0-1 (g.D.Disk.device made.disk)) c.in-Ok.ensures.ok made.ensures.ok)

pub returns-in-Err-clause-refused : goal.returns-in-Err-clause-refused
returns-in-Err-clause-refused g c = record {
  numbers = λ before. (c.in-Err.ensures.bad_header before).1;
  left = may_be_made c.in-Ok.schema (asked_by c.args.workers) _ _ c.in-Err.ensures.kept;
}

pub returns-in_default-clause-refused : goal.returns-in_default-clause-refused
returns-in_default-clause-refused g c = record { numbers = λ before. elim before [ ]; left = inl (stays_same _ _ refl) }
