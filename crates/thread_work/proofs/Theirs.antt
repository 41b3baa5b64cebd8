-- An image of a schema stays one.
use Rattle.std.proofs.Common.{◌≡◌, ℕ, List, sym, ◌∙◌, subst}
use Rattle.block_disk.specs.Device.{Device}
use Rattle.image_parts.specs.Recovered.{Parts}
use Rattle.image_parts.specs.declared.guard_row.GuardRow.{GuardRow}
use Rattle.image_parts.specs.declared.layout.Layout.{Layout}
use Rattle.recover.specs.Recovery.{IsRecovery, OneStudyLaw}
use Rattle.recover.specs.declared.report.Report.{Report}
use Rattle.guards.specs.Schema.{Declarations}
use Rattle.thread_work.specs.Runs.{Holds, IsOf}

stays_theirs : (schema : Declarations) (threads : ℕ) (a b : Layout) (xs ys : List GuardRow) → a ≡ b → xs ≡ ys → IsOf schema threads a xs → IsOf schema threads b ys
stays_theirs schema threads a b xs ys layouts rows theirs = subst (λ (guards : List GuardRow). IsOf schema threads b guards) rows (subst (λ (l : Layout). IsOf schema threads l xs) layouts theirs)

-- what is recovered is of the layout and the guard rows that every study of the image finds
pub found_theirs : {D : Type 0} (d now : Device) (r : Parts D) (report : Report) (schema : Declarations) (threads : ℕ) → OneStudyLaw → Holds schema threads d.now.bytes → IsRecovery d now r report → IsOf schema threads r.layout r.guards
found_theirs d now r report schema threads law holds recovery =
    let alike = law d.now.bytes holds.0 recovery.study holds.1 recovery.of in
    stays_theirs schema threads holds.0.layout r.layout holds.0.guards.items r.guards (alike.layouts ∙ sym recovery.layout_is) (alike.guards_same ∙ sym recovery.guards_are) holds.2
