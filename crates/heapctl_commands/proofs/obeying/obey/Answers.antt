use Rattle.std.specs.Prelude.{not}
use Rattle.std.proofs.Common.{Result, refl, sym, subst}
use Rattle.image_file.specs.Beside.{MakesBeside}
use Rattle.disk_sector_file.specs.declared.image_kind.ImageKind.{ImageKind}
use Rattle.recover.specs.declared.versions.Versions.TheVariants.{Current, Both}
use Rattle.heapctl_commands.specs.Beside.{Spares}
use Rattle.heapctl_commands.specs.Obeying.{Formats, Obeys, Recovers}
use Rattle.heapctl_commands.specs.declared.fault.WorkFault.{WorkFault}
use Rattle.heapctl_words.specs.declared.words.Words.{Words}
use Rattle.heapctl_commands.proofs.ObeyLemmas.{made, made_beside, on, recovered}
use Rattle.heapctl_commands.proofs.obeying.obey.Goals as goal

pub returns-in-Run-clause-ends : goal.returns-in-Run-clause-ends
returns-in-Run-clause-ends o c =
    let had = o.P.Images.holds c.args.images.now in
    let has = o.P.Images.holds c.play.new.images in
    let lies = o.P.Images.lies c.play.new.images in
    let read = o.S.Read.remaining c.args.reader.now in
    let unread = o.S.Read.remaining c.play.new.reader in
    let written = o.W.Write.contents c.args.writer.now in
    let now = o.W.Write.contents c.play.new.writer in
    subst (λ (w : Words). Obeys o.D.Disk.device w c.args.names.now c.play.result had has lies read unread written now) (sym c.in-Run.is) c.play.ensures.ends

pub returns-in-Format-clause-ends : goal.returns-in-Format-clause-ends
returns-in-Format-clause-ends o c =
    let had = o.P.Images.holds c.args.images.now in
    let has = o.P.Images.holds c.format_at.new.images in
    let lies = o.P.Images.lies c.format_at.new.images in
    let lanes = c.in-Format.lanes in
    let capacity = c.in-Format.capacity in
    let forced = c.in-Format.is_forced in
    let asked = on lanes capacity forced c.kind_for.result in
    let path = c.in-Format.image.now in
    let read = o.S.Read.remaining c.args.reader.now in
    let written = o.W.Write.contents c.args.writer.now in
    let now = o.W.Write.contents c.format_at.new.writer in
    subst (λ (w : Words). Obeys o.D.Disk.device w c.args.names.now c.on_format.result had has lies read read written now) (sym c.in-Format.is) (
      refl,
      subst (λ (s : ImageKind). Formats (on lanes capacity forced s) c.on_format.result (had path) (has path) (lies path) written now) c.kind_for.ensures
          (subst (λ (r : Result (Unit {0}) WorkFault). Formats asked r (had path) (has path) (lies path) written now) (sym c.on_format.ensures)
          (made asked c.format_at.result (had path) (has path) (lies path) written now c.format_at.ensures.ok c.format_at.ensures.kept c.format_at.ensures.bad_header c.format_at.ensures.silent c.format_at.ensures.part)),
    )

pub returns-in-Show-clause-ends : goal.returns-in-Show-clause-ends
returns-in-Show-clause-ends o c =
    let had = o.P.Images.holds c.args.images.now in
    let has = o.P.Images.holds c.show_at.new.images in
    let lies = o.P.Images.lies c.show_at.new.images in
    let read = o.S.Read.remaining c.args.reader.now in
    let written = o.W.Write.contents c.args.writer.now in
    let now = o.W.Write.contents c.show_at.new.writer in
    subst (λ (w : Words). Obeys o.D.Disk.device w c.args.names.now c.on_image.result had has lies read read written now) (sym c.in-Show.is) (
      refl,
      (c.show_at.result, c.on_image.ensures, c.show_at.ensures.ends),
    )

pub returns-in-Draw-clause-ends : goal.returns-in-Draw-clause-ends
returns-in-Draw-clause-ends o c =
    let had = o.P.Images.holds c.args.images.now in
    let has = o.P.Images.holds c.draw_named_at.new.images in
    let lies = o.P.Images.lies c.draw_named_at.new.images in
    let read = o.S.Read.remaining c.args.reader.now in
    let written = o.W.Write.contents c.args.writer.now in
    let now = o.W.Write.contents c.draw_named_at.new.writer in
    subst (λ (w : Words). Obeys o.D.Disk.device w c.args.names.now c.on_named.result had has lies read read written now) (sym c.in-Draw.is) (
      refl,
      (c.draw_named_at.result, c.on_named.ensures, c.draw_named_at.ensures.ends),
    )

pub returns-in-Dump-clause-ends : goal.returns-in-Dump-clause-ends
returns-in-Dump-clause-ends o c =
    let had = o.P.Images.holds c.args.images.now in
    let has = o.P.Images.holds c.dump.new.images in
    let lies = o.P.Images.lies c.dump.new.images in
    let read = o.S.Read.remaining c.args.reader.now in
    let written = o.W.Write.contents c.args.writer.now in
    let now = o.W.Write.contents c.dump.new.writer in
    subst (λ (w : Words). Obeys o.D.Disk.device w c.args.names.now c.dump.result had has lies read read written now) (sym c.in-Dump.is) (refl, c.dump.ensures.ends)

pub returns-in-Recover-clause-ends : goal.returns-in-Recover-clause-ends
returns-in-Recover-clause-ends o c =
    let had = o.P.Images.holds c.args.images.now in
    let has = o.P.Images.holds c.recover_at.new.images in
    let lies = o.P.Images.lies c.recover_at.new.images in
    let path = c.in-Recover.image.now in
    let read = o.S.Read.remaining c.args.reader.now in
    let written = o.W.Write.contents c.args.writer.now in
    let now = o.W.Write.contents c.recover_at.new.writer in
    subst (λ (w : Words). Obeys o.D.Disk.device w c.args.names.now c.on_image-in-Recover.result had has lies read read written now) (sym c.in-Recover.is) (
      refl,
      subst (λ (r : Result (Unit {0}) WorkFault). Recovers Current r (had path) (has path) written now) (sym c.on_image-in-Recover.ensures)
          (recovered Current c.recover_at.result (had path) (has path) written now c.recover_at.ensures.ok c.recover_at.ensures.kept c.recover_at.ensures.way c.recover_at.ensures.part c.recover_at.ensures.silent c.recover_at.ensures.too_old),
    )

pub returns-in-Upgrade-clause-ends : goal.returns-in-Upgrade-clause-ends
returns-in-Upgrade-clause-ends o c =
    let had = o.P.Images.holds c.args.images.now in
    let has = o.P.Images.holds c.recover_at-in-Upgrade.new.images in
    let lies = o.P.Images.lies c.recover_at-in-Upgrade.new.images in
    let path = c.in-Upgrade.image.now in
    let read = o.S.Read.remaining c.args.reader.now in
    let written = o.W.Write.contents c.args.writer.now in
    let now = o.W.Write.contents c.recover_at-in-Upgrade.new.writer in
    subst (λ (w : Words). Obeys o.D.Disk.device w c.args.names.now c.on_image-in-Upgrade.result had has lies read read written now) (sym c.in-Upgrade.is) (
      refl,
      subst (λ (r : Result (Unit {0}) WorkFault). Recovers Both r (had path) (has path) written now) (sym c.on_image-in-Upgrade.ensures)
          (recovered Both c.recover_at-in-Upgrade.result (had path) (has path) written now c.recover_at-in-Upgrade.ensures.ok c.recover_at-in-Upgrade.ensures.kept c.recover_at-in-Upgrade.ensures.way c.recover_at-in-Upgrade.ensures.part c.recover_at-in-Upgrade.ensures.silent c.recover_at-in-Upgrade.ensures.too_old),
    )

pub returns-in-Drive-clause-ends : goal.returns-in-Drive-clause-ends
returns-in-Drive-clause-ends o c =
    let had = o.P.Images.holds c.args.images.now in
    let has = o.P.Images.holds c.drive-driven.new.images in
    let lies = o.P.Images.lies c.drive-driven.new.images in
    let read = o.S.Read.remaining c.args.reader.now in
    let written = o.W.Write.contents c.args.writer.now in
    let now = o.W.Write.contents c.drive-driven.new.writer in
    subst (λ (w : Words). Obeys o.D.Disk.device w c.args.names.now c.drive-driven.result had has lies read read written now) (sym c.in-Drive.is) (refl, c.drive-driven.ensures.ends)

pub returns-in-Get-clause-ends : goal.returns-in-Get-clause-ends
returns-in-Get-clause-ends o c =
    let had = o.P.Images.holds c.args.images.now in
    let has = o.P.Images.holds c.get_at.new.images in
    let lies = o.P.Images.lies c.get_at.new.images in
    let read = o.S.Read.remaining c.args.reader.now in
    let written = o.W.Write.contents c.args.writer.now in
    let now = o.W.Write.contents c.get_at.new.writer in
    subst (λ (w : Words). Obeys o.D.Disk.device w c.args.names.now c.on_values.result had has lies read read written now) (sym c.in-Get.is) (
      refl,
      (c.get_at.result, c.on_values.ensures, c.get_at.ensures.ends),
    )

pub returns-in-Set-clause-ends : goal.returns-in-Set-clause-ends
returns-in-Set-clause-ends o c =
    let had = o.P.Images.holds c.args.images.now in
    let has = o.P.Images.holds c.set_at.new.images in
    let lies = o.P.Images.lies c.set_at.new.images in
    let read = o.S.Read.remaining c.args.reader.now in
    let written = o.W.Write.contents c.args.writer.now in
    let now = o.W.Write.contents c.set_at.new.writer in
    subst (λ (w : Words). Obeys o.D.Disk.device w c.args.names.now c.on_set.result had has lies read read written now) (sym c.in-Set.is) (
      refl,
      (c.set_at.result, c.on_set.ensures, c.set_at.ensures.ends),
    )

pub returns-in-Run-clause-beside : goal.returns-in-Run-clause-beside
returns-in-Run-clause-beside o c =
    subst (λ (w : Words). Spares w c.play.result (o.P.Images.holds c.args.images.now) (o.P.Images.holds c.play.new.images) (o.P.Images.lies c.args.images.now) (o.P.Images.lies c.play.new.images)) (sym c.in-Run.is) c.play.ensures.beside

pub returns-in-Format-clause-beside : goal.returns-in-Format-clause-beside
returns-in-Format-clause-beside o c =
    let path = c.in-Format.image.now in
    let had = o.P.Images.holds c.args.images.now in
    let has = o.P.Images.holds c.format_at.new.images in
    let so = subst (λ (r : Result (Unit {0}) WorkFault). MakesBeside (not c.in-Format.is_forced) r path had has) (sym c.on_format.ensures)
    (made_beside (not c.in-Format.is_forced) c.format_at.result path had has c.format_at.ensures.beside) in
    subst (λ (w : Words). Spares w c.on_format.result had has (o.P.Images.lies c.args.images.now) (o.P.Images.lies c.format_at.new.images)) (sym c.in-Format.is) so

pub returns-in-Show-clause-beside : goal.returns-in-Show-clause-beside
returns-in-Show-clause-beside o c =
    subst (λ (w : Words). Spares w c.on_image.result (o.P.Images.holds c.args.images.now) (o.P.Images.holds c.show_at.new.images) (o.P.Images.lies c.args.images.now) (o.P.Images.lies c.show_at.new.images)) (sym c.in-Show.is) c.show_at.ensures.beside

pub returns-in-Draw-clause-beside : goal.returns-in-Draw-clause-beside
returns-in-Draw-clause-beside o c =
    subst (λ (w : Words). Spares w c.on_named.result (o.P.Images.holds c.args.images.now) (o.P.Images.holds c.draw_named_at.new.images) (o.P.Images.lies c.args.images.now) (o.P.Images.lies c.draw_named_at.new.images)) (sym c.in-Draw.is) c.draw_named_at.ensures.beside

pub returns-in-Dump-clause-beside : goal.returns-in-Dump-clause-beside
returns-in-Dump-clause-beside o c =
    subst (λ (w : Words). Spares w c.dump.result (o.P.Images.holds c.args.images.now) (o.P.Images.holds c.dump.new.images) (o.P.Images.lies c.args.images.now) (o.P.Images.lies c.dump.new.images)) (sym c.in-Dump.is) c.dump.ensures.beside

pub returns-in-Recover-clause-beside : goal.returns-in-Recover-clause-beside
returns-in-Recover-clause-beside o c =
    subst (λ (w : Words). Spares w c.on_image-in-Recover.result (o.P.Images.holds c.args.images.now) (o.P.Images.holds c.recover_at.new.images) (o.P.Images.lies c.args.images.now) (o.P.Images.lies c.recover_at.new.images)) (sym c.in-Recover.is) c.recover_at.ensures.beside

pub returns-in-Upgrade-clause-beside : goal.returns-in-Upgrade-clause-beside
returns-in-Upgrade-clause-beside o c =
    subst (λ (w : Words). Spares w c.on_image-in-Upgrade.result (o.P.Images.holds c.args.images.now) (o.P.Images.holds c.recover_at-in-Upgrade.new.images) (o.P.Images.lies c.args.images.now) (o.P.Images.lies c.recover_at-in-Upgrade.new.images)) (sym c.in-Upgrade.is) c.recover_at-in-Upgrade.ensures.beside

pub returns-in-Drive-clause-beside : goal.returns-in-Drive-clause-beside
returns-in-Drive-clause-beside o c =
    subst (λ (w : Words). Spares w c.drive-driven.result (o.P.Images.holds c.args.images.now) (o.P.Images.holds c.drive-driven.new.images) (o.P.Images.lies c.args.images.now) (o.P.Images.lies c.drive-driven.new.images)) (sym c.in-Drive.is) c.drive-driven.ensures.beside

pub returns-in-Get-clause-beside : goal.returns-in-Get-clause-beside
returns-in-Get-clause-beside o c =
    subst (λ (w : Words). Spares w c.on_values.result (o.P.Images.holds c.args.images.now) (o.P.Images.holds c.get_at.new.images) (o.P.Images.lies c.args.images.now) (o.P.Images.lies c.get_at.new.images)) (sym c.in-Get.is) c.get_at.ensures.beside

pub returns-in-Set-clause-beside : goal.returns-in-Set-clause-beside
returns-in-Set-clause-beside o c =
    subst (λ (w : Words). Spares w c.on_set.result (o.P.Images.holds c.args.images.now) (o.P.Images.holds c.set_at.new.images) (o.P.Images.lies c.args.images.now) (o.P.Images.lies c.set_at.new.images)) (sym c.in-Set.is) c.set_at.ensures.beside
