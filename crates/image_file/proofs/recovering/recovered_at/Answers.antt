use Rattle.inspect.specs.ReportText.{report_text}
use Rattle.image_file.proofs.BesideLemmas.{leaves_then}
use Rattle.image_file.proofs.PlaceLemmas.{cut_off_alone, is_recovered, on_the_way, refused_stays, same_way}
use Rattle.image_file.proofs.recovering.recovered_at.Goals as goal

pub returns-in-Ok-recover_image-clause-ok : goal.returns-in-Ok-recover_image-clause-ok
returns-in-Ok-recover_image-clause-ok g c =
    let told = c.in-Ok-recover_image.told in
    is_recovered c.args.versions (g.P.Images.holds c.args.images.now c.args.path.now) (g.P.Images.holds c.close.new.self c.args.path.now) (g.D.Disk.device c.in-Ok.disk) (g.D.Disk.device c.in-Ok-recover_image.disk)
    (report_text told.report told.heap.items told.lanes) c.in-Ok.ensures.fresh c.in-Ok.ensures.ok c.in-Ok-recover_image.ensures.ok c.in-Ok-recover_image.ensures.durable c.in-Ok-recover_image.ensures.any_moment c.close.ensures.left

pub returns-in-Err-recover_image-clause-kept : goal.returns-in-Err-recover_image-clause-kept
returns-in-Err-recover_image-clause-kept g c = λ other.
    refused_stays c.in-Err-recover_image.refusal (g.P.Images.holds c.args.images.now c.args.path.now) (g.P.Images.holds c.close-in-Err-recover_image.new.self c.args.path.now) (g.D.Disk.device c.in-Ok.disk) (g.D.Disk.device c.in-Err-recover_image.disk)
    c.in-Ok.ensures.ok c.in-Err-recover_image.ensures.untouched c.close-in-Err-recover_image.ensures.left other

pub returns-in-Err-recover_image-clause-way : goal.returns-in-Err-recover_image-clause-way
returns-in-Err-recover_image-clause-way g c =
    on_the_way (g.P.Images.holds c.args.images.now c.args.path.now) (g.P.Images.holds c.close-in-Err-recover_image.new.self c.args.path.now) (g.D.Disk.device c.in-Ok.disk) (g.D.Disk.device c.in-Err-recover_image.disk)
    c.in-Ok.ensures.fresh c.in-Ok.ensures.ok c.in-Err-recover_image.ensures.interrupted
    (cut_off_alone (g.D.Disk.device c.in-Ok.disk) (g.D.Disk.device c.in-Err-recover_image.disk) c.in-Err-recover_image.ensures.cut_off)
    c.close-in-Err-recover_image.ensures.left

pub returns-in-Err-clause-way : goal.returns-in-Err-clause-way
returns-in-Err-clause-way g c = same_way (g.P.Images.holds c.args.images.now c.args.path.now) (g.P.Images.holds c.open.new.self c.args.path.now) c.in-Err.ensures.err

pub returns-in-Ok-recover_image-clause-beside : goal.returns-in-Ok-recover_image-clause-beside
returns-in-Ok-recover_image-clause-beside g c = leaves_then c.open.ensures.beside c.close.ensures.beside

pub returns-in-Err-recover_image-clause-beside : goal.returns-in-Err-recover_image-clause-beside
returns-in-Err-recover_image-clause-beside g c = leaves_then c.open.ensures.beside c.close-in-Err-recover_image.ensures.beside
