use Rattle.std.proofs.lemmas.Result.{on_err_weaker, on_ok_weaker}
use Rattle.script_images.proofs.RunLemmas.{is_put, not_put_there}
use Rattle.script_images.proofs.running.put_image.Goals as goal

pub returns-clause-ok : goal.returns-clause-ok
returns-clause-ok g c =
    on_ok_weaker c.replace-replaced.result
    (λ left. is_put (g.D.Disk.device c.args.disk) (g.D.Disk.device c.write_over.new.disk) c.args.image.now (g.P.Images.holds c.replace-replaced.new.self c.args.path.now) c.in_default.ensures.ok c.in_default.ensures.all left)
    c.replace-replaced.ensures.ok

pub returns-clause-err : goal.returns-clause-err
returns-clause-err g c =
    on_err_weaker c.replace-replaced.result
    (λ left. not_put_there (g.D.Disk.device c.args.disk) (g.D.Disk.device c.write_over.new.disk) c.args.image.now _ _ (g.P.Images.holds c.replace-replaced.new.self c.args.path.now) c.in_default.ensures.ok c.in_default.ensures.all left)
    c.replace-replaced.ensures.err
