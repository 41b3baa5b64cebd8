use Rattle.std.proofs.Common.{ℕ, List, Option, inl, inr, subst}
use Rattle.std.proofs.lemmas.Result.{IfErr-weaker, IfOk-weaker}
use Rattle.image_file.specs.Images.{IsThere}
use Rattle.heapctl_commands.specs.Faults.{HasNoImage}
use Rattle.heapctl_commands.proofs.FileLemmas.{no_disk, none_there}
use Rattle.heapctl_commands.proofs.driving_files.disk_at.Goals as goal

pub returns-then-vacant-clause-ok : goal.returns-then-vacant-clause-ok
returns-then-vacant-clause-ok g c =
    let had = g.P.Images.holds c.args.images.now c.args.path.now in
    IfOk-weaker c.made_at.result _ _ (λ disk made. inr (none_there had c.in-Ok.vacant c.in-Ok.ensures.ok c.if-vacant.true, made)) c.made_at.ensures.ok

pub returns-then-vacant-clause-refused : goal.returns-then-vacant-clause-refused
returns-then-vacant-clause-refused g c =
    let had = g.P.Images.holds c.args.images.now c.args.path.now in
    let has = g.P.Images.holds c.made_at.new.images c.args.path.now in
    IfErr-weaker c.made_at.result _ _ (λ fault none. no_disk c.args.workers had has fault (subst (λ (h : Option (List ℕ)). HasNoImage c.args.workers h has fault) c.is_vacant.ensures.same none)) c.made_at.ensures.refused

pub returns-in-Ok-open-clause-ok : goal.returns-in-Ok-open-clause-ok
returns-in-Ok-open-clause-ok g c = inl (record { fresh = c.in-Ok-open.ensures.fresh; was = subst (λ (h : Option (List ℕ)). IsThere (g.D.Disk.device c.in-Ok-open.disk).now.bytes h) c.is_vacant.ensures.same c.in-Ok-open.ensures.ok })
