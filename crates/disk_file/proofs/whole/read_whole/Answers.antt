use Rattle.std.proofs.Common.{◌≡◌, ℕ, length, option_map, subst, sym, rules}
use Rattle.disk_file.specs.Backing.{HasFound, HasWrittenBackAll, MayLose, bytes_at, settled}
use Rattle.disk_file.proofs.WrittenBack.{found_all, may_end}
use Rattle.disk_file.proofs.whole.read_whole.Goals as goal

pub returns-in-Err-settle-clause-loses : goal.returns-in-Err-settle-clause-loses
returns-in-Err-settle-clause-loses g c =
    let places = c.args.places.now in
    let mid = g.F.BackingFile.holds c.write_back.new.file in
    may_end c.len.result places (g.F.BackingFile.holds c.args.file.now) mid (g.F.BackingFile.holds c.settle.new.self)
    (subst (λ h. HasWrittenBackAll c.len.result places h mid) c.in-Ok.ensures.synced c.in_default.ensures.ok)
    (subst (λ h. MayLose (bytes_at places) h mid) c.in-Ok.ensures.synced c.write_back.ensures.loses) c.in-Err-settle.ensures.err

pub returns-clause-found : goal.returns-clause-found
returns-clause-found g c =
    let places = c.args.places.now in
    let file = g.F.BackingFile.holds c.args.file.now in
    let mid = g.F.BackingFile.holds c.write_back.new.file in
    let long : c.len.result ≡ length c.in-Ok.bytes.items = search rules in
    subst (λ h. HasFound (bytes_at places) file h) (sym c.in_default-settle.ensures.ok)
    (found_all places c.in-Ok.bytes.items file mid c.in-Ok.ensures.given
    (subst (λ (n : ℕ). HasWrittenBackAll n places (option_map settled file) mid) long
    (subst (λ h. HasWrittenBackAll c.len.result places h mid) c.in-Ok.ensures.synced c.in_default.ensures.ok)))
