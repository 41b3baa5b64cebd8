use Rattle.std.proofs.Common.{◌≡◌, List, ℕ, subst, sym, rules}
use Rattle.disk_file.specs.Backing.{ReadsSettled, bytes_at}
use Rattle.disk_file.proofs.WrittenBack.{found_lacks}
use Rattle.disk_file.proofs.buffered.BufferedDisk.found.Goals as goal

pub returns-clause-lacks : goal.returns-clause-lacks
returns-clause-lacks g c =
    let is : c.deref.result.now ≡ c.in_ok-bytes.bytes.items = search rules in
    let new = g.F.BackingFile.holds c.read_whole.new.file in
    rw (c.of-trace.ensures)
    (found_lacks (bytes_at c.args.places.now) c.deref.result.now (g.F.BackingFile.holds c.args.file) new c.in_ok-bytes.ensures.found
    (subst (λ (xs : List ℕ). ReadsSettled xs new) (sym is) c.in_ok-bytes.ensures.settled))
