use Rattle.std.proofs.Common.{◌≡◌, List, ℕ, subst, sym, rules}
use Rattle.block_disk.specs.Device.{Range}
use Rattle.disk_file.specs.Backing.{KeepsAllBut, KeepsStill}
use Rattle.disk_file.specs.Mirror.{LacksIn, Mirror}
use Rattle.disk_file.proofs.Unwritten.{lacks_after_fault, lacks_after_sync}
use Rattle.disk_file.proofs.buffered.BufferedDiskDisk.sync.Goals as goal

pub returns-in-Err-clause-lacks : goal.returns-in-Err-clause-lacks
returns-in-Err-clause-lacks g c stale had =
    let d = c.self.inside in
    let us : List Range = d.unwritten.items in
    let old = g.F.BackingFile.holds d.file in
    let new = g.F.BackingFile.holds c.flush.new.file in
    let us_is : c.deref.result.now ≡ us = search rules in
    let bytes_is : c.deref-2.result.now ≡ d.bytes.items = search rules in
    let still = subst (λ (xs : List Range). KeepsStill xs d.bytes.items old new) us_is
    (subst (λ (xs : List ℕ). KeepsStill c.deref.result.now xs old new) bytes_is c.in-Err.ensures.still) in
    lacks_after_fault d.trace.past.device d.bytes.items us old new c.self.invariant.buffered still stale (subst (λ (m : Mirror). LacksIn stale m) (sym c.self.view_is) had)

pub returns-clause-lacks : goal.returns-clause-lacks
returns-clause-lacks g c stale had =
    let d = c.self.inside in
    let us : List Range = d.unwritten.items in
    let old = g.F.BackingFile.holds d.file in
    let new = g.F.BackingFile.holds c.flush.new.file in
    let us_is : c.deref.result.now ≡ us = search rules in
    let bytes_is : c.deref-2.result.now ≡ d.bytes.items = search rules in
    let kept = subst (λ (xs : List Range). KeepsAllBut xs d.bytes.items old new) us_is
    (subst (λ (xs : List ℕ). KeepsAllBut c.deref.result.now xs old new) bytes_is c.in_default.ensures.kept) in
    rw (c.sync.ensures)
    (lacks_after_sync d.trace.past.device d.bytes.items us old new c.self.invariant.buffered kept stale (subst (λ (m : Mirror). LacksIn stale m) (sym c.self.view_is) had))
