use Rattle.std.proofs.Common.{IfSome, subst, sym}
use Rattle.block_disk.specs.Device.{Image}
use Rattle.disk_file.specs.Mirror.{LacksIn, Mirror}
use Rattle.disk_file.specs.Backing.{CrashesAs}
use Rattle.disk_file.proofs.Unwritten.{crashes, possible}
use Rattle.disk_file.proofs.buffered.BufferedDisk.possible_law.Goals as goal

pub returns-clause-reads : goal.returns-clause-reads
returns-clause-reads g c =
    let d = c.self.inside in
    subst (λ (m : Mirror). IfSome m.file (λ h. Image m.device.now h.reads)) c.self.view_is
    (possible d.trace.past.device d.bytes.items d.unwritten.items (g.F.BackingFile.holds d.file) c.self.invariant.buffered)

pub returns-clause-crash : goal.returns-clause-crash
returns-clause-crash g c stale lacks =
    let d = c.self.inside in
    subst (λ (m : Mirror). CrashesAs stale m.device.now m.file) c.self.view_is
    (crashes stale d.trace.past.device d.bytes.items d.unwritten.items (g.F.BackingFile.holds d.file) c.self.invariant.buffered
    (subst (λ (m : Mirror). LacksIn stale m) (sym c.self.view_is) lacks))
