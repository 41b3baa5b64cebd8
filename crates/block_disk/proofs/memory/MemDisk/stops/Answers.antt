use Rattle.std.proofs.Common.{◌≡◌, length, ap, sym, ◌∙◌, rules}
use Rattle.block_disk.specs.Memory.{Memory}
use Rattle.block_disk.proofs.Kept.{length_stops}
use Rattle.block_disk.proofs.memory.MemDisk.stops.Goals as goal

pub returns : goal.returns
returns c = let is : c.len.result ≡ length c.self.inside.calls.items = search rules in is ∙ sym (length_stops c.self.inside.calls.items) ∙ ap (λ (m : Memory). length m.stops) c.self.view_is
