use Rattle.std.proofs.Common.{inl, inr, ◌+◌, ◌*◌, ◌<◌, ◌≤◌, length, subst}
use Rattle.disk_sectors.specs.declared.size.SectorSize.{SectorSize}
use Rattle.disk_sectors.specs.Size.{bytes_in}
use Rattle.disk_sectors.proofs.Beginnings.{room_is, room_wants}
use Rattle.disk_sectors.proofs.opening.has_room.Goals as goal

pub returns-then-most-lt2-clause-wanting : goal.returns-then-most-lt2-clause-wanting
returns-then-most-lt2-clause-wanting g c = λ no.
    let n = length (g.S.Sectors.device c.args.sectors.now).now.bytes in
    let whole : n < c.count-most.result * bytes_in c.args.size + bytes_in c.args.size =
    subst (λ (s : SectorSize). n < c.count-most.result * bytes_in s + bytes_in s) c.requires.size c.count-most.ensures.whole in
    room_wants c.args.size c.count-most.result c.args.count n whole (inl c.if-most-lt2.true)

pub returns-then-room-wanted-clause-wanting : goal.returns-then-room-wanted-clause-wanting
returns-then-room-wanted-clause-wanting g c = λ no.
    let n = length (g.S.Sectors.device c.args.sectors.now).now.bytes in
    let whole : n < c.count-most.result * bytes_in c.args.size + bytes_in c.args.size =
    subst (λ (s : SectorSize). n < c.count-most.result * bytes_in s + bytes_in s) c.requires.size c.count-most.ensures.whole in
    room_wants c.args.size c.count-most.result c.args.count n whole (inr c.if-room-wanted.true)

pub returns-clause-enough : goal.returns-clause-enough
returns-clause-enough g c = λ yes.
    let n = length (g.S.Sectors.device c.args.sectors.now).now.bytes in
    let within : c.count-most.result * bytes_in c.args.size ≤ n = subst (λ (s : SectorSize). c.count-most.result * bytes_in s ≤ n) c.requires.size c.count-most.ensures.within in
    room_is c.args.size c.count-most.result c.args.count n within c.if-most-lt2.false c.if-room-wanted.false
