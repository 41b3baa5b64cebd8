use Rattle.std.proofs.Common.{◌≡◌, ◌+◌, ◌<◌, arith}
use Rattle.guards.specs.Schema.{field_count}
use Rattle.pool.proofs.LayingOut.{lays_out}
use Rattle.pool.proofs.pool.Pool.lay_out.Goals as goal

pub returns : goal.returns
returns c =
    let d = c.args.builder.now in
    let declared = c.in_ok-declare.ensures.answer in
    let head : c.fields-head.result ≡ field_count d = c.fields-head.ensures.count in
    let room : field_count d + c.args.slots < 16384 = omega (arith, c.if-head-slots-ge-MOST_FIELDS.false) in
    record { answer = lays_out d c.declare.new.builder c.args.name.now c.args.slots c.at.result c.requires.some c.in_ok-test_names.ensures.answer (declared.0, room) declared.1 (omega (arith, c.at.ensures.head)) c.at.ensures.slots }
