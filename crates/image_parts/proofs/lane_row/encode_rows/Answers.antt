use Rattle.std.proofs.Common.{◌≡◌, ◌+◌, ◌*◌, ◌≤◌, ◌-◌, ◌++◌, length, get_or, sym, ap, ◌∙◌, arith}
use Rattle.std.proofs.lemmas.Slice.{take-put_mid}
use Rattle.image_parts.specs.Rows.{row_bytes, empty_row}
use Rattle.image_parts.proofs.Numbers.{flat_map_next}
use Rattle.image_parts.proofs.lane_row.encode_rows.Goals as goal

pub loop-i-preserved : goal.loop-i-preserved
loop-i-preserved c =
    let i = c.loop-i.i in
    let rows = c.args.rows.now in
    let one : c.encode_row.new.bytes ≡ row_bytes (get_or rows i empty_row) = c.encode_row.ensures in
    let long : length c.encode_row.new.bytes ≡ 32 = ap length one in
    let room : 32 * i ≤ length c.loop-i.bytes = omega arith in
    take-put_mid (32 * i) (32 * i + 32 - 32 * i) c.loop-i.bytes c.encode_row.new.bytes (32 * (i + 1)) (omega arith) room
    ∙ (λ j. c.loop-i.invariant j ++ one j)
    ∙ sym (flat_map_next row_bytes rows i empty_row c.loop-i-test.true)
