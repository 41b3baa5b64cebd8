use Rattle.std.proofs.Common.{◌≡◌, ℕ, ◌+◌, ◌*◌, ◌-◌, [], ◌++◌, ◌<◌, take, drop, length, sym, ap, ◌∙◌, subst, arith}
use Rattle.std.specs.Prelude.{All}
use Rattle.std.proofs.Math.Seq.{take-add}
use Rattle.std.proofs.lemmas.List.{take_more_set, flat_map_more}
use Rattle.std.proofs.lemmas.List.Elements.{All-push}
use Rattle.image_parts.specs.Rows.{rows_bytes, row_bytes, FitsRow}
use Rattle.image_parts.proofs.lane_row.decode_rows.Goals as goal

pub loop-i-preserved : goal.loop-i-preserved
loop-i-preserved c =
    let i = c.loop-i.i in
    let bytes = c.args.bytes.now in
    let rows = c.loop-i.rows in
    let row = c.decode_row.result in
    let one : take (32 * i + 32 - 32 * i) (drop (32 * i) bytes) ≡ row_bytes row = c.decode_row.ensures.spelled in
    let wide : 32 * i + 32 - 32 * i ≡ 32 = omega arith in
    let next : 32 * (i + 1) ≡ 32 * i + 32 = omega arith in
    let below : i < length rows = omega arith in
    let more = take_more_set rows i row below in
    record {
      spelled = ap (λ (n : ℕ). take n bytes) next ∙ take-add (32 * i) 32 bytes
          ∙ (λ j. c.loop-i.invariant.spelled j ++ (ap (λ (n : ℕ). take n (drop (32 * i) bytes)) (sym wide) ∙ one) j)
          ∙ flat_map_more row_bytes [] (take i rows) row
          ∙ ap rows_bytes (sym more);
      fits = subst (All FitsRow) (sym more) (All-push FitsRow (take i rows) row c.loop-i.invariant.fits c.decode_row.ensures.fits);
    }
