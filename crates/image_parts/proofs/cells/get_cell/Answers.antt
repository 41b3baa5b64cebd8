use Rattle.std.proofs.Common.{◌≡◌, ◌+◌, ◌∙◌, List, ℕ, ap, sym, arith}
use Rattle.block_disk.specs.Bytes.{part}
use Rattle.block_disk.proofs.Bytes.{part_part}
use Rattle.image_parts.specs.Layout.{cell_at}
use Rattle.image_parts.proofs.cells.get_cell.Goals as goal

pub returns-clause-ok : goal.returns-clause-ok
returns-clause-ok g c =
    let image = (g.D.Disk.device c.args.disk.now).now.bytes in
    let at = c.home_cell.result in
    let is : cell_at c.args.layout.now c.args.field.0 ≡ at + 0 = omega (arith, c.home_cell.ensures) in
    record {
      spelled = ap (λ (k : ℕ). part k 8 image) is ∙ sym (part_part 0 8 at 8 image (omega arith))
          ∙ ap (λ (bytes : List ℕ). part 0 8 bytes) (sym c.in_ok-read_within.ensures.ok) ∙ sym c.u64_at.ensures.spelled;
      fits = omega arith;
    }
