use Rattle.std.proofs.Common.{◌≡◌, ◌≤◌, length, sym, arith}
use Rattle.std.proofs.lemmas.List.{length-take-le}
use Rattle.image_parts.proofs.head.header_in.Goals as goal

pub slice_bounds-copy_from_slice-end-2 : goal.slice_bounds-copy_from_slice-end-2
slice_bounds-copy_from_slice-end-2 c =
    let long = c.requires in
    let few : 64 ≤ length c.args.begun.now = omega (arith, long) in
    sym (length-take-le 64 c.args.begun.now few)

pub copy_from_slice-requires : goal.copy_from_slice-requires
copy_from_slice-requires c =
    let long = c.requires in
    let few : 64 ≤ length c.args.begun.now = omega (arith, long) in
    sym (length-take-le 64 c.args.begun.now few)
