use Rattle.std.proofs.Common.{◌≡◌, ◌+◌, ◌/◌, ℕ, Bool, true, false, List, get_or, length, ap, subst, arith}
use Rattle.disk_sectors.specs.Size.{bytes_in}
use Rattle.disk_sectors.proofs.Sizes.{marked_apart, marked_within, some_bytes}
use Rattle.disk_sectors.proofs.marks.Marks.mark.Goals as goal

pub nonzero_div-from : goal.nonzero_div-from
nonzero_div-from c =
    let some = some_bytes c.args.size in
    omega (arith, some, c.bytes.ensures)

pub mark_all-requires : goal.mark_all-requires
mark_all-requires c =
    let most = marked_within c.args.size (c.args.at + c.args.len) c.sectors_of-to.result (length c.args.self.now) c.requires.fits c.sectors_of-to.ensures.least in
    omega (arith, most, ap (λ (xs : List Bool). length xs) c.self.view_is)

pub returns-clause-marked : goal.returns-clause-marked
returns-clause-marked c = λ i clear.
    let was = c.mark_all.ensures.marked i clear in
    let from : c.args.at / c.bytes.result ≡ c.args.at / bytes_in c.args.size = ap (λ (n : ℕ). c.args.at / n) c.bytes.ensures in (
      subst (λ (xs : List Bool). get_or xs i true ≡ false) c.self.view_is was.0,
      marked_apart c.args.size c.args.at c.args.len i (c.args.at / c.bytes.result) c.sectors_of-to.result from c.sectors_of-to.ensures.within was.1,
    )
