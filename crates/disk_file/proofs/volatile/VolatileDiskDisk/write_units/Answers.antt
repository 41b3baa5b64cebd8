use Rattle.std.proofs.Common.{◌≡◌, ◌+◌, ◌≤◌, ◌∙◌, ℕ, List, length, subst, sym, ap}
use Rattle.block_disk.specs.Bytes.{spliced}
use Rattle.block_disk.specs.Device.{Device, written_units, unit_ranges}
use Rattle.block_disk.specs.Images.{ImageBut, LeavesOnly}
use Rattle.block_disk.specs.Traced.{Traced}
use Rattle.block_disk.proofs.InUnits.{units_bytes, units_failures, units_leave}
use Rattle.disk_file.proofs.volatile.VolatileDiskDisk.write_units.Goals as goal

pub invariant_of-self : goal.invariant_of-self
invariant_of-self c =
    let d = c.self.inside.trace.past.device in
    let fits : c.args.at + length c.args.bytes.now ≤ length d.now.bytes = subst (λ (x : Device). c.args.at + length c.args.bytes.now ≤ length x.now.bytes) (sym c.self.view_is) c.requires.fits in (
      ap (λ (t : Traced). t.device.now.bytes) c.write_units.ensures ∙ units_bytes c.args.count c.args.at c.args.bytes.now d c.requires.whole fits
          ∙ ap (λ (xs : List ℕ). spliced xs c.args.at c.args.bytes.now) c.self.invariant.0 ∙ sym c.put.ensures,
      ap (λ (t : Traced). t.device.failures) c.write_units.ensures ∙ units_failures c.args.count c.args.at c.args.bytes.now d ∙ c.self.invariant.1,
    )

pub returns-clause-any_moment : goal.returns-clause-any_moment
returns-clause-any_moment c =
    let old : Device = c.args.self.now in
    let is : c.write_units.new.self.past.device ≡ written_units c.args.count c.args.at c.args.bytes.now old = ap (λ (t : Traced). t.device) c.write_units.ensures ∙ ap (written_units c.args.count c.args.at c.args.bytes.now) c.self.view_is in
    subst (λ (x : Device). LeavesOnly old x (ImageBut old (unit_ranges c.args.count c.args.at))) (sym is)
    (units_leave c.args.count c.args.at c.args.bytes.now old c.requires.whole c.requires.fits)
