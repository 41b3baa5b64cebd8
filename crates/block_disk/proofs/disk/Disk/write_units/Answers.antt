use Rattle.std.proofs.Common.{◌≡◌, ◌+◌, ◌-◌, ◌*◌, ◌<◌, ◌≤◌, ◌∙◌, ℕ, List, [], ◌∷◌, length, take, drop, ap, subst, arith, length-take, length-drop}
use Rattle.block_disk.specs.Device.{Device, range_of, written}
use Rattle.block_disk.specs.Images.{ImageBut, LeavesOnly}
use Rattle.block_disk.proofs.Images.{leaves_write}
use Rattle.block_disk.proofs.Bytes.{length_spliced}
use Rattle.block_disk.proofs.InUnits.{unit_follows, unit_always, unit_is, next_rest}
use Rattle.block_disk.proofs.disk.Disk.write_units.Goals as goal

unit_long : (n i : ℕ) (bytes : List ℕ) → i < n → length bytes ≡ n * 16 → length (take 16 (drop (i * 16) bytes)) ≡ 16
unit_long n i bytes lt long = omega (arith, length-take 16 (drop (i * 16) bytes), length-drop (i * 16) bytes)

-- its range
of_unit : (n i at : ℕ) (bytes : List ℕ) (old new : Device) → i < n → length bytes ≡ n * 16 → LeavesOnly old new (ImageBut old (range_of at (take (i * 16 + 16 - i * 16) (drop (i * 16) bytes)) ∷ []))
    → LeavesOnly old new (ImageBut old (record { start = at; len = 16 } ∷ []))
of_unit n i at bytes old new lt long one =
    subst (λ (k : ℕ). LeavesOnly old new (ImageBut old (record { start = at; len = k } ∷ []))) (ap (λ (xs : List ℕ). length xs) (unit_is i bytes) ∙ unit_long n i bytes lt long) one

pub returns-in-Err-clause-any_moment : goal.returns-in-Err-clause-any_moment
returns-in-Err-clause-any_moment g c =
    let w = c.write_at.ensures in
    let first : Device = g.Self.Disk.device c.args.self.now in
    let old : Device = g.Self.Disk.device c.loop-i.self in
    let new : Device = g.Self.Disk.device c.write_at.new.self in
    let one = of_unit c.args.count c.loop-i.i (c.args.at + c.loop-i.i * 16) c.args.bytes.now old new c.loop-i-test.true c.requires.whole (leaves_write _ _ old new c.write_at.result w.in_range w.ok w.out_of_range w.fault) in
    unit_follows c.args.count c.args.at c.loop-i.i first old new c.loop-i-test.true c.loop-i.invariant.crash c.loop-i.invariant.any_moment one

pub loop-i-preserved : goal.loop-i-preserved
loop-i-preserved g c =
    let w = c.write_at.ensures in
    let i = c.loop-i.i in
    let bytes = c.args.bytes.now in
    let first : Device = g.Self.Disk.device c.args.self.now in
    let old : Device = g.Self.Disk.device c.loop-i.self in
    let new : Device = g.Self.Disk.device c.write_at.new.self in
    let unit : List ℕ = take 16 (drop (i * 16) bytes) in
    let made : new ≡ written (c.args.at + i * 16) unit old = c.in-Ok.ensures.ok ∙ ap (λ (xs : List ℕ). written (c.args.at + i * 16) xs old) (unit_is i bytes) in
    let long : length unit ≡ 16 = unit_long c.args.count i bytes c.loop-i-test.true c.requires.whole in
    let lt : i < c.args.count = c.loop-i-test.true in
    let fits : c.args.at + i * 16 + length unit ≤ length old.now.bytes = omega (arith, c.loop-i.invariant.size, c.requires.fits, c.requires.whole) in
    let one = of_unit c.args.count i (c.args.at + i * 16) bytes old new lt c.requires.whole (leaves_write _ _ old new c.write_at.result w.in_range w.ok w.out_of_range w.fault) in
    record {
      rest = next_rest c.args.count i c.args.at bytes old new lt made ∙ c.loop-i.invariant.rest;
      size = ap (λ (d : Device). length d.now.bytes) made ∙ length_spliced old.now.bytes unit (c.args.at + i * 16) fits ∙ c.loop-i.invariant.size;
      failures = ap (λ (d : Device). d.failures) made ∙ c.loop-i.invariant.failures;
      crash = unit_always c.args.count c.args.at i first old new lt c.loop-i.invariant.crash one;
      any_moment = unit_follows c.args.count c.args.at i first old new lt c.loop-i.invariant.crash c.loop-i.invariant.any_moment one;
    }
