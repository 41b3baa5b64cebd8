use Rattle.std.proofs.Common.{◌≡◌, ◌+◌, ◌-◌, ◌*◌, ◌/◌, ◌<◌, ◌≤◌, ◌∙◌, ℕ, List, [], ◌∷◌, true, length, take, drop, refl, ap, subst, arith, length-take, length-drop}
use Rattle.block_disk.specs.Device.{Device, range_of, written}
use Rattle.block_disk.specs.Images.{ImageBut, LeavesOnly}
use Rattle.block_disk.proofs.Images.{leaves_write}
use Rattle.block_disk.proofs.Bytes.{length_spliced}
use Rattle.block_disk.proofs.InUnits.{unit_follows, unit_always, unit_is, next_rest}
use Rattle.disk_journal.specs.Disks.{Layered, SameBelow}
use Rattle.disk_journal.proofs.journaled.JournaledDisk.write_units.Goals as goal

unit_long : (n i : ℕ) (bytes : List ℕ) → i < n → length bytes ≡ n * 16 → length (take 16 (drop (i * 16) bytes)) ≡ 16
unit_long n i bytes lt long = omega (arith, length-take 16 (drop (i * 16) bytes), length-drop (i * 16) bytes)

part_long : (n i : ℕ) (bytes : List ℕ) → i < n → length bytes ≡ n * 16 → length (take (i * 16 + 16 - i * 16) (drop (i * 16) bytes)) ≡ 16
part_long n i bytes lt long = ap (λ (xs : List ℕ). length xs) (unit_is i bytes) ∙ unit_long n i bytes lt long

-- its range
of_unit : (n i at : ℕ) (bytes : List ℕ) (old new : Device) → i < n → length bytes ≡ n * 16 → LeavesOnly old new (ImageBut old (range_of at (take (i * 16 + 16 - i * 16) (drop (i * 16) bytes)) ∷ []))
    → LeavesOnly old new (ImageBut old (record { start = at; len = 16 } ∷ []))
of_unit n i at bytes old new lt long one =
    subst (λ (k : ℕ). LeavesOnly old new (ImageBut old (record { start = at; len = k } ∷ []))) (part_long n i bytes lt long) one

below_then : (old mid new : Layered) → SameBelow old mid → SameBelow mid new → SameBelow old new
below_then old mid new a b = record { disk = b.disk ∙ a.disk; areas = b.areas ∙ a.areas; is_over = b.is_over ∙ a.is_over }

-- one unit more is four words more, at most
more_waits : (n i w v first : ℕ) (bytes : List ℕ) → i < n → length bytes ≡ n * 16 → v ≤ w + (length (take (i * 16 + 16 - i * 16) (drop (i * 16) bytes)) / 8 + 2)
    → w ≤ first + i * 4 → v ≤ first + (i + 1) * 4
more_waits n i w v first bytes lt long more was =
    let four : v ≤ w + (16 / 8 + 2) = subst (λ (k : ℕ). v ≤ w + (k / 8 + 2)) (part_long n i bytes lt long) more in
    omega (arith, four, was)

pub returns-in-Err-clause-any_moment : goal.returns-in-Err-clause-any_moment
returns-in-Err-clause-any_moment g c =
    let w = c.write_at.ensures in
    let first = c.args.self.now.device in
    let old = c.loop-i.self.device in
    let new = c.write_at.new.self.device in
    let one = of_unit c.args.count c.loop-i.i (c.args.at + c.loop-i.i * 16) c.args.units.now old new c.loop-i-test.true c.requires.whole
    (leaves_write _ _ old new c.write_at.result w.in_range w.ok w.out_of_range w.fault) in
    unit_follows c.args.count c.args.at c.loop-i.i first old new c.loop-i-test.true c.loop-i.invariant.crash c.loop-i.invariant.any_moment one

pub returns-in-Err-clause-below : goal.returns-in-Err-clause-below
returns-in-Err-clause-below g c = below_then c.args.self.now c.loop-i.self c.write_at.new.self c.loop-i.invariant.below c.write_at.ensures.below

pub loop-i-preserved : goal.loop-i-preserved
loop-i-preserved g c =
    let w = c.write_at.ensures in
    let i = c.loop-i.i in
    let bytes = c.args.units.now in
    let first : Device = c.args.self.now.device in
    let old : Device = c.loop-i.self.device in
    let new : Device = c.write_at.new.self.device in
    let unit : List ℕ = take 16 (drop (i * 16) bytes) in
    let made : new ≡ written (c.args.at + i * 16) unit old = c.in-Ok.ensures.ok ∙ ap (λ (xs : List ℕ). written (c.args.at + i * 16) xs old) (unit_is i bytes) in
    let long : length unit ≡ 16 = unit_long c.args.count i bytes c.loop-i-test.true c.requires.whole in
    let lt : i < c.args.count = c.loop-i-test.true in
    let fits : c.args.at + i * 16 + length unit ≤ length old.now.bytes = omega (arith, c.loop-i.invariant.size, c.requires.fits, c.requires.whole) in
    let one = of_unit c.args.count i (c.args.at + i * 16) bytes old new lt c.requires.whole
    (leaves_write _ _ old new c.write_at.result w.in_range w.ok w.out_of_range w.fault) in
    record {
      rest = next_rest c.args.count i c.args.at bytes old new lt made ∙ c.loop-i.invariant.rest;
      size = ap (λ (d : Device). length d.now.bytes) made ∙ length_spliced old.now.bytes unit (c.args.at + i * 16) fits ∙ c.loop-i.invariant.size;
      failures = ap (λ (d : Device). d.failures) made ∙ c.loop-i.invariant.failures;
      crash = unit_always c.args.count c.args.at i first old new lt c.loop-i.invariant.crash one;
      any_moment = unit_follows c.args.count c.args.at i first old new lt c.loop-i.invariant.crash c.loop-i.invariant.any_moment one;
      below = below_then c.args.self.now c.loop-i.self c.write_at.new.self c.loop-i.invariant.below w.below;
      waiting = more_waits c.args.count i c.loop-i.self.waiting c.write_at.new.self.waiting c.args.self.now.waiting bytes lt c.requires.whole w.waiting
          c.loop-i.invariant.waiting;
      stamp = w.stamp ∙ c.loop-i.invariant.stamp;
      over = λ stopped. absurd (c.in-Ok.ensures.over (c.loop-i.invariant.below.is_over ∙ stopped) refl);
    }
