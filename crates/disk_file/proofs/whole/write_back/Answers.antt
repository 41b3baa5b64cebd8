use Rattle.std.proofs.Common.{◌≡◌, ℕ, List, ◌∷◌, length, subst, arith, rules}
use Rattle.block_disk.specs.Device.{IsClear}
use Rattle.disk_file.specs.Backing.{bytes_at}
use Rattle.disk_file.proofs.WrittenBack.{stage_end, stage_next, stage_skip, stage_torn}
use Rattle.disk_file.proofs.whole.write_back.Goals as goal

pub returns-in-Err-clause-loses : goal.returns-in-Err-clause-loses
returns-in-Err-clause-loses g c =
    let split : c.loop-first.rest.now ≡ c.in-Some.first.now ∷ c.in-Some.later.now = search rules in
    stage_torn c.args.len c.args.places.now c.loop-first.rest.now c.in-Some.later.now c.in-Some.first.now (g.F.BackingFile.holds c.args.file.now)
    (g.F.BackingFile.holds c.loop-first.file) (g.F.BackingFile.holds c.write_back.new.self) split c.loop-first.invariant.1 c.loop-first.invariant.0 c.in-Err.ensures.err

pub loop-first-preserved-in_default-write_back : goal.loop-first-preserved-in_default-write_back
loop-first-preserved-in_default-write_back g c =
    let split : c.loop-first.rest.now ≡ c.in-Some.first.now ∷ c.in-Some.later.now = search rules in (
      stage_next c.args.len c.args.places.now c.loop-first.rest.now c.in-Some.later.now c.in-Some.first.now (g.F.BackingFile.holds c.args.file.now)
          (g.F.BackingFile.holds c.loop-first.file) (g.F.BackingFile.holds c.write_back.new.self) split (omega (arith, c.if-first-len.true))
          c.loop-first.invariant.1 c.loop-first.invariant.0 c.in_default-write_back.ensures.ok,
      λ i clear. (subst (λ (ps : List ℕ). IsClear i (bytes_at ps)) split (c.loop-first.invariant.1 i clear)).1,
    )

pub loop-first-preserved : goal.loop-first-preserved
loop-first-preserved g c =
    let split : c.loop-first.rest.now ≡ c.in-Some.first.now ∷ c.in-Some.later.now = search rules in (
      stage_skip c.args.len c.args.places.now c.loop-first.rest.now c.in-Some.later.now c.in-Some.first.now (g.F.BackingFile.holds c.args.file.now)
          (g.F.BackingFile.holds c.loop-first.file) split (omega (arith, c.if-first-len.false)) c.loop-first.invariant.0,
      λ i clear. (subst (λ (ps : List ℕ). IsClear i (bytes_at ps)) split (c.loop-first.invariant.1 i clear)).1,
    )

pub returns-clause-ok : goal.returns-clause-ok
returns-clause-ok g c =
    let empty : length c.loop-first.rest.now ≡ 0 = search rules in
    stage_end c.args.len c.args.places.now c.loop-first.rest.now (g.F.BackingFile.holds c.args.file.now) (g.F.BackingFile.holds c.loop-first.file) empty c.loop-first.invariant.0
