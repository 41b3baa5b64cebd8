use Rattle.std.proofs.Common.{◌≡◌, ◌+◌, ℕ, List, [], ◌∷◌, get_or, arith, ap, sym, ◌∙◌}
use Rattle.block_disk.proofs.Bytes.{get_or_part}
use Rattle.block_disk.specs.Bytes.{part}
use Rattle.block_disk.specs.Device.{Device, written}
use Rattle.image.proofs.Commits.{closes}
use Rattle.image.proofs.Spares.{shutting_open, shutting_shut}
use Rattle.image.proofs.pending.shut.Goals as goal

read : (xs out : List ℕ) (at : ℕ) → out ≡ part at 1 xs → get_or out 0 0 ≡ 165 → get_or xs at 0 ≡ 165
read xs out at is was =
    let zero : at ≡ at + 0 = omega arith in
    ap (λ (k : ℕ). get_or xs k 0) zero ∙ sym (get_or_part at 1 xs 0 (omega arith)) ∙ ap (λ (l : List ℕ). get_or l 0 0) (sym is) ∙ was

back : (xs out : List ℕ) (at : ℕ) → out ≡ part at 1 xs → get_or xs at 0 ≡ 165 → get_or out 0 0 ≡ 165
back xs out at is was =
    let zero : at ≡ at + 0 = omega arith in
    ap (λ (l : List ℕ). get_or l 0 0) is ∙ get_or_part at 1 xs 0 (omega arith) ∙ ap (λ (k : ℕ). get_or xs k 0) (sym zero) ∙ was

pub returns-in_err-write_within-clause-any_moment : goal.returns-in_err-write_within-clause-any_moment
returns-in_err-write_within-clause-any_moment g c =
    let old = g.D.Disk.device c.args.disk.now in
    closes old (g.D.Disk.device c.read_within.new.disk) (g.D.Disk.device c.write_within.new.disk) c.args.at c.read_within.ensures.same
    (read old.now.bytes c.read_within.new.out c.args.at c.in_ok-read_within.ensures.ok c.if-gate.true) c.write_within.ensures.any_moment

pub returns-in_ok-write_within-clause-any_moment : goal.returns-in_ok-write_within-clause-any_moment
returns-in_ok-write_within-clause-any_moment g c =
    let old = g.D.Disk.device c.args.disk.now in
    closes old (g.D.Disk.device c.read_within.new.disk) (g.D.Disk.device c.write_within.new.disk) c.args.at c.read_within.ensures.same
    (read old.now.bytes c.read_within.new.out c.args.at c.in_ok-read_within.ensures.ok c.if-gate.true) c.write_within.ensures.any_moment

pub returns-in_ok-write_within-clause-calls : goal.returns-in_ok-write_within-clause-calls
returns-in_ok-write_within-clause-calls g c =
    let old = g.D.Disk.device c.args.disk.now in
    c.in_ok-write_within.ensures.ok ∙ ap (λ (d : Device). written c.args.at (0 ∷ []) d) c.in_ok-read_within.ensures.untouched
    ∙ sym (shutting_open c.args.at old (read old.now.bytes c.read_within.new.out c.args.at c.in_ok-read_within.ensures.ok c.if-gate.true))

pub returns-else-gate-clause-calls : goal.returns-else-gate-clause-calls
returns-else-gate-clause-calls g c =
    let old = g.D.Disk.device c.args.disk.now in
    c.in_ok-read_within.ensures.untouched ∙ sym (shutting_shut c.args.at old (λ is. c.if-gate.false (back old.now.bytes c.read_within.new.out c.args.at c.in_ok-read_within.ensures.ok is)))
