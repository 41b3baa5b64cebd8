use Rattle.std.proofs.Common.{rules, ◌≡◌, ℕ, ◌++◌, take, drop, length, ◌∙◌, subst}
use Rattle.std.proofs.Math.Seq.{take-append_seam}
use Rattle.disk_sectors.proofs.label.begin_with.Goals as goal

pub returns-clause-begun : goal.returns-clause-begun
returns-clause-begun c =
    let new = c.copy_from_slice.new.self in
    let long : length new ≡ 16 = search rules in
    let is : new ≡ c.args.label.now = search rules in
    subst (λ (n : ℕ). take n (new ++ drop 16 c.args.bytes.now) ≡ new) long (take-append_seam new (drop 16 c.args.bytes.now)) ∙ is
