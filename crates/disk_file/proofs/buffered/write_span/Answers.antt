use Rattle.std.proofs.Common.{◌≡◌, ◌+◌, ◌-◌, ◌≤◌, ℕ, length, arith, subst, sym, ◌∙◌}
use Rattle.block_disk.specs.Bytes.{part}
use Rattle.block_disk.specs.Device.{IsClear, IsOutside}
use Rattle.block_disk.proofs.Bytes.{length_part}
use Rattle.disk_file.specs.Backing.{IsPendingIn}
use Rattle.disk_file.proofs.Again.{either_way, same_range, waits_put, waits_torn}
use Rattle.disk_file.proofs.buffered.write_span.Goals as goal

pub returns-clause-waits : goal.returns-clause-waits
returns-clause-waits g c ranges covers was =
    let from = c.start-start.result in
    let n = from + c.len.result - from in
    let content = part from n c.args.bytes.now in
    let less : n ≡ c.args.span.now.len = omega (arith, c.len.ensures) in
    let fits : from + n ≤ length c.args.bytes.now = omega (arith, less, c.start-start.ensures, c.requires) in
    let long : length content ≡ c.args.span.now.len = length_part from n c.args.bytes.now fits ∙ less in
    let apart : (i : ℕ) → IsClear i ranges → IsOutside i (record { start = c.start.result; len = length content }) =
    λ i clear. same_range i c.start.result (length content) c.args.span.now c.start.ensures long (covers i clear) in
    either_way c.write_to.result c.write_to.ensures.ok c.write_to.ensures.err
    (λ put. subst (λ h. IsPendingIn ranges h) (sym put) (waits_put ranges content c.start.result (g.F.BackingFile.holds c.args.file.now) apart was))
    (λ torn. waits_torn ranges c.start.result (length content) (g.F.BackingFile.holds c.args.file.now) (g.F.BackingFile.holds c.write_to.new.self) apart torn was)
