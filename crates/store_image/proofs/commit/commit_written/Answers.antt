use Rattle.std.proofs.Common.{ℕ, ◌≡◌, ◌+◌, Err, refl, ap, ⊎_elim, arith}
use Rattle.image.specs.Commit.{turned_sequence}
use Rattle.image_parts.specs.Control.{control_of}
use Rattle.store_image.specs.declared.committed.Committed.{Committed}
use Rattle.store_image.proofs.Pending.{turned_same}
use Rattle.store_image.proofs.Sequences.{turn_up_to, turned_up_to}
use Rattle.store_image.proofs.Within.{turn_within}
use Rattle.store_image.proofs.commit.commit_written.Goals as goal

pub returns-in-Ok-clause-commits : goal.returns-in-Ok-clause-commits
returns-in-Ok-clause-commits g c =
    let l = c.args.layout.now in
    let d = g.D.Disk.device c.args.disk.now in
    let e = g.D.Disk.device c.commit_by_turning.new.disk in
    let was : Committed = c.args.committed.now in
    let old = control_of was.sequence was.rows in
    let turned : ℕ = turned_sequence was.slot was.sequence d.now.bytes in
    let next = control_of turned c.args.rows.now in
    let left = c.commit_by_turning.ensures.commits.any_moment old c.requires.steady refl in
    let up = turned_up_to l d was.slot old c.requires.steady in
    record {
      ok = λ i. record { slot = c.in-Ok.ensures.made.0 i; sequence = c.in-Ok.ensures.made.1 i; rows = c.args.rows.now };
      steady = c.in-Ok.ensures.commits.ok;
      same = turned_same l was.slot d e old next c.requires.steady left c.in-Ok.ensures.commits.ok;
      only_fault = tt;
      any_moment = left;
      takes = record {
        err = tt;
        sequence = omega (arith, c.in-Ok.ensures.made.1, up);
        any_sequence = turn_up_to l d e was.slot old next (was.sequence + 1) (omega arith) up left;
        within = turn_within l d e was.slot old next left;
        cause = record { later = c.commit_by_turning.ensures.commits.cause.later; failed = λ is. absurd cc };
      };
    }

pub returns-in-Err-clause-commits : goal.returns-in-Err-clause-commits
returns-in-Err-clause-commits g c =
    let l = c.args.layout.now in
    let d = g.D.Disk.device c.args.disk.now in
    let e = g.D.Disk.device c.commit_by_turning.new.disk in
    let was : Committed = c.args.committed.now in
    let old = control_of was.sequence was.rows in
    let turned : ℕ = turned_sequence was.slot was.sequence d.now.bytes in
    let next = control_of turned c.args.rows.now in
    let left = c.commit_by_turning.ensures.commits.any_moment old c.requires.steady refl in
    record {
      ok = tt;
      steady = tt;
      same = tt;
      only_fault = refl;
      any_moment = left;
      takes = record {
        err = refl;
        sequence = omega arith;
        any_sequence = turn_up_to l d e was.slot old next (was.sequence + 1) (omega arith) (turned_up_to l d was.slot old c.requires.steady) left;
        within = turn_within l d e was.slot old next left;
        cause = record {
          later = c.commit_by_turning.ensures.commits.cause.later;
          failed = λ is. ⊎_elim (λ worn. absurd (omega (arith, c.in-Err.ensures.worn.0 (ap Err worn), c.requires.sequence))) (λ fault. c.in-Err.ensures.commits.cause.failed (ap Err fault)) c.in-Err.ensures.no_other;
        };
      };
    }
