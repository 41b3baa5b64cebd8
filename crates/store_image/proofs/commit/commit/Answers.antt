use Rattle.std.proofs.Common.{◌≡◌, ◌+◌, Err, refl, ap, ⊎_elim, arith}
use Rattle.image_parts.specs.Control.{control_of}
use Rattle.image_parts.specs.declared.slot.Slot.{Slot}
use Rattle.store_image.specs.declared.committed.Committed.{Committed}
use Rattle.store_image.proofs.Rewriting.{committed_same}
use Rattle.store_image.proofs.Sequences.{new_up_to}
use Rattle.store_image.proofs.Within.{commit_within}
use Rattle.store_image.proofs.commit.commit.Goals as goal

pub returns-in-Ok : goal.returns-in-Ok
returns-in-Ok g c =
    let l = c.args.layout.now in
    let d = g.D.Disk.device c.args.disk.now in
    let e = g.D.Disk.device c.commit_control.new.disk in
    let was : Committed = c.args.committed.now in
    let old = control_of was.sequence was.rows in
    let next = control_of (was.sequence + 1) c.args.rows.now in
    let left = c.commit_control.ensures.commits.any_moment old c.requires.steady refl in
    record {
      commits = record {
        ok = ap (λ (s : Slot). record { slot = s; sequence = was.sequence + 1; rows = c.args.rows.now }) c.in-Ok.ensures.slot;
        steady = c.in-Ok.ensures.commits.ok;
        same = committed_same l was.slot d e old next c.requires.steady c.in-Ok.ensures.commits.ok c.in-Ok.ensures.commits.calls;
        only_fault = tt;
        any_moment = left;
        takes = record {
          err = tt;
          sequence = omega arith;
          any_sequence = new_up_to l d e was.slot old next (was.sequence + 1) (omega arith) (omega arith) left;
          within = commit_within l d e was.slot old next left;
          cause = record { later = c.commit_control.ensures.commits.cause.later; failed = λ is. absurd cc };
        };
      };
    }

pub returns-in-Err : goal.returns-in-Err
returns-in-Err g c =
    let l = c.args.layout.now in
    let d = g.D.Disk.device c.args.disk.now in
    let e = g.D.Disk.device c.commit_control.new.disk in
    let was : Committed = c.args.committed.now in
    let old = control_of was.sequence was.rows in
    let next = control_of (was.sequence + 1) c.args.rows.now in
    let left = c.commit_control.ensures.commits.any_moment old c.requires.steady refl in
    record {
      commits = record {
        ok = tt;
        steady = tt;
        same = tt;
        only_fault = refl;
        any_moment = left;
        takes = record {
          err = refl;
          sequence = omega arith;
          any_sequence = new_up_to l d e was.slot old next (was.sequence + 1) (omega arith) (omega arith) left;
          within = commit_within l d e was.slot old next left;
          cause = record {
            later = c.commit_control.ensures.commits.cause.later;
            failed = λ is. ⊎_elim (λ worn. absurd (omega (arith, c.in-Err.ensures.worn.0 (ap Err worn), c.requires.sequence))) (λ fault. c.in-Err.ensures.commits.cause.failed (ap Err fault)) c.in-Err.ensures.no_other;
          };
        };
      };
    }
