use Rattle.std.proofs.Common.{◌≡◌, ◌+◌, ◌≤◌, ◌∙◌, [], Err, Ok, ap, sym, subst}
use Rattle.block_disk.specs.Images.{LeavesOnly}
use Rattle.block_disk.proofs.Images.{begin}
use Rattle.monitor.specs.Words.{setting_of}
use Rattle.store_image.specs.Sequences.{ShowsUpTo}
use Rattle.trim_helper.specs.Calls.{Closes}
use Rattle.trim_helper.specs.Closed.{IsClosedDown, Stood}
use Rattle.trim_helper.specs.Endings.{AreEnded, HoldNone, IsCloseWhy, IsComplete, RefusesEnded, parts_of}
use Rattle.trim_helper.specs.Helping.{IsHelper, taken_in}
use Rattle.trim_helper.specs.Parts.{IsServing}
use Rattle.trim_helper.specs.Taken.{HasTaken, with_rings}
use Rattle.trim_helper.specs.declared.close_error.CloseError.TheVariants.{Failed as CloseFailed}
use Rattle.trim_helper.proofs.ClosingReasons.{never_why, not_sessions}
use Rattle.trim_helper.proofs.Gathering.{closing_refused, ended_refused}
use Rattle.trim_helper.proofs.Rounds.{parts_from, stood_still}
use Rattle.trim_helper.proofs.Sent.{never_refused}
use Rattle.trim_helper.proofs.closing_down.close_down.Goals as goal

pub finish-finished-requires-clause-helper : goal.finish-finished-requires-clause-helper
finish-finished-requires-clause-helper g c = subst (λ v. IsHelper c.args.shared v.seat) (sym c.helper.view_is) c.requires.helper

pub finish-finished-requires-clause-lanes : goal.finish-finished-requires-clause-lanes
finish-finished-requires-clause-lanes g c = subst (λ v. c.args.shared.plan.lanes ≡ v.store.known.threads) (sym c.helper.view_is) c.requires.lanes

pub finish-finished-requires-clause-ended : goal.finish-finished-requires-clause-ended
finish-finished-requires-clause-ended g c = subst (λ rings. AreEnded c.args.shared c.helper.inside.store.known.layout.capacity rings c.args.ended.items) (sym c.deref_mut.ensures.value)
    (subst (λ v. AreEnded c.args.shared v.store.known.layout.capacity v.rings c.args.ended.items) (sym c.helper.view_is) c.requires.ended)

pub finish-finished-requires-clause-complete : goal.finish-finished-requires-clause-complete
finish-finished-requires-clause-complete g c =
    let threads = c.threads-threads.ensures in
    subst (λ n. IsComplete n c.args.ended.items) threads (subst (λ es. IsComplete c.threads-threads.result es) c.deref.ensures.value c.in_default.ensures.1)

pub finish-finished-requires-clause-nothing : goal.finish-finished-requires-clause-nothing
finish-finished-requires-clause-nothing g c = subst (λ v. taken_in v.seat ≡ []) (sym c.helper.view_is) c.requires.nothing

pub returns-in-Ok : goal.returns-in-Ok
returns-in-Ok g c = record {
  closes = λ p serving.
      let inside = c.helper.inside in
      let x = parts_from inside.store inside.rings.items inside.waiting inside.is_settled inside.seat in
      let s = setting_of c.args.shared.plan in
      let has = subst (λ v. IsServing g.D.Disk.device v s p) (sym c.helper.view_is) serving in
      let threads = c.threads-threads.ensures in
      let taken = subst (λ rings. HasTaken g.D.Disk.device (with_rings x.store rings x.waiting) s p) (sym c.deref_mut.ensures.value) has.taken in
      let finished = c.in-Ok.ensures.finishes p taken in
      let disk = c.into_disk-in-Ok.ensures.disk in
      subst (λ v. Closes g.D.Disk.device c.args.shared c.args.ended.items p v (Ok c.into_disk-in-Ok.result)) c.helper.view_is (record {
        ok = subst (λ d. IsClosedDown c.args.shared.plan x.store.known.layout (parts_of c.args.ended.items) p x.seat (g.D.Disk.device x.store.disk) (g.D.Disk.device d)) (sym disk) (finished.ok (λ l lt. (has.counts l lt, has.places l lt)) has.stand).closed;
        refused = (subst HoldNone c.deref.ensures.value c.in_default.ensures.0, subst (λ n. IsComplete n c.args.ended.items) threads (subst (λ es. IsComplete c.threads-threads.result es) c.deref.ensures.value c.in_default.ensures.1));
        failed = λ off none complete. absurd (let no = finished.failed off in cc);
        why = tt;
        untouched = tt;
        still = λ off. absurd (let no = finished.failed off in cc);
        stood = subst (λ d. Stood x.store.known.layout x.store.known.threads s p c.args.ended.items (g.D.Disk.device x.store.disk) (g.D.Disk.device d)) (sym disk) finished.stood;
        read = λ none complete. finished.read (λ l lt. (has.counts l lt, has.places l lt));
        later = subst (λ d. (g.D.Disk.device x.store.disk).failures ≤ (g.D.Disk.device d).failures) (sym disk) finished.later;
        shown = subst (λ d. LeavesOnly (g.D.Disk.device x.store.disk) (g.D.Disk.device d) (ShowsUpTo x.store.known.layout (x.store.known.committed.sequence + 2))) (sym disk) finished.shown;
      });
}

pub returns-in-Err-finished : goal.returns-in-Err-finished
returns-in-Err-finished g c = record {
  closes = λ p serving.
      let inside = c.helper.inside in
      let x = parts_from inside.store inside.rings.items inside.waiting inside.is_settled inside.seat in
      let s = setting_of c.args.shared.plan in
      let has = subst (λ v. IsServing g.D.Disk.device v s p) (sym c.helper.view_is) serving in
      let threads = c.threads-threads.ensures in
      let taken = subst (λ rings. HasTaken g.D.Disk.device (with_rings x.store rings x.waiting) s p) (sym c.deref_mut.ensures.value) has.taken in
      let finished = c.in-Err-finished.ensures.finishes p taken in
      let disk = c.into_disk-in-Err-finished.ensures.disk in
      subst (λ v. Closes g.D.Disk.device c.args.shared c.args.ended.items p v (Err (c.into_disk-in-Err-finished.result, c.in-Err-finished.reason))) c.helper.view_is (record {
        ok = tt;
        refused = closing_refused x.store.known.threads c.args.ended.items c.in-Err-finished.reason
            (subst HoldNone c.deref.ensures.value c.in_default.ensures.0) (subst (λ n. IsComplete n c.args.ended.items) threads (subst (λ es. IsComplete c.threads-threads.result es) c.deref.ensures.value c.in_default.ensures.1))
            finished.stop;
        failed = λ off none complete. let is = finished.failed off in let same : Err c.in-Err-finished.reason ≡ Err CloseFailed = is in cc;
        why = subst (λ d. IsCloseWhy x.store.known (g.D.Disk.device x.store.disk) (g.D.Disk.device d) c.in-Err-finished.reason) (sym disk) finished.why;
        untouched = λ is. absurd (not_sessions c.in-Err-finished.reason finished.stop is);
        still = λ off. disk ∙ ap (λ z. z.disk) (c.in-Err-finished.ensures.still s p taken off);
        stood = subst (λ d. Stood x.store.known.layout x.store.known.threads s p c.args.ended.items (g.D.Disk.device x.store.disk) (g.D.Disk.device d)) (sym disk) finished.stood;
        read = λ none complete. finished.read (λ l lt. (has.counts l lt, has.places l lt));
        later = tt;
        shown = subst (λ d. LeavesOnly (g.D.Disk.device x.store.disk) (g.D.Disk.device d) (ShowsUpTo x.store.known.layout (x.store.known.committed.sequence + 2))) (sym disk) finished.shown;
      });
}

pub returns-in-Err : goal.returns-in-Err
returns-in-Err g c = record {
  closes = λ p serving.
      let inside = c.helper.inside in
      let x = parts_from inside.store inside.rings.items inside.waiting inside.is_settled inside.seat in
      let s = setting_of c.args.shared.plan in
      let has = subst (λ v. IsServing g.D.Disk.device v s p) (sym c.helper.view_is) serving in
      let threads = c.threads-threads.ensures in
      let told : RefusesEnded x.store.known.threads c.args.ended.items c.in-Err.reason =
      subst (λ n. RefusesEnded n c.args.ended.items c.in-Err.reason) threads (subst (λ es. RefusesEnded c.threads-threads.result es c.in-Err.reason) c.deref.ensures.value c.in-Err.ensures) in
      subst (λ v. Closes g.D.Disk.device c.args.shared c.args.ended.items p v (Err (c.into_disk.result, c.in-Err.reason))) c.helper.view_is (record {
        ok = tt;
        refused = ended_refused x.store.known.threads c.args.ended.items c.in-Err.reason told;
        failed = λ off none complete. absurd (never_refused x.store.known.threads c.args.ended.items c.in-Err.reason told none complete);
        why = never_why x.store.known.threads c.args.ended.items _ _ _ c.in-Err.reason told;
        untouched = λ is. c.into_disk.ensures.disk;
        still = λ off. c.into_disk.ensures.disk;
        stood = stood_still _ _ s p c.args.ended.items _ _ has.taken.has.past.legal (λ none complete. absurd (never_refused x.store.known.threads c.args.ended.items c.in-Err.reason told none complete)) (ap g.D.Disk.device c.into_disk.ensures.disk);
        read = λ none complete. absurd (never_refused x.store.known.threads c.args.ended.items c.in-Err.reason told none complete);
        later = tt;
        shown = subst (λ d. LeavesOnly (g.D.Disk.device x.store.disk) (g.D.Disk.device d) (ShowsUpTo x.store.known.layout (x.store.known.committed.sequence + 2))) (sym c.into_disk.ensures.disk)
            (begin (g.D.Disk.device x.store.disk) (ShowsUpTo x.store.known.layout (x.store.known.committed.sequence + 2)));
      });
}
