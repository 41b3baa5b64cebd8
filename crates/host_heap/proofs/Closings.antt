-- Why a heap isn't closed, step by step.
use Rattle.std.proofs.Common.{ℕ, ◌≡◌, All, List, Result, Ok, Err, IfErr, drop, length, sym, ◌∙◌, subst}
use Rattle.disk_deferred.specs.Deferred.{Deferred}
use Rattle.disk_deferred.specs.Host.{HasLooked, Host}
use Rattle.monitor.specs.Seats.{Home}
use Rattle.trim_helper.specs.Parts.{Parts}
use Rattle.trim_helper.specs.declared.close_error.CloseError.{CloseError}
use Rattle.trim_helper.specs.declared.close_error.CloseError.TheVariants.{Missing, Unfinished, Failed, Worn, Fault}
use Rattle.host_heap.specs.Closing.{GoesOn, GoesOnWithout, HasStopped, IsNotClosed, IsNotFinished, StopsBy, StopsFor}
use Rattle.host_heap.specs.Hosting.{Hosting, SameHeap}
use Rattle.host_heap.specs.Lanes.{HasCome, KeepCome}
use Rattle.host_heap.specs.declared.closing.Closed.{Closed}
use Rattle.host_heap.specs.declared.closing.NotClosed.{NotClosed}
use Rattle.host_heap.specs.declared.closing.NotClosed.TheVariants.{Running, CallsLeft, InUse, Stopped}
use Rattle.host_heap.specs.declared.lane_end.LaneEnd.{LaneEnd}
use Rattle.host_heap.specs.declared.error.CloseRefusal.TheVariants.{Close}
use Rattle.host_heap.proofs.Coming.{all_twice}

pub stopped : (x : Hosting) (h : Home) (r : Result Closed NotClosed) → h ≡ x.home → IfErr r (HasStopped h x.helper x.calls) → IfErr r (IsNotFinished x)
stopped x h (Ok closed) of why = tt
stopped x h (Err (Running y)) of why = absurd why
stopped x h (Err (CallsLeft y)) of why = absurd why
stopped x h (Err (InUse y)) of why = absurd why
stopped x h (Err (Stopped closed e)) of why = (why.0, subst (λ (k : Home). StopsFor k x.helper closed.disk e) of why.1)

-- so it goes on after a look at its room, too
pub goes_on_looked : (x y z : Hosting) → GoesOn x y → SameHeap y z → GoesOn x z
goes_on_looked x y z on same = record {
  home = same.home ∙ on.home;
  helper = same.helper ∙ on.helper;
  unused = same.unused ∙ on.unused;
  out = subst (λ (ends : List LaneEnd). KeepCome x.out ends) (sym same.out) on.out;
  stop = same.stop ∙ on.stop;
}

-- the heap before a closing, after the look at its sessions, after the look at its room, and after its other sessions have ended
pub not_closed : (x y z w : Hosting) (r : Result Closed NotClosed) → GoesOn x y → y.calls ≡ x.calls → SameHeap y z → HasLooked y.calls z.calls → GoesOnWithout z w → w.calls ≡ z.calls
    → IfErr r (IsNotFinished w) → IfErr r (IsNotClosed x)
not_closed x y z w (Ok closed) on calls same looked without kept why = tt
not_closed x y z w (Err (Running v)) on calls same looked without kept why = absurd why
not_closed x y z w (Err (CallsLeft v)) on calls same looked without kept why = absurd why
not_closed x y z w (Err (InUse v)) on calls same looked without kept why = (
  record {
    home = why.0.home ∙ without.home ∙ same.home ∙ on.home;
    helper = why.0.helper ∙ without.helper ∙ same.helper ∙ on.helper;
    unused = why.0.unused ∙ without.unused;
    out = all_twice x.out z.out (drop (length x.unused) v.out) (goes_on_looked x y z on same).out
        (subst (λ (ends : List LaneEnd). KeepCome z.out (drop (length x.unused) ends)) (sym why.0.out)
        (subst (λ (lanes : List ℕ). KeepCome z.out (drop (length lanes) w.out)) (same.unused ∙ on.unused) without.out));
    came = subst (λ (ends : List LaneEnd). All HasCome ends) (sym why.0.out) without.came;
    stop = why.0.stop ∙ without.stop ∙ same.stop ∙ on.stop;
  },
  subst (λ (c : Host). HasLooked x.calls c) (sym (why.1 ∙ kept)) (subst (λ (c : Host). HasLooked c z.calls) calls looked),
)
not_closed x y z w (Err (Stopped closed e)) on calls same looked without kept why = (
  subst (λ (c : Host). HasLooked x.calls c) (sym (why.0 ∙ kept)) (subst (λ (c : Host). HasLooked c z.calls) calls looked),
  subst (λ (h : Home). StopsFor h x.helper closed.disk e) (without.home ∙ same.home ∙ on.home)
      (subst (λ (p : Parts Deferred). StopsFor w.home p closed.disk e) (without.helper ∙ same.helper ∙ on.helper) why.1),
)

-- None is missing of sessions that have ended one a lane: the heap has stopped for another reason.
pub stops_for : (h : Home) (x : Parts Deferred) (disk : Deferred) (e : CloseError) → StopsBy h x disk e → StopsFor h x disk (Close e)
stops_for h x disk (Missing lane) by = absurd (by.refuses.1 (by.complete lane.0 by.refuses.0))
stops_for h x disk (Unfinished lane) by = by
stops_for h x disk Failed by = by
stops_for h x disk Worn by = by
stops_for h x disk Fault by = by
