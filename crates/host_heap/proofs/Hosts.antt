-- The calls of a heap's host stay those of its disk.
use Rattle.std.proofs.Common.{◌≡◌, ℕ, All, List, length, [], ◌∷◌, refl, sym, ap, ◌∙◌, subst}
use Rattle.block_disk.specs.Device.{Device, synced}
use Rattle.block_disk.specs.Memory.{device_of, fresh}
use Rattle.disk_deferred.specs.Deferred.{Deferred}
use Rattle.disk_deferred.specs.Host.{Host, IsHostOf}
use Rattle.disk_deferred.proofs.Names.{consumer_name}
use Rattle.store_rounds.specs.Store.{Known}
use Rattle.image_parts.specs.Calls.{Call, Write, Sync, after, after_one}
use Rattle.image_parts.specs.Recovered.{Parts as Recovered}
use Rattle.image_parts.specs.declared.layout.Layout.{Layout}
use Rattle.monitor.specs.Seats.{Helping, Home}
use Rattle.recover.specs.Ending.{end_calls}
use Rattle.recover_heap.specs.Putting.{put_calls}
use Rattle.recover.specs.Recovery.{IsRecovery, put_back_on}
use Rattle.recover.specs.declared.report.Report.{Report}
use Rattle.rtrb.specs.Ring.{SameConsumer}
use Rattle.thread_steps.specs.Views.{plan}
use Rattle.trim_helper.specs.Endings.{Rings}
use Rattle.trim_helper.specs.Helping.{IsHelper, taken_in}
use Rattle.trim_helper.specs.Meets.{SameHelper}
use Rattle.trim_helper.specs.Parts.{IsServing, Parts}
use Rattle.host_heap.specs.Hosting.{hosted_device}
use Rattle.host_heap.specs.Keeping.{IsHosting}
use Rattle.host_heap.specs.Lanes.{IsJoinedHere, IsLaneEnd}
use Rattle.host_heap.specs.Opening.{device_on}
use Rattle.host_heap.specs.Sessions.{Seated}
use Rattle.host_heap.specs.declared.lane_end.LaneEnd.{LaneEnd}

-- calls of a device leave which one it is
pub after_name : (calls : List Call) (d : Device) → (after calls d).name ≡ d.name
after_name [] d = refl
after_name (Write at bytes ∷ calls) d = after_name calls (after_one (Write at bytes) d)
after_name (Sync ∷ calls) d = after_name calls (after_one Sync d)

-- nor does a recovery change it
pub recovery_name : {D : Type 0} (old new : Device) (r : Recovered D) (report : Report) → IsRecovery old new r report → new.name ≡ old.name
recovery_name old new r report is =
    let s = is.study in
    let fields = is.made.fields in
    let put : Device = put_back_on s fields (synced old) in
    is.made.calls.name ∙ after_name (end_calls s.slot s.control.sequence put.now.bytes) put ∙ after_name (put_calls s.layout s.heap.items fields) (synced old)

-- a disk of these bytes, of which these are the calls
pub device_is : (d : Deferred) (c : Host) (bytes : List ℕ) → d.memory ≡ fresh bytes → IsHostOf d c → hosted_device d ≡ device_on c bytes
device_is d c bytes is host i = record { name = host i; now = (device_of (is i)).now; past = (device_of (is i)).past; failures = (device_of (is i)).failures }

module _ (h : Home) (x : Parts Deferred) (c : Host) (l : Layout) (word : ℕ) (unused : List Seated) (lanes : List LaneEnd) (was : IsHosting h x c l word unused lanes) where
  -- the host's end of the ring was looked at, or taken from
  pub with_calls : (k : Host) → SameConsumer c.ring k.ring → IsHosting h x k l word unused lanes
  with_calls k same = record {
    helping = was.helping;
    host = was.host ∙ sym (consumer_name c.ring k.ring same);
    layout_is = was.layout_is;
    within = was.within;
    unused_are = was.unused_are;
    count = was.count;
    lanes_are = was.lanes_are;
    order = was.order;
    joined = was.joined;
    paired = was.paired;
  }

  -- the disk has met its host
  pub with_helper : (y : Parts Deferred) (k : Host) → SameHelper hosted_device x y → IsServing hosted_device y (plan h) was.helping.past → IsHostOf y.store.disk k → IsHosting h y k l word unused lanes
  with_helper y k same serving host = record {
    helping = record {
      seat = subst (λ (s : Helping). IsHelper h s) (sym same.seat) was.helping.seat;
      lanes = was.helping.lanes ∙ ap (λ (z : Known). z.threads) (sym same.known);
      rings = subst (λ (r : Rings). length r ≡ h.plan.lanes) (sym same.rings) was.helping.rings;
      nobody = ap taken_in same.seat ∙ was.helping.nobody;
      past = was.helping.past;
      serving = serving;
    };
    host = host;
    layout_is = was.layout_is ∙ ap (λ (z : Known). z.layout) (sym same.known);
    within = was.within;
    unused_are = was.unused_are;
    count = was.count;
    lanes_are = subst (λ (r : Rings). All (IsLaneEnd h y.store.known.layout.capacity r) lanes) (sym same.rings)
        (subst (λ (z : Known). All (IsLaneEnd h z.layout.capacity x.rings) lanes) (sym same.known) was.lanes_are);
    order = was.order;
    joined = subst (λ (r : Rings). All (IsJoinedHere h y.store.known.layout.capacity r) unused) (sym same.rings)
        (subst (λ (z : Known). All (IsJoinedHere h z.layout.capacity x.rings) unused) (sym same.known) was.joined);
    paired = was.paired;
  }
