-- A recovery is one of every device with the same moments.
use Rattle.std.proofs.Common.{ℕ, List, [], ◌∷◌, ap, subst}
use Rattle.block_disk.specs.Bytes.{spliced}
use Rattle.block_disk.specs.Device.{Device, Moment, SameMoments, range_of, synced}
use Rattle.block_disk.proofs.Failures.{moments_trans}
use Rattle.image_parts.specs.Calls.{Call, Write, Sync, after, after_one}
use Rattle.image_parts.specs.Recovered.{Parts}
use Rattle.recover.specs.Ending.{end_calls}
use Rattle.recover_heap.specs.Putting.{put_calls}
use Rattle.recover.specs.Recovery.{IsMadeBy, IsRecovery, put_back_on}
use Rattle.recover.specs.Study.{IsStudyOf}
use Rattle.recover.specs.declared.report.Report.{Report}
use Rattle.recover.specs.declared.studied.Study.{Study}

one_same : (call : Call) (a b : Device) → SameMoments a b → SameMoments (after_one call a) (after_one call b)
one_same (Write at bytes) a b same = record {
  name = same.name;
  now = ap (λ (m : Moment). let w : Moment = record { bytes = spliced m.bytes at bytes; pending = range_of at bytes ∷ m.pending } in w) same.now;
  past = λ i. same.now i ∷ same.past i;
}
one_same Sync a b same = record {
  name = same.name;
  now = ap (λ (m : Moment). let w : Moment = record { bytes = m.bytes; pending = [] } in w) same.now;
  past = λ i. same.now i ∷ same.past i;
}

pub synced_alike : (a b : Device) → SameMoments a b → SameMoments (synced a) (synced b)
synced_alike a b same = one_same Sync a b same

-- calls make the same of the same moments
after_same : (calls : List Call) (a b : Device) → SameMoments a b → SameMoments (after calls a) (after calls b)
after_same [] a b same = same
after_same (call ∷ calls) a b same = after_same calls (after_one call a) (after_one call b) (one_same call a b same)

-- and so do the calls of a recovery
made_alike : (s : Study) (old seen new : Device) → SameMoments old seen → IsMadeBy s seen new → IsMadeBy s old new
made_alike s old seen new same made =
    let calls : List ℕ → List Call = end_calls s.slot s.control.sequence in
    let a : Device = put_back_on s made.fields (synced old) in
    let b : Device = put_back_on s made.fields (synced seen) in
    let put : SameMoments a b = after_same (put_calls s.layout s.heap.items made.fields) (synced old) (synced seen) (one_same Sync old seen same) in
    let ends : SameMoments (after (calls b.now.bytes) a) (after (calls b.now.bytes) b) = after_same (calls b.now.bytes) a b put in
    let there : SameMoments (after (calls a.now.bytes) a) (after (calls b.now.bytes) b) = subst (λ (m : Moment). SameMoments (after (calls m.bytes) a) (after (calls b.now.bytes) b)) put.now ends in
    record { fields = made.fields; undone = made.undone; calls = moments_trans (after (calls a.now.bytes) a) (after (calls b.now.bytes) b) new there made.calls }

pub recovery_alike : {D : Type 0} (old seen new : Device) (r : Parts D) (report : Report) → SameMoments old seen → IsRecovery seen new r report → IsRecovery old new r report
recovery_alike old seen new r report same found = record {
  study = found.study;
  of = subst (λ (m : Moment). IsStudyOf m.bytes found.study) same.now found.of;
  layout_is = found.layout_is;
  guards_are = found.guards_are;
  slot_is = found.slot_is;
  sequence_is = found.sequence_is;
  heap_is = found.heap_is;
  report_is = found.report_is;
  made = made_alike found.study old seen new same found.made;
}
