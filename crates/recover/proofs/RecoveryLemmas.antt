-- An image has one study, and recovery keeps its heap.
use Rattle.std.proofs.Common.{ℕ, ◌≡◌, ◌∙◌, ◌+◌, ◌-◌, ◌^◌, ◌⊎◌, List, [], ◌∷◌, reverse, refl, sym, ap, subst, inl, inr, Result, Ok, Err, MatchResult, OnOk}
use Rattle.std.proofs.lemmas.List.{reverse-reverse}
use Rattle.heap_model.specs.declared.ids.FieldId.{FieldId}
use Rattle.heap_model.specs.declared.record.UndoRecord.{UndoRecord}
use Rattle.block_disk.specs.Bytes.{spliced}
use Rattle.block_disk.specs.Device.{Device, Moment, SameMoments, range_of, synced}
use Rattle.block_disk.specs.Images.{LeavesOnly}
use Rattle.block_disk.proofs.Images.{and_then, stays, weaker}
use Rattle.image_parts.specs.Calls.{Call, Write, Sync, after, after_one}
use Rattle.image_parts.specs.Control.{empty_control}
use Rattle.image_parts.specs.Header.{HasHeader}
use Rattle.image_parts.specs.Guards.{HasGuards}
use Rattle.image_parts.specs.Slots.{Shows, other}
use Rattle.image_parts.specs.declared.control.Control.{Control}
use Rattle.image_parts.specs.declared.guard_row.GuardRow.{GuardRow}
use Rattle.image_parts.specs.declared.lane_row.LaneRow.{LaneRow}
use Rattle.image_parts.specs.declared.layout.Layout.{Layout}
use Rattle.image_parts.specs.declared.slot.Slot.{Slot}
use Rattle.image_parts.proofs.Reading.{guards_are_read, one_layout}
use Rattle.undo_log.specs.StandsFor.{HasLive, StandsFor}
use Rattle.undo_log.proofs.OneHeap.{one_heap}
use Rattle.recover_heap.specs.declared.error.RecoverError.{RecoverError}
use Rattle.recover_heap.specs.declared.error.RecoverError.TheVariants.{Fault, NotFormatted, BadHeader, TooSmall, NoControl, BadControl, OldVersion, Worn, BadRecord, IllegalLog, NoMemory}
use Rattle.recover.specs.declared.findings.Findings.{Findings}
use Rattle.recover.specs.declared.studied.Study.{Study}
use Rattle.recover.specs.declared.versions.Versions.{Versions}
use Rattle.recover.specs.declared.versions.Versions.TheVariants.{Current, Both}
use Rattle.recover.specs.Ending.{end_calls}
use Rattle.recover_heap.specs.Logs.{lanes_of, records_of}
use Rattle.recover_heap.specs.Putting.{put_calls}
use Rattle.recover.specs.Reading.{HasControl, HasFront, IsOfOldVersion, RefusesFront, RefusesLive}
use Rattle.recover.specs.Recovery.{AreAlike, IsEnded, IsMadeBy, IsOnTheWay, IsTooOld, IsWorn, OneStudyLaw, RefusesOf, SameHeapLaw, SameStudyLaw, put_back_on}
use Rattle.recover.specs.Study.{AreUndone, IsReportOf, IsStudyOf}
use Rattle.recover.proofs.OneReport.{one_report}
use Rattle.recover.proofs.SurvivalLemmas.{one_shown, one_logs}

pub same_layout : (image : List ℕ) (l k : Layout) → HasHeader image l → HasHeader image k → l ≡ k
same_layout image l k p q = one_layout l k p.limits q.limits (sym p.spelled ∙ q.spelled)

pub one_study : OneStudyLaw
one_study image a b p q =
    let layouts : a.layout ≡ b.layout = same_layout image a.layout b.layout p.holds.control.front.layout.header q.holds.control.front.layout.header in
    let shown : Shows b.layout image a.slot a.control = subst (λ (l : Layout). Shows l image a.slot a.control) layouts p.holds.control.shows in
    let both : (let x : Slot × Control = (a.slot, a.control) in x ≡ (b.slot, b.control)) = one_shown b.layout image a.slot b.slot a.control b.control shown q.holds.control.shows in
    let controls : a.control ≡ b.control = ap (λ (x : Slot × Control). x.1) both in
    let live : HasLive b.layout image b.control.rows (lanes_of a.records.items) = subst (λ (rs : List LaneRow). HasLive b.layout image rs (lanes_of a.records.items)) (ap (λ (c : Control). c.rows) controls)
    (subst (λ (l : Layout). HasLive l image a.control.rows (lanes_of a.records.items)) layouts p.holds.logs.live) in
    let guards : a.guards.items ≡ b.guards.items =
    guards_are_read b.layout image a.guards.items b.guards.items (subst (λ (l : Layout). HasGuards l image a.guards.items) layouts p.holds.control.front.guards_are) q.holds.control.front.guards_are in
    let lanes : lanes_of a.records.items ≡ lanes_of b.records.items = one_logs b.layout image b.control.rows (lanes_of a.records.items) (lanes_of b.records.items) live q.holds.logs.live in
    record {
      layouts = layouts;
      slots = ap (λ (x : Slot × Control). x.0) both;
      controls = controls;
      guards_same = guards;
      logs_same = λ lane.
          let back : reverse (records_of a.records.items lane) ≡ reverse (records_of b.records.items lane) = ap (λ (ls : ℕ → List UndoRecord). ls lane) lanes in
          sym (reverse-reverse (records_of a.records.items lane)) ∙ ap (λ (rs : List UndoRecord). reverse rs) back ∙ reverse-reverse (records_of b.records.items lane);
      heaps = one_heap b.layout image a.heap.items b.heap.items (subst (λ (l : Layout). StandsFor l image a.heap.items) layouts p.stands) q.stands;
      reports_same = one_report b.layout b.guards.items b.control.rows (lanes_of b.records.items) a.report b.report
          (subst (λ (ls : ℕ → List UndoRecord). IsReportOf b.layout b.guards.items b.control.rows ls a.report) lanes
          (subst (λ (c : Control). IsReportOf b.layout b.guards.items c.rows (lanes_of a.records.items) a.report) controls
          (subst (λ (gs : List GuardRow). IsReportOf b.layout gs a.control.rows (lanes_of a.records.items) a.report) guards
          (subst (λ (l : Layout). IsReportOf l a.guards.items a.control.rows (lanes_of a.records.items) a.report) layouts p.reports)))) q.reports;
    }

pub same_heap : SameHeapLaw
same_heap image s again (inl is) of = (one_study image again s of is).heaps
same_heap image s again (inr (e, ended, is)) of = (one_study image again e of is).heaps ∙ ended.heap_is

-- a study that is like the recovered image's is of one
ended_too : (s e again : Study) → IsEnded s e → AreAlike again e → IsEnded s again
ended_too s e again ended same = record {
  layout_is = same.layouts ∙ ended.layout_is;
  slot_is = same.slots ∙ ended.slot_is;
  control_is = same.controls ∙ ended.control_is;
  guards_are = same.guards_same ∙ ended.guards_are;
  logs_are = λ lane. same.logs_same lane ∙ ended.logs_are lane;
  heap_is = same.heaps ∙ ended.heap_is;
  kept_none = λ lane. same.reports_same.kept_same lane ∙ ended.kept_none lane;
  dropped_none = same.reports_same.dropped_same ∙ ended.dropped_none;
  undone_none = same.reports_same.undone_same ∙ ended.undone_none;
}

pub same_study : SameStudyLaw
same_study image s again (inl is) of = inl (one_study image again s of is)
same_study image s again (inr (e, ended, is)) of = inr (ended_too s e again ended (one_study image again e of is))

-- Studies that are alike.

study_moves : (bytes image : List ℕ) (a b : Study) → IsStudyOf bytes a → IsStudyOf bytes b → IsStudyOf image a → IsStudyOf image b
study_moves bytes image a b p q is =
    let same : AreAlike a b = one_study bytes a b p q in
    let lanes : lanes_of a.records.items ≡ lanes_of b.records.items = λ i lane. reverse (same.logs_same lane i) in
    let front : HasFront image b.layout b.guards.items =
    subst (λ (l : Layout). HasFront image l b.guards.items) same.layouts (subst (λ (gs : List GuardRow). HasFront image a.layout gs) same.guards_same is.holds.control.front) in
    let shows : Shows b.layout image b.slot b.control =
    subst (λ (l : Layout). Shows l image b.slot b.control) same.layouts
    (subst (λ (t : Slot). Shows a.layout image t b.control) same.slots (subst (λ (c : Control). Shows a.layout image a.slot c) same.controls is.holds.control.shows)) in
    let live : HasLive b.layout image b.control.rows (lanes_of b.records.items) =
    subst (λ (l : Layout). HasLive l image b.control.rows (lanes_of b.records.items)) same.layouts
    (subst (λ (c : Control). HasLive a.layout image c.rows (lanes_of b.records.items)) same.controls
    (subst (λ (ls : ℕ → List UndoRecord). HasLive a.layout image a.control.rows ls) lanes is.holds.logs.live)) in
    record {
      holds = record { control = record { front = front; shows = shows; marks = q.holds.control.marks }; logs = record { count = q.holds.logs.count; live = live }; legal = q.holds.legal };
      stands = subst (λ (l : Layout). StandsFor l image b.heap.items) same.layouts (subst (λ (heap : List ℕ). StandsFor a.layout image heap) same.heaps is.stands);
      reports = q.reports;
    }

ended_moves : (a b e : Study) → AreAlike a b → IsEnded a e → IsEnded b e
ended_moves a b e same ended = record {
  layout_is = ended.layout_is ∙ same.layouts;
  slot_is = ended.slot_is ∙ ap (λ (t : Slot). other t) same.slots;
  control_is = ended.control_is ∙ ap (λ (c : Control). empty_control (c.sequence + 1)) same.controls;
  guards_are = ended.guards_are ∙ same.guards_same;
  logs_are = ended.logs_are;
  heap_is = ended.heap_is ∙ same.heaps;
  kept_none = ended.kept_none;
  dropped_none = ended.dropped_none;
  undone_none = ended.undone_none;
}

-- what is on the way from one study is on the way from each study of the same image
pub way_moves : (bytes : List ℕ) (a b : Study) → IsStudyOf bytes a → IsStudyOf bytes b → (image : List ℕ) → IsOnTheWay a image → IsOnTheWay b image
way_moves bytes a b p q image (inl is) = inl (study_moves bytes image a b p q is)
way_moves bytes a b p q image (inr (e, ended, is)) = inr (e, ended_moves a b e (one_study bytes a b p q) ended, is)

-- Refusals.

-- an image whose control has a sequence below the last isn't worn
pub not_worn : (image : List ℕ) (l : Layout) (guards : List GuardRow) (s : Slot) (c : Control) → HasControl image l guards s c → (c.sequence ≡ 2 ^ 64 - 1 → ⊥) → IsWorn image → ⊥
not_worn image l guards s c has low worn =
    let layouts : worn.layout ≡ l = same_layout image worn.layout l worn.shown.front.layout.header has.front.layout.header in
    let shown : Shows l image worn.slot worn.control = subst (λ (k : Layout). Shows k image worn.slot worn.control) layouts worn.shown.shows in
    let both : (let x : Slot × Control = (worn.slot, worn.control) in x ≡ (s, c)) = one_shown l image worn.slot s worn.control c shown has.shows in
    low (sym (ap (λ (x : Slot × Control). x.1.sequence) both) ∙ worn.last)

-- nor is one of an old version whose control has another
pub not_old : (v : Versions) (image : List ℕ) (l : Layout) (guards : List GuardRow) (s : Slot) (c : Control) → HasControl image l guards s c → (v ≡ Current → c.version ≡ 1 → ⊥) → IsTooOld v image → ⊥
not_old Both image l guards s c has other old = old
not_old Current image l guards s c has other old =
    let layouts : old.layout ≡ l = same_layout image old.layout l old.shown.front.layout.header has.front.layout.header in
    let shown : Shows l image old.slot old.control = subst (λ (k : Layout). Shows k image old.slot old.control) layouts old.shown.shows in
    let both : (let x : Slot × Control = (old.slot, old.control) in x ≡ (s, c)) = one_shown l image old.slot s old.control c shown has.shows in
    other refl (sym (ap (λ (x : Slot × Control). x.1.version) both) ∙ old.version)

-- what refuses the front refuses the image
pub refused_front : (v : Versions) (image : List ℕ) (e : RecoverError) → RefusesFront image e → RefusesOf v image e
refused_front v image Fault h = tt
refused_front v image NotFormatted h = h
refused_front v image BadHeader h = h
refused_front v image TooSmall h = h
refused_front v image NoControl h = h
refused_front v image BadControl h = h
refused_front v image OldVersion h = absurd h
refused_front v image Worn h = absurd h
refused_front v image (BadRecord lane place) h = absurd h
refused_front v image (IllegalLog lane place) h = absurd h
refused_front v image NoMemory h = tt

-- so does an old control, where the old version isn't taken
pub refused_old : (v : Versions) (image : List ℕ) (l : Layout) (guards : List GuardRow) (s : Slot) (c : Control) (e : RecoverError) → HasControl image l guards s c → v ≡ Current → c.version ≡ 1 → e ≡ OldVersion → RefusesOf v image e
refused_old v image l guards s c e has current old why =
    let is : IsOfOldVersion image = record { layout = l; guards = guards; slot = s; control = c; shown = has; version = old } in
    subst (λ (w : Versions). RefusesOf w image e) (sym current) (subst (RefusesOf Current image) (sym why) is)

refused_late : (v : Versions) (image : List ℕ) (l : Layout) (guards : List GuardRow) (s : Slot) (c : Control) (e : RecoverError) → HasControl image l guards s c → (IsTooOld v image ⊎ IsWorn image → ⊥) → RefusesLive image l guards c e → RefusesOf v image e
refused_late v image l guards s c Fault has low h = tt
refused_late v image l guards s c NotFormatted has low h = absurd h
refused_late v image l guards s c BadHeader has low h = absurd h
refused_late v image l guards s c TooSmall has low h = absurd h
refused_late v image l guards s c NoControl has low h = absurd h
refused_late v image l guards s c BadControl has low h = absurd h
refused_late v image l guards s c OldVersion has low h = absurd h
refused_late v image l guards s c Worn has low h = absurd h
refused_late v image l guards s c (BadRecord lane place) has low h = (low, (l, guards, s, c, has, h))
refused_late v image l guards s c (IllegalLog lane place) has low h = (low, (l, guards, s, c, has, h))
refused_late v image l guards s c NoMemory has low h = tt

neither : {P Q : Type 0} → (P → ⊥) → (Q → ⊥) → P ⊎ Q → ⊥
neither p q (inl is) = p is
neither p q (inr is) = q is

pub recoverable_if : (v : Versions) (image : List ℕ) (l : Layout) (guards : List GuardRow) (s : Slot) (c : Control) (r : Result Findings RecoverError) → HasControl image l guards s c → (v ≡ Current → c.version ≡ 1 → ⊥) → (c.sequence ≡ 2 ^ 64 - 1 → ⊥) →
    MatchResult r (λ found. IsStudyOf image found.study) (RefusesLive image l guards c) → MatchResult r (λ found. IsStudyOf image found.study) (RefusesOf v image)
recoverable_if v image l guards s c (Ok found) has current low h = h
recoverable_if v image l guards s c (Err e) has current low h =
    refused_late v image l guards s c e has (neither (not_old v image l guards s c has current) (not_worn image l guards s c has low)) h

-- what holds anyway
pub taken_if : {F E : Type 0} (r : Result F E) (P : Type 0) → P → OnOk r P
taken_if (Ok found) P p = p
taken_if (Err e) P p = tt

-- Calls.

one_same : (call : Call) (a b : Device) → SameMoments a b → SameMoments (after_one call a) (after_one call b)
one_same (Write at bytes) a b same = record {
  name = same.name;
  now = ap (λ (m : Moment). let w : Moment = record { bytes = spliced m.bytes at bytes; pending = range_of at bytes ∷ m.pending } in w) same.now;
  past = λ i. same.now i ∷ same.past i;
}
one_same Sync a b same = record {
  name = same.name;
  now = ap (λ (m : Moment). let w : Moment = record { bytes = m.bytes; pending = [] } in w) same.now;
  past = λ i. same.now i ∷ same.past i;
}

-- calls make the same of the same moments
after_same : (calls : List Call) (a b : Device) → SameMoments a b → SameMoments (after calls a) (after calls b)
after_same [] a b same = same
after_same (call ∷ calls) a b same = after_same calls (after_one call a) (after_one call b) (one_same call a b same)

module _ (s : Study) (fields : List FieldId) (d0 d1 d2 d3 : Device) (first : d1 ≡ synced d0) (read : SameMoments d1 d2) where
  read_since : SameMoments (synced d0) d2
  read_since = subst (λ (d : Device). SameMoments d d2) first read

  -- the calls of a recovery, one behind the other
  pub made_by : AreUndone s.layout s.guards.items s.control.rows (lanes_of s.records.items) fields →
      d3 ≡ after (end_calls s.slot s.control.sequence (put_back_on s fields d2).now.bytes) (put_back_on s fields d2) → IsMadeBy s d0 d3
  made_by undone made =
      let put : SameMoments (put_back_on s fields (synced d0)) (put_back_on s fields d2) = after_same (put_calls s.layout s.heap.items fields) (synced d0) d2 read_since in
      let calls : List ℕ → List Call = end_calls s.slot s.control.sequence in
      let ends : SameMoments (after (calls (put_back_on s fields d2).now.bytes) (put_back_on s fields (synced d0))) (after (calls (put_back_on s fields d2).now.bytes) (put_back_on s fields d2)) =
      after_same (calls (put_back_on s fields d2).now.bytes) (put_back_on s fields (synced d0)) (put_back_on s fields d2) put in
      let there : SameMoments (after (calls (put_back_on s fields (synced d0)).now.bytes) (put_back_on s fields (synced d0))) (after (calls (put_back_on s fields d2).now.bytes) (put_back_on s fields d2)) =
      subst (λ (m : Moment). SameMoments (after (calls m.bytes) (put_back_on s fields (synced d0))) (after (calls (put_back_on s fields d2).now.bytes) (put_back_on s fields d2))) put.now ends in
      record { fields = fields; undone = undone; calls = subst (λ (d : Device). SameMoments (after (calls (put_back_on s fields (synced d0)).now.bytes) (put_back_on s fields (synced d0))) d) (sym made) there }

-- what recovery leaves since its first sync
pub since_synced : (s : Study) (d0 d1 d2 d3 : Device) → d1 ≡ synced d0 → SameMoments d1 d2 → IsStudyOf d1.now.bytes s → LeavesOnly d2 d3 (IsOnTheWay s) →
    (t : Study) → IsStudyOf d0.now.bytes t → LeavesOnly (synced d0) d3 (IsOnTheWay t)
since_synced s d0 d1 d2 d3 first read of leaves t other_of =
    let here : IsStudyOf d0.now.bytes s = subst (λ (d : Device). IsStudyOf d.now.bytes s) first of in
    let moved : LeavesOnly d2 d3 (IsOnTheWay t) = weaker d2 d3 (IsOnTheWay s) (IsOnTheWay t) (way_moves d0.now.bytes s t here other_of) leaves in
    and_then (synced d0) d2 d3 (IsOnTheWay t) (stays (synced d0) d2 (IsOnTheWay t) (subst (λ (d : Device). SameMoments d d2) first read)) moved
