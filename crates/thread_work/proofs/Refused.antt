-- What a refusal says, by the refusal of a part.
use Rattle.std.proofs.Common.{ℕ, ◌≡◌, ◌≤◌, ◌⊎◌, List, [], ◌∷◌, Result, Ok, Err, IfErr, IfOk, inl, inr, refl, subst}
use Rattle.block_disk.specs.Device.{Device, HasFailed, Moment, SameMoments, synced}
use Rattle.block_disk.proofs.Failures.{moments_trans}
use Rattle.block_disk.proofs.Images.{and_then, stays}
use Rattle.guards.specs.Schema.{Declarations}
use Rattle.image_parts.specs.Calls.{Call, Write, Sync, after, after_one}
use Rattle.image_parts.specs.Recovered.{Parts}
use Rattle.monitor.specs.Seats.{Home}
use Rattle.recover.specs.Reading.{IsOfOldVersion, RefusesImage}
use Rattle.recover.specs.Recovery.{IsCutOff, IsOnTheWay, IsWorn, RefusesRecovery, StudiedLaw}
use Rattle.recover.specs.Study.{IsStudyOf}
use Rattle.recover_heap.specs.declared.error.RecoverError.{RecoverError}
use Rattle.recover_heap.specs.declared.error.RecoverError.TheVariants as recover
use Rattle.recover.specs.declared.report.Report.{Report}
use Rattle.recover.specs.declared.studied.Study.{Study}
use Rattle.session.specs.declared.session.Session.{Session}
use Rattle.thread_work.specs.Bodies.{Answer}
use Rattle.thread_work.specs.Crashes.{CrashesOf}
use Rattle.thread_work.specs.ImageLanes.{lanes_for}
use Rattle.thread_work.specs.Runs.{HasFound, Holds, IsMadeOf, IsNotFound, RefusesFinding, RefusesFound, RefusesLook, RefusesNew, RefusesOn, RefusesStudy}
use Rattle.thread_work.specs.Stops.{IsHomeOf, StopsBy, StopsRun}
use Rattle.thread_work.specs.declared.error.RunError.{RunError}
use Rattle.thread_work.specs.declared.error.RunError.TheVariants.{NoMemory, NoThread, Image, Helper, Unfinished, Close, Recover, OtherSchema}
use Rattle.thread_work.proofs.Recovered.{synced_alike}
use Rattle.thread_work.proofs.Stopped.{failed_since}

-- what holds anyway
pub anyway : {A E P : Type 0} (r : Result A E) → P → IfOk r (λ x. P)
anyway (Ok x) p = p
anyway (Err e) p = tt

pub both_ok : {A E : Type 0} (r : Result A E) (P Q S : A → Type 0) → ((x : A) → P x → Q x → S x) → IfOk r P → IfOk r Q → IfOk r S
both_ok (Ok x) P Q S step p q = step x p q
both_ok (Err e) P Q S step p q = tt

pub weaker : {A E : Type 0} (r : Result A E) (P Q : E → Type 0) → ((e : E) → P e → Q e) → IfErr r P → IfErr r Q
weaker (Ok x) P Q step p = tt
weaker (Err e) P Q step p = step e p

pub weaker_both : {A E : Type 0} (r : Result A E) (P Q S : E → Type 0) → ((e : E) → P e → Q e → S e) → IfErr r P → IfErr r Q → IfErr r S
weaker_both (Ok x) P Q S step p q = tt
weaker_both (Err e) P Q S step p q = step e p q

-- calls that succeed leave the count of failures
pub after_failures : (calls : List Call) (d : Device) → (after calls d).failures ≡ d.failures
after_failures [] d = refl
after_failures (Write at bytes ∷ calls) d = after_failures calls (after_one (Write at bytes) d)
after_failures (Sync ∷ calls) d = after_failures calls (after_one Sync d)

-- a study that is refused, and a recovery of what has a study
pub study_stops : (old new : Device) (e : RecoverError) → RefusesImage old.now.bytes e → (e ≡ recover.Fault → HasFailed old.failures new.failures) → RefusesStudy old new e
study_stops old new recover.Fault refused cause = cause refl
study_stops old new recover.NotFormatted refused cause = refused
study_stops old new recover.BadHeader refused cause = refused
study_stops old new recover.TooSmall refused cause = refused
study_stops old new recover.NoControl refused cause = refused
study_stops old new recover.BadControl refused cause = refused
study_stops old new recover.OldVersion refused cause = refused
study_stops old new recover.Worn refused cause = refused
study_stops old new (recover.BadRecord lane place) refused cause = refused
study_stops old new (recover.IllegalLog lane place) refused cause = refused
study_stops old new recover.NoMemory refused cause = refused

neither : {P : Type 0} (e : RecoverError) → (e ≡ recover.Fault → ⊥) → (e ≡ recover.NoMemory → ⊥) → (e ≡ recover.Fault) ⊎ (e ≡ recover.NoMemory) → P
neither e fault memory either = elim either [
  | inl is ↦ absurd (fault is)
  | inr is ↦ absurd (memory is)
]

pub finding_stops : (old new : Device) (s : Study) (e : RecoverError) → StudiedLaw → IsStudyOf old.now.bytes s → RefusesRecovery old.now.bytes e → (e ≡ recover.Fault → HasFailed old.failures new.failures) → RefusesFinding old new e
finding_stops old new s recover.Fault law of refused cause = cause refl
finding_stops old new s recover.NotFormatted law of refused cause = neither recover.NotFormatted (λ is. absurd cc) (λ is. absurd cc) (law old.now.bytes s recover.NotFormatted of refused)
finding_stops old new s recover.BadHeader law of refused cause = neither recover.BadHeader (λ is. absurd cc) (λ is. absurd cc) (law old.now.bytes s recover.BadHeader of refused)
finding_stops old new s recover.TooSmall law of refused cause = neither recover.TooSmall (λ is. absurd cc) (λ is. absurd cc) (law old.now.bytes s recover.TooSmall of refused)
finding_stops old new s recover.NoControl law of refused cause = neither recover.NoControl (λ is. absurd cc) (λ is. absurd cc) (law old.now.bytes s recover.NoControl of refused)
finding_stops old new s recover.BadControl law of refused cause = neither recover.BadControl (λ is. absurd cc) (λ is. absurd cc) (law old.now.bytes s recover.BadControl of refused)
finding_stops old new s recover.OldVersion law of refused cause = refused
finding_stops old new s recover.Worn law of refused cause = refused.1
finding_stops old new s (recover.BadRecord lane place) law of refused cause = neither (recover.BadRecord lane place) (λ is. absurd cc) (λ is. absurd cc) (law old.now.bytes s (recover.BadRecord lane place) of refused.1)
finding_stops old new s (recover.IllegalLog lane place) law of refused cause = neither (recover.IllegalLog lane place) (λ is. absurd cc) (λ is. absurd cc) (law old.now.bytes s (recover.IllegalLog lane place) of refused.1)
finding_stops old new s recover.NoMemory law of refused cause = tt

-- the same of a device that was only read
finding_alike : (old seen new : Device) (e : RecoverError) → SameMoments old seen → old.failures ≤ seen.failures → RefusesFinding seen new e → RefusesFinding old new e
finding_alike old seen new recover.Fault same later refused = failed_since old.failures seen.failures new.failures later refused
finding_alike old seen new recover.NotFormatted same later refused = absurd refused
finding_alike old seen new recover.BadHeader same later refused = absurd refused
finding_alike old seen new recover.TooSmall same later refused = absurd refused
finding_alike old seen new recover.NoControl same later refused = absurd refused
finding_alike old seen new recover.BadControl same later refused = absurd refused
finding_alike old seen new recover.OldVersion same later refused = subst (λ (m : Moment). IsOfOldVersion m.bytes) same.now refused
finding_alike old seen new recover.Worn same later refused = subst (λ (m : Moment). IsWorn m.bytes) same.now refused
finding_alike old seen new (recover.BadRecord lane place) same later refused = absurd refused
finding_alike old seen new (recover.IllegalLog lane place) same later refused = absurd refused
finding_alike old seen new recover.NoMemory same later refused = tt

-- a recovery that was cut off, of a device that was only read before it
cut_off_alike : (old seen new : Device) → SameMoments old seen → IsCutOff seen new → IsCutOff old new
cut_off_alike old seen new same (inl none) = inl (moments_trans old seen new same none)
cut_off_alike old seen new same (inr (inl one)) = inr (inl (moments_trans (synced old) (synced seen) new (synced_alike old seen same) one))
cut_off_alike old seen new same (inr (inr (study, of, leaves))) = inr (inr (
  study,
  subst (λ (m : Moment). IsStudyOf m.bytes study) same.now of,
  and_then (synced old) (synced seen) new (IsOnTheWay study) (stays (synced old) (synced seen) (IsOnTheWay study) (synced_alike old seen same)) leaves,
))

pub not_found_alike : (old seen new : Device) (e : RecoverError) → SameMoments old seen → old.failures ≤ seen.failures → IsNotFound seen new e → IsNotFound old new e
not_found_alike old seen new e same later refused = record {
  why = finding_alike old seen new e same later refused.why;
  untouched = elim refused.untouched [
    | inl fault ↦ inl fault
    | inr one ↦ inr (moments_trans (synced old) (synced seen) new (synced_alike old seen same) one)
  ];
  cut_off = cut_off_alike old seen new same refused.cut_off;
}

-- what a look at the image refuses
pub looked : (schema : Declarations) (threads : ℕ) (old new : Device) (e : RunError) → SameMoments old new → RefusesLook schema threads old new e → RefusesFound schema threads old new e
looked schema threads old new NoMemory same refused = absurd refused
looked schema threads old new NoThread same refused = absurd refused
looked schema threads old new (Image e) same refused = absurd refused
looked schema threads old new (Helper e) same refused = absurd refused
looked schema threads old new Unfinished same refused = absurd refused
looked schema threads old new (Close e) same refused = absurd refused
looked schema threads old new (Recover e) same refused = inl (refused, same)
looked schema threads old new OtherSchema same refused = (refused, same)

module _ (does : Home → Session → Session → Answer → Type 0) {D : Type 0} (device : D → Device) where
  -- a run by the words of a heap, as the heap's
  pub run_stops : (schema : Declarations) (n : ℕ) (was : Parts D) (h : Home) (new : Device) (e : RunError) → IsHomeOf schema was.heap n h → CrashesOf does h was.layout (device was.disk) new e → StopsBy (device was.disk) new e → StopsRun does device schema n was new e
  run_stops schema n was h new NoMemory home crashes stops = inr (record { shared = h; plan = home; crashes = crashes; stops = tt })
  run_stops schema n was h new NoThread home crashes stops = record { shared = h; plan = home; crashes = crashes; stops = stops }
  run_stops schema n was h new (Image e) home crashes stops = absurd stops
  run_stops schema n was h new (Helper e) home crashes stops = record { shared = h; plan = home; crashes = crashes; stops = stops }
  run_stops schema n was h new Unfinished home crashes stops = record { shared = h; plan = home; crashes = crashes; stops = stops }
  run_stops schema n was h new (Close e) home crashes stops = record { shared = h; plan = home; crashes = crashes; stops = stops }
  run_stops schema n was h new (Recover e) home crashes stops = record { shared = h; plan = home; crashes = crashes; stops = stops }
  run_stops schema n was h new OtherSchema home crashes stops = absurd stops

  -- after the image was found
  pub stopped_on : (schema : Declarations) (threads : ℕ) (old : Device) (was : Parts D) (report : Report) (new : Device) (e : RunError) → Holds schema threads old.now.bytes → HasFound device schema threads old report was
      → StopsRun does device schema threads was new e → RefusesOn does device schema threads old new e
  stopped_on schema threads old was report new NoMemory holds found stops = (holds, record { was = was; report = report; found = found.found; theirs = found.theirs; stopped = record { later = found.later; stops = stops } })
  stopped_on schema threads old was report new NoThread holds found stops = (holds, record { was = was; report = report; found = found.found; theirs = found.theirs; stopped = record { later = found.later; stops = stops } })
  stopped_on schema threads old was report new (Helper e) holds found stops = (holds, record { was = was; report = report; found = found.found; theirs = found.theirs; stopped = record { later = found.later; stops = stops } })
  stopped_on schema threads old was report new Unfinished holds found stops = (holds, record { was = was; report = report; found = found.found; theirs = found.theirs; stopped = record { later = found.later; stops = stops } })
  stopped_on schema threads old was report new (Close e) holds found stops = (holds, record { was = was; report = report; found = found.found; theirs = found.theirs; stopped = record { later = found.later; stops = stops } })
  stopped_on schema threads old was report new (Recover e) holds found stops = inr (holds, inr (record { was = was; report = report; found = found.found; theirs = found.theirs; stopped = record { later = found.later; stops = stops } }))
  stopped_on schema threads old was report new (Image e) holds found stops = absurd stops.stops
  stopped_on schema threads old was report new OtherSchema holds found stops = absurd stops.stops

  -- before it
  pub unfound_on : (schema : Declarations) (threads : ℕ) (old new : Device) (e : RunError) → RefusesFound schema threads old new e → RefusesOn does device schema threads old new e
  unfound_on schema threads old new NoMemory refused = absurd refused
  unfound_on schema threads old new NoThread refused = absurd refused
  unfound_on schema threads old new (Image e) refused = absurd refused
  unfound_on schema threads old new (Helper e) refused = absurd refused
  unfound_on schema threads old new Unfinished refused = absurd refused
  unfound_on schema threads old new (Close e) refused = absurd refused
  unfound_on schema threads old new (Recover e) refused = elim refused [
    | inl study ↦ inl study
    | inr found ↦ inr (found.0, inl found.1)
  ]
  unfound_on schema threads old new OtherSchema refused = refused

  -- after the image was made
  pub made_new : (schema : Declarations) (threads capacity : ℕ) (old : Device) (was : Parts D) (new : Device) (e : RunError) → IsMadeOf device schema (lanes_for threads) capacity old was → old.failures ≤ (device was.disk).failures → StopsRun does device schema threads was new e → RefusesNew does device schema threads capacity old new e
  made_new schema threads capacity old was new NoMemory made later stops = record { was = was; made = made; stopped = record { later = later; stops = stops } }
  made_new schema threads capacity old was new NoThread made later stops = record { was = was; made = made; stopped = record { later = later; stops = stops } }
  made_new schema threads capacity old was new (Image e) made later stops = absurd stops.stops
  made_new schema threads capacity old was new (Helper e) made later stops = record { was = was; made = made; stopped = record { later = later; stops = stops } }
  made_new schema threads capacity old was new Unfinished made later stops = record { was = was; made = made; stopped = record { later = later; stops = stops } }
  made_new schema threads capacity old was new (Close e) made later stops = record { was = was; made = made; stopped = record { later = later; stops = stops } }
  made_new schema threads capacity old was new (Recover e) made later stops = record { was = was; made = made; stopped = record { later = later; stops = stops } }
  made_new schema threads capacity old was new OtherSchema made later stops = absurd stops.stops
