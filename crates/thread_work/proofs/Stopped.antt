-- Why a run is stopped, by why a part of it is.
use Rattle.std.proofs.Common.{ℕ, ◌≡◌, ◌≤◌, ◌^◌, ◌-◌, true, false, List, [], ◌∷◌, Result, Ok, Err, IfErr, inl, inr, ⊎_elim, refl, sym, ◌∙◌, arith}
use Rattle.block_disk.specs.Device.{Device, HasCause, HasFailed}
use Rattle.block_disk.proofs.Images.{image_now}
use Rattle.store_rounds.specs.Store.{Known}
use Rattle.law_rounds.specs.Laws.{RoundLaw}
use Rattle.image_parts.specs.declared.layout.Layout.{Layout}
use Rattle.monitor.specs.Seats.{Home}
use Rattle.recover.specs.Recovery.{RefusesRecovery}
use Rattle.law_survival.specs.Taken.{IsTaken}
use Rattle.law_survival.specs.WholeRun.{CannotRecover}
use Rattle.recover_heap.specs.declared.error.RecoverError.{RecoverError}
use Rattle.recover_heap.specs.declared.error.RecoverError.TheVariants as recover
use Rattle.thread_heap.specs.Closed.{IsClosed}
use Rattle.thread_heap.specs.Joined.{IsHelping}
use Rattle.thread_steps.specs.Views.{plan}
use Rattle.heap_model.specs.declared.store_error.StoreError.{StoreError}
use Rattle.heap_model.specs.declared.store_error.StoreError.TheVariants as store
use Rattle.trim_helper.specs.Endings.{HasOpen, HoldNone, IsCloseWhy, IsComplete, IsWornOut, RefusesClosing}
use Rattle.trim_helper.specs.Parts.{Parts}
use Rattle.trim_helper.specs.Settled.{RefusesRound}
use Rattle.trim_helper.specs.declared.close_error.CloseError.{CloseError}
use Rattle.trim_helper.specs.declared.close_error.CloseError.TheVariants as close
use Rattle.trim_helper.specs.declared.ended.Ended.{Ended}
use Rattle.thread_work.specs.Crashes.{LosesClosed}
use Rattle.thread_work.specs.Stops.{RefusesTelling, StopsBy, StopsClosing, StopsEnd, StopsRound, StopsTelling}
use Rattle.thread_work.specs.declared.error.RunError.{RunError}
use Rattle.thread_work.specs.declared.error.RunError.TheVariants.{NoMemory, NoThread, Image, Helper, Unfinished, Close, Recover, OtherSchema}

-- a failure since a later moment is one since an earlier one
pub failed_since : (a b c : ℕ) → a ≤ b → HasFailed b c → HasFailed a c
failed_since a b c low failed =
    let later = failed.later in
    record {
      later = omega (arith, low, later);
      rose = elim failed.rose [
        | inl rose ↦ inl (omega (arith, low, rose))
        | inr last ↦ inr last
      ];
    }

pub round_since : (first old new : Device) (e : StoreError) → first.failures ≤ old.failures → StopsRound old new e → StopsRound first new e
round_since first old new store.Failed low stops = absurd stops
round_since first old new store.BadLane low stops = absurd stops
round_since first old new store.BadId low stops = absurd stops
round_since first old new store.Worn low stops = stops
round_since first old new store.NotNext low stops = absurd stops
round_since first old new store.TooLong low stops = absurd stops
round_since first old new store.LogFull low stops = absurd stops
round_since first old new store.Unwritten low stops = absurd stops
round_since first old new store.Fault low stops = failed_since first.failures old.failures new.failures low stops
round_since first old new store.Unfinished low stops = absurd stops

-- a round of a helper whose store hadn't failed
pub round_stops : (old new : Device) (x y : Known) (r : Result ℕ StoreError) → x.has_failed ≡ false → IfErr r (RefusesRound x y) → HasCause old.failures new.failures store.Fault r → (y.has_failed ≡ false → y.committed.sequence ≡ 2 ^ 64 - 1 → IsWornOut new) → IfErr r (λ e. StopsRound old new e)
round_stops old new x y (Ok n) running refused cause worn = tt
round_stops old new x y (Err store.Failed) running refused cause worn = absurd (let both : true ≡ false = sym refused.0 ∙ running in cc)
round_stops old new x y (Err store.Worn) running refused cause worn = worn refused.1 refused.2
round_stops old new x y (Err store.Fault) running refused cause worn = cause.failed refl
round_stops old new x y (Err store.BadLane) running refused cause worn = absurd refused
round_stops old new x y (Err store.BadId) running refused cause worn = absurd refused
round_stops old new x y (Err store.NotNext) running refused cause worn = absurd refused
round_stops old new x y (Err store.TooLong) running refused cause worn = absurd refused
round_stops old new x y (Err store.LogFull) running refused cause worn = absurd refused
round_stops old new x y (Err store.Unwritten) running refused cause worn = absurd refused
round_stops old new x y (Err store.Unfinished) running refused cause worn = absurd refused

-- a helper's device, where its store's control has the last sequence
pub worn_out : {D : Type 0} (device : D → Device) (h : Home) (x : Parts D) → IsHelping device h x → x.store.known.has_failed ≡ false → x.store.known.committed.sequence ≡ 2 ^ 64 - 1 → IsWornOut (device x.store.disk)
worn_out device h x helping runs last = record { known = x.store.known; setting = plan h; past = helping.past; has = helping.serving.taken.has; runs = runs; last = last }

none_open : (lane : ℕ) (es : List Ended) → HoldNone es → HasOpen lane es → ⊥
none_open lane [] none has = absurd has
none_open lane (e ∷ es) none has = elim has [
  | inl here ↦ (let zero : e.held ≡ 0 = none.0 in let some = here.1 in absurd (omega (arith, zero, some)))
  | inr later ↦ none_open lane es none.1 later
]

-- the closing of a heap whose sessions have all come, where the store hadn't failed
pub close_stops : (lanes : ℕ) (es : List Ended) (x : Known) (old new : Device) (e : CloseError) → x.has_failed ≡ false → HoldNone es → IsComplete lanes es → RefusesClosing lanes es e → IsCloseWhy x old new e → StopsClosing old new e
close_stops lanes es x old new (close.Missing l) running none complete refused why = refused.1 (complete l.0 refused.0)
close_stops lanes es x old new (close.Unfinished l) running none complete refused why = none_open l.0 es none refused.1
close_stops lanes es x old new close.Failed running none complete refused why = absurd (let both : true ≡ false = sym (why.failed refl) ∙ running in cc)
close_stops lanes es x old new close.Worn running none complete refused why = why.worn refl
close_stops lanes es x old new close.Fault running none complete refused why = why.fault refl

closing_since : (first old new : Device) (e : CloseError) → first.failures ≤ old.failures → StopsClosing old new e → StopsClosing first new e
closing_since first old new (close.Missing l) low stops = absurd stops
closing_since first old new (close.Unfinished l) low stops = absurd stops
closing_since first old new close.Failed low stops = absurd stops
closing_since first old new close.Worn low stops = stops
closing_since first old new close.Fault low stops = failed_since first.failures old.failures new.failures low stops

-- the recovery of what closing gave back
pub telling_stops : (closed new : Device) (e : RecoverError) → RefusesRecovery closed.now.bytes e → (e ≡ recover.Fault → HasFailed closed.failures new.failures) → RefusesTelling closed new e
telling_stops closed new recover.Fault refused cause = cause refl
telling_stops closed new recover.NotFormatted refused cause = refused
telling_stops closed new recover.BadHeader refused cause = refused
telling_stops closed new recover.TooSmall refused cause = refused
telling_stops closed new recover.NoControl refused cause = refused
telling_stops closed new recover.BadControl refused cause = refused
telling_stops closed new recover.OldVersion refused cause = refused
telling_stops closed new recover.Worn refused cause = refused
telling_stops closed new (recover.BadRecord lane place) refused cause = refused
telling_stops closed new (recover.IllegalLog lane place) refused cause = refused
telling_stops closed new recover.NoMemory refused cause = refused

-- recovery takes what a good closing gave back
pub closed_taken : RoundLaw → (h : Home) (l : Layout) (es : List Ended) (closed : Device) → IsClosed h l es closed → IsTaken closed.now.bytes
closed_taken law h l es closed ran =
    let shown = ran.left closed.now.bytes (image_now closed) in
    (law l h.plan.lanes (plan h) ran.now.logged ran.now.cut shown.sections closed.now.bytes shown.round shown.shows).accepted

-- no such image is refused by itself
no_other : (image : List ℕ) (e : RecoverError) → CannotRecover image e → (e ≡ recover.Fault → ⊥) → (e ≡ recover.NoMemory → ⊥) → (e ≡ recover.Worn → ⊥) → ⊥
no_other image e cannot fault memory worn = ⊎_elim fault (λ more. ⊎_elim memory (λ is. worn is.0) more) cannot

pub loses_closed : (closed new : Device) (e : RecoverError) → IsTaken closed.now.bytes → RefusesTelling closed new e → LosesClosed closed new e
loses_closed closed new recover.Fault is refused = refused
loses_closed closed new recover.NotFormatted is refused = no_other closed.now.bytes recover.NotFormatted (is.taken recover.NotFormatted refused) (λ is. absurd cc) (λ is. absurd cc) (λ is. absurd cc)
loses_closed closed new recover.BadHeader is refused = no_other closed.now.bytes recover.BadHeader (is.taken recover.BadHeader refused) (λ is. absurd cc) (λ is. absurd cc) (λ is. absurd cc)
loses_closed closed new recover.TooSmall is refused = no_other closed.now.bytes recover.TooSmall (is.taken recover.TooSmall refused) (λ is. absurd cc) (λ is. absurd cc) (λ is. absurd cc)
loses_closed closed new recover.NoControl is refused = no_other closed.now.bytes recover.NoControl (is.taken recover.NoControl refused) (λ is. absurd cc) (λ is. absurd cc) (λ is. absurd cc)
loses_closed closed new recover.BadControl is refused = no_other closed.now.bytes recover.BadControl (is.taken recover.BadControl refused) (λ is. absurd cc) (λ is. absurd cc) (λ is. absurd cc)
loses_closed closed new recover.OldVersion is refused = no_other closed.now.bytes recover.OldVersion (is.taken recover.OldVersion refused) (λ is. absurd cc) (λ is. absurd cc) (λ is. absurd cc)
loses_closed closed new recover.Worn is refused = refused.1
loses_closed closed new (recover.BadRecord lane place) is refused = no_other closed.now.bytes (recover.BadRecord lane place) (is.taken (recover.BadRecord lane place) refused) (λ is. absurd cc) (λ is. absurd cc) (λ is. absurd cc)
loses_closed closed new (recover.IllegalLog lane place) is refused = no_other closed.now.bytes (recover.IllegalLog lane place) (is.taken (recover.IllegalLog lane place) refused) (λ is. absurd cc) (λ is. absurd cc) (λ is. absurd cc)
loses_closed closed new recover.NoMemory is refused = tt

pub told_stops : (old closed new : Device) (e : RunError) → StopsTelling closed new e → StopsEnd old new e
told_stops old closed new NoMemory stops = tt
told_stops old closed new NoThread stops = absurd stops
told_stops old closed new (Image e) stops = absurd stops
told_stops old closed new (Helper e) stops = absurd stops
told_stops old closed new Unfinished stops = absurd stops
told_stops old closed new (Close e) stops = absurd stops
told_stops old closed new (Recover e) stops = tt
told_stops old closed new OtherSchema stops = absurd stops

-- a run's stop since a later moment is one since an earlier one
pub stops_since : (first old new : Device) (e : RunError) → first.failures ≤ old.failures → StopsEnd old new e → StopsBy first new e
stops_since first old new NoMemory low stops = tt
stops_since first old new NoThread low stops = absurd stops
stops_since first old new (Image e) low stops = absurd stops
stops_since first old new (Helper e) low stops = round_since first old new e low stops
stops_since first old new Unfinished low stops = tt
stops_since first old new (Close e) low stops = closing_since first old new e low stops
stops_since first old new (Recover e) low stops = tt
stops_since first old new OtherSchema low stops = absurd stops
