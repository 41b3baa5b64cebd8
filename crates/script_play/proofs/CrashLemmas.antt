-- What recovery makes of a crash.
use Rattle.std.proofs.Common.{◌≡◌, ◌⊎◌, inl, inr, ⊎_elim, ℕ, ◌-◌, ◌<◌, ◌≤◌, List, [], ◌∷◌, Result, Ok, Err, Some, IfOk, IfErr, MatchResult, length, drop, false, refl, sym, ◌∙◌, ap, subst, arith}
use Rattle.std.proofs.lemmas.Bool.{cases_lt}
use Rattle.heap_model.specs.declared.record.Record.{Record}
use Rattle.heap_model.specs.Setting.{Setting}
use Rattle.heap_model.specs.Sections.{actions}
use Rattle.heap_model.specs.Cuts.{counts_of, IsStable}
use Rattle.law_cuts.proofs.Existence.{stable_exists}
use Rattle.block_disk.specs.Crash.{first_stops}
use Rattle.block_disk.specs.Device.{Device, Moment, LeftIn, LeftSince, Image}
use Rattle.block_disk.specs.Images.{LeavesOnly, Always}
use Rattle.block_disk.specs.Memory.{Memory, Stop, device_of, fresh, moments_before}
use Rattle.block_disk.specs.declared.crash.Fill.{Fill}
use Rattle.block_disk.proofs.Images.{begin, left_now, weaker}
use Rattle.image_parts.specs.Header.{HasHeader}
use Rattle.image_parts.specs.declared.layout.Layout.{Layout}
use Rattle.image_parts.proofs.Reading.{one_layout, control_is_chosen}
use Rattle.store_memory.specs.Fresh.{IsOfLanes}
use Rattle.heap_model.specs.Past.{Past, applied, after_settle}
use Rattle.store_image.specs.KeptHeap.{kept_heap, StandsForCut, StandsForEither}
use Rattle.durable.specs.Store.{Parts, ShowsStep}
use Rattle.durable.specs.Store.ShowsStep.{Shows, ShowsLogged, ShowsSettled, ShowsTrimmed}
use Rattle.durable.specs.declared.doubt.Doubt.{Doubt}
use Rattle.durable.specs.declared.doubt.Doubt.TheVariants.{Nothing, Logging, Settling, Trimming}
use Rattle.recover.specs.Reading.{Holds}
use Rattle.recover.specs.Recovery.{IsRecovery, IsWorn, RefusesRecovery}
use Rattle.recover.specs.Study.{held_by}
use Rattle.law_survival.specs.WholeRun.{CannotRecover, MayBeLeft}
use Rattle.recover_heap.specs.declared.error.RecoverError.{RecoverError}
use Rattle.recover.specs.declared.logged_image.LoggedImage.{LoggedImage}
use Rattle.law_survival.proofs.WholeRuns.{Keeps, keeps}
use Rattle.script_machine.specs.declared.answer.Answer.{Answer}
use Rattle.script_machine.specs.declared.answer.Answer.TheVariants.{Crashed, Refused}
use Rattle.script_machine.specs.declared.answer.Refusal.{Refusal}
use Rattle.script_machine.specs.declared.answer.Refusal.TheVariants.{Worn}
use Rattle.script_machine.specs.Answers.{acknowledged_in}
use Rattle.script_machine.specs.Agreement.{setting_from}
use Rattle.image_parts.specs.declared.control.Control.{Control}
use Rattle.image_parts.specs.declared.error.ControlError.{ControlError}
use Rattle.image_parts.specs.declared.error.ControlError.TheVariants as control_error
use Rattle.image_parts.specs.declared.slot.Slot.{Slot}
use Rattle.image_parts.specs.Slots.{Shows as ShowsControl}
use Rattle.undo_log.specs.StandsFor.{row_of, StandsFor}
use Rattle.undo_log.proofs.OneHeap.{one_heap}
use Rattle.store_image.proofs.Stands.{stands_always}
use Rattle.script_play.specs.Crashing.{HistoryLaw, Survives, IsAtItsEnd, RestLaw, IsSince, CallLaw, KeepsTold, ToldLaw, IsCall, KeepsCut}
use Rattle.script_machine.specs.Machine.{MachineState, Running, Down, Steps, IsRestored, Recovers, RefusesImage, GoesDown, Crashes, LogsRecords, Settles, Acknowledges, TrimsLogs, WritesHome}
use Rattle.script_lines.specs.Orders.{Order}
use Rattle.script_lines.specs.Orders as order
use Rattle.recover.specs.declared.versions.Versions.TheVariants.{Current}
use Rattle.script_machine.specs.Refusals.{told_of_recovery}
use Rattle.script_machine.specs.Reports.{Recovered, Found}
use Rattle.script_machine.specs.States.{Live, Wreck, Tells, begun_at, crash_back}

-- an image that can't be recovered is refused for one reason that is told
only_worn : (image : List ℕ) (e : RecoverError) (w : Refusal) → told_of_recovery e ≡ Ok w → CannotRecover image e → (w ≡ Worn) × IsWorn image
only_worn image e w told (inl fault) = absurd (let same = ap told_of_recovery fault in cc)
only_worn image e w told (inr (inl none)) = absurd (let same = ap told_of_recovery none in cc)
only_worn image e w told (inr (inr worn)) = (let same = ap told_of_recovery worn.0 in cc, worn.1)

-- the machine once it is down with this image
abbrev pub wreck_of : Live → (image : List ℕ) → Wreck
wreck_of m image = record { schema = m.monitors.schema; disk = fresh image }

-- an image that shows a past has the header of its layout
pub header_of : (l : Layout) (s : Setting) (p : Past) (w : Doubt) (image : List ℕ) → ShowsStep l s p w image → HasHeader image l
header_of l s p w image (Shows shown) = shown.parts.header
header_of l s p w image (ShowsLogged doubt shown) = shown.parts.header
header_of l s p w image (ShowsSettled doubt clean cut stable shown) = shown.parts.header
header_of l s p w image (ShowsTrimmed doubt shown) = shown.parts.header

same_answer : (x y : Slot × Control) → (let a : Result (Slot × Control) ControlError = Ok x in a ≡ Ok y) → x ≡ y
same_answer x y is = cc

no_fault : (x : Slot × Control) → (let a : Result (Slot × Control) ControlError = Ok x in a ≡ Err control_error.Fault) → ⊥
no_fault x is = cc

-- an image shows one control
one_shown : (l : Layout) (image : List ℕ) (a b : Slot) (c d : Control) → ShowsControl l image a c → ShowsControl l image b d → d ≡ c
one_shown l image a b c d p q = elim (control_is_chosen l image a c (Ok (b, d)) p q) as (λ _. d ≡ c) [
  | inl is ↦ ap (λ (x : Slot × Control). x.1) (same_answer (b, d) (a, c) is)
  | inr bad ↦ absurd (no_fault (b, d) bad)
]

-- Recovery of an image that shows what a store was told, or what a step makes of that.
module _ (m : Live) (s : Setting) (p : Past) (has : Tells m.store s p) (w : Doubt) (image : List ℕ) (shows : ShowsStep m.store.known.layout s p w image)
    (told : Answer) (new : MachineState) where
  abbrev wreck : Wreck
  wreck = wreck_of m image

  abbrev own : Layout
  own = m.store.known.layout

  abbrev Answered : Type 0
  Answered = Result (Recovered Memory × Found) (Memory × RecoverError)

  run : (answer : Answered) → IfOk answer (λ r. IsRecovery (device_of (fresh image)) (device_of r.0.disk) r.0 r.1) → IfErr answer (λ back. RefusesRecovery image back.1)
      → MatchResult answer (λ r. Keeps own s p w r.0.heap (counts_of r.1.kept)) (λ back. CannotRecover image back.1)
  run = keeps own s p w device_of (device_of (fresh image)) has.past (subst (λ (n : ℕ). IsOfLanes n (applied p)) has.layout.lanes has.remembers.of_lanes) shows

  layout_of : (found : LoggedImage) → Holds image found → found.layout ≡ own
  layout_of found holds =
      let here = header_of own s p w image shows in
      let there = holds.control.front.layout.header in
      one_layout found.layout own there.limits here.limits (sym there.spelled ∙ here.spelled)

  -- what is told, where recovery gives the heap of this cut and keeps its sections
  told_of : (log : List (ℕ × Record)) (cut : ℕ → ℕ) (r : Recovers (Down wreck) told new Current wreck) → r.restores.recovered.heap ≡ kept_heap own s log cut
      → ((lane : ℕ) → lane < own.lanes → counts_of r.restores.found.kept lane ≡ cut lane) → Survives m s log cut told new
  told_of log cut r heap kept =
      let recovery = r.restores.recovery in
      let layout : r.restores.recovered.layout ≡ own = recovery.layout_is ∙ layout_of (held_by recovery.study) recovery.of.holds in
      let lanes = ap (λ (l : Layout). l.lanes) layout in
      let same : r.live.store.known.layout ≡ own = r.restores.reopens.layout ∙ layout in
      let reported = r.restores.reopens.reported in
      record {
        live = r.live;
        report = r.report;
        tells = r.answers;
        runs = r.runs;
        layout = same;
        lanes = reported.lanes ∙ lanes;
        heap = reported.heap ∙ heap;
        kept = λ lane below. ap (λ (found : Found). counts_of found.kept lane) reported.found_is ∙ kept lane below;
        restored = subst (λ (n : ℕ). IsRestored m.monitors.schema n r.report.heap.items r.live.monitors) (ap (λ (l : Layout). l.lanes) same) r.restored;
      }

  at_its_end : RefusesImage (Down wreck) told new Current wreck → IsAtItsEnd (Down wreck) told
  at_its_end r =
      let worn = only_worn image r.refuses.reason r.refusal r.refuses.told_is (run (Err (r.disk, r.refuses.reason)) tt r.refuses.refused) in
      record { refused = r.answers ∙ ap Refused worn.0; last = worn.1 }

  -- it stands for the heap of this cut, and names its sections
  module _ (cut : ℕ → ℕ) (stands : StandsForCut own s p.logged cut image) where
    survived : Recovers (Down wreck) told new Current wreck → Survives m s p.logged cut told new
    survived r =
        let recovery = r.restores.recovery in
        let of = recovery.of in
        let found = held_by recovery.study in
        let layout : found.layout ≡ own = layout_of found of.holds in
        let shown = subst (λ (k : Layout). ShowsControl k image found.slot found.control) layout of.holds.control.shows in
        let control : found.control ≡ stands.sections.control =
        one_shown own image stands.sections.slot found.slot stands.sections.control found.control stands.sections.shows shown in
        told_of p.logged cut r
        (recovery.heap_is ∙ one_heap own image recovery.study.heap.items (kept_heap own s p.logged cut) (subst (λ (k : Layout). StandsFor k image recovery.study.heap.items) layout of.stands) stands.heap)
        (λ lane below. ap (λ (report : Found). counts_of report.kept lane) recovery.report_is ∙ of.reports.kept_are lane ∙ ap (λ (c : Control). (row_of c.rows lane).kept) control ∙ stands.sections.kept lane below)

    pub recovered_as : Steps (Down wreck) order.Recover told new → Survives m s p.logged cut told new ⊎ IsAtItsEnd (Down wreck) told
    recovered_as (inl done) = inl (survived done)
    recovered_as (inr refused) = inr (at_its_end refused)

-- a crash that is told has come
pub went_down : (m : Live) (fill : Fill) (back : ℕ) (down : MachineState) → Crashes (Running m) Crashed down m fill back → GoesDown (Running m) Crashed down m fill back
went_down m fill back down tests = elim (cases_lt (length m.store.disk.stops) back) as (λ _. GoesDown (Running m) Crashed down m fill back) [
  | inl few ↦ absurd (let told = (tests.refused few).0 in cc)
  | inr enough ↦ tests.passed (λ few. omega (arith, few, enough))
]

-- and the writes and syncs are counted from 1
pub one_begun : (m : Live) (fill : Fill) (back : ℕ) (down : MachineState) → Crashes (Running m) Crashed down m fill back → 1 ≤ begun_at back m.store.disk
one_begun m fill back down tests = elim (cases_lt (length m.store.disk.stops) back) as (λ _. 1 ≤ begun_at back m.store.disk) [
  | inl few ↦ absurd (let told = (tests.refused few).0 in cc)
  | inr enough ↦ omega (arith, enough)
]

-- a crash now leaves an image of a store that hasn't failed that stands for the acknowledged cut
pub stands_before : (m : Live) (s : Setting) (p : Past) → Tells m.store s p → m.store.known.has_failed ≡ false → Always (device_of m.store.disk) (StandsForCut m.store.known.layout s p.logged p.cut)
stands_before m s p has ran = stands_always m.store.known.layout s p m.store.known.committed (device_of m.store.disk) (has.agrees ran)

-- with all calls ended it is a crash now
at_rest : (m : Live) (image : List ℕ) → LeftSince (length (moments_before m.store.disk.first (first_stops (begun_at 0 m.store.disk - 1) m.store.disk.stops))) (device_of m.store.disk) image
    → MayBeLeft (device_of m.store.disk) (device_of m.store.disk) image
at_rest m image left =
    let d = m.store.disk in
    let none : length d.stops - (begun_at 0 d - 1) ≡ 0 = omega arith in
    let all : first_stops (begun_at 0 d - 1) d.stops ≡ d.stops = ap (λ n. drop n d.stops) none in
    subst (λ (ss : List Stop). LeftSince (length (moments_before d.first ss)) (device_of d) image) all left

pub rest : RestLaw
rest m s p fill down new told has crash recover =
    let goes = went_down m fill 0 down crash in
    let image = crash_back fill 0 m.store.disk in
    let left = left_now (device_of m.store.disk) image (at_rest m image goes.any_moment) in
    subst (λ (x : MachineState). Survives m s p.logged p.cut told new ⊎ IsAtItsEnd x told) (sym goes.down)
    (recovered_as m s p has m.store.known.doubt image (has.images image left) told new p.cut (stands_before m s p has goes.agrees.running image left)
    (subst (λ (x : MachineState). Steps x order.Recover told new) goes.down recover))

pub history : HistoryLaw
history m fill down new told crash recover =
    let agrees = (went_down m fill 0 down crash).agrees in
    ⊎_elim (λ done. inl (record { agrees = agrees; survives = done })) (λ end. inr end)
    (rest m (setting_from m.monitors agrees.first) agrees.past fill down new told agrees.tells crash recover)

-- an image of later moments is one of these
pub since : (t u : ℕ) (ms : List Moment) (image : List ℕ) → u ≤ t → LeftIn t ms image → LeftIn u ms image
since t u [] image le left = left
since t u (m ∷ ms) image le (inl now) = inl ((let low = now.0 in omega (arith, low, le)), now.1)
since t u (m ∷ ms) image le (inr was) = inr (since t u ms image le was)

pub one_live : (a b : Live) → Running a ≡ Running b → a ≡ b
one_live a b same = cc

-- two things that hold of each image that calls leave hold of it together
leaves_both : (old new : Device) (P Q : List ℕ → Type 0) → LeavesOnly old new P → LeavesOnly old new Q → LeavesOnly old new (λ image. P image × Q image)
leaves_both old new P Q a b = record {
  later = a.later;
  grows = a.grows;
  each = λ t image le left. ⊎_elim (λ was. inl was) (λ p. ⊎_elim (λ was. inl was) (λ q. inr (p, q)) (b.each t image le left)) (a.each t image le left);
  keeps = a.keeps;
}

-- what a crash in a call leaves: an image that stands for a cut that the call may keep
pub record LeftInCall (l : Layout) (s : Setting) (p : Past) (asked : Order) (image : List ℕ) : Type 0 where
  pub doubt : Doubt
  pub shows : ShowsStep l s p doubt image
  pub cut : ℕ → ℕ
  pub kept : KeepsCut asked s p cut
  pub stands : StandsForCut l s p.logged cut image

-- one that acknowledges nothing
pub in_keeping : (m : Live) (s : Setting) (p : Past) (asked : Order) (w : Doubt) (x : Parts Memory) → LeavesOnly (device_of m.store.disk) (device_of x.disk) (ShowsStep m.store.known.layout s p w)
    → LeavesOnly (device_of m.store.disk) (device_of x.disk) (StandsForCut m.store.known.layout s p.logged p.cut)
    → LeavesOnly (device_of m.store.disk) (device_of x.disk) (LeftInCall m.store.known.layout s p asked)
in_keeping m s p asked w x shown stands =
    let l : Layout = m.store.known.layout in
    let a : Device = device_of m.store.disk in
    let b : Device = device_of x.disk in
    weaker a b (λ image. ShowsStep l s p w image × StandsForCut l s p.logged p.cut image) (LeftInCall l s p asked)
    (λ image both. record { doubt = w; shows = both.0; cut = p.cut; kept = inl refl; stands = both.1 })
    (leaves_both a b (ShowsStep l s p w) (StandsForCut l s p.logged p.cut) shown stands)

-- a settling leaves what stands for the one cut or for the other
pub in_settling : (m : Live) (s : Setting) (p : Past) (has : Tells m.store s p) (said : Answer) (new : MachineState) (settles : Acknowledges (Running m) said new m)
    → LeavesOnly (device_of m.store.disk) (device_of settles.store.disk) (LeftInCall m.store.known.layout s p order.Settle)
in_settling m s p has said new settles =
    let stable = stable_exists (actions p.logged) in
    let l : Layout = m.store.known.layout in
    let a : Device = device_of m.store.disk in
    let b : Device = device_of settles.store.disk in
    weaker a b (λ image. ShowsStep l s p Settling image × StandsForEither l s p.logged p.cut stable.0 image) (LeftInCall l s p order.Settle)
    (λ image both. ⊎_elim
    (λ one. record { doubt = Settling; shows = both.0; cut = p.cut; kept = inl refl; stands = one })
    (λ other. record { doubt = Settling; shows = both.0; cut = stable.0; kept = inr (refl, settles.clean s p has, stable.1); stands = other })
    both.1)
    (leaves_both a b (ShowsStep l s p Settling) (StandsForEither l s p.logged p.cut stable.0) (settles.shown s p has) (settles.stands s p stable.0 has stable.1))

-- a call of the store, a crash in it or behind it, and recovery
module _ (m : Live) (s : Setting) (p : Past) (has : Tells m.store s p) (asked : Order) (fill : Fill) (back : ℕ) (down new : MachineState) (told : Answer) where
  abbrev over : Parts Memory → Live
  over x = record { monitors = m.monitors; store = x }

  abbrev Ends : MachineState → Type 0
  Ends state = ((cut : ℕ → ℕ) × KeepsCut asked s p cut × Survives m s p.logged cut told new) ⊎ IsAtItsEnd state told

  after_call : (x : Parts Memory) → m.store.known.has_failed ≡ false → LeavesOnly (device_of m.store.disk) (device_of x.disk) (LeftInCall m.store.known.layout s p asked)
      → IsSince m.store.disk x.disk back → Crashes (Running (over x)) Crashed down (over x) fill back → Steps down order.Recover told new → Ends down
  after_call x ran leaves ended crash recover =
      let goes = went_down (over x) fill back down crash in
      let image = crash_back fill back x.disk in
      let a = device_of m.store.disk in
      let d = device_of x.disk in
      let left : MayBeLeft a d image =
      since (length (moments_before x.disk.first (first_stops (begun_at back x.disk - 1) x.disk.stops))) (length a.past) (d.now ∷ d.past) image ended goes.any_moment in
      let before : Image a.now image → LeftInCall m.store.known.layout s p asked image = λ now.
      record { doubt = m.store.known.doubt; shows = has.images image now; cut = p.cut; kept = inl refl; stands = stands_before m s p has ran image now } in
      let found : LeftInCall m.store.known.layout s p asked image =
      ⊎_elim (λ was. before (left_now a image was)) (λ is. is) (leaves.each (length a.past) image (omega arith) left) in
      subst Ends (sym goes.down)
      (⊎_elim (λ done. inl (found.cut, found.kept, done)) (λ end. inr end)
      (recovered_as m s p has found.doubt image found.shows told new found.cut found.stands (subst (λ (y : MachineState). Steps y order.Recover told new) goes.down recover)))

  of_call : (now : Live) (x : Parts Memory) → Running now ≡ Running (over x) → m.store.known.has_failed ≡ false
      → LeavesOnly (device_of m.store.disk) (device_of x.disk) (LeftInCall m.store.known.layout s p asked)
      → IsSince m.store.disk now.store.disk back → Steps (Running now) (order.Crash fill back) Crashed down → Steps down order.Recover told new → Ends down
  of_call now x runs ran leaves ended crash recover =
      let is = one_live now (over x) runs in
      after_call x ran leaves (subst (λ (a : Live). IsSince m.store.disk a.store.disk back) is ended)
      (subst (λ (a : Live). Crashes (Running a) Crashed down a fill back) is crash) recover

  -- nothing was done
  refused_call : (now : Live) → Running now ≡ Running m → IsSince m.store.disk now.store.disk back → Steps (Running now) (order.Crash fill back) Crashed down
      → Steps down order.Recover told new → Ends down
  refused_call now same ended crash recover =
      let ran = subst (λ (a : Live). a.store.known.has_failed ≡ false) (one_live now m same) (went_down now fill back down crash).agrees.running in
      of_call now m.store same ran (begin (device_of m.store.disk) (LeftInCall m.store.known.layout s p asked)) ended crash recover

module _ (m now : Live) (s : Setting) (p : Past) (has : Tells m.store s p) (fill : Fill) (back : ℕ) (down new : MachineState) (said told : Answer)
    (ended : IsSince m.store.disk now.store.disk back) (crash : Steps (Running now) (order.Crash fill back) Crashed down) (recover : Steps down order.Recover told new) where
  logging : LogsRecords (Running m) said (Running now) m → Ends m s p has order.Log fill back down new told down
  logging (inl logs) = of_call m s p has order.Log fill back down new told now logs.store logs.call.runs logs.call.ran
      (in_keeping m s p order.Log Logging logs.store (logs.call.shown s p has) (logs.stands s p has)) ended crash recover
  logging (inr refused) = refused_call m s p has order.Log fill back down new told now refused.refuses.1 ended crash recover

  homing : WritesHome (Running m) said (Running now) m → Ends m s p has order.Home fill back down new told down
  homing homes = of_call m s p has order.Home fill back down new told now homes.store homes.call.runs homes.call.ran
      (in_keeping m s p order.Home Nothing homes.store (homes.call.shown s p has) (homes.stands s p has)) ended crash recover

  trimming : TrimsLogs (Running m) said (Running now) m → Ends m s p has order.Trim fill back down new told down
  trimming (inl trims) = of_call m s p has order.Trim fill back down new told now trims.store trims.call.runs trims.call.ran
      (in_keeping m s p order.Trim Trimming trims.store (trims.call.shown s p has) (trims.stands s p has)) ended crash recover
  trimming (inr refused) = refused_call m s p has order.Trim fill back down new told now refused.refuses.1 ended crash recover

  settling : Settles (Running m) said (Running now) m → Ends m s p has order.Settle fill back down new told down
  settling (inl settles) = of_call m s p has order.Settle fill back down new told now settles.store settles.runs settles.ran
      (in_settling m s p has said (Running now) settles) ended crash recover
  settling (inr refused) = refused_call m s p has order.Settle fill back down new told now refused.refuses.1 ended crash recover

  called : (asked : Order) → IsCall asked → Steps (Running m) asked said (Running now) → Ends m s p has asked fill back down new told down
  called asked (inl log) steps = subst (λ (o : Order). Ends m s p has o fill back down new told down) (sym log)
      (logging (subst (λ (o : Order). Steps (Running m) o said (Running now)) log steps))
  called asked (inr (inl home)) steps = subst (λ (o : Order). Ends m s p has o fill back down new told down) (sym home)
      (homing (subst (λ (o : Order). Steps (Running m) o said (Running now)) home steps))
  called asked (inr (inr (inl trim))) steps = subst (λ (o : Order). Ends m s p has o fill back down new told down) (sym trim)
      (trimming (subst (λ (o : Order). Steps (Running m) o said (Running now)) trim steps))
  called asked (inr (inr (inr settle))) steps = subst (λ (o : Order). Ends m s p has o fill back down new told down) (sym settle)
      (settling (subst (λ (o : Order). Steps (Running m) o said (Running now)) settle steps))

pub call : CallLaw
call m now s p asked said fill back down new told has is steps ended crash recover =
    called m now s p has fill back down new said told ended crash recover asked is steps

-- a settling, a crash with all calls ended, and recovery
module _ (m : Live) (s : Setting) (p : Past) (has : Tells m.store s p) (fill : Fill) (acknowledged : List ℕ) (down new : MachineState) (said told : Answer) where
  told_is : (now : Live) (a : Acknowledges (Running m) said (Running now) m) → acknowledged_in said ≡ Some acknowledged → a.sections ≡ acknowledged
  told_is now a says = let same = sym a.answers ∙ says in cc

  keeps_told : (now : Live) (a : Acknowledges (Running m) said (Running now) m) (cut : ℕ → ℕ) → IsStable (actions p.logged) cut → acknowledged_in said ≡ Some acknowledged
      → Survives (record { monitors = m.monitors; store = a.store }) s p.logged cut told new → KeepsTold (record { monitors = m.monitors; store = a.store }) s p acknowledged told new
  keeps_told now a cut stable says done =
      let lanes = ap (λ (l : Layout). l.lanes) a.layout in
      subst (λ (list : List ℕ). KeepsTold (record { monitors = m.monitors; store = a.store }) s p list told new) (told_is now a says)
      (record {
        cut = cut;
        stable = stable;
        survives = done;
        lanes = a.lanes ∙ sym lanes ∙ sym done.lanes;
        same = λ lane lt. let below : lane < m.store.known.layout.lanes = subst (λ n. lane < n) a.lanes lt in
            done.kept lane (subst (λ n. lane < n) (sym lanes) below) ∙ sym (a.counts s p cut has stable lane below);
      })

  settled : (now : Live) → Settles (Running m) said (Running now) m → acknowledged_in said ≡ Some acknowledged → Steps (Running now) (order.Crash fill 0) Crashed down → Steps down order.Recover told new
      → KeepsTold now s p acknowledged told new ⊎ IsAtItsEnd down told
  settled now (inl a) says crash recover =
      let over : Live = record { monitors = m.monitors; store = a.store } in
      let is = one_live now over a.runs in
      let stable = stable_exists (actions p.logged) in
      let outcome = rest over s (after_settle p stable.0) fill down new told (a.after s p stable.0 has stable.1)
      (subst (λ (x : Live). Crashes (Running x) Crashed down x fill 0) is crash) recover in
      subst (λ (x : Live). KeepsTold x s p acknowledged told new ⊎ IsAtItsEnd down told) (sym is)
      (⊎_elim (λ done. inl (keeps_told now a stable.0 stable.1 says done)) (λ end. inr end) outcome)
  settled now (inr refused) says crash recover = absurd (let none = ap acknowledged_in refused.refuses.0 in let same = sym none ∙ says in cc)

pub told_again : ToldLaw
told_again m now s p fill said told acknowledged down new has = settled m s p has fill acknowledged down new said told now
