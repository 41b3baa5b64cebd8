-- What a crash leaves of lines that were played, and what recovery makes of it.
use Rattle.std.proofs.Common.{◌≡◌, ◌⊎◌, inl, inr, ⊎_elim, ℕ, zero, suc, ◌-◌, ◌<◌, ◌≤◌, List, [], ◌∷◌, ◌++◌, Option, Some, None, length, slice_index, refl, sym, ap, ◌∙◌, subst, arith, false}
use Rattle.std.proofs.lemmas.Bool.{cases_lt}
use Rattle.guards.specs.Schema.{Declarations, field_count, first_of}
use Rattle.heap_model.specs.declared.event.Event.{Event}
use Rattle.heap_model.specs.declared.ids.Lane.{Lane}
use Rattle.heap_model.specs.declared.record.Record.{Record}
use Rattle.heap_model.specs.declared.limits.TheConstants.{LAST_NUMBER}
use Rattle.heap_model.specs.Setting.{Setting}
use Rattle.heap_model.specs.State.{State}
use Rattle.heap_model.specs.Events.{MayDo, IsEventOf, after_event}
use Rattle.heap_model.specs.History.{state_after, logged, with_record}
use Rattle.heap_model.specs.Sections.{actions}
use Rattle.heap_model.specs.Cuts.{IsStable}
use Rattle.law_cuts.proofs.Existence.{stable_exists}
use Rattle.block_disk.specs.Crash.{first_stops}
use Rattle.block_disk.specs.Device.{Device, Image}
use Rattle.block_disk.specs.Images.{Continues, LeavesOnly}
use Rattle.block_disk.specs.Memory.{Memory, device_of, moments_before}
use Rattle.block_disk.specs.declared.crash.Fill.{Fill}
use Rattle.block_disk.proofs.Images.{begin, grows_then, left_now, weaker}
use Rattle.image_parts.specs.declared.layout.Layout.{Layout}
use Rattle.store_image.specs.KeptHeap.{StandsForCut, kept_heap}
use Rattle.heap_model.specs.Past.{Past, applied, no_past, after_home, after_log, after_settle, after_trim}
use Rattle.durable.specs.Store.{Parts, ShowsStep}
use Rattle.durable.specs.declared.doubt.Doubt.{Doubt}
use Rattle.durable.specs.declared.doubt.Doubt.TheVariants.{Nothing, Logging, Trimming}
use Rattle.script_monitors.specs.Table.{Table, setting_in, setting_of, state_of}
use Rattle.script_lines.specs.Grammar.{Asks}
use Rattle.script_lines.specs.Orders.{Action, Order}
use Rattle.script_lines.specs.Orders as order
use Rattle.script_machine.specs.declared.answer.Answer.{Answer}
use Rattle.script_machine.specs.declared.answer.Answer.TheVariants.{Crashed}
use Rattle.script_machine.specs.declared.answer.Report.{Report}
use Rattle.script_machine.specs.Agreement.{setting_from}
use Rattle.script_machine.specs.Homes.{WriteHomes}
use Rattle.script_machine.specs.Machine.{MachineState, Running, Down, Crashes, IsRestored, Keeps, LogsRecords, Settles, Steps, TrimsLogs, WritesHome}
use Rattle.script_machine.specs.OfSchema.{IsDiskOf}
use Rattle.script_machine.specs.States.{Live, Tells, begun_at, crash_back}
use Rattle.script_machine.proofs.AgreementLemmas.{event-from, homes-told, logged-from, may-from, same-from, table-from}
use Rattle.script_play.specs.Crashing.{IsAtItsEnd, IsSince, Survives}
use Rattle.script_play.specs.Playing.{CutsOff, Events, FormattedLaw, IsBegun, IsSettlingFirst, LeadsTo, LineMakes, PlayLaw, PlaysOn, RecoveredLaw, Story, SurvivesLines, told_record}
use Rattle.script_play.specs.Playing.LineMakes.{AddsEvent, LogsAll, WritesHome as HomeWritten, Settles as HasSettled, Trims as HasTrimmed, Leaves}
use Rattle.script_play.specs.Runs.{PlaysLine}
use Rattle.script_play.proofs.CrashLemmas.{one_begun, one_live, went_down, wreck_of, LeftInCall, in_keeping, in_settling, recovered_as, stands_before}
use Rattle.script_play.proofs.MomentLemmas.{Came, came, came_before, came_now, came_since}
use Rattle.script_play.proofs.StepLemmas.{Moved, moves}

-- home writes leave the acknowledged cut
homes_cut : (s : Setting) (p : Past) (n : ℕ) (q : Past) → WriteHomes s p n q → (lane : ℕ) → p.cut lane ≤ q.cut lane
homes_cut s p zero q written lane = let same : q.cut lane ≡ p.cut lane = ap (λ (x : Past). x.cut lane) written in omega (arith, same)
homes_cut s p (suc n) q written lane = homes_cut s (after_home p written.0) n q written.2 lane

-- what a crash in a line leaves: an image that stands for the acknowledged cut, or for the one that the line acknowledges
pub record LeftInLine (l : Layout) (s : Setting) (p : Past) (line image : List ℕ) : Type 0 where
  pub doubt : Doubt
  pub shows : ShowsStep l s p doubt image
  pub cut : ℕ → ℕ
  pub acknowledged : (cut ≡ p.cut) ⊎ (Asks order.Settle line × IsStable (actions p.logged) cut)
  pub stands : StandsForCut l s p.logged cut image

-- so it is of a crash in the call that the line asks for
in_line : (l : Layout) (s : Setting) (p : Past) (line : List ℕ) (asked : Order) (image : List ℕ) → Asks asked line → LeftInCall l s p asked image → LeftInLine l s p line image
in_line l s p line asked image asks left = record {
  doubt = left.doubt;
  shows = left.shows;
  cut = left.cut;
  acknowledged = ⊎_elim (λ same. inl same) (λ settled. inr (subst (λ (o : Order). Asks o line) settled.0 asks, settled.2)) left.kept;
  stands = left.stands;
}

-- the setting of a machine is this one, where its fields began with these values, and the events lead to it
pub record Standing (first : ℕ → ℕ) (s : Setting) (events : Events) (p : Past) (m : Live) : Type 0 where
  pub setting : setting_from m.monitors first ≡ s
  pub leads : LeadsTo s events p m
  pub running : m.store.known.has_failed ≡ false

-- what the line made of the machine
pub record Went (first : ℕ → ℕ) (s : Setting) (events : Events) (p : Past) (line : List ℕ) (m now : Live) : Type 0 where
  pub after : Events
  pub then : Past
  pub makes : LineMakes s line events p after then
  pub stands : Standing first s after then now
  pub schema : now.monitors.schema ≡ m.monitors.schema
  pub layout : now.store.known.layout ≡ m.store.known.layout
  pub grows : (lane : ℕ) → p.cut lane ≤ then.cut lane
  pub leaves : LeavesOnly (device_of m.store.disk) (device_of now.store.disk) (LeftInLine m.store.known.layout s p line)

module _ (first : ℕ → ℕ) (s : Setting) (events : Events) (p : Past) (line : List ℕ) (m : Live) (was : Standing first s events p m) where
  abbrev Goes : Live → Type 0
  Goes now = Went first s events p line m now

  -- nothing happened
  stayed : (now : Live) → Running now ≡ Running m → Goes now
  stayed now same = subst Goes (sym (one_live now m same)) (record {
    after = events;
    then = p;
    makes = Leaves refl refl;
    stands = was;
    schema = refl;
    layout = refl;
    grows = λ lane. omega arith;
    leaves = begin (device_of m.store.disk) (LeftInLine m.store.known.layout s p line);
  })

  -- the store was told the event's record, if logs keep one
  kept_tells : (x : Parts Memory) (t : ℕ) (r : Option Record) → Keeps m.store t r x → Tells x s (told_record p t r)
  kept_tells x t None same = subst (λ (y : Parts Memory). Tells y s p) (sym same) was.leads.tells
  kept_tells x t (Some r) took = took.after s p was.leads.tells

  kept_told : (t : ℕ) (r : Option Record) → applied (told_record p t r) ≡ with_record t r (applied p)
  kept_told t None = refl
  kept_told t (Some r) = refl

  kept_disk : (x : Parts Memory) (t : ℕ) (r : Option Record) → Keeps m.store t r x → x.disk ≡ m.store.disk
  kept_disk x t None same = ap (λ (y : Parts Memory). y.disk) same
  kept_disk x t (Some r) took = took.disk

  kept_running : (x : Parts Memory) (t : ℕ) (r : Option Record) → Keeps m.store t r x → x.known.has_failed ≡ false
  kept_running x t None same = ap (λ (y : Parts Memory). y.known.has_failed) same ∙ was.running
  kept_running x t (Some r) took = took.running

  kept_cut : (t : ℕ) (r : Option Record) (lane : ℕ) → p.cut lane ≤ (told_record p t r).cut lane
  kept_cut t None lane = omega arith
  kept_cut t (Some r) lane = omega arith

  kept_layout : (x : Parts Memory) (t : ℕ) (r : Option Record) → Keeps m.store t r x → x.known.layout ≡ m.store.known.layout
  kept_layout x t None same = ap (λ (y : Parts Memory). y.known.layout) same
  kept_layout x t (Some r) took = took.layout

  -- an event was done
  moved : (now : Live) (lane : Lane) (asked : Action) (e : Event) → Asks (order.Act lane asked) line → Moved m lane.0 e now → Goes now
  moved now lane asked e asks move =
      let t : ℕ = lane.0 in
      let a : Table = m.monitors in
      let may : MayDo s (state_after s events) t e =
      subst (λ (x : State). MayDo s x t e) was.leads.state (subst (λ (g : Setting). MayDo g (state_of a) t e) was.setting (may-from a first (state_of a) t e move.allowed)) in
      let is : IsEventOf s e = subst (λ (g : Setting). IsEventOf g e) was.setting (event-from a first e move.named) in
      let same : logged s e ≡ logged (setting_of a) e = subst (λ (g : Setting). logged g e ≡ logged (setting_of a) e) was.setting (logged-from a first e) in
      let keeps : Keeps m.store t (logged s e) now.store = subst (λ (r : Option Record). Keeps m.store t r now.store) (sym same) move.kept in
      record {
        after = (t, e) ∷ events;
        then = told_record p t (logged s e);
        makes = AddsEvent lane asked e asks refl refl;
        stands = record {
          setting = same-from a now.monitors first move.after.setting ∙ was.setting;
          leads = record {
            legal = (was.leads.legal, may, is);
            state = move.after.state ∙ ap (λ (x : State). after_event x t e) was.leads.state;
            told = kept_told t (logged s e) ∙ ap (with_record t (logged s e)) was.leads.told;
            tells = kept_tells now.store t (logged s e) keeps;
          };
          running = kept_running now.store t (logged s e) keeps;
        };
        schema = move.after.setting.schema;
        layout = kept_layout now.store t (logged s e) keeps;
        grows = kept_cut t (logged s e);
        leaves = subst (λ (d : Memory). LeavesOnly (device_of m.store.disk) (device_of d) (LeftInLine m.store.known.layout s p line)) (sym (kept_disk now.store t (logged s e) keeps))
            (begin (device_of m.store.disk) (LeftInLine m.store.known.layout s p line));
      }

  -- a call of the store, after which the monitors are as they were
  module _ (x : Parts Memory) (then : Past) (told : applied then ≡ applied p) (tells : Tells x s then) (layout : x.known.layout ≡ m.store.known.layout)
      (running : x.known.has_failed ≡ false) (grows : (lane : ℕ) → p.cut lane ≤ then.cut lane)
      (leaves : LeavesOnly (device_of m.store.disk) (device_of x.disk) (LeftInLine m.store.known.layout s p line)) where
    called : (now : Live) → Running now ≡ Running (record m { store = x }) → LineMakes s line events p events then → Goes now
    called now runs makes = subst Goes (sym (one_live now (record m { store = x }) runs)) (record {
      after = events;
      then = then;
      makes = makes;
      stands = record { setting = was.setting; leads = record { legal = was.leads.legal; state = was.leads.state; told = told ∙ was.leads.told; tells = tells }; running = running };
      schema = refl;
      layout = layout;
      grows = grows;
      leaves = leaves;
    })

  -- what a crash in the line's call leaves
  asked_for : (asked : Order) (x : Parts Memory) → Asks asked line → LeavesOnly (device_of m.store.disk) (device_of x.disk) (LeftInCall m.store.known.layout s p asked)
      → LeavesOnly (device_of m.store.disk) (device_of x.disk) (LeftInLine m.store.known.layout s p line)
  asked_for asked x asks leaves =
      let l : Layout = m.store.known.layout in
      weaker (device_of m.store.disk) (device_of x.disk) (LeftInCall l s p asked) (LeftInLine l s p line) (λ image left. in_line l s p line asked image asks left) leaves

  logging : (now : Live) (said : Answer) → Asks order.Log line → LogsRecords (Running m) said (Running now) m → Goes now
  logging now said asks (inl logs) =
      called logs.store (after_log p) refl (logs.after s p was.leads.tells) logs.call.layout logs.call.running (λ lane. omega arith) (asked_for order.Log logs.store asks (in_keeping m s p order.Log Logging logs.store (logs.call.shown s p was.leads.tells) (logs.stands s p was.leads.tells)))
      now logs.call.runs (LogsAll asks refl refl)
  logging now said asks (inr refused) = stayed now refused.refuses.1

  homing : (now : Live) (said : Answer) → Asks order.Home line → WritesHome (Running m) said (Running now) m → Goes now
  homing now said asks homes =
      let brings = homes.after s p was.leads.tells in
      called homes.store brings.then (homes-told s p homes.cells brings.then brings.written) brings.tells homes.call.layout homes.call.running (homes_cut s p homes.cells brings.then brings.written)
      (asked_for order.Home homes.store asks (in_keeping m s p order.Home Nothing homes.store (homes.call.shown s p was.leads.tells) (homes.stands s p was.leads.tells))) now homes.call.runs (HomeWritten homes.cells asks refl brings.written)

  settling : (now : Live) (said : Answer) → Asks order.Settle line → Settles (Running m) said (Running now) m → Goes now
  settling now said asks (inl settles) =
      let stable = stable_exists (actions p.logged) in
      called settles.store (after_settle p stable.0) refl (settles.after s p stable.0 was.leads.tells stable.1) settles.layout settles.running
      (stable.1.greatest p.cut was.leads.tells.past.whole was.leads.tells.past.closed)
      (asked_for order.Settle settles.store asks (in_settling m s p was.leads.tells said (Running now) settles))
      now settles.runs (HasSettled stable.0 asks refl (settles.clean s p was.leads.tells) stable.1 refl)
  settling now said asks (inr refused) = stayed now refused.refuses.1

  trimming : (now : Live) (said : Answer) → Asks order.Trim line → TrimsLogs (Running m) said (Running now) m → Goes now
  trimming now said asks (inl trims) =
      called trims.store (after_trim p) refl (trims.after s p was.leads.tells) trims.call.layout trims.call.running (λ lane. omega arith)
      (asked_for order.Trim trims.store asks (in_keeping m s p order.Trim Trimming trims.store (trims.call.shown s p was.leads.tells) (trims.stands s p was.leads.tells))) now trims.call.runs (HasTrimmed asks refl refl)
  trimming now said asks (inr refused) = stayed now refused.refuses.1

  -- a crash stops the machine
  crashing : (now : Live) (said : Answer) (fill : Fill) (back : ℕ) → Crashes (Running m) said (Running now) m fill back → Goes now
  crashing now said fill back tests = elim (cases_lt (length m.store.disk.stops) back) [
    | inl few ↦ stayed now (tests.refused few).1
    | inr enough ↦ absurd (let down = (tests.passed (λ few. omega (arith, few, enough))).down in cc)
  ]

  stepped : (now : Live) (said : Answer) (asked : Order) → Asks asked line → Steps (Running m) asked said (Running now) → Goes now
  stepped now said (order.Object name) asks steps = stayed now steps.1
  stepped now said (order.Field name owner guard f is_transient) asks steps = stayed now steps.1
  stepped now said (order.Format lanes capacity) asks steps = stayed now steps.1
  stepped now said (order.Act lane asked) asks steps = elim (moves m now said lane.0 asked steps) [
    | inl same ↦ stayed now same
    | inr did ↦ moved now lane asked did.0 asks did.1
  ]
  stepped now said order.Log asks steps = logging now said asks steps
  stepped now said order.Home asks steps = homing now said asks steps
  stepped now said order.Settle asks steps = settling now said asks steps
  stepped now said order.Trim asks steps = trimming now said asks steps
  stepped now said order.Heap asks steps = stayed now steps.same
  stepped now said (order.Crash fill back) asks steps = crashing now said fill back steps
  stepped now said order.Show asks steps = stayed now steps.1
  stepped now said order.Recover asks steps = stayed now steps.1
  stepped now said order.Upgrade asks steps = stayed now steps.1

  pub went : (now : Live) (output : List ℕ) → PlaysLine (Running m) line output (Running now) → Goes now
  went now output (text, inl skips) = stayed now skips.same
  went now output (text, inr obeys) = stepped now obeys.answer obeys.order obeys.asks obeys.steps

-- what a crash in lines leaves, by the first part of them that had ended
pub record LeftInLines (l : Layout) (s : Setting) (events : Events) (p : Past) (m : Live) (lines outputs : List (List ℕ)) (last : Live) (back : ℕ) (image : List ℕ) : Type 0 where
  pub before : List (List ℕ)
  pub rest : List (List ℕ)
  pub split : lines ≡ before ++ rest
  pub printed : List (List ℕ)
  pub later : List (List ℕ)
  pub prints : outputs ≡ printed ++ later
  pub now : Live
  pub plays : PlaysOn m before printed now
  pub ended : IsSince now.store.disk last.store.disk back
  pub cut_off : CutsOff now rest later last back
  pub after : Events
  pub then : Past
  pub story : Story s m events p before now after then
  pub leads : LeadsTo s after then now
  pub layout : now.store.known.layout ≡ l
  pub doubt : Doubt
  pub shows : ShowsStep l s then doubt image
  pub cut : ℕ → ℕ
  pub acknowledged : (cut ≡ then.cut) ⊎ (IsSettlingFirst rest × IsStable (actions then.logged) cut)
  pub stays : (lane : ℕ) → p.cut lane ≤ cut lane
  pub stands : StandsForCut l s then.logged cut image

-- one that was there before the first of them had changed it
left_before : (l : Layout) (first : ℕ → ℕ) (s : Setting) (events : Events) (p : Past) (m : Live) (lines outputs : List (List ℕ)) (last : Live) (back : ℕ) (was : Standing first s events p m)
    (image : List ℕ) → m.store.known.layout ≡ l → IsSince m.store.disk last.store.disk back → CutsOff m lines outputs last back → Image (device_of m.store.disk).now image
    → LeftInLines l s events p m lines outputs last back image
left_before l first s events p m lines outputs last back was image layout ended cut_off left =
    let has = was.leads.tells in
    record {
      before = [];
      rest = lines;
      split = refl;
      printed = [];
      later = outputs;
      prints = refl;
      now = m;
      plays = (refl, refl);
      ended = ended;
      cut_off = cut_off;
      after = events;
      then = p;
      story = (refl, refl, refl);
      leads = was.leads;
      layout = layout;
      doubt = m.store.known.doubt;
      shows = subst (λ (k : Layout). ShowsStep k s p m.store.known.doubt image) layout (has.images image left);
      cut = p.cut;
      acknowledged = inl refl;
      stays = λ lane. omega arith;
      stands = subst (λ (k : Layout). StandsForCut k s p.logged p.cut image) layout (stands_before m s p has was.running image left);
    }

-- one in the first of them, which was cut off
left_first : (l : Layout) (s : Setting) (events : Events) (p : Past) (m : Live) (line : List ℕ) (lines outputs : List (List ℕ)) (last : Live) (back : ℕ) (image : List ℕ) → LeadsTo s events p m
    → m.store.known.layout ≡ l → IsSince m.store.disk last.store.disk back → CutsOff m (line ∷ lines) outputs last back → LeftInLine l s p line image
    → LeftInLines l s events p m (line ∷ lines) outputs last back image
left_first l s events p m line lines outputs last back image leads layout ended cut_off left = record {
  before = [];
  rest = line ∷ lines;
  split = refl;
  printed = [];
  later = outputs;
  prints = refl;
  now = m;
  plays = (refl, refl);
  ended = ended;
  cut_off = cut_off;
  after = events;
  then = p;
  story = (refl, refl, refl);
  leads = leads;
  layout = layout;
  doubt = left.doubt;
  shows = left.shows;
  cut = left.cut;
  acknowledged = left.acknowledged;
  stays = ⊎_elim
      (λ same. λ lane. let is : left.cut lane ≡ p.cut lane = ap (λ (c : ℕ → ℕ). c lane) same in omega (arith, is))
      (λ settled. settled.1.greatest p.cut leads.tells.past.whole leads.tells.past.closed)
      left.acknowledged;
  stands = left.stands;
}

-- one in a later line, when the first had ended
left_later : (l : Layout) (s : Setting) (events added : Events) (p told : Past) (m middle : Live) (line output : List ℕ) (lines outputs : List (List ℕ)) (last : Live) (back : ℕ) (image : List ℕ)
    → PlaysLine (Running m) line output (Running middle) → LineMakes s line events p added told → LeadsTo s added told middle
    → ((lane : ℕ) → p.cut lane ≤ told.cut lane) → LeftInLines l s added told middle lines outputs last back image
    → LeftInLines l s events p m (line ∷ lines) (output ∷ outputs) last back image
left_later l s events added p told m middle line output lines outputs last back image plays makes leads grows left = record {
  before = line ∷ left.before;
  rest = left.rest;
  split = ap (λ (xs : List (List ℕ)). line ∷ xs) left.split;
  printed = output ∷ left.printed;
  later = left.later;
  prints = ap (λ (xs : List (List ℕ)). output ∷ xs) left.prints;
  now = left.now;
  plays = (middle, plays, left.plays);
  ended = left.ended;
  cut_off = left.cut_off;
  after = left.after;
  then = left.then;
  story = (middle, added, told, output, plays, makes, leads, left.story);
  leads = left.leads;
  layout = left.layout;
  doubt = left.doubt;
  shows = left.shows;
  cut = left.cut;
  acknowledged = left.acknowledged;
  stays = λ lane. let low = grows lane in let high = left.stays lane in omega (arith, low, high);
  stands = left.stands;
}

-- what lines make of the machine: of its device, more moments
pub record Ran (l : Layout) (first : ℕ → ℕ) (s : Setting) (events : Events) (p : Past) (lines : List (List ℕ)) (m now : Live) : Type 0 where
  pub after : Events
  pub then : Past
  pub story : Story s m events p lines now after then
  pub stands : Standing first s after then now
  pub layout : now.store.known.layout ≡ l
  pub schema : now.monitors.schema ≡ m.monitors.schema
  pub grows : Continues (device_of m.store.disk) (device_of now.store.disk)

runs : (l : Layout) (first : ℕ → ℕ) (s : Setting) (events : Events) (p : Past) (lines outputs : List (List ℕ)) (m now : Live) → Standing first s events p m
    → m.store.known.layout ≡ l → PlaysOn m lines outputs now → Ran l first s events p lines m now
runs l first s events p [] outputs m now was layout plays = subst (Ran l first s events p [] m) (sym plays.1)
    (record { after = events; then = p; story = (refl, refl, refl); stands = was; layout = layout; schema = refl; grows = record { name = refl; since = []; moments = refl } })
runs l first s events p (line ∷ lines) [] m now was layout plays = absurd plays
runs l first s events p (line ∷ lines) (output ∷ outputs) m now was layout (middle, line_plays, plays) =
    let w = went first s events p line m was middle output line_plays in
    let r = runs l first s w.after w.then lines outputs middle now w.stands (w.layout ∙ layout) plays in
    record {
      after = r.after;
      then = r.then;
      story = (middle, w.after, w.then, output, line_plays, w.makes, w.stands.leads, r.story);
      stands = r.stands;
      layout = r.layout;
      schema = r.schema ∙ w.schema;
      grows = grows_then (device_of m.store.disk) (device_of middle.store.disk) (device_of now.store.disk) w.leaves.grows r.grows;
    }

-- how many moments were over when the crash came that ends a play
abbrev over_at : (back : ℕ) (last : Live) → ℕ
over_at back last = length (moments_before last.store.disk.first (first_stops (begun_at back last.store.disk - 1) last.store.disk.stops))

-- an image of the moment of the crash, line by line
found : (l : Layout) (first : ℕ → ℕ) (s : Setting) (events : Events) (p : Past) (lines outputs : List (List ℕ)) (m last : Live) (back : ℕ) (image : List ℕ) → Standing first s events p m
    → m.store.known.layout ≡ l → PlaysOn m lines outputs last → IsSince m.store.disk last.store.disk back
    → Came (over_at back last) ((device_of last.store.disk).now ∷ (device_of last.store.disk).past) image → LeftInLines l s events p m lines outputs last back image
found l first s events p [] outputs m last back image was layout plays ended came =
    let here : Image (device_of m.store.disk).now image =
    subst (λ (x : Live). Image (device_of x.store.disk).now image) plays.1
    (came_now (over_at back last) (device_of last.store.disk) image (subst (λ (x : Live). IsSince x.store.disk last.store.disk back) (sym plays.1) ended) came) in
    left_before l first s events p m [] outputs last back was image layout ended plays here
found l first s events p (line ∷ lines) [] m last back image was layout plays ended came = absurd plays
found l first s events p (line ∷ lines) (output ∷ outputs) m last back image was layout (middle, line_plays, plays) ended came =
    let t : ℕ = over_at back last in
    let a : Device = device_of m.store.disk in
    let b : Device = device_of middle.store.disk in
    let w = went first s events p line m was middle output line_plays in
    elim (cases_lt t (length b.past)) as (λ _. LeftInLines l s events p m (line ∷ lines) (output ∷ outputs) last back image) [
      | inl within ↦
          let r = runs l first s w.after w.then lines outputs middle last w.stands (w.layout ∙ layout) plays in
          let cut_off : CutsOff m (line ∷ lines) (output ∷ outputs) last back = (middle, line_plays, (λ since. omega (arith, within, since)), plays) in
          let left = came_since t (length a.past) (b.now ∷ b.past) image ended (came_before t b (device_of last.store.disk) image r.grows within came) in
          ⊎_elim
          (λ old. left_before l first s events p m (line ∷ lines) (output ∷ outputs) last back was image layout ended cut_off (left_now a image old))
          (λ new. left_first l s events p m line lines (output ∷ outputs) last back image was.leads layout ended cut_off (subst (λ (k : Layout). LeftInLine k s p line image) layout new))
          (w.leaves.each (length a.past) image (omega arith) left)
      | inr over ↦
          left_later l s events w.after p w.then m middle line output lines outputs last back image line_plays w.makes w.stands.leads w.grows
          (found l first s w.after w.then lines outputs middle last back image w.stands (w.layout ∙ layout) plays over came)
    ]

-- recovery of such an image, of a machine with this schema
module _ (l : Layout) (s : Setting) (events : Events) (p : Past) (m crashed : Live) (lines outputs : List (List ℕ)) (last : Live) (back : ℕ) (image : List ℕ)
    (left : LeftInLines l s events p m lines outputs last back image) (told : Answer) (new : MachineState) where
  -- the machine that crashed, with the store that the first part of the lines left
  abbrev then_live : Live
  then_live = record { monitors = crashed.monitors; store = left.now.store }

  -- by the layout and the schema that the machine had before the lines
  over_start : (schema : crashed.monitors.schema ≡ m.monitors.schema) → m.store.known.layout ≡ l → Survives then_live s left.then.logged left.cut told new
      → Survives m s left.then.logged left.cut told new
  over_start schema layout x =
      let same : left.now.store.known.layout ≡ m.store.known.layout = left.layout ∙ sym layout in
      record {
        live = x.live;
        report = x.report;
        tells = x.tells;
        runs = x.runs;
        layout = x.layout ∙ same;
        lanes = x.lanes ∙ ap (λ (k : Layout). k.lanes) same;
        heap = x.heap ∙ ap (λ (k : Layout). kept_heap k s left.then.logged left.cut) same;
        kept = λ lane below. x.kept lane (subst (λ (k : Layout). lane < k.lanes) (sym same) below);
        restored = subst (λ (d : Declarations). IsRestored d m.store.known.layout.lanes x.report.heap.items x.live.monitors) schema
            (subst (λ (k : Layout). IsRestored crashed.monitors.schema k.lanes x.report.heap.items x.live.monitors) same x.restored);
      }

  pub recovers : (schema : crashed.monitors.schema ≡ m.monitors.schema) → m.store.known.layout ≡ l → Steps (Down (wreck_of crashed image)) order.Recover told new
      → SurvivesLines m s events p lines outputs last back told new ⊎ IsAtItsEnd (Down (wreck_of crashed image)) told
  recovers schema layout steps =
      ⊎_elim
      (λ survives. inl (record {
        before = left.before;
        rest = left.rest;
        split = left.split;
        printed = left.printed;
        later = left.later;
        prints = left.prints;
        now = left.now;
        plays = left.plays;
        ended = left.ended;
        cut_off = left.cut_off;
        after = left.after;
        then = left.then;
        story = left.story;
        leads = left.leads;
        cut = left.cut;
        acknowledged = left.acknowledged;
        stays = left.stays;
        survives = over_start schema layout survives;
      }))
      (λ end. inr end)
      (recovered_as then_live s left.then left.leads.tells left.doubt image (subst (λ (k : Layout). ShowsStep k s left.then left.doubt image) (sym left.layout) left.shows) told new
      left.cut (subst (λ (k : Layout). StandsForCut k s left.then.logged left.cut image) (sym left.layout) left.stands) steps)

-- lines from a machine to which events lead
module _ (first : ℕ → ℕ) (s : Setting) (events : Events) (p : Past) (m : Live) (was : Standing first s events p m) where
  crashed_in : (now : Live) (lines outputs : List (List ℕ)) (fill : Fill) (back : ℕ) (down new : MachineState) (told : Answer) → PlaysOn m lines outputs now
      → IsSince m.store.disk now.store.disk back → Steps (Running now) (order.Crash fill back) Crashed down → Steps down order.Recover told new
      → SurvivesLines m s events p lines outputs now back told new ⊎ IsAtItsEnd down told
  crashed_in now lines outputs fill back down new told plays ended crash recover =
      let l : Layout = m.store.known.layout in
      let ran = runs l first s events p lines outputs m now was refl plays in
      let goes = went_down now fill back down crash in
      let image = crash_back fill back now.store.disk in
      let left : LeftInLines l s events p m lines outputs now back image =
      found l first s events p lines outputs m now back image was refl plays ended
      (came now.store.disk (begun_at back now.store.disk) image (one_begun now fill back down crash) goes.possible) in
      subst (λ (y : MachineState). SurvivesLines m s events p lines outputs now back told new ⊎ IsAtItsEnd y told) (sym goes.down)
      (recovers l s events p m now lines outputs now back image left told new ran.schema refl (subst (λ (y : MachineState). Steps y order.Recover told new) goes.down recover))

pub play : PlayLaw
play m middle now agrees done lines printed outputs fill back down new told first_plays plays ended crash recover =
    let s : Setting = setting_from m.monitors agrees.first in
    let was : Standing agrees.first s agrees.history agrees.past m = record {
      setting = refl;
      leads = record { legal = agrees.legal; state = agrees.state; told = agrees.told; tells = agrees.tells };
      running = agrees.running;
    } in
    let ran = runs m.store.known.layout agrees.first s agrees.history agrees.past done printed m middle was refl first_plays in
    ⊎_elim
    (λ survives. inl (record { after = ran.after; then = ran.then; story = ran.story; leads = ran.stands.leads; survives = survives }))
    (λ end. inr end)
    (crashed_in agrees.first s ran.after ran.then middle ran.stands now lines outputs fill back down new told plays ended crash recover)

pub formatted : FormattedLaw
formatted d lanes capacity said m steps =
    let inner = steps.passed (λ empty. absurd (let same = (steps.refused empty).1 in cc)) in
    let f = inner.passed (λ bad. absurd (let same = (inner.refused bad).1 in cc)) in
    let fresh_ones = f.fresh_monitors in
    let a : Table = f.live.monitors in
    let x : Parts Memory = f.live.store in
    let declared : Tells x (setting_in d LAST_NUMBER) no_past =
    subst (λ (s : Setting). Tells x s no_past) (λ i. setting_in (fresh_ones.schema_is i) (fresh_ones.last i)) f.tells in
    subst (λ (z : Live). IsBegun z (field_count d) (first_of d)) (sym (one_live m f.live f.runs)) (record {
      agrees = record {
        first = first_of d;
        history = [];
        past = no_past;
        legal = tt;
        state = fresh_ones.state;
        told = refl;
        tells = subst (λ (s : Setting). Tells x s no_past) (table-from d LAST_NUMBER a (first_of d) fresh_ones.schema_is fresh_ones.last) declared;
        lanes = ap (λ (l : Layout). l.lanes) f.layout ∙ sym fresh_ones.lanes_are;
        running = f.running;
        of_schema = subst (λ (k : Declarations). IsDiskOf k x.disk) (sym fresh_ones.schema_is) f.of_schema;
      };
      no_event = refl;
      nothing = refl;
      values = λ g below. refl;
    })

pub recovered : RecoveredLaw
recovered w report m (inr refused) = absurd (let same = refused.answers in cc)
recovered w report m (inl r) =
    let fresh_ones = r.restored.fresh_monitors in
    let a : Table = r.live.monitors in
    let first : ℕ → ℕ = r.restored.first in
    let same : report ≡ r.report = (let told = r.answers in cc) in
    subst (λ (z : Live). IsBegun z (field_count w.schema) (slice_index report.heap.items)) (sym (one_live m r.live r.runs)) (record {
      agrees = record {
        first = first;
        history = [];
        past = no_past;
        legal = tt;
        state = fresh_ones.state;
        told = refl;
        tells = subst (λ (s : Setting). Tells r.live.store s no_past) (table-from w.schema LAST_NUMBER a first fresh_ones.schema_is fresh_ones.last) (r.begins.tells first r.restored.values);
        lanes = sym fresh_ones.lanes_are;
        running = r.begins.running;
        of_schema = subst (λ (k : Declarations). IsDiskOf k r.live.store.disk) (sym fresh_ones.schema_is) r.begins.of_schema;
      };
      no_event = refl;
      nothing = refl;
      values = λ g below. r.restored.values g below ∙ ap (λ (z : Report). slice_index z.heap.items g) (sym same);
    })
