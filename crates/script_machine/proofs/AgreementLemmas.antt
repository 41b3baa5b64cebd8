-- The monitors and the store agree, from the start and after each step.
use Rattle.std.proofs.Common.{◌≡◌, ◌<◌, ℕ, zero, suc, Bool, false, true, not, List, [], ◌∷◌, Option, Some, None, slice_index, refl, sym, ap, ◌∙◌, subst, arith}
use Rattle.guards.specs.Schema.{Declarations, field_count, first_of, is_transient_of}
use Rattle.heap_model.specs.declared.limits.TheConstants.{LAST_NUMBER}
use Rattle.image_parts.specs.declared.guard_row.GuardRow.{GuardRow}
use Rattle.image_parts.specs.declared.layout.Layout.{Layout}
use Rattle.durable.specs.Begin.{IsSettingOf}
use Rattle.heap_model.specs.declared.record.Record.{Record}
use Rattle.heap_model.specs.declared.event.Event.{Event}
use Rattle.heap_model.specs.declared.event.Event.TheVariants.{Enter, NestedEnter, NestedExit, Exit, Load, Store, Wait, Resume, Notify, NotifyAll, Look}
use Rattle.heap_model.specs.Setting.{Setting}
use Rattle.heap_model.specs.State.{State, initial_state}
use Rattle.heap_model.specs.Events.{MayDo, IsEventOf, after_event}
use Rattle.heap_model.specs.History.{state_after, IsLegalHistory, logged, with_record, log_of}
use Rattle.law_histories.specs.Laws.{LogLaw}
use Rattle.heap_model.specs.Log.{IsLegal}
use Rattle.block_disk.specs.Memory.{Memory}
use Rattle.heap_model.specs.Past.{Past, applied, no_past, after_apply, after_home}
use Rattle.durable.specs.Calls.{RefusesLog, RefusesSettle, RefusesTrim}
use Rattle.durable.specs.Store.{Known, Parts}
use Rattle.heap_model.specs.declared.store_error.StoreError.{StoreError}
use Rattle.heap_model.specs.declared.store_error.StoreError.TheVariants.{Failed, BadLane, BadId, Worn, NotNext, TooLong, LogFull, Unwritten, Fault, Unfinished}
use Rattle.script_machine.specs.Agreement.{Agrees, BeginsWith, IsForCall, IsForRecord, setting_from}
use Rattle.script_machine.specs.Homes.{WriteHomes}
use Rattle.script_machine.specs.Machine.{Keeps, RefusesRecord}
use Rattle.script_machine.specs.OfSchema.{FitsSchema, IsDiskOf}
use Rattle.script_machine.specs.States.{Tells}
use Rattle.script_monitors.specs.Table.{Table, lanes_of, setting_in, setting_of, state_of, IsStepOf, IsAfter, SameSetting}

-- the values at first don't decide what is allowed
pub may-from : (a : Table) (first : ℕ → ℕ) (s : State) (t : ℕ) (e : Event) → MayDo (setting_of a) s t e → MayDo (setting_from a first) s t e
may-from a first s t (Enter o n) may = may
may-from a first s t (NestedEnter o) may = may
may-from a first s t (NestedExit o) may = may
may-from a first s t (Exit o n) may = may
may-from a first s t (Load f v) may = may
may-from a first s t (Store f before after) may = may
may-from a first s t (Wait o n) may = may
may-from a first s t (Resume o n) may = may
may-from a first s t (Notify o woken) may = may
may-from a first s t (NotifyAll o woken) may = may
may-from a first s t (Look o sight) may = may

-- nor which events are the setting's
pub event-from : (a : Table) (first : ℕ → ℕ) (e : Event) → IsEventOf (setting_of a) e → IsEventOf (setting_from a first) e
event-from a first (Enter o n) is = is
event-from a first (NestedEnter o) is = is
event-from a first (NestedExit o) is = is
event-from a first (Exit o n) is = is
event-from a first (Load f v) is = is
event-from a first (Store f before after) is = is
event-from a first (Wait o n) is = is
event-from a first (Resume o n) is = is
event-from a first (Notify o woken) is = is
event-from a first (NotifyAll o woken) is = is
event-from a first (Look o sight) is = is

-- a step is such an event
pub step-event : (a : Table) (e : Event) → IsStepOf (setting_of a) e → IsEventOf (setting_of a) e
step-event a (Enter o n) is = is
step-event a (NestedEnter o) is = is
step-event a (NestedExit o) is = is
step-event a (Exit o n) is = is
step-event a (Load f v) is = is
step-event a (Store f before after) is = is
step-event a (Wait o n) is = is
step-event a (Resume o n) is = is
step-event a (Notify o woken) is = elim is [ ]
step-event a (NotifyAll o woken) is = elim is [ ]
step-event a (Look o sight) is = elim is [ ]

-- the setting stays where schema and bound do
pub same-from : (a b : Table) (first : ℕ → ℕ) → SameSetting a b → setting_from b first ≡ setting_from a first
same-from a b first same = λ i. record (setting_in (same.schema i) (same.last i)) { first = first }

-- what logs keep of an event doesn't depend on the values at first
pub logged-from : (a : Table) (first : ℕ → ℕ) (e : Event) → logged (setting_from a first) e ≡ logged (setting_of a) e
logged-from a first (Enter o n) = refl
logged-from a first (NestedEnter o) = refl
logged-from a first (NestedExit o) = refl
logged-from a first (Exit o n) = refl
logged-from a first (Load f v) = refl
logged-from a first (Store f before after) = refl
logged-from a first (Wait o n) = refl
logged-from a first (Resume o n) = refl
logged-from a first (Notify o woken) = refl
logged-from a first (NotifyAll o woken) = refl
logged-from a first (Look o sight) = refl

-- the history with one more event is legal
module _ (a : Table) (x : Parts Memory) (t : ℕ) (e : Event) (g : Agrees a x) (may : MayDo (setting_of a) (state_of a) t e) (is : IsEventOf (setting_of a) e) where
  pub legal-on : IsLegalHistory (setting_from a g.first) ((t, e) ∷ g.history)
  legal-on = (g.legal, subst (λ s. MayDo (setting_from a g.first) s t e) g.state (may-from a g.first (state_of a) t e may), event-from a g.first e is)

-- what the store has once it kept an event's record, if there is one
pub record Kept (s : Setting) (p : Past) (t : ℕ) (r : Option Record) (x y : Parts Memory) : Type 0 where
  pub then : Past
  pub tells : Tells y s then
  pub told : applied then ≡ with_record t r (applied p)
  pub layout : y.known.layout ≡ x.known.layout
  pub disk : y.disk ≡ x.disk

kept : (s : Setting) (p : Past) (t : ℕ) (r : Option Record) (x y : Parts Memory) → Tells x s p → Keeps x t r y → Kept s p t r x y
kept s p t None x y tells same = record { then = p; tells = subst (λ z. Tells z s p) (sym same) tells; told = refl; layout = ap (λ z. z.known.layout) same; disk = ap (λ z. z.disk) same }
kept s p t (Some next) x y tells took = record { then = after_apply p t next; tells = took.after s p tells; told = refl; layout = took.layout; disk = took.disk }

-- they agree after the thread's event, once the store has kept its record
pub goes-on : (a b : Table) (x y : Parts Memory) (t : ℕ) (e : Event) (g : Agrees a x) → MayDo (setting_of a) (state_of a) t e → IsEventOf (setting_of a) e
    → Keeps x t (logged (setting_of a) e) y → y.known.has_failed ≡ false → IsAfter a t e b → Agrees b y
goes-on a b x y t e g may is keeps running after =
    let k = kept (setting_from a g.first) g.past t (logged (setting_of a) e) x y g.tells keeps in
    let same : setting_from a g.first ≡ setting_from b g.first = sym (same-from a b g.first after.setting) in
    record {
      first = g.first;
      history = (t, e) ∷ g.history;
      past = k.then;
      legal = subst (λ s. IsLegalHistory s ((t, e) ∷ g.history)) same (legal-on a x t e g may is);
      state = after.state ∙ ap (λ s. after_event s t e) g.state ∙ ap (λ s. state_after s ((t, e) ∷ g.history)) same;
      told = k.told ∙ ap (with_record t (logged (setting_of a) e)) g.told
          ∙ ap (λ (r : Option Record). with_record t r (log_of (setting_from a g.first) g.history)) (sym (logged-from a g.first e))
          ∙ ap (λ (s : Setting). log_of s ((t, e) ∷ g.history)) same;
      tells = subst (λ s. Tells y s k.then) same k.tells;
      lanes = ap (λ l. l.lanes) k.layout ∙ g.lanes ∙ sym after.setting.lanes;
      running = running;
      of_schema = subst (λ d. IsDiskOf d y.disk) (sym after.setting.schema) (subst (IsDiskOf a.schema) (sym k.disk) g.of_schema);
    }

-- they agree at first
pub at-first : (a : Table) (x : Parts Memory) (first : ℕ → ℕ) → state_of a ≡ initial_state first → Tells x (setting_from a first) no_past
    → x.known.layout.lanes ≡ lanes_of a → x.known.has_failed ≡ false → IsDiskOf a.schema x.disk → Agrees a x
at-first a x first state tells lanes running of = record {
  first = first;
  history = [];
  past = no_past;
  legal = tt;
  state = state;
  told = refl;
  tells = tells;
  lanes = lanes;
  running = running;
  of_schema = of;
}

-- they agree after a call that tells the store nothing
pub same-told : (a : Table) (x y : Parts Memory) (g : Agrees a x) (q : Past) → applied q ≡ applied g.past → Tells y (setting_from a g.first) q
    → y.known.layout ≡ x.known.layout → y.known.has_failed ≡ false → IsDiskOf a.schema y.disk → Agrees a y
same-told a x y g q told tells layout running of = record {
  first = g.first;
  history = g.history;
  past = q;
  legal = g.legal;
  state = g.state;
  told = told ∙ g.told;
  tells = tells;
  lanes = ap (λ l. l.lanes) layout ∙ g.lanes;
  running = running;
  of_schema = of;
}

-- home writes tell it nothing
pub homes-told : (s : Setting) (p : Past) (n : ℕ) (q : Past) → WriteHomes s p n q → applied q ≡ applied p
homes-told s p zero q written = ap applied written
homes-told s p (suc n) q written = homes-told s (after_home p written.0) n q written.2

-- why the store may refuse a record that is the next
refused-next : (x : Parts Memory) (s : Setting) (p : Past) (t : ℕ) (r : Option Record) (why : StoreError) → Tells x s p → x.known.has_failed ≡ false
    → t < x.known.layout.lanes → IsLegal s (with_record t r (applied p)) → RefusesRecord x s p t r why → IsForRecord why
refused-next x s p t None why tells running lane legal refused = elim refused [ ]
refused-next x s p t (Some r) Failed tells running lane legal refused = absurd (let both : true ≡ false = sym refused ∙ running in cc)
refused-next x s p t (Some r) BadLane tells running lane legal refused =
    let long = tells.layout.lanes in let few = refused.1 in absurd (omega (arith, long, few, lane))
refused-next x s p t (Some r) BadId tells running lane legal refused = absurd (refused.1.1 legal.3)
refused-next x s p t (Some r) Worn tells running lane legal refused = tt
refused-next x s p t (Some r) NotNext tells running lane legal refused = absurd (refused.1.3 (legal.1, legal.2))
refused-next x s p t (Some r) TooLong tells running lane legal refused = tt
refused-next x s p t (Some r) LogFull tells running lane legal refused = tt
refused-next x s p t (Some r) Unwritten tells running lane legal refused = elim refused.1 [ ]
refused-next x s p t (Some r) Fault tells running lane legal refused = elim refused.1 [ ]
refused-next x s p t (Some r) Unfinished tells running lane legal refused = elim refused.1 [ ]

-- why the store may refuse the record of an event that the monitors allow
pub refused-event : LogLaw → (a : Table) (x : Parts Memory) (t : ℕ) (e : Event) (why : StoreError) (g : Agrees a x) → t < lanes_of a
    → MayDo (setting_of a) (state_of a) t e → IsEventOf (setting_of a) e
    → ((s : Setting) (p : Past) → Tells x s p → RefusesRecord x s p t (logged (setting_of a) e) why) → IsForRecord why
refused-event law a x t e why g lane may is refused =
    let s : Setting = setting_from a g.first in
    let legal : IsLegal s (with_record t (logged (setting_of a) e) (applied g.past)) =
    subst (λ log. IsLegal s (with_record t (logged (setting_of a) e) log)) (sym g.told)
    (subst (λ (r : Option Record). IsLegal s (with_record t r (log_of s g.history))) (logged-from a g.first e) (law s ((t, e) ∷ g.history) (legal-on a x t e g may is))) in
    refused-next x s g.past t (logged (setting_of a) e) why g.tells g.running (subst (λ n. t < n) (sym g.lanes) lane) legal (refused s g.past g.tells)

-- why a store that hasn't failed may refuse to log
pub refused-log : (x : Known) (p : Past) (why : StoreError) → x.has_failed ≡ false → RefusesLog x p why → IsForCall why
refused-log x p Failed running refused = absurd (let both : true ≡ false = sym refused ∙ running in cc)
refused-log x p BadLane running refused = elim refused [ ]
refused-log x p BadId running refused = elim refused [ ]
refused-log x p Worn running refused = tt
refused-log x p NotNext running refused = elim refused [ ]
refused-log x p TooLong running refused = elim refused [ ]
refused-log x p LogFull running refused = elim refused [ ]
refused-log x p Unwritten running refused = tt
refused-log x p Fault running refused = tt
refused-log x p Unfinished running refused = elim refused [ ]

-- and to settle
pub refused-settle : (x : Known) (s : Setting) (p : Past) (why : StoreError) → x.has_failed ≡ false → RefusesSettle x s p why → IsForCall why
refused-settle x s p Failed running refused = absurd (let both : true ≡ false = sym refused ∙ running in cc)
refused-settle x s p BadLane running refused = elim refused [ ]
refused-settle x s p BadId running refused = elim refused [ ]
refused-settle x s p Worn running refused = tt
refused-settle x s p NotNext running refused = elim refused [ ]
refused-settle x s p TooLong running refused = elim refused [ ]
refused-settle x s p LogFull running refused = elim refused [ ]
refused-settle x s p Unwritten running refused = tt
refused-settle x s p Fault running refused = tt
refused-settle x s p Unfinished running refused = elim refused [ ]

-- and to trim
pub refused-trim : (x : Known) (p : Past) (why : StoreError) → x.has_failed ≡ false → RefusesTrim x p why → IsForCall why
refused-trim x p Failed running refused = absurd (let both : true ≡ false = sym refused ∙ running in cc)
refused-trim x p BadLane running refused = elim refused [ ]
refused-trim x p BadId running refused = elim refused [ ]
refused-trim x p Worn running refused = tt
refused-trim x p NotNext running refused = elim refused [ ]
refused-trim x p TooLong running refused = elim refused [ ]
refused-trim x p LogFull running refused = elim refused [ ]
refused-trim x p Unwritten running refused = tt
refused-trim x p Fault running refused = tt
refused-trim x p Unfinished running refused = elim refused [ ]

-- the settings of a table of this schema and this bound
pub table-from : (d : Declarations) (last : ℕ) (a : Table) (first : ℕ → ℕ) → a.schema ≡ d → a.last ≡ last → record (setting_in d last) { first = first } ≡ setting_from a first
table-from d last a first schema bound = λ i. record (setting_in (sym schema i) (sym bound i)) { first = first }

-- free monitors agree with the store of an image just made
pub agree-formatted : (d : Declarations) (a : Table) (x : Parts Memory) → a.schema ≡ d → a.last ≡ LAST_NUMBER → state_of a ≡ initial_state (first_of d)
    → Tells x (setting_in d LAST_NUMBER) no_past → x.known.layout.lanes ≡ lanes_of a → x.known.has_failed ≡ false → IsDiskOf d x.disk → Agrees a x
agree-formatted d a x schema last state tells lanes running of =
    at-first a x (first_of d) state (subst (λ s. Tells x s no_past) (table-from d LAST_NUMBER a (first_of d) schema last) tells) lanes running
    (subst (λ k. IsDiskOf k x.disk) (sym schema) of)

-- and free monitors with the values of a heap with the store that begins with it
pub agree-restored : (d : Declarations) (heap : List ℕ) (a : Table) (x : Parts Memory) → a.schema ≡ d → a.last ≡ LAST_NUMBER
    → state_of a ≡ initial_state (slice_index a.values) → ((f : ℕ) → f < field_count d → slice_index a.values f ≡ slice_index heap f)
    → BeginsWith d heap x → x.known.layout.lanes ≡ lanes_of a → Agrees a x
agree-restored d heap a x schema last state values begins lanes =
    at-first a x (slice_index a.values) state
    (subst (λ s. Tells x s no_past) (table-from d LAST_NUMBER a (slice_index a.values) schema last) (begins.tells (slice_index a.values) values)) lanes begins.running
    (subst (λ k. IsDiskOf k x.disk) (sym schema) begins.of_schema)

pub not_not : (b : Bool) → not (not b) ≡ b
not_not true = refl
not_not false = refl

-- a store that was adopted from an image of the schema begins with its heap
pub begins-with : (d : Declarations) (l : Layout) (guards : List GuardRow) (heap told : List ℕ) (x : Parts Memory) → FitsSchema d l guards → told ≡ heap
    → ((s : Setting) → IsSettingOf l guards heap LAST_NUMBER s → Tells x s no_past)
    → (first : ℕ → ℕ) → ((f : ℕ) → f < field_count d → first f ≡ slice_index told f) → Tells x (record (setting_in d LAST_NUMBER) { first = first }) no_past
begins-with d l guards heap told x fits same adopted first values = adopted (record (setting_in d LAST_NUMBER) { first = first }) (record {
  objects = sym fits.objects;
  fields = sym fits.fields;
  guards = λ f e below. fits.guarded f e (subst (λ n. f < n) fits.fields below);
  marks = λ f e below. fits.marked f e (subst (λ n. f < n) fits.fields below) ∙ sym (not_not (is_transient_of d f));
  values = λ f below. sym (values f (subst (λ n. f < n) fits.fields below) ∙ ap (λ xs. slice_index xs f) same);
  last_is = refl;
})
