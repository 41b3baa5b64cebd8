-- Why a worker's session refuses a call, by what it holds.
use Rattle.std.proofs.Common.{ℕ, ◌≡◌, ◌≢◌, ◌+◌, ◌<◌, ◌≤◌, if◌then◌else◌, Bool, true, false, List, [], ◌∷◌, length, Option, None, Some, option_map, Result, Ok, Err, IfErr, IfOk, MatchResult, inl, inr, refl, sym, ap, ◌∙◌, subst, arith}
use Rattle.std.proofs.lemmas.Bool.{cases_lt}
use Rattle.heap_model.specs.Own.{Hold, own}
use Rattle.heap_model.specs.Setting.{Setting}
use Rattle.heap_model.specs.declared.event.Event.{Event}
use Rattle.heap_model.specs.declared.event.Event.TheVariants as event
use Rattle.heap_model.specs.declared.event.Sight.TheVariants.{Found}
use Rattle.heap_model.specs.declared.ids.FieldId.{FieldId}
use Rattle.heap_model.specs.declared.ids.ObjectId.{ObjectId}
use Rattle.heap_model.specs.declared.limits.TheConstants.{RING_RECORDS, SECTION_RECORDS}
use Rattle.monitor.specs.Seats.{Home}
use Rattle.session.specs.Calls.{Begins, EntersFirst, EntersWaiting, GoesOn, IsBehind, IsQuiet, IsSettled, Stores, Tries, records_of}
use Rattle.session.specs.Logs.{Rooms, held_count, rooms}
use Rattle.session.specs.declared.error.SessionError.{SessionError}
use Rattle.session.specs.declared.error.SessionError.TheVariants.{UnknownObject, UnknownField, NotHeld, Behind, SectionFull, TooMany, TooDeep, NoFat, Worn, Held}
use Rattle.thread_steps.specs.Views.{IsHeld, Lengthens, View, hold, plan}
use Rattle.thread_drive.specs.Working.{HoldsJust, MayTake, RefusesCount, RefusesEnter, StopsAt, StopsWorker}
use Rattle.thread_drive.proofs.Holding.{entered, held_by_none, loaded, looked, not_locked, stored, told, weaker}

-- a call that was told nothing
quiet : (v w : View) (objects : List ℕ) (n : ℕ) → HoldsJust v objects n → IsQuiet v w → HoldsJust w objects n
quiet v w objects n holds none = told v w [] objects n none holds

-- a look that showed it free
saw : (v w : View) (o : ObjectId) (number : ℕ) (objects : List ℕ) (n : ℕ) → HoldsJust v objects n → Lengthens v w (event.Look o (Found None 0 number) ∷ []) → HoldsJust w objects n
saw v w o number objects n holds longer =
    let look : Event = event.Look o (Found None 0 number) in
    told v w (look ∷ []) objects n longer (looked v.plan v.events objects n o (look ∷ []) ((Found None 0 number, refl), tt) holds)

-- and a try that has taken it
took : (v w : View) (o : ObjectId) (number : ℕ) (objects : List ℕ) (n : ℕ) → HoldsJust v objects n → Lengthens v w (event.Enter o number ∷ event.Look o (Found None 0 number) ∷ []) → HoldsJust w (o.0 ∷ objects) (n + 1)
took v w o number objects n holds longer =
    let look : Event = event.Look o (Found None 0 number) in
    told v w (event.Enter o number ∷ look ∷ []) (o.0 ∷ objects) (n + 1) longer
    (entered v.plan (look ∷ v.events) objects n o number (looked v.plan v.events objects n o (look ∷ []) ((Found None 0 number, refl), tt) holds))

-- a ring has the usual room at least
behind_usual : (c : Rooms) (k : ℕ) (w : View) → RING_RECORDS ≤ c.ring → IsBehind c k w → IsBehind (rooms RING_RECORDS c.lane) k w
behind_usual c k w wide (inl short) = inl (omega arith)
behind_usual c k w wide (inr lane) = inr lane

module _ (h : Home) (c : Rooms) (wide : RING_RECORDS ≤ c.ring) (v w : View) (o : ObjectId) (v-of : v.plan ≡ plan h) (w-of : w.plan ≡ plan h) (low : o.0 < (plan h).objects) where
  -- how an enter of a monitor that isn't held ends
  abbrev Entered : (objects : List ℕ) (n : ℕ) → Result (Unit {0}) SessionError → Type 0
  Entered objects n r = MatchResult r (λ done. (o.0 < (plan h).objects) × HoldsJust w (o.0 ∷ objects) (n + 1)) (λ e. RefusesEnter h c.lane o e × HoldsJust w objects n)

  worn : (objects : List ℕ) (n : ℕ) → HoldsJust v objects n → Tries v w o (Err Worn) → Entered objects n (Err Worn)
  worn objects n holds tries = (
    (
      w,
      w-of,
      inr (record {
        object = o;
        number = tries.0;
        last = subst (λ (g : Setting). g.last ≤ tries.0) (sym tries.2.plan) tries.1;
        older = v.events;
        seen = tries.2.events;
      }),
    ),
    saw v w o tries.0 objects n holds tries.2,
  )

  begun : (n : ℕ) (r : Result (Unit {0}) SessionError) → IsSettled r → HoldsJust v [] n → Begins c v w o r → Entered [] n r
  begun n (Ok done) settled holds begins = (low, took v w o begins.2.0 [] n holds begins.2.2)
  begun n (Err UnknownObject) settled holds begins = absurd begins
  begun n (Err UnknownField) settled holds begins = absurd begins
  begun n (Err NotHeld) settled holds begins = absurd begins
  begun n (Err Behind) settled holds begins = ((w, w-of, behind_usual c SECTION_RECORDS w wide begins.0), quiet v w [] n holds begins.1)
  begun n (Err SectionFull) settled holds begins = absurd begins
  begun n (Err TooMany) settled holds begins = absurd begins
  begun n (Err TooDeep) settled holds begins = absurd begins
  begun n (Err NoFat) settled holds begins = absurd begins
  begun n (Err Worn) settled holds begins = elim begins.1 [
    | inl last ↦ ((v, v-of, inl last.0), quiet v w [] n holds last.1)
    | inr tries ↦ worn [] n holds tries.1
  ]
  begun n (Err (Held x)) settled holds begins = absurd settled

  gone_on : (objects : List ℕ) (n : ℕ) (r : Result (Unit {0}) SessionError) → IsSettled r → MayTake objects n o.0 → HoldsJust v objects n → GoesOn v w o r → Entered objects n r
  gone_on objects n (Ok done) settled may holds goes = (low, took v w o goes.2.0 objects n holds goes.2.2)
  gone_on objects n (Err UnknownObject) settled may holds goes = absurd goes
  gone_on objects n (Err UnknownField) settled may holds goes = absurd goes
  gone_on objects n (Err NotHeld) settled may holds goes = absurd goes
  gone_on objects n (Err Behind) settled may holds goes = absurd goes
  gone_on objects n (Err SectionFull) settled may holds goes =
      let few = holds.few in
      let room = may.room in
      let held : held_count v ≡ length objects = ap (λ (os : List ℕ). length os) holds.held in
      let full = goes.0 in
      absurd (omega (arith, few, room, held, full))
  gone_on objects n (Err TooMany) settled may holds goes =
      let few = may.few in
      let held : held_count v ≡ length objects = ap (λ (os : List ℕ). length os) holds.held in
      let most = goes.1 in
      absurd (omega (arith, few, held, most))
  gone_on objects n (Err TooDeep) settled may holds goes = absurd goes
  gone_on objects n (Err NoFat) settled may holds goes = absurd goes
  gone_on objects n (Err Worn) settled may holds goes = worn objects n holds goes.2
  gone_on objects n (Err (Held x)) settled may holds goes = absurd settled

  pub either_way : (objects : List ℕ) (n : ℕ) (r : Result (Unit {0}) SessionError) → IsSettled r → MayTake objects n o.0 → HoldsJust v objects n → EntersFirst c v w o r → Entered objects n r
  either_way [] n r settled may holds enters = begun n r settled holds (enters.0 (ap (λ (os : List ℕ). length os) holds.held))
  either_way (x ∷ objects) n r settled may holds enters =
      let held : held_count v ≡ length (x ∷ objects) = ap (λ (os : List ℕ). length os) holds.held in
      gone_on (x ∷ objects) n r settled may holds (enters.1 (omega (arith, held)))

-- an enter of a monitor that isn't held, which may wait
pub enters : (h : Home) (c : Rooms) (v w : View) (o : ObjectId) (r : Result (Unit {0}) SessionError) (objects : List ℕ) (n : ℕ) → RING_RECORDS ≤ c.ring → v.plan ≡ plan h → w.plan ≡ plan h → IsSettled r
    → ((plan h).objects ≤ o.0 → (r ≡ Err UnknownObject) × IsQuiet v w) → (o.0 < (plan h).objects → hold v o.0 ≡ None → EntersWaiting c v w o r) → MayTake objects n o.0 → HoldsJust v objects n
    → MatchResult r (λ done. (o.0 < (plan h).objects) × HoldsJust w (o.0 ∷ objects) (n + 1)) (λ e. RefusesEnter h c.lane o e × HoldsJust w objects n)
enters h c v w o r objects n wide v-of w-of settled unknown first may holds = elim (cases_lt o.0 (plan h).objects) [
  | inl low ↦ (
      let wait = first low (held_by_none ((own v.events).hold o.0) (holds.once o.0 ∙ may.other)) in
      let later : HoldsJust wait.later objects n = told v wait.later wait.looks objects n wait.told (looked v.plan v.events objects n o wait.looks wait.only holds) in
      either_way h c wide wait.later w o (wait.told.plan ∙ v-of) w-of low objects n r settled may later wait.enters)
  | inr none ↦ (
      let refused = unknown none in
      subst (λ (x : Result (Unit {0}) SessionError). MatchResult x (λ done. (o.0 < (plan h).objects) × HoldsJust w (o.0 ∷ objects) (n + 1)) (λ e. RefusesEnter h c.lane o e × HoldsJust w objects n))
      (sym refused.0) (none, quiet v w objects n holds refused.1))
]

-- a load, which may be refused
pub record Loads (h : Home) (w : View) (f : FieldId) (objects : List ℕ) (n : ℕ) (r : Result ℕ SessionError) : Type 0 where
  pub holds : HoldsJust w objects n
  pub ok : IfOk r (λ value. (f.0 < (plan h).fields) × IsHeld w ((plan h).guard f.0))
  pub err : IfErr r (RefusesCount h f objects)

module _ (h : Home) (v w : View) (f : FieldId) (r : Result ℕ SessionError) (objects : List ℕ) (n : ℕ) where
  abbrev guard : ℕ
  guard = (plan h).guard f.0

  loads_held : f.0 < (plan h).fields → ((value : ℕ) × (r ≡ Ok value) × Lengthens v w (event.Load f value ∷ [])) → IsHeld v guard → HoldsJust v objects n → Loads h w f objects n r
  loads_held low loaded_so held holds =
      let longer = loaded_so.2 in
      let still : hold w guard ≡ hold v guard = ap (λ (es : List Event). (own es).hold guard) longer.events in
      subst (λ (x : Result ℕ SessionError). Loads h w f objects n x) (sym loaded_so.1) (record {
        holds = told v w (event.Load f loaded_so.0 ∷ []) objects n longer (loaded v.plan v.events objects n f loaded_so.0 holds);
        ok = (low, (held.0, still ∙ held.1));
        err = tt;
      })

  pub loads : ((plan h).fields ≤ f.0 → (r ≡ Err UnknownField) × IsQuiet v w) → (f.0 < (plan h).fields → hold v guard ≡ None → (r ≡ Err NotHeld) × IsQuiet v w)
      → (f.0 < (plan h).fields → IsHeld v guard → (value : ℕ) × (r ≡ Ok value) × Lengthens v w (event.Load f value ∷ [])) → HoldsJust v objects n → Loads h w f objects n r
  loads unknown not_held held holds = elim (cases_lt f.0 (plan h).fields) [
    | inl low ↦ elim (hold v guard) as (λ (x : Option Hold). (hold v guard ≡ x → Loads h w f objects n r)) [
      | None ↦ λ none. (
          let refused = not_held low none in
          subst (λ (x : Result ℕ SessionError). Loads h w f objects n x) (sym refused.0) (record {
            holds = quiet v w objects n holds refused.1;
            ok = tt;
            err = sym (holds.once guard) ∙ ap (λ (x : Option Hold). option_map (λ (l : Hold). l.count) x) none;
          }))
      | Some lock ↦ λ is. loads_held low (held low (lock, is)) (lock, is) holds
    ] refl
    | inr none ↦ (
        let refused = unknown none in
        subst (λ (x : Result ℕ SessionError). Loads h w f objects n x) (sym refused.0) (record { holds = quiet v w objects n holds refused.1; ok = tt; err = none }))
  ]

-- a store, which isn't refused where there is room
pub stores : (v w : View) (f : FieldId) (value : ℕ) (objects : List ℕ) (n : ℕ) (r : Result (Unit {0}) SessionError) → HoldsJust v objects n → Stores v w f value r → HoldsJust w objects (n + 1)
stores v w f value objects n (Ok done) holds so = told v w (event.Store f so.1 value ∷ []) objects (n + 1) so.2 (stored v.plan v.events objects n f so.1 value holds)
stores v w f value objects n (Err UnknownObject) holds so = absurd so
stores v w f value objects n (Err UnknownField) holds so = absurd so
stores v w f value objects n (Err NotHeld) holds so = absurd so
stores v w f value objects n (Err Behind) holds so = absurd so
stores v w f value objects n (Err SectionFull) holds so = let same = quiet v w objects n holds so.1 in weaker w.plan w.events objects n (n + 1) (omega arith) same
stores v w f value objects n (Err TooMany) holds so = absurd so
stores v w f value objects n (Err TooDeep) holds so = absurd so
stores v w f value objects n (Err NoFat) holds so = absurd so
stores v w f value objects n (Err Worn) holds so = absurd so
stores v w f value objects n (Err (Held x)) holds so = absurd so

-- a store makes one record at most
one_at_most : (s : Setting) (f : FieldId) → records_of s f ≤ 1
one_at_most s f = elim (s.is_logged f.0) as (λ (b : Bool). (if b then 1 else 0) ≤ 1) [
  | true ↦ omega arith
  | false ↦ omega arith
]

pub stores_all : (P : SessionError → Type 0) (v w : View) (f : FieldId) (value : ℕ) (objects : List ℕ) (n : ℕ) (r : Result (Unit {0}) SessionError) → n + length objects < SECTION_RECORDS → HoldsJust v objects n → Stores v w f value r → IfErr r P
stores_all P v w f value objects n (Ok done) room holds so = tt
stores_all P v w f value objects n (Err UnknownObject) room holds so = absurd so
stores_all P v w f value objects n (Err UnknownField) room holds so = absurd so
stores_all P v w f value objects n (Err NotHeld) room holds so = absurd so
stores_all P v w f value objects n (Err Behind) room holds so = absurd so
stores_all P v w f value objects n (Err SectionFull) room holds so =
    let few = holds.few in
    let held : held_count v ≡ length objects = ap (λ (os : List ℕ). length os) holds.held in
    let full = so.0.1 in
    let one = one_at_most v.plan f in
    absurd (omega (arith, few, room, held, full, one))
stores_all P v w f value objects n (Err TooMany) room holds so = absurd so
stores_all P v w f value objects n (Err TooDeep) room holds so = absurd so
stores_all P v w f value objects n (Err NoFat) room holds so = absurd so
stores_all P v w f value objects n (Err Worn) room holds so = absurd so
stores_all P v w f value objects n (Err (Held x)) room holds so = absurd so

-- what stops a worker at an enter, and where it counts
pub enter_stops : (h : Home) (most c d : ℕ) (o : ObjectId) (e : SessionError) → c ≡ d → o.0 ≤ most → RefusesEnter h c o e → StopsAt h most d e
enter_stops h most c d o UnknownObject same low refused = omega (arith, low, refused)
enter_stops h most c d o UnknownField same low refused = absurd refused
enter_stops h most c d o NotHeld same low refused = absurd refused
enter_stops h most c d o Behind same low refused = subst (λ (k : ℕ). StopsAt h most k Behind) same refused
enter_stops h most c d o SectionFull same low refused = absurd refused
enter_stops h most c d o TooMany same low refused = absurd refused
enter_stops h most c d o TooDeep same low refused = absurd refused
enter_stops h most c d o NoFat same low refused = absurd refused
enter_stops h most c d o Worn same low refused = refused
enter_stops h most c d o (Held x) same low refused = absurd refused

pub count_stops : (h : Home) (most c : ℕ) (f : FieldId) (o : ℕ) (objects : List ℕ) (e : SessionError) → o ≡ f.0 → f.0 ≤ most → RefusesCount h f (o ∷ objects) e → StopsAt h most c e
count_stops h most c f o objects UnknownObject same low refused = absurd refused
count_stops h most c f o objects UnknownField same low refused = omega (arith, low, refused)
count_stops h most c f o objects NotHeld same low refused = (f.0, low, subst (λ (n : ℕ). (plan h).guard f.0 ≢ n) same (not_locked o objects ((plan h).guard f.0) refused))
count_stops h most c f o objects Behind same low refused = absurd refused
count_stops h most c f o objects SectionFull same low refused = absurd refused
count_stops h most c f o objects TooMany same low refused = absurd refused
count_stops h most c f o objects TooDeep same low refused = absurd refused
count_stops h most c f o objects NoFat same low refused = absurd refused
count_stops h most c f o objects Worn same low refused = absurd refused
count_stops h most c f o objects (Held x) same low refused = absurd refused

-- a worker whose objects and fields are below those of all stops as one of them
pub stops_low : (h : Home) (most c d : ℕ) (e : SessionError) → most ≤ h.plan.lanes → c ≡ d → StopsAt h most c e → StopsWorker h d e
stops_low h most c d UnknownObject low same stops = omega (arith, low, stops)
stops_low h most c d UnknownField low same stops = omega (arith, low, stops)
stops_low h most c d NotHeld low same stops = (stops.0, (let under = stops.1 in omega (arith, low, under)), stops.2)
stops_low h most c d Behind low same stops = subst (λ (k : ℕ). StopsAt h most k Behind) same stops
stops_low h most c d SectionFull low same stops = absurd stops
stops_low h most c d TooMany low same stops = absurd stops
stops_low h most c d TooDeep low same stops = absurd stops
stops_low h most c d NoFat low same stops = absurd stops
stops_low h most c d Worn low same stops = stops
stops_low h most c d (Held x) low same stops = absurd stops

pub refused_as : {A E : Type 0} (r s : Result A E) (P Q : E → Type 0) → r ≡ s → ((e : E) → P e → Q e) → IfErr s P → IfErr r Q
refused_as r (Ok x) P Q same step refused = subst (λ (y : Result _ _). IfErr y Q) (sym same) tt
refused_as r (Err e) P Q same step refused = subst (λ (y : Result _ _). IfErr y Q) (sym same) (step e refused)
