-- What the calls of a session answer. First by views: `v` is the view before a call, and `w` the view after it. Then, each call as one
-- relation that all floors above cite: `h` is the heap, `x` the session before the call, `y` the session after it, and `r` the answer.
use Rattle.std.specs.Prelude.{ℕ, ◌≡◌, ◌≢◌, ◌+◌, ◌<◌, ◌≤◌, ◌⊎◌, ◌↔◌, if◌then◌else◌, List, [], ◌∷◌, ◌++◌, Option, Some, None, true, Result, Ok, Err, Contains, IfErr, IfOk, IsErrAnd, MatchResult}
use Rattle.std.specs.FinSet as set
use Rattle.std.specs.Ordering.{nat_cmp}
use Rattle.heap_model.specs.declared.limits.TheConstants.{SECTION_RECORDS, LAST_PLACE}
use Rattle.heap_model.specs.declared.ids.ObjectId.{ObjectId}
use Rattle.heap_model.specs.declared.ids.FieldId.{FieldId}
use Rattle.heap_model.specs.declared.ids.Lane.{Lane}
use Rattle.heap_model.specs.declared.event.Event.{Event}
use Rattle.heap_model.specs.declared.event.Event.TheVariants.{Enter, NestedEnter, Store, Wait, Resume, Look}
use Rattle.heap_model.specs.declared.event.Event.TheVariants as event
use Rattle.heap_model.specs.declared.event.Sight.{Sight}
use Rattle.heap_model.specs.declared.event.Sight.TheVariants.{Found, StillInSet}
use Rattle.heap_model.specs.Setting.{Setting}
use Rattle.heap_model.specs.Known.{known_value}
use Rattle.heap_model.specs.Own.{Hold}
use Rattle.lock_word.specs.declared.fat_word.FatShape.{FatShape}
use Rattle.lock_word.specs.declared.lock_word.Shape.{Shape}
use Rattle.lock_word.specs.declared.lock_word.Shape.TheVariants as thin
use Rattle.lock_word.specs.declared.lock_word.TheConstants.{FAT_SLOTS}
use Rattle.lock_word.specs.Spelling.{fat_sight, lane_of_thread, sight_of}
use Rattle.monitor.specs.Seats.{Home}
use Rattle.thread_steps.specs.Views.{View, IsHeld, IsLasting, IsWhole, hold, plan}
use Rattle.thread_steps.specs.Views.{Lengthens, slot_in, miss_events, IsAnother, IsLastingSeen, IsOfSlot}
use Rattle.thread_steps.specs.declared.limits.TheConstants.{THIN_LOCKS, FAT_LOCKS}
use Rattle.thread_steps.specs.declared.grip.Seen.{Seen}
use Rattle.thread_steps.specs.declared.grip.Seen.TheVariants as seen
use Rattle.session.specs.declared.error.SessionError.{SessionError}
use Rattle.session.specs.declared.error.SessionError.TheVariants.{Behind, SectionFull, TooMany, TooDeep, NoFat, Worn, Held}
use Rattle.session.specs.declared.error.SessionError.TheVariants as error
use Rattle.session.specs.declared.error.Still.{Still}
use Rattle.session.specs.declared.error.Still.TheVariants as still
use Rattle.session.specs.declared.limits.TheConstants.{MOST_HELD}
use Rattle.session.specs.declared.session.Session.{Session}
use Rattle.session.specs.declared.waiting.Waiting.{Waiting}
use Rattle.session.specs.Logs.{Rooms, held_count, place, section_records}
use Rattle.session.specs.Sessions.{awaited, free_of, free_waiting, rooms_of, view_of, view_waiting}

-- nothing is told
abbrev pub IsQuiet : View → View → Type 0
IsQuiet v w = Lengthens v w []

-- the helper is late, as far as the view knows: so many records pass the ring with all that were sent, or the lane with those since
-- the trimmed place
abbrev pub IsBehind : Rooms → (needed : ℕ) → View → Type 0
IsBehind c k w = (c.ring < place w + k) ⊎ (w.trimmed + c.lane < place w + k)

-- so many records more fit the lane, by the trimmed place that the view keeps
abbrev pub Fits : Rooms → (more : ℕ) → View → View → Type 0
Fits c k v w = place v + k ≤ w.trimmed + c.lane

-- so many records, with those of the section and the releases that it needs now, pass 1,000
abbrev pub IsFull : View → (more : ℕ) → Type 0
IsFull v k = SECTION_RECORDS < section_records v + held_count v + k

-- the lane lacks room for so many records, by the published place, which was read since
abbrev pub LacksLane : Rooms → (needed : ℕ) → View → View → Type 0
LacksLane c k v w = (v.trimmed_looks < w.trimmed_looks) × (w.trimmed + c.lane < place w + k)

-- so many slots of the ring are known to be free; where the reason is that the helper is late, they aren't, or the lane lacks the room
abbrev pub HasRing : Rooms → (needed free : ℕ) → View → View → SessionError → Type 0
HasRing c k r v w Behind = (r < k) ⊎ LacksLane c k v w
HasRing c k r v w _ = k ≤ r

-- the monitor isn't fat, as far as the view knows
abbrev pub IsThin : View → ObjectId → Type 0
IsThin v o = slot_in o.0 v.fats ≡ None

-- the monitor is fat
abbrev pub IsFat : View → ObjectId → Type 0
IsFat v o = (i : ℕ) × (slot_in o.0 v.fats ≡ Some i)

-- what a word shows
abbrev pub sight_in : Seen → Sight
sight_in (seen.Lock (thin.Free n)) = Found None 0 n
sight_in (seen.Lock (thin.Thin t a n)) = Found (Some (lane_of_thread t)) (a + 1) n
sight_in (seen.Lock (thin.Fat i m)) = StillInSet
sight_in (seen.Fat f) = fat_sight f

-- A look was told, of what the word shows: that of the monitor's slot, or the lock word where it has none.
pub record Sees (v w : View) (o : ObjectId) (x : Seen) (sight : Sight) : Type 0 where
  pub word : IsOfSlot (slot_in o.0 w.fats) x
  pub shows : sight_in x ≡ sight
  pub told : Lengthens v w (Look o sight ∷ [])

-- the look showed another thread's hold
abbrev pub SeesAnother : View → View → ObjectId → Seen → Type 0
SeesAnother v w o x = (l : Lane) × (c : ℕ) × (n : ℕ) × (l ≢ v.lane) × Sees v w o x (Found (Some l) c n)

-- the look showed a monitor that can't be taken any more
abbrev pub SeesLast : View → View → ObjectId → Seen → Type 0
SeesLast v w o x = (n : ℕ) × (v.plan.last ≤ n) × Sees v w o x (Found None 0 n)

-- the look showed a monitor that can't be taken now
abbrev pub SeesTaken : View → View → ObjectId → Seen → Type 0
SeesTaken v w o x = SeesAnother v w o x ⊎ SeesLast v w o x

-- the word is that of a slot
abbrev pub IsFatSeen : Seen → Type 0
IsFatSeen (seen.Lock x) = ⊥
IsFatSeen (seen.Fat f) = Unit {0}

-- what a try may find: a lock word only of a monitor that wasn't known to be fat, and the word of a slot that is known
abbrev pub IsNews : View → View → ObjectId → Seen → Type 0
IsNews v w o (seen.Lock x) = IsThin v o
IsNews v w o (seen.Fat f) = IsFat w o

-- a look that shows the monitor free at this number, and then a try that meets this word
abbrev pub missed_events : ObjectId → (number : ℕ) → Seen → List Event
missed_events o n x = miss_events o x ++ Look o (Found None 0 n) ∷ []

-- the look showed a free monitor below the last number, which was gone at the try
abbrev pub SeesChange : View → View → ObjectId → Seen → Type 0
SeesChange v w o x = (n : ℕ) × (n < v.plan.last) × IsNews v w o x × IsAnother w o n x × Lengthens v w (missed_events o n x)

-- a lock word that names a slot, and was met in place of a free one, is known whole from then on
abbrev pub IsLastingHeld : View → ObjectId → SessionError → Type 0
IsLastingHeld w o (Held x) = IsLastingSeen w o x
IsLastingHeld w o _ = Unit {0}

-- a monitor that the thread doesn't hold, once it may take it: a look, and a try where that showed it free
abbrev pub Tries : View → View → ObjectId → Result (Unit {0}) SessionError → Type 0
Tries v w o (Ok done) = (n : ℕ) × (n < v.plan.last) × Lengthens v w (Enter o n ∷ Look o (Found None 0 n) ∷ [])
Tries v w o (Err Worn) = (n : ℕ) × (v.plan.last ≤ n) × Lengthens v w (Look o (Found None 0 n) ∷ [])
Tries v w o (Err (Held x)) = SeesAnother v w o x ⊎ SeesChange v w o x
Tries v w o (Err _) = ⊥

-- places have come to their end, and nothing is told
abbrev pub HasNoPlace : View → View → Type 0
HasNoPlace v w = (LAST_PLACE ≤ place v) × IsQuiet v w

-- a first monitor where there is a place for the section: the try
abbrev pub TriesFirst : View → View → ObjectId → Result (Unit {0}) SessionError → Type 0
TriesFirst v w o x = (place v < LAST_PLACE) × Tries v w o x

-- an enter that would begin a section
abbrev pub Begins : Rooms → View → View → ObjectId → Result (Unit {0}) SessionError → Type 0
Begins c v w o (Err Behind) = IsBehind c SECTION_RECORDS w × IsQuiet v w
Begins c v w o (Ok done) = Fits c SECTION_RECORDS v w × (place v < LAST_PLACE) × Tries v w o (Ok done)
Begins c v w o (Err Worn) = Fits c SECTION_RECORDS v w × (HasNoPlace v w ⊎ TriesFirst v w o (Err Worn))
Begins c v w o (Err (Held x)) = Fits c SECTION_RECORDS v w × (place v < LAST_PLACE) × Tries v w o (Err (Held x))
Begins c v w o (Err _) = ⊥

-- an enter inside a section, of a monitor that isn't held
abbrev pub GoesOn : View → View → ObjectId → Result (Unit {0}) SessionError → Type 0
GoesOn v w o (Err SectionFull) = IsFull v 2 × IsQuiet v w
GoesOn v w o (Err TooMany) = (¬ IsFull v 2) × (MOST_HELD ≤ held_count v) × IsQuiet v w
GoesOn v w o (Ok done) = (¬ IsFull v 2) × (held_count v < MOST_HELD) × Tries v w o (Ok done)
GoesOn v w o (Err Worn) = (¬ IsFull v 2) × (held_count v < MOST_HELD) × Tries v w o (Err Worn)
GoesOn v w o (Err (Held x)) = (¬ IsFull v 2) × (held_count v < MOST_HELD) × Tries v w o (Err (Held x))
GoesOn v w o (Err _) = ⊥

-- an enter of a monitor that is held
abbrev pub EntersAgain : View → View → ObjectId → Hold → Result (Unit {0}) SessionError → Type 0
EntersAgain v w o h (Ok done) = (h.count < FAT_LOCKS) × Lengthens v w (NestedEnter o ∷ [])
EntersAgain v w o h (Err TooDeep) = (h.count ≡ FAT_LOCKS) × IsQuiet v w
EntersAgain v w o h (Err NoFat) = (h.count ≡ THIN_LOCKS) × IsThin v o × (FAT_SLOTS ≤ w.slots) × IsQuiet v w
EntersAgain v w o h (Err _) = ⊥

-- how many records a store to the field makes: none where logs don't keep its stores
abbrev pub records_of : Setting → FieldId → ℕ
records_of s f = if s.is_logged f.0 then 1 else 0

-- the section has no room for the records of stores, so many of them and at least one
abbrev pub LacksRoom : View → (records : ℕ) → Type 0
LacksRoom v k = (0 < k) × IsFull v k

-- a store to a field whose guard is held
abbrev pub Stores : View → View → FieldId → ℕ → Result (Unit {0}) SessionError → Type 0
Stores v w f value (Ok done) = (¬ LacksRoom v (records_of v.plan f)) × (before : ℕ) × Lengthens v w (Store f before value ∷ [])
Stores v w f value (Err SectionFull) = LacksRoom v (records_of v.plan f) × IsQuiet v w
Stores v w f value (Err _) = ⊥

-- a wait whose numbers have come to their end
abbrev pub IsWaitWorn : View → Hold → Type 0
IsWaitWorn v h = (v.plan.last ≤ h.number + 1) ⊎ ((held_count v ≡ 1) × (LAST_PLACE ≤ place v + 1))

-- there is room for a wait: in the section where it goes on, or in the lane for the next one
abbrev pub LeavesRoom : Rooms → View → View → Type 0
LeavesRoom c v w = (1 < held_count v → ¬ IsFull v 2) × (held_count v ≡ 1 → Fits c (SECTION_RECORDS + 1) v w)

-- the monitor is fat, or a slot was left at the last look
abbrev pub MayBeFat : View → ObjectId → Type 0
MayBeFat w o = IsFat w o ⊎ (w.slots < FAT_SLOTS)

-- the monitor is fat, or no slot was left at the last look
abbrev pub IsFatOrFull : View → ObjectId → Type 0
IsFatOrFull w o = IsFat w o ⊎ (FAT_SLOTS ≤ w.slots)

-- why a wait on a monitor that is held is refused
abbrev pub RefusesWait : Rooms → View → View → ObjectId → Hold → SessionError → Type 0
RefusesWait c v w o h Behind = (held_count v ≡ 1) × IsBehind c (SECTION_RECORDS + 1) w × IsQuiet v w
RefusesWait c v w o h SectionFull = (1 < held_count v) × IsFull v 2 × IsQuiet v w
RefusesWait c v w o h NoFat = LeavesRoom c v w × IsThin v o × (FAT_SLOTS ≤ w.slots) × IsQuiet v w
RefusesWait c v w o h Worn = LeavesRoom c v w × MayBeFat w o × IsWaitWorn v h × IsQuiet v w
RefusesWait c v w o h _ = ⊥

-- a wait that is begun, on a monitor that is fat from then on
abbrev pub BeginsWait : Rooms → View → View → ObjectId → Hold → Type 0
BeginsWait c v w o h = LeavesRoom c v w × (¬ IsWaitWorn v h) × Lengthens v w (Wait o h.number ∷ []) × IsFat w o

-- a resume that takes the monitor again
abbrev pub Resumes : View → View → ObjectId → Type 0
Resumes v w o = (n : ℕ) × (n < v.plan.last) × Lengthens v w (Resume o n ∷ Look o (Found None 0 n) ∷ [])

-- why a thread waits on: the monitor, which is fat, tells by the word of its slot
abbrev pub WaitsOn : View → View → ObjectId → Still → Type 0
WaitsOn v w o still.InSet = Lengthens v w (Look o StillInSet ∷ [])
WaitsOn v w o (still.Held x) = IsFatSeen x × (SeesTaken v w o x ⊎ SeesChange v w o x)

-- each is a look at the object
abbrev pub AreLooks : ObjectId → List Event → Type 0
AreLooks o [] = Unit {0}
AreLooks o (e ∷ older) = ((sight : Sight) × (e ≡ Look o sight)) × AreLooks o older

-- nothing but looks at the object was told
abbrev pub OnlyLooks : View → View → ObjectId → Type 0
OnlyLooks v w o = (looks : List Event) × AreLooks o looks × Lengthens v w looks

-- an enter of a monitor that isn't held
abbrev pub EntersFirst : Rooms → View → View → ObjectId → Result (Unit {0}) SessionError → Type 0
EntersFirst c v w o x = (held_count v ≡ 0 → Begins c v w o x) × (0 < held_count v → GoesOn v w o x)

-- looks, and then an enter of this kind
abbrev pub EntersLater : Rooms → View → View → ObjectId → Result (Unit {0}) SessionError → Type 0
EntersLater c v w o x = (u : View) × OnlyLooks v u o × EntersFirst c u w o x

-- An enter of a monitor that isn't held, which waits where another thread was seen to have it: looks, and then the enter that
-- is answered. A monitor that was taken after looks is left fat, where a slot is left.
pub record EntersWaiting (c : Rooms) (v w : View) (o : ObjectId) (x : Result (Unit {0}) SessionError) : Type 0 where
  -- the looks, the newest first, and the view after them
  pub looks : List Event
  pub later : View
  pub only : AreLooks o looks
  pub told : Lengthens v later looks
  pub enters : EntersFirst c later w o x
  -- A monitor that an enter took after it had met another thread is fat then, or no slot was left.
  pub fat : looks ≢ [] → IfOk x (λ done. IsFatOrFull w o)

-- an answer other than that the monitor is held
abbrev pub IsSettled : Result (Unit {0}) SessionError → Type 0
IsSettled (Err (Held x)) = ⊥
IsSettled _ = Unit {0}

-- a wait that has come back: it was begun, then there were looks, and then the resume
abbrev pub Waits : Rooms → View → View → ObjectId → Hold → Type 0
Waits c v w o h = (t : View) × (u : View) × BeginsWait c v t o h × OnlyLooks t u o × Resumes u w o

-- it is refused for this, and nothing was told
abbrev pub Refuses : {A : Type 0} → Session → Session → SessionError → Result A SessionError → Type 0
Refuses x y e r = (r ≡ Err e) × IsQuiet (view_of x) (view_of y)

-- it is Ok with this answer, and these events of it were told
abbrev pub Tells : {A : Type 0} → Session → Session → (A → List Event) → Result A SessionError → Type 0
Tells x y events r = (a : _) × (r ≡ Ok a) × Lengthens (view_of x) (view_of y) (events a)

-- the session holds the monitor by these locks, or by none
abbrev pub Owns : Session → ObjectId → Hold → Type 0
Owns x o k = hold (view_of x) o.0 ≡ Some k

abbrev pub Lacks : Session → ObjectId → Type 0
Lacks x o = hold (view_of x) o.0 ≡ None

-- the ring has room for all records of the section that has begun, or that is why none begins
abbrev pub LeavesRing : Session → Session → Result (Unit {0}) SessionError → Type 0
LeavesRing x y r = MatchResult r (λ _. SECTION_RECORDS ≤ free_of y + 1) (HasRing (rooms_of x) SECTION_RECORDS (free_of y) (view_of x) (view_of y))

-- An enter: one lock more of a monitor that is held, or a first lock, which begins a section where none was held.
pub record Enters (h : Home) (x y : Session) (o : ObjectId) (r : Result (Unit {0}) SessionError) : Type 0 where
  -- An enter of an object that there isn't is refused so, before all else, and nothing is told.
  pub unknown : (plan h).objects ≤ o.0 → Refuses x y error.UnknownObject r
  -- An enter of a monitor that the thread holds adds one lock. It is refused as `NoFat` only where the monitor isn't
  -- known to be fat and no slot is left.
  pub again : (k : Hold) → o.0 < (plan h).objects → Owns x o k → EntersAgain (view_of x) (view_of y) o k r
  -- A first enter is refused as `Held` only where a look showed another thread's hold, or a try found another word than
  -- the free one that the look had shown. So a monitor that stays free isn't refused again and again.
  pub first : o.0 < (plan h).objects → Lacks x o → EntersFirst (rooms_of x) (view_of x) (view_of y) o r
  -- An enter that would begin a section is refused as `Behind` only where the ring isn't known to have the room, or the
  -- lane lacks it by the published place, read in this call. Any other answer comes with room in the ring.
  pub ring_room : o.0 < (plan h).objects → Lacks x o → held_count (view_of x) ≡ 0 → LeavesRing x y r
  -- A fat lock word that a refused enter showed is known whole from then on.
  pub lasting : IfErr r (IsLastingHeld (view_of y) o)

-- An enter that waits while another thread has the monitor: it is never refused as held.
pub record WaitsToEnter (h : Home) (x y : Session) (o : ObjectId) (r : Result (Unit {0}) SessionError) : Type 0 where
  pub settled : IsSettled r
  pub unknown : (plan h).objects ≤ o.0 → Refuses x y error.UnknownObject r
  pub again : (k : Hold) → o.0 < (plan h).objects → Owns x o k → EntersAgain (view_of x) (view_of y) o k r
  pub first : o.0 < (plan h).objects → Lacks x o → EntersWaiting (rooms_of x) (view_of x) (view_of y) o r
  pub ring_room : o.0 < (plan h).objects → Lacks x o → held_count (view_of x) ≡ 0 → LeavesRing x y r

-- An exit: one lock less, and with the last one the monitor is free.
pub record Exits (h : Home) (x y : Session) (o : ObjectId) (r : Result (Unit {0}) SessionError) : Type 0 where
  pub unknown : (plan h).objects ≤ o.0 → Refuses x y error.UnknownObject r
  pub not_held : o.0 < (plan h).objects → Lacks x o → Refuses x y error.NotHeld r
  pub nested : (k : Hold) → o.0 < (plan h).objects → Owns x o k → 1 < k.count → Tells x y (λ _. event.NestedExit o ∷ []) r
  pub last : (k : Hold) → o.0 < (plan h).objects → Owns x o k → k.count ≡ 1 → Tells x y (λ _. event.Exit o k.number ∷ []) r

-- the session holds the monitor of the field's guard, or doesn't
abbrev pub HoldsGuard : Home → Session → FieldId → Type 0
HoldsGuard h x f = IsHeld (view_of x) ((plan h).guard f.0)

abbrev pub LacksGuard : Home → Session → FieldId → Type 0
LacksGuard h x f = hold (view_of x) ((plan h).guard f.0) ≡ None

-- what the thread's own events say of the field since it took the guard
abbrev pub KnowsValue : Home → Session → FieldId → ℕ → Type 0
KnowsValue h x f value = known_value (plan h) (view_of x).events f.0 ≡ Some value

-- A load, under the guard.
pub record Loads (h : Home) (x y : Session) (f : FieldId) (r : Result ℕ SessionError) : Type 0 where
  -- A load of a field that there isn't is refused so, before all else, and nothing is told.
  pub unknown : (plan h).fields ≤ f.0 → Refuses x y error.UnknownField r
  -- A load of a field whose guard the thread doesn't hold is refused so, and nothing is told.
  pub not_held : f.0 < (plan h).fields → LacksGuard h x f → Refuses x y error.NotHeld r
  pub held : f.0 < (plan h).fields → HoldsGuard h x f → Tells x y (λ value. event.Load f value ∷ []) r
  -- A load gives the value that the thread's own events tell of a field whose guard it holds.
  pub known : (value : ℕ) → f.0 < (plan h).fields → HoldsGuard h x f → KnowsValue h x f value → r ≡ Ok value

-- A store of a value: under the guard, and where the section has room for its record, if it makes one.
pub record StoresAs (h : Home) (x y : Session) (f : FieldId) (value : ℕ) (r : Result (Unit {0}) SessionError) : Type 0 where
  -- A store to a field that there isn't is refused so, before all else, and nothing is told.
  pub unknown : (plan h).fields ≤ f.0 → Refuses x y error.UnknownField r
  -- A store to a field whose guard the thread doesn't hold is refused so, and nothing is told.
  pub not_held : f.0 < (plan h).fields → LacksGuard h x f → Refuses x y error.NotHeld r
  -- A store under the guard is told. It sends a record and needs room for it only where logs keep the field's stores.
  pub held : f.0 < (plan h).fields → HoldsGuard h x f → Stores (view_of x) (view_of y) f value r

-- A notification of one: some lane leaves the wait set, or none where that is empty.
pub record Notifies (h : Home) (x y : Session) (o : ObjectId) (r : Result (Option Lane) SessionError) : Type 0 where
  pub unknown : (plan h).objects ≤ o.0 → Refuses x y error.UnknownObject r
  pub not_held : o.0 < (plan h).objects → Lacks x o → Refuses x y error.NotHeld r
  pub held : o.0 < (plan h).objects → IsHeld (view_of x) o.0 → Tells x y (λ woken. event.Notify o woken ∷ []) r

-- these are the lanes of the mask
abbrev pub AreLanesOf : set.FinSet nat_cmp → List Lane → Type 0
AreLanesOf mask woken = (l : Lane) → Contains woken l ↔ (set.contains mask l.0 ≡ true)

-- the lanes of this mask left the monitor's wait set, all of them
abbrev pub WakesAll : Session → Session → ObjectId → set.FinSet nat_cmp → Type 0
WakesAll x y o mask = (woken : List Lane) × Lengthens (view_of x) (view_of y) (event.NotifyAll o woken ∷ []) × AreLanesOf mask woken

-- A notification of all: the wait set is empty then.
pub record NotifiesAll (h : Home) (x y : Session) (o : ObjectId) (r : Result (set.FinSet nat_cmp) SessionError) : Type 0 where
  pub unknown : (plan h).objects ≤ o.0 → Refuses x y error.UnknownObject r
  pub not_held : o.0 < (plan h).objects → Lacks x o → Refuses x y error.NotHeld r
  pub held : o.0 < (plan h).objects → IsHeld (view_of x) o.0 → (mask : set.FinSet nat_cmp) × (r ≡ Ok mask) × WakesAll x y o mask

-- these words are the monitor's, and the look that they show was told
pub record Shows (x y : Session) (o : ObjectId) (lock : Shape) (fat : Option FatShape) : Type 0 where
  -- A look shows a monitor as fat exactly where it is, with the word of its slot, and that slot is known from then on.
  pub whole : IsWhole (view_of y) o lock fat
  -- A fat lock word that a look showed is known whole from then on.
  pub lasting : IsLasting (view_of y) o lock
  pub told : Lengthens (view_of x) (view_of y) (event.Look o (sight_of lock fat) ∷ [])

-- A look, at a monitor that the session needn't hold.
pub record Looks (h : Home) (x y : Session) (o : ObjectId) (r : Result (Shape × Option FatShape) SessionError) : Type 0 where
  pub unknown : (plan h).objects ≤ o.0 → Refuses x y error.UnknownObject r
  pub known : o.0 < (plan h).objects → (lock : Shape) × (fat : Option FatShape) × (r ≡ Ok (lock, fat)) × Shows x y o lock fat

-- A reading of how many sections of the lane were acknowledged at the last publication.
pub record ReadsStable (x y : Session) (sections : ℕ) : Type 0 where
  pub quiet : IsQuiet (view_of x) (view_of y)
  -- The number of acknowledged sections is read anew by each call.
  pub looked : (view_of x).stable_looks < (view_of y).stable_looks
  -- The answer is the published count of the lane's acknowledged sections, as the view has read it now.
  pub read : (view_of y).stable ≡ sections

-- the session comes back with this refusal, and nothing was told
abbrev pub ComesBack : {A : Type 0} → Session → SessionError → Result A (Session × SessionError) → Type 0
ComesBack x why r = IsErrAnd r (λ e. (e.1 ≡ why) × IsQuiet (view_of x) (view_of e.0))

-- a wait on a monitor that is held: it is begun, or the session comes back with the reason
abbrev pub AsksHeld : Session → ObjectId → Hold → Result Waiting (Session × SessionError) → Type 0
AsksHeld x o k (Ok w) = (awaited w ≡ o) × BeginsWait (rooms_of x) (view_of x) (view_waiting w) o k
AsksHeld x o k (Err e) = RefusesWait (rooms_of x) (view_of x) (view_of e.0) o k e.1

-- the ring of the session that comes back has room for a wait and the section after it, or that is the reason
abbrev pub HasRingToWait : Session → Session × SessionError → Type 0
HasRingToWait x e = HasRing (rooms_of x) (SECTION_RECORDS + 1) (free_of e.0) (view_of x) (view_of e.0) e.1

-- the ring has room for the section after the wait, or says why there is no wait
abbrev pub LeavesRingToWait : Session → Result Waiting (Session × SessionError) → Type 0
LeavesRingToWait x r = MatchResult r (λ w. SECTION_RECORDS ≤ free_waiting w) (HasRingToWait x)

-- A wait that is begun, or refused.
pub record AsksToWait (h : Home) (x : Session) (o : ObjectId) (r : Result Waiting (Session × SessionError)) : Type 0 where
  -- A wait on an object that there isn't is refused so, before all else, and the session comes back as it was.
  pub unknown : (plan h).objects ≤ o.0 → ComesBack x error.UnknownObject r
  -- A wait on a monitor that the thread doesn't hold is refused so, and the session comes back as it was.
  pub not_held : o.0 < (plan h).objects → Lacks x o → ComesBack x error.NotHeld r
  -- A monitor on which a thread waits is fat. A wait is refused as `NoFat` only where the monitor isn't known to be fat
  -- and no slot is left.
  pub held : (k : Hold) → o.0 < (plan h).objects → Owns x o k → AsksHeld x o k r
  pub ring_room : (k : Hold) → o.0 < (plan h).objects → Owns x o k → held_count (view_of x) ≡ 1 → LeavesRingToWait x r

-- A wait that has ended, or goes on for the same monitor, with the reason.
abbrev pub AsksToResume : (w : Waiting) → Result Session (Waiting × Still) → Type 0
AsksToResume w (Ok y) = Resumes (view_waiting w) (view_of y) (awaited w)
AsksToResume w (Err e) = (awaited e.0 ≡ awaited w) × WaitsOn (view_waiting w) (view_waiting e.0) (awaited w) e.1

-- a wait from its beginning to its end, on a monitor that is held; or the session comes back with the reason
abbrev pub WaitsHeld : Session → ObjectId → Hold → Result Session (Session × SessionError) → Type 0
WaitsHeld x o k (Ok y) = Waits (rooms_of x) (view_of x) (view_of y) o k
WaitsHeld x o k (Err e) = RefusesWait (rooms_of x) (view_of x) (view_of e.0) o k e.1

-- A wait, from its beginning to its end.
pub record WaitsFor (h : Home) (x : Session) (o : ObjectId) (r : Result Session (Session × SessionError)) : Type 0 where
  pub unknown : (plan h).objects ≤ o.0 → ComesBack x error.UnknownObject r
  pub not_held : o.0 < (plan h).objects → Lacks x o → ComesBack x error.NotHeld r
  pub held : (k : Hold) → o.0 < (plan h).objects → Owns x o k → WaitsHeld x o k r
  pub ring_room : (k : Hold) → o.0 < (plan h).objects → Owns x o k → held_count (view_of x) ≡ 1 → IfErr r (HasRingToWait x)
