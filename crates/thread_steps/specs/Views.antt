-- What the steps by grip tell: a seat's view, as a session sees it, and what a step makes of it.
use Rattle.std.specs.Prelude.{ℕ, ◌≡◌, ◌≢◌, ◌+◌, ◌<◌, ◌≤◌, ◌==◌, if◌then◌else◌, List, [], ◌∷◌, ◌++◌, length, Option, Some, None, Result, IfOk, IfErr, MatchResult}
use Rattle.heap_model.specs.declared.ids.ObjectId.{ObjectId}
use Rattle.heap_model.specs.declared.ids.Lane.{Lane}
use Rattle.heap_model.specs.declared.event.Event.{Event}
use Rattle.heap_model.specs.declared.event.Event.TheVariants.{Enter, Look, Resume}
use Rattle.heap_model.specs.declared.event.Sight.{Sight}
use Rattle.heap_model.specs.declared.event.Sight.TheVariants.{Found, StillInSet}
use Rattle.heap_model.specs.Setting.{Setting}
use Rattle.heap_model.specs.Events.{lane_number}
use Rattle.heap_model.specs.History.{IsLegalHistory}
use Rattle.heap_model.specs.Log.{lane}
use Rattle.heap_model.specs.Own.{Hold, hold_in, own}
use Rattle.lock_word.specs.declared.lock_word.Shape.{Shape}
use Rattle.lock_word.specs.declared.lock_word.Shape.TheVariants as thin
use Rattle.lock_word.specs.declared.fat_word.FatShape.{FatShape}
use Rattle.lock_word.specs.declared.fat_word.FatShape.TheVariants as fat
use Rattle.lock_word.specs.Spelling.{lane_of_thread, fat_sight}
use Rattle.monitor.specs.declared.view.Mark.{Mark}
use Rattle.monitor.specs.declared.view.Mark.TheVariants.{Clear, Joined, Knows, Removed}
use Rattle.monitor.specs.declared.view.Claim.TheVariants.{Nothing}
use Rattle.monitor.specs.declared.view.Named.{Named}
use Rattle.monitor.specs.declared.view.Note.{Note}
use Rattle.monitor.specs.declared.view.Post.TheVariants.{Stable, Trimmed}
use Rattle.monitor.specs.declared.view.View as raw
use Rattle.monitor.specs.Words.{SLOTS, setting_of}
use Rattle.monitor.specs.Views.{GoesOn, calm, slot_of, word_of, met_at, lane_of}
use Rattle.monitor.specs.Posts.{known_post, post_number}
use Rattle.monitor.specs.Seats.{Home, Sitting}
use Rattle.thread_steps.specs.declared.grip.Grip.{Grip}
use Rattle.thread_steps.specs.declared.grip.Seen.{Seen}
use Rattle.thread_steps.specs.declared.grip.Seen.TheVariants as seen
use Rattle.thread_steps.specs.declared.limits.TheConstants.{THIN_LOCKS, FAT_LOCKS}

-- What a session sees of its seat's view: of its lane alone.
pub record View : Type 0 where
  pub plan : Setting
  pub lane : Lane
  pub events : List Event
  pub mark : Mark
  pub fats : List Named
  -- the slot count is at least this
  pub slots : ℕ
  -- the published words of the lane are at least these
  pub stable : ℕ
  pub trimmed : ℕ
  -- how often it has read each of the two
  pub stable_looks : ℕ
  pub trimmed_looks : ℕ
  -- the one history, as far as the seat has seen it
  pub history : List (ℕ × Event)

-- how many of the notes are of this post
abbrev pub times : (post : ℕ) → List Note → ℕ
times p [] = 0
times p (x ∷ older) = if x.post == p then times p older + 1 else times p older

abbrev pub shown : raw.View → View
shown v = record {
  plan = setting_of v.plan;
  lane = lane_of v;
  events = v.events;
  mark = v.mark;
  fats = v.fats;
  slots = v.seen;
  stable = known_post v (Stable (lane_of v));
  trimmed = known_post v (Trimmed (lane_of v));
  stable_looks = times (post_number (Stable (lane_of v))) v.notes;
  trimmed_looks = times (post_number (Trimmed (lane_of v))) v.notes;
  history = v.history;
}

abbrev pub view : Sitting → View
view s = shown s.view

-- the setting of a heap
abbrev pub plan : Home → Setting
plan h = setting_of h.plan

-- Between two steps by grip: nothing is known of a mask, no slot is claimed, and the known slots are slots.
pub record IsReady (v : raw.View) : Type 0 where
  pub mark : calm v.mark ≡ v.mark
  pub claim : v.claim ≡ Nothing
  pub slots : (o i : ℕ) → slot_of o v.fats ≡ Some i → i < SLOTS

-- a seat at this table, of this plan, between two steps
abbrev pub IsSeatOf : Home → Sitting → Type 0
IsSeatOf h s = (s.table ≡ h.table) × ((view s).plan ≡ plan h) × (s.view.plan ≡ h.plan) × IsReady s.view

-- nothing is going on with a wait set
abbrev pub IsClear : View → Type 0
IsClear v = v.mark ≡ Clear

-- by its own events the thread isn't in a wait
abbrev pub IsAwake : View → Type 0
IsAwake v = (own v.events).pause ≡ None

-- by its own events: the thread's hold on the object
abbrev pub hold : View → ℕ → Option Hold
hold v o = (own v.events).hold o

-- by its own events the thread waits for the object, with so many locks kept aside
abbrev pub IsPaused : View → ObjectId → ℕ → Type 0
IsPaused v o count = (own v.events).pause ≡ Some (record { object = o.0; count = count })

-- the object from whose wait set the thread was removed
abbrev pub removed_from : Mark → Option ℕ
removed_from Clear = None
removed_from (Joined o) = None
removed_from (Knows o q) = None
removed_from (Removed o) = Some o.0

-- the thread was removed from the object's wait set, and isn't back
abbrev pub IsRemoved : View → ObjectId → Type 0
IsRemoved v o = removed_from v.mark ≡ Some o.0

-- by its own events the thread holds the object
abbrev pub IsHeld : View → (object : ℕ) → Type 0
IsHeld v o = (h : Hold) × (hold v o ≡ Some h)

-- the slot that is known of an object
abbrev pub slot_in : ℕ → List Named → Option ℕ
slot_in = slot_of

-- how many locks a monitor has room for
abbrev pub room_of : (slot : Option ℕ) → ℕ
room_of None = THIN_LOCKS
room_of (Some i) = FAT_LOCKS

-- The grip is what the thread knows of a monitor that it holds.
pub record Keeps (v : View) (g : Grip) : Type 0 where
  pub low : g.object.0 < v.plan.objects
  pub hold : hold v g.object.0 ≡ Some (record { count = g.count; number = g.number })
  pub some : 0 < g.count
  pub few : g.count ≤ room_of g.slot
  pub number : g.number < v.plan.last
  pub slot : slot_in g.object.0 v.fats ≡ g.slot

-- each grip stays
abbrev pub KeepsEach : View → View → Type 0
KeepsEach v w = (g : Grip) → Keeps v g → Keeps w g

-- each grip on another object stays
abbrev pub KeepsOthers : View → View → (object : ℕ) → Type 0
KeepsOthers v w o = (g : Grip) → g.object.0 ≢ o → Keeps v g → Keeps w g

-- the lock word of an object that is known to be fat
abbrev pub word_in : ℕ → List Named → Option Shape
word_in = word_of

-- each lock word that is known to be fat stays as it is
abbrev pub KeepsWords : View → View → Type 0
KeepsWords v w = (o : ℕ) (x : Shape) → word_in o v.fats ≡ Some x → word_in o w.fats ≡ Some x

-- a lock word that names a slot is known, for good
abbrev pub IsLasting : View → ObjectId → Shape → Type 0
IsLasting v o (thin.Free n) = Unit {0}
IsLasting v o (thin.Thin t a n) = Unit {0}
IsLasting v o (thin.Fat i n) = word_in o.0 v.fats ≡ Some (thin.Fat i n)

-- the same of a word as it was found
abbrev pub IsLastingSeen : View → ObjectId → Seen → Type 0
IsLastingSeen v o (seen.Lock x) = IsLasting v o x
IsLastingSeen v o (seen.Fat f) = Unit {0}

-- The view has these events more, the newest first. What is known of words that only rise doesn't fall, and what is known
-- of fat monitors stays: their slots and their lock words. So does the history that it has seen.
pub record Lengthens (v w : View) (newer : List Event) : Type 0 where
  pub events : w.events ≡ newer ++ v.events
  pub plan : w.plan ≡ v.plan
  pub lane : w.lane ≡ v.lane
  pub slots : v.slots ≤ w.slots
  pub stable : v.stable ≤ w.stable
  pub trimmed : v.trimmed ≤ w.trimmed
  pub stable_looks : v.stable_looks ≤ w.stable_looks
  pub trimmed_looks : v.trimmed_looks ≤ w.trimmed_looks
  -- The slot that is known of a fat monitor stays known over each call.
  pub fats : (o i : ℕ) → slot_in o v.fats ≡ Some i → slot_in o w.fats ≡ Some i
  -- What is known of a fat monitor's lock word stays known over each call.
  pub words : KeepsWords v w
  pub history : w.history ≡ v.history

-- The thread has seen the one history, and was told nothing.
pub record SeesHistory (v w : View) : Type 0 where
  -- But for what it has seen of the history, the view is as it was.
  pub quiet : Lengthens v (record w { history = v.history }) []
  -- The history that it has seen goes on from the one that it had seen before.
  pub goes_on : GoesOn w.history v.history
  -- The history that it has seen is legal.
  pub legal : IsLegalHistory w.plan w.history
  -- The lane's part of that history is what the thread was told.
  pub part : lane w.lane.0 w.history ≡ w.events

-- the object's slot, or none is known of
abbrev pub IsSlot : View → ObjectId → Option ℕ → Type 0
IsSlot v o slot = slot_in o.0 v.fats ≡ slot

-- the grip in a fat slot
pub record Fattens (w : View) (g f : Grip) : Type 0 where
  pub object : f.object ≡ g.object
  pub count : f.count ≡ g.count
  pub number : f.number ≡ g.number
  pub slot : (i : ℕ) × (f.slot ≡ Some i)
  pub keeps : Keeps w f

-- a fat word is read just where the lock word names one, and then the slot is known
abbrev pub IsWhole : View → ObjectId → Shape → Option FatShape → Type 0
IsWhole v o (thin.Free n) None = IsSlot v o None
IsWhole v o (thin.Thin t a n) None = IsSlot v o None
IsWhole v o (thin.Fat i m) (Some f) = IsSlot v o (Some i)
IsWhole v o (thin.Free n) (Some f) = ⊥
IsWhole v o (thin.Thin t a n) (Some f) = ⊥
IsWhole v o (thin.Fat i m) None = ⊥

-- a look has a fat word exactly where the lock word names one
abbrev pub IsPaired : Shape → Option FatShape → Type 0
IsPaired (thin.Free n) None = Unit {0}
IsPaired (thin.Thin t a n) None = Unit {0}
IsPaired (thin.Fat i m) (Some f) = Unit {0}
IsPaired (thin.Free n) (Some f) = ⊥
IsPaired (thin.Thin t a n) (Some f) = ⊥
IsPaired (thin.Fat i m) None = ⊥

-- the thread's own hold is what the sight shows of it
abbrev pub AgreesWith : View → ObjectId → Sight → Type 0
AgreesWith v o (Found owner c n) = hold v o.0 ≡ hold_in (lane_number owner) c n v.lane.0
AgreesWith v o StillInSet = Unit {0}

-- the sight shows an owner
abbrev pub IsOwned : Sight → Type 0
IsOwned (Found None c n) = ⊥
IsOwned (Found (Some l) c n) = Unit {0}
IsOwned StillInSet = ⊥

-- The thread has the grip, by so many locks, at this number.
pub record Takes (v w : View) (e : Event) (o : ObjectId) (c n : ℕ) (g : Grip) : Type 0 where
  pub told : Lengthens v w (e ∷ [])
  pub object : g.object ≡ o
  pub count : g.count ≡ c
  pub number : g.number ≡ n
  pub keeps : Keeps w g

-- what a word that was found in place of a free one tells: a lock word that became fat tells nothing
abbrev pub miss_events : ObjectId → Seen → List Event
miss_events o (seen.Lock (thin.Free n)) = Look o (Found None 0 n) ∷ []
miss_events o (seen.Lock (thin.Thin t a n)) = Look o (Found (Some (lane_of_thread t)) (a + 1) n) ∷ []
miss_events o (seen.Lock (thin.Fat i m)) = []
miss_events o (seen.Fat f) = Look o (fat_sight f) ∷ []

-- the monitor was first met as a fat one, in this slot, after all that the thread was told
abbrev pub IsMetLast : View → ObjectId → (slot : ℕ) → Type 0
IsMetLast v o i = IsSlot v o (Some i) × (met_at o.0 v.fats ≡ Some (length v.events))

-- the word isn't the free one at this number, and no lock of the thread's own; a thin one is of a monitor of which no slot is
-- known, and one that names a slot is news
abbrev pub IsAnother : View → ObjectId → (number : ℕ) → Seen → Type 0
IsAnother v o n (seen.Lock (thin.Free m)) = (m ≢ n) × IsSlot v o None
IsAnother v o n (seen.Lock (thin.Thin t a m)) = (lane_of_thread t ≢ v.lane) × IsSlot v o None
IsAnother v o n (seen.Lock (thin.Fat i m)) = IsMetLast v o i
IsAnother v o n (seen.Fat (fat.Free m)) = m ≢ n
IsAnother v o n (seen.Fat (fat.Held t a m)) = lane_of_thread t ≢ v.lane

-- a missed try found the word of the known slot, or the lock word where no slot is known
abbrev pub IsOfSlot : (slot : Option ℕ) → Seen → Type 0
IsOfSlot None (seen.Lock x) = Unit {0}
IsOfSlot (Some i) (seen.Fat f) = Unit {0}
IsOfSlot None (seen.Fat f) = ⊥
IsOfSlot (Some i) (seen.Lock x) = ⊥

-- The monitor isn't taken.
pub record Misses (v w : View) (o : ObjectId) (n : ℕ) (x : Seen) : Type 0 where
  pub told : Lengthens v w (miss_events o x)
  pub another : IsAnother w o n x

-- A try to take a monitor by one lock, at this number; `known` is its fat slot, if the thread knew of one.
pub record Tries (h : Home) (s t : Sitting) (o : ObjectId) (known : Option ℕ) (n : ℕ) (r : Result Grip Seen) : Type 0 where
  pub seat : IsSeatOf h t
  pub clear : IsClear (view t)
  -- A take adds just its event. A missed take tells a thin word only of a monitor that isn't known to be fat. It tells a
  -- word that names a slot only where that was met last.
  pub told : MatchResult r (Takes (view s) (view t) (Enter o n) o 1 n) (Misses (view s) (view t) o n)
  -- The grip has the monitor's slot, as it was known before the call.
  pub slot : IfOk r (λ g. g.slot ≡ known)
  -- A missed try found the word of the slot that is known, or the lock word where none is.
  pub found : IfErr r (λ x. IsOfSlot known x)
  -- A fat lock word that was seen is known whole, for good.
  pub lasting : IfErr r (λ x. IsLastingSeen (view t) o x)
  pub grips : KeepsOthers (view s) (view t) o.0

-- A try to take a monitor again after a wait, by as many locks as before it, at this number.
pub record TriesAgain (h : Home) (s t : Sitting) (o : ObjectId) (c i n : ℕ) (r : Result Grip Seen) : Type 0 where
  pub seat : IsSeatOf h t
  pub mark : MatchResult r (λ _. IsClear (view t)) (λ _. IsRemoved (view t) o)
  pub told : MatchResult r (Takes (view s) (view t) (Resume o n) o c n) (Misses (view s) (view t) o n)
  -- The grip has the monitor's slot, as it was known before the call.
  pub slot : IfOk r (λ g. g.slot ≡ Some i)
  -- A missed try found the word of the slot.
  pub found : IfErr r (λ x. IsOfSlot (Some i) x)
  pub grips : KeepsOthers (view s) (view t) o.0
