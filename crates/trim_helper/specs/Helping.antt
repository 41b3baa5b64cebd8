-- What the helper's seat knows: what it has published, by lane, and which lanes it took in.
use Rattle.std.specs.Prelude.{ℕ, ◌≡◌, ◌+◌, ◌<◌, ◌≤◌, List, map}
use Rattle.heap_model.specs.declared.event.Event.{Event}
use Rattle.heap_model.specs.History.{state_after}
use Rattle.heap_model.specs.Setting.{Setting}
use Rattle.block_disk.specs.Device.{Device}
use Rattle.store_rounds.specs.Store as stores
use Rattle.store_rounds.specs.Store.{HasPast}
use Rattle.monitor.specs.declared.view.Plan.{Plan}
use Rattle.monitor.specs.declared.view.Post.TheVariants.{Stable, Trimmed}
use Rattle.monitor.specs.declared.view.Part as raw
use Rattle.monitor.specs.Posts.{known_post}
use Rattle.monitor.specs.Views.{GoesOn, noted}
use Rattle.monitor.specs.Rule.{Spelled}
use Rattle.monitor.specs.Words.{fields, setting_of, spread}
use Rattle.monitor.specs.Seats.{Home, Helping, Final, IsHelperOf, final_value}
use Rattle.heap_model.specs.Past.{Past}
use Rattle.trim_helper.specs.Counts.{WasCount}
use Rattle.trim_helper.specs.Serving.{Among, IsOneHistory, Part}
use Rattle.trim_helper.specs.Taken.{trimmed_of}

-- how many of the lane's sections are published as acknowledged, and the place up to which its log is published as trimmed
abbrev pub count_published : Helping → (lane : ℕ) → ℕ
count_published h l = known_post h.view (Stable (record { 0 = l }))

abbrev pub place_published : Helping → (lane : ℕ) → ℕ
place_published h l = known_post h.view (Trimmed (record { 0 = l }))

-- a lane that was taken in, with what it last read
abbrev pub part_of : raw.Part → Part
part_of p = record { lane = p.lane.0; events = p.events; count = noted p.lane.0 p.notes; place = noted (32 + p.lane.0) p.notes }

-- the lanes that it took in
abbrev pub taken_in : Helping → List Part
taken_in h = map part_of h.view.gathered

-- the helper's seat of this heap, all of whose lanes are given out
pub record IsHelper (h : Home) (s : Helping) : Type 0 where
  pub of : IsHelperOf h s
  pub all : s.next ≡ h.plan.lanes
  pub few : h.plan.lanes ≤ 32

-- by lane, what is published is at most what is acknowledged and trimmed
abbrev pub IsBehind : Helping → (lanes : ℕ) → Past → Type 0
IsBehind h lanes p = (l : ℕ) → l < lanes → (count_published h l ≤ p.cut l) × (place_published h l ≤ trimmed_of p l)

-- it is just that
abbrev pub IsPublished : Helping → (lanes : ℕ) → Past → Type 0
IsPublished h lanes p = (l : ℕ) → l < lanes → (count_published h l ≡ p.cut l) × (place_published h l ≡ trimmed_of p l)

module _ {D : Type 0} (device : D → Device) where
  -- no more is published than what the store has acknowledged and trimmed
  abbrev pub MayPublish : stores.Parts D → Helping → Type 0
  MayPublish x h = (s : Setting) × (p : Past) × HasPast x.known s p (device x.disk) × IsBehind h x.known.threads p

  -- all of that is published
  abbrev pub HasPublished : stores.Parts D → Helping → Type 0
  HasPublished x h = (s : Setting) (p : Past) → HasPast x.known s p (device x.disk) → IsPublished h x.known.threads p

-- no lane that it took in has read more than it has published
abbrev pub HaveRead : Helping → Type 0
HaveRead h = (x : Part) → Among (taken_in h) x → (x.count ≤ count_published h x.lane) × (x.place ≤ place_published h x.lane)

-- each count of sections that a lane which it took in has read, it had published
abbrev pub HavePublished : Helping → Type 0
HavePublished h = (x : Part) → Among (taken_in h) x → WasCount h x.lane x.count

-- One legal history has the lanes that it took in as its parts, and goes on from the one that it had seen. The words at the end spell the
-- state after it.
pub record TellsHistory (k : Plan) (h : Helping) (w : Final) : Type 0 where
  pub history : List (ℕ × Event)
  pub one : IsOneHistory (setting_of k) k.lanes (taken_in h) history
  pub later : GoesOn history h.view.history
  pub spelled : Spelled k (spread k w.words) (state_after (setting_of k) history)
  pub values : (f : ℕ) → f < fields k → final_value w f ≡ (state_after (setting_of k) history).value f
