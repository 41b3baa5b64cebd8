-- What each call of a helper makes of it, as one relation a call (this project's own).
use Rattle.std.specs.Prelude.{ℕ, ◌≡◌, ◌+◌, ◌*◌, ◌<◌, ◌≤◌, ◌++◌, true, false, List, [], Option, None, Result, Ok, length, IfOk, IfErr, OnOk, OnErr, IsErrOf, IsErrAnd, MatchResult}
use Rattle.thread_rings.specs.Rings.{Receiving}
use Rattle.heap_model.specs.declared.record.Record.{Record}
use Rattle.heap_model.specs.Setting.{Setting}
use Rattle.block_disk.specs.Device.{Device, HasCause}
use Rattle.block_disk.specs.Images.{Always, LeavesOnly}
use Rattle.image_parts.specs.declared.layout.Layout.{Layout}
use Rattle.store_image.specs.Sequences.{ShowsUpTo}
use Rattle.heap_model.specs.Past.{Past, applied}
use Rattle.heap_model.specs.declared.store_error.StoreError.{StoreError}
use Rattle.heap_model.specs.declared.store_error.StoreError.TheVariants.{Failed, Fault}
use Rattle.store_rounds.specs.Runs.{HasRun, TakesSequences}
use Rattle.store_rounds.specs.Stops.{ShowsCut}
use Rattle.store_rounds.specs.Store as stores
use Rattle.store_rounds.specs.Store.{Known, HasPast}
use Rattle.monitor.specs.Seats.{Final, Helping, Home}
use Rattle.monitor.specs.Views.{GoesOn}
use Rattle.monitor.specs.Words.{setting_of}
pub use Rattle.trim_helper.specs.Bounds.{IsAt, IsBelow, IsWithin}
use Rattle.trim_helper.specs.Closed.{HasSpelled, IsClosedDown, Stood, disk_of}
use Rattle.trim_helper.specs.Counts.{StandForCuts}
use Rattle.trim_helper.specs.Draining.{DrainsRings, SharesBound}
use Rattle.trim_helper.specs.Endings.{HoldNone, IsCloseStop, IsCloseWhy, IsComplete, IsOfSessions, RefusesClosing, parts_of}
use Rattle.trim_helper.specs.Heard.{HasSeen}
use Rattle.trim_helper.specs.Hearing.{IsNoted}
use Rattle.trim_helper.specs.Leaving.{ReadNoMore}
use Rattle.trim_helper.specs.Helping.{IsBehind, IsHelper, taken_in}
use Rattle.trim_helper.specs.Moves.{SameRings, most_room}
use Rattle.trim_helper.specs.Parts.{Parts, IsServing, taking_of}
use Rattle.trim_helper.specs.Seen.{SameSight}
use Rattle.trim_helper.specs.Rings.{received_of}
use Rattle.trim_helper.specs.Settled.{IsDurable, RefusesRound}
use Rattle.trim_helper.specs.Taken.{Taking, HasTaken, IsLaneStuck, applied_more, trimmed_of}
use Rattle.trim_helper.specs.declared.draining.TheConstants.{LOOKS}
use Rattle.trim_helper.specs.declared.close_error.CloseError.{CloseError}
use Rattle.trim_helper.specs.declared.close_error.CloseError.TheVariants as close
use Rattle.trim_helper.specs.declared.ended.Ended.{Ended}

-- What each call of a helper keeps: its words, its lanes and rings, and whom it took in.
pub record HasGoneOn {D : Type 0} (h : Home) (x y : Parts D) : Type 0 where
  pub seat : IsHelper h y.seat
  pub taken : taken_in y.seat ≡ taken_in x.seat
  pub rings : SameRings x.rings y.rings
  pub layout : y.store.known.layout ≡ x.store.known.layout
  pub threads : y.store.known.threads ≡ x.store.known.threads

-- No lane can go on, where a store of this layout, with so many lanes of threads, has this past on this device. The store refuses the
-- record that waits, as not next, for want of room or at an end of numbers; or none waits, and none is known to be in the ring.
pub record AreStuck (l : Layout) (t : ℕ) (d : Device) (rings : List Receiving) (waiting : List (Option Record)) (s : Setting) (p : Past) : Type 0 where
  pub known : Known
  pub layout : known.layout ≡ l
  pub threads : known.threads ≡ t
  pub has : HasPast known s p d
  pub stuck : (lane : ℕ) → lane < length rings → IsLaneStuck known rings waiting s p lane

module _ {D : Type 0} (device : D → Device) where
  -- A drain, in memory alone: the rings are looked at, a few times at most, and each time each lane goes on as far as it can, within the
  -- bound. It is refused only where the store had failed, and what was applied before stands.
  pub record DrainsUpTo (most : Option ℕ) (x y : Parts D) (answer : Result ℕ StoreError) : Type 0 where
    -- A drain looks at the rings at most 16 times, and applies what each lane can go on with, up to its bound.
    pub rings : DrainsRings device LOOKS most (taking_of x) (taking_of y) answer
    -- A drain is refused only where the store had failed.
    pub failed : IfErr answer (λ e. (e ≡ Failed) × (x.store.known.has_failed ≡ true))
    -- all stays settled where it was and nothing came, and nowhere else
    pub settled : IfOk answer (λ n. y.is_settled ≡ true → (x.is_settled ≡ true) × (n ≡ 0))
    -- A drain that applies nothing leaves a settled helper settled.
    pub stays : IfOk answer (λ n. n ≡ 0 → x.is_settled ≡ true → y.is_settled ≡ true)
    -- A helper whose drain failed no longer counts as settled.
    pub unsettled : OnErr answer (y.is_settled ≡ false)
    pub seat : y.seat ≡ x.seat
    pub layout : y.store.known.layout ≡ x.store.known.layout
    pub threads : y.store.known.threads ≡ x.store.known.threads
    -- A store that has failed stays as it is, and so does its device.
    pub still : x.store.known.has_failed ≡ true → y.store ≡ x.store

  -- a drain with no bound
  abbrev pub Drains : (x y : Parts D) → Result ℕ StoreError → Type 0
  Drains x y answer = DrainsUpTo None x y answer

  -- What a helper that serves this past makes of it. Records are applied; then a round of the store makes durable what was applied,
  -- acknowledges its stable cut and trims that. Whatever a crash leaves meanwhile shows a whole closed cut of a beginning of what was
  -- applied, with all that was acknowledged. `Done` is what holds of the helper after Ok.
  pub record Works (Done : Type 0) (s : Setting) (p : Past) (x y : Parts D) (answer : Result ℕ StoreError) : Type 0 where
    -- The records that it has applied, the newest first.
    pub newer : List (ℕ × Record)
    -- It answers how many records it has applied.
    pub count : IfOk answer (λ n. length newer ≡ n)
    -- It takes of each lane at most the largest ring's fill for each look at the rings.
    pub most : (l : ℕ) → length (received_of y.rings l) ≤ length (received_of x.rings l) + LOOKS * most_room x.rings
    -- The past that the helper's store has afterwards.
    pub now : Past
    -- What was applied afterwards is what was applied before, and these records.
    pub same : applied now ≡ newer ++ applied p
    -- What was acknowledged stays acknowledged.
    pub cut : (l : ℕ) → p.cut l ≤ now.cut l
    -- What was trimmed stays trimmed.
    pub places : (l : ℕ) → trimmed_of p l ≤ trimmed_of now l
    -- A run of the store leads from the past before to the past afterwards. Whatever a crash leaves meanwhile shows a whole closed cut of
    -- a beginning of what was applied, with all that was acknowledged before.
    pub ran : HasRun y.store.known.layout y.store.known.threads s p (device x.store.disk) now (device y.store.disk)
    -- The helper serves the past afterwards.
    pub serves : IsServing device y s now
    -- It commits the control twice at most.
    pub takes : TakesSequences 2 x.store.known (device x.store.disk) y.store.known (device y.store.disk)
    -- After Ok, the helper has done what the call is for.
    pub settled : OnOk answer Done
    -- After Ok, all that was applied is durable, and its stable cut is acknowledged and trimmed.
    pub durable : OnOk answer (IsDurable y.store.known s now)
    -- After Ok, whatever a crash leaves shows just the acknowledged cut of the past afterwards.
    pub left : OnOk answer (Always (device y.store.disk) (ShowsCut y.store.known.layout y.store.known.threads s now.logged now.cut))
    -- If all was settled and nothing new came, the device isn't called, and nothing is refused.
    pub quiet : x.is_settled ≡ true → newer ≡ [] → (answer ≡ Ok 0) × (device y.store.disk ≡ device x.store.disk)
    -- A store that has failed stays as it is, and so does its device; nothing is applied.
    pub still : x.store.known.has_failed ≡ true → (newer ≡ []) × (y.store ≡ x.store)
    -- A store that has failed refuses it.
    pub failed : x.store.known.has_failed ≡ true → IsErrOf answer Failed
    -- Each refusal has its reason.
    pub refused : IfErr answer (RefusesRound x.store.known y.store.known)
    -- After a refusal, something is left to settle.
    pub unsettled : OnErr answer (y.is_settled ≡ false)
    -- After a refusal, nothing was published, and nobody taken in.
    pub unpublished : OnErr answer (IsNoted x.seat y.seat)
    -- It answers a fault only if a call of the device failed meanwhile.
    pub cause : HasCause (device x.store.disk).failures (device y.store.disk).failures Fault answer

  -- A helper works so, and applies at most so many records, where a bound is told. `None` is no bound.
  pub record WorksUpTo (most : Option ℕ) (Done : Type 0) (s : Setting) (p : Past) (x y : Parts D) (answer : Result ℕ StoreError) : Type 0 where
    -- Whatever its bound, it makes durable what it applied, acknowledges its stable cut and trims that.
    pub works : Works Done s p x y answer
    -- It applies at most as many records as its bound says, whatever it answers.
    pub within : IsWithin most (length works.newer)
    -- Whatever it answers, if it applied fewer records than its bound, no record that waits, or that is known to be in a ring, could be
    -- applied, unless the store had failed.
    pub stuck : x.store.known.has_failed ≡ false → IsBelow most (length works.newer) → AreStuck x.store.known.layout x.store.known.threads (device x.store.disk) y.rings y.waiting s (applied_more works.newer p)

  -- a settling: what it has made durable is not published yet
  abbrev pub SettlesAll : Setting → Past → (x y : Parts D) → Result ℕ StoreError → Type 0
  SettlesAll s p x y answer = Works (Unit {0}) s p x y answer

  -- a round: after Ok all is settled and published
  abbrev pub Rounds : Setting → Past → (x y : Parts D) → Result ℕ StoreError → Type 0
  Rounds s p x y answer = Works (y.is_settled ≡ true) s p x y answer

  -- a settling, and a round, of at most so many records
  abbrev pub SettlesUpTo : (most : Option ℕ) → Setting → Past → (x y : Parts D) → Result ℕ StoreError → Type 0
  SettlesUpTo most s p x y answer = WorksUpTo most (Unit {0}) s p x y answer

  abbrev pub RoundsUpTo : (most : Option ℕ) → Setting → Past → (x y : Parts D) → Result ℕ StoreError → Type 0
  RoundsUpTo most s p x y answer = WorksUpTo most (y.is_settled ≡ true) s p x y answer

  -- So many records were applied, and shared equally among the lanes: of each at least its part was applied, or at some moment of the drain it
  -- couldn't go on.
  pub record SharesOut (n : ℕ) (x y : Parts D) : Type 0 where
    pub drained : Taking D
    pub shares : SharesBound device n (taking_of x) drained
    pub received : (l : ℕ) → received_of y.rings l ≡ received_of drained.rings l
    pub waiting : y.waiting ≡ drained.waiting

  -- a call that reaches its bound shares it so
  abbrev pub SharesUpTo : (most : Option ℕ) → (x y : Parts D) → Result ℕ StoreError → Type 0
  SharesUpTo most x y answer = IfOk answer (λ n. IsAt most n → SharesOut n x y)

  -- A round of a helper of this heap, of at most so many records where a bound is told.
  pub record MakesRound (h : Home) (most : Option ℕ) (x y : Parts D) (answer : Result ℕ StoreError) : Type 0 where
    -- A round with a bound applies at most so many records. If it applied fewer, and the store hadn't failed, no record that waits or is
    -- known to be in a ring could be applied then.
    pub rounds : (s : Setting) (p : Past) → IsServing device x s p → RoundsUpTo most s p x y answer
    -- A round that reaches its bound shares it equally among the lanes: of each at least the bound divided by their number was applied, or
    -- at some moment of the drain it couldn't go on.
    pub shares : SharesUpTo most x y answer
    pub goes_on : HasGoneOn h x y
    -- While threads go on, a round sees one legal history. What it took of each lane, up to the last release, is the beginning of what that
    -- history logs of the lane. So it is whatever the round answers, unless the store had failed.
    pub seen : x.store.known.has_failed ≡ false → HasSeen h y
    -- The history that a round sees goes on from the one that the helper had seen before.
    pub later : GoesOn y.seat.view.history x.seat.view.history

  -- all that was applied is durable, by some past that the helper serves, so that it may be published
  abbrev pub MayBePublished : Parts D → Type 0
  MayBePublished x = (s : Setting) × (p : Past) × IsServing device x s p × IsDurable x.store.known s p

  -- What is acknowledged and trimmed is published, and nothing else is done.
  pub record Publishes (h : Home) (x y : Parts D) : Type 0 where
    -- The store and its device stay as they are.
    pub store : y.store ≡ x.store
    -- The rings stay as they are.
    pub rings : y.rings ≡ x.rings
    -- Each record that waits to be next goes on waiting.
    pub waiting : y.waiting ≡ x.waiting
    -- The seat is the helper's of this heap.
    pub seat : IsHelper h y.seat
    -- The helper takes nobody in.
    pub taken : taken_in y.seat ≡ taken_in x.seat
    -- The helper sees no more of the history.
    pub sight : SameSight x.seat y.seat
    -- The helper notes each number that it publishes, and no note is lost.
    pub notes : GoesOn y.seat.view.notes x.seat.view.notes
    -- All is settled and published.
    pub settled : y.is_settled ≡ true
    -- The helper serves each past that it served, if all that was applied is durable.
    pub serves : (s : Setting) (p : Past) → IsServing device x s p → IsDurable x.store.known s p → IsServing device y s p

  -- Sessions that have ended meet a helper that serves this past, and the device is given back. Once none of them stops it, what they sent
  -- is applied, made durable and acknowledged.
  pub record Closes (h : Home) (ended : List Ended) (p : Past) (x : Parts D) (answer : Result D (D × CloseError)) : Type 0 where
    pub ok : IfOk answer (λ disk. IsClosedDown h.plan x.store.known.layout (parts_of ended) p x.seat (device x.store.disk) (device disk))
    -- A closing that answers Ok had each session, and none held a monitor. Its sessions stop it only where one is
    -- missing or holds a monitor.
    pub refused : MatchResult answer (λ disk. HoldNone ended × IsComplete x.store.known.threads ended) (λ back. RefusesClosing x.store.known.threads ended back.1)
    -- A closing that its sessions don't stop answers `Failed` where the store had failed.
    pub failed : x.store.known.has_failed ≡ true → HoldNone ended → IsComplete x.store.known.threads ended → IsErrAnd answer (λ back. back.1 ≡ close.Failed)
    -- A closing that the store stops has its cause: the store had failed, the control is at its last sequence, or the
    -- device has failed since.
    pub why : IfErr answer (λ back. IsCloseWhy x.store.known (device x.store.disk) (device back.0) back.1)
    -- A closing that its sessions stop leaves the device as it was.
    pub untouched : IfErr answer (λ back. IsOfSessions back.1 → back.0 ≡ x.store.disk)
    -- The device of a store that had failed comes back as it was.
    pub still : x.store.known.has_failed ≡ true → disk_of answer ≡ x.store.disk
    -- Whatever a crash leaves while closing shows a whole closed cut of a beginning of what was applied, with all that was acknowledged,
    -- whatever stops the closing.
    pub stood : Stood x.store.known.layout x.store.known.threads (setting_of h.plan) p ended (device x.store.disk) (device (disk_of answer))
    -- Unless its sessions stop it, a closing finds that none of them has read as stable more sections than were acknowledged when it began,
    -- whatever it answers.
    pub read : HoldNone ended → IsComplete x.store.known.threads ended → ReadNoMore (parts_of ended) x.store.known.threads p
    -- Over a closing that answers Ok the count of the device's failures doesn't fall.
    pub later : IfOk answer (λ disk. (device x.store.disk).failures ≤ (device disk).failures)
    -- A closing takes at most two of the control's sequences, in whatever a crash leaves.
    pub shown : LeavesOnly (device x.store.disk) (device (disk_of answer)) (ShowsUpTo x.store.known.layout (x.store.known.committed.sequence + 2))

  -- Sessions that are complete and hold nothing meet the rings of a helper of this past. What they sent is applied, made durable and
  -- acknowledged, and the words at the end are those of its history; or the store stops that.
  pub record HasFinished (h : Home) (seat : Helping) (ended : List Ended) (p : Past) (x : Taking D) (now : Device) (answer : Result Final CloseError) : Type 0 where
    pub ok : IsBehind seat x.store.known.threads p → StandForCuts seat x.store.known.threads p →
        IfOk answer (HasSpelled h.plan x.store.known.layout (parts_of ended) p seat (device x.store.disk) now)
    pub stop : IfErr answer IsCloseStop
    pub why : IfErr answer (IsCloseWhy x.store.known (device x.store.disk) now)
    pub failed : x.store.known.has_failed ≡ true → IsErrOf answer close.Failed
    pub stood : Stood x.store.known.layout x.store.known.threads (setting_of h.plan) p ended (device x.store.disk) now
    pub read : IsBehind seat x.store.known.threads p → ReadNoMore (parts_of ended) x.store.known.threads p
    pub later : OnOk answer ((device x.store.disk).failures ≤ now.failures)
    pub shown : LeavesOnly (device x.store.disk) now (ShowsUpTo x.store.known.layout (x.store.known.committed.sequence + 2))

  -- A store that has failed stays as it is, and so does its device.
  abbrev pub StaysFailedTaking : Taking D → stores.Parts D → Type 0
  StaysFailedTaking x y = (s : Setting) (p : Past) → HasTaken device x s p → x.store.known.has_failed ≡ true → y ≡ x.store

  -- so it is, whatever past the store has
  abbrev pub Finishes : Home → Helping → List Ended → Taking D → (now : Device) → Result Final CloseError → Type 0
  Finishes h seat ended x now answer = (p : Past) → HasTaken device x (setting_of h.plan) p → HasFinished h seat ended p x now answer
