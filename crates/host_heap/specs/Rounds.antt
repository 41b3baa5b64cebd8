-- What a round of a hosted heap makes of it (this project's own).
use Rattle.std.specs.Prelude.{ℕ, ◌≡◌, ◌+◌, ◌<◌, ◌↔◌, false, Option, Result, Ok, Err, IsErrOf, length}
use Rattle.disk_deferred.specs.Host.{HasLooked}
use Rattle.disk_deferred.specs.declared.disk.TheConstants.{SYNCS}
use Rattle.monitor.specs.Views.{GoesOn}
use Rattle.rtrb.specs.Ring.{known_items}
use Rattle.thread_steps.specs.Views.{plan}
use Rattle.heap_model.specs.Past.{Past}
use Rattle.heap_model.specs.declared.store_error.StoreError.{StoreError}
use Rattle.trim_helper.specs.Calls.{HasGoneOn, Rounds, RoundsUpTo, SharesUpTo}
use Rattle.trim_helper.specs.Heard.{HasSeen}
use Rattle.trim_helper.specs.Parts.{IsServing}
use Rattle.host_heap.specs.Hosting.{Hosting, SameHeap, hosted_device}
use Rattle.host_heap.specs.declared.error.RoundError.{RoundError}
use Rattle.host_heap.specs.declared.error.RoundError.TheVariants.{CallsLeft, Store}
use Rattle.host_heap.specs.declared.room.TheConstants.{ROUND_SYNCS}

-- the round was begun, and this holds of what the helper answered
abbrev pub IfBegun : Result ℕ RoundError → (Result ℕ StoreError → Type 0) → Type 0
IfBegun (Ok applied) is = is (Ok applied)
IfBegun (Err CallsLeft) is = Unit {0}
IfBegun (Err (Store e)) is = is (Err e)

-- a round of its helper, which answers this
abbrev pub MakesRound : Hosting → Hosting → Result ℕ StoreError → Type 0
MakesRound x y answer = (p : Past) → IsServing hosted_device x.helper (plan x.home) p → Rounds hosted_device (plan x.home) p x.helper y.helper answer

-- the same of a round that applies so many records at most, or any number where there is no bound: its part `works` is a round, so each law on
-- rounds holds of it
abbrev pub MakesRoundUpTo : (most : Option ℕ) → Hosting → Hosting → Result ℕ StoreError → Type 0
MakesRoundUpTo most x y answer = (p : Past) → IsServing hosted_device x.helper (plan x.home) p → RoundsUpTo hosted_device most (plan x.home) p x.helper y.helper answer

-- A call of the helper leaves the rest of the heap as it was.
pub record KeepsSessions (x y : Hosting) : Type 0 where
  pub home : y.home ≡ x.home
  pub unused : y.unused ≡ x.unused
  pub out : y.out ≡ x.out
  pub stop : y.stop ≡ x.stop
  pub layout : y.helper.store.known.layout ≡ x.helper.store.known.layout
  pub threads : y.helper.store.known.threads ≡ x.helper.store.known.threads

-- The helper goes on. Where its store hadn't failed, it has seen one legal history. What it has taken of each lane, up to the last release, is
-- the beginning of what that history logs. The history goes on from the one that the helper had seen before.
pub record HearsThreads (x y : Hosting) : Type 0 where
  pub goes_on : HasGoneOn x.home x.helper y.helper
  -- A round that was begun has seen one legal history, where the store hadn't failed. What it took of each lane, up to
  -- the last release, is the beginning of what that history logs.
  pub seen : x.helper.store.known.has_failed ≡ false → HasSeen x.home y.helper
  -- The history that a round sees goes on from the one that was seen before.
  pub later : GoesOn y.helper.seat.view.history x.helper.seat.view.history

-- A round of the heap, of so many records at most: there is no room to hand its syncs over, and nothing was done, or its helper makes one.
pub record HasRound (most : Option ℕ) (x y : Hosting) (answer : Result ℕ RoundError) : Type 0 where
  -- `CallsLeft` is answered exactly where there may be no room for the syncs of a round.
  pub calls_left : IsErrOf answer CallsLeft ↔ (SYNCS < length (known_items y.calls.ring) + ROUND_SYNCS)
  -- A round that answers `CallsLeft` has done nothing.
  pub nothing : IsErrOf answer CallsLeft → SameHeap x y
  -- A round that is begun does what the helper's round does, with the same bound on its records.
  pub rounds : IfBegun answer (MakesRoundUpTo most x y)
  -- A round that reaches its bound shares it equally among the lanes, as the helper's round does.
  pub shares : IfBegun answer (SharesUpTo hosted_device most x.helper y.helper)
  pub heard : IfBegun answer (λ answered. HearsThreads x y)
  -- A round leaves the rest of the heap as it was.
  pub kept : KeepsSessions x y
  pub calls : HasLooked x.calls y.calls
