-- What a list of calls makes of a store: one record for a call, and one for the list, over the whole store before it (x) and after it
-- (y). Each part holds whatever past the store has. A new image is one that a crash during the calls may leave, and that a crash before
-- them couldn't have left (this project's own).
use Rattle.std.specs.Prelude.{ℕ, ◌≡◌, ◌+◌, ◌≤◌, true, Some, List, Result, length, slice_get, IfErr, OnOk}
use Rattle.heap_model.specs.Setting.{Setting}
use Rattle.block_disk.specs.Device.{Device, HasFailed}
use Rattle.block_disk.specs.Images.{LeavesOnly}
use Rattle.durable.specs.Calls.{AreQuiet, IsQuiet, MakeAll, Makes, Reached, RefusesCall, ShowsAfterSome, StandsAfterSome, StoppedAt, made_of}
use Rattle.durable.specs.Steps.{Commits, IsPastOf, ShowsUpToMeanwhile, WritesWithin}
use Rattle.durable.specs.Store.{Parts, doubt_in}
use Rattle.durable.specs.declared.store_call.StoreCall.{StoreCall}
use Rattle.heap_model.specs.Past.{Past}
use Rattle.heap_model.specs.declared.store_error.StoreError.{StoreError}
use Rattle.heap_model.specs.declared.store_error.StoreError.TheVariants.{Fault}

-- One call, whichever it is.
pub record MakesCall {D : Type 0} (device : D → Device) (x y : Parts D) (call : StoreCall) (result : Result (Unit {0}) StoreError) : Type 0 where
  -- It commits a control at most.
  pub writes : Commits device (doubt_in (Some call)) x y result
  -- After a success, the store has the past that the call makes.
  pub ok : (s : Setting) (p : Past) → IsPastOf device x s p → OnOk result ((q : Past) × Makes s p call q × IsPastOf device y s q)
  -- Each refusal has its own reason.
  pub refused : (s : Setting) (p : Past) → IsPastOf device x s p → IfErr result (λ e. RefusesCall x.known s p call e)
  -- If the call has nothing to write, the device isn't called.
  pub quiet : (s : Setting) (p : Past) → IsPastOf device x s p → IsQuiet s p call → device y.disk ≡ device x.disk

-- `play`: the calls are made in their order, up to the first that is refused.
pub record Plays {D : Type 0} (device : D → Device) (x y : Parts D) (calls : List StoreCall) (result : Result (Unit {0}) (ℕ × StoreError)) : Type 0 where
  -- After a success, the store has the past that all the calls make.
  pub ok : (s : Setting) (p : Past) → IsPastOf device x s p → OnOk result ((q : Past) × MakeAll s p calls q × IsPastOf device y s q)
  -- A refusal tells the place of the refused call and its reason, and the calls before that place were made.
  pub stopped : (s : Setting) (p : Past) → IsPastOf device x s p
      → IfErr result (λ e. StoppedAt s p calls x.known y.known (device y.disk) e.0 e.1)
  -- After a success, the store has failed only if it had failed before.
  pub running : OnOk result (y.known.has_failed ≡ x.known.has_failed)
  -- After each call that was made there is a moment. A crash from then on leaves only what later calls make of the past reached.
  pub moments : (s : Setting) (p : Past) → IsPastOf device x s p → (n : ℕ) → n ≤ made_of calls result
      → Reached s p calls x.known (device x.disk) (device y.disk) n
  -- If no call has anything to write, the device isn't called.
  pub quiet : (s : Setting) (p : Past) → IsPastOf device x s p → AreQuiet s p calls → device y.disk ≡ device x.disk
  -- Each new image shows what the first calls make of the past, with the next one in doubt.
  pub shown : (s : Setting) (p : Past) → IsPastOf device x s p
      → LeavesOnly (device x.disk) (device y.disk) (ShowsAfterSome x.known.layout s p calls)
  -- Each new image stands for the heap acknowledged after the first calls, or for the one that the next call was acknowledging.
  pub any_moment : (s : Setting) (p : Past) → IsPastOf device x s p
      → LeavesOnly (device x.disk) (device y.disk) (StandsAfterSome x.known.layout s p calls)
  -- After a `Fault`, the store has failed.
  pub failed : IfErr result (λ e. e.1 ≡ Fault → y.known.has_failed ≡ true)
  -- After a `Fault`, only the refused call is in doubt.
  pub in_doubt : IfErr result (λ e. e.1 ≡ Fault → y.known.doubt ≡ doubt_in (slice_get calls e.0))
  -- The answer is `Fault` only if a call of the device has failed since the first call began.
  pub cause : IfErr result (λ e. e.1 ≡ Fault → HasFailed (device x.disk).failures (device y.disk).failures)
  -- The control's sequence rises by the number of the calls at most.
  pub sequence : y.known.committed.sequence ≤ x.known.committed.sequence + length calls
  -- Each new image shows a control of such a sequence.
  pub any_sequence : ShowsUpToMeanwhile device x y (x.known.committed.sequence + length calls)
  -- The calls write only the slots of the control, home cells and the lanes' areas.
  pub within : WritesWithin device x y
  -- The layout of the image stays.
  pub layout : y.known.layout ≡ x.known.layout
