-- What a round of two syncs promises, of every log and cut that it may lead from and to (this project's own). The old
-- control and device come first.
use Rattle.std.specs.Prelude.{ℕ, ◌≡◌, ◌+◌, ◌-◌, ◌≤◌, ◌^◌, ◌↔◌, ◌⊎◌, ◌++◌, List, IfErr, IsErrOf, OnErr, OnOk, Result}
use Rattle.heap_model.specs.declared.cut.Cut.{Cut}
use Rattle.heap_model.specs.declared.record.Record.{Record}
use Rattle.heap_model.specs.declared.record.UndoRecord.{UndoRecord}
use Rattle.heap_model.specs.Cuts.{counts_of}
use Rattle.heap_model.specs.Setting.{Setting}
use Rattle.block_disk.specs.Device.{Device}
use Rattle.block_disk.specs.Images.{Always, LeavesOnly}
use Rattle.block_disk.specs.Since.{HasCauseSince, LeavesBut}
use Rattle.image_parts.specs.declared.layout.Layout.{Layout}
use Rattle.store_image.specs.Sequences.{ShowsUpTo}
use Rattle.store_image.specs.Steps.{step_ranges}
use Rattle.store_image.specs.declared.committed.Committed.{Committed}
use Rattle.heap_model.specs.declared.store_error.StoreError.{StoreError}
use Rattle.heap_model.specs.declared.store_error.StoreError.TheVariants.{Fault, Worn}
use Rattle.store_helper_sections.specs.HelperSections.{HelperSection}
use Rattle.store_helper_sections.specs.Image.{ShowsRound}
use Rattle.store_round_image.specs.declared.cells.HomeValue.{HomeValue}
use Rattle.store_round_making.specs.Rounds.{IsRoundOn, MayMake}

module _ (l : Layout) (t : ℕ) (next : Cut) (places : List ℕ) (cells : List HomeValue) (fresh : ℕ → List UndoRecord) (helper : List UndoRecord) (c : Committed) (d : Device) where
  -- the cut of all that was applied is acknowledged
  abbrev pub Makes : {T : Type 0} → Committed → Device → Result T StoreError → Type 0
  Makes c' d' result = (s : Setting) (log : List (ℕ × Record)) (cut : ℕ → ℕ) (sections : List HelperSection) (newer : List (ℕ × Record)) (later : List HelperSection) →
      MayMake l t s log cut sections newer later c d next places cells fresh helper → OnOk result (IsRoundOn l t s (newer ++ log) (counts_of next) later c' d')

  -- at each moment a crash leaves an image that shows the old cut or the new one
  abbrev pub MakeShows : Device → Type 0
  MakeShows d' = (s : Setting) (log : List (ℕ × Record)) (cut : ℕ → ℕ) (sections : List HelperSection) (newer : List (ℕ × Record)) (later : List HelperSection) →
      MayMake l t s log cut sections newer later c d next places cells fresh helper →
      LeavesOnly d d' (λ image. ShowsRound l t s log cut sections image ⊎ ShowsRound l t s (newer ++ log) (counts_of next) later image)

  -- after the call a crash leaves such an image
  abbrev pub MakeKeeps : Device → Type 0
  MakeKeeps d' = (s : Setting) (log : List (ℕ × Record)) (cut : ℕ → ℕ) (sections : List HelperSection) (newer : List (ℕ × Record)) (later : List HelperSection) →
      MayMake l t s log cut sections newer later c d next places cells fresh helper →
      Always d' (λ image. ShowsRound l t s log cut sections image ⊎ ShowsRound l t s (newer ++ log) (counts_of next) later image)

-- `make_round`: the cut of all that was applied is acknowledged. `c` is the control that counts before the call and `x` the device, `c'` and `y` are those
-- after it. A new image is one that a crash during the call may leave, and that a crash before it couldn't have left.
pub record MakesRound {D T : Type 0} (device : D → Device) (l : Layout) (t : ℕ) (next : Cut) (places : List ℕ) (cells : List HomeValue) (fresh : ℕ → List UndoRecord)
    (helper : List UndoRecord) (c : Committed) (x : D) (c' : Committed) (y : D) (result : Result T StoreError) : Type 0 where
  -- After a success the cut of all that was applied is acknowledged.
  pub ok : Makes l t next places cells fresh helper c (device x) c' (device y) result
  -- `Worn` is answered exactly where the control's sequence is at its last value.
  pub worn : IsErrOf result Worn ↔ (c.sequence ≡ 2 ^ 64 - 1)
  -- `Worn` is answered before the device is called.
  pub no_call : IsErrOf result Worn → y ≡ x
  -- There is no other refusal than `Worn` and `Fault`.
  pub no_other : IfErr result (λ e. (e ≡ Worn) ⊎ (e ≡ Fault))
  -- After a refusal the same control counts.
  pub err : OnErr result (c' ≡ c)
  -- The call takes one sequence at most.
  pub sequence : c'.sequence ≤ c.sequence + 1
  -- Each new image shows the cut acknowledged before or the new one.
  pub any_moment : MakeShows l t next places cells fresh helper c (device x) (device y)
  -- Each new image shows a control of at most the next sequence.
  pub any_sequence : LeavesOnly (device x) (device y) (ShowsUpTo l (c.sequence + 1))
  -- The call writes only the slots of the control, home cells and the lanes' areas.
  pub within : LeavesBut (step_ranges l) (device x) (device y)
  -- After the call a crash leaves an image that shows the cut acknowledged before or the new one, however the call ends.
  pub crash : MakeKeeps l t next places cells fresh helper c (device x) (device y)
  -- The call answers `Fault` only if a call of the device has failed since it began.
  pub cause : HasCauseSince (device x) (device y) Fault result
