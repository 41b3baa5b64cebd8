-- Calls of a store for rounds that were made one after another, and what a crash leaves of them (this project's own).
use Rattle.std.specs.Prelude.{ℕ, ◌≡◌, ◌≤◌, ◌+◌, ◌⊎◌, List, ◌++◌, MatchResult, Result}
use Rattle.heap_model.specs.declared.record.Record.{Record}
use Rattle.heap_model.specs.Cuts.{IsStable}
use Rattle.heap_model.specs.Sections.{actions}
use Rattle.heap_model.specs.Setting.{Setting}
use Rattle.block_disk.specs.Device.{Device}
use Rattle.block_disk.specs.Images.{LeavesOnly}
use Rattle.image_parts.specs.declared.layout.Layout.{Layout}
use Rattle.store_image.specs.Sequences.{ShowsUpTo}
use Rattle.heap_model.specs.Past.{Past, after_apply, after_log, applied}
use Rattle.heap_model.specs.declared.store_error.StoreError.{StoreError}
use Rattle.store_helper_sections.specs.Image.{ShowsCutOf}
use Rattle.store_rounds.specs.Steps.{IsPastOf, after_round}
use Rattle.store_rounds.specs.Store.{Known, Parts}

-- Calls made of the one past the other: records were applied, and sections acknowledged. Whatever a crash left since the first device shows
-- a whole closed cut of a beginning of what was applied, with all that was acknowledged in the first past.
pub record HasRun (l : Layout) (threads : ℕ) (s : Setting) (p : Past) (old : Device) (q : Past) (new : Device) : Type 0 where
  pub newer : List (ℕ × Record)
  pub same : applied q ≡ newer ++ applied p
  pub cut : (lane : ℕ) → p.cut lane ≤ q.cut lane
  pub shown : LeavesOnly old new (ShowsCutOf l threads s (applied q) p.cut)

-- The control takes so many sequences at most: the one that counts, and that of each image that a crash left since the first device.
pub record TakesSequences (most : ℕ) (old : Known) (before : Device) (new : Known) (now : Device) : Type 0 where
  pub known : new.committed.sequence ≤ old.committed.sequence + most
  pub shown : LeavesOnly before now (ShowsUpTo old.layout (old.committed.sequence + most))

-- Where no call is made, there is a run that changes nothing.
abbrev pub RunNoneLaw : Type 0
RunNoneLaw = (l : Layout) (threads : ℕ) (s : Setting) (p : Past) (d : Device) → HasRun l threads s p d p d

-- Runs one behind the other are one run.
abbrev pub RunOnLaw : Type 0
RunOnLaw = (l : Layout) (threads : ℕ) (s : Setting) (p q r : Past) (a b c : Device) → HasRun l threads s p a q b → HasRun l threads s q b r c → HasRun l threads s p a r c

module _ {D : Type 0} (device : D → Device) where
  -- The store has this past now, and the calls since the one before are a run from that past to this one.
  pub record IsRunTo (x y : Parts D) (s : Setting) (p now : Past) : Type 0 where
    pub is : IsPastOf device y s now
    pub ran : HasRun x.known.layout x.known.threads s p (device x.disk) now (device y.disk)

  -- A round is a run, and takes two sequences at most. After a success it has led to the past in which the stable cut is acknowledged; after
  -- a refusal to the one that the store had, or to that with all logged.
  pub record RoundRuns (x y : Parts D) (result : Result (Unit {0}) StoreError) : Type 0 where
    pub runs : (s : Setting) (p : Past) → IsPastOf device x s p →
        MatchResult result (λ done. (cut : ℕ → ℕ) → IsStable (actions (applied p)) cut → IsRunTo x y s p (after_round p cut)) (λ e. IsRunTo x y s p p ⊎ IsRunTo x y s p (after_log p))
    pub takes : TakesSequences 2 x.known (device x.disk) y.known (device y.disk)

  -- A flush is a run, and takes one sequence at most: it has led to the past with all logged, or after a refusal to the one that there was.
  pub record FlushRuns (x y : Parts D) (result : Result (Unit {0}) StoreError) : Type 0 where
    pub runs : (s : Setting) (p : Past) → IsPastOf device x s p → MatchResult result (λ done. IsRunTo x y s p (after_log p)) (λ e. IsRunTo x y s p p)
    pub takes : TakesSequences 1 x.known (device x.disk) y.known (device y.disk)

  -- A record that is applied is a run to the past with it, and one that is refused to the same past.
  abbrev pub ApplyRuns : (x y : Parts D) (lane : ℕ) (next : Record) → Result (Unit {0}) StoreError → Type 0
  ApplyRuns x y lane next result = (s : Setting) (p : Past) → IsPastOf device x s p → MatchResult result (λ done. IsRunTo x y s p (after_apply p lane next)) (λ e. IsRunTo x y s p p)
