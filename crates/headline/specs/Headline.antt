-- What recovery gives of what a crash left while threads ran: the headline, in one place (this project's own).
use Rattle.std.specs.Prelude.{ℕ, ◌≡◌, ◌<◌, ◌≤◌, ◌⊎◌, List, MatchResult}
use Rattle.heap_model.specs.declared.event.Event.{Event}
use Rattle.heap_model.specs.Cuts.{IsClosed, IsWhole, counts_of}
use Rattle.heap_model.specs.History.{IsLegalHistory, log_of}
use Rattle.heap_model.specs.Sections.{actions}
use Rattle.heap_model.specs.Setting.{Setting}
use Rattle.block_disk.specs.Device.{Device}
use Rattle.image_parts.specs.declared.layout.Layout.{Layout}
use Rattle.recover.specs.declared.report.Report.{Report}
use Rattle.monitor.specs.Seats.{Home}
use Rattle.thread_steps.specs.Views.{plan}
use Rattle.store_image.specs.KeptHeap.{kept_heap}
use Rattle.heap_model.specs.Past.{Past}
use Rattle.law_survival.specs.Again.{HasEnded}
use Rattle.law_survival.specs.Promise.{Answer}
use Rattle.recover_heap.specs.declared.error.RecoverError.{RecoverError}
use Rattle.recover_heap.specs.declared.error.RecoverError.TheVariants.{Fault, NoMemory, Worn}
use Rattle.law_running.specs.Running.{GoesOnLegally}
use Rattle.headline.specs.Life.{Life}
use Rattle.headline.specs.Openings.{AreOpenings}

-- Recovery gave this heap, and reported so many sections of each lane as kept. They are one set of sections: of each lane the first so many. The past
-- says what was acknowledged before, and `seen` is what the helper has seen of the threads' history.
pub record Headline (l : Layout) (s : Setting) (p : Past) (seen : List (ℕ × Event)) (heap : List ℕ) (kept : ℕ → ℕ) : Type 0 where
  pub cut : ℕ → ℕ
  -- What recovery reports as kept are these sections.
  pub reported : (lane : ℕ) → lane < l.lanes → kept lane ≡ cut lane
  -- Every section that was acknowledged in the past is among them.
  pub acknowledged : (lane : ℕ) → p.cut lane ≤ cut lane
  -- What the helper has seen is a legal history of the threads.
  pub legal : IsLegalHistory s seen
  -- In each legal history that goes on from the one seen, each of them is whole.
  pub whole : (history : List (ℕ × Event)) → GoesOnLegally s seen history → IsWhole (actions (log_of s history)) cut
  -- In each such history every section that one of them depends on is among them.
  pub closed : (history : List (ℕ × Event)) → GoesOnLegally s seen history → IsClosed (actions (log_of s history)) cut
  -- In each such history the heap has what they stored, in the history's order, over the first values, and nothing else.
  pub values : (history : List (ℕ × Event)) → GoesOnLegally s seen history → heap ≡ kept_heap l s (log_of s history) cut

-- Why recovery may fail: a call of its device failed, memory ran out, or the control's sequence is at its end.
abbrev pub MayFail : RecoverError → Type 0
MayFail e = (e ≡ Fault) ⊎ (e ≡ NoMemory) ⊎ (e ≡ Worn)

-- Recovery gives such a heap, or may fail.
abbrev pub Gives : {E : Type 0} → Layout → Setting → Past → (seen : List (ℕ × Event)) → Answer E → Type 0
Gives l s p seen answer = MatchResult answer (λ r. Headline l s p seen r.0.heap (counts_of r.1.kept)) (λ back. MayFail back.1)

-- Recovery gave such a heap, and reported these sections as kept; or it reported that an earlier recovery had ended, and then none.
pub record HeadlineAgain (l : Layout) (s : Setting) (p : Past) (seen : List (ℕ × Event)) (heap : List ℕ) (report : Report) : Type 0 where
  pub kept : ℕ → ℕ
  pub first : Headline l s p seen heap kept
  pub reported : ((lane : ℕ) → lane < l.lanes → counts_of report.kept lane ≡ kept lane) ⊎ HasEnded report

module _ {D : Type 0} (device : D → Device) where
  -- A heap lived until a crash left this image. Recovery gives such a heap, with all that was acknowledged before the call in which the crash came.
  abbrev pub GivesLife : {E : Type 0} → (image : List ℕ) → Answer E → Type 0
  GivesLife image told = (h : Home) (l : Layout) (p : Past) (seen : List (ℕ × Event)) → Life device h image l p seen → Gives l (plan h) p seen told

  -- A heap lived until a crash. Then it was opened any number of times, and each opening was cut off, at any of its calls. The last of these left
  -- this image. Recovery gives the same heap.
  abbrev pub GivesAgain : {E : Type 0} → (image : List ℕ) → Answer E → Type 0
  GivesAgain image told = (h : Home) (l : Layout) (p : Past) (seen : List (ℕ × Event)) (first : List ℕ)
      → Life device h first l p seen → AreOpenings first image
      → MatchResult told (λ r. HeadlineAgain l (plan h) p seen r.0.heap r.1) (λ back. MayFail back.1)
