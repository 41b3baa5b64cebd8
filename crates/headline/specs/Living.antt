-- Which calls make a heap live, and open it, so that the premise of the theorem is met by each program that makes them (this project's own).
use Rattle.std.specs.Prelude.{ℕ, List, [], Option, Some, Result}
use Rattle.guards.specs.Schema.{Declarations}
use Rattle.heap_model.specs.declared.event.Event.{Event}
use Rattle.heap_model.specs.declared.store_error.StoreError.{StoreError}
use Rattle.heap_model.specs.Past.{Past, no_past}
use Rattle.block_disk.specs.Device.{Device, Image}
use Rattle.disk_file.specs.Backing.{Held, MayLose, ReadsForGood, bytes_at}
use Rattle.image_parts.specs.Recovered.{Parts as Recovered}
use Rattle.monitor.specs.Seats.{Home}
use Rattle.trim_helper.specs.Calls.{MakesRound}
use Rattle.trim_helper.specs.Parts.{Parts}
use Rattle.thread_heap.specs.Opening.{IsOpened}
use Rattle.thread_heap.specs.declared.running_heap.RunningHeap.{RunningHeap}
use Rattle.headline.specs.Life.{Lives, LivesSince}
use Rattle.headline.specs.Openings.{IsOpening}

module _ {D : Type 0} (device : D → Device) where
  -- Each heap that was opened lives, with an empty past.
  abbrev pub OpenedLaw : Type 0
  OpenedLaw = (schema : Declarations) (recovered : Recovered D) (threads last ring : ℕ) (o : RunningHeap D)
      → IsOpened device schema recovered threads last ring o → Lives device o.shared o.helper no_past []

  -- It lives on over each round, since whatever moment of its life, whatever the round answers.
  abbrev pub RoundLaw : Type 0
  RoundLaw = (h : Home) (most : Option ℕ) (first x y : Parts D) (answer : Result ℕ StoreError) (before p : Past) (saw seen : List (ℕ × Event))
      → Lives device h first before saw → LivesSince device h first before saw x p seen → MakesRound device h most x y answer
      → (q : Past) × (later : List (ℕ × Event)) × LivesSince device h first before saw y q later

  -- What lives since a moment of a life lives.
  abbrev pub SinceLaw : Type 0
  SinceLaw = (h : Home) (first x : Parts D) (before p : Past) (saw seen : List (ℕ × Event))
      → Lives device h first before saw → LivesSince device h first before saw x p seen → Lives device h x p seen

-- A crash while a file is read (`disk_file::read_whole`: `loses`) is a crash of an opening, if the file's device has what the file reads.
abbrev pub ReadLaw : Type 0
ReadLaw = (image next : List ℕ) (places : List ℕ) (was h : Held)
    → ReadsForGood image (Some was) → MayLose (bytes_at places) (Some was) (Some h) → Image h.kept next → IsOpening image next
