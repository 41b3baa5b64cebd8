-- What `recover` gives after a crash: the acknowledged sections and no others, from script to script (this project's own).
use Rattle.std.specs.Prelude.{ℕ, ◌-◌, ◌≡◌, ◌≤◌, ◌<◌, ◌⊎◌, Some, List, length, slice_index}
use Rattle.block_disk.specs.Crash.{first_stops}
use Rattle.block_disk.specs.Memory.{Memory, device_of, moments_before}
use Rattle.block_disk.specs.declared.crash.Fill.{Fill}
use Rattle.heap_model.specs.declared.record.Record.{Record}
use Rattle.heap_model.specs.Setting.{Setting}
use Rattle.heap_model.specs.Sections.{actions}
use Rattle.heap_model.specs.Cuts.{IsStable, counts_of}
use Rattle.durable.specs.Calls.{IsClean}
use Rattle.store_image.specs.KeptHeap.{kept_heap}
use Rattle.heap_model.specs.Past.{Past}
use Rattle.recover.specs.Recovery.{IsWorn}
use Rattle.script_machine.specs.declared.answer.Answer.{Answer}
use Rattle.script_machine.specs.declared.answer.Answer.TheVariants.{Crashed, Recovered, Refused}
use Rattle.script_machine.specs.declared.answer.Refusal.TheVariants.{Worn}
use Rattle.script_machine.specs.declared.answer.Report.{Report}
use Rattle.script_machine.specs.Agreement.{Agrees, setting_from}
use Rattle.script_machine.specs.Answers.{acknowledged_in}
use Rattle.script_machine.specs.Machine.{MachineState, Running, Steps, IsRestored, WhileDown}
use Rattle.script_lines.specs.Orders.{Order}
use Rattle.script_lines.specs.Orders as order
use Rattle.script_machine.specs.States.{Live, Tells, begun_at}

-- The machine runs again, over an image of the same layout and for the same schema: each field has the value that the
-- sections of this cut of the log left, and what is told names just these sections as kept.
pub record Survives (m : Live) (s : Setting) (log : List (ℕ × Record)) (cut : ℕ → ℕ) (told : Answer) (new : MachineState) : Type 0 where
  pub live : Live
  pub report : Report
  pub tells : told ≡ Recovered report
  pub runs : new ≡ Running live
  pub layout : live.store.known.layout ≡ m.store.known.layout
  pub lanes : report.lanes ≡ m.store.known.layout.lanes
  pub heap : report.heap.items ≡ kept_heap m.store.known.layout s log cut
  pub kept : (lane : ℕ) → lane < m.store.known.layout.lanes → counts_of report.found.kept lane ≡ cut lane
  pub restored : IsRestored m.monitors.schema m.store.known.layout.lanes report.heap.items live.monitors

-- the sequence of the controls on the disk is at its end, so that no more can be recovered there
pub record IsAtItsEnd (down : MachineState) (told : Answer) : Type 0 where
  pub refused : told ≡ Refused Worn
  pub last : WhileDown down (λ w. IsWorn (device_of w.disk).now.bytes) ⊥

-- With all writes and syncs ended, a crash leaves what is recovered to the heap of the acknowledged sections.
abbrev pub RestLaw : Type 0
RestLaw = (m : Live) (s : Setting) (p : Past) (fill : Fill) (down new : MachineState) (told : Answer) → Tells m.store s p
    → Steps (Running m) (order.Crash fill 0) Crashed down → Steps down order.Recover told new
    → Survives m s p.logged p.cut told new ⊎ IsAtItsEnd down told

-- The monitors stood where a legal history of the threads' events leads, and what is recovered is the heap of the acknowledged
-- sections of its logged events.
pub record SurvivesOf (m : Live) (told : Answer) (new : MachineState) : Type 0 where
  pub agrees : Agrees m.monitors m.store
  pub survives : Survives m (setting_from m.monitors agrees.first) agrees.past.logged agrees.past.cut told new

-- so it is after each crash with all writes and syncs ended, whatever the threads did before
abbrev pub HistoryLaw : Type 0
HistoryLaw = (m : Live) (fill : Fill) (down new : MachineState) (told : Answer)
    → Steps (Running m) (order.Crash fill 0) Crashed down → Steps down order.Recover told new → SurvivesOf m told new ⊎ IsAtItsEnd down told

-- a crash with all but the last so many ended finds what was before ended: the moments of the first device are over then
abbrev pub IsSince : (before now : Memory) → (back : ℕ) → Type 0
IsSince before now back = length (device_of before).past ≤ length (moments_before now.first (first_stops (begun_at back now - 1) now.stops))

-- a line that calls the device
abbrev pub IsCall : Order → Type 0
IsCall asked = (asked ≡ order.Log) ⊎ (asked ≡ order.Home) ⊎ (asked ≡ order.Trim) ⊎ (asked ≡ order.Settle)

-- The cut is the acknowledged one. Only where the line is the one that settles, with no field dirty, may it be the stable one.
abbrev pub KeepsCut : Order → Setting → Past → (cut : ℕ → ℕ) → Type 0
KeepsCut asked s p cut = (cut ≡ p.cut) ⊎ ((asked ≡ order.Settle) × IsClean s p × IsStable (actions p.logged) cut)

-- At any write or sync of a log, of home writes or of a trim, and after the last, a crash leaves what is recovered to the heap of
-- exactly the sections that were acknowledged before; of a settling, to that of these or of those that it acknowledges.
abbrev pub CallLaw : Type 0
CallLaw = (m now : Live) (s : Setting) (p : Past) (asked : Order) (said : Answer) (fill : Fill) (back : ℕ) (down new : MachineState) (told : Answer) → Tells m.store s p
    → IsCall asked → Steps (Running m) asked said (Running now)
    → IsSince m.store.disk now.store.disk back → Steps (Running now) (order.Crash fill back) Crashed down → Steps down order.Recover told new
    → ((cut : ℕ → ℕ) × KeepsCut asked s p cut × Survives m s p.logged cut told new) ⊎ IsAtItsEnd down told

-- the machine runs again with the sections of the stable cut, and tells as kept, lane by lane, what was told as acknowledged
pub record KeepsTold (m : Live) (s : Setting) (p : Past) (acknowledged : List ℕ) (told : Answer) (new : MachineState) : Type 0 where
  pub cut : ℕ → ℕ
  pub stable : IsStable (actions p.logged) cut
  pub survives : Survives m s p.logged cut told new
  pub lanes : length acknowledged ≡ survives.report.lanes
  pub same : (lane : ℕ) → lane < length acknowledged → counts_of survives.report.found.kept lane ≡ slice_index acknowledged lane

-- What `settle` tells as acknowledged, `recover` tells as kept after a crash that comes next with all writes and syncs ended.
abbrev pub ToldLaw : Type 0
ToldLaw = (m now : Live) (s : Setting) (p : Past) (fill : Fill) (said told : Answer) (acknowledged : List ℕ) (down new : MachineState) → Tells m.store s p
    → Steps (Running m) order.Settle said (Running now) → acknowledged_in said ≡ Some acknowledged
    → Steps (Running now) (order.Crash fill 0) Crashed down → Steps down order.Recover told new
    → KeepsTold now s p acknowledged told new ⊎ IsAtItsEnd down told
