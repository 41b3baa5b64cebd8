-- What calls of the store for all fields, or for all lanes, say of whatever past it has (this project's own).
use Rattle.std.specs.Prelude.{ℕ, ◌≡◌, ◌<◌, ◌⊎◌, List, Result, slice_index, IfErr, IfOk, MatchResult, OnOk}
use Rattle.block_disk.specs.Images.{LeavesOnly}
use Rattle.block_disk.specs.Memory.{Memory, device_of}
use Rattle.durable.specs.Begin.{IsSettingOf}
use Rattle.durable.specs.Calls.{RefusesHome}
use Rattle.durable.specs.Store.{Parts}
use Rattle.heap_model.specs.declared.event.Event.{Event}
use Rattle.heap_model.specs.declared.limits.TheConstants.{LAST_NUMBER}
use Rattle.heap_model.specs.History.{logged}
use Rattle.heap_model.specs.Log.{value}
use Rattle.heap_model.specs.Setting.{Setting}
use Rattle.script_monitors.specs.Table.{Table, setting_of}
use Rattle.recover.specs.declared.versions.Versions.{Versions}
use Rattle.script_machine.specs.declared.answer.Refusal.{Refusal}
use Rattle.script_machine.specs.declared.answer.Report.{Report}
use Rattle.script_machine.specs.Homes.{BringsHome}
use Rattle.script_machine.specs.Machine.{Keeps, RefusesRecord}
use Rattle.script_machine.specs.Reports.{Recovered, RefusesDisk, Restores}
use Rattle.script_machine.specs.States.{Tells}
use Rattle.store_image.specs.Consistent.{ShowsPast}
use Rattle.store_image.specs.KeptHeap.{StandsForCut}
use Rattle.heap_model.specs.Past.{Past, applied, no_past}
use Rattle.heap_model.specs.declared.store_error.StoreError.{StoreError}
use Rattle.heap_model.specs.declared.store_error.StoreError.TheVariants.{Fault}

-- the store keeps the record of the thread's event, if it has one, or refuses it for this reason
abbrev pub KeepsEvent : Table → (lane : ℕ) → Event → (old new : Parts Memory) → Type 0
KeepsEvent table lane event old new = Keeps old lane (logged (setting_of table) event) new

abbrev pub RefusesEvent : Table → (lane : ℕ) → Event → Parts Memory → StoreError → Type 0
RefusesEvent table lane event x e = (s : Setting) (p : Past) → Tells x s p → RefusesRecord x s p lane (logged (setting_of table) event) e

-- home steps until no field is dirty: what they bring home, and why they are refused
abbrev pub BringsAllHome : (old new : Parts Memory) → Result ℕ StoreError → Type 0
BringsAllHome old new result = (s : Setting) (p : Past) → Tells old s p → IfOk result (BringsHome new s p)

abbrev pub RefusesHomes : Parts Memory → Result ℕ StoreError → Type 0
RefusesHomes old result = (s : Setting) (p : Past) → Tells old s p → IfErr result (RefusesHome old.known)

-- a refusal other than a fault leaves the store as it was
abbrev pub RestsUnlessFault : (old new : Parts Memory) → Result ℕ StoreError → Type 0
RestsUnlessFault old new result = (s : Setting) (p : Past) → Tells old s p → IfErr result (λ e. (e ≡ Fault) ⊎ (new ≡ old))

-- whatever a crash left in them shows the past before them, and stands for the sections acknowledged then
abbrev pub ShowsTold : (old new : Parts Memory) → Result ℕ StoreError → Type 0
ShowsTold old new result = (s : Setting) (p : Past) → Tells old s p
    → OnOk result (LeavesOnly (device_of old.disk) (device_of new.disk) (ShowsPast old.known.layout s p))

abbrev pub StandsTold : (old new : Parts Memory) → Result ℕ StoreError → Type 0
StandsTold old new result = (s : Setting) (p : Past) → Tells old s p
    → OnOk result (LeavesOnly (device_of old.disk) (device_of new.disk) (StandsForCut old.known.layout s p.logged p.cut))

-- the applied value of each field
abbrev pub HasApplied : Parts Memory → (values : List ℕ) → Type 0
HasApplied x values = (s : Setting) (p : Past) → Tells x s p
    → (f : ℕ) → f < x.known.layout.fields → slice_index values f ≡ value s.first f (applied p)

-- how many sections of each lane are acknowledged
abbrev pub HasAcknowledged : Parts Memory → (counts : List ℕ) → Type 0
HasAcknowledged x counts = (s : Setting) (p : Past) → Tells x s p
    → (l : ℕ) → l < x.known.layout.lanes → slice_index counts l ≡ p.cut l

-- the store over what was recovered was told nothing
abbrev pub IsUntold : Recovered Memory → Parts Memory → Type 0
IsUntold r store = (s : Setting) → IsSettingOf r.layout r.guards r.heap LAST_NUMBER s → Tells store s no_past

-- a device is recovered, or refused
abbrev pub RestoresOrRefuses : Versions → Memory → Result (Parts Memory × Report) (Memory × Refusal) → Type 0
RestoresOrRefuses versions disk outcome = MatchResult outcome (λ made. Restores disk made.0 made.1) (λ back. RefusesDisk versions disk back.0 back.1)
