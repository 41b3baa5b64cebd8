-- What the store's calls make of the machine.
use Rattle.std.proofs.Common.{◌≡◌, ◌⊎◌, ℕ, false, inl, inr, Result, Ok, Err, IfErr, OnOk, MatchResult, refl, ap}
use Rattle.heap_model.specs.Setting.{Setting}
use Rattle.block_disk.specs.Memory.{Memory}
use Rattle.heap_model.specs.declared.record.Record.{Record}
use Rattle.store_memory.specs.Apply.{Answers}
use Rattle.durable.specs.Calls.{RefusesApply}
use Rattle.heap_model.specs.Past.{Past, after_apply}
use Rattle.durable.specs.Store.{Parts}
use Rattle.heap_model.specs.declared.store_error.StoreError.{StoreError}
use Rattle.heap_model.specs.declared.store_error.StoreError.TheVariants.{Fault}
use Rattle.script_machine.specs.declared.answer.Answer.TheVariants.{Refused}
use Rattle.script_machine.specs.declared.answer.Refusal.{Refusal}
use Rattle.script_machine.specs.Refusals.{told_of_store}
use Rattle.script_machine.specs.States.{Live, Tells}
use Rattle.script_monitors.specs.Table.{Table}
use Rattle.script_machine.specs.Machine.{Running, IsRefusedByStore, Takes}

-- these monitors over this store
abbrev pub live : Table → Parts Memory → Live
live a x = record { monitors = a; store = x }

-- a refusal that is told is no fault, so that it has changed nothing
pub told-unchanged : (x y : Parts Memory) (e : StoreError) (w : Refusal) → told_of_store e ≡ Ok w → (e ≡ Fault) ⊎ (y ≡ x) → y ≡ x
told-unchanged x y e w told (inl fault) = absurd (let same = ap told_of_store fault in cc)
told-unchanged x y e w told (inr same) = same

-- a call that the store refuses, and that changes nothing
pub refused-line : (a : Table) (x y : Parts Memory) (P : Setting → Past → StoreError → Type 0) (e : StoreError) (w : Refusal)
    → told_of_store e ≡ Ok w → y ≡ x → ((s : Setting) (p : Past) → Tells x s p → P s p e)
    → IsRefusedByStore (Running (live a x)) (Refused w) (Running (live a y)) (live a x) P
refused-line a x y P e w told same because = record {
  reason = e;
  refusal = w;
  told = told;
  refuses = (refl, ap (λ z. Running (live a z)) same);
  because = because;
}

-- a record that the store takes
pub took : (x y : Parts Memory) (t : ℕ) (next : Record) (r : Result (Unit {0}) StoreError)
    → ((s : Setting) (p : Past) → Tells x s p → MatchResult r (λ done. Answers s x.known.memory p t next (Ok done)) (RefusesApply x.known s p t next))
    → ((s : Setting) (p : Past) → Tells x s p → OnOk r (Tells y s (after_apply p t next))) → y.disk ≡ x.disk → y.known.layout ≡ x.known.layout
    → OnOk r ((x.known.has_failed ≡ false) × (y.known.has_failed ≡ false)) → OnOk r (Takes x t next y)
took x y t next (Ok done) answer ok disk layout running = record { judged = answer; after = ok; disk = disk; layout = layout; running = running.1 }
took x y t next (Err e) answer ok disk layout running = tt

-- and one that it refuses
pub not_took : (x : Parts Memory) (t : ℕ) (next : Record) (r : Result (Unit {0}) StoreError)
    → ((s : Setting) (p : Past) → Tells x s p → MatchResult r (λ done. Answers s x.known.memory p t next (Ok done)) (RefusesApply x.known s p t next))
    → IfErr r (λ e. (s : Setting) (p : Past) → Tells x s p → RefusesApply x.known s p t next e)
not_took x t next (Ok done) answer = tt
not_took x t next (Err e) answer = answer
