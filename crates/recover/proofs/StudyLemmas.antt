-- What is found out about an image makes a study of it.
use Rattle.std.proofs.Common.{ℕ, zero, suc, ◌≡◌, ◌+◌, ◌<◌, ◌≤◌, List, length, get_or, map, subst, sym, ap, ◌∙◌, arith, Vec, Global, Result, Ok, Err, IfOk, IsErrOf}
use Rattle.std.specs.Prelude.{slice_index}
use Rattle.std.specs.List.Sorted.{IsStrictlyIncreasing}
use Rattle.std.proofs.lemmas.List.{get_or-map, length-map}
use Rattle.std.proofs.lemmas.List.Elements.{Contains-get_or}
use Rattle.heap_model.specs.declared.ids.FieldId.{FieldId}
use Rattle.heap_model.specs.declared.record.UndoRecord.{UndoRecord}
use Rattle.block_disk.specs.Device.{HasCause}
use Rattle.block_disk.proofs.Failures.{failed_since}
use Rattle.image_parts.specs.Cells.{HasHome}
use Rattle.image_parts.specs.declared.control.Control.{Control}
use Rattle.image_parts.specs.declared.layout.Layout.{Layout}
use Rattle.image_parts.specs.declared.guard_row.GuardRow.{GuardRow}
use Rattle.undo_log.specs.OldValues.{TakesBack, IsUnsettled}
use Rattle.undo_log.specs.StandsFor.{StandsFor, settled_of, guard_in, row_in}
use Rattle.recover.specs.declared.logged_image.LoggedImage.{LoggedImage}
use Rattle.recover_heap.specs.declared.error.RecoverError.{RecoverError}
use Rattle.recover_heap.specs.declared.error.RecoverError.TheVariants.{Fault, NotFormatted, BadHeader, TooSmall, NoControl, BadControl, OldVersion, Worn, BadRecord, IllegalLog, NoMemory}
use Rattle.recover_heap.specs.declared.heap.OldHeap.{OldHeap}
use Rattle.recover_heap.specs.Heap.{AreFields, RefusesHeap}
use Rattle.recover.specs.Study.{AreUndone}
use Rattle.recover_heap.specs.Logs.{lanes_of}
use Rattle.recover.specs.Reading.{Holds, RefusesLive}

-- an image whose parts are known stands for what its fields take back
pub stands_for : (image : List ℕ) (found : LoggedImage) (heap : List ℕ) → Holds image found → length heap ≡ found.layout.fields →
    ((f : ℕ) → f < found.layout.fields → TakesBack (guard_in found.guards.items f) f (lanes_of found.records.items) (IsUnsettled (settled_of found.control.rows)) (HasHome found.layout (row_in found.guards.items f) f image) (slice_index heap f)) →
    StandsFor found.layout image heap
stands_for image found heap holds size takes = record {
  slot = found.slot;
  control = found.control;
  shows = holds.control.shows;
  guards = found.guards.items;
  guarded = holds.control.front.guards_are;
  lanes = lanes_of found.records.items;
  live = holds.logs.live;
  size = size;
  takes = takes;
}

-- by what is read of guard rows and records that are the image's
module _ (image : List ℕ) (found : LoggedImage) (guards : List GuardRow) (logs : List (Vec UndoRecord Global)) (same_guards : guards ≡ found.guards.items) (same_logs : logs ≡ found.records.items) where
  abbrev Takes : List GuardRow → List (Vec UndoRecord Global) → OldHeap → Type 0
  Takes gs ls old = (f : ℕ) → f < found.layout.fields → TakesBack (guard_in gs f) f (lanes_of ls) (IsUnsettled (settled_of found.control.rows)) (HasHome found.layout (row_in gs f) f image) (slice_index old.heap.items f)

  abbrev Undone : List GuardRow → List (Vec UndoRecord Global) → OldHeap → Type 0
  Undone gs ls old = AreUndone found.layout gs found.control.rows (lanes_of ls) old.undone.items

  pub stands_if : (r : Result OldHeap RecoverError) → Holds image found → IfOk r (λ old. length old.heap.items ≡ found.layout.fields) → IfOk r (Takes guards logs) → IfOk r (λ old. StandsFor found.layout image old.heap.items)
  stands_if (Err e) holds size takes = tt
  stands_if (Ok old) holds size takes =
      stands_for image found old.heap.items holds size
      (subst (λ (gs : List GuardRow). Takes gs found.records.items old) same_guards (subst (λ (ls : List (Vec UndoRecord Global)). Takes guards ls old) same_logs takes))

  pub undone_if : (r : Result OldHeap RecoverError) → IfOk r (Undone guards logs) → IfOk r (Undone found.guards.items found.records.items)
  undone_if (Err e) undone = tt
  undone_if (Ok old) undone = subst (λ (gs : List GuardRow). Undone gs found.records.items old) same_guards (subst (λ (ls : List (Vec UndoRecord Global)). Undone guards ls old) same_logs undone)

-- rising numbers leave room for those before them
rising_from : (xs : List ℕ) → IsStrictlyIncreasing xs → (k : ℕ) → k < length xs → k ≤ slice_index xs k
rising_from xs rising zero lt = omega arith
rising_from xs rising (suc k) lt =
    let before : k ≤ slice_index xs k = rising_from xs rising k (omega arith) in
    let next : slice_index xs k < slice_index xs (k + 1) = rising k (omega arith) in
    let here : slice_index xs (k + 1) ≡ slice_index xs (suc k) = let is : k + 1 ≡ suc k = omega arith in ap (λ (j : ℕ). slice_index xs j) is in
    omega (arith, before, next, here)

-- fields below n, each once, are at most n
pub few_fields : (n : ℕ) (P : ℕ → Type 0) (fields : List FieldId) → AreFields P fields → ((f : ℕ) → P f → f < n) → length fields ≤ n
few_fields n P fields are below = at_most (length fields) (omega arith)
  where
    none : FieldId
    none = record { 0 = 0 }

    at_most : (k : ℕ) → k ≤ length fields → k ≤ n
    at_most zero le = omega arith
    at_most (suc k) le =
        let lt : k < length fields = omega arith in
        let such : P (get_or fields k none).0 = (are.each (get_or fields k none)).0 (Contains-get_or fields k none lt) in
        let numbers : List ℕ = map (λ (f : FieldId). f.0) fields in
        let long : length numbers ≡ length fields = length-map fields (λ (f : FieldId). f.0) in
        let is : slice_index numbers k ≡ (get_or fields k none).0 = get_or-map (λ (f : FieldId). f.0) fields k none 0 lt in
        let from : k ≤ slice_index numbers k = rising_from numbers are.rising k (omega (arith, long)) in
        omega (arith, from, is, below (get_or fields k none).0 such)

-- what refuses the heap refuses the image
pub refused_heap : (image : List ℕ) (l : Layout) (guards : List GuardRow) (c : Control) (e : RecoverError) → RefusesHeap e → RefusesLive image l guards c e
refused_heap image l guards c Fault h = tt
refused_heap image l guards c NotFormatted h = h
refused_heap image l guards c BadHeader h = h
refused_heap image l guards c TooSmall h = h
refused_heap image l guards c NoControl h = h
refused_heap image l guards c BadControl h = h
refused_heap image l guards c OldVersion h = h
refused_heap image l guards c Worn h = h
refused_heap image l guards c (BadRecord lane place) h = absurd h
refused_heap image l guards c (IllegalLog lane place) h = absurd h
refused_heap image l guards c NoMemory h = tt

-- causes of faults

no_memory_fault : (let e : RecoverError = NoMemory in e ≡ Fault) → ⊥
no_memory_fault is = cc

the_fault : {S : Type 0} (e : RecoverError) → IsErrOf (let r : Result S RecoverError = Err e in r) Fault → e ≡ Fault
the_fault e is = cc

no_fault : {S : Type 0} (s : S) → IsErrOf (let r : Result S RecoverError = Ok s in r) Fault → ⊥
no_fault s is = cc

pub err_cause : {T S : Type 0} (a b c : ℕ) (e : RecoverError) → a ≤ b → HasCause b c Fault (let r : Result T RecoverError = Err e in r) → HasCause a c Fault (let r : Result S RecoverError = Err e in r)
err_cause a b c e le cause = record {
  later = omega (arith, le, cause.later);
  failed = λ is. failed_since a b c le (cause.failed (ap (λ (x : RecoverError). Err x) (the_fault e is)));
}

pub no_memory_cause : {S : Type 0} (a b : ℕ) (e : RecoverError) → a ≤ b → e ≡ NoMemory → HasCause a b Fault (let r : Result S RecoverError = Err e in r)
no_memory_cause a b e le is = record { later = le; failed = λ fault. absurd (no_memory_fault (sym is ∙ the_fault e fault)) }

pub ok_cause : {S : Type 0} (a b : ℕ) (s : S) → a ≤ b → HasCause a b Fault (let r : Result S RecoverError = Ok s in r)
ok_cause a b s le = record { later = le; failed = λ fault. absurd (no_fault s fault) }
