-- The monitors' tables, with one more record.
use Rattle.std.proofs.Common.{ℕ, ◌≡◌, ◌+◌, ◌<◌, ◌==◌, if◌then◌else◌, Bool, List, ◌∷◌, length, sym, ap, ◌∙◌, subst, inl, inr, arith, Option, Some, None, replicate, slice_index, slice_set, get_or-set_same, get_or-set_other}
use Rattle.std.specs.Prelude.{slice_index_or}
use Rattle.std.proofs.lemmas.Bool.{cases_lt}
use Rattle.std.proofs.lemmas.Bool.Decides.{eqb_tells}
use Rattle.std.proofs.lemmas.List.{get_or-replicate, get_or_past, length-replicate}
use Rattle.heap_model.specs.declared.ids.Lane.{Lane}
use Rattle.heap_model.specs.declared.ids.ObjectId.{ObjectId}
use Rattle.heap_model.specs.declared.record.UndoRecord.{UndoRecord}
use Rattle.heap_model.specs.declared.record.UndoRecord.TheVariants.{Acq, Rel, WaitRel, Put}
use Rattle.recover_logs.specs.Limits.{IsBelow, IsInRange, IsOfObjects}
use Rattle.recover_logs.specs.Monitors.{holder, number, MayStore, MayStoreBy, IsAllowed, IsAllowedBy, AreMonitors, holders_after, numbers_after}
use Rattle.recover_logs.specs.declared.monitors.Monitors.{Monitors}

-- what is known by the tables is known of the records
may_store : (guard : Option ObjectId) (first : ℕ → ℕ) (done : List (ℕ × UndoRecord)) (t : Monitors) (l : ℕ) → IsBelow guard 4096 → AreMonitors first done t → MayStoreBy guard t l → MayStore guard done l
may_store None first done t l low are h = h
may_store (Some o) first done t l low are h = sym (are.holders o.0 low) ∙ h

by_may_store : (guard : Option ObjectId) (first : ℕ → ℕ) (done : List (ℕ × UndoRecord)) (t : Monitors) (l : ℕ) → IsBelow guard 4096 → AreMonitors first done t → MayStore guard done l → MayStoreBy guard t l
by_may_store None first done t l low are h = h
by_may_store (Some o) first done t l low are h = are.holders o.0 low ∙ h

pub allowed_by : (guard : ℕ → Option ObjectId) (first : ℕ → ℕ) (done : List (ℕ × UndoRecord)) (t : Monitors) (l : ℕ) (r : UndoRecord) → IsOfObjects guard 4096 r → AreMonitors first done t → IsAllowedBy guard t l r → IsAllowed guard first done l r
allowed_by guard first done t l (Acq o n) low are h = (sym (are.holders o.0 low) ∙ h.0, sym (are.numbers o.0 low) ∙ h.1)
allowed_by guard first done t l (Rel o n) low are h = (sym (are.holders o.0 low) ∙ h.0, sym (are.numbers o.0 low) ∙ h.1)
allowed_by guard first done t l (WaitRel o n) low are h = (sym (are.holders o.0 low) ∙ h.0, sym (are.numbers o.0 low) ∙ h.1)
allowed_by guard first done t l (Put f before) low are h = may_store (guard f.0) first done t l low are h

pub by_allowed : (guard : ℕ → Option ObjectId) (first : ℕ → ℕ) (done : List (ℕ × UndoRecord)) (t : Monitors) (l : ℕ) (r : UndoRecord) → IsOfObjects guard 4096 r → AreMonitors first done t → IsAllowed guard first done l r → IsAllowedBy guard t l r
by_allowed guard first done t l (Acq o n) low are h = (are.holders o.0 low ∙ h.0, are.numbers o.0 low ∙ h.1)
by_allowed guard first done t l (Rel o n) low are h = (are.holders o.0 low ∙ h.0, are.numbers o.0 low ∙ h.1)
by_allowed guard first done t l (WaitRel o n) low are h = (are.holders o.0 low ∙ h.0, are.numbers o.0 low ∙ h.1)
by_allowed guard first done t l (Put f before) low are h = by_may_store (guard f.0) first done t l low are h

-- the tables after one more record
holders_set : (holders : List (Option Lane)) (p o : ℕ) (now : Option Lane) (was : Option Lane) → length holders ≡ 4096 → p < 4096 → slice_index_or holders o None ≡ was → slice_index_or (slice_set holders p now) o None ≡ (if p == o then now else was)
holders_set holders p o now was long low is = elim (eqb_tells p o) [
  | inl e ↦ subst (λ (b : Bool). slice_index_or (slice_set holders p now) o None ≡ (if b then now else was)) (sym e.0)
      (ap (λ (k : ℕ). slice_index_or (slice_set holders p now) k None) (sym e.1) ∙ get_or-set_same holders p now None (omega arith))
  | inr e ↦ subst (λ (b : Bool). slice_index_or (slice_set holders p now) o None ≡ (if b then now else was)) (sym e.0)
      (get_or-set_other holders p o now None (λ same. e.1 (sym same)) ∙ is)
]

numbers_set : (numbers : List ℕ) (p o now was : ℕ) → length numbers ≡ 4096 → p < 4096 → slice_index numbers o ≡ was → slice_index (slice_set numbers p now) o ≡ (if p == o then now else was)
numbers_set numbers p o now was long low is = elim (eqb_tells p o) [
  | inl e ↦ subst (λ (b : Bool). slice_index (slice_set numbers p now) o ≡ (if b then now else was)) (sym e.0)
      (ap (slice_index (slice_set numbers p now)) (sym e.1) ∙ get_or-set_same numbers p now 0 (omega arith))
  | inr e ↦ subst (λ (b : Bool). slice_index (slice_set numbers p now) o ≡ (if b then now else was)) (sym e.0)
      (get_or-set_other numbers p o now 0 (λ same. e.1 (sym same)) ∙ is)
]

pub tables_after : (first : ℕ → ℕ) (done : List (ℕ × UndoRecord)) (t : Monitors) (l : ℕ) (r : UndoRecord) → length t.holders ≡ 4096 → length t.numbers ≡ 4096 → IsInRange r → AreMonitors first done t → (u : Monitors) →
    u.holders ≡ holders_after t.holders l r → u.numbers ≡ numbers_after t.numbers r → AreMonitors first ((l, r) ∷ done) u
tables_after first done t l (Acq p n) hs ns range are u h k = record {
  holders = λ o lt. ap (λ (xs : List (Option Lane)). slice_index_or xs o None) h ∙ holders_set t.holders p.0 o (Some (record { 0 = l })) (holder o done) hs range.0 (are.holders o lt);
  numbers = λ o lt. ap (λ (xs : List ℕ). slice_index xs o) k ∙ are.numbers o lt;
}
tables_after first done t l (Rel p n) hs ns range are u h k = record {
  holders = λ o lt. ap (λ (xs : List (Option Lane)). slice_index_or xs o None) h ∙ holders_set t.holders p.0 o None (holder o done) hs range.0 (are.holders o lt);
  numbers = λ o lt. ap (λ (xs : List ℕ). slice_index xs o) k ∙ numbers_set t.numbers p.0 o (n + 1) (number first o done) ns range.0 (are.numbers o lt);
}
tables_after first done t l (WaitRel p n) hs ns range are u h k = record {
  holders = λ o lt. ap (λ (xs : List (Option Lane)). slice_index_or xs o None) h ∙ holders_set t.holders p.0 o None (holder o done) hs range.0 (are.holders o lt);
  numbers = λ o lt. ap (λ (xs : List ℕ). slice_index xs o) k ∙ numbers_set t.numbers p.0 o (n + 1) (number first o done) ns range.0 (are.numbers o lt);
}
tables_after first done t l (Put f before) hs ns range are u h k = record {
  holders = λ o lt. ap (λ (xs : List (Option Lane)). slice_index_or xs o None) h ∙ are.holders o lt;
  numbers = λ o lt. ap (λ (xs : List ℕ). slice_index xs o) k ∙ are.numbers o lt;
}

-- no lane holds anything at first
pub none_held : (o : ℕ) → slice_index_or (replicate 4096 (let free : Option Lane = None in free)) o None ≡ None
none_held o =
    let none : Option Lane = None in
    elim (cases_lt o 4096) [
      | inl lt ↦ get_or-replicate 4096 o none none lt
      | inr le ↦ get_or_past (replicate 4096 none) o none (omega (arith, length-replicate 4096 none))
    ]
