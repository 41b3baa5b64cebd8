-- The records of sections, the oldest first.
use Rattle.std.proofs.Common.{ℕ, ◌≡◌, ◌-◌, ◌<◌, ◌≤◌, ◌^◌, ◌==◌, if◌then◌else◌, true, false, List, [], ◌∷◌, ◌++◌, map, reverse, refl, sym, ap, ◌∙◌, subst, arith}
use Rattle.std.specs.Prelude.{All}
use Rattle.std.proofs.lemmas.List.{map-append, reverse-append}
use Rattle.std.proofs.lemmas.List.Elements.{All-append, All-cons, All-head, All-nil, All-tail}
use Rattle.std.proofs.lemmas.List.Sorted.{All-permutation, IsPermutation-reverse}
use Rattle.heap_model.specs.declared.ids.FieldId.{FieldId}
use Rattle.heap_model.specs.declared.ids.ObjectId.{ObjectId}
use Rattle.heap_model.specs.declared.record.Record.{Record}
use Rattle.heap_model.specs.declared.record.Record.TheVariants as record_is
use Rattle.heap_model.specs.declared.record.UndoRecord.{UndoRecord}
use Rattle.heap_model.specs.declared.record.UndoRecord.TheVariants.{Acq, Rel, Put}
use Rattle.heap_model.specs.Log.{lane}
use Rattle.heap_model.specs.Record.{undo_of}
use Rattle.heap_model.specs.Setting.{Setting}
use Rattle.image_parts.specs.Layout.{IsLayout}
use Rattle.image_parts.specs.declared.layout.Layout.{Layout}
use Rattle.undo_log.specs.Area.{IsLoggable}
use Rattle.undo_log.specs.Dropped.{undo_logs}
use Rattle.store_helper_sections.specs.HelperSections.{AreGuardedBy, ArePreceding, HelperSection, MayPrecede, helper_log, same_stores, section_records}
use Rattle.store_helper_sections.proofs.Padding.{if_own}
use Rattle.store_round_image.specs.declared.cells.HomeValue.{HomeValue}
use Rattle.store_round_making.specs.Helper.{HasValueIn, records_of}
use Rattle.store_round_sections.specs.Sections.{guard_of, section_for, sections_of, with_change}

-- the records of these sections
abbrev pub made : (heap : ℕ → ℕ) → List HelperSection → List UndoRecord
made heap [] = []
made heap (x ∷ older) = made heap older ++ records_of heap x

lane_of : (t : ℕ) (records : List Record) (before : List (ℕ × Record)) → lane t (map (λ (r : Record). (t, r)) records ++ before) ≡ records ++ lane t before
lane_of t [] before = refl
lane_of t (r ∷ records) before =
    if_own t (r ∷ lane t (map (λ (q : Record). (t, q)) records ++ before)) (lane t (map (λ (q : Record). (t, q)) records ++ before)) ∙ ap (λ (xs : List Record). r ∷ xs) (lane_of t records before)

pub made_undo : (t : ℕ) (heap : ℕ → ℕ) (sections : List HelperSection) → made heap sections ≡ reverse (undo_logs (helper_log t heap sections) t)
made_undo t heap [] = refl
made_undo t heap (x ∷ older) =
    let own : List UndoRecord = map undo_of (section_records heap x) in
    let before : List (ℕ × Record) = helper_log t heap older in
    ap (λ (xs : List UndoRecord). xs ++ records_of heap x) (made_undo t heap older)
    ∙ sym (reverse-append own (undo_logs before t))
    ∙ ap (λ (xs : List UndoRecord). reverse xs) (sym (map-append undo_of (section_records heap x) (lane t before)))
    ∙ ap (λ (xs : List Record). reverse (map undo_of xs)) (sym (lane_of t (section_records heap x) before))

-- a field's value in the heap is a word
abbrev IsWord : (heap : ℕ → ℕ) → FieldId → Type 0
IsWord heap f = heap f.0 < 2 ^ 64

-- so it is of each field of these sections
abbrev pub HaveWords : (heap : ℕ → ℕ) → List HelperSection → Type 0
HaveWords heap [] = Unit {0}
HaveWords heap (x ∷ older) = All (IsWord heap) x.fields × HaveWords heap older

words_with : (guards : List ObjectId) (first : List ℕ) (heap : ℕ → ℕ) (c : HomeValue) (sections : List HelperSection) → IsWord heap c.field → HaveWords heap sections → HaveWords heap (with_change guards first c sections)
words_with guards first heap c [] word have = (All-cons (IsWord heap) c.field [] word (All-nil (IsWord heap)), tt)
words_with guards first heap c (x ∷ older) word have =
    let alone : All (IsWord heap) (c.field ∷ []) = All-cons (IsWord heap) c.field [] word (All-nil (IsWord heap)) in
    elim (x.guard.0 == (guard_of guards c).0) as (λ b. HaveWords heap (if b then record { guard = x.guard; number = x.number; fields = x.fields ++ c.field ∷ [] } ∷ older else section_for guards first c ∷ x ∷ older)) [
      | true ↦ (All-append (IsWord heap) x.fields (c.field ∷ []) have.0 alone, have.1)
      | false ↦ (alone, have)
    ]

-- where each field has its value in the heap
pub words_of : (guards : List ObjectId) (first : List ℕ) (heap : ℕ → ℕ) (changed : List HomeValue) → All (HasValueIn heap) changed → All (λ (c : HomeValue). c.value < 2 ^ 64) changed → HaveWords heap (sections_of guards first changed)
words_of guards first heap [] values few = tt
words_of guards first heap (c ∷ changed) values few =
    let is : c.value ≡ heap c.field.0 = All-head (HasValueIn heap) c changed values in
    let word : c.value < 2 ^ 64 = All-head (λ (d : HomeValue). d.value < 2 ^ 64) c changed few in
    words_with guards first heap c (sections_of guards first changed) (subst (λ (v : ℕ). v < 2 ^ 64) is word)
    (words_of guards first heap changed (All-tail (HasValueIn heap) c changed values) (All-tail (λ (d : HomeValue). d.value < 2 ^ 64) c changed few))

module _ (l : Layout) (s : Setting) (records : List (ℕ × Record)) (heap : ℕ → ℕ) (limits : IsLayout l) (objects : l.objects ≡ s.objects) (fields : l.fields ≡ s.fields) (last : s.last ≤ 2 ^ 40 - 1) where
  stores_loggable : (o : ℕ) (fs : List FieldId) → AreGuardedBy s o fs → All (IsWord heap) fs → All (IsLoggable l) (map undo_of (same_stores heap fs))
  stores_loggable o [] are words = All-nil (IsLoggable l)
  stores_loggable o (f ∷ fs) are words =
      let word : heap f.0 < 2 ^ 64 = All-head (IsWord heap) f fs words in
      let low : f.0 < l.fields = omega (arith, are.0, fields) in
      All-cons (IsLoggable l) (Put f (heap f.0)) (map undo_of (same_stores heap fs)) (record { range = (omega (arith, low, limits.fields.1), word); named = low })
      (stores_loggable o fs are.3 (All-tail (IsWord heap) f fs words))

  section_loggable : (x : HelperSection) → MayPrecede s records x → All (IsWord heap) x.fields → All (IsLoggable l) (records_of heap x)
  section_loggable x may words =
      let own : List UndoRecord = map undo_of (section_records heap x) in
      let low : x.guard.0 < l.objects = omega (arith, may.object, objects) in
      let small : x.guard.0 < 4096 = omega (arith, low, limits.objects.1) in
      let number : x.number < 2 ^ 40 - 1 = omega (arith, may.number, last) in
      let acquire : IsLoggable l (Acq x.guard x.number) = record { range = (small, number); named = low } in
      let release : IsLoggable l (Rel x.guard x.number) = record { range = (small, number); named = low } in
      let stores : All (IsLoggable l) (map undo_of (same_stores heap x.fields)) = stores_loggable x.guard.0 x.fields may.fields words in
      let ends : All (IsLoggable l) (map undo_of (same_stores heap x.fields) ++ Acq x.guard x.number ∷ []) =
      All-append (IsLoggable l) (map undo_of (same_stores heap x.fields)) (Acq x.guard x.number ∷ []) stores (All-cons (IsLoggable l) (Acq x.guard x.number) [] acquire (All-nil (IsLoggable l))) in
      let parts : map undo_of (same_stores heap x.fields ++ record_is.Acq x.guard x.number ∷ []) ≡ map undo_of (same_stores heap x.fields) ++ Acq x.guard x.number ∷ [] =
      map-append undo_of (same_stores heap x.fields) (record_is.Acq x.guard x.number ∷ []) in
      let whole : All (IsLoggable l) own =
      All-cons (IsLoggable l) (Rel x.guard x.number) (map undo_of (same_stores heap x.fields ++ record_is.Acq x.guard x.number ∷ [])) release (subst (All (IsLoggable l)) (sym parts) ends) in
      All-permutation (IsLoggable l) own (reverse own) (IsPermutation-reverse own) whole

  -- An image may have each of the records.
  pub all_loggable : (sections : List HelperSection) → ArePreceding s records sections → HaveWords heap sections → All (IsLoggable l) (made heap sections)
  all_loggable [] are words = All-nil (IsLoggable l)
  all_loggable (x ∷ older) are words = All-append (IsLoggable l) (made heap older) (records_of heap x) (all_loggable older are.2 words.1) (section_loggable x are.0 words.0)
