-- The records of a section of the helper's, in the order in which they are written.
use Rattle.std.proofs.Common.{ℕ, zero, suc, ◌≡◌, ◌+◌, ◌<◌, List, [], ◌∷◌, ◌++◌, length, map, get_or, reverse, take, Option, refl, sym, ap, ◌∙◌, arith}
use Rattle.std.specs.Prelude.{All}
use Rattle.std.proofs.lemmas.List.{append_assoc, map-append, reverse-append, reverse-reverse}
use Rattle.std.proofs.lemmas.List.Elements.{All-get_or}
use Rattle.heap_model.specs.declared.ids.FieldId.{FieldId}
use Rattle.heap_model.specs.declared.ids.ObjectId.{ObjectId}
use Rattle.heap_model.specs.declared.record.Record.TheVariants as record_is
use Rattle.heap_model.specs.declared.record.UndoRecord.{UndoRecord}
use Rattle.heap_model.specs.declared.record.UndoRecord.TheVariants.{Acq, Rel, Put}
use Rattle.heap_model.specs.Record.{undo_of}
use Rattle.store_helper_sections.specs.HelperSections.{same_stores}
use Rattle.store_round_image.specs.declared.cells.HomeValue.{HomeValue}
use Rattle.store_round_making.specs.Helper.{HasValueIn, number_before, records_of, section_of}

-- the store of a cell's value
abbrev pub put : HomeValue → UndoRecord
put c = Put c.field c.value

abbrev fields : List HomeValue → List FieldId
fields cells = map (λ (c : HomeValue). c.field) cells

abbrev kept_put : (heap : ℕ → ℕ) → FieldId → UndoRecord
kept_put heap f = Put f (heap f.0)

stores_undone : (heap : ℕ → ℕ) (fs : List FieldId) → map undo_of (same_stores heap fs) ≡ map (kept_put heap) fs
stores_undone heap [] = refl
stores_undone heap (f ∷ fs) = ap (λ (xs : List UndoRecord). kept_put heap f ∷ xs) (stores_undone heap fs)

map_back : {A B : Type 0} (g : A → B) (xs : List A) → map g (reverse xs) ≡ reverse (map g xs)
map_back {A} {B} g [] = refl
map_back {A} {B} g (x ∷ xs) =
    ap (map g) (reverse-append (x ∷ []) xs) ∙ map-append g (reverse xs) (x ∷ [])
    ∙ ap (λ (ys : List B). ys ++ g x ∷ []) (map_back g xs) ∙ sym (reverse-append (g x ∷ []) (map g xs))

values_put : (heap : ℕ → ℕ) (cells : List HomeValue) → ((k : ℕ) (d : HomeValue) → k < length cells → HasValueIn heap (get_or cells k d)) → map (kept_put heap) (fields cells) ≡ map put cells
values_put heap [] are = refl
values_put heap (c ∷ cells) are =
    let first : heap c.field.0 ≡ c.value = sym (are 0 c (omega arith)) in
    let rest : map (kept_put heap) (fields cells) ≡ map put cells = values_put heap cells (λ k d lt. are (suc k) d (omega (arith, lt))) in
    λ i. Put c.field (first i) ∷ rest i

-- first the acquire, then the stores in the cells' order, and then the release
pub in_order : (heap : ℕ → ℕ) (guard : ObjectId) (first : Option ℕ) (cells : List HomeValue) → All (HasValueIn heap) cells →
    records_of heap (section_of guard first cells) ≡ Acq guard (number_before first) ∷ map put cells ++ Rel guard (number_before first) ∷ []
in_order heap guard first cells are =
    let n : ℕ = number_before first in
    let back : List FieldId = reverse (fields cells) in
    let acquire : List UndoRecord = Acq guard n ∷ [] in
    let release : List UndoRecord = Rel guard n ∷ [] in
    let stores : List UndoRecord = map undo_of (same_stores heap back) in
    let split : map undo_of (same_stores heap back ++ record_is.Acq guard n ∷ []) ≡ stores ++ acquire = map-append undo_of (same_stores heap back) (record_is.Acq guard n ∷ []) in
    let whole : reverse (Rel guard n ∷ map undo_of (same_stores heap back ++ record_is.Acq guard n ∷ [])) ≡ reverse (stores ++ acquire) ++ release =
    ap (λ (xs : List UndoRecord). reverse (Rel guard n ∷ xs)) split ∙ reverse-append release (stores ++ acquire) in
    let inner : reverse (stores ++ acquire) ≡ Acq guard n ∷ reverse stores = reverse-append stores acquire in
    let puts : reverse stores ≡ map put cells =
    ap (λ (xs : List UndoRecord). reverse xs) (stores_undone heap back ∙ map_back (kept_put heap) (fields cells)) ∙ reverse-reverse (map (kept_put heap) (fields cells))
    ∙ values_put heap cells (λ k d lt. All-get_or (HasValueIn heap) cells k d lt are) in
    whole ∙ ap (λ (xs : List UndoRecord). xs ++ release) inner ∙ ap (λ (xs : List UndoRecord). (Acq guard n ∷ xs) ++ release) puts

pub put_next : (cells : List HomeValue) (i : ℕ) (d : HomeValue) → i < length cells → map put (take i cells) ++ put (get_or cells i d) ∷ [] ≡ map put (take (i + 1) cells)
put_next [] i d lt = absurd (omega (arith, lt))
put_next (c ∷ cells) zero d lt = refl
put_next (c ∷ cells) (suc i) d lt = let more : suc i + 1 ≡ suc (i + 1) = omega arith in ap (λ (xs : List UndoRecord). put c ∷ xs) (put_next cells i d (omega (arith, lt))) ∙ ap (λ (n : ℕ). map put (take n (c ∷ cells))) (sym more)

pub joined : (old : List UndoRecord) (a r : UndoRecord) (puts : List UndoRecord) → ((old ++ a ∷ []) ++ puts) ++ r ∷ [] ≡ old ++ (a ∷ puts ++ r ∷ [])
joined old a r puts = append_assoc (old ++ a ∷ []) puts (r ∷ []) ∙ append_assoc old (a ∷ []) (puts ++ r ∷ [])
