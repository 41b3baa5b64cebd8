-- A field takes one value back.
use Rattle.std.proofs.Common.{◌≡◌, inl, inr, ℕ, ◌<◌, List, [], ◌∷◌, length, sym, ◌∙◌, subst, arith}
use Rattle.heap_model.specs.declared.record.UndoRecord.{UndoRecord}
use Rattle.heap_model.specs.declared.record.UndoRecord.TheVariants as undo
use Rattle.undo_log.specs.OldValues.{OldValue, IsOld, HasOld, TakesBack, NothingBack, FirstBack}

place_at : (o f : ℕ) (r : UndoRecord) (xs : List UndoRecord) (k : OldValue) → IsOld o f xs r k → k.place ≡ length xs
place_at o f (undo.Put g before) xs k h = h.2
place_at o f (undo.Acq p n) xs k h = elim h [ ]
place_at o f (undo.Rel p n) xs k h = elim h [ ]
place_at o f (undo.WaitRel p n) xs k h = elim h [ ]

place_in : (o f : ℕ) (xs : List UndoRecord) (k : OldValue) → HasOld o f xs k → k.place < length xs
place_in o f [] k h = elim h [ ]
place_in o f (r ∷ xs) k (inl h) = omega (arith, place_at o f r xs k h)
place_in o f (r ∷ xs) k (inr h) = omega (arith, place_in o f xs k h)

one_record : (o f : ℕ) (r : UndoRecord) (xs : List UndoRecord) (j k : OldValue) → IsOld o f xs r j → IsOld o f xs r k → j.before ≡ k.before
one_record o f (undo.Put g before) xs j k h i = h.4 ∙ sym i.4
one_record o f (undo.Acq p n) xs j k h i = elim h [ ]
one_record o f (undo.Rel p n) xs j k h i = elim h [ ]
one_record o f (undo.WaitRel p n) xs j k h i = elim h [ ]

one_place : (o f : ℕ) (xs : List UndoRecord) (j k : OldValue) → HasOld o f xs j → HasOld o f xs k → j.place ≡ k.place → j.before ≡ k.before
one_place o f [] j k h i e = elim h [ ]
one_place o f (r ∷ xs) j k (inl h) (inl i) e = one_record o f r xs j k h i
one_place o f (r ∷ xs) j k (inl h) (inr i) e = absurd (omega (arith, place_at o f r xs j h, place_in o f xs k i))
one_place o f (r ∷ xs) j k (inr h) (inl i) e = absurd (omega (arith, place_at o f r xs k i, place_in o f xs j h))
one_place o f (r ∷ xs) j k (inr h) (inr i) e = one_place o f xs j k h i e

-- there is one such value, where there is one at home
pub takes_once : (o f : ℕ) (lanes : ℕ → List UndoRecord) (IsOut : ℕ → OldValue → Type 0) (IsHome : ℕ → Type 0) (v w : ℕ) →
    (IsHome v → IsHome w → v ≡ w) → TakesBack o f lanes IsOut IsHome v → TakesBack o f lanes IsOut IsHome w → v ≡ w
takes_once o f lanes IsOut IsHome v w one (NothingBack a e) (NothingBack b i) = one e i
takes_once o f lanes IsOut IsHome v w one (NothingBack a e) (FirstBack l k h out i first) = absurd (a l k h out)
takes_once o f lanes IsOut IsHome v w one (FirstBack l k h out i first) (NothingBack a e) = absurd (a l k h out)
takes_once o f lanes IsOut IsHome v w one (FirstBack l k h out e first) (FirstBack m j i outj d first_too) =
    elim (first m j i outj) [
      | inl a ↦ elim (first_too l k h out) [ inl b ↦ absurd (omega arith) | inr b ↦ absurd (omega (arith, b.0)) ]
      | inr a ↦ elim (first_too l k h out) [
        | inl b ↦ absurd (omega (arith, a.0))
        | inr b ↦ e ∙ one_place o f (lanes m) k j (subst (λ x. HasOld o f (lanes x) k) a.1 h) i (omega (arith, a.2, b.2)) ∙ sym d
      ]
    ]
