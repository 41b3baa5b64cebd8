-- The sections of changed fields have guards that differ, and may come before what the cut doesn't keep.
use Rattle.std.proofs.Common.{ℕ, suc, ◌≡◌, ◌≢◌, ◌<◌, ◌≤◌, if◌then◌else◌, true, List, [], ◌∷◌, ◌++◌, Option, Some, None, sym, ◌∙◌, subst, inl, inr, arith}
use Rattle.std.specs.Prelude.{All}
use Rattle.std.proofs.lemmas.Bool.Decides.{eqb_tells}
use Rattle.std.proofs.lemmas.List.Elements.{All-head, All-tail}
use Rattle.heap_model.specs.declared.ids.FieldId.{FieldId}
use Rattle.heap_model.specs.declared.ids.ObjectId.{ObjectId}
use Rattle.heap_model.specs.declared.record.Record.{Record}
use Rattle.heap_model.specs.Base.{records_since}
use Rattle.heap_model.specs.Setting.{Setting}
use Rattle.store_helper_sections.specs.HelperSections.{AreGuardedBy, ArePreceding, HasNone, HelperSection, IsJustBefore, MayPrecede, first_taken}
use Rattle.store_round_image.specs.declared.cells.HomeValue.{HomeValue}
use Rattle.store_round_making.specs.Helper.{number_before}
use Rattle.store_round_sections.specs.Adding.{AreChanges, IsKept}
use Rattle.store_round_sections.specs.Laws.{HasRoomBefore, IsPastFirst}
use Rattle.store_round_sections.specs.Sections.{IsSortedByGuard, first_in, section_for, sections_of, with_change}
use Rattle.store_round_sections.proofs.Numbers.{guard_is, room_is, told_is}
use Rattle.store_round_sections.proofs.Runs.{IsOfGuard, guard_number, newest_guard}

-- each section's guard is past this object
abbrev Above : (object : ℕ) → List HelperSection → Type 0
Above o [] = Unit {0}
Above o (x ∷ older) = (o < x.guard.0) × Above o older

-- from the newest section to the oldest the guards rise
abbrev pub AreRising : List HelperSection → Type 0
AreRising [] = Unit {0}
AreRising (x ∷ older) = Above x.guard.0 older × AreRising older

above_lower : (o p : ℕ) (sections : List HelperSection) → o < p → Above p sections → Above o sections
above_lower o p [] lt above = tt
above_lower o p (x ∷ older) lt above = (omega (arith, lt, above.0), above_lower o p older lt above.1)

none_above : (o : ℕ) (sections : List HelperSection) → Above o sections → HasNone o sections
none_above o [] above = tt
none_above o (x ∷ older) above = ((λ e. omega (arith, e, above.0)), none_above o older above.1)

guarded_more : (s : Setting) (o : ℕ) (fields : List FieldId) (f : FieldId) → AreGuardedBy s o fields → f.0 < s.fields → s.is_logged f.0 ≡ true → s.guard f.0 ≡ o → AreGuardedBy s o (fields ++ f ∷ [])
guarded_more s o [] f are low logged guard = (low, logged, guard, tt)
guarded_more s o (g ∷ fields) f are low logged guard = (are.0, are.1, are.2, guarded_more s o fields f are.3 low logged guard)

low_before : (last : ℕ) (v : Option ℕ) → 0 < last → IsPastFirst last v → number_before v < last
low_before last None some past = some
low_before last (Some n) some past = omega (arith, past.0, past.1)

just_before : (last : ℕ) (v : Option ℕ) → IsPastFirst last v → IsJustBefore v (number_before v)
just_before last None past = tt
just_before last (Some n) past = omega (arith, past.0)

module _ (guards : List ObjectId) (first : List ℕ) where
  -- the first guard is this one or a later one
  abbrev AtLeast : (object : ℕ) → List HomeValue → Type 0
  AtLeast o [] = Unit {0}
  AtLeast o (c ∷ changed) = o ≤ guard_number guards first c

  -- each field's guard is at most the next one's
  abbrev pub AreOrdered : List HomeValue → Type 0
  AreOrdered [] = Unit {0}
  AreOrdered (c ∷ changed) = AtLeast (guard_number guards first c) changed × AreOrdered changed

  pub ordered : (changed : List HomeValue) → IsSortedByGuard guards changed → AreOrdered changed
  ordered [] sorted = tt
  ordered (c ∷ []) sorted = (tt, tt)
  ordered (c ∷ d ∷ changed) sorted = (
    sorted 0 1 c (omega arith) (omega arith),
    ordered (d ∷ changed) (λ i j e le lt. sorted (suc i) (suc j) e (omega (arith, le)) (omega (arith, lt))),
  )

  -- the newest section's guard is this one or a later one
  abbrev Least : (object : ℕ) → List HelperSection → Type 0
  Least o [] = Unit {0}
  Least o (x ∷ older) = o ≤ x.guard.0

  least_of : (o p : ℕ) (sections : List HelperSection) → o ≤ p → IsOfGuard guards first p sections → Least o sections
  least_of o p [] le is = tt
  least_of o p (x ∷ older) le is = omega (arith, le, is)

  least : (o : ℕ) (changed : List HomeValue) → AtLeast o changed → Least o (sections_of guards first changed)
  least o [] le = tt
  least o (d ∷ changed) le = least_of o (guard_number guards first d) (sections_of guards first (d ∷ changed)) le (newest_guard guards first d (sections_of guards first changed))

  above_next : (o : ℕ) (x : HelperSection) (older : List HelperSection) → x.guard.0 ≢ o → o ≤ x.guard.0 → Above x.guard.0 older → Above o (x ∷ older)
  above_next o x older apart le above = let lt : o < x.guard.0 = omega (arith, le, apart) in (lt, above_lower o x.guard.0 older lt above)

  module _ (s : Setting) (log : List (ℕ × Record)) (next : ℕ → ℕ) (all : List HomeValue) (are : AreChanges s log next guards first all) where
    abbrev since : List (ℕ × Record)
    since = records_since next log

    one_precedes : (c : HomeValue) → IsKept s log next c → MayPrecede s since (section_for guards first c)
    one_precedes c kept =
        let o : ℕ = guard_number guards first c in
        let room : HasRoomBefore s since o = room_is s log next guards first all are c kept in
        let told : first_in first o ≡ first_taken o since = told_is s log next guards first all are c kept in
        record {
          object = room.within;
          fields = (kept.field, kept.logged, sym (guard_is s log next guards first all are c kept), tt);
          number = subst (λ (v : Option ℕ). number_before v < s.last) (sym told) (low_before s.last (first_taken o since) room.last room.first);
          before = subst (λ (v : Option ℕ). IsJustBefore (first_taken o since) (number_before v)) (sym told) (just_before s.last (first_taken o since) room.first);
        }

    grown_precedes : (c : HomeValue) (x : HelperSection) → IsKept s log next c → x.guard.0 ≡ guard_number guards first c → MayPrecede s since x →
        MayPrecede s since (record { guard = x.guard; number = x.number; fields = x.fields ++ c.field ∷ [] })
    grown_precedes c x kept same may = record {
      object = may.object;
      fields = guarded_more s x.guard.0 x.fields c.field may.fields kept.field kept.logged (sym (guard_is s log next guards first all are c kept) ∙ sym same);
      number = may.number;
      before = may.before;
    }

    -- so far the sections may precede, and rise
    pub record Stand (sections : List HelperSection) : Type 0 where
      pub preceding : ArePreceding s since sections
      pub rising : AreRising sections

    stand_with : (c : HomeValue) (sections : List HelperSection) → IsKept s log next c → Least (guard_number guards first c) sections → Stand sections → Stand (with_change guards first c sections)
    stand_with c [] kept le h = record { preceding = (one_precedes c kept, tt, tt); rising = (tt, tt) }
    stand_with c (x ∷ older) kept le h = elim (eqb_tells x.guard.0 (guard_number guards first c)) [
      | inl e ↦ subst (λ b. Stand (if b then record { guard = x.guard; number = x.number; fields = x.fields ++ c.field ∷ [] } ∷ older else section_for guards first c ∷ x ∷ older)) (sym e.0)
          (record { preceding = (grown_precedes c x kept e.1 h.preceding.0, h.preceding.1, h.preceding.2); rising = h.rising })
      | inr e ↦
          let above : Above (guard_number guards first c) (x ∷ older) = above_next (guard_number guards first c) x older e.1 le h.rising.0 in
          subst (λ b. Stand (if b then record { guard = x.guard; number = x.number; fields = x.fields ++ c.field ∷ [] } ∷ older else section_for guards first c ∷ x ∷ older)) (sym e.0)
          (record { preceding = (one_precedes c kept, none_above (guard_number guards first c) (x ∷ older) above, h.preceding); rising = (above, h.rising) })
    ]

    pub stand : (changed : List HomeValue) → All (IsKept s log next) changed → AreOrdered changed → Stand (sections_of guards first changed)
    stand [] each order = record { preceding = tt; rising = tt }
    stand (c ∷ changed) each order =
        let rest : Stand (sections_of guards first changed) = stand changed (All-tail (IsKept s log next) c changed each) order.1 in
        stand_with c (sections_of guards first changed) (All-head (IsKept s log next) c changed each) (least (guard_number guards first c) changed order.0) rest
