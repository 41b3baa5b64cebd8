-- Where a cut keeps a store under an object, the object was freed, and is taken beyond the cut at a number from 1 on.
use Rattle.std.proofs.Common.{ℕ, ◌≡◌, ◌+◌, ◌<◌, ◌≤◌, ◌⊎◌, ◌==◌, if◌then◌else◌, true, false, List, [], ◌∷◌, ◌++◌, Option, Some, None, refl, sym, ap, ◌∙◌, subst, inl, inr, arith}
use Rattle.std.proofs.lemmas.Bool.Decides.{eqb_tells}
use Rattle.heap_model.specs.declared.ids.ObjectId.{ObjectId}
use Rattle.heap_model.specs.declared.record.Record.{Record}
use Rattle.heap_model.specs.declared.record.Record.TheVariants.{Acq, Rel, WaitRel, Put}
use Rattle.heap_model.specs.Setting.{Setting}
use Rattle.heap_model.specs.Log.{lane, holder, number, IsLegal}
use Rattle.heap_model.specs.Sections.{actions, holding}
use Rattle.heap_model.specs.Cuts.{IsWhole, IsClosed}
use Rattle.heap_model.specs.Base.{records_since, records_until}
use Rattle.heap_model.specs.Past.{has_store}
use Rattle.law_cuts.proofs.Chain.{In, holds_in}
use Rattle.law_cuts.proofs.Next.{legal_before}
use Rattle.law_histories.proofs.Rebase.{until_ends}
use Rattle.law_histories.proofs.Reorder.{rest_after_until}
use Rattle.store_helper_sections.specs.HelperSections.{earlier, first_taken}
use Rattle.store_helper_sections.proofs.Moving.{first_at}
use Rattle.store_helper_sections.proofs.Padding.{if_same, if_apart}
use Rattle.store_round_image.specs.declared.cells.HomeValue.{HomeValue}
use Rattle.store_round_making.specs.Helper.{HasBefore}
use Rattle.store_round_sections.specs.Adding.{AreChanges, IsKept}
use Rattle.store_round_sections.specs.Laws.{HasRoomBefore, IsPastFirst}
use Rattle.store_round_sections.specs.Sections.{HasNumber, first_in, guard_of}

-- the object is one of the setting's, and some number is below its last
record IsReal (s : Setting) (o : ℕ) : Type 0 where
  object : o < s.objects
  last : 0 < s.last

freed_held : (o l p : ℕ) (v : Option ℕ) → (if p == o then None else v) ≡ Some l → v ≡ Some l
freed_held o l p v h = elim (eqb_tells p o) [
  | inl e ↦ absurd (let none : None ≡ Some l = sym (if_same p o None v e.1) ∙ h in cc)
  | inr e ↦ sym (if_apart p o None v e.1) ∙ h
]

-- what is held was taken
held_real : (s : Setting) (log : List (ℕ × Record)) (o l : ℕ) → IsLegal s log → holder o log ≡ Some l → IsReal s o
held_real s [] o l legal h = absurd (let none : None ≡ Some l = h in cc)
held_real s ((m, Acq p n) ∷ older) o l legal h = elim (eqb_tells p.0 o) [
  | inl e ↦ record { object = subst (λ (q : ℕ). q < s.objects) e.1 legal.3; last = omega (arith, legal.1.2) }
  | inr e ↦ held_real s older o l legal.0 (sym (if_apart p.0 o (Some m) (holder o older) e.1) ∙ h)
]
held_real s ((m, Rel p n) ∷ older) o l legal h = held_real s older o l legal.0 (freed_held o l p.0 (holder o older) h)
held_real s ((m, WaitRel p n) ∷ older) o l legal h = held_real s older o l legal.0 (freed_held o l p.0 (holder o older) h)
held_real s ((m, Put f v w) ∷ older) o l legal h = held_real s older o l legal.0 h

-- a store's guard was taken, and since then it is held or was freed
record IsUsed (s : Setting) (log : List (ℕ × Record)) (o : ℕ) : Type 0 where
  real : IsReal s o
  state : (1 ≤ number o log) ⊎ ((l : ℕ) × (holder o log ≡ Some l))

used_freed : (s : Setting) (older : List (ℕ × Record)) (o p n : ℕ) → IsUsed s older o →
    (1 ≤ (if p == o then n + 1 else number o older)) ⊎ ((l : ℕ) × ((if p == o then None else holder o older) ≡ Some l))
used_freed s older o p n was = elim (eqb_tells p o) [
  | inl e ↦ inl (let now : (if p == o then n + 1 else number o older) ≡ n + 1 = if_same p o (n + 1) (number o older) e.1 in omega (arith, now))
  | inr e ↦ elim was.state [
    | inl some ↦ inl (let now : (if p == o then n + 1 else number o older) ≡ number o older = if_apart p o (n + 1) (number o older) e.1 in omega (arith, now, some))
    | inr held ↦ inr (held.0, if_apart p o None (holder o older) e.1 ∙ held.1)
  ]
]

used : (s : Setting) (log : List (ℕ × Record)) (f : ℕ) → IsLegal s log → has_store f log ≡ true → IsUsed s log (s.guard f)
used s [] f legal h = absurd (let no : false ≡ true = h in cc)
used s ((m, Acq p n) ∷ older) f legal h =
    let was : IsUsed s older (s.guard f) = used s older f legal.0 h in
    record {
      real = was.real;
      state = elim was.state [
        | inl some ↦ inl some
        | inr held ↦ inr (elim (eqb_tells p.0 (s.guard f)) [
          | inl e ↦ (m, if_same p.0 (s.guard f) (Some m) (holder (s.guard f) older) e.1)
          | inr e ↦ (held.0, if_apart p.0 (s.guard f) (Some m) (holder (s.guard f) older) e.1 ∙ held.1)
        ])
      ];
    }
used s ((m, Rel p n) ∷ older) f legal h = let was : IsUsed s older (s.guard f) = used s older f legal.0 h in record { real = was.real; state = used_freed s older (s.guard f) p.0 n was }
used s ((m, WaitRel p n) ∷ older) f legal h = let was : IsUsed s older (s.guard f) = used s older f legal.0 h in record { real = was.real; state = used_freed s older (s.guard f) p.0 n was }
used s ((m, Put g v w) ∷ older) f legal h = elim (eqb_tells g.0 f) [
  | inl e ↦
      let held : holder (s.guard f) older ≡ Some m = ap (λ (q : ℕ). holder (s.guard q) older) (sym e.1) ∙ legal.1.0 in
      record { real = held_real s older (s.guard f) m legal.0 held; state = inr (m, held) }
  | inr e ↦
      let was : IsUsed s older (s.guard f) = used s older f legal.0 (sym (if_apart g.0 f true (has_store f older) e.1) ∙ h) in
      record { real = was.real; state = was.state }
]

-- a number at which an object is taken is below the last
earlier_low : (v : Option ℕ) (o p k n last : ℕ) → k < last → ((i : ℕ) → v ≡ Some i → i < last) → earlier v (if p == o then Some k else None) ≡ Some n → n < last
earlier_low None o p k n last low was h = elim (p == o) as (λ b. (if b then Some k else None) ≡ Some n → n < last) [
  | true ↦ λ is. (let same : k ≡ n = cc in omega (arith, same, low))
  | false ↦ λ is. absurd (let none : None ≡ Some n = is in cc)
] h
earlier_low (Some i) o p k n last low was h = was n h

taken_low : (s : Setting) (records before : List (ℕ × Record)) (o n : ℕ) → IsLegal s (records ++ before) → first_taken o records ≡ Some n → n < s.last
taken_low s [] before o n legal h = absurd (let none : None ≡ Some n = h in cc)
taken_low s ((l, Acq p k) ∷ older) before o n legal h = earlier_low (first_taken o older) o p.0 k n s.last legal.1.2 (λ i is. taken_low s older before o i legal.0 is) h
taken_low s ((l, Rel p k) ∷ older) before o n legal h = taken_low s older before o n legal.0 h
taken_low s ((l, WaitRel p k) ∷ older) before o n legal h = taken_low s older before o n legal.0 h
taken_low s ((l, Put f v w) ∷ older) before o n legal h = taken_low s older before o n legal.0 h

module _ (s : Setting) (log : List (ℕ × Record)) (next : ℕ → ℕ) (legal : IsLegal s log) (whole : IsWhole (actions log) next) (closed : IsClosed (actions log) next) where
  abbrev since : List (ℕ × Record)
  since = records_since next log

  abbrev gone : List (ℕ × Record)
  gone = records_until next log

  both : IsLegal s (since ++ gone)
  both = rest_after_until s next log legal closed

  gone_legal : IsLegal s gone
  gone_legal = legal_before s since gone both

  -- nothing is held behind the cut
  nobody : (o : ℕ) (v : Option ℕ) → holder o gone ≡ v → holder o gone ≡ None
  nobody o None h = h
  nobody o (Some l) h = absurd (
      let held : In o (holding (lane l (actions gone))) = holds_in s gone o l gone_legal h in
      let none : In o [] = subst (λ (os : List ℕ). In o os) (until_ends next l log (whole l)).0 held in
      none)

  freed : (o : ℕ) → IsUsed s gone o → 1 ≤ number o gone
  freed o was = elim was.state [
    | inl some ↦ some
    | inr held ↦ absurd (let none : None ≡ Some held.0 = sym (nobody o (holder o gone) refl) ∙ held.1 in cc)
  ]

  pub room_before : (f : ℕ) → has_store f gone ≡ true → HasRoomBefore s since (s.guard f)
  room_before f stored =
      let o : ℕ = s.guard f in
      let was : IsUsed s gone o = used s gone f gone_legal stored in
      record {
        within = was.real.object;
        last = was.real.last;
        first = elim (first_at s gone o (nobody o (holder o gone) refl) since both) [
          | inl h ↦ subst (IsPastFirst s.last) (sym h.0) tt
          | inr h ↦ subst (IsPastFirst s.last) (sym h) (freed o was, taken_low s since gone o (number o gone) both h)
        ];
      }

-- the guard of a changed field is the setting's
pub guard_is : (s : Setting) (log : List (ℕ × Record)) (next : ℕ → ℕ) (guards : List ObjectId) (first : List ℕ) (changed : List HomeValue) → AreChanges s log next guards first changed →
    (c : HomeValue) → IsKept s log next c → (guard_of guards c).0 ≡ s.guard c.field.0
guard_is s log next guards first changed are c kept = are.guarded c.field.0 kept.field

-- the number of its guard, by what is told, is the first beyond the cut
pub told_is : (s : Setting) (log : List (ℕ × Record)) (next : ℕ → ℕ) (guards : List ObjectId) (first : List ℕ) (changed : List HomeValue) → AreChanges s log next guards first changed →
    (c : HomeValue) → IsKept s log next c → first_in first (guard_of guards c).0 ≡ first_taken (guard_of guards c).0 (records_since next log)
told_is s log next guards first changed are c kept =
    let room : HasRoomBefore s (records_since next log) (s.guard c.field.0) = room_before s log next are.legal are.whole are.closed c.field.0 kept.stored in
    are.taken (guard_of guards c).0 (subst (λ (o : ℕ). o < s.objects) (sym (guard_is s log next guards first changed are c kept)) room.within)

-- there is room before the first that takes its guard
pub room_is : (s : Setting) (log : List (ℕ × Record)) (next : ℕ → ℕ) (guards : List ObjectId) (first : List ℕ) (changed : List HomeValue) → AreChanges s log next guards first changed →
    (c : HomeValue) → IsKept s log next c → HasRoomBefore s (records_since next log) (guard_of guards c).0
room_is s log next guards first changed are c kept =
    subst (HasRoomBefore s (records_since next log)) (sym (guard_is s log next guards first changed are c kept)) (room_before s log next are.legal are.whole are.closed c.field.0 kept.stored)

before_of : (last : ℕ) (v : Option ℕ) → IsPastFirst last v → HasBefore v
before_of last None h = tt
before_of last (Some n) h = h.0

pub has_number : (s : Setting) (log : List (ℕ × Record)) (next : ℕ → ℕ) (guards : List ObjectId) (first : List ℕ) (changed : List HomeValue) → AreChanges s log next guards first changed →
    (c : HomeValue) → IsKept s log next c → HasNumber guards first c
has_number s log next guards first changed are c kept =
    let room : HasRoomBefore s (records_since next log) (guard_of guards c).0 = room_is s log next guards first changed are c kept in
    subst HasBefore (sym (told_is s log next guards first changed are c kept)) (before_of s.last (first_taken (guard_of guards c).0 (records_since next log)) room.first)
