-- The walk through a replay, step by step.
use Rattle.std.proofs.Common.{ℕ, ◌≡◌, ◌+◌, ◌<◌, ◌≤◌, ◌==◌, if◌then◌else◌, ◌⊎◌, Bool, true, false, not, List, [], ◌∷◌, length, take, reverse, length-take, refl, sym, ap, ◌∙◌, subst, inl, inr, arith, Option, Some, None, slice_index, slice_set, get_or-set_same, get_or-set_other}
use Rattle.std.specs.Prelude.{nat_le, nat_lt, slice_index_or, MatchOption}
use Rattle.std.proofs.lemmas.Bool.{cases_lt, eq-eqb, lt-ltb, le-ltb, le-leb, lt-leb, ltb-true}
use Rattle.std.proofs.lemmas.Bool.Decides.{eqb_tells}
use Rattle.std.proofs.lemmas.List.{length-map, length-reverse}
use Rattle.heap_model.specs.Log.{lane}
use Rattle.heap_model.specs.declared.ids.Lane.{Lane}
use Rattle.heap_model.specs.declared.record.UndoRecord.{UndoRecord}
use Rattle.heap_model.specs.declared.record.UndoRecord.TheVariants.{Acq, Rel, WaitRel, Put}
use Rattle.recover_logs.specs.Limits.{IsInRange}
use Rattle.recover_logs.specs.declared.crossings.LanePlace.{LanePlace}
use Rattle.recover_logs.specs.declared.crossings.Crossings.{Crossings}
use Rattle.recover_logs.specs.declared.step.Step.{Step}
use Rattle.recover_logs.specs.Tables.{log_of}
use Rattle.recover_logs.specs.Crossings.{freed_late, IsCrossing, Crosses, IsLeastCrossing, late_after, IsCrossingBy, lesser, AreCrossings}

not_less : (a b : ℕ) → not (nat_lt a b) ≡ nat_le b a
not_less a b = elim (cases_lt a b) [
  | inl lt ↦ ap not (lt-ltb a b lt) ∙ sym (lt-leb b a lt)
  | inr le ↦ ap not (le-ltb a b le) ∙ sym (le-leb b a le)
]

-- which releases are late, with one more record
late_set : (late : List Bool) (p o : ℕ) (now was : Bool) → length late ≡ 4096 → p < 4096 → slice_index_or late o false ≡ was → slice_index_or (slice_set late p now) o false ≡ (if p == o then now else was)
late_set late p o now was long low is = elim (eqb_tells p o) [
  | inl e ↦ subst (λ (b : Bool). slice_index_or (slice_set late p now) o false ≡ (if b then now else was)) (sym e.0)
      (ap (λ (k : ℕ). slice_index_or (slice_set late p now) k false) (sym e.1) ∙ get_or-set_same late p now false (omega arith))
  | inr e ↦ subst (λ (b : Bool). slice_index_or (slice_set late p now) o false ≡ (if b then now else was)) (sym e.0)
      (get_or-set_other late p o now false (λ same. e.1 (sym same)) ∙ is)
]

late_more : (settled : ℕ → ℕ) (done : List (ℕ × UndoRecord)) (late : List Bool) (l o : ℕ) (r : UndoRecord) → length late ≡ 4096 → IsInRange r → slice_index_or late o false ≡ freed_late settled o done →
    slice_index_or (late_after late r (nat_lt (length (lane l done)) (settled l))) o false ≡ freed_late settled o ((l, r) ∷ done)
late_more settled done late l o (Acq p n) long range is = is
late_more settled done late l o (Rel p n) long range is =
    late_set late p.0 o (not (nat_lt (length (lane l done)) (settled l))) (freed_late settled o done) long range.0 is
    ∙ ap (λ (b : Bool). if p.0 == o then b else freed_late settled o done) (not_less (length (lane l done)) (settled l))
late_more settled done late l o (WaitRel p n) long range is =
    late_set late p.0 o (not (nat_lt (length (lane l done)) (settled l))) (freed_late settled o done) long range.0 is
    ∙ ap (λ (b : Bool). if p.0 == o then b else freed_late settled o done) (not_less (length (lane l done)) (settled l))
late_more settled done late l o (Put f v) long range is = is

-- what is found by the tables
decided : (late : List Bool) (r : UndoRecord) (s : Bool) → IsCrossingBy late r s ⊎ (IsCrossingBy late r s → ⊥)
decided late (Acq p n) false = inr (λ h. let no : false ≡ true = h.0 in cc)
decided late (Acq p n) true = look (slice_index_or late p.0 false) refl
  where
    look : (b : Bool) → slice_index_or late p.0 false ≡ b → IsCrossingBy late (Acq p n) true ⊎ (IsCrossingBy late (Acq p n) true → ⊥)
    look true is = inl (refl, is)
    look false is = inr (λ h. let no : false ≡ true = sym is ∙ h.1 in cc)
decided late (Rel p n) s = inr (λ h. h)
decided late (WaitRel p n) s = inr (λ h. h)
decided late (Put f v) s = inr (λ h. h)

found_is : (settled : ℕ → ℕ) (done : List (ℕ × UndoRecord)) (late : List Bool) (l : ℕ) (r : UndoRecord) → IsInRange r → ((o : ℕ) → o < 4096 → slice_index_or late o false ≡ freed_late settled o done) →
    IsCrossingBy late r (nat_lt (length (lane l done)) (settled l)) → IsCrossing settled done l r
found_is settled done late l (Acq p n) range is h = (ltb-true (length (lane l done)) (settled l) h.0, sym (is p.0 range.0) ∙ h.1)
found_is settled done late l (Rel p n) range is h = h
found_is settled done late l (WaitRel p n) range is h = h
found_is settled done late l (Put f v) range is h = h

is_found : (settled : ℕ → ℕ) (done : List (ℕ × UndoRecord)) (late : List Bool) (l : ℕ) (r : UndoRecord) → IsInRange r → ((o : ℕ) → o < 4096 → slice_index_or late o false ≡ freed_late settled o done) →
    IsCrossing settled done l r → IsCrossingBy late r (nat_lt (length (lane l done)) (settled l))
is_found settled done late l (Acq p n) range is h = (lt-ltb (length (lane l done)) (settled l) h.0, is p.0 range.0 ∙ h.1)
is_found settled done late l (Rel p n) range is h = h
is_found settled done late l (WaitRel p n) range is h = h
is_found settled done late l (Put f v) range is h = h

-- a place that was found is one of the lane's
longer : (l m : ℕ) (x : UndoRecord) (older : List (ℕ × UndoRecord)) → length (lane l older) ≤ length (lane l ((m, x) ∷ older))
longer l m x older = elim (m == l) as (λ t. length (lane l older) ≤ length (if t then x ∷ lane l older else lane l older)) [ true ↦ omega arith | false ↦ omega arith ]

crosses_low : (settled : ℕ → ℕ) (done : List (ℕ × UndoRecord)) (l i : ℕ) → Crosses settled done l i → i < length (lane l done)
crosses_low settled [] l i h = absurd h
crosses_low settled ((m, x) ∷ older) l i h = elim h [
  | inl top ↦ subst (λ (t : Bool). i < length (if t then x ∷ lane l older else lane l older)) (sym (eq-eqb m l top.0)) (omega (arith, top.1))
  | inr rest ↦ omega (arith, crosses_low settled older l i rest, longer l m x older)
]

-- the least with one more that was found
least_with : (settled : ℕ → ℕ) (done : List (ℕ × UndoRecord)) (l : Lane) (r : UndoRecord) (least : Option LanePlace) → IsCrossing settled done l.0 r →
    MatchOption least ((m j : ℕ) → Crosses settled done m j → ⊥) (λ p. IsLeastCrossing settled done p.lane.0 p.place) →
    (let found : LanePlace = record { lane = l; place = length (lane l.0 done) } in IsLeastCrossing settled ((l.0, r) ∷ done) (lesser least found).lane.0 (lesser least found).place)
least_with settled done l r None is before = record {
  crosses = inl (refl, refl, is);
  least = λ m j h. elim h [
    | inl top ↦ inr (top.0, let same : length (lane l.0 done) ≡ length (lane m done) = ap (λ (k : ℕ). length (lane k done)) top.0 in omega (arith, top.1))
    | inr rest ↦ absurd (before m j rest)
  ];
}
least_with settled done l r (Some p) is before =
    let found : LanePlace = record { lane = l; place = length (lane l.0 done) } in
    elim (cases_lt l.0 p.lane.0) [
      | inl lt ↦ subst (λ (b : Bool). (let now : LanePlace = (if b then found else p) in IsLeastCrossing settled ((l.0, r) ∷ done) now.lane.0 now.place)) (sym (lt-ltb l.0 p.lane.0 lt)) (record {
        crosses = inl (refl, refl, is);
        least = λ m j h. elim h [
          | inl top ↦ inr (top.0, let same : length (lane l.0 done) ≡ length (lane m done) = ap (λ (k : ℕ). length (lane k done)) top.0 in omega (arith, top.1))
          | inr rest ↦ elim (before.least m j rest) [ inl less ↦ inl (omega arith) | inr same ↦ inl (omega (arith, same.0)) ]
        ];
      })
      | inr le ↦ subst (λ (b : Bool). (let now : LanePlace = (if b then found else p) in IsLeastCrossing settled ((l.0, r) ∷ done) now.lane.0 now.place)) (sym (le-ltb l.0 p.lane.0 le)) (record {
        crosses = inr before.crosses;
        least = λ m j h. elim h [
          | inl top ↦ elim (cases_lt p.lane.0 m) [
            | inl less ↦ inl less
            | inr ge ↦
                let same : p.lane.0 ≡ m = omega (arith, top.0) in
                inr (same, let low : p.place < length (lane m done) = subst (λ (k : ℕ). p.place < length (lane k done)) same (crosses_low settled done p.lane.0 p.place before.crosses) in omega (arith, top.1))
          ]
          | inr rest ↦ before.least m j rest
        ];
      })
    ]

least_without : (settled : ℕ → ℕ) (done : List (ℕ × UndoRecord)) (l : ℕ) (r : UndoRecord) (least : Option LanePlace) → (IsCrossing settled done l r → ⊥) →
    MatchOption least ((m j : ℕ) → Crosses settled done m j → ⊥) (λ p. IsLeastCrossing settled done p.lane.0 p.place) →
    MatchOption least ((m j : ℕ) → Crosses settled ((l, r) ∷ done) m j → ⊥) (λ p. IsLeastCrossing settled ((l, r) ∷ done) p.lane.0 p.place)
least_without settled done l r None not_one before = λ m j h. elim h [ inl top ↦ not_one top.2 | inr rest ↦ before m j rest ]
least_without settled done l r (Some p) not_one before = record {
  crosses = inr before.crosses;
  least = λ m j h. elim h [ inl top ↦ absurd (not_one top.2) | inr rest ↦ before.least m j rest ];
}

pub places_more : (places : List ℕ) (done : List (ℕ × UndoRecord)) (l m : ℕ) (r : UndoRecord) → length places ≡ 32 → l < 32 → ((k : ℕ) → slice_index places k ≡ length (lane k done)) →
    slice_index (slice_set places l (slice_index places l + 1)) m ≡ length (lane m ((l, r) ∷ done))
places_more places done l m r long low is = elim (eqb_tells l m) [
  | inl e ↦ subst (λ (t : Bool). slice_index (slice_set places l (slice_index places l + 1)) m ≡ length (if t then r ∷ lane m done else lane m done)) (sym e.0)
      (ap (slice_index (slice_set places l (slice_index places l + 1))) (sym e.1) ∙ get_or-set_same places l (slice_index places l + 1) 0 (omega arith)
      ∙ ap (λ (k : ℕ). k + 1) (ap (slice_index places) e.1 ∙ is m) ∙ omega arith)
  | inr e ↦ subst (λ (t : Bool). slice_index (slice_set places l (slice_index places l + 1)) m ≡ length (if t then r ∷ lane m done else lane m done)) (sym e.0)
      (get_or-set_other places l m (slice_index places l + 1) 0 (λ same. e.1 (sym same)) ∙ is m)
]

lane_short : (l : ℕ) (done : List (ℕ × UndoRecord)) → length (lane l done) ≤ length done
lane_short l [] = omega arith
lane_short l ((m, x) ∷ older) = elim (m == l) as (λ t. length (if t then x ∷ lane l older else lane l older) ≤ length ((m, x) ∷ older)) [ true ↦ omega (arith, lane_short l older) | false ↦ omega (arith, lane_short l older) ]

-- a lane has no more records than there are steps
pub few_places : (steps : List Step) (i l : ℕ) → i ≤ length steps → length (lane l (log_of (take i steps))) ≤ i
few_places steps i l le = omega (arith, lane_short l (log_of (take i steps)), length-map {A = Step} {B = ℕ × UndoRecord} (reverse (take i steps)) (λ (s : Step). (s.lane.0, s.entry)), length-reverse (take i steps), length-take i steps)

pub walk_begins : (settled : ℕ → ℕ) (c : Crossings) → ((l : ℕ) → slice_index c.places l ≡ 0) → ((o : ℕ) → slice_index_or c.late o false ≡ false) → c.least ≡ None → AreCrossings settled [] c
walk_begins settled c places late least = record {
  places = places;
  late = λ o lt. late o;
  least = subst (λ (o : Option LanePlace). MatchOption o ((m j : ℕ) → Crosses settled [] m j → ⊥) (λ p. IsLeastCrossing settled [] p.lane.0 p.place)) (sym least) (λ m j h. h);
}

-- what the walk knows after one more record
pub walk_more : (settled : ℕ → ℕ) (done : List (ℕ × UndoRecord)) (c d : Crossings) (l : Lane) (r : UndoRecord) (s : Bool) → l.0 < 32 → IsInRange r → AreCrossings settled done c → s ≡ nat_lt (slice_index c.places l.0) (settled l.0) →
    d.places ≡ slice_set c.places l.0 (slice_index c.places l.0 + 1) → d.late ≡ late_after c.late r s →
    (IsCrossingBy c.late r s → d.least ≡ Some (lesser c.least (record { lane = l; place = slice_index c.places l.0 }))) → ((IsCrossingBy c.late r s → ⊥) → d.least ≡ c.least) → AreCrossings settled ((l.0, r) ∷ done) d
walk_more settled done c d l r s low range are is places late found none =
    let at : slice_index c.places l.0 ≡ length (lane l.0 done) = are.places l.0 in
    let settled_now : s ≡ nat_lt (length (lane l.0 done)) (settled l.0) = is ∙ ap (λ (k : ℕ). nat_lt k (settled l.0)) at in
    record {
      places = λ m. ap (λ (xs : List ℕ). slice_index xs m) places ∙ places_more c.places done l.0 m r c.all_places low are.places;
      late = λ o lt. ap (λ (xs : List Bool). slice_index_or xs o false) (late ∙ ap (late_after c.late r) settled_now) ∙ late_more settled done c.late l.0 o r c.all_late range (are.late o lt);
      least = elim (decided c.late r s) [
        | inl found_one ↦
            let crossing : IsCrossing settled done l.0 r = found_is settled done c.late l.0 r range are.late (subst (IsCrossingBy c.late r) settled_now found_one) in
            let now : d.least ≡ Some (lesser c.least (record { lane = l; place = length (lane l.0 done) })) = found found_one ∙ ap (λ (k : ℕ). Some (lesser c.least (record { lane = l; place = k }))) at in
            subst (λ (o : Option LanePlace). MatchOption o ((m j : ℕ) → Crosses settled ((l.0, r) ∷ done) m j → ⊥) (λ p. IsLeastCrossing settled ((l.0, r) ∷ done) p.lane.0 p.place)) (sym now)
            (least_with settled done l r c.least crossing are.least)
        | inr found_none ↦
            subst (λ (o : Option LanePlace). MatchOption o ((m j : ℕ) → Crosses settled ((l.0, r) ∷ done) m j → ⊥) (λ p. IsLeastCrossing settled ((l.0, r) ∷ done) p.lane.0 p.place)) (sym (none found_none))
            (least_without settled done l.0 r c.least (λ h. found_none (subst (IsCrossingBy c.late r) (sym settled_now) (is_found settled done c.late l.0 r range are.late h))) are.least)
      ];
    }
