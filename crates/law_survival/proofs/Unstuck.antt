-- The greedy replay of what a legal list's lanes have past a point where no object was held never ends with records left.
use Rattle.std.proofs.Common.{ℕ, ◌≡◌, ◌+◌, ◌≤◌, ◌⊎◌, ◌==◌, if◌then◌else◌, Bool, true, false, List, [], ◌∷◌, ◌++◌, length, map, Option, Some, None, refl, sym, ap, ◌∙◌, subst, inl, inr, arith, Contains, length-append, append_assoc}
use Rattle.std.specs.Prelude.{slice_get}
use Rattle.std.proofs.lemmas.Bool.{cases_lt}
use Rattle.std.proofs.lemmas.Bool.Decides.{eqb_tells}
use Rattle.std.proofs.lemmas.List.{map-append, append-nil}
use Rattle.heap_model.specs.declared.ids.Lane.{Lane}
use Rattle.heap_model.specs.declared.ids.ObjectId.{ObjectId}
use Rattle.heap_model.specs.declared.record.Record.{Record}
use Rattle.heap_model.specs.declared.record.UndoRecord.{UndoRecord}
use Rattle.heap_model.specs.declared.record.UndoRecord.TheVariants as undo
use Rattle.heap_model.specs.Setting.{Setting}
use Rattle.heap_model.specs.Events.{lane_number}
use Rattle.heap_model.specs.Log.{lane, holder, number, awaited, MayFollow, IsAllowed, IsLegal, IsLaneWisePrefix}
use Rattle.law_cuts.proofs.Lanes.{lane_append}
use Rattle.law_cuts.proofs.Next.{legal_before, number_rises}
use Rattle.law_histories.proofs.NextStore.{awaited_in, awaited_is, next_legal}
use Rattle.recover_logs.specs.Monitors.{MayStore}
use Rattle.recover_logs.specs.Replay as replay
use Rattle.recover_logs.specs.Replay.{BeginsAt, IsNext, GoesOn, IsGreedy, IsReplay, IsStuckAt}
use Rattle.law_survival.proofs.LaneParts.{lane_own, lane_other, lane_map, Found, found, Within, within, there, contains_more, contains_older, ends_with, same_end}
use Rattle.law_survival.proofs.Blank.{blank, blanks, valueless, value_blank}

-- the record's field, if it is a store, is one whose stores logs keep, under the setting's guard
abbrev pub IsGuarded : Setting → (guard : ℕ → Option ObjectId) → UndoRecord → Type 0
IsGuarded s guard (undo.Acq o n) = Unit {0}
IsGuarded s guard (undo.Rel o n) = Unit {0}
IsGuarded s guard (undo.WaitRel o n) = Unit {0}
IsGuarded s guard (undo.Put f before) = guard f.0 ≡ Some (record { 0 = s.guard f.0 })

none_of : (v : Option Lane) → lane_number v ≡ None → v ≡ None
none_of None e = refl
none_of (Some k) e = absurd cc

some_of : (v : Option Lane) (m : ℕ) → lane_number v ≡ Some m → v ≡ Some (record { 0 = m })
some_of None m e = absurd cc
some_of (Some k) m e = let same : k.0 ≡ m = cc in λ i. Some (record { 0 = same i })

-- a lane that awaits an object takes it next, in the replay too
follows_too : (xs : List UndoRecord) (more : List Record) (r : UndoRecord) → MayFollow (awaited_in (map blank xs ++ more)) (blank r) → replay.MayFollow (slice_get xs 0) r
follows_too [] more r h = tt
follows_too (undo.Acq o n ∷ xs) more r h = tt
follows_too (undo.Rel o n ∷ xs) more r h = tt
follows_too (undo.Put f v ∷ xs) more r h = tt
follows_too (undo.WaitRel o n ∷ xs) more (undo.Acq p k) h = λ i. record { 0 = h i }
follows_too (undo.WaitRel o n ∷ xs) more (undo.Rel p k) h = h
follows_too (undo.WaitRel o n ∷ xs) more (undo.WaitRel p k) h = h
follows_too (undo.WaitRel o n ∷ xs) more (undo.Put f v) h = h

-- the earliest record of a list that wasn't done
pub record IsEarliest (all done : List (ℕ × UndoRecord)) (m : ℕ) (r : UndoRecord) : Type 0 where
  pub newer : List (ℕ × UndoRecord)
  pub older : List (ℕ × UndoRecord)
  pub is : all ≡ newer ++ (m, r) ∷ older
  pub before : (l : ℕ) → length (lane l older) ≤ length (lane l done)
  pub own : length (lane m done) ≡ length (lane m older)

pub record Earliest (all done : List (ℕ × UndoRecord)) : Type 0 where
  pub lane_of : ℕ
  pub next : UndoRecord
  pub earliest : IsEarliest all done lane_of next

pub earliest : (all done : List (ℕ × UndoRecord)) → ((l : ℕ) → length (lane l all) ≤ length (lane l done)) ⊎ Earliest all done
earliest [] done = inl (λ l. omega arith)
earliest ((m, r) ∷ older) done = elim (earliest older done) [
  | inr e ↦ inr (record {
    lane_of = e.lane_of;
    next = e.next;
    earliest = record {
      newer = (m, r) ∷ e.earliest.newer;
      older = e.earliest.older;
      is = ap (λ (xs : List (ℕ × UndoRecord)). (m, r) ∷ xs) e.earliest.is;
      before = e.earliest.before;
      own = e.earliest.own;
    };
  })
  | inl all ↦ elim (cases_lt (length (lane m older)) (length (lane m done))) [
    | inl lt ↦ inl (λ l. elim (eqb_tells m l) [
      | inl e ↦ omega (arith, ap (λ (xs : List UndoRecord). length xs) (lane_own l m r older e.1), ap (λ (k : ℕ). length (lane k older)) e.1, ap (λ (k : ℕ). length (lane k done)) e.1, lt)
      | inr e ↦ omega (arith, ap (λ (xs : List UndoRecord). length xs) (lane_other l m r older e.0), all l)
    ])
    | inr le ↦ inr (record {
      lane_of = m;
      next = r;
      earliest = record { newer = []; older = older; is = refl; before = all; own = omega (arith, le, all m) };
    })
  ]
]

module _ (s : Setting) (gone all : List (ℕ × UndoRecord)) (legal : IsLegal (valueless s) (blanks (all ++ gone))) (free : (o : ℕ) → holder o (blanks gone) ≡ None) where
  -- the list of the records done, behind those that are gone
  abbrev after : List (ℕ × UndoRecord) → List (ℕ × Record)
  after done = blanks (done ++ gone)

  abbrev lanes : ℕ → List UndoRecord
  lanes l = lane l all

  after_parts : (newer older : List (ℕ × UndoRecord)) → after (newer ++ older) ≡ blanks newer ++ after older
  after_parts newer older = ap blanks (append_assoc newer older gone) ∙ map-append (λ (x : ℕ × UndoRecord). (x.0, blank x.1)) newer (older ++ gone)

  whole_is : (newer older : List (ℕ × UndoRecord)) → all ≡ newer ++ older → after all ≡ blanks newer ++ after older
  whole_is newer older is = ap after is ∙ after_parts newer older

  legal_here : (newer older : List (ℕ × UndoRecord)) → all ≡ newer ++ older → IsLegal (valueless s) (after older)
  legal_here newer older is = legal_before (valueless s) (blanks newer) (after older) (subst (IsLegal (valueless s)) (whole_is newer older is) legal)

  lane_after : (l : ℕ) (xs : List (ℕ × UndoRecord)) → lane l (after xs) ≡ map blank (lane l xs) ++ map blank (lane l gone)
  lane_after l xs = lane_map blank l (xs ++ gone) ∙ ap (map blank) (lane_append l xs gone) ∙ map-append blank (lane l xs) (lane l gone)

  same_after : (l : ℕ) (xs ys : List (ℕ × UndoRecord)) → lane l xs ≡ lane l ys → lane l (after xs) ≡ lane l (after ys)
  same_after l xs ys e = lane_after l xs ∙ ap (λ (zs : List UndoRecord). map blank zs ++ map blank (lane l gone)) e ∙ sym (lane_after l ys)

  prefix_after : (xs ys : List (ℕ × UndoRecord)) → ((l : ℕ) → (more : List UndoRecord) × (lane l ys ≡ more ++ lane l xs)) → IsLaneWisePrefix (after xs) (after ys)
  prefix_after xs ys h l = (
    map blank (h l).0,
    lane_after l ys ∙ ap (λ (zs : List UndoRecord). map blank zs ++ map blank (lane l gone)) (h l).1
        ∙ ap (λ (zs : List Record). zs ++ map blank (lane l gone)) (map-append blank (h l).0 (lane l xs))
        ∙ append_assoc (map blank (h l).0) (map blank (lane l xs)) (map blank (lane l gone))
        ∙ ap (λ (zs : List Record). map blank (h l).0 ++ zs) (sym (lane_after l xs)),
  )

  -- monitors are as the replay has them
  holder_done : (o : ℕ) (done : List (ℕ × UndoRecord)) → holder o (after done) ≡ lane_number (replay.holder o done)
  holder_done o [] = free o
  holder_done o ((l, undo.Acq p n) ∷ older) = elim (p.0 == o) as (λ b. (if b then Some l else holder o (after older)) ≡ lane_number (if b then Some (record { 0 = l }) else replay.holder o older)) [ true ↦ refl | false ↦ holder_done o older ]
  holder_done o ((l, undo.Rel p n) ∷ older) = elim (p.0 == o) as (λ b. (if b then None else holder o (after older)) ≡ lane_number (if b then None else replay.holder o older)) [ true ↦ refl | false ↦ holder_done o older ]
  holder_done o ((l, undo.WaitRel p n) ∷ older) = elim (p.0 == o) as (λ b. (if b then None else holder o (after older)) ≡ lane_number (if b then None else replay.holder o older)) [ true ↦ refl | false ↦ holder_done o older ]
  holder_done o ((l, undo.Put f before) ∷ older) = holder_done o older

  number_done : (first : ℕ → ℕ) (o : ℕ) → number o (blanks gone) ≡ first o → (done : List (ℕ × UndoRecord)) → number o (after done) ≡ replay.number first o done
  number_done first o begins [] = begins
  number_done first o begins ((l, undo.Acq p n) ∷ older) = number_done first o begins older
  number_done first o begins ((l, undo.Rel p n) ∷ older) = ap (λ (v : ℕ). if p.0 == o then n + 1 else v) (number_done first o begins older)
  number_done first o begins ((l, undo.WaitRel p n) ∷ older) = ap (λ (v : ℕ). if p.0 == o then n + 1 else v) (number_done first o begins older)
  number_done first o begins ((l, undo.Put f before) ∷ older) = number_done first o begins older

  -- numbers don't fall
  number_grown : (o : ℕ) (older : List (ℕ × UndoRecord)) → IsLegal (valueless s) (after older) → number o (blanks gone) ≤ number o (after older)
  number_grown o [] is = omega arith
  number_grown o ((l, r) ∷ older) is = omega (arith, number_grown o older is.0, number_rises (valueless s) l (blank r) (after older) o is)

  -- an object is as it was, or a lane took it at the number that it had
  abbrev Untouched : ℕ → List (ℕ × UndoRecord) → Type 0
  Untouched o older = (holder o (after older) ≡ None) × (number o (after older) ≡ number o (blanks gone))

  abbrev Touched : ObjectId → List (ℕ × UndoRecord) → Type 0
  Touched o older = (l : ℕ) × Contains (lane l older) (undo.Acq o (number o.0 (blanks gone)))

  touched_more : (o : ObjectId) (m : ℕ) (r : UndoRecord) (older : List (ℕ × UndoRecord)) → Touched o older → Touched o ((m, r) ∷ older)
  touched_more o m r older h = (h.0, contains_older h.0 m r older (undo.Acq o (number o.0 (blanks gone))) h.1)

  released : (o : ObjectId) (m p n : ℕ) (older : List (ℕ × UndoRecord)) → holder p (after older) ≡ Some m → Untouched o.0 older →
      ((if p == o.0 then None else holder o.0 (after older)) ≡ None) × ((if p == o.0 then n + 1 else number o.0 (after older)) ≡ number o.0 (blanks gone))
  released o m p n older held h = elim (eqb_tells p o.0) [
    | inl e ↦ absurd (let none : None ≡ Some m = sym h.0 ∙ ap (λ (k : ℕ). holder k (after older)) (sym e.1) ∙ held in cc)
    | inr e ↦ (ap (λ (b : Bool). if b then None else holder o.0 (after older)) e.0 ∙ h.0, ap (λ (b : Bool). if b then n + 1 else number o.0 (after older)) e.0 ∙ h.1)
  ]

  untouched : (o : ObjectId) (older : List (ℕ × UndoRecord)) → IsLegal (valueless s) (after older) → Untouched o.0 older ⊎ Touched o older
  untouched o [] is = inl (free o.0, refl)
  untouched o ((m, undo.Acq p n) ∷ older) is = elim (untouched o older is.0) [
    | inr h ↦ inr (touched_more o m (undo.Acq p n) older h)
    | inl h ↦ elim (eqb_tells p.0 o.0) [
      | inl e ↦
          let object : p ≡ o = λ i. record { 0 = e.1 i } in
          let at : n ≡ number o.0 (blanks gone) = sym is.1.1 ∙ ap (λ (k : ℕ). number k (after older)) e.1 ∙ h.1 in
          inr (
            m,
            subst (λ (xs : List UndoRecord). Contains xs (undo.Acq o (number o.0 (blanks gone)))) (sym (lane_own m m (undo.Acq p n) older refl))
                (subst (λ (x : UndoRecord). Contains (undo.Acq p n ∷ lane m older) x) (λ i. undo.Acq (object i) (at i)) (there [] (lane m older) (undo.Acq p n))),
          )
      | inr e ↦ inl (ap (λ (b : Bool). if b then Some m else holder o.0 (after older)) e.0 ∙ h.0, h.1)
    ]
  ]
  untouched o ((m, undo.Rel p n) ∷ older) is = elim (untouched o older is.0) [
    | inr h ↦ inr (touched_more o m (undo.Rel p n) older h)
    | inl h ↦ inl (released o m p.0 n older is.1.0 h)
  ]
  untouched o ((m, undo.WaitRel p n) ∷ older) is = elim (untouched o older is.0) [
    | inr h ↦ inr (touched_more o m (undo.WaitRel p n) older h)
    | inl h ↦ inl (released o m p.0 n older is.1.0 h)
  ]
  untouched o ((m, undo.Put f v) ∷ older) is = elim (untouched o older is.0) [
    | inr h ↦ inr (touched_more o m (undo.Put f v) older h)
    | inl h ↦ inl h
  ]

  -- where a record of a lane stands in the list
  stands : (m : ℕ) (r : UndoRecord) → Contains (lanes m) r → (newer : List (ℕ × UndoRecord)) × (older : List (ℕ × UndoRecord)) × (all ≡ newer ++ (m, r) ∷ older)
  stands m r h =
      let w : Within (lanes m) r = within (lanes m) r h in
      let f : Found m r all w.rest = found m all w.more w.rest r w.is in
      (f.newer, f.older, f.is)

  -- the replay begins at the numbers that the objects had
  begun : (first : ℕ → ℕ) → BeginsAt lanes first → (m n : ℕ) (o : ObjectId) → Contains (lanes m) (undo.Acq o n) → number o.0 (blanks gone) ≡ first o.0
  begun first begins m n o h =
      let least = begins.taken m n o h in
      let a = stands least.0 (undo.Acq o (first o.0)) least.1 in
      let taken : IsLegal (valueless s) (after ((least.0, undo.Acq o (first o.0)) ∷ a.1)) = legal_here a.0 ((least.0, undo.Acq o (first o.0)) ∷ a.1) a.2 in
      let above : number o.0 (blanks gone) ≤ first o.0 = omega (arith, taken.1.1, number_grown o.0 a.1 taken.0) in
      let b = stands m (undo.Acq o n) h in
      let took : IsLegal (valueless s) (after ((m, undo.Acq o n) ∷ b.1)) = legal_here b.0 ((m, undo.Acq o n) ∷ b.1) b.2 in
      let below : first o.0 ≤ number o.0 (blanks gone) = elim (untouched o b.1 took.0) [
        | inl u ↦ omega (arith, begins.least m n o h, u.1, took.1.1)
        | inr t ↦
            let more : Contains (lane t.0 (b.0 ++ (m, undo.Acq o n) ∷ b.1)) (undo.Acq o (number o.0 (blanks gone))) =
            contains_more t.0 b.0 ((m, undo.Acq o n) ∷ b.1) (undo.Acq o (number o.0 (blanks gone))) (contains_older t.0 m (undo.Acq o n) b.1 (undo.Acq o (number o.0 (blanks gone))) t.1) in
            begins.least t.0 (number o.0 (blanks gone)) o (subst (λ (xs : List (ℕ × UndoRecord)). Contains (lane t.0 xs) (undo.Acq o (number o.0 (blanks gone)))) (sym b.2) more)
      ] in
      omega (arith, above, below)

  -- such numbers are there: those that the objects had
  least_had : (m n : ℕ) (o : ObjectId) → Contains (lanes m) (undo.Acq o n) → number o.0 (blanks gone) ≤ n
  least_had m n o h =
      let b = stands m (undo.Acq o n) h in
      let took : IsLegal (valueless s) (after ((m, undo.Acq o n) ∷ b.1)) = legal_here b.0 ((m, undo.Acq o n) ∷ b.1) b.2 in
      omega (arith, took.1.1, number_grown o.0 b.1 took.0)

  taken_had : (m n : ℕ) (o : ObjectId) → Contains (lanes m) (undo.Acq o n) → (l : ℕ) × Contains (lanes l) (undo.Acq o (number o.0 (blanks gone)))
  taken_had m n o h =
      let b = stands m (undo.Acq o n) h in
      let took : IsLegal (valueless s) (after ((m, undo.Acq o n) ∷ b.1)) = legal_here b.0 ((m, undo.Acq o n) ∷ b.1) b.2 in
      elim (untouched o b.1 took.0) [
        | inl u ↦
            let at : n ≡ number o.0 (blanks gone) = sym took.1.1 ∙ u.1 in
            (m, subst (λ (k : ℕ). Contains (lanes m) (undo.Acq o k)) at h)
        | inr t ↦
            let more : Contains (lane t.0 (b.0 ++ (m, undo.Acq o n) ∷ b.1)) (undo.Acq o (number o.0 (blanks gone))) =
            contains_more t.0 b.0 ((m, undo.Acq o n) ∷ b.1) (undo.Acq o (number o.0 (blanks gone))) (contains_older t.0 m (undo.Acq o n) b.1 (undo.Acq o (number o.0 (blanks gone))) t.1) in
            (t.0, subst (λ (xs : List (ℕ × UndoRecord)). Contains (lane t.0 xs) (undo.Acq o (number o.0 (blanks gone)))) (sym b.2) more)
      ]

  pub begins_had : BeginsAt lanes (λ o. number o (blanks gone))
  begins_had = record { least = least_had; taken = taken_had }

  -- the lane's next record is one of its records
  pub of_lane : (done : List (ℕ × UndoRecord)) (m : ℕ) (r : UndoRecord) → IsNext lanes done m r → Contains (lanes m) r
  of_lane done m r next = subst (λ (xs : List UndoRecord). Contains xs r) (sym next.1) (there next.0 (lane m done) r)

  module _ (guard : ℕ → Option ObjectId) (first : ℕ → ℕ) (begins : BeginsAt lanes first) (guarded : (l : ℕ) (r : UndoRecord) → Contains (lanes l) r → IsGuarded s guard r) where
    -- what a lane holds it took
    begun_held : (o : ℕ) (k : Lane) (done : List (ℕ × UndoRecord)) → IsGreedy guard first lanes done → replay.holder o done ≡ Some k → number o (blanks gone) ≡ first o
    begun_held o k [] greedy h = absurd cc
    begun_held o k ((m, undo.Acq p n) ∷ older) greedy h = elim (eqb_tells p.0 o) [
      | inl e ↦ subst (λ (q : ℕ). number q (blanks gone) ≡ first q) e.1 (begun first begins m n p (of_lane older m (undo.Acq p n) greedy.1.next))
      | inr e ↦ begun_held o k older greedy.0 (subst (λ (b : Bool). (if b then Some (record { 0 = m }) else replay.holder o older) ≡ Some k) e.0 h)
    ]
    begun_held o k ((m, undo.Rel p n) ∷ older) greedy h = elim (eqb_tells p.0 o) [
      | inl e ↦ absurd (let none : None ≡ Some k = subst (λ (b : Bool). (if b then None else replay.holder o older) ≡ Some k) e.0 h in cc)
      | inr e ↦ begun_held o k older greedy.0 (subst (λ (b : Bool). (if b then None else replay.holder o older) ≡ Some k) e.0 h)
    ]
    begun_held o k ((m, undo.WaitRel p n) ∷ older) greedy h = elim (eqb_tells p.0 o) [
      | inl e ↦ absurd (let none : None ≡ Some k = subst (λ (b : Bool). (if b then None else replay.holder o older) ≡ Some k) e.0 h in cc)
      | inr e ↦ begun_held o k older greedy.0 (subst (λ (b : Bool). (if b then None else replay.holder o older) ≡ Some k) e.0 h)
    ]
    begun_held o k ((m, undo.Put f v) ∷ older) greedy h = begun_held o k older greedy.0 h

    -- what was done is a part of each lane
    pub part : (done : List (ℕ × UndoRecord)) → IsGreedy guard first lanes done → (l : ℕ) → (more : List UndoRecord) × (lane l all ≡ more ++ lane l done)
    part [] greedy l = (lane l all, sym (append-nil (lane l all)))
    part ((m, r) ∷ older) greedy l = elim (eqb_tells m l) [
      | inl e ↦ (
        greedy.1.next.0,
        ap (λ (k : ℕ). lane k all) (sym e.1) ∙ greedy.1.next.1
            ∙ ap (λ (ys : List UndoRecord). greedy.1.next.0 ++ ys) (ap (λ (k : ℕ). r ∷ lane k older) e.1 ∙ sym (lane_own l m r older e.1)),
      )
      | inr e ↦ ((part older greedy.0 l).0, (part older greedy.0 l).1 ∙ ap (λ (ys : List UndoRecord). (part older greedy.0 l).0 ++ ys) (sym (lane_other l m r older e.0)))
    ]

    -- what the replay allows is allowed
    allowed : (older others : List (ℕ × UndoRecord)) (m : ℕ) (r : UndoRecord) → IsGreedy guard first lanes older → GoesOn guard first lanes older m r → IsAllowed (valueless s) (after others) m (blank r) → IsAllowed (valueless s) (after older) m (blank r)
    allowed older others m (undo.Acq o n) greedy goes low =
        (holder_done o.0 older ∙ ap lane_number goes.allowed.0, number_done first o.0 (begun first begins m n o (of_lane older m (undo.Acq o n) goes.next)) older ∙ goes.allowed.1, low.2)
    allowed older others m (undo.Rel o n) greedy goes low =
        (holder_done o.0 older ∙ ap lane_number goes.allowed.0, number_done first o.0 (begun_held o.0 (record { 0 = m }) older greedy goes.allowed.0) older ∙ goes.allowed.1)
    allowed older others m (undo.WaitRel o n) greedy goes low =
        (holder_done o.0 older ∙ ap lane_number goes.allowed.0, number_done first o.0 (begun_held o.0 (record { 0 = m }) older greedy goes.allowed.0) older ∙ goes.allowed.1)
    allowed older others m (undo.Put f v) greedy goes low = (
      holder_done (s.guard f.0) older ∙ ap lane_number (subst (λ (w : Option ObjectId). MayStore w older m) (guarded m (undo.Put f v) (of_lane older m (undo.Put f v) goes.next)) goes.allowed),
      value_blank f.0 (older ++ gone),
    )

    -- so the replay makes a legal list
    greedy_legal : (done : List (ℕ × UndoRecord)) → IsGreedy guard first lanes done → IsLegal (valueless s) (after done)
    greedy_legal [] greedy = legal_here all [] (sym (append-nil all))
    greedy_legal ((m, r) ∷ older) greedy =
        let f : Found m r all (lane m older) = found m all greedy.1.next.0 (lane m older) r greedy.1.next.1 in
        let here : IsLegal (valueless s) (after ((m, r) ∷ f.older)) = legal_here f.newer ((m, r) ∷ f.older) f.is in
        let same : awaited m (after f.older) ≡ awaited m (after older) = awaited_is m (after f.older) ∙ ap awaited_in (same_after m f.older older f.own) ∙ sym (awaited_is m (after older)) in (
          greedy_legal older greedy.0,
          allowed older f.older m r greedy.0 greedy.1 here.1,
          subst (λ (v : Option ℕ). MayFollow v (blank r)) same here.2,
          here.3,
        )

    -- and what is allowed the replay allows
    allows : (done : List (ℕ × UndoRecord)) (m : ℕ) (r : UndoRecord) → IsGreedy guard first lanes done → IsNext lanes done m r → IsAllowed (valueless s) (after done) m (blank r) → replay.IsAllowed guard first done m r
    allows done m (undo.Acq o n) greedy next h =
        (none_of (replay.holder o.0 done) (sym (holder_done o.0 done) ∙ h.0), sym (number_done first o.0 (begun first begins m n o (of_lane done m (undo.Acq o n) next)) done) ∙ h.1)
    allows done m (undo.Rel o n) greedy next h =
        let held : replay.holder o.0 done ≡ Some (record { 0 = m }) = some_of (replay.holder o.0 done) m (sym (holder_done o.0 done) ∙ h.0) in
        (held, sym (number_done first o.0 (begun_held o.0 (record { 0 = m }) done greedy held) done) ∙ h.1)
    allows done m (undo.WaitRel o n) greedy next h =
        let held : replay.holder o.0 done ≡ Some (record { 0 = m }) = some_of (replay.holder o.0 done) m (sym (holder_done o.0 done) ∙ h.0) in
        (held, sym (number_done first o.0 (begun_held o.0 (record { 0 = m }) done greedy held) done) ∙ h.1)
    allows done m (undo.Put f v) greedy next h =
        subst (λ (w : Option ObjectId). MayStore w done m) (sym (guarded m (undo.Put f v) (of_lane done m (undo.Put f v) next)))
        (some_of (replay.holder (s.guard f.0) done) m (sym (holder_done (s.guard f.0) done) ∙ h.0))

    -- the earliest record that is left can go on
    pub goes_on : (done : List (ℕ × UndoRecord)) (m : ℕ) (r : UndoRecord) → IsGreedy guard first lanes done → IsEarliest all done m r → GoesOn guard first lanes done m r
    goes_on done m r greedy e =
        let p = part done greedy in
        let split : (l : ℕ) → lane l all ≡ lane l (e.newer ++ (m, r) ∷ []) ++ lane l e.older =
        (λ l. ap (lane l) (e.is ∙ sym (append_assoc e.newer ((m, r) ∷ []) e.older)) ∙ lane_append l (e.newer ++ (m, r) ∷ []) e.older) in
        let own : lane m done ≡ lane m e.older = same_end (p m).0 (lane m done) (lane m (e.newer ++ (m, r) ∷ [])) (lane m e.older) (sym (p m).1 ∙ split m) e.own in
        let above : IsLaneWisePrefix (after e.older) (after done) =
        prefix_after e.older done (λ l. ends_with (lane l (e.newer ++ (m, r) ∷ [])) (lane l e.older) (p l).0 (lane l done) (sym (split l) ∙ (p l).1) (e.before l)) in
        let below : IsLaneWisePrefix (after done) (after all) = prefix_after done all p in
        let whole : after all ≡ blanks e.newer ++ (m, blank r) ∷ after e.older = whole_is e.newer ((m, r) ∷ e.older) e.is in
        let next_is : IsLegal (valueless s) ((m, blank r) ∷ after done) = next_legal (valueless s) (blanks e.newer) (after e.older) (after done) m (blank r)
        (subst (IsLegal (valueless s)) whole legal) (greedy_legal done greedy) (subst (IsLaneWisePrefix (after done)) whole below) above (same_after m done e.older own) in
        let next : IsNext lanes done m r = (
          lane m e.newer,
          ap (lane m) e.is ∙ lane_append m e.newer ((m, r) ∷ e.older) ∙ ap (λ (ys : List UndoRecord). lane m e.newer ++ ys) (lane_own m m r e.older refl ∙ ap (λ (ys : List UndoRecord). r ∷ ys) (sym own)),
        ) in
        record {
          next = next;
          follows = follows_too (lane m done) (map blank (lane m gone)) r (subst (λ (v : Option ℕ). MayFollow v (blank r)) (awaited_is m (after done) ∙ ap awaited_in (lane_after m done)) next_is.2);
          allowed = allows done m r greedy next next_is.1;
        }

  -- a replay at its end has nothing left
  all_done : (guard : ℕ → Option ObjectId) (done : List (ℕ × UndoRecord)) → ((l : ℕ) (r : UndoRecord) → Contains (lanes l) r → IsGuarded s guard r) → IsReplay guard lanes done → (l : ℕ) → length (lane l all) ≤ length (lane l done)
  all_done guard done guarded is = elim (earliest all done) [
    | inl h ↦ h
    | inr e ↦ absurd (is.ended e.lane_of e.next (goes_on guard is.first is.begins guarded done e.lane_of e.next is.greedy e.earliest))
  ]

  pub unstuck : (guard : ℕ → Option ObjectId) (l count : ℕ) → ((l : ℕ) (r : UndoRecord) → Contains (lanes l) r → IsGuarded s guard r) → IsStuckAt guard lanes l count → ⊥
  unstuck guard l count guarded stuck =
      let next : IsNext lanes stuck.done l stuck.left.0 = stuck.left.1 in
      omega (
        arith,
        all_done guard stuck.done guarded stuck.replay l,
        ap (λ (xs : List UndoRecord). length xs) next.1,
        length-append next.0 (stuck.left.0 ∷ lane l stuck.done),
      )
