-- The greedy replay, step by step.
use Rattle.std.proofs.Common.{ℕ, zero, suc, ◌≡◌, ◌≢◌, ◌+◌, ◌-◌, ◌<◌, ◌≤◌, if◌then◌else◌, ◌++◌, Bool, List, [], ◌∷◌, length, map, get_or, take, drop, refl, sym, ap, ◌∙◌, subst, inl, inr, arith, Option, Some, Contains, replicate, slice_index, length-append, length-drop}
use Rattle.std.specs.Prelude.{slice_get, All}
use Rattle.std.proofs.lemmas.Bool.{cases_eq, cases_lt}
use Rattle.std.proofs.lemmas.Bool.Decides.{eqb_tells}
use Rattle.std.proofs.lemmas.List.{take-append-drop, reverse-append}
use Rattle.std.proofs.lemmas.List.Elements.{All-contains}
use Rattle.std.proofs.lemmas.Option.{slice_get_within, get_or_from_slice_get, slice_get-get_or}
use Rattle.heap_model.specs.Log.{lane}
use Rattle.heap_model.specs.declared.ids.ObjectId.{ObjectId}
use Rattle.recover_logs.specs.Limits.{IsOfObjects}
use Rattle.recover_logs.specs.Monitors.{AreMonitors}
use Rattle.recover_logs.specs.declared.monitors.Monitors.{Monitors}
use Rattle.recover_logs.proofs.MonitorLemmas.{allowed_by, by_allowed}
use Rattle.heap_model.specs.declared.record.UndoRecord.{UndoRecord}
use Rattle.heap_model.specs.declared.record.UndoRecord.TheVariants.{Put}
use Rattle.recover_logs.specs.declared.step.Step.{Step}
use Rattle.recover_logs.specs.Replay.{BeginsAt, MayFollow, IsNext, GoesOn, IsReplay, IsDone}
use Rattle.recover_logs.specs.Tables.{GoesOnBy, IsLeastBy, AreLeft, IsMidway, log_of}

-- a list from a place on
get_drop : {A : Type 0} (xs : List A) (n : ℕ) → slice_get (drop n xs) 0 ≡ slice_get xs n
get_drop [] zero = refl
get_drop [] (suc n) = refl
get_drop (x ∷ xs) zero = refl
get_drop (x ∷ xs) (suc n) = get_drop xs n

drop_at : {A : Type 0} (xs : List A) (k : ℕ) (r : A) → slice_get xs k ≡ Some r → drop k xs ≡ r ∷ drop (k + 1) xs
drop_at [] k r is = absurd cc
drop_at (x ∷ xs) zero r is = let e : x ≡ r = cc in ap (λ y. y ∷ xs) e
drop_at (x ∷ xs) (suc k) r is = let e : suc k + 1 ≡ suc (k + 1) = omega arith in rw e (drop_at xs k r is)

get_behind : {A : Type 0} (later : List A) (r : A) (rest : List A) → slice_get (later ++ r ∷ rest) (length later) ≡ Some r
get_behind [] r rest = refl
get_behind (x ∷ later) r rest = get_behind later r rest

-- what comes right before a part at the end
front_of : {A : Type 0} (xs later : List A) (r : A) (rest : List A) (n : ℕ) → n ≤ length xs → rest ≡ drop n xs → xs ≡ later ++ r ∷ rest → (0 < n) × (slice_get xs (n - 1) ≡ Some r)
front_of {A} xs later r rest n le is whole =
    let long : length xs ≡ length later + (1 + length rest) = ap length whole ∙ length-append later (r ∷ rest) ∙ omega arith in
    let short : length rest ≡ length xs - n = ap length is ∙ omega (arith, length-drop n xs) in
    let at : length later ≡ n - 1 = omega arith in
    (omega arith, ap (λ (ys : List A). slice_get ys (n - 1)) whole ∙ ap (slice_get (later ++ r ∷ rest)) (sym at) ∙ get_behind later r rest)

-- an element that is at a place is contained
pub is_there : {A : Type 0} (xs : List A) (k : ℕ) (r : A) → slice_get xs k ≡ Some r → Contains xs r
is_there xs k r is = (k, slice_get_within xs k r is, get_or_from_slice_get xs k r r is)

contains_behind : {A : Type 0} (later : List A) (r : A) (rest : List A) → Contains (later ++ r ∷ rest) r
contains_behind later r rest = is_there (later ++ r ∷ rest) (length later) r (get_behind later r rest)

-- a lane that can go on by the tables can go on, and the other way round
pub goes_on : (guard : ℕ → Option ObjectId) (first : ℕ → ℕ) (lanes : ℕ → List UndoRecord) (done : List (ℕ × UndoRecord)) (t : Monitors) (left : ℕ → ℕ) (l : ℕ) (r : UndoRecord) → IsMidway guard first lanes done t left →
    All (IsOfObjects guard 4096) (lanes l) → GoesOnBy guard t (lanes l) (left l) l r → GoesOn guard first lanes done l r
goes_on guard first lanes done t left l r midway named h =
    let xs : List UndoRecord = lanes l in
    let same : drop (left l - 1 + 1) xs ≡ lane l done = ap (λ (k : ℕ). drop k xs) (let e : left l - 1 + 1 ≡ left l = omega (arith, h.some) in e) ∙ sym (midway.rest.rest l) in
    record {
      next = (take (left l - 1) xs, sym (take-append-drop (left l - 1) xs) ∙ ap (λ (ys : List UndoRecord). take (left l - 1) xs ++ ys) (drop_at xs (left l - 1) r h.next ∙ ap (λ (ys : List UndoRecord). r ∷ ys) same));
      follows = subst (λ (o : Option UndoRecord). MayFollow o r) (sym (get_drop xs (left l)) ∙ ap (λ (ys : List UndoRecord). slice_get ys 0) (sym (midway.rest.rest l))) h.follows;
      allowed = allowed_by guard first done t l r (All-contains (IsOfObjects guard 4096) xs r named (is_there xs (left l - 1) r h.next)) midway.monitors h.allowed;
    }

pub by_goes_on : (guard : ℕ → Option ObjectId) (first : ℕ → ℕ) (lanes : ℕ → List UndoRecord) (done : List (ℕ × UndoRecord)) (t : Monitors) (left : ℕ → ℕ) (l : ℕ) (r : UndoRecord) → IsMidway guard first lanes done t left →
    All (IsOfObjects guard 4096) (lanes l) → GoesOn guard first lanes done l r → GoesOnBy guard t (lanes l) (left l) l r
by_goes_on guard first lanes done t left l r midway named h =
    let xs : List UndoRecord = lanes l in
    let front = front_of xs h.next.0 r (lane l done) (left l) (midway.rest.within l) (midway.rest.rest l) h.next.1 in
    record {
      some = front.0;
      next = front.1;
      follows = subst (λ (o : Option UndoRecord). MayFollow o r) (ap (λ (ys : List UndoRecord). slice_get ys 0) (midway.rest.rest l) ∙ get_drop xs (left l)) h.follows;
      allowed = by_allowed guard first done t l r (All-contains (IsOfObjects guard 4096) xs r named (subst (λ (ys : List UndoRecord). Contains ys r) (sym h.next.1) (contains_behind h.next.0 r (lane l done)))) midway.monitors h.allowed;
    }

-- how many records are left after one more
left_after : (lanes : ℕ → List UndoRecord) (done : List (ℕ × UndoRecord)) (left now : ℕ → ℕ) (l : ℕ) (r : UndoRecord) → AreLeft lanes done left → 0 < left l → slice_get (lanes l) (left l - 1) ≡ Some r →
    now l ≡ left l - 1 → ((m : ℕ) → m ≢ l → now m ≡ left m) → AreLeft lanes ((l, r) ∷ done) now
left_after lanes done left now l r are some next here others = record {
  within = λ m. elim (cases_eq m l) [
    | inl e ↦ subst (λ (k : ℕ). now k ≤ length (lanes k)) (sym e) (omega (arith, here, are.within l))
    | inr ne ↦ omega (arith, others m ne, are.within m)
  ];
  rest = λ m. elim (eqb_tells l m) [
    | inl e ↦ subst (λ (b : Bool). (if b then r ∷ lane m done else lane m done) ≡ drop (now m) (lanes m)) (sym e.0)
        (subst (λ (k : ℕ). (let xs : List UndoRecord = r ∷ lane k done in xs ≡ drop (now k) (lanes k))) e.1
        (let back : left l - 1 + 1 ≡ left l = omega (arith, some) in
        ap (λ (ys : List UndoRecord). r ∷ ys) (are.rest l ∙ ap (λ (k : ℕ). drop k (lanes l)) (sym back)) ∙ sym (drop_at (lanes l) (left l - 1) r next) ∙ ap (λ (k : ℕ). drop k (lanes l)) (sym here)))
    | inr e ↦ subst (λ (b : Bool). (if b then r ∷ lane m done else lane m done) ≡ drop (now m) (lanes m)) (sym e.0)
        (are.rest m ∙ ap (λ (k : ℕ). drop k (lanes m)) (sym (others m (λ same. e.1 (sym same)))))
  ];
}

-- the replay goes on by one step
pub midway_after : (guard : ℕ → Option ObjectId) (first : ℕ → ℕ) (lanes : ℕ → List UndoRecord) (done : List (ℕ × UndoRecord)) (t u : Monitors) (left now : ℕ → ℕ) (limit l : ℕ) (r : UndoRecord) →
    ((m : ℕ) → All (IsOfObjects guard 4096) (lanes m)) → IsMidway guard first lanes done t left → IsLeastBy guard t lanes left limit l r →
    AreMonitors first ((l, r) ∷ done) u → now l ≡ left l - 1 → ((m : ℕ) → m ≢ l → now m ≡ left m) → IsMidway guard first lanes ((l, r) ∷ done) u now
midway_after guard first lanes done t u left now limit l r named midway least noted here others = record {
  greedy = (midway.greedy, goes_on guard first lanes done t left l r midway (named l) least.goes, λ m next lt goes. least.least m next lt (by_goes_on guard first lanes done t left m next midway (named m) goes));
  monitors = noted;
  rest = left_after lanes done left now l r midway.rest least.goes.some least.goes.next here others;
}

-- the replay at its end
pub replay_ends : (guard : ℕ → Option ObjectId) (first : ℕ → ℕ) (lanes : ℕ → List UndoRecord) (done : List (ℕ × UndoRecord)) (t : Monitors) (left : ℕ → ℕ) (limit : ℕ) → BeginsAt lanes first → ((m : ℕ) → All (IsOfObjects guard 4096) (lanes m)) →
    ((m : ℕ) → limit ≤ m → lanes m ≡ []) → IsMidway guard first lanes done t left → ((l : ℕ) (r : UndoRecord) → l < limit → GoesOnBy guard t (lanes l) (left l) l r → ⊥) → IsReplay guard lanes done
replay_ends guard first lanes done t left limit begins named past midway none = record {
  first = first;
  begins = begins;
  greedy = midway.greedy;
  ended = λ l r goes.
      let by = by_goes_on guard first lanes done t left l r midway (named l) goes in
      elim (cases_lt l limit) [
        | inl lt ↦ none l r lt by
        | inr le ↦ absurd (let some : left l ≤ 0 = omega (arith, midway.rest.within l, ap length (past l le)) in omega (arith, by.some))
      ];
}

-- a lane with nothing left is done
pub is_done : (guard : ℕ → Option ObjectId) (first : ℕ → ℕ) (lanes : ℕ → List UndoRecord) (done : List (ℕ × UndoRecord)) (t : Monitors) (left : ℕ → ℕ) (l : ℕ) → IsMidway guard first lanes done t left → left l ≡ 0 → IsDone lanes done l
is_done guard first lanes done t left l midway none = sym (midway.rest.rest l ∙ ap (λ (k : ℕ). drop k (lanes l)) none)

-- a lane with something left has a next record
pub has_next : (guard : ℕ → Option ObjectId) (first : ℕ → ℕ) (lanes : ℕ → List UndoRecord) (done : List (ℕ × UndoRecord)) (t : Monitors) (left : ℕ → ℕ) (l : ℕ) → IsMidway guard first lanes done t left → 0 < left l →
    ((r : UndoRecord) × IsNext lanes done l r) × (length (lane l done) ≡ length (lanes l) - left l)
has_next guard first lanes done t left l midway some =
    let xs : List UndoRecord = lanes l in
    let r : UndoRecord = get_or xs (left l - 1) (Put (record { 0 = 0 }) 0) in
    let back : left l - 1 + 1 ≡ left l = omega (arith, some) in
    let is : slice_get xs (left l - 1) ≡ Some r = slice_get-get_or xs (left l - 1) (Put (record { 0 = 0 }) 0) (omega (arith, some, midway.rest.within l)) in (
      (r, (take (left l - 1) xs, sym (take-append-drop (left l - 1) xs) ∙ ap (λ (ys : List UndoRecord). take (left l - 1) xs ++ ys) (drop_at xs (left l - 1) r is ∙ ap (λ (ys : List UndoRecord). r ∷ ys) (ap (λ (k : ℕ). drop k xs) back ∙ sym (midway.rest.rest l))))),
      ap length (midway.rest.rest l) ∙ omega (arith, length-drop (left l) xs),
    )

-- the log after one more step
pub log_more : (steps : List Step) (next : Step) → log_of (steps ++ next ∷ []) ≡ (next.lane.0, next.entry) ∷ log_of steps
log_more steps next = ap (map (λ (s : Step). (s.lane.0, s.entry))) (reverse-append steps (next ∷ []))

pub zeros : (n m : ℕ) → slice_index (replicate n 0) m ≡ 0
zeros zero m = refl
zeros (suc n) zero = refl
zeros (suc n) (suc m) = zeros n m
