-- The objects' numbers at first.
use Rattle.std.proofs.Common.{ℕ, zero, suc, ◌≡◌, ◌≢◌, ◌+◌, ◌-◌, ◌<◌, ◌≤◌, ◌++◌, ◌⊎◌, min, List, [], ◌∷◌, length, get_or, reverse, replicate, refl, sym, ap, ◌∙◌, subst, inl, inr, arith, Contains, slice_index, slice_set, get_or-set_same, get_or-set_other, Vec, Global}
use Rattle.std.specs.Prelude.{All}
use Rattle.std.proofs.lemmas.Bool.{cases_eq, cases_lt}
use Rattle.std.proofs.lemmas.List.{length-reverse, get_or-reverse, reverse-reverse, get_or-replicate, length-replicate, length-set}
use Rattle.std.proofs.lemmas.List.Elements.{All-contains, Contains-append_cases, Contains-append_left, Contains-append_right}
use Rattle.heap_model.specs.declared.ids.ObjectId.{ObjectId}
use Rattle.heap_model.specs.declared.record.UndoRecord.{UndoRecord}
use Rattle.heap_model.specs.declared.record.UndoRecord.TheVariants.{Acq, Rel, WaitRel, Put}
use Rattle.recover_logs.specs.Limits.{IsInRange}
use Rattle.recover_logs.specs.Logs.{records_of, lanes_of}
use Rattle.recover_logs.specs.Replay.{BeginsAt}
use Rattle.recover_logs.specs.First.{lowered, IsLowered, IsLowestOf}
use Rattle.recover_logs.proofs.LaneLemmas.{records_past}

-- the one element
single : {A : Type 0} (y x : A) → Contains (y ∷ []) x → y ≡ x
single {A} y x h = at h.0 h.1 h.2
  where
    at : (k : ℕ) → k < 1 → get_or (y ∷ []) k x ≡ x → y ≡ x
    at zero lt is = is
    at (suc k) lt is = absurd (omega arith)

-- what a list has, it has in the other order
pub contains_reverse : {A : Type 0} (xs : List A) (x : A) → Contains xs x → Contains (reverse xs) x
contains_reverse {A} xs x h =
    let k : ℕ = h.0 in
    let lt : k < length xs = h.1 in
    let back : length xs - 1 - (length xs - 1 - k) ≡ k = omega arith in
    (length xs - 1 - k, omega (arith, length-reverse xs), get_or-reverse xs (length xs - 1 - k) x (omega arith) ∙ ap (λ (i : ℕ). get_or xs i x) back ∙ h.2)

pub from_reverse : {A : Type 0} (xs : List A) (x : A) → Contains (reverse xs) x → Contains xs x
from_reverse {A} xs x h = subst (λ (ys : List A). Contains ys x) (reverse-reverse xs) (contains_reverse (reverse xs) x h)

pub All-reverse : {A : Type 0} (P : A → Type 0) (xs : List A) → All P xs → All P (reverse xs)
All-reverse P xs all k d lt = subst P (sym (get_or-reverse xs k d (omega (arith, length-reverse xs)))) (all (length xs - 1 - k) d (omega (arith, length-reverse xs)))

-- a record that takes nothing
nothing : (numbers : List ℕ) (r : UndoRecord) → ((o : ObjectId) (n : ℕ) → r ≡ Acq o n → ⊥) → IsLowered numbers (r ∷ []) numbers
nothing numbers r none = record {
  size = refl;
  lower = λ o. omega arith;
  least = λ n o h. absurd (none o n (single r (Acq o n) h));
  taken = λ o. inl refl;
}

here : (numbers : List ℕ) (p n : ℕ) → length numbers ≡ 4096 → p < 4096 → slice_index (slice_set numbers p n) p ≡ n
here numbers p n long low = get_or-set_same numbers p n 0 (omega arith)

pub lowered_one : (numbers : List ℕ) (r : UndoRecord) → length numbers ≡ 4096 → IsInRange r → IsLowered numbers (r ∷ []) (lowered numbers r)
lowered_one numbers (Acq p n) long range =
    let was = slice_index numbers p.0 in
    let now = min was n in
    let at : slice_index (slice_set numbers p.0 now) p.0 ≡ now = here numbers p.0 now long range.0 in
    let other : (o : ℕ) → o ≢ p.0 → slice_index (slice_set numbers p.0 now) o ≡ slice_index numbers o = (λ o ne. get_or-set_other numbers p.0 o now 0 ne) in
    record {
      size = length-set numbers p.0 now;
      lower = λ o. elim (cases_eq o p.0) [
        | inl e ↦ subst (λ (k : ℕ). slice_index (slice_set numbers p.0 now) k ≤ slice_index numbers k) (sym e) (omega (arith, at))
        | inr ne ↦ omega (arith, other o ne)
      ];
      least = λ m o h.
          let same : (let a : UndoRecord = Acq p n in a ≡ Acq o m) = single (Acq p n) (Acq o m) h in
          let object : p ≡ o = cc in
          let number : n ≡ m = cc in
          subst (λ (q : ObjectId). slice_index (slice_set numbers p.0 now) q.0 ≤ m) object (omega (arith, at));
      taken = λ o. elim (cases_eq o p.0) [
        | inl e ↦ subst (λ (k : ℕ). (slice_index (slice_set numbers p.0 now) k ≡ slice_index numbers k) ⊎ Contains (Acq p n ∷ []) (Acq (record { 0 = k }) (slice_index (slice_set numbers p.0 now) k))) (sym e)
            (elim (cases_lt n was) [
              | inl lt ↦ inr (subst (λ (k : ℕ). Contains (Acq p n ∷ []) (Acq p k)) (let e : n ≡ slice_index (slice_set numbers p.0 now) p.0 = omega (arith, at) in e) (0, omega arith, refl))
              | inr le ↦ inl (omega (arith, at))
            ])
        | inr ne ↦ inl (other o ne)
      ];
    }
lowered_one numbers (Rel p n) long range = nothing numbers (Rel p n) (λ o m is. absurd cc)
lowered_one numbers (WaitRel p n) long range = nothing numbers (WaitRel p n) (λ o m is. absurd cc)
lowered_one numbers (Put f v) long range = nothing numbers (Put f v) (λ o m is. absurd cc)

pub lowered_none : (numbers : List ℕ) → IsLowered numbers [] numbers
lowered_none numbers = record { size = refl; lower = λ o. omega arith; least = λ n o h. absurd (let lt : h.0 < 0 = h.1 in omega arith); taken = λ o. inl refl }

pub lowered_more : (a b c : List ℕ) (xs ys : List UndoRecord) → IsLowered a xs b → IsLowered b ys c → IsLowered a (xs ++ ys) c
lowered_more a b c xs ys p q = record {
  size = q.size ∙ p.size;
  lower = λ o. omega (arith, p.lower o, q.lower o);
  least = λ n o h. elim (Contains-append_cases xs ys (Acq o n) h) [
    | inl first ↦ omega (arith, p.least n o first, q.lower o.0)
    | inr second ↦ q.least n o second
  ];
  taken = λ o. elim (q.taken o) [
    | inl same ↦ elim (p.taken o) [
      | inl kept ↦ inl (same ∙ kept)
      | inr had ↦ inr (Contains-append_left xs ys (Acq (record { 0 = o }) (slice_index c o)) (subst (λ (k : ℕ). Contains xs (Acq (record { 0 = o }) k)) (sym same) had))
    ]
    | inr has ↦ inr (Contains-append_right xs ys (Acq (record { 0 = o }) (slice_index c o)) has)
  ];
}

-- lane by lane
pub lowest_none : (logs : List (Vec UndoRecord Global)) → IsLowestOf logs 0 (replicate 4096 1099511627775)
lowest_none logs = record {
  size = length-replicate {A = ℕ} 4096 1099511627775;
  least = λ l n o lt h. absurd (omega arith);
  taken = λ o lt. inl (get_or-replicate 4096 o 1099511627775 0 lt);
}

pub lowest_more : (logs : List (Vec UndoRecord Global)) (lane : ℕ) (old new : List ℕ) → IsLowestOf logs lane old → IsLowered old (records_of logs lane) new → IsLowestOf logs (lane + 1) new
lowest_more logs lane old new p q = record {
  size = q.size ∙ p.size;
  least = λ l n o lt h. elim (cases_eq l lane) [
    | inl e ↦ q.least n o (subst (λ (k : ℕ). Contains (records_of logs k) (Acq o n)) e h)
    | inr ne ↦ omega (arith, p.least l n o (omega arith) h, q.lower o.0)
  ];
  taken = λ o low. elim (q.taken o) [
    | inl same ↦ elim (p.taken o low) [
      | inl last ↦ inl (same ∙ last)
      | inr had ↦ inr (had.0, subst (λ (k : ℕ). Contains (records_of logs had.0) (Acq (record { 0 = o }) k)) (sym same) had.1)
    ]
    | inr has ↦ inr (lane, has)
  ];
}

pub begins_at : (logs : List (Vec UndoRecord Global)) (numbers : List ℕ) (lanes : ℕ) → length logs ≤ lanes → ((l : ℕ) → All IsInRange (records_of logs l)) → IsLowestOf logs lanes numbers → BeginsAt (lanes_of logs) (slice_index numbers)
begins_at logs numbers lanes all range lowest = record { least = least; taken = taken }
  where
    least : (l n : ℕ) (o : ObjectId) → Contains (lanes_of logs l) (Acq o n) → slice_index numbers o.0 ≤ n
    least l n o h =
        let has : Contains (records_of logs l) (Acq o n) = from_reverse (records_of logs l) (Acq o n) h in
        elim (cases_lt l lanes) [
          | inl lt ↦ lowest.least l n o lt has
          | inr le ↦ absurd (let none : length (records_of logs l) ≡ 0 = ap length (records_past logs l (omega arith)) in let some : has.0 < length (records_of logs l) = has.1 in omega arith)
        ]

    taken : (l n : ℕ) (o : ObjectId) → Contains (lanes_of logs l) (Acq o n) → (m : ℕ) × Contains (lanes_of logs m) (Acq o (slice_index numbers o.0))
    taken l n o h =
        let has : Contains (records_of logs l) (Acq o n) = from_reverse (records_of logs l) (Acq o n) h in
        let fits : IsInRange (Acq o n) = All-contains IsInRange (records_of logs l) (Acq o n) (range l) has in
        elim (lowest.taken o.0 fits.0) [
          | inl last ↦ absurd (omega (arith, last, fits.1, least l n o h))
          | inr at ↦ (at.0, contains_reverse (records_of logs at.0) (Acq o (slice_index numbers o.0)) at.1)
        ]
