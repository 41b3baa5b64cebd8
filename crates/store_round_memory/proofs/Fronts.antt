-- Where the records of a lane begin.
use Rattle.std.proofs.Common.{ℕ, zero, suc, ◌≡◌, ◌≢◌, ◌+◌, ◌-◌, ◌<◌, ◌≤◌, ◌⊎◌, if◌then◌else◌, nat_lt, Bool, true, false, List, [], ◌∷◌, ◌++◌, get_or, length, take, slice_index, slice_set, refl, sym, ap, ◌∙◌, subst, inl, inr, arith, length-append}
use Rattle.std.proofs.lemmas.Bool.{cases_lt, le-ltb, lt-ltb, ne_eqb}
use Rattle.std.proofs.lemmas.Bool.Decides.{eqb_tells}
use Rattle.std.proofs.lemmas.List.{get_or-set_other, get_or-set_same, get_or_append_left}
use Rattle.heap_model.specs.declared.record.LaneRecord.{LaneRecord}
use Rattle.heap_model.specs.declared.record.Record.{Record}
use Rattle.heap_model.specs.declared.record.Record.TheVariants.{Acq}
use Rattle.heap_model.specs.Log.{lane, log_from}
use Rattle.law_cuts.proofs.Lanes.{lane_append}
use Rattle.store_round_memory.specs.Counting.{Apart, Counts, is_kept, records_left}
use Rattle.store_round_memory.specs.Surveys.{AreFronts}
use Rattle.store_round_memory.proofs.Lists.{lane_other, lane_own, log_append, log_next, pair}

-- a lane without a record in the first places
lane_apart : (records : List LaneRecord) (l n : ℕ) → n ≤ length records → ((k : ℕ) (d : LaneRecord) → k < n → (get_or records k d).lane.0 ≢ l) → lane l (log_from (take n records)) ≡ []
lane_apart records l zero le apart = refl
lane_apart records l (suc n) le apart =
    let d : LaneRecord = record { lane = record { 0 = 0 }; «record» = Acq (record { 0 = 0 }) 0 } in
    let e : LaneRecord = get_or records n d in
    let one : suc n ≡ n + 1 = omega arith in
    let next : log_from (take (suc n) records) ≡ pair e ∷ log_from (take n records) = ap (λ (k : ℕ). log_from (take k records)) one ∙ log_next records n d (omega (arith, le)) in
    ap (lane l) next
    ∙ ap (λ b. if b then e.«record» ∷ lane l (log_from (take n records)) else lane l (log_from (take n records))) (ne_eqb e.lane.0 l (apart n d (omega arith)))
    ∙ lane_apart records l n (omega (arith, le)) (λ k d lt. apart k d (omega (arith, lt)))

-- the records before a place, of lanes whose fronts aren't before it
pub apart_before : (records : List LaneRecord) (fronts counts : List ℕ) (n : ℕ) → AreFronts records fronts → n ≤ length records → ((l : ℕ) → l < 32 → 0 < slice_index counts l → n ≤ slice_index fronts l) →
    Apart counts (log_from (take n records))
apart_before records fronts counts n are le near l low some = lane_apart records l n le (λ k d lt. are l k d low (omega (arith, lt, near l low some)))

-- a lane that has none of the records
parts_of : (e : LaneRecord) (xs : List LaneRecord) (l : ℕ) → length (lane l (log_from (e ∷ xs))) ≡ 0 → (length (lane l (log_from xs)) ≡ 0) × (length (lane l (pair e ∷ [])) ≡ 0)
parts_of e xs l none =
    let all : length (lane l (log_from (e ∷ xs))) ≡ length (lane l (log_from xs)) + length (lane l (pair e ∷ [])) =
    ap (λ (ys : List (ℕ × Record)). length (lane l ys)) (log_append (e ∷ []) xs) ∙ ap (λ (rs : List Record). length rs) (lane_append l (log_from xs) (pair e ∷ [])) ∙ length-append (lane l (log_from xs)) (lane l (pair e ∷ [])) in
    (omega (arith, all, none), omega (arith, all, none))

pub lane_none : (xs : List LaneRecord) (l : ℕ) → length (lane l (log_from xs)) ≡ 0 → (k : ℕ) (d : LaneRecord) → k < length xs → (get_or xs k d).lane.0 ≢ l
lane_none [] l none k d lt = absurd (omega (arith, lt))
lane_none (e ∷ xs) l none zero d lt = λ same.
    let parts = parts_of e xs l none in
    let own : length (lane e.lane.0 (pair e ∷ [])) ≡ 0 + 1 = lane_own (pair e) [] in
    let here : length (lane e.lane.0 (pair e ∷ [])) ≡ length (lane l (pair e ∷ [])) = ap (λ (j : ℕ). length (lane j (pair e ∷ []))) same in
    absurd (omega (arith, parts.1, own, here))
lane_none (e ∷ xs) l none (suc k) d lt = lane_none xs l (parts_of e xs l none).0 k d (omega (arith, lt))

-- with one record more
pub fronts_push : (records : List LaneRecord) (fronts : List ℕ) (e : LaneRecord) → AreFronts records fronts → ((l : ℕ) → l < 32 → slice_index fronts l ≤ length records) → AreFronts (records ++ e ∷ []) fronts
fronts_push records fronts e are within l k d low lt same =
    are l k d low lt (ap (λ (x : LaneRecord). x.lane.0) (sym (get_or_append_left records (e ∷ []) d k (omega (arith, lt, within l low)))) ∙ same)

-- by lane, how many of the first so many are still to come
abbrev pub Rests : (rest counts : List ℕ) → List (ℕ × Record) → Type 0
Rests rest counts xs = (l : ℕ) → l < 32 → slice_index rest l ≡ slice_index counts l - length (lane l xs)

pub rests_apart : (counts : List ℕ) (xs : List (ℕ × Record)) → Apart counts xs → Rests counts counts xs
rests_apart counts xs apart l low = elim (cases_lt 0 (slice_index counts l)) [
  | inl some ↦ omega (arith, ap (λ (rs : List Record). length rs) (apart l low some))
  | inr none ↦ omega (arith, none)
]

pub rests_kept : (b : Bool) (rest counts : List ℕ) (l : ℕ) (xs : List (ℕ × Record)) → l < 32 → Rests rest counts xs → b ≡ nat_lt 0 (slice_index rest l) → b ≡ is_kept counts l xs
rests_kept b rest counts l xs low are is = is ∙ elim (cases_lt (length (lane l xs)) (slice_index counts l)) [
  | inl lt ↦ lt-ltb _ _ (omega (arith, lt, are l low)) ∙ sym (lt-ltb _ _ lt)
  | inr le ↦ le-ltb _ _ (omega (arith, le, are l low)) ∙ sym (le-ltb _ _ le)
]

pub rests_next : (rest counts : List ℕ) (x : ℕ × Record) (xs : List (ℕ × Record)) → length rest ≡ 32 → x.0 < 32 → Rests rest counts xs → Rests (slice_set rest x.0 (slice_index rest x.0 - 1)) counts (x ∷ xs)
rests_next rest counts x xs long low are l within = elim (eqb_tells x.0 l) [
  | inl e ↦
      let here : slice_index (slice_set rest x.0 (slice_index rest x.0 - 1)) x.0 ≡ slice_index rest x.0 - 1 = get_or-set_same rest x.0 (slice_index rest x.0 - 1) 0 (omega (arith, long, low)) in
      let own : slice_index (slice_set rest x.0 (slice_index rest x.0 - 1)) x.0 ≡ slice_index counts x.0 - length (lane x.0 (x ∷ xs)) = omega (arith, here, are x.0 low, lane_own x xs) in
      subst (λ (k : ℕ). slice_index (slice_set rest x.0 (slice_index rest x.0 - 1)) k ≡ slice_index counts k - length (lane k (x ∷ xs))) e.1 own
  | inr e ↦
      let still : slice_index (slice_set rest x.0 (slice_index rest x.0 - 1)) l ≡ slice_index rest l = get_or-set_other rest x.0 l (slice_index rest x.0 - 1) 0 (λ same. e.1 (sym same)) in
      omega (arith, still, are l within, lane_other l x xs e.0)
]

-- a lane has so many less
lane_left : (counts : List ℕ) (l : ℕ) (xs : List (ℕ × Record)) → length (lane l (records_left counts xs)) ≡ length (lane l xs) - slice_index counts l
lane_left counts l [] = omega arith
lane_left counts l (x ∷ older) =
    let rest : length (lane l (records_left counts older)) ≡ length (lane l older) - slice_index counts l = lane_left counts l older in
    elim (eqb_tells x.0 l) [
      | inl e ↦
          let own : length (lane l (x ∷ older)) ≡ length (lane l older) + 1 = subst (λ (k : ℕ). length (lane k (x ∷ older)) ≡ length (lane k older) + 1) e.1 (lane_own x older) in
          let more : length (lane l (x ∷ records_left counts older)) ≡ length (lane l (records_left counts older)) + 1 = subst (λ (k : ℕ). length (lane k (x ∷ records_left counts older)) ≡ length (lane k (records_left counts older)) + 1) e.1 (lane_own x (records_left counts older)) in
          elim (cases_lt (length (lane l older)) (slice_index counts l)) [
            | inl lt ↦
                let kept : is_kept counts x.0 older ≡ true = ap (λ (k : ℕ). is_kept counts k older) e.1 ∙ lt-ltb _ _ lt in
                let here : length (lane l (records_left counts (x ∷ older))) ≡ length (lane l (records_left counts older)) = ap (λ b. length (lane l (if b then records_left counts older else x ∷ records_left counts older))) kept in
                omega (arith, rest, own, here, lt)
            | inr le ↦
                let out : is_kept counts x.0 older ≡ false = ap (λ (k : ℕ). is_kept counts k older) e.1 ∙ le-ltb _ _ le in
                let here : length (lane l (records_left counts (x ∷ older))) ≡ length (lane l (x ∷ records_left counts older)) = ap (λ b. length (lane l (if b then records_left counts older else x ∷ records_left counts older))) out in
                omega (arith, rest, own, more, here, le)
          ]
      | inr e ↦
          let own : length (lane l (x ∷ older)) ≡ length (lane l older) = lane_other l x older e.0 in
          let more : length (lane l (x ∷ records_left counts older)) ≡ length (lane l (records_left counts older)) = lane_other l x (records_left counts older) e.0 in
          let here : length (lane l (records_left counts (x ∷ older))) ≡ length (lane l (records_left counts older)) = elim (is_kept counts x.0 older) as (λ b. length (lane l (if b then records_left counts older else x ∷ records_left counts older)) ≡ length (lane l (records_left counts older))) [ true ↦ refl | false ↦ more ] in
          omega (arith, rest, own, here)
    ]

pub counts_left : (many counts : List ℕ) (xs : List (ℕ × Record)) (now : List ℕ) → Counts many xs → ((l : ℕ) → l < 32 → slice_index now l ≡ slice_index many l - slice_index counts l) → Counts now (records_left counts xs)
counts_left many counts xs now are is l low = omega (arith, is l low, are l low, lane_left counts l xs)

-- fronts that are moved
module _ (records : List LaneRecord) (from : ℕ) where
  -- what is so once the records from a place on were looked at
  pub record Moved (fronts : List ℕ) (place : ℕ) : Type 0 where
    pub apart : (l k : ℕ) (d : LaneRecord) → l < 32 → k < slice_index fronts l → (k < from) ⊎ (place ≤ k) → (get_or records k d).lane.0 ≢ l
    pub within : (l : ℕ) → l < 32 → slice_index fronts l ≤ length records
    pub long : length fronts ≡ 32
