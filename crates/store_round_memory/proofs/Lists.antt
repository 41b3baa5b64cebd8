-- Lists of lanes' records, the oldest first, and the logs that they are.
use Rattle.std.proofs.Common.{ℕ, zero, suc, ◌≡◌, ◌+◌, ◌-◌, ◌<◌, ◌≤◌, ◌==◌, if◌then◌else◌, nat_lt, Bool, true, false, List, [], ◌∷◌, ◌++◌, get_or, length, map, replicate, reverse, take, drop, slice_index, slice_set, refl, sym, ap, ◌∙◌, subst, inl, inr, arith}
use Rattle.std.proofs.lemmas.Bool.Decides.{eqb_tells}
use Rattle.std.proofs.lemmas.List.{drop-drop, get_or-drop, get_or-reverse, get_or-set_other, get_or-set_same, get_or-take, length-map, length-reverse, length-take-le, map-append, reverse-append, take_more}
use Rattle.heap_model.specs.declared.record.LaneRecord.{LaneRecord}
use Rattle.heap_model.specs.declared.record.Record.{Record}
use Rattle.heap_model.specs.Log.{IsOfLanes, lane, log_from}
use Rattle.store_round_memory.specs.Surveys.{HasLane}
use Rattle.std.specs.Prelude.{All}
use Rattle.store_round_memory.specs.Counting.{Counts, is_kept}

abbrev pub pair : LaneRecord → ℕ × Record
pair e = (e.lane.0, e.record)

pub log_append : (xs ys : List LaneRecord) → log_from (xs ++ ys) ≡ log_from ys ++ log_from xs
log_append xs ys = ap (map pair) (reverse-append xs ys) ∙ map-append pair (reverse ys) (reverse xs)

pub log_long : (xs : List LaneRecord) → length (log_from xs) ≡ length xs
log_long xs = length-map (reverse xs) pair ∙ length-reverse xs

-- the first records with one more
pub log_next : (xs : List LaneRecord) (i : ℕ) (d : LaneRecord) → i < length xs → log_from (take (i + 1) xs) ≡ pair (get_or xs i d) ∷ log_from (take i xs)
log_next xs i d lt = ap log_from (take_more xs i d lt) ∙ log_append (take i xs) (get_or xs i d ∷ [])

-- without the newest so many, and one less
pub log_last : (xs : List LaneRecord) (n : ℕ) (d : LaneRecord) → n < length xs →
    log_from (take (length xs - n) xs) ≡ pair (get_or xs (length xs - 1 - n) d) ∷ log_from (take (length xs - (n + 1)) xs)
log_last xs n d lt =
    let one : length xs - n ≡ (length xs - 1 - n) + 1 = omega (arith, lt) in
    let same : length xs - 1 - n ≡ length xs - (n + 1) = omega arith in
    ap (λ (k : ℕ). log_from (take k xs)) one ∙ log_next xs (length xs - 1 - n) d (omega (arith, lt))
    ∙ ap (λ (k : ℕ). pair (get_or xs (length xs - 1 - n) d) ∷ log_from (take k xs)) same

-- a lane has no more records than there are
pub lane_within : (l : ℕ) (xs : List (ℕ × Record)) → length (lane l xs) ≤ length xs
lane_within l [] = omega arith
lane_within l (x ∷ xs) = elim (x.0 == l) as (λ b. length (if b then x.1 ∷ lane l xs else lane l xs) ≤ length (x ∷ xs)) [ true ↦ omega (arith, lane_within l xs) | false ↦ omega (arith, lane_within l xs) ]

pub lane_own : (x : ℕ × Record) (xs : List (ℕ × Record)) → length (lane x.0 (x ∷ xs)) ≡ length (lane x.0 xs) + 1
lane_own x xs = elim (eqb_tells x.0 x.0) [
  | inl e ↦ ap (λ b. length (if b then x.1 ∷ lane x.0 xs else lane x.0 xs)) e.0 ∙ omega arith
  | inr e ↦ absurd (e.1 refl)
]

pub lane_other : (l : ℕ) (x : ℕ × Record) (xs : List (ℕ × Record)) → (x.0 == l) ≡ false → length (lane l (x ∷ xs)) ≡ length (lane l xs)
lane_other l x xs apart = ap (λ b. length (if b then x.1 ∷ lane l xs else lane l xs)) apart

-- with one more
pub count_one : (counts : List ℕ) (x : ℕ × Record) (xs : List (ℕ × Record)) → length counts ≡ 32 → x.0 < 32 → Counts counts xs → Counts (slice_set counts x.0 (slice_index counts x.0 + 1)) (x ∷ xs)
count_one counts x xs long low are l within = elim (eqb_tells x.0 l) [
  | inl e ↦
      ap (λ (k : ℕ). slice_index (slice_set counts x.0 (slice_index counts x.0 + 1)) k) (sym e.1) ∙ get_or-set_same counts x.0 (slice_index counts x.0 + 1) 0 (omega (arith, long, low))
      ∙ ap (λ (n : ℕ). n + 1) (are x.0 low) ∙ sym (lane_own x xs) ∙ ap (λ (k : ℕ). length (lane k (x ∷ xs))) e.1
  | inr e ↦ get_or-set_other counts x.0 l (slice_index counts x.0 + 1) 0 (λ same. e.1 (sym same)) ∙ are l within ∙ sym (lane_other l x xs e.0)
]

-- with one less
pub count_less : (counts : List ℕ) (x : ℕ × Record) (xs : List (ℕ × Record)) → length counts ≡ 32 → x.0 < 32 → Counts counts (x ∷ xs) → Counts (slice_set counts x.0 (slice_index counts x.0 - 1)) xs
count_less counts x xs long low are l within = elim (eqb_tells x.0 l) [
  | inl e ↦
      let here : slice_index (slice_set counts x.0 (slice_index counts x.0 - 1)) x.0 ≡ slice_index counts x.0 - 1 = get_or-set_same counts x.0 (slice_index counts x.0 - 1) 0 (omega (arith, long, low)) in
      let own : slice_index (slice_set counts x.0 (slice_index counts x.0 - 1)) x.0 ≡ length (lane x.0 xs) = omega (arith, here, are x.0 low, lane_own x xs) in
      ap (λ (k : ℕ). slice_index (slice_set counts x.0 (slice_index counts x.0 - 1)) k) (sym e.1) ∙ own ∙ ap (λ (k : ℕ). length (lane k xs)) e.1
  | inr e ↦ get_or-set_other counts x.0 l (slice_index counts x.0 - 1) 0 (λ same. e.1 (sym same)) ∙ are l within ∙ lane_other l x xs e.0
]

-- a count is no more than the records' number
pub count_within : (counts : List ℕ) (xs : List LaneRecord) (l : ℕ) → l < 32 → Counts counts (log_from xs) → slice_index counts l ≤ length xs
count_within counts xs l low are = omega (arith, are l low, lane_within l (log_from xs), log_long xs)

-- lists that are the same from a place on
pub same_at : {A : Type 0} (n : ℕ) (xs ys : List A) (d : A) → drop n xs ≡ drop n ys → get_or xs n d ≡ get_or ys n d
same_at {A} n xs ys d e =
    let here : n + 0 ≡ n = omega arith in
    ap (λ (k : ℕ). get_or xs k d) (sym here) ∙ sym (get_or-drop n xs 0 d) ∙ ap (λ (zs : List A). get_or zs 0 d) e ∙ get_or-drop n ys 0 d ∙ ap (λ (k : ℕ). get_or ys k d) here

pub same_past : {A : Type 0} (n : ℕ) (xs ys : List A) → drop n xs ≡ drop n ys → drop (n + 1) xs ≡ drop (n + 1) ys
same_past {A} n xs ys e = sym (drop-drop 1 n xs) ∙ ap (λ (zs : List A). drop 1 zs) e ∙ drop-drop 1 n ys

-- the count of the lane of the newest record, without that
pub less_is : (counts : List ℕ) (x : ℕ × Record) (xs : List (ℕ × Record)) → x.0 < 32 → Counts counts (x ∷ xs) → slice_index counts x.0 - 1 ≡ length (lane x.0 xs)
less_is counts x xs low are = omega (arith, are x.0 low, lane_own x xs)

-- the test tells whether the newest record is kept
pub newest_kept : (b : Bool) (left counts : List ℕ) (x : ℕ × Record) (xs : List (ℕ × Record)) → x.0 < 32 → Counts left (x ∷ xs) → b ≡ nat_lt (slice_index left x.0 - 1) (slice_index counts x.0) → b ≡ is_kept counts x.0 xs
newest_kept b left counts x xs low are is = is ∙ ap (λ (n : ℕ). nat_lt n (slice_index counts x.0)) (less_is left x xs low are)

-- a list of zeros has no other number
pub zero_at : (n l : ℕ) → slice_index (replicate n 0) l ≡ 0
zero_at zero l = refl
zero_at (suc n) zero = refl
zero_at (suc n) (suc l) = zero_at n l

-- the first records are of 32 lanes, where all are
lanes_mapped : (xs : List LaneRecord) → All HasLane xs → IsOfLanes 32 (map pair xs)
lanes_mapped [] all = tt
lanes_mapped (e ∷ xs) all = (all 0 e (omega arith), lanes_mapped xs (λ k d lt. all (suc k) d (omega (arith, lt))))

pub of_lanes_log : (xs : List LaneRecord) → All HasLane xs → IsOfLanes 32 (log_from xs)
of_lanes_log xs all = lanes_mapped (reverse xs) (λ k d lt.
    let low : k < length xs = omega (arith, lt, length-reverse xs) in
    subst HasLane (sym (get_or-reverse xs k d low)) (all (length xs - 1 - k) d (omega (arith, low))))

pub of_lanes_first : (n : ℕ) (xs : List LaneRecord) → n ≤ length xs → All HasLane xs → IsOfLanes 32 (log_from (take n xs))
of_lanes_first n xs le all = of_lanes_log (take n xs) (λ k d lt.
    let low : k < n = omega (arith, lt, length-take-le n xs le) in
    subst HasLane (sym (get_or-take n xs k d low)) (all k d (omega (arith, low, le))))
