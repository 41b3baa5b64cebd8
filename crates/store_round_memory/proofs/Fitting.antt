-- Which records fit the memory, and how many there are.
use Rattle.std.proofs.Common.{ℕ, zero, suc, ◌≡◌, ◌+◌, ◌-◌, ◌*◌, ◌<◌, ◌≤◌, ◌^◌, if◌then◌else◌, true, false, List, [], ◌∷◌, ◌++◌, get_or, length, map, reverse, refl, sym, ap, ◌∙◌, subst, inl, inr, arith}
use Rattle.std.specs.Prelude.{All}
use Rattle.std.proofs.lemmas.Bool.Decides.{eqb_tells}
use Rattle.std.proofs.lemmas.List.{get_or-reverse, get_or_push, length-reverse, length_push}
use Rattle.std.proofs.Math.Nat.{suc-mul}
use Rattle.heap_model.specs.declared.record.LaneRecord.{LaneRecord}
use Rattle.heap_model.specs.declared.record.Record.{Record}
use Rattle.heap_model.specs.declared.record.Record.TheVariants.{Acq, Rel, WaitRel, Put}
use Rattle.heap_model.specs.Base.{records_since}
use Rattle.heap_model.specs.Cuts.{is_counted}
use Rattle.heap_model.specs.Log.{IsLegal, IsOfLanes, lane, log_from}
use Rattle.heap_model.specs.Sections.{actions}
use Rattle.heap_model.specs.Setting.{Setting}
use Rattle.store_round_memory.specs.Counting.{is_kept, records_left}
use Rattle.store_round_memory.specs.Surveys.{Fits, FitsLane, HasLane}
use Rattle.store_round_memory.proofs.Lists.{lane_other, lane_own, pair}

-- each record of the log fits
abbrev pub EachFits : (lanes objects fields : ℕ) → List (ℕ × Record) → Type 0
EachFits lanes objects fields [] = Unit {0}
EachFits lanes objects fields (x ∷ older) = (x.0 < lanes) × Fits objects fields x.1 × EachFits lanes objects fields older

module _ (lanes objects fields : ℕ) where
  mapped : (xs : List LaneRecord) → All (FitsLane lanes objects fields) xs → EachFits lanes objects fields (map pair xs)
  mapped [] all = tt
  mapped (e ∷ xs) all = let here = all 0 e (omega arith) in (here.0, here.1, mapped xs (λ k d lt. all (suc k) d (omega (arith, lt))))

  unmapped : (xs : List LaneRecord) → EachFits lanes objects fields (map pair xs) → All (FitsLane lanes objects fields) xs
  unmapped [] each k d lt = absurd (omega (arith, lt))
  unmapped (e ∷ xs) each zero d lt = (each.0, each.1)
  unmapped (e ∷ xs) each (suc k) d lt = unmapped xs each.2 k d (omega (arith, lt))

  pub to_log : (xs : List LaneRecord) → All (FitsLane lanes objects fields) xs → EachFits lanes objects fields (log_from xs)
  to_log xs all = mapped (reverse xs) (λ k d lt.
      let low : k < length xs = omega (arith, lt, length-reverse xs) in
      subst (FitsLane lanes objects fields) (sym (get_or-reverse xs k d low)) (all (length xs - 1 - k) d (omega (arith, low))))

  pub from_log : (xs : List LaneRecord) → EachFits lanes objects fields (log_from xs) → All (FitsLane lanes objects fields) xs
  from_log xs each k d lt =
      let there = unmapped (reverse xs) each (length xs - 1 - k) d (omega (arith, lt, length-reverse xs)) in
      let back : get_or (reverse xs) (length xs - 1 - k) d ≡ get_or xs (length xs - 1 - (length xs - 1 - k)) d = get_or-reverse xs (length xs - 1 - k) d (omega (arith, lt)) in
      let at : length xs - 1 - (length xs - 1 - k) ≡ k = omega (arith, lt) in
      subst (FitsLane lanes objects fields) (back ∙ ap (λ (n : ℕ). get_or xs n d) at) there

  pub fits_left : (counts : List ℕ) (xs : List (ℕ × Record)) → EachFits lanes objects fields xs → EachFits lanes objects fields (records_left counts xs)
  fits_left counts [] each = tt
  fits_left counts (x ∷ older) each = elim (is_kept counts x.0 older) as (λ b. EachFits lanes objects fields (if b then records_left counts older else x ∷ records_left counts older))
      [ true ↦ fits_left counts older each.2 | false ↦ (each.0, each.1, fits_left counts older each.2) ]

  pub fits_append : (xs ys : List (ℕ × Record)) → EachFits lanes objects fields xs → EachFits lanes objects fields ys → EachFits lanes objects fields (xs ++ ys)
  fits_append [] ys each more = more
  fits_append (x ∷ xs) ys each more = (each.0, each.1, fits_append xs ys each.2 more)

  pub of_lanes : (xs : List (ℕ × Record)) → EachFits lanes objects fields xs → IsOfLanes lanes xs
  of_lanes [] each = tt
  of_lanes (x ∷ xs) each = (each.0, of_lanes xs each.2)

-- a legal record fits
fits_one : (s : Setting) (older : List (ℕ × Record)) (l : ℕ) (r : Record) → s.last < 2 ^ 64 → IsLegal s ((l, r) ∷ older) → Fits s.objects s.fields r
fits_one s older l (Acq o n) last legal = (legal.3, omega (arith, last, legal.1.2))
fits_one s older l (Rel o n) last legal = tt
fits_one s older l (WaitRel o n) last legal = tt
fits_one s older l (Put f before after) last legal = legal.3.0

pub legal_fits : (s : Setting) (lanes : ℕ) (newer log : List (ℕ × Record)) → s.last < 2 ^ 64 → IsLegal s (newer ++ log) → IsOfLanes lanes (newer ++ log) → EachFits lanes s.objects s.fields newer
legal_fits s lanes [] log last legal of = tt
legal_fits s lanes ((l, r) ∷ newer) log last legal of = (of.0, fits_one s (newer ++ log) l r last legal, legal_fits s lanes newer log last legal.0 of.1)

pub since_lanes : (lanes : ℕ) (base : ℕ → ℕ) (log : List (ℕ × Record)) → IsOfLanes lanes log → IsOfLanes lanes (records_since base log)
since_lanes lanes base [] of = tt
since_lanes lanes base (x ∷ older) of = elim (is_counted base x.0 (actions older)) as (λ b. IsOfLanes lanes (if b then records_since base older else x ∷ records_since base older))
    [ true ↦ since_lanes lanes base older of.1 | false ↦ (of.0, since_lanes lanes base older of.1) ]

-- the records of the first lanes
abbrev count_below : ℕ → List (ℕ × Record) → ℕ
count_below zero log = 0
count_below (suc l) log = length (lane l log) + count_below l log

count_above : (lanes : ℕ) (x : ℕ × Record) (log : List (ℕ × Record)) → lanes ≤ x.0 → count_below lanes (x ∷ log) ≡ count_below lanes log
count_above zero x log le = refl
count_above (suc l) x log le = elim (eqb_tells x.0 l) [
  | inl e ↦ absurd (omega (arith, le, e.1))
  | inr e ↦ omega (arith, lane_other l x log e.0, count_above l x log (omega (arith, le)))
]

count_one : (lanes : ℕ) (x : ℕ × Record) (log : List (ℕ × Record)) → x.0 < lanes → count_below lanes (x ∷ log) ≡ count_below lanes log + 1
count_one zero x log lt = absurd (omega (arith, lt))
count_one (suc l) x log lt = elim (eqb_tells x.0 l) [
  | inl e ↦
      let own : length (lane l (x ∷ log)) ≡ length (lane l log) + 1 = ap (λ (k : ℕ). length (lane k (x ∷ log))) (sym e.1) ∙ lane_own x log ∙ ap (λ (k : ℕ). length (lane k log) + 1) e.1 in
      omega (arith, own, count_above l x log (omega (arith, e.1)))
  | inr e ↦ omega (arith, lane_other l x log e.0, count_one l x log (omega (arith, lt, e.1)))
]

count_all : (lanes : ℕ) (log : List (ℕ × Record)) → IsOfLanes lanes log → length log ≤ count_below lanes log
count_all lanes [] of = omega arith
count_all lanes (x ∷ log) of = omega (arith, count_all lanes log of.1, count_one lanes x log of.0)

count_room : (lanes room : ℕ) (log : List (ℕ × Record)) → ((l : ℕ) → l < lanes → length (lane l log) ≤ room) → count_below lanes log ≤ lanes * room
count_room zero room log le = omega arith
count_room (suc l) room log le = omega (arith, suc-mul l room, le l (omega arith), count_room l room log (λ m lt. le m (omega (arith, lt))))

-- where each lane has at most so many, all have at most so many times as many as there are lanes
pub all_within : (lanes room : ℕ) (log : List (ℕ × Record)) → IsOfLanes lanes log → ((l : ℕ) → l < lanes → length (lane l log) ≤ room) → length log ≤ lanes * room
all_within lanes room log of le = omega (arith, count_all lanes log of, count_room lanes room log le)

-- what is true of each of the records is so of the newest
pub last_one : (P : LaneRecord → Type 0) (xs : List LaneRecord) (e : LaneRecord) → All P (xs ++ e ∷ []) → P e
last_one P xs e all = subst P (get_or_push xs e e (length xs) refl) (all (length xs) e (omega (arith, length_push xs e)))

-- each record is of one of 32 lanes
pub lane_low : (lanes objects fields : ℕ) (xs : List LaneRecord) → lanes ≤ 32 → All (FitsLane lanes objects fields) xs → All (FitsLane 32 objects fields) xs
lane_low lanes objects fields xs le all k d lt = let one = all k d lt in (omega (arith, one.0, le), one.1)

pub has_lanes : (objects fields : ℕ) (xs : List LaneRecord) → All (FitsLane 32 objects fields) xs → All HasLane xs
has_lanes objects fields xs all k d lt = (all k d lt).0
