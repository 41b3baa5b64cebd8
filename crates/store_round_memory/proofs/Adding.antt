-- A memory to which a record is added, or whose surveyed cut is acknowledged.
use Rattle.std.proofs.Common.{ℕ, ◌≡◌, ◌≢◌, ◌+◌, ◌-◌, ◌*◌, ◌<◌, ◌≤◌, ◌++◌, ◌==◌, if◌then◌else◌, [], ◌∷◌, List, get_or, length, take, slice_index, slice_set, sym, ap, ◌∙◌, subst, inl, inr, arith}
use Rattle.std.specs.Prelude.{All, vec_capacity}
use Rattle.std.proofs.lemmas.Bool.{cases_eq}
use Rattle.std.proofs.lemmas.Bool.Decides.{eqb_tells}
use Rattle.std.proofs.lemmas.List.{get_or-take, length-set, length-take-le, length_push}
use Rattle.heap_model.specs.declared.record.LaneRecord.{LaneRecord}
use Rattle.heap_model.specs.declared.record.Record.{Record}
use Rattle.heap_model.specs.Log.{lane, log_from}
use Rattle.heap_model.specs.Past.{Past}
use Rattle.heap_model.specs.Setting.{Setting}
use Rattle.store_round_memory.specs.Counting.{Apart, Counts, kept_takes, records_left, takes, takes_one}
use Rattle.store_round_memory.specs.Inside.{IsSound, rounds_of}
use Rattle.store_round_memory.specs.Rounds.{MayLog, Rounds}
use Rattle.store_round_memory.specs.Surveys.{AreFronts, AreOpen, CanSurvey, Fits, FitsLane, HasLane, IsSurvey, TellsDownTo}
use Rattle.store_round_memory.specs.declared.store_round_memory.RoundMemory.TheInside.{Inside}
use Rattle.store_round_memory.specs.declared.survey.Survey.{Survey}
use Rattle.store_round_memory.proofs.Fitting.{EachFits, fits_left, from_log, has_lanes, lane_low, last_one, to_log}
use Rattle.store_round_memory.proofs.Fronts.{apart_before, counts_left, fronts_push, lane_none}
use Rattle.store_round_memory.proofs.Knowing.{fits_grown, room_more}
use Rattle.store_round_memory.proofs.Lists.{count_one, count_within, log_append, log_long, pair}
use Rattle.store_round_memory.proofs.Opening.{open_added, open_left, set_else, set_here}
use Rattle.store_round_memory.proofs.Takes.{takes_within}

-- what stays of a memory's records once the first so many of each lane are left out, which begin at a place
pub record IsLeft (a : Inside) (rs left_of : List LaneRecord) (from left : ℕ) : Type 0 where
  pub items : left_of ≡ take left rs
  pub size : length rs ≡ length a.beyond.items
  pub within : left ≤ length a.beyond.items
  pub front : from ≤ left
  pub before : take from rs ≡ take from a.beyond.items
  pub gone : log_from (take left rs) ≡ records_left a.counted (log_from a.beyond.items)

pub made_left : (a : Inside) (ys rs left_of : List LaneRecord) (from left : ℕ) → ys ≡ a.beyond.items → length rs ≡ length ys → left ≤ length ys → from ≤ left → take from rs ≡ take from ys →
    log_from (take left rs) ≡ records_left a.counted (log_from ys) → left_of ≡ take left rs → IsLeft a rs left_of from left
made_left a ys rs left_of from left was size within front before gone items = record {
  items = items;
  size = size ∙ ap (λ (xs : List LaneRecord). length xs) was;
  within = omega (arith, within, ap (λ (xs : List LaneRecord). length xs) was);
  front = front;
  before = before ∙ ap (take from) was;
  gone = gone ∙ ap (λ (xs : List LaneRecord). records_left a.counted (log_from xs)) was;
}

module _ (a : Inside) (m : Rounds) (is : rounds_of a ≡ m) (sound : IsSound a) where
  abbrev log : List (ℕ × Record)
  log = log_from a.beyond.items

  module _ (s : Setting) (p : Past) (may : MayLog s m p) (e : LaneRecord) (fresh : log_from (e ∷ []) ≡ p.fresh) where
    -- each record fits, and so does the next one
    pub grown : All (FitsLane a.lanes (length a.found.first.items) (length a.kept.items)) (a.beyond.items ++ e ∷ [])
    grown = subst (λ (r : Rounds). All (FitsLane r.lanes (length r.first) (length r.kept)) (r.beyond ++ e ∷ [])) (sym is)
        (fits_grown s m p (e ∷ []) may fresh (subst (λ (r : Rounds). All (FitsLane r.lanes (length r.first) (length r.kept)) r.beyond) is sound.fits))

    next_fits : FitsLane a.lanes (length a.found.first.items) (length a.kept.items) e
    next_fits = last_one (FitsLane a.lanes (length a.found.first.items) (length a.kept.items)) a.beyond.items e grown

    pub low : e.lane.0 < 32
    low = omega (arith, next_fits.0, sound.lanes)

    pub fits : Fits (length a.found.first.items) (length a.kept.items) e.«record»
    fits = next_fits.1

    pub room : length a.beyond.items + 1 ≤ vec_capacity a.beyond
    room =
        let more : length a.beyond.items + length (e ∷ []) ≤ a.lanes * a.capacity = subst (λ (r : Rounds). length r.beyond + length (e ∷ []) ≤ r.lanes * r.capacity) (sym is) (room_more s m p (e ∷ []) may fresh) in
        omega (arith, more, sound.room)

    -- the lane has one more
    module _ (many : List ℕ) (set : many ≡ slice_set a.many e.lane.0 (slice_index a.many e.lane.0 + 1)) where
      log_more : log_from (a.beyond.items ++ e ∷ []) ≡ pair e ∷ log
      log_more = log_append a.beyond.items (e ∷ [])

      pub many_more : Counts many (log_from (a.beyond.items ++ e ∷ []))
      many_more = subst (Counts many) (sym log_more) (subst (λ (ns : List ℕ). Counts ns (pair e ∷ log)) (sym set) (count_one a.many (pair e) log sound.rows_many low sound.many))

      pub many_long : length many ≡ 32
      many_long = ap (λ (ns : List ℕ). length ns) set ∙ length-set a.many e.lane.0 (slice_index a.many e.lane.0 + 1) ∙ sound.rows_many

      pub within_more : (l : ℕ) → l < 32 → slice_index a.counted l ≤ slice_index many l
      within_more l under = elim (cases_eq l e.lane.0) [
        | inl own ↦
            let now : slice_index many l ≡ slice_index a.many e.lane.0 + 1 = ap (λ (ns : List ℕ). slice_index ns l) set ∙ set_here a.many e.lane.0 (slice_index a.many e.lane.0 + 1) l (omega (arith, low, sound.rows_many)) own in
            omega (arith, now, sound.within l under, ap (slice_index a.many) own)
        | inr ne ↦
            let now : slice_index many l ≡ slice_index a.many l = ap (λ (ns : List ℕ). slice_index ns l) set ∙ set_else a.many e.lane.0 (slice_index a.many e.lane.0 + 1) l ne in
            omega (arith, now, sound.within l under)
      ]

      pub open_more : (v : Survey) → ((o : ℕ) → slice_index v.open_takes.items o ≡ takes_one o e.«record» + slice_index a.found.open_takes.items o) → AreOpen a.counted (log_from (a.beyond.items ++ e ∷ [])) v
      open_more v now = subst (λ (xs : List (ℕ × Record)). AreOpen a.counted xs v) (sym log_more)
          (λ o. open_added a.counted o e.lane.0 e.«record» log (slice_index a.found.open_takes.items o) (slice_index v.open_takes.items o) (omega (arith, sound.within e.lane.0 low, sound.many e.lane.0 low)) (sound.opened o) (now o))

    -- where the lane had none, it begins with this one
    module _ (fronts : List ℕ) (end : ℕ) (at : end ≡ length a.beyond.items) (set : fronts ≡ (if slice_index a.many e.lane.0 == 0 then slice_set a.fronts e.lane.0 end else a.fronts)) where
      begun : AreFronts a.beyond.items fronts × ((l : ℕ) → l < 32 → slice_index fronts l ≤ length a.beyond.items)
      begun = elim (eqb_tells (slice_index a.many e.lane.0) 0) [
        | inl z ↦
            let now : fronts ≡ slice_set a.fronts e.lane.0 end = set ∙ ap (λ b. if b then slice_set a.fronts e.lane.0 end else a.fronts) z.0 in
            let none : length (lane e.lane.0 log) ≡ 0 = omega (arith, z.1, sound.many e.lane.0 low) in
            let here : (l : ℕ) → l ≡ e.lane.0 → slice_index fronts l ≡ end = λ l own. ap (λ (ns : List ℕ). slice_index ns l) now ∙ set_here a.fronts e.lane.0 end l (omega (arith, low, sound.rows_fronts)) own in
            let still : (l : ℕ) → l ≢ e.lane.0 → slice_index fronts l ≡ slice_index a.fronts l = λ l ne. ap (λ (ns : List ℕ). slice_index ns l) now ∙ set_else a.fronts e.lane.0 end l ne in (
              (λ l k d under lt. elim (cases_eq l e.lane.0) [
                | inl own ↦ λ same. lane_none a.beyond.items e.lane.0 none k d (omega (arith, lt, here l own, at)) (same ∙ own)
                | inr ne ↦ sound.fronts l k d under (omega (arith, lt, still l ne))
              ]),
              (λ l under. elim (cases_eq l e.lane.0) [
                | inl own ↦ omega (arith, here l own, at)
                | inr ne ↦ omega (arith, still l ne, sound.fronts_within l under)
              ]),
            )
        | inr z ↦
            let now : fronts ≡ a.fronts = set ∙ ap (λ b. if b then slice_set a.fronts e.lane.0 end else a.fronts) z.0 in
            (subst (AreFronts a.beyond.items) (sym now) sound.fronts, subst (λ (ns : List ℕ). (l : ℕ) → l < 32 → slice_index ns l ≤ length a.beyond.items) (sym now) sound.fronts_within)
      ]

      pub fronts_more : AreFronts (a.beyond.items ++ e ∷ []) fronts
      fronts_more = fronts_push a.beyond.items fronts e begun.0 begun.1

      pub fronts_low : (l : ℕ) → l < 32 → slice_index fronts l ≤ length (a.beyond.items ++ e ∷ [])
      fronts_low l under = omega (arith, begun.1 l under, length_push a.beyond.items e)

  -- no more takes are open than there are records
  pub open_few : (o : ℕ) → slice_index a.found.open_takes.items o ≤ length a.beyond.items
  open_few o = omega (arith, sound.opened o, takes_within o log, log_long a.beyond.items)

  pub many_few : (l : ℕ) → l < 32 → slice_index a.many l ≤ length a.beyond.items
  many_few l under = count_within a.many a.beyond.items l under sound.many

  -- what is true of the records, as a slice of them
  module _ (xs : List LaneRecord) (same : xs ≡ a.beyond.items) where
    each_fits : All (FitsLane 32 (length a.found.first.items) (length a.kept.items)) xs
    each_fits = subst (All (FitsLane 32 (length a.found.first.items) (length a.kept.items))) (sym same) (lane_low a.lanes (length a.found.first.items) (length a.kept.items) a.beyond.items sound.lanes sound.fits)

    pub can_survey : (v : Survey) → IsSurvey (length a.found.first.items) (length a.kept.items) v → CanSurvey v xs
    can_survey v survey = (length a.found.first.items, length a.kept.items, survey, each_fits)

    pub each_lane : All HasLane xs
    each_lane = has_lanes (length a.found.first.items) (length a.kept.items) xs each_fits

    pub many_are : Counts a.many (log_from xs)
    many_are = subst (λ (ys : List LaneRecord). Counts a.many (log_from ys)) (sym same) sound.many

    pub opens : AreOpen a.counted (log_from xs) a.found
    opens = subst (λ (ys : List LaneRecord). AreOpen a.counted (log_from ys) a.found) (sym same) sound.opened

    pub apart_at : (counts : List ℕ) (n : ℕ) → n ≤ length xs → ((l : ℕ) → l < 32 → 0 < slice_index counts l → n ≤ slice_index a.fronts l) → Apart counts (log_from (take n xs))
    apart_at counts n le near = apart_before xs a.fronts counts n (subst (λ (ys : List LaneRecord). AreFronts ys a.fronts) (sym same) sound.fronts) le near

  -- the next survey's counts are the ones that open its takes
  pub open_found : (counts : List ℕ) (v : Survey) → TellsDownTo counts log [] v → AreOpen counts log v
  open_found counts v tells o = let now : slice_index v.open_takes.items o + kept_takes counts o log ≡ takes o log + 0 = tells.opened o in omega (arith, now)

  module _ (rs left_of : List LaneRecord) (from left : ℕ) (stays : IsLeft a rs left_of from left) where
    pub left_log : log_from left_of ≡ records_left a.counted log
    left_log = ap log_from stays.items ∙ stays.gone

    pub left_long : length left_of ≡ left
    left_long = ap (λ (xs : List LaneRecord). length xs) stays.items ∙ length-take-le left rs (omega (arith, stays.within, stays.size))

    pub same_before : (k : ℕ) (d : LaneRecord) → k < from → get_or left_of k d ≡ get_or a.beyond.items k d
    same_before k d lt = ap (λ (xs : List LaneRecord). get_or xs k d) stays.items ∙ get_or-take left rs k d (omega (arith, lt, stays.front)) ∙ sym (get_or-take from rs k d lt) ∙ ap (λ (xs : List LaneRecord). get_or xs k d) stays.before
        ∙ get_or-take from a.beyond.items k d lt

    pub fronts_before : (l k : ℕ) (d : LaneRecord) → l < 32 → k < slice_index a.fronts l → k < from → (get_or left_of k d).lane.0 ≢ l
    fronts_before l k d under lt early e = sound.fronts l k d under lt (ap (λ (x : LaneRecord). x.lane.0) (sym (same_before k d early)) ∙ e)

    pub left_fits : All (FitsLane a.lanes (length a.found.first.items) (length a.kept.items)) left_of
    left_fits = from_log a.lanes (length a.found.first.items) (length a.kept.items) left_of (subst (EachFits a.lanes (length a.found.first.items) (length a.kept.items)) (sym left_log)
        (fits_left a.lanes (length a.found.first.items) (length a.kept.items) a.counted log (to_log a.lanes (length a.found.first.items) (length a.kept.items) a.beyond.items sound.fits)))

    pub left_lanes : All HasLane left_of
    left_lanes = has_lanes (length a.found.first.items) (length a.kept.items) left_of (lane_low a.lanes (length a.found.first.items) (length a.kept.items) left_of sound.lanes left_fits)

    pub left_many : (now : List ℕ) → ((l : ℕ) → l < 32 → slice_index now l ≡ slice_index a.many l - slice_index a.counted l) → Counts now (log_from left_of)
    left_many now are = subst (Counts now) (sym left_log) (counts_left a.many a.counted log now sound.many are)

    pub left_open : (zeros : List ℕ) → ((l : ℕ) → slice_index zeros l ≡ 0) → AreOpen zeros (log_from left_of) a.found
    left_open zeros none = subst (λ (xs : List (ℕ × Record)). AreOpen zeros xs a.found) (sym left_log) (λ o. open_left a.counted zeros o log (slice_index a.found.open_takes.items o) none (sound.opened o))
