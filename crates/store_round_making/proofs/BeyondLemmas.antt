-- The records beyond a cut: what is put back, and which takes an object first.
use Rattle.std.proofs.Common.{ℕ, zero, suc, ◌≡◌, ◌+◌, ◌-◌, ◌<◌, ◌≤◌, ◌==◌, if◌then◌else◌, true, false, List, [], ◌∷◌, ◌++◌, length, map, get_or, reverse, take, drop, Option, Some, None, append_assoc, refl, sym, ap, ◌∙◌, arith}
use Rattle.std.proofs.lemmas.List.{get_or-reverse, length-map, length-reverse, map-append, reverse-append, take_all, take_more}
use Rattle.std.proofs.Math.Seq.{split_at}
use Rattle.heap_model.specs.declared.record.LaneRecord.{LaneRecord}
use Rattle.heap_model.specs.declared.record.Record.{Record}
use Rattle.heap_model.specs.declared.record.Record.TheVariants.{Acq, Rel, WaitRel, Put}
use Rattle.heap_model.specs.Base.{records_since}
use Rattle.heap_model.specs.Cuts.{IsClosed, is_counted}
use Rattle.heap_model.specs.KeptHeap.{put_back}
use Rattle.heap_model.specs.Log.{IsLegal, log_from, value}
use Rattle.heap_model.specs.Sections.{actions}
use Rattle.heap_model.specs.Setting.{Setting}
use Rattle.law_histories.proofs.Undo.{undo_is_kept}
use Rattle.store_helper_sections.specs.HelperSections.{earlier, first_taken}
use Rattle.store_helper_sections.specs.Image.{kept_by}
use Rattle.store_round_making.specs.Beyond.{put_all_back, taken_by}

-- some records, and then older ones
back_append : (f v : ℕ) (xs ys : List (ℕ × Record)) → put_all_back f v (xs ++ ys) ≡ put_all_back f (put_all_back f v xs) ys
back_append f v [] ys = refl
back_append f v ((l, Acq o n) ∷ xs) ys = back_append f v xs ys
back_append f v ((l, Rel o n) ∷ xs) ys = back_append f v xs ys
back_append f v ((l, WaitRel o n) ∷ xs) ys = back_append f v xs ys
back_append f v ((l, Put g before after) ∷ xs) ys = back_append f (if g.0 == f then before else v) xs ys

abbrev pair : LaneRecord → ℕ × Record
pair e = (e.lane.0, e.record)

pair_at : (xs : List LaneRecord) (i : ℕ) (d : LaneRecord) → i < length xs → get_or (map pair xs) i (pair d) ≡ pair (get_or xs i d)
pair_at [] i d lt = absurd (omega (arith, lt))
pair_at (x ∷ xs) zero d lt = refl
pair_at (x ∷ xs) (suc i) d lt = pair_at xs i d (omega (arith, lt))

pub back_next : (f : ℕ) (beyond : List LaneRecord) (n : ℕ) (d : LaneRecord) (v : ℕ) → n < length beyond → {now before : ℕ} →
    now ≡ put_all_back f before (pair (get_or beyond (length beyond - 1 - n) d) ∷ []) → before ≡ put_all_back f v (take n (log_from beyond)) → now ≡ put_all_back f v (take (n + 1) (log_from beyond))
back_next f beyond n d v lt {now} {before} is was =
    let low : n < length (reverse beyond) = omega (arith, lt, length-reverse beyond) in
    let at : get_or (log_from beyond) n (pair d) ≡ pair (get_or beyond (length beyond - 1 - n) d) = pair_at (reverse beyond) n d low ∙ ap pair (get_or-reverse beyond n d lt) in
    let more : take (n + 1) (log_from beyond) ≡ take n (log_from beyond) ++ pair (get_or beyond (length beyond - 1 - n) d) ∷ [] =
    take_more (log_from beyond) n (pair d) (omega (arith, low, length-map (reverse beyond) pair)) ∙ ap (λ (x : ℕ × Record). take n (log_from beyond) ++ x ∷ []) at in
    is ∙ ap (λ (w : ℕ). put_all_back f w (pair (get_or beyond (length beyond - 1 - n) d) ∷ [])) was
    ∙ sym (back_append f v (take n (log_from beyond)) (pair (get_or beyond (length beyond - 1 - n) d) ∷ [])) ∙ ap (put_all_back f v) (sym more)

-- what a cut drops is what is beyond it
back_since : (cut : ℕ → ℕ) (f v : ℕ) (log : List (ℕ × Record)) → put_all_back f v (records_since cut log) ≡ put_back cut f v log
back_since cut f v [] = refl
back_since cut f v ((l, Acq o n) ∷ older) = elim (is_counted cut l (actions older)) as (λ b. put_all_back f v (if b then records_since cut older else (l, Acq o n) ∷ records_since cut older) ≡ put_back cut f v older) [ true ↦ back_since cut f v older | false ↦ back_since cut f v older ]
back_since cut f v ((l, Rel o n) ∷ older) = elim (is_counted cut l (actions older)) as (λ b. put_all_back f v (if b then records_since cut older else (l, Rel o n) ∷ records_since cut older) ≡ put_back cut f v older) [ true ↦ back_since cut f v older | false ↦ back_since cut f v older ]
back_since cut f v ((l, WaitRel o n) ∷ older) = elim (is_counted cut l (actions older)) as (λ b. put_all_back f v (if b then records_since cut older else (l, WaitRel o n) ∷ records_since cut older) ≡ put_back cut f v older) [ true ↦ back_since cut f v older | false ↦ back_since cut f v older ]
back_since cut f v ((l, Put g before after) ∷ older) =
    elim (is_counted cut l (actions older)) as (λ b. put_all_back f v (if b then records_since cut older else (l, Put g before after) ∷ records_since cut older) ≡ put_back cut f (if g.0 == f then (if b then v else before) else v) older) [
      | true ↦ back_since cut f v older ∙ ap (λ (w : ℕ). put_back cut f w older) (elim (g.0 == f) as (λ b. v ≡ (if b then v else v)) [ true ↦ refl | false ↦ refl ])
      | false ↦ back_since cut f (if g.0 == f then before else v) older
    ]

pub all_back : (s : Setting) (log : List (ℕ × Record)) (cut : ℕ → ℕ) (f : ℕ) (beyond : List LaneRecord) (n v : ℕ) → IsLegal s log → IsClosed (actions log) cut → log_from beyond ≡ records_since cut log →
    length beyond ≤ n → v ≡ value s.first f log → (now : ℕ) → now ≡ put_all_back f v (take n (log_from beyond)) → now ≡ kept_by s log cut f
all_back s log cut f beyond n v legal closed is long at now was =
    let all : take n (log_from beyond) ≡ records_since cut log = take_all n (log_from beyond) (omega (arith, long, length-map (reverse beyond) pair, length-reverse beyond)) ∙ is in
    was ∙ ap (put_all_back f v) all ∙ back_since cut f v log ∙ ap (λ (w : ℕ). put_back cut f w log) at ∙ undo_is_kept s log cut f legal closed

-- which takes an object first
none_later : (v : Option ℕ) → v ≡ earlier v None
none_later None = refl
none_later (Some n) = refl

first_step : (o l : ℕ) (r : Record) (older : List (ℕ × Record)) → first_taken o ((l, r) ∷ older) ≡ earlier (first_taken o older) (taken_by r o)
first_step o l (Acq p n) older = refl
first_step o l (Rel p n) older = none_later (first_taken o older)
first_step o l (WaitRel p n) older = none_later (first_taken o older)
first_step o l (Put f v w) older = none_later (first_taken o older)

first_more : (o n : ℕ) (newer older : List (ℕ × Record)) → first_taken o older ≡ Some n → first_taken o (newer ++ older) ≡ Some n
first_more o n [] older is = is
first_more o n ((l, r) ∷ newer) older is = first_step o l r (newer ++ older) ∙ ap (λ (v : Option ℕ). earlier v (taken_by r o)) (first_more o n newer older is)

log_append : (xs ys : List LaneRecord) → log_from (xs ++ ys) ≡ log_from ys ++ log_from xs
log_append xs ys = ap (map pair) (reverse-append xs ys) ∙ map-append pair (reverse ys) (reverse xs)

pub none_next : (o : ℕ) (beyond : List LaneRecord) (i : ℕ) (d : LaneRecord) → i < length beyond → first_taken o (log_from (take i beyond)) ≡ None → taken_by (get_or beyond i d).record o ≡ None →
    first_taken o (log_from (take (i + 1) beyond)) ≡ None
none_next o beyond i d lt none not =
    let e : LaneRecord = get_or beyond i d in
    ap (λ (xs : List LaneRecord). first_taken o (log_from xs)) (take_more beyond i d lt) ∙ ap (first_taken o) (log_append (take i beyond) (e ∷ []))
    ∙ first_step o e.lane.0 e.record (log_from (take i beyond)) ∙ (λ j. earlier (none j) (not j))

pub first_found : (o n : ℕ) (beyond : List LaneRecord) (i : ℕ) (d : LaneRecord) → i < length beyond → first_taken o (log_from (take i beyond)) ≡ None → taken_by (get_or beyond i d).record o ≡ Some n →
    Some n ≡ first_taken o (log_from beyond)
first_found o n beyond i d lt none some =
    let e : LaneRecord = get_or beyond i d in
    let split : beyond ≡ take i beyond ++ e ∷ drop (suc i) beyond = split_at beyond i d lt in
    let here : first_taken o (pair e ∷ log_from (take i beyond)) ≡ Some n = first_step o e.lane.0 e.record (log_from (take i beyond)) ∙ (λ j. earlier (none j) (some j)) in
    let parts : log_from beyond ≡ log_from (drop (suc i) beyond) ++ pair e ∷ log_from (take i beyond) =
    ap log_from split ∙ log_append (take i beyond) (e ∷ drop (suc i) beyond) ∙ ap (λ (xs : List (ℕ × Record)). xs ++ log_from (take i beyond)) (log_append (e ∷ []) (drop (suc i) beyond))
    ∙ append_assoc (log_from (drop (suc i) beyond)) (pair e ∷ []) (log_from (take i beyond)) in
    sym (ap (first_taken o) parts ∙ first_more o n (log_from (drop (suc i) beyond)) (pair e ∷ log_from (take i beyond)) here)
