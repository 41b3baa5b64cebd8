-- What a cut of a log is in a longer one.
use Rattle.std.proofs.Common.{◌≡◌, inl, inr, ℕ, ◌+◌, ◌≤◌, if◌then◌else◌, true, false, List, [], ◌∷◌, ◌++◌, length, map, reverse, refl, sym, ◌∙◌, ap, subst, arith}
use Rattle.std.proofs.lemmas.Bool.{le-ltb}
use Rattle.std.proofs.lemmas.Bool.Decides.{eqb_tells}
use Rattle.std.proofs.lemmas.List.{map-append, reverse-append}
use Rattle.heap_model.specs.declared.record.Record.{Record}
use Rattle.heap_model.specs.declared.record.Record.TheVariants.{Acq, Rel, WaitRel, Put}
use Rattle.heap_model.specs.declared.record.UndoRecord.{UndoRecord}
use Rattle.heap_model.specs.Record.{undo_of}
use Rattle.heap_model.specs.Setting.{Setting}
use Rattle.heap_model.specs.Log.{lane, number, value, IsLegal}
use Rattle.heap_model.specs.Sections.{actions, ended, undo_action}
use Rattle.heap_model.specs.Cuts.{IsWhole}
use Rattle.heap_model.specs.KeptHeap.{kept_value}
use Rattle.heap_model.specs.Base.{records_since}
use Rattle.law_cuts.proofs.Stores.{HasStore, has_more, has_less, ended_rises}
use Rattle.law_histories.proofs.Order.{kept_is_last, last_elsewhere, last_once}
use Rattle.law_cuts.proofs.Next.{legal_before}
use Rattle.law_cuts.proofs.Lanes.{ended_in_lane, ended_grown, lane_append}
use Rattle.image_parts.specs.declared.layout.Layout.{Layout}
use Rattle.undo_log.specs.Area.{HasRecords}
use Rattle.undo_log.specs.Dropped.{undo_logs, records_in, IsDropped}
use Rattle.undo_log.specs.OldValues.{OldValue, HasOld}
use Rattle.undo_log.proofs.Back.{old_older, stands_here}
use Rattle.heap_model.specs.Past.{has_store}
use Rattle.store_image.proofs.Places.{ended_undo, past_sections}

-- the stores that were there are there

old_more : (o f l : ℕ) (newer log : List (ℕ × Record)) (k : OldValue) → HasOld o f (undo_logs log l) k → HasOld o f (undo_logs (newer ++ log) l) k
old_more o f l [] log k h = h
old_more o f l ((m, r) ∷ newer) log k h = old_older o f l m r (newer ++ log) k (old_more o f l newer log k h)

pub dropped_more : (o f : ℕ) (newer log : List (ℕ × Record)) (cut : ℕ → ℕ) → IsDropped o f log cut → IsDropped o f (newer ++ log) cut
dropped_more o f newer log cut d = record { lane = d.lane; store = d.store; logged = old_more o f d.lane newer log d.store d.logged; beyond = d.beyond }

ended_after : (newer log : List (ℕ × Record)) (l : ℕ) → ended (lane l (actions log)) ≤ ended (lane l (actions (newer ++ log)))
ended_after newer log l = omega (arith, ended_grown newer log l, ended_in_lane l log, ended_in_lane l (newer ++ log))

-- the heap that a cut keeps is the same in a longer log
pub kept_grown : (s : Setting) (newer log : List (ℕ × Record)) (cut : ℕ → ℕ) (f : ℕ) → IsLegal s (newer ++ log) → IsWhole (actions log) cut →
    kept_value s.first cut f log ≡ kept_value s.first cut f (newer ++ log)
kept_grown s newer log cut f legal whole =
    last_once (s.guard f) f (λ l. lane l (newer ++ log)) cut (s.first f) _ _
    (last_elsewhere (s.guard f) f (λ l. lane l log) (λ l. lane l (newer ++ log)) cut (s.first f) _
    (λ l k h le. subst (λ x. HasStore (s.guard f) f x k) (sym (lane_append l newer log)) (has_more (s.guard f) f (lane l newer) (lane l log) k h))
    (λ l k h le. has_less (s.guard f) f (lane l newer) (lane l log) k (subst (λ x. HasStore (s.guard f) f x k) (lane_append l newer log) h)
    (omega (arith, whole l, ended_in_lane l log)))
    (kept_is_last s log cut f (legal_before s newer log legal)))
    (kept_is_last s (newer ++ log) cut f legal)

-- a store that is newer than the log lies beyond each of its cuts
pub newer_dropped : (s : Setting) (newer log : List (ℕ × Record)) (cut : ℕ → ℕ) (f : ℕ) → IsLegal s (newer ++ log) → IsWhole (actions log) cut → has_store f newer ≡ true → IsDropped (s.guard f) f (newer ++ log) cut
newer_dropped s [] log cut f legal whole is = absurd (let no : false ≡ true = is in cc)
newer_dropped s ((m, Acq o n) ∷ newer) log cut f legal whole is = dropped_more (s.guard f) f ((m, Acq o n) ∷ []) (newer ++ log) cut (newer_dropped s newer log cut f legal.0 whole is)
newer_dropped s ((m, Rel o n) ∷ newer) log cut f legal whole is = dropped_more (s.guard f) f ((m, Rel o n) ∷ []) (newer ++ log) cut (newer_dropped s newer log cut f legal.0 whole is)
newer_dropped s ((m, WaitRel o n) ∷ newer) log cut f legal whole is = dropped_more (s.guard f) f ((m, WaitRel o n) ∷ []) (newer ++ log) cut (newer_dropped s newer log cut f legal.0 whole is)
newer_dropped s ((m, Put g before after) ∷ newer) log cut f legal whole is = elim (eqb_tells g.0 f) [
  | inl e ↦
      let store : OldValue = record {
        number = number (s.guard f) (newer ++ log);
        place = length (undo_logs (newer ++ log) m);
        section = ended (map undo_action (undo_logs (newer ++ log) m)) + 1;
        before = before;
      } in
      record {
        lane = m;
        store = store;
        logged = stands_here s (newer ++ log) cut f m g before after legal e.1;
        beyond = omega (arith, ended_undo (newer ++ log) m, ended_after newer log m, whole m);
      }
  | inr e ↦ dropped_more (s.guard f) f ((m, Put g before after) ∷ []) (newer ++ log) cut
      (newer_dropped s newer log cut f legal.0 whole (subst (λ b. (if b then true else has_store f newer) ≡ true) e.0 is))
]

-- without one the value is the same
pub value_grown : (first : ℕ → ℕ) (newer log : List (ℕ × Record)) (f : ℕ) → has_store f newer ≡ false → value first f (newer ++ log) ≡ value first f log
value_grown first [] log f is = refl
value_grown first ((m, Acq o n) ∷ newer) log f is = value_grown first newer log f is
value_grown first ((m, Rel o n) ∷ newer) log f is = value_grown first newer log f is
value_grown first ((m, WaitRel o n) ∷ newer) log f is = value_grown first newer log f is
value_grown first ((m, Put g before after) ∷ newer) log f is = elim (eqb_tells g.0 f) [
  | inl e ↦ absurd (let no : true ≡ false = subst (λ b. (if b then true else has_store f newer) ≡ false) e.0 is in cc)
  | inr e ↦ ap (λ b. if b then after else value first f (newer ++ log)) e.0 ∙ value_grown first newer log f (subst (λ b. (if b then true else has_store f newer) ≡ false) e.0 is)
]

-- a lane's undo log is longer by the lane's new records
pub undo_append : (newer log : List (ℕ × Record)) (l : ℕ) → undo_logs (newer ++ log) l ≡ undo_logs newer l ++ undo_logs log l
undo_append newer log l = ap (map undo_of) (lane_append l newer log) ∙ map-append undo_of (lane l newer) (lane l log)

ended_up : (ys xs : List UndoRecord) → ended (map undo_action xs) ≤ ended (map undo_action (ys ++ xs))
ended_up [] xs = omega arith
ended_up (y ∷ ys) xs = omega (arith, ended_up ys xs, ended_rises (undo_action y) (map undo_action (ys ++ xs)))

in_more : (n : ℕ) (ys xs : List UndoRecord) → n ≤ ended (map undo_action xs) → records_in n (ys ++ xs) ≡ records_in n xs
in_more n [] xs le = refl
in_more n (y ∷ ys) xs le = past_sections n y (ys ++ xs) (omega (arith, le, ended_up ys xs)) ∙ in_more n ys xs le

-- the places behind its whole sections are the same
pub places_grown : (n : ℕ) (newer log : List (ℕ × Record)) (l : ℕ) → n ≤ ended (lane l (actions log)) → records_in n (undo_logs (newer ++ log) l) ≡ records_in n (undo_logs log l)
places_grown n newer log l le = ap (records_in n) (undo_append newer log l) ∙ in_more n (undo_logs newer l) (undo_logs log l) (omega (arith, le, ended_undo log l))

-- and new records come after a base of whole sections
pub since_grown : (base : ℕ → ℕ) (newer log : List (ℕ × Record)) → IsWhole (actions log) base → records_since base (newer ++ log) ≡ newer ++ records_since base log
since_grown base [] log whole = refl
since_grown base ((m, r) ∷ newer) log whole =
    ap (λ b. if b then records_since base (newer ++ log) else (m, r) ∷ records_since base (newer ++ log)) (le-ltb _ _ (omega (arith, whole m, ended_after newer log m)))
    ∙ (λ i. (m, r) ∷ since_grown base newer log whole i)

-- the live records of a lane, the oldest first: those that were live, and then the new ones
pub live_grown : (base : ℕ → ℕ) (newer log : List (ℕ × Record)) (l : ℕ) → IsWhole (actions log) base
    → reverse (undo_logs (records_since base (newer ++ log)) l) ≡ reverse (undo_logs (records_since base log) l) ++ reverse (undo_logs newer l)
live_grown base newer log l whole =
    ap (λ (xs : List (ℕ × Record)). reverse (undo_logs xs l)) (since_grown base newer log whole)
    ∙ ap (λ (xs : List UndoRecord). reverse xs) (undo_append newer (records_since base log) l)
    ∙ reverse-append (undo_logs newer l) (undo_logs (records_since base log) l)

-- records, and others behind them
pub has_append : (l : Layout) (k place : ℕ) (image : List ℕ) (xs ys : List UndoRecord) → HasRecords l k place image xs → HasRecords l k (place + length xs) image ys → HasRecords l k place image (xs ++ ys)
has_append l k place image [] ys a b =
    let here : place + 0 ≡ place = omega arith in
    subst (λ (at : ℕ). HasRecords l k at image ys) here b
has_append l k place image (x ∷ xs) ys a b =
    let here : place + length (x ∷ xs) ≡ place + 1 + length xs = omega arith in
    (a.0, has_append l k (place + 1) image xs ys a.1 (subst (λ (at : ℕ). HasRecords l k at image ys) here b))
