-- Steps and their sections, as a list grows at its end.
use Rattle.std.proofs.Common.{ℕ, zero, suc, take-append-drop, ◌≡◌, ◌+◌, ◌<◌, ◌≤◌, ◌==◌, if◌then◌else◌, nat_le, Bool, List, [], ◌∷◌, ◌++◌, length, get_or, take, drop, map, reverse, Contains, All, inl, inr, refl, sym, ap, ◌∙◌, subst, arith}
use Rattle.std.proofs.lemmas.List.{take_more, take_all, reverse-append, reverse-reverse, map-append, get_or_past}
use Rattle.std.proofs.lemmas.List.Elements.{Contains-append_left, Contains-append_right, Contains-append_cases, All-append}
use Rattle.std.proofs.lemmas.Bool.{cases_lt, ne_eqb}
use Rattle.heap_model.specs.declared.record.Record.{Record}
use Rattle.heap_model.specs.declared.record.Record.TheVariants.{Acq, Rel, WaitRel, Put}
use Rattle.heap_model.specs.declared.record.LaneRecord.{LaneRecord}
use Rattle.heap_model.specs.declared.cut.Cut.{Cut}
use Rattle.law_cuts.specs.declared.step.Step.{Step}
use Rattle.heap_model.specs.Log.{lane, log_from}
use Rattle.heap_model.specs.Sections.{action, actions, ended}
use Rattle.heap_model.specs.Cuts.{is_counted, counts_of, IsStable}
use Rattle.heap_model.specs.KeptHeap.{kept_value}
use Rattle.law_cuts.specs.Plain.{steps_log, HasSections, stored, counts, reading, IsNumbered, IsGreatest}
use Rattle.law_cuts.proofs.PlainStable.{plain_stable}

-- a record of a log
abbrev pub logged_as : LaneRecord → ℕ × Record
logged_as e = (e.lane.0, e.record)

abbrev pub entry_of : Step → LaneRecord
entry_of s = s.entry

pub log_push : (entries : List LaneRecord) (e : LaneRecord) → log_from (entries ++ e ∷ []) ≡ logged_as e ∷ log_from entries
log_push entries e = ap (map logged_as) (reverse-append entries (e ∷ []))

pub log_more : (entries : List LaneRecord) (i : ℕ) (e : LaneRecord) → i < length entries → log_from (take (i + 1) entries) ≡ logged_as (get_or entries i e) ∷ log_from (take i entries)
log_more entries i e lt = ap log_from (take_more entries i e lt) ∙ log_push (take i entries) (get_or entries i e)

pub steps_log_from : (steps : List Step) → steps_log (reverse steps) ≡ log_from (map entry_of steps)
steps_log_from [] = refl
steps_log_from (s ∷ steps) =
    ap steps_log (reverse-append (s ∷ []) steps)
    ∙ map-append (λ (x : Step). logged_as x.entry) (reverse steps) (s ∷ [])
    ∙ ap (λ (log : List (ℕ × Record)). log ++ logged_as s.entry ∷ []) (steps_log_from steps)
    ∙ sym (map-append logged_as (reverse (map entry_of steps)) (s.entry ∷ []))
    ∙ ap (map logged_as) (sym (reverse-append (s.entry ∷ []) (map entry_of steps)))

pub sections_push : (steps : List Step) (s : Step) → HasSections (reverse steps) → s.section ≡ ended (lane s.entry.lane.0 (actions (log_from (map entry_of steps)))) + 1 → HasSections (reverse (steps ++ s ∷ []))
sections_push steps s before e =
    subst HasSections (sym (reverse-append steps (s ∷ []))) (e ∙ ap (λ (log : List (ℕ × Record)). ended (lane s.entry.lane.0 (actions log)) + 1) (sym (steps_log_from steps)), before)

sections_older : (newer older : List Step) → HasSections (newer ++ older) → HasSections older
sections_older [] older h = h
sections_older (s ∷ newer) older h = sections_older newer older h.1

pub reverse_more : (steps : List Step) (i : ℕ) (s : Step) → i < length steps → reverse (take (i + 1) steps) ≡ get_or steps i s ∷ reverse (take i steps)
reverse_more steps i s lt = ap reverse (take_more steps i s lt) ∙ reverse-append (take i steps) (get_or steps i s ∷ [])

reverse_split : (steps : List Step) (i : ℕ) (s : Step) → i < length steps → reverse steps ≡ reverse (drop (i + 1) steps) ++ get_or steps i s ∷ reverse (take i steps)
reverse_split steps i s lt =
    ap reverse (sym (take-append-drop (i + 1) steps))
    ∙ reverse-append (take (i + 1) steps) (drop (i + 1) steps)
    ∙ ap (λ (xs : List Step). reverse (drop (i + 1) steps) ++ xs) (reverse_more steps i s lt)

pub section_at : (steps : List Step) (i : ℕ) (s : Step) → i < length steps → get_or steps i s ≡ s → HasSections (reverse steps) → s.section ≡ ended (lane s.entry.lane.0 (actions (steps_log (reverse (take i steps))))) + 1
section_at steps i s lt e h =
    let here : HasSections (get_or steps i s ∷ reverse (take i steps)) = sections_older (reverse (drop (i + 1) steps)) _ (subst HasSections (reverse_split steps i s lt) h) in
    (subst (λ x. HasSections (x ∷ reverse (take i steps))) e here).0

-- a field's kept value after one record more
kept_step : (first cut : ℕ → ℕ) (f l : ℕ) (r : Record) (older : List (ℕ × Record)) → kept_value first cut f ((l, r) ∷ older) ≡ stored (is_counted cut l (actions older)) r (λ g. kept_value first cut g older) f
kept_step first cut f l (Acq o n) older = refl
kept_step first cut f l (Rel o n) older = refl
kept_step first cut f l (WaitRel o n) older = refl
kept_step first cut f l (Put g before after) older = refl

stored_same : (kept : Bool) (r : Record) (heap other : ℕ → ℕ) (f : ℕ) → heap f ≡ other f → stored kept r heap f ≡ stored kept r other f
stored_same kept (Acq o n) heap other f e = e
stored_same kept (Rel o n) heap other f e = e
stored_same kept (WaitRel o n) heap other f e = e
stored_same kept (Put g before after) heap other f e = ap (λ v. if g.0 == f then (if kept then after else v) else v) e

pub kept_more : (first cut heap : ℕ → ℕ) (f i : ℕ) (steps : List Step) (s : Step) → i < length steps → get_or steps i s ≡ s → HasSections (reverse steps) →
    heap f ≡ kept_value first cut f (steps_log (reverse (take i steps))) →
    stored (counts reading cut s) s.entry.record heap f ≡ kept_value first cut f (steps_log (reverse (take (i + 1) steps)))
kept_more first cut heap f i steps s lt e h was =
    let older : List (ℕ × Record) = steps_log (reverse (take i steps)) in
    let before : ℕ = ended (lane s.entry.lane.0 (actions (steps_log (reverse (take i steps))))) in
    let up : before + 1 ≡ suc before = omega arith in
    let test : counts reading cut s ≡ is_counted cut s.entry.lane.0 (actions (steps_log (reverse (take i steps)))) = ap (λ n. nat_le n (cut s.entry.lane.0)) (section_at steps i s lt e h ∙ up) in
    ap (λ b. stored b s.entry.record heap f) test
    ∙ stored_same _ s.entry.record heap (λ g. kept_value first cut g (steps_log (reverse (take i steps)))) f was
    ∙ sym (kept_step first cut f s.entry.lane.0 s.entry.record (steps_log (reverse (take i steps))))
    ∙ ap (λ (xs : List Step). kept_value first cut f (steps_log xs)) (ap (λ x. x ∷ reverse (take i steps)) (sym e) ∙ sym (reverse_more steps i s lt))

pub sections_numbered : (steps : List Step) → HasSections steps → IsNumbered reading steps (actions (steps_log steps))
sections_numbered [] h = tt
sections_numbered (s ∷ older) h = ((λ i. record { lane = s.entry.lane.0; number = h.0 i }), refl, sections_numbered older h.1)

-- once the steps are all there
pub kept_all : (first cut : ℕ → ℕ) (f n : ℕ) (steps : List Step) → length steps ≤ n → kept_value first cut f (steps_log (reverse (take n steps))) ≡ kept_value first cut f (steps_log (reverse steps))
kept_all first cut f n steps le = ap (λ (xs : List Step). kept_value first cut f (steps_log (reverse xs))) (take_all n steps le)

-- what the steps keep, their records do
pub steps_kept : (first cut : ℕ → ℕ) (f : ℕ) (steps : List Step) (records : List LaneRecord) → map entry_of steps ≡ records → kept_value first cut f (steps_log (reverse steps)) ≡ kept_value first cut f (log_from records)
steps_kept first cut f steps records e = ap (kept_value first cut f) (steps_log_from steps ∙ ap log_from e)

contains_reverse : (steps : List Step) (s : Step) → Contains steps s → Contains (reverse steps) s
contains_reverse [] s h = absurd (omega (arith, h.1))
contains_reverse (x ∷ steps) s h =
    subst (λ xs. Contains xs s) (sym (reverse-append (x ∷ []) steps))
    (elim (Contains-append_cases (x ∷ []) steps s h) [
      | inl i ↦ Contains-append_right (reverse steps) (x ∷ []) s i
      | inr i ↦ Contains-append_left (reverse steps) (x ∷ []) s (contains_reverse steps s i)
    ])

contains_back : (steps : List Step) (s : Step) → Contains (reverse steps) s → Contains steps s
contains_back steps s h = subst (λ xs. Contains xs s) (reverse-reverse steps) (contains_reverse (reverse steps) s h)

-- the order of the steps doesn't matter
pub greatest_reverse : (steps : List Step) (whole cut : ℕ → ℕ) → IsGreatest reading steps whole cut → IsGreatest reading (reverse steps) whole cut
greatest_reverse steps whole cut g = record {
  below = g.below;
  closed = λ s t here there. g.closed s t (contains_back steps s here) (contains_back steps t there);
  greatest = λ other le closed. g.greatest other le (λ s t here there. closed s t (contains_reverse steps s here) (contains_reverse steps t there));
}

-- the plain search finds the stable cut
pub search_stable : (records : List LaneRecord) (steps : List Step) (whole cut : ℕ → ℕ) → map entry_of steps ≡ records → HasSections (reverse steps) →
    ((l : ℕ) → whole l ≡ ended (lane l (actions (log_from records)))) → IsGreatest reading steps whole cut → IsStable (actions (log_from records)) cut
search_stable records steps whole cut e sections all greatest =
    subst (λ log. IsStable (actions log) cut) (steps_log_from steps ∙ ap log_from e)
    (plain_stable reading (actions (steps_log (reverse steps))) (reverse steps) cut (sections_numbered (reverse steps) sections)
    (let g : IsGreatest reading (reverse steps) whole cut = greatest_reverse steps whole cut greatest in
    let same : (l : ℕ) → whole l ≡ ended (lane l (actions (steps_log (reverse steps)))) = λ l. all l ∙ ap (λ (log : List (ℕ × Record)). ended (lane l (actions log))) (sym (steps_log_from steps ∙ ap log_from e)) in
    record {
      below = λ l. subst (λ n. cut l ≤ n) (same l) (g.below l);
      closed = g.closed;
      greatest = λ other le. g.greatest other (λ l. subst (λ n. other l ≤ n) (sym (same l)) (le l));
    }))

-- a lane that has no records has no sections
no_lane : (l : ℕ) (entries : List LaneRecord) → All (λ e. e.lane.0 < 32) entries → 32 ≤ l → lane l (actions (map logged_as entries)) ≡ []
no_lane l [] all le = refl
no_lane l (e ∷ entries) all le =
    let here : e.lane.0 < 32 = all 0 e (omega arith) in
    ap (λ b. if b then action e.record ∷ lane l (actions (map logged_as entries)) else lane l (actions (map logged_as entries))) (ne_eqb e.lane.0 l (λ same. omega arith))
    ∙ no_lane l entries (λ k d lt. all (suc k) d (omega arith)) le

all_reverse : (P : LaneRecord → Type 0) (entries : List LaneRecord) → All P entries → All P (reverse entries)
all_reverse P [] all = all
all_reverse P (e ∷ entries) all =
    subst (All P) (sym (reverse-append (e ∷ []) entries)) (All-append P (reverse entries) (e ∷ []) (all_reverse P entries (λ k d lt. all (suc k) d (omega arith))) (λ k d lt. first k d lt (all 0 e (omega arith))))
  where
    first : (k : ℕ) (d : LaneRecord) → k < 1 → P e → P (get_or (e ∷ []) k d)
    first zero d lt h = h
    first (suc k) d lt h = absurd (omega arith)

pub whole_all : (records : List LaneRecord) (cut : Cut) → length cut.counts ≡ 32 → All (λ e. e.lane.0 < 32) records →
    ((l : ℕ) → l < 32 → counts_of cut l ≡ ended (lane l (actions (log_from records)))) → (l : ℕ) → counts_of cut l ≡ ended (lane l (actions (log_from records)))
whole_all records cut long all below l = elim (cases_lt l 32) [
  | inl lt ↦ below l lt
  | inr le ↦ get_or_past cut.counts l 0 (omega arith) ∙ sym (ap ended (no_lane l (reverse records) (all_reverse (λ e. e.lane.0 < 32) records all) le))
]

pub entries_push : (records : List LaneRecord) (i : ℕ) (steps : List Step) (s : Step) (d : LaneRecord) → i < length records → map entry_of steps ≡ take i records → s.entry ≡ get_or records i d → map entry_of (steps ++ s ∷ []) ≡ take (i + 1) records
entries_push records i steps s d lt e at =
    map-append entry_of steps (s ∷ []) ∙ (λ j. e j ++ at j ∷ []) ∙ sym (take_more records i d lt)
