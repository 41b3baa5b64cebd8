-- Lanes at rest where they are settled, and what the three tests of the logs say of them.
use Rattle.std.proofs.Common.{ℕ, zero, suc, ◌≡◌, ◌+◌, ◌<◌, ◌≤◌, List, [], ◌∷◌, length, map, take, refl, sym, ap, ◌∙◌, subst, inl, inr, arith, Vec, Global, Option}
use Rattle.std.proofs.lemmas.Bool.{cases_lt}
use Rattle.std.proofs.lemmas.List.{reverse-reverse, length-reverse}
use Rattle.heap_model.specs.Log.{lane}
use Rattle.heap_model.specs.Sections.{undo_action, holding, ended}
use Rattle.heap_model.specs.declared.ids.ObjectId.{ObjectId}
use Rattle.heap_model.specs.declared.record.UndoRecord.{UndoRecord}
use Rattle.heap_model.specs.declared.record.UndoRecord.TheVariants.{Acq}
use Rattle.recover_logs.specs.declared.error.LogsError.{LogsError}
use Rattle.recover_logs.specs.declared.error.LogsError.TheVariants.{IllegalLog, NoMemory}
use Rattle.recover_logs.specs.Logs.{lanes_of, records_of}
use Rattle.recover_logs.specs.Replay.{IsDone, Replays, RefusesReplay}
use Rattle.recover_logs.specs.Settled.{settled_records, IsAtRest, HasAt, TakesUnsettled, IsLeastUnsettled, Stuck, RefusesLegal}
use Rattle.recover_logs.specs.Crossings.{Crosses, IsLeastCrossing}
use Rattle.recover_logs.specs.Tally.{FreesHeld, acts_of, IsRestAfter}
use Rattle.recover_logs.proofs.LaneLemmas.{records_past}
use Rattle.recover_logs.proofs.TallyLemmas.{frees_held}
use Rattle.recover_logs.proofs.CrossingLemmas.{crosses_takes, takes_crosses}

-- the settled records of a lane are the first of those that were read
settled_first : (settled : ℕ → ℕ) (logs : List (Vec UndoRecord Global)) (l : ℕ) → acts_of (take (settled l) (records_of logs l)) ≡ map undo_action (settled_records settled (lanes_of logs) l)
settled_first settled logs l = ap (λ (xs : List UndoRecord). acts_of (take (settled l) xs)) (sym (reverse-reverse (records_of logs l)))

empty : {A : Type 0} (xs : List A) → length xs ≡ 0 → xs ≡ []
empty [] is = refl
empty (x ∷ xs) is = absurd (omega arith)

pub to_rest : (settled kept : ℕ → ℕ) (logs : List (Vec UndoRecord Global)) (l : ℕ) → IsRestAfter (records_of logs l) (settled l) (kept l) → IsAtRest settled kept (lanes_of logs) l
to_rest settled kept logs l h = record {
  free = ap holding (sym (settled_first settled logs l)) ∙ empty (holding (acts_of (take (settled l) (records_of logs l)))) h.free;
  kept = omega (arith, h.kept_all, ap ended (settled_first settled logs l));
}

pub from_rest : (settled kept : ℕ → ℕ) (logs : List (Vec UndoRecord Global)) (l : ℕ) → IsAtRest settled kept (lanes_of logs) l → IsRestAfter (records_of logs l) (settled l) (kept l)
from_rest settled kept logs l h = record {
  free = ap (λ (acts : List _). length (holding acts)) (settled_first settled logs l) ∙ ap (λ (os : List ℕ). length os) h.free;
  kept_all = omega (arith, h.kept, ap ended (settled_first settled logs l));
}

take_none : {A : Type 0} (n : ℕ) → take n (let xs : List A = [] in xs) ≡ []
take_none zero = refl
take_none (suc n) = refl

-- a lane with no records is at rest
past_rest : (settled kept : ℕ → ℕ) (logs : List (Vec UndoRecord Global)) (l : ℕ) → length logs ≤ l → IsAtRest settled kept (lanes_of logs) l
past_rest settled kept logs l le =
    let none : records_of logs l ≡ [] = records_past logs l le in
    let first : acts_of (take (settled l) (records_of logs l)) ≡ [] = ap (λ (xs : List UndoRecord). acts_of (take (settled l) xs)) none ∙ ap acts_of (take_none {A = UndoRecord} (settled l)) in
    to_rest settled kept logs l (record { free = ap (λ (acts : List _). length (holding acts)) first; kept_all = omega (arith, ap ended first) })

pub all_rest : (settled kept : ℕ → ℕ) (logs : List (Vec UndoRecord Global)) → ((l : ℕ) → l < length logs → IsAtRest settled kept (lanes_of logs) l) → (l : ℕ) → IsAtRest settled kept (lanes_of logs) l
all_rest settled kept logs h l = elim (cases_lt l (length logs)) [ inl lt ↦ h l lt | inr le ↦ past_rest settled kept logs l le ]

-- in a replay of all records each lane frees what it holds
pub lanes_free : (guard : ℕ → Option ObjectId) (logs : List (Vec UndoRecord Global)) (done : List (ℕ × UndoRecord)) → Replays guard (lanes_of logs) done → (l : ℕ) → FreesHeld (acts_of (records_of logs l))
lanes_free guard logs done h l = subst (λ (xs : List UndoRecord). FreesHeld (map undo_action xs)) (sym (h.all l)) (frees_held guard h.replay.first (lanes_of logs) done h.replay.greedy l)

-- what a replay of all records says of the lanes
of_lanes : (settled : ℕ → ℕ) (lanes : ℕ → List UndoRecord) (done : List (ℕ × UndoRecord)) → ((l : ℕ) → IsDone lanes done l) → (l i : ℕ) → TakesUnsettled settled (λ k. lane k done) l i → TakesUnsettled settled lanes l i
of_lanes settled lanes done all l i h = record {
  object = h.object;
  number = h.number;
  took = subst (λ (xs : List UndoRecord). HasAt xs i (Acq h.object (h.number + 1))) (sym (all l)) h.took;
  inside = h.inside;
  lane = h.lane;
  place = h.place;
  release = h.release;
  had = subst (λ (xs : List UndoRecord). HasAt xs h.place h.release) (sym (all h.lane)) h.had;
  freed = h.freed;
  outside = h.outside;
}

crossed : (settled : ℕ → ℕ) (guard : ℕ → Option ObjectId) (lanes : ℕ → List UndoRecord) (done : List (ℕ × UndoRecord)) → Replays guard lanes done → (l i : ℕ) → TakesUnsettled settled lanes l i → Crosses settled done l i
crossed settled guard lanes done h l i t = takes_crosses settled guard h.replay.first lanes done l i t.lane t.place t.number t.object t.release h.replay.greedy
    (subst (λ (xs : List UndoRecord). HasAt xs i (Acq t.object (t.number + 1))) (h.all l) t.took) t.inside
    (subst (λ (xs : List UndoRecord). HasAt xs t.place t.release) (h.all t.lane) t.had) t.freed t.outside

pub least_unsettled : (settled : ℕ → ℕ) (guard : ℕ → Option ObjectId) (lanes : ℕ → List UndoRecord) (done : List (ℕ × UndoRecord)) → Replays guard lanes done → (l i : ℕ) → IsLeastCrossing settled done l i → IsLeastUnsettled settled lanes l i
least_unsettled settled guard lanes done h l i least = record {
  takes = of_lanes settled lanes done h.all l i (crosses_takes settled guard h.replay.first lanes done l i h.replay.greedy least.crosses);
  least = λ m j t. least.least m j (crossed settled guard lanes done h m j t);
}

pub none_unsettled : (settled : ℕ → ℕ) (guard : ℕ → Option ObjectId) (lanes : ℕ → List UndoRecord) (done : List (ℕ × UndoRecord)) → Replays guard lanes done → ((l i : ℕ) → Crosses settled done l i → ⊥) → (l i : ℕ) → TakesUnsettled settled lanes l i → ⊥
none_unsettled settled guard lanes done h none l i t = none l i (crossed settled guard lanes done h l i t)

-- a place that a lane has is one of a lane that is there
at_some : (xs : List UndoRecord) (i : ℕ) (r : UndoRecord) → HasAt xs i r → 0 < length xs
at_some [] i r h = absurd h
at_some (x ∷ xs) i r h = omega arith

pub lane_there : (settled : ℕ → ℕ) (logs : List (Vec UndoRecord Global)) (l i : ℕ) → TakesUnsettled settled (lanes_of logs) l i → l < length logs
lane_there settled logs l i h = elim (cases_lt l (length logs)) [
  | inl lt ↦ lt
  | inr le ↦ absurd (omega (arith, at_some (lanes_of logs l) i (Acq h.object (h.number + 1)) h.took, length-reverse (records_of logs l), ap (λ (xs : List UndoRecord). length xs) (records_past logs l le)))
]

at_within : (xs : List UndoRecord) (i : ℕ) (r : UndoRecord) → HasAt xs i r → i ≤ length xs
at_within [] i r h = absurd h
at_within (x ∷ xs) i r h = elim h [ inl here ↦ omega (arith, here.1) | inr rest ↦ omega (arith, at_within xs i r rest) ]

pub place_there : (settled : ℕ → ℕ) (logs : List (Vec UndoRecord Global)) (l i : ℕ) → TakesUnsettled settled (lanes_of logs) l i → i ≤ length (records_of logs l)
place_there settled logs l i h = omega (arith, at_within (lanes_of logs l) i (Acq h.object (h.number + 1)) h.took, length-reverse (records_of logs l))

-- a replay that ends with records left is the first refusal
pub refused_replay : (guard : ℕ → Option ObjectId) (settled kept : ℕ → ℕ) (lanes : ℕ → List UndoRecord) (e : LogsError) → RefusesReplay guard lanes e → RefusesLegal guard settled kept lanes e
refused_replay guard settled kept lanes (IllegalLog l p) h = Stuck h
refused_replay guard settled kept lanes NoMemory h = h
