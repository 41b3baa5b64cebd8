use Rattle.std.proofs.Common.{ℕ, ◌≡◌, ◌≢◌, ◌<◌, ◌≤◌, ◌-◌, ◌∙◌, List, [], ◌∷◌, reverse, Vec, Global, length, sym, ap, subst, inl, inr, arith, slice_index, slice_set, get_or-set_same, get_or-set_other, Option}
use Rattle.std.proofs.lemmas.Bool.{cases_lt}
use Rattle.std.proofs.lemmas.List.{length-reverse, length-set}
use Rattle.std.proofs.lemmas.List.Elements.{All-contains, All-push}
use Rattle.heap_model.specs.declared.ids.ObjectId.{ObjectId}
use Rattle.heap_model.specs.declared.record.UndoRecord.{UndoRecord}
use Rattle.std.specs.Prelude.{All}
use Rattle.recover_logs.specs.Limits.{IsInRange, IsOfObjects}
use Rattle.recover_logs.specs.Monitors.{number_at}
use Rattle.recover_logs.specs.declared.monitors.Monitors.{Monitors}
use Rattle.recover_logs.specs.declared.step.Step.{Step}
use Rattle.recover_logs.specs.Logs.{guard_in, lanes_of, records_of}
use Rattle.recover_logs.specs.Replay.{BeginsAt}
use Rattle.recover_logs.specs.Tables.{IsLow, IsMidway, IsLeastBy, log_of}
use Rattle.recover_logs.proofs.LaneLemmas.{records_past}
use Rattle.recover_logs.proofs.FirstLemmas.{All-reverse}
use Rattle.recover_logs.proofs.ReplayLemmas.{log_more, midway_after, is_there, replay_ends, is_done, has_next}
use Rattle.recover_logs.proofs.replay.replay.Goals as goal

pub loop-next-preserved : goal.loop-next-preserved
loop-next-preserved c =
    let guard : ℕ → Option ObjectId = guard_in c.args.guards.now in
    let lanes : ℕ → List UndoRecord = lanes_of c.args.logs.now in
    let first : ℕ → ℕ = number_at c.free_at-monitors.result in
    let left : List ℕ = c.loop-next.left in
    let next : Step = c.in-Some.next in
    let l = next.lane.0 in
    let least : IsLeastBy guard c.loop-next.monitors lanes (slice_index left) (length c.args.logs.now) l next.entry = c.in-Some.ensures in
    let log : log_of c.push.new.self.items ≡ (l, next.entry) ∷ log_of c.loop-next.steps.items = ap log_of c.in-Ok.ensures.items ∙ log_more c.loop-next.steps.items next in
    let low : l < length left = omega (arith, least.low, c.requires.lanes, c.loop-next.invariant.all) in
    let now : ℕ → ℕ = slice_index (slice_set left c.from.result (slice_index left c.from.result - 1)) in
    let here : now l ≡ slice_index left l - 1 = ap (λ (k : ℕ). slice_index (slice_set left k (slice_index left k - 1)) l) c.from.ensures ∙ get_or-set_same left l (slice_index left l - 1) 0 low in
    let other : (m : ℕ) → m ≢ l → now m ≡ slice_index left m = (λ m ne. ap (λ (k : ℕ). slice_index (slice_set left k (slice_index left k - 1)) m) c.from.ensures ∙ get_or-set_other left l m (slice_index left l - 1) 0 ne) in
    let in_range : IsInRange next.entry = All-contains IsInRange (lanes l) next.entry (All-reverse IsInRange (records_of c.args.logs.now l) (c.requires.range l)) (is_there (lanes l) (slice_index left l - 1) next.entry least.goes.next) in
    record {
      all = length-set left c.from.result (slice_index left c.from.result - 1) ∙ c.loop-next.invariant.all;
      low = subst (All IsLow) (sym c.in-Ok.ensures.items) (All-push IsLow c.loop-next.steps.items next c.loop-next.invariant.low
          (record { low = omega (arith, least.low, c.requires.lanes); range = in_range }));
      midway = subst (λ (done : List (ℕ × UndoRecord)). IsMidway guard first lanes done c.note.new.self now) (sym log)
          (midway_after guard first lanes (log_of c.loop-next.steps.items) c.loop-next.monitors c.note.new.self (slice_index left) now (length c.args.logs.now) l next.entry
          (λ m. All-reverse (IsOfObjects guard 4096) (records_of c.args.logs.now m) (c.requires.objects m))
          c.loop-next.invariant.midway least (c.note.ensures.noted first (log_of c.loop-next.steps.items) c.loop-next.invariant.midway.monitors) here other);
    }

-- a lane that isn't there has no records
lanes_past : (logs : List (Vec UndoRecord Global)) (m : ℕ) → length logs ≤ m → lanes_of logs m ≡ []
lanes_past logs m le = ap (λ (xs : List UndoRecord). reverse xs) (records_past logs m le)

-- a lane with records left is there
left_there : (guard : ℕ → Option ObjectId) (first : ℕ → ℕ) (logs : List (Vec UndoRecord Global)) (done : List (ℕ × UndoRecord)) (t : Monitors) (left : ℕ → ℕ) (l : ℕ) → IsMidway guard first (lanes_of logs) done t left → 0 < left l → l < length logs
left_there guard first logs done t left l midway some = elim (cases_lt l (length logs)) [
  | inl lt ↦ lt
  | inr le ↦ absurd (omega (arith, midway.rest.within l, ap length (lanes_past logs l le)))
]

pub records_in-requires : goal.records_in-requires
records_in-requires c = left_there (guard_in c.args.guards.now) (number_at c.free_at-monitors.result) c.args.logs.now (log_of c.loop-next.steps.items) c.loop-next.monitors (slice_index c.loop-next.left) c.in-Some-least_left.lane.0
    c.loop-next.invariant.midway c.in-Some-least_left.ensures.0

pub returns-in-Some-least_left : goal.returns-in-Some-least_left
returns-in-Some-least_left c =
    let guard : ℕ → Option ObjectId = guard_in c.args.guards.now in
    let logs = c.args.logs.now in
    let lanes : ℕ → List UndoRecord = lanes_of logs in
    let first : ℕ → ℕ = number_at c.free_at-monitors.result in
    let left : ℕ → ℕ = slice_index c.loop-next.left in
    let done : List (ℕ × UndoRecord) = log_of c.loop-next.steps.items in
    let l = c.in-Some-least_left.lane.0 in
    let midway : IsMidway guard first lanes done c.loop-next.monitors left = c.loop-next.invariant.midway in
    let some : 0 < left l = c.in-Some-least_left.ensures.0 in
    let next = has_next guard first lanes done c.loop-next.monitors left l midway some in
    let named : (m : ℕ) → All (IsOfObjects guard 4096) (lanes m) = (λ m. All-reverse (IsOfObjects guard 4096) (records_of logs m) (c.requires.objects m)) in
    let long : length (lanes l) ≡ length (records_of logs l) = length-reverse (records_of logs l) in
    record {
      exact = record {
        done = done;
        replay = replay_ends guard first lanes done c.loop-next.monitors left (length logs) (subst (λ (ns : ℕ → ℕ). BeginsAt lanes ns) (sym c.free_at-monitors.ensures.numbers) c.first_numbers.ensures) named (lanes_past logs) midway c.in_default.ensures;
        left = next.0;
        place = (let read : length c.records_in.result.now ≡ length (records_of logs l) = ap length c.records_in.ensures in
            let rest : left c.from-in-Some-least_left.result ≡ left l = ap left c.from-in-Some-least_left.ensures in
            omega (arith, next.1));
        least = λ m lt. is_done guard first lanes done c.loop-next.monitors left m midway (c.in-Some-least_left.ensures.1 m lt);
      };
      there = (left_there guard first logs done c.loop-next.monitors left l midway some, omega (arith, ap length c.records_in.ensures));
      low = tt;
    }
