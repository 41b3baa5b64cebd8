use Rattle.std.proofs.Common.{ℕ, ◌≡◌, ◌+◌, ◌<◌, ◌≤◌, if◌then◌else◌, Bool, true, false, List, ◌∷◌, length, refl, sym, subst, ap, ◌∙◌, arith, take, get_or, slice_set}
use Rattle.std.specs.Prelude.{All}
use Rattle.std.proofs.lemmas.List.{length-set, take_all, take-set-le}
use Rattle.heap_model.specs.declared.record.LaneRecord.{LaneRecord}
use Rattle.heap_model.specs.Log.{log_from}
use Rattle.store_round_memory.specs.Counting.{records_left}
use Rattle.store_round_memory.specs.Surveys.{HasLane}
use Rattle.store_round_memory.proofs.Fronts.{Rests, rests_apart, rests_kept, rests_next}
use Rattle.store_round_memory.proofs.Leaving.{Left, left_more}
use Rattle.store_round_memory.proofs.Lists.{log_next, of_lanes_first, pair, same_at}
use Rattle.store_round_memory.proofs.Takes.{none_kept, none_left}
use Rattle.store_round_memory.proofs.keeping.leave.Goals as goal

-- the record at a place is of one of 32 lanes
low_at : (xs rs : List LaneRecord) (place left : ℕ) (counts : List ℕ) (d : LaneRecord) → All HasLane xs → Left counts xs rs place left → place < length xs → (get_or rs place d).lane.0 < 32
low_at xs rs place left counts d all was lt = subst HasLane (sym (same_at place rs xs d was.rest)) (all place d lt)

-- the log of the first records with one more
next_is : (xs rs : List LaneRecord) (place left : ℕ) (counts : List ℕ) (d : LaneRecord) → Left counts xs rs place left → place < length xs → log_from (take (place + 1) xs) ≡ pair (get_or rs place d) ∷ log_from (take place xs)
next_is xs rs place left counts d was lt = log_next xs place d lt ∙ ap (λ (x : LaneRecord). pair x ∷ log_from (take place xs)) (sym (same_at place rs xs d was.rest))

-- a record that is put from a place on leaves those before
before_put : (b : Bool) (rs more : List LaneRecord) (from left : ℕ) (e : LaneRecord) → from ≤ left → more ≡ (if b then rs else slice_set rs left e) → take from more ≡ take from rs
before_put true rs more from left e le is = ap (take from) is
before_put false rs more from left e le is = ap (take from) is ∙ take-set-le from rs left e le

front_grows : (b : Bool) (from left far : ℕ) → from ≤ left → far ≡ (if b then left else left + 1) → from ≤ far
front_grows true from left far le is = omega (arith, le, is)
front_grows false from left far le is = omega (arith, le, is)

pub loop-place-init : goal.loop-place-init
loop-place-init c = record {
  done = record {
    size = refl;
    rest = refl;
    front = sym (none_left c.args.counts.now (log_from (take c.args.from c.args.records.now))
        (none_kept c.args.counts.now (log_from (take c.args.from c.args.records.now)) (of_lanes_first c.args.from c.args.records.now c.requires.from c.requires.lanes) c.requires.apart));
    within = omega arith;
  };
  rests = rests_apart c.args.counts.now (log_from (take c.args.from c.args.records.now)) c.requires.apart;
  long = c.told-counts;
  front = omega arith;
  before = refl;
}

pub is_next_kept-is_kept-requires : goal.is_next_kept-is_kept-requires
is_next_kept-is_kept-requires c = low_at c.args.records.now c.loop-place.records c.loop-place.place c.loop-place.left c.args.counts.now _ c.requires.lanes c.loop-place.invariant.done c.loop-place-test.true

pub loop-place-preserved : goal.loop-place-preserved
loop-place-preserved c =
    let low = low_at c.args.records.now c.loop-place.records c.loop-place.place c.loop-place.left c.args.counts.now _ c.requires.lanes c.loop-place.invariant.done c.loop-place-test.true in
    let kept = rests_kept c.is_next_kept-is_kept.result c.loop-place.rest c.args.counts.now _ (log_from (take c.loop-place.place c.args.records.now)) low c.loop-place.invariant.rests c.is_next_kept-is_kept.ensures.kept in
    record {
      done = left_more c.args.counts.now c.args.records.now c.loop-place.records c.loop-place.place c.loop-place.left _ c.loop-place.invariant.done c.loop-place-test.true
          c.is_next_kept-is_kept.result c.put_unless-left.new.records c.put_unless-left.result kept c.put_unless-left.ensures.records c.put_unless-left.ensures.place;
      rests = subst (λ (ns : List ℕ). Rests ns c.args.counts.now (log_from (take (c.loop-place.place + 1) c.args.records.now))) (sym c.is_next_kept-is_kept.ensures.left)
          (subst (Rests (slice_set c.loop-place.rest _ _) c.args.counts.now) (sym (next_is c.args.records.now c.loop-place.records c.loop-place.place c.loop-place.left c.args.counts.now _ c.loop-place.invariant.done c.loop-place-test.true))
          (rests_next c.loop-place.rest c.args.counts.now (pair (get_or c.loop-place.records c.loop-place.place _)) (log_from (take c.loop-place.place c.args.records.now)) c.loop-place.invariant.long low c.loop-place.invariant.rests));
      long = ap (λ (xs : List ℕ). length xs) c.is_next_kept-is_kept.ensures.left ∙ length-set c.loop-place.rest _ _ ∙ c.loop-place.invariant.long;
      front = front_grows c.is_next_kept-is_kept.result c.args.from c.loop-place.left c.put_unless-left.result c.loop-place.invariant.front c.put_unless-left.ensures.place;
      before = before_put c.is_next_kept-is_kept.result c.loop-place.records c.put_unless-left.new.records c.args.from c.loop-place.left _ c.loop-place.invariant.front c.put_unless-left.ensures.records ∙ c.loop-place.invariant.before;
    }

pub returns-clause-left : goal.returns-clause-left
returns-clause-left c = c.loop-place.invariant.done.front
    ∙ ap (λ (xs : List LaneRecord). records_left c.args.counts.now (log_from xs)) (take_all c.loop-place.place c.args.records.now (omega (arith, c.loop-place-test.false)))
