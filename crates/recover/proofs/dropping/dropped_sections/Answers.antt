use Rattle.std.proofs.Common.{ℕ, suc, ◌≡◌, ◌+◌, ◌-◌, ◌<◌, ◌≤◌, ◌++◌, ◌∙◌, List, sym, ap, subst, arith}
use Rattle.heap_model.specs.Sections.{Action, Section}
use Rattle.heap_model.specs.Cuts.{IsStable}
use Rattle.heap_model.specs.declared.record.UndoRecord.{UndoRecord}
use Rattle.law_cuts.proofs.Existence.{stable_exists}
use Rattle.image_parts.specs.Rows.{IsRow, empty_row}
use Rattle.image_parts.specs.declared.lane_row.LaneRow.{LaneRow}
use Rattle.dependence.specs.Trace.{Trace}
use Rattle.undo_log.specs.StandsFor.{row_of}
use Rattle.recover.specs.declared.live_sections.LiveSections.{LiveSections}
use Rattle.recover.specs.declared.report.Dropped.{Dropped}
use Rattle.recover_heap.specs.Logs.{lanes_of, logged_guard_in}
use Rattle.recover_logs.specs.Tables.{log_of}
use Rattle.recover.specs.Dropping.{acts_in, AreEntriesOf, sections_after, settled_sections, trimmed_sections, unsettled_sections}
use Rattle.recover.specs.Live.{live_at, trimmed_at, IsLiveIn, IsReady, AreReported}
use Rattle.recover.proofs.LogLemmas.{row_is}
use Rattle.recover_logs.proofs.SettledLemmas.{lanes_free}
use Rattle.recover.proofs.PushingLemmas.{pushable}
use Rattle.recover.proofs.LiveLemmas.{row_past, settled_few, whole_few}
use Rattle.recover.proofs.StepLemmas.{steps_low, steps_named, ready}
use Rattle.recover.proofs.dropping.dropped_sections.Goals as goal

pub graph_of-requires-clause-low : goal.graph_of-requires-clause-low
graph_of-requires-clause-low c = λ k d lt. omega (arith, c.requires.logs.count, steps_low (logged_guard_in c.args.guards.now) c.args.logs.now c.args.steps.now c.requires.replays k d lt)

pub graph_of-requires-clause-objects : goal.graph_of-requires-clause-objects
graph_of-requires-clause-objects c = steps_named c.args.layout.now (logged_guard_in c.args.guards.now) c.args.rows.now c.args.logs.now c.args.steps.now c.requires.logs c.requires.replays

pub graph_of-requires-clause-next : goal.graph_of-requires-clause-next
graph_of-requires-clause-next c = pushable (logged_guard_in c.args.guards.now) c.requires.replays.replay.first (lanes_of c.args.logs.now) (log_of c.args.steps.now) c.requires.replays.replay.greedy

pub live_counts-counts-requires-clause-held : goal.live_counts-counts-requires-clause-held
live_counts-counts-requires-clause-held c = lanes_free (logged_guard_in c.args.guards.now) c.args.logs.now (log_of c.args.steps.now) c.requires.replays

pub live_counts-counts-requires-clause-order : goal.live_counts-counts-requires-clause-order
live_counts-counts-requires-clause-order c = λ l lt.
    let few : c.args.layout.now.lanes ≤ 32 = omega (arith, c.requires.limits.lanes) in
    (row_is c.args.layout.now c.args.rows.now l empty_row c.requires.rows few (omega (arith, c.requires.logs.count))).settled

pub live_counts-counts-requires-clause-within : goal.live_counts-counts-requires-clause-within
live_counts-counts-requires-clause-within c = λ l lt.
    let few : c.args.layout.now.lanes ≤ 32 = omega (arith, c.requires.limits.lanes) in
    let low : l < c.args.layout.now.lanes = omega (arith, c.requires.logs.count) in
    let row : IsRow c.args.layout.now.capacity (row_of c.args.rows.now l) = row_is c.args.layout.now c.args.rows.now l empty_row c.requires.rows few low in
    omega (arith, row.logged, row.settled, c.requires.logs.size l low)

pub live_counts-counts-requires-clause-others : goal.live_counts-counts-requires-clause-others
live_counts-counts-requires-clause-others c = λ l le. row_past c.args.layout.now c.args.rows.now l c.requires.rows (omega (arith, c.requires.limits.lanes)) (omega (arith, c.requires.logs.count))

pub drop_lane-requires-clause-ready : goal.drop_lane-requires-clause-ready
drop_lane-requires-clause-ready c =
    subst (IsReady c.live_counts-counts.result) (sym c.loop-lane.invariant.same)
    (ready c.args.layout.now (logged_guard_in c.args.guards.now) c.args.rows.now c.args.logs.now (log_of c.args.steps.now) c.live_counts-counts.result c.in_ok-graph.graph c.requires.limits c.requires.rows c.requires.logs c.requires.replays
    c.in_ok-graph.ensures.exact c.live_counts-counts.ensures)

pub drop_lane-requires-clause-order : goal.drop_lane-requires-clause-order
drop_lane-requires-clause-order c =
    let lanes : ℕ → List UndoRecord = lanes_of c.args.logs.now in
    let l = c.loop-lane.lane in
    omega (arith, (c.live_counts-counts.ensures l).settled_is, (c.live_counts-counts.ensures l).live_is, settled_few c.args.rows.now c.args.logs.now l, whole_few lanes l)

-- the sections with those of one more lane
lane_more : (rows : List LaneRow) (lanes : ℕ → List UndoRecord) (l : ℕ) (s : LiveSections) → IsLiveIn rows lanes l s →
    unsettled_sections rows lanes l ++ sections_after l s.settled (s.live - s.settled) ≡ unsettled_sections rows lanes (l + 1)
lane_more rows lanes l s h =
    let next : suc l ≡ l + 1 = omega arith in
    ap (λ (k : ℕ). unsettled_sections rows lanes l ++ sections_after l k (s.live - k)) h.settled_is
    ∙ ap (λ (k : ℕ). unsettled_sections rows lanes l ++ sections_after l (settled_sections rows lanes l) (k - settled_sections rows lanes l)) h.live_is
    ∙ ap (unsettled_sections rows lanes) next

pub loop-lane-preserved : goal.loop-lane-preserved
loop-lane-preserved c =
    let rows : List LaneRow = c.args.rows.now in
    let lanes : ℕ → List UndoRecord = lanes_of c.args.logs.now in
    let l = c.loop-lane.lane in
    let g : Trace = c.in_ok-graph.graph in
    let counts : List LiveSections = c.live_counts-counts.result in
    let s : LiveSections = live_at counts l in
    let before : List Section = unsettled_sections rows lanes l in
    let told : AreReported counts c.loop-lane.graph before c.loop-lane.dropped.items =
    subst (λ (t : Trace). AreReported counts t before c.loop-lane.dropped.items) (sym c.loop-lane.invariant.same) c.loop-lane.invariant.reported in
    let more : AreReported counts c.loop-lane.graph (before ++ sections_after l s.settled (s.live - s.settled)) c.drop_lane.new.dropped.items = c.in_ok-drop_lane.ensures.added before told in
    record {
      same = c.drop_lane.ensures.same ∙ c.loop-lane.invariant.same;
      reported = subst (λ (t : Trace). AreReported counts t (unsettled_sections rows lanes (l + 1)) c.drop_lane.new.dropped.items) c.loop-lane.invariant.same
          (subst (λ (xs : List Section). AreReported counts c.loop-lane.graph xs c.drop_lane.new.dropped.items) (lane_more rows lanes l s (c.live_counts-counts.ensures l)) more);
    }

pub returns : goal.returns
returns c =
    let rows : List LaneRow = c.args.rows.now in
    let lanes : ℕ → List UndoRecord = lanes_of c.args.logs.now in
    let done : List (ℕ × UndoRecord) = log_of c.args.steps.now in
    let g : Trace = c.in_ok-graph.graph in
    let counts : List LiveSections = c.live_counts-counts.result in
    let items : List Dropped = c.loop-lane.dropped.items in
    let cut = stable_exists (acts_in done) in
    let told : AreEntriesOf (trimmed_at counts) g.log cut.0 (unsettled_sections rows lanes c.loop-lane.lane) items =
    c.loop-lane.invariant.reported cut.0 (subst (λ (log : List (ℕ × Action)). IsStable log cut.0) (sym c.in_ok-graph.ensures.exact.log_is) cut.1) in
    let trimmed : trimmed_at counts ≡ trimmed_sections rows lanes = (λ i l. (c.live_counts-counts.ensures l).trimmed_is i) in
    let all : c.loop-lane.lane ≡ c.args.layout.now.lanes = omega (arith, c.loop-lane-test.false, c.loop-lane.auto.lane-end) in
    record {
      exact = record {
        cut = cut.0;
        stable = cut.1;
        entries = subst (λ (k : ℕ). AreEntriesOf (trimmed_sections rows lanes) (acts_in done) cut.0 (unsettled_sections rows lanes k) items) all
            (subst (λ (log : List (ℕ × Action)). AreEntriesOf (trimmed_sections rows lanes) log cut.0 (unsettled_sections rows lanes c.loop-lane.lane) items) c.in_ok-graph.ensures.exact.log_is
            (subst (λ (t : ℕ → ℕ). AreEntriesOf t g.log cut.0 (unsettled_sections rows lanes c.loop-lane.lane) items) trimmed told));
      };
    }
