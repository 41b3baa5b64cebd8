use Rattle.std.proofs.Common.{ℕ, ◌≡◌, ◌-◌, ◌<◌, ◌≤◌, sym, ap, subst, inl, inr, arith, rules, true, false, length, slice_index, slice_set}
use Rattle.std.proofs.lemmas.Bool.{cases_lt}
use Rattle.heap_model.specs.Cuts.{counts_of}
use Rattle.dependence.specs.Links.{lanes_in, sections_in}
use Rattle.dependence.specs.Search.{Takes}
use Rattle.dependence.proofs.Falling.{falls, lane_is, section_is, one_releaser}
use Rattle.dependence.proofs.Walking.{earlier, looking_same, looking_falls}
use Rattle.dependence.proofs.Linked.{beside_many}
use Rattle.dependence.proofs.Places.{sum_falls}
use Rattle.dependence.proofs.search.look_at.Goals as goal

pub before-requires : goal.before-requires
before-requires c = omega (arith, c.requires.left.1.some, c.requires.left.1.there, beside_many c.args.steps.now c.args.links.now c.requires.linked)

pub returns-then-not-is_counted-clause-search : goal.returns-then-not-is_counted-clause-search
returns-then-not-is_counted-clause-search c = λ start old.
    let release_lt : c.in-Some.release < length c.args.steps.now = c.in-Some.ensures.0 in
    let takes : Takes c.args.steps.now (slice_index c.args.search.now.left c.args.lane - 1) c.in-Some.release = c.in-Some.ensures.1 in
    let lane_at : slice_index (lanes_in c.args.steps.now) c.in-Some.release ≡ c.index-steps-release.result.lane.0 = lane_is c.args.steps.now c.in-Some.release c.index-steps-release.result release_lt (sym c.index-steps-release.is) in
    let section_at : slice_index (sections_in c.args.steps.now) c.in-Some.release ≡ c.index-steps-release.result.section = section_is c.args.steps.now c.in-Some.release c.index-steps-release.result release_lt (sym c.index-steps-release.is) in
    let count_at : counts_of c.args.candidates.now (slice_index (lanes_in c.args.steps.now) c.in-Some.release) ≡ counts_of c.args.candidates.now c.index-steps-release.result.lane.0 = ap (counts_of c.args.candidates.now) lane_at in
    let out : counts_of c.args.candidates.now c.index-steps-release.result.lane.0 < c.index-steps-release.result.section = elim (cases_lt (counts_of c.args.candidates.now c.index-steps-release.result.lane.0) c.index-steps-release.result.section) [
      | inl past ↦ past
      | inr within ↦ absurd (let yes_it : c.is_counted.result ≡ true = c.is_counted.ensures.1 within in let not_it : c.is_counted.result ≡ false = c.if-not-is_counted.true in cc)
    ] in
    looking_falls c.args.steps.now c.args.links.now c.requires.linked start c.args.search.now.left (slice_set c.args.search.now.left c.args.lane c.before-2.result) (counts_of c.args.candidates.now) (counts_of c.args.search.now.cut) c.args.search.now.causes c.args.lane (slice_index c.args.search.now.left c.args.lane - 1)
    (search rules) (omega (arith, c.requires.left.1.low)) (omega (arith, c.requires.left.1.some, c.requires.left.1.there)) (omega (arith, c.requires.left.1.some))
    (ap (slice_set c.args.search.now.left c.args.lane) c.before-2.ensures)
    c.in-Some.release (counts_of c.leave_out.new.cut) c.leave_out.new.causes old takes (omega arith)
    (falls c.args.steps.now (slice_index c.args.search.now.left c.args.lane - 1) c.index-steps-place.result (counts_of c.args.search.now.cut) (counts_of c.leave_out.new.cut) (omega (arith, c.requires.left.1.some, c.requires.left.1.there)) c.index-steps-place.is
    c.leave_out.ensures.out c.leave_out.ensures.others c.leave_out.ensures.fewer c.leave_out.ensures.least)
    (c.leave_out.ensures.causes c.args.steps.now (record { take = (slice_index c.args.search.now.left c.args.lane - 1); release = c.in-Some.release; takes = takes; taker_is = c.index-steps-place.is; releaser_is = c.index-steps-release.is }) old.why)

pub returns-then-not-is_counted-clause-smaller : goal.returns-then-not-is_counted-clause-smaller
returns-then-not-is_counted-clause-smaller c = sum_falls c.args.search.now.left c.args.lane c.before-2.result (search rules)
    (earlier c.args.steps.now c.args.links.now c.args.search.now.left c.requires.left.0 c.args.lane c.before-2.result c.requires.linked c.requires.left.1
    c.before-2.ensures)

pub returns-else-not-is_counted-clause-search : goal.returns-else-not-is_counted-clause-search
returns-else-not-is_counted-clause-search c = λ start old.
    let release_lt : c.in-Some.release < length c.args.steps.now = c.in-Some.ensures.0 in
    let takes : Takes c.args.steps.now (slice_index c.args.search.now.left c.args.lane - 1) c.in-Some.release = c.in-Some.ensures.1 in
    let lane_at : slice_index (lanes_in c.args.steps.now) c.in-Some.release ≡ c.index-steps-release.result.lane.0 = lane_is c.args.steps.now c.in-Some.release c.index-steps-release.result release_lt (sym c.index-steps-release.is) in
    let section_at : slice_index (sections_in c.args.steps.now) c.in-Some.release ≡ c.index-steps-release.result.section = section_is c.args.steps.now c.in-Some.release c.index-steps-release.result release_lt (sym c.index-steps-release.is) in
    let count_at : counts_of c.args.candidates.now (slice_index (lanes_in c.args.steps.now) c.in-Some.release) ≡ counts_of c.args.candidates.now c.index-steps-release.result.lane.0 = ap (counts_of c.args.candidates.now) lane_at in
    let within : c.index-steps-release.result.section ≤ counts_of c.args.candidates.now c.index-steps-release.result.lane.0 = c.is_counted.ensures.0 c.if-not-is_counted.false in
    looking_same c.args.steps.now c.args.links.now c.requires.linked start c.args.search.now.left (slice_set c.args.search.now.left c.args.lane c.before-2.result) (counts_of c.args.candidates.now) (counts_of c.args.search.now.cut) c.args.search.now.causes c.args.lane (slice_index c.args.search.now.left c.args.lane - 1)
    (search rules) (omega (arith, c.requires.left.1.low)) (omega (arith, c.requires.left.1.some, c.requires.left.1.there)) (omega (arith, c.requires.left.1.some))
    (ap (slice_set c.args.search.now.left c.args.lane) c.before-2.ensures)
    old
    (λ i t o.
    let same : i ≡ c.in-Some.release = one_releaser c.args.steps.now c.args.links.now c.requires.linked i c.in-Some.release (slice_index c.args.search.now.left c.args.lane - 1) t takes in
    let past : counts_of c.args.candidates.now (slice_index (lanes_in c.args.steps.now) c.in-Some.release) < slice_index (sections_in c.args.steps.now) c.in-Some.release =
    subst (λ (k : ℕ). counts_of c.args.candidates.now (slice_index (lanes_in c.args.steps.now) k) < slice_index (sections_in c.args.steps.now) k) same o in
    absurd (omega arith))

pub returns-else-not-is_counted-clause-smaller : goal.returns-else-not-is_counted-clause-smaller
returns-else-not-is_counted-clause-smaller c = sum_falls c.args.search.now.left c.args.lane c.before-2.result (search rules)
    (earlier c.args.steps.now c.args.links.now c.args.search.now.left c.requires.left.0 c.args.lane c.before-2.result c.requires.linked c.requires.left.1
    c.before-2.ensures)

pub returns-in_default-clause-search : goal.returns-in_default-clause-search
returns-in_default-clause-search c = λ start old. looking_same c.args.steps.now c.args.links.now c.requires.linked start c.args.search.now.left (slice_set c.args.search.now.left c.args.lane c.before-2.result) (counts_of c.args.candidates.now) (counts_of c.args.search.now.cut) c.args.search.now.causes c.args.lane (slice_index c.args.search.now.left c.args.lane - 1)
    (search rules) (omega (arith, c.requires.left.1.low)) (omega (arith, c.requires.left.1.some, c.requires.left.1.there)) (omega (arith, c.requires.left.1.some))
    (ap (slice_set c.args.search.now.left c.args.lane) c.before-2.ensures)
    old (λ i t o. absurd (c.in_default.ensures i t))

pub returns-in_default-clause-smaller : goal.returns-in_default-clause-smaller
returns-in_default-clause-smaller c = sum_falls c.args.search.now.left c.args.lane c.before-2.result (search rules)
    (earlier c.args.steps.now c.args.links.now c.args.search.now.left c.requires.left.0 c.args.lane c.before-2.result c.requires.linked c.requires.left.1
    c.before-2.ensures)
