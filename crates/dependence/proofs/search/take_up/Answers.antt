use Rattle.std.proofs.Common.{ℕ, ◌≡◌, ◌-◌, ◌<◌, ap, subst, arith, rules, false, length, get_or, slice_index, slice_set}
use Rattle.heap_model.specs.Cuts.{counts_of}
use Rattle.law_cuts.specs.Plain.{takes_after}
use Rattle.dependence.specs.Links.{lanes_in, sections_in, acts_in, act_at}
use Rattle.dependence.specs.Search.{Takes}
use Rattle.dependence.proofs.Falling.{Falls, falls, one_taker}
use Rattle.dependence.proofs.Walking.{earlier, search_same, search_falls}
use Rattle.dependence.proofs.Linked.{beside_many}
use Rattle.dependence.proofs.Places.{sum_falls}
use Rattle.dependence.proofs.search.take_up.Goals as goal

pub before-requires : goal.before-requires
before-requires c = omega (arith, c.requires.left.some, c.requires.left.there, beside_many c.args.steps.now c.args.links.now c.requires.linked)

pub returns-in-Some-clause-search : goal.returns-in-Some-clause-search
returns-in-Some-clause-search c = λ start candidates old.
    let found : (x : ℕ) × (x < length c.args.steps.now) × (c.in-Some.taker ≡ get_or c.args.steps.now x c.in-Some.taker) × Takes c.args.steps.now x (slice_index c.args.search.now.left c.args.lane - 1) = c.in-Some.ensures in
    let of_lane : slice_index (lanes_in c.args.steps.now) (slice_index c.args.search.now.left c.args.lane - 1) ≡ c.args.lane = (old.walk.places c.args.lane (slice_index c.args.search.now.left c.args.lane - 1) (omega (arith, c.requires.left.some))).1 in
    let count_at : counts_of c.args.search.now.cut (slice_index (lanes_in c.args.steps.now) (slice_index c.args.search.now.left c.args.lane - 1)) ≡ counts_of c.args.search.now.cut c.args.lane = ap (counts_of c.args.search.now.cut) of_lane in
    let f : Falls c.args.steps.now found.0 (counts_of c.args.search.now.cut) (counts_of c.leave_out.new.cut) =
    falls c.args.steps.now found.0 c.in-Some.taker (counts_of c.args.search.now.cut) (counts_of c.leave_out.new.cut) found.1 found.2
    c.leave_out.ensures.out c.leave_out.ensures.others c.leave_out.ensures.fewer c.leave_out.ensures.least in
    search_falls c.args.steps.now c.args.links.now c.requires.linked start c.args.search.now.left (slice_set c.args.search.now.left c.args.lane c.before-2.result) candidates (counts_of c.args.search.now.cut) c.args.search.now.causes c.args.lane (slice_index c.args.search.now.left c.args.lane - 1)
    (search rules) (omega (arith, c.requires.left.low)) (omega (arith, c.requires.left.some, c.requires.left.there)) (omega (arith, c.requires.left.some))
    (ap (slice_set c.args.search.now.left c.args.lane) c.before-2.ensures)
    found.0 (counts_of c.leave_out.new.cut) c.leave_out.new.causes old found.3 (omega (arith, c.requires.left.out)) f
    (c.leave_out.ensures.causes c.args.steps.now (record { take = found.0; release = (slice_index c.args.search.now.left c.args.lane - 1); takes = found.3; taker_is = found.2; releaser_is = c.index-steps-place.is }) old.why)
    (λ j t. subst (λ (k : ℕ). counts_of c.leave_out.new.cut (slice_index (lanes_in c.args.steps.now) k) < slice_index (sections_in c.args.steps.now) k) (one_taker c.args.steps.now c.args.links.now c.requires.linked (slice_index c.args.search.now.left c.args.lane - 1) found.0 j found.3 t) f.out)

pub returns-in-Some-clause-smaller : goal.returns-in-Some-clause-smaller
returns-in-Some-clause-smaller c = sum_falls c.args.search.now.left c.args.lane c.before-2.result (search rules)
    (earlier c.args.steps.now c.args.links.now c.args.search.now.left (counts_of c.args.search.now.cut) c.args.lane c.before-2.result c.requires.linked c.requires.left
    c.before-2.ensures)

pub returns-in_default-clause-search : goal.returns-in_default-clause-search
returns-in_default-clause-search c = λ start candidates old. search_same c.args.steps.now c.args.links.now c.requires.linked start c.args.search.now.left (slice_set c.args.search.now.left c.args.lane c.before-2.result) candidates (counts_of c.args.search.now.cut) c.args.search.now.causes c.args.lane (slice_index c.args.search.now.left c.args.lane - 1)
    (search rules) (omega (arith, c.requires.left.low)) (omega (arith, c.requires.left.some, c.requires.left.there)) (omega (arith, c.requires.left.some))
    (ap (slice_set c.args.search.now.left c.args.lane) c.before-2.ensures)
    old
    (λ j h. absurd (let none : takes_after (act_at (acts_in c.args.steps.now) j) (act_at (acts_in c.args.steps.now) (slice_index c.args.search.now.left c.args.lane - 1)) ≡ false = c.in_default.ensures j in cc))

pub returns-in_default-clause-smaller : goal.returns-in_default-clause-smaller
returns-in_default-clause-smaller c = sum_falls c.args.search.now.left c.args.lane c.before-2.result (search rules)
    (earlier c.args.steps.now c.args.links.now c.args.search.now.left (counts_of c.args.search.now.cut) c.args.lane c.before-2.result c.requires.linked c.requires.left
    c.before-2.ensures)
