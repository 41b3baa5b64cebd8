use Rattle.std.proofs.Common.{◌≡◌, ◌+◌, ◌-◌, ◌<◌, ◌≤◌, ◌∙◌, ℕ, suc, Bool, false, nat_lt, List, [], ◌∷◌, length, get_or, slice_index, refl, sym, ap, subst, arith}
use Rattle.std.specs.List.{filter}
use Rattle.std.proofs.lemmas.Bool.{le-ltb}
use Rattle.dependence.specs.declared.step.Step.{Step}
use Rattle.dependence.specs.declared.links.Links.{Links}
use Rattle.dependence.specs.Links.{lanes_in, sections_in}
use Rattle.dependence.specs.Kept.{IsLinked}
use Rattle.dependence.specs.Search.{IsSorted}
use Rattle.dependence.proofs.Places.{length_map}
use Rattle.dependence.proofs.Falling.{lane_is, section_is}
use Rattle.dependence.proofs.trimmed.retain.Goals as goal

none_left : (steps : List Step) (test : Step → Bool) → ((i : ℕ) (s : Step) → i < length steps → get_or steps i s ≡ s → test s ≡ false) → filter test steps ≡ []
none_left [] test each = refl
none_left (x ∷ steps) test each = rw (each 0 x (omega arith) refl) (none_left steps test (λ i s lt e. each (suc i) s (omega arith) e))

-- a lane's steps have sections up to that of its newest one
counted : (steps : List Step) (links : Links) (base : List ℕ) (lanes : ℕ) → IsLinked steps links → IsSorted steps lanes
    → ((l : ℕ) → l < lanes → 0 < slice_index links.newest l → slice_index (sections_in steps) (slice_index links.newest l - 1) ≤ slice_index base (slice_index (lanes_in steps) (slice_index links.newest l - 1)))
    → (i : ℕ) (s : Step) → i < length steps → get_or steps i s ≡ s → nat_lt (slice_index base s.lane.0) s.section ≡ false
counted steps links base lanes linked sorted newest i s lt is =
    let l : ℕ = slice_index (lanes_in steps) i in
    let many : length (lanes_in steps) ≡ length steps = length_map (λ (t : Step). t.lane.0) steps in
    let low : l < lanes = sorted.low i lt in
    let last : i < slice_index links.newest l = linked.chained.newest_last i (omega (arith, many)) in
    let top : ℕ = slice_index links.newest l - 1 in
    let at : slice_index links.newest l ≡ top + 1 = omega arith in
    let there : (top < length (lanes_in steps)) × (slice_index (lanes_in steps) top ≡ l) = linked.chained.newest_is l top at in
    let within : top < length steps = (let t : top < length (lanes_in steps) = there.0 in omega (arith, many)) in
    let rise : slice_index (sections_in steps) i ≤ slice_index (sections_in steps) top = sorted.rise i top (omega arith) within (sym there.1) in
    let most : slice_index (sections_in steps) top ≤ slice_index base (slice_index (lanes_in steps) top) = newest l low (omega arith) in
    let of_lane : slice_index (lanes_in steps) i ≡ s.lane.0 = lane_is steps i s lt is in
    let of_section : slice_index (sections_in steps) i ≡ s.section = section_is steps i s lt is in
    let same : slice_index base (slice_index (lanes_in steps) top) ≡ slice_index base s.lane.0 = ap (slice_index base) (there.1 ∙ of_lane) in
    le-ltb _ _ (omega arith)

pub returns-else-has_one_past-clause-kept : goal.returns-else-has_one_past-clause-kept
returns-else-has_one_past-clause-kept c =
    let steps : List Step = c.args.steps.now.items in
    let links : Links = c.args.links.now in
    let base : List ℕ = c.args.base.now in
    c.clear.ensures.items ∙ sym (none_left steps (λ s. nat_lt (slice_index base s.lane.0) s.section)
    (counted steps links base c.args.lanes c.requires.linked c.requires.sorted
    (subst (λ (xs : List Step). (l : ℕ) → l < c.args.lanes → 0 < slice_index links.newest l → slice_index (sections_in xs) (slice_index links.newest l - 1) ≤ slice_index base (slice_index (lanes_in xs) (slice_index links.newest l - 1)))
    c.deref.ensures.value (c.if-has_one_past.ensures refl))))
