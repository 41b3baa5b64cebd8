-- What keeps sections out of the cut that was answered.
use Rattle.std.proofs.Common.{ℕ, zero, suc, ◌≡◌, ◌≢◌, ◌+◌, ◌<◌, ◌≤◌, List, [], ◌∷◌, ◌++◌, Option, Some, None, length, get_or, replicate, slice_index, slice_set, sym, ap, ◌∙◌, subst, inl, inr, arith, length-set, get_or-set_same, get_or-set_other}
use Rattle.std.proofs.lemmas.Bool.{cases_eq}
use Rattle.heap_model.specs.Sections.{Action, Stores, undo_action}
use Rattle.law_cuts.specs.Plain.{takes_after, IsClosedOver}
use Rattle.dependence.specs.declared.section.Dependence.{Dependence}
use Rattle.dependence.specs.declared.step.Step.{Step}
use Rattle.dependence.specs.Steps.{reading}
use Rattle.dependence.specs.Links.{lanes_in, sections_in, acts_in, act_at}
use Rattle.dependence.specs.Search.{IsAbove, TookFrom, IsCause, AreCauses}
use Rattle.dependence.proofs.Places.{at_old, map_snoc, length_map}
use Rattle.dependence.proofs.Falling.{lane_is, section_is, taker_in, releaser_in, taker_out, above_low}

-- a greater cut has the same causes
pub causes_more : (steps : List Step) (cut more : ℕ → ℕ) (causes : List (Option Dependence)) → ((l : ℕ) → cut l ≤ more l) → AreCauses steps cut causes → AreCauses steps more causes
causes_more steps cut more causes le old l on lt is =
    let was : IsCause steps cut l on = old l on lt is in
    record { take = was.take; release = was.release; takes = was.takes; lane_is = was.lane_is; first = omega (arith, was.first, le l); on_lane = was.on_lane; on_section = was.on_section }

no_cause : (n l : ℕ) (on : Dependence) → l < n → get_or (replicate n None) l (Some on) ≡ Some on → ⊥
no_cause zero l on lt is = absurd (let no : l < 0 = lt in omega arith)
no_cause (suc n) zero on lt is = absurd cc
no_cause (suc n) (suc l) on lt is = no_cause n l on (omega arith) is

pub causes_none : (steps : List Step) (cut : ℕ → ℕ) (causes : List (Option Dependence)) → causes ≡ replicate 32 None → AreCauses steps cut causes
causes_none steps cut causes e l on lt is = absurd (no_cause 32 l on (subst (λ (xs : List (Option Dependence)). l < length xs) e lt) (subst (λ (xs : List (Option Dependence)). get_or xs l (Some on) ≡ Some on) e is))

-- one more step takes no cause away
pub causes_push : (steps : List Step) (s : Step) (cut : ℕ → ℕ) (causes : List (Option Dependence)) → AreCauses steps cut causes → AreCauses (steps ++ s ∷ []) cut causes
causes_push steps s cut causes old l on lt is =
    let was : IsCause steps cut l on = old l on lt is in
    let take_lt : was.take < length steps = taker_in steps was.release was.take was.takes in
    let release_lt : was.release < length steps = releaser_in steps was.release was.take was.takes in
    record {
      take = was.take;
      release = was.release;
      takes = ap (λ a. takes_after a (act_at (acts_in (steps ++ s ∷ [])) was.release)) (act_old was.take take_lt) ∙ ap (takes_after (act_at (acts_in steps) was.take)) (act_old was.release release_lt) ∙ was.takes;
      lane_is = lane_old was.take take_lt ∙ was.lane_is;
      first = omega (arith, section_old was.take take_lt, was.first);
      on_lane = lane_old was.release release_lt ∙ was.on_lane;
      on_section = section_old was.release release_lt ∙ was.on_section;
    }
  where
    act_old : (k : ℕ) → k < length steps → act_at (acts_in (steps ++ s ∷ [])) k ≡ act_at (acts_in steps) k
    act_old k less = ap (λ (xs : List Action). act_at xs k) (map_snoc (λ (t : Step). undo_action t.entry) steps s) ∙ at_old (acts_in steps) (undo_action s.entry) Stores k (omega (arith, length_map (λ (t : Step). undo_action t.entry) steps))

    lane_old : (k : ℕ) → k < length steps → slice_index (lanes_in (steps ++ s ∷ [])) k ≡ slice_index (lanes_in steps) k
    lane_old k less = ap (λ (xs : List ℕ). slice_index xs k) (map_snoc (λ (t : Step). t.lane.0) steps s) ∙ at_old (lanes_in steps) s.lane.0 0 k (omega (arith, length_map (λ (t : Step). t.lane.0) steps))

    section_old : (k : ℕ) → k < length steps → slice_index (sections_in (steps ++ s ∷ [])) k ≡ slice_index (sections_in steps) k
    section_old k less = ap (λ (xs : List ℕ). slice_index xs k) (map_snoc (λ (t : Step). t.section) steps s) ∙ at_old (sections_in steps) s.section 0 k (omega (arith, length_map (λ (t : Step). t.section) steps))

-- the lane whose cut falls below a step's section has the releaser's as its cause
pub causes_fall : (steps : List Step) (taker releaser : Step) (on : Dependence) (cut low : ℕ → ℕ) (causes next : List (Option Dependence)) → TookFrom steps taker releaser → on.lane.0 ≡ releaser.lane.0 → on.section ≡ releaser.section →
    taker.section ≡ low taker.lane.0 + 1 → ((l : ℕ) → l ≢ taker.lane.0 → low l ≡ cut l) → next ≡ slice_set causes taker.lane.0 (Some on) → AreCauses steps cut causes → AreCauses steps low next
causes_fall steps taker releaser on cut low causes next took on_lane on_section section others set old l d lt is = elim (cases_eq l taker.lane.0) [
  | inl e ↦
      let long : l < length causes = omega (arith, ap (λ (xs : List (Option Dependence)). length xs) set, length-set causes taker.lane.0 (Some on)) in
      let now : get_or next l (Some d) ≡ Some on = ap (λ (xs : List (Option Dependence)). get_or xs l (Some d)) set ∙ ap (λ (k : ℕ). get_or (slice_set causes taker.lane.0 (Some on)) k (Some d)) e ∙ get_or-set_same causes taker.lane.0 (Some on) (Some d) (omega arith) in
      let same : Some on ≡ Some d = sym now ∙ is in
      let it : on ≡ d = cc in
      let take_lt : took.take < length steps = taker_in steps took.release took.take took.takes in
      let release_lt : took.release < length steps = releaser_in steps took.release took.take took.takes in
      let low_is : low l ≡ low taker.lane.0 = ap low e in
      record {
        take = took.take;
        release = took.release;
        takes = took.takes;
        lane_is = lane_is steps took.take taker take_lt (sym took.taker_is) ∙ sym e;
        first = omega (arith, section_is steps took.take taker take_lt (sym took.taker_is));
        on_lane = lane_is steps took.release releaser release_lt (sym took.releaser_is) ∙ sym on_lane ∙ ap (λ (x : Dependence). x.lane.0) it;
        on_section = section_is steps took.release releaser release_lt (sym took.releaser_is) ∙ sym on_section ∙ ap (λ (x : Dependence). x.section) it;
      }
  | inr ne ↦
      let long : l < length causes = omega (arith, ap (λ (xs : List (Option Dependence)). length xs) set, length-set causes taker.lane.0 (Some on)) in
      let was_is : get_or causes l (Some d) ≡ Some d = sym (ap (λ (xs : List (Option Dependence)). get_or xs l (Some d)) set ∙ get_or-set_other causes taker.lane.0 l (Some on) (Some d) ne) ∙ is in
      let was : IsCause steps cut l d = old l d long was_is in
      record { take = was.take; release = was.release; takes = was.takes; lane_is = was.lane_is; first = omega (arith, was.first, others l ne); on_lane = was.on_lane; on_section = was.on_section }
]

-- a lane whose cause is out has no more than was answered
pub barred : (steps : List Step) (answered most cut low : ℕ → ℕ) (lane : ℕ) (on : Dependence) → IsCause steps answered lane on → cut on.lane.0 < on.section → ((l : ℕ) → l ≢ lane → low l ≡ cut l) → low lane ≡ answered lane →
    ((l : ℕ) → answered l ≤ most l) → IsClosedOver reading steps answered → IsAbove steps most cut → IsAbove steps most low
barred steps answered most cut low lane on cause out others now less closed old = above_low steps most cut low old
    (λ l. elim (cases_eq l lane) [
      | inl e ↦ let a : low l ≡ low lane = ap low e in let b : answered l ≡ answered lane = ap answered e in omega (arith, old.greatest answered less closed l)
      | inr ne ↦ omega (arith, others l ne)
    ])
    (λ other le is_closed l. elim (cases_eq l lane) [
      | inr ne ↦ omega (arith, others l ne, le l)
      | inl e ↦
          let a : low l ≡ low lane = ap low e in
          let b : other l ≡ other lane = ap other e in
          let at_release : other (slice_index (lanes_in steps) cause.release) ≡ other on.lane.0 = ap other cause.on_lane in
          let at_take : other (slice_index (lanes_in steps) cause.take) ≡ other lane = ap other cause.lane_is in
          omega (arith, le on.lane.0, cause.on_section, cause.first, taker_out steps other cause.release cause.take is_closed cause.takes (omega (arith, le on.lane.0, cause.on_section)))
    ])
