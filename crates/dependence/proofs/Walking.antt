-- One more step of a lane is taken up.
use Rattle.std.proofs.Common.{ℕ, zero, suc, add-one, List, Option, ◌≡◌, ◌+◌, ◌-◌, ◌<◌, sym, ◌∙◌, arith, length, slice_index, slice_set}
use Rattle.dependence.specs.declared.section.Dependence.{Dependence}
use Rattle.dependence.specs.declared.step.Step.{Step}
use Rattle.dependence.specs.declared.links.Links.{Links}
use Rattle.dependence.specs.Links.{lanes_in, sections_in, before_in}
use Rattle.dependence.specs.Kept.{IsLinked}
use Rattle.dependence.specs.Search.{Takes, AreCauses, IsLookedAt, IsTakenUp, IsLooking, IsSearch, IsLeft}
use Rattle.dependence.proofs.Falling.{Falls, above_low, walk_step, taker_out}
use Rattle.dependence.proofs.Places.{length_map}

-- the step before in the lane is an earlier one
pub earlier : (steps : List Step) (links : Links) (left : List ℕ) (cut : ℕ → ℕ) (lane x : ℕ) → IsLinked steps links → IsLeft steps left cut lane →
    x ≡ slice_index (before_in links.beside.items) (slice_index left lane - 1) → x < slice_index left lane
earlier steps links left cut lane zero linked is_left e = is_left.some
earlier steps links left cut lane (suc p) linked is_left e =
    let before : (p < slice_index left lane - 1) × (slice_index (lanes_in steps) p ≡ slice_index (lanes_in steps) (slice_index left lane - 1)) =
    linked.chained.before_is (slice_index left lane - 1) p (omega (arith, length_map (λ (s : Step). s.lane.0) steps, is_left.some, is_left.there)) (sym e ∙ sym (add-one p)) in
    let less : p < slice_index left lane - 1 = before.0 in
    omega arith

module _ (steps : List Step) (links : Links) (linked : IsLinked steps links) (start left left_too : List ℕ) (candidates cut : ℕ → ℕ) (causes : List (Option Dependence)) (lane place : ℕ)
    (rows : length left ≡ 32) (low_lane : lane < 32) (here : place < length steps) (at : place + 1 ≡ slice_index left lane) (now : left_too ≡ slice_set left lane (slice_index (before_in links.beside.items) place)) where
  -- it took from no section that isn't a candidate
  pub looking_same : IsLooking steps start left candidates cut causes → IsLookedAt steps candidates cut place → IsLooking steps start left_too candidates cut causes
  looking_same old visit = record {
    above = old.above;
    why = old.why;
    walk = walk_step steps links linked start left left_too (IsLookedAt steps candidates cut) (IsLookedAt steps candidates cut) lane place rows low_lane old.walk here at now (λ k h. h) visit;
  }

  -- it took from one that isn't
  pub looking_falls : (i : ℕ) (low : ℕ → ℕ) (next : List (Option Dependence)) → IsLooking steps start left candidates cut causes → Takes steps place i → candidates (slice_index (lanes_in steps) i) < slice_index (sections_in steps) i →
      Falls steps place cut low → AreCauses steps low next → IsLooking steps start left_too candidates low next
  looking_falls i low next old takes out f why = record {
    above = above_low steps candidates cut low old.above f.lower
        (λ other le closed. f.least other le (taker_out steps other i place closed takes (omega (arith, le (slice_index (lanes_in steps) i), old.above.below (slice_index (lanes_in steps) i)))));
    why = why;
    walk = walk_step steps links linked start left left_too (IsLookedAt steps candidates cut) (IsLookedAt steps candidates low) lane place rows low_lane old.walk here at now
        (λ k h j t o. omega (arith, f.lower (slice_index (lanes_in steps) k), h j t o)) (λ j t o. f.out);
  }

  -- none took from it
  pub search_same : IsSearch steps start left candidates cut causes → IsTakenUp steps cut place → IsSearch steps start left_too candidates cut causes
  search_same old visit = record {
    above = old.above;
    why = old.why;
    looked = old.looked;
    walk = walk_step steps links linked start left left_too (IsTakenUp steps cut) (IsTakenUp steps cut) lane place rows low_lane old.walk here at now (λ k h. h) visit;
  }

  -- one did
  pub search_falls : (j : ℕ) (low : ℕ → ℕ) (next : List (Option Dependence)) → IsSearch steps start left candidates cut causes → Takes steps j place → cut (slice_index (lanes_in steps) place) < slice_index (sections_in steps) place →
      Falls steps j cut low → AreCauses steps low next → IsTakenUp steps low place → IsSearch steps start left_too candidates low next
  search_falls j low next old takes out f why visit = record {
    above = above_low steps candidates cut low old.above f.lower
        (λ other le closed. f.least other le (taker_out steps other place j closed takes (omega (arith, le (slice_index (lanes_in steps) place)))));
    why = why;
    looked = λ k i t s o. omega (arith, f.lower (slice_index (lanes_in steps) k), old.looked k i t s o);
    walk = walk_step steps links linked start left left_too (IsTakenUp steps cut) (IsTakenUp steps low) lane place rows low_lane old.walk here at now
        (λ k h i t. omega (arith, f.lower (slice_index (lanes_in steps) i), h i t)) visit;
  }
