-- The walks of the search for the stable cut, step by step.
use Rattle.std.proofs.Common.{ℕ, ◌≡◌, ◌≢◌, ◌+◌, ◌-◌, ◌<◌, ◌≤◌, ◌&&◌, Bool, true, false, not, List, Option, length, get_or, slice_index, slice_set, refl, sym, ap, ◌∙◌, subst, inl, inr, arith, get_or-set_same, get_or-set_other}
use Rattle.std.proofs.lemmas.Bool.{and_parts, leb-true, leb-false, lt-leb, cases_Bool, cases_eq, cases_lt, not-true}
use Rattle.std.proofs.lemmas.List.{get_or-map}
use Rattle.heap_model.specs.Sections.{undo_action}
use Rattle.law_cuts.specs.Plain.{takes_after, counts, is_blocked_by, IsClosedOver}
use Rattle.dependence.specs.declared.section.Dependence.{Dependence}
use Rattle.dependence.specs.declared.step.Step.{Step}
use Rattle.dependence.specs.declared.links.Links.{Links}
use Rattle.dependence.specs.Steps.{reading}
use Rattle.dependence.specs.Links.{lanes_in, sections_in, acts_in, act_at, before_in}
use Rattle.dependence.specs.Kept.{IsLinked}
use Rattle.dependence.specs.Search.{Takes, IsAbove, IsStart, IsWalk, IsLookedAt, IsTakenUp, IsLooking, IsSearch, IsLeft, IsSorted}
use Rattle.dependence.proofs.Places.{length_map, pick}
use Rattle.dependence.proofs.Pairs.{taker_there, releaser_there}

pub lane_is : (steps : List Step) (i : ℕ) (s : Step) → i < length steps → get_or steps i s ≡ s → slice_index (lanes_in steps) i ≡ s.lane.0
lane_is steps i s lt e = get_or-map (λ (t : Step). t.lane.0) steps i s 0 lt ∙ ap (λ (t : Step). t.lane.0) e

pub section_is : (steps : List Step) (i : ℕ) (s : Step) → i < length steps → get_or steps i s ≡ s → slice_index (sections_in steps) i ≡ s.section
section_is steps i s lt e = get_or-map (λ (t : Step). t.section) steps i s 0 lt ∙ ap (λ (t : Step). t.section) e

pub act_is : (steps : List Step) (i : ℕ) (s : Step) → i < length steps → get_or steps i s ≡ s → act_at (acts_in steps) i ≡ undo_action s.entry
act_is steps i s lt e = get_or-map (λ (t : Step). undo_action t.entry) steps i s _ lt ∙ ap (λ (t : Step). undo_action t.entry) e

pub takes_at : (steps : List Step) (i j : ℕ) (d e : Step) (b : Bool) → i < length steps → j < length steps → b ≡ takes_after (undo_action (get_or steps i d).entry) (undo_action (get_or steps j e).entry) →
    b ≡ takes_after (act_at (acts_in steps) i) (act_at (acts_in steps) j)
takes_at steps i j d e b li lj h = h ∙ ap (λ x. takes_after x (undo_action (get_or steps j e).entry)) (sym (get_or-map (λ (t : Step). undo_action t.entry) steps i d _ li))
    ∙ ap (takes_after (act_at (acts_in steps) i)) (sym (get_or-map (λ (t : Step). undo_action t.entry) steps j e _ lj))

pub taker_in : (steps : List Step) (i j : ℕ) → Takes steps j i → j < length steps
taker_in steps i j h = omega (arith, taker_there (acts_in steps) i j h, length_map (λ (s : Step). undo_action s.entry) steps)

pub releaser_in : (steps : List Step) (i j : ℕ) → Takes steps j i → i < length steps
releaser_in steps i j h = omega (arith, releaser_there (acts_in steps) i j h, length_map (λ (s : Step). undo_action s.entry) steps)

-- a closed cut that doesn't count a release counts no take from it
pub taker_out : (steps : List Step) (cut : ℕ → ℕ) (i j : ℕ) → IsClosedOver reading steps cut → Takes steps j i → cut (slice_index (lanes_in steps) i) < slice_index (sections_in steps) i →
    cut (slice_index (lanes_in steps) j) < slice_index (sections_in steps) j
taker_out steps cut i j closed takes out =
    let li : i < length steps = releaser_in steps i j takes in
    let lj : j < length steps = taker_in steps i j takes in
    let t : (s : Step) × (get_or steps i s ≡ s) = pick steps i li in
    let s : (s : Step) × (get_or steps j s ≡ s) = pick steps j lj in
    let after : takes_after (undo_action (s.0).entry) (undo_action (t.0).entry) ≡ true =
    ap (λ x. takes_after x (undo_action (t.0).entry)) (sym (act_is steps j s.0 lj s.1)) ∙ ap (takes_after (act_at (acts_in steps) j)) (sym (act_is steps i t.0 li t.1)) ∙ takes in
    let lane_i : slice_index (lanes_in steps) i ≡ (t.0).lane.0 = lane_is steps i t.0 li t.1 in
    let section_i : slice_index (sections_in steps) i ≡ (t.0).section = section_is steps i t.0 li t.1 in
    let lane_j : slice_index (lanes_in steps) j ≡ (s.0).lane.0 = lane_is steps j s.0 lj s.1 in
    let section_j : slice_index (sections_in steps) j ≡ (s.0).section = section_is steps j s.0 lj s.1 in
    let cut_i : cut (slice_index (lanes_in steps) i) ≡ cut ((t.0).lane.0) = ap cut lane_i in
    let cut_j : cut (slice_index (lanes_in steps) j) ≡ cut ((s.0).lane.0) = ap cut lane_j in
    let out_too : counts reading cut t.0 ≡ false = lt-leb _ _ (omega arith) in
    elim (cases_Bool (counts reading cut s.0)) [
      | inl counted ↦
          let closed_here : (counts reading cut s.0 && (takes_after (undo_action (s.0).entry) (undo_action (t.0).entry) && not (counts reading cut t.0))) ≡ false = closed s.0 t.0 (j, lj, s.1) (i, li, t.1) in
          let now : (counts reading cut s.0 && (takes_after (undo_action (s.0).entry) (undo_action (t.0).entry) && not (counts reading cut t.0))) ≡ true = rw (counted, after, out_too) refl in
          absurd cc
      | inr outside ↦ let low : cut ((s.0).lane.0) < (s.0).section = leb-false _ _ outside in omega arith
    ]

-- a cut that falls, but not below the closed ones
pub above_low : (steps : List Step) (most cut low : ℕ → ℕ) → IsAbove steps most cut → ((l : ℕ) → low l ≤ cut l) → ((other : ℕ → ℕ) → ((l : ℕ) → other l ≤ cut l) → IsClosedOver reading steps other → (l : ℕ) → other l ≤ low l) → IsAbove steps most low
above_low steps most cut low old lower least = record {
  below = λ l. omega (arith, lower l, old.below l);
  greatest = λ other le closed. least other (old.greatest other le closed) closed;
}

pub above_same : (steps : List Step) (most : ℕ → ℕ) → IsAbove steps most most
above_same steps most = record { below = λ l. omega arith; greatest = λ other le closed. le }

-- a cut that falls below the section of the step at a place
pub record Falls (steps : List Step) (place : ℕ) (cut low : ℕ → ℕ) : Type 0 where
  pub lower : (l : ℕ) → low l ≤ cut l
  pub out : low (slice_index (lanes_in steps) place) < slice_index (sections_in steps) place
  pub least : (other : ℕ → ℕ) → ((l : ℕ) → other l ≤ cut l) → other (slice_index (lanes_in steps) place) < slice_index (sections_in steps) place → (l : ℕ) → other l ≤ low l

pub falls : (steps : List Step) (k : ℕ) (t : Step) (cut low : ℕ → ℕ) → k < length steps → t ≡ get_or steps k t →
    low t.lane.0 < t.section → ((l : ℕ) → l ≢ t.lane.0 → low l ≡ cut l) → low t.lane.0 ≤ cut t.lane.0 → ((n : ℕ) → n < t.section → n ≤ cut t.lane.0 → n ≤ low t.lane.0) → Falls steps k cut low
falls steps k t cut low lt is out others fewer least = record {
  lower = λ l. elim (cases_eq l t.lane.0) [
    | inl e ↦ let a : low l ≡ low t.lane.0 = ap low e in let b : cut l ≡ cut t.lane.0 = ap cut e in omega arith
    | inr ne ↦ omega (arith, others l ne)
  ];
  out = let a : low (slice_index (lanes_in steps) k) ≡ low t.lane.0 = ap low of_lane in omega (arith, of_section);
  least = λ other le outside l. elim (cases_eq l t.lane.0) [
    | inl e ↦
        let a : low l ≡ low t.lane.0 = ap low e in
        let b : other l ≡ other t.lane.0 = ap other e in
        let d : other (slice_index (lanes_in steps) k) ≡ other t.lane.0 = ap other of_lane in
        omega (arith, least (other t.lane.0) (omega (arith, of_section)) (le t.lane.0))
    | inr ne ↦ omega (arith, others l ne, le l)
  ];
}
  where
    of_lane : slice_index (lanes_in steps) k ≡ t.lane.0
    of_lane = lane_is steps k t lt (sym is)

    of_section : slice_index (sections_in steps) k ≡ t.section
    of_section = section_is steps k t lt (sym is)

module _ (steps : List Step) (links : Links) (linked : IsLinked steps links) where
  -- a walk begins where nothing was visited
  pub walk_init : (start : List ℕ) (Visited : ℕ → Type 0) (answered candidates : ℕ → ℕ) → IsStart links.newest answered candidates start → IsWalk steps start start Visited
  walk_init start Visited answered candidates is = record {
    places = λ l c h. elim (is l) [
      | inl all ↦
          let was : (c < length (lanes_in steps)) × (slice_index (lanes_in steps) c ≡ l) = linked.chained.newest_is l c (sym all ∙ h) in
          (let lt : c < length (lanes_in steps) = was.0 in omega (arith, length_map (λ (s : Step). s.lane.0) steps), was.1)
      | inr none ↦ absurd (let zero_is : slice_index start l ≡ 0 = none.0 in omega arith)
    ];
    visited = λ k lt le before. absurd (omega arith);
  }

  -- one more step of a lane is visited
  pub walk_step : (start left left_too : List ℕ) (Old New : ℕ → Type 0) (lane place : ℕ) → length left ≡ 32 → lane < 32 → IsWalk steps start left Old → place < length steps → place + 1 ≡ slice_index left lane →
      left_too ≡ slice_set left lane (slice_index (before_in links.beside.items) place) → ((k : ℕ) → Old k → New k) → New place → IsWalk steps start left_too New
  walk_step start left left_too Old New lane place rows low old here at now more visit =
      let many : length (lanes_in steps) ≡ length steps = length_map (λ (s : Step). s.lane.0) steps in
      let of_lane : slice_index (lanes_in steps) place ≡ lane = (old.places lane place (sym at)).1 in
      let same : slice_index left_too lane ≡ slice_index (before_in links.beside.items) place = ap (λ (xs : List ℕ). slice_index xs lane) now ∙ get_or-set_same left lane (slice_index (before_in links.beside.items) place) 0 (omega arith) in
      let other_lane : (l : ℕ) → l ≢ lane → slice_index left_too l ≡ slice_index left l =
      λ l ne. ap (λ (xs : List ℕ). slice_index xs l) now ∙ get_or-set_other left lane l (slice_index (before_in links.beside.items) place) 0 ne in
      record {
        visited = λ k lt le before. elim (cases_eq (slice_index (lanes_in steps) k) lane) [
          | inl e ↦ elim (cases_lt k (place + 1)) [
            | inr later ↦
                let was : slice_index left (slice_index (lanes_in steps) k) ≤ k = (let f : slice_index left (slice_index (lanes_in steps) k) ≡ slice_index left lane = ap (slice_index left) e in omega arith) in
                more k (old.visited k lt was before)
            | inl not_later ↦ elim (cases_eq k place) [
              | inl it ↦ subst New (sym it) visit
              | inr ne ↦
                  let f : slice_index left_too (slice_index (lanes_in steps) k) ≡ slice_index (before_in links.beside.items) place = ap (slice_index left_too) e ∙ same in
                  absurd (omega (arith, linked.chained.before_last place k (omega arith) (grind arith) (e ∙ sym of_lane)))
            ]
          ]
          | inr ne ↦
              let f : slice_index left_too (slice_index (lanes_in steps) k) ≡ slice_index left (slice_index (lanes_in steps) k) = other_lane (slice_index (lanes_in steps) k) ne in
              more k (old.visited k lt (omega arith) before)
        ];
        places = λ l c h. elim (cases_eq l lane) [
          | inl e ↦
              let f : slice_index (before_in links.beside.items) place ≡ c + 1 = sym same ∙ ap (slice_index left_too) (sym e) ∙ h in
              let was : (c < place) × (slice_index (lanes_in steps) c ≡ slice_index (lanes_in steps) place) = linked.chained.before_is place c (omega arith) f in
              (let lt : c < place = was.0 in omega arith, was.1 ∙ of_lane ∙ sym e)
          | inr ne ↦ old.places l c (sym (other_lane l ne) ∙ h)
        ];
      }

  -- the places of the takes are those that are linked
  pub one_taker : (i j k : ℕ) → Takes steps j i → Takes steps k i → j ≡ k
  one_taker i j k h g = omega (arith, linked.paired.taker i j h, linked.paired.taker i k g)

  pub one_releaser : (i j k : ℕ) → Takes steps k i → Takes steps k j → i ≡ j
  one_releaser i j k h g = omega (arith, linked.paired.releaser i k h, linked.paired.releaser j k g)

-- a closed cut that counts a take counts what it took
pub releaser_in_cut : (steps : List Step) (cut : ℕ → ℕ) (i j : ℕ) → IsClosedOver reading steps cut → Takes steps j i → slice_index (sections_in steps) j ≤ cut (slice_index (lanes_in steps) j) → slice_index (sections_in steps) i ≤ cut (slice_index (lanes_in steps) i)
releaser_in_cut steps cut i j closed takes in_cut = elim (cases_lt (cut (slice_index (lanes_in steps) i)) (slice_index (sections_in steps) i)) [
  | inl out ↦ absurd (omega (arith, taker_out steps cut i j closed takes out))
  | inr inside ↦ inside
]

-- what the walk came by: the steps of sections beyond the cut at which it ended
pub walked : (steps : List Step) (links : Links) (start left : List ℕ) (Visited : ℕ → Type 0) (floor : ℕ → ℕ) (lanes : ℕ) → lanes ≤ 32 → IsLinked steps links → IsSorted steps lanes → IsWalk steps start left Visited → ((l : ℕ) → l < lanes → ¬ IsLeft steps left floor l) →
    (k : ℕ) → k < length steps → slice_index start (slice_index (lanes_in steps) k) ≡ slice_index links.newest (slice_index (lanes_in steps) k) → floor (slice_index (lanes_in steps) k) < slice_index (sections_in steps) k → Visited k
walked steps links start left Visited floor lanes low linked sorted walk none k lt all beyond = elim (cases_lt k (slice_index left (slice_index (lanes_in steps) k))) [
  | inr taken ↦ walk.visited k lt taken (omega (arith, all, linked.chained.newest_last k (omega (arith, length_map (λ (s : Step). s.lane.0) steps))))
  | inl before ↦
      let top : ℕ = slice_index left (slice_index (lanes_in steps) k) - 1 in
      let at : slice_index left (slice_index (lanes_in steps) k) ≡ top + 1 = omega arith in
      let place : (top < length steps) × (slice_index (lanes_in steps) top ≡ slice_index (lanes_in steps) k) = walk.places (slice_index (lanes_in steps) k) top at in
      let there : top < length steps = place.0 in
      absurd (none (slice_index (lanes_in steps) k) (sorted.low k lt) (record { low = omega (arith, sorted.low k lt); some = omega arith; there = omega arith; out = omega (arith, sorted.rise k top (omega arith) there (sym place.1)) }))
]

-- after the first walk, what took from a section that is no candidate is out
pub looking_done : (steps : List Step) (links : Links) (start left : List ℕ) (answered candidates cut : ℕ → ℕ) (causes : List (Option Dependence)) (lanes : ℕ) → lanes ≤ 32 → IsLinked steps links → IsSorted steps lanes → IsClosedOver reading steps answered →
    ((l : ℕ) → answered l ≤ candidates l) → IsStart links.newest answered candidates start → IsLooking steps start left candidates cut causes → ((l : ℕ) → l < lanes → ¬ IsLeft steps left answered l) → (j : ℕ) → IsLookedAt steps candidates cut j
looking_done steps links start left answered candidates cut causes lanes low linked sorted closed less is looking none j i takes out = elim (cases_lt (answered (slice_index (lanes_in steps) j)) (slice_index (sections_in steps) j)) [
  | inr was_in ↦ absurd (omega (arith, releaser_in_cut steps answered i j closed takes was_in, less (slice_index (lanes_in steps) i)))
  | inl beyond ↦ elim (is (slice_index (lanes_in steps) j)) [
    | inr idle ↦ omega (arith, idle.1, looking.above.below (slice_index (lanes_in steps) j))
    | inl all ↦ walked steps links start left (IsLookedAt steps candidates cut) answered lanes low linked sorted looking.walk none j (taker_in steps i j takes) all beyond i takes out
  ]
]

-- the cut where no lane has a step left that is outside
pub search_done : (steps : List Step) (links : Links) (start left : List ℕ) (answered candidates cut : ℕ → ℕ) (causes : List (Option Dependence)) (lanes : ℕ) → lanes ≤ 32 → IsLinked steps links → IsSorted steps lanes → IsClosedOver reading steps answered →
    ((l : ℕ) → answered l ≤ candidates l) → IsStart links.newest answered candidates start → IsSearch steps start left candidates cut causes → ((l : ℕ) → l < lanes → ¬ IsLeft steps left cut l) → IsClosedOver reading steps cut
search_done steps links start left answered candidates cut causes lanes low linked sorted answered_closed less is search none = closed
  where
    -- the release of a counted take is counted
    counted : (i j : ℕ) → Takes steps j i → slice_index (sections_in steps) j ≤ cut (slice_index (lanes_in steps) j) → slice_index (sections_in steps) i ≤ cut (slice_index (lanes_in steps) i)
    counted i j h in_cut = elim (cases_lt (cut (slice_index (lanes_in steps) i)) (slice_index (sections_in steps) i)) [
      | inr inside ↦ inside
      | inl out ↦ elim (is (slice_index (lanes_in steps) i)) [
        | inl all ↦ absurd (omega (arith, walked steps links start left (IsTakenUp steps cut) cut lanes low linked sorted search.walk none i (releaser_in steps i j h) all out j h))
        | inr idle ↦
            let above : answered (slice_index (lanes_in steps) i) ≤ cut (slice_index (lanes_in steps) i) = search.above.greatest answered less answered_closed (slice_index (lanes_in steps) i) in
            absurd (omega (arith, search.looked j i h idle.0 (omega (arith, idle.1))))
      ]
    ]

    closed : IsClosedOver reading steps cut
    closed s t here there = elim (cases_Bool (is_blocked_by reading cut s t)) [
      | inr clear ↦ clear
      | inl blocked ↦
          let parts : (counts reading cut s ≡ true) × ((takes_after (undo_action s.entry) (undo_action t.entry) && not (counts reading cut t)) ≡ true) = and_parts _ _ blocked in
          let parts_too : (takes_after (undo_action s.entry) (undo_action t.entry) ≡ true) × (not (counts reading cut t) ≡ true) = and_parts _ _ parts.1 in
          let in_cut : s.section ≤ cut s.lane.0 = leb-true _ _ parts.0 in
          let out : cut t.lane.0 < t.section = leb-false _ _ (not-true _ parts_too.1) in
          let takes : Takes steps here.0 there.0 = ap (λ x. takes_after x (act_at (acts_in steps) there.0)) (act_is steps here.0 s here.1 here.2) ∙ ap (takes_after (undo_action s.entry)) (act_is steps there.0 t there.1 there.2) ∙ parts_too.0 in
          let lane_s : slice_index (lanes_in steps) here.0 ≡ s.lane.0 = lane_is steps here.0 s here.1 here.2 in
          let lane_t : slice_index (lanes_in steps) there.0 ≡ t.lane.0 = lane_is steps there.0 t there.1 there.2 in
          let section_s : slice_index (sections_in steps) here.0 ≡ s.section = section_is steps here.0 s here.1 here.2 in
          let section_t : slice_index (sections_in steps) there.0 ≡ t.section = section_is steps there.0 t there.1 there.2 in
          let cut_s : cut (slice_index (lanes_in steps) here.0) ≡ cut s.lane.0 = ap cut lane_s in
          let cut_t : cut (slice_index (lanes_in steps) there.0) ≡ cut t.lane.0 = ap cut lane_t in
          absurd (omega (arith, counted there.0 here.0 takes (omega arith)))
    ]
