-- The first dependence outside the stable cut.
use Rattle.std.proofs.Common.{ℕ, zero, suc, ◌≡◌, ◌≢◌, ◌+◌, ◌-◌, ◌<◌, ◌≤◌, ◌⊎◌, if◌then◌else◌, Bool, List, [], ◌∷◌, ◌++◌, length, get_or, map, reverse, take, drop, slice_index, refl, sym, ap, ◌∙◌, subst, inl, inr, arith, length-append}
use Rattle.std.proofs.lemmas.Bool.{cases_eq, cases_lt, eq-eqb, ne_eqb}
use Rattle.std.proofs.lemmas.List.{get_or_append_left, get_or-map, length-reverse, length-take-le, take-append-drop, take_all, reverse-append}
use Rattle.heap_model.specs.Log.{lane}
use Rattle.heap_model.specs.Sections.{Action, Takes as takes_act, Frees, Stores, undo_action, ended, Section, Did, Earlier, Took}
use Rattle.heap_model.specs.Cuts.{Counts, IsWhole, IsClosed, IsStable}
use Rattle.heap_model.specs.State.{with_at}
use Rattle.dependence.specs.declared.step.Step.{Step}
use Rattle.dependence.specs.Steps.{did, log_of, HasSections}
use Rattle.dependence.specs.Links.{lanes_in, sections_in, acts_in, act_at}
use Rattle.dependence.specs.Search.{Takes, TookInsideUpTo, TookOutside, IsFirstReleaser, IsLeftOutBy}
use Rattle.dependence.specs.Reason.{TookInside, IsReason, Previous, Releaser}
use Rattle.dependence.proofs.Places.{pick, length_map, map_reverse, at_reverse}
use Rattle.dependence.proofs.Pairs.{Follows, followed, follows}
use Rattle.dependence.proofs.Falling.{lane_is, section_is, act_is, taker_in, releaser_in}
use Rattle.dependence.proofs.Keeping.{split_at}

-- a step that did it
record FoundAt (base : ℕ → ℕ) (steps : List Step) (a : Section) (act : Action) : Type 0 where
  place : ℕ
  there : place < length steps
  lane_at : slice_index (lanes_in steps) place ≡ a.lane
  section_at : slice_index (sections_in steps) place ≡ a.number + base a.lane
  does : act_at (acts_in steps) place ≡ act

found_newest : (base : ℕ → ℕ) (steps : List Step) (a : Section) (act : Action) → HasSections base steps → Did (log_of steps) a act → FoundAt base steps a act
found_newest base [] a act h d = elim d [ ]
found_newest base (s ∷ older) a act h (inl d) =
    let lanes : a.lane ≡ s.lane.0 = ap (λ x. x.lane) d.0 in
    let numbers : a.number ≡ ended (lane s.lane.0 (log_of older)) + 1 = ap (λ x. x.number) d.0 in
    let bases : base a.lane ≡ base s.lane.0 = ap base lanes in
    record { place = 0; there = omega arith; lane_at = sym lanes; section_at = omega (arith, h.0); does = sym d.1 }
found_newest base (s ∷ older) a act h (inr d) =
    let f : FoundAt base older a act = found_newest base older a act h.1 d in
    record { place = suc f.place; there = omega (arith, f.there); lane_at = f.lane_at; section_at = f.section_at; does = f.does }

did_newest : (base : ℕ → ℕ) (steps : List Step) (m : ℕ) → HasSections base steps → m < length steps →
    Did (log_of steps) (record { lane = slice_index (lanes_in steps) m; number = slice_index (sections_in steps) m - base (slice_index (lanes_in steps) m) }) (act_at (acts_in steps) m)
did_newest base [] m h lt = absurd (omega arith)
did_newest base (s ∷ older) zero h lt =
    let number : s.section - base s.lane.0 ≡ ended (lane s.lane.0 (log_of older)) + 1 = omega (arith, h.0) in
    inl ((λ i. record { lane = s.lane.0; number = number i }), refl)
did_newest base (s ∷ older) (suc m) h lt = inr (did_newest base older m h.1 (omega arith))

lane_at_back : (steps : List Step) (i : ℕ) → i < length steps → slice_index (lanes_in (reverse steps)) (length steps - 1 - i) ≡ slice_index (lanes_in steps) i
lane_at_back steps i lt = ap (λ (xs : List ℕ). slice_index xs (length steps - 1 - i)) (map_reverse (λ (s : Step). s.lane.0) steps)
    ∙ ap (λ (n : ℕ). slice_index (reverse (lanes_in steps)) (n - 1 - i)) (sym (length_map (λ (s : Step). s.lane.0) steps)) ∙ at_reverse (lanes_in steps) i 0 (omega (arith, length_map (λ (s : Step). s.lane.0) steps))

section_at_back : (steps : List Step) (i : ℕ) → i < length steps → slice_index (sections_in (reverse steps)) (length steps - 1 - i) ≡ slice_index (sections_in steps) i
section_at_back steps i lt = ap (λ (xs : List ℕ). slice_index xs (length steps - 1 - i)) (map_reverse (λ (s : Step). s.section) steps)
    ∙ ap (λ (n : ℕ). slice_index (reverse (sections_in steps)) (n - 1 - i)) (sym (length_map (λ (s : Step). s.section) steps)) ∙ at_reverse (sections_in steps) i 0 (omega (arith, length_map (λ (s : Step). s.section) steps))

act_at_back : (steps : List Step) (i : ℕ) → i < length steps → act_at (acts_in (reverse steps)) (length steps - 1 - i) ≡ act_at (acts_in steps) i
act_at_back steps i lt = ap (λ (xs : List Action). act_at xs (length steps - 1 - i)) (map_reverse (λ (s : Step). undo_action s.entry) steps)
    ∙ ap (λ (n : ℕ). act_at (reverse (acts_in steps)) (n - 1 - i)) (sym (length_map (λ (s : Step). undo_action s.entry) steps)) ∙ at_reverse (acts_in steps) i Stores (omega (arith, length_map (λ (s : Step). undo_action s.entry) steps))

found_oldest : (base : ℕ → ℕ) (steps : List Step) (a : Section) (act : Action) → HasSections base (reverse steps) → Did (log_of (reverse steps)) a act → FoundAt base steps a act
found_oldest base steps a act h d =
    let f : FoundAt base (reverse steps) a act = found_newest base (reverse steps) a act h d in
    let lt : f.place < length steps = omega (arith, f.there, length-reverse steps) in
    let i : ℕ = length steps - 1 - f.place in
    let back : length steps - 1 - (length steps - 1 - f.place) ≡ f.place = omega arith in
    record {
      place = length steps - 1 - f.place;
      there = omega arith;
      lane_at = sym (lane_at_back steps (length steps - 1 - f.place) (omega arith)) ∙ ap (slice_index (lanes_in (reverse steps))) back ∙ f.lane_at;
      section_at = sym (section_at_back steps (length steps - 1 - f.place) (omega arith)) ∙ ap (slice_index (sections_in (reverse steps))) back ∙ f.section_at;
      does = sym (act_at_back steps (length steps - 1 - f.place) (omega arith)) ∙ ap (act_at (acts_in (reverse steps))) back ∙ f.does;
    }

did_oldest : (base : ℕ → ℕ) (steps : List Step) (i : ℕ) (l k : ℕ) (act : Action) → HasSections base (reverse steps) → i < length steps → slice_index (lanes_in steps) i ≡ l → slice_index (sections_in steps) i ≡ k → act_at (acts_in steps) i ≡ act →
    Did (log_of (reverse steps)) (record { lane = l; number = k - base l }) act
did_oldest base steps i l k act h lt el ek ea =
    let d : Did (log_of (reverse steps)) (record { lane = slice_index (lanes_in (reverse steps)) (length steps - 1 - i); number = slice_index (sections_in (reverse steps)) (length steps - 1 - i) - base (slice_index (lanes_in (reverse steps)) (length steps - 1 - i)) }) (act_at (acts_in (reverse steps)) (length steps - 1 - i)) =
    did_newest base (reverse steps) (length steps - 1 - i) h (omega (arith, length-reverse steps)) in
    subst (λ x. Did (log_of (reverse steps)) (record { lane = l; number = k - base l }) x) (act_at_back steps i lt ∙ ea)
    (subst (λ (n : ℕ). Did (log_of (reverse steps)) (record { lane = l; number = n - base l }) (act_at (acts_in (reverse steps)) (length steps - 1 - i))) (section_at_back steps i lt ∙ ek)
    (subst (λ (m : ℕ). Did (log_of (reverse steps)) (record { lane = m; number = slice_index (sections_in (reverse steps)) (length steps - 1 - i) - base m }) (act_at (acts_in (reverse steps)) (length steps - 1 - i))) (lane_at_back steps i lt ∙ el) d))

-- the first steps
sections_after : (base : ℕ → ℕ) (newer older : List Step) → HasSections base (newer ++ older) → HasSections base older
sections_after base [] older h = h
sections_after base (s ∷ newer) older h = sections_after base newer older h.1

log_append : (newer older : List Step) → log_of (newer ++ older) ≡ log_of newer ++ log_of older
log_append [] older = refl
log_append (s ∷ newer) older = ap (λ (xs : List (ℕ × Action)). did s ∷ xs) (log_append newer older)

sections_first : (base : ℕ → ℕ) (steps : List Step) (n : ℕ) → HasSections base (reverse steps) → HasSections base (reverse (take n steps))
sections_first base steps n h = sections_after base (reverse (drop n steps)) (reverse (take n steps))
    (subst (λ (xs : List Step). HasSections base xs) (ap (λ (xs : List Step). reverse xs) (sym (take-append-drop n steps)) ∙ reverse-append (take n steps) (drop n steps)) h)

at_first : {Y : Type 0} (f : Step → Y) (steps : List Step) (n i : ℕ) (e : Y) → i < length (take n steps) → get_or (map f (take n steps)) i e ≡ get_or (map f steps) i e
at_first {Y} f steps n i e lt =
    let s : (s : Step) × (get_or (take n steps) i s ≡ s) = pick (take n steps) i lt in
    let whole : get_or steps i s.0 ≡ get_or (take n steps) i s.0 = ap (λ (xs : List Step). get_or xs i s.0) (sym (take-append-drop n steps)) ∙ get_or_append_left (take n steps) (drop n steps) s.0 i lt in
    let more : length (take n steps) + length (drop n steps) ≡ length steps = sym (length-append (take n steps) (drop n steps)) ∙ ap (λ (xs : List Step). length xs) (take-append-drop n steps) in
    get_or-map f (take n steps) i s.0 e lt ∙ ap f (sym whole) ∙ sym (get_or-map f steps i s.0 e (omega arith))

module _ (base cut more : ℕ → ℕ) (steps : List Step) (numbered : HasSections base (reverse steps)) (apart : (l : ℕ) → cut l ≡ base l + more l) where
  abbrev pub log : List (ℕ × Action)
  log = log_of (reverse steps)

  abbrev pub section_of : ℕ → ℕ → Section
  section_of l k = record { lane = l; number = k - base l }

  -- what was taken inside up to a place
  took_inside : (l k n : ℕ) → n ≤ length steps → TookInsideUpTo steps cut l k n → base l < k → TookInside log more (section_of l k) (log_of (reverse (take n steps)))
  took_inside l k n le inside past o m b took freed differ =
      let f : FoundAt base (take n steps) (section_of l k) (takes_act o (m + 1)) = found_oldest base (take n steps) (section_of l k) (takes_act o (m + 1)) (sections_first base steps n numbered) took in
      let g : FoundAt base steps b (Frees o m) = found_oldest base steps b (Frees o m) numbered freed in
      let early : f.place < n = omega (arith, f.there, length-take-le n steps le) in
      let lane_f : slice_index (lanes_in steps) f.place ≡ l = sym (at_first (λ (s : Step). s.lane.0) steps n f.place 0 f.there) ∙ f.lane_at in
      let section_f : slice_index (sections_in steps) f.place ≡ k = sym (at_first (λ (s : Step). s.section) steps n f.place 0 f.there) ∙ f.section_at ∙ omega arith in
      let act_f : act_at (acts_in steps) f.place ≡ takes_act o (m + 1) = sym (at_first (λ (s : Step). undo_action s.entry) steps n f.place Stores f.there) ∙ f.does in
      let takes : Takes steps f.place g.place = follows (act_at (acts_in steps) f.place) (act_at (acts_in steps) g.place) o m act_f g.does in
      let at : cut (slice_index (lanes_in steps) g.place) ≡ cut b.lane = ap cut g.lane_at in
      elim (inside f.place early lane_f section_f g.place takes) [
        | inl counted ↦ omega (arith, g.section_at, apart b.lane)
        | inr own ↦ absurd (
            let lanes : l ≡ b.lane = sym own.0 ∙ g.lane_at in
            let numbers : k - base l ≡ b.number = (let h : base l ≡ base b.lane = ap base lanes in omega (arith, own.1, g.section_at)) in
            differ (λ i. record { lane = lanes i; number = numbers i }))
      ]

  -- a whole section whose dependences are all inside is inside
  pub reason_there : (l k : ℕ) → IsStable log more → k ≤ ended (lane l log) + base l → cut l < k → k ≤ cut l + 1 → TookInsideUpTo steps cut l k (length steps) → ⊥
  reason_there l k stable whole out next inside =
      let wider : ℕ → ℕ = with_at more l (k - base l) in
      let at : wider l ≡ k - base l = ap (λ (b : Bool). if b then k - base l else more l) (eq-eqb l l refl) in
      let others : (m : ℕ) → m ≢ l → wider m ≡ more m = λ m ne. ap (λ (b : Bool). if b then k - base l else more m) (ne_eqb l m (λ e. ne (sym e))) in
      let above : (m : ℕ) → more m ≤ wider m = λ m. elim (cases_eq m l) [ inl e ↦ (let f : wider m ≡ wider l = ap wider e in let g : more m ≡ more l = ap more e in omega (arith, apart l)) | inr ne ↦ omega (arith, others m ne) ] in
      let is_whole : IsWhole log wider = λ m. elim (cases_eq m l) [ inl e ↦ (let f : wider m ≡ wider l = ap wider e in let g : ended (lane m log) ≡ ended (lane l log) = ap (λ (x : ℕ). ended (lane x log)) e in omega arith) | inr ne ↦ omega (arith, others m ne, stable.whole m) ] in
      let all : TookInside log more (section_of l k) log = subst (λ (xs : List Step). TookInside log more (section_of l k) (log_of (reverse xs))) (take_all (length steps) steps (omega arith)) (took_inside l k (length steps) (omega arith) inside (omega (arith, apart l))) in
      let last : (a : Section) → Counts wider a → Counts more a ⊎ (a ≡ section_of l k) = λ a counted. elim (cases_lt (more a.lane) a.number) [
        | inr in_more ↦ inl in_more
        | inl past ↦ elim (cases_eq a.lane l) [
          | inr ne ↦ inl (omega (arith, others a.lane ne))
          | inl e ↦ inr (
              let f : wider a.lane ≡ wider l = ap wider e in
              let g : more a.lane ≡ more l = ap more e in
              let number : a.number ≡ k - base l = omega (arith, apart l) in
              λ i. record { lane = e i; number = number i })
        ]
      ] in
      let closed : IsClosed log wider = λ a b counted depends. elim (last a counted) [
        | inl in_more ↦ (let low : Counts more b = stable.closed a b in_more depends in omega (arith, above b.lane))
        | inr own ↦ elim depends [
          | Earlier e lt ↦ (let f : wider a.lane ≡ wider b.lane = ap wider e in omega arith)
          | Took o n took freed differ ↦
              let low : Counts more b = all o n b (subst (λ x. Did log x (takes_act o (n + 1))) own took) freed (λ e. differ (own ∙ e)) in
              omega (arith, above b.lane)
        ]
      ] in
      omega (arith, stable.greatest wider is_whole closed l, apart l)

  -- the reason, as the log tells it
  pub reason_is : (whole : ℕ → ℕ) (l k m j : ℕ) → ((x : ℕ) → base x ≤ cut x) → IsLeftOutBy steps whole cut l k m j → IsReason log more (section_of l k) (section_of m j)
  reason_is whole l k m j above (left, inl previous) =
      let same : m ≡ l = previous.0 in
      let bases : base m ≡ base l = ap base same in
      Previous (omega (arith, previous.2, apart l)) same (omega (arith, previous.1, previous.2, above l))
  reason_is whole l k m j above (left, inr releaser) =
      let first : IsFirstReleaser steps cut l k m j = releaser.1 in
      let took : TookOutside steps cut l k first.take m j = first.took in
      let out : cut l < k = left.1 in
      let li : first.take < length steps = taker_in steps took.release first.take took.takes in
      let lr : took.release < length steps = releaser_in steps took.release first.take took.takes in
      let s : (s : Step) × (get_or steps first.take s ≡ s) = pick steps first.take li in
      let f : Follows (act_at (acts_in steps) first.take) (act_at (acts_in steps) took.release) = followed (act_at (acts_in steps) first.take) (act_at (acts_in steps) took.release) took.takes in
      let split : reverse steps ≡ reverse (drop (first.take + 1) steps) ++ (s.0 ∷ reverse (take first.take steps)) = split_at steps first.take s.0 li (sym s.1) in
      let here : did s.0 ≡ (l, takes_act f.object (f.number + 1)) = (λ i. ((sym (lane_is steps first.take s.0 li s.1) ∙ took.lane_is) i, (sym (act_is steps first.take s.0 li s.1) ∙ f.takes) i)) in
      let place : log ≡ log_of (reverse (drop (first.take + 1) steps)) ++ (l, takes_act f.object (f.number + 1)) ∷ log_of (reverse (take first.take steps)) =
      ap log_of split ∙ log_append (reverse (drop (first.take + 1) steps)) (s.0 ∷ reverse (take first.take steps)) ∙ ap (λ (x : ℕ × Action). log_of (reverse (drop (first.take + 1) steps)) ++ x ∷ log_of (reverse (take first.take steps))) here in
      let own : HasSections base (s.0 ∷ reverse (take first.take steps)) = sections_after base (reverse (drop (first.take + 1) steps)) (s.0 ∷ reverse (take first.take steps)) (subst (λ (xs : List Step). HasSections base xs) split numbered) in
      let of_lane : (s.0).lane.0 ≡ l = sym (lane_is steps first.take s.0 li s.1) ∙ took.lane_is in
      let of_section : (s.0).section ≡ k = sym (section_is steps first.take s.0 li s.1) ∙ took.section_is in
      let ends : ended (lane (s.0).lane.0 (log_of (reverse (take first.take steps)))) ≡ ended (lane l (log_of (reverse (take first.take steps)))) = ap (λ (x : ℕ). ended (lane x (log_of (reverse (take first.take steps))))) of_lane in
      let bases : base (s.0).lane.0 ≡ base l = ap base of_lane in
      let past : base m < j = omega (arith, took.outside, above m) in
      Releaser (omega (arith, releaser.0, apart l)) (log_of (reverse (take first.take steps)))
      (record {
        newer = log_of (reverse (drop (first.take + 1) steps));
        object = f.object;
        number = f.number;
        place = place;
        section = omega (arith, own.0);
        freed = did_oldest base steps took.release m j (Frees f.object f.number) numbered lr took.releaser_is took.released_is f.frees;
        other = λ e. took.other (sym (ap (λ x. x.lane) e)) (let lanes : l ≡ m = ap (λ x. x.lane) e in let numbers : k - base l ≡ j - base m = ap (λ x. x.number) e in let same : base l ≡ base m = ap base lanes in omega (arith, above l));
      })
      (omega (arith, took.outside, apart m))
      (took_inside l k first.take (omega arith) first.first (omega (arith, above l)))
