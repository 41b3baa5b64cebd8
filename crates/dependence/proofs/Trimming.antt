-- The steps without what a cut counts.
use Rattle.std.proofs.Common.{ℕ, ◌≡◌, ◌+◌, ◌<◌, ◌≤◌, if◌then◌else◌, cond, Bool, true, false, nat_lt, List, [], ◌∷◌, ◌++◌, length, reverse, slice_index, refl, sym, ap, ◌∙◌, subst, inl, inr, arith}
use Rattle.std.specs.List.{filter}
use Rattle.std.proofs.lemmas.Bool.{eq-eqb, ne_eqb, lt-ltb, le-ltb, cases_lt, cases_eq}
use Rattle.std.proofs.lemmas.List.{reverse-append}
use Rattle.std.proofs.lemmas.List.Elements.{filter-append}
use Rattle.heap_model.specs.declared.cut.Cut.{Cut}
use Rattle.heap_model.specs.Log.{lane}
use Rattle.heap_model.specs.Sections.{Action, Takes, Frees, Stores, without, holding, ended}
use Rattle.heap_model.specs.Cuts.{counts_of, IsWhole, IsStable, is_counted}
use Rattle.heap_model.specs.Base.{since}
use Rattle.law_cuts.proofs.Stores.{ended_rises}
use Rattle.law_cuts.proofs.Trimmed.{ends_free, since_counts}
use Rattle.law_cuts.proofs.PartTrimmed.{part_trim_stable}
use Rattle.law_cuts.proofs.Existence.{stable_exists, stable_once}
use Rattle.dependence.specs.declared.step.Step.{Step}
use Rattle.dependence.specs.Trace.{Trace, base_of, beyond, IsStableOf}
use Rattle.dependence.specs.Next.{IsBelow}
use Rattle.dependence.specs.Steps.{did, log_of, HasSections}
use Rattle.dependence.specs.Kept.{IsCounted, IsInOrder, Rises}

append_nil : (ys : List Step) → ys ++ [] ≡ ys
append_nil [] = refl
append_nil (y ∷ ys) = ap (λ (zs : List Step). y ∷ zs) (append_nil ys)

reverse_one : (p : Step → Bool) (x : Step) (xs : List Step) (b : Bool) → p x ≡ b → reverse (filter p xs) ≡ filter p (reverse xs) → filter p (reverse xs) ++ filter p (x ∷ []) ≡ reverse (filter p (x ∷ xs))
reverse_one p x xs true e rest = ap (λ (b : Bool). filter p (reverse xs) ++ cond b (x ∷ []) []) e ∙ ap (λ (ys : List Step). ys ++ x ∷ []) (sym rest) ∙ sym (reverse-append (x ∷ []) (filter p xs)) ∙ sym (ap (λ (b : Bool). reverse (cond b (x ∷ filter p xs) (filter p xs))) e)
reverse_one p x xs false e rest = ap (λ (b : Bool). filter p (reverse xs) ++ cond b (x ∷ []) []) e ∙ append_nil (filter p (reverse xs)) ∙ sym rest ∙ sym (ap (λ (b : Bool). reverse (cond b (x ∷ filter p xs) (filter p xs))) e)

pub reverse_filter : (p : Step → Bool) (xs : List Step) → reverse (filter p xs) ≡ filter p (reverse xs)
reverse_filter p [] = refl
reverse_filter p (x ∷ xs) =
    let back : reverse (x ∷ xs) ≡ reverse xs ++ x ∷ [] = reverse-append (x ∷ []) xs in
    sym (ap (filter p) back ∙ filter-append p (reverse xs) (x ∷ []) ∙ reverse_one p x xs (p x) refl (reverse_filter p xs))

-- an object's numbers in what is left
pub below_since : (o t f : ℕ) (more : ℕ → ℕ) (log : List (ℕ × Action)) → IsBelow o t f log → IsBelow o t f (since more log)
below_since o t f more [] h = tt
below_since o t f more ((l, Takes p n) ∷ older) h = elim (is_counted more l older) as (λ b. IsBelow o t f (if b then since more older else (l, Takes p n) ∷ since more older)) [ true ↦ below_since o t f more older h.1 | false ↦ (h.0, below_since o t f more older h.1) ]
below_since o t f more ((l, Frees p n) ∷ older) h = elim (is_counted more l older) as (λ b. IsBelow o t f (if b then since more older else (l, Frees p n) ∷ since more older)) [ true ↦ below_since o t f more older h.1 | false ↦ (h.0, below_since o t f more older h.1) ]
below_since o t f more ((l, Stores) ∷ older) h = elim (is_counted more l older) as (λ b. IsBelow o t f (if b then since more older else (l, Stores) ∷ since more older)) [ true ↦ below_since o t f more older h | false ↦ below_since o t f more older h ]

order_since : (more : ℕ → ℕ) (log : List (ℕ × Action)) (a : Action) → IsInOrder log a → IsInOrder (since more log) a
order_since more log (Takes o n) h = below_since o n n more log h
order_since more log (Frees o n) h = below_since o (n + 1) n more log h
order_since more log Stores h = tt

pub rises_since : (more : ℕ → ℕ) (log : List (ℕ × Action)) → Rises log → Rises (since more log)
rises_since more [] h = tt
rises_since more (x ∷ older) h = elim (is_counted more x.0 older) as (λ b. Rises (if b then since more older else x ∷ since more older)) [ true ↦ rises_since more older h.1 | false ↦ (order_since more older x.1 h.0, rises_since more older h.1) ]

-- what a lane holds is past the base
lane_cons : (l : ℕ) (x : ℕ × Action) (log : List (ℕ × Action)) → x.0 ≡ l → lane l (x ∷ log) ≡ x.1 ∷ lane l log
lane_cons l x log e = ap (λ (b : Bool). if b then x.1 ∷ lane l log else lane l log) (eq-eqb x.0 l e)

lane_skip : (l : ℕ) (x : ℕ × Action) (log : List (ℕ × Action)) → (x.0 ≡ l → ⊥) → lane l (x ∷ log) ≡ lane l log
lane_skip l x log ne = ap (λ (b : Bool). if b then x.1 ∷ lane l log else lane l log) (ne_eqb x.0 l ne)

since_skip : (more : ℕ → ℕ) (l : ℕ) (x : ℕ × Action) (log : List (ℕ × Action)) → (x.0 ≡ l → ⊥) → lane l (since more (x ∷ log)) ≡ lane l (since more log)
since_skip more l x log ne = elim (is_counted more x.0 log) as (λ b. lane l (if b then since more log else x ∷ since more log) ≡ lane l (since more log)) [ true ↦ refl | false ↦ lane_skip l x (since more log) ne ]

since_none : (more : ℕ → ℕ) (l : ℕ) (log : List (ℕ × Action)) → ended (lane l log) < more l → lane l (since more log) ≡ []
since_none more l [] lt = refl
since_none more l (x ∷ older) lt = elim (cases_eq x.0 l) [
  | inr ne ↦ since_skip more l x older ne ∙ since_none more l older (subst (λ (xs : List Action). ended xs < more l) (lane_skip l x older ne) lt)
  | inl e ↦
      let lower : ended (lane l older) < more l = (let all : ended (x.1 ∷ lane l older) < more l = subst (λ (xs : List Action). ended xs < more l) (lane_cons l x older e) lt in omega (arith, ended_rises x.1 (lane l older))) in
      let counted : is_counted more x.0 older ≡ true = subst (λ (k : ℕ). nat_lt (ended (lane k older)) (more k) ≡ true) (sym e) (lt-ltb (ended (lane l older)) (more l) lower) in
      ap (λ (b : Bool). lane l (if b then since more older else x ∷ since more older)) counted ∙ since_none more l older lower
]

holds_more : (a : Action) (xs ys : List Action) → holding xs ≡ holding ys → holding (a ∷ xs) ≡ holding (a ∷ ys)
holds_more (Takes o n) xs ys e = ap (λ (h : List ℕ). o ∷ h) e
holds_more (Frees o n) xs ys e = ap (without o) e
holds_more Stores xs ys e = e

pub holding_since : (more : ℕ → ℕ) (l : ℕ) (log : List (ℕ × Action)) → more l ≤ ended (lane l log) → holding (lane l (since more log)) ≡ holding (lane l log)
holding_since more l [] le = refl
holding_since more l (x ∷ older) le = elim (cases_eq x.0 l) [
  | inr ne ↦ ap holding (since_skip more l x older ne) ∙ holding_since more l older (subst (λ (xs : List Action). more l ≤ ended xs) (lane_skip l x older ne) le) ∙ ap holding (sym (lane_skip l x older ne))
  | inl e ↦
      let up : more l ≤ ended (x.1 ∷ lane l older) = subst (λ (xs : List Action). more l ≤ ended xs) (lane_cons l x older e) le in
      elim (cases_lt (ended (lane l older)) (more l)) [
        | inl lower ↦
            let counted : is_counted more x.0 older ≡ true = subst (λ (k : ℕ). nat_lt (ended (lane k older)) (more k) ≡ true) (sym e) (lt-ltb (ended (lane l older)) (more l) lower) in
            let free : (holding (x.1 ∷ lane l older) ≡ []) × (ended (x.1 ∷ lane l older) ≡ ended (lane l older) + 1) = ends_free x.1 (lane l older) (omega arith) in
            ap (λ (b : Bool). holding (lane l (if b then since more older else x ∷ since more older))) counted ∙ ap holding (since_none more l older lower) ∙ sym free.0 ∙ ap holding (sym (lane_cons l x older e))
        | inr higher ↦
            let kept : is_counted more x.0 older ≡ false = subst (λ (k : ℕ). nat_lt (ended (lane k older)) (more k) ≡ false) (sym e) (le-ltb (ended (lane l older)) (more l) higher) in
            ap (λ (b : Bool). holding (lane l (if b then since more older else x ∷ since more older))) kept ∙ ap holding (lane_cons l x (since more older) e)
            ∙ holds_more x.1 (lane l (since more older)) (lane l older) (holding_since more l older higher) ∙ ap holding (sym (lane_cons l x older e))
      ]
]

pub counted_since : (base next more : ℕ → ℕ) (log : List (ℕ × Action)) (e h : List ℕ) → ((l : ℕ) → next l ≡ base l + more l) → IsWhole log more → IsCounted base log e h → IsCounted next (since more log) e h
counted_since base next more log e h at whole old = record {
  whole = λ l. omega (arith, old.whole l, since_counts more l log (whole l), at l);
  held = λ l. old.held l ∙ ap (λ (xs : List ℕ). length xs) (sym (holding_since more l log (whole l)));
}

module _ (base next more : ℕ → ℕ) (at : (l : ℕ) → next l ≡ base l + more l) where
  abbrev keeps : Step → Bool
  keeps s = nat_lt (next s.lane.0) s.section

  -- what is left of the log is the log of the steps that are left
  pub log_since : (steps : List Step) → HasSections base steps → log_of (filter keeps steps) ≡ since more (log_of steps)
  log_since [] h = refl
  log_since (s ∷ older) h = elim (cases_lt (ended (lane s.lane.0 (log_of older))) (more s.lane.0)) [
    | inl lower ↦
        let out : keeps s ≡ false = le-ltb (next s.lane.0) s.section (omega (arith, h.0, at s.lane.0)) in
        ap (λ (b : Bool). log_of (cond b (s ∷ filter keeps older) (filter keeps older))) out ∙ log_since older h.1 ∙ sym (ap (λ (b : Bool). if b then since more (log_of older) else did s ∷ since more (log_of older)) (lt-ltb (ended (lane s.lane.0 (log_of older))) (more s.lane.0) lower))
    | inr higher ↦
        let kept : keeps s ≡ true = lt-ltb (next s.lane.0) s.section (omega (arith, h.0, at s.lane.0)) in
        ap (λ (b : Bool). log_of (cond b (s ∷ filter keeps older) (filter keeps older))) kept ∙ ap (λ (xs : List (ℕ × Action)). did s ∷ xs) (log_since older h.1)
        ∙ sym (ap (λ (b : Bool). if b then since more (log_of older) else did s ∷ since more (log_of older)) (le-ltb (ended (lane s.lane.0 (log_of older))) (more s.lane.0) higher))
  ]

  pub sections_since : (steps : List Step) → HasSections base steps → HasSections next (filter keeps steps)
  sections_since [] h = tt
  sections_since (s ∷ older) h = elim (cases_lt (ended (lane s.lane.0 (log_of older))) (more s.lane.0)) [
    | inl lower ↦
        let out : keeps s ≡ false = le-ltb (next s.lane.0) s.section (omega (arith, h.0, at s.lane.0)) in
        subst (λ (b : Bool). HasSections next (cond b (s ∷ filter keeps older) (filter keeps older))) (sym out) (sections_since older h.1)
    | inr higher ↦
        let kept : keeps s ≡ true = lt-ltb (next s.lane.0) s.section (omega (arith, h.0, at s.lane.0)) in
        let left : ended (lane s.lane.0 (log_of (filter keeps older))) ≡ ended (lane s.lane.0 (since more (log_of older))) = ap (λ (xs : List (ℕ × Action)). ended (lane s.lane.0 xs)) (log_since older h.1) in
        let number : s.section ≡ ended (lane s.lane.0 (log_of (filter keeps older))) + 1 + next s.lane.0 = omega (arith, h.0, at s.lane.0, since_counts more s.lane.0 (log_of older) higher) in
        subst (λ (b : Bool). HasSections next (cond b (s ∷ filter keeps older) (filter keeps older))) (sym kept) (number, sections_since older h.1)
  ]

-- what is forgotten is at most the stable cut, so a part of a whole closed one
pub record IsPart (log : List (ℕ × Action)) (more : ℕ → ℕ) : Type 0 where
  pub top : ℕ → ℕ
  pub stable : IsStable log top
  pub part : (l : ℕ) → more l ≤ top l

pub part_of : (log : List (ℕ × Action)) (more : ℕ → ℕ) → ((c : ℕ → ℕ) → IsStable log c → (l : ℕ) → more l ≤ c l) → IsPart log more
part_of log more at_most =
    let found : (c : ℕ → ℕ) × IsStable log c = stable_exists log in
    record { top = found.0; stable = found.1; part = at_most found.0 found.1 }

pub part_whole : (log : List (ℕ × Action)) (more : ℕ → ℕ) → IsPart log more → IsWhole log more
part_whole log more is l = omega (arith, is.part l, is.stable.whole l)

-- no answer changes
pub stable_before : (old new : Trace) (more cut : ℕ → ℕ) → new.log ≡ since more old.log → ((l : ℕ) → base_of new l ≡ base_of old l + more l) → IsPart old.log more → IsStableOf new cut → IsStableOf old cut
stable_before old new more cut log base is stable = record {
  since = λ l. more l + stable.since l;
  stable = part_trim_stable old.log is.top more stable.since is.stable.whole is.stable.closed is.part (subst (λ (xs : List (ℕ × Action)). IsStable xs stable.since) log stable.stable);
  counts = λ l. omega (arith, stable.counts l, base l);
}

pub stable_after : (old new : Trace) (more cut : ℕ → ℕ) → new.log ≡ since more old.log → ((l : ℕ) → base_of new l ≡ base_of old l + more l) → IsPart old.log more → IsStableOf old cut → IsStableOf new cut
stable_after old new more cut log base is stable =
    let found : (c : ℕ → ℕ) × IsStable new.log c = stable_exists new.log in
    let before : IsStable old.log (λ l. more l + found.0 l) = part_trim_stable old.log is.top more found.0 is.stable.whole is.stable.closed is.part (subst (λ (xs : List (ℕ × Action)). IsStable xs found.0) log found.1) in
    record {
      since = found.0;
      stable = found.1;
      counts = λ l. omega (arith, stable.counts l, base l, stable_once old.log stable.since (λ m. more m + found.0 m) stable.stable before l);
    }

-- a part of the stable cut may be forgotten, once that was answered
pub at_most_stable : (old new : Trace) (cut part : Cut) → new.log ≡ old.log → new.base ≡ old.base → IsStableOf old (counts_of cut) → ((l : ℕ) → counts_of part l ≤ counts_of cut l) → (c : ℕ → ℕ) → IsStable new.log c → (l : ℕ) → beyond new part l ≤ c l
at_most_stable old new cut part log base stable le c is l =
    let base_is : base_of new l ≡ base_of old l = ap (λ (xs : List ℕ). slice_index xs l) base in
    omega (arith, le l, stable.counts l, stable_once old.log stable.since c stable.stable (subst (λ (xs : List (ℕ × Action)). IsStable xs c) log is) l)
