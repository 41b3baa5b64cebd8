-- Any lanes have a greedy replay, to where no lane can go on.
use Rattle.std.proofs.Common.{ℕ, zero, suc, ◌≡◌, ◌+◌, ◌<◌, ◌≤◌, ◌⊎◌, List, [], ◌∷◌, ◌++◌, length, refl, sym, ap, ◌∙◌, subst, inl, inr, arith, length-append, append_assoc, Option}
use Rattle.std.specs.Prelude.{slice_get}
use Rattle.std.proofs.lemmas.Bool.{cases_eq, cases_lt, ne_eqb}
use Rattle.heap_model.specs.declared.ids.ObjectId.{ObjectId}
use Rattle.heap_model.specs.declared.record.UndoRecord.{UndoRecord}
use Rattle.heap_model.specs.Log.{lane}
use Rattle.recover_logs.specs.Replay as replay
use Rattle.recover_logs.specs.Replay.{IsDone, IsNext, GoesOn, IsGreedy}
use Rattle.law_survival.proofs.Choices.{Decided, Least, both, is_allowed, last_of, may_follow, search}
use Rattle.law_survival.proofs.LaneParts.{lane_own, lane_other, same_end}
use Rattle.law_survival.proofs.Replays.{total, total_more}

module _ (guard : ℕ → Option ObjectId) (first : ℕ → ℕ) (lanes : ℕ → List UndoRecord) (count : ℕ) (others : (l : ℕ) → count ≤ l → lanes l ≡ []) where
  abbrev Greedy : List (ℕ × UndoRecord) → Type 0
  Greedy done = IsGreedy guard first lanes done

  -- what was done is a part of each lane
  abbrev Parts : List (ℕ × UndoRecord) → Type 0
  Parts done = (l : ℕ) → (more : List UndoRecord) × (lanes l ≡ more ++ lane l done)

  -- the lane has a next record, or all of it was done
  pub left_or_done : (done : List (ℕ × UndoRecord)) → Parts done → (l : ℕ) → ((r : UndoRecord) × IsNext lanes done l r) ⊎ IsDone lanes done l
  left_or_done done parts l =
      let p = parts l in
      elim (last_of p.0) [
        | inl none ↦ inr (p.1 ∙ ap (λ (xs : List UndoRecord). xs ++ lane l done) none)
        | inr split ↦ inl (split.0, (split.1, p.1 ∙ ap (λ (xs : List UndoRecord). xs ++ lane l done) split.2 ∙ append_assoc split.1 (split.0 ∷ []) (lane l done)))
      ]

  -- there is none behind all of it
  none_left : (done : List (ℕ × UndoRecord)) (l : ℕ) (r : UndoRecord) → IsNext lanes done l r → lanes l ≡ lane l done → ⊥
  none_left done l r next all = omega (arith, ap (λ (xs : List UndoRecord). length xs) next.1, ap (λ (xs : List UndoRecord). length xs) all, length-append next.0 (r ∷ lane l done))

  -- nor in a lane that isn't there
  pub none_there : (done : List (ℕ × UndoRecord)) (l : ℕ) (r : UndoRecord) → count ≤ l → IsNext lanes done l r → ⊥
  none_there done l r from next = omega (arith, ap (λ (xs : List UndoRecord). length xs) (sym next.1 ∙ others l from), length-append next.0 (r ∷ lane l done))

  -- the lane can go on
  abbrev Goes : List (ℕ × UndoRecord) → ℕ → Type 0
  Goes done m = (r : UndoRecord) × GoesOn guard first lanes done m r

  lane_goes : (done : List (ℕ × UndoRecord)) → Parts done → (m : ℕ) → Decided (Goes done m)
  lane_goes done parts m = elim (left_or_done done parts m) [
    | inr all ↦ inr (λ h. none_left done m h.0 h.1.next all)
    | inl left ↦ elim (both (may_follow (slice_get (lane m done) 0) left.0) (is_allowed guard first done m left.0)) [
      | inl h ↦ inl (left.0, record { next = left.1; follows = h.0; allowed = h.1 })
      | inr none ↦ inr (λ h.
          let ends : h.0 ∷ lane m done ≡ left.0 ∷ lane m done = same_end h.1.next.0 (h.0 ∷ lane m done) left.1.0 (left.0 ∷ lane m done) (sym h.1.next.1 ∙ left.1.1) refl in
          let same : h.0 ≡ left.0 = cc in
          none (
            subst (λ (r : UndoRecord). replay.MayFollow (slice_get (lane m done) 0) r) same h.1.follows,
            subst (λ (r : UndoRecord). replay.IsAllowed guard first done m r) same h.1.allowed,
          ))
    ]
  ]

  -- one record more
  parts_next : (done : List (ℕ × UndoRecord)) (m : ℕ) (r : UndoRecord) → Parts done → IsNext lanes done m r → Parts ((m, r) ∷ done)
  parts_next done m r parts next l = elim (cases_eq m l) [
    | inl e ↦ (
      next.0,
      sym (ap (λ (k : ℕ). lanes k) e) ∙ next.1 ∙ ap (λ (k : ℕ). next.0 ++ r ∷ lane k done) e ∙ ap (λ (xs : List UndoRecord). next.0 ++ xs) (sym (lane_own l m r done e)),
    )
    | inr ne ↦
        let p = parts l in
        (p.0, p.1 ∙ ap (λ (xs : List UndoRecord). p.0 ++ xs) (sym (lane_other l m r done (ne_eqb m l ne))))
  ]

  -- how many records the first lanes have
  abbrev sum : ℕ → ℕ
  sum zero = 0
  sum (suc n) = sum n + length (lanes n)

  done_few : (done : List (ℕ × UndoRecord)) → Parts done → (n : ℕ) → total done n ≤ sum n
  done_few done parts zero = omega arith
  done_few done parts (suc n) =
      let p = parts n in
      omega (arith, done_few done parts n, ap (λ (xs : List UndoRecord). length xs) p.1, length-append p.0 (lane n done))

  -- the replay, where no lane can go on
  pub record Ended : Type 0 where
    pub done : List (ℕ × UndoRecord)
    pub greedy : IsGreedy guard first lanes done
    pub parts : (l : ℕ) → (more : List UndoRecord) × (lanes l ≡ more ++ lane l done)
    pub ended : (l : ℕ) (r : UndoRecord) → GoesOn guard first lanes done l r → ⊥

  ends : (done : List (ℕ × UndoRecord)) → Greedy done → Parts done → ((m : ℕ) → m < count → Goes done m → ⊥) → Ended
  ends done greedy parts none = record {
    done = done;
    greedy = greedy;
    parts = parts;
    ended = λ l r goes. elim (cases_lt l count) [ inl lt ↦ none l lt (r, goes) | inr from ↦ none_there done l r from goes.next ];
  }

  -- one step more
  record Grown (done : List (ℕ × UndoRecord)) : Type 0 where
    new : List (ℕ × UndoRecord)
    greedy : Greedy new
    parts : Parts new
    more : total new count ≡ total done count + 1

  grow : (done : List (ℕ × UndoRecord)) → Greedy done → Parts done → Least (Goes done) → Grown done
  grow done greedy parts found =
      let low : found.at < count = (elim (cases_lt found.at count) [ inl lt ↦ lt | inr from ↦ absurd (none_there done found.at found.is.0 from found.is.1.next) ]) in
      record {
        new = (found.at, found.is.0) ∷ done;
        greedy = (greedy, found.is.1, λ m r lt goes. found.least m lt (r, goes));
        parts = parts_next done found.at found.is.0 parts found.is.1.next;
        more = total_more found.at found.is.0 done count low;
      }

  go_on : (fuel : ℕ) (done : List (ℕ × UndoRecord)) → Greedy done → Parts done → sum count ≤ total done count + fuel → Ended
  go_on zero done greedy parts near = elim (search (Goes done) (lane_goes done parts) count) [
    | inr none ↦ ends done greedy parts none
    | inl found ↦
        let g : Grown done = grow done greedy parts found in
        absurd (omega (arith, near, g.more, done_few g.new g.parts count))
  ]
  go_on (suc fuel) done greedy parts near = elim (search (Goes done) (lane_goes done parts) count) [
    | inr none ↦ ends done greedy parts none
    | inl found ↦
        let g : Grown done = grow done greedy parts found in
        go_on fuel g.new g.greedy g.parts (omega (arith, near, g.more))
  ]

  pub ends_there : Ended
  ends_there = go_on (sum count) [] tt (λ l. (lanes l, append_none (lanes l))) (omega arith)
    where
      append_none : (xs : List UndoRecord) → xs ≡ xs ++ []
      append_none [] = refl
      append_none (x ∷ xs) = ap (λ (ys : List UndoRecord). x ∷ ys) (append_none xs)
