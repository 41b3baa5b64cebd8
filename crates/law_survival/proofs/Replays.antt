-- What a legal list's lanes have past a point where no object was held has a greedy replay, which does all of it.
use Rattle.std.proofs.Common.{ℕ, zero, suc, ◌≡◌, ◌+◌, ◌<◌, ◌≤◌, List, [], ◌∷◌, ◌++◌, length, None, refl, sym, ap, ◌∙◌, subst, inl, inr, arith, Contains, length-append, append_assoc, Option}
use Rattle.std.specs.Prelude.{slice_get}
use Rattle.std.proofs.lemmas.Bool.{cases_eq, ne_eqb}
use Rattle.heap_model.specs.declared.ids.ObjectId.{ObjectId}
use Rattle.heap_model.specs.declared.record.UndoRecord.{UndoRecord}
use Rattle.heap_model.specs.Setting.{Setting}
use Rattle.heap_model.specs.Log.{lane, holder, number, IsLegal}
use Rattle.recover_logs.specs.Replay as replay
use Rattle.recover_logs.specs.Replay.{IsNext, GoesOn, IsGreedy, Replays}
use Rattle.law_survival.proofs.Blank.{blanks, valueless}
use Rattle.law_survival.proofs.Choices.{Decided, Least, both, is_allowed, last_of, least, may_follow}
use Rattle.law_survival.proofs.LaneParts.{lane_own, lane_other, same_end}
use Rattle.law_survival.proofs.Unstuck.{Earliest, IsGuarded, begins_had, earliest, goes_on, of_lane, part}

-- how many records of so many lanes
abbrev pub total : List (ℕ × UndoRecord) → (count : ℕ) → ℕ
total xs zero = 0
total xs (suc n) = total xs n + length (lane n xs)

total_same : (m : ℕ) (r : UndoRecord) (xs : List (ℕ × UndoRecord)) (n : ℕ) → n ≤ m → total ((m, r) ∷ xs) n ≡ total xs n
total_same m r xs zero le = refl
total_same m r xs (suc n) le =
    let apart : length (lane n ((m, r) ∷ xs)) ≡ length (lane n xs) = ap (λ (ys : List UndoRecord). length ys) (lane_other n m r xs (ne_eqb m n (λ e. omega (arith, e, le)))) in
    omega (arith, total_same m r xs n (omega (arith, le)), apart)

pub total_more : (m : ℕ) (r : UndoRecord) (xs : List (ℕ × UndoRecord)) (n : ℕ) → m < n → total ((m, r) ∷ xs) n ≡ total xs n + 1
total_more m r xs zero lt = absurd (omega (arith, lt))
total_more m r xs (suc n) lt = elim (cases_eq m n) [
  | inl e ↦
      let own : length (lane n ((m, r) ∷ xs)) ≡ length (lane n xs) + 1 = ap (λ (ys : List UndoRecord). length ys) (lane_own n m r xs e) ∙ omega arith in
      omega (arith, total_same m r xs n (omega (arith, e)), own)
  | inr ne ↦
      let apart : length (lane n ((m, r) ∷ xs)) ≡ length (lane n xs) = ap (λ (ys : List UndoRecord). length ys) (lane_other n m r xs (ne_eqb m n ne)) in
      omega (arith, total_more m r xs n (omega (arith, lt)), apart)
]

total_most : (xs ys : List (ℕ × UndoRecord)) → ((l : ℕ) → length (lane l xs) ≤ length (lane l ys)) → (n : ℕ) → total xs n ≤ total ys n
total_most xs ys few zero = omega arith
total_most xs ys few (suc n) = omega (arith, total_most xs ys few n, few n)

module _ (s : Setting) (gone all : List (ℕ × UndoRecord)) (legal : IsLegal (valueless s) (blanks (all ++ gone))) (free : (o : ℕ) → holder o (blanks gone) ≡ None)
    (guard : ℕ → Option ObjectId) (guarded : (l : ℕ) (r : UndoRecord) → Contains (lane l all) r → IsGuarded s guard r)
    (count : ℕ) (few : (l : ℕ) (r : UndoRecord) → Contains (lane l all) r → l < count) where
  abbrev lanes : ℕ → List UndoRecord
  lanes l = lane l all

  abbrev first : ℕ → ℕ
  first o = number o (blanks gone)

  abbrev Greedy : List (ℕ × UndoRecord) → Type 0
  Greedy done = IsGreedy guard first lanes done

  -- what was done is a part of each lane
  part_of : (done : List (ℕ × UndoRecord)) → Greedy done → (l : ℕ) → (more : List UndoRecord) × (lane l all ≡ more ++ lane l done)
  part_of = part s gone all legal free guard first (begins_had s gone all legal free) guarded

  part_few : (done : List (ℕ × UndoRecord)) → Greedy done → (l : ℕ) → length (lane l done) ≤ length (lane l all)
  part_few done greedy l =
      let p = part_of done greedy l in
      omega (arith, ap (λ (xs : List UndoRecord). length xs) p.1, length-append p.0 (lane l done))

  -- the lane can go on
  abbrev Goes : List (ℕ × UndoRecord) → ℕ → Type 0
  Goes done m = (r : UndoRecord) × GoesOn guard first lanes done m r

  not_done : (done : List (ℕ × UndoRecord)) (m : ℕ) → Goes done m → length (lane m done) < length (lane m all)
  not_done done m h = omega (arith, ap (λ (xs : List UndoRecord). length xs) h.1.next.1, length-append h.1.next.0 (h.0 ∷ lane m done))

  lane_goes : (done : List (ℕ × UndoRecord)) (m : ℕ) → Greedy done → Decided (Goes done m)
  lane_goes done m greedy =
      let p = part_of done greedy m in
      elim (last_of p.0) [
        | inl none ↦ inr (λ h.
            let whole : lane m all ≡ lane m done = p.1 ∙ ap (λ (xs : List UndoRecord). xs ++ lane m done) none in
            omega (arith, ap (λ (xs : List UndoRecord). length xs) whole, not_done done m h))
        | inr split ↦
            let next : IsNext lanes done m split.0 = (split.1, p.1 ∙ ap (λ (xs : List UndoRecord). xs ++ lane m done) split.2 ∙ append_assoc split.1 (split.0 ∷ []) (lane m done)) in
            elim (both (may_follow (slice_get (lane m done) 0) split.0) (is_allowed guard first done m split.0)) [
              | inl h ↦ inl (split.0, record { next = next; follows = h.0; allowed = h.1 })
              | inr none ↦ inr (λ h.
                  let ends : h.0 ∷ lane m done ≡ split.0 ∷ lane m done = same_end h.1.next.0 (h.0 ∷ lane m done) split.1 (split.0 ∷ lane m done) (sym h.1.next.1 ∙ next.1) refl in
                  let same : h.0 ≡ split.0 = cc in
                  none (
                    subst (λ (r : UndoRecord). replay.MayFollow (slice_get (lane m done) 0) r) same h.1.follows,
                    subst (λ (r : UndoRecord). replay.IsAllowed guard first done m r) same h.1.allowed,
                  ))
            ]
      ]

  -- the least lane that can go on, where records are left
  next_lane : (done : List (ℕ × UndoRecord)) → Greedy done → Earliest all done → Least (Goes done)
  next_lane done greedy e = least (Goes done) (λ m. lane_goes done m greedy) e.lane_of
      (e.next, goes_on s gone all legal free guard first (begins_had s gone all legal free) guarded done e.lane_of e.next greedy e.earliest)

  -- and what is done then
  record Grown (done : List (ℕ × UndoRecord)) : Type 0 where
    new : List (ℕ × UndoRecord)
    greedy : Greedy new
    more : total new count ≡ total done count + 1

  grow : (done : List (ℕ × UndoRecord)) → Greedy done → Least (Goes done) → Grown done
  grow done greedy found =
      let low : found.at < count = few found.at found.is.0 (of_lane s gone all legal free done found.at found.is.0 found.is.1.next) in
      record {
        new = (found.at, found.is.0) ∷ done;
        greedy = (greedy, found.is.1, λ m r lt goes. found.least m lt (r, goes));
        more = total_more found.at found.is.0 done count low;
      }

  record Ended : Type 0 where
    done : List (ℕ × UndoRecord)
    greedy : Greedy done
    all_done : (l : ℕ) → length (lane l all) ≤ length (lane l done)

  grow_on : (fuel : ℕ) (done : List (ℕ × UndoRecord)) → Greedy done → total all count ≤ total done count + fuel → Ended
  grow_on zero done greedy near = elim (earliest all done) [
    | inl h ↦ record { done = done; greedy = greedy; all_done = h }
    | inr e ↦
        let g : Grown done = grow done greedy (next_lane done greedy e) in
        absurd (omega (arith, near, g.more, total_most g.new all (part_few g.new g.greedy) count))
  ]
  grow_on (suc fuel) done greedy near = elim (earliest all done) [
    | inl h ↦ record { done = done; greedy = greedy; all_done = h }
    | inr e ↦
        let g : Grown done = grow done greedy (next_lane done greedy e) in
        grow_on fuel g.new g.greedy (omega (arith, near, g.more))
  ]

  replayed : Ended → (done : List (ℕ × UndoRecord)) × Replays guard lanes done
  replayed e = (
    e.done,
    record {
      replay = record {
        first = first;
        begins = begins_had s gone all legal free;
        greedy = e.greedy;
        ended = λ l r goes. omega (arith, not_done e.done l (r, goes), e.all_done l);
      };
      all = λ l. (
          let p = part_of e.done e.greedy l in
          same_end [] (lane l all) p.0 (lane l e.done) p.1 (omega (arith, e.all_done l, part_few e.done e.greedy l)));
    },
  )

  pub replay_there : (done : List (ℕ × UndoRecord)) × Replays guard lanes done
  replay_there = replayed (grow_on (total all count) [] tt (omega arith))
