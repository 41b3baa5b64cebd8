-- Settled records that take what records that aren't settled freed: in the lanes' records, and in their replay.
use Rattle.std.proofs.Common.{ℕ, ◌≡◌, ◌+◌, ◌<◌, ◌≤◌, ◌==◌, if◌then◌else◌, ◌⊎◌, Bool, true, false, List, [], ◌∷◌, length, refl, sym, ap, ◌∙◌, subst, inl, inr, arith, Option}
use Rattle.std.specs.Prelude.{nat_le}
use Rattle.std.proofs.lemmas.Bool.{eq-eqb, ne_eqb, le-leb, leb-true}
use Rattle.std.proofs.lemmas.Bool.Decides.{eqb_tells}
use Rattle.heap_model.specs.Log.{lane}
use Rattle.heap_model.specs.Sections.{Takes, Frees, undo_action}
use Rattle.heap_model.specs.declared.ids.ObjectId.{ObjectId}
use Rattle.heap_model.specs.declared.record.UndoRecord.{UndoRecord}
use Rattle.heap_model.specs.declared.record.UndoRecord.TheVariants.{Acq, Rel, WaitRel, Put}
use Rattle.recover_logs.specs.Replay.{number, IsAllowed, IsGreedy}
use Rattle.recover_logs.specs.Settled.{HasAt, TakesUnsettled}
use Rattle.recover_logs.specs.Crossings.{freed_late, IsCrossing, Crosses}

-- a lane's records with one more of some lane
head_or_older : (l m i : ℕ) (x r : UndoRecord) (older : List (ℕ × UndoRecord)) → HasAt (lane l ((m, x) ∷ older)) i r → ((m ≡ l) × (x ≡ r) × (i ≡ length (lane l older))) ⊎ HasAt (lane l older) i r
head_or_older l m i x r older h = elim (eqb_tells m l) [
  | inl e ↦ elim (subst (λ (t : Bool). HasAt (if t then x ∷ lane l older else lane l older) i r) e.0 h) [ inl top ↦ inl (e.1, top.0, top.1) | inr rest ↦ inr rest ]
  | inr e ↦ inr (subst (λ (t : Bool). HasAt (if t then x ∷ lane l older else lane l older) i r) e.0 h)
]

still_at : (l m i : ℕ) (x r : UndoRecord) (older : List (ℕ × UndoRecord)) → HasAt (lane l older) i r → HasAt (lane l ((m, x) ∷ older)) i r
still_at l m i x r older h = elim (m == l) as (λ t. HasAt (if t then x ∷ lane l older else lane l older) i r) [ true ↦ inr h | false ↦ h ]

now_at : (l : ℕ) (x : UndoRecord) (older : List (ℕ × UndoRecord)) → HasAt (lane l ((l, x) ∷ older)) (length (lane l older)) x
now_at l x older = subst (λ (t : Bool). HasAt (if t then x ∷ lane l older else lane l older) (length (lane l older)) x) (sym (eq-eqb l l refl)) (inl (refl, refl))

-- what a release makes of its object
number_freed : (first : ℕ → ℕ) (o n l : ℕ) (x : UndoRecord) (older : List (ℕ × UndoRecord)) → undo_action x ≡ Frees o n → number first o ((l, x) ∷ older) ≡ n + 1
number_freed first o n l (Acq p k) older is = absurd cc
number_freed first o n l (Rel p k) older is = let same : p.0 ≡ o = cc in let at : k ≡ n = cc in ap (λ (t : Bool). if t then k + 1 else number first o older) (eq-eqb p.0 o same) ∙ ap (λ (j : ℕ). j + 1) at
number_freed first o n l (WaitRel p k) older is = let same : p.0 ≡ o = cc in let at : k ≡ n = cc in ap (λ (t : Bool). if t then k + 1 else number first o older) (eq-eqb p.0 o same) ∙ ap (λ (j : ℕ). j + 1) at
number_freed first o n l (Put f v) older is = absurd cc

late_freed : (settled : ℕ → ℕ) (o n l : ℕ) (x : UndoRecord) (older : List (ℕ × UndoRecord)) → undo_action x ≡ Frees o n → freed_late settled o ((l, x) ∷ older) ≡ nat_le (settled l) (length (lane l older))
late_freed settled o n l (Acq p k) older is = absurd cc
late_freed settled o n l (Rel p k) older is = let same : p.0 ≡ o = cc in ap (λ (t : Bool). if t then nat_le (settled l) (length (lane l older)) else freed_late settled o older) (eq-eqb p.0 o same)
late_freed settled o n l (WaitRel p k) older is = let same : p.0 ≡ o = cc in ap (λ (t : Bool). if t then nat_le (settled l) (length (lane l older)) else freed_late settled o older) (eq-eqb p.0 o same)
late_freed settled o n l (Put f v) older is = absurd cc

-- an object's number never falls
freed_rises : (first : ℕ → ℕ) (o p n : ℕ) (older : List (ℕ × UndoRecord)) → number first p older ≡ n → number first o older ≤ (if p == o then n + 1 else number first o older)
freed_rises first o p n older at = elim (eqb_tells p o) [
  | inl e ↦ subst (λ (t : Bool). number first o older ≤ (if t then n + 1 else number first o older)) (sym e.0) (let same : number first p older ≡ number first o older = ap (λ (k : ℕ). number first k older) e.1 in omega arith)
  | inr e ↦ subst (λ (t : Bool). number first o older ≤ (if t then n + 1 else number first o older)) (sym e.0) (omega arith)
]

rises : (guard : ℕ → Option ObjectId) (first : ℕ → ℕ) (o l : ℕ) (x : UndoRecord) (older : List (ℕ × UndoRecord)) → IsAllowed guard first older l x → number first o older ≤ number first o ((l, x) ∷ older)
rises guard first o l (Acq p n) older allowed = omega arith
rises guard first o l (Rel p n) older allowed = freed_rises first o p.0 n older allowed.1
rises guard first o l (WaitRel p n) older allowed = freed_rises first o p.0 n older allowed.1
rises guard first o l (Put f v) older allowed = omega arith

-- what was freed at a number has a greater one since
freed_below : (guard : ℕ → Option ObjectId) (first : ℕ → ℕ) (lanes : ℕ → List UndoRecord) (done : List (ℕ × UndoRecord)) (m j o n : ℕ) (r : UndoRecord) → IsGreedy guard first lanes done → HasAt (lane m done) j r → undo_action r ≡ Frees o n → n + 1 ≤ number first o done
freed_below guard first lanes [] m j o n r greedy h is = absurd h
freed_below guard first lanes ((l, x) ∷ older) m j o n r greedy h is = elim (head_or_older m l j x r older h) [
  | inl top ↦ omega (arith, number_freed first o n l x older (ap undo_action top.1 ∙ is))
  | inr rest ↦ omega (arith, freed_below guard first lanes older m j o n r greedy.0 rest is, rises guard first o l x older greedy.1.allowed)
]

-- what was taken at a number has it or a greater one since
taken_below : (guard : ℕ → Option ObjectId) (first : ℕ → ℕ) (lanes : ℕ → List UndoRecord) (done : List (ℕ × UndoRecord)) (m j n : ℕ) (o : ObjectId) → IsGreedy guard first lanes done → HasAt (lane m done) j (Acq o n) → n ≤ number first o.0 done
taken_below guard first lanes [] m j n o greedy h = absurd h
taken_below guard first lanes ((l, x) ∷ older) m j n o greedy h = elim (head_or_older m l j x (Acq o n) older h) [
  | inl top ↦
      let allowed : IsAllowed guard first older l (Acq o n) = subst (IsAllowed guard first older l) top.1 greedy.1.allowed in
      omega (arith, allowed.1, rises guard first o.0 l x older greedy.1.allowed)
  | inr rest ↦ omega (arith, taken_below guard first lanes older m j n o greedy.0 rest, rises guard first o.0 l x older greedy.1.allowed)
]

-- a release of another number of the object comes in between
late_between : (settled first : ℕ → ℕ) (o p k n l : ℕ) (b : Bool) (older : List (ℕ × UndoRecord)) → number first p older ≡ k → n + 1 ≤ number first o older → (if p == o then k + 1 else number first o older) ≡ n + 1 →
    (number first o older ≡ n + 1 → freed_late settled o older ≡ b) → (if p == o then nat_le (settled l) (length (lane l older)) else freed_late settled o older) ≡ b
late_between settled first o p k n l b older at some now rest = elim (eqb_tells p o) [
  | inl e ↦ absurd (let then_now : k + 1 ≡ n + 1 = subst (λ (t : Bool). (if t then k + 1 else number first o older) ≡ n + 1) e.0 now in
      let same : number first p older ≡ number first o older = ap (λ (i : ℕ). number first i older) e.1 in omega arith)
  | inr e ↦ subst (λ (t : Bool). (if t then nat_le (settled l) (length (lane l older)) else freed_late settled o older) ≡ b) (sym e.0)
      (rest (subst (λ (t : Bool). (if t then k + 1 else number first o older) ≡ n + 1) e.0 now))
]

late_still : (settled : ℕ → ℕ) (guard : ℕ → Option ObjectId) (first : ℕ → ℕ) (o n l : ℕ) (b : Bool) (x : UndoRecord) (older : List (ℕ × UndoRecord)) → IsAllowed guard first older l x → n + 1 ≤ number first o older → number first o ((l, x) ∷ older) ≡ n + 1 →
    (number first o older ≡ n + 1 → freed_late settled o older ≡ b) → freed_late settled o ((l, x) ∷ older) ≡ b
late_still settled guard first o n l b (Acq p k) older allowed some now rest = rest now
late_still settled guard first o n l b (Rel p k) older allowed some now rest = late_between settled first o p.0 k n l b older allowed.1 some now rest
late_still settled guard first o n l b (WaitRel p k) older allowed some now rest = late_between settled first o p.0 k n l b older allowed.1 some now rest
late_still settled guard first o n l b (Put f v) older allowed some now rest = rest now

-- an object's last release is the one that gave it its number
last_release : (settled : ℕ → ℕ) (guard : ℕ → Option ObjectId) (first : ℕ → ℕ) (lanes : ℕ → List UndoRecord) (done : List (ℕ × UndoRecord)) (m j o n : ℕ) (r : UndoRecord) → IsGreedy guard first lanes done → HasAt (lane m done) j r → undo_action r ≡ Frees o n →
    number first o done ≡ n + 1 → freed_late settled o done ≡ nat_le (settled m) j
last_release settled guard first lanes [] m j o n r greedy h is now = absurd h
last_release settled guard first lanes ((l, x) ∷ older) m j o n r greedy h is now = elim (head_or_older m l j x r older h) [
  | inl top ↦ late_freed settled o n l x older (ap undo_action top.1 ∙ is) ∙ ap (λ (k : ℕ). nat_le (settled k) (length (lane k older))) top.0 ∙ ap (nat_le (settled m)) (sym top.2)
  | inr rest ↦ late_still settled guard first o n l (nat_le (settled m) j) x older greedy.1.allowed (freed_below guard first lanes older m j o n r greedy.0 rest is) now
      (λ at. last_release settled guard first lanes older m j o n r greedy.0 rest is at)
]

-- a release that made its object late
record LateRelease (settled first : ℕ → ℕ) (o : ℕ) (done : List (ℕ × UndoRecord)) : Type 0 where
  lane_of : ℕ
  place : ℕ
  number_of : ℕ
  release : UndoRecord
  had : HasAt (lane lane_of done) place release
  freed : undo_action release ≡ Frees o number_of
  now : number first o done ≡ number_of + 1
  outside : settled lane_of ≤ place

late_older : (settled first : ℕ → ℕ) (o l : ℕ) (x : UndoRecord) (older : List (ℕ × UndoRecord)) → number first o ((l, x) ∷ older) ≡ number first o older → LateRelease settled first o older → LateRelease settled first o ((l, x) ∷ older)
late_older settled first o l x older same h = record {
  lane_of = h.lane_of;
  place = h.place;
  number_of = h.number_of;
  release = h.release;
  had = still_at h.lane_of l h.place x h.release older h.had;
  freed = h.freed;
  now = same ∙ h.now;
  outside = h.outside;
}

late_here : (settled first : ℕ → ℕ) (o p n l : ℕ) (x : UndoRecord) (older : List (ℕ × UndoRecord)) → undo_action x ≡ Frees p n → ((p ≡ o → ⊥) → number first o ((l, x) ∷ older) ≡ number first o older) → (freed_late settled o older ≡ true → LateRelease settled first o older) →
    (if p == o then nat_le (settled l) (length (lane l older)) else freed_late settled o older) ≡ true → LateRelease settled first o ((l, x) ∷ older)
late_here settled first o p n l x older is other rest h = elim (eqb_tells p o) [
  | inl e ↦
      let frees : undo_action x ≡ Frees o n = is ∙ ap (λ (k : ℕ). Frees k n) e.1 in
      record {
        lane_of = l;
        place = length (lane l older);
        number_of = n;
        release = x;
        had = now_at l x older;
        freed = frees;
        now = number_freed first o n l x older frees;
        outside = leb-true (settled l) (length (lane l older)) (subst (λ (t : Bool). (if t then nat_le (settled l) (length (lane l older)) else freed_late settled o older) ≡ true) e.0 h);
      }
  | inr e ↦ late_older settled first o l x older (other e.1) (rest (subst (λ (t : Bool). (if t then nat_le (settled l) (length (lane l older)) else freed_late settled o older) ≡ true) e.0 h))
]

late_release : (settled first : ℕ → ℕ) (o : ℕ) (done : List (ℕ × UndoRecord)) → freed_late settled o done ≡ true → LateRelease settled first o done
late_release settled first o [] h = absurd cc
late_release settled first o ((l, Acq p n) ∷ older) h = late_older settled first o l (Acq p n) older refl (late_release settled first o older h)
late_release settled first o ((l, Rel p n) ∷ older) h = late_here settled first o p.0 n l (Rel p n) older refl (λ ne. ap (λ (t : Bool). if t then n + 1 else number first o older) (ne_eqb p.0 o ne)) (late_release settled first o older) h
late_release settled first o ((l, WaitRel p n) ∷ older) h = late_here settled first o p.0 n l (WaitRel p n) older refl (λ ne. ap (λ (t : Bool). if t then n + 1 else number first o older) (ne_eqb p.0 o ne)) (late_release settled first o older) h
late_release settled first o ((l, Put f v) ∷ older) h = late_older settled first o l (Put f v) older refl (late_release settled first o older h)

-- with more records, what took still takes
takes_older : (settled : ℕ → ℕ) (l i m : ℕ) (x : UndoRecord) (older : List (ℕ × UndoRecord)) → TakesUnsettled settled (λ k. lane k older) l i → TakesUnsettled settled (λ k. lane k ((m, x) ∷ older)) l i
takes_older settled l i m x older h = record {
  object = h.object;
  number = h.number;
  took = still_at l m i x (Acq h.object (h.number + 1)) older h.took;
  inside = h.inside;
  lane = h.lane;
  place = h.place;
  release = h.release;
  had = still_at h.lane m h.place x h.release older h.had;
  freed = h.freed;
  outside = h.outside;
}

takes_here : (settled : ℕ → ℕ) (guard : ℕ → Option ObjectId) (first : ℕ → ℕ) (l : ℕ) (x : UndoRecord) (older : List (ℕ × UndoRecord)) → IsAllowed guard first older l x → IsCrossing settled older l x → TakesUnsettled settled (λ k. lane k ((l, x) ∷ older)) l (length (lane l older))
takes_here settled guard first l (Acq p n) older allowed h =
    let late = late_release settled first p.0 older h.1 in
    let at : n ≡ late.number_of + 1 = sym allowed.1 ∙ late.now in
    record {
      object = p;
      number = late.number_of;
      took = subst (λ (k : ℕ). HasAt (lane l ((l, Acq p n) ∷ older)) (length (lane l older)) (Acq p k)) at (now_at l (Acq p n) older);
      inside = h.0;
      lane = late.lane_of;
      place = late.place;
      release = late.release;
      had = still_at late.lane_of l late.place (Acq p n) late.release older late.had;
      freed = late.freed;
      outside = late.outside;
    }
takes_here settled guard first l (Rel p n) older allowed h = absurd h
takes_here settled guard first l (WaitRel p n) older allowed h = absurd h
takes_here settled guard first l (Put f v) older allowed h = absurd h

-- what the walk finds takes what isn't settled
pub crosses_takes : (settled : ℕ → ℕ) (guard : ℕ → Option ObjectId) (first : ℕ → ℕ) (lanes : ℕ → List UndoRecord) (done : List (ℕ × UndoRecord)) (l i : ℕ) → IsGreedy guard first lanes done → Crosses settled done l i → TakesUnsettled settled (λ k. lane k done) l i
crosses_takes settled guard first lanes [] l i greedy h = absurd h
crosses_takes settled guard first lanes ((m, x) ∷ older) l i greedy h = elim h [
  | inl top ↦
      let here : TakesUnsettled settled (λ k. lane k ((m, x) ∷ older)) m (length (lane m older)) = takes_here settled guard first m x older greedy.1.allowed top.2 in
      let place : length (lane m older) ≡ i = ap (λ (k : ℕ). length (lane k older)) top.0 ∙ sym top.1 in
      subst (λ (k : ℕ). TakesUnsettled settled (λ j. lane j ((m, x) ∷ older)) k i) top.0 (subst (TakesUnsettled settled (λ j. lane j ((m, x) ∷ older)) m) place here)
  | inr rest ↦ takes_older settled l i m x older (crosses_takes settled guard first lanes older l i greedy.0 rest)
]

-- the walk finds what takes what isn't settled
pub takes_crosses : (settled : ℕ → ℕ) (guard : ℕ → Option ObjectId) (first : ℕ → ℕ) (lanes : ℕ → List UndoRecord) (done : List (ℕ × UndoRecord)) (l i m j n : ℕ) (o : ObjectId) (r : UndoRecord) → IsGreedy guard first lanes done →
    HasAt (lane l done) i (Acq o (n + 1)) → i < settled l → HasAt (lane m done) j r → undo_action r ≡ Frees o.0 n → settled m ≤ j → Crosses settled done l i
takes_crosses settled guard first lanes [] l i m j n o r greedy took inside had is outside = absurd took
takes_crosses settled guard first lanes ((k, x) ∷ older) l i m j n o r greedy took inside had is outside = elim (head_or_older l k i x (Acq o (n + 1)) older took) [
  | inl top ↦ elim (head_or_older m k j x r older had) [
    | inl also ↦ absurd (let a : (let b : UndoRecord = Acq o (n + 1) in undo_action b ≡ undo_action r) = ap undo_action (sym top.1 ∙ also.1) in let c : Takes o.0 (n + 1) ≡ Frees o.0 n = a ∙ is in cc)
    | inr before ↦
        let allowed : IsAllowed guard first older k (Acq o (n + 1)) = subst (IsAllowed guard first older k) top.1 greedy.1.allowed in
        let late : freed_late settled o.0 older ≡ true = last_release settled guard first lanes older m j o.0 n r greedy.0 before is allowed.1 ∙ le-leb (settled m) j outside in
        let short : length (lane k older) < settled k = subst (λ (q : ℕ). length (lane q older) < settled q) (sym top.0) (omega (arith, top.2)) in
        inl (top.0, top.2, subst (IsCrossing settled older k) (sym top.1) (short, late))
  ]
  | inr before ↦ elim (head_or_older m k j x r older had) [
    | inl also ↦
        let frees : undo_action x ≡ Frees o.0 n = ap undo_action also.1 ∙ is in
        absurd (omega (arith, taken_below guard first lanes older l i (n + 1) o greedy.0 before, not_past guard first o.0 n k x older frees greedy.1.allowed))
    | inr rest ↦ inr (takes_crosses settled guard first lanes older l i m j n o r greedy.0 before inside rest is outside)
  ]
]
  where
    not_past : (guard : ℕ → Option ObjectId) (first : ℕ → ℕ) (o n k : ℕ) (x : UndoRecord) (older : List (ℕ × UndoRecord)) → undo_action x ≡ Frees o n → IsAllowed guard first older k x → number first o older ≡ n
    not_past guard first o n k (Acq p q) older is allowed = absurd cc
    not_past guard first o n k (Rel p q) older is allowed = let same : p.0 ≡ o = cc in let at : q ≡ n = cc in ap (λ (i : ℕ). number first i older) (sym same) ∙ allowed.1 ∙ at
    not_past guard first o n k (WaitRel p q) older is allowed = let same : p.0 ≡ o = cc in let at : q ≡ n = cc in ap (λ (i : ℕ). number first i older) (sym same) ∙ allowed.1 ∙ at
    not_past guard first o n k (Put f v) older is allowed = absurd cc
