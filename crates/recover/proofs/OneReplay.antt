-- There is one greedy replay of the lanes' records.
use Rattle.std.proofs.Common.{ℕ, ◌≡◌, ◌+◌, ◌<◌, ◌≤◌, ◌==◌, if◌then◌else◌, ◌++◌, Bool, List, [], ◌∷◌, Option, Some, None, length, refl, sym, ap, ◌∙◌, subst, inl, inr, arith, Contains, length-append}
use Rattle.std.proofs.lemmas.Bool.{cases_lt}
use Rattle.std.proofs.lemmas.Bool.Decides.{eqb_tells}
use Rattle.std.proofs.lemmas.List.Elements.{Contains-append_right}
use Rattle.heap_model.specs.Log.{lane}
use Rattle.heap_model.specs.declared.ids.Lane.{Lane}
use Rattle.heap_model.specs.declared.ids.ObjectId.{ObjectId}
use Rattle.heap_model.specs.declared.record.UndoRecord.{UndoRecord}
use Rattle.heap_model.specs.declared.record.UndoRecord.TheVariants.{Acq, Rel, WaitRel, Put}
use Rattle.recover_logs.specs.Replay.{holder, number, BeginsAt, IsAllowed, IsNext, GoesOn, NoneBelow, IsGreedy, IsReplay}

-- of two ends of one list, the longer ends with the other
pub ends_with : {A : Type 0} → (a x b y : List A) → a ++ x ≡ b ++ y → length x ≤ length y → (more : List A) × (y ≡ more ++ x)
ends_with {A} a x [] y is le = (a, sym is)
ends_with {A} [] x (z ∷ b) y is le = absurd (omega (arith, ap (λ (xs : List A). length xs) is, length-append b y))
ends_with {A} (w ∷ a) x (z ∷ b) y is le = let rest : a ++ x ≡ b ++ y = cc in ends_with a x b y rest le

pub same_end : {A : Type 0} → (a x b y : List A) → a ++ x ≡ b ++ y → length x ≡ length y → x ≡ y
same_end {A} a x b y is long =
    let w = ends_with a x b y is (omega (arith, long)) in
    nothing w.0 (omega (arith, long, ap (λ (xs : List A). length xs) w.1, length-append w.0 x)) w.1
  where
    nothing : (more : List A) → length more ≡ 0 → y ≡ more ++ x → x ≡ y
    nothing [] none e = sym e
    nothing (z ∷ more) none e = absurd (omega (arith, none))

-- a lane's next record is one of its records
next_there : (lanes : ℕ → List UndoRecord) (done : List (ℕ × UndoRecord)) (l : ℕ) (r : UndoRecord) → IsNext lanes done l r → Contains (lanes l) r
next_there lanes done l r next = subst (λ (xs : List UndoRecord). Contains xs r) (sym next.1) (Contains-append_right next.0 (r ∷ lane l done) r (0, omega arith, refl))

-- a held object was taken
record Taken (lanes : ℕ → List UndoRecord) (o : ℕ) : Type 0 where
  lane : ℕ
  number : ℕ
  object : ObjectId
  is : object.0 ≡ o
  took : Contains (lanes lane) (Acq object number)

module _ (guard : ℕ → Option ObjectId) (lanes : ℕ → List UndoRecord) where
  held_taken : (first : ℕ → ℕ) (o : ℕ) (k : Lane) (done : List (ℕ × UndoRecord)) → IsGreedy guard first lanes done → holder o done ≡ Some k → Taken lanes o
  held_taken first o k [] greedy held = absurd cc
  held_taken first o k ((l, Acq p n) ∷ older) greedy held = elim (eqb_tells p.0 o) [
    | inl e ↦ record { lane = l; number = n; object = p; is = e.1; took = next_there lanes older l (Acq p n) greedy.1.next }
    | inr e ↦ held_taken first o k older greedy.0 (subst (λ (b : Bool). (let it : Option Lane = Some (record { 0 = l }) in (if b then it else holder o older) ≡ Some k)) e.0 held)
  ]
  held_taken first o k ((l, Rel p n) ∷ older) greedy held = elim (eqb_tells p.0 o) [
    | inl e ↦ absurd (let none : Option Lane = None in let some : none ≡ Some k = subst (λ (b : Bool). (let it : Option Lane = None in (if b then it else holder o older) ≡ Some k)) e.0 held in cc)
    | inr e ↦ held_taken first o k older greedy.0 (subst (λ (b : Bool). (let it : Option Lane = None in (if b then it else holder o older) ≡ Some k)) e.0 held)
  ]
  held_taken first o k ((l, WaitRel p n) ∷ older) greedy held = elim (eqb_tells p.0 o) [
    | inl e ↦ absurd (let none : Option Lane = None in let some : none ≡ Some k = subst (λ (b : Bool). (let it : Option Lane = None in (if b then it else holder o older) ≡ Some k)) e.0 held in cc)
    | inr e ↦ held_taken first o k older greedy.0 (subst (λ (b : Bool). (let it : Option Lane = None in (if b then it else holder o older) ≡ Some k)) e.0 held)
  ]
  held_taken first o k ((l, Put f v) ∷ older) greedy held = held_taken first o k older greedy.0 held

  -- two beginnings give an object that some lane takes the same number
  same_first : (f g : ℕ → ℕ) → BeginsAt lanes f → BeginsAt lanes g → (l n : ℕ) (o : ObjectId) → Contains (lanes l) (Acq o n) → f o.0 ≡ g o.0
  same_first f g p q l n o has =
      let a = p.taken l n o has in
      let b = q.taken l n o has in
      let low : g o.0 ≤ f o.0 = q.least a.0 (f o.0) o a.1 in
      let high : f o.0 ≤ g o.0 = p.least b.0 (g o.0) o b.1 in
      omega (arith, low, high)

  same_taken : (f g : ℕ → ℕ) → BeginsAt lanes f → BeginsAt lanes g → (o : ℕ) → Taken lanes o → f o ≡ g o
  same_taken f g p q o t = subst (λ (k : ℕ). f k ≡ g k) t.is (same_first f g p q t.lane t.number t.object t.took)

  same_number : (f g : ℕ → ℕ) (o : ℕ) (done : List (ℕ × UndoRecord)) → f o ≡ g o → number f o done ≡ number g o done
  same_number f g o [] is = is
  same_number f g o ((l, Acq p n) ∷ older) is = same_number f g o older is
  same_number f g o ((l, Rel p n) ∷ older) is = ap (λ (v : ℕ). if p.0 == o then n + 1 else v) (same_number f g o older is)
  same_number f g o ((l, WaitRel p n) ∷ older) is = ap (λ (v : ℕ). if p.0 == o then n + 1 else v) (same_number f g o older is)
  same_number f g o ((l, Put h v) ∷ older) is = same_number f g o older is

  allowed_too : (f g : ℕ → ℕ) (done : List (ℕ × UndoRecord)) (l : ℕ) (r : UndoRecord) → BeginsAt lanes f → BeginsAt lanes g → IsGreedy guard f lanes done → Contains (lanes l) r → IsAllowed guard f done l r → IsAllowed guard g done l r
  allowed_too f g done l (Acq o n) p q greedy has h = (h.0, sym (same_number f g o.0 done (same_first f g p q l n o has)) ∙ h.1)
  allowed_too f g done l (Rel o n) p q greedy has h = (h.0, sym (same_number f g o.0 done (same_taken f g p q o.0 (held_taken f o.0 _ done greedy h.0))) ∙ h.1)
  allowed_too f g done l (WaitRel o n) p q greedy has h = (h.0, sym (same_number f g o.0 done (same_taken f g p q o.0 (held_taken f o.0 _ done greedy h.0))) ∙ h.1)
  allowed_too f g done l (Put h v) p q greedy has held = held

  -- a lane that can go on from one beginning can go on from the other
  goes_too : (f g : ℕ → ℕ) (done : List (ℕ × UndoRecord)) (l : ℕ) (r : UndoRecord) → BeginsAt lanes f → BeginsAt lanes g → IsGreedy guard f lanes done → GoesOn guard f lanes done l r → GoesOn guard g lanes done l r
  goes_too f g done l r p q greedy goes = record {
    next = goes.next;
    follows = goes.follows;
    allowed = allowed_too f g done l r p q greedy (next_there lanes done l r goes.next) goes.allowed;
  }

  -- the next record of a lane is one
  one_next : (done : List (ℕ × UndoRecord)) (l m : ℕ) (r q : UndoRecord) → l ≡ m → IsNext lanes done l r → IsNext lanes done m q → r ≡ q
  one_next done l m r q is a b =
      let b' : IsNext lanes done l q = subst (λ (k : ℕ). IsNext lanes done k q) (sym is) b in
      let ends : r ∷ lane l done ≡ q ∷ lane l done = same_end a.0 (r ∷ lane l done) b'.0 (q ∷ lane l done) (sym a.1 ∙ b'.1) refl in
      cc

  module _ (f g : ℕ → ℕ) (p : BeginsAt lanes f) (q : BeginsAt lanes g) where
    -- greedy lists of one length are the same
    one_greedy : (a b : List (ℕ × UndoRecord)) → IsGreedy guard f lanes a → IsGreedy guard g lanes b → length a ≡ length b → a ≡ b
    one_greedy [] [] h k long = refl
    one_greedy [] (y ∷ b) h k long = absurd (omega (arith, long))
    one_greedy (x ∷ a) [] h k long = absurd (omega (arith, long))
    one_greedy ((l, r) ∷ a) ((m, s) ∷ b) h k long =
        let same : a ≡ b = one_greedy a b h.0 k.0 (omega (arith, long)) in
        let greedy : IsGreedy guard g lanes a = subst (λ (d : List (ℕ × UndoRecord)). IsGreedy guard g lanes d) (sym same) k.0 in
        let goes : GoesOn guard g lanes a m s = subst (λ (d : List (ℕ × UndoRecord)). GoesOn guard g lanes d m s) (sym same) k.1 in
        let none : NoneBelow guard g lanes a m = subst (λ (d : List (ℕ × UndoRecord)). NoneBelow guard g lanes d m) (sym same) k.2 in
        elim (cases_lt l m) [
          | inl lt ↦ absurd (none l r lt (goes_too f g a l r p q h.0 h.1))
          | inr le ↦ elim (cases_lt m l) [
            | inl lt ↦ absurd (h.2 m s lt (goes_too g f a m s q p greedy goes))
            | inr ge ↦
                let lanes_same : l ≡ m = omega (arith, le, ge) in
                let records_same : r ≡ s = one_next a l m r s lanes_same h.1.next goes.next in
                λ i. (lanes_same i, records_same i) ∷ same i
          ]
        ]

  -- where a longer greedy list came by so many records
  record Passed (g : ℕ → ℕ) (n : ℕ) : Type 0 where
    older : List (ℕ × UndoRecord)
    greedy : IsGreedy guard g lanes older
    long : length older ≡ n
    by : ℕ
    with : UndoRecord
    goes : GoesOn guard g lanes older by with

  passed : (g : ℕ → ℕ) (n : ℕ) (b : List (ℕ × UndoRecord)) → IsGreedy guard g lanes b → n < length b → Passed g n
  passed g n [] h lt = absurd (omega (arith, lt))
  passed g n ((m, s) ∷ b) h lt = elim (cases_lt n (length b)) [
    | inl under ↦ passed g n b h.0 under
    | inr at ↦ record { older = b; greedy = h.0; long = omega (arith, at, lt); by = m; with = s; goes = h.1 }
  ]

  -- a replay at its end isn't the beginning of a longer one
  not_longer : (a b : List (ℕ × UndoRecord)) (p : IsReplay guard lanes a) (q : IsReplay guard lanes b) → length a < length b → ⊥
  not_longer a b p q lt =
      let at = passed q.first (length a) b q.greedy lt in
      let same : a ≡ at.older = one_greedy p.first q.first p.begins q.begins a at.older p.greedy at.greedy (sym at.long) in
      let goes : GoesOn guard p.first lanes at.older at.by at.with = goes_too q.first p.first at.older at.by at.with q.begins p.begins at.greedy at.goes in
      p.ended at.by at.with (subst (λ (d : List (ℕ × UndoRecord)). GoesOn guard p.first lanes d at.by at.with) (sym same) goes)

  pub one_replay : (a b : List (ℕ × UndoRecord)) → IsReplay guard lanes a → IsReplay guard lanes b → a ≡ b
  one_replay a b p q = elim (cases_lt (length a) (length b)) [
    | inl lt ↦ absurd (not_longer a b p q lt)
    | inr le ↦ elim (cases_lt (length b) (length a)) [
      | inl lt ↦ absurd (not_longer b a q p lt)
      | inr ge ↦ one_greedy p.first q.first p.begins q.begins a b p.greedy q.greedy (omega (arith, le, ge))
    ]
  ]
