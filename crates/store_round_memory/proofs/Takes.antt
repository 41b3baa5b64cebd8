-- How many of the records take an object, and at which number the first of them does.
use Rattle.std.proofs.Common.{ℕ, ◌≡◌, ◌+◌, ◌-◌, ◌<◌, ◌≤◌, ◌==◌, if◌then◌else◌, true, false, List, [], ◌∷◌, ◌++◌, length, slice_index, Option, Some, None, refl, sym, ap, ◌∙◌, subst, inl, inr, arith}
use Rattle.std.proofs.lemmas.Bool.{cases_lt, le-ltb, ne_eqb}
use Rattle.std.proofs.lemmas.Bool.Decides.{eqb_tells}
use Rattle.heap_model.specs.declared.record.Record.{Record}
use Rattle.heap_model.specs.declared.record.Record.TheVariants.{Acq, Rel, WaitRel, Put}
use Rattle.heap_model.specs.Base.{records_since, records_until}
use Rattle.heap_model.specs.Cuts.{IsClosed, IsWhole, is_counted}
use Rattle.heap_model.specs.Log.{IsLegal, IsOfLanes, holder, lane, number}
use Rattle.heap_model.specs.Sections.{actions, holding}
use Rattle.heap_model.specs.Setting.{Setting}
use Rattle.law_cuts.proofs.Chain.{In, holds_in}
use Rattle.law_cuts.proofs.Next.{legal_before}
use Rattle.law_histories.proofs.Rebase.{until_ends}
use Rattle.law_histories.proofs.Reorder.{rest_after_until}
use Rattle.store_helper_sections.specs.HelperSections.{earlier, first_taken}
use Rattle.store_helper_sections.proofs.Moving.{first_at}
use Rattle.store_round_memory.specs.Counting.{Apart, first_of, is_kept, kept_store, kept_takes, one_more, records_left, taken_after, takes, takes_one}
use Rattle.store_round_memory.proofs.Lists.{lane_own}

-- none of the records is one of its lane's first so many
abbrev pub NoneKept : (counts : List ℕ) → List (ℕ × Record) → Type 0
NoneKept counts [] = Unit {0}
NoneKept counts (x ∷ older) = (is_kept counts x.0 older ≡ false) × NoneKept counts older

apart_older : (counts : List ℕ) (x : ℕ × Record) (older : List (ℕ × Record)) → Apart counts (x ∷ older) → Apart counts older
apart_older counts x older apart l low some = elim (x.0 == l) as (λ b. (if b then x.1 ∷ lane l older else lane l older) ≡ [] → lane l older ≡ [])
    [ true ↦ λ e. absurd (let clash : x.1 ∷ lane l older ≡ [] = e in cc) | false ↦ λ e. e ] (apart l low some)

pub none_kept : (counts : List ℕ) (xs : List (ℕ × Record)) → IsOfLanes 32 xs → Apart counts xs → NoneKept counts xs
none_kept counts [] of apart = tt
none_kept counts (x ∷ older) of apart = (
  elim (cases_lt 0 (slice_index counts x.0)) [
    | inl some ↦ absurd (omega (arith, lane_own x older, ap (λ (rs : List Record). length rs) (apart x.0 of.0 some)))
    | inr none ↦ le-ltb _ _ (omega (arith, none))
  ],
  none_kept counts older of.1 (apart_older counts x older apart),
)

pub none_of_zero : (counts : List ℕ) (xs : List (ℕ × Record)) → ((l : ℕ) → slice_index counts l ≡ 0) → NoneKept counts xs
none_of_zero counts [] zeros = tt
none_of_zero counts (x ∷ older) zeros = (le-ltb _ _ (omega (arith, zeros x.0)), none_of_zero counts older zeros)

pub none_takes : (counts : List ℕ) (o : ℕ) (xs : List (ℕ × Record)) → NoneKept counts xs → kept_takes counts o xs ≡ 0
none_takes counts o [] none = refl
none_takes counts o (x ∷ older) none =
    let here : kept_takes counts o (x ∷ older) ≡ 0 + kept_takes counts o older = ap (λ b. (if b then takes_one o x.1 else 0) + kept_takes counts o older) none.0 in
    omega (arith, here, none_takes counts o older none.1)

pub none_stored : (counts : List ℕ) (f : ℕ) (xs : List (ℕ × Record)) → NoneKept counts xs → kept_store counts f xs ≡ None
none_stored counts f [] none = refl
none_stored counts f ((l, Acq o n) ∷ older) none = none_stored counts f older none.1
none_stored counts f ((l, Rel o n) ∷ older) none = none_stored counts f older none.1
none_stored counts f ((l, WaitRel o n) ∷ older) none = none_stored counts f older none.1
none_stored counts f ((l, Put g before after) ∷ older) none =
    ap (λ c. if g.0 == f then (if c then Some after else kept_store counts f older) else kept_store counts f older) none.0
    ∙ elim (g.0 == f) as (λ b. (if b then kept_store counts f older else kept_store counts f older) ≡ None) [ true ↦ none_stored counts f older none.1 | false ↦ none_stored counts f older none.1 ]

pub none_left : (counts : List ℕ) (xs : List (ℕ × Record)) → NoneKept counts xs → records_left counts xs ≡ xs
none_left counts [] none = refl
none_left counts (x ∷ older) none = ap (λ b. if b then records_left counts older else x ∷ records_left counts older) none.0 ∙ ap (λ (ys : List (ℕ × Record)). x ∷ ys) (none_left counts older none.1)

-- the takes that are kept, and the others
pub takes_parts : (counts : List ℕ) (o : ℕ) (xs : List (ℕ × Record)) → kept_takes counts o xs + takes o (records_left counts xs) ≡ takes o xs
takes_parts counts o [] = omega arith
takes_parts counts o (x ∷ older) =
    let rest : kept_takes counts o older + takes o (records_left counts older) ≡ takes o older = takes_parts counts o older in
    elim (is_kept counts x.0 older) as (λ b. ((if b then takes_one o x.1 else 0) + kept_takes counts o older) + takes o (if b then records_left counts older else x ∷ records_left counts older) ≡ takes_one o x.1 + takes o older)
    [ true ↦ omega (arith, rest) | false ↦ omega (arith, rest) ]

one_within : (o : ℕ) (r : Record) → takes_one o r ≤ 1
one_within o (Acq p n) = elim (p.0 == o) as (λ b. (if b then 1 else 0) ≤ 1) [ true ↦ omega arith | false ↦ omega arith ]
one_within o (Rel p n) = omega arith
one_within o (WaitRel p n) = omega arith
one_within o (Put f v w) = omega arith

pub takes_within : (o : ℕ) (xs : List (ℕ × Record)) → takes o xs ≤ length xs
takes_within o [] = omega arith
takes_within o (x ∷ older) = omega (arith, one_within o x.1, takes_within o older)

-- those beyond a cut, and the others
takes_split : (next : ℕ → ℕ) (o : ℕ) (xs : List (ℕ × Record)) → takes o (records_since next xs) + takes o (records_until next xs) ≡ takes o xs
takes_split next o [] = omega arith
takes_split next o (x ∷ older) =
    let rest : takes o (records_since next older) + takes o (records_until next older) ≡ takes o older = takes_split next o older in
    elim (is_counted next x.0 (actions older)) as (λ b. takes o (if b then records_since next older else x ∷ records_since next older) + takes o (if b then x ∷ records_until next older else records_until next older) ≡ takes_one o x.1 + takes o older)
    [ true ↦ omega (arith, rest) | false ↦ omega (arith, rest) ]

-- how many lanes hold an object: one, or none
abbrev held_one : Option ℕ → ℕ
held_one None = 0
held_one (Some l) = 1

-- each time but the last, an object was freed before it is taken again
module _ (o l p n : ℕ) (older : List (ℕ × Record)) (rest : takes o older ≡ number o older + held_one (holder o older)) where
  took : holder p older ≡ None → (if p == o then 1 else 0) + takes o older ≡ number o older + held_one (if p == o then Some l else holder o older)
  took free = elim (eqb_tells p o) [
    | inl e ↦
        let none : held_one (holder o older) ≡ 0 = ap (λ (q : ℕ). held_one (holder q older)) (sym e.1) ∙ ap held_one free in
        let one : ◌≡◌ {A = ℕ} (if p == o then 1 else 0) 1 = ap (λ b. if b then 1 else 0) e.0 in
        let now : held_one (if p == o then Some l else holder o older) ≡ 1 = ap (λ b. held_one (if b then Some l else holder o older)) e.0 in
        omega (arith, rest, none, one, now)
    | inr e ↦
        let one : ◌≡◌ {A = ℕ} (if p == o then 1 else 0) 0 = ap (λ b. if b then 1 else 0) e.0 in
        let now : held_one (if p == o then Some l else holder o older) ≡ held_one (holder o older) = ap (λ b. held_one (if b then Some l else holder o older)) e.0 in
        omega (arith, rest, one, now)
  ]

  freed : holder p older ≡ Some l → number p older ≡ n → takes o older ≡ (if p == o then n + 1 else number o older) + held_one (if p == o then None else holder o older)
  freed held at = elim (eqb_tells p o) [
    | inl e ↦
        let one : held_one (holder o older) ≡ 1 = ap (λ (q : ℕ). held_one (holder q older)) (sym e.1) ∙ ap held_one held in
        let was : number o older ≡ n = ap (λ (q : ℕ). number q older) (sym e.1) ∙ at in
        let next : (if p == o then n + 1 else number o older) ≡ n + 1 = ap (λ b. if b then n + 1 else number o older) e.0 in
        let now : held_one (if p == o then None else holder o older) ≡ 0 = ap (λ b. held_one (if b then None else holder o older)) e.0 in
        omega (arith, rest, one, was, next, now)
    | inr e ↦
        let next : (if p == o then n + 1 else number o older) ≡ number o older = ap (λ b. if b then n + 1 else number o older) e.0 in
        let now : held_one (if p == o then None else holder o older) ≡ held_one (holder o older) = ap (λ b. held_one (if b then None else holder o older)) e.0 in
        omega (arith, rest, next, now)
  ]

takes_number : (s : Setting) (log : List (ℕ × Record)) (o : ℕ) → IsLegal s log → takes o log ≡ number o log + held_one (holder o log)
takes_number s [] o legal = omega arith
takes_number s ((l, Acq p n) ∷ older) o legal = took o l p.0 n older (takes_number s older o legal.0) legal.1.0
takes_number s ((l, Rel p n) ∷ older) o legal =
    let now : takes o older ≡ (if p.0 == o then n + 1 else number o older) + held_one (if p.0 == o then None else holder o older) = freed o l p.0 n older (takes_number s older o legal.0) legal.1.0 legal.1.1 in
    omega (arith, now)
takes_number s ((l, WaitRel p n) ∷ older) o legal =
    let now : takes o older ≡ (if p.0 == o then n + 1 else number o older) + held_one (if p.0 == o then None else holder o older) = freed o l p.0 n older (takes_number s older o legal.0) legal.1.0 legal.1.1 in
    omega (arith, now)
takes_number s ((l, Put f v w) ∷ older) o legal =
    let now : takes o older ≡ number o older + held_one (holder o older) = takes_number s older o legal.0 in
    omega (arith, now)

-- the next take of an object is numbered on
pub taken_next : (s : Setting) (log : List (ℕ × Record)) (l : ℕ) (r : Record) (o taken : ℕ) → IsLegal s ((l, r) ∷ log) → taken ≡ takes o log → taken_after o r taken ≡ takes_one o r + takes o log
taken_next s log l (Acq p n) o taken legal is = elim (eqb_tells p.0 o) [
  | inl e ↦
      let was : takes o log ≡ number o log + held_one (holder o log) = takes_number s log o legal.0 in
      let none : held_one (holder o log) ≡ 0 = ap (λ (q : ℕ). held_one (holder q log)) (sym e.1) ∙ ap held_one legal.1.0 in
      let at : number o log ≡ n = ap (λ (q : ℕ). number q log) (sym e.1) ∙ legal.1.1 in
      let one : ◌≡◌ {A = ℕ} (if p.0 == o then 1 else 0) 1 = ap (λ b. if b then 1 else 0) e.0 in
      let now : (if p.0 == o then n + 1 else taken) ≡ n + 1 = ap (λ b. if b then n + 1 else taken) e.0 in
      omega (arith, was, none, at, one, now)
  | inr e ↦
      let one : ◌≡◌ {A = ℕ} (if p.0 == o then 1 else 0) 0 = ap (λ b. if b then 1 else 0) e.0 in
      let now : (if p.0 == o then n + 1 else taken) ≡ taken = ap (λ b. if b then n + 1 else taken) e.0 in
      omega (arith, is, one, now)
]
taken_next s log l (Rel p n) o taken legal is = omega (arith, is)
taken_next s log l (WaitRel p n) o taken legal is = omega (arith, is)
taken_next s log l (Put f v w) o taken legal is = omega (arith, is)

-- an object has a first take just where it is taken
none_of : (u v : Option ℕ) → earlier u v ≡ None → (u ≡ None) × (v ≡ None)
none_of None v is = (refl, is)
none_of (Some n) v is = absurd (let no : Some n ≡ None = is in cc)

none_both : (u v : Option ℕ) → u ≡ None → v ≡ None → earlier u v ≡ None
none_both u v a b = (λ i. earlier (a i) (b i))

untaken : (o : ℕ) (xs : List (ℕ × Record)) → first_taken o xs ≡ None → takes o xs ≡ 0
untaken o [] none = refl
untaken o ((l, Acq p n) ∷ older) none =
    let parts = none_of (first_taken o older) (if p.0 == o then Some n else None) none in
    let here : ◌≡◌ {A = ℕ} (if p.0 == o then 1 else 0) 0 = elim (p.0 == o) as (λ b. (if b then Some n else None) ≡ None → ◌≡◌ {A = ℕ} (if b then 1 else 0) 0) [ true ↦ λ e. absurd (let no : Some n ≡ None = e in cc) | false ↦ λ e. refl ] parts.1 in
    omega (arith, here, untaken o older parts.0)
untaken o ((l, Rel p n) ∷ older) none = let rest : takes o older ≡ 0 = untaken o older none in omega (arith, rest)
untaken o ((l, WaitRel p n) ∷ older) none = let rest : takes o older ≡ 0 = untaken o older none in omega (arith, rest)
untaken o ((l, Put f v w) ∷ older) none = let rest : takes o older ≡ 0 = untaken o older none in omega (arith, rest)

never_taken : (o : ℕ) (xs : List (ℕ × Record)) → takes o xs ≡ 0 → first_taken o xs ≡ None
never_taken o [] is = refl
never_taken o ((l, Acq p n) ∷ older) is =
    let all : (if p.0 == o then 1 else 0) + takes o older ≡ 0 = is in
    let here : ◌≡◌ {A = ℕ} (if p.0 == o then 1 else 0) 0 = omega (arith, all) in
    none_both (first_taken o older) (if p.0 == o then Some n else None) (never_taken o older (omega (arith, all)))
    (elim (p.0 == o) as (λ b. ◌≡◌ {A = ℕ} (if b then 1 else 0) 0 → (if b then Some n else None) ≡ None) [ true ↦ λ e. absurd (omega (arith, e)) | false ↦ λ e. refl ] here)
never_taken o ((l, Rel p n) ∷ older) is = let all : 0 + takes o older ≡ 0 = is in never_taken o older (omega (arith, all))
never_taken o ((l, WaitRel p n) ∷ older) is = let all : 0 + takes o older ≡ 0 = is in never_taken o older (omega (arith, all))
never_taken o ((l, Put f v w) ∷ older) is = let all : 0 + takes o older ≡ 0 = is in never_taken o older (omega (arith, all))

first_at_none : (taken count : ℕ) → count ≡ 0 → first_of taken count ≡ 0
first_at_none taken count is = ap (first_of taken) is

first_at_some : (taken count : ℕ) → 0 < count → first_of taken count ≡ taken - count + 1
first_at_some taken count some = ap (λ b. if b then 0 else taken - count + 1) (ne_eqb count 0 (λ e. omega (arith, e, some)))

-- a whole closed cut's first takes beyond
module _ (s : Setting) (log : List (ℕ × Record)) (next : ℕ → ℕ) (legal : IsLegal s log) (whole : IsWhole (actions log) next) (closed : IsClosed (actions log) next) where
  both : IsLegal s (records_since next log ++ records_until next log)
  both = rest_after_until s next log legal closed

  gone_legal : IsLegal s (records_until next log)
  gone_legal = legal_before s (records_since next log) (records_until next log) both

  nobody : (o : ℕ) (v : Option ℕ) → holder o (records_until next log) ≡ v → holder o (records_until next log) ≡ None
  nobody o None h = h
  nobody o (Some l) h = absurd (
      let held : In o (holding (lane l (actions (records_until next log)))) = holds_in s (records_until next log) o l gone_legal h in
      let none : In o [] = subst (λ (os : List ℕ). In o os) (until_ends next l log (whole l)).0 held in
      none)

  pub first_is : (o taken count : ℕ) → taken ≡ takes o log → count ≡ takes o (records_since next log) → first_of taken count ≡ one_more (first_taken o (records_since next log))
  first_is o taken count all some =
      let free : holder o (records_until next log) ≡ None = nobody o (holder o (records_until next log)) refl in
      elim (first_at s (records_until next log) o free (records_since next log) both) [
        | inl h ↦ first_at_none taken count (some ∙ untaken o (records_since next log) h.0) ∙ ap one_more (sym h.0)
        | inr h ↦
            let parts : takes o (records_since next log) + takes o (records_until next log) ≡ takes o log = takes_split next o log in
            let numbered : takes o (records_until next log) ≡ number o (records_until next log) + held_one (holder o (records_until next log)) = takes_number s (records_until next log) o gone_legal in
            let none : held_one (holder o (records_until next log)) ≡ 0 = ap held_one free in
            elim (cases_lt 0 count) [
              | inl lt ↦
                  let at : taken - count + 1 ≡ number o (records_until next log) + 1 = omega (arith, all, some, parts, numbered, none) in
                  first_at_some taken count lt ∙ at ∙ ap one_more (sym h)
              | inr le ↦
                  let zero : takes o (records_since next log) ≡ 0 = omega (arith, le, some) in
                  let clash : Some (number o (records_until next log)) ≡ None = sym h ∙ never_taken o (records_since next log) zero in
                  absurd cc
            ]
      ]
