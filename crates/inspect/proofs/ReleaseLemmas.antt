-- A table of releases, with one more.
use Rattle.std.proofs.Common.{Ordering, ℕ, ◌≡◌, ◌==◌, ◌&&◌, if◌then◌else◌, Bool, true, false, cond, Option, None, Some, List, [], ◌∷◌, ◌++◌, refl, sym, ap, ◌∙◌}
use Rattle.std.specs.Cmp.{both_tied, unsigned_ties}
use Rattle.std.specs.Ordering.{nat_cmp, ordering_then, is_eq}
use Rattle.std.specs.BTreeMap.{BTreeMap, Updates}
use Rattle.inspect.specs.declared.section.SectionId.{SectionId}
use Rattle.inspect.specs.Links.{Release, last_of, releaser_in, finds, Tells}

last_if : (first : Option SectionId) (b : Bool) (x : SectionId) (rest : Option SectionId) → last_of first (if b then Some x else rest) ≡ (if b then Some x else last_of first rest)
last_if first true x rest = refl
last_if first false x rest = refl

last_none : (x : Option SectionId) → last_of x None ≡ x
last_none x = refl

last_some : (b : Bool) (x : SectionId) → last_of None (if b then Some x else None) ≡ (if b then Some x else None)
last_some true x = refl
last_some false x = refl

-- the last of the releases is the one that came
pub releaser_push : (list : List Release) (x : Release) (o n : ℕ) → releaser_in (list ++ x ∷ []) o n ≡ (if x.object == o && x.number == n then Some x.section else releaser_in list o n)
releaser_push [] x o n = last_none (if x.object == o && x.number == n then Some x.section else None)
releaser_push (y ∷ list) x o n =
    let first : Option SectionId = if y.object == o && y.number == n then Some y.section else None in
    ap (last_of first) (releaser_push list x o n) ∙ last_if first (x.object == o && x.number == n) x.section (releaser_in list o n)

if_is_cond : {A : Type 0} (b : Bool) (x y : A) → cond b x y ≡ (if b then x else y)
if_is_cond true x y = refl
if_is_cond false x y = refl

abbrev pub by_number : ℕ × ℕ → ℕ × ℕ → Ordering
by_number x y = ordering_then (nat_cmp x.0 y.0) (nat_cmp x.1 y.1)

pub tells_more : (old new : BTreeMap (ℕ × ℕ) SectionId) (list : List Release) (x : Release) → Updates by_number old new (x.object, x.number) (Some x.section) → Tells old list → Tells new (list ++ x ∷ [])
tells_more old new list x updates tells o n =
    let here : (x.object == o && x.number == n) ≡ is_eq (by_number (x.object, x.number) (o, n)) = both_tied (x.object == o) (x.number == n) (nat_cmp x.object o) (nat_cmp x.number n) (unsigned_ties x.object o) (unsigned_ties x.number n) in
    updates.0 (o, n) ∙ ap (λ (b : Bool). cond b (Some x.section) (finds old o n)) (sym here) ∙ if_is_cond (x.object == o && x.number == n) (Some x.section) (finds old o n)
    ∙ ap (λ (f : Option SectionId). if x.object == o && x.number == n then Some x.section else f) (tells o n) ∙ sym (releaser_push list x o n)
