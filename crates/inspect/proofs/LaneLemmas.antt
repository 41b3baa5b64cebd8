-- What lanes tell, one after the other.
use Rattle.std.proofs.Common.{ℕ, zero, suc, ◌≡◌, ◌+◌, ◌-◌, ◌<◌, Option, List, [], ◌++◌, sym, ap, ◌∙◌, subst, arith, append_assoc, append-nil}
use Rattle.std.specs.Io.KnownBytes.{Appends}
use Rattle.std.proofs.KnownBytes.{Appends-trans}
use Rattle.inspect.specs.Written.{AppendsPart}
use Rattle.inspect.specs.Sections.{by_lane}
use Rattle.inspect.proofs.PartLemmas.{part_first, part_second}

pub lanes_more : {X : Type 0} (tell : ℕ → List X) (l : ℕ) → by_lane tell (l + 1) ≡ by_lane tell l ++ tell l
lanes_more tell l = ap (by_lane tell) (let e : l + 1 ≡ suc l = omega arith in e)

-- more lanes tell more
lanes_grow : {X : Type 0} (tell : ℕ → List X) (more l : ℕ) → (rest : List X) × (by_lane tell (more + l) ≡ by_lane tell l ++ rest)
lanes_grow {X} tell zero l = ([], ap (by_lane tell) (let e : 0 + l ≡ l = omega arith in e) ∙ sym (append-nil (by_lane tell l)))
lanes_grow {X} tell (suc more) l =
    let rest = lanes_grow tell more l in
    (rest.0 ++ tell (more + l), ap (by_lane tell) (let e : suc more + l ≡ suc (more + l) = omega arith in e) ∙ ap (λ (xs : List X). xs ++ tell (more + l)) rest.1 ∙ append_assoc (by_lane tell l) rest.0 (tell (more + l)))

-- what a lane tells, among what all tell
pub lanes_split : {X : Type 0} (tell : ℕ → List X) (l lanes : ℕ) → l < lanes → (rest : List X) × (by_lane tell lanes ≡ (by_lane tell l ++ tell l) ++ rest)
lanes_split tell l lanes lt =
    let rest = lanes_grow tell (lanes - suc l) (suc l) in
    (rest.0, ap (by_lane tell) (let n : lanes ≡ lanes - suc l + suc l = omega arith in n) ∙ rest.1)

module _ (tell : ℕ → List ℕ) (l : ℕ) (a b c : Option (List ℕ)) where
  -- one more lane
  pub next_lane : Appends a b (by_lane tell l) → Appends b c (tell l) → Appends a c (by_lane tell (l + 1))
  next_lane p q = subst (Appends a c) (sym (lanes_more tell l)) (Appends-trans a b c (by_lane tell l) (tell l) p q)

  -- the lanes so far and a part of the next
  pub part_lane : (lanes : ℕ) → l < lanes → Appends a b (by_lane tell l) → AppendsPart b c (tell l) → AppendsPart a c (by_lane tell lanes)
  part_lane lanes lt p q =
      let rest = lanes_split tell l lanes lt in
      subst (AppendsPart a c) (sym rest.1) (part_first a c (by_lane tell l ++ tell l) rest.0 (part_second a b c (by_lane tell l) (tell l) p q))
