-- Room for the records of all lanes.
use Rattle.std.proofs.Common.{ℕ, zero, suc, ◌≡◌, ◌+◌, ◌*◌, ◌<◌, ◌≤◌, if◌then◌else◌, Bool, true, false, List, [], ◌∷◌, length, All, refl, ap, ◌∙◌, subst, arith, nat_lt}
use Rattle.std.proofs.Math.Nat.{suc-mul}
use Rattle.std.proofs.lemmas.Bool.{eq-eqb, ne_eqb}
use Rattle.std.proofs.lemmas.List.Elements.{All-nil, All-cons, All-head, All-tail}
use mathlib.Core.Logic.{dite}
use native.Mathlib.Decide.{ℕ_discrete}
use Rattle.heap_model.specs.declared.record.Record.{Record}
use Rattle.heap_model.specs.Log.{lane}
use Rattle.heap_model.specs.Sections.{Action, action, actions, ended}
use Rattle.heap_model.specs.Base.{since}
use Rattle.dependence.specs.Trace.{in_all}

-- the records of the first lanes
abbrev count_below : ℕ → List (ℕ × Action) → ℕ
count_below zero log = 0
count_below (suc l) log = length (lane l log) + count_below l log

count_above : (lanes : ℕ) (x : ℕ × Action) (log : List (ℕ × Action)) → lanes ≤ x.0 → count_below lanes (x ∷ log) ≡ count_below lanes log
count_above zero x log le = refl
count_above (suc l) x log le = ap (λ (b : Bool). length (if b then x.1 ∷ lane l log else lane l log) + count_below l (x ∷ log)) (ne_eqb x.0 l (omega arith)) ∙ ap (λ (n : ℕ). length (lane l log) + n) (count_above l x log (omega arith))

count_one : (lanes : ℕ) (x : ℕ × Action) (log : List (ℕ × Action)) → x.0 < lanes → count_below lanes (x ∷ log) ≡ count_below lanes log + 1
count_one zero x log lt = absurd (omega arith)
count_one (suc l) x log lt = dite (ℕ_discrete x.0 l)
    (λ same. ap (λ (b : Bool). length (if b then x.1 ∷ lane l log else lane l log) + count_below l (x ∷ log)) (eq-eqb x.0 l same) ∙ (let e : count_below l (x ∷ log) ≡ count_below l log = count_above l x log (omega arith) in omega arith))
    (λ other. ap (λ (b : Bool). length (if b then x.1 ∷ lane l log else lane l log) + count_below l (x ∷ log)) (ne_eqb x.0 l other) ∙ (let e : count_below l (x ∷ log) ≡ count_below l log + 1 = count_one l x log (omega arith) in omega arith))

count_none : (lanes : ℕ) → count_below lanes [] ≡ 0
count_none zero = refl
count_none (suc l) = omega (arith, count_none l)

count_all : (lanes : ℕ) (log : List (ℕ × Action)) → All (λ x. x.0 < lanes) log → length log ≡ count_below lanes log
count_all lanes [] of = omega (arith, count_none lanes)
count_all lanes (x ∷ log) of = omega (arith, count_all lanes log (All-tail (λ (y : ℕ × Action). y.0 < lanes) x log of), count_one lanes x log (All-head (λ (y : ℕ × Action). y.0 < lanes) x log of))

count_room : (lanes room : ℕ) (log : List (ℕ × Action)) → ((l : ℕ) → l < lanes → length (lane l log) ≤ room) → count_below lanes log ≤ lanes * room
count_room zero room log le = omega arith
count_room (suc l) room log le =
    let more : suc l * room ≡ l * room + room = suc-mul l room in
    omega (arith, le l (omega arith), count_room l room log (λ m lt. le m (omega arith)))

count_less : (lanes room : ℕ) (log : List (ℕ × Action)) (some : ℕ) → some < lanes → length (lane some log) < room → ((l : ℕ) → l < lanes → length (lane l log) ≤ room) → count_below lanes log < lanes * room
count_less zero room log some lt less le = absurd (omega arith)
count_less (suc l) room log some lt less le = dite (ℕ_discrete some l)
    (λ same. let here : length (lane l log) < room = subst (λ (m : ℕ). length (lane m log) < room) same less in
    omega (arith, suc-mul l room, count_room l room log (λ m lt'. le m (omega arith))))
    (λ other. omega (arith, suc-mul l room, le l (omega arith), count_less l room log some (omega arith) less (λ m lt'. le m (omega arith))))

count_sum : (lanes : ℕ) (count : ℕ → ℕ) (log : List (ℕ × Action)) → ((l : ℕ) → l < lanes → count l ≡ length (lane l log)) → in_all lanes count ≡ count_below lanes log
count_sum zero count log is = refl
count_sum (suc l) count log is = omega (arith, is l (omega arith), count_sum l count log (λ m lt. is m (omega arith)))

-- the sum of what the lanes have is all
pub total_is : (lanes : ℕ) (count : ℕ → ℕ) (log : List (ℕ × Action)) → All (λ x. x.0 < lanes) log → ((l : ℕ) → l < lanes → count l ≡ length (lane l log)) → in_all lanes count ≡ length log
total_is lanes count log of is = omega (arith, count_sum lanes count log is, count_all lanes log of)

-- so many of each are no more than so many times the lanes
pub sum_room : (lanes room : ℕ) (count : ℕ → ℕ) → ((l : ℕ) → l < lanes → count l ≤ room) → in_all lanes count ≤ lanes * room
sum_room zero room count le = omega arith
sum_room (suc l) room count le =
    let more : suc l * room ≡ l * room + room = suc-mul l room in
    omega (arith, le l (omega arith), sum_room l room count (λ m lt. le m (omega arith)))

-- one lane has room, so all have
pub total_less : (lanes room : ℕ) (log : List (ℕ × Action)) (some : ℕ) → All (λ x. x.0 < lanes) log → some < lanes → length (lane some log) < room → ((l : ℕ) → l < lanes → length (lane l log) ≤ room) → length log < lanes * room
total_less lanes room log some of lt less le = omega (arith, count_all lanes log of, count_less lanes room log some lt less le)

-- the records since a base are of the same lanes
pub since_lanes : (lanes : ℕ) (base : ℕ → ℕ) (log : List (ℕ × Record)) → All (λ x. x.0 < lanes) log → All (λ x. x.0 < lanes) (since base (actions log))
since_lanes lanes base [] of = All-nil (λ (y : ℕ × Action). y.0 < lanes)
since_lanes lanes base ((m, r) ∷ older) of =
    let rest : All (λ (y : ℕ × Action). y.0 < lanes) (since base (actions older)) = since_lanes lanes base older (All-tail (λ (y : ℕ × Record). y.0 < lanes) (m, r) older of) in
    elim (nat_lt (ended (lane m (actions older))) (base m)) as (λ b. All (λ (y : ℕ × Action). y.0 < lanes) (if b then since base (actions older) else (m, action r) ∷ since base (actions older))) [
      | true ↦ rest
      | false ↦ All-cons (λ (y : ℕ × Action). y.0 < lanes) (m, action r) (since base (actions older)) (All-head (λ (y : ℕ × Record). y.0 < lanes) (m, r) older of) rest
    ]

-- a lane from the number of lanes on has no records
pub lane_past : (lanes l : ℕ) (log : List (ℕ × Record)) → All (λ x. x.0 < lanes) log → lanes ≤ l → lane l log ≡ []
lane_past lanes l [] of le = refl
lane_past lanes l ((m, r) ∷ older) of le =
    let low : m < lanes = All-head (λ (y : ℕ × Record). y.0 < lanes) (m, r) older of in
    ap (λ (b : Bool). if b then r ∷ lane l older else lane l older) (ne_eqb m l (omega arith)) ∙ lane_past lanes l older (All-tail (λ (y : ℕ × Record). y.0 < lanes) (m, r) older of) le
