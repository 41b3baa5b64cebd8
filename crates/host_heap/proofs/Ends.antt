-- The lanes of the ends where sessions come back, and which of them have come.
use Rattle.std.proofs.Common.{ℕ, zero, suc, ◌≡◌, ◌+◌, ◌<◌, ◌≤◌, List, [], ◌∷◌, ◌++◌, All, IfSome, Option, Some, None, option_to_list, append-nil, fold, length, drop, take, set, get_or, refl, sym, ◌∙◌, ap, subst, inl, inr, arith}
use Rattle.std.proofs.lemmas.Bool.{cases_eq}
use Rattle.std.proofs.lemmas.List.{drop-set, drop_more, get_or-drop, get_or-set_other, get_or-set_same, length-drop, length_push}
use Rattle.std.proofs.lemmas.List.Elements.{All-cons}
use Rattle.std.proofs.lemmas.List.Sums.{fold-append}
use Rattle.session.specs.Sessions.{view_of}
use Rattle.session.specs.declared.session.Session.{Session}
use Rattle.trim_helper.specs.Endings.{lanes_ended}
use Rattle.trim_helper.specs.declared.ended.Ended.{Ended}
use Rattle.host_heap.specs.Hosting.{handed_out, lanes_of}
use Rattle.host_heap.specs.Lanes.{ArePaired, IsAwaitedBy, lane_at, lane_in, lanes_at}
use Rattle.host_heap.specs.Sessions.{Seated}
use Rattle.host_heap.specs.declared.lane_end.LaneEnd.{LaneEnd}
use Rattle.host_heap.proofs.Orders.{ends_more, none_in}

pub lanes_at_more : (xs : List LaneEnd) (l : LaneEnd) → lanes_at (xs ++ l ∷ []) ≡ lane_at l ∷ lanes_at xs
lanes_at_more xs l = fold-append (λ (later : List ℕ) (e : LaneEnd). lane_at e ∷ later) [] xs (l ∷ [])

-- an end of the same lane in place of another
set_onto : (later : List ℕ) (xs : List LaneEnd) (i : ℕ) (l d : LaneEnd) → lane_at l ≡ lane_at (get_or xs i d) → i < length xs
    → fold (λ (ns : List ℕ) (e : LaneEnd). lane_at e ∷ ns) later (set xs i l) ≡ fold (λ (ns : List ℕ) (e : LaneEnd). lane_at e ∷ ns) later xs
set_onto later [] i l d same low = absurd (omega (arith, low))
set_onto later (x ∷ xs) zero l d same low = ap (λ (n : ℕ). fold (λ (ns : List ℕ) (e : LaneEnd). lane_at e ∷ ns) (n ∷ later) xs) same
set_onto later (x ∷ xs) (suc i) l d same low = set_onto (lane_at x ∷ later) xs i l d same (omega (arith, low))

pub lanes_at_set : (xs : List LaneEnd) (i : ℕ) (l d : LaneEnd) → lane_at l ≡ lane_at (get_or xs i d) → i < length xs → lanes_at (set xs i l) ≡ lanes_at xs
lanes_at_set xs i l d same low = set_onto [] xs i l d same low

-- The last of these sessions is awaited by the end at its place, and the others are by those before.
pub paired_last : (xs : List Seated) (s : Seated) (es : List LaneEnd) (d : LaneEnd) → ArePaired (xs ++ s ∷ []) es → IsAwaitedBy s (get_or es (length xs) d) × ArePaired xs es
paired_last [] s [] d paired = absurd paired
paired_last [] s (e ∷ es) d paired = (paired.0, tt)
paired_last (x ∷ xs) s [] d paired = absurd paired
paired_last (x ∷ xs) s (e ∷ es) d paired = let rest = paired_last xs s es d paired.1 in (rest.0, (paired.0, rest.1))

pub paired_more : (xs : List Seated) (es : List LaneEnd) (s : Seated) (e : LaneEnd) → length xs ≡ length es → ArePaired xs es → IsAwaitedBy s e → ArePaired (xs ++ s ∷ []) (es ++ e ∷ [])
paired_more [] [] s e long paired is = (is, tt)
paired_more [] (f ∷ es) s e long paired is = absurd (omega (arith, long))
paired_more (x ∷ xs) [] s e long paired is = absurd paired
paired_more (x ∷ xs) (f ∷ es) s e long paired is = (paired.0, paired_more xs es s e (omega (arith, long)) paired.1 is)

-- it is of that end's lane
pub lane_awaited : (s : Seated) (l : LaneEnd) → IsAwaitedBy s l → (view_of s.session).lane.0 ≡ lane_at l
lane_awaited s l is = sym (ap (λ (items : List Session). lane_in items) is.begins)

-- so they stay where one of them goes, or none does
pub paired_popped : (xs ys : List Seated) (o : Option Seated) (es : List LaneEnd) → xs ≡ ys ++ option_to_list o → length xs ≤ length es → ArePaired xs es → ArePaired ys es
paired_popped xs ys None es is low paired = subst (λ (l : List Seated). ArePaired l es) (is ∙ append-nil ys) paired
paired_popped xs ys (Some s) [] is low paired = let more : length xs ≡ length ys + 1 = ap (λ (l : List Seated). length l) is ∙ length_push ys s in absurd (omega (arith, more, low))
paired_popped xs ys (Some s) (e ∷ es) is low paired = (paired_last ys s (e ∷ es) e (subst (λ (l : List Seated). ArePaired l (e ∷ es)) is paired)).1

-- and the one that goes is awaited by the end that is the first of those handed out then
pub popped_awaited : (xs ys : List Seated) (o : Option Seated) (es : List LaneEnd) → xs ≡ ys ++ option_to_list o → length xs ≤ length es → ArePaired xs es
    → IfSome o (λ s. (end : LaneEnd) × (handed_out ys es ≡ end ∷ handed_out xs es) × IsAwaitedBy s end)
popped_awaited xs ys None es is low paired = tt
popped_awaited xs ys (Some s) es is low paired =
    let more : length ys + 1 ≡ length xs = sym (ap (λ (l : List Seated). length l) is ∙ length_push ys s) in
    let here : length ys < length es = omega (arith, more, low) in
    let d : LaneEnd = (ends_more es (length ys) here).0 in
    let end : LaneEnd = get_or es (length ys) d in
    (end, drop_more es (length ys) d here ∙ ap (λ (n : ℕ). end ∷ drop n es) more, (paired_last ys s es d (subst (λ (l : List Seated). ArePaired l es) is paired)).0)

-- an end behind them changes nothing
pub paired_set : (xs : List Seated) (es : List LaneEnd) (i : ℕ) (l : LaneEnd) → length xs ≤ i → ArePaired xs es → ArePaired xs (set es i l)
paired_set [] es i l high paired = tt
paired_set (x ∷ xs) [] i l high paired = absurd paired
paired_set (x ∷ xs) (e ∷ es) zero l high paired = absurd (omega (arith, high))
paired_set (x ∷ xs) (e ∷ es) (suc i) l high paired = (paired.0, paired_set xs es i l (omega (arith, high)) paired.1)

-- nor do other ends behind as many
pub paired_kept : (xs : List Seated) (es fs : List LaneEnd) → take (length xs) fs ≡ take (length xs) es → ArePaired xs es → ArePaired xs fs
paired_kept [] es fs same paired = tt
paired_kept (x ∷ xs) [] fs same paired = absurd paired
paired_kept (x ∷ xs) (e ∷ es) [] same paired = absurd cc
paired_kept (x ∷ xs) (e ∷ es) (f ∷ fs) same paired =
    let both : f ∷ take (length xs) fs ≡ e ∷ take (length xs) es = same in
    let first : f ≡ e = cc in
    let rest : take (length xs) fs ≡ take (length xs) es = cc in
    (subst (λ (l : LaneEnd). IsAwaitedBy x l) (sym first) paired.0, paired_kept xs es fs rest paired.1)

-- a lane for each session
pub lanes_long : (later : List ℕ) (xs : List Seated) → length (fold (λ (ns : List ℕ) (s : Seated). (view_of s.session).lane.0 ∷ ns) later xs) ≡ length later + length xs
lanes_long later [] = omega arith
lanes_long later (s ∷ xs) = let more = lanes_long ((view_of s.session).lane.0 ∷ later) xs in omega (arith, more)

-- no lane is left only where no session is
pub none_left : (xs : List Seated) → lanes_of xs ≡ [] → xs ≡ []
none_left xs none =
    let long = lanes_long [] xs in
    let short : length (lanes_of xs) ≡ 0 = ap (λ (l : List ℕ). length l) none in
    none_in xs (omega (arith, long, short))

-- all from this place on have it
pub all_from : {X : Type 0} (P : X → Type 0) (xs : List X) (first : ℕ) → ((i : ℕ) (d : X) → first ≤ i → i < length xs → P (get_or xs i d)) → All P (drop first xs)
all_from P xs first each = λ k d low.
    let long = length-drop first xs in
    subst P (sym (get_or-drop first xs k d)) (each (first + k) d (omega arith) (omega (arith, long, low)))

-- another that has it is at the next place
pub each_set : {X : Type 0} (P : X → Type 0) (xs : List X) (first place : ℕ) (x : X) → place < length xs → ((i : ℕ) (d : X) → first ≤ i → i < place → P (get_or xs i d)) → P x
    → (i : ℕ) (d : X) → first ≤ i → i < place + 1 → P (get_or (set xs place x) i d)
each_set P xs first place x high each is = λ i d low under. elim (cases_eq i place) [
  | inl same ↦ subst P (sym (ap (λ (n : ℕ). get_or (set xs place x) n d) same ∙ get_or-set_same xs place x d high)) is
  | inr other ↦ subst P (sym (get_or-set_other xs place i x d other)) (each i d low (omega (arith, under, other)))
]

-- or right before the first of them
pub all_set : {X : Type 0} (P : X → Type 0) (xs : List X) (n m : ℕ) (x : X) → n ≡ m + 1 → m < length xs → All P (drop n xs) → P x → All P (drop m (set xs m x))
all_set P xs n m x next high all is = subst (All P) (sym (drop-set xs m x high)) (All-cons P x (drop (m + 1) xs) is (subst (λ (k : ℕ). All P (drop k xs)) next all))

-- what one more that has ended adds to the lanes
pub ended_more : (es : List Ended) (x : Ended) (later : List ℕ) → lanes_ended (es ++ x ∷ []) ++ later ≡ lanes_ended es ++ x.lane.0 ∷ later
ended_more [] x later = refl
ended_more (e ∷ es) x later = ap (λ (ns : List ℕ). e.lane.0 ∷ ns) (ended_more es x later)
