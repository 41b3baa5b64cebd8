-- The sessions that weren't handed out, by lane, and the lanes' ends behind them.
use Rattle.std.proofs.Common.{ℕ, zero, suc, ◌≡◌, ◌+◌, ◌<◌, ◌≤◌, List, [], ◌∷◌, ◌++◌, Option, Some, None, MatchOption, option_to_list, append-nil, length, drop, get_or, refl, sym, ◌∙◌, ap, arith}
use Rattle.std.proofs.lemmas.List.{at_drop_more, get_or_default, length_push}
use Rattle.std.proofs.lemmas.List.Sums.{fold-append}
use Rattle.std.specs.Prelude.{Any}
use Rattle.std.specs.List.{range_with_len}
use Rattle.thread_heap.specs.Joined.{AreNew}
use Rattle.session.specs.Sessions.{view_of}
use Rattle.session.specs.declared.session.Session.{Session}
use Rattle.host_heap.specs.Hosting.{lanes_of}
use Rattle.host_heap.specs.Sessions.{Seated}
use Rattle.host_heap.specs.declared.lane_end.LaneEnd.{LaneEnd}

pub lanes_more : (xs : List Seated) (s : Seated) → lanes_of (xs ++ s ∷ []) ≡ (view_of s.session).lane.0 ∷ lanes_of xs
lanes_more xs s = fold-append (λ (later : List ℕ) (t : Seated). (view_of t.session).lane.0 ∷ later) [] xs (s ∷ [])

-- a list of no elements
pub none_in : {X : Type 0} (xs : List X) → length xs ≡ 0 → xs ≡ []
none_in [] is = refl
none_in (x ∷ xs) is = absurd (omega (arith, is))

-- the last of these sessions is taken, if there is one
pub popped_next : (xs ys : List Seated) (o : Option Seated) (n m : ℕ) → n ≡ length xs → xs ≡ ys ++ option_to_list o → MatchOption o ((n ≡ 0) × (m ≡ 0)) (λ s. m + 1 ≡ n)
    → MatchOption o (lanes_of xs ≡ []) (λ s. lanes_of xs ≡ (view_of s.session).lane.0 ∷ lanes_of ys)
popped_next xs ys (Some s) n m count is cases = ap (λ (l : List Seated). lanes_of l) is ∙ lanes_more ys s
popped_next xs ys None n m count is cases = ap (λ (l : List Seated). lanes_of l) (none_in xs (sym count ∙ cases.0))

-- and its lane's end is the next behind those that stay
pub ends_more : (es : List LaneEnd) (i : ℕ) → i < length es → (end : LaneEnd) × (drop i es ≡ end ∷ drop (i + 1) es)
ends_more [] i low = absurd (omega (arith, low))
ends_more (e ∷ es) i low = (get_or (e ∷ es) i e, at_drop_more (λ (l : List LaneEnd). l) (e ∷ es) i e low)

pub popped_none : (xs ys : List Seated) (o : Option Seated) → xs ≡ ys ++ option_to_list o → o ≡ None → ys ≡ xs
popped_none xs ys None is none = sym (is ∙ append-nil ys)
popped_none xs ys (Some s) is none = absurd cc

-- one behind these places has it
pub any_from : {X : Type 0} (P : X → Type 0) (xs : List X) (first place : ℕ) → first ≤ place → place < length xs → ((d : X) → P (get_or xs place d)) → Any P (drop first xs)
any_from P [] first place low high is = absurd (omega (arith, high))
any_from P (x ∷ xs) zero place low high is = (place, get_or (x ∷ xs) place x, high, get_or_default (x ∷ xs) place (get_or (x ∷ xs) place x) x high, is x)
any_from P (x ∷ xs) (suc first) zero low high is = absurd (omega (arith, low))
any_from P (x ∷ xs) (suc first) (suc place) low high is = any_from P xs first place (omega (arith, low)) (omega (arith, high)) is

-- the last of new sessions is of the lane behind those of the others
pub new_popped : (n : ℕ) (ys : List Session) (s : Session) → AreNew n (ys ++ s ∷ []) → AreNew n ys × ((view_of s).lane.0 ≡ n + length ys) × ((view_of s).events ≡ [])
new_popped n [] s new = (tt, new.0 ∙ omega arith, new.1)
new_popped n (y ∷ ys) s new = let later = new_popped (suc n) ys s new.2 in ((new.0, new.1, later.0), later.1 ∙ omega arith, later.2)

range_more : (a n m : ℕ) → m ≡ n + 1 → range_with_len a m ≡ a ∷ range_with_len (a + 1) n
range_more a n m is = let next : m ≡ suc n = omega (arith, is) in ap (λ (k : ℕ). range_with_len a k) next

-- and with it the lanes go on in order, downwards
pub lanes_down : (unused : List Seated) (h : Seated) (left : List Session) (s : Session) (a : ℕ) → h.session ≡ s → (view_of s).lane.0 ≡ 0 + length left → a ≡ length left + 1
    → lanes_of unused ≡ range_with_len a (length unused) → lanes_of (unused ++ h ∷ []) ≡ range_with_len (length left) (length (unused ++ h ∷ []))
lanes_down unused h left s a same lane next is =
    lanes_more unused h ∙ ap (λ (n : ℕ). n ∷ lanes_of unused) (ap (λ (x : Session). (view_of x).lane.0) same ∙ lane ∙ omega arith)
    ∙ ap (λ (l : List ℕ). length left ∷ l) (is ∙ ap (λ (n : ℕ). range_with_len n (length unused)) next)
    ∙ sym (range_more (length left) (length unused) (length (unused ++ h ∷ [])) (length_push unused h))
