-- What a session that holds nothing leaves.
use Rattle.std.proofs.Common.{ℕ, zero, suc, ◌≡◌, ◌<◌, List, [], ◌∷◌, All, length, ap, ◌∙◌, arith}
use Rattle.std.specs.List.{slice_index_or}
use Rattle.std.proofs.lemmas.List.Elements.{All-head, All-tail}
use Rattle.monitor.specs.Seats.{Home, Sitting}
use Rattle.monitor.specs.Views.{lane_of}
use Rattle.session.specs.Sessions.{SameRing, seat_of, view_of}
use Rattle.session.specs.declared.session.Session.{Session}
use Rattle.trim_helper.specs.Endings.{HoldNone, IsEnded, Rings}
use Rattle.trim_helper.specs.declared.ended.Ended.{Ended}

pub lane_kept : (h : Home) (capacity : ℕ) (rings : Rings) (old s : Session) (e : Ended) → IsEnded h capacity rings e → e.seat ≡ seat_of s → SameRing old s → e.lane.0 ≡ (view_of old).lane.0
lane_kept h capacity rings old s e ended same ring = ended.lane ∙ ap (λ (x : Sitting). (lane_of x.view).0) same ∙ (λ i. (ring.2 i).0)

pub lane_there : (h : Home) (capacity : ℕ) (rings : Rings) (s : Session) (e : Ended) → IsEnded h capacity rings e → e.seat ≡ seat_of s → e.lane.0 ≡ (view_of s).lane.0
lane_there h capacity rings s e ended same = ended.lane ∙ ap (λ (x : Sitting). (lane_of x.view).0) same

pub none_hold : (es : List Ended) → All (λ (e : Ended). e.held ≡ 0) es → HoldNone es
none_hold [] all = tt
none_hold (e ∷ es) all = (All-head (λ (x : Ended). x.held ≡ 0) e es all, none_hold es (All-tail (λ (x : Ended). x.held ≡ 0) e es all))

-- one of them holds a monitor
pub one_holds : (k : ℕ) (es : List Ended) → k < length es → ((d : Ended) → (slice_index_or es k d).held ≡ 0 → ⊥) → HoldNone es → ⊥
one_holds k [] low holds none = absurd (omega (arith, low))
one_holds zero (e ∷ es) low holds none = holds e none.0
one_holds (suc k) (e ∷ es) low holds none = one_holds k es (omega (arith, low)) holds none.1
