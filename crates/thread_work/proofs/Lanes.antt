-- There is one session a lane.
use Rattle.std.proofs.Common.{ℕ, suc, ◌≡◌, ◌+◌, List, [], ◌∷◌, All, length, refl, ap, ◌∙◌, arith}
use Rattle.std.proofs.lemmas.List.Elements.{All-nil, All-cons, All-head, All-tail}
use Rattle.std.specs.List.{range_with_len}
use Rattle.monitor.specs.Seats.{Home}
use Rattle.thread_heap.specs.Joined.{AreNew, IsJoined}
use Rattle.session.specs.declared.session.Session.{Session}
use Rattle.trim_helper.specs.Endings.{Rings}
use Rattle.thread_work.specs.Bodies.{IsFirst, lanes_opened}

-- new sessions are of the lanes from the first one on
pub lanes_up : (n : ℕ) (sessions : List Session) → AreNew n sessions → lanes_opened sessions ≡ range_with_len n (length sessions)
lanes_up n [] new = refl
lanes_up n (s ∷ sessions) new =
    let next : suc n ≡ n + 1 = omega arith in
    ap (λ (l : ℕ). l ∷ lanes_opened sessions) new.0 ∙ ap (λ (ls : List ℕ). n ∷ ls) (lanes_up (suc n) sessions new.2 ∙ ap (λ (l : ℕ). range_with_len l (length sessions)) next)

-- those that are joined and new are as they were opened
pub all_first : (h : Home) (capacity n : ℕ) (rings : Rings) (sessions : List Session) → All (IsJoined h capacity rings) sessions → AreNew n sessions → All (IsFirst h) sessions
all_first h capacity n rings [] joined new = All-nil (IsFirst h)
all_first h capacity n rings (s ∷ sessions) joined new =
    All-cons (IsFirst h) s sessions (record { of = (All-head (IsJoined h capacity rings) s sessions joined).of; new = new.1 })
    (all_first h capacity (suc n) rings sessions (All-tail (IsJoined h capacity rings) s sessions joined) new.2)
