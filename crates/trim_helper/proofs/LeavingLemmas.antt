-- The seats of sessions that have ended.
use Rattle.std.proofs.Common.{ℕ, List, [], ◌∷◌, ◌++◌}
use Rattle.monitor.specs.Seats.{Home, IsSeatOf}
use Rattle.trim_helper.specs.Endings.{AreEnded, Rings}
use Rattle.trim_helper.specs.Leaving.{HaveSeats}
use Rattle.trim_helper.specs.declared.ended.Ended.{Ended}

pub seats_last : (h : Home) (es : List Ended) (e : Ended) → HaveSeats h (es ++ e ∷ []) → HaveSeats h es × IsSeatOf h e.seat
seats_last h [] e are = (tt, are.0)
seats_last h (x ∷ es) e are = let rest = seats_last h es e are.1 in ((are.0, rest.0), rest.1)

pub have_seats : (h : Home) (capacity : ℕ) (rings : Rings) (es : List Ended) → AreEnded h capacity rings es → HaveSeats h es
have_seats h capacity rings [] are = tt
have_seats h capacity rings (e ∷ es) are = (are.0.seat, have_seats h capacity rings es are.1)
