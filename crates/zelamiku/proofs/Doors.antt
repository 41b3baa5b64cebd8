-- What a handle has after a call of its session.
use Rattle.std.proofs.Common.{◌≡◌, ℕ, refl, sym, subst}
use Rattle.host_heap.specs.Sessions.{SamePlace, Seated}
use Rattle.zelamiku.specs.Handles.{holding, session_held}
use Rattle.zelamiku.specs.SessionDoors.{AnswersAs}
use Rattle.zelamiku.specs.declared.state.Open.{Open}
use Rattle.zelamiku.specs.declared.state.Open.TheVariants as kind

-- the session that was there is there again, by a call that is `p`
pub stays : (p : Seated → Seated → ℕ → Type 0) (x : Open) (s t : Seated) (status : ℕ)
    → x ≡ kind.Session s → SamePlace s t → p s t status → AnswersAs p (holding x) (session_held t) status
stays p x s t status is same told = subst (λ (y : Open). AnswersAs p (holding y) (session_held t) status) (sym is) (t, refl, same, told)

-- a session stays in its place where no call is made of it
pub stays_put : (s : Seated) → SamePlace s s
stays_put s = record { home = refl; stop_is = refl; back_is = refl; of = λ is. is; ring = (((refl, refl, refl, refl), refl), refl, refl) }
