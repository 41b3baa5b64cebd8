-- A pool's calls over a session's cells, as calls of the session.
use Rattle.std.proofs.Common.{ℕ, ◌≡◌, List, Result, sym, ap, ◌∙◌, subst}
use Rattle.monitor.specs.Seats.{Home}
use Rattle.pool.specs.Calls.{TakeAnswers, GiveAnswers}
use Rattle.pool.specs.FreeList.{Place}
use Rattle.pool.specs.Knowledge.{Access, Knowledge}
use Rattle.pool.specs.declared.error.PoolError.{PoolError}
use Rattle.pool.specs.SectionCalls.{GivesSlot, TakesSlot, known_to}
use Rattle.pool.specs.Knowing.{Keeps, TellsOfFields, home_of, known_by, knowledge_in, session_of}
use Rattle.pool.specs.declared.in_section.InSection.{InSection}
use Rattle.session.specs.Sessions.{view_of}
use Rattle.session.specs.declared.error.SessionError.{SessionError}
use Rattle.session.specs.declared.session.Session.{Session}
use Rattle.thread_steps.specs.Views.{plan}

-- what the cells know is what the session knows
known_is : (h : Home) (x : Session) (u : InSection) → session_of u ≡ x → home_of u ≡ h → known_by u ≡ known_to h x
known_is h x u session home =
    ap (λ (z : Session). knowledge_in (plan (home_of u)) (view_of z).events) session ∙ ap (λ (k : Home). knowledge_in (plan k) (view_of x).events) home

told_is : (x y : Session) (u v : InSection) (done : List Access) → session_of u ≡ x → session_of v ≡ y → Keeps u v done → TellsOfFields (view_of x) (view_of y) done
told_is x y u v done before after keeps =
    subst (λ (z : Session). TellsOfFields (view_of x) (view_of z) done) after (subst (λ (z : Session). TellsOfFields (view_of z) (view_of (session_of v)) done) before keeps.told)

pub takes_slot : (h : Home) (x y : Session) (u v : InSection) (p : Place) (done : List Access) (r : Result ℕ (PoolError SessionError))
    → session_of u ≡ x → home_of u ≡ h → y ≡ session_of v → TakeAnswers p (known_by u) (known_by v) done r → Keeps u v done → TakesSlot h x y p r
takes_slot h x y u v p done r before home after answer keeps = record {
  done = done;
  answer = subst (λ (l : Knowledge SessionError). TakeAnswers p (known_to h x) l done r) (known_is h y v (sym after) (keeps.home ∙ home))
      (subst (λ (k : Knowledge SessionError). TakeAnswers p k (known_by v) done r) (known_is h x u before home) answer);
  told = told_is x y u v done before (sym after) keeps;
}

pub gives_slot : (h : Home) (x y : Session) (u v : InSection) (p : Place) (s : ℕ) (done : List Access) (r : Result (Unit {0}) (PoolError SessionError))
    → session_of u ≡ x → home_of u ≡ h → y ≡ session_of v → GiveAnswers p (known_by u) (known_by v) done s r → Keeps u v done → GivesSlot h x y p s r
gives_slot h x y u v p s done r before home after answer keeps = record {
  done = done;
  answer = subst (λ (l : Knowledge SessionError). GiveAnswers p (known_to h x) l done s r) (known_is h y v (sym after) (keeps.home ∙ home))
      (subst (λ (k : Knowledge SessionError). GiveAnswers p k (known_by v) done s r) (known_is h x u before home) answer);
  told = told_is x y u v done before (sym after) keeps;
}
