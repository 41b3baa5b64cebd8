-- What the threads of some lanes leave, with what the next lane's thread leaves.
use Rattle.std.proofs.Common.{ℕ, ◌≡◌, List, [], ◌∷◌, ◌++◌, All, Option, Some, None, Result, Ok, Err, IfOk, IfSome, inl, inr, sym, ap, ◌∙◌, subst}
use Rattle.std.proofs.lemmas.List.{map-append}
use Rattle.std.proofs.lemmas.List.Elements.{All-head, All-nil, All-pop, All-push, All-tail, All-weaker}
use Rattle.std.specs.declared.alloc.AllocError.{AllocError}
use Rattle.block_disk.specs.Device.{Device}
use Rattle.monitor.specs.Seats.{Home}
use Rattle.thread_heap.specs.Joined.{IsJoined}
use Rattle.session.specs.Sessions.{view_of}
use Rattle.session.specs.declared.error.SessionError.{SessionError}
use Rattle.session.specs.declared.session.Session.{Session}
use Rattle.trim_helper.specs.Endings.{IsEnded, Rings, lanes_ended}
use Rattle.trim_helper.specs.Parts.{Parts}
use Rattle.trim_helper.specs.declared.ended.Ended.{Ended}
use Rattle.thread_work.specs.Beside.{HaveWorkedBeside, JoinsOne}
use Rattle.thread_work.specs.Serving.{HasServed}
use Rattle.thread_work.specs.Bodies.{Answer, AreWorked, HasWorked, HaveWorked, IsFirst, IsFirstRefusal, WasCalled, WereCalled, both_of, lanes_opened}
use Rattle.thread_work.specs.declared.beside.Beside.{Beside}
use Rattle.thread_work.specs.declared.body.AllWorked.{AllWorked}
use Rattle.thread_work.specs.declared.body.Worked.{Worked}

module _ (does : Home → Session → Session → Answer → Type 0) (h : Home) where
  -- a refusal that is the first of some lanes is the first of them and more
  refused_more : (n : ℕ) (r : SessionError) (es : List Ended) (e : Ended) → IsFirstRefusal does h n r es → IsFirstRefusal does h n r (es ++ e ∷ [])
  refused_more n r [] e has = absurd has
  refused_more n r (x ∷ es) e has = elim has [
    | inl here ↦ inl here
    | inr later ↦ inr (later.0, refused_more n r es e later.1)
  ]

  -- and so is that of the last, where there was none
  refused_last : (n : ℕ) (r : SessionError) (es : List Ended) (e : Ended) → All (λ x. WasCalled does h n x (Ok tt)) es → WasCalled does h n e (Err r) → IsFirstRefusal does h n r (es ++ e ∷ [])
  refused_last n r [] e all here = inl here
  refused_last n r (x ∷ es) e all here = inr (All-head (λ y. WasCalled does h n y (Ok tt)) x es all, refused_last n r es e (All-tail (λ y. WasCalled does h n y (Ok tt)) x es all) here)

  -- each was called, with some answer
  pub some_answer : (n : ℕ) (a : Answer) (es : List Ended) → WereCalled does h n a es → All (λ e. (x : Answer) × WasCalled does h n e x) es
  some_answer n (Ok done) es all = All-weaker (λ e. WasCalled does h n e (Ok tt)) (λ e. (x : Answer) × WasCalled does h n e x) (λ e one. (Ok tt, one)) es all
  some_answer n (Err r) es all = all.0

  called_one : (n : ℕ) (before one : Option Answer) (es : List Ended) (e : Ended) → IfSome before (λ a. WereCalled does h n a es) → IfSome one (λ a. WasCalled does h n e a) → IfSome (both_of before one) (λ a. WereCalled does h n a (es ++ e ∷ []))
  called_one n None one es e all here = tt
  called_one n (Some (Ok done)) None es e all here = tt
  called_one n (Some (Err r)) None es e all here = tt
  called_one n (Some (Ok done)) (Some (Ok d)) es e all here = All-push (λ x. WasCalled does h n x (Ok tt)) es e all here
  called_one n (Some (Ok done)) (Some (Err r)) es e all here = (
    All-push (λ x. (a : Answer) × WasCalled does h n x a) es e (some_answer n (Ok done) es all) (Err r, here),
    refused_last n r es e all here,
  )
  called_one n (Some (Err r)) (Some a) es e all here = (
    All-push (λ x. (b : Answer) × WasCalled does h n x b) es e all.0 (a, here),
    refused_more n r es e all.1,
  )

  -- a thread whose session was joined to the helper was called with it
  was_called : (capacity : ℕ) (rings : Rings) (first : Session) (w : Worked) → IsFirst h first → IsJoined h capacity rings first → HasWorked does h first w → IfSome w.answer (λ a. WasCalled does h capacity w.ended a)
  was_called capacity rings first w is joined has = some_called w.answer has.did
    where
      some_called : (answer : Option Answer) → IfSome answer (does h first has.left) → IfSome answer (λ a. WasCalled does h capacity w.ended a)
      some_called None did = tt
      some_called (Some a) did = record { first = first; is_first = is; holds = joined.holds; lane = sym (has.lane capacity rings joined); left = has.left; did = did; seat = has.seat }

  and_one : (capacity : ℕ) (rings : Rings) (sessions : List Session) (s : Session) (before all : AllWorked) (one : Worked) → AreWorked does h capacity rings sessions before → IsFirst h s → IsJoined h capacity rings s → HasWorked does h s one
      → all.ended.items ≡ before.ended.items ++ one.ended ∷ [] → all.answer ≡ both_of before.answer one.answer → AreWorked does h capacity rings (sessions ++ s ∷ []) all
  and_one capacity rings sessions s before all one worked is joined has items answer = record {
    ended = subst (λ es. All (IsEnded h capacity rings) es) (sym items) (All-push (IsEnded h capacity rings) before.ended.items one.ended worked.ended (has.ended capacity rings joined));
    lanes =
        ap (λ es. lanes_ended es) items
        ∙ map-append (λ e. e.lane.0) before.ended.items (one.ended ∷ [])
        ∙ ap (λ ns. ns ++ one.ended.lane.0 ∷ []) worked.lanes
        ∙ ap (λ (n : ℕ). lanes_opened sessions ++ n ∷ []) (has.lane capacity rings joined)
        ∙ sym (map-append (λ x. (view_of x).lane.0) sessions (s ∷ []));
    called =
        subst (λ a. IfSome a (λ x. WereCalled does h capacity x all.ended.items)) (sym answer)
        (subst (λ es. IfSome (both_of before.answer one.answer) (λ x. WereCalled does h capacity x es)) (sym items)
        (called_one capacity before.answer one.answer before.ended.items one.ended worked.called (was_called capacity rings s one is joined has)));
  }

  -- nobody
  none_worked : (capacity : ℕ) (rings : Rings) (w : AllWorked) → w.ended.items ≡ [] → w.answer ≡ Some (Ok tt) → AreWorked does h capacity rings [] w
  none_worked capacity rings w items answer = record {
    ended = subst (λ es. All (IsEnded h capacity rings) es) (sym items) (All-nil (IsEnded h capacity rings));
    lanes = ap (λ es. lanes_ended es) items;
    called = subst (λ a. IfSome a (λ x. WereCalled does h capacity x w.ended.items)) (sym answer) (subst (λ es. All (λ e. WasCalled does h capacity e (Ok tt)) es) (sym items) (All-nil (λ e. WasCalled does h capacity e (Ok tt))));
  }

  -- with what a further thread leaves
  pub have_one : (sessions rest : List Session) (s : Session) (before answer : Result AllWorked AllocError) (one : Worked) → sessions ≡ rest ++ s ∷ [] → All (IsFirst h) sessions → HaveWorked does h rest before → HasWorked does h s one
      → IfOk answer (λ all. JoinsOne before one all) → HaveWorked does h sessions answer
  have_one sessions rest s before (Err e) one is first worked has joins capacity rings joined = tt
  have_one sessions rest s before (Ok all) one is first worked has joins capacity rings joined =
      let firsts = All-pop (IsFirst h) sessions rest (Some s) is first in
      let both = All-pop (IsJoined h capacity rings) sessions rest (Some s) is joined in
      let some : AreWorked does h capacity rings rest joins.some = subst (λ (r : Result AllWorked AllocError). IfOk r (AreWorked does h capacity rings rest)) joins.is (worked capacity rings both.0) in
      subst (λ (ss : List Session). AreWorked does h capacity rings ss all) (sym is) (and_one capacity rings rest s joins.some all one some firsts.1 both.1 has joins.ended joins.answer)

  -- and nobody has worked where there is no session
  pub have_none : (sessions : List Session) (answer : Result AllWorked AllocError) → sessions ≡ [] → IfOk answer (λ w. (w.ended.items ≡ []) × (w.answer ≡ Some (Ok tt))) → HaveWorked does h sessions answer
  have_none sessions (Err e) is nobody capacity rings joined = tt
  have_none sessions (Ok w) is nobody capacity rings joined = subst (λ (ss : List Session). AreWorked does h capacity rings ss w) (sym is) (none_worked capacity rings w nobody.0 nobody.1)

  -- so where only a helper has served
  pub have_nobody : {D : Type 0} (device : D → Device) (sessions : List Session) (helper : Parts D) (answer : Result (Beside D) (Parts D)) → sessions ≡ [] → IfOk answer (λ b. HasServed device h helper b.served.helper b.served.answer)
      → IfOk answer (λ b. IfOk b.worked (λ w. (w.ended.items ≡ []) × (w.answer ≡ Some (Ok tt)))) → IfOk answer (HaveWorkedBeside does device h sessions helper)
  have_nobody device sessions helper (Err back) is served nobody = tt
  have_nobody device sessions helper (Ok b) is served nobody = record { worked = have_none sessions b.worked is nobody; served = served }
