-- The cases of a resume.
use Rattle.std.proofs.Common.{ℕ, ◌≡◌, ◌<◌, inl, inr, [], ◌∷◌, Some, None, Result, Ok, Err, IfErr, MatchResult, refl, sym, ap, ◌∙◌, arith}
use Rattle.heap_model.specs.declared.ids.ObjectId.{ObjectId}
use Rattle.heap_model.specs.declared.event.Event.TheVariants.{Resume, Look}
use Rattle.heap_model.specs.declared.event.Sight.TheVariants.{Found}
use Rattle.thread_steps.specs.Views.{View}
use Rattle.thread_steps.specs.declared.grip.Seen.{Seen}
use Rattle.session.specs.declared.session.Session.{Session}
use Rattle.session.specs.declared.waiting.Waiting.{Waiting}
use Rattle.session.specs.declared.error.Still.{Still}
use Rattle.session.specs.declared.error.Still.TheVariants as still
use Rattle.thread_steps.specs.Views.{Lengthens, IsSlot}
use Rattle.session.specs.Calls.{AsksToResume, SeesTaken, WaitsOn}
use Rattle.session.specs.Steps.{MissesResume}
use Rattle.session.specs.Sessions.{awaited, view_of, view_waiting}
use Rattle.session.proofs.Lengthening.{after_quiet, after_both, seen_later}
use Rattle.session.proofs.Trying.{of_slot, sees_change}

-- the try after a look that showed the monitor free
pub resumed : (s : Waiting) (v w : View) (n : ℕ) (x : Result Session (Waiting × Still)) → let u = view_waiting s in let o = awaited s in
    IsSlot u o (Some s.slot) → Lengthens u v [] → Lengthens v w (Look o (Found None 0 n) ∷ []) → n < u.plan.last →
    MatchResult x (λ t. Lengthens w (view_of t) (Resume o n ∷ [])) (λ e. MissesResume w (view_waiting e.0) o n e.1) →
    IfErr x (λ e. awaited e.0 ≡ o) → AsksToResume s x
resumed s v w n (Ok t) named quiet look low told same =
    let o = awaited s in let u = view_waiting s in
    (n, low, after_both u w (view_of t) (Look o (Found None 0 n) ∷ []) (Resume o n ∷ []) (after_quiet u v w _ quiet look) told)
resumed s v w n (Err e) named quiet look low told same = (same, missed e.1 told)
  where
    u : View
    u = view_waiting s

    o : ObjectId
    o = awaited s

    missed : (why : Still) → MissesResume w (view_waiting e.0) o n why → WaitsOn u (view_waiting e.0) o why
    missed still.InSet no_ = absurd no_
    missed (still.Held x) m =
        (m.0, inr (sees_change u w (view_waiting e.0) o (Found None 0 n) (Some s.slot) n x refl low (after_quiet u v w _ quiet look) (look.fats o.0 s.slot (quiet.fats o.0 s.slot named)) (of_slot s.slot x m.0) m.1))

-- the look that showed it held, or worn
pub looked : (u v w : View) (o : ObjectId) (x : Seen) → Lengthens u v [] → SeesTaken v w o x → SeesTaken u w o x
looked u v w o x quiet (inl a) = inl (a.0, a.1, a.2, (λ e. a.3 (e ∙ sym quiet.lane)), seen_later u v w o x _ quiet a.4)
looked u v w o x quiet (inr a) = inr (a.0, (let e = ap (λ k. k.last) quiet.plan in let b = a.1 in omega arith), seen_later u v w o x _ quiet a.2)
