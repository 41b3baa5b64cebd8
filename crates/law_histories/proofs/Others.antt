-- What one thread's step leaves to another.
use Rattle.std.proofs.Common.{ℕ, ◌≡◌, ◌≢◌, if◌then◌else◌, Some, None, refl, sym, ap, ◌∙◌, subst}
use Rattle.heap_model.specs.declared.event.Event.{Event}
use Rattle.heap_model.specs.declared.event.Event.TheVariants.{Enter, NestedEnter, NestedExit, Exit, Load, Store, Wait, Resume, Notify, NotifyAll, Look}
use Rattle.heap_model.specs.Setting.{Setting}
use Rattle.heap_model.specs.State.{Waiting, Awake, InSet, Woken, State, with_at, IsWoken, woken, woken_from}
use Rattle.heap_model.specs.Events.{after_event, MayDo}
use Rattle.heap_model.specs.Own.{Own, Agrees, hold_of, hold_in, pause_of}
use Rattle.heap_model.specs.Others.{Keeps}
use Rattle.law_histories.proofs.Own.{by_test, other_step, others_keep, hold_tells, hold_mine}
use Rattle.law_histories.proofs.Known.{others_leave}

woken_stays : (o : ℕ) (w : Waiting) → IsWoken o w → IsWoken o (woken w)
woken_stays o Awake h = h
woken_stays o (InSet q c) h = elim h [ ]
woken_stays o (Woken q c) h = h

woken_from_stays : (o p : ℕ) (w : Waiting) → IsWoken o w → IsWoken o (woken_from p w)
woken_from_stays o p Awake h = h
woken_from_stays o p (InSet q c) h = elim h [ ]
woken_from_stays o p (Woken q c) h = h

one_woken : (s : State) (u t o : ℕ) → IsWoken o (s.waiting t) → IsWoken o (with_at s.waiting u (woken (s.waiting u)) t)
one_woken s u t o h = by_test u t (λ b. IsWoken o (if b then woken (s.waiting u) else s.waiting t)) (λ e. woken_stays o (s.waiting u) (subst (λ z. IsWoken o (s.waiting z)) (sym e) h)) (λ _. h)

elsewhere : (s : State) (u t o : ℕ) (w : Waiting) → u ≢ t → IsWoken o (s.waiting t) → IsWoken o (with_at s.waiting u w t)
elsewhere s u t o w ne h = by_test u t (λ b. IsWoken o (if b then w else s.waiting t)) (λ e. absurd (ne e)) (λ _. h)

-- who was removed stays so
others_woken : (s : State) (u t o : ℕ) (e : Event) → u ≢ t → IsWoken o (s.waiting t) → IsWoken o ((after_event s u e).waiting t)
others_woken s u t o (Enter p n) ne h = h
others_woken s u t o (NestedEnter p) ne h = h
others_woken s u t o (NestedExit p) ne h = h
others_woken s u t o (Exit p n) ne h = h
others_woken s u t o (Load f v) ne h = h
others_woken s u t o (Store f b v) ne h = h
others_woken s u t o (Wait p n) ne h = elsewhere s u t o (InSet p.0 (s.count p.0)) ne h
others_woken s u t o (Resume p n) ne h = elsewhere s u t o Awake ne h
others_woken s u t o (Notify p None) ne h = h
others_woken s u t o (Notify p (Some l)) ne h = one_woken s l.0 t o h
others_woken s u t o (NotifyAll p ls) ne h = woken_from_stays o p.0 (s.waiting t) h
others_woken s u t o (Look p x) ne h = h

-- what others do gives no hold
others_gain : (g : Setting) (s : State) (t u o : ℕ) (e : Event) → MayDo g s u e → u ≢ t → (after_event s u e).owner o ≡ Some t → s.owner o ≡ Some t
others_gain g s t u o e may ne mine =
    let w : Own = record { hold = λ p. hold_of s t p; pause = pause_of (s.waiting t) } in
    let s' : State = after_event s u e in
    let a : Agrees t w s' = other_step g t u w s e ne (record { hold = λ p. refl; pause = refl }) may in
    (hold_tells (s.owner o) (s.count o) (s.number o) t (record { count = s'.count o; number = s'.number o }) (a.hold o ∙ ap (λ x. hold_in x (s'.count o) (s'.number o) t) mine ∙ hold_mine t (s'.count o) (s'.number o))).0

pub keeps : (g : Setting) (s : State) (t u : ℕ) (e : Event) → MayDo g s u e → u ≢ t → Keeps g t s (after_event s u e)
keeps g s t u e may ne =
    let w : Own = record { hold = λ p. hold_of s t p; pause = pause_of (s.waiting t) } in
    let a : Agrees t w (after_event s u e) = other_step g t u w s e ne (record { hold = λ p. refl; pause = refl }) may in
    record {
      owned = λ o. ((λ mine. others_keep g s t u o e may ne mine), (λ mine. others_gain g s t u o e may ne mine));
      held = λ o. sym (a.hold o);
      paused = sym a.pause;
      woken = λ o h. others_woken s u t o e ne h;
      values = λ f mine. others_leave g s t u f e may ne mine;
    }
