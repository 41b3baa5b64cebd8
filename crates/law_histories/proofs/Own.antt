-- A thread's own events say what it holds, and what it sent.
use Rattle.std.proofs.Common.{ℕ, ◌≡◌, ◌≢◌, ◌+◌, ◌-◌, ◌==◌, if◌then◌else◌, Bool, true, false, List, [], ◌∷◌, ◌++◌, Option, Some, None, option_map, reverse, refl, sym, ap, ◌∙◌, subst}
use Rattle.std.proofs.lemmas.List.{reverse-append}
use Rattle.std.proofs.lemmas.Bool.Decides.{eqb_tells}
use Rattle.std.proofs.Common.{inl, inr, ◌⊎◌}
use Rattle.heap_model.specs.declared.record.Record.{Record}
use Rattle.heap_model.specs.declared.event.Event.{Event}
use Rattle.heap_model.specs.declared.event.Event.TheVariants.{Enter, NestedEnter, NestedExit, Exit, Load, Store, Wait, Resume, Notify, NotifyAll, Look}
use Rattle.heap_model.specs.Setting.{Setting}
use Rattle.heap_model.specs.State.{Waiting, Awake, InSet, Woken, State, with_at, kept_count, woken, woken_from}
use Rattle.heap_model.specs.Events.{after_event, MayDo}
use Rattle.heap_model.specs.History.{state_after, IsLegalHistory, logged}
use Rattle.heap_model.specs.Own.{with_own, own_log, Hold, Own, hold_count, pause_count, pause_of, more, less, own_after, own, hold_in, hold_of, Agrees, sent_of}
use Rattle.heap_model.specs.Log.{lane}

-- a test on two numbers, split
pub by_test : (a b : ℕ) (F : Bool → Type 0) → (a ≡ b → F true) → (a ≢ b → F false) → F (a == b)
by_test a b F same other = elim (eqb_tells a b) [ inl e ↦ subst F (sym e.0) (same e.1) | inr e ↦ subst F (sym e.0) (other e.1) ]

-- the owner's hold
pub hold_mine : (t c n : ℕ) → hold_in (Some t) c n t ≡ Some (record { count = c; number = n })
hold_mine t c n = by_test t t (λ b. ◌≡◌ {A = Option Hold} (if b then Some (record { count = c; number = n }) else None) (Some (record { count = c; number = n }))) (λ _. refl) (λ ne. absurd (ne refl))

pub hold_theirs : (t u c n : ℕ) → u ≢ t → hold_in (Some u) c n t ≡ None
hold_theirs t u c n ne = by_test u t (λ b. ◌≡◌ {A = Option Hold} (if b then Some (record { count = c; number = n }) else None) None) (λ e. absurd (ne e)) (λ _. refl)

-- the hold tells the owner, the count and the number
pub hold_tells : (w : Option ℕ) (c n t : ℕ) (h : Hold) → hold_in w c n t ≡ Some h → (w ≡ Some t) × (c ≡ h.count) × (n ≡ h.number)
hold_tells None c n t h e = absurd cc
hold_tells (Some u) c n t h e = by_test u t (λ b. ◌≡◌ {A = Option Hold} (if b then Some (record { count = c; number = n }) else None) (Some h) → (◌≡◌ {A = Option ℕ} (Some u) (Some t)) × (c ≡ h.count) × (n ≡ h.number))
    (λ is f. let out : Option Hold → Hold = λ x. elim x [ None ↦ h | Some y ↦ y ] in (ap Some is, ap (λ x. (out x).count) f, ap (λ x. (out x).number) f))
    (λ _ f. absurd (let never : ◌≡◌ {A = Option Hold} None (Some h) = f in cc)) e

kept_paused : (w : Waiting) → pause_count (pause_of w) ≡ kept_count w
kept_paused Awake = refl
kept_paused (InSet o c) = refl
kept_paused (Woken o c) = refl

awake_paused : (w : Waiting) → pause_of w ≡ None → w ≡ Awake
awake_paused Awake e = refl
awake_paused (InSet o c) e = absurd cc
awake_paused (Woken o c) e = absurd cc

kept_woken : (w : Waiting) → pause_of (woken w) ≡ pause_of w
kept_woken Awake = refl
kept_woken (InSet o c) = refl
kept_woken (Woken o c) = refl

kept_woken_from : (o : ℕ) (w : Waiting) → pause_of (woken_from o w) ≡ pause_of w
kept_woken_from o Awake = refl
kept_woken_from o (InSet p c) = elim (p == o) as (λ b. pause_of (if b then Woken p c else InSet p c) ≡ Some (record { object = p; count = c })) [ true ↦ refl | false ↦ refl ]
kept_woken_from o (Woken p c) = refl

-- what the thread has of o, which it owns
owned : (t : ℕ) (w : Own) (s : State) (o : ℕ) → Agrees t w s → s.owner o ≡ Some t → w.hold o ≡ Some (record { count = s.count o; number = s.number o })
owned t w s o a mine = a.hold o ∙ ap (λ x. hold_in x (s.count o) (s.number o) t) mine ∙ hold_mine t (s.count o) (s.number o)

woken_one : (s : State) (u t : ℕ) → pause_of (with_at s.waiting u (woken (s.waiting u)) t) ≡ pause_of (s.waiting t)
woken_one s u t = by_test u t (λ b. pause_of (if b then woken (s.waiting u) else s.waiting t) ≡ pause_of (s.waiting t)) (λ e. kept_woken (s.waiting u) ∙ ap (λ z. pause_of (s.waiting z)) e) (λ _. refl)

-- the thread's own event
mine_step : (g : Setting) (t : ℕ) (w : Own) (s : State) (e : Event) → Agrees t w s → MayDo g s t e → Agrees t (own_after w e) (after_event s t e)
mine_step g t w s (Enter p n) a may = record {
  hold = λ o. by_test p.0 o (λ b. (if b then Some (record { count = 1; number = n }) else w.hold o) ≡ hold_in (if b then Some t else s.owner o) (if b then 1 else s.count o) (s.number o) t)
      (λ e. ap (λ z. Some (record { count = 1; number = z })) (sym may.2 ∙ ap s.number e) ∙ sym (hold_mine t 1 (s.number o)))
      (λ _. a.hold o);
  pause = a.pause;
}
mine_step g t w s (NestedEnter p) a may = record {
  hold = λ o. by_test p.0 o (λ b. (if b then option_map more (w.hold p.0) else w.hold o) ≡ hold_in (s.owner o) (if b then s.count p.0 + 1 else s.count o) (s.number o) t)
      (λ e. subst (λ z. option_map more (w.hold p.0) ≡ hold_in (s.owner z) (s.count p.0 + 1) (s.number z) t) e
      (ap (option_map more) (owned t w s p.0 a may.1) ∙ sym (ap (λ x. hold_in x (s.count p.0 + 1) (s.number p.0) t) may.1 ∙ hold_mine t (s.count p.0 + 1) (s.number p.0))))
      (λ _. a.hold o);
  pause = a.pause;
}
mine_step g t w s (NestedExit p) a may = record {
  hold = λ o. by_test p.0 o (λ b. (if b then option_map less (w.hold p.0) else w.hold o) ≡ hold_in (s.owner o) (if b then s.count p.0 - 1 else s.count o) (s.number o) t)
      (λ e. subst (λ z. option_map less (w.hold p.0) ≡ hold_in (s.owner z) (s.count p.0 - 1) (s.number z) t) e
      (ap (option_map less) (owned t w s p.0 a may.1) ∙ sym (ap (λ x. hold_in x (s.count p.0 - 1) (s.number p.0) t) may.1 ∙ hold_mine t (s.count p.0 - 1) (s.number p.0))))
      (λ _. a.hold o);
  pause = a.pause;
}
mine_step g t w s (Exit p n) a may = record {
  hold = λ o. by_test p.0 o (λ b. (if b then None else w.hold o) ≡ hold_in (if b then None else s.owner o) (if b then 0 else s.count o) (if b then n + 1 else s.number o) t) (λ _. refl) (λ _. a.hold o);
  pause = a.pause;
}
mine_step g t w s (Load f v) a may = a
mine_step g t w s (Store f b v) a may = record { hold = a.hold; pause = a.pause }
mine_step g t w s (Wait p n) a may = record {
  hold = λ o. by_test p.0 o (λ b. (if b then None else w.hold o) ≡ hold_in (if b then None else s.owner o) (if b then 0 else s.count o) (if b then n + 1 else s.number o) t) (λ _. refl) (λ _. a.hold o);
  pause = ap (λ h. Some (record { object = p.0; count = hold_count h })) (owned t w s p.0 a may.1) ∙ sym (by_test t t (λ b. pause_of (if b then InSet p.0 (s.count p.0) else s.waiting t) ≡ Some (record { object = p.0; count = s.count p.0 })) (λ _. refl) (λ ne. absurd (ne refl)));
}
mine_step g t w s (Resume p n) a may = record {
  hold = λ o. by_test p.0 o (λ b. (if b then Some (record { count = pause_count w.pause; number = n }) else w.hold o) ≡ hold_in (if b then Some t else s.owner o) (if b then kept_count (s.waiting t) else s.count o) (s.number o) t)
      (λ e. ap (λ z. Some (record { count = pause_count w.pause; number = z })) (sym may.2 ∙ ap s.number e) ∙ ap (λ z. Some (record { count = z; number = s.number o })) (ap pause_count a.pause ∙ kept_paused (s.waiting t)) ∙ sym (hold_mine t (kept_count (s.waiting t)) (s.number o)))
      (λ _. a.hold o);
  pause = sym (by_test t t (λ b. pause_of (if b then Awake else s.waiting t) ≡ None) (λ _. refl) (λ ne. absurd (ne refl)));
}
mine_step g t w s (Notify p None) a may = a
mine_step g t w s (Notify p (Some u)) a may = record { hold = a.hold; pause = a.pause ∙ sym (woken_one s u.0 t) }
mine_step g t w s (NotifyAll p ls) a may = record { hold = a.hold; pause = a.pause ∙ sym (kept_woken_from p.0 (s.waiting t)) }
mine_step g t w s (Look p told) a may = a

-- A free object, or another's, is no hold of the thread's.
not_mine : (t u : ℕ) (w : Own) (s : State) (o : ℕ) → Agrees t w s → u ≢ t → ((s.owner o ≡ None) ⊎ (s.owner o ≡ Some u)) → w.hold o ≡ None
not_mine t u w s o a ne (inl e) = a.hold o ∙ ap (λ x. hold_in x (s.count o) (s.number o) t) e
not_mine t u w s o a ne (inr e) = a.hold o ∙ ap (λ x. hold_in x (s.count o) (s.number o) t) e ∙ hold_theirs t u (s.count o) (s.number o) ne

-- A free object is none.
pub hold_in_free : (t : ℕ) (w : Own) (s : State) (o : ℕ) → Agrees t w s → s.owner o ≡ None → w.hold o ≡ None
hold_in_free t w s o a e = a.hold o ∙ ap (λ x. hold_in x (s.count o) (s.number o) t) e

-- another's event
pub other_step : (g : Setting) (t u : ℕ) (w : Own) (s : State) (e : Event) → u ≢ t → Agrees t w s → MayDo g s u e → Agrees t w (after_event s u e)
other_step g t u w s (Enter p n) ne a may = record {
  hold = λ o. by_test p.0 o (λ b. w.hold o ≡ hold_in (if b then Some u else s.owner o) (if b then 1 else s.count o) (s.number o) t)
      (λ e. not_mine t u w s o a ne (inl (ap s.owner (sym e) ∙ may.1)) ∙ sym (hold_theirs t u 1 (s.number o) ne)) (λ _. a.hold o);
  pause = a.pause;
}
other_step g t u w s (NestedEnter p) ne a may = record {
  hold = λ o. by_test p.0 o (λ b. w.hold o ≡ hold_in (s.owner o) (if b then s.count p.0 + 1 else s.count o) (s.number o) t)
      (λ e. not_mine t u w s o a ne (inr (ap s.owner (sym e) ∙ may.1)) ∙ sym (ap (λ x. hold_in x (s.count p.0 + 1) (s.number o) t) (ap s.owner (sym e) ∙ may.1) ∙ hold_theirs t u (s.count p.0 + 1) (s.number o) ne)) (λ _. a.hold o);
  pause = a.pause;
}
other_step g t u w s (NestedExit p) ne a may = record {
  hold = λ o. by_test p.0 o (λ b. w.hold o ≡ hold_in (s.owner o) (if b then s.count p.0 - 1 else s.count o) (s.number o) t)
      (λ e. not_mine t u w s o a ne (inr (ap s.owner (sym e) ∙ may.1)) ∙ sym (ap (λ x. hold_in x (s.count p.0 - 1) (s.number o) t) (ap s.owner (sym e) ∙ may.1) ∙ hold_theirs t u (s.count p.0 - 1) (s.number o) ne)) (λ _. a.hold o);
  pause = a.pause;
}
other_step g t u w s (Exit p n) ne a may = record {
  hold = λ o. by_test p.0 o (λ b. w.hold o ≡ hold_in (if b then None else s.owner o) (if b then 0 else s.count o) (if b then n + 1 else s.number o) t)
      (λ e. not_mine t u w s o a ne (inr (ap s.owner (sym e) ∙ may.1))) (λ _. a.hold o);
  pause = a.pause;
}
other_step g t u w s (Load f v) ne a may = a
other_step g t u w s (Store f b v) ne a may = record { hold = a.hold; pause = a.pause }
other_step g t u w s (Wait p n) ne a may = record {
  hold = λ o. by_test p.0 o (λ b. w.hold o ≡ hold_in (if b then None else s.owner o) (if b then 0 else s.count o) (if b then n + 1 else s.number o) t)
      (λ e. not_mine t u w s o a ne (inr (ap s.owner (sym e) ∙ may.1))) (λ _. a.hold o);
  pause = a.pause ∙ sym (by_test u t (λ b. pause_of (if b then InSet p.0 (s.count p.0) else s.waiting t) ≡ pause_of (s.waiting t)) (λ e. absurd (ne e)) (λ _. refl));
}
other_step g t u w s (Resume p n) ne a may = record {
  hold = λ o. by_test p.0 o (λ b. w.hold o ≡ hold_in (if b then Some u else s.owner o) (if b then kept_count (s.waiting u) else s.count o) (s.number o) t)
      (λ e. not_mine t u w s o a ne (inl (ap s.owner (sym e) ∙ may.1)) ∙ sym (hold_theirs t u (kept_count (s.waiting u)) (s.number o) ne)) (λ _. a.hold o);
  pause = a.pause ∙ sym (by_test u t (λ b. pause_of (if b then Awake else s.waiting t) ≡ pause_of (s.waiting t)) (λ e. absurd (ne e)) (λ _. refl));
}
other_step g t u w s (Notify p None) ne a may = a
other_step g t u w s (Notify p (Some v)) ne a may = record { hold = a.hold; pause = a.pause ∙ sym (woken_one s v.0 t) }
other_step g t u w s (NotifyAll p ls) ne a may = record { hold = a.hold; pause = a.pause ∙ sym (kept_woken_from p.0 (s.waiting t)) }
other_step g t u w s (Look p told) ne a may = a

pub own_agrees : (g : Setting) (h : List (ℕ × Event)) (t : ℕ) → IsLegalHistory g h → Agrees t (own (lane t h)) (state_after g h)
own_agrees g [] t legal = record { hold = λ o. refl; pause = refl }
own_agrees g ((u, e) ∷ h) t legal = let before = own_agrees g h t legal.0 in
    by_test u t (λ b. Agrees t (own (if b then e ∷ lane t h else lane t h)) (after_event (state_after g h) u e))
    (λ is. subst (λ z. Agrees t (own_after (own (lane t h)) e) (after_event (state_after g h) z e)) (sym is)
    (mine_step g t (own (lane t h)) (state_after g h) e before (subst (λ z. MayDo g (state_after g h) z e) is legal.1)))
    (λ ne. other_step g t u (own (lane t h)) (state_after g h) e ne before legal.1)

-- By its own events the thread holds the object, so it does.
pub held_by_view : (g : Setting) (h : List (ℕ × Event)) (t o : ℕ) (events : List Event) (x : Hold) → IsLegalHistory g h → lane t h ≡ events → (own events).hold o ≡ Some x →
    ((state_after g h).owner o ≡ Some t) × ((state_after g h).count o ≡ x.count) × ((state_after g h).number o ≡ x.number)
held_by_view g h t o events x legal is e = hold_tells _ _ _ t x (sym ((own_agrees g h t legal).hold o) ∙ ap (λ l. (own l).hold o) is ∙ e)

-- By its own events the thread isn't in a wait, so it is awake.
pub awake_by_view : (g : Setting) (h : List (ℕ × Event)) (t : ℕ) (events : List Event) → IsLegalHistory g h → lane t h ≡ events → (own events).pause ≡ None → (state_after g h).waiting t ≡ Awake
awake_by_view g h t events legal is e = awake_paused _ (sym (own_agrees g h t legal).pause ∙ ap (λ l. (own l).pause) is ∙ e)

-- Others leave a hold as it is.
pub others_keep : (g : Setting) (s : State) (t u o : ℕ) (e : Event) → MayDo g s u e → u ≢ t → s.owner o ≡ Some t → (after_event s u e).owner o ≡ Some t
others_keep g s t u o e may ne mine =
    let w : Own = record { hold = λ p. hold_of s t p; pause = pause_of (s.waiting t) } in
    let a : Agrees t w (after_event s u e) = other_step g t u w s e ne (record { hold = λ p. refl; pause = refl }) may in
    (hold_tells _ _ _ t (record { count = s.count o; number = s.number o }) (sym (a.hold o) ∙ ap (λ x. hold_in x (s.count o) (s.number o) t) mine ∙ hold_mine t (s.count o) (s.number o))).0

own_log-append : (g : Setting) (newer older : List Event) → own_log g (newer ++ older) ≡ own_log g newer ++ own_log g older
own_log-append g [] older = refl
own_log-append g (e ∷ newer) older = ap (with_own (logged g e)) (own_log-append g newer older) ∙ with_own-append (logged g e) (own_log g newer) (own_log g older)
  where
    with_own-append : (r : Option Record) (xs ys : List Record) → with_own r (xs ++ ys) ≡ with_own r xs ++ ys
    with_own-append None xs ys = refl
    with_own-append (Some r) xs ys = refl

pub sent_grows : (g : Setting) (newer older : List Event) → sent_of g (newer ++ older) ≡ sent_of g older ++ sent_of g newer
sent_grows g newer older = ap reverse (own_log-append g newer older) ∙ reverse-append (own_log g newer) (own_log g older)
