-- A value that a thread knows is the field's.
use Rattle.std.proofs.Common.{ℕ, ◌≡◌, ◌≢◌, ◌==◌, if◌then◌else◌, List, [], ◌∷◌, Option, Some, None, refl, sym, ap, ◌∙◌, subst}
use Rattle.heap_model.specs.declared.event.Event.{Event}
use Rattle.heap_model.specs.declared.event.Event.TheVariants.{Enter, NestedEnter, NestedExit, Exit, Load, Store, Wait, Resume, Notify, NotifyAll, Look}
use Rattle.heap_model.specs.Setting.{Setting}
use Rattle.heap_model.specs.State.{State}
use Rattle.heap_model.specs.Events.{after_event, MayDo}
use Rattle.heap_model.specs.History.{state_after, IsLegalHistory}
use Rattle.heap_model.specs.Log.{lane}
use Rattle.heap_model.specs.Known.{known_value}
use Rattle.law_histories.proofs.Own.{by_test, others_keep}

-- the thread owns the guard, and the value is the field's
abbrev Holds : Setting → State → (thread field value : ℕ) → Type 0
Holds g s t f v = (s.owner (g.guard f) ≡ Some t) × (s.value f ≡ v)

-- what is known, holds
abbrev Knows : Setting → State → (thread field : ℕ) → Option ℕ → Type 0
Knows g s t f known = (v : ℕ) → known ≡ Some v → Holds g s t f v

-- a take, or what frees: the guard's own is forgotten
forgotten : (g : Setting) (s : State) (t f p : ℕ) (owner : Option ℕ) (known : Option ℕ) → Knows g s t f known →
    (v : ℕ) → (if p == g.guard f then None else known) ≡ Some v → ((if p == g.guard f then owner else s.owner (g.guard f)) ≡ Some t) × (s.value f ≡ v)
forgotten g s t f p owner known was v =
    by_test p (g.guard f) (λ b. ◌≡◌ {A = Option ℕ} (if b then None else known) (Some v) → ◌≡◌ {A = Option ℕ} (if b then owner else s.owner (g.guard f)) (Some t) × (s.value f ≡ v))
    (λ _ e. absurd (let never : ◌≡◌ {A = Option ℕ} None (Some v) = e in cc))
    (λ _ e. was v e)

the_same : (a b : ℕ) → ◌≡◌ {A = Option ℕ} (Some a) (Some b) → a ≡ b
the_same a b e = cc

-- the thread's own event
mine_knows : (g : Setting) (s : State) (t f : ℕ) (older : List Event) (e : Event) → MayDo g s t e → Knows g s t f (known_value g older f) → Knows g (after_event s t e) t f (known_value g (e ∷ older) f)
mine_knows g s t f older (Enter p n) may was = forgotten g s t f p.0 (Some t) (known_value g older f) was
mine_knows g s t f older (NestedEnter p) may was = was
mine_knows g s t f older (NestedExit p) may was = was
mine_knows g s t f older (Exit p n) may was = forgotten g s t f p.0 None (known_value g older f) was
mine_knows g s t f older (Load h w) may was = λ v. by_test h.0 f (λ b. ◌≡◌ {A = Option ℕ} (if b then Some w else known_value g older f) (Some v) → Holds g s t f v)
    (λ is e. (ap (λ k. s.owner (g.guard k)) (sym is) ∙ may.1, ap s.value (sym is) ∙ may.2 ∙ the_same w v e))
    (λ _ e. was v e)
mine_knows g s t f older (Store h b w) may was = λ v. by_test h.0 f (λ x. ◌≡◌ {A = Option ℕ} (if x then Some w else known_value g older f) (Some v) → (s.owner (g.guard f) ≡ Some t) × ((if x then w else s.value f) ≡ v))
    (λ is e. (ap (λ k. s.owner (g.guard k)) (sym is) ∙ may.1, the_same w v e))
    (λ _ e. was v e)
mine_knows g s t f older (Wait p n) may was = forgotten g s t f p.0 None (known_value g older f) was
mine_knows g s t f older (Resume p n) may was = forgotten g s t f p.0 (Some t) (known_value g older f) was
mine_knows g s t f older (Notify p None) may was = was
mine_knows g s t f older (Notify p (Some u)) may was = was
mine_knows g s t f older (NotifyAll p ls) may was = was
mine_knows g s t f older (Look p told) may was = was

-- another's event leaves the value of a field whose guard the thread owns
pub others_leave : (g : Setting) (s : State) (t u f : ℕ) (e : Event) → MayDo g s u e → u ≢ t → s.owner (g.guard f) ≡ Some t → (after_event s u e).value f ≡ s.value f
others_leave g s t u f (Enter p n) may ne mine = refl
others_leave g s t u f (NestedEnter p) may ne mine = refl
others_leave g s t u f (NestedExit p) may ne mine = refl
others_leave g s t u f (Exit p n) may ne mine = refl
others_leave g s t u f (Load h v) may ne mine = refl
others_leave g s t u f (Store h b w) may ne mine = by_test h.0 f (λ x. (if x then w else s.value f) ≡ s.value f)
    (λ is. absurd (ne (the_same u t (sym may.1 ∙ ap (λ k. s.owner (g.guard k)) is ∙ mine))))
    (λ _. refl)
others_leave g s t u f (Wait p n) may ne mine = refl
others_leave g s t u f (Resume p n) may ne mine = refl
others_leave g s t u f (Notify p None) may ne mine = refl
others_leave g s t u f (Notify p (Some l)) may ne mine = refl
others_leave g s t u f (NotifyAll p ls) may ne mine = refl
others_leave g s t u f (Look p told) may ne mine = refl

pub known : (g : Setting) (h : List (ℕ × Event)) (t f : ℕ) → IsLegalHistory g h → Knows g (state_after g h) t f (known_value g (lane t h) f)
known g [] t f legal = λ v e. absurd (let never : ◌≡◌ {A = Option ℕ} None (Some v) = e in cc)
known g ((u, e) ∷ h) t f legal =
    let before : Knows g (state_after g h) t f (known_value g (lane t h) f) = known g h t f legal.0 in
    by_test u t (λ b. Knows g (after_event (state_after g h) u e) t f (known_value g (if b then e ∷ lane t h else lane t h) f))
    (λ is. subst (λ z. Knows g (after_event (state_after g h) z e) t f (known_value g (e ∷ lane t h) f)) (sym is)
    (mine_knows g (state_after g h) t f (lane t h) e (subst (λ z. MayDo g (state_after g h) z e) is legal.1) before))
    (λ ne v known_is.
    let was = before v known_is in
    (others_keep g (state_after g h) t u (g.guard f) e legal.1 ne was.0, others_leave g (state_after g h) t u f e legal.1 ne was.0 ∙ was.1))
