-- What looks leave.
use Rattle.std.proofs.Common.{ℕ, zero, suc, ◌≡◌, ◌⊎◌, inl, inr, List, [], ◌∷◌, ◌++◌, length, map, Option, Some, None, Ok, Err, refl, ap, ◌∙◌, arith}
use Rattle.heap_model.specs.declared.ids.ObjectId.{ObjectId}
use Rattle.heap_model.specs.declared.event.Event.{Event}
use Rattle.heap_model.specs.declared.event.Event.TheVariants.{Look}
use Rattle.heap_model.specs.declared.event.Sight.TheVariants.{Found}
use Rattle.heap_model.specs.declared.record.Record.{Record}
use Rattle.heap_model.specs.Setting.{Setting}
use Rattle.heap_model.specs.History.{logged}
use Rattle.heap_model.specs.Sections.{action, holding}
use Rattle.heap_model.specs.Own.{Own, own, own_after, own_log, with_own}
use Rattle.lock_word.specs.declared.lock_word.Shape.TheVariants as thin
use Rattle.thread_steps.specs.Views.{View}
use Rattle.thread_steps.specs.declared.grip.Grip.{Grip}
use Rattle.thread_steps.specs.declared.grip.Seen.{Seen}
use Rattle.thread_steps.specs.declared.grip.Seen.TheVariants as seen
use Rattle.session.specs.declared.error.SessionError.TheVariants.{Held}
use Rattle.session.specs.declared.error.Still.{Still}
use Rattle.session.specs.declared.error.Still.TheVariants as still
use Rattle.thread_steps.specs.Views.{Lengthens, hold, miss_events}
use Rattle.session.specs.Grips.{grip_in}
use Rattle.session.specs.Sits.{Holds, FindsNone}
use Rattle.session.specs.Logs.{Rooms, held_count}
use Rattle.session.specs.Calls.{WaitsOn, AreLooks, OnlyLooks, SeesAnother, SeesChange, EntersFirst}
use Rattle.session.proofs.Lengthening.{after_both, logs_after}
use Rattle.session.proofs.Holding.{finds_none, free_found}

looks_append : (o : ObjectId) (a b : List Event) → AreLooks o a → AreLooks o b → AreLooks o (a ++ b)
looks_append o [] b x y = y
looks_append o (e ∷ a) b x y = (x.0, looks_append o a b x.1 y)

pub more_looks : (u v w : View) (o : ObjectId) → OnlyLooks u v o → OnlyLooks v w o → OnlyLooks u w o
more_looks u v w o f s = (s.0 ++ f.0, looks_append o s.0 f.0 s.1 f.1, after_both u v w f.0 s.0 f.2 s.2)

looks_own : (o : ObjectId) (looks es : List Event) → AreLooks o looks → own (looks ++ es) ≡ own es
looks_own o [] es x = refl
looks_own o (e ∷ looks) es x = ap (own_after (own (looks ++ es))) x.0.1 ∙ looks_own o looks es x.1

pub looks_hold : (v w : View) (o : ObjectId) (q : ℕ) → OnlyLooks v w o → hold w q ≡ hold v q
looks_hold v w o q l = ap (λ es. (own es).hold q) l.2.events ∙ ap (λ (u : Own). u.hold q) (looks_own o l.0 v.events l.1)

-- looks aren't logged
looks_log : (p : Setting) (o : ObjectId) (looks es : List Event) → AreLooks o looks → own_log p (looks ++ es) ≡ own_log p es
looks_log p o [] es x = refl
looks_log p o (e ∷ looks) es x = ap (λ (y : Event). with_own (logged p y) (own_log p (looks ++ es))) x.0.1 ∙ looks_log p o looks es x.1

pub looks_count : (v w : View) (o : ObjectId) → OnlyLooks v w o → held_count w ≡ held_count v
looks_count v w o l = ap (λ (log : List Record). length (holding (map action log))) (logs_after v w l.0 l.2 ∙ looks_log v.plan o l.0 v.events l.1)

-- a monitor that isn't held has no grip
pub finds_none_by : (v : View) (gs : List Grip) (o : ObjectId) → Holds v gs → hold v o.0 ≡ None → FindsNone v gs o
finds_none_by v gs o h free = by_grip (grip_in o.0 gs) refl
  where
    by_grip : (x : Option Grip) → grip_in o.0 gs ≡ x → FindsNone v gs o
    by_grip None e = finds_none v gs o h e
    by_grip (Some g) e = absurd (free_found v gs o.0 g h free e)

miss_looks : (o : ObjectId) (x : Seen) → AreLooks o (miss_events o x)
miss_looks o (seen.Lock (thin.Free n)) = ((_, refl), tt)
miss_looks o (seen.Lock (thin.Thin t a n)) = ((_, refl), tt)
miss_looks o (seen.Lock (thin.Fat i m)) = tt
miss_looks o (seen.Fat f) = ((_, refl), tt)

tried_looks : (v w : View) (o : ObjectId) (x : Seen) → SeesAnother v w o x ⊎ SeesChange v w o x → OnlyLooks v w o
tried_looks v w o x (inl a) = (_, ((_, refl), tt), a.4.told)
tried_looks v w o x (inr a) = (_, looks_append o (miss_events o x) (Look o (Found None 0 a.0) ∷ []) (miss_looks o x) ((_, refl), tt), a.4)

-- a try that answers that the monitor is held
pub held_looks : (c : Rooms) (v w : View) (o : ObjectId) (x : Seen) → EntersFirst c v w o (Err (Held x)) → OnlyLooks v w o
held_looks c v w o x e = by_count (held_count v) refl
  where
    by_count : (n : ℕ) → held_count v ≡ n → OnlyLooks v w o
    by_count zero is = tried_looks v w o x (e.0 is).2
    by_count (suc n) is = tried_looks v w o x (e.1 (omega arith)).2

-- nothing was told after an enter
pub quiet_enter : (c : Rooms) (u v w : View) (o : ObjectId) (done : Unit {0}) → EntersFirst c u v o (Ok done) → Lengthens v w [] → EntersFirst c u w o (Ok done)
quiet_enter c u v w o done e f = (
  λ none. (let b = e.0 none in ((let fits = b.0 in let r = f.trimmed in omega arith), b.1, (b.2.0, b.2.1, after_both u v w _ [] b.2.2 f))),
  λ some. (let b = e.1 some in (b.0, b.1, (b.2.0, b.2.1, after_both u v w _ [] b.2.2 f))),
)

pub waits_looks : (v w : View) (o : ObjectId) (s : Still) → WaitsOn v w o s → OnlyLooks v w o
waits_looks v w o still.InSet told = (_, ((_, refl), tt), told)
waits_looks v w o (still.Held x) (fat, inl (inl a)) = (_, ((_, refl), tt), a.4.told)
waits_looks v w o (still.Held x) (fat, inl (inr a)) = (_, ((_, refl), tt), a.2.told)
waits_looks v w o (still.Held x) (fat, inr a) = tried_looks v w o x (inr a)
