-- What a look and a try tell.
use Rattle.std.proofs.Common.{ℕ, ◌≡◌, ◌≢◌, ◌<◌, ◌≤◌, if◌then◌else◌, List, [], ◌∷◌, Option, Some, None, refl, sym, ap, ◌∙◌, subst}
use Rattle.heap_model.specs.declared.ids.ObjectId.{ObjectId}
use Rattle.heap_model.specs.declared.ids.Lane.{Lane}
use Rattle.heap_model.specs.declared.event.Event.{Event}
use Rattle.heap_model.specs.declared.event.Event.TheVariants.{Look}
use Rattle.heap_model.specs.declared.event.Sight.{Sight}
use Rattle.heap_model.specs.declared.event.Sight.TheVariants.{Found, StillInSet}
use Rattle.heap_model.specs.Own.{Hold}
use Rattle.thread_steps.specs.Views.{View}
use Rattle.thread_steps.specs.declared.grip.Seen.{Seen}
use Rattle.thread_steps.specs.declared.grip.Seen.TheVariants as seen
use Rattle.lock_word.specs.declared.lock_word.Shape.{Shape}
use Rattle.lock_word.specs.declared.lock_word.Shape.TheVariants as thin
use Rattle.lock_word.specs.declared.fat_word.FatShape.{FatShape}
use Rattle.lock_word.specs.Spelling.{slot_named}
use Rattle.thread_steps.specs.Views.{hold, slot_in, Lengthens, AgreesWith, IsOfSlot, IsOwned, IsSlot, IsWhole, Misses, miss_events}
use Rattle.session.specs.Calls.{IsFatSeen, IsNews, SeesAnother, SeesChange, SeesLast, sight_in}
use Rattle.session.proofs.GripLists.{by_test}
use Rattle.session.proofs.Lengthening.{after_both, hold_after, thin_back}

other_owner : (w : View) (o : ObjectId) (sight : Sight) → IsOwned sight → AgreesWith w o sight → hold w o.0 ≡ None →
    (l : Lane) × (c : ℕ) × (n : ℕ) × (l ≢ w.lane) × (sight ≡ Found (Some l) c n)
other_owner w o (Found None c n) owned agrees free = absurd owned
other_owner w o (Found (Some l) c n) owned agrees free = (
  l,
  c,
  n,
  (λ is. (by_test l.0 w.lane.0 (λ b. hold w o.0 ≡ (if b then Some (record { count = c; number = n }) else None) → ⊥)
      (λ _ some. (let clash : ◌≡◌ {A = Option Hold} (Some (record { count = c; number = n })) None = sym some ∙ free in absurd cc))
      (λ ne _. ne (ap (λ (z : Lane). z.0) is))) agrees),
  refl,
)
other_owner w o StillInSet owned agrees free = absurd owned

-- the look showed an owner, and the thread doesn't hold the monitor
pub sees_another : (u w : View) (o : ObjectId) (sight : Sight) (x : Seen) → IsOwned sight → sight_in x ≡ sight → AgreesWith w o sight → hold u o.0 ≡ None → IsOfSlot (slot_in o.0 w.fats) x → Lengthens u w (Look o sight ∷ []) → SeesAnother u w o x
sees_another u w o sight x owned is agrees free slot told =
    let f = other_owner w o sight owned agrees (hold_after u w (Look o sight ∷ []) o.0 told ∙ free) in
    (f.0, f.1, f.2, (λ e. f.3 (e ∙ sym told.lane)), record { word = slot; shows = is ∙ f.4; told = subst (λ z. Lengthens u w (Look o z ∷ [])) f.4 told })

-- the look showed a monitor with the last number
pub sees_last : (u w : View) (o : ObjectId) (sight : Sight) (n : ℕ) (x : Seen) → sight ≡ Found None 0 n → u.plan.last ≤ n → sight_in x ≡ sight → IsOfSlot (slot_in o.0 w.fats) x → Lengthens u w (Look o sight ∷ []) → SeesLast u w o x
sees_last u w o sight n x is high shown slot told = (n, high, record { word = slot; shows = shown ∙ is; told = subst (λ z. Lengthens u w (Look o z ∷ [])) is told })

-- a lock word that names a slot names that of its monitor
pub whole_slot : (v : View) (o : ObjectId) (lock : Shape) (fat : Option FatShape) → IsWhole v o lock fat → IsSlot v o (slot_named lock)
whole_slot v o (thin.Free n) None at = at
whole_slot v o (thin.Free n) (Some f) at = absurd at
whole_slot v o (thin.Thin t a n) None at = at
whole_slot v o (thin.Thin t a n) (Some f) at = absurd at
whole_slot v o (thin.Fat i m) None at = absurd at
whole_slot v o (thin.Fat i m) (Some f) at = at

-- what is found of a monitor in a slot is the word of the slot
pub fat_seen : (i : ℕ) (x : Seen) → IsOfSlot (Some i) x → IsFatSeen x
fat_seen i (seen.Lock y) of = absurd of
fat_seen i (seen.Fat f) of = tt

pub of_slot : (i : ℕ) (x : Seen) → IsFatSeen x → IsOfSlot (Some i) x
of_slot i (seen.Lock y) fat = absurd fat
of_slot i (seen.Fat f) fat = tt

-- a try finds the word of the slot that is known, or the lock word
news : (u v w : View) (o : ObjectId) (older newer : List Event) (slot : Option ℕ) (x : Seen) → Lengthens u v older → Lengthens v w newer → IsSlot v o slot → IsOfSlot slot x → IsNews u w o x
news u v w o older newer None (seen.Lock y) told more at of = thin_back u v older o told at
news u v w o older newer None (seen.Fat f) told more at of = absurd of
news u v w o older newer (Some i) (seen.Lock y) told more at of = absurd of
news u v w o older newer (Some i) (seen.Fat f) told more at of = (i, more.fats o.0 i at)

-- the look showed a free monitor, and the try found another word
pub sees_change : (u v w : View) (o : ObjectId) (sight : Sight) (slot : Option ℕ) (n : ℕ) (x : Seen) → sight ≡ Found None 0 n → n < u.plan.last → Lengthens u v (Look o sight ∷ []) → IsSlot v o slot → IsOfSlot slot x →
    Misses v w o n x → SeesChange u w o x
sees_change u v w o sight slot n x is low told at of misses =
    (n, low, news u v w o (Look o sight ∷ []) (miss_events o x) slot x told misses.told at of, misses.another, after_both u v w (Look o (Found None 0 n) ∷ []) (miss_events o x) (subst (λ z. Lengthens u v (Look o z ∷ [])) is told) misses.told)
