-- A monitor that is made fat after a wait for it.
use Rattle.std.proofs.Common.{ℕ, zero, suc, ◌≡◌, ◌≤◌, true, false, is_some, inl, inr, List, [], ◌∷◌, Option, Some, None, Result, Ok, IfOk, MatchOption, refl, sym, ap, ◌∙◌, arith}
use Rattle.heap_model.specs.declared.ids.ObjectId.{ObjectId}
use Rattle.heap_model.specs.declared.event.Event.TheVariants.{Enter, Look}
use Rattle.heap_model.specs.declared.event.Sight.TheVariants.{Found}
use Rattle.heap_model.specs.Own.{own}
use Rattle.lock_word.specs.declared.lock_word.TheConstants.{FAT_SLOTS}
use Rattle.thread_steps.specs.Views.{View, Keeps, Fattens, IsHeld, slot_in}
use Rattle.thread_steps.specs.declared.grip.Grip.{Grip}
use Rattle.session.specs.declared.error.SessionError.{SessionError}
use Rattle.session.specs.Logs.{Rooms, held_count}
use Rattle.session.specs.Sits.{Finds}
use Rattle.session.specs.Calls.{IsFat, IsFatOrFull, Tries, OnlyLooks, EntersFirst, EntersWaiting}
use Rattle.session.proofs.Lengthening.{hold_after, set_there, same_view}

-- a grip in a slot is on a fat monitor
pub grip_fat : (v : View) (o : ObjectId) (g : Grip) (i : ℕ) → g.object ≡ o → Keeps v g → g.slot ≡ Some i → IsFat v o
grip_fat v o g i on keeps slot = (i, ap (λ (z : ObjectId). slot_in z.0 v.fats) (sym on) ∙ keeps.slot ∙ slot)

pub grip_not_thin : (v : View) (o : ObjectId) (g : Grip) → g.object ≡ o → Keeps v g → is_some g.slot ≡ true → IsFatOrFull v o
grip_not_thin v o g on keeps some = by_slot g.slot refl
  where
    by_slot : (x : Option ℕ) → g.slot ≡ x → IsFatOrFull v o
    by_slot None e = absurd (let clash : true ≡ false = sym some ∙ ap is_some e in cc)
    by_slot (Some i) e = inl (grip_fat v o g i on keeps e)

-- the answer of a try to make it fat
pub made_fat : (w : View) (o : ObjectId) (g : Grip) (held : List Grip) (x : Option Grip) → g.object ≡ o →
    MatchOption x (FAT_SLOTS ≤ w.slots) (λ fat. Fattens w g fat × Finds w held g.object fat) → IsFatOrFull w o
made_fat w o g held None on full = inr full
made_fat w o g held (Some f) on made = inl (grip_fat w o f made.0.slot.0 (made.0.object ∙ on) made.0.keeps made.0.slot.1)

tried_held : (v w : View) (o : ObjectId) (done : Unit {0}) → Tries v w o (Ok done) → IsHeld w o.0
tried_held v w o done t = (
  record { count = 1; number = t.0 },
  hold_after v w (Enter o t.0 ∷ Look o (Found None 0 t.0) ∷ []) o.0 t.2
      ∙ set_there (own (Look o (Found None 0 t.0) ∷ v.events)).hold o.0 (Some (record { count = 1; number = t.0 })),
)

-- what was taken is held
pub entered_held : (c : Rooms) (v w : View) (o : ObjectId) (done : Unit {0}) → EntersFirst c v w o (Ok done) → IsHeld w o.0
entered_held c v w o done e = by_count (held_count v) refl
  where
    by_count : (n : ℕ) → held_count v ≡ n → IsHeld w o.0
    by_count zero is = tried_held v w o done (e.0 is).2
    by_count (suc n) is = tried_held v w o done (e.1 (omega arith)).2

-- an enter that is answered without a wait
pub at_once : (c : Rooms) (v w : View) (o : ObjectId) (x : Result (Unit {0}) SessionError) → EntersFirst c v w o x → EntersWaiting c v w o x
at_once c v w o x e = record { looks = []; later = v; only = tt; told = same_view v; enters = e; fat = λ some. absurd (some refl) }

-- and one behind looks
pub waited : (c : Rooms) (v u w : View) (o : ObjectId) (x : Result (Unit {0}) SessionError) → OnlyLooks v u o → EntersFirst c u w o x → IfOk x (λ done. IsFatOrFull w o) → EntersWaiting c v w o x
waited c v u w o x seen e fat = record { looks = seen.0; later = u; only = seen.1; told = seen.2; enters = e; fat = λ some. fat }
