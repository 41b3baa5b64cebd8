-- Whose a session's ring is, and what a release may be sent with.
use Rattle.std.proofs.Common.{ℕ, ◌≡◌, List, [], ◌∷◌, ◌++◌, Option, Some, sym, ap, ◌∙◌, subst}
use Rattle.heap_model.specs.declared.ids.ObjectId.{ObjectId}
use Rattle.heap_model.specs.declared.record.Record.{Record}
use Rattle.heap_model.specs.declared.event.Event.{Event}
use Rattle.heap_model.specs.History.{logged}
use Rattle.heap_model.specs.Own.{with_own}
use Rattle.monitor.specs.declared.view.View as raw
use Rattle.monitor.specs.Views.{lane_of}
use Rattle.monitor.specs.Seats.{Home, Sitting}
use Rattle.thread_rings.specs.Following.{Whose, whose}
use Rattle.thread_steps.specs.Views.{View, IsReady, IsSeatOf, IsSlot, Lengthens, shown, view}
use Rattle.thread_steps.specs.declared.grip.Grip.{Grip}
use Rattle.session.specs.Logs.{log_in, sent_in}
use Rattle.session.specs.Sits.{IsTold, Sits, Stays}
use Rattle.session.proofs.Lengthening.{logs_after}
use Rattle.session.proofs.Telling.{sent_more}

-- the seat stepped
pub owned_on : (h : Home) (of : Option Whose) (s t : Sitting) → IsSeatOf h s → IsSeatOf h t → (view t).lane ≡ (view s).lane → of ≡ Some (whose s) → of ≡ Some (whose t)
owned_on h of s t was is lane own =
    let table : s.table ≡ t.table = was.0 ∙ sym is.0 in
    let plan : s.view.plan ≡ t.view.plan = was.2 ∙ sym is.2 in
    own ∙ ap (λ (w : Whose). Some w) (λ i. record { table = table i; plan = plan i; lane = sym lane i })

-- a seat that left a witness
module _ (s t : Sitting) (table : t.table ≡ s.table) (same : t.view ≡ s.view) where
  pub owned_same : (of : Option Whose) → of ≡ Some (whose s) → of ≡ Some (whose t)
  owned_same of own = own ∙ ap (λ (w : Whose). Some w) (λ i. record { table = sym table i; plan = sym (ap (λ (v : raw.View). v.plan) same) i; lane = sym (ap (λ (v : raw.View). lane_of v) same) i })

  pub seat_same : (h : Home) → IsSeatOf h s → IsSeatOf h t
  seat_same h of = (table ∙ of.0, ap (λ (v : raw.View). (shown v).plan) same ∙ of.1, ap (λ (v : raw.View). v.plan) same ∙ of.2, subst (λ (v : raw.View). IsReady v) (sym same) of.3)

  pub told_same : (v : View) (newer : List Event) → Lengthens v (view s) newer → Lengthens v (view t) newer
  told_same v newer told = subst (λ (z : raw.View). Lengthens v (shown z) newer) (sym same) told

  pub slot_same : (o : ObjectId) (x : Option ℕ) → IsSlot (view s) o x → IsSlot (view t) o x
  slot_same o x is = subst (λ (z : raw.View). IsSlot (shown z) o x) (sym same) is

  pub sits_same : (gs : List Grip) (pushed : List Record) (free r p k c u : ℕ) → Sits (view s) gs pushed free r p k c u → Sits (view t) gs pushed free r p k c u
  sits_same gs pushed free r p k c u x = subst (λ (z : raw.View). Sits (shown z) gs pushed free r p k c u) (sym same) x

  pub stays_same : (gs : List Grip) (pushed : List Record) (free r p k c u : ℕ) → Stays (view s) gs pushed free r p k c u → Stays (view t) gs pushed free r p k c u
  stays_same gs pushed free r p k c u x = subst (λ (z : raw.View). Stays (shown z) gs pushed free r p k c u) (sym same) x

-- what a lane has logged by an event that logs this record
pub logged_more : (v w : View) (e : Event) (x : Record) (pushed : List Record) (r p k : ℕ) → Lengthens v w (e ∷ []) → logged v.plan e ≡ Some x → IsTold v pushed r p k → sent_in w ≡ pushed ++ x ∷ []
logged_more v w e x pushed r p k told is t = sym (sent_more v w pushed x (logs_after v w (e ∷ []) told ∙ ap (λ z. with_own z (log_in v)) is) t.sent)
