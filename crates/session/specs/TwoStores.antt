-- What a store to two fields answers: `v` is the view before it, and `w` the view after it.
use Rattle.std.specs.Prelude.{ℕ, ◌+◌, ◌<◌, ◌≤◌, ◌⊎◌, [], ◌∷◌, Result, Ok, Err}
use Rattle.heap_model.specs.declared.ids.FieldId.{FieldId}
use Rattle.heap_model.specs.declared.event.Event.TheVariants.{Store}
use Rattle.monitor.specs.Seats.{Home}
use Rattle.thread_steps.specs.Views.{View, Lengthens, plan}
use Rattle.session.specs.declared.error.SessionError.{SessionError}
use Rattle.session.specs.declared.error.SessionError.TheVariants.{NotHeld, SectionFull, UnknownField}
use Rattle.session.specs.declared.session.Session.{Session}
use Rattle.session.specs.Calls.{HoldsGuard, IsQuiet, LacksGuard, LacksRoom, Refuses, records_of}
use Rattle.session.specs.Sessions.{view_of}

-- both fields' guards are held: both stores, the first and then the second; or neither, where the records that they make don't fit
abbrev pub StoresTwo : View → View → FieldId → ℕ → FieldId → ℕ → Result (Unit {0}) SessionError → Type 0
StoresTwo v w f x g y (Ok done) = (¬ LacksRoom v (records_of v.plan f + records_of v.plan g))
    × (before : ℕ) × (then_before : ℕ) × Lengthens v w (Store g then_before y ∷ Store f before x ∷ [])
StoresTwo v w f x g y (Err SectionFull) = LacksRoom v (records_of v.plan f + records_of v.plan g) × IsQuiet v w
StoresTwo v w f x g y (Err _) = ⊥

-- A store of `a` in the first field and of `b` in the second: `x` is the session before it, and `y` after it.
pub record StoresBoth (h : Home) (x y : Session) (f g : FieldId) (a b : ℕ) (r : Result (Unit {0}) SessionError) : Type 0 where
  pub unknown : ((plan h).fields ≤ f.0) ⊎ ((plan h).fields ≤ g.0) → Refuses x y UnknownField r
  pub not_held : f.0 < (plan h).fields → g.0 < (plan h).fields → LacksGuard h x f ⊎ LacksGuard h x g → Refuses x y NotHeld r
  -- Two stores are both done, in order, or neither; a field that is named twice takes the second value.
  pub held : f.0 < (plan h).fields → g.0 < (plan h).fields → HoldsGuard h x f → HoldsGuard h x g
      → StoresTwo (view_of x) (view_of y) f a g b r
