-- What events leave of a thread's stores, of what it holds, and of the records that its section needs.
use Rattle.std.proofs.Common.{ℕ, ◌≡◌, ◌≢◌, ◌+◌, ◌<◌, ◌≤◌, ◌==◌, if◌then◌else◌, true, false, inl, inr, List, [], ◌∷◌, ◌++◌, length, map, Some, None, option_map, refl, ap, ◌∙◌, arith}
use Rattle.std.proofs.lemmas.Bool.Decides.{eqb_tells}
use Rattle.heap_model.specs.declared.ids.ObjectId.{ObjectId}
use Rattle.heap_model.specs.declared.ids.FieldId.{FieldId}
use Rattle.heap_model.specs.declared.event.Event.{Event}
use Rattle.heap_model.specs.declared.event.Event.TheVariants.{Enter, NestedEnter, NestedExit, Exit, Load, Store, Look}
use Rattle.heap_model.specs.declared.event.Sight.{Sight}
use Rattle.heap_model.specs.declared.record.Record.TheVariants.{Put}
use Rattle.heap_model.specs.Setting.{Setting}
use Rattle.heap_model.specs.State.{with_at}
use Rattle.heap_model.specs.Own.{Hold, own, own_log, with_own, more}
use Rattle.heap_model.specs.OwnSections.{held_in, open_records, own_actions}
use Rattle.heap_model.specs.Sections.{Action, Takes, Stores, action, holding, open_section}
use Rattle.thread_steps.specs.Views.{View, Lengthens, hold}
use Rattle.session.specs.Calls.{AreLooks, OnlyLooks}
use Rattle.ledger.specs.Transfers.{stores}

-- a function with another value at one place
there : {A : Type 0} (f : ℕ → A) (k : ℕ) (x : A) → with_at f k x k ≡ x
there f k x = elim (eqb_tells k k) [ inl e ↦ ap (λ b. if b then x else f k) e.0 | inr ne ↦ absurd (ne.1 refl) ]

elsewhere : {A : Type 0} (f : ℕ → A) (k : ℕ) (x : A) (i : ℕ) → k ≢ i → with_at f k x i ≡ f i
elsewhere f k x i apart = elim (eqb_tells k i) [ inl e ↦ absurd (apart e.1) | inr ne ↦ ap (λ b. if b then x else f i) ne.0 ]

-- the records of the section after these events, with the releases that it needs
abbrev pub needs_in : Setting → List Event → ℕ
needs_in g es = open_records g es + held_in g es

takes_needs : (a : List Action) (o n : ℕ) → length (open_section (Takes o n ∷ a)) + length (holding (Takes o n ∷ a)) ≤ length (open_section a) + length (holding a) + 2
takes_needs a o n = elim (length (o ∷ holding a) == 0) as (λ b. length (if b then [] else Takes o n ∷ open_section a) + length (o ∷ holding a) ≤ length (open_section a) + length (holding a) + 2) [ true ↦ omega arith | false ↦ omega arith ]

stores_needs : (a : List Action) → length (open_section (Stores ∷ a)) + length (holding a) ≤ length (open_section a) + length (holding a) + 1
stores_needs a = elim (length (holding a) == 0) as (λ b. length (if b then [] else Stores ∷ open_section a) + length (holding a) ≤ length (open_section a) + length (holding a) + 1) [ true ↦ omega arith | false ↦ omega arith ]

enter_needs : (g : Setting) (o : ObjectId) (n : ℕ) (es : List Event) → needs_in g (Enter o n ∷ es) ≤ needs_in g es + 2
enter_needs g o n es = takes_needs (own_actions g es) o.0 n

store_needs : (g : Setting) (f : FieldId) (before after : ℕ) (es : List Event) → needs_in g (Store f before after ∷ es) ≤ needs_in g es + 1
store_needs g f before after es = elim (g.is_logged f.0) as (λ b. (let a = map action (with_own (if b then Some (Put f before after) else None) (own_log g es)) in length (open_section a) + length (holding a) ≤ needs_in g es + 1)) [
  | true ↦ stores_needs (own_actions g es)
  | false ↦ omega arith
]

-- no section is open where nothing is held
pub outside_needs : (a : List Action) → length (holding a) ≡ 0 → length (open_section a) + length (holding a) ≡ 0
outside_needs [] none = refl
outside_needs (act ∷ older) none =
    let shut : length (open_section (act ∷ older)) ≡ 0 = ap (λ (n : ℕ). length (if n == 0 then [] else act ∷ open_section older)) none in omega arith

-- what is stored, what is held, and what the section needs is as it was
pub record Same (v w : View) : Type 0 where
  pub stored : stores w.events ≡ stores v.events
  pub held : (p : ℕ) → hold w p ≡ hold v p
  pub needed : needs_in w.plan w.events ≡ needs_in v.plan v.events

pub same_both : (u v w : View) → Same u v → Same v w → Same u w
same_both u v w f s = record { stored = s.stored ∙ f.stored; held = λ p. s.held p ∙ f.held p; needed = s.needed ∙ f.needed }

-- what looks leave as it is
looks_keep : {A : Type 0} (f : List Event → A) (o : ObjectId) → ((s : Sight) (es : List Event) → f (Look o s ∷ es) ≡ f es) → (es looks : List Event) → AreLooks o looks → f (looks ++ es) ≡ f es
looks_keep f o skip es [] are = refl
looks_keep f o skip es (e ∷ older) are = ap (λ (z : Event). f (z ∷ (older ++ es))) are.0.1 ∙ skip are.0.0 (older ++ es) ∙ looks_keep f o skip es older are.1

needs_told : (v w : View) (es : List Event) → Lengthens v w es → needs_in w.plan w.events ≡ needs_in v.plan (es ++ v.events)
needs_told v w es t = ap (λ (g : Setting). needs_in g w.events) t.plan ∙ ap (needs_in v.plan) t.events

pub same_looks : (v w : View) (o : ObjectId) → OnlyLooks v w o → Same v w
same_looks v w o l = record {
  stored = ap stores l.2.events ∙ looks_keep stores o (λ s es. refl) v.events l.0 l.1;
  held = λ p. ap (λ es. (own es).hold p) l.2.events ∙ looks_keep (λ es. (own es).hold p) o (λ s es. refl) v.events l.0 l.1;
  needed = needs_told v w l.0 l.2 ∙ looks_keep (needs_in v.plan) o (λ s es. refl) v.events l.0 l.1;
}

pub same_quiet : (v w : View) → Lengthens v w [] → Same v w
same_quiet v w t = same_looks v w (record { 0 = 0 }) ([], tt, t)

pub same_load : (v w : View) (f : FieldId) (x : ℕ) → Lengthens v w (Load f x ∷ []) → Same v w
same_load v w f x t = record { stored = ap stores t.events; held = λ p. ap (λ es. (own es).hold p) t.events; needed = needs_told v w (Load f x ∷ []) t }

-- the monitor was taken, or taken once more
pub record Entered (v w : View) (o : ObjectId) : Type 0 where
  pub stored : stores w.events ≡ stores v.events
  pub mine : (k : Hold) × (hold w o.0 ≡ Some k) × (0 < k.count)
  pub others : (p : ℕ) → o.0 ≢ p → hold w p ≡ hold v p
  pub needed : needs_in w.plan w.events ≤ needs_in v.plan v.events + 2

pub entered : (v w : View) (o : ObjectId) (n : ℕ) (s : Sight) → Lengthens v w (Enter o n ∷ Look o s ∷ []) → Entered v w o
entered v w o n s t = record {
  stored = ap stores t.events;
  mine = (_, ap (λ es. (own es).hold o.0) t.events ∙ there (own v.events).hold o.0 (Some (record { count = 1; number = n })), omega arith);
  others = λ p apart. ap (λ es. (own es).hold p) t.events ∙ elsewhere (own v.events).hold o.0 (Some (record { count = 1; number = n })) p apart;
  needed = (let a = needs_told v w (Enter o n ∷ Look o s ∷ []) t in let b : needs_in v.plan (Enter o n ∷ Look o s ∷ v.events) ≤ needs_in v.plan v.events + 2 = enter_needs v.plan o n (Look o s ∷ v.events) in omega arith);
}

pub entered_again : (v w : View) (o : ObjectId) (k : Hold) → hold v o.0 ≡ Some k → Lengthens v w (NestedEnter o ∷ []) → Entered v w o
entered_again v w o k is t = record {
  stored = ap stores t.events;
  mine = (more k, ap (λ es. (own es).hold o.0) t.events ∙ there (own v.events).hold o.0 (option_map more (hold v o.0)) ∙ ap (option_map more) is, omega arith);
  others = λ p apart. ap (λ es. (own es).hold p) t.events ∙ elsewhere (own v.events).hold o.0 (option_map more (hold v o.0)) p apart;
  needed = (let a = needs_told v w (NestedEnter o ∷ []) t in omega arith);
}

-- after steps that keep all
pub entered_later : (u v w : View) (o : ObjectId) → Same u v → Entered v w o → Entered u w o
entered_later u v w o f s = record {
  stored = s.stored ∙ f.stored;
  mine = s.mine;
  others = λ p apart. s.others p apart ∙ f.held p;
  needed = (let a = f.needed in let b = s.needed in omega arith);
}

-- a lock was given back
pub record Exited (v w : View) (o : ObjectId) : Type 0 where
  pub stored : stores w.events ≡ stores v.events
  pub others : (p : ℕ) → o.0 ≢ p → hold w p ≡ hold v p

pub exited : (v w : View) (o : ObjectId) (n : ℕ) → Lengthens v w (Exit o n ∷ []) → Exited v w o
exited v w o n t = record {
  stored = ap stores t.events;
  others = λ p apart. ap (λ es. (own es).hold p) t.events ∙ elsewhere (own v.events).hold o.0 None p apart;
}

pub exited_nested : (v w : View) (o : ObjectId) → Lengthens v w (NestedExit o ∷ []) → Exited v w o
exited_nested v w o t = record {
  stored = ap stores t.events;
  others = λ p apart. ap (λ es. (own es).hold p) t.events ∙ elsewhere (own v.events).hold o.0 _ p apart;
}

-- a field was stored to
pub record Wrote (v w : View) : Type 0 where
  pub held : (p : ℕ) → hold w p ≡ hold v p
  pub needed : needs_in w.plan w.events ≤ needs_in v.plan v.events + 1

pub wrote : (v w : View) (f : FieldId) (before after : ℕ) → Lengthens v w (Store f before after ∷ []) → Wrote v w
wrote v w f before after t = record {
  held = λ p. ap (λ es. (own es).hold p) t.events;
  needed = (let a = needs_told v w (Store f before after ∷ []) t in let b = store_needs v.plan f before after v.events in omega arith);
}
