-- What a worker holds, by what its session is told.
use Rattle.std.proofs.Common.{ℕ, ◌≡◌, ◌≢◌, ◌+◌, ◌≤◌, ◌==◌, if◌then◌else◌, Bool, true, false, List, [], ◌∷◌, ◌++◌, map, length, Option, None, Some, option_map, inl, inr, refl, sym, ap, ◌∙◌, subst, arith}
use Rattle.std.proofs.lemmas.Bool.Decides.{eqb_tells}
use Rattle.heap_model.specs.Own.{Hold, own, own_log, with_own}
use Rattle.heap_model.specs.OwnSections.{own_actions}
use Rattle.heap_model.specs.Sections as sections
use Rattle.heap_model.specs.Sections.{Action, action, holding, open_section, without}
use Rattle.heap_model.specs.Setting.{Setting}
use Rattle.heap_model.specs.declared.event.Event.{Event}
use Rattle.heap_model.specs.declared.event.Event.TheVariants as event
use Rattle.heap_model.specs.declared.ids.FieldId.{FieldId}
use Rattle.heap_model.specs.declared.ids.ObjectId.{ObjectId}
use Rattle.heap_model.specs.declared.record.Record.TheVariants as records
use Rattle.session.specs.Calls.{AreLooks}
use Rattle.thread_steps.specs.Views.{Lengthens, View}
use Rattle.thread_drive.specs.Working.{HoldsBy, HoldsJust, locks_in, locks_of}

-- at first it holds nothing
pub at_first : (g : Setting) (events : List Event) → events ≡ [] → HoldsBy g events [] 0
at_first g events none = subst (λ (es : List Event). HoldsBy g es [] 0) (sym none) (record { held = refl; once = λ o. refl; few = omega arith })

pub weaker : (g : Setting) (events : List Event) (objects : List ℕ) (n m : ℕ) → n ≤ m → HoldsBy g events objects n → HoldsBy g events objects m
weaker g events objects n m low holds = let few = holds.few in record { held = holds.held; once = holds.once; few = omega (arith, few, low) }

none_open : (acts : List Action) → holding acts ≡ [] → length (open_section acts) ≡ 0
none_open [] none = refl
none_open (a ∷ acts) none = ap (λ (os : List ℕ). length (if length os == 0 then [] else a ∷ open_section acts)) none

-- where it holds nothing its section has no records
pub free : (g : Setting) (events : List Event) (n : ℕ) → HoldsBy g events [] n → HoldsBy g events [] 0
free g events n holds = let none = none_open (own_actions g events) holds.held in record { held = holds.held; once = holds.once; few = omega (arith, none) }

-- by the view that is told these events
pub told : (v w : View) (newer : List Event) (objects : List ℕ) (n : ℕ) → Lengthens v w newer → HoldsBy v.plan (newer ++ v.events) objects n → HoldsJust w objects n
told v w newer objects n longer holds =
    subst (λ (g : Setting). HoldsBy g w.events objects n) (sym longer.plan) (subst (λ (es : List Event). HoldsBy v.plan es objects n) (sym longer.events) holds)

module _ (g : Setting) (events : List Event) (objects : List ℕ) (n : ℕ) where
  pub looked : (o : ObjectId) (looks : List Event) → AreLooks o looks → HoldsBy g events objects n → HoldsBy g (looks ++ events) objects n
  looked o [] are holds = holds
  looked o (e ∷ looks) are holds =
      let older = looked o looks are.1 holds in
      subst (λ (x : Event). HoldsBy g (x ∷ looks ++ events) objects n) (sym are.0.1) (record { held = older.held; once = older.once; few = older.few })

  pub loaded : (f : FieldId) (value : ℕ) → HoldsBy g events objects n → HoldsBy g (event.Load f value ∷ events) objects n
  loaded f value holds = record { held = holds.held; once = holds.once; few = holds.few }

-- a record more of an open section, or of none
one_more : (a : Action) (acts : List Action) (n : ℕ) → length (open_section acts) ≤ n → length (open_section (a ∷ acts)) ≤ n + 1
one_more a acts n few = elim (length (holding (a ∷ acts)) == 0) as (λ (b : Bool). length (if b then [] else a ∷ open_section acts) ≤ n + 1) [
  | true ↦ omega arith
  | false ↦ omega (arith, few)
]

module _ (g : Setting) (events : List Event) (objects : List ℕ) (n : ℕ) where
  pub stored : (f : FieldId) (before after : ℕ) → HoldsBy g events objects n → HoldsBy g (event.Store f before after ∷ events) objects (n + 1)
  stored f before after holds =
      let log = own_log g events in
      let few = holds.few in
      record {
        held = elim (g.is_logged f.0) as (λ (b : Bool). holding (map action (with_own (if b then Some (records.Put f before after) else None) log)) ≡ objects) [
          | true ↦ holds.held
          | false ↦ holds.held
        ];
        once = holds.once;
        few = elim (g.is_logged f.0) as (λ (b : Bool). length (open_section (map action (with_own (if b then Some (records.Put f before after) else None) log))) ≤ n + 1) [
          | true ↦ one_more sections.Stores (own_actions g events) n few
          | false ↦ omega (arith, few)
        ];
      }

  pub entered : (o : ObjectId) (number : ℕ) → HoldsBy g events objects n → HoldsBy g (event.Enter o number ∷ events) (o.0 ∷ objects) (n + 1)
  entered o number holds = record {
    held = ap (λ (os : List ℕ). o.0 ∷ os) holds.held;
    once = λ p. elim (o.0 == p) as (λ (b : Bool). option_map (λ (h : Hold). h.count) (if b then Some (record { count = 1; number = number }) else (own events).hold p) ≡ (if b then Some 1 else locks_of objects p)) [
      | true ↦ refl
      | false ↦ holds.once p
    ];
    few = one_more (sections.Takes o.0 number) (own_actions g events) n holds.few;
  }

  same_number : (o : ℕ) → (o == o) ≡ true
  same_number o = elim (eqb_tells o o) [
    | inl is ↦ is.0
    | inr not ↦ absurd (not.1 refl)
  ]

  -- the object that it took last is free again
  pub left : (o : ObjectId) (number : ℕ) → locks_of objects o.0 ≡ None → HoldsBy g events (o.0 ∷ objects) n → HoldsBy g (event.Exit o number ∷ events) objects (n + 1)
  left o number other holds = record {
    held = ap (λ (os : List ℕ). without o.0 os) holds.held ∙ ap (λ (b : Bool). if b then objects else o.0 ∷ without o.0 objects) (same_number o.0);
    once = λ p. elim (eqb_tells o.0 p) [
      | inl is ↦ (
          let here : option_map (λ (h : Hold). h.count) (if o.0 == p then None else (own events).hold p) ≡ None = ap (λ (b : Bool). option_map (λ (h : Hold). h.count) (if b then None else (own events).hold p)) is.0 in
          here ∙ sym (subst (λ (q : ℕ). locks_of objects q ≡ None) is.1 other))
      | inr not ↦ (
          let there : option_map (λ (h : Hold). h.count) (if o.0 == p then None else (own events).hold p) ≡ locks_in events p = ap (λ (b : Bool). option_map (λ (h : Hold). h.count) (if b then None else (own events).hold p)) not.0 in
          there ∙ holds.once p ∙ ap (λ (b : Bool). if b then Some 1 else locks_of objects p) not.0)
    ];
    few = one_more (sections.Frees o.0 number) (own_actions g events) n holds.few;
  }

-- a hold by so many locks, and none
pub held_by : (x : Option Hold) (n : ℕ) → option_map (λ (h : Hold). h.count) x ≡ Some n → (h : Hold) × (x ≡ Some h) × (h.count ≡ n)
held_by None n is = absurd cc
held_by (Some h) n is = (h, refl, (let same : ◌≡◌ {A = Option ℕ} (Some h.count) (Some n) = is in cc))

pub held_by_none : (x : Option Hold) → option_map (λ (h : Hold). h.count) x ≡ None → x ≡ None
held_by_none None is = refl
held_by_none (Some h) is = absurd cc

pub last_lock : (o : ℕ) (objects : List ℕ) → locks_of (o ∷ objects) o ≡ Some 1
last_lock o objects = elim (eqb_tells o o) [
  | inl is ↦ ap (λ (b : Bool). if b then Some 1 else locks_of objects o) is.0
  | inr not ↦ absurd (not.1 refl)
]

-- an object of which there is a lock, and others
pub other_lock : (o p : ℕ) → o ≢ p → locks_of (o ∷ []) p ≡ None
other_lock o p other = elim (eqb_tells o p) [
  | inl is ↦ absurd (other is.1)
  | inr not ↦ ap (λ (b : Bool). if b then Some 1 else None) not.0
]

-- where one of these objects is locked by none, it is another
pub not_locked : (o : ℕ) (objects : List ℕ) (p : ℕ) → locks_of (o ∷ objects) p ≡ None → p ≢ o
not_locked o objects p none same =
    let lock = subst (λ (q : ℕ). locks_of (o ∷ objects) q ≡ Some 1) (sym same) (last_lock o objects) in
    absurd (let clash : ◌≡◌ {A = Option ℕ} None (Some 1) = sym none ∙ lock in cc)
