-- The grips of a session as its view grows.
use Rattle.std.proofs.Common.{MatchOption, IfSome, ℕ, ◌≡◌, ◌≢◌, if◌then◌else◌, List, ◌∷◌, length, Option, Some, None, sym, ap, ◌∙◌, subst, inl, inr}
use Rattle.std.proofs.lemmas.Bool.Decides.{eqb_tells}
use Rattle.heap_model.specs.Sections.{without}
use Rattle.heap_model.specs.Own.{Hold}
use Rattle.thread_steps.specs.Views.{View}
use Rattle.thread_steps.specs.declared.grip.Grip.{Grip}
use Rattle.thread_steps.specs.Views.{hold, Keeps, KeepsEach, KeepsOthers}
use Rattle.session.specs.Grips.{grip_in, place_in, with_grip, without_grip, objects_of, are_apart}
use Rattle.session.specs.Logs.{held_objects, held_count}
use Rattle.session.specs.Sits.{Holds, Finds, FindsNone}
use Rattle.heap_model.specs.declared.ids.ObjectId.{ObjectId}
use Rattle.session.proofs.GripLists.{by_test, grip_object, with_objects, with_same, with_other, without_objects, without_other, without_same, apart_without, apart_more, none_absent, objects_length}

unsome : {g h : Grip} → ◌≡◌ {A = Option Grip} (Some g) (Some h) → g ≡ h
unsome {g} {h} e = let out : Option Grip → Grip = λ x. elim x [ None ↦ g | Some y ↦ y ] in ap out e

-- how many there are
pub held_length : (v : View) (gs : List Grip) → Holds v gs → length gs ≡ held_count v
held_length v gs h = sym (objects_length gs) ∙ ap length h.listed

-- nothing that is held changed
pub still_holds : (v w : View) (gs : List Grip) → KeepsEach v w → ((o : ℕ) → hold w o ≡ hold v o) → held_objects w ≡ held_objects v → Holds v gs → Holds w gs
still_holds v w gs each same listed h = record {
  keeps = λ o g e. each g (h.keeps o g e);
  free = λ o e. same o ∙ h.free o e;
  listed = h.listed ∙ sym listed;
  apart = h.apart;
}

-- one grip changed
pub changed_holds : (v w : View) (gs : List Grip) (g n : Grip) (o : ℕ) → KeepsOthers v w o → Keeps w n → n.object.0 ≡ o → grip_in o gs ≡ Some g →
    ((p : ℕ) → o ≢ p → hold w p ≡ hold v p) → held_objects w ≡ held_objects v → Holds v gs → Holds w (with_grip n gs)
changed_holds v w gs g n o others mine on there same listed h = record {
  keeps = λ p x e. elim (eqb_tells n.object.0 p) [
    | inl at ↦ subst (λ (z : Grip). Keeps w z) (unsome (sym (with_same n gs g (ap (λ (z : ℕ). grip_in z gs) on ∙ there)) ∙ ap (λ (z : ℕ). grip_in z (with_grip n gs)) at.1 ∙ e)) mine
    | inr ne ↦ let was = sym (with_other n gs p ne.1) ∙ e in others x (λ is. ne.1 (on ∙ sym is ∙ grip_object p gs x was)) (h.keeps p x was)
  ];
  free = λ p e. elim (eqb_tells n.object.0 p) [
    | inl at ↦ absurd (let none : ◌≡◌ {A = Option Grip} (Some n) None = sym (with_same n gs g (ap (λ (z : ℕ). grip_in z gs) on ∙ there)) ∙ ap (λ (z : ℕ). grip_in z (with_grip n gs)) at.1 ∙ e in cc)
    | inr ne ↦ same p (λ is. ne.1 (on ∙ is)) ∙ h.free p (sym (with_other n gs p ne.1) ∙ e)
  ];
  listed = with_objects n gs ∙ h.listed ∙ sym listed;
  apart = ap are_apart (with_objects n gs) ∙ h.apart;
}

-- one grip more
pub more_holds : (v w : View) (gs : List Grip) (n : Grip) (o : ℕ) → KeepsOthers v w o → Keeps w n → n.object.0 ≡ o → grip_in o gs ≡ None →
    ((p : ℕ) → o ≢ p → hold w p ≡ hold v p) → held_objects w ≡ o ∷ held_objects v → Holds v gs → Holds w (n ∷ gs)
more_holds v w gs n o others mine on none same listed h = record {
  keeps = λ p x. by_test n.object.0 p (λ b. (if b then Some n else grip_in p gs) ≡ Some x → Keeps w x)
      (λ at e. subst (λ (z : Grip). Keeps w z) (unsome e) mine)
      (λ ne e. others x (λ is. ne (on ∙ sym is ∙ grip_object p gs x e)) (h.keeps p x e));
  free = λ p. by_test n.object.0 p (λ b. (if b then Some n else grip_in p gs) ≡ None → hold w p ≡ None)
      (λ at e. absurd cc)
      (λ ne e. same p (λ is. ne (on ∙ is)) ∙ h.free p e);
  listed = ap (λ (z : ℕ). z ∷ objects_of gs) on ∙ ap (λ (os : List ℕ). o ∷ os) h.listed ∙ sym listed;
  apart = apart_more n.object.0 (objects_of gs) (none_absent n.object.0 gs (ap (λ (z : ℕ). grip_in z gs) on ∙ none)) h.apart;
}

-- one grip less
pub fewer_holds : (v w : View) (gs : List Grip) (o : ℕ) → KeepsOthers v w o → hold w o ≡ None →
    ((p : ℕ) → o ≢ p → hold w p ≡ hold v p) → held_objects w ≡ without o (held_objects v) → Holds v gs → Holds w (without_grip o gs)
fewer_holds v w gs o others none same listed h = record {
  keeps = λ p x e. elim (eqb_tells o p) [
    | inl at ↦ absurd (let some : ◌≡◌ {A = Option Grip} None (Some x) = sym (without_same o gs h.apart) ∙ ap (λ (z : ℕ). grip_in z (without_grip o gs)) at.1 ∙ e in cc)
    | inr ne ↦ let was = sym (without_other o gs p ne.1) ∙ e in others x (λ is. ne.1 (sym is ∙ grip_object p gs x was)) (h.keeps p x was)
  ];
  free = λ p e. elim (eqb_tells o p) [
    | inl at ↦ ap (λ (z : ℕ). hold w z) (sym at.1) ∙ none
    | inr ne ↦ same p ne.1 ∙ h.free p (sym (without_other o gs p ne.1) ∙ e)
  ];
  listed = without_objects o gs ∙ ap (without o) h.listed ∙ sym listed;
  apart = ap are_apart (without_objects o gs) ∙ apart_without o (objects_of gs) h.apart;
}

-- what was found is held
pub found_held : (v : View) (gs : List Grip) (o : ℕ) (g : Grip) → Holds v gs → grip_in o gs ≡ Some g → hold v o ≡ Some (record { count = g.count; number = g.number })
found_held v gs o g h e = ap (λ (z : ℕ). hold v z) (sym (grip_object o gs g e)) ∙ (h.keeps o g e).hold

-- what is held was found
pub held_found : (v : View) (gs : List Grip) (o : ℕ) (x : Hold) → Holds v gs → hold v o ≡ Some x → grip_in o gs ≡ None → ⊥
held_found v gs o x h e none = let clash : ◌≡◌ {A = Option Hold} (Some x) None = sym e ∙ h.free o none in absurd cc

-- and what isn't held wasn't
pub free_found : (v : View) (gs : List Grip) (o : ℕ) (g : Grip) → Holds v gs → hold v o ≡ None → grip_in o gs ≡ Some g → ⊥
free_found v gs o g h e found = let clash : ◌≡◌ {A = Option Hold} (Some (record { count = g.count; number = g.number })) None = sym (found_held v gs o g h found) ∙ e in absurd cc

pub finds : (v : View) (gs : List Grip) (o : ObjectId) (g : Grip) → Holds v gs → grip_in o.0 gs ≡ Some g → Finds v gs o g
finds v gs o g h e = record {
  object = λ i. record { 0 = grip_object o.0 gs g e i };
  there = e;
  keeps = h.keeps o.0 g e;
  hold = found_held v gs o.0 g h e;
}

pub finds_none : (v : View) (gs : List Grip) (o : ObjectId) → Holds v gs → grip_in o.0 gs ≡ None → FindsNone v gs o
finds_none v gs o h e = record { none = e; free = h.free o.0 e }

pub hold_clash : {x : Option Hold} {h : Hold} → x ≡ Some h → x ≡ None → ⊥
hold_clash {x} {h} some none = let clash : ◌≡◌ {A = Option Hold} (Some h) None = sym some ∙ none in absurd cc

pub hold_one : {x : Option Hold} {h k : Hold} → x ≡ Some h → x ≡ Some k → h ≡ k
hold_one {x} {h} {k} e f = let out : Option Hold → Hold = λ y. elim y [ None ↦ h | Some z ↦ z ] in ap out (sym e ∙ f)

pub looked_up : (v : View) (gs slice : List Grip) (o : ObjectId) (x : Option (ℕ × Grip)) → Holds v gs → slice ≡ gs →
    MatchOption x (grip_in o.0 slice ≡ None) (λ r. grip_in o.0 slice ≡ Some r.1) → MatchOption x (FindsNone v gs o) (λ r. Finds v gs o r.1)
looked_up v gs slice o None h same e = finds_none v gs o h (ap (grip_in o.0) (sym same) ∙ e)
looked_up v gs slice o (Some r) h same e = finds v gs o r.1 h (ap (grip_in o.0) (sym same) ∙ e)

pub placed : (gs slice : List Grip) (o : ℕ) (x : Option (ℕ × Grip)) → slice ≡ gs → IfSome x (λ r. r.0 ≡ place_in o slice) → IfSome x (λ r. r.0 ≡ place_in o gs)
placed gs slice o None same e = tt
placed gs slice o (Some r) same e = e ∙ ap (place_in o) same

-- a changed grip is found
pub found_changed : (w : View) (gs held : List Grip) (g n : Grip) (o : ObjectId) → held ≡ with_grip n gs → n.object ≡ o → Keeps w n → grip_in o.0 gs ≡ Some g → Finds w held o n
found_changed w gs held g n o now on keeps there =
    let at : n.object.0 ≡ o.0 = ap (λ (z : ObjectId). z.0) on in record {
      object = on;
      there = ap (grip_in o.0) now ∙ ap (λ (z : ℕ). grip_in z (with_grip n gs)) (sym at) ∙ with_same n gs g (ap (λ (z : ℕ). grip_in z gs) at ∙ there);
      keeps = keeps;
      hold = ap (λ (z : ℕ). hold w z) (sym at) ∙ keeps.hold;
    }
