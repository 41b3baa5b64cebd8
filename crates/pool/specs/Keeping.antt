-- What one call keeps and then another, both keep.
use Rattle.std.specs.Prelude.{◌≡◌, List, [], ◌∷◌, ◌++◌}
use Rattle.std.proofs.Common.{refl, sym, ap, ◌∙◌, append_assoc, arith}
use Rattle.heap_model.specs.declared.event.Event.{Event}
use Rattle.heap_model.specs.declared.event.Event.TheVariants.{Load, Store}
use Rattle.pool.specs.Knowledge.{Access, Loaded, Stored}
use Rattle.thread_steps.specs.Views.{View}
use Rattle.session.specs.Sessions.{view_of}
use Rattle.pool.specs.declared.in_section.InSection.{InSection}
use Rattle.pool.specs.Knowing.{session_of, Keeps, AreOfFields, accesses_of, TellsOfFields}

both_of_fields : (a b : List Event) → AreOfFields b → AreOfFields a → AreOfFields (b ++ a)
both_of_fields a [] y x = x
both_of_fields a (Load f v ∷ b) y x = both_of_fields a b y x
both_of_fields a (Store f before after ∷ b) y x = both_of_fields a b y x
both_of_fields a (_ ∷ b) y x = absurd y

accesses_of_both : (a b : List Event) → accesses_of (b ++ a) ≡ accesses_of b ++ accesses_of a
accesses_of_both a [] = refl
accesses_of_both a (Load f v ∷ b) = ap (λ (l : List Access). Loaded f.0 v ∷ l) (accesses_of_both a b)
accesses_of_both a (Store f before after ∷ b) = ap (λ (l : List Access). Stored f.0 after ∷ l) (accesses_of_both a b)
accesses_of_both a (_ ∷ b) = accesses_of_both a b

tells_both : (v w x : View) (d e : List Access) → TellsOfFields v w d → TellsOfFields w x e → TellsOfFields v x (e ++ d)
tells_both v w x d e a b = let f = a.3 in let s = b.3 in (
  b.0 ++ a.0,
  both_of_fields a.0 b.0 b.1 a.1,
  accesses_of_both a.0 b.0 ∙ ap (λ (l : List Access). l ++ accesses_of a.0) b.2 ∙ ap (λ (l : List Access). e ++ l) a.2,
  record {
    events = s.events ∙ ap (λ (es : List Event). b.0 ++ es) f.events ∙ sym (append_assoc b.0 a.0 v.events);
    plan = s.plan ∙ f.plan;
    lane = s.lane ∙ f.lane;
    slots = (let p = f.slots in let q = s.slots in omega arith);
    stable = (let p = f.stable in let q = s.stable in omega arith);
    trimmed = (let p = f.trimmed in let q = s.trimmed in omega arith);
    stable_looks = (let p = f.stable_looks in let q = s.stable_looks in omega arith);
    trimmed_looks = (let p = f.trimmed_looks in let q = s.trimmed_looks in omega arith);
    fats = λ o i h. s.fats o i (f.fats o i h);
    words = λ o x h. s.words o x (f.words o x h);
    history = s.history ∙ f.history;
  },
)

pub keeps_on : (a b c : InSection) (d e : List Access) → Keeps a b d → Keeps b c e → Keeps a c (e ++ d)
keeps_on a b c d e x y = let r = x.ring in let s = y.ring in record {
  home = y.home ∙ x.home;
  ring = (((s.0.0.0 ∙ r.0.0.0, s.0.0.1 ∙ r.0.0.1, s.0.0.2 ∙ r.0.0.2, s.0.0.3 ∙ r.0.0.3), s.0.1 ∙ r.0.1), s.1 ∙ r.1, s.2 ∙ r.2);
  told = tells_both (view_of (session_of a)) (view_of (session_of b)) (view_of (session_of c)) d e x.told y.told;
}
