-- What was sent, and its numbers, as the view grows.
use Rattle.std.proofs.Common.{ℕ, suc, ◌≡◌, ◌≢◌, ◌+◌, ◌==◌, if◌then◌else◌, List, [], ◌∷◌, ◌++◌, length, reverse, map, refl, sym, ap, ◌∙◌, arith}
use Rattle.std.proofs.lemmas.List.{reverse-append}
use Rattle.heap_model.specs.declared.record.Record.{Record}
use Rattle.heap_model.specs.Sections.{Action, Takes, Frees, Stores, action, ended, open_section, without}
use Rattle.thread_steps.specs.Views.{View}
use Rattle.session.specs.Logs.{log_in, sent_in, actions_in, held_objects, held_count, section_records, place, sections_ended}
use Rattle.session.specs.Sits.{IsTold}
use Rattle.session.proofs.GripLists.{by_test, by_bool}

-- nothing was logged
pub still_told : (v w : View) (s : List Record) (r p k : ℕ) → log_in w ≡ log_in v → IsTold v s r p k → IsTold w s r p k
still_told v w s r p k e t = record {
  sent = t.sent ∙ ap reverse (sym e);
  records = t.records ∙ ap (λ (log : List Record). length (open_section (map action log))) (sym e);
  places = t.places ∙ ap length (sym e);
  sections = t.sections ∙ ap (λ (log : List Record). ended (map action log)) (sym e);
}

-- one record more
pub sent_more : (v w : View) (s : List Record) (x : Record) → log_in w ≡ x ∷ log_in v → s ≡ sent_in v → s ++ x ∷ [] ≡ sent_in w
sent_more v w s x e t = ap (λ (xs : List Record). xs ++ x ∷ []) t ∙ sym (reverse-append (x ∷ []) (log_in v)) ∙ ap reverse (sym e)

places_more : (v w : View) (x : Record) (p : ℕ) → log_in w ≡ x ∷ log_in v → p ≡ place v → p + 1 ≡ place w
places_more v w x p e t = (let same : length (log_in w) ≡ length (x ∷ log_in v) = ap length e in omega arith)

did : (v w : View) (x : Record) → log_in w ≡ x ∷ log_in v → actions_in w ≡ action x ∷ actions_in v
did v w x e = ap (map action) e

-- a monitor was taken
pub told_taken : (v w : View) (s : List Record) (r p k o n : ℕ) (x : Record) → log_in w ≡ x ∷ log_in v → action x ≡ Takes o n → IsTold v s r p k → IsTold w (s ++ x ∷ []) (r + 1) (p + 1) k
told_taken v w s r p k o n x e is t = let a = did v w x e ∙ ap (λ (y : Action). y ∷ actions_in v) is in record {
  sent = sent_more v w s x e t.sent;
  records = (let more : length (open_section (Takes o n ∷ actions_in v)) ≡ suc (section_records v) =
      by_test (suc (held_count v)) 0 (λ b. length (if b then [] else Takes o n ∷ open_section (actions_in v)) ≡ suc (section_records v)) (λ none. absurd (omega arith)) (λ _. refl) in
      let same : section_records w ≡ suc (section_records v) = ap (λ (acts : List Action). length (open_section acts)) a ∙ more in let was = t.records in omega arith);
  places = places_more v w x p e t.places;
  sections = t.sections ∙ ap ended (sym a);
}

-- a field was stored to, by a thread that holds a monitor
pub told_stored : (v w : View) (s : List Record) (r p k : ℕ) (x : Record) → log_in w ≡ x ∷ log_in v → action x ≡ Stores → held_count v ≢ 0 → IsTold v s r p k → IsTold w (s ++ x ∷ []) (r + 1) (p + 1) k
told_stored v w s r p k x e is some t = let a = did v w x e ∙ ap (λ (y : Action). y ∷ actions_in v) is in record {
  sent = sent_more v w s x e t.sent;
  records = (let more : length (open_section (Stores ∷ actions_in v)) ≡ suc (section_records v) =
      by_test (held_count v) 0 (λ b. length (if b then [] else Stores ∷ open_section (actions_in v)) ≡ suc (section_records v)) (λ none. absurd (some none)) (λ _. refl) in
      let same : section_records w ≡ suc (section_records v) = ap (λ (acts : List Action). length (open_section acts)) a ∙ more in let was = t.records in omega arith);
  places = places_more v w x p e t.places;
  sections = t.sections ∙ ap ended (sym a);
}

-- a monitor was freed, and so many are still held
pub told_freed : (v w : View) (s : List Record) (r p k o n left : ℕ) (x : Record) → log_in w ≡ x ∷ log_in v → action x ≡ Frees o n → left ≡ length (without o (held_objects v)) →
    IsTold v s r p k → IsTold w (s ++ x ∷ []) (if left == 0 then 0 else r + 1) (p + 1) (if left == 0 then k + 1 else k)
told_freed v w s r p k o n left x e is rest t = let a = did v w x e ∙ ap (λ (y : Action). y ∷ actions_in v) is in record {
  sent = sent_more v w s x e t.sent;
  records = ap (λ (m : ℕ). if left == 0 then 0 else m + 1) t.records
      ∙ by_bool (left == 0) (λ b. (if b then 0 else section_records v + 1) ≡ length (if b then [] else Frees o n ∷ open_section (actions_in v))) (λ _. refl) (λ _. omega arith)
      ∙ ap (λ (m : ℕ). length (if m == 0 then [] else Frees o n ∷ open_section (actions_in v))) rest
      ∙ ap (λ (acts : List Action). length (open_section acts)) (sym a);
  places = places_more v w x p e t.places;
  sections = ap (λ (m : ℕ). if left == 0 then m + 1 else m) t.sections
      ∙ ap (λ (m : ℕ). if m == 0 then sections_ended v + 1 else sections_ended v) rest
      ∙ ap ended (sym a);
}
