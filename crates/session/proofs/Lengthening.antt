-- Views that grow.
use Rattle.std.proofs.Common.{ℕ, ◌≡◌, ◌≢◌, if◌then◌else◌, List, [], ◌∷◌, ◌++◌, append_assoc, length, map, Option, Some, None, option_map, refl, sym, ap, ◌∙◌, arith}
use Rattle.heap_model.specs.declared.ids.ObjectId.{ObjectId}
use Rattle.heap_model.specs.declared.event.Event.{Event}
use Rattle.heap_model.specs.declared.event.Event.TheVariants.{NestedEnter, NestedExit, Exit, Wait, Resume}
use Rattle.heap_model.specs.declared.event.Sight.{Sight}
use Rattle.heap_model.specs.State.{with_at}
use Rattle.heap_model.specs.declared.record.Record.{Record}
use Rattle.heap_model.specs.Own.{own, own_log, more, less, pause_count}
use Rattle.heap_model.specs.Sections.{action, holding, open_section}
use Rattle.session.specs.Logs.{log_in, held_count, section_records, place}
use Rattle.thread_steps.specs.Views.{View, Lengthens, hold, slot_in}
use Rattle.thread_steps.specs.declared.grip.Seen.{Seen}
use Rattle.session.specs.Calls.{Sees}
use Rattle.session.proofs.GripLists.{by_test}

pub after_both : (v w x : View) (a b : List Event) → Lengthens v w a → Lengthens w x b → Lengthens v x (b ++ a)
after_both v w x a b f s = record {
  events = s.events ∙ ap (λ (es : List Event). b ++ es) f.events ∙ sym (append_assoc b a v.events);
  plan = s.plan ∙ f.plan;
  lane = s.lane ∙ f.lane;
  slots = (let p = f.slots in let q = s.slots in omega arith);
  stable = (let p = f.stable in let q = s.stable in omega arith);
  trimmed = (let p = f.trimmed in let q = s.trimmed in omega arith);
  stable_looks = (let p = f.stable_looks in let q = s.stable_looks in omega arith);
  trimmed_looks = (let p = f.trimmed_looks in let q = s.trimmed_looks in omega arith);
  fats = λ o i e. s.fats o i (f.fats o i e);
  words = λ o x h. s.words o x (f.words o x h);
  history = s.history ∙ f.history;
}

-- nothing, and then some events
pub after_quiet : (v w x : View) (b : List Event) → Lengthens v w [] → Lengthens w x b → Lengthens v x b
after_quiet v w x b f s = record {
  events = s.events ∙ ap (λ (es : List Event). b ++ es) f.events;
  plan = s.plan ∙ f.plan;
  lane = s.lane ∙ f.lane;
  slots = (let p = f.slots in let q = s.slots in omega arith);
  stable = (let p = f.stable in let q = s.stable in omega arith);
  trimmed = (let p = f.trimmed in let q = s.trimmed in omega arith);
  stable_looks = (let p = f.stable_looks in let q = s.stable_looks in omega arith);
  trimmed_looks = (let p = f.trimmed_looks in let q = s.trimmed_looks in omega arith);
  fats = λ o i e. s.fats o i (f.fats o i e);
  words = λ o x h. s.words o x (f.words o x h);
  history = s.history ∙ f.history;
}

-- a look behind nothing
pub seen_later : (v w x : View) (o : ObjectId) (y : Seen) (sight : Sight) → Lengthens v w [] → Sees w x o y sight → Sees v x o y sight
seen_later v w x o y sight f s = record { word = s.word; shows = s.shows; told = after_quiet v w x _ f s.told }

-- what isn't known to be fat wasn't before
pub thin_back : (v w : View) (newer : List Event) (o : ObjectId) → Lengthens v w newer → slot_in o.0 w.fats ≡ None → slot_in o.0 v.fats ≡ None
thin_back v w newer o told thin = by_slot (slot_in o.0 v.fats) refl
  where
    by_slot : (x : Option ℕ) → slot_in o.0 v.fats ≡ x → slot_in o.0 v.fats ≡ None
    by_slot None e = e
    by_slot (Some i) e = absurd (let clash : ◌≡◌ {A = Option ℕ} (Some i) None = sym (told.fats o.0 i e) ∙ thin in cc)

pub same_view : (v : View) → Lengthens v v []
same_view v = record { events = refl; plan = refl; lane = refl; slots = omega arith; stable = omega arith; trimmed = omega arith; stable_looks = omega arith; trimmed_looks = omega arith; fats = λ o i e. e; words = λ o x h. h; history = refl }

-- the log after these events
pub logs_after : (v w : View) (newer : List Event) → Lengthens v w newer → log_in w ≡ own_log v.plan (newer ++ v.events)
logs_after v w newer t = ap (λ k. own_log k w.events) t.plan ∙ ap (own_log v.plan) t.events

-- and after none
pub log_stays : (v w : View) → Lengthens v w [] → log_in w ≡ log_in v
log_stays v w t = logs_after v w [] t

pub held_stays : (v w : View) → Lengthens v w [] → held_count w ≡ held_count v
held_stays v w t = ap (λ (log : List Record). length (holding (map action log))) (log_stays v w t)

pub records_stay : (v w : View) → Lengthens v w [] → section_records w ≡ section_records v
records_stay v w t = ap (λ (log : List Record). length (open_section (map action log))) (log_stays v w t)

pub place_stays : (v w : View) → Lengthens v w [] → place w ≡ place v
place_stays v w t = ap length (log_stays v w t)

-- a function with another value at one place
pub set_there : {A : Type 0} (f : ℕ → A) (k : ℕ) (v : A) → with_at f k v k ≡ v
set_there f k v = by_test k k (λ b. (if b then v else f k) ≡ v) (λ _. refl) (λ ne. absurd (ne refl))

pub set_else : {A : Type 0} (f : ℕ → A) (k : ℕ) (v : A) (i : ℕ) → k ≢ i → with_at f k v i ≡ f i
set_else f k v i ne = by_test k i (λ b. (if b then v else f i) ≡ f i) (λ e. absurd (ne e)) (λ _. refl)

-- what the own events say of an object, and of the wait, after them
pub hold_after : (v w : View) (newer : List Event) (o : ℕ) → Lengthens v w newer → hold w o ≡ (own (newer ++ v.events)).hold o
hold_after v w newer o t = ap (λ es. (own es).hold o) t.events

pub pause_after : (v w : View) (newer : List Event) → Lengthens v w newer → (own w.events).pause ≡ (own (newer ++ v.events)).pause
pause_after v w newer t = ap (λ es. (own es).pause) t.events

-- an event changes the hold on its object alone

pub nested_else : (v : View) (o : ObjectId) (q : ℕ) → o.0 ≢ q → (own (NestedEnter o ∷ v.events)).hold q ≡ hold v q
nested_else v o q ne = set_else (own v.events).hold o.0 (option_map more ((own v.events).hold o.0)) q ne

pub unnested_else : (v : View) (o : ObjectId) (q : ℕ) → o.0 ≢ q → (own (NestedExit o ∷ v.events)).hold q ≡ hold v q
unnested_else v o q ne = set_else (own v.events).hold o.0 (option_map less ((own v.events).hold o.0)) q ne

pub freed_else : (v : View) (o : ObjectId) (n q : ℕ) → o.0 ≢ q → (own (Exit o n ∷ v.events)).hold q ≡ hold v q
freed_else v o n q ne = set_else (own v.events).hold o.0 None q ne

pub freed_there : (v : View) (o : ObjectId) (n : ℕ) → (own (Exit o n ∷ v.events)).hold o.0 ≡ None
freed_there v o n = set_there (own v.events).hold o.0 None

pub waited_else : (v : View) (o : ObjectId) (n q : ℕ) → o.0 ≢ q → (own (Wait o n ∷ v.events)).hold q ≡ hold v q
waited_else v o n q ne = set_else (own v.events).hold o.0 None q ne

pub waited_there : (v : View) (o : ObjectId) (n : ℕ) → (own (Wait o n ∷ v.events)).hold o.0 ≡ None
waited_there v o n = set_there (own v.events).hold o.0 None

pub resumed_else : (v : View) (o : ObjectId) (n q : ℕ) → o.0 ≢ q → (own (Resume o n ∷ v.events)).hold q ≡ hold v q
resumed_else v o n q ne = set_else (own v.events).hold o.0 (Some (record { count = pause_count (own v.events).pause; number = n })) q ne
