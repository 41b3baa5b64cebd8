-- What a step of the monitor makes of the view that a session sees.
use Rattle.std.proofs.Common.{ℕ, ◌≡◌, ◌≢◌, ◌+◌, ◌-◌, ◌<◌, ◌≤◌, ◌⊎◌, ◌==◌, if◌then◌else◌, List, [], ◌∷◌, ◌++◌, length, Option, Some, None, option_map, refl, sym, ap, ◌∙◌, subst, inl, inr, ⊎_elim, arith}
use Rattle.heap_model.specs.declared.ids.ObjectId.{ObjectId}
use Rattle.heap_model.specs.declared.ids.Lane.{Lane}
use Rattle.heap_model.specs.declared.event.Event.{Event}
use Rattle.heap_model.specs.declared.event.Event.TheVariants.{Enter, NestedEnter, NestedExit, Exit, Wait, Resume, Look}
use Rattle.heap_model.specs.declared.event.Sight.TheVariants.{Found}
use Rattle.heap_model.specs.History.{IsLegalHistory}
use Rattle.heap_model.specs.Log.{lane}
use Rattle.heap_model.specs.State.{with_at}
use Rattle.heap_model.specs.Own.{Hold, Pause, own, more, less, pause_count}
use Rattle.law_histories.proofs.Own.{by_test}
use Rattle.lock_word.specs.declared.lock_word.Shape.{Shape}
use Rattle.lock_word.specs.declared.lock_word.Shape.TheVariants as thin
use Rattle.lock_word.specs.declared.fat_word.FatShape.{FatShape}
use Rattle.lock_word.specs.declared.fat_word.FatShape.TheVariants as fat
use Rattle.monitor.specs.declared.view.View as raw
use Rattle.monitor.specs.declared.view.Named.{Named}
use Rattle.monitor.specs.declared.view.Note.{Note}
use Rattle.monitor.specs.declared.view.Mark.{Mark}
use Rattle.monitor.specs.declared.view.Mark.TheVariants.{Clear, Joined, Knows, Removed}
use Rattle.monitor.specs.Words.{SLOTS, setting_of}
use Rattle.monitor.specs.Views.{GoesOn, caught_up, calm, noted, slot_of, word_of, first_of, met_at, lane_of, told, resumed, fattened, counted, joined, removed, keeping, Stands}
use Rattle.monitor.specs.Views as raw_views
use Rattle.lock_word.specs.Spelling.{lane_of_thread, slot_named, fat_sight, sight_of}
use Rattle.monitor.specs.Kinds.{looked, IsNews}
use Rattle.monitor.specs.Seats.{Home, Sitting}
use Rattle.monitor.specs.Seats as raw_seats
use Rattle.thread_steps.specs.declared.grip.Grip.{Grip}
use Rattle.thread_steps.specs.Views.{View, shown, times, plan, IsReady, IsSeatOf, hold, slot_in, Keeps, KeepsEach, KeepsOthers, Lengthens, KeepsWords, IsLasting, AgreesWith, Misses, SeesHistory}
use Rattle.thread_steps.specs.declared.grip.Seen.TheVariants as seen
use Rattle.monitor.proofs.CellLaws.{sight_law, look_law}

same : (n : ℕ) → n ≤ n
same n = omega arith

pub some_once : {A : Type 0} (a b : A) → ◌≡◌ {A = Option A} (Some a) (Some b) → a ≡ b
some_once {A} a b e = let out : Option A → A = λ x. elim x [ None ↦ a | Some y ↦ y ] in ap out e

pub some_none : {A : Type 0} (a : A) → ◌≡◌ {A = Option A} (Some a) None → ⊥
some_none a e = absurd cc

-- seats

pub seated : (h : Home) (s : Sitting) → raw_seats.IsSeatOf h s → IsReady s.view → IsSeatOf h s
seated h s at ready = (at.0, ap setting_of at.1, at.1, ready)

pub at_seat : (h : Home) (s : Sitting) → IsSeatOf h s → raw_seats.IsSeatOf h s
at_seat h s at = (at.0, at.2)

calm_unjoined : (m : Mark) (o : ObjectId) → calm m ≡ m → m ≢ Joined o
calm_unjoined Clear o e j = absurd cc
calm_unjoined (Joined p) o e j = absurd cc
calm_unjoined (Knows p q) o e j = absurd cc
calm_unjoined (Removed p) o e j = absurd cc

pub unjoined : (v : raw.View) → IsReady v → raw_views.IsClear v
unjoined v ready o = calm_unjoined v.mark o ready.mark

calm_twice : (m : Mark) → calm (calm m) ≡ calm m
calm_twice Clear = refl
calm_twice (Joined o) = refl
calm_twice (Knows o q) = refl
calm_twice (Removed o) = refl

pub ready_told : (v w : raw.View) (e : Event) → w ≡ told v e → IsReady v → IsReady w
ready_told v w e is ready = subst IsReady (sym is) (record { mark = calm_twice v.mark; claim = ready.claim; slots = ready.slots })

pub ready_seen : (v w : raw.View) (h : List (ℕ × Event)) → w ≡ caught_up v h → IsReady v → IsReady w
ready_seen v w h is ready = subst IsReady (sym is) (record { mark = ready.mark; claim = ready.claim; slots = ready.slots })

pub mark_told : (v w : raw.View) (e : Event) → w ≡ told v e → IsReady v → w.mark ≡ v.mark
mark_told v w e is ready = ap (λ (x : raw.View). x.mark) is ∙ ready.mark

pub ready_resumed : (v w : raw.View) (e : Event) → w ≡ resumed v e → IsReady v → IsReady w
ready_resumed v w e is ready = subst IsReady (sym is) (record { mark = refl; claim = ready.claim; slots = ready.slots })

pub ready_counted : (v w : raw.View) (n : ℕ) → w ≡ counted v n → IsReady v → IsReady w
ready_counted v w n is ready = subst IsReady (sym is) (record { mark = ready.mark; claim = ready.claim; slots = ready.slots })

pub ready_kept : (v w : raw.View) (p n : ℕ) → w ≡ keeping v p n → IsReady v → IsReady w
ready_kept v w p n is ready = subst IsReady (sym is) (record { mark = ready.mark; claim = ready.claim; slots = ready.slots })

pub ready_removed : (v w : raw.View) (o : ObjectId) → w ≡ removed v o → IsReady v → IsReady w
ready_removed v w o is ready = subst IsReady (sym is) (record { mark = refl; claim = ready.claim; slots = ready.slots })

pub ready_fattened : (v w : raw.View) (o : ObjectId) (i n : ℕ) → w ≡ fattened v o i n → i < SLOTS → IsReady v → IsReady w
ready_fattened v w o i n is low ready = subst IsReady (sym is) (record {
  mark = ready.mark;
  claim = ready.claim;
  slots = λ p j. by_test o.0 p (λ b. ◌≡◌ {A = Option ℕ} (if b then Some i else slot_of p v.fats) (Some j) → j < SLOTS)
      (λ _ e. subst (λ (z : ℕ). z < SLOTS) (some_once i j e) low) (λ _ e. ready.slots p j e);
})

-- the lock words of fat monitors

some_shape : (a b : Shape) → ◌≡◌ {A = Option Shape} (Some a) (Some b) → a ≡ b
some_shape a b e = let out : Option Shape → Shape = λ z. elim z [ None ↦ a | Some y ↦ y ] in ap out e

-- the known word of an object is fat, and where one is known its slot is
fat_known : (o : ℕ) (fats : List Named) (x : Shape) → word_of o fats ≡ Some x → (i : ℕ) × (n : ℕ) × (x ≡ thin.Fat i n) × (slot_of o fats ≡ Some i)
fat_known o [] x e = absurd cc
fat_known o (f ∷ fs) x e = by_test f.object.0 o (λ b. ◌≡◌ {A = Option Shape} (if b then Some (thin.Fat f.slot f.number) else word_of o fs) (Some x) → (i : ℕ) × (n : ℕ) × (x ≡ thin.Fat i n) × ((if b then Some f.slot else slot_of o fs) ≡ Some i))
    (λ _ d. (f.slot, f.number, sym (some_shape (thin.Fat f.slot f.number) x d), refl)) (λ _ d. fat_known o fs x d) e

-- the word that is found is the one that is known, if any
abbrev pub IsOnlyWord : raw.View → ObjectId → Shape → Type 0
IsOnlyWord v o y = (x : Shape) → word_of o.0 v.fats ≡ Some x → y ≡ x

words_fattened : (v : raw.View) (o : ObjectId) (i n : ℕ) → IsOnlyWord v o (thin.Fat i n) → KeepsWords (shown v) (shown (fattened v o i n))
words_fattened v o i n only p x h = by_test o.0 p (λ b. ◌≡◌ {A = Option Shape} (if b then Some (thin.Fat i n) else word_of p v.fats) (Some x))
    (λ at. ap Some (only x (ap (λ z. word_of z v.fats) at ∙ h))) (λ _. h)

-- events

pub after_told : (v w : raw.View) (e : Event) → w ≡ told v e → Lengthens (shown v) (shown w) (e ∷ [])
after_told v w e is = subst (λ (x : raw.View). Lengthens (shown v) (shown x) (e ∷ [])) (sym is) (record { events = refl; plan = refl; lane = refl; slots = same v.seen; stable = same (noted (lane_of v).0 v.notes); trimmed = same (noted (32 + (lane_of v).0) v.notes); stable_looks = same (times (lane_of v).0 v.notes); trimmed_looks = same (times (32 + (lane_of v).0) v.notes); fats = λ o i s. s; words = λ o x h. h; history = refl })

pub after_resumed : (v w : raw.View) (e : Event) → w ≡ resumed v e → Lengthens (shown v) (shown w) (e ∷ [])
after_resumed v w e is = subst (λ (x : raw.View). Lengthens (shown v) (shown x) (e ∷ [])) (sym is) (record { events = refl; plan = refl; lane = refl; slots = same v.seen; stable = same (noted (lane_of v).0 v.notes); trimmed = same (noted (32 + (lane_of v).0) v.notes); stable_looks = same (times (lane_of v).0 v.notes); trimmed_looks = same (times (32 + (lane_of v).0) v.notes); fats = λ o i s. s; words = λ o x h. h; history = refl })

pub after_removed : (v w : raw.View) (o : ObjectId) → w ≡ removed v o → Lengthens (shown v) (shown w) []
after_removed v w o is = subst (λ (x : raw.View). Lengthens (shown v) (shown x) []) (sym is) (record { events = refl; plan = refl; lane = refl; slots = same v.seen; stable = same (noted (lane_of v).0 v.notes); trimmed = same (noted (32 + (lane_of v).0) v.notes); stable_looks = same (times (lane_of v).0 v.notes); trimmed_looks = same (times (32 + (lane_of v).0) v.notes); fats = λ o i s. s; words = λ o x h. h; history = refl })

pub after_counted : (v w : raw.View) (n : ℕ) → w ≡ counted v n → v.seen ≤ n → Lengthens (shown v) (shown w) []
after_counted v w n is low = subst (λ (x : raw.View). Lengthens (shown v) (shown x) []) (sym is) (record { events = refl; plan = refl; lane = refl; slots = low; stable = same (noted (lane_of v).0 v.notes); trimmed = same (noted (32 + (lane_of v).0) v.notes); stable_looks = same (times (lane_of v).0 v.notes); trimmed_looks = same (times (32 + (lane_of v).0) v.notes); fats = λ o i s. s; words = λ o x h. h; history = refl })

-- the history was seen
pub after_seen : (v w : raw.View) (h : List (ℕ × Event)) → w ≡ caught_up v h → GoesOn h v.history → IsLegalHistory (setting_of v.plan) h → lane (lane_of v).0 h ≡ v.events → SeesHistory (shown v) (shown w)
after_seen v w h is goes legal part = subst (λ (x : raw.View). SeesHistory (shown v) (shown x)) (sym is) (record {
  quiet = record { events = refl; plan = refl; lane = refl; slots = same v.seen; stable = same (noted (lane_of v).0 v.notes); trimmed = same (noted (32 + (lane_of v).0) v.notes); stable_looks = same (times (lane_of v).0 v.notes); trimmed_looks = same (times (32 + (lane_of v).0) v.notes); fats = λ o i s. s; words = λ o x h. h; history = refl };
  goes_on = goes;
  legal = legal;
  part = part;
})

pub after_both : (v w x : View) (a : List Event) → Lengthens v w [] → Lengthens w x a → Lengthens v x a
after_both v w x a f s = record {
  events = s.events ∙ ap (λ (es : List Event). a ++ es) f.events;
  plan = s.plan ∙ f.plan;
  lane = s.lane ∙ f.lane;
  slots = (let p = f.slots in let q = s.slots in omega arith);
  stable = (let p = f.stable in let q = s.stable in omega arith);
  trimmed = (let p = f.trimmed in let q = s.trimmed in omega arith);
  stable_looks = (let p = f.stable_looks in let q = s.stable_looks in omega arith);
  trimmed_looks = (let p = f.trimmed_looks in let q = s.trimmed_looks in omega arith);
  fats = λ o i e. s.fats o i (f.fats o i e);
  words = λ o x h. s.words o x (f.words o x h);
  history = s.history ∙ f.history;
}

-- a note more

noted_more : (p q n : ℕ) (notes : List Note) → (q ≡ p → noted p notes ≤ n) → noted p notes ≤ noted p (record { post = q; number = n } ∷ notes)
noted_more p q n notes low = by_test q p (λ b. noted p notes ≤ (if b then n else noted p notes)) low (λ _. same (noted p notes))

times_more : (p q n : ℕ) (notes : List Note) → times p notes ≤ times p (record { post = q; number = n } ∷ notes)
times_more p q n notes = by_test q p (λ b. times p notes ≤ (if b then times p notes + 1 else times p notes)) (λ _. omega arith) (λ _. omega arith)

times_here : (p n : ℕ) (notes : List Note) → times p notes < times p (record { post = p; number = n } ∷ notes)
times_here p n notes = by_test p p (λ b. times p notes < (if b then times p notes + 1 else times p notes)) (λ _. omega arith) (λ ne. absurd (ne refl))

-- a published number was read
after_noted : (v w : raw.View) (q n : ℕ) → w ≡ keeping v q n → (q ≡ (lane_of v).0 → noted (lane_of v).0 v.notes ≤ n) → (q ≡ 32 + (lane_of v).0 → noted (32 + (lane_of v).0) v.notes ≤ n) → Lengthens (shown v) (shown w) []
after_noted v w q n is stable trimmed = subst (λ (x : raw.View). Lengthens (shown v) (shown x) []) (sym is) (record {
  events = refl;
  plan = refl;
  lane = refl;
  slots = same v.seen;
  stable = noted_more (lane_of v).0 q n v.notes stable;
  trimmed = noted_more (32 + (lane_of v).0) q n v.notes trimmed;
  stable_looks = times_more (lane_of v).0 q n v.notes;
  trimmed_looks = times_more (32 + (lane_of v).0) q n v.notes;
  fats = λ o i s. s;
  words = λ o x h. h;
  history = refl;
})

pub after_stable : (v w : raw.View) (n : ℕ) → w ≡ keeping v (lane_of v).0 n → noted (lane_of v).0 v.notes ≤ n → Lengthens (shown v) (shown w) []
after_stable v w n is low = after_noted v w (lane_of v).0 n is (λ _. low) (λ e. absurd (omega (arith, e)))

pub after_trimmed : (v w : raw.View) (n : ℕ) → w ≡ keeping v (32 + (lane_of v).0) n → noted (32 + (lane_of v).0) v.notes ≤ n → Lengthens (shown v) (shown w) []
after_trimmed v w n is low = after_noted v w (32 + (lane_of v).0) n is (λ e. absurd (omega (arith, e))) (λ _. low)

pub stable_looked : (v w : raw.View) (n : ℕ) → w ≡ keeping v (lane_of v).0 n → (shown v).stable_looks < (shown w).stable_looks
stable_looked v w n is = subst (λ (x : raw.View). (shown v).stable_looks < (shown x).stable_looks) (sym is) (times_here (lane_of v).0 n v.notes)

pub trimmed_looked : (v w : raw.View) (n : ℕ) → w ≡ keeping v (32 + (lane_of v).0) n → (shown v).trimmed_looks < (shown w).trimmed_looks
trimmed_looked v w n is = subst (λ (x : raw.View). (shown v).trimmed_looks < (shown x).trimmed_looks) (sym is) (times_here (32 + (lane_of v).0) n v.notes)

-- the slot that a fat lock word names is the one that is known
IsOnly : raw.View → ObjectId → ℕ → Type 0
IsOnly v o i = (j : ℕ) → slot_of o.0 v.fats ≡ Some j → i ≡ j

pub after_fattened : (v w : raw.View) (o : ObjectId) (i n : ℕ) → w ≡ fattened v o i n → ((j : ℕ) → slot_of o.0 v.fats ≡ Some j → i ≡ j) → IsOnlyWord v o (thin.Fat i n) → Lengthens (shown v) (shown w) []
after_fattened v w o i n is only word = subst (λ (x : raw.View). Lengthens (shown v) (shown x) []) (sym is) (record {
  events = refl;
  plan = refl;
  lane = refl;
  slots = same v.seen;
  stable = same (noted (lane_of v).0 v.notes);
  trimmed = same (noted (32 + (lane_of v).0) v.notes);
  stable_looks = same (times (lane_of v).0 v.notes);
  trimmed_looks = same (times (32 + (lane_of v).0) v.notes);
  fats = λ p j s. by_test o.0 p (λ b. ◌≡◌ {A = Option ℕ} (if b then Some i else slot_of p v.fats) (Some j)) (λ e. ap Some (only j (ap (λ z. slot_of z v.fats) e ∙ s))) (λ _. s);
  words = words_fattened v o i n word;
  history = refl;
})

-- a look that met a lock word that names a slot
pub after_named : (v w : raw.View) (o : ObjectId) (i n : ℕ) → w ≡ fattened v o i n → IsNews v o (thin.Fat i n) → Lengthens (shown v) (shown w) []
after_named v w o i n is news = after_fattened v w o i n is news.1 (λ x h. let k = fat_known o.0 v.fats x h in news.2 k.0 k.1 (h ∙ ap Some k.2) ∙ sym k.2)

pub after_looked : (v w : raw.View) (o : ObjectId) (x : Shape) (i n : ℕ) → x ≡ thin.Fat i n → w ≡ looked v o x → IsNews v o x → Lengthens (shown v) (shown w) []
after_looked v w o x i n at is news = after_named v w o i n (is ∙ ap (looked v o) at) (subst (IsNews v o) at news)

-- a look that met such a word, and then one at the fat word
pub after_looks : (v u w : raw.View) (o : ObjectId) (x : Shape) (f : FatShape) (i n : ℕ) → x ≡ thin.Fat i n → u ≡ looked v o x → IsNews v o x → w ≡ told u (Look o (fat_sight f)) → Lengthens (shown v) (shown w) (Look o (sight_of x (Some f)) ∷ [])
after_looks v u w o x f i n at is news told_fat = subst (λ (z : Shape). Lengthens (shown v) (shown w) (Look o (sight_of z (Some f)) ∷ [])) (sym at)
    (after_both (shown v) (shown u) (shown w) (Look o (fat_sight f) ∷ []) (after_looked v u o x i n at is news) (after_told u w (Look o (fat_sight f)) told_fat))

-- an inflation, of a monitor of which no slot was known
pub after_inflated : (v w : raw.View) (o : ObjectId) (c i n : ℕ) → v.seen ≤ c → slot_of o.0 v.fats ≡ None → w ≡ fattened (counted v c) o i n → Lengthens (shown v) (shown w) []
after_inflated v w o c i n low none is = after_both (shown v) (shown (counted v c)) (shown w) [] (after_counted v (counted v c) c refl low)
    (after_fattened (counted v c) w o i n is (λ j h. absurd (some_none j (sym h ∙ none))) (λ x h. let k = fat_known o.0 v.fats x h in absurd (some_none k.0 (sym k.3 ∙ none))))

-- grips

pub kept : (v w : View) (g : Grip) → w.plan ≡ v.plan → hold w g.object.0 ≡ hold v g.object.0 → slot_in g.object.0 w.fats ≡ slot_in g.object.0 v.fats → Keeps v g → Keeps w g
kept v w g plan held slot m = record {
  low = subst (λ k. g.object.0 < k.objects) (sym plan) m.low;
  hold = held ∙ m.hold;
  some = m.some;
  few = m.few;
  number = subst (λ k. g.number < k.last) (sym plan) m.number;
  slot = slot ∙ m.slot;
}

-- the event leaves the holds on other objects
abbrev HoldsElse : raw.View → Event → ℕ → Type 0
HoldsElse v e o = (q : ℕ) → q ≢ o → (own (e ∷ v.events)).hold q ≡ (own v.events).hold q

-- the event leaves all holds
abbrev HoldsSame : raw.View → Event → Type 0
HoldsSame v e = (q : ℕ) → (own (e ∷ v.events)).hold q ≡ (own v.events).hold q

pub each_told : (v w : raw.View) (e : Event) → w ≡ told v e → HoldsSame v e → KeepsEach (shown v) (shown w)
each_told v w e is holds = subst (λ (x : raw.View). KeepsEach (shown v) (shown x)) (sym is) (λ g m. kept (shown v) (shown (told v e)) g refl (holds g.object.0) refl m)

pub others_told : (v w : raw.View) (e : Event) (o : ℕ) → w ≡ told v e → HoldsElse v e o → KeepsOthers (shown v) (shown w) o
others_told v w e o is holds = subst (λ (x : raw.View). KeepsOthers (shown v) (shown x) o) (sym is) (λ g ne m. kept (shown v) (shown (told v e)) g refl (holds g.object.0 ne) refl m)

pub others_resumed : (v w : raw.View) (e : Event) (o : ℕ) → w ≡ resumed v e → HoldsElse v e o → KeepsOthers (shown v) (shown w) o
others_resumed v w e o is holds = subst (λ (x : raw.View). KeepsOthers (shown v) (shown x) o) (sym is) (λ g ne m. kept (shown v) (shown (resumed v e)) g refl (holds g.object.0 ne) refl m)

pub others_of_each : (v w : View) (o : ℕ) → KeepsEach v w → KeepsOthers v w o
others_of_each v w o each g ne m = each g m

pub each_both : (v w x : View) → KeepsEach v w → KeepsEach w x → KeepsEach v x
each_both v w x a b g m = b g (a g m)

pub others_both : (v w x : View) (o : ℕ) → KeepsOthers v w o → KeepsOthers w x o → KeepsOthers v x o
others_both v w x o a b g ne m = b g ne (a g ne m)

pub each_counted : (v w : raw.View) (n : ℕ) → w ≡ counted v n → KeepsEach (shown v) (shown w)
each_counted v w n is = subst (λ (x : raw.View). KeepsEach (shown v) (shown x)) (sym is) (λ g m. kept (shown v) (shown (counted v n)) g refl refl refl m)

pub each_removed : (v w : raw.View) (o : ObjectId) → w ≡ removed v o → KeepsEach (shown v) (shown w)
each_removed v w o is = subst (λ (x : raw.View). KeepsEach (shown v) (shown x)) (sym is) (λ g m. kept (shown v) (shown (removed v o)) g refl refl refl m)

pub each_kept : (v w : raw.View) (p n : ℕ) → w ≡ keeping v p n → KeepsEach (shown v) (shown w)
each_kept v w p n is = subst (λ (x : raw.View). KeepsEach (shown v) (shown x)) (sym is) (λ g m. kept (shown v) (shown (keeping v p n)) g refl refl refl m)

pub each_seen : (v w : raw.View) (h : List (ℕ × Event)) → w ≡ caught_up v h → KeepsEach (shown v) (shown w)
each_seen v w h is = subst (λ (x : raw.View). KeepsEach (shown v) (shown x)) (sym is) (λ g m. kept (shown v) (shown (caught_up v h)) g refl refl refl m)

slot_fattened : (v : raw.View) (o : ObjectId) (i n p : ℕ) → o.0 ≢ p → slot_of p (fattened v o i n).fats ≡ slot_of p v.fats
slot_fattened v o i n p ne = by_test o.0 p (λ b. (if b then Some i else slot_of p v.fats) ≡ slot_of p v.fats) (λ e. absurd (ne e)) (λ _. refl)

pub slot_here : (v : raw.View) (o : ObjectId) (i n : ℕ) → slot_of o.0 (fattened v o i n).fats ≡ Some i
slot_here v o i n = by_test o.0 o.0 (λ b. (if b then Some i else slot_of o.0 v.fats) ≡ Some i) (λ _. refl) (λ ne. absurd (ne refl))

pub others_fattened : (v w : raw.View) (o : ObjectId) (i n : ℕ) → w ≡ fattened v o i n → KeepsOthers (shown v) (shown w) o.0
others_fattened v w o i n is = subst (λ (x : raw.View). KeepsOthers (shown v) (shown x) o.0) (sym is) (λ g ne m. kept (shown v) (shown (fattened v o i n)) g refl refl (slot_fattened v o i n g.object.0 (λ e. ne (sym e))) m)

option_cases : (x : Option ℕ) → (x ≡ None) ⊎ ((j : ℕ) × (x ≡ Some j))
option_cases None = inl refl
option_cases (Some j) = inr (j, refl)

pub each_fattened : (v w : raw.View) (o : ObjectId) (i n : ℕ) → w ≡ fattened v o i n → IsNews v o (thin.Fat i n) → KeepsEach (shown v) (shown w)
each_fattened v w o i n is news = subst (λ (x : raw.View). KeepsEach (shown v) (shown x)) (sym is) (λ g m. kept (shown v) (shown (fattened v o i n)) g refl refl
    (by_test o.0 g.object.0 (λ b. (if b then Some i else slot_of g.object.0 v.fats) ≡ slot_of g.object.0 v.fats)
    (λ at. subst (λ (p : ℕ). Some i ≡ slot_of p v.fats) at (⊎_elim
    (λ (none : slot_of o.0 v.fats ≡ None). absurd (some_none (record { count = g.count; number = g.number }) (sym m.hold ∙ ap (own v.events).hold (sym at) ∙ news.0 none)))
    (λ (s : (j : ℕ) × (slot_of o.0 v.fats ≡ Some j)). ap Some (news.1 s.0 s.1) ∙ sym s.1) (option_cases (slot_of o.0 v.fats))))
    (λ _. refl)) m)

-- an event changes the hold on its object alone

set_there : {A : Type 0} (f : ℕ → A) (k : ℕ) (v : A) → with_at f k v k ≡ v
set_there f k v = by_test k k (λ b. (if b then v else f k) ≡ v) (λ _. refl) (λ ne. absurd (ne refl))

set_else : {A : Type 0} (f : ℕ → A) (k : ℕ) (v : A) (i : ℕ) → i ≢ k → with_at f k v i ≡ f i
set_else f k v i ne = by_test k i (λ b. (if b then v else f i) ≡ f i) (λ e. absurd (ne (sym e))) (λ _. refl)

pub enter_else : (v : raw.View) (o : ObjectId) (n : ℕ) → HoldsElse v (Enter o n) o.0
enter_else v o n q ne = set_else (own v.events).hold o.0 (Some (record { count = 1; number = n })) q ne

pub enter_there : (v : raw.View) (o : ObjectId) (n : ℕ) → (own (Enter o n ∷ v.events)).hold o.0 ≡ Some (record { count = 1; number = n })
enter_there v o n = set_there (own v.events).hold o.0 (Some (record { count = 1; number = n }))

pub nested_else : (v : raw.View) (o : ObjectId) → HoldsElse v (NestedEnter o) o.0
nested_else v o q ne = set_else (own v.events).hold o.0 (option_map more ((own v.events).hold o.0)) q ne

pub nested_there : (v : raw.View) (o : ObjectId) (h : Hold) → (own v.events).hold o.0 ≡ Some h → (own (NestedEnter o ∷ v.events)).hold o.0 ≡ Some (more h)
nested_there v o h is = set_there (own v.events).hold o.0 (option_map more ((own v.events).hold o.0)) ∙ ap (option_map more) is

pub unnested_else : (v : raw.View) (o : ObjectId) → HoldsElse v (NestedExit o) o.0
unnested_else v o q ne = set_else (own v.events).hold o.0 (option_map less ((own v.events).hold o.0)) q ne

pub unnested_there : (v : raw.View) (o : ObjectId) (h : Hold) → (own v.events).hold o.0 ≡ Some h → (own (NestedExit o ∷ v.events)).hold o.0 ≡ Some (less h)
unnested_there v o h is = set_there (own v.events).hold o.0 (option_map less ((own v.events).hold o.0)) ∙ ap (option_map less) is

pub exit_else : (v : raw.View) (o : ObjectId) (n : ℕ) → HoldsElse v (Exit o n) o.0
exit_else v o n q ne = set_else (own v.events).hold o.0 None q ne

pub wait_else : (v : raw.View) (o : ObjectId) (n : ℕ) → HoldsElse v (Wait o n) o.0
wait_else v o n q ne = set_else (own v.events).hold o.0 None q ne

pub resume_else : (v : raw.View) (o : ObjectId) (n : ℕ) → HoldsElse v (Resume o n) o.0
resume_else v o n q ne = set_else (own v.events).hold o.0 (Some (record { count = pause_count (own v.events).pause; number = n })) q ne

pub resume_there : (v : raw.View) (o : ObjectId) (n c : ℕ) → (own v.events).pause ≡ Some (record { object = o.0; count = c }) → (own (Resume o n ∷ v.events)).hold o.0 ≡ Some (record { count = c; number = n })
resume_there v o n c is = set_there (own v.events).hold o.0 (Some (record { count = pause_count (own v.events).pause; number = n })) ∙ ap (λ (p : Option Pause). Some (record { count = pause_count p; number = n })) is

-- looks

pub agrees_told : (v w : raw.View) (o : ObjectId) (owner : Option Lane) (c n : ℕ) → w ≡ told v (Look o (Found owner c n)) → Stands w → AgreesWith (shown w) o (Found owner c n)
agrees_told v w o owner c n is st = subst (λ (x : raw.View). AgreesWith (shown x) o (Found owner c n)) (sym is) (sight_law v o owner c n (subst Stands is st))

pub agrees_looked : (v w : raw.View) (o : ObjectId) (x : Shape) → w ≡ looked v o x → Stands w → slot_named x ≡ None → AgreesWith (shown w) o (sight_of x None)
agrees_looked v w o (thin.Free n) is st s = agrees_told v w o None 0 n is st
agrees_looked v w o (thin.Thin t a n) is st s = agrees_told v w o (Some (record { 0 = t - 1 })) (a + 1) n is st
agrees_looked v w o (thin.Fat i n) is st s = absurd (some_none i s)

pub agrees_fat : (v w : raw.View) (o : ObjectId) (y : FatShape) → w ≡ told v (Look o (fat_sight y)) → Stands w → AgreesWith (shown w) o (fat_sight y)
agrees_fat v w o (fat.Free n) is st = agrees_told v w o None 0 n is st
agrees_fat v w o (fat.Held t a n) is st = agrees_told v w o (Some (record { 0 = t - 1 })) (a + 1) n is st

pub agrees_through : (v w : raw.View) (o : ObjectId) (x : Shape) (y : FatShape) (i : ℕ) → w ≡ told v (Look o (fat_sight y)) → Stands w → slot_named x ≡ Some i → AgreesWith (shown w) o (sight_of x (Some y))
agrees_through v w o (thin.Free n) y i is st s = absurd (some_none i (sym s))
agrees_through v w o (thin.Thin t a n) y i is st s = absurd (some_none i (sym s))
agrees_through v w o (thin.Fat j n) y i is st s = agrees_fat v w o y is st

-- misses

not_own : (v : raw.View) (o : ObjectId) (t a m : ℕ) → Stands (told v (Look o (Found (Some (record { 0 = t - 1 })) (a + 1) m))) → (own v.events).hold o.0 ≡ None → lane_of_thread t ≢ lane_of v
not_own v o t a m st free me = some_none (record { count = a + 1; number = m }) (sym (look_law v o (lane_of_thread t) (a + 1) m me st) ∙ free)

-- of an object of which no slot was known it isn't known since when
met_none : (o : ℕ) (fats : List Named) → slot_of o fats ≡ None → met_at o fats ≡ None
met_none o [] e = refl
met_none o (f ∷ fs) e = by_test f.object.0 o (λ b. (if b then Some f.slot else slot_of o fs) ≡ None → first_of (met_at o fs) (if b then Some f.since else None) ≡ None)
    (λ _ some. absurd (some_none f.slot some)) (λ _ none. ap (λ z. first_of z None) (met_none o fs none)) e

-- a monitor of which no slot was known is met now
met_here : (v : raw.View) (o : ObjectId) (i n : ℕ) → slot_of o.0 v.fats ≡ None → met_at o.0 (fattened v o i n).fats ≡ Some (length v.events)
met_here v o i n none = ap (λ z. first_of z (if o.0 == o.0 then Some (length v.events) else None)) (met_none o.0 v.fats none) ∙ by_test o.0 o.0 (λ b. (if b then Some (length v.events) else None) ≡ Some (length v.events)) (λ _. refl) (λ ne. absurd (ne refl))

thin_missed : (v : raw.View) (o : ObjectId) (n : ℕ) (x : Shape) → IsNews v o x → Stands (looked v o x) → x ≢ thin.Free n → (own v.events).hold o.0 ≡ None → slot_of o.0 v.fats ≡ None → Misses (shown v) (shown (looked v o x)) o n (seen.Lock x)
thin_missed v o n (thin.Free m) news st ne free none = record { told = after_told v (looked v o (thin.Free m)) (Look o (Found None 0 m)) refl; another = (λ e. ne (ap thin.Free e), none) }
thin_missed v o n (thin.Thin t a m) news st ne free none = record { told = after_told v (looked v o (thin.Thin t a m)) (Look o (Found (Some (record { 0 = t - 1 })) (a + 1) m)) refl; another = (not_own v o t a m st free, none) }
thin_missed v o n (thin.Fat i m) news st ne free none = record { told = after_named v (fattened v o i m) o i m refl news; another = (slot_here v o i m, met_here v o i m none) }

pub misses_thin : (v w : raw.View) (o : ObjectId) (n : ℕ) (x : Shape) → w ≡ looked v o x → IsNews v o x → Stands w → x ≢ thin.Free n → (own v.events).hold o.0 ≡ None → slot_of o.0 v.fats ≡ None → Misses (shown v) (shown w) o n (seen.Lock x)
misses_thin v w o n x is news st ne free none = subst (λ (z : raw.View). Misses (shown v) (shown z) o n (seen.Lock x)) (sym is) (thin_missed v o n x news (subst Stands is st) ne free none)

fat_missed : (v : raw.View) (o : ObjectId) (n : ℕ) (y : FatShape) → Stands (told v (Look o (fat_sight y))) → y ≢ fat.Free n → (own v.events).hold o.0 ≡ None → Misses (shown v) (shown (told v (Look o (fat_sight y)))) o n (seen.Fat y)
fat_missed v o n (fat.Free m) st ne free = record { told = after_told v (told v (Look o (fat_sight (fat.Free m)))) (Look o (Found None 0 m)) refl; another = λ e. ne (ap fat.Free e) }
fat_missed v o n (fat.Held t a m) st ne free = record { told = after_told v (told v (Look o (fat_sight (fat.Held t a m)))) (Look o (Found (Some (record { 0 = t - 1 })) (a + 1) m)) refl; another = not_own v o t a m st free }

pub misses_fat : (v w : raw.View) (o : ObjectId) (n : ℕ) (y : FatShape) → w ≡ told v (Look o (fat_sight y)) → Stands w → y ≢ fat.Free n → (own v.events).hold o.0 ≡ None → Misses (shown v) (shown w) o n (seen.Fat y)
misses_fat v w o n y is st ne free = subst (λ (z : raw.View). Misses (shown v) (shown z) o n (seen.Fat y)) (sym is) (fat_missed v o n y (subst Stands is st) ne free)

-- a lock word that names a slot, once it was met

word_here : (v : raw.View) (o : ObjectId) (i n : ℕ) → word_of o.0 (fattened v o i n).fats ≡ Some (thin.Fat i n)
word_here v o i n = by_test o.0 o.0 (λ b. (if b then Some (thin.Fat i n) else word_of o.0 v.fats) ≡ Some (thin.Fat i n)) (λ _. refl) (λ ne. absurd (ne refl))

lasts_at : (v : raw.View) (o : ObjectId) (x : Shape) → IsLasting (shown (looked v o x)) o x
lasts_at v o (thin.Free n) = tt
lasts_at v o (thin.Thin t a n) = tt
lasts_at v o (thin.Fat i n) = word_here v o i n

pub lasts_looked : (v w : raw.View) (o : ObjectId) (x : Shape) → w ≡ looked v o x → IsLasting (shown w) o x
lasts_looked v w o x is = subst (λ (z : raw.View). IsLasting (shown z) o x) (sym is) (lasts_at v o x)

pub lasts_still : (v w : View) (o : ObjectId) (x : Shape) → KeepsWords v w → IsLasting v o x → IsLasting w o x
lasts_still v w o (thin.Free n) k h = tt
lasts_still v w o (thin.Thin t a n) k h = tt
lasts_still v w o (thin.Fat i n) k h = k o.0 (thin.Fat i n) h
