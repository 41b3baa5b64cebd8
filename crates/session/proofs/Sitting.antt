-- All that a session keeps, as its view grows.
use Rattle.std.proofs.Common.{ℕ, ◌≡◌, ◌≢◌, ◌+◌, ◌<◌, ◌≤◌, ◌==◌, ◌⊎◌, inl, inr, if◌then◌else◌, Bool, true, false, List, [], ◌∷◌, ◌++◌, length, map, Some, None, refl, sym, ap, ◌∙◌, subst, arith}
use Rattle.heap_model.specs.declared.ids.ObjectId.{ObjectId}
use Rattle.heap_model.specs.declared.ids.FieldId.{FieldId}
use Rattle.heap_model.specs.declared.record.Record.{Record}
use Rattle.heap_model.specs.declared.record.Record.TheVariants.{Acq, Put}
use Rattle.heap_model.specs.declared.event.Event.{Event}
use Rattle.heap_model.specs.declared.event.Event.TheVariants.{Enter, Store}
use Rattle.heap_model.specs.History.{logged}
use Rattle.heap_model.specs.Own.{Hold, Own, own, own_after, own_log, with_own}
use Rattle.heap_model.specs.Limits.{IsWithinLimits}
use Rattle.heap_model.specs.Setting.{Setting}
use Rattle.heap_model.specs.declared.limits.TheConstants.{SECTION_RECORDS, RING_RECORDS, LAST_PLACE}
use Rattle.session.specs.declared.limits.TheConstants.{MOST_HELD}
use Rattle.heap_model.specs.Sections as sections
use Rattle.heap_model.specs.Sections.{Frees, Stores, action, holding, without}
use Rattle.thread_steps.specs.Views.{View}
use Rattle.thread_steps.specs.declared.grip.Grip.{Grip}
use Rattle.thread_steps.specs.Views.{hold, Keeps, KeepsEach, KeepsOthers, Lengthens, SeesHistory, Takes, IsAwake, IsClear}
use Rattle.session.specs.Grips.{grip_in, with_grip, without_grip}
use Rattle.session.specs.Sits.{Holds, IsTold, IsWithin, HasRoom, Sits, Stays}
use Rattle.session.specs.Calls.{IsFull, IsBehind, IsWaitWorn, LacksRoom, records_of}
use Rattle.session.specs.Logs.{log_in, actions_in, held_objects, held_count, place}
use Rattle.session.proofs.GripLists.{by_test, with_length, without_length}
use Rattle.session.proofs.Holding.{still_holds, changed_holds, more_holds, fewer_holds, held_length}
use Rattle.std.proofs.lemmas.List.{length-reverse}
use Rattle.session.proofs.Lengthening.{set_else, pause_after, logs_after, held_stays, place_stays}
use Rattle.session.specs.Past.{BeganBelow}
use Rattle.session.proofs.Pasts.{limits_same, limits_more, began_same, began_more, began_inside, began_rises}
use Rattle.session.proofs.Telling.{still_told, told_taken, told_stored, told_freed}

-- events that tell nothing of holds, and aren't logged
pub sits_silent : (v w : View) (newer : List Event) (gs : List Grip) (s : List Record) (free r p k c t : ℕ) →
    Lengthens v w newer → KeepsEach v w → IsClear w → own_log v.plan (newer ++ v.events) ≡ log_in v → own (newer ++ v.events) ≡ own v.events →
    Sits v gs s free r p k c t → Sits w gs s free r p k c t
sits_silent v w newer gs s free r p k c t told each clear log same x =
    let logs = logs_after v w newer told ∙ log in
    let owns : own w.events ≡ own v.events = ap own told.events ∙ same in let y = x.stays in record {
      stays = record {
        holds = still_holds v w gs each (λ o. ap (λ (u : Own). u.hold o) owns) (ap (λ (l : List Record). holding (map action l)) logs) y.holds;
        told = still_told v w s r p k logs y.told;
        within = y.within;
        room = y.room;
        known = (let a = y.known in let b = told.trimmed in omega arith);
        limits = limits_same v w logs y.limits;
        began = began_same (t + c) v w logs y.began;
      };
      idle = (ap (λ (u : Own). u.pause) owns ∙ x.idle.0, clear);
    }

-- the history was seen

keeps_but : (w : View) (h : List (ℕ × Event)) (g : Grip) → Keeps w g → Keeps (record w { history = h }) g
keeps_but w h g m = record { low = m.low; hold = m.hold; some = m.some; few = m.few; number = m.number; slot = m.slot }

keeps_back : (w : View) (h : List (ℕ × Event)) (g : Grip) → Keeps (record w { history = h }) g → Keeps w g
keeps_back w h g m = record { low = m.low; hold = m.hold; some = m.some; few = m.few; number = m.number; slot = m.slot }

pub sits_seen : (v w : View) (gs : List Grip) (s : List Record) (free r p k c t : ℕ) → SeesHistory v w → KeepsEach v w → w.mark ≡ v.mark → Sits v gs s free r p k c t → Sits w gs s free r p k c t
sits_seen v w gs s free r p k c t sees each mark x =
    let y = sits_silent v (record w { history = v.history }) [] gs s free r p k c t sees.quiet (λ g m. keeps_but w v.history g (each g m)) (mark ∙ x.idle.1) refl refl x in let z = y.stays in record {
      stays = record {
        holds = record { keeps = λ o g there. keeps_back w v.history g (z.holds.keeps o g there); free = z.holds.free; listed = z.holds.listed; apart = z.holds.apart };
        told = record { sent = z.told.sent; records = z.told.records; places = z.told.places; sections = z.told.sections };
        within = z.within;
        room = z.room;
        known = z.known;
        limits = z.limits;
        began = z.began;
      };
      idle = y.idle;
    }

-- how the room goes on with one record more
room_less : (r p c t free more : ℕ) → more + 1 ≡ free → HasRoom r p c t free → HasRoom (r + 1) (p + 1) c t more
room_less r p c t free more e h = record {
  lane = (let a = h.lane in omega arith);
  ring = (let a = h.ring in omega arith);
  low = (let a = h.low in omega arith);
}

-- a field was stored to
pub sits_stored : (v w : View) (f : FieldId) (before after : ℕ) (gs : List Grip) (s pushed : List Record) (free more r p k c t : ℕ) →
    v.plan.is_logged f.0 ≡ true → pushed ≡ s ++ Put f before after ∷ [] → Lengthens v w (Store f before after ∷ []) → KeepsEach v w → IsClear w → 0 < length gs → r + length gs + 1 ≤ SECTION_RECORDS → free ≡ more + 1 →
    Sits v gs s free r p k c t → Sits w gs pushed more (r + 1) (p + 1) k c t
sits_stored v w f before after gs s pushed free more r p k c t is_logged sent told each clear some short push x =
    let logs : log_in w ≡ Put f before after ∷ log_in v = logs_after v w (Store f before after ∷ []) told ∙ ap (λ b. with_own (if b then Some (Put f before after) else None) (log_in v)) is_logged in
    let owns : own w.events ≡ own v.events = ap own told.events in
    let y = x.stays in
    let n = held_length v gs y.holds in
    let full : HasRoom r p c t free = y.room some in record {
      stays = record {
        holds = still_holds v w gs each (λ o. ap (λ (u : Own). u.hold o) owns) (ap (λ (l : List Record). holding (map action l)) logs) y.holds;
        told = subst (λ xs. IsTold w xs (r + 1) (p + 1) k) (sym sent) (told_stored v w s r p k (Put f before after) logs refl (λ none. absurd (omega arith)) y.told);
        within = (let was = y.within in let low = full.low in let few = was.few in let ended = was.ended in record { short = omega arith; few = few; closed = λ none. absurd (omega arith); low = omega arith; ended = omega arith; capacity = was.capacity });
        room = λ _. room_less r p c t free more (sym push) full;
        known = (let a = y.known in let b = told.trimmed in omega arith);
        limits = limits_more v w (Put f before after) Stores logs refl (let m = y.told.records in omega arith) y.limits;
        began = began_inside (t + c) v w (Put f before after) logs (omega arith) y.began;
      };
      idle = (ap (λ (u : Own). u.pause) owns ∙ x.idle.0, clear);
    }

-- a transient field was stored to
pub sits_alone : (v w : View) (f : FieldId) (before after : ℕ) (gs : List Grip) (s : List Record) (free r p k c t : ℕ) →
    v.plan.is_logged f.0 ≡ false → Lengthens v w (Store f before after ∷ []) → KeepsEach v w → IsClear w → Sits v gs s free r p k c t → Sits w gs s free r p k c t
sits_alone v w f before after gs s free r p k c t transient told each clear x =
    sits_silent v w (Store f before after ∷ []) gs s free r p k c t told each clear (ap (λ b. with_own (if b then Some (Put f before after) else None) (log_in v)) transient) refl x

-- a monitor was taken, by an enter or a resume
pub sits_taken : (v w : View) (e : Event) (o : ObjectId) (n count : ℕ) (g : Grip) (gs held : List Grip) (s pushed : List Record) (free more r p k c t : ℕ) →
    held ≡ g ∷ gs → pushed ≡ s ++ Acq o n ∷ [] → Takes v w e o count n g → KeepsOthers v w o.0 → IsClear w → IsAwake w → logged v.plan e ≡ Some (Acq o n) → ((q : ℕ) → o.0 ≢ q → (own (e ∷ v.events)).hold q ≡ hold v q) →
    grip_in o.0 gs ≡ None → length gs < MOST_HELD → r + length gs + 2 ≤ SECTION_RECORDS → free ≡ more + 1 → HasRoom r p c t free →
    Holds v gs → IsTold v s r p k → IsWithin (length gs) r p k c → t ≤ v.trimmed → IsWithinLimits (actions_in v) → BeganBelow (t + c) (actions_in v) →
    Sits w held pushed more (r + 1) (p + 1) k c t
sits_taken v w e o n count g gs held s pushed free more r p k c t now sent takes others clear awake is elsewhere none few short push full holds told within known limits began =
    let logs : log_in w ≡ Acq o n ∷ log_in v = logs_after v w (e ∷ []) takes.told ∙ ap (λ x. with_own x (log_in v)) is in
    subst (λ hs. Sits w hs pushed more (r + 1) (p + 1) k c t) (sym now) (record {
      stays = record {
        holds = more_holds v w gs g o.0 others takes.keeps (ap (λ (z : ObjectId). z.0) takes.object) none
            (λ q ne. ap (λ (l : List Event). (own l).hold q) takes.told.events ∙ elsewhere q ne) (ap (λ (l : List Record). holding (map action l)) logs) holds;
        told = subst (λ xs. IsTold w xs (r + 1) (p + 1) k) (sym sent) (told_taken v w s r p k o.0 n (Acq o n) logs refl told);
        within = (let low = full.low in let ended = within.ended in record { short = omega arith; few = omega arith; closed = λ none. absurd (omega arith); low = omega arith; ended = omega arith; capacity = within.capacity });
        room = λ _. room_less r p c t free more (sym push) full;
        known = (let b = takes.told.trimmed in omega arith);
        limits = limits_more v w (Acq o n) (sections.Takes o.0 n) logs refl (let m = told.records in let l = held_length v gs holds in omega arith) limits;
        began = began_more (t + c) v w (Acq o n) logs (λ none. begins none) began;
      };
      idle = (awake, clear);
    })
  where
    begins : held_count v ≡ 0 → (place v + SECTION_RECORDS ≤ t + c) × (place v < LAST_PLACE)
    begins none = let l = held_length v gs holds in let z = within.closed (omega arith) in let m = told.places in let lane = full.lane in let low = full.low in (omega arith, omega arith)

-- a section is full just where its records and its grips say so
pub full_by : (v : View) (gs : List Grip) (s : List Record) (free r p k c t more : ℕ) → Sits v gs s free r p k c t → SECTION_RECORDS < r + length gs + more → IsFull v more
full_by v gs s free r p k c t more x lt = (let a = x.stays.told.records in let b = held_length v gs x.stays.holds in omega arith)

pub not_full_by : (v : View) (gs : List Grip) (s : List Record) (free r p k c t more : ℕ) → Sits v gs s free r p k c t → r + length gs + more ≤ SECTION_RECORDS → IsFull v more → ⊥
not_full_by v gs s free r p k c t more x le full = (let a = x.stays.told.records in let b = held_length v gs x.stays.holds in omega arith)

-- a store that logs keep makes one record, and one that they don't none
pub one_record : (s : Setting) (f : FieldId) → s.is_logged f.0 ≡ true → records_of s f ≡ 1
one_record s f e = ap (λ (b : Bool). if b then 1 else 0) e

pub no_record : (s : Setting) (f : FieldId) → s.is_logged f.0 ≡ false → records_of s f ≡ 0
no_record s f e = ap (λ (b : Bool). if b then 1 else 0) e

-- the room for so many records is lacking just where the section's records and its grips say so; for none it never is
pub lacks_by : (v : View) (gs : List Grip) (s : List Record) (free r p k c t more : ℕ) → Sits v gs s free r p k c t → SECTION_RECORDS < r + length gs + more → LacksRoom v more
lacks_by v gs s free r p k c t more x lt = (let a = x.stays.within.short in omega arith, full_by v gs s free r p k c t more x lt)

pub not_lacks_by : (v : View) (gs : List Grip) (s : List Record) (free r p k c t more : ℕ) → Sits v gs s free r p k c t → r + length gs + more ≤ SECTION_RECORDS → LacksRoom v more → ⊥
not_lacks_by v gs s free r p k c t more x le lacks = not_full_by v gs s free r p k c t more x le lacks.1

-- the same for one store, by whether logs keep it
pub lacks_one : (v : View) (f : FieldId) → v.plan.is_logged f.0 ≡ true → LacksRoom v 1 → LacksRoom v (records_of v.plan f)
lacks_one v f is lacks = subst (λ n. LacksRoom v n) (sym (one_record v.plan f is)) lacks

pub not_lacks_one : (v : View) (f : FieldId) → v.plan.is_logged f.0 ≡ true → (LacksRoom v 1 → ⊥) → LacksRoom v (records_of v.plan f) → ⊥
not_lacks_one v f is not lacks = not (subst (λ n. LacksRoom v n) (one_record v.plan f is) lacks)

pub not_lacks_none : (v : View) (f : FieldId) → v.plan.is_logged f.0 ≡ false → LacksRoom v (records_of v.plan f) → ⊥
not_lacks_none v f transient lacks = let none = no_record v.plan f transient in let some = lacks.0 in absurd (omega arith)

-- a grip is one of those that are held
pub some_held : (o : ℕ) (gs : List Grip) (g : Grip) → grip_in o gs ≡ Some g → 0 < length gs
some_held o [] g e = absurd cc
some_held o (h ∷ gs) g e = omega arith

-- an enter
pub sits_entered : (u v w : View) (o : ObjectId) (n : ℕ) (look : Event) (g : Grip) (gs held : List Grip) (s pushed : List Record) (free more r p k c t : ℕ) →
    held ≡ g ∷ gs → pushed ≡ s ++ Acq o n ∷ [] → logged u.plan look ≡ None → own_after (own u.events) look ≡ own u.events → Lengthens u v (look ∷ []) → KeepsEach u v → IsClear v →
    Takes v w (Enter o n) o 1 n g → KeepsOthers v w o.0 → IsClear w →
    grip_in o.0 gs ≡ None → length gs < MOST_HELD → r + length gs + 2 ≤ SECTION_RECORDS → free ≡ more + 1 → HasRoom r p c t free →
    Sits u gs s free r p k c t → Sits w held pushed more (r + 1) (p + 1) k c t
sits_entered u v w o n look g gs held s pushed free more r p k c t now sent quiet same told each clear takes others end none few short push full x =
    let seen = sits_silent u v (look ∷ []) gs s free r p k c t told each clear (ap (λ l. with_own l (log_in u)) quiet) same x in
    sits_taken v w (Enter o n) o n 1 g gs held s pushed free more r p k c t now sent takes others end
    (pause_after v w (Enter o n ∷ []) takes.told ∙ seen.idle.0) refl (λ q ne. set_else (own v.events).hold o.0 (Some (record { count = 1; number = n })) q ne) none few short push full seen.stays.holds seen.stays.told seen.stays.within seen.stays.known seen.stays.limits seen.stays.began

-- one grip changed
pub sits_changed : (v w : View) (newer : List Event) (g n : Grip) (o : ℕ) (gs held : List Grip) (s : List Record) (free r p k c t : ℕ) →
    held ≡ with_grip n gs → Lengthens v w newer → KeepsOthers v w o → Keeps w n → n.object.0 ≡ o → grip_in o gs ≡ Some g → IsClear w →
    own_log v.plan (newer ++ v.events) ≡ log_in v → (own (newer ++ v.events)).pause ≡ (own v.events).pause → ((q : ℕ) → o ≢ q → (own (newer ++ v.events)).hold q ≡ hold v q) →
    Sits v gs s free r p k c t → Sits w held s free r p k c t
sits_changed v w newer g n o gs held s free r p k c t now told others keeps on there clear log pause elsewhere x =
    let logs = logs_after v w newer told ∙ log in
    subst (λ hs. Sits w hs s free r p k c t) (sym now) (record {
      stays = record {
        holds = changed_holds v w gs g n o others keeps on there (λ q ne. ap (λ (l : List Event). (own l).hold q) told.events ∙ elsewhere q ne) (ap (λ (l : List Record). holding (map action l)) logs) x.stays.holds;
        told = still_told v w s r p k logs x.stays.told;
        within = subst (λ m. IsWithin m r p k c) (sym (with_length n gs)) x.stays.within;
        room = λ some. x.stays.room (subst (λ (m : ℕ). 0 < m) (with_length n gs) some);
        known = (let a = x.stays.known in let b = told.trimmed in omega arith);
        limits = limits_same v w logs x.stays.limits;
        began = began_same (t + c) v w logs x.stays.began;
      };
      idle = (ap (λ (l : List Event). (own l).pause) told.events ∙ pause ∙ x.idle.0, clear);
    })

-- more of the ring or of the trimmed place was read
pub sits_looked : (v w : View) (gs : List Grip) (s pushed : List Record) (free more r p k c t u : ℕ) → pushed ≡ s → Lengthens v w [] → KeepsEach v w → w.mark ≡ v.mark → free ≤ more → t ≤ u → u ≤ w.trimmed →
    Sits v gs s free r p k c t → Sits w gs pushed more r p k c u
sits_looked v w gs s pushed free more r p k c t u sent told each mark ring rises known x =
    let y = sits_silent v w [] gs s free r p k c t told each (mark ∙ x.idle.1) refl refl x in let z = y.stays in record {
      stays = record {
        holds = z.holds;
        told = subst (λ xs. IsTold w xs r p k) (sym sent) z.told;
        within = z.within;
        room = λ some. (let f : HasRoom r p c t free = z.room some in let a = f.lane in let b = f.ring in record { lane = omega arith; ring = omega arith; low = f.low });
        known = known;
        limits = z.limits;
        began = began_rises (t + c) (u + c) (actions_in w) (omega arith) z.began;
      };
      idle = y.idle;
    }

-- a monitor was freed, by an exit or a wait
pub stays_freed : (v w : View) (e : Event) (o : ObjectId) (n : ℕ) (x : Record) (g : Grip) (gs held : List Grip) (s pushed : List Record) (free more r left p k q c t : ℕ) →
    held ≡ without_grip o.0 gs → pushed ≡ s ++ x ∷ [] → Lengthens v w (e ∷ []) → KeepsOthers v w o.0 → logged v.plan e ≡ Some x → action x ≡ Frees o.0 n →
    (own (e ∷ v.events)).hold o.0 ≡ None → ((i : ℕ) → o.0 ≢ i → (own (e ∷ v.events)).hold i ≡ hold v i) → grip_in o.0 gs ≡ Some g → free ≡ more + 1 →
    left ≡ (if length held == 0 then 0 else r + 1) → q ≡ (if length held == 0 then k + 1 else k) →
    Stays v gs s free r p k c t → Stays w held pushed more left (p + 1) q c t
stays_freed v w e o n x g gs held s pushed free more r left p k q c t now sent told others is frees none elsewhere there push records ends y =
    let logs : log_in w ≡ x ∷ log_in v = logs_after v w (e ∷ []) told ∙ ap (λ z. with_own z (log_in v)) is in
    let acts : held_objects w ≡ without o.0 (held_objects v) = ap (λ (l : List Record). holding (map action l)) logs ∙ ap (λ a. holding (a ∷ map action (log_in v))) frees in
    let holds = fewer_holds v w gs o.0 others (ap (λ (l : List Event). (own l).hold o.0) told.events ∙ none) (λ i ne. ap (λ (l : List Event). (own l).hold i) told.events ∙ elsewhere i ne) acts y.holds in
    let fewer : length held + 1 ≡ length gs = ap (λ (hs : List Grip). length hs + 1) now ∙ without_length o.0 gs g there in
    let count : length held ≡ length (without o.0 (held_objects v)) = ap length now ∙ held_length w (without_grip o.0 gs) holds ∙ ap length acts in
    let full : HasRoom r p c t free = y.room (omega arith) in
    let new = told_freed v w s r p k o.0 n (length held) x logs frees count y.told in
    record {
      holds = subst (λ hs. Holds w hs) (sym now) holds;
      told = record { sent = sent ∙ new.sent; records = records ∙ new.records; places = new.places; sections = ends ∙ new.sections };
      within = freed_within (length gs) (length held) r left p k q c t free fewer records ends full y.within;
      room = λ some. subst (λ m. HasRoom m (p + 1) c t more) (sym (records ∙ ap (λ b. if b then 0 else r + 1) (some_eqb (length held) some))) (room_less r p c t free more (sym push) full);
      known = (let a = y.known in let b = told.trimmed in omega arith);
      limits = limits_more v w x (Frees o.0 n) logs frees (let m = y.told.records in let l = held_length v gs y.holds in let s = y.within.short in omega arith) y.limits;
      began = began_inside (t + c) v w x logs (let l = held_length v gs y.holds in omega arith) y.began;
    }
  where
    some_eqb : (m : ℕ) → 0 < m → (m == 0) ≡ false
    some_eqb m some = by_test m 0 (λ b. b ≡ false) (λ e. absurd (omega arith)) (λ _. refl)

    freed_within : (m l r left p k q c t free : ℕ) → l + 1 ≡ m → left ≡ (if l == 0 then 0 else r + 1) → q ≡ (if l == 0 then k + 1 else k) → HasRoom r p c t free → IsWithin m r p k c → IsWithin l left (p + 1) q c
    freed_within m l r left p k q c t free fewer records ends full was =
        let low = full.low in let short = was.short in let few = was.few in let ended = was.ended in
        (by_test l 0 (λ b. left ≡ (if b then 0 else r + 1) → q ≡ (if b then k + 1 else k) → IsWithin l left (p + 1) q c)
        (λ z x y. record { short = omega arith; few = omega arith; closed = λ _. x; low = omega arith; ended = omega arith; capacity = was.capacity })
        (λ z x y. record { short = omega arith; few = omega arith; closed = λ e. absurd (z e); low = omega arith; ended = omega arith; capacity = was.capacity })) records ends

-- what a test for none tells
pub some_by_test : (n : ℕ) (b : Bool) → b ≡ (n == 0) → b ≡ false → 0 < n
some_by_test n b is no_ = by_test n 0 (λ t. b ≡ t → 0 < n) (λ _ e. absurd (let clash : true ≡ false = sym e ∙ no_ in cc)) (λ ne _. omega arith) is

-- the places that were taken are what was pushed
pub pushed_places : (v : View) (s : List Record) (r p k : ℕ) → IsTold v s r p k → length s ≡ place v
pushed_places v s r p k t = ap length t.sent ∙ length-reverse (log_in v)

pub sits_stay : (v : View) (gs : List Grip) (s : List Record) (free r p k c t : ℕ) → Stays v gs s free r p k c t → IsAwake v → IsClear v → Sits v gs s free r p k c t
sits_stay v gs s free r p k c t x awake clear = record { stays = x; idle = (awake, clear) }

-- the helper is behind: by the ring, or by the lane
pub behind_ring : (v w : View) (gs : List Grip) (s : List Record) (free r p k c t ring needed : ℕ) → Sits v gs s free r p k c t → Lengthens v w [] → ring < length s + needed → IsBehind (record { ring = ring; lane = c }) needed w
behind_ring v w gs s free r p k c t ring needed x told lt = inl (let a = pushed_places v s r p k x.stays.told in let b = place_stays v w told in omega arith)

pub behind_lane : (v w : View) (gs : List Grip) (s : List Record) (free r p k c t ring needed : ℕ) → Sits v gs s free r p k c t → Lengthens v w [] → w.trimmed + c < p + needed → IsBehind (record { ring = ring; lane = c }) needed w
behind_lane v w gs s free r p k c t ring needed x told lt = inr (let a = x.stays.told.places in let b = place_stays v w told in omega arith)

pub fresh_quiet : (v w : View) (h : Hold) → Lengthens v w [] → (IsWaitWorn v h → ⊥) → IsWaitWorn w h → ⊥
fresh_quiet v w h told fresh (inl a) = fresh (inl (let e = ap (λ k. k.last) told.plan in omega arith))
fresh_quiet v w h told fresh (inr a) = fresh (inr (sym (held_stays v w told) ∙ a.0, (let e = place_stays v w told in let b = a.1 in omega arith)))

-- the room that a wait inside a section leaves, or one that ends it
pub wait_short : (m l r left : ℕ) → l + 1 ≡ m → left ≡ (if l == 0 then 0 else r + 1) → (1 < m → r + m + 2 ≤ SECTION_RECORDS) → left + l + 2 ≤ SECTION_RECORDS
wait_short m l r left one is short = (by_test l 0 (λ b. left ≡ (if b then 0 else r + 1) → left + l + 2 ≤ SECTION_RECORDS)
    (λ z e. omega arith)
    (λ ne e. let le = short (omega arith) in omega arith)) is

-- what the test for a worn wait tells of the view
pub worn_test : (v : View) (gs : List Grip) (s : List Record) (free r p k c t last len : ℕ) (h : Hold) → Sits v gs s free r p k c t → last ≡ v.plan.last → len ≡ length gs →
    ((last ≤ h.number + 1) ⊎ ((len ≡ 1) × (LAST_PLACE ≤ p + 1))) → IsWaitWorn v h
worn_test v gs s free r p k c t last len h x is n (inl a) = inl (omega arith)
worn_test v gs s free r p k c t last len h x is n (inr a) = inr (let b = held_length v gs x.stays.holds in let m = x.stays.told.places in let one = a.0 in let high = a.1 in (omega arith, omega arith))

pub fresh_test : (v : View) (gs : List Grip) (s : List Record) (free r p k c t last len : ℕ) (h : Hold) → Sits v gs s free r p k c t → last ≡ v.plan.last → len ≡ length gs →
    (((last ≤ h.number + 1) ⊎ ((len ≡ 1) × (LAST_PLACE ≤ p + 1))) → ⊥) → IsWaitWorn v h → ⊥
fresh_test v gs s free r p k c t last len h x is n fresh (inl a) = fresh (inl (omega arith))
fresh_test v gs s free r p k c t last len h x is n fresh (inr a) = fresh (inr (let b = held_length v gs x.stays.holds in let m = x.stays.told.places in let one = a.0 in let high = a.1 in (omega arith, omega arith)))
