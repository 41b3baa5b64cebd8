-- What sessions know of a wait.
use Rattle.std.proofs.Common.{ℕ, ◌≡◌, ◌+◌, ◌<◌, ◌≤◌, inl, inr, [], ◌∷◌, Option, Some, None, Result, Ok, Err, IfErr, MatchResult, refl, sym, ap, ◌∙◌, subst, arith}
use Rattle.std.proofs.lemmas.Bool.{cases_lt}
use Rattle.heap_model.specs.declared.limits.TheConstants.{SECTION_RECORDS}
use Rattle.rtrb.specs.Ring.{known_free}
use Rattle.heap_model.specs.declared.ids.ObjectId.{ObjectId}
use Rattle.heap_model.specs.declared.event.Event.TheVariants.{Wait}
use Rattle.heap_model.specs.Own.{Hold}
use Rattle.monitor.specs.Seats.{Home}
use Rattle.thread_steps.specs.Views.{View, hold, plan}
use Rattle.thread_steps.specs.declared.grip.Grip.{Grip}
use Rattle.session.specs.declared.parts.Parts.{Parts}
use Rattle.session.specs.declared.session.Session.{Session}
use Rattle.session.specs.declared.waiting.Waiting.{Waiting}
use Rattle.session.specs.declared.error.SessionError.{SessionError}
use Rattle.session.specs.declared.error.SessionError.TheVariants.{UnknownObject, UnknownField, NotHeld, Behind, SectionFull, TooMany, TooDeep, NoFat, Worn, Held}
use Rattle.thread_steps.specs.Views.{Lengthens}
use Rattle.session.specs.Logs.{Rooms, held_count}
use Rattle.session.specs.Calls.{IsFull, HasRing, IsWaitWorn, LeavesRoom, RefusesWait, BeginsWait}
use Rattle.session.specs.Steps.{RefusesFat}
use Rattle.session.specs.Sessions.{SameLane, SameRing, SameRingStill, rooms_in, rooms_of, view_of}
use Rattle.session.specs.Keeping.{AsksForGrip, SameNumbers, HasRoomToWait, MayWait, hold_of}
use Rattle.session.specs.Sits.{Finds}
use Rattle.session.proofs.Holding.{held_length}
use Rattle.session.proofs.Fattening.{grip_fat}
use Rattle.session.proofs.Lengthening.{after_quiet, held_stays, records_stay, place_stays, thin_back}
use Rattle.session.proofs.Sitting.{not_full_by}

-- the room stays where nothing was pushed
pub room_again : (p q : Parts) → SameNumbers p q → HasRoomToWait p → HasRoomToWait q
room_again p q same room = record {
  ring = λ one. subst (λ ring. SECTION_RECORDS + 1 ≤ known_free ring) (sym same.ring) (room.ring (sym same.held ∙ one));
  lane = λ one. (let a = room.lane (sym same.held ∙ one) in let b = same.place in let c = same.trimmed in let d = same.capacity in omega arith);
  short = λ several. (let n = same.held in let a = room.short (omega arith) in let b = same.records in omega arith);
}

-- the same events
full_again : (v w : View) (more : ℕ) → Lengthens v w [] → IsFull v more → IsFull w more
full_again v w more told full = (let a = records_stay v w told in let b = held_stays v w told in omega arith)

worn_again : (v w : View) (h : Hold) → Lengthens v w [] → IsWaitWorn v h → IsWaitWorn w h
worn_again v w h told (inl a) = inl (let e = ap (λ k. k.last) told.plan in omega arith)
worn_again v w h told (inr a) = inr (held_stays v w told ∙ a.0, (let e = place_stays v w told in let b = a.1 in omega arith))

-- a section isn't full where there is room for a wait
room_for_wait : (s : Session) → HasRoomToWait s.parts → 1 < held_count (view_of s) → IsFull (view_of s) 2 → ⊥
room_for_wait s room several = not_full_by _ _ _ _ _ _ _ _ _ 2 s.sits (let n = held_length _ _ s.sits.stays.holds in room.short (omega arith))

-- there is room for the wait, as an earlier view and a later one have it
leaves_room : (v : View) (t : Session) (u : View) (c : Rooms) → Lengthens v (view_of t) [] → (view_of t).trimmed ≤ u.trimmed → rooms_of t ≡ c → HasRoomToWait t.parts → LeavesRoom c v u
leaves_room v t u c f rises same room = (
  λ several full. room_for_wait t room (subst (λ (n : ℕ). 1 < n) (sym (held_stays _ _ f)) several) (full_again _ _ 2 f full),
  λ one. (let wide = ap (λ (r : Rooms). r.lane) same in let n = held_length _ _ t.sits.stays.holds in let h = held_stays v (view_of t) f in let lane = room.lane (omega arith) in let k = t.sits.stays.known in let p = t.sits.stays.told.places in
      let e = place_stays v (view_of t) f in omega arith),
)

-- the answer of both tests
pub wait_answer : (s t u : Session) (o : ObjectId) (h : Hold) (x : Result Grip SessionError) (c : Rooms) → Lengthens (view_of s) (view_of t) [] → Lengthens (view_of t) (view_of u) [] → rooms_of t ≡ c → HasRoomToWait t.parts →
    MatchResult x (MayWait u o h) (RefusesFat (view_of t) (view_of u) o h) → MatchResult x (MayWait u o h) (RefusesWait c (view_of s) (view_of u) o h)
wait_answer s t u o h (Ok g) c f k same room may = may
wait_answer s t u o h (Err NoFat) c f k same room no_ = (leaves_room (view_of s) t (view_of u) c f k.trimmed same room, thin_back _ _ [] o f no_.0, no_.1, after_quiet _ _ _ [] f k)
wait_answer s t u o h (Err Worn) c f k same room worn = (leaves_room (view_of s) t (view_of u) c f k.trimmed same room, worn.0, fresh_back worn.1, after_quiet _ _ _ [] f k)
  where
    fresh_back : IsWaitWorn (view_of t) h → IsWaitWorn (view_of s) h
    fresh_back (inl a) = inl (let e = ap (λ p. p.last) f.plan in omega arith)
    fresh_back (inr a) = inr (sym (held_stays _ _ f) ∙ a.0, (let e = place_stays (view_of s) (view_of t) f in let b = a.1 in omega arith))
wait_answer s t u o h (Err UnknownObject) c f k same room no_ = absurd no_
wait_answer s t u o h (Err UnknownField) c f k same room no_ = absurd no_
wait_answer s t u o h (Err NotHeld) c f k same room no_ = absurd no_
wait_answer s t u o h (Err Behind) c f k same room no_ = absurd no_
wait_answer s t u o h (Err SectionFull) c f k same room no_ = absurd no_
wait_answer s t u o h (Err TooMany) c f k same room no_ = absurd no_
wait_answer s t u o h (Err TooDeep) c f k same room no_ = absurd no_
wait_answer s t u o h (Err (Held x)) c f k same room no_ = absurd no_

-- where the ring has room for a wait that is refused
pub ring_for : (c : Rooms) (k r : ℕ) (u v w : View) (o : ObjectId) (h : Hold) (P : Grip → Type 0) (x : Result Grip SessionError) → k ≤ r → MatchResult x P (RefusesFat v w o h) → IfErr x (HasRing c k r u w)
ring_for c k r u v w o h P (Ok g) le why = tt
ring_for c k r u v w o h P (Err NoFat) le why = le
ring_for c k r u v w o h P (Err Worn) le why = le
ring_for c k r u v w o h P (Err UnknownObject) le why = absurd why
ring_for c k r u v w o h P (Err UnknownField) le why = absurd why
ring_for c k r u v w o h P (Err NotHeld) le why = absurd why
ring_for c k r u v w o h P (Err Behind) le why = absurd why
ring_for c k r u v w o h P (Err SectionFull) le why = absurd why
ring_for c k r u v w o h P (Err TooMany) le why = absurd why
ring_for c k r u v w o h P (Err TooDeep) le why = absurd why
ring_for c k r u v w o h P (Err (Held x)) le why = absurd why

-- a grip by which the session may wait, once both tests have given it
pub may_join : (h : Home) (s t : Session) (o : ObjectId) (g : Grip) → AsksForGrip h s t o (Ok g) → MayWait t g.object (hold_of g) g
may_join h s t o g asks = elim (cases_lt o.0 (plan h).objects) [
  | inl low ↦ by_hold low (hold (view_of s) o.0) refl
  | inr high ↦ absurd (let no : Ok g ≡ Err UnknownObject = asks.unknown high in cc)
]
  where
    by_hold : o.0 < (plan h).objects → (x : Option Hold) → hold (view_of s) o.0 ≡ x → MayWait t g.object (hold_of g) g
    by_hold low None none = absurd (let no : Ok g ≡ Err NotHeld = asks.not_held low none in cc)
    by_hold low (Some k) own =
        let may = asks.held k low own in record {
          found = subst (λ z. Finds (view_of t) t.parts.held.items z g) (sym may.found.object) may.found;
          number = refl;
          fat = may.fat;
          room = may.room;
          fresh = subst (λ n. IsWaitWorn (view_of t) (record { count = g.count; number = n }) → ⊥) (sym may.number) may.fresh;
        }

-- a wait is begun
pub begun : (s t : Session) (w : View) (o : ObjectId) (h : Hold) (g : Grip) (c : Rooms) → Lengthens (view_of s) (view_of t) [] → rooms_of t ≡ c → MayWait t o h g → Lengthens (view_of t) w (Wait g.object g.number ∷ []) → BeginsWait c (view_of s) w o h
begun s t w o h g c f same may told = (
  leaves_room (view_of s) t w c f told.trimmed same may.room,
  λ worn. may.fresh (worn_again _ _ h f worn),
  subst (λ z. Lengthens (view_of s) w (Wait z h.number ∷ [])) may.found.object (subst (λ n. Lengthens (view_of s) w (Wait g.object n ∷ [])) may.number (after_quiet _ _ _ _ f told)),
  (let known = grip_fat (view_of t) o g may.fat.0 may.found.object may.found.keeps may.fat.1 in (known.0, told.fats o.0 known.0 known.1)),
)

-- the same room
pub same_rooms : (p q : Parts) → SameLane p q → rooms_in q ≡ rooms_in p
same_rooms p q same = λ i. record { ring = same.0.1 i; lane = same.1 i }

-- the same ring twice
pub ring_again : (s t u : Session) → SameRing s t → SameRing t u → SameRing s u
ring_again s t u p q = (((q.0.0.0 ∙ p.0.0.0, q.0.0.1 ∙ p.0.0.1, q.0.0.2 ∙ p.0.0.2, q.0.0.3 ∙ p.0.0.3), q.0.1 ∙ p.0.1), q.1 ∙ p.1, q.2 ∙ p.2)

pub still_again : (s t u : Waiting) → SameRingStill s t → SameRingStill t u → SameRingStill s u
still_again s t u p q = (((q.0.0.0 ∙ p.0.0.0, q.0.0.1 ∙ p.0.0.1, q.0.0.2 ∙ p.0.0.2, q.0.0.3 ∙ p.0.0.3), q.0.1 ∙ p.0.1), q.1 ∙ p.1, q.2 ∙ p.2)
