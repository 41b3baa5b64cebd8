-- The cases of an enter.
use Rattle.std.proofs.Common.{ℕ, ◌+◌, ◌<◌, ◌≤◌, inl, inr, [], Result, Ok, Err, MatchResult, sym, ap, ◌∙◌, arith}
use Rattle.heap_model.specs.declared.ids.ObjectId.{ObjectId}
use Rattle.thread_steps.specs.Views.{View}
use Rattle.thread_steps.specs.declared.grip.Seen.{Seen}
use Rattle.thread_steps.specs.declared.grip.Seen.TheVariants as seen
use Rattle.session.specs.declared.error.SessionError.{SessionError}
use Rattle.session.specs.declared.error.SessionError.TheVariants.{UnknownObject, UnknownField, NotHeld, Behind, SectionFull, TooMany, TooDeep, NoFat, Worn, Held}
use Rattle.heap_model.specs.declared.limits.TheConstants.{SECTION_RECORDS, LAST_PLACE}
use Rattle.session.specs.declared.limits.TheConstants.{MOST_HELD}
use Rattle.session.specs.Logs.{Rooms, held_count, place}
use Rattle.session.specs.Calls.{IsNews, IsQuiet, IsFull, HasRing, Tries, Begins, GoesOn}
use Rattle.session.proofs.Lengthening.{after_quiet, seen_later, thin_back}

-- where the ring has room, and the reason is what a look or a try showed
pub ring_tried : (c : Rooms) (k f r : ℕ) (u v w : View) (o : ObjectId) (x : Result (Unit {0}) SessionError) → k ≤ f → MatchResult x (λ _. f ≤ r + 1) (λ _. f ≤ r) → Tries v w o x →
    MatchResult x (λ _. k ≤ r + 1) (HasRing c k r u w)
ring_tried c k f r u v w o (Ok done) le same t = omega arith
ring_tried c k f r u v w o (Err Worn) le same t = omega arith
ring_tried c k f r u v w o (Err (Held x)) le same t = omega arith
ring_tried c k f r u v w o (Err UnknownObject) le same t = absurd t
ring_tried c k f r u v w o (Err UnknownField) le same t = absurd t
ring_tried c k f r u v w o (Err NotHeld) le same t = absurd t
ring_tried c k f r u v w o (Err Behind) le same t = absurd t
ring_tried c k f r u v w o (Err SectionFull) le same t = absurd t
ring_tried c k f r u v w o (Err TooMany) le same t = absurd t
ring_tried c k f r u v w o (Err TooDeep) le same t = absurd t
ring_tried c k f r u v w o (Err NoFat) le same t = absurd t

-- what was read since a later view was read since an earlier one
pub ring_earlier : (c : Rooms) (k r : ℕ) (u v w : View) (e : SessionError) → u.trimmed_looks ≤ v.trimmed_looks → HasRing c k r v w e → HasRing c k r u w e
ring_earlier c k r u v w Behind le (inl short) = inl short
ring_earlier c k r u v w Behind le (inr lane) = inr ((let read = lane.0 in omega arith), lane.1)
ring_earlier c k r u v w UnknownObject le has = has
ring_earlier c k r u v w UnknownField le has = has
ring_earlier c k r u v w NotHeld le has = has
ring_earlier c k r u v w SectionFull le has = has
ring_earlier c k r u v w TooMany le has = has
ring_earlier c k r u v w TooDeep le has = has
ring_earlier c k r u v w NoFat le has = has
ring_earlier c k r u v w Worn le has = has
ring_earlier c k r u v w (Held x) le has = has

-- so of an answer
pub leaves_earlier : (c : Rooms) (k r : ℕ) (u v w : View) (x : Result (Unit {0}) SessionError) → u.trimmed_looks ≤ v.trimmed_looks → MatchResult x (λ _. k ≤ r + 1) (HasRing c k r v w) → MatchResult x (λ _. k ≤ r + 1) (HasRing c k r u w)
leaves_earlier c k r u v w (Ok done) le left = left
leaves_earlier c k r u v w (Err e) le has = ring_earlier c k r u v w e le has

-- inside a section, with room
pub went_on : (v w : View) (o : ObjectId) (x : Result (Unit {0}) SessionError) → (IsFull v 2 → ⊥) → held_count v < MOST_HELD → Tries v w o x → GoesOn v w o x
went_on v w o (Ok done) a b t = (a, b, t)
went_on v w o (Err Worn) a b t = (a, b, t)
went_on v w o (Err (Held x)) a b t = (a, b, t)
went_on v w o (Err UnknownObject) a b t = absurd t
went_on v w o (Err UnknownField) a b t = absurd t
went_on v w o (Err NotHeld) a b t = absurd t
went_on v w o (Err Behind) a b t = absurd t
went_on v w o (Err SectionFull) a b t = absurd t
went_on v w o (Err TooMany) a b t = absurd t
went_on v w o (Err TooDeep) a b t = absurd t
went_on v w o (Err NoFat) a b t = absurd t

-- where a section begins, with room below the trimmed place that was read
pub began : (c : Rooms) (v u w : View) (o : ObjectId) (x : Result (Unit {0}) SessionError) → IsQuiet v u → place v + SECTION_RECORDS ≤ u.trimmed + c.lane → place v < LAST_PLACE → Tries u w o x → Begins c v w o x
began c v u w o (Ok done) q fits low t = ((let r = t.2.trimmed in omega arith), low, (t.0, later t.0 t.1, after_quiet v u w _ q t.2))
  where
    later : (n : ℕ) → n < u.plan.last → n < v.plan.last
    later n lt = (let e = ap (λ k. k.last) q.plan in omega arith)
began c v u w o (Err Worn) q fits low t = ((let r = t.2.trimmed in omega arith), inr (low, (t.0, later t.0 t.1, after_quiet v u w _ q t.2)))
  where
    later : (n : ℕ) → u.plan.last ≤ n → v.plan.last ≤ n
    later n le = (let e = ap (λ k. k.last) q.plan in omega arith)
began c v u w o (Err (Held x)) q fits low (inl a) = ((let r = a.4.told.trimmed in omega arith), low, inl (a.0, a.1, a.2, (λ e. a.3 (e ∙ sym q.lane)), seen_later v u w o x _ q a.4))
began c v u w o (Err (Held x)) q fits low (inr a) = ((let r = a.4.trimmed in omega arith), low, inr (a.0, later a.0 a.1, still_news x a.2, a.3, after_quiet v u w _ q a.4))
  where
    later : (n : ℕ) → n < u.plan.last → n < v.plan.last
    later n lt = (let e = ap (λ k. k.last) q.plan in omega arith)

    still_news : (y : Seen) → IsNews u w o y → IsNews v w o y
    still_news (seen.Lock z) none = thin_back v u [] o q none
    still_news (seen.Fat f) some = some
began c v u w o (Err UnknownObject) q fits low t = absurd t
began c v u w o (Err UnknownField) q fits low t = absurd t
began c v u w o (Err NotHeld) q fits low t = absurd t
began c v u w o (Err Behind) q fits low t = absurd t
began c v u w o (Err SectionFull) q fits low t = absurd t
began c v u w o (Err TooMany) q fits low t = absurd t
began c v u w o (Err TooDeep) q fits low t = absurd t
began c v u w o (Err NoFat) q fits low t = absurd t
