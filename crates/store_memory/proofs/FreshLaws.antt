-- What is kept of the fresh records stays true of them.
use Rattle.std.proofs.Common.{ℕ, suc, zero, ◌≡◌, ◌≢◌, ◌+◌, ◌*◌, ◌<◌, ◌≤◌, ◌==◌, Bool, true, false, if◌then◌else◌, List, [], ◌∷◌, ◌++◌, map, length, reverse, Vec, Global, refl, sym, ap, ◌∙◌, subst, inl, inr, arith}
use Rattle.std.proofs.lemmas.Bool.{eq-eqb, ne_eqb}
use Rattle.std.proofs.lemmas.Bool.Decides.{eqb_tells}
use Rattle.std.proofs.lemmas.List.{reverse-append, length-reverse, length-map}
use Rattle.std.proofs.Math.Nat.{suc-mul}
use mathlib.Core.Logic.{dite}
use native.Mathlib.Decide.{ℕ_discrete}
use Rattle.heap_model.specs.declared.record.Record.{Record}
use Rattle.heap_model.specs.declared.record.LaneRecord.{LaneRecord}
use Rattle.heap_model.specs.declared.record.UndoRecord.{UndoRecord}
use Rattle.heap_model.specs.Record.{undo_of}
use Rattle.heap_model.specs.Log.{lane, log_from}
use Rattle.store_memory.specs.Fresh.{undo_log_of, log_in, room_in, IsOfLanes, IsSorted}

pub log_snoc : (xs : List LaneRecord) (e : LaneRecord) → log_from (xs ++ e ∷ []) ≡ (e.lane.0, e.record) ∷ log_from xs
log_snoc xs e = ap (λ (ys : List LaneRecord). map (λ (x : LaneRecord). (x.lane.0, x.record)) ys) (reverse-append xs (e ∷ []))

-- the records of the first lanes
abbrev pub count_below : ℕ → List (ℕ × Record) → ℕ
count_below zero log = 0
count_below (suc l) log = length (lane l log) + count_below l log

count_above : (lanes : ℕ) (x : ℕ × Record) (log : List (ℕ × Record)) → lanes ≤ x.0 → count_below lanes (x ∷ log) ≡ count_below lanes log
count_above zero x log le = refl
count_above (suc l) x log le = ap (λ b. length (if b then x.1 ∷ lane l log else lane l log) + count_below l (x ∷ log)) (ne_eqb x.0 l (omega arith)) ∙ ap (λ n. length (lane l log) + n) (count_above l x log (omega arith))

count_one : (lanes : ℕ) (x : ℕ × Record) (log : List (ℕ × Record)) → x.0 < lanes → count_below lanes (x ∷ log) ≡ count_below lanes log + 1
count_one zero x log lt = absurd (omega arith)
count_one (suc l) x log lt = dite (ℕ_discrete x.0 l)
    (λ same. ap (λ b. length (if b then x.1 ∷ lane l log else lane l log) + count_below l (x ∷ log)) (eq-eqb x.0 l same) ∙ (let e : count_below l (x ∷ log) ≡ count_below l log = count_above l x log (omega arith) in omega arith))
    (λ other. ap (λ b. length (if b then x.1 ∷ lane l log else lane l log) + count_below l (x ∷ log)) (ne_eqb x.0 l other) ∙ (let e : count_below l (x ∷ log) ≡ count_below l log + 1 = count_one l x log (omega arith) in omega arith))

count_all : (lanes : ℕ) (log : List (ℕ × Record)) → IsOfLanes lanes log → length log ≤ count_below lanes log
count_all lanes [] of = omega arith
count_all lanes (x ∷ log) of = omega (arith, count_all lanes log of.1, count_one lanes x log of.0)

-- one lane has room, so all have
count_room : (lanes room : ℕ) (log : List (ℕ × Record)) → ((l : ℕ) → l < lanes → length (lane l log) ≤ room) → count_below lanes log ≤ lanes * room
count_room zero room log le = omega arith
count_room (suc l) room log le =
    let more : suc l * room ≡ l * room + room = suc-mul l room in
    omega (arith, le l (omega arith), count_room l room log (λ m lt. le m (omega arith)))

count_less : (lanes room : ℕ) (log : List (ℕ × Record)) (some : ℕ) → some < lanes → length (lane some log) < room → ((l : ℕ) → l < lanes → length (lane l log) ≤ room) → count_below lanes log < lanes * room
count_less zero room log some lt less le = absurd (omega arith)
count_less (suc l) room log some lt less le = dite (ℕ_discrete some l)
    (λ same. let here : length (lane l log) < room = subst (λ m. length (lane m log) < room) same less in
    omega (arith, suc-mul l room, count_room l room log (λ m lt'. le m (omega arith))))
    (λ other. omega (arith, suc-mul l room, le l (omega arith), count_less l room log some (omega arith) less (λ m lt'. le m (omega arith))))

pub total_room : (lanes room : ℕ) (records : List LaneRecord) (some : ℕ) → IsOfLanes lanes (log_from records) → some < lanes → length (lane some (log_from records)) < room →
    ((l : ℕ) → l < lanes → length (lane l (log_from records)) ≤ room) → length records < lanes * room
total_room lanes room records some of lt less le =
    let n : length (log_from records) ≡ length records = length-map (reverse records) (λ (x : LaneRecord). (x.lane.0, x.record)) ∙ length-reverse records in
    omega (arith, count_all lanes (log_from records) of, count_less lanes room (log_from records) some lt less le)

-- the lane's records with one more
undo_snoc_same : (l : ℕ) (xs : List LaneRecord) (e : LaneRecord) → e.lane.0 ≡ l → undo_log_of l (xs ++ e ∷ []) ≡ undo_log_of l xs ++ undo_of e.record ∷ []
undo_snoc_same l xs e same =
    ap (λ log. reverse (map undo_of (lane l log))) (log_snoc xs e)
    ∙ ap (λ b. reverse (map undo_of (if b then e.record ∷ lane l (log_from xs) else lane l (log_from xs)))) (eq-eqb e.lane.0 l same)
    ∙ reverse-append (undo_of e.record ∷ []) (map undo_of (lane l (log_from xs)))

undo_snoc_other : (l : ℕ) (xs : List LaneRecord) (e : LaneRecord) → e.lane.0 ≢ l → undo_log_of l (xs ++ e ∷ []) ≡ undo_log_of l xs
undo_snoc_other l xs e other =
    ap (λ log. reverse (map undo_of (lane l log))) (log_snoc xs e)
    ∙ ap (λ b. reverse (map undo_of (if b then e.record ∷ lane l (log_from xs) else lane l (log_from xs)))) (ne_eqb e.lane.0 l other)

count_snoc : (l : ℕ) (xs : List LaneRecord) (e : LaneRecord) (b : Bool) → (e.lane.0 == l) ≡ b → length (lane l (log_from (xs ++ e ∷ []))) ≡ (if b then length (lane l (log_from xs)) + 1 else length (lane l (log_from xs)))
count_snoc l xs e true is = ap (λ log. length (lane l log)) (log_snoc xs e) ∙ ap (λ b. length (if b then e.record ∷ lane l (log_from xs) else lane l (log_from xs))) is ∙ (omega arith)
count_snoc l xs e false is = ap (λ log. length (lane l log)) (log_snoc xs e) ∙ ap (λ b. length (if b then e.record ∷ lane l (log_from xs) else lane l (log_from xs))) is

-- as many undo records as records
undo_long : (l : ℕ) (xs : List LaneRecord) → length (undo_log_of l xs) ≡ length (lane l (log_from xs))
undo_long l xs = length-reverse (map undo_of (lane l (log_from xs))) ∙ length-map (lane l (log_from xs)) undo_of

module _ (room : ℕ) (xs : List LaneRecord) (logs : List (Vec UndoRecord Global)) (capacity : ℕ) (was : IsSorted room xs logs capacity)
    (e : LaneRecord) (lt : e.lane.0 < length logs) (free : length (lane e.lane.0 (log_from xs)) < room) where
  -- the lane's log has room
  pub log_room : length (log_in logs e.lane.0) < room_in logs e.lane.0
  log_room = omega (arith, ap (λ (ys : List UndoRecord). length ys) (was.kept e.lane.0 lt), undo_long e.lane.0 xs, was.rooms e.lane.0 lt)

  -- and so have all
  pub list_room : length xs < capacity
  list_room = omega (arith, was.held, total_room (length logs) room xs e.lane.0 was.of_lanes lt free was.bounded)

  -- with one more record
  pub sorted_push : (new : List (Vec UndoRecord Global)) → length new ≡ length logs → log_in new e.lane.0 ≡ log_in logs e.lane.0 ++ undo_of e.record ∷ [] →
      ((l : ℕ) → l ≢ e.lane.0 → log_in new l ≡ log_in logs l) → ((l : ℕ) → room_in new l ≡ room_in logs l) → IsSorted room (xs ++ e ∷ []) new capacity
  sorted_push new size put others rooms = record {
    of_lanes = subst (λ (k : ℕ). IsOfLanes k (log_from (xs ++ e ∷ []))) (sym size) (subst (λ (log : List (ℕ × Record)). IsOfLanes (length logs) log) (sym (log_snoc xs e)) (lt, was.of_lanes));
    kept = λ l low. dite (ℕ_discrete l e.lane.0)
        (λ same. subst (λ (k : ℕ). log_in new k ≡ undo_log_of k (xs ++ e ∷ [])) (sym same)
        (put ∙ ap (λ (ys : List UndoRecord). ys ++ undo_of e.record ∷ []) (was.kept e.lane.0 lt) ∙ sym (undo_snoc_same e.lane.0 xs e refl)))
        (λ other. others l other ∙ was.kept l (omega arith) ∙ sym (undo_snoc_other l xs e (λ k. other (sym k))));
    bounded = λ l low. elim (eqb_tells e.lane.0 l) [
      | inl same ↦ omega (arith, count_snoc l xs e true same.0, ap (λ (k : ℕ). length (lane k (log_from xs))) same.1)
      | inr other ↦ omega (arith, count_snoc l xs e false other.0, was.bounded l (omega arith))
    ];
    rooms = λ l low. omega (arith, rooms l, was.rooms l (omega arith));
    held = omega (arith, was.held, ap (λ (k : ℕ). k * room) size);
  }

-- with none
pub sorted_none : (room : ℕ) (logs : List (Vec UndoRecord Global)) (capacity : ℕ) → ((l : ℕ) → log_in logs l ≡ []) → ((l : ℕ) → l < length logs → room ≤ room_in logs l) → length logs * room ≤ capacity → IsSorted room [] logs capacity
sorted_none room logs capacity none rooms held = record {
  of_lanes = tt;
  kept = λ l low. none l;
  bounded = λ l low. omega arith;
  rooms = rooms;
  held = held;
}
