-- The sessions of a heap that begins to run.
use Rattle.std.proofs.Common.{ℕ, zero, suc, ◌≡◌, ◌+◌, ◌≤◌, List, [], ◌∷◌, ◌++◌, map, length, All, Some, refl, sym, ap, ◌∙◌, subst, arith}
use Rattle.std.proofs.lemmas.List.{append_assoc, length-append}
use Rattle.std.proofs.lemmas.List.Elements.{All-nil, All-cons, All-head, All-tail}
use Rattle.heap_model.specs.Log as logs
use Rattle.heap_model.specs.Own.{sent_of}
use Rattle.heap_model.specs.declared.record.Record.{Record}
use Rattle.thread_rings.specs.Following.{Whose, to_release}
use Rattle.thread_rings.specs.Rings.{IsPair, Receiving, Sending, ring_capacity}
use Rattle.monitor.specs.declared.view.Plan.{Plan}
use Rattle.monitor.specs.declared.view.View as raw
use Rattle.monitor.specs.Views.{lane_of}
use Rattle.monitor.specs.Seats as seats
use Rattle.monitor.specs.Seats.{Helping, Home, Sitting, fresh_view, fresh_views}
use Rattle.monitor.specs.Words.{setting_of}
use Rattle.session.specs.Logs.{Rooms}
use Rattle.session.specs.Opened.{IsOpened, AreOpened}
use Rattle.session.specs.Sessions.{IsSessionOf, ring_of, view_of}
use Rattle.session.specs.declared.session.Session.{Session}
use Rattle.trim_helper.specs.Endings.{Rings}
use Rattle.trim_helper.specs.Moves.{IsEndOf, most_room}
use Rattle.trim_helper.specs.Rings.{received_of}
use Rattle.trim_helper.specs.Seen.{BeginsLog, SeesFrom}
use Rattle.thread_heap.specs.Joined.{AreNew, HaveRoom, IsJoined}

-- the views of so many lanes, from this one on
abbrev views_from : Plan → (first count : ℕ) → List raw.View
views_from k l zero = []
views_from k l (suc n) = fresh_view k l ∷ views_from k (suc l) n

one_more : (k : Plan) (l n : ℕ) → views_from k l n ++ fresh_view k (l + n) ∷ [] ≡ views_from k l (suc n)
one_more k l zero = ap (λ m. fresh_view k m ∷ []) (omega arith)
one_more k l (suc n) = ap (λ (vs : List raw.View). fresh_view k l ∷ vs) (ap (λ m. views_from k (suc l) n ++ fresh_view k m ∷ []) (omega arith) ∙ one_more k (suc l) n)

in_order : (k : Plan) (n : ℕ) → fresh_views k n ≡ views_from k 0 n
in_order k zero = refl
in_order k (suc n) =
    let from_0 : n ≡ 0 + n = omega arith in
    ap (λ (vs : List raw.View). vs ++ fresh_view k n ∷ []) (in_order k n) ∙ ap (λ m. views_from k 0 n ++ fresh_view k m ∷ []) from_0 ∙ one_more k 0 n

count_from : (k : Plan) (l n : ℕ) → length (views_from k l n) ≡ n
count_from k l zero = refl
count_from k l (suc n) = ap suc (count_from k (suc l) n)

-- the ring behind those before it
end_at : (before cs : Rings) (p : Sending) (c : Receiving) → IsPair p c → IsEndOf p (before ++ c ∷ cs) (length before)
end_at [] cs p c pair = pair
end_at (b ∷ before) cs p c pair = end_at before cs p c pair

-- the seats' views are those of the lanes from this one on
abbrev AreFrom : Plan → (first count : ℕ) → List Sitting → Type 0
AreFrom k l n ss = map (λ s. s.view) ss ≡ views_from k l n

first_view : (k : Plan) (l n : ℕ) (s : Sitting) (ss : List Sitting) → AreFrom k l n (s ∷ ss) → (m : ℕ) × (n ≡ suc m) × (s.view ≡ fresh_view k l) × AreFrom k (suc l) m ss
first_view k l zero s ss is = absurd cc
first_view k l (suc n) s ss is = (n, refl, (let a : s.view ∷ map (λ z. z.view) ss ≡ fresh_view k l ∷ views_from k (suc l) n = is in cc), (let a : s.view ∷ map (λ z. z.view) ss ≡ fresh_view k l ∷ views_from k (suc l) n = is in cc))

module _ (room : Rooms) (k : Plan) where
  lane_is : (l : ℕ) (s : Sitting) (x : Session) (c : Receiving) → IsOpened room s x c → s.view ≡ fresh_view k l → (view_of x).lane.0 ≡ l
  lane_is l s x c one is = ap (λ (v : raw.View). (lane_of v).0) one.seat.1 ∙ ap (λ (v : raw.View). (lane_of v).0) is

  -- each session is joined to the ring of its lane
  are_joined : (h : Home) (before : Rings) (l n : ℕ) (ss : List Sitting) (xs : List Session) (cs : Rings) → length before ≡ l → AreFrom k l n ss → AreOpened room ss xs cs → All (IsSessionOf h) xs → All (IsJoined h room.lane (before ++ cs)) xs
  are_joined h before l n [] [] [] at from opened of = All-nil (IsJoined h room.lane (before ++ []))
  are_joined h before l n (s ∷ ss) (x ∷ xs) (c ∷ cs) at from opened of =
      let first = first_view k l n s ss from in
      let long : length (before ++ c ∷ []) ≡ suc l = omega (arith, length-append before (c ∷ [])) in
      All-cons (IsJoined h room.lane (before ++ c ∷ cs)) x xs
      (record {
        of = All-head (IsSessionOf h) x xs of;
        holds = opened.0.lane;
        ring = subst (λ m. IsEndOf (ring_of x) (before ++ c ∷ cs) m) (at ∙ sym (lane_is l s x c opened.0 first.2)) (end_at before cs (ring_of x) c opened.0.pair);
      })
      (subst (λ (rings : Rings). All (IsJoined h room.lane rings) xs) (append_assoc before (c ∷ []) cs)
      (are_joined h (before ++ c ∷ []) (suc l) first.0 ss xs cs long first.3 opened.1 (All-tail (IsSessionOf h) x xs of)))
  are_joined h before l n [] [] (c ∷ cs) at from opened of = absurd opened
  are_joined h before l n [] (x ∷ xs) [] at from opened of = absurd opened
  are_joined h before l n [] (x ∷ xs) (c ∷ cs) at from opened of = absurd opened
  are_joined h before l n (s ∷ ss) [] [] at from opened of = absurd opened
  are_joined h before l n (s ∷ ss) [] (c ∷ cs) at from opened of = absurd opened
  are_joined h before l n (s ∷ ss) (x ∷ xs) [] at from opened of = absurd opened

  are_new : (l n : ℕ) (ss : List Sitting) (xs : List Session) (cs : Rings) → AreFrom k l n ss → AreOpened room ss xs cs → AreNew l xs
  are_new l n [] [] [] from opened = tt
  are_new l n (s ∷ ss) (x ∷ xs) (c ∷ cs) from opened =
      let first = first_view k l n s ss from in
      (lane_is l s x c opened.0 first.2, ap (λ (v : raw.View). v.events) opened.0.seat.1 ∙ ap (λ (v : raw.View). v.events) first.2, are_new (suc l) first.0 ss xs cs first.3 opened.1)
  are_new l n [] [] (c ∷ cs) from opened = absurd opened
  are_new l n [] (x ∷ xs) [] from opened = absurd opened
  are_new l n [] (x ∷ xs) (c ∷ cs) from opened = absurd opened
  are_new l n (s ∷ ss) [] [] from opened = absurd opened
  are_new l n (s ∷ ss) [] (c ∷ cs) from opened = absurd opened
  are_new l n (s ∷ ss) (x ∷ xs) [] from opened = absurd opened

  counts : (l n : ℕ) (ss : List Sitting) (xs : List Session) (cs : Rings) → AreFrom k l n ss → AreOpened room ss xs cs → (length xs ≡ n) × (length cs ≡ n)
  counts l n [] [] [] from opened = let e = ap (λ (vs : List raw.View). length vs) from ∙ count_from k l n in (e, e)
  counts l n (s ∷ ss) (x ∷ xs) (c ∷ cs) from opened =
      let first = first_view k l n s ss from in
      let rest = counts (suc l) first.0 ss xs cs first.3 opened.1 in
      (ap suc rest.0 ∙ sym first.1, ap suc rest.1 ∙ sym first.1)
  counts l n [] [] (c ∷ cs) from opened = absurd opened
  counts l n [] (x ∷ xs) [] from opened = absurd opened
  counts l n [] (x ∷ xs) (c ∷ cs) from opened = absurd opened
  counts l n (s ∷ ss) [] [] from opened = absurd opened
  counts l n (s ∷ ss) [] (c ∷ cs) from opened = absurd opened
  counts l n (s ∷ ss) (x ∷ xs) [] from opened = absurd opened

  -- of what was taken of them the helper has seen all: nothing was taken
  pub sees_opened : (h : Home) (helper : Helping) (l n : ℕ) (ss : List Sitting) (xs : List Session) (cs : Rings) → helper.table ≡ h.table → helper.view.plan ≡ k → All (seats.IsSeatOf h) ss → AreFrom k l n ss → AreOpened room ss xs cs → SeesFrom helper l cs
  sees_opened h helper l n [] [] [] table plan of from opened = tt
  sees_opened h helper l n (s ∷ ss) (x ∷ xs) (c ∷ cs) table plan of from opened =
      let first = first_view k l n s ss from in
      let at : s.table ≡ helper.table = (All-head (seats.IsSeatOf h) s ss of).0 ∙ sym table in
      let same : s.view.plan ≡ helper.view.plan = ap (λ (v : raw.View). v.plan) first.2 ∙ sym plan in
      let lane : lane_of s.view ≡ record { 0 = l } = ap (λ (v : raw.View). lane_of v) first.2 in (
        record {
          whose = opened.0.whose ∙ ap (λ (w : Whose). Some w) (λ i. record { table = at i; plan = same i; lane = lane i });
          seen = λ none. subst (λ (log : List Record). BeginsLog helper.view.plan l helper.view.history (to_release log)) (sym opened.0.none) (sent_of (setting_of helper.view.plan) (logs.lane l helper.view.history), refl);
        },
        sees_opened h helper (suc l) first.0 ss xs cs table plan (All-tail (seats.IsSeatOf h) s ss of) first.3 opened.1,
      )
  sees_opened h helper l n [] [] (c ∷ cs) table plan of from opened = absurd opened
  sees_opened h helper l n [] (x ∷ xs) [] table plan of from opened = absurd opened
  sees_opened h helper l n [] (x ∷ xs) (c ∷ cs) table plan of from opened = absurd opened
  sees_opened h helper l n (s ∷ ss) [] [] table plan of from opened = absurd opened
  sees_opened h helper l n (s ∷ ss) [] (c ∷ cs) table plan of from opened = absurd opened
  sees_opened h helper l n (s ∷ ss) (x ∷ xs) [] table plan of from opened = absurd opened

  -- the rings have their room, and are empty
  pub room_most : (ss : List Sitting) (xs : List Session) (cs : Rings) → AreOpened room ss xs cs → most_room cs ≤ room.ring
  room_most [] [] [] opened = omega arith
  room_most (s ∷ ss) (x ∷ xs) (c ∷ cs) opened = let one = opened.0.ring in let rest = room_most ss xs cs opened.1 in omega arith
  room_most [] [] (c ∷ cs) opened = absurd opened
  room_most [] (x ∷ xs) [] opened = absurd opened
  room_most [] (x ∷ xs) (c ∷ cs) opened = absurd opened
  room_most (s ∷ ss) [] [] opened = absurd opened
  room_most (s ∷ ss) [] (c ∷ cs) opened = absurd opened
  room_most (s ∷ ss) (x ∷ xs) [] opened = absurd opened

  pub have_room : (ss : List Sitting) (xs : List Session) (cs : Rings) → AreOpened room ss xs cs → HaveRoom room.ring cs
  have_room [] [] [] opened = All-nil (λ c. ring_capacity c ≡ room.ring)
  have_room (s ∷ ss) (x ∷ xs) (c ∷ cs) opened = All-cons (λ d. ring_capacity d ≡ room.ring) c cs opened.0.ring (have_room ss xs cs opened.1)
  have_room [] [] (c ∷ cs) opened = absurd opened
  have_room [] (x ∷ xs) [] opened = absurd opened
  have_room [] (x ∷ xs) (c ∷ cs) opened = absurd opened
  have_room (s ∷ ss) [] [] opened = absurd opened
  have_room (s ∷ ss) [] (c ∷ cs) opened = absurd opened
  have_room (s ∷ ss) (x ∷ xs) [] opened = absurd opened

  pub untaken : (ss : List Sitting) (xs : List Session) (cs : Rings) → AreOpened room ss xs cs → (l : ℕ) → received_of cs l ≡ []
  untaken [] [] [] opened l = refl
  untaken (s ∷ ss) (x ∷ xs) (c ∷ cs) opened zero = opened.0.none
  untaken (s ∷ ss) (x ∷ xs) (c ∷ cs) opened (suc l) = untaken ss xs cs opened.1 l
  untaken [] [] (c ∷ cs) opened l = absurd opened
  untaken [] (x ∷ xs) [] opened l = absurd opened
  untaken [] (x ∷ xs) (c ∷ cs) opened l = absurd opened
  untaken (s ∷ ss) [] [] opened l = absurd opened
  untaken (s ∷ ss) [] (c ∷ cs) opened l = absurd opened
  untaken (s ∷ ss) (x ∷ xs) [] opened l = absurd opened

-- What is known of the sessions on the seats of a heap.
module _ (h : Home) (room : Rooms) (n : ℕ) (ss : List Sitting) (xs : List Session) (cs : Rings) (views : map (λ s. s.view) ss ≡ fresh_views h.plan n) (opened : AreOpened room ss xs cs) where
  from : AreFrom h.plan 0 n ss
  from = views ∙ in_order h.plan n

  pub all_joined : All (IsSessionOf h) xs → All (IsJoined h room.lane cs) xs
  all_joined of = are_joined room h.plan h [] 0 n ss xs cs refl from opened of

  pub all_new : AreNew 0 xs
  all_new = are_new room h.plan 0 n ss xs cs from opened

  pub session_count : length xs ≡ n
  session_count = (counts room h.plan 0 n ss xs cs from opened).0

  pub all_seen : (helper : Helping) → helper.table ≡ h.table → helper.view.plan ≡ h.plan → All (seats.IsSeatOf h) ss → SeesFrom helper 0 cs
  all_seen helper table plan of = sees_opened room h.plan h helper 0 n ss xs cs table plan of from opened

  pub ring_count : length cs ≡ n
  ring_count = (counts room h.plan 0 n ss xs cs from opened).1
