-- There is one report of an image's live records: what is dropped, why, and how many fields take an old value back.
use Rattle.std.proofs.Common.{ℕ, zero, suc, ◌≡◌, ◌⊎◌, ◌+◌, ◌<◌, ◌≤◌, ◌++◌, List, [], ◌∷◌, length, map, refl, sym, ap, ◌∙◌, subst, inl, inr, arith, append_assoc}
use Rattle.std.specs.Prelude.{slice_index, AllPairs, Contains}
use Rattle.std.proofs.lemmas.Bool.{cases_lt}
use Rattle.std.proofs.lemmas.List.{get_or-map, length-map}
use Rattle.std.proofs.lemmas.List.Kept.{AllPairs-from_increasing}
use Rattle.heap_model.specs.Log.{lane}
use Rattle.heap_model.specs.Sections.{Action, Takes, Frees, Stores, ended, Section, Did}
use Rattle.heap_model.specs.Cuts.{IsStable}
use Rattle.heap_model.specs.declared.ids.FieldId.{FieldId}
use Rattle.heap_model.specs.declared.ids.Lane.{Lane}
use Rattle.heap_model.specs.declared.record.UndoRecord.{UndoRecord}
use Rattle.dependence.specs.Next.{IsBelow, IsNext}
use Rattle.dependence.specs.Reason.{IsReason, Previous, Releaser, TookFrom, TookInside}
use Rattle.image_parts.specs.declared.lane_row.LaneRow.{LaneRow}
use Rattle.recover.specs.Dropping.{acts_in, trimmed_sections, unsettled_sections, AreDropped, AreEntriesOf, IsAfter, IsCalled, IsEntryOf, IsWhy}
use Rattle.recover_heap.specs.Heap.{AreFields}
use Rattle.image_parts.specs.declared.guard_row.GuardRow.{GuardRow}
use Rattle.image_parts.specs.declared.layout.Layout.{Layout}
use Rattle.recover.specs.Live.{ArePushable}
use Rattle.recover.specs.Recovery.{SameReports}
use Rattle.recover.specs.Study.{IsReportOf}
use Rattle.recover.specs.declared.report.Dropped.{Dropped}
use Rattle.recover.specs.declared.report.Report.{Report}
use Rattle.recover.specs.declared.report.Why.{Why}
use Rattle.recover.specs.declared.report.Why.TheVariants.{Unfinished, After, Unsettled}
use Rattle.recover.proofs.OneReplay.{ends_with, one_replay, same_end}
use Rattle.recover_heap.specs.Logs.{logged_guard_in}
use Rattle.recover.proofs.PushingLemmas.{pushable}

-- The section that freed an object at a number is one.

not_freed : (log : List (ℕ × Action)) (o t n : ℕ) (b : Section) → IsBelow o t n log → Did log b (Frees o n) → ⊥
not_freed [] o t n b below did = did
not_freed ((l, Takes p k) ∷ older) o t n b below (inl h) = absurd (let act : Frees o n ≡ Takes p k = h.1 in cc)
not_freed ((l, Takes p k) ∷ older) o t n b below (inr did) = not_freed older o t n b below.1 did
not_freed ((l, Frees p k) ∷ older) o t n b below (inl h) =
    let act : Frees o n ≡ Frees p k = h.1 in
    let objects : p ≡ o = cc in
    let numbers : n ≡ k = cc in
    omega (arith, numbers, below.0 objects)
not_freed ((l, Frees p k) ∷ older) o t n b below (inr did) = not_freed older o t n b below.1 did
not_freed ((l, Stores) ∷ older) o t n b below (inl h) = absurd (let act : Frees o n ≡ Stores = h.1 in cc)
not_freed ((l, Stores) ∷ older) o t n b below (inr did) = not_freed older o t n b below did

freed_once : (l : ℕ) (act : Action) (older : List (ℕ × Action)) (o n : ℕ) (b : Section) → IsNext older l act → Frees o n ≡ act → Did older b (Frees o n) → ⊥
freed_once l act older o n b next is did =
    let here : IsNext older l (Frees o n) = subst (λ (x : Action). IsNext older l x) (sym is) next in
    not_freed older o (n + 1) n b here.1 did

one_freer : (log : List (ℕ × Action)) (o n : ℕ) (a b : Section) → ArePushable log → Did log a (Frees o n) → Did log b (Frees o n) → a ≡ b
one_freer [] o n a b pushed h k = absurd h
one_freer ((l, act) ∷ older) o n a b pushed (inl h) (inl k) = h.0 ∙ sym k.0
one_freer ((l, act) ∷ older) o n a b pushed (inl h) (inr k) = absurd (freed_once l act older o n b pushed.0 h.1 k)
one_freer ((l, act) ∷ older) o n a b pushed (inr h) (inl k) = absurd (freed_once l act older o n a pushed.0 k.1 h)
one_freer ((l, act) ∷ older) o n a b pushed (inr h) (inr k) = one_freer older o n a b pushed.1 h k

-- what stands somewhere in a list was done by the section that its lane was in
did_there : (newer older : List (ℕ × Action)) (l : ℕ) (act : Action) → Did (newer ++ (l, act) ∷ older) (record { lane = l; number = ended (lane l older) + 1 }) act
did_there [] older l act = inl (refl, refl)
did_there (x ∷ newer) older l act = inr (did_there newer older l act)

-- The reason is one.
module _ (log : List (ℕ × Action)) (cut : ℕ → ℕ) (pushed : ArePushable log) (a : Section) where
  -- an earlier take's releaser is in the cut
  not_earlier : (b c : Section) (old older : List (ℕ × Action)) → TookFrom log a b old → cut b.lane < b.number → TookFrom log a c older → TookInside log cut a older → length old < length older → ⊥
  not_earlier b c old older t out u inside short =
      let first : ℕ × Action = (a.lane, Takes t.object (t.number + 1)) in
      let second : ℕ × Action = (a.lane, Takes u.object (u.number + 1)) in
      let moved : u.newer ++ second ∷ older ≡ (u.newer ++ second ∷ []) ++ older = sym (append_assoc u.newer (second ∷ []) older) in
      let ends = ends_with t.newer (first ∷ old) (u.newer ++ second ∷ []) older (sym t.place ∙ u.place ∙ moved) (omega (arith, short)) in
      let own : (let s : Section = record { lane = a.lane; number = ended (lane a.lane old) + 1 } in s ≡ a) = λ i. record { lane = a.lane; number = sym t.section i } in
      let did : Did older a (Takes t.object (t.number + 1)) = subst (λ (xs : List (ℕ × Action)). Did xs a (Takes t.object (t.number + 1))) (sym ends.1)
      (subst (λ (s : Section). Did (ends.0 ++ first ∷ old) s (Takes t.object (t.number + 1))) own (did_there ends.0 old a.lane (Takes t.object (t.number + 1)))) in
      let counted : b.number ≤ cut b.lane = inside t.object t.number b did t.freed t.other in
      omega (arith, counted, out)

  same_take : (b c : Section) (old older : List (ℕ × Action)) → TookFrom log a b old → TookFrom log a c older → length old ≡ length older → b ≡ c
  same_take b c old older t u long =
      let first : ℕ × Action = (a.lane, Takes t.object (t.number + 1)) in
      let second : ℕ × Action = (a.lane, Takes u.object (u.number + 1)) in
      let ends : first ∷ old ≡ second ∷ older = same_end t.newer (first ∷ old) u.newer (second ∷ older) (sym t.place ∙ u.place) (omega (arith, long)) in
      let pairs : first ≡ second = cc in
      let takes : Takes t.object (t.number + 1) ≡ Takes u.object (u.number + 1) = ap (λ (x : ℕ × Action). x.1) pairs in
      let objects : u.object ≡ t.object = cc in
      let next : u.number + 1 ≡ t.number + 1 = cc in
      let numbers : u.number ≡ t.number = omega (arith, next) in
      let freed : Did log c (Frees t.object t.number) = subst (λ (n : ℕ). Did log c (Frees t.object n)) numbers (subst (λ (o : ℕ). Did log c (Frees o u.number)) objects u.freed) in
      one_freer log t.object t.number b c pushed t.freed freed

  one_reason : (b c : Section) → IsReason log cut a b → IsReason log cut a c → b ≡ c
  one_reason b c (Previous out same next) (Previous out' same' next') =
      let lanes : b.lane ≡ c.lane = same ∙ sym same' in
      let numbers : b.number ≡ c.number = omega (arith, next, next') in
      λ i. record { lane = lanes i; number = numbers i }
  one_reason b c (Previous out same next) (Releaser near older u out' inside') = absurd (let here : cut a.lane < b.number = subst (λ (l : ℕ). cut l < b.number) refl out in omega (arith, here, next, near))
  one_reason b c (Releaser near old t out inside) (Previous out' same' next') = absurd (omega (arith, out', next', near))
  one_reason b c (Releaser near old t out inside) (Releaser near' older u out' inside') = elim (cases_lt (length old) (length older)) [
    | inl lt ↦ absurd (not_earlier b c old older t out u inside' lt)
    | inr le ↦ elim (cases_lt (length older) (length old)) [
      | inl lt ↦ absurd (not_earlier c b older old u out' t inside lt)
      | inr ge ↦ same_take b c old older t u (omega (arith, le, ge))
    ]
  ]

  -- so a section has one name and one reason in a report
  one_lane : (trimmed : ℕ → ℕ) (b : Section) (l m : Lane) (n k : ℕ) → IsCalled trimmed b l n → IsCalled trimmed b m k → (l ≡ m) × (n ≡ k)
  one_lane trimmed b l m n k p q =
      let zero_same : l.0 ≡ m.0 = p.lane_is ∙ sym q.lane_is in
      ((λ i. record { 0 = zero_same i }), p.number_is ∙ sym q.number_is)

  one_after : (trimmed : ℕ → ℕ) (l m : Lane) (n k : ℕ) → IsAfter trimmed log cut a l n → IsAfter trimmed log cut a m k → (l ≡ m) × (n ≡ k)
  one_after trimmed l m n k p q =
      let same : p.first ≡ q.first = one_reason p.first q.first p.reason q.reason in
      one_lane trimmed q.first l m n k (subst (λ (s : Section). IsCalled trimmed s l n) same p.called) q.called

  one_why : (trimmed : ℕ → ℕ) (v w : Why) → IsStable log cut → IsWhy trimmed log cut a v → IsWhy trimmed log cut a w → v ≡ w
  one_why trimmed Unfinished Unfinished stable p q = refl
  one_why trimmed Unfinished (After m k) stable p q = absurd (omega (arith, p, q.left_out.whole))
  one_why trimmed Unfinished Unsettled stable p q = absurd (omega (arith, p, q, stable.whole a.lane))
  one_why trimmed (After l n) Unfinished stable p q = absurd (omega (arith, q, p.left_out.whole))
  one_why trimmed (After l n) (After m k) stable p q = let same = one_after trimmed l m n k p q in λ i. After (same.0 i) (same.1 i)
  one_why trimmed (After l n) Unsettled stable p q = absurd (omega (arith, p.left_out.outside, q))
  one_why trimmed Unsettled Unfinished stable p q = absurd (omega (arith, q, p, stable.whole a.lane))
  one_why trimmed Unsettled (After m k) stable p q = absurd (omega (arith, q.left_out.outside, p))
  one_why trimmed Unsettled Unsettled stable p q = refl

  one_entry : (trimmed : ℕ → ℕ) (d e : Dropped) → IsStable log cut → IsEntryOf trimmed log cut a d → IsEntryOf trimmed log cut a e → d ≡ e
  one_entry trimmed d e stable p q =
      let named = one_lane trimmed a d.lane e.lane d.section e.section p.called q.called in
      let why : d.why ≡ e.why = one_why trimmed d.why e.why stable p.why_is q.why_is in
      λ i. record { lane = named.0 i; section = named.1 i; why = why i }

one_list : (log : List (ℕ × Action)) (cut trimmed : ℕ → ℕ) → ArePushable log → IsStable log cut → (sections : List Section) (ds es : List Dropped) →
    AreEntriesOf trimmed log cut sections ds → AreEntriesOf trimmed log cut sections es → ds ≡ es
one_list log cut trimmed pushed stable [] [] [] p q = refl
one_list log cut trimmed pushed stable [] [] (e ∷ es) p q = absurd q
one_list log cut trimmed pushed stable [] (d ∷ ds) es p q = absurd p
one_list log cut trimmed pushed stable (a ∷ sections) [] es p q = absurd p
one_list log cut trimmed pushed stable (a ∷ sections) (d ∷ ds) [] p q = absurd q
one_list log cut trimmed pushed stable (a ∷ sections) (d ∷ ds) (e ∷ es) p q =
    let first : d ≡ e = one_entry log cut pushed a trimmed d e stable p.0 q.0 in
    let rest : ds ≡ es = one_list log cut trimmed pushed stable sections ds es p.1 q.1 in
    λ i. first i ∷ rest i

one_stable : (log : List (ℕ × Action)) (c d : ℕ → ℕ) → IsStable log c → IsStable log d → c ≡ d
one_stable log c d p q = λ i l. (let same : c l ≡ d l = omega (arith, q.greatest c p.whole p.closed l, p.greatest d q.whole q.closed l) in same) i

-- what is dropped of a replay's records is one list
pub one_dropped : (rows : List LaneRow) (lanes : ℕ → List UndoRecord) (done : List (ℕ × UndoRecord)) (count : ℕ) (ds es : List Dropped) → ArePushable (acts_in done) →
    AreDropped rows lanes done count ds → AreDropped rows lanes done count es → ds ≡ es
one_dropped rows lanes done count ds es pushed p q =
    let trimmed : ℕ → ℕ = trimmed_sections rows lanes in
    let sections : List Section = unsettled_sections rows lanes count in
    let cuts : q.cut ≡ p.cut = one_stable (acts_in done) q.cut p.cut q.stable p.stable in
    one_list (acts_in done) p.cut trimmed pushed p.stable sections ds es p.entries (subst (λ (c : ℕ → ℕ). AreEntriesOf trimmed (acts_in done) c sections es) cuts q.entries)

-- The fields that take an old value back are one list.

head_or : (f : FieldId) (fs : List FieldId) (h : FieldId) → Contains (f ∷ fs) h → (f ≡ h) ⊎ Contains fs h
head_or f fs h (zero, lt, is) = inl is
head_or f fs h (suc k, lt, is) = inr (k, omega (arith, lt), is)

later_more : (f : FieldId) (fs : List FieldId) (h : FieldId) → Contains fs h → Contains (f ∷ fs) h
later_more f fs h has = (suc has.0, omega (arith, has.1), has.2)

rises : (f : FieldId) (fs : List FieldId) (h : FieldId) → AllPairs (λ x y. x < y) (map (λ (g : FieldId). g.0) (f ∷ fs)) → Contains fs h → f.0 < h.0
rises f fs h pairs has =
    let long : length (map (λ (g : FieldId). g.0) fs) ≡ length fs = length-map fs (λ (g : FieldId). g.0) in
    let lt : f.0 < slice_index (map (λ (g : FieldId). g.0) fs) has.0 = pairs 0 (suc has.0) 0 (omega arith) (omega (arith, has.1, long)) in
    let at : slice_index (map (λ (g : FieldId). g.0) fs) has.0 ≡ h.0 = get_or-map (λ (g : FieldId). g.0) fs has.0 h 0 has.1 ∙ ap (λ (g : FieldId). g.0) has.2 in
    omega (arith, lt, at)

rest_rises : (f : FieldId) (fs : List FieldId) → AllPairs (λ x y. x < y) (map (λ (g : FieldId). g.0) (f ∷ fs)) → AllPairs (λ x y. x < y) (map (λ (g : FieldId). g.0) fs)
rest_rises f fs pairs = λ i j d lt below. pairs (suc i) (suc j) d (omega (arith, lt)) (omega (arith, below))

one_rising : (fs gs : List FieldId) → AllPairs (λ x y. x < y) (map (λ (f : FieldId). f.0) fs) → AllPairs (λ x y. x < y) (map (λ (f : FieldId). f.0) gs) →
    ((h : FieldId) → Contains fs h → Contains gs h) → ((h : FieldId) → Contains gs h → Contains fs h) → fs ≡ gs
one_rising [] [] p q there back = refl
one_rising [] (g ∷ gs) p q there back = absurd (let none = back g (0, omega arith, refl) in omega (arith, none.1))
one_rising (f ∷ fs) [] p q there back = absurd (let none = there f (0, omega arith, refl) in omega (arith, none.1))
one_rising (f ∷ fs) (g ∷ gs) p q there back =
    let heads : f ≡ g = elim (head_or g gs f (there f (0, omega arith, refl))) [
      | inl is ↦ sym is
      | inr over ↦ elim (head_or f fs g (back g (0, omega arith, refl))) [
        | inl is ↦ is
        | inr under ↦ absurd (let low = rises g gs f q over in let high = rises f fs g p under in omega (arith, low, high))
      ]
    ] in
    let numbers : f.0 ≡ g.0 = ap (λ (h : FieldId). h.0) heads in
    let there_too : (h : FieldId) → Contains fs h → Contains gs h = λ h has. elim (head_or g gs h (there h (later_more f fs h has))) [
      | inl is ↦ absurd (let low = rises f fs h p has in let same : g.0 ≡ h.0 = ap (λ (x : FieldId). x.0) is in omega (arith, low, numbers, same))
      | inr in_rest ↦ in_rest
    ] in
    let back_too : (h : FieldId) → Contains gs h → Contains fs h = λ h has. elim (head_or f fs h (back h (later_more g gs h has))) [
      | inl is ↦ absurd (let low = rises g gs h q has in let same : f.0 ≡ h.0 = ap (λ (x : FieldId). x.0) is in omega (arith, low, numbers, same))
      | inr in_rest ↦ in_rest
    ] in
    let rest : fs ≡ gs = one_rising fs gs (rest_rises f fs p) (rest_rises g gs q) there_too back_too in
    λ i. heads i ∷ rest i

one_fields : (P : ℕ → Type 0) (fs gs : List FieldId) → AreFields P fs → AreFields P gs → fs ≡ gs
one_fields P fs gs p q = one_rising fs gs
    (AllPairs-from_increasing (map (λ (f : FieldId). f.0) fs) p.rising)
    (AllPairs-from_increasing (map (λ (f : FieldId). f.0) gs) q.rising)
    (λ h has. (q.each h).1 ((p.each h).0 has))
    (λ h has. (p.each h).1 ((q.each h).0 has))

-- what an image's parts make of a report
pub one_report : (l : Layout) (guards : List GuardRow) (rows : List LaneRow) (lanes : ℕ → List UndoRecord) (r t : Report) → IsReportOf l guards rows lanes r → IsReportOf l guards rows lanes t → SameReports r t
one_report l guards rows lanes r t p q =
    let done : p.done ≡ q.done = one_replay (logged_guard_in guards) lanes p.done q.done p.replays.replay q.replays.replay in
    let pushed : ArePushable (acts_in q.done) = pushable (logged_guard_in guards) q.replays.replay.first lanes q.done q.replays.replay.greedy in
    let dropped : AreDropped rows lanes q.done l.lanes r.dropped.items = subst (λ (d : List (ℕ × UndoRecord)). AreDropped rows lanes d l.lanes r.dropped.items) done p.dropped_are in
    let fields : p.fields ≡ q.fields = one_fields _ p.fields q.fields p.undone_are q.undone_are in
    record {
      kept_same = λ lane. p.kept_are lane ∙ sym (q.kept_are lane);
      dropped_same = one_dropped rows lanes q.done l.lanes r.dropped.items t.dropped.items pushed dropped q.dropped_are;
      undone_same = p.undone_is ∙ ap (λ (fs : List FieldId). length fs) fields ∙ sym q.undone_is;
    }
