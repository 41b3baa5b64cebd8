-- Records are applied, one after the other.
use Rattle.std.proofs.Common.{ℕ, zero, suc, ◌≡◌, ◌≢◌, ◌+◌, ◌-◌, ◌*◌, ◌/◌, ◌^◌, ◌<◌, ◌≤◌, if◌then◌else◌, Bool, true, false, List, [], ◌∷◌, ◌++◌, length, Ok, Err, Option, None, Some, MatchOption, refl, sym, ap, ◌∙◌, subst, inl, inr, arith}
use Rattle.std.proofs.Math.Nat.{zero-div}
use Rattle.std.proofs.lemmas.Bool.{cases_eq, cases_lt}
use Rattle.std.proofs.lemmas.Bool.Decides.{eqb_tells}
use Rattle.std.proofs.lemmas.List.{append-nil, append_assoc, length-append}
use Rattle.thread_rings.specs.Rings.{Receiving}
use Rattle.thread_rings.specs.declared.ring_records.TheConstants.{MOST_RING_RECORDS}
use Rattle.heap_model.specs.declared.record.Record.{Record}
use Rattle.heap_model.specs.Setting.{Setting}
use Rattle.block_disk.specs.Device.{Device}
use Rattle.heap_model.specs.Past.{Past, applied, after_apply}
use Rattle.store_rounds.specs.Steps.{RefusesApply}
use Rattle.store_rounds.specs.Store as stores
use Rattle.store_rounds.specs.Store.{HasPast}
use Rattle.heap_model.specs.declared.store_error.StoreError.{StoreError}
use Rattle.heap_model.specs.declared.store_error.StoreError.TheVariants.{Failed}
use Rattle.trim_helper.specs.Rings.{received_of, known_of, held_back, waiting_in, stream}
use Rattle.trim_helper.specs.Moves.{HasNothing, Moves, most_room, known_sum, held_sum}
use Rattle.trim_helper.specs.Taken.{Taking, HadTurn, HasGone, HasTaken, Advances, AllStuck, IsLaneStuck, IsStuckAt, applied_more}
use Rattle.trim_helper.specs.Draining.{Empties, AppliesNext, HadParts, HasAll, Rests, AppliesLane, Takes, AppliesLanes}
use Rattle.trim_helper.proofs.Progress.{stream_own, stream_other}
use Rattle.trim_helper.proofs.RingMoves.{same_refl, same_then, known_most, held_most}
use Rattle.trim_helper.proofs.Seeing.{keeps_refl, keeps_then}

whole_all : (r0 r1 : List Receiving) (w0 w1 : List (Option Record)) (lane : ℕ) (gone : List Record) → Moves lane gone r0 w0 r1 w1 → (l : ℕ) → received_of r1 l ++ known_of r1 l ≡ received_of r0 l ++ known_of r0 l
whole_all r0 r1 w0 w1 lane gone moves l = elim (eqb_tells lane l) [
  | inl e ↦ subst (λ k. received_of r1 k ++ known_of r1 k ≡ received_of r0 k ++ known_of r0 k) e.1 moves.whole
  | inr e ↦ let o = moves.others l e.1 in ap (λ (xs : List Record). xs ++ known_of r1 l) o.0 ∙ ap (λ (xs : List Record). received_of r0 l ++ xs) o.1
]

-- of no lane what was applied grows less
rises_all : (r0 r1 : List Receiving) (w0 w1 : List (Option Record)) (lane : ℕ) (gone : List Record) → Moves lane gone r0 w0 r1 w1 → (l : ℕ) →
    (length (received_of r0 l) + length (held_back (waiting_in w1 l))) + 0 ≤ length (received_of r1 l) + length (held_back (waiting_in w0 l))
rises_all r0 r1 w0 w1 lane gone moves l = elim (eqb_tells lane l) [
  | inl e ↦ subst (λ k. (length (received_of r0 k) + length (held_back (waiting_in w1 k))) + 0 ≤ length (received_of r1 k) + length (held_back (waiting_in w0 k))) e.1 (let count = moves.count in omega arith)
  | inr e ↦
      let o = moves.others l e.1 in
      let a : length (received_of r1 l) ≡ length (received_of r0 l) = ap (λ (xs : List Record). length xs) o.0 in
      let b : length (held_back (waiting_in w1 l)) ≡ length (held_back (waiting_in w0 l)) = ap (λ v. length (held_back v)) o.2 in
      omega arith
]

-- the record that was fetched was applied
pub moves_then : (r0 r1 r2 : List Receiving) (w0 w1 w2 : List (Option Record)) (lane : ℕ) (gone : List Record) → Moves lane [] r0 w0 r1 w1 → Moves lane gone r1 w1 r2 w2 → Moves lane gone r0 w0 r2 w2
moves_then r0 r1 r2 w0 w1 w2 lane gone one two = record {
  taken = λ before is. two.taken before (one.taken before is ∙ ap (λ (xs : List Record). xs ++ held_back (waiting_in w1 lane)) (append-nil before));
  whole = two.whole ∙ one.whole;
  others = λ l other. let a = one.others l other in let b = two.others l other in (b.0 ∙ a.0, b.1 ∙ a.1, b.2 ∙ a.2);
  left = let a = one.left in let b = two.left in omega arith;
  count = let a = one.count in let b = two.count in omega arith;
  same = same_then r0 r1 r2 one.same two.same;
  told = keeps_then r0 r1 r2 one.told two.told;
  slots = two.slots ∙ one.slots;
}

module _ {D : Type 0} (device : D → Device) where
  -- nothing was applied, and a record may be held back
  pub moved_has : (x y : Taking D) (lane : ℕ) (s : Setting) (p : Past) → Moves lane [] x.rings x.waiting y.rings y.waiting → y.store ≡ x.store → HasTaken device x s p → HasTaken device y s p
  moved_has x y lane s p moves same was = record {
    has = subst (λ (z : stores.Parts D). HasPast z.known s p (device z.disk)) (sym same) was.has;
    taken = λ l. elim (eqb_tells lane l) [
      | inl e ↦ subst (λ k. received_of y.rings k ≡ stream k (applied p) ++ held_back (waiting_in y.waiting k)) e.1
          (moves.taken (stream lane (applied p)) (was.taken lane) ∙ ap (λ (xs : List Record). xs ++ held_back (waiting_in y.waiting lane)) (append-nil (stream lane (applied p))))
      | inr e ↦ let o = moves.others l e.1 in o.0 ∙ was.taken l ∙ ap (λ v. stream l (applied p) ++ held_back v) (sym o.2)
    ];
  }

  -- one was applied
  pub applied_has : (x y : Taking D) (lane : ℕ) (r : Record) (s : Setting) (p : Past) → Moves lane (r ∷ []) x.rings x.waiting y.rings y.waiting → HasTaken device x s p →
      HasPast y.store.known s (after_apply p lane r) (device y.store.disk) → HasTaken device y s (after_apply p lane r)
  applied_has x y lane r s p moves was has = record {
    has = has;
    taken = λ l. elim (eqb_tells lane l) [
      | inl e ↦ subst (λ k. received_of y.rings k ≡ stream k ((lane, r) ∷ applied p) ++ held_back (waiting_in y.waiting k)) e.1
          (moves.taken (stream lane (applied p)) (was.taken lane) ∙ ap (λ (xs : List Record). xs ++ held_back (waiting_in y.waiting lane)) (sym (stream_own lane r (applied p))))
      | inr e ↦ let o = moves.others l e.1 in
          o.0 ∙ was.taken l ∙ ap (λ v. stream l (applied p) ++ held_back v) (sym o.2) ∙ ap (λ (xs : List Record). xs ++ held_back (waiting_in y.waiting l)) (sym (stream_other l lane r (applied p) e.1))
    ];
  }

  pub advances_none : (x y : Taking D) (lane : ℕ) → Moves lane [] x.rings x.waiting y.rings y.waiting → y.store ≡ x.store → Advances device x y 0
  advances_none x y lane moves same = record {
    made = λ s p has. ([], refl, moved_has x y lane s p moves same has);
    whole = whole_all x.rings y.rings x.waiting y.waiting lane [] moves;
    left = moves.left;
    rises = rises_all x.rings y.rings x.waiting y.waiting lane [] moves;
    same = moves.same;
    told = moves.told;
    slots = moves.slots;
    layout = ap (λ (z : stores.Parts D). z.known.layout) same;
    threads = ap (λ (z : stores.Parts D). z.known.threads) same;
    running = ap (λ (z : stores.Parts D). z.known.has_failed) same;
    sequence = ap (λ (z : stores.Parts D). z.known.committed.sequence) same;
    uncalled = ap (λ (z : stores.Parts D). device z.disk) same;
    still = λ off. (refl, same);
  }

  pub advances_one : (x y : Taking D) (lane : ℕ) (r : Record) → Moves lane (r ∷ []) x.rings x.waiting y.rings y.waiting →
      ((s : Setting) (p : Past) → HasPast x.store.known s p (device x.store.disk) → HasPast y.store.known s (after_apply p lane r) (device y.store.disk)) → y.store.known.layout ≡ x.store.known.layout → y.store.known.threads ≡ x.store.known.threads →
      y.store.known.has_failed ≡ x.store.known.has_failed → y.store.known.committed.sequence ≡ x.store.known.committed.sequence → y.store.disk ≡ x.store.disk → x.store.known.has_failed ≡ false → Advances device x y 1
  advances_one x y lane r moves makes layout threads running sequence same runs = record {
    made = λ s p has. ((lane, r) ∷ [], refl, applied_has x y lane r s p moves has (makes s p has.has));
    whole = whole_all x.rings y.rings x.waiting y.waiting lane (r ∷ []) moves;
    left = moves.left;
    rises = rises_all x.rings y.rings x.waiting y.waiting lane (r ∷ []) moves;
    same = moves.same;
    told = moves.told;
    slots = moves.slots;
    layout = layout;
    threads = threads;
    running = running;
    sequence = sequence;
    uncalled = ap device same;
    still = λ off. absurd (let no : false ≡ true = sym runs ∙ off in cc);
  }

  pub advances_start : (x : Taking D) → Advances device x x 0
  advances_start x = record { made = λ s p has. ([], refl, has); whole = λ l. refl; left = omega arith; rises = λ l. omega arith; same = same_refl x.rings; told = keeps_refl x.rings; slots = refl; layout = refl; threads = refl; running = refl; sequence = refl; uncalled = refl; still = λ off. (refl, refl) }

  pub advances_then : (x y z : Taking D) (n m : ℕ) → Advances device x y n → Advances device y z m → Advances device x z (n + m)
  advances_then x y z n m one two = record {
    made = λ s p has.
        let first = one.made s p has in
        let after = two.made s (applied_more first.0 p) first.2 in (
          after.0 ++ first.0,
          length-append after.0 first.0 ∙ (let a = first.1 in let b = after.1 in omega arith),
          subst (λ (xs : List (ℕ × Record)). HasTaken device z s (record p { fresh = xs })) (sym (append_assoc after.0 first.0 p.fresh)) after.2,
        );
    whole = λ l. two.whole l ∙ one.whole l;
    left = let a = one.left in let b = two.left in omega arith;
    rises = λ l. let a = one.rises l in let b = two.rises l in omega arith;
    same = same_then x.rings y.rings z.rings one.same two.same;
    told = keeps_then x.rings y.rings z.rings one.told two.told;
    slots = two.slots ∙ one.slots;
    layout = two.layout ∙ one.layout;
    threads = two.threads ∙ one.threads;
    running = two.running ∙ one.running;
    sequence = two.sequence ∙ one.sequence;
    uncalled = two.uncalled ∙ one.uncalled;
    still = λ off. let a = one.still off in let b = two.still (one.running ∙ off) in (omega (arith, a.0, b.0), b.1 ∙ a.1);
  }

  pub advances_done : (x y z : Taking D) (n m : ℕ) → Advances device x y n → Advances device y z m → m ≡ 0 → Advances device x z n
  advances_done x y z n m one two none = subst (λ k. Advances device x z k) (omega arith) (advances_then x y z n m one two)

  -- what the rings and the waiting records hold is little
  pub count_low : (x y : Taking D) (n : ℕ) → Advances device x y n → most_room x.rings ≤ MOST_RING_RECORDS → length x.rings ≤ 32 → length x.waiting ≡ 32 → n < 2 ^ 64 - 1
  count_low x y n one room few slots =
      let a = one.left in
      let most : known_sum x.rings ≤ length x.rings * 65536 = known_most 65536 x.rings room in
      let held : held_sum x.waiting ≤ length x.waiting = held_most x.waiting in
      omega arith

  -- the record is refused, so the lane doesn't go on
  pub stuck_here : (x y : Taking D) (lane : ℕ) (q : Record) (e : StoreError) → waiting_in y.waiting lane ≡ Some q → e ≢ Failed → y.store ≡ x.store →
      ((s : Setting) (p : Past) → HasPast x.store.known s p (device x.store.disk) → RefusesApply x.store.known s p lane q e) → IsStuckAt device y lane
  stuck_here x y lane q e is not same why s p has =
      subst (λ (v : Option Record). MatchOption v (known_of y.rings lane ≡ []) (λ k. (f : StoreError) × (f ≢ Failed) × RefusesApply y.store.known s p lane k f)) (sym is)
      (e, not, subst (λ (z : stores.Parts D). RefusesApply z.known s p lane q e) (sym same) (why s p (subst (λ (z : stores.Parts D). HasPast z.known s p (device z.disk)) same has)))

  -- none waits, and none is known to be in the ring
  pub stuck_empty : (y : Taking D) (lane : ℕ) → (w : Option Record) → waiting_in y.waiting lane ≡ w → ((q : Record) → w ≡ Some q → ⊥) → (waiting_in y.waiting lane ≡ None → known_of y.rings lane ≡ []) → IsStuckAt device y lane
  stuck_empty y lane None is not none s p has =
      subst (λ (v : Option Record). MatchOption v (known_of y.rings lane ≡ []) (λ k. (f : StoreError) × (f ≢ Failed) × RefusesApply y.store.known s p lane k f)) (sym is) (none is)
  stuck_empty y lane (Some q) is not none s p has = absurd (not q refl)

  -- the lane has nothing to go on with
  pub stuck_nothing : (y : Taking D) (lane : ℕ) → HasNothing y.rings y.waiting lane → IsStuckAt device y lane
  stuck_nothing y lane nothing = stuck_empty y lane None nothing.1 (λ q no. absurd (let clash : None ≡ Some q = no in cc)) (λ none. nothing.0)

  -- so the lane rests
  pub rests_so : (x y : Taking D) (lane : ℕ) → Moves lane [] x.rings x.waiting y.rings y.waiting → y.store ≡ x.store → IsStuckAt device y lane → Rests device lane x y
  rests_so x y lane moves same stuck = record {
    store = same;
    stuck = stuck;
    others = λ l s p other was.
        let o = moves.others l other in
        subst (λ (z : stores.Parts D). IsLaneStuck z.known y.rings y.waiting s p l) (sym same)
        (subst (λ (v : Option Record). MatchOption v (known_of y.rings l ≡ []) (λ k. (f : StoreError) × (f ≢ Failed) × RefusesApply x.store.known s p l k f)) (sym o.2)
        (subst (λ (xs : List Record). MatchOption (waiting_in x.waiting l) (xs ≡ []) (λ k. (f : StoreError) × (f ≢ Failed) × RefusesApply x.store.known s p l k f)) (sym o.1) was));
  }

  pub takes_done : (x y : Taking D) (n : ℕ) → Advances device x y n → Takes device x y (Ok n)
  takes_done x y n on = record { ok = on; kept = tt; failed = tt; why = λ s p taken. tt }

  -- what went before a refusal stands
  pub takes_failed : (x y z : Taking D) (n : ℕ) (e : StoreError) → Advances device x y n → Takes device y z (Err e) → Takes device x z (Err e)
  takes_failed x y z n e on last = record {
    ok = tt;
    kept = (n + last.kept.0, advances_then x y z n last.kept.0 on last.kept.1);
    failed = last.failed;
    why = λ s p taken. let made = on.made s p taken in sym on.running ∙ last.why s (applied_more made.0 p) made.2;
  }

  -- nothing went, and the lane rests
  pub goes_not : (x y : Taking D) (lane : ℕ) → Moves lane [] x.rings x.waiting y.rings y.waiting → y.store ≡ x.store → IsStuckAt device y lane → AppliesNext device lane x y (Ok false)
  goes_not x y lane moves same stuck = record {
    takes = takes_done x y 0 (advances_none x y lane moves same);
    gone = let count = moves.count in let gone : HasGone 0 lane x y = omega arith in gone;
    rests = λ none. rests_so x y lane moves same stuck;
  }

  -- one went
  pub goes_one : (x y : Taking D) (lane : ℕ) (r : Record) → Moves lane (r ∷ []) x.rings x.waiting y.rings y.waiting → Advances device x y 1 → AppliesNext device lane x y (Ok true)
  goes_one x y lane r moves on = record { takes = takes_done x y 1 on; gone = let count = moves.count in let gone : HasGone 1 lane x y = omega arith in gone; rests = λ no. absurd (let not : true ≡ false = no in cc) }

  -- the store has failed
  pub goes_failed : (x y : Taking D) (lane : ℕ) (e : StoreError) → Moves lane [] x.rings x.waiting y.rings y.waiting → y.store ≡ x.store → e ≡ Failed →
      ((s : Setting) (p : Past) → HasPast x.store.known s p (device x.store.disk) → x.store.known.has_failed ≡ true) → AppliesNext device lane x y (Err e)
  goes_failed x y lane e moves same is why = record {
    takes = record { ok = tt; kept = (0, advances_none x y lane moves same); failed = is; why = λ s p taken. why s p taken.has };
    gone = tt;
    rests = tt;
  }

-- how many records that is
abbrev went_of : Bool → ℕ
went_of b = if b then 1 else 0

one_is : (b : Bool) → b ≡ true → went_of b ≡ 1
one_is true is = refl
one_is false is = absurd (let no : false ≡ true = is in cc)

none_is : (b : Bool) → b ≡ false → went_of b ≡ 0
none_is true is = absurd (let no : true ≡ false = is in cc)
none_is false is = refl

module _ {D : Type 0} (device : D → Device) where
  -- one record more was applied
  pub advances_by_one : (x y z : Taking D) (lane n : ℕ) (b : Bool) → b ≡ true → Advances device x y n → AppliesNext device lane y z (Ok b) → Advances device x z (n + 1)
  advances_by_one x y z lane n b is one go = subst (λ k. Advances device x z (n + k)) (one_is b is) (advances_then device x y z n (if b then 1 else 0) one go.takes.ok)

  pub gone_by_one : (x y z : Taking D) (lane n : ℕ) (b : Bool) → b ≡ true → HasGone n lane x y → AppliesNext device lane y z (Ok b) → HasGone (n + 1) lane x z
  gone_by_one x y z lane n b is was go =
      let before : HasGone n lane x y = was in
      let one : HasGone 1 lane y z = subst (λ (k : ℕ). HasGone k lane y z) (one_is b is) go.gone in
      omega arith

  -- the lane has run on as long as it could
  pub runs_done : (x y z : Taking D) (lane most n : ℕ) (b : Bool) → b ≡ false → n < most → Advances device x y n → HasGone n lane x y → (n ≡ 0 → y ≡ x) → AppliesNext device lane y z (Ok b) → AppliesLane device lane most x z (Ok n)
  runs_done x y z lane most n b not low one was still go =
      let rests = go.rests not in
      record {
        takes = takes_done device x z n (advances_done device x y z n (if b then 1 else 0) one go.takes.ok (none_is b not));
        within = omega arith;
        gone =
            let before : HasGone n lane x y = was in
            let none : HasGone (if b then 1 else 0) lane y z = go.gone in
            omega arith;
        stuck = λ below. rests.stuck;
        rests = λ none some. subst (λ k. Rests device lane k z) (still none) rests;
      }

  -- the lane has run on as long as it might
  pub runs_full : (x y : Taking D) (lane most n : ℕ) → n ≡ most → Advances device x y n → HasGone n lane x y → AppliesLane device lane most x y (Ok n)
  runs_full x y lane most n full one was = record {
    takes = takes_done device x y n one;
    within = omega arith;
    gone = was;
    stuck = λ below. absurd (omega arith);
    rests = λ none some. absurd (omega arith);
  }

  pub runs_failed : (x y z : Taking D) (lane most n : ℕ) (e : StoreError) → Advances device x y n → AppliesNext device lane y z (Err e) → AppliesLane device lane most x z (Err e)
  runs_failed x y z lane most n e one go = record { takes = takes_failed device x y z n e one go.takes; within = tt; gone = tt; stuck = tt; rests = tt }

  -- The lanes below this one had their turn, and so many records were applied, within the bound.
  pub record Turned (most : ℕ) (x y : Taking D) (went lane : ℕ) : Type 0 where
    pub advances : Advances device x y went
    pub stuck : went ≡ 0 → 0 < most → (l : ℕ) → l < lane → IsStuckAt device y l
    pub parts : (l : ℕ) → l < lane → HadTurn device (most / length x.rings) l x y

  pub turned_none : (most : ℕ) (x : Taking D) → Turned most x x 0 0
  turned_none most x = record { advances = advances_start device x; stuck = λ none some l lt. absurd (omega arith); parts = λ l lt. absurd (omega arith) }

  -- a lane that had its turn has had it
  pub turn_kept : (part l : ℕ) (x y z : Taking D) (m : ℕ) → HadTurn device part l x y → Advances device y z m → HadTurn device part l x z
  turn_kept part l x y z m had on = elim had [
    | inl gone ↦ inl (let before : HasGone part l x y = gone in let since : HasGone 0 l y z = on.rises l in omega arith)
    | inr out ↦ inr (record { moment = out.moment; before = out.before; since = out.since + m; first = out.first; later = advances_then device out.moment y z out.since m out.later on; stuck = out.stuck })
  ]

  -- the lane can't go on now
  pub turn_out : (part l : ℕ) (x y : Taking D) (n : ℕ) → Advances device x y n → IsStuckAt device y l → HadTurn device part l x y
  turn_out part l x y n on stuck = inr (record { moment = y; before = n; since = 0; first = on; later = advances_start device y; stuck = stuck })

  -- the next lane has nothing to go on with
  pub turned_past : (most : ℕ) (x y : Taking D) (went lane : ℕ) → HasNothing y.rings y.waiting lane → Turned most x y went lane → Turned most x y went (lane + 1)
  turned_past most x y went lane nothing was =
      let here : IsStuckAt device y lane = stuck_nothing device y lane nothing in
      record {
        advances = was.advances;
        stuck = λ none some l lt. elim (cases_eq lane l) [
          | inl at ↦ subst (λ k. IsStuckAt device y k) at here
          | inr other ↦ was.stuck none some l (omega arith)
        ];
        parts = λ l lt. elim (cases_eq lane l) [
          | inl at ↦ subst (λ k. HadTurn device (most / length x.rings) k x y) at (turn_out (most / length x.rings) lane x y went was.advances here)
          | inr other ↦ was.parts l (omega arith)
        ];
      }

  -- the next lane had its share, which is some where something remained
  pub turned_more : (most share : ℕ) (x y z : Taking D) (went n lane : ℕ) → (0 < most - went → 0 < share) → most / length x.rings ≤ share → Turned most x y went lane → AppliesLane device lane share y z (Ok n) → Turned most x z (went + n) (lane + 1)
  turned_more most share x y z went n lane gets least was ran = record {
    advances = advances_then device x y z went n was.advances ran.takes.ok;
    parts = λ l lt.
        let part = most / length x.rings in
        let here : HadTurn device part lane x z = elim (cases_lt n share) [
          | inl low ↦ turn_out part lane x z (went + n) (advances_then device x y z went n was.advances ran.takes.ok) (ran.stuck low)
          | inr full ↦ inl (let before : HasGone 0 lane x y = was.advances.rises lane in let gone : HasGone n lane y z = ran.gone in let le : part ≤ n = omega (arith, least, full) in omega (arith, before, gone, le))
        ] in
        elim (cases_eq lane l) [
          | inl at ↦ subst (λ k. HadTurn device part k x z) at here
          | inr other ↦ turn_kept part l x y z n (was.parts l (omega arith)) ran.takes.ok
        ];
    stuck = λ none some l lt.
        let got : 0 < share = gets (omega arith) in
        let rests : Rests device lane y z = ran.rests (omega arith) got in
        elim (cases_eq lane l) [
          | inl at ↦ subst (λ k. IsStuckAt device z k) at rests.stuck
          | inr other ↦ λ s p has. rests.others l s p other (was.stuck (omega arith) some l (omega arith) s p (subst (λ (k : stores.Parts D). HasPast k.known s p (device k.disk)) rests.store has))
        ];
  }

  -- each lane had its turn
  pub turns_done : (most : ℕ) (x y : Taking D) (went lane : ℕ) → length y.rings ≤ lane → went ≤ most → Turned most x y went lane → AppliesLanes device most x y (Ok went)
  turns_done most x y went lane all within was = record {
    takes = takes_done device x y went was.advances;
    within = within;
    stuck = λ none some l lt. was.stuck none some l (omega arith);
    parts = λ l lt. was.parts l (omega (arith, was.advances.same.count));
  }

  pub turns_failed : (most share : ℕ) (x y z : Taking D) (went lane : ℕ) (e : StoreError) → Turned most x y went lane → AppliesLane device lane share y z (Err e) → AppliesLanes device most x z (Err e)
  turns_failed most share x y z went lane e was ran = record { takes = takes_failed device x y z went e was.advances ran.takes; within = tt; stuck = tt; parts = tt }

  -- a turn in which some might go, and none did, was the last
  pub empties_done : (most left : ℕ) (x y z : Taking D) (n m : ℕ) → m ≡ 0 → n + left ≡ most → 0 < left → Advances device x y n → AppliesLanes device left y z (Ok m) → (AllStuck device z → HasAll device z) → Empties device most x z (Ok n)
  empties_done most left x y z n m none all some one last whole =
      let stuck : AllStuck device z = last.stuck none some in
      record { takes = takes_done device x z n (advances_done device x y z n m one last.takes.ok none); within = omega arith; stuck = λ below. stuck; whole = λ below. whole stuck; parts = λ full. absurd (omega arith) }

  -- no lane has anything to go on with
  pub empties_nothing : (most : ℕ) (x y : Taking D) (n : ℕ) → n < most → Advances device x y n → ((l : ℕ) → l < length y.rings → HasNothing y.rings y.waiting l) → (AllStuck device y → HasAll device y) → Empties device most x y (Ok n)
  empties_nothing most x y n low one nothing whole =
      let stuck : AllStuck device y = λ l lt. stuck_nothing device y l (nothing l lt) in
      record { takes = takes_done device x y n one; within = omega arith; stuck = λ below. stuck; whole = λ below. whole stuck; parts = λ full. absurd (omega arith) }

  -- each lane had its part in the first turn
  pub turns_parts : (most left n m : ℕ) (x y z : Taking D) → n + left ≡ most → (n ≡ 0 → y ≡ x) → (0 < n → HadParts device most x y) → AppliesLanes device left y z (Ok m) → HadParts device most x z
  turns_parts most left zero m x y z all start parts last =
      let same : left ≡ most = omega arith in
      subst (λ k. HadParts device k x z) same (subst (λ (k : Taking D). HadParts device left k z) (start refl) last.parts)
  turns_parts most left (suc n) m x y z all start parts last = λ l lt. turn_kept (most / length x.rings) l x y z m (parts (omega arith) l lt) last.takes.ok

  -- so it is at the bound, also where that is none
  pub full_parts : (most : ℕ) (x y : Taking D) (n : ℕ) → n ≡ most → (0 < n → HadParts device most x y) → Advances device x y n → HadParts device most x y
  full_parts most x y zero full parts on = λ l lt.
      inl (subst (λ m. HasGone (m / length x.rings) l x y) full (subst (λ k. HasGone k l x y) (sym (zero-div (length x.rings))) (on.rises l)))
  full_parts most x y (suc n) full parts on = parts (omega arith)

  -- so many were applied as might be
  pub empties_full : (most : ℕ) (x y : Taking D) (n : ℕ) → n ≡ most → (0 < n → HadParts device most x y) → Advances device x y n → Empties device most x y (Ok n)
  empties_full most x y n full parts one = record {
    takes = takes_done device x y n one;
    within = omega arith;
    stuck = λ below. absurd (omega arith);
    whole = λ below. absurd (omega arith);
    parts = λ at. full_parts most x y n full parts one;
  }

  pub empties_failed : (most left : ℕ) (x y z : Taking D) (n : ℕ) (e : StoreError) → Advances device x y n → AppliesLanes device left y z (Err e) → Empties device most x z (Err e)
  empties_failed most left x y z n e one last = record { takes = takes_failed device x y z n e one last.takes; within = tt; stuck = tt; whole = tt; parts = tt }

pub longer : (k n m : ℕ) → m ≡ n → k < n → k < m
longer k n m e lt = omega arith
