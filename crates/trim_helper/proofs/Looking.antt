-- The rings are looked at again and again, and emptied each time.
use Rattle.std.proofs.Common.{ℕ, zero, suc, ◌≡◌, ◌+◌, ◌-◌, ◌*◌, ◌/◌, ◌<◌, ◌≤◌, ◌^◌, List, [], ◌++◌, length, Option, None, Some, MatchOption, Result, Ok, Err, refl, sym, ap, ◌∙◌, subst, inl, inr, arith}
use Rattle.std.proofs.Math.Nat.{mul-le-mul_right}
use Rattle.std.proofs.lemmas.List.{append-nil, append_assoc, length-append}
use Rattle.thread_rings.specs.Rings.{Receiving}
use Rattle.thread_rings.specs.declared.ring_records.TheConstants.{MOST_RING_RECORDS}
use Rattle.heap_model.specs.declared.record.Record.{Record}
use Rattle.heap_model.specs.Setting.{Setting}
use Rattle.block_disk.specs.Device.{Device}
use Rattle.heap_model.specs.Past.{Past}
use Rattle.heap_model.specs.declared.store_error.StoreError.{StoreError}
use Rattle.trim_helper.specs.declared.draining.TheConstants.{LOOKS}
use Rattle.trim_helper.specs.Draining.{Drained, DrainsRings, Empties, HasAll, SharesBound, WasStuck}
use Rattle.trim_helper.specs.Moves.{Looks, held_sum, known_sum, most_room}
use Rattle.trim_helper.specs.Rings.{received_of, known_of}
use Rattle.trim_helper.specs.Taken.{Taking, HadTurn, HasGone, HasTaken, Advances, AllStuck, RanOut, applied_more}
use Rattle.trim_helper.proofs.Seeing.{keeps_refl, keeps_then}
use Rattle.trim_helper.proofs.RingMoves.{held_most, known_most, looks_none, same_refl, same_then, taken_most}

module _ {D : Type 0} (device : D → Device) where
  pub looks_taken : (x : Taking D) (seen : List Receiving) (s : Setting) (p : Past) → Looks x.rings seen → HasTaken device x s p → HasTaken device (record x { rings = seen }) s p
  looks_taken x seen s p looks was = record { has = was.has; taken = λ l. looks.received l ∙ was.taken l }

  drained_by : (x y : Taking D) (seen : List Receiving) (n : ℕ) → most_room x.rings ≤ MOST_RING_RECORDS → length x.rings ≤ 32 → length x.waiting ≡ 32 → Looks x.rings seen → Advances device (record x { rings = seen }) y n → Drained device 1 x y n
  drained_by x y seen n have few slots looks on = record {
    made = λ s p was. on.made s p (looks_taken x seen s p looks was);
    whole = λ l.
        let more = looks.known l in
        (more.0, on.whole l ∙ ap (λ (xs : List Record). xs ++ known_of seen l) (looks.received l) ∙ ap (λ (xs : List Record). received_of x.rings l ++ xs) more.1 ∙ sym (append_assoc (received_of x.rings l) (known_of x.rings l) more.0));
    most = λ l.
        let e : length (received_of seen l) ≡ length (received_of x.rings l) = ap (λ (xs : List Record). length xs) (looks.received l) in
        omega (arith, e, taken_most seen y.rings (most_room x.rings) l (omega (arith, looks.same.rooms)) (on.whole l));
    few =
        let left = on.left in
        let known : known_sum seen ≤ length seen * 65536 = known_most 65536 seen (omega (arith, looks.same.rooms)) in
        let held : held_sum x.waiting ≤ length x.waiting = held_most x.waiting in
        omega (arith, looks.same.count);
    same = same_then x.rings seen y.rings looks.same on.same;
    told = keeps_then x.rings seen y.rings looks.told on.told;
    slots = on.slots;
    layout = on.layout;
    threads = on.threads;
    running = on.running;
    sequence = on.sequence;
    uncalled = on.uncalled;
    still = on.still;
  }

  -- they were looked at so often, and once they were, no lane goes on below the bound
  pub record Looked (most : ℕ) (x y : Taking D) (n looks : ℕ) : Type 0 where
    pub drained : Drained device looks x y n
    pub stuck : 0 < looks → n < most → AllStuck device y
    pub whole : 0 < looks → n < most → HasAll device y

  pub looked_none : (most : ℕ) (x : Taking D) → Looked most x x 0 0
  looked_none most x = record {
    drained = record {
      made = λ s p was. ([], refl, was);
      whole = λ l. ([], sym (append-nil (received_of x.rings l ++ known_of x.rings l)));
      most = λ l. omega arith;
      few = omega arith;
      same = same_refl x.rings;
      told = keeps_refl x.rings;
      slots = refl;
      layout = refl;
      threads = refl;
      running = refl;
      sequence = refl;
      uncalled = refl;
      still = λ off. (refl, refl);
    };
    stuck = λ some below. absurd (omega arith);
    whole = λ some below. absurd (omega arith);
  }

  drained_then : (x y z : Taking D) (n m looks more : ℕ) → Drained device looks x y n → Drained device more y z m → Drained device (looks + more) x z (n + m)
  drained_then x y z n m looks more one two = record {
    made = λ s p was.
        let first = one.made s p was in
        let after = two.made s (applied_more first.0 p) first.2 in (
          after.0 ++ first.0,
          length-append after.0 first.0 ∙ (let a = first.1 in let b = after.1 in omega arith),
          subst (λ (xs : List (ℕ × Record)). HasTaken device z s (record p { fresh = xs })) (sym (append_assoc after.0 first.0 p.fresh)) after.2,
        );
    whole = λ l.
        let first = one.whole l in
        let after = two.whole l in
        (first.0 ++ after.0, after.1 ∙ ap (λ (xs : List Record). xs ++ after.0) first.1 ∙ append_assoc (received_of x.rings l ++ known_of x.rings l) first.0 after.0);
    most = λ l.
        let a = one.most l in
        let b = subst (λ (room : ℕ). length (received_of z.rings l) ≤ length (received_of y.rings l) + more * room) one.same.rooms (two.most l) in
        omega arith;
    few = let a = one.few in let b = two.few in omega arith;
    same = same_then x.rings y.rings z.rings one.same two.same;
    told = keeps_then x.rings y.rings z.rings one.told two.told;
    slots = two.slots ∙ one.slots;
    layout = two.layout ∙ one.layout;
    threads = two.threads ∙ one.threads;
    running = two.running ∙ one.running;
    sequence = two.sequence ∙ one.sequence;
    uncalled = two.uncalled ∙ one.uncalled;
    still = λ off. let a = one.still off in let b = two.still (one.running ∙ off) in (omega (arith, a.0, b.0), b.1 ∙ a.1);
  }

  pub looked_again : (most left : ℕ) (x y z : Taking D) (n m looks : ℕ) → n + left ≡ most → Looked most x y n looks → DrainsRings device 1 (Some left) y z (Ok m) → Looked most x z (n + m) (looks + 1)
  looked_again most left x y z n m looks all was last = record {
    drained = drained_then x y z n m looks 1 was.drained last.ok;
    stuck = λ some below. let low : m < left = omega arith in last.stuck low;
    whole = λ some below. let low : m < left = omega arith in last.whole low;
  }

  drained_within : (x y : Taking D) (n looks most : ℕ) → looks ≤ most → Drained device looks x y n → Drained device most x y n
  drained_within x y n looks most le was = record {
    made = was.made;
    whole = was.whole;
    most = λ l. let a = was.most l in omega (arith, mul-le-mul_right (most_room x.rings) le);
    few = let a = was.few in omega arith;
    same = was.same;
    told = was.told;
    slots = was.slots;
    layout = was.layout;
    threads = was.threads;
    running = was.running;
    sequence = was.sequence;
    uncalled = was.uncalled;
    still = was.still;
  }

  -- the lane couldn't go on after a look
  was_stuck : (l : ℕ) (x y : Taking D) (seen : List Receiving) → most_room x.rings ≤ MOST_RING_RECORDS → length x.rings ≤ 32 → length x.waiting ≡ 32 → Looks x.rings seen → RanOut device l (record x { rings = seen }) y → WasStuck device l x y
  was_stuck l x y seen have few slots looks out = record {
    moment = out.moment;
    before = out.before;
    since = out.since;
    first = drained_within x out.moment out.before 1 LOOKS (omega arith) (drained_by x out.moment seen out.before have few slots looks out.first);
    later = drained_within out.moment y out.since 1 LOOKS (omega arith) (drained_by out.moment y out.moment.rings out.since (omega (arith, out.first.same.rooms, looks.same.rooms, have)) (omega (arith, out.first.same.count, looks.same.count, few)) (out.first.slots ∙ slots)
        (looks_none out.moment.rings) out.later);
    stuck = out.stuck;
  }

  -- the rings were looked at, and then emptied
  pub looks_drains : (most : ℕ) (x y : Taking D) (seen : List Receiving) (answer : Result ℕ StoreError) → most_room x.rings ≤ MOST_RING_RECORDS → length x.rings ≤ 32 → length x.waiting ≡ 32 → Looks x.rings seen →
      Empties device most (record x { rings = seen }) y answer → DrainsRings device 1 (Some most) x y answer
  looks_drains most x y seen (Ok n) have few slots looks on = record {
    ok = drained_by x y seen n have few slots looks on.takes.ok;
    within = on.within;
    kept = tt;
    stuck = on.stuck;
    whole = on.whole;
    shares = λ at l lt.
        let part : HadTurn device (n / length x.rings) l (record x { rings = seen }) y =
        subst (λ m. HadTurn device (m / length x.rings) l (record x { rings = seen }) y) (sym at)
        (subst (λ k. HadTurn device (most / k) l (record x { rings = seen }) y) looks.same.count (on.parts at l (omega (arith, looks.same.count, lt)))) in
        elim part [
          | inl gone ↦ inl (let same : length (received_of seen l) ≡ length (received_of x.rings l) = ap (λ (xs : List Record). length xs) (looks.received l) in
              let since : HasGone (n / length x.rings) l (record x { rings = seen }) y = gone in omega (arith, same, since))
          | inr out ↦ inr (was_stuck l x y seen have few slots looks out)
        ];
    failed = tt;
    why = λ s p taken. tt;
  }
  looks_drains most x y seen (Err e) have few slots looks on = record {
    ok = tt;
    within = tt;
    kept = (on.takes.kept.0, drained_by x y seen on.takes.kept.0 have few slots looks on.takes.kept.1);
    stuck = tt;
    whole = tt;
    shares = tt;
    failed = on.takes.failed;
    why = λ s p taken. on.takes.why s p (looks_taken x seen s p looks taken);
  }

  -- the bound was reached in the first look, or each lane couldn't go on after the last one
  pub looked_shares : (most left : ℕ) (x y z : Taking D) (n m looks : ℕ) → (looks ≡ 0 → (n ≡ 0) × (y ≡ x)) → (0 < looks → n < most) → n + left ≡ most → looks ≤ LOOKS → Looked most x y n looks → DrainsRings device 1 (Some left) y z (Ok m) →
      n + m ≡ most → SharesBound device (n + m) x z
  looked_shares most left x y z n m zero start low all le was last at =
      let none : n ≡ 0 = (start refl).0 in
      let full : m ≡ left = omega arith in
      let same : m ≡ n + m = omega arith in
      subst (λ (k : Taking D). SharesBound device (n + m) k z) (start refl).1 (subst (λ k. SharesBound device k y z) same (last.shares full))
  looked_shares most left x y z n m (suc looks) start low all le was last at = λ l lt.
      inr (record {
        moment = y;
        before = n;
        since = m;
        first = drained_within x y n (suc looks) LOOKS le was.drained;
        later = drained_within y z m 1 LOOKS (omega arith) last.ok;
        stuck = was.stuck (omega arith) (low (omega arith)) l (omega (arith, was.drained.same.count, lt));
      })

  pub looked_done : (most : ℕ) (x y : Taking D) (n looks often : ℕ) → 0 < looks → looks ≤ often → n ≤ most → (n ≡ most → SharesBound device n x y) → Looked most x y n looks → DrainsRings device often (Some most) x y (Ok n)
  looked_done most x y n looks often some le within shares was = record {
    ok = drained_within x y n looks often le was.drained;
    within = within;
    kept = tt;
    stuck = was.stuck some;
    whole = was.whole some;
    shares = shares;
    failed = tt;
    why = λ s p taken. tt;
  }

  pub looked_failed : (most left : ℕ) (x y z : Taking D) (n looks often : ℕ) (e : StoreError) → looks < often → Looked most x y n looks → DrainsRings device 1 (Some left) y z (Err e) → DrainsRings device often (Some most) x z (Err e)
  looked_failed most left x y z n looks often e lt was last =
      let kept = last.kept in
      record {
        ok = tt;
        within = tt;
        kept = (n + kept.0, drained_within x z (n + kept.0) (looks + 1) often (omega arith) (drained_then x y z n kept.0 looks 1 was.drained kept.1));
        stuck = tt;
        whole = tt;
        shares = tt;
        failed = last.failed;
        why = λ s p taken. let made = was.drained.made s p taken in sym was.drained.running ∙ last.why s (applied_more made.0 p) made.2;
      }

  -- a bound that no drain reaches is none
  pub drains_up_to : (most : Option ℕ) (bound : ℕ) (x y : Taking D) (answer : Result ℕ StoreError) → MatchOption most (bound ≡ 2 ^ 64 - 1) (λ told. bound ≡ told) → DrainsRings device LOOKS (Some bound) x y answer → DrainsRings device LOOKS most x y answer
  drains_up_to (Some told) bound x y answer is on = subst (λ (k : ℕ). DrainsRings device LOOKS (Some k) x y answer) is on
  drains_up_to None bound x y (Ok n) is on =
      let bounded : bound ≡ 2 ^ 64 - 1 = is in
      let low : n < bound = let few = on.ok.few in omega arith in
      record { ok = on.ok; within = tt; kept = tt; stuck = λ below. on.stuck low; whole = λ below. on.whole low; shares = λ at. absurd at; failed = tt; why = on.why }
  drains_up_to None bound x y (Err e) is on = record { ok = tt; within = tt; kept = on.kept; stuck = tt; whole = tt; shares = tt; failed = on.failed; why = on.why }
