-- What is known of the logged sections stays true as the log grows.
use Rattle.std.proofs.Common.{ℕ, zero, suc, ◌≡◌, ◌≢◌, ◌+◌, ◌*◌, ◌^◌, ◌<◌, ◌≤◌, ◌==◌, if◌then◌else◌, Bool, true, false, List, [], ◌∷◌, ◌++◌, map, length, reverse, take, drop, slice_index, slice_index_or, slice_set, replicate, All, refl, sym, ap, ◌∙◌, subst, inl, inr, arith, nat_lt, get_or-set_same, get_or-set_other, length-append}
use Rattle.std.proofs.lemmas.Bool.{cases_lt, lt-ltb, le-ltb}
use Rattle.std.proofs.Math.Nat.{min-le_left, min-le_right, le-min}
use Rattle.std.proofs.lemmas.List.{reverse-append, take-append-drop, take_more}
use Rattle.std.proofs.lemmas.List.Elements.{All-nil, All-cons, All-head, All-tail}
use mathlib.Core.Logic.{dite}
use native.Mathlib.Decide.{ℕ_discrete}
use Rattle.heap_model.specs.declared.record.Record.{Record}
use Rattle.heap_model.specs.declared.record.Record.TheVariants.{Acq, Rel, WaitRel, Put}
use Rattle.heap_model.specs.declared.record.LaneRecord.{LaneRecord}
use Rattle.heap_model.specs.Record.{undo_of}
use Rattle.heap_model.specs.Setting.{Setting}
use Rattle.heap_model.specs.Log.{lane, IsLegal, IsRecordOf, log_from}
use Rattle.heap_model.specs.Sections.{Action, action, actions, ended, Section, DependsOn, Earlier, Took}
use Rattle.heap_model.specs.Cuts.{Counts, IsWhole, IsClosed, IsStable}
use Rattle.heap_model.specs.Base.{since}
use Rattle.law_cuts.proofs.Lanes.{lane_append, ended_in_lane}
use Rattle.law_cuts.proofs.Stays.{cut_stays}
use Rattle.law_cuts.proofs.Stores.{ended_rises}
use Rattle.law_cuts.proofs.Next.{legal_before}
use Rattle.law_cuts.proofs.Trimmed.{since_counts, trim_stable}
use Rattle.dependence.specs.Trace.{Trace, base_of, sections_of, IsStableOf}
use Rattle.dependence.specs.Next.{IsNext, IsObjectBelow}
use Rattle.dependence.proofs.Legal.{allowed_next}
use Rattle.store_memory.specs.Ends.{slot_of, with_slot}
use Rattle.store_memory.specs.Counted.{MayEnd, ends_after}
use Rattle.store_memory.specs.Sections.{Logged, place_behind, start_in, most_beyond, with_action, on_monitors, TellsLane, TellsGraph, TellsSections, MayBeLogged}
use Rattle.store_memory.proofs.SectionCounts.{lane_own, lane_else, ends_once, ended_short, ended_records, in_older, in_newest, sections_past, start_grown, since_all}
use Rattle.store_memory.proofs.OnMonitors.{ended_same, fewer, one_more, next_same, stable_same}
use Rattle.store_memory.proofs.SectionRoom.{total_less, lane_past, since_lanes}
use Rattle.store_memory.proofs.Slots.{sections_apart, lanes_apart, slot_same, slot_other}

named_in : (s : Setting) (r : Record) → s.objects ≤ 4096 → IsRecordOf s r → IsObjectBelow 4096 (undo_of r)
named_in s (Acq o n) few of = omega arith
named_in s (Rel o n) few of = omega arith
named_in s (WaitRel o n) few of = omega arith
named_in s (Put f before after) few of = tt

ends_some : (r : Record) (xs : List Action) → MayEnd r (ended xs) (ended (action r ∷ xs))
ends_some (Acq o n) xs = omega arith
ends_some (Rel o n) xs = tt
ends_some (WaitRel o n) xs = tt
ends_some (Put f before after) xs = omega arith

-- what is known after the lane's record, with the graph as it is then
abbrev pub logged_after : Logged → Trace → (lane : ℕ) → Logged
logged_after m g l = record m { graph = g; places = slice_set m.places l (slice_index m.places l + 1); ends = ends_after m.capacity m.lanes l (nat_lt (sections_of m.graph l) (sections_of g l)) (sections_of g l) (slice_index m.places l + 1) m.ends }

-- what the graph forgot is whole
kept_whole : (m : Logged) (base : ℕ → ℕ) (log : List (ℕ × Record)) → TellsSections m base log → IsWhole (actions log) (base_of m.graph)
kept_whole m base log tells l = omega (arith, tells.graph_is.within l, tells.whole l)

-- the graph counts the sections of a lane, those that it forgot included
graph_sections : (g : Trace) (log : List (ℕ × Record)) → IsWhole (actions log) (base_of g) → g.log ≡ on_monitors (since (base_of g) (actions log)) → (k : ℕ) → sections_of g k ≡ ended (lane k (actions log))
graph_sections g log whole is k =
    let all : ended (lane k g.log) + base_of g k ≡ ended (lane k (actions log)) =
    ap (λ (xs : List (ℕ × Action)). ended (lane k xs) + base_of g k) is ∙ ap (λ (e : ℕ). e + base_of g k) (ended_same k (since (base_of g) (actions log)))
    ∙ since_counts (base_of g) k (actions log) (whole k) in
    omega (arith, all)

pub sections_told : (m : Logged) (base : ℕ → ℕ) (log : List (ℕ × Record)) → TellsSections m base log → (k : ℕ) → sections_of m.graph k ≡ ended (lane k (actions log))
sections_told m base log tells = graph_sections m.graph log (kept_whole m base log tells) tells.graph_is.since_is

-- where more stay, the graph may have more beyond
beyond_grows : (m : Logged) (fewer left : ℕ) → fewer ≤ left → most_beyond m fewer ≤ most_beyond m left
beyond_grows m fewer left le = le-min (min-le_left (m.lanes * m.capacity) (fewer + 4096)) (omega (arith, min-le_right (m.lanes * m.capacity) (fewer + 4096), le))

module _ (s : Setting) (m : Logged) (base : ℕ → ℕ) (log : List (ℕ × Record)) (l : ℕ) (r : Record) (may : MayBeLogged s m base log ((l, r) ∷ [])) where
  was : TellsSections m base log
  was = may.tells

  pub low : l < m.lanes
  low = All-head (λ (x : ℕ × Record). x.0 < m.lanes) (l, r) [] may.of_lanes

  mine : TellsLane m base log l
  mine = was.lane_is l low

  own : lane l ((l, r) ∷ log) ≡ r ∷ lane l log
  own = lane_own l r log

  longer : length (lane l ((l, r) ∷ log)) ≡ length (lane l log) + 1
  longer = ap (λ (xs : List Record). length xs) own ∙ (omega arith)

  room : length (lane l ((l, r) ∷ log)) ≤ start_in base log l + m.capacity
  room = may.room l low

  upto : length (lane l ((l, r) ∷ log)) < 2 ^ 64
  upto = may.places l low

  graph : TellsGraph m base log
  graph = was.graph_is

  kept : IsWhole (actions log) (base_of m.graph)
  kept = kept_whole m base log was

  next_since : IsNext (since (base_of m.graph) (actions log)) l (action r)
  next_since = allowed_next s log (base_of m.graph) l r may.legal.0 kept may.legal.1

  -- what telling the graph asks for
  pub next : IsNext m.graph.log l (action r)
  next = subst (λ (xs : List (ℕ × Action)). IsNext xs l (action r)) (sym graph.since_is) (next_same (since (base_of m.graph) (actions log)) l (action r) next_since)

  pub named : IsObjectBelow 4096 (undo_of r)
  named = named_in s r may.objects may.legal.3

  lane_short : (k : ℕ) → k < m.lanes → length (lane k (since base (actions log))) ≤ m.capacity
  lane_short k lt = omega (arith, since_all base k log (was.whole k), (was.lane_is k lt).room)

  since_few : length (since base (actions log)) < m.lanes * m.capacity
  since_few = total_less m.lanes m.capacity (since base (actions log)) l (since_lanes m.lanes base log was.of_lanes) low
      (omega (arith, since_all base l log (was.whole l), longer, room)) lane_short

  pub spare : length m.graph.log < 2 * (m.lanes * m.capacity)
  spare = omega (arith, graph.few, since_few, min-le_left (m.lanes * m.capacity) (length (since base (actions log)) + 4096))

  acts_long : length (lane l (actions log)) ≡ length (lane l log)
  acts_long = acts_in_lane l log
    where
      acts_in_lane : (k : ℕ) (xs : List (ℕ × Record)) → length (lane k (actions xs)) ≡ length (lane k xs)
      acts_in_lane k [] = refl
      acts_in_lane k ((j, x) ∷ xs) = elim (j == k) as (λ b. length (if b then action x ∷ lane k (actions xs) else lane k (actions xs)) ≡ length (if b then x ∷ lane k xs else lane k xs)) [ true ↦ omega (arith, acts_in_lane k xs) | false ↦ acts_in_lane k xs ]

  few : ended (lane l (actions log)) + 1 < 2 ^ 64
  few = omega (arith, ended_short (lane l (actions log)), acts_long, longer, upto)

  before_is : sections_of m.graph l ≡ ended (lane l (actions log))
  before_is = sections_told m base log was l

  pub fits : sections_of m.graph l + 1 < 2 ^ 64
  fits = omega (arith, before_is, few)

  -- what counting asks for
  pub place_fits : slice_index m.places l + 1 < 2 ^ 64
  place_fits = omega (arith, mine.place, longer, upto)

  acts_own : lane l (actions ((l, r) ∷ log)) ≡ action r ∷ lane l (actions log)
  acts_own = lane_own l (action r) (actions log)

  grown : ended (lane l (actions ((l, r) ∷ log))) ≤ ended (lane l (actions log)) + 1
  grown = omega (arith, ap (λ (xs : List Action). ended xs) acts_own, ends_once (action r) (lane l (actions log)))

  -- the place behind a section of before, and behind one that ends with the record
  behind_older : (n : ℕ) → n ≤ ended (lane l (actions log)) → place_behind n (lane l ((l, r) ∷ log)) ≡ place_behind n (lane l log)
  behind_older n le = ap (λ (xs : List Record). place_behind n xs) own ∙ in_older n r (lane l log) (omega (arith, le, ended_records l log))

  behind_newest : (n : ℕ) → ended (lane l (actions log)) < n → place_behind n (lane l ((l, r) ∷ log)) ≡ length (lane l log) + 1
  behind_newest n lt = ap (λ (xs : List Record). place_behind n xs) own ∙ in_newest n r (lane l log) (omega (arith, lt, ended_records l log))

  -- sections since what was trimmed are no more than records
  near : ended (lane l (actions ((l, r) ∷ log))) ≤ base l + m.capacity
  near = omega (arith, sections_past (base l) (lane l ((l, r) ∷ log)), ended_records l ((l, r) ∷ log), start_grown base l l r log (was.whole l), room)

  module _ (g : Trace) (told : g.log ≡ with_action (l, action r) m.graph.log) (same_base : g.base ≡ m.graph.base) (long : l < length m.places) where
    since_now : (cut : ℕ → ℕ) → cut l ≤ ended (lane l (actions log)) → since cut (actions ((l, r) ∷ log)) ≡ (l, action r) ∷ since cut (actions log)
    since_now cut whole = ap (λ (b : Bool). if b then since cut (actions log) else (l, action r) ∷ since cut (actions log)) (le-ltb (ended (lane l (actions log))) (cut l) whole)

    stays : IsWhole (actions ((l, r) ∷ log)) base × IsClosed (actions ((l, r) ∷ log)) base
    stays = cut_stays s ((l, r) ∷ []) log base may.legal was.whole was.closed

    graph_now : TellsGraph (logged_after m g l) base ((l, r) ∷ log)
    graph_now =
        let more : length (since base (actions ((l, r) ∷ log))) ≡ length (since base (actions log)) + 1 = ap (λ (xs : List (ℕ × Action)). length xs) (since_now base (was.whole l)) ∙ (omega arith) in
        let one : length g.log ≤ length m.graph.log + 1 = omega (arith, ap (λ (xs : List (ℕ × Action)). length xs) told, one_more (l, action r) m.graph.log) in
        record {
          within = λ k. omega (arith, ap (λ (xs : List ℕ). slice_index xs k) same_base, graph.within k);
          closed = subst (λ (xs : List ℕ). IsClosed (actions ((l, r) ∷ log)) (slice_index xs)) (sym same_base) (cut_stays s ((l, r) ∷ []) log (base_of m.graph) may.legal kept graph.closed).1;
          since_is = told ∙ ap (λ (xs : List (ℕ × Action)). with_action (l, action r) xs) graph.since_is ∙ ap (λ (xs : List (ℕ × Action)). on_monitors xs) (sym (since_now (base_of m.graph) (kept l)))
              ∙ ap (λ (xs : List ℕ). on_monitors (since (slice_index xs) (actions ((l, r) ∷ log)))) (sym same_base);
          few = omega (arith, one, more, graph.few, beyond_grows m (length (since base (actions log))) (length (since base (actions ((l, r) ∷ log)))) (omega (arith, more)));
        }

    -- how many sections there are then
    after_is : sections_of g l ≡ ended (lane l (actions ((l, r) ∷ log)))
    after_is = graph_sections g ((l, r) ∷ log) (λ k. omega (arith, graph_now.within k, stays.0 k)) graph_now.since_is l

    -- only a release ends a section
    pub may_end : MayEnd r (sections_of m.graph l) (sections_of g l)
    may_end = subst (λ (b : ℕ). MayEnd r b (sections_of g l)) (sym before_is)
        (subst (λ (a : ℕ). MayEnd r (ended (lane l (actions log))) a) (sym (after_is ∙ ap (λ (xs : List Action). ended xs) acts_own)) (ends_some r (lane l (actions log))))

    -- the lane's places with the new one
    ends_new : (n : ℕ) → base l ≤ n → n ≤ ended (lane l (actions ((l, r) ∷ log))) → sections_of m.graph l < sections_of g l →
        slice_index (with_slot m.ends (slot_of m.capacity m.lanes l (sections_of g l)) (slice_index m.places l + 1)) (slot_of m.capacity m.lanes l n) ≡ place_behind n (lane l ((l, r) ∷ log))
    ends_new n from le more = elim (cases_lt n (sections_of g l)) [
      | inl lt ↦
          let old : n ≤ ended (lane l (actions log)) = omega (arith, lt, after_is, grown) in
          slot_other m.ends (slot_of m.capacity m.lanes l (sections_of g l)) (slot_of m.capacity m.lanes l n) (slice_index m.places l + 1)
          (sections_apart m.capacity m.lanes l n (sections_of g l) low lt (omega (arith, after_is, near, from)))
          ∙ mine.ends n from old ∙ sym (behind_older n old)
      | inr ge ↦
          let same : n ≡ sections_of g l = omega (arith, ge, le, after_is) in
          let new : ended (lane l (actions log)) < n = omega (arith, same, more, before_is) in
          ap (λ (k : ℕ). slice_index (with_slot m.ends (slot_of m.capacity m.lanes l (sections_of g l)) (slice_index m.places l + 1)) (slot_of m.capacity m.lanes l k)) same
          ∙ slot_same m.ends (slot_of m.capacity m.lanes l (sections_of g l)) (slice_index m.places l + 1)
          ∙ ap (λ (k : ℕ). k + 1) mine.place ∙ sym (behind_newest n new)
    ]

    ends_now : (n : ℕ) → base l ≤ n → n ≤ ended (lane l (actions ((l, r) ∷ log))) →
        slice_index (ends_after m.capacity m.lanes l (nat_lt (sections_of m.graph l) (sections_of g l)) (sections_of g l) (slice_index m.places l + 1) m.ends) (slot_of m.capacity m.lanes l n) ≡ place_behind n (lane l ((l, r) ∷ log))
    ends_now n from le = elim (cases_lt (sections_of m.graph l) (sections_of g l)) [
      | inl more ↦
          ap (λ (b : Bool). slice_index (if b then with_slot m.ends (slot_of m.capacity m.lanes l (sections_of g l)) (slice_index m.places l + 1) else m.ends) (slot_of m.capacity m.lanes l n))
          (lt-ltb (sections_of m.graph l) (sections_of g l) more)
          ∙ ends_new n from le more
      | inr none ↦
          let old : n ≤ ended (lane l (actions log)) = omega (arith, le, none, after_is, before_is) in
          ap (λ (b : Bool). slice_index (if b then with_slot m.ends (slot_of m.capacity m.lanes l (sections_of g l)) (slice_index m.places l + 1) else m.ends) (slot_of m.capacity m.lanes l n))
          (le-ltb (sections_of m.graph l) (sections_of g l) none)
          ∙ mine.ends n from old ∙ sym (behind_older n old)
    ]

    lane_now : TellsLane (logged_after m g l) base ((l, r) ∷ log) l
    lane_now = record {
      place = get_or-set_same m.places l (slice_index m.places l + 1) 0 long ∙ ap (λ (k : ℕ). k + 1) mine.place ∙ sym longer;
      room = omega (arith, room, start_grown base l l r log (was.whole l));
      ends = ends_now;
    }

    -- another lane's places stay
    ends_other : (k n : ℕ) → k < m.lanes → k ≢ l → slice_index (ends_after m.capacity m.lanes l (nat_lt (sections_of m.graph l) (sections_of g l)) (sections_of g l) (slice_index m.places l + 1) m.ends) (slot_of m.capacity m.lanes k n) ≡ slice_index m.ends (slot_of m.capacity m.lanes k n)
    ends_other k n lt ne = elim (nat_lt (sections_of m.graph l) (sections_of g l)) as
        (λ b. slice_index (if b then with_slot m.ends (slot_of m.capacity m.lanes l (sections_of g l)) (slice_index m.places l + 1) else m.ends) (slot_of m.capacity m.lanes k n) ≡ slice_index m.ends (slot_of m.capacity m.lanes k n)) [
          | true ↦ slot_other m.ends (slot_of m.capacity m.lanes l (sections_of g l)) (slot_of m.capacity m.lanes k n) (slice_index m.places l + 1) (lanes_apart m.capacity m.lanes k l n (sections_of g l) lt low ne)
          | false ↦ refl
        ]

    lane_other : (k : ℕ) → k < m.lanes → k ≢ l → TellsLane (logged_after m g l) base ((l, r) ∷ log) k
    lane_other k lt ne =
        let there : TellsLane m base log k = was.lane_is k lt in
        let records : lane k ((l, r) ∷ log) ≡ lane k log = lane_else k l r log (λ e. ne (sym e)) in
        let acts : lane k (actions ((l, r) ∷ log)) ≡ lane k (actions log) = lane_else k l (action r) (actions log) (λ e. ne (sym e)) in
        record {
          place = get_or-set_other m.places l k (slice_index m.places l + 1) 0 ne ∙ there.place ∙ ap (λ (xs : List Record). length xs) (sym records);
          room = omega (arith, there.room, ap (λ (xs : List Record). length xs) records, start_grown base k l r log (was.whole k));
          ends = λ n from le. ends_other k n lt ne ∙ there.ends n from (omega (arith, le, ap (λ (xs : List Action). ended xs) acts)) ∙ ap (λ (xs : List Record). place_behind n xs) (sym records);
        }

    pub tells_next : TellsSections (logged_after m g l) base ((l, r) ∷ log)
    tells_next = record {
      whole = stays.0;
      closed = stays.1;
      of_lanes = All-cons (λ (x : ℕ × Record). x.0 < m.lanes) (l, r) log low was.of_lanes;
      graph_is = graph_now;
      lane_is = λ k lt. dite (ℕ_discrete k l)
          (λ same. subst (λ (j : ℕ). TellsLane (logged_after m g l) base ((l, r) ∷ log) j) (sym same) lane_now)
          (λ other. lane_other k lt other);
    }

-- nothing is known of no records
pub tells_nothing : (m : Logged) → ((k : ℕ) → base_of m.graph k ≡ 0) → m.graph.log ≡ [] → ((k : ℕ) → slice_index m.places k ≡ 0) → ((k : ℕ) → slice_index m.ends k ≡ 0) → TellsSections m (λ l. 0) []
tells_nothing m based empty none zeros = record {
  whole = λ l. omega arith;
  closed = nothing_closed (λ l. 0);
  of_lanes = All-nil (λ (x : ℕ × Record). x.0 < m.lanes);
  graph_is = record {
    within = λ l. omega (arith, based l);
    closed = nothing_closed (base_of m.graph);
    since_is = empty;
    few = omega (arith, ap (λ (xs : List (ℕ × Action)). length xs) empty);
  };
  lane_is = λ l lt. record {
    place = none l;
    room = omega arith;
    ends = λ n from le. zeros (slot_of m.capacity m.lanes l n);
  };
}
  where
    nothing_closed : (cut : ℕ → ℕ) (a b : Section) → Counts cut a → DependsOn [] a b → Counts cut b
    nothing_closed cut a b counts (Earlier e lt) = omega (arith, counts, ap cut e, lt)
    nothing_closed cut a b counts (Took o n took freed differ) = elim took [ ]

-- the records before others of a list may be logged first
abbrev pairs : List LaneRecord → List (ℕ × Record)
pairs xs = map (λ e. (e.lane.0, e.record)) xs

pairs_append : (us vs : List LaneRecord) → pairs (us ++ vs) ≡ pairs us ++ pairs vs
pairs_append [] vs = refl
pairs_append (u ∷ us) vs = ap (λ (zs : List (ℕ × Record)). (u.lane.0, u.record) ∷ zs) (pairs_append us vs)

log_append : (xs ys : List LaneRecord) → log_from (xs ++ ys) ≡ log_from ys ++ log_from xs
log_append xs ys = ap (λ (zs : List LaneRecord). pairs zs) (reverse-append xs ys) ∙ pairs_append (reverse ys) (reverse xs)

pub log_more : (xs : List LaneRecord) (i : ℕ) (e : LaneRecord) → i < length xs → log_from (take (i + 1) xs) ≡ ((slice_index_or xs i e).lane.0, (slice_index_or xs i e).record) ∷ log_from (take i xs)
log_more xs i e lt = ap (λ (zs : List LaneRecord). log_from zs) (take_more xs i e lt) ∙ log_append (take i xs) (slice_index_or xs i e ∷ [])

append_assoc : (xs ys zs : List (ℕ × Record)) → (xs ++ ys) ++ zs ≡ xs ++ (ys ++ zs)
append_assoc [] ys zs = refl
append_assoc (x ∷ xs) ys zs = ap (λ (us : List (ℕ × Record)). x ∷ us) (append_assoc xs ys zs)

part_of : (s : Setting) (m : Logged) (base : ℕ → ℕ) (log xs ys : List (ℕ × Record)) → MayBeLogged s m base log (xs ++ ys) → MayBeLogged s m base log ys
part_of s m base log xs ys may =
    let shorter : (l : ℕ) → length (lane l (ys ++ log)) ≤ length (lane l ((xs ++ ys) ++ log)) = λ l.
    (let split : length (lane l ((xs ++ ys) ++ log)) ≡ length (lane l xs) + length (lane l (ys ++ log)) =
    ap (λ (us : List (ℕ × Record)). length (lane l us)) (append_assoc xs ys log) ∙ ap (λ (us : List Record). length us) (lane_append l xs (ys ++ log)) ∙ length-append (lane l xs) (lane l (ys ++ log)) in
    omega arith) in
    record {
      tells = may.tells;
      legal = legal_before s xs (ys ++ log) (subst (λ (us : List (ℕ × Record)). IsLegal s us) (append_assoc xs ys log) may.legal);
      objects = may.objects;
      of_lanes = after_all xs may.of_lanes;
      room = λ l lt. omega (arith, shorter l, may.room l lt);
      places = λ l lt. omega (arith, shorter l, may.places l lt);
    }
  where
    after_all : (us : List (ℕ × Record)) → All (λ x. x.0 < m.lanes) (us ++ ys) → All (λ x. x.0 < m.lanes) ys
    after_all [] of = of
    after_all (u ∷ us) of = after_all us (All-tail (λ (x : ℕ × Record). x.0 < m.lanes) u (us ++ ys) of)

first_of_all : (s : Setting) (m : Logged) (base : ℕ → ℕ) (log : List (ℕ × Record)) (records : List LaneRecord) (i : ℕ) → MayBeLogged s m base log (log_from records) → MayBeLogged s m base log (log_from (take i records))
first_of_all s m base log records i may =
    let split : log_from records ≡ log_from (drop i records) ++ log_from (take i records) = ap (λ (xs : List LaneRecord). log_from xs) (sym (take-append-drop i records)) ∙ log_append (take i records) (drop i records) in
    part_of s m base log (log_from (drop i records)) (log_from (take i records)) (subst (λ (xs : List (ℕ × Record)). MayBeLogged s m base log xs) split may)

-- the place behind the base stays as it is
start_all : (base : ℕ → ℕ) (l : ℕ) (newer log : List (ℕ × Record)) → base l ≤ ended (lane l (actions log)) → ((x : ℕ × Record) (xs : List (ℕ × Record)) → ended (lane l (actions xs)) ≤ ended (lane l (actions (x ∷ xs)))) → (start_in base (newer ++ log) l ≡ start_in base log l) × (base l ≤ ended (lane l (actions (newer ++ log))))
start_all base l [] log le rises = (refl, le)
start_all base l ((m, r) ∷ newer) log le rises =
    let rest : (start_in base (newer ++ log) l ≡ start_in base log l) × (base l ≤ ended (lane l (actions (newer ++ log)))) = start_all base l newer log le rises in
    (start_grown base l m r (newer ++ log) rest.1 ∙ rest.0, omega (arith, rest.1, rises (m, r) (newer ++ log)))

-- and then the next one
next_of_all : (s : Setting) (m n : Logged) (base : ℕ → ℕ) (log newer : List (ℕ × Record)) (x : ℕ × Record) → MayBeLogged s m base log (x ∷ newer) → TellsSections n base (newer ++ log) → n.lanes ≡ m.lanes → n.capacity ≡ m.capacity →
    MayBeLogged s n base (newer ++ log) (x ∷ [])
next_of_all s m n base log newer x may tells lanes capacity = record {
  tells = tells;
  legal = may.legal;
  objects = may.objects;
  of_lanes = subst (λ (k : ℕ). All (λ (y : ℕ × Record). y.0 < k) (x ∷ [])) (sym lanes) (All-cons (λ (y : ℕ × Record). y.0 < m.lanes) x [] (All-head (λ (y : ℕ × Record). y.0 < m.lanes) x newer may.of_lanes) (All-nil (λ (y : ℕ × Record). y.0 < m.lanes)));
  room = λ l lt. omega (arith, may.room l (omega (arith, lt, lanes)), (start_all base l newer log (may.tells.whole l) (rises l)).0, capacity);
  places = λ l lt. may.places l (omega (arith, lt, lanes));
}
  where
    rises : (l : ℕ) (y : ℕ × Record) (xs : List (ℕ × Record)) → ended (lane l (actions xs)) ≤ ended (lane l (actions (y ∷ xs)))
    rises l (k, r) xs = elim (k == l) as (λ b. ended (lane l (actions xs)) ≤ ended (if b then action r ∷ lane l (actions xs) else lane l (actions xs))) [ true ↦ ended_rises (action r) (lane l (actions xs)) | false ↦ omega arith ]

pub next_may : (s : Setting) (m n : Logged) (base : ℕ → ℕ) (log : List (ℕ × Record)) (records : List LaneRecord) (i : ℕ) (e : LaneRecord) → i < length records → MayBeLogged s m base log (log_from records) →
    TellsSections n base (log_from (take i records) ++ log) → n.lanes ≡ m.lanes → n.capacity ≡ m.capacity → MayBeLogged s n base (log_from (take i records) ++ log) (((slice_index_or records i e).lane.0, (slice_index_or records i e).record) ∷ [])
next_may s m n base log records i e lt may tells lanes capacity =
    next_of_all s m n base log (log_from (take i records)) ((slice_index_or records i e).lane.0, (slice_index_or records i e).record)
    (subst (λ (ys : List (ℕ × Record)). MayBeLogged s m base log ys) (log_more records i e lt) (first_of_all s m base log records (i + 1) may)) tells lanes capacity

-- a lane from the number of lanes on has no sections
pub none_past : (m : Logged) (base : ℕ → ℕ) (log : List (ℕ × Record)) → TellsSections m base log → (l : ℕ) → m.lanes ≤ l → ended (lane l (actions log)) ≡ 0
none_past m base log tells l ge = ended_in_lane l log ∙ ap (λ (xs : List Record). ended (map action xs)) (lane_past m.lanes l log tells.of_lanes ge)

-- the stable cut of what the graph has is that of the log (a trim keeps the stable cut)
pub stable_told : (m : Logged) (base : ℕ → ℕ) (log : List (ℕ × Record)) → TellsSections m base log → (cut : ℕ → ℕ) → IsStableOf m.graph cut → IsStable (actions log) cut
stable_told m base log tells cut of =
    let all : IsStable (actions log) (λ l. base_of m.graph l + of.since l) =
    trim_stable (actions log) (base_of m.graph) of.since (kept_whole m base log tells) tells.graph_is.closed (stable_same (since (base_of m.graph) (actions log)) of.since (subst (λ (xs : List (ℕ × Action)). IsStable xs of.since) tells.graph_is.since_is of.stable)) in
    subst (λ (c : ℕ → ℕ). IsStable (actions log) c) (λ i l. sym (of.counts l) i) all

-- the places in the table's slots are those behind the cut's sections
pub behind_told : (m : Logged) (base : ℕ → ℕ) (log : List (ℕ × Record)) → TellsSections m base log → (cut : ℕ → ℕ) → IsStableOf m.graph cut → (places : List ℕ) →
    ((l : ℕ) → l < m.lanes → slice_index places l ≡ slice_index m.ends (slot_of m.capacity m.lanes l (cut l))) → ((l : ℕ) → m.lanes ≤ l → slice_index places l ≡ 0) →
    (l : ℕ) → slice_index places l ≡ place_behind (cut l) (lane l log)
behind_told m base log tells cut of places there none l = elim (cases_lt l m.lanes) [
  | inl lt ↦
      let stable : IsStable (actions log) cut = stable_told m base log tells cut of in
      there l lt ∙ (tells.lane_is l lt).ends (cut l) (stable.greatest base tells.whole tells.closed l) (stable.whole l)
  | inr ge ↦ none l ge ∙ sym (ap (λ (xs : List Record). place_behind (cut l) xs) (lane_past m.lanes l log tells.of_lanes ge))
]
