-- What is known stays true where a cut is forgotten.
use Rattle.std.proofs.Common.{ℕ, ◌≡◌, ◌+◌, ◌-◌, ◌<◌, ◌≤◌, if◌then◌else◌, Bool, List, [], ◌∷◌, length, map, max, refl, sym, ap, ◌∙◌, subst, inl, inr, arith}
use Rattle.std.specs.Prelude.{slice_index}
use Rattle.std.proofs.lemmas.Bool.{cases_lt, lt-ltb, le-ltb}
use Rattle.heap_model.specs.declared.cut.Cut.{Cut}
use Rattle.heap_model.specs.declared.record.Record.{Record}
use Rattle.heap_model.specs.Setting.{Setting}
use Rattle.heap_model.specs.Log.{lane}
use Rattle.heap_model.specs.Sections.{Action, action, actions, ended}
use Rattle.heap_model.specs.Cuts.{counts_of, IsClosed, IsStable}
use Rattle.heap_model.specs.Base.{since}
use Rattle.law_cuts.proofs.Trimmed.{since_counts, trim_stable}
use Rattle.dependence.specs.Trace.{Trace, base_of, beyond, in_all}
use Rattle.heap_model.specs.Past.{Past, applied, after_trim}
use Rattle.store_memory.specs.declared.states.LaneState.{LaneState}
use Rattle.store_memory.specs.Limits.{IsWithin}
use Rattle.store_memory.specs.Memory.{Memory, lane_in}
use Rattle.store_memory.specs.Fresh.{IsOfLanes}
use Rattle.store_memory.specs.Remembers.{RemembersLane, Remembers}
use Rattle.store_memory.specs.Ends.{slot_of}
use Rattle.store_memory.specs.Sections.{Logged, place_behind, most_beyond, on_monitors, TellsLane, TellsGraph, TellsSections}
use Rattle.store_memory.specs.Trimming.{MayStart, MayForget}
use Rattle.store_memory.proofs.SectionCounts.{in_older, in_newest, in_short, since_all}
use Rattle.store_memory.proofs.OnMonitors.{fewer, since_same, stable_same}
use Rattle.store_memory.proofs.SectionRoom.{since_lanes, total_is}

-- what is past a base and then past the rest of a greater cut is past the cut
since_since : (base cut more : ℕ → ℕ) → ((l : ℕ) → base l ≤ cut l) → ((l : ℕ) → more l ≡ cut l - base l) → (log : List (ℕ × Action)) → since more (since base log) ≡ since cut log
since_since base cut more up rest [] = refl
since_since base cut more up rest (x ∷ older) =
    let before : since more (since base older) ≡ since cut older = since_since base cut more up rest older in
    elim (cases_lt (ended (lane x.0 older)) (base x.0)) [
      | inl lt ↦
          ap (λ (b : Bool). since more (if b then since base older else x ∷ since base older)) (lt-ltb (ended (lane x.0 older)) (base x.0) lt) ∙ before
          ∙ sym (ap (λ (b : Bool). if b then since cut older else x ∷ since cut older) (lt-ltb (ended (lane x.0 older)) (cut x.0) (omega (arith, lt, up x.0))))
      | inr ge ↦
          let left : since more (since base (x ∷ older)) ≡ since more (x ∷ since base older) =
          ap (λ (b : Bool). since more (if b then since base older else x ∷ since base older)) (le-ltb (ended (lane x.0 older)) (base x.0) ge) in
          let counts = since_counts base x.0 older ge in
          elim (cases_lt (ended (lane x.0 older)) (cut x.0)) [
            | inl lt ↦
                left ∙ ap (λ (b : Bool). if b then since more (since base older) else x ∷ since more (since base older))
                (lt-ltb (ended (lane x.0 (since base older))) (more x.0) (omega (arith, counts, rest x.0, lt, ge)))
                ∙ before ∙ sym (ap (λ (b : Bool). if b then since cut older else x ∷ since cut older) (lt-ltb (ended (lane x.0 older)) (cut x.0) lt))
            | inr past ↦
                left ∙ ap (λ (b : Bool). if b then since more (since base older) else x ∷ since more (since base older))
                (le-ltb (ended (lane x.0 (since base older))) (more x.0) (omega (arith, counts, rest x.0, past, ge)))
                ∙ ap (λ (xs : List (ℕ × Action)). x ∷ xs) before ∙ sym (ap (λ (b : Bool). if b then since cut older else x ∷ since cut older) (le-ltb (ended (lane x.0 older)) (cut x.0) past))
          ]
    ]

-- more sections end no earlier
behind_up : (n m : ℕ) (xs : List Record) → n ≤ m → place_behind n xs ≤ place_behind m xs
behind_up n m [] le = omega arith
behind_up n m (r ∷ older) le = elim (cases_lt (ended (map action older)) n) [
  | inl lt ↦ omega (arith, in_newest n r older lt, in_newest m r older (omega (arith, lt, le)))
  | inr ge ↦ elim (cases_lt (ended (map action older)) m) [
    | inl lt ↦ omega (arith, in_older n r older ge, in_newest m r older lt, in_short n older)
    | inr past ↦ omega (arith, in_older n r older ge, in_older m r older past, behind_up n m older le)
  ]
]

module _ (m : Logged) (base : ℕ → ℕ) (log : List (ℕ × Record)) (cut : Cut) (may : MayForget m base log (counts_of cut)) where
  graph : TellsGraph m base log
  graph = may.tells.graph_is

  -- what `Graph::forget_to` asks for
  pub at_most : (c : ℕ → ℕ) → IsStable m.graph.log c → (l : ℕ) → beyond m.graph cut l ≤ c l
  at_most c stable l =
      let all : IsStable (actions log) (λ k. base_of m.graph k + c k) =
      trim_stable (actions log) (base_of m.graph) c (λ k. omega (arith, graph.within k, may.tells.whole k)) graph.closed (stable_same (since (base_of m.graph) (actions log)) c (subst (λ (xs : List (ℕ × Action)). IsStable xs c) graph.since_is stable)) in
      omega (arith, all.greatest (counts_of cut) may.whole may.closed l)

  module _ (places : List ℕ) (there : (l : ℕ) → l < m.lanes → slice_index places l ≡ slice_index m.ends (slot_of m.capacity m.lanes l (counts_of cut l))) where
    behind : (l : ℕ) → l < m.lanes → slice_index places l ≡ place_behind (counts_of cut l) (lane l log)
    behind l lt = there l lt ∙ (may.tells.lane_is l lt).ends (counts_of cut l) (may.within l) (may.whole l)

    -- what `records_from` asks for
    pub places_low : (l : ℕ) → l < m.lanes → slice_index places l ≤ slice_index m.places l
    places_low l lt = omega (arith, behind l lt, in_short (counts_of cut l) (lane l log), (may.tells.lane_is l lt).place)

    pub places_near : (l : ℕ) → l < m.lanes → slice_index m.places l ≤ slice_index places l + m.capacity
    places_near l lt = omega (arith, behind l lt, behind_up (base l) (counts_of cut l) (lane l log) (may.within l), (may.tells.lane_is l lt).place, (may.tells.lane_is l lt).room)

    -- the records from the places on are those that stay
    pub left_is : in_all m.lanes (λ l. slice_index m.places l - slice_index places l) ≡ length (since (counts_of cut) (actions log))
    left_is = total_is m.lanes (λ l. slice_index m.places l - slice_index places l) (since (counts_of cut) (actions log)) (since_lanes m.lanes (counts_of cut) log may.tells.of_lanes)
        (λ l lt. omega (arith, behind l lt, (may.tells.lane_is l lt).place, since_all (counts_of cut) l log (may.whole l)))

  -- the lanes know what they knew
  lane_then : (g : Trace) (l : ℕ) → l < m.lanes → TellsLane (record m { graph = g }) (counts_of cut) log l
  lane_then g l lt =
      let was : TellsLane m base log l = may.tells.lane_is l lt in
      record {
        place = was.place;
        room = omega (arith, was.room, behind_up (base l) (counts_of cut l) (lane l log) (may.within l));
        ends = λ n from upto. was.ends n (omega (arith, from, may.within l)) upto;
      }

  -- the graph may stay as it is
  pub tells_later : length m.graph.log ≤ length (since (counts_of cut) (actions log)) + most_beyond m (length (since (counts_of cut) (actions log))) → TellsSections m (counts_of cut) log
  tells_later few = record {
    whole = may.whole;
    closed = may.closed;
    of_lanes = may.tells.of_lanes;
    graph_is = record { within = λ l. omega (arith, graph.within l, may.within l); closed = graph.closed; since_is = graph.since_is; few = few };
    lane_is = lane_then m.graph;
  }

  -- or forget all that the cut has
  module _ (g : Trace) (told : g.log ≡ since (beyond m.graph cut) m.graph.log) (based : (l : ℕ) → base_of g l ≡ max (base_of m.graph l) (counts_of cut l)) where
    stays : g.log ≡ on_monitors (since (counts_of cut) (actions log))
    stays = told ∙ ap (λ (xs : List (ℕ × Action)). since (beyond m.graph cut) xs) graph.since_is ∙ since_same (beyond m.graph cut) (since (base_of m.graph) (actions log))
        ∙ ap (λ (xs : List (ℕ × Action)). on_monitors xs) (since_since (base_of m.graph) (counts_of cut) (beyond m.graph cut) (λ l. omega (arith, graph.within l, may.within l)) (λ l. refl) (actions log))

    -- no more than the records that stay
    pub stay_few : length g.log ≤ length (since (counts_of cut) (actions log))
    stay_few = omega (arith, ap (λ (xs : List (ℕ × Action)). length xs) stays, fewer (since (counts_of cut) (actions log)))

    forgot : base_of g ≡ counts_of cut
    forgot = λ i l. (let is : base_of g l ≡ counts_of cut l = omega (arith, based l, graph.within l, may.within l) in is) i

    pub tells_since : TellsSections (record m { graph = g }) (counts_of cut) log
    tells_since = record {
      whole = may.whole;
      closed = may.closed;
      of_lanes = may.tells.of_lanes;
      graph_is = record {
        within = λ l. omega (arith, based l, graph.within l, may.within l);
        closed = subst (λ (k : ℕ → ℕ). IsClosed (actions log) k) (sym forgot) may.closed;
        since_is = stays ∙ ap (λ (k : ℕ → ℕ). on_monitors (since k (actions log))) (sym forgot);
        few = omega (arith, stay_few);
      };
      lane_is = lane_then g;
    }

module _ (s : Setting) (m : Memory) (p : Past) (places : List ℕ) (may : MayStart s m p places) (lanes : List LaneState) (size : length lanes ≡ length m.lanes)
    (are : (l : ℕ) → l < length m.lanes → lane_in lanes l ≡ record (lane_in m.lanes l) { start = slice_index places l }) where
  -- the memory knows nothing else of what was trimmed
  pub remembers_trim : Remembers s (record m { lanes = lanes }) (after_trim p)
  remembers_trim = record {
    legal = may.remembers.legal;
    of_lanes = subst (λ (n : ℕ). IsOfLanes n (applied p)) (sym size) may.remembers.of_lanes;
    last = may.remembers.last;
    objects = may.remembers.objects;
    fields = may.remembers.fields;
    guards = may.remembers.guards;
    marks = may.remembers.marks;
    guards_named = may.remembers.guards_named;
    holders = may.remembers.holders;
    numbers = may.remembers.numbers;
    values = may.remembers.values;
    lanes = λ l lt. let low : l < length m.lanes = omega (arith, lt, size) in
        subst (λ (st : LaneState). RemembersLane (after_trim p) l st) (sym (are l low)) (record {
          place = (may.remembers.lanes l low).place;
          held = (may.remembers.lanes l low).held;
          section = (may.remembers.lanes l low).section;
          awaited_is = (may.remembers.lanes l low).awaited_is;
          start = may.logged l low;
        });
    logged = may.remembers.logged;
    fresh = may.remembers.fresh;
    dirty_fields = may.remembers.dirty_fields;
    dirty = may.remembers.dirty;
  }

  -- a lane that starts later has more room
  pub within_trim : ((l : ℕ) → l < length m.lanes → IsWithin m.capacity (lane_in m.lanes l)) → (l : ℕ) → l < length lanes → IsWithin m.capacity (lane_in lanes l)
  within_trim was l lt = let low : l < length m.lanes = omega (arith, lt, size) in
      subst (λ (st : LaneState). IsWithin m.capacity st) (sym (are l low)) (record {
        short = (was l low).short;
        closed = (was l low).closed;
        room = omega (arith, (was l low).room, may.rises l low);
        open_room = λ some. omega (arith, (was l low).open_room some, may.rises l low);
        low = (was l low).low;
        open_low = (was l low).open_low;
      })
