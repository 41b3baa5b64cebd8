-- Each image of bytes has a study, or is refused by a reason of its own.
use Rattle.std.proofs.Common.{ℕ, zero, suc, ◌≡◌, ◌≢◌, ◌+◌, ◌-◌, ◌<◌, ◌≤◌, ◌⊎◌, ◌^◌, ◌++◌, true, false, List, Option, [], ◌∷◌, length, reverse, refl, sym, ap, ◌∙◌, subst, inl, inr, arith, Vec, Global, slice_index}
use Rattle.std.specs.Prelude.{All}
use Rattle.std.proofs.lemmas.Bool.{cases_eq, cases_lt, cases_Bool}
use Rattle.std.proofs.lemmas.List.{length-reverse, reverse-reverse}
use Rattle.heap_model.specs.declared.ids.ObjectId.{ObjectId}
use Rattle.heap_model.specs.declared.record.UndoRecord.{UndoRecord}
use Rattle.heap_model.specs.declared.record.UndoRecord.TheVariants.{Acq, Rel, WaitRel, Put}
use Rattle.heap_model.specs.Log.{lane}
use Rattle.recover_logs.specs.Limits.{IsInRange}
use Rattle.undo_log.specs.RecordBytes as bytes
use Rattle.undo_log.specs.Area.{HasRecords, HasSpan}
use Rattle.undo_log.specs.Runs.{IsFull}
use Rattle.undo_log.specs.StandsFor.{HasLive, row_of, is_transient_in, settled_of}
use Rattle.undo_log.proofs.Runs.{span_append}
use Rattle.image_parts.specs.Header.{HasHeader}
use Rattle.image_parts.specs.Layout.{IsLayout, size_of}
use Rattle.image_parts.specs.Rows.{IsRow, empty_row}
use Rattle.image_parts.specs.Slots.{Shows, gate}
use Rattle.image_parts.specs.declared.control.Control.{Control}
use Rattle.image_parts.specs.declared.guard_row.GuardRow.{GuardRow}
use Rattle.image_parts.specs.declared.lane_row.LaneRow.{LaneRow}
use Rattle.image_parts.specs.declared.layout.Layout.{Layout}
use Rattle.image_parts.specs.declared.slot.Slot.{Slot}
use Rattle.image_parts.specs.declared.slot.Slot.TheVariants.{A, B}
use Rattle.recover_logs.specs.First.{IsLowered, IsLowestOf, lowered}
use Rattle.recover_logs.specs.Replay.{IsDone, IsReplay, Replays}
use Rattle.recover_logs.specs.Settled.{TakesUnsettled}
use Rattle.recover_logs.proofs.FirstLemmas.{begins_at, lowered_more, lowered_none, lowered_one, lowest_more, lowest_none}
use Rattle.recover_logs.proofs.LaneLemmas.{records_past}
use Rattle.recover_logs.proofs.SettledLemmas.{all_rest}
use Rattle.recover_heap.specs.Logs.{AreLogs, IsReadTo, lanes_of, logged_guard_in, records_of}
use Rattle.recover.specs.Reading.{HasControl, HasFront, HasLayout, Holds, RefusesImage}
use Rattle.recover.specs.Settled.{AreAtRest, AreLegal, IsAtRest, Stuck, Restless, Crossing, kept_of}
use Rattle.recover_heap.specs.declared.error.RecoverError.{RecoverError}
use Rattle.recover_heap.specs.declared.error.RecoverError.TheVariants.{Fault, NotFormatted, BadHeader, TooSmall, NoControl, BadControl, BadRecord, IllegalLog, NoMemory}
use Rattle.recover.specs.declared.logged_image.LoggedImage.{LoggedImage}
use Rattle.recover.proofs.LogLemmas.{row_is}
use Rattle.law_survival.proofs.Greedy.{Ended, ends_there, left_or_done, none_there}
use Rattle.law_survival.proofs.Vecs.{lanes_are, logs_long, logs_to, vec_of}

-- no reason of its own refuses the image
abbrev pub NoReason : List ℕ → Type 0
NoReason image = (reason : RecoverError) → reason ≢ Fault → reason ≢ NoMemory → RefusesImage image reason → ⊥

-- The lanes' live records, one place after the other.
module _ (image : List ℕ) (no : NoReason image) (l : Layout) (guards : List GuardRow) (slot : Slot) (c : Control) (control : HasControl image l guards slot c) where
  abbrev rows : List LaneRow
  rows = c.rows

  limits : IsLayout l
  limits = control.front.layout.header.limits

  row_there : (m : ℕ) → m < l.lanes → IsRow l.capacity (row_of rows m)
  row_there m lt = row_is l rows m empty_row control.shows.spells.valid.rows limits.lanes.1 lt

  -- the lane's live places have records
  abbrev IsRead : ℕ → Type 0
  IsRead m = IsReadTo l image rows m (row_of rows m).logged

  places_read : (m : ℕ) → m < l.lanes → ((k : ℕ) → k < m → IsRead k) → (n : ℕ) → (row_of rows m).start + n ≤ (row_of rows m).logged → (IsFull l m (row_of rows m).start ((row_of rows m).start + n) image → ⊥) → ⊥
  places_read m lt before zero le none = none ([], record { size = omega arith; each = tt })
  places_read m lt before (suc n) le none =
      let from = (row_of rows m).start in
      places_read m lt before n (omega (arith, le)) (λ full. no (BadRecord (record { 0 = m }) (from + n)) (λ e. cc) (λ e. cc) (
        l,
        guards,
        slot,
        c,
        control,
        (
          lt,
          record {
            live = omega (arith, le);
            bad = λ r has. none (full.0 ++ r ∷ [], span_append l m from (from + n) (from + suc n) image full.0 (r ∷ []) full.1 (record { size = omega arith; each = (has, tt) }));
            before = full;
          },
          before,
        ),
      ))

  lane_read : (m : ℕ) → m < l.lanes → ((k : ℕ) → k < m → IsRead k) → (IsRead m → ⊥) → ⊥
  lane_read m lt before none =
      let row = row_there m lt in
      let from = (row_of rows m).start in
      let to = (row_of rows m).logged in
      let upto : from ≤ to = omega (arith, row.settled, row.logged) in
      let end : from + (to - from) ≡ to = omega (arith, upto) in
      places_read m lt before (to - from) (omega (arith, upto)) (λ full. none (subst (λ (p : ℕ). IsFull l m from p image) end full))

  pub lanes_read : (n : ℕ) → n ≤ l.lanes → (((m : ℕ) → m < n → IsRead m) → ⊥) → ⊥
  lanes_read zero le none = none (λ m lt. absurd (omega (arith, lt)))
  lanes_read (suc n) le none = lanes_read n (omega (arith, le)) (λ before. lane_read n (omega (arith, le)) before (λ here.
      none (λ m lt. elim (cases_eq m n) [ inl e ↦ subst IsRead (sym e) here | inr ne ↦ before m (omega (arith, lt, ne)) ])))

  -- So they are the lanes' logs.
  module _ (reads : (m : ℕ) → m < l.lanes → IsReadTo l image c.rows m (row_of c.rows m).logged) where
    abbrev lane_at : (m : ℕ) → (m < l.lanes) ⊎ (l.lanes ≤ m) → List UndoRecord
    lane_at m (inl lt) = reverse (reads m lt).0
    lane_at m (inr from) = []

    abbrev lane_logs : ℕ → List UndoRecord
    lane_logs m = lane_at m (cases_lt m l.lanes)

    live_at : (m : ℕ) → m < l.lanes → (side : (m < l.lanes) ⊎ (l.lanes ≤ m)) → HasSpan l m (row_of rows m).start (row_of rows m).logged image (reverse (lane_at m side))
    live_at m below (inl lt) = subst (λ (xs : List UndoRecord). HasSpan l m (row_of rows m).start (row_of rows m).logged image xs) (sym (reverse-reverse (reads m lt).0)) (reads m lt).1
    live_at m below (inr from) = absurd (omega (arith, below, from))

    none_at : (m : ℕ) → l.lanes ≤ m → (side : (m < l.lanes) ⊎ (l.lanes ≤ m)) → lane_at m side ≡ []
    none_at m past (inl lt) = absurd (omega (arith, lt, past))
    none_at m past (inr from) = refl

    none_past : (m : ℕ) → l.lanes ≤ m → lane_logs m ≡ []
    none_past m past = none_at m past (cases_lt m l.lanes)

    lane_small : (m : ℕ) → length (lane_logs m) < 2 ^ 63
    lane_small m = elim (cases_lt m l.lanes) [
      | inr from ↦ omega (arith, ap (λ (xs : List UndoRecord). length xs) (none_past m from))
      | inl lt ↦
          let row = row_there m lt in
          let span = live_at m lt (cases_lt m l.lanes) in
          omega (arith, row.fits, limits.capacity.1, span.size, length-reverse (lane_logs m))
    ]

    pub logs_there : (logs : List (Vec UndoRecord Global)) × AreLogs l image c.rows logs
    logs_there = (
      logs_to lane_logs lane_small l.lanes,
      record {
        count = logs_long lane_logs lane_small l.lanes;
        live = subst (λ (ls : ℕ → List UndoRecord). HasLive l image c.rows ls) (sym (lanes_are lane_logs lane_small l.lanes none_past))
            (record { live = λ m lt. live_at m lt (cases_lt m l.lanes); others = none_past });
      },
    )

-- records that the image has are in range
in_range : (r : UndoRecord) → bytes.IsInRange r → IsInRange r
in_range (Acq o n) h = h
in_range (Rel o n) h = h
in_range (WaitRel o n) h = h
in_range (Put f before) h = h

each_in_range : (l : Layout) (m place : ℕ) (image : List ℕ) (xs : List UndoRecord) → HasRecords l m place image xs → All IsInRange xs
each_in_range l m place image [] has k d lt = absurd (omega (arith, lt))
each_in_range l m place image (x ∷ xs) has zero d lt = in_range x has.0.spelled.range
each_in_range l m place image (x ∷ xs) has (suc k) d lt = each_in_range l m (place + 1) image xs has.1 k d (omega (arith, lt))

-- the objects' numbers at first
lowered_all : (numbers : List ℕ) (xs : List UndoRecord) → length numbers ≡ 4096 → All IsInRange xs → (new : List ℕ) × IsLowered numbers xs new
lowered_all numbers [] long range = (numbers, lowered_none numbers)
lowered_all numbers (x ∷ xs) long range =
    let one = lowered_one numbers x long (range 0 x (omega arith)) in
    let rest = lowered_all (lowered numbers x) xs (one.size ∙ long) (λ k d lt. range (suc k) d (omega (arith, lt))) in
    (rest.0, lowered_more numbers (lowered numbers x) rest.0 (x ∷ []) xs one rest.1)

lowest : (logs : List (Vec UndoRecord Global)) → ((m : ℕ) → All IsInRange (records_of logs m)) → (n : ℕ) → (numbers : List ℕ) × IsLowestOf logs n numbers
lowest logs range zero = (_, lowest_none logs)
lowest logs range (suc n) =
    let before = lowest logs range n in
    let more = lowered_all before.0 (records_of logs n) before.1.size (range n) in
    let next : n + 1 ≡ suc n = omega arith in
    (more.0, subst (λ (k : ℕ). IsLowestOf logs k more.0) next (lowest_more logs n before.0 more.0 before.1 more.1))

-- Logs that no test refuses are legal.
module _ (image : List ℕ) (no : NoReason image) (l : Layout) (guards : List GuardRow) (slot : Slot) (c : Control) (control : HasControl image l guards slot c)
    (logs : List (Vec UndoRecord Global)) (are : AreLogs l image c.rows logs) where
  abbrev guard : ℕ → Option ObjectId
  guard = logged_guard_in guards

  abbrev lanes : ℕ → List UndoRecord
  lanes = lanes_of logs

  ranges : (m : ℕ) → All IsInRange (records_of logs m)
  ranges m = elim (cases_lt m l.lanes) [
    | inl lt ↦
        let span = are.live.live m lt in
        subst (λ (xs : List UndoRecord). All IsInRange xs) (reverse-reverse (records_of logs m)) (each_in_range l m (row_of c.rows m).start image (reverse (lanes m)) span.each)
    | inr from ↦ subst (λ (xs : List UndoRecord). All IsInRange xs) (sym (records_past logs m (omega (arith, from, are.count)))) (λ k d lt. absurd (omega (arith, lt)))
  ]

  numbers : (numbers : List ℕ) × IsLowestOf logs (length logs) numbers
  numbers = lowest logs ranges (length logs)

  ended : Ended guard (slice_index numbers.0) lanes l.lanes are.live.others
  ended = ends_there guard (slice_index numbers.0) lanes l.lanes are.live.others

  abbrev done : List (ℕ × UndoRecord)
  done = ended.done

  replay : IsReplay guard lanes done
  replay = record { first = slice_index numbers.0; begins = begins_at logs numbers.0 (length logs) (omega arith) ranges numbers.1; greedy = ended.greedy; ended = ended.ended }

  -- a lane that isn't done stops the replay
  lanes_done : (n : ℕ) → (((m : ℕ) → m < n → IsDone lanes done m) → ⊥) → ⊥
  lanes_done zero none = none (λ m lt. absurd (omega (arith, lt)))
  lanes_done (suc n) none = lanes_done n (λ before. elim (left_or_done guard (slice_index numbers.0) lanes l.lanes are.live.others done ended.parts n) [
    | inl left ↦ no (IllegalLog (record { 0 = n }) ((row_of c.rows n).start + length (lane n done))) (λ e. cc) (λ e. cc)
        (l, guards, slot, c, control, (logs, are, Stuck (length (lane n done)) (record { done = done; replay = replay; left = left; place = refl; least = before }) refl))
    | inr all ↦ none (λ m lt. elim (cases_eq m n) [ inl e ↦ subst (λ (k : ℕ). IsDone lanes done k) (sym e) all | inr ne ↦ before m (omega (arith, lt, ne)) ])
  ])

  all_done : ((m : ℕ) → m < l.lanes → IsDone lanes done m) → Replays guard lanes done
  all_done each = record {
    replay = replay;
    all = λ m. elim (cases_lt m l.lanes) [
      | inl lt ↦ each m lt
      | inr from ↦ elim (left_or_done guard (slice_index numbers.0) lanes l.lanes are.live.others done ended.parts m) [
        | inl left ↦ absurd (none_there guard (slice_index numbers.0) lanes l.lanes are.live.others done m left.0 from left.1)
        | inr all ↦ all
      ]
    ];
  }

  -- a lane that isn't at rest where it is settled
  lanes_rest : Replays guard lanes done → (n : ℕ) → (((m : ℕ) → m < n → IsAtRest c.rows lanes m) → ⊥) → ⊥
  lanes_rest replays zero none = none (λ m lt. absurd (omega (arith, lt)))
  lanes_rest replays (suc n) none = lanes_rest replays n (λ before.
      no (IllegalLog (record { 0 = n }) (row_of c.rows n).settled) (λ e. cc) (λ e. cc) (
        l,
        guards,
        slot,
        c,
        control,
        (
          logs,
          are,
          Restless done replays (record {
            restless = λ here. none (λ m lt. elim (cases_eq m n) [ inl e ↦ subst (λ (k : ℕ). IsAtRest c.rows lanes k) (sym e) here | inr ne ↦ before m (omega (arith, lt, ne)) ]);
            least = before;
          }) refl,
        ),
      ))

  -- an acknowledged section that depends on one that isn't: there is none before the first
  module _ (rest : AreAtRest guard c.rows lanes) where
    abbrev Takes : (m i : ℕ) → Type 0
    Takes m i = TakesUnsettled (settled_of c.rows) lanes m i

    takes_first : (m i : ℕ) → ((k j : ℕ) → k < m → Takes k j → ⊥) → ((j : ℕ) → j < i → Takes m j → ⊥) → Takes m i → ⊥
    takes_first m i lower sooner takes =
        no (IllegalLog (record { 0 = m }) ((row_of c.rows m).start + i)) (λ e. cc) (λ e. cc) (
          l,
          guards,
          slot,
          c,
          control,
          (
            logs,
            are,
            Crossing i rest (record {
              takes = takes;
              least = λ k j other. elim (cases_lt m k) [
                | inl above ↦ inl above
                | inr upto ↦ elim (cases_eq m k) [
                  | inr ne ↦ absurd (lower k j (omega (arith, upto, ne)) other)
                  | inl e ↦ elim (cases_lt j i) [ inl lt ↦ absurd (sooner j lt (subst (λ (n : ℕ). Takes n j) (sym e) other)) | inr le ↦ inr (e, le) ]
                ]
              ];
            }) refl,
          ),
        )

    none_in : (m : ℕ) → ((k j : ℕ) → k < m → Takes k j → ⊥) → (n i : ℕ) → i < n → Takes m i → ⊥
    none_in m lower zero i lt takes = omega (arith, lt)
    none_in m lower (suc n) i lt takes = elim (cases_eq i n) [
      | inl e ↦ takes_first m i lower (λ j less. none_in m lower n j (omega (arith, less, e))) takes
      | inr ne ↦ none_in m lower n i (omega (arith, lt, ne)) takes
    ]

    none_below : (n m i : ℕ) → m < n → Takes m i → ⊥
    none_below zero m i lt takes = omega (arith, lt)
    none_below (suc n) m i lt takes = elim (cases_eq m n) [
      | inl e ↦ none_in m (λ k j less. none_below n k j (omega (arith, less, e))) (suc i) i (omega arith) takes
      | inr ne ↦ none_below n m i (omega (arith, lt, ne)) takes
    ]

    pub none_crosses : (m i : ℕ) → TakesUnsettled (settled_of c.rows) lanes m i → ⊥
    none_crosses m i takes = none_below (suc m) m i (omega arith) takes

  pub logs_legal : (AreLegal (logged_guard_in guards) c.rows (lanes_of logs) → ⊥) → ⊥
  logs_legal none = lanes_done l.lanes (λ each.
      let replays = all_done each in
      lanes_rest replays l.lanes (λ at_rest.
      let rest : AreAtRest guard c.rows lanes = record {
        done = done;
        replays = replays;
        rest = all_rest (settled_of c.rows) (kept_of c.rows) logs (λ m lt. at_rest m (omega (arith, lt, are.count)));
      } in
      none (record { logs = rest; inside = none_crosses rest })))

-- some row is marked, or none is
marked_or_not : (guards : List GuardRow) → ((f : ℕ) × (is_transient_in guards f ≡ true)) ⊎ ((f : ℕ) → is_transient_in guards f ≡ false)
marked_or_not [] = inr (λ f. refl)
marked_or_not (row ∷ rest) = elim (cases_Bool row.transient) [
  | inl marked ↦ inl (0, marked)
  | inr unmarked ↦ elim (marked_or_not rest) [
    | inl later ↦ inl (suc later.0, later.1)
    | inr none ↦ inr (λ f. by unmarked none f)
  ]
]
  where
    by : row.transient ≡ false → ((f : ℕ) → is_transient_in rest f ≡ false) → (f : ℕ) → is_transient_in (row ∷ rest) f ≡ false
    by first later zero = first
    by first later (suc f) = later f

-- Nothing is wrong with an image that no reason of its own refuses.
module _ (image : List ℕ) (no : NoReason image) (none : (found : LoggedImage) → Holds image found → ⊥) where
  with_control : (l : Layout) (guards : List GuardRow) (slot : Slot) (c : Control) → HasControl image l guards slot c → ⊥
  with_control l guards slot c control = lanes_read image no l guards slot c control l.lanes (omega arith) (λ reads.
      let logs = logs_there image no l guards slot c control reads in
      logs_legal image no l guards slot c control logs.0 logs.1 (λ legal. none (record {
        layout = l;
        slot = slot;
        control = c;
        guards = vec_of guards (omega (arith, control.front.guards_are.size, control.front.layout.header.limits.fields.1));
        records = vec_of logs.0 (omega (arith, logs.1.count, control.front.layout.header.limits.lanes.1));
      }) (record { control = control; logs = logs.1; legal = legal })))

  -- a control of version 1 is refused by a marked row, and else read as one of version 2
  with_shown : (l : Layout) (guards : List GuardRow) → HasFront image l guards → (t : Slot) (c : Control) → Shows l image t c → ⊥
  with_shown l guards front t c shows = elim shows.spells.valid.version [
    | inl old ↦ elim (marked_or_not guards) [
      | inl marked ↦ no BadControl (λ e. cc) (λ e. cc) (l, guards, front, inr (record { slot = t; control = c; shows = shows; version = old; field = marked.0; marked = marked.1 }))
      | inr none ↦ with_control l guards t c (record { front = front; shows = shows; marks = λ _. none })
    ]
    | inr current ↦ with_control l guards t c (record { front = front; shows = shows; marks = λ old. absurd (omega (arith, old, current)) })
  ]

  with_gate : (l : Layout) (guards : List GuardRow) → HasFront image l guards → (s : Slot) → gate s image ≡ 165 → ⊥
  with_gate l guards front s is = no BadControl (λ e. cc) (λ e. cc) (l, guards, front, inl ((s, is), λ t c shows. with_shown l guards front t c shows))

  both_shut : gate A image ≢ 165 → gate B image ≢ 165 → (s : Slot) → gate s image ≢ 165
  both_shut a b A = a
  both_shut a b B = b

  with_front : (l : Layout) (guards : List GuardRow) → HasFront image l guards → ⊥
  with_front l guards front = elim (cases_eq (gate A image) 165) [
    | inl is ↦ with_gate l guards front A is
    | inr shut ↦ elim (cases_eq (gate B image) 165) [
      | inl is ↦ with_gate l guards front B is
      | inr too ↦ no NoControl (λ e. cc) (λ e. cc) (l, guards, front, both_shut shut too)
    ]
  ]

  with_layout : (l : Layout) → HasHeader image l → ⊥
  with_layout l header = elim (cases_lt (length image) (size_of l)) [
    | inl less ↦ no TooSmall (λ e. cc) (λ e. cc) (l, header, less)
    | inr room ↦
        let layout : HasLayout image l = record { header = header; room = room } in
        no BadHeader (λ e. cc) (λ e. cc) (inr (l, layout, λ guards guarded. with_front l guards (record { layout = layout; guards_are = guarded })))
  ]

  pub one_holds : ⊥
  one_holds = no NotFormatted (λ e. cc) (λ e. cc) (λ formatted. no BadHeader (λ e. cc) (λ e. cc) (inl (formatted, with_layout)))
