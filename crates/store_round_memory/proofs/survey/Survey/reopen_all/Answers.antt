use Rattle.std.proofs.Common.{ℕ, ◌≡◌, ◌+◌, ◌-◌, ◌<◌, ◌^◌, if◌then◌else◌, nat_lt, Bool, List, ◌∷◌, get_or, length, slice_index, take, refl, rules, sym, ap, ◌∙◌, subst, arith}
use Rattle.std.proofs.lemmas.List.{take_all}
use Rattle.heap_model.specs.declared.record.LaneRecord.{LaneRecord}
use Rattle.heap_model.specs.declared.record.Record.{Record}
use Rattle.heap_model.specs.declared.record.Record.TheVariants.{Acq}
use Rattle.heap_model.specs.Log.{log_from}
use Rattle.store_round_memory.specs.Counting.{Counts, is_kept, kept_takes, takes, takes_one}
use Rattle.store_round_memory.proofs.Lists.{count_less, log_last, log_long, newest_kept, of_lanes_first, pair}
use Rattle.store_round_memory.proofs.Takes.{none_kept, none_takes, takes_within}
use Rattle.store_round_memory.proofs.survey.Survey.reopen_all.Goals as goal

-- the newest record that wasn't looked at
module _ (records : List LaneRecord) (newer : ℕ) (counts left : List ℕ) (lt : newer < length records) (are : Counts left (log_from (take (length records - newer) records))) (d : LaneRecord) where
  abbrev e : LaneRecord
  e = get_or records (length records - 1 - newer) d

  abbrev older : List (ℕ × Record)
  older = log_from (take (length records - (newer + 1)) records)

  next : log_from (take (length records - newer) records) ≡ pair e ∷ older
  next = log_last records newer d lt

  counted : Counts left (pair e ∷ older)
  counted = subst (Counts left) next are

  -- it is kept by the test
  opens : (b : Bool) (o now : ℕ) → e.lane.0 < 32 → b ≡ nat_lt (slice_index left e.lane.0 - 1) (slice_index counts e.lane.0) →
      now + kept_takes counts o (log_from (take (length records - newer) records)) ≡ takes o (log_from records) → now + (if b then takes_one o e.«record» else 0) + kept_takes counts o older ≡ takes o (log_from records)
  opens b o now low is was =
      let all : now + ((if is_kept counts e.lane.0 older then takes_one o e.«record» else 0) + kept_takes counts o older) ≡ takes o (log_from records) = ap (λ (xs : List (ℕ × Record)). now + kept_takes counts o xs) (sym next) ∙ was in
      let one : (if b then takes_one o e.«record» else 0) ≡ (if is_kept counts e.lane.0 older then takes_one o e.«record» else 0) = ap (λ c. if c then takes_one o e.«record» else 0) (newest_kept b left counts (pair e) older low counted is) in
      omega (arith, all, one)

pub loop-newer-init : goal.loop-newer-init
loop-newer-init c =
    let all : take (length c.args.records.now - 0) c.args.records.now ≡ c.args.records.now = take_all (length c.args.records.now - 0) c.args.records.now (omega arith) in
    record {
      survey = λ objects fields was. was;
      opened = λ o. ap (λ (xs : List LaneRecord). slice_index c.args.self.now.open_takes.items o + kept_takes c.args.counts.now o (log_from xs)) all ∙ c.requires.opened o;
      left = subst (λ (xs : List LaneRecord). Counts c.args.many.now (log_from xs)) (sym all) c.requires.many;
      long = c.told-many;
      far = omega arith;
      taken = refl;
      changed = refl;
      marks = refl;
    }

pub reopen-requires-clause-few : goal.reopen-requires-clause-few
reopen-requires-clause-few c = λ o.
    let d : LaneRecord = record { lane = record { 0 = 0 }; «record» = Acq (record { 0 = 0 }) 0 } in
    let place : ℕ = length c.args.records.now - 1 - c.loop-newer.newer in
    let lt : c.loop-newer.newer < length c.args.records.now = omega (arith, c.loop-newer-test.true) in
    let low : (get_or c.args.records.now place d).lane.0 < 32 = (c.requires.survey.3 place d (omega (arith, lt))).0 in
    let words : length c.args.records.now < 2 ^ 64 = search rules in
    omega (
      arith,
      opens c.args.records.now c.loop-newer.newer c.args.counts.now c.loop-newer.left lt c.loop-newer.invariant.left d c.is_newest_kept-is_kept.result o (slice_index c.loop-newer.self.open_takes.items o) low c.is_newest_kept-is_kept.ensures.kept (c.loop-newer.invariant.opened o),
      takes_within o (log_from c.args.records.now),
      log_long c.args.records.now,
      words,
    )

pub loop-newer-preserved : goal.loop-newer-preserved
loop-newer-preserved c =
    let d : LaneRecord = record { lane = record { 0 = 0 }; «record» = Acq (record { 0 = 0 }) 0 } in
    let place : ℕ = length c.args.records.now - 1 - c.loop-newer.newer in
    let lt : c.loop-newer.newer < length c.args.records.now = omega (arith, c.loop-newer-test.true) in
    let e : LaneRecord = get_or c.args.records.now place d in
    let older : List (ℕ × Record) = log_from (take (length c.args.records.now - (c.loop-newer.newer + 1)) c.args.records.now) in
    let low : e.lane.0 < 32 = (c.requires.survey.3 place d (omega (arith, lt))).0 in
    record {
      survey = λ objects fields was. c.reopen.ensures.survey objects fields (c.loop-newer.invariant.survey objects fields was);
      opened = λ o. ap (λ (n : ℕ). n + kept_takes c.args.counts.now o older) (c.reopen.ensures.opened o)
          ∙ opens c.args.records.now c.loop-newer.newer c.args.counts.now c.loop-newer.left lt c.loop-newer.invariant.left d c.is_newest_kept-is_kept.result o (slice_index c.loop-newer.self.open_takes.items o) low c.is_newest_kept-is_kept.ensures.kept (c.loop-newer.invariant.opened o);
      left = subst (λ (ns : List ℕ). Counts ns older) (sym c.is_newest_kept-is_kept.ensures.left)
          (count_less c.loop-newer.left (pair e) older c.loop-newer.invariant.long low (counted c.args.records.now c.loop-newer.newer c.args.counts.now c.loop-newer.left lt c.loop-newer.invariant.left d));
      long = c.type_inv.left;
      far = omega (arith, c.loop-newer-test.true);
      taken = c.reopen.ensures.taken ∙ c.loop-newer.invariant.taken;
      changed = c.reopen.ensures.changed ∙ c.loop-newer.invariant.changed;
      marks = c.reopen.ensures.marks ∙ c.loop-newer.invariant.marks;
    }

pub returns-clause-opened : goal.returns-clause-opened
returns-clause-opened c = λ o.
    let at : length c.args.records.now - c.loop-newer.newer ≡ c.args.from = omega (arith, c.loop-newer-test.false, c.requires.from, c.loop-newer.invariant.far) in
    let none : kept_takes c.args.counts.now o (log_from (take c.args.from c.args.records.now)) ≡ 0 = none_takes c.args.counts.now o (log_from (take c.args.from c.args.records.now))
    (none_kept c.args.counts.now (log_from (take c.args.from c.args.records.now)) (of_lanes_first c.args.from c.args.records.now c.requires.from (λ k d lt. (c.requires.survey.3 k d lt).0)) c.requires.apart) in
    let all : slice_index c.loop-newer.self.open_takes.items o + kept_takes c.args.counts.now o (log_from (take c.args.from c.args.records.now)) ≡ takes o (log_from c.args.records.now) =
    subst (λ (n : ℕ). slice_index c.loop-newer.self.open_takes.items o + kept_takes c.args.counts.now o (log_from (take n c.args.records.now)) ≡ takes o (log_from c.args.records.now)) at (c.loop-newer.invariant.opened o) in
    omega (arith, all, none)
