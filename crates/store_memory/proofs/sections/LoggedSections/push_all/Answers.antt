use Rattle.std.proofs.Common.{ℕ, ◌≡◌, ◌<◌, List, ◌++◌, length, take, sym, ◌∙◌, subst, arith}
use Rattle.std.proofs.lemmas.List.{take_all}
use Rattle.heap_model.specs.declared.record.Record.{Record as AnyRecord}
use Rattle.heap_model.specs.declared.record.Record.TheVariants.{Acq}
use Rattle.heap_model.specs.declared.record.LaneRecord.{LaneRecord}
use Rattle.heap_model.specs.Log.{log_from}
use Rattle.store_memory.specs.Sections.{TellsSections}
use Rattle.store_memory.proofs.SectionLaws.{log_more, next_may}
use Rattle.store_memory.proofs.sections.LoggedSections.push_all.Goals as goal

abbrev none : LaneRecord
none = record { lane = record { 0 = 0 }; «record» = Acq (record { 0 = 0 }) 0 }

pub push-requires : goal.push-requires
push-requires c =
    let r = c.requires.may in
    let lt : c.loop-entry.entry-index < length c.args.records.now = omega (arith, c.loop-entry-test.true) in
    record {
      may = (
        r.0,
        r.1,
        log_from (take c.loop-entry.entry-index c.args.records.now) ++ r.2,
        next_may r.0 c.args.self.now c.loop-entry.self r.1 r.2 c.args.records.now c.loop-entry.entry-index none lt r.3 (c.loop-entry.invariant.tells r.0 r.1 r.2 r.3) c.loop-entry.invariant.lanes c.loop-entry.invariant.capacity,
      );
    }

pub loop-entry-preserved : goal.loop-entry-preserved
loop-entry-preserved c =
    let lt : c.loop-entry.entry-index < length c.args.records.now = omega (arith, c.loop-entry-test.true) in
    record {
      tells = λ s base log may. subst (λ (ys : List (ℕ × AnyRecord)). TellsSections c.push.new.self base (ys ++ log)) (sym (log_more c.args.records.now c.loop-entry.entry-index none lt))
          (c.push.ensures.tells s base (log_from (take c.loop-entry.entry-index c.args.records.now) ++ log)
          (next_may s c.args.self.now c.loop-entry.self base log c.args.records.now c.loop-entry.entry-index none lt may (c.loop-entry.invariant.tells s base log may) c.loop-entry.invariant.lanes c.loop-entry.invariant.capacity));
      lanes = c.push.ensures.lanes ∙ c.loop-entry.invariant.lanes;
      capacity = c.push.ensures.capacity ∙ c.loop-entry.invariant.capacity;
    }

pub returns : goal.returns
returns c = record {
  tells = λ s base log may.
      let all : take c.loop-entry.entry-index c.args.records.now ≡ c.args.records.now = take_all c.loop-entry.entry-index c.args.records.now (omega (arith, c.loop-entry-test.false)) in
      subst (λ (xs : List LaneRecord). TellsSections c.loop-entry.self base (log_from xs ++ log)) all (c.loop-entry.invariant.tells s base log may);
  lanes = c.loop-entry.invariant.lanes;
  capacity = c.loop-entry.invariant.capacity;
}
