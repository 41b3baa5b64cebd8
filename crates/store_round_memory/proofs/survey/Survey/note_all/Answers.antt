use Rattle.std.proofs.Common.{ℕ, ◌≡◌, ◌+◌, ◌-◌, ◌<◌, List, ◌∷◌, get_or, length, take, sym, ◌∙◌, subst, refl, arith}
use Rattle.std.proofs.lemmas.List.{take_all}
use Rattle.heap_model.specs.declared.record.LaneRecord.{LaneRecord}
use Rattle.heap_model.specs.declared.record.Record.{Record}
use Rattle.heap_model.specs.declared.record.Record.TheVariants.{Acq}
use Rattle.heap_model.specs.Log.{log_from}
use Rattle.store_round_memory.specs.Counting.{Counts}
use Rattle.store_round_memory.specs.Surveys.{TellsDownTo}
use Rattle.store_round_memory.proofs.Lists.{count_less, log_last, newest_kept, of_lanes_first, pair}
use Rattle.store_round_memory.proofs.Opening.{tells_front, tells_none}
use Rattle.store_round_memory.proofs.Takes.{none_kept}
use Rattle.store_round_memory.proofs.survey.Survey.note_all.Goals as goal

pub loop-newer-init : goal.loop-newer-init
loop-newer-init c =
    let all : take (length c.args.records.now - 0) c.args.records.now ≡ c.args.records.now = take_all (length c.args.records.now - 0) c.args.records.now (omega arith) in
    record {
      survey = λ objects fields was. was;
      tells = subst (λ (xs : List LaneRecord). TellsDownTo c.args.counts.now (log_from c.args.records.now) (log_from xs) c.args.self.now) (sym all) (tells_none c.args.counts.now (log_from c.args.records.now) c.args.self.now c.requires.nothing c.requires.opened);
      left = subst (λ (xs : List LaneRecord). Counts c.args.many.now (log_from xs)) (sym all) c.requires.many;
      long = c.told-many;
      far = omega arith;
      taken = refl;
    }

pub loop-newer-preserved : goal.loop-newer-preserved
loop-newer-preserved c =
    let place : ℕ = length c.args.records.now - 1 - c.loop-newer.newer in
    let lt : place < length c.args.records.now = omega (arith, c.loop-newer-test.true) in
    let d : LaneRecord = record { lane = record { 0 = 0 }; «record» = Acq (record { 0 = 0 }) 0 } in
    let e : LaneRecord = get_or c.args.records.now place d in
    let older : List (ℕ × Record) = log_from (take (length c.args.records.now - (c.loop-newer.newer + 1)) c.args.records.now) in
    let low : e.lane.0 < 32 = (c.requires.survey.3 place d lt).0 in
    let next : log_from (take (length c.args.records.now - c.loop-newer.newer) c.args.records.now) ≡ pair e ∷ older = log_last c.args.records.now c.loop-newer.newer d (omega (arith, c.loop-newer-test.true)) in
    let counted : Counts c.loop-newer.left (pair e ∷ older) = subst (Counts c.loop-newer.left) next c.loop-newer.invariant.left in
    record {
      survey = λ objects fields was. c.note.ensures.survey objects fields (c.loop-newer.invariant.survey objects fields was);
      tells = c.note.ensures.tells c.args.counts.now (log_from c.args.records.now) older e.lane.0
          (newest_kept c.is_newest_kept-is_kept.result c.loop-newer.left c.args.counts.now (pair e) older low counted c.is_newest_kept-is_kept.ensures.kept)
          (subst (λ (xs : List (ℕ × Record)). TellsDownTo c.args.counts.now (log_from c.args.records.now) xs c.loop-newer.self) next c.loop-newer.invariant.tells);
      left = subst (λ (ns : List ℕ). Counts ns older) (sym c.is_newest_kept-is_kept.ensures.left) (count_less c.loop-newer.left (pair e) older c.loop-newer.invariant.long low counted);
      long = c.type_inv.left;
      far = omega (arith, c.loop-newer-test.true);
      taken = c.note.ensures.taken ∙ c.loop-newer.invariant.taken;
    }

pub returns-clause-tells : goal.returns-clause-tells
returns-clause-tells c =
    let at : length c.args.records.now - c.loop-newer.newer ≡ c.args.from = omega (arith, c.loop-newer-test.false, c.requires.from, c.loop-newer.invariant.far) in
    tells_front c.args.counts.now (log_from c.args.records.now) (log_from (take c.args.from c.args.records.now)) c.loop-newer.self
    (none_kept c.args.counts.now (log_from (take c.args.from c.args.records.now)) (of_lanes_first c.args.from c.args.records.now c.requires.from (λ k d lt. (c.requires.survey.3 k d lt).0)) c.requires.apart)
    (subst (λ (n : ℕ). TellsDownTo c.args.counts.now (log_from c.args.records.now) (log_from (take n c.args.records.now)) c.loop-newer.self) at c.loop-newer.invariant.tells)

pub note-requires : goal.note-requires
note-requires c = record {
  survey = (
    c.requires.survey.0,
    c.requires.survey.1,
    c.loop-newer.invariant.survey c.requires.survey.0 c.requires.survey.1 c.requires.survey.2,
    (c.requires.survey.3 (length c.args.records.now - 1 - c.loop-newer.newer) _ (omega (arith, c.loop-newer-test.true))).1,
  );
}
