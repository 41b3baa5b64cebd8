use Rattle.std.proofs.Common.{◌≡◌, ◌+◌, ◌-◌, refl, arith}
use Rattle.host_journal.specs.Gathered.{LeavesSince, rest_of, words_of}
use Rattle.host_journal.specs.declared.gathering.Gathering.{Gathering}
use Rattle.host_journal.proofs.Turning.{turn_done, turn_failed, turn_leaves, turn_whole, turns_none}
use Rattle.host_journal.proofs.taking.turn.Goals as goal

pub returns-then-parts-eq0-clause-turns : goal.returns-then-parts-eq0-clause-turns
returns-then-parts-eq0-clause-turns c = turns_none c.args.parts.now

pub returns-then-not-settle-clause-turns : goal.returns-then-not-settle-clause-turns
returns-then-not-settle-clause-turns c =
    let some = c.if-parts-eq0.false in
    let g = c.args.parts.now in
    let new : Gathering = record { disk = c.settle.new.disk; group = g.group; moved = g.moved; taken = g.taken; words = g.words; turns = g.turns } in
    let left : LeavesSince g new =
    λ heap base is. turn_leaves heap base g c.settle.new.disk is c.settle.ensures.any_moment c.settle.ensures.old_or_new c.settle.ensures.over in
    record {
      keeps = λ heap base is.
          turn_failed heap base g new is (left heap base is) (c.if-not-settle.ensures.err refl) (c.if-not-settle.ensures.waiting refl) c.settle.ensures.areas some
          refl refl refl refl;
      left = left;
      whole = turn_whole g.disk c.settle.new.disk c.settle.ensures.old_or_new c.settle.ensures.over;
      areas = c.settle.ensures.areas;
      group = refl;
      moved = refl;
      words = omega arith;
      idle = λ none. absurd (some none);
    }

pub returns-clause-turns : goal.returns-clause-turns
returns-clause-turns c =
    let some = c.if-parts-eq0.false in
    let g = c.args.parts.now in
    let count : g.words ≡ g.taken + words_of (rest_of g) = c.requires.words in
    let words : g.words - g.taken + g.taken ≡ g.words = omega (arith, count) in
    let new : Gathering =
    record { disk = c.settle.new.disk; group = g.group; moved = g.moved; taken = 0; words = g.words - g.taken; turns = c.counted-parts.result } in
    let left : LeavesSince g new =
    λ heap base is. turn_leaves heap base g c.settle.new.disk is c.settle.ensures.any_moment c.settle.ensures.old_or_new c.settle.ensures.over in
    record {
      keeps = λ heap base is.
          turn_done heap base g new is (left heap base is) (c.if-not-settle.ensures.ok refl) (c.if-not-settle.ensures.settled refl) c.settle.ensures.areas refl refl refl words;
      left = left;
      whole = turn_whole g.disk c.settle.new.disk c.settle.ensures.old_or_new c.settle.ensures.over;
      areas = c.settle.ensures.areas;
      group = refl;
      moved = refl;
      words = omega (arith, count);
      idle = λ none. absurd (some none);
    }
