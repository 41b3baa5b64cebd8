-- What a store's past stays.
use Rattle.std.proofs.Common.{ℕ}
use Rattle.heap_model.specs.declared.record.Record.{Record}
use Rattle.heap_model.specs.Setting.{Setting}
use Rattle.heap_model.specs.Log.{IsLegal}
use Rattle.law_cuts.specs.Laws.{StayLaw}
use Rattle.heap_model.specs.Past.{Past, IsPast, applied, after_apply, after_log, after_home, after_settle}
use Rattle.store_memory.specs.Memory.{Memory}
use Rattle.store_memory.specs.Remembers.{Remembers}

pub past_apply : (s : Setting) (p : Past) (l : ℕ) (r : Record) → IsPast s p → IsLegal s (applied (after_apply p l r)) → IsPast s (after_apply p l r)
past_apply s p l r was legal = record { legal = legal; within = was.within; base_whole = was.base_whole; base_closed = was.base_closed; whole = was.whole; closed = was.closed }

pub past_log : StayLaw → (s : Setting) (p : Past) → IsPast s p → IsPast s (after_log p)
past_log stay s p was = record {
  legal = was.legal;
  within = was.within;
  base_whole = (stay s p.fresh p.logged p.base was.legal was.base_whole was.base_closed).0;
  base_closed = (stay s p.fresh p.logged p.base was.legal was.base_whole was.base_closed).1;
  whole = (stay s p.fresh p.logged p.cut was.legal was.whole was.closed).0;
  closed = (stay s p.fresh p.logged p.cut was.legal was.whole was.closed).1;
}

pub past_home : (s : Setting) (p : Past) (f : ℕ) → IsPast s p → IsPast s (after_home p f)
past_home s p f was = record { legal = was.legal; within = was.within; base_whole = was.base_whole; base_closed = was.base_closed; whole = was.whole; closed = was.closed }

-- the memory doesn't know what is acknowledged
pub remembers_settle : (s : Setting) (m : Memory) (p : Past) (cut : ℕ → ℕ) → Remembers s m p → Remembers s m (after_settle p cut)
remembers_settle s m p cut was = record {
  legal = was.legal;
  of_lanes = was.of_lanes;
  last = was.last;
  objects = was.objects;
  fields = was.fields;
  guards = was.guards;
  marks = was.marks;
  guards_named = was.guards_named;
  holders = was.holders;
  numbers = was.numbers;
  values = was.values;
  lanes = λ l low. record {
    place = (was.lanes l low).place;
    held = (was.lanes l low).held;
    section = (was.lanes l low).section;
    awaited_is = (was.lanes l low).awaited_is;
    start = (was.lanes l low).start;
  };
  logged = was.logged;
  fresh = was.fresh;
  dirty_fields = was.dirty_fields;
  dirty = was.dirty;
}
