use Rattle.zelamiku.proofs.Kept.{kept_from, safe_now}
use Rattle.zelamiku.proofs.heap_calls.acknowledged_of.Goals as goal

pub returns : goal.returns
returns c =
    let told = c.acknowledged.ensures in
    let law = c.host_law.ensures in
    let x = c.args.heap.now in
    let y = c.acknowledged.new.self in
    let lanes = x.helper.store.known.threads in
    record {
      acknowledged = told.ok;
      safe = safe_now x y c.args.lane lanes told.heap law.now c.acknowledged.result told.all_made told.bad_lane told.met;
      kept = kept_from x y c.args.lane lanes told.heap law.acknowledged c.acknowledged.result told.all_made told.bad_lane told.met;
      all_made = told.all_made;
      bad_lane = told.bad_lane;
      calls_left = told.calls_left;
      fetches = told.fetches;
      met = told.met;
      untouched = told.untouched;
      heap = told.heap;
    }
