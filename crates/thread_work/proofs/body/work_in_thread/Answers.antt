use Rattle.thread_work.proofs.Ending.{lane_kept, lane_there}
use Rattle.thread_work.proofs.body.work_in_thread.Goals as goal

pub returns : goal.returns
returns g c =
    let h = c.args.shared.now in
    let s = c.args.session in
    let after = c.call_body-session.result.0 in
    record {
      left = after;
      did = c.call_body-session.ensures.does;
      seat = c.end-2.ensures.seat;
      lane = λ k rings joined.
          lane_kept h k rings s after c.end-2.result (c.end-2.ensures.ended h k rings (c.joined_law.ensures.call h k rings s after joined c.call_body-session.ensures.of c.call_body-session.ensures.from)) c.end-2.ensures.seat
          c.call_body-session.ensures.from;
      ended = λ k rings joined. c.end-2.ensures.ended h k rings (c.joined_law.ensures.call h k rings s after joined c.call_body-session.ensures.of c.call_body-session.ensures.from);
    }

pub returns-then-not-await_start : goal.returns-then-not-await_start
returns-then-not-await_start g c =
    let h = c.args.shared.now in
    let s = c.args.session in
    record {
      left = s;
      did = tt;
      seat = c.end.ensures.seat;
      lane = λ k rings joined. lane_there h k rings s c.end.result (c.end.ensures.ended h k rings joined) c.end.ensures.seat;
      ended = λ k rings joined. c.end.ensures.ended h k rings joined;
    }
