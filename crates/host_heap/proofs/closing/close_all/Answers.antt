use Rattle.std.proofs.Common.{refl, ◌∙◌}
use Rattle.host_heap.proofs.Closings.{stops_for}
use Rattle.trim_helper.proofs.Completing.{complete_of}
use Rattle.host_heap.proofs.closing.close_all.Goals as goal

pub close-requires-clause-ended : goal.close-requires-clause-ended
close-requires-clause-ended c = (c.in-Ok.ensures.ended c.args.shared c.args.helper.store.known.layout.capacity c.args.helper.rings c.requires.lanes).0

pub returns-in-Err-clause-refused : goal.returns-in-Err-clause-refused
returns-in-Err-clause-refused c =
    let x = c.args.helper in
    let told = c.in-Ok.ensures.ended c.args.shared x.store.known.layout.capacity x.rings c.requires.lanes in
    let closes = c.in-Err.ensures.closes c.requires.helping.past c.requires.helping.serving in (
      refl,
      stops_for c.args.shared x c.in-Err.disk c.in-Err.refusal (record {
        ended = c.in-Ok.ended.items;
        are = told.0;
        complete = complete_of x.store.known.threads c.in-Ok.ended.items (told.1 ∙ c.requires.order);
        refuses = closes.refused;
        untouched = closes.untouched;
        why = closes.why;
        closes = c.in-Err.ensures.closes;
      }),
    )

pub returns-in-Ok-close-clause-ok : goal.returns-in-Ok-close-clause-ok
returns-in-Ok-close-clause-ok c =
    let x = c.args.helper in
    let closes = c.in-Ok-close.ensures.closes c.requires.helping.past c.requires.helping.serving in
    record {
      ended = c.in-Ok.ended.items;
      are = (c.in-Ok.ensures.ended c.args.shared x.store.known.layout.capacity x.rings c.requires.lanes).0;
      none = closes.refused.0;
      complete = closes.refused.1;
      closed = c.in-Ok-close.ensures.ok;
      from = c.in-Ok-close.ensures.from;
      closes = c.in-Ok-close.ensures.closes;
    }
