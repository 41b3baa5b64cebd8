use Rattle.std.proofs.Common.{ℕ, ◌≡◌, ◌+◌, ◌-◌, ◌≤◌, true, false, List, refl, sym, ap, subst, arith}
use Rattle.heap_model.specs.Log.{lane}
use Rattle.heap_model.specs.Sections.{Section, ended}
use Rattle.law_cuts.proofs.Existence.{stable_exists}
use Rattle.dependence.specs.Trace.{Trace, section_since, base_of}
use Rattle.dependence.specs.Reason.{IsLeftOut, IsReason}
use Rattle.recover.specs.declared.live_sections.LiveSections.{LiveSections}
use Rattle.recover.specs.Live.{IsReady, live_at, trimmed_at}
use Rattle.recover.proofs.DroppingLemmas.{reason_lane, reason_low, counted}
use Rattle.recover.proofs.dropping.why_dropped.Goals as goal

-- the lane's section of this number
abbrev section_of : (l k : ℕ) → Section
section_of l k = record { lane = l; number = k }

-- nothing was forgotten
since_first : (counts : List LiveSections) (g : Trace) (l k : ℕ) → IsReady counts g → section_since g l k ≡ section_of l k
since_first counts g l k ready = let it : k - base_of g l ≡ k = omega (arith, ready.base l) in ap (section_of l) it

-- the graph's reason, by the sections of its records
reason_first : (counts : List LiveSections) (g : Trace) (cut : ℕ → ℕ) (l k m j : ℕ) → IsReady counts g → IsReason g.log cut (section_since g l k) (section_since g m j) → IsReason g.log cut (section_of l k) (section_of m j)
reason_first counts g cut l k m j ready h =
    subst (λ (a : Section). IsReason g.log cut a (section_of m j)) (since_first counts g l k ready) (subst (IsReason g.log cut (section_since g l k)) (since_first counts g m j ready) h)

-- the section is whole by the graph too
whole_is : (counts : List LiveSections) (g : Trace) (l k at : ℕ) → IsReady counts g → at ≡ l → k ≤ (live_at counts at).whole → k ≤ ended (lane l g.log)
whole_is counts g l k at ready same le = omega (arith, le, ap (λ (i : ℕ). (live_at counts i).whole) same, ready.whole l)

pub bounds-counts-from-in-Some : goal.bounds-counts-from-in-Some
bounds-counts-from-in-Some c =
    let g : Trace = c.args.graph.now in
    let d = c.in-Some.first in
    let cut = stable_exists g.log in
    let reason : IsReason g.log cut.0 (section_of c.args.lane.0 c.args.section) (section_of d.lane.0 d.section) =
    reason_first c.args.counts.now g cut.0 c.args.lane.0 c.args.section d.lane.0 d.section c.requires.ready (c.in-Some.ensures.first cut.0 cut.1) in
    omega (arith, reason_lane g.log cut.0 (section_of c.args.lane.0 c.args.section) (section_of d.lane.0 d.section) reason c.requires.lane c.requires.ready.lanes, c.from-in-Some.ensures)

pub overflow_add-result : goal.overflow_add-result
overflow_add-result c =
    let g : Trace = c.args.graph.now in
    let counts : List LiveSections = c.args.counts.now in
    let d = c.in-Some.first in
    let cut = stable_exists g.log in
    let reason : IsReason g.log cut.0 (section_of c.args.lane.0 c.args.section) (section_of d.lane.0 d.section) =
    reason_first counts g cut.0 c.args.lane.0 c.args.section d.lane.0 d.section c.requires.ready (c.in-Some.ensures.first cut.0 cut.1) in
    let whole : c.args.section ≤ ended (lane c.args.lane.0 g.log) = whole_is counts g c.args.lane.0 c.args.section c.from.result c.requires.ready c.from.ensures c.if-section-counts.false in
    let low : d.section ≤ ended (lane d.lane.0 g.log) + 1 = reason_low g.log cut.0 (section_of c.args.lane.0 c.args.section) (section_of d.lane.0 d.section) reason whole in
    let at : trimmed_at counts c.from-in-Some.result ≡ trimmed_at counts d.lane.0 = ap (trimmed_at counts) c.from-in-Some.ensures in
    omega (arith, at, low, c.requires.ready.fits d.lane.0, c.requires.ready.whole d.lane.0)

pub returns-in-Some-clause-why : goal.returns-in-Some-clause-why
returns-in-Some-clause-why c = λ cut stable.
    let g : Trace = c.args.graph.now in
    let counts : List LiveSections = c.args.counts.now in
    let d = c.in-Some.first in
    record {
      left_out = subst (IsLeftOut g.log cut) (since_first counts g c.args.lane.0 c.args.section c.requires.ready) ((c.in-Some.ensures.some cut stable).0 refl);
      first = section_of d.lane.0 d.section;
      reason = reason_first counts g cut c.args.lane.0 c.args.section d.lane.0 d.section c.requires.ready (c.in-Some.ensures.first cut stable);
      called = record { lane_is = refl; number_is = ap (λ (i : ℕ). trimmed_at counts i + d.section) c.from-in-Some.ensures };
    }

pub returns-in-None-clause-why : goal.returns-in-None-clause-why
returns-in-None-clause-why c = λ cut stable.
    let g : Trace = c.args.graph.now in
    let counts : List LiveSections = c.args.counts.now in
    let a : Section = section_of c.args.lane.0 c.args.section in
    let whole : c.args.section ≤ ended (lane c.args.lane.0 g.log) = whole_is counts g c.args.lane.0 c.args.section c.from.result c.requires.ready c.from.ensures c.if-section-counts.false in
    counted g.log cut a whole (λ out. (let no : false ≡ true = (c.in-None.ensures.some cut stable).1 (subst (IsLeftOut g.log cut) (sym (since_first counts g c.args.lane.0 c.args.section c.requires.ready)) out) in absurd cc))
