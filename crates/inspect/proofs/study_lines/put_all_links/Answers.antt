use Rattle.std.proofs.Common.{rules, ℕ, ◌≡◌, reverse, ap, subst, ◌∙◌, List, Option}
use Rattle.std.specs.List.{flat_map}
use Rattle.std.specs.Io.KnownBytes.{Appends}
use Rattle.heap_model.specs.declared.record.UndoRecord.{UndoRecord}
use Rattle.recover_heap.specs.Logs.{records_of}
use Rattle.inspect.specs.declared.numbering.Numbering.{Numbering}
use Rattle.inspect.specs.declared.section.SectionId.{SectionId}
use Rattle.inspect.specs.Written.{AppendsPart}
use Rattle.inspect.specs.Sections.{numbering_of, told}
use Rattle.inspect.specs.Links.{links_in, linked_by, finds, releaser_in, releases_of}
use Rattle.inspect.specs.SectionText.{link_text}
use Rattle.std.proofs.KnownBytes.{Appends-nil}
use Rattle.inspect.proofs.PartLemmas.{always}
use Rattle.inspect.proofs.LaneLemmas.{next_lane, part_lane}
use Rattle.inspect.proofs.study_lines.put_all_links.Goals as goal

pub returns-in_err-put_links : goal.returns-in_err-put_links
returns-in_err-put_links g c =
    let s = c.args.study.now in
    let l = c.loop-lane.lane in
    let tell = λ (lane : ℕ). flat_map (link_text c.args.form) (links_in s lane) in
    let old = g.W.Write.contents c.args.writer.now in
    let mid = g.W.Write.contents c.loop-lane.writer in
    let new = g.W.Write.contents c.put_links.new.writer in
    let found : finds c.args.releases.now ≡ releaser_in (releases_of s) = λ i o n. c.requires.releases o n i in
    let records : c.records_in.result.now ≡ records_of s.records.items l = c.records_in.ensures ∙ ap (λ logs. records_of logs l) c.deref.ensures.value in
    let part : AppendsPart mid new (tell l) =
    subst (λ (xs : List UndoRecord). AppendsPart mid new (flat_map (link_text c.args.form) (told (linked_by (releaser_in (releases_of s)) (numbering_of s l)) (reverse xs)))) records
    (subst (λ (n : Numbering). AppendsPart mid new (flat_map (link_text c.args.form) (told (linked_by (releaser_in (releases_of s)) n) (reverse c.records_in.result.now)))) c.lane_numbering-numbering.ensures (subst (λ (find : ℕ → ℕ → Option SectionId). AppendsPart mid new (flat_map (link_text c.args.form) (told (linked_by find c.lane_numbering-numbering.result) (reverse c.records_in.result.now)))) found c.in_err-put_links.ensures.part)) in
    record {
      ok = search rules;
      part = always c.from_residual.result (part_lane tell l old mid new s.layout.lanes c.loop-lane-test.true c.loop-lane.invariant part);
    }

pub loop-lane-preserved : goal.loop-lane-preserved
loop-lane-preserved g c =
    let s = c.args.study.now in
    let l = c.loop-lane.lane in
    let tell = λ (lane : ℕ). flat_map (link_text c.args.form) (links_in s lane) in
    let old = g.W.Write.contents c.args.writer.now in
    let mid = g.W.Write.contents c.loop-lane.writer in
    let new = g.W.Write.contents c.put_links.new.writer in
    let found : finds c.args.releases.now ≡ releaser_in (releases_of s) = λ i o n. c.requires.releases o n i in
    let records : c.records_in.result.now ≡ records_of s.records.items l = c.records_in.ensures ∙ ap (λ logs. records_of logs l) c.deref.ensures.value in
    let next : Appends mid new (tell l) =
    subst (λ (xs : List UndoRecord). Appends mid new (flat_map (link_text c.args.form) (told (linked_by (releaser_in (releases_of s)) (numbering_of s l)) (reverse xs)))) records
    (subst (λ (n : Numbering). Appends mid new (flat_map (link_text c.args.form) (told (linked_by (releaser_in (releases_of s)) n) (reverse c.records_in.result.now)))) c.lane_numbering-numbering.ensures (subst (λ (find : ℕ → ℕ → Option SectionId). Appends mid new (flat_map (link_text c.args.form) (told (linked_by find c.lane_numbering-numbering.result) (reverse c.records_in.result.now)))) found c.in_ok-put_links.ensures.ok)) in
    next_lane tell l old mid new c.loop-lane.invariant next

pub loop-lane-init : goal.loop-lane-init
loop-lane-init g c = Appends-nil (g.W.Write.contents c.args.writer.now)
