use Rattle.std.proofs.Common.{rules, ℕ, [], ◌∷◌, codes, subst}
use Rattle.std.specs.Io.KnownBytes.{Appends}
use Rattle.std.proofs.lemmas.Result.{on_ok_weaker, on_err_weaker}
use Rattle.inspect.specs.Written.{AppendsPart}
use Rattle.inspect.specs.Pieces.{line}
use Rattle.inspect.specs.StudyText.{lane_sections}
use Rattle.inspect.specs.GraphText.{node_text}
use Rattle.inspect.specs.WholeGraph.{column_head, column_edge, left_out_of}
use Rattle.inspect.proofs.PartLemmas.{always, all_later, all_last, part_here, part_later}
use Rattle.inspect.proofs.graph.put_column.Goals as goal

pub returns-in_err-put_column_head : goal.returns-in_err-put_column_head
returns-in_err-put_column_head g c =
    let s = c.args.study.now in
    let begin = column_head c.args.lane.0 (left_out_of c.args.picture.firsts.now s c.args.lane.0) in
    let sections = lane_sections (node_text c.args.picture.firsts.now c.args.picture.dropped.now) s c.args.lane.0 in
    let end = line (codes "}" ∷ []) in
    let edge = column_edge c.args.lane.0 in
    let old = g.W.Write.contents c.args.writer.now in
    let one = g.W.Write.contents c.put_column_head.new.writer in
    let head : AppendsPart old one begin = subst (λ (n : ℕ). AppendsPart old one (column_head c.args.lane.0 n)) c.left_out.ensures c.in_err-put_column_head.ensures.part in
    record {
      ok = search rules;
      part = always c.from_residual.result (part_here old one begin (sections ∷ end ∷ edge ∷ []) head);
    }

pub returns-in_err-put_lane_sections : goal.returns-in_err-put_lane_sections
returns-in_err-put_lane_sections g c =
    let s = c.args.study.now in
    let begin = column_head c.args.lane.0 (left_out_of c.args.picture.firsts.now s c.args.lane.0) in
    let sections = lane_sections (node_text c.args.picture.firsts.now c.args.picture.dropped.now) s c.args.lane.0 in
    let end = line (codes "}" ∷ []) in
    let edge = column_edge c.args.lane.0 in
    let old = g.W.Write.contents c.args.writer.now in
    let one = g.W.Write.contents c.put_column_head.new.writer in
    let head : Appends old one begin = subst (λ (n : ℕ). Appends old one (column_head c.args.lane.0 n)) c.left_out.ensures c.in_ok-put_column_head.ensures.ok in
    let two = g.W.Write.contents c.put_lane_sections.new.writer in
    record {
      ok = search rules;
      part = always c.from_residual-in_err-put_lane_sections.result (part_later old one two begin (sections ∷ end ∷ edge ∷ []) head (part_here one two sections (end ∷ edge ∷ []) c.in_err-put_lane_sections.ensures.part));
    }

pub returns-in_err-put_line : goal.returns-in_err-put_line
returns-in_err-put_line g c =
    let s = c.args.study.now in
    let begin = column_head c.args.lane.0 (left_out_of c.args.picture.firsts.now s c.args.lane.0) in
    let sections = lane_sections (node_text c.args.picture.firsts.now c.args.picture.dropped.now) s c.args.lane.0 in
    let end = line (codes "}" ∷ []) in
    let edge = column_edge c.args.lane.0 in
    let old = g.W.Write.contents c.args.writer.now in
    let one = g.W.Write.contents c.put_column_head.new.writer in
    let head : Appends old one begin = subst (λ (n : ℕ). Appends old one (column_head c.args.lane.0 n)) c.left_out.ensures c.in_ok-put_column_head.ensures.ok in
    let two = g.W.Write.contents c.put_lane_sections.new.writer in
    let three = g.W.Write.contents c.put_line.new.writer in
    record {
      ok = search rules;
      part = always c.from_residual-in_err-put_line.result (part_later old one three begin (sections ∷ end ∷ edge ∷ []) head (part_later one two three sections (end ∷ edge ∷ []) c.in_ok-put_lane_sections.ensures.ok (part_here two three end (edge ∷ []) c.in_err-put_line.ensures.part)));
    }

pub returns : goal.returns
returns g c =
    let s = c.args.study.now in
    let begin = column_head c.args.lane.0 (left_out_of c.args.picture.firsts.now s c.args.lane.0) in
    let sections = lane_sections (node_text c.args.picture.firsts.now c.args.picture.dropped.now) s c.args.lane.0 in
    let end = line (codes "}" ∷ []) in
    let edge = column_edge c.args.lane.0 in
    let old = g.W.Write.contents c.args.writer.now in
    let one = g.W.Write.contents c.put_column_head.new.writer in
    let head : Appends old one begin = subst (λ (n : ℕ). Appends old one (column_head c.args.lane.0 n)) c.left_out.ensures c.in_ok-put_column_head.ensures.ok in
    let two = g.W.Write.contents c.put_lane_sections.new.writer in
    let three = g.W.Write.contents c.put_line.new.writer in
    let four = g.W.Write.contents c.put_column_edge.new.writer in
    record {
      ok = on_ok_weaker c.put_column_edge.result (λ (last : Appends three four edge). all_later old one four begin (sections ∷ end ∷ edge ∷ []) head (all_later one two four sections (end ∷ edge ∷ []) c.in_ok-put_lane_sections.ensures.ok (all_later two three four end (edge ∷ []) c.in_ok-put_line.ensures.ok (all_last three four edge last)))) c.put_column_edge.ensures.ok;
      part = on_err_weaker c.put_column_edge.result (λ (last : AppendsPart three four edge). part_later old one four begin (sections ∷ end ∷ edge ∷ []) head (part_later one two four sections (end ∷ edge ∷ []) c.in_ok-put_lane_sections.ensures.ok (part_later two three four end (edge ∷ []) c.in_ok-put_line.ensures.ok (part_here three four edge [] last)))) c.put_column_edge.ensures.part;
    }
