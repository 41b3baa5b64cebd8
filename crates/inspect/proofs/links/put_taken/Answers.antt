use Rattle.std.proofs.Common.{rules, ℕ, ◌≡◌, ◌∙◌, List, [], ◌∷◌, sym, ap, subst, append-nil, OnOk, OnErr}
use Rattle.std.specs.Io.KnownBytes.{Appends}
use Rattle.std.specs.List.{flat_map}
use Rattle.std.proofs.KnownBytes.{Appends-nil}
use Rattle.inspect.specs.declared.section.Link.{Link}
use Rattle.inspect.specs.Links.{finds, link_from, one_or_none}
use Rattle.inspect.specs.SectionText.{link_text}
use Rattle.inspect.specs.Written.{AppendsPart}
use Rattle.inspect.proofs.links.put_taken.Goals as goal

pub returns-in-Some : goal.returns-in-Some
returns-in-Some g c =
    let text = link_text c.args.form in
    let old = g.W.Write.contents c.args.writer.now in
    let new = g.W.Write.contents c.put_link.new.writer in
    let is : link_from (finds c.args.releases.now) c.args.taker c.args.entry ≡ c.in-Some.link ∷ [] = sym c.link_by.ensures ∙ ap one_or_none c.in-Some.is in
    record {
      ok = subst (λ (links : List Link). OnOk c.put_link.result (Appends old new (flat_map text links))) (sym is)
          (subst (λ (t : List ℕ). OnOk c.put_link.result (Appends old new t)) (sym (append-nil (text c.in-Some.link))) c.put_link.ensures.ok);
      part = subst (λ (links : List Link). OnErr c.put_link.result (AppendsPart old new (flat_map text links))) (sym is)
          (subst (λ (t : List ℕ). OnErr c.put_link.result (AppendsPart old new t)) (sym (append-nil (text c.in-Some.link))) c.put_link.ensures.part);
    }

pub returns-in-None : goal.returns-in-None
returns-in-None g c =
    let text = link_text c.args.form in
    let old = g.W.Write.contents c.args.writer.now in
    let is : link_from (finds c.args.releases.now) c.args.taker c.args.entry ≡ [] = sym c.link_by.ensures ∙ ap one_or_none c.in-None.is in
    record {
      ok = subst (λ (links : List Link). Appends old old (flat_map text links)) (sym is) (Appends-nil old);
      part = search rules;
    }
