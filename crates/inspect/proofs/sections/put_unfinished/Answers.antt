use Rattle.std.proofs.Common.{rules, ℕ, ◌≡◌, ◌==◌, true, false, List, [], ◌∷◌, sym, ap, subst, OnOk, OnErr}
use Rattle.std.specs.Io.KnownBytes.{Appends}
use Rattle.std.proofs.KnownBytes.{Appends-nil}
use Rattle.inspect.specs.declared.section.Section.{Section}
use Rattle.inspect.specs.declared.section.SectionId.{SectionId}
use Rattle.inspect.specs.Sections.{section_id}
use Rattle.inspect.specs.SectionText.{section_text}
use Rattle.inspect.specs.Written.{AppendsPart}
use Rattle.inspect.proofs.OneLemmas.{none_then, one_else}
use Rattle.inspect.proofs.sections.put_unfinished.Goals as goal

-- the section, by its number
abbrev section_of : (records : ℕ) → SectionId → Section
section_of records id = record { id = id; is_whole = false; records = records }

pub returns-then-gone-eq0 : goal.returns-then-gone-eq0
returns-then-gone-eq0 g c =
    let text = section_text c.args.form c.args.numbering in
    let old = g.W.Write.contents c.args.writer.now in
    let section : Section = section_of c.args.gone.since (section_id c.args.numbering c.args.gone.ended) in
    let none : (c.args.gone.since == 0) ≡ true = ap (λ (n : ℕ). n == 0) c.if-gone-eq0.true in
    record {
      ok = subst (Appends old old) (sym (none_then text (c.args.gone.since == 0) (section ∷ []) none)) (Appends-nil old);
      part = search rules;
    }

pub returns : goal.returns
returns g c =
    let text = section_text c.args.form c.args.numbering in
    let old = g.W.Write.contents c.args.writer.now in
    let new = g.W.Write.contents c.put_section.new.writer in
    let section : Section = section_of c.args.gone.since (section_id c.args.numbering c.args.gone.ended) in
    let some : (c.args.gone.since == 0) ≡ false = search rules in
    record {
      ok = subst (λ (t : List ℕ). OnOk c.put_section.result (Appends old new t)) (sym (one_else text (c.args.gone.since == 0) section some))
          (subst (λ (id : SectionId). OnOk c.put_section.result (Appends old new (text (section_of c.args.gone.since id)))) c.section.ensures c.put_section.ensures.ok);
      part = subst (λ (t : List ℕ). OnErr c.put_section.result (AppendsPart old new t)) (sym (one_else text (c.args.gone.since == 0) section some))
          (subst (λ (id : SectionId). OnErr c.put_section.result (AppendsPart old new (text (section_of c.args.gone.since id)))) c.section.ensures c.put_section.ensures.part);
    }
