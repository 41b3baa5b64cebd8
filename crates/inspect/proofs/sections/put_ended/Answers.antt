use Rattle.std.proofs.Common.{rules, ℕ, ◌≡◌, ◌+◌, ◌∙◌, true, false, List, [], ◌∷◌, sym, subst, OnOk, OnErr}
use Rattle.std.specs.Io.KnownBytes.{Appends}
use Rattle.std.proofs.KnownBytes.{Appends-nil}
use Rattle.recover_logs.specs.Lanes.{ends_at}
use Rattle.inspect.specs.declared.section.Section.{Section}
use Rattle.inspect.specs.declared.section.SectionId.{SectionId}
use Rattle.inspect.specs.Sections.{section_id}
use Rattle.inspect.specs.SectionText.{section_text}
use Rattle.inspect.specs.Written.{AppendsPart}
use Rattle.inspect.proofs.OneLemmas.{none_else, one_then}
use Rattle.inspect.proofs.sections.put_ended.Goals as goal

-- the section, by its number
abbrev section_of : (records : ℕ) → SectionId → Section
section_of records id = record { id = id; is_whole = true; records = records }

pub returns-then-not-ends : goal.returns-then-not-ends
returns-then-not-ends g c =
    let text = section_text c.args.form c.args.numbering in
    let old = g.W.Write.contents c.args.writer.now in
    let section : Section = section_of (c.args.gone.since + 1) (section_id c.args.numbering c.args.gone.ended) in
    let none : ends_at c.args.entry c.args.gone.held ≡ false = sym c.ends.ensures ∙ c.if-not-ends.true in
    record {
      ok = subst (Appends old old) (sym (none_else text (ends_at c.args.entry c.args.gone.held) (section ∷ []) none)) (Appends-nil old);
      part = search rules;
    }

pub returns : goal.returns
returns g c =
    let text = section_text c.args.form c.args.numbering in
    let old = g.W.Write.contents c.args.writer.now in
    let new = g.W.Write.contents c.put_section.new.writer in
    let section : Section = section_of (c.args.gone.since + 1) (section_id c.args.numbering c.args.gone.ended) in
    let some : ends_at c.args.entry c.args.gone.held ≡ true = sym c.ends.ensures ∙ c.if-not-ends.false in
    record {
      ok = subst (λ (t : List ℕ). OnOk c.put_section.result (Appends old new t)) (sym (one_then text (ends_at c.args.entry c.args.gone.held) section some))
          (subst (λ (id : SectionId). OnOk c.put_section.result (Appends old new (text (section_of (c.args.gone.since + 1) id)))) c.section.ensures c.put_section.ensures.ok);
      part = subst (λ (t : List ℕ). OnErr c.put_section.result (AppendsPart old new t)) (sym (one_then text (ends_at c.args.entry c.args.gone.held) section some))
          (subst (λ (id : SectionId). OnErr c.put_section.result (AppendsPart old new (text (section_of (c.args.gone.since + 1) id)))) c.section.ensures c.put_section.ensures.part);
    }
