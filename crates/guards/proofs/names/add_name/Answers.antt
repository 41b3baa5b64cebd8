use Rattle.std.proofs.Common.{rules, ◌≡◌, ◌++◌, ◌∷◌, [], None, ◌∙◌, ap, string_bytes}
use Rattle.std.specs.String.{string_eq}
use Rattle.std.specs.HashMap.{get_by_text}
use Rattle.indexmap.specs.IndexMap.{get}
use Rattle.indexmap.proofs.CallerLemmas.{insert_entry-new}
use Rattle.guards.proofs.NameLemmas.{none-from_absent}
use Rattle.guards.proofs.names.add_name.Goals as goal

pub returns-clause-ok : goal.returns-clause-ok
returns-clause-ok g c =
    let m = c.args.names.now in
    let key = c.in_ok-key.key in
    let same : string_bytes key ≡ c.args.name.now = search rules in
    let absent : get string_eq m key ≡ None = ap (get_by_text m) same ∙ none-from_absent m c.args.name.now c.requires in
    let entries : c.insert.new.self.entries ≡ m.entries ++ (key, c.args.value) ∷ [] = (search rules) ∙ insert_entry-new string_eq m key c.args.value absent in
    record { key = key; spelled = same; entries = entries }
