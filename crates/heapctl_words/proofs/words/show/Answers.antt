use Rattle.std.proofs.Common.{rules, ◌≡◌, codes}
use Rattle.clap.specs.Simple.{app_of, new_app}
use Rattle.heapctl_words.proofs.words.show.Goals as goal

pub returns : goal.returns
returns c =
    let alone : app_of c.about-command.result ≡ new_app (codes "show") = search rules in
    let with_1 = c.with_option-command.ensures _ _ alone c.path.ensures.rule in
    let with_2 = c.with_option-command-2.ensures _ _ with_1 c.flag-dot.ensures.rule in
    let with_3 = c.with_option-command-3.ensures _ _ with_2 c.last.ensures.rule in
    c.with_option.ensures _ _ with_3 c.file-schema.ensures.rule
