use Rattle.heapctl_words.proofs.words.format.Goals as goal

pub returns : goal.returns
returns c =
    let with_sectors = c.with_option-command.ensures _ _ c.plain_format.ensures c.sectors.ensures.rule in
    let with_atomic = c.with_option.ensures _ _ with_sectors c.atomic_sectors.ensures.rule in
    c.with_option-2.ensures _ _ with_atomic c.flag-force.ensures.rule
