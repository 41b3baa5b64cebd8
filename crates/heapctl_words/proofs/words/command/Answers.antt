use Rattle.std.proofs.Common.{refl}
use Rattle.heapctl_words.proofs.words.command.Goals as goal

pub returns : goal.returns
returns c =
    let with_run = c.with_word-command.ensures _ _ c.top.ensures c.run.ensures refl in
    let with_format = c.with_word-command-2.ensures _ _ with_run c.format.ensures refl in
    let with_show = c.with_word-command-3.ensures _ _ with_format c.show.ensures refl in
    let with_recover = c.with_word-command-4.ensures _ _ with_show c.recover.ensures refl in
    let with_upgrade = c.with_word-command-5.ensures _ _ with_recover c.upgrade.ensures refl in
    let with_drive = c.with_word-command-6.ensures _ _ with_upgrade c.drive.ensures refl in
    let with_dump = c.with_word-command-7.ensures _ _ with_drive c.dump.ensures refl in
    let with_get = c.with_word-command-8.ensures _ _ with_dump c.get.ensures refl in
    c.with_word.ensures _ _ with_get c.set.ensures refl
