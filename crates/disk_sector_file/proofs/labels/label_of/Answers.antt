use Rattle.disk_sector_file.proofs.LabelLemmas.{told}
use Rattle.disk_sector_file.proofs.labels.label_of.Goals as goal

pub returns-clause-journal : goal.returns-clause-journal
returns-clause-journal g c =
    told (g.F.BackingFile.holds c.args.file.now) c.in_ok-len.len c.read_from.new.out c.whole_label.result c.in_ok-len.ensures.reads c.in_ok-read_from.ensures.ok c.whole_label.ensures
