use Rattle.std.proofs.Common.{◌∙◌, ap, refl}
use Rattle.block_disk.specs.Device.{Device}
use Rattle.disk_journal.proofs.OpeningLemmas.{read_as}
use Rattle.disk_journal.proofs.opening.read_parts.Goals as goal

pub returns-clause-ok : goal.returns-clause-ok
returns-clause-ok g c =
    let one = c.in_ok-read_into.ensures.untouched in
    let two = c.in_ok-read_into-2.ensures.untouched ∙ one in record {
      first = read_as c.in_ok-read_into.ensures.ok c.half_place.ensures c.requires.first refl;
      second = read_as c.in_ok-read_into-2.ensures.ok c.half_place-2.ensures c.requires.second (ap (λ (d : Device). d.now.bytes) one);
      home = read_as c.in_ok-read_into-3.ensures.ok c.image_place.ensures c.requires.image (ap (λ (d : Device). d.now.bytes) two);
    }
