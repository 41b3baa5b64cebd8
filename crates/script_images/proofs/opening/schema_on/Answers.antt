use Rattle.block_disk.specs.Memory.{device_of}
use Rattle.script_images.proofs.OpeningLemmas.{all_named, all_named_refused}
use Rattle.script_images.proofs.opening.schema_on.Goals as goal

pub returns-in-Ok-clause-ok : goal.returns-in-Ok-clause-ok
returns-in-Ok-clause-ok c =
    all_named c.args.given (device_of c.args.disk.now).now.bytes c.in-Ok.study c.in-Ok.ensures.exact c.schema_for-schema.result c.schema_for-schema.ensures.is c.schema_for-schema.ensures.fits

pub returns-in-Ok-clause-refused : goal.returns-in-Ok-clause-refused
returns-in-Ok-clause-refused c =
    all_named_refused c.args.given (device_of c.args.disk.now).now.bytes c.in-Ok.study c.in-Ok.ensures.exact c.schema_for-schema.result c.schema_for-schema.ensures.refused
