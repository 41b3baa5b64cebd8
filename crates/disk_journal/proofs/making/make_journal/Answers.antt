use Rattle.std.proofs.Common.{◌∙◌, ap, replicate, arith}
use Rattle.std.proofs.lemmas.Result.{on_ok_weaker}
use Rattle.atomic_sectors.proofs.Calculus.{leaves_then, syncs_then}
use Rattle.journal_batches.specs.Areas.{room_of}
use Rattle.journal_batches.specs.Shown.{shown}
use Rattle.disk_journal.proofs.MakingLemmas.{area_beyond, begin_leaves, begin_size, head_beyond, lay_leaves, made_home, made_leaves, made_shown, on_ok_two, sector_long}
use Rattle.disk_journal.proofs.making.make_journal.Goals as goal

pub returns-in_err-write_head-clause-left : goal.returns-in_err-write_head-clause-left
returns-in_err-write_head-clause-left g c = λ none. begin_leaves c.args.areas c.requires.room none c.write_head.ensures.head

pub returns-in_err-write_head-clause-beyond : goal.returns-in_err-write_head-clause-beyond
returns-in_err-write_head-clause-beyond g c = head_beyond (replicate 512 0) (room_of c.args.areas) (omega arith) c.write_head.ensures.head

pub lay-requires-clause-room : goal.lay-requires-clause-room
lay-requires-clause-room g c = omega (arith, c.requires.room, begin_size c.args.areas c.requires.room c.write_head.ensures.head)

pub returns-in_err-lay-clause-left : goal.returns-in_err-lay-clause-left
returns-in_err-lay-clause-left g c = λ none.
    lay_leaves c.args.areas c.requires.room none c.write_head.ensures.head c.in_ok-write_head.ensures.durable c.in_ok-write_head.ensures.ok c.lay.ensures.area

pub returns-in_err-lay-clause-beyond : goal.returns-in_err-lay-clause-beyond
returns-in_err-lay-clause-beyond g c =
    area_beyond c.args.areas c.lay.ensures.area ∙ head_beyond (replicate 512 0) (room_of c.args.areas) (omega arith) c.write_head.ensures.head

pub returns-clause-image : goal.returns-clause-image
returns-clause-image g c =
    on_ok_weaker c.write_head-2.result
    (λ ok. ap (shown c.args.areas) ok
    ∙ made_shown c.args.areas c.requires.half (g.D.Disk.device c.lay.new.disk).now.bytes c.sector_of.result c.sector_of.ensures c.in_ok-lay.ensures.ok)
    c.write_head-2.ensures.ok

pub returns-clause-home : goal.returns-clause-home
returns-clause-home g c =
    on_ok_two c.write_head-2.result
    (λ ok durable. made_home c.args.areas c.requires.half (g.D.Disk.device c.lay.new.disk).now.bytes c.sector_of.result c.sector_of.ensures c.in_ok-lay.ensures.ok
    (g.D.Disk.device c.write_head-2.new.disk) durable ok)
    c.write_head-2.ensures.ok c.write_head-2.ensures.durable

pub returns-clause-left : goal.returns-clause-left
returns-clause-left g c = λ none.
    leaves_then
    (lay_leaves c.args.areas c.requires.room none c.write_head.ensures.head c.in_ok-write_head.ensures.durable c.in_ok-write_head.ensures.ok c.lay.ensures.area)
    (made_leaves c.args.areas c.requires.half (g.D.Disk.device c.args.disk.now).now.bytes c.sector_of.result c.sector_of.ensures c.in_ok-lay.ensures.ok
    c.in_ok-lay.ensures.durable
    (area_beyond c.args.areas c.lay.ensures.area ∙ head_beyond (replicate 512 0) (room_of c.args.areas) (omega arith) c.write_head.ensures.head)
    c.write_head-2.ensures.head)

pub returns-clause-beyond : goal.returns-clause-beyond
returns-clause-beyond g c =
    head_beyond c.sector_of.result (room_of c.args.areas) (omega (arith, sector_long c.args.areas c.sector_of.result c.sector_of.ensures))
    c.write_head-2.ensures.head
    ∙ area_beyond c.args.areas c.lay.ensures.area ∙ head_beyond (replicate 512 0) (room_of c.args.areas) (omega arith) c.write_head.ensures.head

pub returns-clause-syncs : goal.returns-clause-syncs
returns-clause-syncs g c =
    on_ok_weaker c.write_head-2.result (λ one. syncs_then (syncs_then c.in_ok-write_head.ensures.syncs c.in_ok-lay.ensures.syncs) one)
    c.write_head-2.ensures.syncs

pub returns-clause-steady : goal.returns-clause-steady
returns-clause-steady g c =
    on_ok_weaker c.write_head-2.result (λ is. is ∙ c.in_ok-lay.ensures.steady ∙ c.in_ok-write_head.ensures.steady) c.write_head-2.ensures.steady
