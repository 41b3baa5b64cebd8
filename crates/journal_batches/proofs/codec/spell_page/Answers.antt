use Rattle.std.proofs.Common.{◌≡◌, ◌*◌, ◌/◌, ◌∙◌, ℕ, List, length, ap, sym}
use Rattle.std.proofs.lemmas.List.{take_rest}
use Rattle.journal_batches.specs.declared.entry.Entry.{Entry}
use Rattle.journal_batches.specs.Spelled.{pages_for, sectors_bytes}
use Rattle.journal_batches.proofs.CodecLemmas.{page_is}
use Rattle.journal_batches.proofs.codec.spell_page.Goals as goal

pub returns : goal.returns
returns c =
    let entries = c.args.entries.now in
    let n : ℕ = length c.args.out.now / 512 in
    let eight : n ≡ 8 = ap (λ (k : ℕ). k / 512) c.requires.whole in
    c.spell_sectors.ensures ∙ ap (λ (es : List Entry). sectors_bytes n c.args.stamp (length entries) es) (take_rest entries (c.args.page * 248))
    ∙ sym (page_is (pages_for (length entries)) c.args.page n 4096 c.args.stamp (length entries) entries c.requires.within eight (ap (λ (k : ℕ). k * 512) eight))
