use Rattle.std.proofs.Common.{◌≡◌, ◌∙◌, sym, ap, subst}
use Rattle.std.specs.Cmp.Lexicographic.{bytes_decides}
use Rattle.image_parts.specs.Layout.{IsLayout}
use Rattle.image_parts.specs.Header.{header_bytes}
use Rattle.image_parts.proofs.header.decode_header.Goals as goal

pub returns-then-not-is_within_limits-clause-none : goal.returns-then-not-is_within_limits-clause-none
returns-then-not-is_within_limits-clause-none c = λ l is spelled.
    let same = c.candidate-layout.ensures l is spelled in
    let within : IsLayout c.candidate-layout.result = subst IsLayout (sym same) is in
    let yes = c.is_within_limits.ensures.1 within in
    let no = c.if-not-is_within_limits.true in cc

pub returns-then-ne-clause-none : goal.returns-then-ne-clause-none
returns-then-ne-clause-none c = λ l is spelled.
    let same = c.candidate-layout.ensures l is spelled in
    let equal : c.encode_header.result ≡ c.args.bytes.now = c.encode_header.ensures ∙ ap header_bytes same ∙ sym spelled in
    let p = (bytes_decides c.encode_header.result c.args.bytes.now).1 equal in cc
