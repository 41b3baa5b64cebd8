use Rattle.std.proofs.Common.{◌≡◌, ◌++◌, take, rules, subst}
use Rattle.std.specs.Io.KnownBytes.{Consumes}
use Rattle.std.proofs.KnownBytes.{Consumes-trans}
use Rattle.script_lines.proofs.reader.take_text.Goals as goal

pub returns-then-is_err : goal.returns-then-is_err
returns-then-is_err g c =
    let kept : c.loop-block.text.items ≡ c.extend_from_slice.new.self.items = search rules in (
      take c.in-Ok.count c.read.new.buf,
      subst (λ l. Consumes (g.R.Read.remaining c.args.reader.now) (g.R.Read.remaining c.read.new.self) (l ++ take c.in-Ok.count c.read.new.buf)) kept
          (Consumes-trans _ _ _ _ _ c.loop-block.invariant c.in-Ok.ensures.bytes.0),
      search rules,
    )
