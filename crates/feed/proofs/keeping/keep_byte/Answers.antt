-- `keeping::keep_byte` meets its contract: the line begun is kept after the text.
use native.Mathlib.Omega.{arith}
use mathlib.Core.Path.{refl}
use Rattle.feed.proofs.Buffers.{byte-kept}
use Rattle.feed.proofs.keeping.keep_byte.Goals as goal

pub returns : goal.returns
returns c =
    let kept = c.keep_byte-line in
    byte-kept c.args.b c.args.k c.args.kept.now _ _ kept.result c.requires refl (omega arith) kept.ensures.within kept.ensures.kept
