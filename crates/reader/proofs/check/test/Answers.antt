-- `reader::check::test` meets its contract: each pass is one of the definition's tests, in their order.
use mathlib.Core.Path.{sym, ◌∙◌}
use Rattle.reader.proofs.Passes.{settled_in, sound_of, counted_in}
use Rattle.reader.proofs.check.test.Goals as goal

pub is_exact-requires : goal.is_exact-requires
is_exact-requires c = (sound_of (settled_in c.args.st c.args.c c.requires.st_value)).frames-most

pub all_in_range-requires : goal.all_in_range-requires
all_in_range-requires c =
    let sound = sound_of (settled_in c.args.st c.args.c c.requires.st_value) in
    record {
      rings = sound.rings.most;
      uncoded = sound.uncoded-most;
      count = counted_in c.args.c _ _ (sym c.is_exact.ensures ∙ c.if-not-is_exact.false);
    }
