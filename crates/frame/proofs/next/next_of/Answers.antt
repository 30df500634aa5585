-- `next::next_of` meets its contract: the numbers of the shape add up to the frame's bits.
use mathlib.Core.Path.{ap, ◌∙◌}
use Rattle.frame.specs.Shape.{shape_of, frame_length}
use Rattle.frame.proofs.next.next_of.Goals as goal

pub returns : goal.returns
unfolding frame_length
returns c =
    let shape = c.shape_of-shape.ensures ∙ ap (shape_of c.args.c) c.next_frame-turn.ensures.0 in
    record {
      shape = shape;
      size = ap frame_length shape ∙ c.requires.size;
      counted = c.next_frame-turn.ensures.1;
    }
