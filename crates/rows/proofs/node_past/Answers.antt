use mathlib.Core.Path.{◌∙◌}
use Rattle.paper.specs.Rows.{node_at}
use Rattle.rows.proofs.node_past.Goals as goal

pub returns : goal.returns
unfolding node_at
returns c =
    λ i. record {
      kind = (c.word_from.ensures.0 ∙ c.base_of-base.ensures 0) i;
      left = (c.word_from-2.ensures.0 ∙ c.base_of-base.ensures 1) i;
      lmul = (c.word_from-3.ensures.0 ∙ c.base_of-base.ensures 2) i;
      right = (c.word_from-4.ensures.0 ∙ c.base_of-base.ensures 3) i;
      rmul = (c.word_from-5.ensures.0 ∙ c.base_of-base.ensures 4) i;
      first = (c.word_from-6.ensures.0 ∙ c.base_of-base.ensures 5) i;
      count = (c.word_from-7.ensures.0 ∙ c.base_of-base.ensures 6) i;
      depth = (c.word_from-8.ensures.0 ∙ c.base_of-base.ensures 7) i;
    }
