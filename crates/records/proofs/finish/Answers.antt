use mathlib.Core.Path.{refl}
use Rattle.records.specs.Table.{finish_of}
use Rattle.records.proofs.finish.Goals as goal

pub returns : goal.returns
unfolding finish_of
returns c = refl
