-- What a run asks of the rows, where its words begin at another place and where marks have changed.
use mathlib.Core.Path.{◌≡◌, ◌∙◌}
use mathlib.Core.List.{List}
use Prim.Native.Nat.{ℕ, ◌≤◌, ◌^◌}
use lib.IntN.{ℤ}
use lib.ListN.{length}
use Rattle.paper.specs.declared.Run.{Run}
use Rattle.count.specs.Run.{Fit}

pub moved : (ns : List ℕ) (ins lits : List ℤ) (marks : List ℕ) (u : Run) (w : ℕ) → w ≤ 2 ^ 62 → Fit ns ins lits marks u → Fit ns ins lits marks (record { next = u.next; words = w })
moved ns ins lits marks u w h f = record { ok = f.ok; same = f.same; neg_ins = f.neg_ins; neg_lits = f.neg_lits; some = f.some; counted = h }

pub remarked : (ns : List ℕ) (ins lits : List ℤ) (marks marks' : List ℕ) (u : Run) → length marks' ≡ length marks → Fit ns ins lits marks u → Fit ns ins lits marks' u
remarked ns ins lits marks marks' u e f = record { ok = f.ok; same = e ∙ f.same; neg_ins = f.neg_ins; neg_lits = f.neg_lits; some = f.some; counted = f.counted }
