-- Clauses as words: literals then 0. Reading the words back gives the clauses.
use Rattle.std.specs.Prelude.{zero, suc, ℤ, pos, negsuc}
use mathlib.Core.List.{List, [], ◌∷◌, ◌++◌, Memᴰ}
use Rattle.meaning.specs.Base.{Nz}
use Rattle.meaning.specs.Table.{History}

abbrev pub flat : History → List ℤ
flat [] = []
flat (c ∷ h) = c ++ (pos 0 ∷ flat h)

abbrev pub clauses_from : List ℤ → List ℤ → History
clauses_from acc [] = []
clauses_from acc (pos zero ∷ w) = acc ∷ clauses_from [] w
clauses_from acc (pos (suc v) ∷ w) = clauses_from (acc ++ (pos (suc v) ∷ [])) w
clauses_from acc (negsuc v ∷ w) = clauses_from (acc ++ (negsuc v ∷ [])) w

abbrev pub AllNz : List ℤ → Type 0
AllNz c = (z : ℤ) → Memᴰ z c → Nz z
