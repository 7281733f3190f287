-- 01, "Numbers given back": the number of each refusal; of each answer its number, and the id, literal or value given back, which is 0 where it is refused.
use Rattle.std.specs.Prelude.{ℕ, ℤ, pos, List, [], ◌∷◌, cond, eqb, get_or, Err, Ok, Result}
use Rattle.paper.specs.declared.Counters.{Counters}
use Rattle.paper.specs.declared.Refusal.{Refusal}
use Rattle.paper.specs.declared.Semantics.{Semantics}
use Rattle.paper.specs.declared.Semantics.TheVariants.{If, OnlyIf, IfAndOnlyIf}
use Rattle.paper.specs.declared.Refusal.TheVariants.{
  NoSuchOutput,
  TableFails,
  WorkShort,
  NoSuchNode,
  GeneralNode,
  BadLiteral,
  BadMultiplier,
  NoValue,
  KeyTooLarge,
  TooDeep,
  NoRoom,
  VariablesOut,
  ClausesShort,
  BadAssignment,
  BadVariables,
}
use Rattle.paper.specs.declared.Added.{Added}
use Rattle.paper.specs.declared.Demanded.{Demanded}

-- ---- the counters as seven numbers: first, next, last, nodes, inputs, cells, words

abbrev pub counters_of : List ℕ → Counters
counters_of l = record { first = get_or l 0 0; next = get_or l 1 0; last = get_or l 2 0; nodes = get_or l 3 0; inputs = get_or l 4 0; cells = get_or l 5 0; words = get_or l 6 0 }

abbrev pub numbers_of : Counters → List ℕ
numbers_of c = c.first ∷ c.next ∷ c.last ∷ c.nodes ∷ c.inputs ∷ c.cells ∷ c.words ∷ []

-- what an unweighted demand asks for, as a number: 1 If, 2 OnlyIf, any other both
unfoldable pub semantics_of : ℕ → Semantics
semantics_of n = cond (eqb n 1) If (cond (eqb n 2) OnlyIf IfAndOnlyIf)

-- ---- the answers

abbrev pub number_of : Refusal → ℕ
number_of NoSuchOutput = 1
number_of TableFails = 2
number_of WorkShort = 3
number_of NoSuchNode = 4
number_of GeneralNode = 5
number_of BadLiteral = 6
number_of BadMultiplier = 7
number_of NoValue = 8
number_of KeyTooLarge = 9
number_of TooDeep = 10
number_of NoRoom = 11
number_of VariablesOut = 12
number_of ClausesShort = 13
number_of BadAssignment = 14
number_of BadVariables = 15

-- what a call says: the number, what it gives back, and the counters after it, those before where it is refused
pub record Said : Type 0 where
  pub number : ℕ
  pub value : ℤ
  pub counters : Counters

abbrev pub refused : Refusal → Counters → Said
refused why c = record { number = number_of why; value = pos 0; counters = c }

abbrev pub done : ℤ → Counters → Said
done z c = record { number = 0; value = z; counters = c }

abbrev pub added_said : Result Added Refusal → Counters → Said
added_said (Ok a) c = done (pos a.id) a.counters
added_said (Err why) c = refused why c

abbrev pub demanded_said : Result Demanded Refusal → Counters → Said
demanded_said (Ok a) c = done a.lit a.counters
demanded_said (Err why) c = refused why c

-- of the calls that give back nothing but the counters
abbrev pub kept_said : Result Counters Refusal → Counters → Said
kept_said (Ok c') c = done (pos 0) c'
kept_said (Err why) c = refused why c

abbrev pub begun_said : Result Counters Refusal → Counters → Said
begun_said = kept_said

abbrev pub valued_said : Result ℕ Refusal → Counters → Said
valued_said (Ok v) c = done (pos v) c
valued_said (Err why) c = refused why c
