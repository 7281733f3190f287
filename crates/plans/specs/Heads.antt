-- What an answer says, in document 01's numbers (`Said` of the crate paper), and the text that tells it.
use Rattle.std.specs.Prelude.{ℕ, ℤ, pos, List, ◌∷◌, ◌++◌, Bool, true, false, Result, Ok, Err, decimal}
use Rattle.std.specs.Fmt.{signed_decimal}
use Rattle.paper.specs.declared.Counters.{Counters}
use Rattle.paper.specs.declared.Refusal.{Refusal}
use Rattle.paper.specs.declared.Refusal.TheVariants.{TableFails}
use Rattle.paper.specs.Numbers.{Said, done, refused}
use Rattle.plans.specs.declared.answer.Given.{Given}
use Rattle.plans.specs.declared.answer.Given.TheVariants.{Number, Literal}

abbrev pub value_of : Given → ℤ
value_of (Number n) = pos n
value_of (Literal x) = x

abbrev pub told_of : Result Given Refusal → Counters → Said
told_of (Ok g) c = done (value_of g) c
told_of (Err why) c = refused why c

-- the table check gives nothing back
abbrev pub checked_said : Bool → Counters → Said
checked_said true c = done (pos 0) c
checked_said false c = refused TableFails c

-- the number, a space, what is given back
abbrev pub head_text : Said → List ℕ
head_text s = decimal s.number ++ 32 ∷ signed_decimal s.value
