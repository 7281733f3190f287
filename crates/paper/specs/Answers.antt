-- What a done call answers that gives something back.
use Rattle.std.specs.Prelude.{ℕ, ℤ, Result, Ok}
use Rattle.paper.specs.declared.Counters.{Counters}
use Rattle.paper.specs.declared.Refusal.{Refusal}
use Rattle.paper.specs.declared.Added.{Added}
use Rattle.paper.specs.declared.Demanded.{Demanded}

-- a node's id, and the counters after the call
abbrev pub adds : ℕ → Counters → Result Added Refusal
adds id c = Ok (record { id = id; counters = c })

-- an output's literal, and the counters after the call
abbrev pub gives : ℤ → Counters → Result Demanded Refusal
gives z c = Ok (record { lit = z; counters = c })
