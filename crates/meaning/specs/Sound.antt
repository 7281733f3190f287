-- Theorem 1: whatever satisfies the history gives the marked outputs their meaning.
use Rattle.std.specs.Prelude.{◌≡◌, ℕ, ◌≤◌}
use Rattle.meaning.specs.Table.{Kind, leaf, dummy, unit, general}

-- an output is reached: a general one when the value is its key, another when the value is at least its key
abbrev pub ReachOf : Kind → ℕ → ℕ → Type 0
ReachOf leaf v k = k ≤ v
ReachOf dummy v k = k ≤ v
ReachOf unit v k = k ≤ v
ReachOf general v k = v ≡ k
