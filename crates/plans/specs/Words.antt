-- What stands between the words of a line.
use Rattle.std.specs.Prelude.{ℕ, ◌≡◌, ◌⊎◌}

-- a space, a tab, or the carriage return of a line that ends in two bytes
abbrev pub IsBlank : ℕ → Type 0
IsBlank b = (b ≡ 32) ⊎ ((b ≡ 9) ⊎ (b ≡ 13))
