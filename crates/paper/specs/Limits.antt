-- "Limits: 4,096 nodes; 16,384 cells; depth 64; multiplier 1 to 65,535; key at most 2,147,483,647."
-- The definitions have the numbers from here, the code from src/lib.rt. tools/limits.py compares every place that writes one: these two, the header, the
-- binding, tools/paper.py, find's bound of multipliers, and sentences that name a limit. The rows of replay and cases are computed from the code's (`OWN`).
use Rattle.std.specs.Prelude.{ℕ}

abbrev pub node_limit : ℕ
node_limit = 4096

abbrev pub cell_limit : ℕ
cell_limit = 16384

abbrev pub depth_limit : ℕ
depth_limit = 64

abbrev pub mul_limit : ℕ
mul_limit = 65535

abbrev pub key_limit : ℕ
key_limit = 2147483647

-- "1 ≤ F ≤ next ≤ last + 1 ≤ 2147483648": the greatest last variable
abbrev pub var_limit : ℕ
var_limit = 2147483647

-- "Nodes: eight 32-bit words each"
abbrev pub node_words : ℕ
node_words = 8
