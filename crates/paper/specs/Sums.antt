-- 01, "Sums at the counter", the cases marked P: plans of calls, played on blank rows by the definitions themselves, and what the paper says of them.
use Rattle.std.specs.Prelude.{ℕ, ◌≡◌, refl, List, [], ◌∷◌, take, replicate, ℤ, pos, neg_ℤ}
use Rattle.paper.specs.Below.{all_below, sum_below, first_below}
use Rattle.paper.specs.Span.{over}
use Rattle.paper.specs.Rows.{node_at, value_count, value_at, con_lits}
use Rattle.paper.specs.Keys.{put, put_all, keys_of}
use Rattle.paper.specs.Table.{counters_ok, leaf_ok, dummy_ok, inner_ok, unit_ok, general_ok, node_ok, nodes_ok, table_ok_at, work_ok}
use Rattle.paper.specs.Grow.{begun, fresh_of, choose, leaf_plan, dummy_plan, put_node}
use Rattle.paper.specs.Join.{count_from, room_for, muls_ok, fit_plan, keys_plan, join_plan, inner_plan}
use Rattle.paper.specs.Plain.{
  want_of,
  mark_of,
  mark_byte,
  has_if,
  has_only,
  missing_of,
  if_span,
  only_span,
  ranges_of,
  plan_two,
  plan_unit,
  plan_of,
  if_clause,
  only_clause,
  words_of,
  emit_if,
  emit_only,
  emit_both,
  finish_of,
  demands_of,
  walk_of,
  step_of,
  define,
  plain_run,
}
use Rattle.paper.specs.Weighted.{key_from, output_of, share_of, way_two, job_of, take_lit_at, mark_at, emit_way, clause_at, link_of, links_of, do_of, weigh, weigh_run}
use Rattle.paper.specs.Demand.{room_of, demanded_of, count_of, sum_of}
use Rattle.paper.specs.Calls.{
  Db,
  Work,
  Call,
  fresh,
  leaf,
  dummy,
  inner,
  unweighted,
  weighted,
  After,
  fresh_step,
  leaf_call,
  dummy_call,
  inner_call,
  unweighted_call,
  weighted_call,
  step,
  appended,
}
use Rattle.paper.specs.declared.Semantics.{Semantics}
use Rattle.paper.specs.declared.Semantics.TheVariants.{If, IfAndOnlyIf}

-- a line of the counter: the number, what is given back, the words appended
pub record Line : Type 0 where
  pub number : ℕ
  pub answer : ℤ
  pub words : List ℤ

unfoldable pub line_of : Db → After → Line
line_of d a = record { number = a.said.number; answer = a.said.value; words = appended d.counters a.db }

-- each call takes the rows and counters as the one before left them
unfoldable pub play : List Call → Db → List Line
play [] d = []
play (c ∷ cs) d = line_of d (step d c) ∷ play cs (step d c).db

unfoldable pub played : List Call → Db → Db
played [] d = d
played (c ∷ cs) d = played cs (step d c).db

-- blank rows: room for five nodes and ten cells, and n clause words
unfoldable pub blank : ℕ → Db
blank n =
    record {
      nodes = replicate 40 0;
      inputs = replicate 3 (pos 0);
      keys = replicate 10 0;
      lits = replicate 10 (pos 0);
      marks = replicate 10 0;
      clauses = replicate n (pos 0);
      counters = begun 1 0;
    }

abbrev w : Work
w = record { ints = 10; bytes = 10 }

abbrev p : ℕ → ℤ
p n = pos n

abbrev m : ℕ → ℤ
m n = neg_ℤ (pos n)

abbrev join : ℕ → ℕ → ℕ → ℕ → Call
join a x b y = inner (record { left = a; lmul = x; right = b; rmul = y })

abbrev count : ℕ → ℕ → Semantics → Call
count id i s = unweighted w id i s

abbrev sum : ℕ → ℕ → Call
sum id v = weighted w id v

abbrev both : Semantics
both = IfAndOnlyIf

-- the words of P3
abbrev p3 : List ℤ
p3 = m 2 ∷ p 4 ∷ p 0 ∷ m 1 ∷ p 4 ∷ p 0 ∷ m 1 ∷ m 2 ∷ p 5 ∷ p 0 ∷ m 4 ∷ m 3 ∷ p 6 ∷ p 0 ∷ m 5 ∷ p 6 ∷ p 0 ∷ []

abbrev line : ℕ → ℤ → List ℤ → Line
line n a ws = record { number = n; answer = a; words = ws }

-- the plans: leaves 1, 2; leaves 1, 2, 3; leaves 1 times 3, 2 times 2; dummy and leaf 1; leaf 1 twice
unfoldable pub two : List Call
two = fresh 3 9 ∷ leaf (p 1) ∷ leaf (p 2) ∷ join 0 1 1 1 ∷ []

unfoldable pub three : ℕ → List Call
three last = fresh 4 last ∷ leaf (p 1) ∷ leaf (p 2) ∷ leaf (p 3) ∷ join 0 1 1 1 ∷ join 3 1 2 1 ∷ []

unfoldable pub five : List Call
five = fresh 3 9 ∷ leaf (p 1) ∷ leaf (p 2) ∷ join 0 3 1 2 ∷ []

unfoldable pub padded : List Call
padded = fresh 2 9 ∷ dummy ∷ leaf (p 1) ∷ join 0 1 1 1 ∷ []

unfoldable pub twice : List Call
twice = fresh 2 9 ∷ leaf (p 1) ∷ join 0 1 0 1 ∷ []

-- what the calls after a plan answer, with n clause words, and the keys in use
pub record Case : Type 0 where
  pub lines : List Line
  pub keys : List ℕ

unfoldable pub after : List Call → ℕ → List Call → Case
after plan n cs =
    let d = played plan (blank n) in
    record { lines = play cs d; keys = take d.counters.cells d.keys }

abbrev case : List Line → List ℕ → Case
case ls ks = record { lines = ls; keys = ks }

unfoldable pub ran : List Case
ran =
    after two 99 (count 2 0 both ∷ count 2 1 both ∷ count 2 0 both ∷ []) ∷
    after two 99 (count 2 0 If ∷ count 2 0 both ∷ []) ∷
    after (three 9) 99 (count 4 1 If ∷ []) ∷
    after (three 9) 16 (count 4 1 If ∷ []) ∷
    after (three 9) 17 (count 4 1 If ∷ []) ∷
    after (three 5) 16 (count 4 1 If ∷ []) ∷
    after five 99 (sum 2 5 ∷ sum 2 3 ∷ sum 2 4 ∷ []) ∷
    after padded 99 (count 2 0 both ∷ []) ∷
    after twice 99 (count 1 1 If ∷ []) ∷
    []

unfoldable pub said : List Case
said =
    -- P1, P2, and P7: "P1 again: 3, no words"
    case
    (line 0 (p 3) (m 2 ∷ p 3 ∷ p 0 ∷ m 1 ∷ p 3 ∷ p 0 ∷ p 1 ∷ p 2 ∷ m 3 ∷ p 0 ∷ []) ∷
    line 0 (p 4) (m 1 ∷ m 2 ∷ p 4 ∷ p 0 ∷ p 1 ∷ m 4 ∷ p 0 ∷ p 2 ∷ m 4 ∷ p 0 ∷ []) ∷
    line 0 (p 3) [] ∷ [])
    (1 ∷ 2 ∷ []) ∷
    -- P7: "P1 with If, then both: the second appends `1 2 -3 0`"
    case (line 0 (p 3) (m 2 ∷ p 3 ∷ p 0 ∷ m 1 ∷ p 3 ∷ p 0 ∷ []) ∷ line 0 (p 3) (p 1 ∷ p 2 ∷ m 3 ∷ p 0 ∷ []) ∷ []) (1 ∷ 2 ∷ []) ∷
    -- P3
    case (line 0 (p 6) p3 ∷ []) (1 ∷ 2 ∷ 1 ∷ 2 ∷ 3 ∷ []) ∷
    -- P4: "P3 with 16 words left: 13; with 17: done; with 2 variables left, 16 words: 12"
    case (line 13 (p 0) [] ∷ []) (1 ∷ 2 ∷ 1 ∷ 2 ∷ 3 ∷ []) ∷
    case (line 0 (p 6) p3 ∷ []) (1 ∷ 2 ∷ 1 ∷ 2 ∷ 3 ∷ []) ∷
    case (line 12 (p 0) [] ∷ []) (1 ∷ 2 ∷ 1 ∷ 2 ∷ 3 ∷ []) ∷
    -- P5
    case (line 0 (p 3) (m 1 ∷ m 2 ∷ p 3 ∷ p 0 ∷ []) ∷ line 0 (p 4) (m 1 ∷ p 4 ∷ p 0 ∷ []) ∷ line 1 (p 0) [] ∷ []) (2 ∷ 3 ∷ 5 ∷ []) ∷
    -- P6
    case (line 0 (p 2) (m 1 ∷ p 2 ∷ p 0 ∷ p 1 ∷ m 2 ∷ p 0 ∷ []) ∷ []) (1 ∷ []) ∷
    -- P8
    case (line 0 (p 2) (m 1 ∷ m 1 ∷ p 2 ∷ p 0 ∷ []) ∷ []) (1 ∷ 2 ∷ []) ∷
    []

-- P1 to P8, in one statement
pub sums : ran ≡ said
unfolding ran said after two three five padded twice blank played play line_of step fresh_step leaf_call dummy_call inner_call unweighted_call weighted_call room_of demanded_of count_of sum_of key_from output_of share_of way_two job_of take_lit_at mark_at emit_way clause_at link_of links_of do_of weigh weigh_run want_of mark_of mark_byte has_if has_only missing_of if_span only_span ranges_of plan_two plan_unit plan_of if_clause only_clause words_of emit_if emit_only emit_both finish_of demands_of walk_of step_of define plain_run count_from room_for muls_ok fit_plan keys_plan join_plan inner_plan fresh_of choose leaf_plan dummy_plan put_node counters_ok leaf_ok dummy_ok inner_ok unit_ok general_ok node_ok nodes_ok table_ok_at work_ok put put_all keys_of node_at value_count value_at con_lits over all_below sum_below first_below
sums = refl
