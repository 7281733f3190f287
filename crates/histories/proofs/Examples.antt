-- Histories that are there: P1, then the clauses emptied, then P2, on rows with room for ten words; and a demand again after reset.
use Rattle.std.specs.Prelude.{ℕ, ◌≡◌, refl, List, [], ◌∷◌, ◌++◌, ℤ, pos, neg_ℤ}
use Rattle.paper.specs.Below.{all_below, sum_below, first_below}
use Rattle.paper.specs.Span.{over}
use Rattle.paper.specs.Rows.{node_at, value_count, value_at, con_lits}
use Rattle.paper.specs.Keys.{put, put_all, keys_of}
use Rattle.paper.specs.Table.{counters_ok, leaf_ok, dummy_ok, inner_ok, unit_ok, general_ok, node_ok, nodes_ok, table_ok_at, work_ok}
use Rattle.paper.specs.Grow.{fresh_of, choose, leaf_plan, put_node}
use Rattle.paper.specs.Join.{count_from, room_for, muls_ok, fit_plan, keys_plan, join_plan, inner_plan}
use Rattle.paper.specs.Plain.{want_of, mark_of, mark_byte, has_if, has_only, missing_of, if_span, only_span, ranges_of, plan_two, plan_unit, plan_of, if_clause, only_clause, words_of, emit_if, emit_only, emit_both, finish_of, demands_of, walk_of, step_of, define, plain_run}
use Rattle.paper.specs.Demand.{room_of, demanded_of, count_of}
use Rattle.paper.specs.Upkeep.{reset_of, empty_of}
use Rattle.paper.specs.Calls.{Db, Work, Call, fresh, leaf, inner, unweighted, reset, empty, fresh_step, leaf_call, inner_call, unweighted_call, reset_call, empty_call, step}
use Rattle.paper.specs.Sums.{blank, played}
use Rattle.paper.specs.declared.Semantics.TheVariants.{IfAndOnlyIf}
use Rattle.histories.specs.Histories.{words_after, Reached}
use Rattle.histories.proofs.Histories.{history_of}

abbrev work : Work
work = record { ints = 10; bytes = 10 }

abbrev both : ℕ → Call
both i = unweighted work 2 i IfAndOnlyIf

abbrev unit : List Call
unit = leaf (pos 1) ∷ leaf (pos 2) ∷ inner (record { left = 0; lmul = 1; right = 1; rmul = 1 }) ∷ []

-- room for n clause words, and the fresh call done
abbrev begun : ℕ → Db
begun n = (step (blank n) (fresh 3 9)).db

abbrev m : ℕ → ℤ
m n = neg_ℤ (pos n)

abbrev p1 : List ℤ
p1 = m 2 ∷ pos 3 ∷ pos 0 ∷ m 1 ∷ pos 3 ∷ pos 0 ∷ pos 1 ∷ pos 2 ∷ m 3 ∷ pos 0 ∷ []

abbrev p2 : List ℤ
p2 = m 1 ∷ m 2 ∷ pos 4 ∷ pos 0 ∷ pos 1 ∷ m 4 ∷ pos 0 ∷ pos 2 ∷ m 4 ∷ pos 0 ∷ []

abbrev words_of_calls : List Call → Db → List ℤ
words_of_calls ks d = Rattle.histories.specs.Histories.words_of ks d []

-- the history keeps the clauses that were emptied
pub emptied_kept : words_of_calls (unit ++ (both 0 ∷ empty ∷ both 1 ∷ [])) (begun 10) ≡ p1 ++ p2
unfolding Rattle.histories.specs.Histories.words_of words_after blank step fresh_step leaf_call inner_call unweighted_call empty_call empty_of room_of demanded_of count_of want_of mark_of mark_byte has_if has_only missing_of if_span only_span ranges_of plan_two plan_unit plan_of if_clause only_clause words_of emit_if emit_only emit_both finish_of demands_of walk_of step_of define plain_run count_from room_for muls_ok fit_plan keys_plan join_plan inner_plan fresh_of choose leaf_plan put_node counters_ok leaf_ok dummy_ok inner_ok unit_ok general_ok node_ok nodes_ok table_ok_at work_ok put put_all keys_of node_at value_count value_at con_lits over all_below sum_below first_below
emptied_kept = refl

-- after reset a demand appends its clauses again, with the same literal
pub reset_again : words_of_calls (unit ++ (both 0 ∷ reset ∷ both 0 ∷ [])) (begun 20) ≡ p1 ++ p1
unfolding Rattle.histories.specs.Histories.words_of words_after blank step fresh_step leaf_call inner_call unweighted_call reset_call reset_of room_of demanded_of count_of want_of mark_of mark_byte has_if has_only missing_of if_span only_span ranges_of plan_two plan_unit plan_of if_clause only_clause words_of emit_if emit_only emit_both finish_of demands_of walk_of step_of define plain_run count_from room_for muls_ok fit_plan keys_plan join_plan inner_plan fresh_of choose leaf_plan put_node counters_ok leaf_ok dummy_ok inner_ok unit_ok general_ok node_ok nodes_ok table_ok_at work_ok put put_all keys_of node_at value_count value_at con_lits over all_below sum_below first_below
reset_again = refl

-- and these are histories
pub one_history : Reached (played (unit ++ (both 0 ∷ empty ∷ both 1 ∷ [])) (begun 10)) (words_of_calls (unit ++ (both 0 ∷ empty ∷ both 1 ∷ [])) (begun 10))
unfolding step fresh_step fresh_of
one_history = history_of 3 9 (unit ++ (both 0 ∷ empty ∷ both 1 ∷ [])) (blank 10) refl
