-- DEMAND 3, for every history of public calls: what the clauses mean, that they forbid no assignment of the inputs; capping; propagation.
use Rattle.std.specs.Prelude.{◌≡◌, refl, Bool, true, false, not, cond, ◌⊎◌, ◌↔◌, ℕ, zero, suc, ◌+◌, ◌-◌, ◌<◌, ◌≤◌, ℤ, pos, neg_ℤ, nat_abs, length, get_or, ltb}
use Rattle.std.proofs.Common.{sym, ◌∙◌, ap, subst, true≢false, inl, inr, arith, eqb-true, Err, Ok}
use mathlib.Core.List.{List, [], Memᴰ}
use Rattle.std.proofs.Math.Decide.{dec_le}
use Rattle.paper.specs.Rows.{node_at, value_count}
use Rattle.paper.specs.Plain.{want_of, has_if, has_only}
use Rattle.paper.specs.Table.{table_ok, work_ok}
use Rattle.paper.specs.Upkeep.{assigned_ok, worth_answer, valued_of, value_of}
use Rattle.paper.specs.Numbers.{valued_said}
use Rattle.paper.specs.Calls.{Db, Call, Work, unweighted, weighted, value, checked, value_call, step}
use Rattle.paper.specs.declared.Semantics.{Semantics}
use Rattle.paper.specs.declared.Refusal.TheVariants.{TableFails, WorkShort, NoSuchNode, BadAssignment}
use Rattle.meaning.specs.Base.{litv}
use Rattle.meaning.proofs.Base.{bool_cases}
use Rattle.meaning.specs.Table.{Kind, leaf, dummy, unit, general, If, OnlyIf, lit_of, lit, held_of, Held, NotGeneral, Inner, UnitOk, NodeOk, History, AllSat, Values, key_at}
use Rattle.meaning.proofs.Sound.{sound_unit_if, sound_unit_onlyif, sound_general, told}
use Rattle.meaning.specs.Extend.{Extension}
use Rattle.meaning.proofs.Extend.{extension}
use Rattle.meaning.specs.Propagate.{Derives}
use Rattle.meaning.proofs.Propagate.{propagates_if, propagates_onlyif}
use Rattle.meaning.proofs.Rows.{done_of_true}
use Rattle.meaning.specs.View.{kind_of}
use Rattle.meaning.proofs.View.{count_is}
use Rattle.meaning.specs.Value.{sum_at, assigned}
use Rattle.meaning.proofs.Value.{sums, values_unique, value_is, sum_alike}
use Rattle.meaning.specs.Words.{flat}
use Rattle.facts.proofs.Facts.{left_there, right_there, leaf_low}
use Rattle.facts.proofs.Keeps.{step_keeps}
use Rattle.histories.specs.Upheld.{state_of, tab_of, marks_of, Upheld}
use Rattle.histories.proofs.Upheld.{facts_of, fit_of}
use Rattle.histories.specs.Stays.{Stays}
use Rattle.histories.specs.Histories.{restarts, is_reset, Reached, clauses_of, Stands}
use Rattle.histories.proofs.Histories.{goes, stands, read}
use Rattle.histories.specs.Answers.{Answered, InnerKind, Weighed}
use Rattle.histories.proofs.Answers.{unweighted_answers, weighted_answers}
use Rattle.histories.specs.Rows.{literal, key, mark, sum, Seen}
use Rattle.histories.proofs.Rows.{seen, some_held, cell_of}
use Rattle.histories.specs.Meaning.{AllDemanded, AllRefused, Extended, Meant, Spared}

-- ---- the view of an inner node's output

inner_lit : (k : Kind) (z : ℤ) (v : ℕ) → Inner k → lit_of k z v ≡ pos v
inner_lit leaf z v i = absurd i
inner_lit dummy z v i = absurd i
inner_lit unit z v i = refl
inner_lit general z v i = refl

inner_held : (k : Kind) (v : ℕ) → 0 < v → held_of k v
inner_held leaf v h = tt
inner_held dummy v h = h
inner_held unit v h = h
inner_held general v h = h

unit_plain : (k : Kind) → k ≡ unit → NotGeneral k
unit_plain k e = rw e tt

-- ---- from what is upheld

module _ (d : Db) (h : History) (u : Upheld d h) where
  values : (b : ℤ → Bool) → Values (tab_of d) b (sum_at d.nodes d.inputs b)
  values b = sums d.nodes d.inputs d.keys d.counters.nodes d.counters.first d.counters.cells (fit_of d u.passes) (state_of d []) u.inv.shape b

  meant_of : (α : ℕ → Bool) → AllSat α h → Meant d α
  meant_of α sat =
      record {
        unit_if = λ n j s k hj e r.
            let q = seen d h u n j s hj in
            ap (litv α) q.lit_is ∙ sound_unit_if (tab_of d) (marks_of d) h u.inv α (sum_at d.nodes d.inputs (litv α)) (values (litv α)) sat n j s q.low (ap kind_of k) (q.marks If ∙ e) r;
        unit_onlyif = λ n j s k hj e r.
            let q = seen d h u n j s hj in
            sound_unit_onlyif (tab_of d) (marks_of d) h u.inv α (sum_at d.nodes d.inputs (litv α)) (values (litv α)) sat n j s q.low (ap kind_of k) (q.marks OnlyIf ∙ e) (sym (ap (litv α) q.lit_is) ∙ r);
        general_if = λ n j s k hj e r.
            let q = seen d h u n j s hj in
            ap (litv α) q.lit_is ∙ sound_general (tab_of d) (marks_of d) h u.inv α (sum_at d.nodes d.inputs (litv α)) (values (litv α)) sat n j s q.low (ap kind_of k) (q.marks If ∙ e) (r ∙ sym q.key_is);
      }

  never_of : (a b : ℕ) → a < d.counters.cells → b < d.counters.cells → (get_or d.lits a (pos 0) ≡ pos 0 → ⊥) → get_or d.lits a (pos 0) ≡ get_or d.lits b (pos 0) → a ≡ b
  never_of a b ha hb some e =
      let x = cell_of d u.passes a ha in
      let y = cell_of d u.passes b hb in
      let p = seen d h u x.id x.index x.hn x.hj in
      let q = seen d h u y.id y.index y.hn y.hj in
      let la : get_or d.lits a (pos 0) ≡ pos ((tab_of d).held x.id x.index) = ap (λ (z : ℕ). get_or d.lits z (pos 0)) x.is ∙ p.lit_is in
      let lb : get_or d.lits b (pos 0) ≡ pos ((tab_of d).held y.id y.index) = ap (λ (z : ℕ). get_or d.lits z (pos 0)) y.is ∙ q.lit_is in
      let v : (tab_of d).held x.id x.index ≡ (tab_of d).held y.id y.index = ap nat_abs (sym la ∙ e ∙ lb) in
      let (en, ej) = u.inv.cells.distinct x.id x.index y.id y.index x.hn p.low y.hn q.low (some_held (get_or d.lits a (pos 0)) _ la some) v in
      let f : (node_at d.nodes x.id).first ≡ (node_at d.nodes y.id).first = ap (λ (z : ℕ). (node_at d.nodes z).first) en in
      let ia = x.is in
      let ib = y.is in
      omega arith

  extended_of : (α : ℕ → Bool) (w : List ℤ) → clauses_of w ≡ h → Extended d w α
  extended_of α w e =
      let x = extension (tab_of d) (marks_of d) h u.inv α (sum_at d.nodes d.inputs (litv α)) (values (litv α)) in
      let β = x.assignment in
      record {
        assignment = β;
        inputs = x.inputs;
        sums_are = same_sums β x.values;
        satisfies = λ c m. x.all c (subst (λ (k : History). Memᴰ c k) e m);
        exactly = λ n j s hj some.
            let q = seen d h u n j s hj in
            let held : 0 < (tab_of d).held n j = some_held (literal d n j) ((tab_of d).held n j) q.lit_is some in
            exact β x q held (x.exactly n j s q.low);
        leaf_exactly = λ n s k. leaf_exact β n s (ap kind_of k) (x.exactly n 0 s);
      }
    where
      -- the values of a table under an assignment are unique
      same_sums : (β : ℕ → Bool) → Values (tab_of d) (litv β) (sum_at d.nodes d.inputs (litv α)) → (n : ℕ) → n < d.counters.nodes → sum d β n ≡ sum d α n
      same_sums β v n s = values_unique (tab_of d) u.inv.shape (litv β) (sum_at d.nodes d.inputs (litv β)) (sum_at d.nodes d.inputs (litv α)) (values (litv β)) v n s

      leaf_exact : (β : ℕ → Bool) (n : ℕ) → n < d.counters.nodes → kind_of (node_at d.nodes n).kind ≡ leaf
          → (0 < value_count (node_at d.nodes n) → Held (tab_of d) n 0 → (litv β (lit (tab_of d) n 0) ≡ true) ↔ ((tab_of d).key n 0 ≤ sum d α n))
          → (litv β (get_or d.inputs (node_at d.nodes n).first (pos 0)) ≡ true) ↔ (1 ≤ sum d α n)
      leaf_exact β n s e = rw e (λ f. f (let c = count_is d.nodes n ((fit_of d u.passes).kinds n s) leaf e in omega arith) tt)

      exact : (β : ℕ → Bool) → Extension (tab_of d) h α (sum_at d.nodes d.inputs (litv α)) → {n j : ℕ} → Seen d n j → 0 < (tab_of d).held n j
          → (Held (tab_of d) n j → (litv β (lit (tab_of d) n j) ≡ true) ↔ ((tab_of d).key n j ≤ sum d α n)) → (litv β (literal d n j) ≡ true) ↔ (key d n j ≤ sum d α n)
      exact β x {n} {j} q held f =
          let same : lit (tab_of d) n j ≡ pos ((tab_of d).held n j) = inner_lit (kind_of (node_at d.nodes n).kind) ((tab_of d).node n).input ((tab_of d).held n j) q.inner in
          let r = f (inner_held (kind_of (node_at d.nodes n).kind) ((tab_of d).held n j) held) in (
            λ a. let b = r.0 (ap (litv β) (same ∙ sym q.lit_is) ∙ a) in let c = q.key_is in omega arith,
            λ a. ap (litv β) (q.lit_is ∙ sym same) ∙ r.1 (let c = q.key_is in omega arith),
          )

  -- ---- capping a node at k: every key above k is demanded, and refused

  -- some output tells of a sum that is not 0
  sum_told : (α : ℕ → Bool) (n : ℕ) → n < d.counters.nodes → 0 < sum d α n → (j : ℕ) × (j < value_count (node_at d.nodes n)) × ((tab_of d).key n j ≡ sum d α n)
  sum_told α n s p =
      let (x, hx, e) = told (tab_of d) u.inv.shape (litv α) (sum_at d.nodes d.inputs (litv α)) (values (litv α)) n s in
      go x hx e
    where
      go : (x : ℕ) → x ≤ value_count (node_at d.nodes n) → key_at (tab_of d) n x ≡ sum d α n → (j : ℕ) × (j < value_count (node_at d.nodes n)) × ((tab_of d).key n j ≡ sum d α n)
      go zero hx e = absurd (let z : ⊥ = omega arith in z)
      go (suc j) hx e = (j, hx, e)

  -- the outputs of a unit or general node
  outputs : (n : ℕ) → n < d.counters.nodes → InnerKind d n → value_count (node_at d.nodes n) ≡ (node_at d.nodes n).count
  outputs n s (inl k) = count_is d.nodes n ((fit_of d u.passes).kinds n s) unit (ap kind_of k)
  outputs n s (inr k) = count_is d.nodes n ((fit_of d u.passes).kinds n s) general (ap kind_of k)

  capped_of : (α : ℕ → Bool) → AllSat α h → (n k : ℕ) → n < d.counters.nodes → InnerKind d n
      → AllDemanded d n k → AllRefused d α n k → sum d α n ≤ k
  capped_of α sat n k s kind asked no_one = go (dec_le (sum d α n) k)
    where
      m : Meant d α
      m = meant_of α sat

      hit : (j : ℕ) → InnerKind d n → j < (node_at d.nodes n).count → has_if (mark d n j) ≡ true → (tab_of d).key n j ≡ sum d α n → key d n j ≡ sum d α n
          → litv α (literal d n j) ≡ true
      hit j (inl e) hj f q r =
          let o : UnitOk (tab_of d) n = subst (NodeOk (tab_of d) n) (ap kind_of e) (u.inv.shape n s) in
          let c = outputs n s (inl e) in
          let x = o.key_is j (omega arith) in
          m.unit_if n j s e hj f (omega arith)
      hit j (inr e) hj f q r = m.general_if n j s e hj f (sym r)

      go : Dec (sum d α n ≤ k) → sum d α n ≤ k
      go (yes p) = p
      go (no p) =
          let (j, hj, e) = sum_told α n s (omega arith) in
          let c = outputs n s kind in
          let hj' : j < (node_at d.nodes n).count = omega arith in
          let q = seen d h u n j s hj' in
          let r : key d n j ≡ sum d α n = sym q.key_is ∙ e in
          absurd (true≢false (sym (hit j kind hj' (asked j hj' (omega arith)) e r) ∙ no_one j hj' (omega arith)))

  spared_of : (α : ℕ → Bool) (w : List ℤ) → clauses_of w ≡ h → (n k : ℕ) → n < d.counters.nodes → AllDemanded d n k → sum d α n ≤ k → Spared d w α n k
  spared_of α w e n k s asked low = record { extended = x; refused = λ j hj above. go j hj above (bool_cases (litv x.assignment (literal d n j))) }
    where
      x : Extended d w α
      x = extended_of α w e

      -- a marked output has a literal
      there : (j : ℕ) → j < (node_at d.nodes n).count → k < key d n j → literal d n j ≡ pos 0 → ⊥
      there j hj above z =
          let q = seen d h u n j s hj in
          let p = (u.inv.marked If n j s q.low (q.marks If ∙ asked j hj (omega arith))).held in
          let v : (tab_of d).held n j ≡ 0 = ap nat_abs (sym q.lit_is ∙ z) in
          let y : ⊥ = omega arith in
          y

      go : (j : ℕ) → j < (node_at d.nodes n).count → k < key d n j → (litv x.assignment (literal d n j) ≡ true) ⊎ (litv x.assignment (literal d n j) ≡ false) → litv x.assignment (literal d n j) ≡ false
      go j hj above (inl t) = absurd (let r = (x.exactly n j s hj (there j hj above)).0 t in let z : ⊥ = omega arith in z)
      go j hj above (inr f) = f

  -- ---- propagation

  derived_if : (K : ℤ → Bool) (n j : ℕ) → n < d.counters.nodes → (node_at d.nodes n).kind ≡ 1 → j < (node_at d.nodes n).count → has_if (mark d n j) ≡ true
      → j < sum_at d.nodes d.inputs K n → Derives h K (literal d n j)
  derived_if K n j s k hj e r =
      let q = seen d h u n j s hj in
      let o : UnitOk (tab_of d) n = subst (NodeOk (tab_of d) n) (ap kind_of k) (u.inv.shape n s) in
      let x = o.key_is j q.low in
      let same : literal d n j ≡ lit (tab_of d) n j = q.lit_is ∙ sym (inner_lit (kind_of (node_at d.nodes n).kind) ((tab_of d).node n).input ((tab_of d).held n j) q.inner) in
      subst (Derives h K) (sym same)
      (propagates_if (tab_of d) (marks_of d) h u.inv K (sum_at d.nodes d.inputs K) (values K) n s (unit_plain (kind_of (node_at d.nodes n).kind) (ap kind_of k)) j q.low
      (done_of_true (kind_of (node_at d.nodes n).kind) _ (q.marks If ∙ e)) (omega arith))

  derived_onlyif : (K : ℤ → Bool) (n j : ℕ) → n < d.counters.nodes → (node_at d.nodes n).kind ≡ 1 → j < (node_at d.nodes n).count → has_only (mark d n j) ≡ true
      → sum_at d.nodes d.inputs (λ z. not (K (neg_ℤ z))) n ≤ j → Derives h K (neg_ℤ (literal d n j))
  derived_onlyif K n j s k hj e r =
      let q = seen d h u n j s hj in
      let o : UnitOk (tab_of d) n = subst (NodeOk (tab_of d) n) (ap kind_of k) (u.inv.shape n s) in
      let x = o.key_is j q.low in
      let same : literal d n j ≡ lit (tab_of d) n j = q.lit_is ∙ sym (inner_lit (kind_of (node_at d.nodes n).kind) ((tab_of d).node n).input ((tab_of d).held n j) q.inner) in
      subst (λ (z : ℤ). Derives h K (neg_ℤ z)) (sym same)
      (propagates_onlyif (tab_of d) (marks_of d) h u.inv K (sum_at d.nodes d.inputs (λ z. not (K (neg_ℤ z)))) (values (λ z. not (K (neg_ℤ z)))) n s
      (unit_plain (kind_of (node_at d.nodes n).kind) (ap kind_of k)) j q.low
      (done_of_true (kind_of (node_at d.nodes n).kind) _ (q.marks OnlyIf ∙ e)) (omega arith))

-- ---- FOR EVERY HISTORY

pub all_stand : {d : Db} {w : List ℤ} → Reached d w → Stands d w
all_stand r = stands step_keeps r

-- a table grown from a fresh one always passes the check
pub always_passes : {d : Db} {w : List ℤ} → Reached d w → checked d ≡ true
always_passes r = (all_stand r).upheld.passes

-- no two of its cells share a literal
pub never_shared : {d : Db} {w : List ℤ} → Reached d w → (a b : ℕ) → a < d.counters.cells → b < d.counters.cells
    → (get_or d.lits a (pos 0) ≡ pos 0 → ⊥) → get_or d.lits a (pos 0) ≡ get_or d.lits b (pos 0) → a ≡ b
never_shared {d} r = let s = all_stand r in never_of d s.clauses s.upheld

-- the words of a history and its clauses say the same
pub same_words : {d : Db} {w : List ℤ} → Reached d w → flat (clauses_of w) ≡ w
same_words r = let s = all_stand r in ap flat (read s) ∙ sym s.words

-- FIRST HALF
pub meaning : {d : Db} {w : List ℤ} → Reached d w → (α : ℕ → Bool) → AllSat α (clauses_of w) → Meant d α
meaning {d} r α sat = let s = all_stand r in meant_of d s.clauses s.upheld α (subst (AllSat α) (read s) sat)

-- SECOND HALF
pub extends : {d : Db} {w : List ℤ} → Reached d w → (α : ℕ → Bool) → Extended d w α
extends {d} {w} r α = let s = all_stand r in extended_of d s.clauses s.upheld α w (read s)

-- a unit or general node capped at k: no assignment with a larger sum is left
pub capped : {d : Db} {w : List ℤ} → Reached d w → (α : ℕ → Bool) → AllSat α (clauses_of w) → (n k : ℕ) → n < d.counters.nodes
    → InnerKind d n → AllDemanded d n k → AllRefused d α n k → sum d α n ≤ k
capped {d} r α sat = let s = all_stand r in capped_of d s.clauses s.upheld α (subst (AllSat α) (read s) sat)

-- and every assignment with a sum at most k is left, with all these outputs false
pub spared : {d : Db} {w : List ℤ} → Reached d w → (α : ℕ → Bool) (n k : ℕ) → n < d.counters.nodes → AllDemanded d n k → sum d α n ≤ k → Spared d w α n k
spared {d} {w} r α = let s = all_stand r in spared_of d s.clauses s.upheld α w (read s)

-- unit propagation alone, from literals that K fixes: leaves that are not fixed count 0 for If ..
pub propagation_if : {d : Db} {w : List ℤ} → Reached d w → (K : ℤ → Bool) (n j : ℕ) → n < d.counters.nodes → (node_at d.nodes n).kind ≡ 1 → j < (node_at d.nodes n).count
    → has_if (mark d n j) ≡ true → j < sum_at d.nodes d.inputs K n → Derives (clauses_of w) K (literal d n j)
propagation_if {d} r K n j s k hj e l = let x = all_stand r in subst (λ (h : History). Derives h K (literal d n j)) (sym (read x)) (derived_if d x.clauses x.upheld K n j s k hj e l)

-- .. and 1 for OnlyIf
pub propagation_onlyif : {d : Db} {w : List ℤ} → Reached d w → (K : ℤ → Bool) (n j : ℕ) → n < d.counters.nodes → (node_at d.nodes n).kind ≡ 1 → j < (node_at d.nodes n).count
    → has_only (mark d n j) ≡ true → sum_at d.nodes d.inputs (λ z. not (K (neg_ℤ z))) n ≤ j → Derives (clauses_of w) K (neg_ℤ (literal d n j))
propagation_onlyif {d} r K n j s k hj e l = let x = all_stand r in subst (λ (h : History). Derives h K (neg_ℤ (literal d n j))) (sym (read x)) (derived_onlyif d x.clauses x.upheld K n j s k hj e l)

-- ---- what calls do to outputs, in every history

-- nodes, keys and given literals stay as they are, and marks but for reset, until a done fresh call
pub stays : {d : Db} {w : List ℤ} → Reached d w → (k : Call) → restarts d k ≡ false → Stays d (step d k).db (is_reset k)
stays {d} r k e = let s = all_stand r in (goes d s.clauses s.upheld k e (step_keeps d k s.upheld.passes)).moved.stays

-- so do the sums
pub sum_stays : {d : Db} {w : List ℤ} → Reached d w → (k : Call) → restarts d k ≡ false → (α : ℕ → Bool) (n : ℕ) → n < d.counters.nodes → sum (step d k).db α n ≡ sum d α n
sum_stays {d} r k e α n s =
    let st = stays r k e in
    let t = facts_of d (always_passes r) in
    sum_alike d.nodes (step d k).db.nodes d.inputs (step d k).db.inputs d.counters.nodes (litv α) st.node_is (λ m l. (left_there (t.node m l) l, right_there (t.node m l) l))
    (λ m l f. st.inputs (node_at d.nodes m).first (leaf_low t m l (eqb-true _ _ f))) (n + 1) n s

-- a done unweighted demand answers the output's literal and has marked what was asked
pub unweighted_answered : {d : Db} {w : List ℤ} → Reached d w → (wk : Work) (n i : ℕ) (m : Semantics) → InnerKind d n → (step d (unweighted wk n i m)).said.number ≡ 0
    → Answered (step d (unweighted wk n i m)).db n i (step d (unweighted wk n i m)).said.value (want_of m)
unweighted_answered {d} r wk n i m k e = let s = all_stand r in unweighted_answers d s.clauses s.upheld wk n i m k e

-- a done weighted demand of v answers the literal of the output with key v and has marked it If
pub weighted_answered : {d : Db} {w : List ℤ} → Reached d w → (wk : Work) (n v : ℕ) → InnerKind d n → (step d (weighted wk n v)).said.number ≡ 0
    → Weighed d (step d (weighted wk n v)).db n v (step d (weighted wk n v)).said.value
weighted_answered {d} r wk n v k e = let s = all_stand r in weighted_answers d s.clauses s.upheld wk n v k e

-- the call `value` answers the sum
pub value_answers : (d : Db) (wk : Work) (n : ℕ) (a : List ℕ) → (step d (value wk n a)).said.number ≡ 0 → (step d (value wk n a)).said.value ≡ pos (sum d (assigned a) n)
unfolding step value_call valued_of worth_answer
value_answers d wk n a =
    go (table_ok d.nodes d.inputs d.keys d.lits d.marks (length d.clauses) d.counters) (work_ok wk.ints wk.bytes d.counters) (ltb n d.counters.nodes)
    (assigned_ok a (d.counters.first - 1))
  where
    v : ℕ
    v = value_of (n + 1) d.nodes d.inputs a n

    go : (t b h o : Bool)
        → (valued_said (cond t (cond b (cond h (cond o (Ok v) (Err BadAssignment)) (Err NoSuchNode)) (Err WorkShort)) (Err TableFails)) d.counters).number ≡ 0
        → (valued_said (cond t (cond b (cond h (cond o (Ok v) (Err BadAssignment)) (Err NoSuchNode)) (Err WorkShort)) (Err TableFails)) d.counters).value ≡ pos (sum d (assigned a) n)
    go false b h o e = absurd (let z : ⊥ = omega arith in z)
    go true false h o e = absurd (let z : ⊥ = omega arith in z)
    go true true false o e = absurd (let z : ⊥ = omega arith in z)
    go true true true false e = absurd (let z : ⊥ = omega arith in z)
    go true true true true e = ap pos (value_is (n + 1) d.nodes d.inputs a n)
