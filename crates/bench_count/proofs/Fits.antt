-- A test of rows that the run can go over: what it needs, and no more.
use Rattle.std.specs.Prelude.{◌≡◌, Bool, true, not, ◌&&◌, ◌||◌, List, ℕ, ◌+◌, ◌/◌, ◌≤◌, ◌<◌, ◌^◌, eqb, leb, ltb, ℤ, pos, length, get_or}
use Rattle.std.proofs.Common.{sym, ◌∙◌, arith}
use borrow.Author.Tests.{eq-eqb, ne_eqb, eqb-true, ltb-true, leb-true}
use Rattle.paper.specs.Limits.{node_words}
use Rattle.paper.specs.Below.{all_below, all_at, and_left, and_right, ands3}
use Rattle.paper.specs.Rows.{node_at, is_unit, con_len, lit_ok, cell_ok, inputs_ok, cells_ok}
use Rattle.paper.specs.declared.Node.{Node}
use Rattle.paper.specs.declared.Run.{Run}
use Rattle.facts.proofs.Facts.{lit_facts, cell_facts}
use Rattle.runs.proofs.Used.{neg_low, neg_held}
use Rattle.clause.specs.Row.{Neg}
use Rattle.count.specs.Run.{UnitOk, Ok, Fit}
use Rattle.bench_count.specs.Ready.{fit_at, from, node_fit, nodes_fit}

module _ (n l r : Node) (ni nc k : ℕ) (h : node_fit n l r ni nc k ≡ true) where
  pub leaf_fit : n.kind ≡ 0 → n.first < ni
  unfolding node_fit
  leaf_fit e = ltb-true _ _ (rw (eq-eqb n.kind 0 e) at h)

  inner_fit : (n.kind ≡ 0 → ⊥) → (leb (n.first + con_len n) nc && (not (is_unit n) || ((ltb n.left k && ltb n.right k) && eqb n.count (con_len l + con_len r)))) ≡ true
  unfolding node_fit
  inner_fit e = rw (ne_eqb n.kind 0 e) at h

  pub cells_fit : (n.kind ≡ 0 → ⊥) → n.first + con_len n ≤ nc
  cells_fit e = leb-true _ _ (and_left (leb (n.first + con_len n) nc) _ (inner_fit e))

  pub unit_fit : n.kind ≡ 1 → (ltb n.left k ≡ true) × (ltb n.right k ≡ true) × (eqb n.count (con_len l + con_len r) ≡ true)
  unit_fit e =
      let g : (not (is_unit n) || ((ltb n.left k && ltb n.right k) && eqb n.count (con_len l + con_len r))) ≡ true
      = and_right (leb (n.first + con_len n) nc) _ (inner_fit (λ z. omega arith)) in
      ands3 (ltb n.left k) (ltb n.right k) (eqb n.count (con_len l + con_len r)) (rw (eq-eqb n.kind 1 e) at g)

pub ok_made : (ns : List ℕ) (ni nc : ℕ) → nodes_fit ns ni nc ≡ true → Ok ns ni nc
ok_made ns ni nc h =
    record {
      unit = λ k b e. unit k b e (unit_fit _ _ _ ni nc k (at k b) e);
      leaf = λ k b e. leaf_fit _ _ _ ni nc k (at k b) e;
      cells = λ k b e. cells_fit _ _ _ ni nc k (at k b) e;
    }
  where
    at : (k : ℕ) → k < length ns / node_words → fit_at ns ni nc k ≡ true
    at k b = all_at (length ns / node_words) (fit_at ns ni nc) h k b

    unit : (k : ℕ) → k < length ns / node_words → (node_at ns k).kind ≡ 1
        → (ltb (node_at ns k).left k ≡ true) × (ltb (node_at ns k).right k ≡ true) × (eqb (node_at ns k).count (con_len (node_at ns (node_at ns k).left) + con_len (node_at ns (node_at ns k).right)) ≡ true) → UnitOk ns k
    unit k b e t = record { left_below = ltb-true _ _ t.0; right_below = ltb-true _ _ t.1; sum = eqb-true _ _ t.2 }

pub inputs_neg : (ins : List ℤ) → inputs_ok ins (length ins) (2 ^ 31) ≡ true → Neg ins
inputs_neg ins h j l =
    neg_low (get_or ins j (pos 0))
    (lit_facts (get_or ins j (pos 0)) (2 ^ 31) (all_at (length ins) (λ i. lit_ok (get_or ins i (pos 0)) (2 ^ 31)) (and_right (leb (length ins) (length ins)) (all_below (length ins) (λ i. lit_ok (get_or ins i (pos 0)) (2 ^ 31))) h) j l)).low

pub cells_neg : (lits : List ℤ) (marks : List ℕ) → cells_ok lits marks (length lits) 1 (2 ^ 31) ≡ true → Neg lits
cells_neg lits marks h j l =
    let test : ℕ → Bool = λ i. cell_ok (get_or lits i (pos 0)) (get_or marks i 0) 1 (2 ^ 31) in
    let g = and_right (leb (length lits) (length lits)) (leb (length lits) (length marks) && all_below (length lits) test) h in
    neg_held (get_or lits j (pos 0)) 1 (2 ^ 31) (omega arith)
    (cell_facts (get_or lits j (pos 0)) (get_or marks j 0) 1 (2 ^ 31) (all_at (length lits) test (and_right (leb (length lits) (length marks)) (all_below (length lits) test) g) j l)).lit

-- the same variables, and words from another place
pub moved : (ns : List ℕ) (ins lits : List ℤ) (marks : List ℕ) (u : Run) (w : ℕ) → w ≤ 1200000 → Fit ns ins lits marks u → Fit ns ins lits marks (from u.next w)
moved ns ins lits marks u w h f = record { ok = f.ok; same = f.same; neg_ins = f.neg_ins; neg_lits = f.neg_lits; some = f.some; counted = omega arith }

pub node_is : (ns : List ℕ) (ni nc k : ℕ) (n l r : Node) → n ≡ node_at ns k → l ≡ node_at ns n.left → r ≡ node_at ns n.right → node_fit n l r ni nc k ≡ fit_at ns ni nc k
node_is ns ni nc k n l r a b d = rw (b, d, a)

pub fit_made : (ns : List ℕ) (ins lits : List ℤ) (marks : List ℕ) (a b c : Bool) → a ≡ nodes_fit ns (length ins) (length lits) → b ≡ inputs_ok ins (length ins) (2 ^ 31) → c ≡ cells_ok lits marks (length lits) 1 (2 ^ 31)
    → length lits ≡ length marks → ((a && b) && c) ≡ true → Fit ns ins lits marks (from 4097 0)
fit_made ns ins lits marks a b c ea eb ec h e =
    let k = ands3 a b c e in
    record {
      ok = ok_made ns (length ins) (length lits) (sym ea ∙ k.0);
      same = sym h;
      neg_ins = inputs_neg ins (sym eb ∙ k.1);
      neg_lits = cells_neg lits marks (sym ec ∙ k.2);
      some = omega arith;
      counted = omega arith;
    }
