-- What a call leaves as it was: the nodes, their inputs and keys, the literals that are given, and, but for reset, the marks.
use Rattle.std.specs.Prelude.{◌≡◌, refl, Bool, false, List, ℕ, ◌<◌, ◌≤◌, ℤ, pos, length, get_or, drop}
use Rattle.std.proofs.Common.{sym, ◌∙◌, ap, ⊎_elim, arith}
use Rattle.std.proofs.Math.ListN.{get_or-append}
use Rattle.paper.specs.Rows.{is_zero}
use Rattle.paper.specs.Plain.{St, mark_of, has_if, has_only}
use Rattle.paper.specs.Demand.{nodes_used, cells_used, cells_back}
use Rattle.paper.specs.Calls.{Db}
use Rattle.facts.proofs.Facts.{used_at, used_length}
use Rattle.facts.specs.Taken.{InOrder}
use Rattle.facts.proofs.Taken.{zero_or, order_size, order_keep}
use Rattle.facts.specs.Ran.{Ran}
use Rattle.histories.specs.Stays.{Stays, ran_db}

pub stays_refl : (d : Db) (b : Bool) → Stays d d b
stays_refl d b =
    record {
      nodes_le = omega arith;
      cells_le = omega arith;
      first_is = refl;
      node_is = λ n s. refl;
      inputs = λ a h. refl;
      keys = λ a h. refl;
      lits = λ a h e. refl;
      ifs = λ e a h m. m;
      onlys = λ e a h m. m;
    }

-- a literal that is there stays where variables are taken
pub kept_lit : {l l' : List ℤ} {n n' : ℕ} → InOrder l n l' n' → (a : ℕ) → (get_or l a (pos 0) ≡ pos 0 → ⊥) → get_or l' a (pos 0) ≡ get_or l a (pos 0)
kept_lit {l} o a f = ⊎_elim (λ (e : get_or l a (pos 0) ≡ pos 0). absurd (f e)) (λ (e : is_zero (get_or l a (pos 0)) ≡ false). order_keep o a e) (zero_or (get_or l a (pos 0)))

pub ran_stays : (d : Db) (b : ℕ) (p : St (List ℤ)) → d.counters.cells ≤ length d.lits → d.counters.cells ≤ length d.marks
    → Ran (nodes_used d.nodes d.counters) d.counters.nodes b (cells_used d.lits d.counters) (cells_used d.marks d.counters) d.counters.next p.lits p.marks p.next
    → (cleared : Bool) → Stays d (ran_db d p) cleared
ran_stays d b p ll lm r cleared =
    let c = d.counters in
    let el : length p.lits ≡ c.cells = order_size r.order ∙ used_length c.cells d.lits ll in
    let em : length p.marks ≡ c.cells = r.size ∙ used_length c.cells d.marks lm in
    let mark_new : (a : ℕ) → a < c.cells → get_or (cells_back p.marks d.marks c) a 0 ≡ get_or p.marks a 0 = λ a h. get_or-append p.marks (drop c.cells d.marks) 0 a (omega arith) in
    let mark-old : (a : ℕ) → a < c.cells → get_or (cells_used d.marks c) a 0 ≡ get_or d.marks a 0 = λ a h. used_at c.cells d.marks a 0 h in
    let lit-old : (a : ℕ) → a < c.cells → get_or (cells_used d.lits c) a (pos 0) ≡ get_or d.lits a (pos 0) = λ a h. used_at c.cells d.lits a (pos 0) h in
    record {
      nodes_le = omega arith;
      cells_le = omega arith;
      first_is = refl;
      node_is = λ n s. refl;
      inputs = λ a h. refl;
      keys = λ a h. refl;
      lits = λ a h f. get_or-append p.lits (drop c.cells d.lits) (pos 0) a (omega arith) ∙ kept_lit r.order a (λ e. f (sym (lit-old a h) ∙ e)) ∙ lit-old a h;
      ifs = λ e a h m. ap (λ (x : ℕ). has_if (mark_of x)) (mark_new a h) ∙ r.if_kept a (ap (λ (x : ℕ). has_if (mark_of x)) (mark-old a h) ∙ m);
      onlys = λ e a h m. ap (λ (x : ℕ). has_only (mark_of x)) (mark_new a h) ∙ r.only_kept a (ap (λ (x : ℕ). has_only (mark_of x)) (mark-old a h) ∙ m);
    }
