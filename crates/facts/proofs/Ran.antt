-- What a run of a demand does to the literals, the marks and the next variable, whatever becomes of its clauses. Assumes nothing.
use Rattle.std.specs.Prelude.{ℕ, suc, ◌+◌, ◌-◌, ◌<◌, ◌≤◌, List, Bool, true, false, ◌||◌, ◌≡◌, set, ℤ, pos}
use Rattle.std.proofs.Math.Path.{refl}
use Rattle.std.proofs.Common.{sym, ap, ◌∙◌, inl, inr, ⊎_elim, arith, length-set, get_or-set_same, get_or-set_other, ne_eqb}
use Rattle.std.proofs.Math.Decide.{ℕ_discrete}
use Rattle.std.proofs.Math.ListN.{length, get_or}
use Rattle.paper.specs.Below.{side}
use Rattle.paper.specs.Rows.{node_at, is_leaf, is_dummy, is_zero, con_len}
use Rattle.paper.specs.Plain.{mark_of, mark_byte, has_if, has_only, missing_of, taken_lits, taken_next, St, finish_of, define}
use Rattle.paper.specs.Weighted.{take_lit_at, mark_at, clause_at, weigh}
use Rattle.paper.specs.declared.Want.{Want}
use Rattle.paper.specs.declared.Clause.{Clause}
use Rattle.paper.specs.declared.Way.{Way}
use Rattle.paper.specs.declared.Counters.{Counters}
use Rattle.facts.specs.Facts.{CellFacts, NodeFactsAt, a_leaf, a_dummy, a_unit, a_general, TableFacts}
use Rattle.facts.proofs.Facts.{cells_apart}
use Rattle.facts.specs.Taken.{cell_lit, InOrder}
use Rattle.facts.proofs.Taken.{not_zero, take_else, take_held, order_refl, order_one, order_trans, order_size, order_up, order_held, order_taken}
use Rattle.facts.proofs.Kept.{held_taken, some_or}
use Rattle.facts.specs.Rel.{CellOf, Stepped, Summed}
use Rattle.facts.proofs.Rel.{falls, define_rel, define_case, weigh_rel, sum_case}
use Rattle.facts.specs.Ran.{Good, Inner, Laid, Move, Ran, RanFrom, by_sum, by_unit, same}

pub laid : {holds : ℕ} {inputs : List ℤ} {keys : List ℕ} {lits : List ℤ} {marks : List ℕ} {clauses : ℕ} {c : Counters} (ns : List ℕ)
    → TableFacts (node_at ns) holds inputs keys lits marks clauses c → Laid ns c.nodes c.cells
laid {holds} {inputs} {keys} {lits} {marks} {clauses} {c} ns t =
    record {
      falling = falls ns c.nodes keys marks c.cells t.node;
      within = λ k h q. within k (t.node k h) q;
      apart = λ i k h g p q. cells_apart t i k h g (no_leaf i p) (no_dummy i p) (no_leaf k q) (no_dummy k q);
    }
  where
    no_leaf : (k : ℕ) → Inner (node_at ns k) → is_leaf (node_at ns k) ≡ false
    no_leaf k (inl q) = ne_eqb (node_at ns k).kind 0 (λ e. omega arith)
    no_leaf k (inr q) = ne_eqb (node_at ns k).kind 0 (λ e. omega arith)

    no_dummy : (k : ℕ) → Inner (node_at ns k) → is_dummy (node_at ns k) ≡ false
    no_dummy k (inl q) = ne_eqb (node_at ns k).kind 3 (λ e. omega arith)
    no_dummy k (inr q) = ne_eqb (node_at ns k).kind 3 (λ e. omega arith)

    none : (k n : ℕ) {G : Type 0} → (node_at ns k).kind ≡ n → (n ≡ 1 → ⊥) → (n ≡ 2 → ⊥) → Inner (node_at ns k) → G
    none k n e a b (inl q) = absurd (a (sym e ∙ q))
    none k n e a b (inr q) = absurd (b (sym e ∙ q))

    within : (k : ℕ) → NodeFactsAt (node_at ns) keys marks c.cells k → Inner (node_at ns k) → (node_at ns k).first + (node_at ns k).count ≤ c.cells
    within k (a_leaf e f) q = none k 0 e (λ z. omega arith) (λ z. omega arith) q
    within k (a_dummy e f) q = none k 3 e (λ z. omega arith) (λ z. omega arith) q
    within k (a_unit e f g) q = f.within
    within k (a_general e f g) q = f.within

-- ---- marks

-- a mark that is put together of two directions has them
has_if_made : (a b : Bool) → has_if (mark_of (mark_byte a b)) ≡ a
unfolding has_if mark_of mark_byte
has_if_made true true = refl
has_if_made true false = refl
has_if_made false true = refl
has_if_made false false = refl

has_only_made : (a b : Bool) → has_only (mark_of (mark_byte a b)) ≡ b
unfolding has_only mark_of mark_byte
has_only_made true true = refl
has_only_made true false = refl
has_only_made false true = refl
has_only_made false false = refl

byte_high : (a b : Bool) → mark_byte a b ≤ 3
unfolding mark_byte
byte_high true true = omega arith
byte_high true false = omega arith
byte_high false true = omega arith
byte_high false false = omega arith

or_right : (a b : Bool) → b ≡ true → (a || b) ≡ true
or_right true b h = refl
or_right false b h = h

or_left : (a b : Bool) → a ≡ true → (a || b) ≡ true
or_left a b h = rw (h)

pub todo_high : (m : ℕ) (w : Want) → (missing_of m w).mark ≤ 3
unfolding missing_of
todo_high m w = byte_high (w.fi || has_if (mark_of m)) (w.fo || has_only (mark_of m))

-- the mark once a demand is met: what was there, and what was asked
pub todo_if : (m : ℕ) (w : Want) → has_if (mark_of m) ≡ true → has_if (mark_of (missing_of m w).mark) ≡ true
unfolding missing_of
todo_if m w h = has_if_made (w.fi || has_if (mark_of m)) (w.fo || has_only (mark_of m)) ∙ or_right w.fi (has_if (mark_of m)) h

pub todo_only : (m : ℕ) (w : Want) → has_only (mark_of m) ≡ true → has_only (mark_of (missing_of m w).mark) ≡ true
unfolding missing_of
todo_only m w h = has_only_made (w.fi || has_if (mark_of m)) (w.fo || has_only (mark_of m)) ∙ or_right w.fo (has_only (mark_of m)) h

pub asked_if : (m : ℕ) (w : Want) → w.fi ≡ true → has_if (mark_of (missing_of m w).mark) ≡ true
unfolding missing_of
asked_if m w h = has_if_made (w.fi || has_if (mark_of m)) (w.fo || has_only (mark_of m)) ∙ or_left w.fi (has_if (mark_of m)) h

pub asked_only : (m : ℕ) (w : Want) → w.fo ≡ true → has_only (mark_of (missing_of m w).mark) ≡ true
unfolding missing_of
asked_only m w h = has_only_made (w.fi || has_if (mark_of m)) (w.fo || has_only (mark_of m)) ∙ or_left w.fo (has_only (mark_of m)) h

-- an unmarked cell has neither direction
none_if : (m : ℕ) {G : Type 0} → m ≡ 0 → has_if (mark_of m) ≡ true → G
unfolding has_if mark_of
none_if m e h = absurd (let z : false ≡ true = ap (λ (k : ℕ). has_if (mark_of k)) (sym e) ∙ h in let y : ◌≡◌ {A = ℕ} 0 1 = cc in omega arith)

none_only : (m : ℕ) {G : Type 0} → m ≡ 0 → has_only (mark_of m) ≡ true → G
unfolding has_only mark_of
none_only m e h = absurd (let z : false ≡ true = ap (λ (k : ℕ). has_only (mark_of k)) (sym e) ∙ h in let y : ◌≡◌ {A = ℕ} 0 1 = cc in omega arith)

-- a move, with the literals that are there later on
later : {ns : List ℕ} {nodes j m m' : ℕ} {x x' : ℤ} → (is_zero x ≡ false → is_zero x' ≡ false) → Move ns nodes j m m' x → Move ns nodes j m m' x'
later h (same e) = same e
later h (by_unit k i c e q s) = by_unit k i c e q (h s)
later h (by_sum k i c e q s) = by_sum k i c e q (h s)

again : {ns : List ℕ} {nodes j m m' m'' : ℕ} {x' x'' : ℤ} → (is_zero x' ≡ false → is_zero x'' ≡ false) → Move ns nodes j m m' x' → Move ns nodes j m' m'' x'' → Move ns nodes j m m'' x''
again h (same e) (same d) = same (d ∙ e)
again h (by_unit k i c e q s) (same d) = by_unit k i c e (omega arith) (h s)
again h (by_sum k i c e q s) (same d) = by_sum k i c e (d ∙ q) (h s)
again h p (by_unit k i c e q s) = by_unit k i c e q s
again h p (by_sum k i c e q s) = by_sum k i c e q s

pub ran_refl : (ns : List ℕ) (nodes b : ℕ) (l : List ℤ) (m : List ℕ) (n : ℕ) → Ran ns nodes b l m n l m n
ran_refl ns nodes b l m n =
    record { order = order_refl l n; lit_far = λ k i h g q o. refl; size = refl; mark = λ j. same refl; far = λ k i h g q o. refl; if_kept = λ j h. h; only_kept = λ j h. h }

pub ran_trans : {ns : List ℕ} {nodes b : ℕ} {l l' l'' : List ℤ} {m m' m'' : List ℕ} {n n' n'' : ℕ}
    → Ran ns nodes b l m n l' m' n' → Ran ns nodes b l' m' n' l'' m'' n'' → Ran ns nodes b l m n l'' m'' n''
ran_trans p q =
    record {
      order = order_trans p.order q.order;
      lit_far = λ k i h g o r. q.lit_far k i h g o r ∙ p.lit_far k i h g o r;
      size = q.size ∙ p.size;
      mark = λ j. again (order_held q.order j) (p.mark j) (q.mark j);
      far = λ k i h g o r. q.far k i h g o r ∙ p.far k i h g o r;
      if_kept = λ j h. q.if_kept j (p.if_kept j h);
      only_kept = λ j h. q.only_kept j (p.only_kept j h);
    }

pub ran_up : {ns : List ℕ} {nodes b d : ℕ} {l l' : List ℤ} {m m' : List ℕ} {n n' : ℕ} → b ≤ d → Ran ns nodes b l m n l' m' n' → Ran ns nodes d l m n l' m' n'
ran_up h p = record { order = p.order; lit_far = λ k i g o r q. p.lit_far k i (omega arith) o r q; size = p.size; mark = p.mark; far = λ k i g o r q. p.far k i (omega arith) o r q; if_kept = p.if_kept; only_kept = p.only_kept }

pub good_kept : {S : Type 0} (ns : List ℕ) (nodes nc b : ℕ) (s t : St S) → Good nc s → Ran ns nodes b s.lits s.marks s.next t.lits t.marks t.next → Good nc t
good_kept ns nodes nc b s t g r = record { some = omega (arith, g.some, order_up r.order); lit_row = omega (arith, g.lit_row, order_size r.order); mark_row = omega (arith, g.mark_row, r.size) }

pub good_taken : {S : Type 0} (put : S → Clause → S) (nc at : ℕ) (s : St S) → Good nc s → Good nc (take_lit_at put at s)
unfolding take_lit_at
good_taken put nc at s g = let one = order_one s.lits at s.next in record { some = omega (arith, g.some, order_up one); lit_row = omega (arith, g.lit_row, order_size one); mark_row = g.mark_row }

-- ---- the steps

module _ (ns : List ℕ) (nodes nc : ℕ) (lay : Laid ns nodes nc) where
  -- another node's cell is another cell
  other : (k i b e : ℕ) → k < b → k < nodes → Inner (node_at ns k) → i < (node_at ns k).count → b < nodes → Inner (node_at ns b) → (node_at ns b).first + e ≡ (node_at ns k).first + i → ⊥
  other k i b e h g q o r p eq = omega (arith, lay.apart k b h r q p)

  -- a cell of node k is set: to its literal l', to the mark v
  set_cell : (k i v : ℕ) (l : List ℤ) (m : List ℕ) (n : ℕ) (l' : List ℤ) (m' : List ℕ) (n' : ℕ) → k < nodes → Inner (node_at ns k) → i < (node_at ns k).count
      → nc ≤ length m → InOrder l n l' n'
      → ((b e : ℕ) → k < b → b < nodes → Inner (node_at ns b) → e < (node_at ns b).count → cell_lit l' ((node_at ns b).first + e) ≡ cell_lit l ((node_at ns b).first + e))
      → length m' ≡ length m
      → ((j : ℕ) → (j ≡ (node_at ns k).first + i → ⊥) → Move ns nodes j (get_or m j 0) (get_or m' j 0) (cell_lit l' j))
      → Move ns nodes ((node_at ns k).first + i) (get_or m ((node_at ns k).first + i) 0) v (cell_lit l' ((node_at ns k).first + i))
      → ((b e : ℕ) → k ≤ b → b < nodes → Inner (node_at ns b) → e < (node_at ns b).count → get_or m' ((node_at ns b).first + e) 0 ≡ get_or m ((node_at ns b).first + e) 0)
      → ((j : ℕ) → has_if (mark_of (get_or m j 0)) ≡ true → has_if (mark_of (get_or m' j 0)) ≡ true)
      → ((j : ℕ) → has_only (mark_of (get_or m j 0)) ≡ true → has_only (mark_of (get_or m' j 0)) ≡ true)
      → (has_if (mark_of (get_or m ((node_at ns k).first + i) 0)) ≡ true → has_if (mark_of v) ≡ true)
      → (has_only (mark_of (get_or m ((node_at ns k).first + i) 0)) ≡ true → has_only (mark_of v) ≡ true)
      → Ran ns nodes (k + 1) l m n l' (set m' ((node_at ns k).first + i) v) n'
  set_cell k i v l m n l' m' n' h q o row t lits size moves move far fi fo ni no' =
      record {
        order = t;
        lit_far = λ b e g r p z. lits b e (omega arith) r p z;
        size = length-set m' at v ∙ size;
        mark = λ j. marks j (ℕ_discrete j at);
        far = λ b e g r p z. get_or-set_other m' at ((node_at ns b).first + e) v 0 (λ x. other k i b e (omega arith) h q o r p x) ∙ far b e (omega arith) r p z;
        if_kept = λ j s. ifs j s (ℕ_discrete j at);
        only_kept = λ j s. onlys j s (ℕ_discrete j at);
      }
    where
      at : ℕ
      at = (node_at ns k).first + i

      in_row : at < length m'
      in_row = omega (arith, lay.within k h q, size)

      here : get_or (set m' at v) at 0 ≡ v
      here = get_or-set_same m' at v 0 in_row

      marks : (j : ℕ) → Dec (j ≡ at) → Move ns nodes j (get_or m j 0) (get_or (set m' at v) j 0) (cell_lit l' j)
      marks j (yes e) = rw (e, here) move
      marks j (no e) = rw (get_or-set_other m' at j v 0 e) (moves j e)

      ifs : (j : ℕ) → has_if (mark_of (get_or m j 0)) ≡ true → Dec (j ≡ at) → has_if (mark_of (get_or (set m' at v) j 0)) ≡ true
      ifs j s (yes e) = ap (λ (x : ℕ). has_if (mark_of (get_or (set m' at v) x 0))) e ∙ ap (λ (x : ℕ). has_if (mark_of x)) here ∙ ni (ap (λ (x : ℕ). has_if (mark_of (get_or m x 0))) (sym e) ∙ s)
      ifs j s (no e) = ap (λ (x : ℕ). has_if (mark_of x)) (get_or-set_other m' at j v 0 e) ∙ fi j s

      onlys : (j : ℕ) → has_only (mark_of (get_or m j 0)) ≡ true → Dec (j ≡ at) → has_only (mark_of (get_or (set m' at v) j 0)) ≡ true
      onlys j s (yes e) = ap (λ (x : ℕ). has_only (mark_of (get_or (set m' at v) x 0))) e ∙ ap (λ (x : ℕ). has_only (mark_of x)) here ∙ no' (ap (λ (x : ℕ). has_only (mark_of (get_or m x 0))) (sym e) ∙ s)
      onlys j s (no e) = ap (λ (x : ℕ). has_only (mark_of x)) (get_or-set_other m' at j v 0 e) ∙ fo j s

  module _ {S : Type 0} (put : S → Clause → S) (ins : List ℤ) where
    finish_ran : (k i : ℕ) → CellOf 1 ns nodes k i → (w : Want) (s t : St S) → RanFrom ns nodes nc k s t
        → RanFrom ns nodes nc (k + 1) s (finish_of put ns ins k i (missing_of (get_or s.marks ((node_at ns k).first + i) 0) w) t)
    unfolding finish_of
    finish_ran k i c w s t p g =
        let r = p g in
        let at = (node_at ns k).first + i in
        let m = get_or s.marks at 0 in
        let h = good_kept ns nodes nc k s t g r in
        let room : at < length t.lits = omega (arith, lay.within k c.below (inl c.is), c.out, h.lit_row) in
        let one = order_one t.lits at t.next in
        set_cell k i (missing_of m w).mark s.lits s.marks s.next (taken_lits t.lits at t.next) t.marks (taken_next t.lits at t.next) c.below (inl c.is) c.out
        g.mark_row (order_trans r.order one)
        (λ b e z x y q. take_else t.lits at t.next ((node_at ns b).first + e) (other k i b e z c.below (inl c.is) c.out x y) ∙ r.lit_far b e (omega arith) x y q) r.size
        (λ j e. later (order_held one j) (r.mark j))
        (by_unit k i c refl (todo_high m w) (take_held t.lits at t.next h.some room))
        (λ b e z x y q. r.far b e z x y q) r.if_kept r.only_kept (todo_if m w) (todo_only m w)

    sum_ran : (k i : ℕ) → CellOf 2 ns nodes k i → (s t : St S) → get_or s.marks ((node_at ns k).first + i) 0 ≡ 0
        → RanFrom ns nodes nc k (take_lit_at put ((node_at ns k).first + i) s) t → RanFrom ns nodes nc (k + 1) s (mark_at put ((node_at ns k).first + i) t)
    unfolding take_lit_at mark_at
    sum_ran k i c s t z p g =
        let at = (node_at ns k).first + i in
        let one = order_one s.lits at s.next in
        let r = p (good_taken put nc at s g) in
        let room : at < length s.lits = omega (arith, lay.within k c.below (inr c.is), c.out, g.lit_row) in
        set_cell k i 1 s.lits s.marks s.next t.lits t.marks t.next c.below (inr c.is) c.out
        g.mark_row (order_trans one r.order)
        (λ b e z x y q. r.lit_far b e (omega arith) x y q ∙ take_else s.lits at s.next ((node_at ns b).first + e) (other k i b e z c.below (inr c.is) c.out x y)) r.size
        (λ j e. r.mark j)
        (by_sum k i c refl refl (order_held r.order at (take_held s.lits at s.next g.some room)))
        (λ b e h x y q. r.far b e h x y q) r.if_kept r.only_kept (λ h. none_if (get_or s.marks at 0) z h) (λ h. none_only (get_or s.marks at 0) z h)

    from_refl : (b : ℕ) (s : St S) → RanFrom ns nodes nc b s s
    from_refl b s g = ran_refl ns nodes b s.lits s.marks s.next

    from_trans : (b : ℕ) (s t u : St S) → RanFrom ns nodes nc b s t → RanFrom ns nodes nc b t u → RanFrom ns nodes nc b s u
    from_trans b s t u p q g = ran_trans (p g) (q (good_kept ns nodes nc b s t g (p g)))

    from_up : (b d : ℕ) (s t : St S) → b ≤ d → RanFrom ns nodes nc b s t → RanFrom ns nodes nc d s t
    from_up b d s t h p g = ran_up h (p g)

    clause_ran : (b k at : ℕ) (p : Way) (s : St S) → RanFrom ns nodes nc b s (clause_at put ns ins k at p s)
    unfolding clause_at
    clause_ran b k at p s g = ran_refl ns nodes b s.lits s.marks s.next

    -- THE LAW of the unweighted run
    pub define_ran : (f k i : ℕ) (w : Want) (s : St S) → k < nodes → i < con_len (node_at ns k) → RanFrom ns nodes nc (k + 1) s (define put f ns ins k i w s)
    define_ran f k i w s h o = define_rel put ns ins nodes lay.falling (RanFrom ns nodes nc) from_refl from_trans from_up finish_ran f k i w s h o

    -- THE LAW of the weighted run
    pub weigh_ran : (keys : List ℕ) (f k y : ℕ) (s : St S) → k < nodes → y ≤ con_len (node_at ns k) → RanFrom ns nodes nc (k + 1) s (weigh put f ns ins keys k y s)
    weigh_ran keys f k y s h o = weigh_rel put ns ins nodes lay.falling (RanFrom ns nodes nc) from_refl from_trans from_up finish_ran keys clause_ran sum_ran f k y s h o

    -- .. and of what a demand of one cell comes to
    pub define_step : (f k i : ℕ) (w : Want) (s : St S) → CellOf 1 ns nodes k i → Stepped put ns ins (RanFrom ns nodes nc) k i w s (define put (suc f) ns ins k i w s)
    define_step f k i w s c = define_case put ns ins nodes lay.falling (RanFrom ns nodes nc) from_refl from_trans from_up finish_ran f k i w s c

    pub sum_step : (keys : List ℕ) (f k y : ℕ) (s : St S) → 1 ≤ y → CellOf 2 ns nodes k (y - 1) → Summed put ns (RanFrom ns nodes nc) k (y - 1) s (weigh put (suc f) ns ins keys k y s)
    sum_step keys f k y s h c = sum_case put ns ins nodes lay.falling (RanFrom ns nodes nc) from_refl from_trans from_up finish_ran keys clause_ran sum_ran f k y s h c

-- ---- so the cells pass afterwards

pub ran_cell : {ns : List ℕ} {nodes b : ℕ} {l l' : List ℤ} {m m' : List ℕ} {n n' : ℕ} (f : ℕ) → 1 ≤ f → f ≤ n → Ran ns nodes b l m n l' m' n'
    → (j : ℕ) → CellFacts (cell_lit l j) (get_or m j 0) f n → CellFacts (cell_lit l' j) (get_or m' j 0) f n'
ran_cell {ns} {nodes} {l = l} {l' = l'} {m = m} {m' = m'} f some low r j c =
    record { mark_high = high (r.mark j); mark_held = λ e. held (r.mark j) e; lit = held_taken f low (order_taken (omega arith) r.order) j c.lit (some_or (cell_lit l j)) }
  where
    high : Move ns nodes j (get_or m j 0) (get_or m' j 0) (cell_lit l' j) → get_or m' j 0 ≤ 3
    high (same e) = omega (arith, c.mark_high)
    high (by_unit k i p e q s) = q
    high (by_sum k i p e q s) = omega arith

    held : Move ns nodes j (get_or m j 0) (get_or m' j 0) (cell_lit l' j) → cell_lit l' j ≡ pos 0 → get_or m' j 0 ≡ 0
    held (same e) z =
        e ∙ ⊎_elim (λ (some : is_zero (cell_lit l j) ≡ false). not_zero (cell_lit l' j) z (order_held r.order j some)) (λ (none : cell_lit l j ≡ pos 0). c.mark_held none) (some_or (cell_lit l j))
    held (by_unit k i p e q s) z = not_zero (cell_lit l' j) z s
    held (by_sum k i p e q s) z = not_zero (cell_lit l' j) z s

pub ran_low : {ns : List ℕ} {nodes nc b : ℕ} {l l' : List ℤ} {m m' : List ℕ} {n n' : ℕ} → Laid ns nodes nc → Ran ns nodes b l m n l' m' n'
    → (k : ℕ) → k < nodes → (node_at ns k).kind ≡ 2 → (j : ℕ) → j < (node_at ns k).count → get_or m ((node_at ns k).first + j) 0 ≤ 1 → get_or m' ((node_at ns k).first + j) 0 ≤ 1
ran_low {ns} {nodes} {nc} {l' = l'} {m = m} {m' = m'} lay r k h q j o was = go (r.mark ((node_at ns k).first + j))
  where
    go : Move ns nodes ((node_at ns k).first + j) (get_or m ((node_at ns k).first + j) 0) (get_or m' ((node_at ns k).first + j) 0) (cell_lit l' ((node_at ns k).first + j)) → get_or m' ((node_at ns k).first + j) 0 ≤ 1
    go (same e) = omega arith
    go (by_sum b i p e z s) = omega arith
    go (by_unit b i p e z s) =
        ⊎_elim (λ (l : k < b). absurd (let a = lay.apart k b l p.below (inr q) (inl p.is) in omega (arith, p.out)))
        (λ (l : b ≤ k). ⊎_elim (λ (g : b < k). absurd (let a = lay.apart b k g h (inl p.is) (inr q) in omega (arith, p.out)))
        (λ (g : k ≤ b). absurd (let y : b ≡ k = omega arith in let x : (node_at ns b).kind ≡ (node_at ns k).kind = ap (λ (n : ℕ). (node_at ns n).kind) y in omega (arith, p.is))) (side b k))
        (side k b)
