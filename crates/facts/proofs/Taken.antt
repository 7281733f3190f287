-- Literals that are taken in order: the law of "Take a literal (the next variable) if there is none", once and again, in one proof for reserve and for
-- the demands. Assumes nothing.
use Rattle.std.specs.Prelude.{ℕ, zero, suc, ◌+◌, ◌-◌, ◌<◌, ◌≤◌, List, [], ◌∷◌, ◌++◌, true, false, ◌≡◌, refl, ◌⊎◌, length, get_or, set, ℤ, pos, negsuc, nat_abs}
use Rattle.std.proofs.Common.{sym, ap, ◌∙◌, inl, inr, ⊎_elim, arith, length-append, length-set, get_or-set_same, get_or-set_other}
use Rattle.std.proofs.Math.Decide.{ℕ_discrete}
use Rattle.std.proofs.Math.ListN.{get_or-append, get_or-eq_default}
use Rattle.std.proofs.lemmas.List.{set-append_left}
use Rattle.paper.specs.Below.{side}
use Rattle.paper.specs.Rows.{is_zero}
use Rattle.paper.specs.Plain.{taken_lits, taken_next}
use Rattle.paper.specs.Upkeep.{Stock, stock, give, give_all}
use Rattle.facts.specs.Facts.{Held}
use Rattle.facts.specs.Taken.{OrderKth, InOrder, Kth, Take, Taken, cell_lit, left, took}

-- a literal is 0 or not
pub zero_or : (x : ℤ) → (x ≡ pos 0) ⊎ (is_zero x ≡ false)
zero_or (pos zero) = inl refl
zero_or (pos (suc n)) = inr refl
zero_or (negsuc n) = inr refl

pub not_zero : (x : ℤ) {G : Type 0} → x ≡ pos 0 → is_zero x ≡ false → G
not_zero x e h = absurd (let z : true ≡ false = ap is_zero (sym e) ∙ h in let y : ◌≡◌ {A = ℕ} 0 1 = cc in omega arith)

pub var_some : (n : ℕ) → 1 ≤ n → is_zero (pos n) ≡ false
var_some zero h = absurd (omega arith)
var_some (suc n) h = refl

pub held_some : {x : ℤ} {f next : ℕ} → 1 ≤ f → Held x f next → is_zero x ≡ false
held_some h v = ap is_zero v.is ∙ var_some v.var (omega (arith, v.from))

pub same_var : (m n : ℕ) → pos m ≡ pos n → m ≡ n
same_var m n e = ap nat_abs e

-- past the row's end nothing is read
pub lit_in : (l : List ℤ) (j : ℕ) → is_zero (cell_lit l j) ≡ false → j < length l
lit_in l j h = ⊎_elim (λ (k : j < length l). k) (λ (k : length l ≤ j). not_zero (cell_lit l j) (get_or-eq_default l (pos 0) k) h) (side j (length l))

none_reads : (l : List ℤ) (at : ℕ) → at < length l → get_or l at (pos 1) ≡ get_or l at (pos 0)
none_reads [] at h = absurd (omega arith)
none_reads (x ∷ l) zero h = refl
none_reads (x ∷ l) (suc at) h = none_reads l at (omega arith)

pub take_case : (l : List ℤ) (at n : ℕ) → Take l at n
take_case l at n = ⊎_elim within past (side at (length l))
  where
    within : at < length l → Take l at n
    within h =
        let e = none_reads l at h in
        ⊎_elim
        (λ (z : cell_lit l at ≡ pos 0). let q : is_zero (get_or l at (pos 1)) ≡ true = ap is_zero (e ∙ z) in took h z (rw q) (rw q))
        (λ (z : is_zero (cell_lit l at) ≡ false). let q : is_zero (get_or l at (pos 1)) ≡ false = ap is_zero e ∙ z in left (λ k. z) (rw q) (rw q))
        (zero_or (cell_lit l at))

    past : length l ≤ at → Take l at n
    past h = let q : is_zero (get_or l at (pos 1)) ≡ false = ap is_zero (get_or-eq_default l (pos 1) h) in left (λ k. absurd (omega arith)) (rw q) (rw q)

-- a cell that is not asked for keeps what it had
pub take_else : (l : List ℤ) (at n j : ℕ) → (j ≡ at → ⊥) → cell_lit (taken_lits l at n) j ≡ cell_lit l j
take_else l at n j h = go (take_case l at n)
  where
    go : Take l at n → cell_lit (taken_lits l at n) j ≡ cell_lit l j
    go (took a z el en) = rw (el) (get_or-set_other l at j (pos n) (pos 0) h)
    go (left a el en) = rw (el)

-- a literal that is there stays
take_keep : (l : List ℤ) (at n j : ℕ) → is_zero (cell_lit l j) ≡ false → cell_lit (taken_lits l at n) j ≡ cell_lit l j
take_keep l at n j h = go (take_case l at n)
  where
    go : Take l at n → cell_lit (taken_lits l at n) j ≡ cell_lit l j
    go (took a z el en) = rw (el) (get_or-set_other l at j (pos n) (pos 0) (λ e. not_zero (cell_lit l j) (ap (cell_lit l) e ∙ z) h))
    go (left a el en) = rw (el)

take_size : (l : List ℤ) (at n : ℕ) → length (taken_lits l at n) ≡ length l
take_size l at n = go (take_case l at n)
  where
    go : Take l at n → length (taken_lits l at n) ≡ length l
    go (took a z el en) = rw (el) (length-set l at (pos n))
    go (left a el en) = rw (el)

take_most : (l : List ℤ) (at n : ℕ) → taken_next l at n ≤ n + 1
take_most l at n = go (take_case l at n)
  where
    go : Take l at n → taken_next l at n ≤ n + 1
    go (took a z el en) = omega arith
    go (left a el en) = omega arith

-- a cell without a literal takes the next variable
pub take_none : (l : List ℤ) (at n : ℕ) → at < length l → cell_lit l at ≡ pos 0 → (cell_lit (taken_lits l at n) at ≡ pos n) × (taken_next l at n ≡ n + 1)
take_none l at n h z = go (take_case l at n)
  where
    go : Take l at n → (cell_lit (taken_lits l at n) at ≡ pos n) × (taken_next l at n ≡ n + 1)
    go (took k y el en) = (ap (λ (x : List ℤ). cell_lit x at) el ∙ get_or-set_same l at (pos n) (pos 0) h, en)
    go (left k el en) = not_zero (cell_lit l at) z (k h)

-- the cell then has a literal
pub take_held : (l : List ℤ) (at n : ℕ) → 1 ≤ n → at < length l → is_zero (cell_lit (taken_lits l at n) at) ≡ false
take_held l at n some h = go (take_case l at n)
  where
    go : Take l at n → is_zero (cell_lit (taken_lits l at n) at) ≡ false
    go (took k z el en) = rw (el) (ap is_zero (get_or-set_same l at (pos n) (pos 0) h) ∙ var_some n some)
    go (left k el en) = rw (el) (k h)

-- ---- a list of cells, one after the other

pub give_append : (ks js : List ℕ) (s : Stock) → give_all (ks ++ js) s ≡ give_all js (give_all ks s)
unfolding give_all
give_append [] js s = refl
give_append (k ∷ ks) js s = give_append ks js (give k s)

give_size : (ks : List ℕ) (s : Stock) → length (give_all ks s).lits ≡ length s.lits
unfolding give_all give
give_size [] s = refl
give_size (k ∷ ks) s = give_size ks (give k s) ∙ take_size s.lits k s.next

give_keep : (ks : List ℕ) (s : Stock) (j : ℕ) → is_zero (cell_lit s.lits j) ≡ false → cell_lit (give_all ks s).lits j ≡ cell_lit s.lits j
unfolding give_all give
give_keep [] s j h = refl
give_keep (k ∷ ks) s j h = let e = take_keep s.lits k s.next j h in give_keep ks (give k s) j (ap is_zero e ∙ h) ∙ e

give_else : (ks : List ℕ) (s : Stock) (j : ℕ) → ((k : ℕ) → k < length ks → get_or ks k 0 ≡ j → ⊥) → cell_lit (give_all ks s).lits j ≡ cell_lit s.lits j
unfolding give_all give
give_else [] s j h = refl
give_else (k ∷ ks) s j h =
    give_else ks (give k s) j (λ i b e. h (suc i) (omega arith) e)
    ∙ take_else s.lits k s.next j (λ e. h 0 (omega arith) (sym e))

-- no more variables than cells
give_most : (ks : List ℕ) (s : Stock) → (give_all ks s).next ≤ s.next + length ks
unfolding give_all give
give_most [] s = omega arith
give_most (k ∷ ks) s = omega (arith, give_most ks (give k s), take_most s.lits k s.next)

-- where each cell of the list takes a variable, the first does
record First (k : ℕ) (ks : List ℕ) (l : List ℤ) (n : ℕ) : Type 0 where
  room : k < length l
  none : cell_lit l k ≡ pos 0
  is : give k (stock l n) ≡ stock (set l k (pos n)) (n + 1)
  rest : (give_all ks (stock (set l k (pos n)) (n + 1))).next ≡ n + 1 + length ks

first_takes : (k : ℕ) (ks : List ℕ) (l : List ℤ) (n : ℕ) → (give_all (k ∷ ks) (stock l n)).next ≡ n + length (k ∷ ks) → First k ks l n
unfolding give_all give
first_takes k ks l n e = go (take_case l k n)
  where
    go : Take l k n → First k ks l n
    go (took h z el en) =
        let q : give k (stock l n) ≡ stock (set l k (pos n)) (n + 1) = rw (el, en) in
        record { room = h; none = z; is = q; rest = let d = ap (λ (s : Stock). (give_all ks s).next) q in omega (arith, d, e) }
    go (left h el en) = absurd (let m = give_most ks (give k (stock l n)) in omega (arith, m, e, en))

pub order_refl : (l : List ℤ) (n : ℕ) → InOrder l n l n
unfolding give_all
order_refl l n = record { cells = []; given = refl; each = omega arith }

-- one literal taken
pub order_one : (l : List ℤ) (at n : ℕ) → InOrder l n (taken_lits l at n) (taken_next l at n)
unfolding give_all give
order_one l at n = go (take_case l at n)
  where
    go : Take l at n → InOrder l n (taken_lits l at n) (taken_next l at n)
    go (took h z el en) = record { cells = at ∷ []; given = refl; each = en }
    go (left h el en) = rw (el, en) (order_refl l n)

-- one run after another
pub order_trans : {l l' l'' : List ℤ} {n n' n'' : ℕ} → InOrder l n l' n' → InOrder l' n' l'' n'' → InOrder l n l'' n''
order_trans {l} {n = n} p q =
    record {
      cells = p.cells ++ q.cells;
      given = q.given ∙ ap (give_all q.cells) p.given ∙ sym (give_append p.cells q.cells (stock l n));
      each = omega (arith, p.each, q.each, length-append p.cells q.cells);
    }

-- reserve takes one literal after another: its list, without the cells that have one
pub give_order : (ks : List ℕ) (s : Stock) → InOrder s.lits s.next (give_all ks s).lits (give_all ks s).next
unfolding give_all give
give_order [] s = order_refl s.lits s.next
give_order (k ∷ ks) s = order_trans (order_one s.lits k s.next) (give_order ks (give k s))

pub order_size : {l l' : List ℤ} {n n' : ℕ} → InOrder l n l' n' → length l' ≡ length l
order_size {l} {n = n} o = ap (λ (s : Stock). length s.lits) o.given ∙ give_size o.cells (stock l n)

pub order_up : {l l' : List ℤ} {n n' : ℕ} → InOrder l n l' n' → n ≤ n'
order_up o = omega (arith, o.each)

-- a literal that is there stays
pub order_keep : {l l' : List ℤ} {n n' : ℕ} → InOrder l n l' n' → (j : ℕ) → is_zero (cell_lit l j) ≡ false → cell_lit l' j ≡ cell_lit l j
order_keep {l} {n = n} o j h = ap (λ (s : Stock). cell_lit s.lits j) o.given ∙ give_keep o.cells (stock l n) j h

pub order_held : {l l' : List ℤ} {n n' : ℕ} → InOrder l n l' n' → (j : ℕ) → is_zero (cell_lit l j) ≡ false → is_zero (cell_lit l' j) ≡ false
order_held o j h = ap is_zero (order_keep o j h) ∙ h

-- a cell that is not in the list keeps what it had
pub order_else : {l l' : List ℤ} {n n' : ℕ} (o : InOrder l n l' n') (j : ℕ) → ((k : ℕ) → k < length o.cells → get_or o.cells k 0 ≡ j → ⊥) → cell_lit l' j ≡ cell_lit l j
order_else {l} {n = n} o j h = ap (λ (s : Stock). cell_lit s.lits j) o.given ∙ give_else o.cells (stock l n) j h

give_kth : (ks : List ℕ) (l : List ℤ) (n : ℕ) → 1 ≤ n → (give_all ks (stock l n)).next ≡ n + length ks → (k : ℕ) → k < length ks → Kth l n (give_all ks (stock l n)).lits k (get_or ks k 0)
unfolding give_all
give_kth [] l n some e k h = absurd (omega arith)
give_kth (x ∷ ks) l n some e k h = go (give_kth ks (set l x (pos n)) (n + 1) (omega arith) (first_takes x ks l n e).rest) k h
  where
    f : First x ks l n
    f = first_takes x ks l n e

    here : cell_lit (set l x (pos n)) x ≡ pos n
    here = get_or-set_same l x (pos n) (pos 0) f.room

    after : (j : ℕ) → cell_lit (give_all ks (give x (stock l n))).lits j ≡ cell_lit (give_all ks (stock (set l x (pos n)) (n + 1))).lits j
    after j = ap (λ (s : Stock). cell_lit (give_all ks s).lits j) f.is

    later : (k j : ℕ) → Kth (set l x (pos n)) (n + 1) (give_all ks (stock (set l x (pos n)) (n + 1))).lits k j → Kth l n (give_all ks (give x (stock l n))).lits (suc k) j
    later k j g =
        let e : n + 1 + k ≡ n + suc k = omega arith in
        record {
          within = omega (arith, g.within, length-set l x (pos n));
          none = sym (get_or-set_other l x j (pos n) (pos 0) (λ q. not_zero (cell_lit (set l x (pos n)) j) g.none (ap is_zero (ap (cell_lit (set l x (pos n))) q ∙ here) ∙ var_some n some))) ∙ g.none;
          lit = after j ∙ g.lit ∙ ap pos e;
        }

    go : ((k : ℕ) → k < length ks → Kth (set l x (pos n)) (n + 1) (give_all ks (stock (set l x (pos n)) (n + 1))).lits k (get_or ks k 0))
        → (k : ℕ) → k < length (x ∷ ks) → Kth l n (give_all ks (give x (stock l n))).lits k (get_or (x ∷ ks) k 0)
    go rec zero b =
        let e : n ≡ n + 0 = omega arith in
        record { within = f.room; none = f.none; lit = after x ∙ give_keep ks (stock (set l x (pos n)) (n + 1)) x (ap is_zero here ∙ var_some n some) ∙ here ∙ ap pos e }
    go rec (suc k) b = later k (get_or ks k 0) (rec k (omega arith))

-- THE LAW of the order: the k-th cell of the list had no literal and gets n + k
pub order_kth : {l l' : List ℤ} {n n' : ℕ} → OrderKth l n l' n'
order_kth {l} {l'} {n} some o k h =
    let j = get_or o.cells k 0 in
    let g = give_kth o.cells l n some (sym (ap (λ (s : Stock). s.next) o.given) ∙ o.each) k h in
    record { within = g.within; none = g.none; lit = ap (λ (s : Stock). cell_lit s.lits j) o.given ∙ g.lit }

-- .. so no cell is twice in the list
pub order_apart : {l l' : List ℤ} {n n' : ℕ} → 1 ≤ n → (o : InOrder l n l' n') (i k : ℕ) → i < length o.cells → k < length o.cells → get_or o.cells i 0 ≡ get_or o.cells k 0 → i ≡ k
order_apart {l' = l'} {n = n} some o i k hi hk e =
    let q : n + i ≡ n + k = same_var (n + i) (n + k) (sym (order_kth some o i hi).lit ∙ ap (cell_lit l') e ∙ (order_kth some o k hk).lit) in
    omega arith

-- the same with entries behind the row
give_behind : (ks : List ℕ) (l r : List ℤ) (n : ℕ) → (give_all ks (stock l n)).next ≡ n + length ks
    → give_all ks (stock (l ++ r) n) ≡ stock ((give_all ks (stock l n)).lits ++ r) (give_all ks (stock l n)).next
unfolding give_all give
give_behind [] l r n e = refl
give_behind (k ∷ ks) l r n e = go (give_behind ks (set l k (pos n)) r (n + 1) (first_takes k ks l n e).rest) (take_case (l ++ r) k n)
  where
    f : First k ks l n
    f = first_takes k ks l n e

    here : cell_lit (l ++ r) k ≡ cell_lit l k
    here = get_or-append l r (pos 0) k f.room

    go : give_all ks (stock (set l k (pos n) ++ r) (n + 1)) ≡ stock ((give_all ks (stock (set l k (pos n)) (n + 1))).lits ++ r) (give_all ks (stock (set l k (pos n)) (n + 1))).next
        → Take (l ++ r) k n → give_all ks (give k (stock (l ++ r) n)) ≡ stock ((give_all ks (give k (stock l n))).lits ++ r) (give_all ks (give k (stock l n))).next
    go rec (took h z el en) =
        let a : give k (stock (l ++ r) n) ≡ stock (set l k (pos n) ++ r) (n + 1) = rw (el, en, set-append_left l r k (pos n) f.room) in
        ap (give_all ks) a ∙ rec ∙ ap (λ (s : Stock). stock ((give_all ks s).lits ++ r) (give_all ks s).next) (sym f.is)
    go rec (left h el en) = not_zero (cell_lit (l ++ r) k) (here ∙ f.none) (h (omega (arith, length-append l r, f.room)))

pub order_behind : {l l' : List ℤ} {n n' : ℕ} (r : List ℤ) → InOrder l n l' n' → InOrder (l ++ r) n (l' ++ r) n'
order_behind {l} {l'} {n} {n'} r o =
    record {
      cells = o.cells;
      given = ap (λ (s : Stock). stock (s.lits ++ r) s.next) o.given ∙ sym (give_behind o.cells l r n (sym (ap (λ (s : Stock). s.next) o.given) ∙ o.each));
      each = o.each;
    }

-- a cell is in the list or not
data Among (ks : List ℕ) (j : ℕ) : Type 0 where
  there : (k : ℕ) → k < length ks → get_or ks k 0 ≡ j → Among ks j
  nowhere : ((k : ℕ) → k < length ks → get_or ks k 0 ≡ j → ⊥) → Among ks j

among : (ks : List ℕ) (j : ℕ) → Among ks j
among [] j = nowhere (λ k h e. omega arith)
among (x ∷ ks) j = go (ℕ_discrete x j) (among ks j)
  where
    neither : (x ≡ j → ⊥) → ((k : ℕ) → k < length ks → get_or ks k 0 ≡ j → ⊥) → (k : ℕ) → k < length (x ∷ ks) → get_or (x ∷ ks) k 0 ≡ j → ⊥
    neither a b zero h e = a e
    neither a b (suc k) h e = b k (omega arith) e

    go : Dec (x ≡ j) → Among ks j → Among (x ∷ ks) j
    go (yes e) q = there 0 (omega arith) e
    go (no e) (there k h q) = there (suc k) (omega arith) q
    go (no e) (nowhere f) = nowhere (neither e f)

pub order_taken : {l l' : List ℤ} {n n' : ℕ} → 1 ≤ n → InOrder l n l' n' → Taken l n l' n'
order_taken {l} {l'} {n} {n'} some o =
    record {
      size = order_size o;
      up = order_up o;
      keep = order_keep o;
      new = λ j z. new j z (among o.cells j);
      all = λ v p q. all v (order_kth some o (v - n) (omega (arith, o.each))) (omega arith);
      once = λ i j zi zj s e. once i j zi zj s e (among o.cells i) (among o.cells j);
    }
  where
    lit : (j k : ℕ) → k < length o.cells → get_or o.cells k 0 ≡ j → cell_lit l' j ≡ pos (n + k)
    lit j k h e = ap (cell_lit l') (sym e) ∙ (order_kth some o k h).lit

    new : (j : ℕ) → cell_lit l j ≡ pos 0 → Among o.cells j → (cell_lit l' j ≡ pos 0) ⊎ Held (cell_lit l' j) n n'
    new j z (there k h e) = inr (record { var = n + k; is = lit j k h e; from = omega arith; below = omega (arith, o.each) })
    new j z (nowhere f) = inl (order_else o j f ∙ z)

    all : (v : ℕ) → Kth l n l' (v - n) (get_or o.cells (v - n) 0) → n + (v - n) ≡ v → (j : ℕ) × (j < length l) × (cell_lit l j ≡ pos 0) × (cell_lit l' j ≡ pos v)
    all v g e = (get_or o.cells (v - n) 0, g.within, g.none, g.lit ∙ ap pos e)

    once : (i j : ℕ) → cell_lit l i ≡ pos 0 → cell_lit l j ≡ pos 0 → is_zero (cell_lit l' i) ≡ false → cell_lit l' i ≡ cell_lit l' j → Among o.cells i → Among o.cells j → i ≡ j
    once i j zi zj s e (there k h p) (there m g q) =
        let d : n + k ≡ n + m = same_var (n + k) (n + m) (sym (lit i k h p) ∙ e ∙ lit j m g q) in
        let b : k ≡ m = omega arith in
        sym p ∙ ap (λ (x : ℕ). get_or o.cells x 0) b ∙ q
    once i j zi zj s e (nowhere f) b = not_zero (cell_lit l' i) (order_else o i f ∙ zi) s
    once i j zi zj s e (there k h p) (nowhere f) = not_zero (cell_lit l' i) (e ∙ order_else o j f ∙ zj) s

-- reserve takes so
pub all_taken : (ks : List ℕ) (s : Stock) → 1 ≤ s.next → Taken s.lits s.next (give_all ks s).lits (give_all ks s).next
all_taken ks s some = order_taken some (give_order ks s)
