-- What a run with clauses in a row has to do with the plain run, whose clauses are a list; and what the counts of a run hang on. Both for the
-- unweighted and for the weighted run: `Runs` says what is proved of each, and Dry.antt goes on from there for either.
use Rattle.std.specs.Prelude.{◌≡◌, refl, Bool, List, [], ◌∷◌, ◌++◌, map, ℕ, zero, suc, ◌+◌, ◌-◌, ◌≤◌, ◌^◌, min, eqb, ℤ, pos, neg_ℤ, length, get_or, set, take, drop}
use Rattle.std.proofs.Common.{sym, ap, ap₂, ◌∙◌, add-zero, arith, length-append, length-take, length-drop, length-set}
use Rattle.std.proofs.Math.Bool.{true, false, cond}
use Rattle.std.proofs.lemmas.Bool.{false≢true}
use Rattle.std.proofs.Math.Nat.{min-eq_left, min-eq_right}
use Rattle.std.proofs.Math.Decide.{dec_le}
use Rattle.std.proofs.lemmas.List.{length-map}
use Rattle.std.proofs.Math.ListN.{get_or-map}
use Rattle.std.proofs.lemmas.List.Edits.{sets}
use Rattle.std.proofs.Math.Seq.{set_out}
use Rattle.paper.specs.Span.{over}
use Rattle.paper.specs.Rows.{node_at, con_lits, is_leaf, is_zero}
use Rattle.paper.specs.Plain.{St, grow, words_of, if_clause, only_clause, clause1, clause2, clause3, lit_at, has_none, taken_lits, emit_if, emit_only, emit_both, finish_of}
use Rattle.paper.specs.Weighted.{take_lit_at, mark_at, emit_way, clause_at}
use Rattle.paper.specs.declared.Want.{Want}
use Rattle.paper.specs.declared.Todo.{Todo}
use Rattle.paper.specs.declared.Clause.{Clause}
use Rattle.paper.specs.declared.Way.{Way}
use Rattle.facts.proofs.Sinks.{over_rel, both_define, both_weigh, define_hom, weigh_hom}
use Rattle.clause.specs.Row.{lay, at_row}
use Rattle.count.specs.Run.{outs}
use Rattle.runs.specs.Counts.{Like, Runs, Sum, counting, laid, tally, weighing, zeros}

-- ---- clauses in a row: the words from w on, as far as the row goes

sets_append : (a b l : List ℤ) (i : ℕ) → sets l i (a ++ b) ≡ sets (sets l i a) (i + length a) b
sets_append [] b l i = ap (λ (n : ℕ). sets l n b) (sym (add-zero i))
sets_append (x ∷ a) b l i = let e : suc i + length a ≡ i + suc (length a) = omega arith in sets_append a b (set l i x) (suc i) ∙ ap (λ (n : ℕ). sets (sets (set l i x) (suc i) a) n b) e

pub sets_out : (a l : List ℤ) (i : ℕ) → length l ≤ i → sets l i a ≡ l
sets_out [] l i h = refl
sets_out (x ∷ a) l i h = sets_out a (set l i x) (suc i) (rw (length-set l i x) (omega arith)) ∙ set_out l i x h

len_sets : (a l : List ℤ) (i : ℕ) → length (sets l i a) ≡ length l
len_sets [] l i = refl
len_sets (x ∷ a) l i = len_sets a (set l i x) (suc i) ∙ length-set l i x

pub laid_hom : (row : List ℤ) (w : ℕ) → length row ≤ 2 ^ 62 → (out : List ℤ) (c : Clause) → laid row w (grow out c) ≡ lay (laid row w out) c
unfolding lay
laid_hom row w small out c = go (dec_le (w + length out) (2 ^ 62))
  where
    ws : List ℤ
    ws = words_of c

    counts : min (w + length (out ++ ws)) (2 ^ 62) ≡ min (min (w + length out) (2 ^ 62) + length ws) (2 ^ 62)
    counts = omega (arith, length-append out ws)

    go : Dec (w + length out ≤ 2 ^ 62) → laid row w (grow out c) ≡ record { row = sets (sets row w out) (min (w + length out) (2 ^ 62)) ws; words = min (min (w + length out) (2 ^ 62) + length ws) (2 ^ 62) }
    go (yes h) = ap₂ at_row (sets_append out ws row w ∙ ap (λ (n : ℕ). sets (sets row w out) n ws) (sym (min-eq_left h))) counts
    go (no g) =
        let h : 2 ^ 62 ≤ w + length out = omega arith in
        ap₂ at_row
        (sets_append out ws row w ∙ sets_out ws (sets row w out) (w + length out) (rw (len_sets out row w) (omega arith))
        ∙ sym (ap (λ (n : ℕ). sets (sets row w out) n ws) (min-eq_right h) ∙ sets_out ws (sets row w out) (2 ^ 62) (rw (len_sets out row w) small)))
        counts

shape_length : (l m : List ℤ) → map is_zero l ≡ map is_zero m → length l ≡ length m
shape_length l m e = sym (length-map l is_zero) ∙ ap length e ∙ length-map m is_zero

shape_none : (l m : List ℤ) (at : ℕ) → map is_zero l ≡ map is_zero m → has_none l at ≡ has_none m at
shape_none l m at e = sym (get_or-map is_zero l at (pos 1)) ∙ ap (λ (x : List Bool). get_or x at false) e ∙ get_or-map is_zero m at (pos 1)

map_set : (l : List ℤ) (at : ℕ) (v : ℤ) → map is_zero (set l at v) ≡ set (map is_zero l) at (is_zero v)
map_set [] at v = refl
map_set (z ∷ l) zero v = refl
map_set (z ∷ l) (suc n) v = ap (λ (x : List Bool). is_zero z ∷ x) (map_set l n v)

pos_nonzero : (n : ℕ) → 1 ≤ n → is_zero (pos n) ≡ false
pos_nonzero zero p = absurd (omega arith)
pos_nonzero (suc n) p = refl

shape_taken : (l m : List ℤ) (at x y : ℕ) → 1 ≤ x → 1 ≤ y → map is_zero l ≡ map is_zero m → (b : Bool) → map is_zero (cond b (set l at (pos x)) l) ≡ map is_zero (cond b (set m at (pos y)) m)
shape_taken l m at x y p q e true = map_set l at (pos x) ∙ ap₂ (λ (u : List Bool) (v : Bool). set u at v) e (pos_nonzero x p ∙ sym (pos_nonzero y q)) ∙ sym (map_set m at (pos y))
shape_taken l m at x y p q e false = e

gap_taken : (a b x y : ℕ) → x + b ≡ y + a → (c : Bool) → cond c (x + 1) x + b ≡ cond c (y + 1) y + a
gap_taken a b x y e true = omega arith
gap_taken a b x y e false = e

some_taken : (x : ℕ) → 1 ≤ x → (c : Bool) → 1 ≤ cond c (x + 1) x
some_taken x h true = omega arith
some_taken x h false = h

-- a clause's length by which literals it leaves out
if_len : (l r l' r' : List ℤ) (x y : ℕ) (o o' : ℤ) → length (words_of (if_clause l r x y o)) ≡ length (words_of (if_clause l' r' x y o'))
unfolding if_clause words_of
if_len l r l' r' x y o o' = go (eqb x 0) (eqb y 0)
  where
    go : (a b : Bool) → length (words_of (cond a (cond b (clause1 o) (clause2 (neg_ℤ (lit_at r (y - 1))) o)) (cond b (clause2 (neg_ℤ (lit_at l (x - 1))) o) (clause3 (neg_ℤ (lit_at l (x - 1))) (neg_ℤ (lit_at r (y - 1))) o))))
        ≡ length (words_of (cond a (cond b (clause1 o') (clause2 (neg_ℤ (lit_at r' (y - 1))) o')) (cond b (clause2 (neg_ℤ (lit_at l' (x - 1))) o') (clause3 (neg_ℤ (lit_at l' (x - 1))) (neg_ℤ (lit_at r' (y - 1))) o'))))
    go true true = refl
    go true false = refl
    go false true = refl
    go false false = refl

only_len : (l r l' r' : List ℤ) (x y : ℕ) (o o' : ℤ) → length l ≡ length l' → length r ≡ length r' → length (words_of (only_clause l r x y o)) ≡ length (words_of (only_clause l' r' x y o'))
unfolding only_clause words_of
only_len l r l' r' x y o o' p q = rw (p, q) (go (eqb x (length l')) (eqb y (length r')))
  where
    go : (a b : Bool) → length (words_of (cond a (cond b (clause1 (neg_ℤ o)) (clause2 (lit_at r y) (neg_ℤ o))) (cond b (clause2 (lit_at l x) (neg_ℤ o)) (clause3 (lit_at l x) (lit_at r y) (neg_ℤ o)))))
        ≡ length (words_of (cond a (cond b (clause1 (neg_ℤ o')) (clause2 (lit_at r' y) (neg_ℤ o'))) (cond b (clause2 (lit_at l' x) (neg_ℤ o')) (clause3 (lit_at l' x) (lit_at r' y) (neg_ℤ o')))))
    go true true = refl
    go true false = refl
    go false true = refl
    go false false = refl

module _ (l r l' r' : List ℤ) (i : ℕ) (o o' : ℤ) (p : length l ≡ length l') (q : length r ≡ length r') where
  same_turn : (c c' : ℕ → Clause) → ((x : ℕ) → length (words_of (c x)) ≡ length (words_of (c' x))) → (n k a b : ℕ) → a ≡ b → over n (λ x t. tally t (c x)) k a ≡ over n (λ x t. tally t (c' x)) k b
  same_turn c c' m n k a b e = over_rel (λ (x y : ℕ). x ≡ y) (λ x t. tally t (c x)) (λ x t. tally t (c' x)) (λ j x y z. ap₂ (λ (u v : ℕ). u + v) z (m j)) n k a b e

  if_tally : (a b : ℕ) → a ≡ b → emit_if tally l r i o a ≡ emit_if tally l' r' i o' b
  unfolding emit_if
  if_tally a b e = rw (p, q) (same_turn (λ x. if_clause l r x (i + 1 - x) o) (λ x. if_clause l' r' x (i + 1 - x) o') (λ x. if_len l r l' r' x (i + 1 - x) o o') _ _ a b e)

  only_tally : (a b : ℕ) → a ≡ b → emit_only tally l r i o a ≡ emit_only tally l' r' i o' b
  unfolding emit_only
  only_tally a b e = rw (p, q) (same_turn (λ x. only_clause l r x (i - x) o) (λ x. only_clause l' r' x (i - x) o') (λ x. only_len l r l' r' x (i - x) o o' p q) _ _ a b e)

  both_tally : (w : Want) (a b : ℕ) → a ≡ b → emit_both tally l r i o w a ≡ emit_both tally l' r' i o' w b
  unfolding emit_both
  both_tally w a b e = go w.fi w.fo
    where
      go : (x y : Bool) → cond y (emit_only tally l r i o (cond x (emit_if tally l r i o a) a)) (cond x (emit_if tally l r i o a) a) ≡ cond y (emit_only tally l' r' i o' (cond x (emit_if tally l' r' i o' b) b)) (cond x (emit_if tally l' r' i o' b) b)
      go true true = only_tally _ _ (if_tally a b e)
      go true false = if_tally a b e
      go false true = only_tally a b e
      go false false = e

lits_length : (ns : List ℕ) (ins l m : List ℤ) (k : ℕ) → length l ≡ length m → length (con_lits ns ins l k) ≡ length (con_lits ns ins m k)
unfolding con_lits
lits_length ns ins l m k e = go (is_leaf (node_at ns k))
  where
    part : (n p : ℕ) → length (take n (drop p l)) ≡ length (take n (drop p m))
    part n p = length-take n (drop p l) ∙ ap (min n) (length-drop p l ∙ ap (λ (x : ℕ). x - p) e ∙ sym (length-drop p m)) ∙ sym (length-take n (drop p m))

    go : (b : Bool) → length (cond b (take 1 (drop (node_at ns k).first ins)) (take (outs ns k) (drop (node_at ns k).first l))) ≡ length (cond b (take 1 (drop (node_at ns k).first ins)) (take (outs ns k) (drop (node_at ns k).first m)))
    go true = refl
    go false = part (outs ns k) (node_at ns k).first

like_finish : (a b : ℕ) (ns : List ℕ) (ins : List ℤ) (k i : ℕ) (d : Todo) (s t : St ℕ) → Like a b s t → Like a b (finish_of tally ns ins k i d s) (finish_of tally ns ins k i d t)
unfolding finish_of
like_finish a b ns ins k i d s t r =
    let at = (node_at ns k).first + i in
    let e = shape_none s.lits t.lits at r.shape in
    let sh : map is_zero (taken_lits s.lits at s.next) ≡ map is_zero (taken_lits t.lits at t.next) = rw e (shape_taken s.lits t.lits at s.next t.next r.some_s r.some_t r.shape (has_none t.lits at)) in
    let n = shape_length (taken_lits s.lits at s.next) (taken_lits t.lits at t.next) sh in
    record {
      marks = ap (λ (m : List ℕ). set m at d.mark) r.marks;
      shape = sh;
      gap = rw e (gap_taken a b s.next t.next r.gap (has_none t.lits at));
      some_s = some_taken s.next r.some_s (has_none s.lits at);
      some_t = some_taken t.next r.some_t (has_none t.lits at);
      out = both_tally _ _ _ _ i _ _ (lits_length ns ins _ _ (node_at ns k).left n) (lits_length ns ins _ _ (node_at ns k).right n) d.want s.out t.out r.out;
    }

like_take : (a b at : ℕ) (s t : St ℕ) → Like a b s t → Like a b (take_lit_at tally at s) (take_lit_at tally at t)
unfolding take_lit_at
like_take a b at s t r =
    let e = shape_none s.lits t.lits at r.shape in
    record {
      marks = r.marks;
      shape = rw e (shape_taken s.lits t.lits at s.next t.next r.some_s r.some_t r.shape (has_none t.lits at));
      gap = rw e (gap_taken a b s.next t.next r.gap (has_none t.lits at));
      some_s = some_taken s.next r.some_s (has_none s.lits at);
      some_t = some_taken t.next r.some_t (has_none t.lits at);
      out = r.out;
    }

like_mark : (a b at : ℕ) (s t : St ℕ) → Like a b s t → Like a b (mark_at tally at s) (mark_at tally at t)
unfolding mark_at
like_mark a b at s t r = record { marks = ap (λ (m : List ℕ). set m at 1) r.marks; shape = r.shape; gap = r.gap; some_s = r.some_s; some_t = r.some_t; out = r.out }

emit_tally : (l r l' r' : List ℤ) (d : Way) (o o' : ℤ) (a b : ℕ) → a ≡ b → emit_way tally l r d o a ≡ emit_way tally l' r' d o' b
unfolding emit_way
emit_tally l r l' r' d o o' a b e = go (eqb (d.x + d.y) 0)
  where
    go : (c : Bool) → cond c a (tally a (if_clause l r d.x d.y o)) ≡ cond c b (tally b (if_clause l' r' d.x d.y o'))
    go true = e
    go false = ap₂ (λ (u v : ℕ). u + v) e (if_len l r l' r' d.x d.y o o')

like_clause : (a b : ℕ) (ns : List ℕ) (ins : List ℤ) (k at : ℕ) (d : Way) (s t : St ℕ) → Like a b s t → Like a b (clause_at tally ns ins k at d s) (clause_at tally ns ins k at d t)
unfolding clause_at
like_clause a b ns ins k at d s t r =
    record { marks = r.marks; shape = r.shape; gap = r.gap; some_s = r.some_s; some_t = r.some_t; out = emit_tally _ _ _ _ d _ _ s.out t.out r.out }

zeros_set : (l : List ℤ) (at : ℕ) (v : ℤ) → has_none l at ≡ true → is_zero v ≡ false → zeros (set l at v) + 1 ≡ zeros l
unfolding zeros
zeros_set [] at v e f = absurd (false≢true e)
zeros_set (z ∷ l) zero v e f = rw (e, f) (omega arith)
zeros_set (z ∷ l) (suc n) v e f = let ih = zeros_set l n v e f in omega arith

pub zeros_length : (l : List ℤ) → zeros l ≤ length l
unfolding zeros
zeros_length [] = omega arith
zeros_length (z ∷ l) = go (is_zero z) (zeros_length l)
  where
    go : (b : Bool) → zeros l ≤ length l → cond b 1 0 + zeros l ≤ suc (length l)
    go true h = omega arith
    go false h = omega arith

sum_taken : (l : List ℤ) (at x n : ℕ) → 1 ≤ x → x + zeros l ≡ n → (b : Bool) → has_none l at ≡ b → cond b (x + 1) x + zeros (cond b (set l at (pos x)) l) ≡ n
sum_taken l at x n h e true q = omega (arith, zeros_set l at (pos x) q (pos_nonzero x h))
sum_taken l at x n h e false q = e

sum_finish : (n : ℕ) (ns : List ℕ) (ins : List ℤ) (k i : ℕ) (d : Todo) (s t : St (List ℤ)) → Sum n s t → Sum n (finish_of grow ns ins k i d s) (finish_of grow ns ins k i d t)
unfolding finish_of
sum_finish n ns ins k i d s t r =
    record {
      same = ap (finish_of grow ns ins k i d) r.same;
      some = some_taken s.next r.some (has_none s.lits ((node_at ns k).first + i));
      sum = sum_taken s.lits ((node_at ns k).first + i) s.next n r.some r.sum (has_none s.lits ((node_at ns k).first + i)) refl;
    }

sum_take : (n at : ℕ) (s t : St (List ℤ)) → Sum n s t → Sum n (take_lit_at grow at s) (take_lit_at grow at t)
unfolding take_lit_at
sum_take n at s t r =
    record {
      same = ap (take_lit_at grow at) r.same;
      some = some_taken s.next r.some (has_none s.lits at);
      sum = sum_taken s.lits at s.next n r.some r.sum (has_none s.lits at) refl;
    }

sum_mark : (n at : ℕ) (s t : St (List ℤ)) → Sum n s t → Sum n (mark_at grow at s) (mark_at grow at t)
unfolding mark_at
sum_mark n at s t r = record { same = ap (mark_at grow at) r.same; some = r.some; sum = r.sum }

sum_clause : (n : ℕ) (ns : List ℕ) (ins : List ℤ) (k at : ℕ) (d : Way) (s t : St (List ℤ)) → Sum n s t → Sum n (clause_at grow ns ins k at d s) (clause_at grow ns ins k at d t)
unfolding clause_at
sum_clause n ns ins k at d s t r = record { same = ap (clause_at grow ns ins k at d) r.same; some = r.some; sum = r.sum }

pub counting_runs : (ns : List ℕ) (ins : List ℤ) (k i : ℕ) (w : Want) → Runs (counting ns ins k i w)
counting_runs ns ins k i w =
    record {
      hom = λ S T p q h m f s. define_hom p q h m f ns ins k i w s;
      like = λ a b f s t r. both_define tally tally (Like a b) ns ins (λ x y z. z.marks) (like_finish a b ns ins) f k i w s t r;
      sum = λ n f s t r. both_define grow grow (Sum n) ns ins (λ x y z. ap (λ (u : St (List ℤ)). u.marks) z.same) (sum_finish n ns ins) f k i w s t r;
    }

pub weighing_runs : (ns : List ℕ) (ins : List ℤ) (keys : List ℕ) (k y : ℕ) → Runs (weighing ns ins keys k y)
weighing_runs ns ins keys k y =
    record {
      hom = λ S T p q h m f s. weigh_hom p q h m f ns ins keys k y s;
      like = λ a b f s t r. both_weigh tally tally (Like a b) ns ins keys (λ x y z. z.marks) (like_finish a b ns ins) (like_take a b) (like_mark a b) (like_clause a b ns ins) f k y s t r;
      sum = λ n f s t r. both_weigh grow grow (Sum n) ns ins keys (λ x y z. ap (λ (u : St (List ℤ)). u.marks) z.same) (sum_finish n ns ins) (sum_take n) (sum_mark n) (sum_clause n ns ins) f k y s t r;
    }
