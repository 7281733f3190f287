-- Clauses as words: literals then 0. Reading the words back gives the clauses.
use Rattle.std.specs.Prelude.{◌≡◌, refl, Bool, true, false, ◌⊎◌, ℕ, zero, suc, ◌<◌, ℤ, pos, negsuc, neg_ℤ, ltb}
use Rattle.std.proofs.Common.{◌∙◌, ap, inl, inr, arith, ltb-true}
use mathlib.Core.List.Memᴰ
use mathlib.Core.List.{List, [], ◌∷◌, ◌++◌, Memᴰ, append_assoc, append-nil}
use Rattle.meaning.specs.Base.{Nz, AtPrev, prev, keep}
use Rattle.meaning.proofs.Base.{at_prev_map, nz_pos}
use Rattle.meaning.specs.Table.{Kind, leaf, dummy, unit, general, Tab, Marks, lit_of, lit, held_of, Held, NodeOk, Shape, History, Own, own_if, own_only, Inv}
use Rattle.meaning.proofs.Keep.{below_of}
use Rattle.meaning.specs.Words.{AllNz, clauses_from, flat}

one_clause : (c acc w : List ℤ) → AllNz c → clauses_from acc (c ++ (pos 0 ∷ w)) ≡ (acc ++ c) ∷ clauses_from [] w
one_clause [] acc w h = rw append-nil
one_clause (pos zero ∷ c) acc w h = absurd (h (pos zero) (Memᴰ.head refl))
one_clause (pos (suc v) ∷ c) acc w h = one_clause c (acc ++ (pos (suc v) ∷ [])) w (λ z m. h z (Memᴰ.tail m)) ∙ rw append_assoc
one_clause (negsuc v ∷ c) acc w h = one_clause c (acc ++ (negsuc v ∷ [])) w (λ z m. h z (Memᴰ.tail m)) ∙ rw append_assoc

pub read_back : (h : History) → ((c : List ℤ) → Memᴰ c h → AllNz c) → clauses_from [] (flat h) ≡ h
read_back [] n = refl
read_back (c ∷ h) n = one_clause c [] (flat h) (n c (Memᴰ.head refl)) ∙ ap (λ (k : History). c ∷ k) (read_back h (λ d m. n d (Memᴰ.tail m)))

pub flat_append : (h k : History) → flat (h ++ k) ≡ flat h ++ flat k
flat_append [] k = refl
flat_append (c ∷ h) k = rw (flat_append h k, append_assoc)

nz_neg : (z : ℤ) → Nz z → Nz (neg_ℤ z)
nz_neg (pos zero) h = h
nz_neg (pos (suc v)) h = tt
nz_neg (negsuc v) h = tt

nz_cons : (z : ℤ) (c : List ℤ) → Nz z → AllNz c → AllNz (z ∷ c)
nz_cons z c h k y m = go (Memᴰ.cases_cons m)
  where
    go : (y ≡ z) ⊎ Memᴰ y c → Nz y
    go (inl e) = rw e h
    go (inr q) = k y q

nz_prev : (x : ℕ) (L : ℕ → ℤ) (c : List ℤ) → AtPrev (λ p. Nz (L p)) x → AllNz c → AllNz (prev x L c)
nz_prev zero L c h k = k
nz_prev (suc p) L c h k = nz_cons (neg_ℤ (L p)) c (nz_neg (L p) h) k

nz_keep : (b : Bool) (z : ℤ) (c : List ℤ) → (b ≡ true → Nz z) → AllNz c → AllNz (keep b z c)
nz_keep true z c h k = nz_cons z c (h refl) k
nz_keep false z c h k = k

nz_nil : AllNz []
nz_nil z m = absurd (Memᴰ.not-nil m)

held_nz : (t : Tab) (n j : ℕ) (k : Kind) → NodeOk t n k → held_of k (t.held n j) → Nz (lit_of k (t.node n).input (t.held n j))
held_nz t n j leaf o p = o.nonzero
held_nz t n j dummy o p = nz_pos (t.held n j) p
held_nz t n j unit o p = nz_pos (t.held n j) p
held_nz t n j general o p = nz_pos (t.held n j) p

-- every literal of an own clause is nonzero
pub own_nz : (t : Tab) → Shape t → (c : List ℤ) → Own t c → AllNz c
own_nz t shape c (own_if n j x y cl f) z m =
    let b = below_of t n (t.node n).kind cl.inner (shape n cl.hn) in
    let s = cl.hn in
    let l = (t.node n).left in
    let r = (t.node n).right in
    let sl : l < t.size = omega arith in
    let sr : r < t.size = omega arith in
    nz_prev x (lit t l) _ (at_prev_map (Held t l) (λ p. Nz (lit t l p)) x (λ p hp q. held_nz t l p (t.node l).kind (shape l sl) q) f.lheld)
    (nz_prev y (lit t r) _ (at_prev_map (Held t r) (λ p. Nz (lit t r p)) y (λ p hp q. held_nz t r p (t.node r).kind (shape r sr) q) f.rheld)
    (nz_cons (pos (t.held n j)) [] (nz_pos (t.held n j) cl.held) nz_nil)) z (f.is.to z m)
own_nz t shape c (own_only n j x y cl f) z m =
    let b = below_of t n (t.node n).kind cl.inner (shape n cl.hn) in
    let s = cl.hn in
    let l = (t.node n).left in
    let r = (t.node n).right in
    let sl : l < t.size = omega arith in
    let sr : r < t.size = omega arith in
    nz_keep (ltb x (t.node l).count) (lit t l x) _ (λ e. held_nz t l x (t.node l).kind (shape l sl) (f.lheld (ltb-true x (t.node l).count e)))
    (nz_keep (ltb y (t.node r).count) (lit t r y) _ (λ e. held_nz t r y (t.node r).kind (shape r sr) (f.rheld (ltb-true y (t.node r).count e)))
    (nz_cons (neg_ℤ (pos (t.held n j))) [] (nz_neg (pos (t.held n j)) (nz_pos (t.held n j) cl.held)) nz_nil)) z (f.is.to z m)

-- the words appended since the fresh call, read back, are the history
pub words_back : (t : Tab) (m : Marks) (h : History) → Inv t m h → clauses_from [] (flat h) ≡ h
words_back t m h inv = read_back h (λ c mem. own_nz t inv.shape c (inv.own c mem))
