-- Literals, clauses, assignments. A literal z : ℤ is true under α by its sign; a clause is a list of literals.
use Rattle.std.specs.Prelude.{◌≡◌, refl, Bool, true, false, not, ◌⊎◌, ℕ, zero, suc, ◌<◌, ◌≤◌, ℤ, pos, negsuc, neg_ℤ}
use Rattle.std.proofs.Common.{sym, ◌∙◌, ap, true≢false, inl, inr, arith}
use Rattle.std.proofs.lemmas.Bool.{false≢true}
use mathlib.Core.List.{List, [], ◌∷◌, Memᴰ}
use Rattle.meaning.specs.Base.{AtPrev, In, Nz, Same, Sat, keep, litv, prev}

pub not_not : (b : Bool) → not (not b) ≡ b
not_not true = refl
not_not false = refl

pub neg_true : (b : Bool) → b ≡ true → not b ≡ true → ⊥
neg_true true e f = false≢true f
neg_true false e f = false≢true e

pub neg_false : (b : Bool) → b ≡ false → not b ≡ true
neg_false true e = absurd (true≢false e)
neg_false false e = refl

pub lit_neg : (α : ℕ → Bool) (z : ℤ) → Nz z → litv α (neg_ℤ z) ≡ not (litv α z)
lit_neg α (pos zero) h = absurd h
lit_neg α (pos (suc v)) h = refl
lit_neg α (negsuc v) h = sym (not_not (α (suc v)))

pub nz_pos : (v : ℕ) → 0 < v → Nz (pos v)
nz_pos zero h = let z : ⊥ = omega arith in z
nz_pos (suc v) h = tt

pub bool_cases : (b : Bool) → (b ≡ true) ⊎ (b ≡ false)
bool_cases true = inl refl
bool_cases false = inr refl

pub at_prev_map : (P Q : ℕ → Type 0) (x : ℕ) → ((p : ℕ) → suc p ≤ x → P p → Q p) → AtPrev P x → AtPrev Q x
at_prev_map P Q zero f h = tt
at_prev_map P Q (suc p) f h = f p (omega arith) h

pub prev_cong : (L K : ℕ → ℤ) (c : List ℤ) (x : ℕ) → AtPrev (λ p. L p ≡ K p) x → prev x L c ≡ prev x K c
prev_cong L K c zero h = refl
prev_cong L K c (suc p) h = ap (λ (z : ℤ). neg_ℤ z ∷ c) h

pub keep_cong : (b : Bool) (z w : ℤ) (c : List ℤ) → (b ≡ true → z ≡ w) → keep b z c ≡ keep b w c
keep_cong true z w c h = ap (λ (y : ℤ). y ∷ c) (h refl)
keep_cong false z w c h = refl

-- a true literal, negated, does not help a clause
pub pass_prev : (α : ℕ → Bool) (L : ℕ → ℤ) (c : List ℤ) (x : ℕ) → AtPrev (λ p. Nz (L p) × (litv α (L p) ≡ true)) x → Sat α (prev x L c) → Sat α c
pass_prev α L c zero h s = s
pass_prev α L c (suc p) h (inl e) = absurd (neg_true (litv α (L p)) h.1 (sym (lit_neg α (L p) h.0) ∙ e))
pass_prev α L c (suc p) h (inr s) = s

pub pass_keep : (α : ℕ → Bool) (z : ℤ) (c : List ℤ) (b : Bool) → (b ≡ true → litv α z ≡ true → ⊥) → Sat α (keep b z c) → Sat α c
pass_keep α z c true h (inl e) = absurd (h refl e)
pass_keep α z c true h (inr s) = s
pass_keep α z c false h s = s

pub sat_prev : (α : ℕ → Bool) (L : ℕ → ℤ) (c : List ℤ) (x : ℕ) → Sat α c → Sat α (prev x L c)
sat_prev α L c zero s = s
sat_prev α L c (suc p) s = inr s

pub sat_keep : (α : ℕ → Bool) (z : ℤ) (c : List ℤ) (b : Bool) → Sat α c → Sat α (keep b z c)
sat_keep α z c true s = inr s
sat_keep α z c false s = s

pub sat_keep_at : (α : ℕ → Bool) (z : ℤ) (c : List ℤ) (b : Bool) → b ≡ true → litv α z ≡ true → Sat α (keep b z c)
sat_keep_at α z c true e h = inl h
sat_keep_at α z c false e h = absurd (false≢true e)

pub same_refl : (c : List ℤ) → Same c c
same_refl c = record { to = λ z m. m; back = λ z m. m }

pub same_of : (c d : List ℤ) → c ≡ d → Same c d
same_of c d e = rw e (same_refl d)

sat_mem : (α : ℕ → Bool) (c : List ℤ) → Sat α c → (z : ℤ) × Memᴰ z c × (litv α z ≡ true)
sat_mem α [] s = absurd s
sat_mem α (z ∷ c) (inl e) = (z, Memᴰ.head refl, e)
sat_mem α (z ∷ c) (inr s) = let r = sat_mem α c s in (r.0, Memᴰ.tail r.1, r.2)

mem_sat : (α : ℕ → Bool) (z : ℤ) → litv α z ≡ true → {c : List ℤ} → Memᴰ z c → Sat α c
mem_sat α z e (Memᴰ.head p) = inl (ap (litv α) (sym p) ∙ e)
mem_sat α z e (Memᴰ.tail m) = inr (mem_sat α z e m)

pub same_sat : (α : ℕ → Bool) (c d : List ℤ) → Same c d → Sat α c → Sat α d
same_sat α c d q s = let r = sat_mem α c s in mem_sat α r.0 r.2 (q.to r.0 r.1)

pub same_sym : (c d : List ℤ) → Same c d → Same d c
same_sym c d q = record { to = q.back; back = q.to }

pub in_of : (c : List ℤ) (h : List (List ℤ)) → Memᴰ c h → In c h
in_of c h m = record { which = c; mem = m; same = same_refl c }

pub in_sub : (c : List ℤ) (h k : List (List ℤ)) → ((b : List ℤ) → Memᴰ b h → Memᴰ b k) → In c h → In c k
in_sub c h k f i = record { which = i.which; mem = f i.which i.mem; same = i.same }

pub in_sat : (α : ℕ → Bool) (c : List ℤ) (h : List (List ℤ)) → ((b : List ℤ) → Memᴰ b h → Sat α b) → In c h → Sat α c
in_sat α c h f i = same_sat α i.which c i.same (f i.which i.mem)
