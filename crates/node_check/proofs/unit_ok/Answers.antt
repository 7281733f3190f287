use Prim.Native.Nat.{ℕ, ◌+◌}
use mathlib.Core.Path.{◌≡◌, sym, ap₂, ◌∙◌}
use mathlib.Core.Bool.{Bool, not, ◌&&◌}
use lib.Dec.{eqb}
use Rattle.paper.specs.Below.{and_then, and_else}
use Rattle.paper.specs.Rows.{con_len, is_general}
use Rattle.paper.specs.Table.{unit_ok}
use Rattle.node_check.proofs.unit_ok.Goals as goal

-- the tests before the keys, as the definition has them
before : (a b x x2 y y2 s s2 : Bool) → x ≡ x2 → y ≡ y2 → s ≡ s2 → ((((a && b) && not x) && not y) && s) ≡ ((((a && b) && not x2) && not y2) && s2)
before a b x x2 y y2 s s2 e f g = rw (e, f, g)

pub returns-then-n-is_general : goal.returns-then-n-is_general
unfolding unit_ok
returns-then-n-is_general c =
    let a = c.args in
    let q : c.sum_is-sum.result ≡ eqb a.n.count (con_len a.l + con_len a.r) =
    c.sum_is-sum.ensures ∙ ap₂ (λ (x : ℕ) (y : ℕ). eqb a.n.count (x + y)) c.con_len.ensures c.con_len-2.ensures in
    and_then _ _ _ (sym (before (eqb a.n.lmul 1) (eqb a.n.rmul 1) _ (is_general a.l) _ (is_general a.r) _ _ c.is_general.ensures c.is_general-2.ensures q) ∙ c.if-n-is_general.true) c.keys_count.ensures

pub returns-else-n-is_general : goal.returns-else-n-is_general
unfolding unit_ok
returns-else-n-is_general c =
    let a = c.args in
    let q : c.sum_is-sum.result ≡ eqb a.n.count (con_len a.l + con_len a.r) =
    c.sum_is-sum.ensures ∙ ap₂ (λ (x : ℕ) (y : ℕ). eqb a.n.count (x + y)) c.con_len.ensures c.con_len-2.ensures in
    c.if-n-is_general.false ∙ and_else _ _ (sym (before (eqb a.n.lmul 1) (eqb a.n.rmul 1) _ (is_general a.l) _ (is_general a.r) _ _ c.is_general.ensures c.is_general-2.ensures q) ∙ c.if-n-is_general.false)
