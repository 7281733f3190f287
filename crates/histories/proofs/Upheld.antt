-- What is true of a table and of all clauses appended since its fresh call; and that the demands' runs, which go over the parts in use, keep it.
use Rattle.std.specs.Prelude.{◌≡◌, refl, Bool, true, false, List, [], ◌++◌, ℕ, ◌+◌, ◌-◌, ◌/◌, ◌<◌, ◌≤◌, ℤ, pos, length, take, drop}
use Rattle.std.proofs.Math.Path.{sym, ap, subst}
use Rattle.std.proofs.Common.{◌∙◌, append_assoc, append-nil, arith, length-append, take_at, drop_at, length-take-le, None, Option, Some}
use Rattle.std.proofs.Math.ListN.{get_or-append}
use Rattle.std.proofs.lemmas.List.Edits.{sets, sets-eq}
use Rattle.paper.specs.Limits.{node_words}
use Rattle.paper.specs.Rows.{node_at, value_count, is_general}
use Rattle.paper.specs.Plain.{define, grow, plain_run}
use Rattle.paper.specs.Weighted.{output_of, place_of, weigh, weigh_run}
use Rattle.paper.specs.Demand.{nodes_used, inputs_used, cells_used, cells_back, count_run, sum_place}
use Rattle.paper.specs.Calls.{Db, checked, appended}
use Rattle.paper.specs.declared.Counters.{Counters}
use Rattle.paper.specs.declared.Want.{Want}
use Rattle.facts.specs.Facts.{TableFacts}
use Rattle.facts.proofs.Facts.{table_facts, leaf_low, node_used, used_at, used_length}
use Rattle.facts.proofs.Carry.{used_facts}
use Rattle.meaning.specs.Table.{NotGeneral, History}
use Rattle.meaning.specs.Words.{flat}
use Rattle.meaning.proofs.Words.{flat_append}
use Rattle.meaning.specs.Rows.{Net, State, Good}
use Rattle.meaning.specs.View.{kind_of, Sharp, Fit}
use Rattle.meaning.proofs.Same.{rows_good}
use Rattle.meaning.specs.Emit.{gather}
use Rattle.meaning.proofs.Emit.{gather_words}
use Rattle.facts.specs.Sinks.{through}
use Rattle.facts.proofs.Sinks.{define_hom, weigh_hom}
use Rattle.meaning.specs.Sink.{from}
use Rattle.meaning.proofs.Sink.{behind, from_behind}
use Rattle.meaning.specs.Asked.{Asked}
use Rattle.meaning.proofs.Run.{define_good}
use Rattle.meaning.proofs.Ways.{output_finds}
use Rattle.meaning.specs.Weigh.{Placed}
use Rattle.meaning.proofs.Weigh.{weigh_good}
use Rattle.histories.specs.Stays.{Stays}
use Rattle.histories.proofs.Stays.{stays_refl}
use Rattle.histories.proofs.Shown.{fit, sharp, plain, not_general}
use Rattle.histories.specs.Upheld.{Facts, Moved, Upheld, net_of, state_of}

pub facts_of : (d : Db) → checked d ≡ true → Facts d
unfolding checked
facts_of d h = table_facts (node_at d.nodes) (length d.nodes / node_words) d.inputs d.keys d.lits d.marks (length d.clauses) d.counters h

pub fit_of : (d : Db) → checked d ≡ true → Fit d.nodes d.inputs d.keys d.counters.nodes d.counters.first d.counters.cells
fit_of d h = fit d.nodes d.inputs d.keys d.lits d.marks d.counters (facts_of d h)

pub good_of : (d : Db) (h : History) → Upheld d h → Good (net_of d) d.counters.cells (state_of d h)
good_of d h u =
    let t = facts_of d u.passes in
    record {
      lits_len = t.lit_row;
      marks_len = t.mark_row;
      plain = plain d.nodes d.inputs d.keys d.lits d.marks d.counters t;
      inv = u.inv;
    }

-- nothing is appended where the clause length does not grow
pub none_appended : (c : Counters) (after : Db) → after.counters.words ≤ c.words → appended c after ≡ []
none_appended c after h = let e : after.counters.words - c.words ≡ 0 = omega arith in rw e

pub moved_same : (d after : Db) (h : History) → Upheld after h → after.counters.words ≤ d.counters.words → (b : Bool) → Stays d after b → Moved d after h b
moved_same d after h u le b st =
    record { now = h; upheld = u; words = sym (append-nil (flat h)) ∙ ap (λ (w : List ℤ). flat h ++ w) (sym (none_appended d.counters after le)); stays = st }

-- a call that changes nothing
pub moved_none : (d : Db) (h : History) → Upheld d h → (b : Bool) → Moved d d h b
moved_none d h u b = moved_same d d h u (omega arith) b (stays_refl d b)

-- words written behind those that are there are the words appended
pub appended_sets : (row out : List ℤ) (w : ℕ) → w + length out ≤ length row → take (w + length out - w) (drop w (sets row w out)) ≡ out
appended_sets row out w h =
    let e : w + length out - w ≡ length out = omega arith in
    let hd : length (take w row) ≡ w = length-take-le w row (omega arith) in
    let q : sets row w out ≡ take w row ++ (out ++ drop (w + length out) row) = sets-eq out row w h ∙ append_assoc (take w row) out (drop (w + length out) row) in
    rw (e, q, drop_at (take w row) (out ++ drop (w + length out) row) w hd) (take_at out (drop (w + length out) row) (length out) refl)

-- ---- a run over the parts in use

module _ (d : Db) (h : History) (u : Upheld d h) where
  abbrev pub c : Counters
  c = d.counters

  abbrev pub ns : List ℕ
  ns = nodes_used d.nodes c

  abbrev pub ins : List ℤ
  ins = inputs_used d.inputs c

  abbrev pub keys : List ℕ
  keys = cells_used d.keys c

  abbrev pub used : Net
  used = Rattle.meaning.specs.View.net_of ns ins keys c.nodes c.first

  abbrev pub begin : History → State
  begin k = from (cells_used d.lits c) (cells_used d.marks c) c.next k

  used_table : TableFacts (node_at ns) c.nodes ins keys (cells_used d.lits c) (cells_used d.marks c) (length d.clauses) c
  unfolding checked
  used_table = used_facts d.nodes d.inputs d.keys d.lits d.marks (length d.clauses) c u.passes

  pub used_fit : Fit ns ins keys c.nodes c.first c.cells
  used_fit = fit ns ins keys (cells_used d.lits c) (cells_used d.marks c) c used_table

  pub used_sharp : Sharp used
  used_sharp = sharp ns ins keys (cells_used d.lits c) (cells_used d.marks c) c used_table

  pub used_good : Good used c.cells (begin h)
  used_good =
      let t = facts_of d u.passes in
      let el = used_length c.cells d.lits t.lit_row in
      let em = used_length c.cells d.marks t.mark_row in
      rows_good d.nodes ns d.inputs ins d.keys keys c.nodes c.first c.cells c.inputs (fit_of d u.passes) (state_of d h) (begin h)
      (λ n s. node_used d.nodes c.nodes n s) (λ n s k. leaf_low t n s k) (λ k l. used_at c.inputs d.inputs k (pos 0) l) (λ k l. used_at c.cells d.keys k 0 l)
      (λ k l. used_at c.cells d.lits k (pos 0) l) (λ k l. used_at c.cells d.marks k 0 l) refl (good_of d h u) refl (omega arith) (omega arith)

  -- the rows with the run put back
  abbrev put_back : State → ℕ → List ℤ → Db
  put_back q words clauses =
      record {
        nodes = d.nodes;
        inputs = d.inputs;
        keys = d.keys;
        lits = cells_back q.lits d.lits c;
        marks = cells_back q.marks d.marks c;
        clauses = clauses;
        counters = record { first = c.first; next = q.next; last = c.last; nodes = c.nodes; inputs = c.inputs; cells = c.cells; words = words };
      }

  back_good : (q : State) (words : ℕ) (clauses : List ℤ) → Good used c.cells (through (λ (s : History). h ++ s) q)
      → Good (net_of (put_back q words clauses)) c.cells (state_of (put_back q words clauses) (h ++ q.out))
  back_good q words clauses good =
      let t = facts_of d u.passes in
      let l1 = length-append q.lits (drop c.cells d.lits) in
      let l2 = length-append q.marks (drop c.cells d.marks) in
      let g1 = good.lits_len in
      let g2 = good.marks_len in
      rows_good ns d.nodes ins d.inputs keys d.keys c.nodes c.first c.cells c.inputs used_fit (through (λ (s : History). h ++ s) q)
      (state_of (put_back q words clauses) (h ++ q.out))
      (λ n s. sym (node_used d.nodes c.nodes n s)) (λ n s k. leaf_low used_table n s k)
      (λ k l. sym (used_at c.inputs d.inputs k (pos 0) l)) (λ k l. sym (used_at c.cells d.keys k 0 l))
      (λ k l. get_or-append q.lits (drop c.cells d.lits) (pos 0) k (omega arith)) (λ k l. get_or-append q.marks (drop c.cells d.marks) 0 k (omega arith))
      refl good refl (omega arith) (omega arith)

  -- what a run that is the plain run q, with its clauses gathered, leaves
  ran_moved : (q : State) → Good used c.cells (through (λ (s : History). h ++ s) q) → c.words + length (flat q.out) ≤ length d.clauses
      → (after : Db) → after ≡ put_back q (c.words + length (flat q.out)) (sets d.clauses c.words (flat q.out)) → checked after ≡ true → Stays d after false → Moved d after h false
  ran_moved q good room after e ok st =
      let w = c.words + length (flat q.out) in
      let row = sets d.clauses c.words (flat q.out) in
      subst (λ (x : Db). Moved d x h false) (sym e)
      (record {
        now = h ++ q.out;
        upheld = record { passes = subst (λ (x : Db). checked x ≡ true) e ok; inv = (back_good q w row good).inv };
        words = flat_append h q.out ∙ ap (λ (x : List ℤ). flat h ++ x) (sym (appended_sets d.clauses (flat q.out) c.words room));
        stays = subst (λ (x : Db). Stays d x false) e st;
      })

  pub node_here : (id : ℕ) → id < c.nodes → node_at ns id ≡ node_at d.nodes id
  node_here id s = node_used d.nodes c.nodes id s

  -- ---- unweighted

  module _ (id i : ℕ) (w : Want) where
    pub counted : State
    counted = define gather (id + 1) ns ins id i w (begin [])

    pub count_words : count_run d.nodes d.inputs d.lits d.marks c id i w ≡ through flat counted
    unfolding plain_run counted
    count_words = sym (define_hom gather grow flat gather_words (id + 1) ns ins id i w (begin []))

    pub count_asked : id < c.nodes → is_general (node_at d.nodes id) ≡ false → i < value_count (node_at d.nodes id)
        → Asked used c.cells (begin h) (through (λ (s : History). h ++ s) counted) id i w
    unfolding counted
    count_asked s k hi =
        let e = node_here id s in
        let kind : NotGeneral (kind_of (node_at ns id).kind) = rw e (not_general (node_at d.nodes id).kind k) in
        let count : i < value_count (node_at ns id) = rw e hi in
        let same : through (λ (x : History). h ++ x) counted ≡ define gather (id + 1) ns ins id i w (begin h)
        = define_hom gather gather (λ (x : History). h ++ x) (behind h) (id + 1) ns ins id i w (begin [])
        ∙ ap (λ (x : State). define gather (id + 1) ns ins id i w x) (from_behind (cells_used d.lits c) (cells_used d.marks c) c.next h) in
        subst (λ (x : State). Asked used c.cells (begin h) x id i w) (sym same)
        (define_good ns ins keys c.nodes c.first c.cells used_fit (id + 1) (begin h) used_good id i (omega arith) s kind count w)

    pub count_moved : id < c.nodes → is_general (node_at d.nodes id) ≡ false → i < value_count (node_at d.nodes id)
        → c.words + length (flat counted.out) ≤ length d.clauses
        → (after : Db) → after ≡ put_back counted (c.words + length (flat counted.out)) (sets d.clauses c.words (flat counted.out)) → checked after ≡ true → Stays d after false → Moved d after h false
    count_moved s k hi room after e ok st = ran_moved counted (count_asked s k hi).good room after e ok st

  -- ---- weighted: the output at a place

  module _ (id y : ℕ) where
    pub weighed : State
    weighed = weigh gather (id + 1) ns ins keys id y (begin [])

    pub weigh_words : weigh_run ns ins keys (cells_used d.lits c) (cells_used d.marks c) c.next id y ≡ through flat weighed
    unfolding weigh_run weighed
    weigh_words = sym (weigh_hom gather grow flat gather_words (id + 1) ns ins keys id y (begin []))

    pub weigh_placed : id < c.nodes → y ≤ value_count (node_at d.nodes id) → Placed used c.cells (begin h) (through (λ (s : History). h ++ s) weighed) id y
    unfolding weighed
    weigh_placed s hy =
        let e = node_here id s in
        let count : y ≤ value_count (node_at ns id) = rw e hy in
        let same : through (λ (x : History). h ++ x) weighed ≡ weigh gather (id + 1) ns ins keys id y (begin h)
        = weigh_hom gather gather (λ (x : History). h ++ x) (behind h) (id + 1) ns ins keys id y (begin [])
        ∙ ap (λ (x : State). weigh gather (id + 1) ns ins keys id y x) (from_behind (cells_used d.lits c) (cells_used d.marks c) c.next h) in
        subst (λ (x : State). Placed used c.cells (begin h) x id y) (sym same)
        (weigh_good ns ins keys c.nodes c.first c.cells used_fit used_sharp (id + 1) (begin h) used_good id y (omega arith) s count)

    pub weigh_moved : id < c.nodes → y ≤ value_count (node_at d.nodes id)
        → c.words + length (flat weighed.out) ≤ length d.clauses
        → (after : Db) → after ≡ put_back weighed (c.words + length (flat weighed.out)) (sets d.clauses c.words (flat weighed.out)) → checked after ≡ true → Stays d after false → Moved d after h false
    weigh_moved s hy room after e ok st = ran_moved weighed (weigh_placed s hy).good room after e ok st

  -- the place of an output that is found is one of the node's
  pub place_low : (id v : ℕ) → id < c.nodes → place_of (sum_place d.nodes d.keys c id v) ≤ value_count (node_at d.nodes id)
  place_low id v s =
      let e = node_here id s in
      let a = output_finds ns ins keys c.nodes c.first c.cells used_fit used_sharp (begin h) used_good.inv.shape id s v in
      go (output_of keys (node_at d.nodes id) v) (rw e at a)
    where
      go : (f : Option ℕ) → Rattle.meaning.specs.Ways.Finds (Rattle.meaning.specs.View.key_of used id) (value_count (node_at d.nodes id)) v f → place_of f ≤ value_count (node_at d.nodes id)
      go (Some q) h = let x = h.0 in omega arith
      go None h = omega arith
