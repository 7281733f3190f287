-- Where a run's clauses go changes nothing else (`define_hom`, `weigh_hom` of facts). Here: clauses behind those that are there.
use Rattle.std.specs.Prelude.{◌≡◌, List, [], ◌∷◌, ◌++◌, ℕ, ℤ}
use Rattle.std.proofs.Common.{sym, ap, append_assoc, append-nil}
use Rattle.paper.specs.declared.Clause.{Clause}
use Rattle.facts.specs.Sinks.{through}
use Rattle.meaning.specs.Table.{History}
use Rattle.meaning.specs.Emit.{gather, lits_in}
use Rattle.meaning.specs.Sink.{from}

pub behind : (h : History) (s : History) (c : Clause) → h ++ gather s c ≡ gather (h ++ s) c
behind h s c = sym (append_assoc h s (lits_in c ∷ []))

pub from_behind : (lits : List ℤ) (marks : List ℕ) (next : ℕ) (h : History) → through (λ (s : History). h ++ s) (from lits marks next []) ≡ from lits marks next h
from_behind lits marks next h = ap (λ (s : History). from lits marks next s) (append-nil h)
