-- What the parse of a location does to a context, one parser after another: it may keep more paths.
use Rattle.std.proofs.Common.{◌∙◌, ap, refl, ℕ}
use Rattle.irtext_context.specs.Context.{ContextView, KeepsOlder, with_paths}
use Rattle.irtext_graph.proofs.Made.{same_keeps}
use Rattle.irtext_grammar.specs.Readers.NewPaths.{AddsPaths}

module _ {T A : Type 0} where
  -- nothing is added
  pub adds_none : (c : ContextView T A) → AddsPaths c c
  adds_none c = record { kept = λ i p h. h; rest = refl }

  -- all objects stay where paths are added
  pub adds_kept : {a b : ContextView T A} (mark : ℕ) → AddsPaths a b → KeepsOlder mark a b
  adds_kept {a} {b} mark h = record {
    graph = same_keeps mark a.graph b.graph (ap (λ c. c.graph) h.rest);
    paths = h.kept;
    dialects = ap (λ c. c.dialects) h.rest;
  }

  -- the paths of one parse and then of another
  pub adds_more : {a b c : ContextView T A} → AddsPaths a b → AddsPaths b c → AddsPaths a c
  adds_more {a} {b} {c} h k = record { kept = λ i p e. k.kept i p (h.kept i p e); rest = k.rest ∙ ap (λ (x : ContextView T A). with_paths x c.paths) h.rest }
