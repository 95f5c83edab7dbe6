-- Where a parse begins no name is known: names, graph and marks agree with the initial state of the machine.
use Rattle.std.proofs.Common.{◌≡◌, ◌∙◌, ℕ, [], Option, Some, None, IsSome, refl, sym, le_refl}
use Rattle.irtext_context.specs.Context.{ContextView, KeepsOlder}
use Rattle.irtext_graph.specs.Back.{AllOlder, IsClosedBelow}
use Rattle.irtext_graph.specs.Store.{get}
use Rattle.irtext_graph.proofs.Frames.{new_operation}
use Rattle.irtext_scopes.specs.Names.{AreDistinct}
use Rattle.irtext_parse_state.specs.States.{marks_of}
use Rattle.irtext_parse_state.specs.declared.parsable.state.State as code
use Rattle.irtext_grammar.specs.Names.History.{going, State}
use Rattle.irtext_grammar.specs.Names.Script.{Path}
use Rattle.irtext_grammar.specs.Promises.Section.{indices_of}
use Rattle.irtext_names.specs.Linked.{nothing_made}
use Rattle.irtext_names.proofs.Added.{no_ties, no_waits}
use Rattle.irtext_names.proofs.Linked.Kept.{agrees_by}
use Rattle.irtext_names.specs.Promises.{start_with}
use Rattle.irtext_names.specs.Items.{Names, MachineAgrees, BlanksDefine, IsSound}
use Rattle.irtext_parse_nested.proofs.OfItems.{nothing_of}
use Rattle.irtext_parse_root.specs.Turned.{IsSoundOnce, KeepsEarlier}

-- no name has two numbers
pub none_twice : AreDistinct []
none_twice i j text e f = absurd (cc)

-- nothing is newer than all live objects
no_blanks : {T A : Type 0} (c : ContextView T A) → AllOlder c.graph.made c.graph → BlanksDefine c.graph.made c
no_blanks c older p here none new = absurd (none_there (get c.graph.operations p) (sym (older.operations p) ∙ new_operation c.graph.made c.graph p new) here)
  where
    none_there : {X : Type 0} (x : Option X) → x ≡ None → IsSome x → ⊥
    none_there None e h = cc
    none_there (Some x) e h = cc

module _ {T A U : Type 0} (names : Names) (s : code.State T A U) (no_names : names.names ≡ []) (no_values : names.values ≡ []) (no_labels : names.labels ≡ []) where
  -- the state of the machine before any name, with the recorded marks
  abbrev pub begun : State
  begun = start_with (indices_of (marks_of s))

  -- names, graph and marks agree with it
  pub begun_agrees : (path : ℕ → Path) → MachineAgrees path [] [] names s (going begun)
  begun_agrees path = record {
    known = nothing_made;
    of_items = nothing_of path;
    state = begun;
    going = refl;
    agreed = agrees_by names s.ctx.now.graph nothing_made [] begun [] [] [] no_names no_values no_labels none_twice (rw (no_values, no_labels) (no_ties s.ctx.now.graph)) tt tt
        (λ p v i. absurd i) (λ p b i. absurd i) (λ u p i. absurd i);
    marks = refl;
    results = λ w i. absurd i;
  }

  -- no placeholder waits for a name, since all live objects are older
  pub fresh_sound : AllOlder s.ctx.now.graph.made s.ctx.now.graph → IsSound s.ctx.now.graph.made names s
  fresh_sound older = record {
    tied = rw (no_values, no_labels) (no_ties s.ctx.now.graph);
    waiting = rw (no_values, no_labels) (no_waits s.ctx.now.graph older);
    blanks = no_blanks s.ctx.now older;
  }

  pub fresh_once : AllOlder s.ctx.now.graph.made s.ctx.now.graph → IsSoundOnce names s
  fresh_once older = record { since = s.ctx.now.graph.made; past = le_refl s.ctx.now.graph.made; sound = fresh_sound older }

  -- so what keeps all that is older than any count since which they are sound keeps everything that was there
  pub keeps_all : {new : ContextView T A} → AllOlder s.ctx.now.graph.made s.ctx.now.graph → IsClosedBelow s.ctx.now.graph.made s.ctx.now.graph
      → KeepsEarlier names s new → KeepsOlder s.ctx.now.graph.made s.ctx.now new
  keeps_all older closed keeps = keeps s.ctx.now.graph.made (le_refl s.ctx.now.graph.made) closed (fresh_sound older)
