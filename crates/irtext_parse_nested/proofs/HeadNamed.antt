-- The names of a block's header, one after another: its arguments, its mark and its label.
use Rattle.std.proofs.Common.{◌≡◌, ◌∙◌, inl, inr, ℕ, List, [], Option, Some, None, IsSome, refl, sym, subst}
use Rattle.irtext_base.specs.Text.{Text}
use Rattle.irtext_base.specs.declared.parsable.fault.ParseFault.{ParseFault}
use Rattle.irtext_context.specs.Context.{ContextView, KeepsOlder}
use Rattle.irtext_context.specs.declared.base.item.Item.TheVariants as item
use Rattle.irtext_context.proofs.Kept.{kept_trans, kept_closed}
use Rattle.irtext_graph.specs.declared.arena.Ptr.{Ptr}
use Rattle.irtext_graph.specs.declared.object.BasicBlock.{BasicBlock}
use Rattle.irtext_graph.specs.declared.object.Object.{Object}
use Rattle.irtext_graph.specs.declared.object.Object.TheVariants.{TheBlock}
use Rattle.irtext_graph.specs.declared.object.Value.{Value}
use Rattle.irtext_graph.specs.Back.{IsClosedBelow}
use Rattle.irtext_graph.specs.Graph.{GraphView, parent, IsLive}
use Rattle.irtext_parse_state.specs.States.{marks_of}
use Rattle.irtext_parse_state.specs.declared.parsable.state.State as code
use Rattle.irtext_scopes.specs.Scopes.{Scope}
use Rattle.irtext_names.specs.Tied.{MatchesGraph, ArePending, IsNoPlaceholder}
use Rattle.irtext_grammar.specs.Promises.Root.{UnlessMemory}
use Rattle.irtext_grammar.specs.declared.parsed.ReadMark.{ReadMark}
use Rattle.irtext_grammar.specs.declared.parsed.ReadName.{ReadName}
use Rattle.irtext_parse_nested.specs.Blocks.{DefinesArguments, DefinesLabel, NamesHead, RefusesHead, same_mark, same_label}
use Rattle.irtext_names.specs.LosesPlaceholders.{LosesPlaceholders}
use Rattle.irtext_parse_nested.specs.Ends.{NotesMark, RefusesMark}
use Rattle.irtext_names.specs.Items.{Names, IsSound, BlanksDefine}
use Rattle.irtext_names.specs.Labels.{RefusesLabel}

-- ---- the block, where nothing but placeholders is lost
nothing_there : {X : Type 0} (o : Option X) → o ≡ None → IsSome o → ⊥
nothing_there None e h = cc
nothing_there (Some x) e h = cc

module _ {O B T : Type 0} where
  -- a block with a parent is no placeholder
  pub waits_for_none : (g : GraphView (Option O) B T) (b : Ptr BasicBlock) (vs : List (Scope Value)) (ls : List (Scope (Ptr BasicBlock))) → MatchesGraph vs ls g → IsSome (parent g (TheBlock b)) → IsNoPlaceholder ls b
  waits_for_none g b vs ls t h = λ k n e. nothing_there (parent g (TheBlock b)) (t.label_ties.held k n b e).free h

  module _ (g k : GraphView (Option O) B T) (l : LosesPlaceholders g k) (b : Ptr BasicBlock) where
    -- it has the same parent
    pub parent_stays : IsSome (parent g (TheBlock b)) → parent k (TheBlock b) ≡ parent g (TheBlock b)
    parent_stays h = go (parent g (TheBlock b)) refl h
      where
        go : (o : Option Object) → parent g (TheBlock b) ≡ o → IsSome o → parent k (TheBlock b) ≡ parent g (TheBlock b)
        go None e s = absurd (nothing_there {X = Object} None refl s)
        go (Some o) e s = (l.blocks b o e).0 ∙ sym e

    pub block_stays : IsSome (parent g (TheBlock b)) → IsLive g (TheBlock b) → IsLive k (TheBlock b)
    block_stays h there = go (parent g (TheBlock b)) refl h
      where
        go : (o : Option Object) → parent g (TheBlock b) ≡ o → IsSome o → IsLive k (TheBlock b)
        go None e s = absurd (nothing_there {X = Object} None refl s)
        go (Some o) e s = (l.blocks b o e).1 there

    pub inside_stays : IsSome (parent g (TheBlock b)) → IsSome (parent k (TheBlock b))
    inside_stays h = subst IsSome (sym (parent_stays h)) h

-- ---- a context that is the same
module _ {T A U : Type 0} (names : Names) (s z : code.State T A U) (same : z.ctx.now ≡ s.ctx.now) where
  pub same_sound : (m : ℕ) → IsSound m names s → IsSound m names z
  same_sound m h = record {
    tied = subst (λ c. MatchesGraph names.values names.labels c.graph) (sym same) h.tied;
    waiting = subst (λ c. ArePending m [] names.values names.labels c.graph) (sym same) h.waiting;
    blanks = subst (BlanksDefine m) (sym same) h.blanks;
  }

-- what is older stays, twice, where the context is the same in between
pub kept_twice : {T A : Type 0} (a b c d : ContextView T A) (m : ℕ) → c ≡ b → IsClosedBelow m a.graph → KeepsOlder m a b → (IsClosedBelow m c.graph → KeepsOlder m c d) → KeepsOlder m a d
kept_twice a b c d m same closed k f =
    kept_trans k (subst (λ x. KeepsOlder m x d) same (f (subst (λ x. IsClosedBelow m x.graph) (sym same) (kept_closed closed k))))

-- ---- the header's names
module _ {T A U : Type 0} (b : Ptr BasicBlock) (label : ReadName) (arguments : List ReadName) (mark : Option ReadMark) (old mid : Names) (s m n : code.State T A U) (text : Text)
    (defines : DefinesArguments b arguments old s mid m.ctx.now.graph) (first : marks_of m ≡ marks_of s) (same : n.ctx.now ≡ m.ctx.now) where
  -- its mark's index is recorded already
  pub mark_stops : (read : Text) (fault : ParseFault A) → read ≡ text → UnlessMemory (RefusesMark read mark (marks_of m)) fault → UnlessMemory (RefusesHead b label arguments mark old s text) fault
  mark_stops read fault e u = elim u [
    | inl ran_out ↦ inl ran_out
    | inr r ↦ inr (same_mark mid m.ctx.now.graph defines (subst (λ ms. RefusesMark text mark ms fault) first (subst (λ t. RefusesMark t mark (marks_of m) fault) e r)))
  ]

  module _ (notes : NotesMark mark (item.Block b) (marks_of m) (marks_of n)) where
    noted : NotesMark mark (item.Block b) (marks_of s) (marks_of n)
    noted = subst (λ ms. NotesMark mark (item.Block b) ms (marks_of n)) first notes

    -- its label is defined already
    pub label_stops : (read : Text) (fault : ParseFault A) → read ≡ text → UnlessMemory (RefusesLabel mid n.ctx.now.graph read label) fault → UnlessMemory (RefusesHead b label arguments mark old s text) fault
    label_stops read fault e u = elim u [
      | inl ran_out ↦ inl ran_out
      | inr r ↦ inr (same_label mid m.ctx.now.graph (marks_of n) defines noted (subst (λ c. RefusesLabel mid c.graph text label fault) same (subst (λ t. RefusesLabel mid n.ctx.now.graph t label fault) e r)))
    ]

    -- all of them are defined, and the mark is recorded
    pub names_head : (new : Names) (z : code.State T A U) → marks_of z ≡ marks_of n
        → DefinesLabel label b mid new n.ctx.now.graph z.ctx.now.graph → NamesHead b label arguments mark old s new z
    names_head new z last follows = record {
      mid = mid;
      between = m.ctx.now.graph;
      defines = defines;
      notes = subst (λ ms. NotesMark mark (item.Block b) (marks_of s) ms) (sym last) noted;
      labels = subst (λ c. DefinesLabel label b mid new c.graph z.ctx.now.graph) same follows;
    }
