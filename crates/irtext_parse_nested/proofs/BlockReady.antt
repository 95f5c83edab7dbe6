-- A block that was made of its header: its names can be defined now.
use Rattle.std.proofs.Common.{◌≡◌, ◌<◌, ◌∙◌, inl, ℕ, zero, suc, List, [], ◌∷◌, ◌++◌, map, length, Option, Some, IsSome, option_map, slice_get, arith, refl, sym, ap, subst}
use Rattle.std.proofs.lemmas.List.{length-map}
use Rattle.irtext_base.specs.Text.{Text}
use Rattle.irtext_base.specs.declared.base.attributes.AttrObj.{AttrObj}
use Rattle.irtext_base.specs.declared.location.Location.{Location}
use Rattle.irtext_base.specs.declared.location.Source.{Source}
use Rattle.irtext_context.specs.Context.{ContextView, known}
use Rattle.irtext_context.specs.declared.base.block.BlockData.{BlockData}
use Rattle.irtext_context.specs.declared.base.operation.OperationData.{OperationData}
use Rattle.irtext_graph.specs.declared.arena.Ptr.{Ptr}
use Rattle.irtext_graph.specs.declared.object.BasicBlock.{BasicBlock}
use Rattle.irtext_graph.specs.declared.object.Region.{Region}
use Rattle.irtext_graph.specs.declared.object.Operation.{Operation}
use Rattle.irtext_graph.specs.declared.object.Object.TheVariants.{TheBlock, TheOperation}
use Rattle.irtext_graph.specs.declared.object.Value.{Value}
use Rattle.irtext_graph.specs.declared.object.Value.TheVariants.{Argument}
use Rattle.irtext_graph.specs.Content.{Content, Content.{AnOperation, ABlock}, OperationContent, BlockContent}
use Rattle.irtext_graph.specs.Erasing.{without_uses}
use Rattle.irtext_graph.specs.Graph.{content, content_of, parent, IsLive}
use Rattle.irtext_graph.specs.Store.{get}
use Rattle.irtext_parse_state.specs.declared.parsable.state.State as code
use Rattle.irtext_scopes.specs.Scopes.{Scope}
use Rattle.irtext_grammar.specs.Contexts.Held.{entries_of}
use Rattle.irtext_grammar.specs.Graphs.Build.{put_all, read_names}
use Rattle.irtext_grammar.specs.Grammar.Tree.{Name}
use Rattle.irtext_grammar.specs.Names.Acts.{block_may_hold}
use Rattle.irtext_names.specs.Tied.{MatchesGraph, ArePending}
use Rattle.irtext_names.specs.Rows.{AreNamed, AreKnown, ValuesReady}
use Rattle.irtext_grammar.specs.declared.parsed.Key.{Key}
use Rattle.irtext_grammar.specs.declared.parsed.ReadName.{ReadName}
use Rattle.irtext_parse_nested.specs.Blocks.{PlacesLabelled, MakesHead}
use Rattle.irtext_names.specs.Definitions.{numbers_of}
use Rattle.irtext_names.specs.Gathering.{entry_read, AreAllowed}
use Rattle.irtext_names.specs.Items.{Names, IsSound, BlanksDefine}
use Rattle.irtext_parse_nested.proofs.Blanks.{blanks_on}
use Rattle.irtext_names.proofs.Losing.{blanks_by}
use Rattle.irtext_names.specs.Located.{IsLocatedAt}
use Rattle.irtext_names.specs.Placing.{PlacesBlock}
use Rattle.irtext_parse_nested.proofs.BlockPlaced.{placed_ties, placed_waits, arguments_ready}

-- an index at which a list has an element is below its length
pub within : {X : Type 0} (xs : List X) (i : ℕ) (x : X) → slice_get xs i ≡ Some x → i < length xs
within [] i x e = absurd (cc)
within (y ∷ xs) zero x e = omega arith
within (y ∷ xs) (suc i) x e = let l = within xs i x e in omega (arith, l)

-- numbers of names are known
pub named_known : (names : List Text) (ns : List ℕ) (ws : List (Name ℕ)) → AreNamed names ns ws → AreKnown (length names) ns
named_known names [] ws a = tt
named_known names (n ∷ ns) [] a = absurd a
named_known names (n ∷ ns) (w ∷ ws) a = (within names n w.text a.0, named_known names ns ws a.1)

module _ {T A : Type 0} (old mid : ContextView T A) (r : Ptr Region) (b : Ptr BasicBlock) (held : BlockData A) (types : List T) (p : PlacesBlock old mid r b held types) where
  pub made_ties : (vs : List (Scope Value)) (ls : List (Scope (Ptr BasicBlock))) → MatchesGraph vs ls old.graph → MatchesGraph vs ls mid.graph
  made_ties vs ls t = placed_ties r b held (known types) p.makes.graph p.appends vs ls t

  pub made_ready : (vs : List (Scope Value)) (ls : List (Scope (Ptr BasicBlock))) (n : ℕ) → n ≡ length types → MatchesGraph vs ls old.graph → ValuesReady (λ i. Argument b i) n vs mid.graph
  made_ready vs ls n e t = subst (λ k. ValuesReady (λ i. Argument b i) k vs mid.graph) (length-map types (λ t. Some t) ∙ sym e) (arguments_ready r b held (known types) p.makes.graph p.appends vs ls t)

  pub made_inside : IsSome (parent mid.graph (TheBlock b))
  made_inside = subst IsSome (sym p.appends.parent_here) refl

  abbrev a_block : ℕ × BlockContent (BlockData A) (Option T) → Content (Option (OperationData A)) (BlockData A) (Option T)
  a_block d = ABlock d.0 d.1

  pub made_there : IsLive mid.graph (TheBlock b)
  made_there = subst IsSome (sym (p.appends.objects.contents (TheBlock b) ∙ ap (λ e. option_map a_block (content_of e)) p.makes.graph.blocks.updates.changed)) refl

  abbrev an_operation : ℕ × OperationContent (Option (OperationData A)) (Option T) → Content (Option (OperationData A)) (BlockData A) (Option T)
  an_operation d = AnOperation d.0 d.1

  -- each operation is unchanged
  p_same : (q : Ptr Operation) → content mid.graph (TheOperation q) ≡ content old.graph (TheOperation q)
  p_same q = p.appends.objects.contents (TheOperation q) ∙ ap (λ s. option_map an_operation (content_of (get s q))) p.makes.graph.operations

  pub made_sound : {U : Type 0} (names : Names) (s m : code.State T A U) → s.ctx.now ≡ old → m.ctx.now ≡ mid → (n : ℕ) → IsSound n names s → IsSound n names m
  made_sound names s m e f n h =
      let tied = subst (λ c. MatchesGraph names.values names.labels c.graph) e h.tied in
      record {
        tied = subst (λ c. MatchesGraph names.values names.labels c.graph) (sym f) (made_ties names.values names.labels tied);
        waiting = subst (λ c. ArePending n [] names.values names.labels c.graph) (sym f) (placed_waits r b held (known types) p.makes.graph p.appends n names.values names.labels tied
            (subst (λ c. ArePending n [] names.values names.labels c.graph) e h.waiting));
        blanks = subst (BlanksDefine n) (sym f) (blanks_on old mid (blanks_by old.graph mid.graph (λ p. inl (ap (option_map without_uses) (p_same p)))) n (subst (BlanksDefine n) e h.blanks));
      }

-- a block that was made with its label, and of these entries and arguments, was made of its header
pub makes_head : {T A : Type 0} (names : List Text) (source : Source) (text : Text) (label : ReadName) (arguments : List (ReadName × T)) (entries : List (Key × AttrObj A)) (old new : ContextView T A) (r : Ptr Region) (b : Ptr BasicBlock)
    (attributes : List (Text × AttrObj A)) (types : List T) (read : List ReadName) → types ≡ map (λ a. a.1) arguments → read ≡ map (λ a. a.0) arguments → AreAllowed block_may_hold entries
    → ((ws : List (Name ℕ)) → AreNamed names (numbers_of read) ws → entries_of attributes ≡ put_all [] (map entry_read entries ++ read_names (map (λ w. w.text) ws)))
    → (loc : Location A) → PlacesLabelled names label loc attributes types old new r b → IsLocatedAt source text label.at loc → MakesHead names source text label arguments entries old new r b
makes_head names source text label arguments entries old new r b attributes types read typed named allowed stored loc p located = record {
  held = record { label = Some p.name; attributes = attributes; loc = loc };
  named = p.named;
  located = located;
  allowed = allowed;
  stored = λ ws a. stored ws (subst (λ ns. AreNamed names (numbers_of ns) ws) (sym named) a);
  places = subst (λ ts. PlacesBlock old new r b (record { label = Some p.name; attributes = attributes; loc = loc }) ts) typed p.places;
}
