-- A forest of pointers that is that of a tree has what the tree gives its items, with no section; and with one, if each item has what the
-- entry of its mark gives it.
use Rattle.std.proofs.Common.{◌≡◌, ◌∙◌, ℕ, List, [], Option, Some, None, refl, sym, ap}
use Rattle.std.specs.Prelude.{is_some, unwrap_or}
use Rattle.irtext_base.specs.Text.{Text}
use Rattle.irtext_base.specs.Paths.{Written}
use Rattle.irtext_base.specs.declared.location.Location.{Location}
use Rattle.irtext_context.specs.Context.{ContextView, operation, block}
use Rattle.irtext_graph.specs.declared.arena.Ptr.{Ptr}
use Rattle.irtext_graph.specs.declared.object.Operation.{Operation}
use Rattle.irtext_graph.specs.declared.object.BasicBlock.{BasicBlock}
use Rattle.irtext_graph.specs.declared.object.Region.{Region}
use Rattle.irtext_grammar.specs.Contexts.Held.{location_over}
use Rattle.irtext_grammar.specs.Grammar.Forest as forest
use Rattle.irtext_grammar.specs.Grammar.Forest.{Regions, no_regions, Blocks, no_blocks, Operations, no_operations, Root}
use Rattle.irtext_grammar.specs.Grammar.Section.{Entry}
use Rattle.irtext_grammar.specs.Grammar.Tree.{Mark, Op, Head, Brace, Tree}
use Rattle.irtext_grammar.specs.Graphs.Build.{content, located, labelled, but_label, with_content}
use Rattle.irtext_grammar.specs.Unchanged.{own_of, head_entries}
use Rattle.irtext_grammar.specs.Tracks.{Made}
use Rattle.irtext_names.specs.Given.{OperationHas, BlockHas, RegionsHave, BlocksHave, OperationsHave, RootHas}
use Rattle.irtext_names.specs.Held.{PtrRegions, PtrBlocks, PtrOperations}
use Rattle.irtext_names.specs.Placed.{OperationAt, BlockAt, RegionsAre, BlocksAre, OperationsAre, RootIs}

-- no section gives an item anything
pub no_content : {A X : Type 0} (m : Option (Mark ℕ)) → content {P = ℕ} {A = A} {X = X} [] m ≡ None
no_content None = refl
no_content (Some m) = refl

module _ {T A : Type 0} (L : ℕ → Location A → Type 0) (c : ContextView T A) (items : Made) (first : ℕ → Written A) where
  -- what each operation and each block has in the one context it has in the other, with what the entry of its mark gives it
  pub record Gives (d : ContextView T A) (es : List (Entry ℕ A (Written A))) : Type 0 where
    pub operations : (p : Ptr Operation) (o : Op ℕ T A) (rs : List (Ptr Region)) → OperationAt L c items p o rs → OperationHas d first es p o
    pub blocks : (b : Ptr BasicBlock) (h : Head ℕ T A) (ps : List (Ptr Operation)) → BlockAt L c items b h ps → BlockHas d first es b h

  module _ (d : ContextView T A) (es : List (Entry ℕ A (Written A))) (gives : Gives d es) where
    mutual
      regions_have : (ps : PtrRegions) (rs : Regions (Op ℕ T A) (Head ℕ T A) (Brace ℕ)) → RegionsAre L c items ps rs → RegionsHave d first es ps rs
      regions_have no_regions no_regions h = tt
      regions_have no_regions (forest.region brace hs rs) h = absurd h
      regions_have (forest.region r bs ps) no_regions h = absurd h
      regions_have (forest.region r bs ps) (forest.region brace hs rs) (at, k, h) = (blocks_have bs hs k, regions_have ps rs h)

      blocks_have : (ps : PtrBlocks) (bs : Blocks (Op ℕ T A) (Head ℕ T A) (Brace ℕ)) → BlocksAre L c items ps bs → BlocksHave d first es ps bs
      blocks_have no_blocks no_blocks h = tt
      blocks_have no_blocks (forest.block head os bs) h = absurd h
      blocks_have (forest.block b qs ps) no_blocks h = absurd h
      blocks_have (forest.block b qs ps) (forest.block head os bs) (at, k, h) = (gives.blocks b head _ at, operations_have qs os k, blocks_have ps bs h)

      operations_have : (ps : PtrOperations) (os : Operations (Op ℕ T A) (Head ℕ T A) (Brace ℕ)) → OperationsAre L c items ps os → OperationsHave d first es ps os
      operations_have no_operations no_operations h = tt
      operations_have no_operations (forest.operation o rs os) h = absurd h
      operations_have (forest.operation q qs ps) no_operations h = absurd h
      operations_have (forest.operation q qs ps) (forest.operation o rs os) (at, k, h) = (gives.operations q o _ at, regions_have qs rs k, operations_have ps os h)

    -- so has the whole
    pub root_given : (ps : Root (Ptr Operation) (Ptr BasicBlock) (Ptr Region)) (t : Tree ℕ T A) → RootIs L c items ps t → RootHas d first es ps t
    root_given ps t is = (gives.operations ps.own t.own _ is.0, regions_have ps.regions t.regions is.1)

  -- with no section, in the same context
  gives_nothing : ((n : ℕ) (l : Location A) → L n l → location_over c.paths l ≡ first n) → Gives c []
  gives_nothing tells = record {
    operations = λ p o rs at. let none = no_content {A = A} {X = Written A} o.mark in record {
      view = at.view;
      is = at.is;
      uses = at.uses;
      id = at.has.id;
      types = at.has.types;
      entries = at.has.entries ∙ ap (with_content (own_of o).entries) (sym none);
      location = tells o.place at.view.loc at.has.location ∙ ap (located (first o.place)) (sym none);
    };
    blocks = λ b h ps at. let none = no_content {A = A} {X = Written A} h.mark in record {
      view = at.view;
      is = at.is;
      label = ap (λ (z : Option Text). unwrap_or z []) at.has.label ∙ ap (labelled h.label.text) (sym none);
      has_label = ap (λ (z : Option Text). is_some z) at.has.label;
      types = at.has.types;
      entries = at.has.entries ∙ ap (λ z. with_content (head_entries h) (but_label z)) (sym none);
      location = tells h.label.place at.view.loc at.has.location ∙ ap (located (first h.label.place)) (sym none);
    };
  }

  pub root_has : ((n : ℕ) (l : Location A) → L n l → location_over c.paths l ≡ first n) → (ps : Root (Ptr Operation) (Ptr BasicBlock) (Ptr Region)) (t : Tree ℕ T A) → RootIs L c items ps t → RootHas c first [] ps t
  root_has tells = root_given c [] (gives_nothing tells)

  -- and so have regions
  pub region_has : ((n : ℕ) (l : Location A) → L n l → location_over c.paths l ≡ first n) → (ps : PtrRegions) (rs : Regions (Op ℕ T A) (Head ℕ T A) (Brace ℕ)) → RegionsAre L c items ps rs → RegionsHave c first [] ps rs
  region_has tells = regions_have c [] (gives_nothing tells)
