-- Where all that can have a name has one, equal up to fillings is equal but for positions.
use Rattle.std.proofs.Common.{◌≡◌, ℕ, suc, Bool, true, List, [], ◌∷◌, map, Option, Some, None, ◌⊎◌, inl, inr, sym, ap, ◌∙◌, true≢false}
use Rattle.std.specs.Prelude.{⊤, is_some}
use Rattle.irtext_base.specs.Text.{Text}
use Rattle.irtext_base.specs.Format.{given_names_key, Id}
use Rattle.irtext_grammar.specs.Grammar.Forest.{Regions, no_regions, region, Blocks, no_blocks, block, Operations, no_operations, operation, MatchRegions, MatchBlocks, MatchOperations, AllRegions, AllBlocks, AllOperations}
use Rattle.irtext_grammar.specs.Grammar.Tree.{Attribute, given_names}
use Rattle.irtext_grammar.specs.Graphs.Graph.{Graph, GraphOp, GraphBlock, Printing, lookup}
use Rattle.irtext_grammar.specs.Names.Script.{Path}
use Rattle.irtext_grammar.specs.Names.Scopes.{Fact}
use Rattle.irtext_grammar.specs.Graphs.Build.{BuiltOp, BuiltBlock, Built}
use Rattle.irtext_grammar.specs.Graphs.Closed.{Thing}
use Rattle.irtext_grammar.specs.Graphs.Same.{resolved_op, resolved_block, resolved_regions, resolved_blocks, resolved_operations, resolved_root, Locations, SameDictionary, SameLabel, SameOp, SameBlock, UpToFillings}
use Rattle.irtext_grammar.specs.Graphs.Regained.{HoldsNames, OpNamed, BlockNamed, Named, EqualDictionary, EqualOp, EqualBlock, UpToPositions}

-- names that are there are not filled in
nothing_filled : {Y A : Type 0} (things : List Y) (name : Y → Text) (es fs : List (Text × Attribute A)) → HoldsNames things es → SameDictionary (map name things) es fs → EqualDictionary es fs
nothing_filled things name es fs h s key = go (s key)
  where
    missing : {Z : Type 0} (o : Option Z) → o ≡ None → is_some o ≡ true → ⊥
    missing o e t = true≢false (sym t ∙ ap is_some e)

    go : (lookup key fs ≡ lookup key es) ⊎ ((key ≡ given_names_key) × (lookup key es ≡ None) × (map name things ≡ [] → ⊥) × (lookup key fs ≡ Some (given_names (map Some (map name things))))) → lookup key fs ≡ lookup key es
    go (inl e) = e
    go (inr (k, e, some, f)) = absurd (holds h)
      where
        holds : HoldsNames things es → ⊥
        holds (inl q) = some (ap (map name) q)
        holds (inr q) = missing (lookup given_names_key es) (ap (λ z. lookup z es) (sym k) ∙ e) q

label_there : (name : Text) (o : Option Text) (l : Text) → is_some o ≡ true → SameLabel name o l → o ≡ Some l
label_there name None l h s = absurd (true≢false (sym h))
label_there name (Some k) l h s = ap Some (sym s)

module _ {T A X : Type 0} (C : Printing T A) (isolated : Id → Bool) (K : Locations X) where
  op_equal : (w m : List (Fact Thing)) (o : GraphOp T A) (b : BuiltOp T A X) → OpNamed C o → SameOp K (resolved_op C isolated w m o) b → EqualOp K (resolved_op C isolated w m o) b
  op_equal w m o b n s = record {
    shape = s.shape;
    operands_there = s.operands_there;
    successors_there = s.successors_there;
    dictionary = nothing_filled o.results _ o.attributes b.attributes n s.dictionary;
    location = s.location;
  }

  block_equal : (h : GraphBlock T A) (b : BuiltBlock T A X) → BlockNamed C h → SameBlock K (resolved_block C isolated h) b → EqualBlock K (resolved_block C isolated h) b
  block_equal h b n s = record {
    shape = s.shape;
    label = label_there _ (C.label h.place) b.label n.0 s.label;
    dictionary = nothing_filled h.arguments _ h.attributes b.attributes n.1 s.dictionary;
    location = s.location;
  }

  mutual
    regions_equal : (w : List (Fact Thing)) (p : Path) (j : ℕ) (iso : Bool) (rs : Regions (GraphOp T A) (GraphBlock T A) ⊤) (bs : Regions (BuiltOp T A X) (BuiltBlock T A X) ⊤) → AllRegions (OpNamed C) (BlockNamed C) (λ r. ⊤) rs
        → MatchRegions (SameOp K) (SameBlock K) (λ r s. ⊤) (resolved_regions C isolated w p j iso rs) bs → MatchRegions (EqualOp K) (EqualBlock K) (λ r s. ⊤) (resolved_regions C isolated w p j iso rs) bs
    regions_equal w p j iso no_regions no_regions n s = tt
    regions_equal w p j iso no_regions (region r bs rs) n s = absurd s
    regions_equal w p j iso (region r bs rs) no_regions n s = absurd s
    regions_equal w p j iso (region r bs rs) (region q cs ds) n s = (tt, blocks_equal _ _ (j ∷ p) 0 bs cs n.1 s.1, regions_equal w p (suc j) iso rs ds n.2 s.2)

    blocks_equal : (w m : List (Fact Thing)) (p : Path) (k : ℕ) (bs : Blocks (GraphOp T A) (GraphBlock T A) ⊤) (cs : Blocks (BuiltOp T A X) (BuiltBlock T A X) ⊤) → AllBlocks (OpNamed C) (BlockNamed C) (λ r. ⊤) bs
        → MatchBlocks (SameOp K) (SameBlock K) (λ r s. ⊤) (resolved_blocks C isolated w m p k bs) cs → MatchBlocks (EqualOp K) (EqualBlock K) (λ r s. ⊤) (resolved_blocks C isolated w m p k bs) cs
    blocks_equal w m p k no_blocks no_blocks n s = tt
    blocks_equal w m p k no_blocks (block c xs cs) n s = absurd s
    blocks_equal w m p k (block h os bs) no_blocks n s = absurd s
    blocks_equal w m p k (block h os bs) (block c xs cs) n s = (block_equal h c n.0 s.0, operations_equal w m (k ∷ p) 0 os xs n.1 s.1, blocks_equal w m p (suc k) bs cs n.2 s.2)

    operations_equal : (w m : List (Fact Thing)) (p : Path) (i : ℕ) (os : Operations (GraphOp T A) (GraphBlock T A) ⊤) (xs : Operations (BuiltOp T A X) (BuiltBlock T A X) ⊤) → AllOperations (OpNamed C) (BlockNamed C) (λ r. ⊤) os
        → MatchOperations (SameOp K) (SameBlock K) (λ r s. ⊤) (resolved_operations C isolated w m p i os) xs → MatchOperations (EqualOp K) (EqualBlock K) (λ r s. ⊤) (resolved_operations C isolated w m p i os) xs
    operations_equal w m p i no_operations no_operations n s = tt
    operations_equal w m p i no_operations (operation x rs xs) n s = absurd s
    operations_equal w m p i (operation o rs os) no_operations n s = absurd s
    operations_equal w m p i (operation o rs os) (operation x qs xs) n s =
        (op_equal w m o x n.0 s.0, regions_equal w (i ∷ p) 0 (isolated o.id) rs qs n.1 s.1, operations_equal w m p (suc i) os xs n.2 s.2)

  -- equal up to fillings is equal up to positions, where all that can have a name has one
  pub regained : (g : Graph T A) (b : Built T A X) → Named C g → UpToFillings K (resolved_root C isolated g) b → UpToPositions K (resolved_root C isolated g) b
  regained g b n s = (op_equal [] [] g.own b.own n.0 s.0, regions_equal [] [] 0 (isolated g.own.id) g.regions b.regions n.1 s.1)
