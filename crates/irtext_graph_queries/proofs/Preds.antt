-- The blocks of the operations that use a block, gathered use by use.
use Rattle.std.proofs.Common.{◌≡◌, ◌≤◌, ◌+◌, ◌++◌, ◌∷◌, ◌∙◌, ℕ, zero, suc, refl, sym, ap, inl, inr, Option, Some, None, List, [], IsSome, drop, length, slice_get}
use Rattle.std.specs.Option.{option_map}
use Rattle.std.proofs.lemmas.List.{append-nil, drop_all, drop_more}
use Rattle.std.proofs.lemmas.Option.{slice_get_within, get_or_from_slice_get}
use Rattle.irtext_graph.specs.declared.arena.Entry.{Entry}
use Rattle.irtext_graph.specs.declared.arena.Ptr.{Ptr}
use Rattle.irtext_graph.specs.declared.object.BasicBlock.{BasicBlock}
use Rattle.irtext_graph.specs.declared.object.Defined.{Defined}
use Rattle.irtext_graph.specs.declared.object.Defined.TheVariants.{OfValue, OfBlock}
use Rattle.irtext_graph.specs.declared.object.Object.TheVariants.{TheOperation, TheBlock}
use Rattle.irtext_graph.specs.declared.object.Region.{Region}
use Rattle.irtext_graph.specs.declared.object.Site.{Site}
use Rattle.irtext_graph.specs.declared.object.Site.TheVariants.{AtOperand, AtSuccessor}
use Rattle.irtext_graph.specs.Chained.{Among}
use Rattle.irtext_graph.specs.Content.{Content, Content.{AnOperation}, Node, OperationContent}
use Rattle.irtext_graph.specs.Graph.{GraphView, IsLive, parent_of, content_of}
use Rattle.irtext_graph_queries.specs.Lists.{blocks_of, put_first}
use Rattle.irtext_graph.specs.Parts.{operands_of, successors_of}
use Rattle.irtext_graph.specs.Store.{get}
use Rattle.irtext_graph.specs.Used.{IsUse, user}
use Rattle.irtext_graph.proofs.Listed.{pushed}

-- an element at an index of a list is a member of the list
pub met_at : {U : Type 0} (us : List U) (i : ℕ) (u : U) → slice_get us i ≡ Some u → Among u us
met_at [] i u e = absurd (cc)
met_at (x ∷ us) zero u e = let same : u ≡ x = cc in inl same
met_at (x ∷ us) (suc i) u e = inr (met_at us i u e)

-- a pointer to a block is known by the object
pub same_block : (a b : Option (Ptr BasicBlock)) → option_map TheBlock a ≡ option_map TheBlock b → a ≡ b
same_block None None e = refl
same_block None (Some b) e = absurd (cc)
same_block (Some a) None e = absurd (cc)
same_block (Some a) (Some b) e = cc

module _ {O B T : Type 0} (g : GraphView O B T) where
  -- the user of a definition is live
  pub user_is_live : (d : Defined) (u : Site) → IsUse g d u → IsLive g (TheOperation (user u))
  user_is_live d (AtOperand p i) e = go (get g.operations p) e
    where
      go : (s : Option (Entry (Node BasicBlock Region (OperationContent O T)))) → option_map OfValue (slice_get (operands_of (option_map (λ e. e.content.content) s)) i) ≡ Some d → IsSome (option_map {U = Content O B T} (λ d. AnOperation d.0 d.1) (content_of s))
      go None e = absurd (cc)
      go (Some o) e = refl
  user_is_live d (AtSuccessor p i) e = go (get g.operations p) e
    where
      go : (s : Option (Entry (Node BasicBlock Region (OperationContent O T)))) → option_map OfBlock (slice_get (successors_of (option_map (λ e. e.content.content) s)) i) ≡ Some d → IsSome (option_map {U = Content O B T} (λ d. AnOperation d.0 d.1) (content_of s))
      go None e = absurd (cc)
      go (Some o) e = refl

  next_use : (us : List Site) (i : ℕ) (u : Site) → slice_get us i ≡ Some u → blocks_of g (drop i us) ≡ put_first (parent_of (get g.operations (user u))) (blocks_of g (drop (i + 1) us))
  next_use us i u at = ap (blocks_of g) (drop_more us i u (slice_get_within us i u at) ∙ ap (λ x. x ∷ drop (i + 1) us) (get_or_from_slice_get us i u u at))

  -- the operation of a use has a block as its parent, which was pushed
  pub found : (us : List Site) (i : ℕ) (u : Site) (b : Ptr BasicBlock) (all new : List (Ptr BasicBlock)) → slice_get us i ≡ Some u → parent_of (get g.operations (user u)) ≡ Some b → all ++ blocks_of g (drop i us) ≡ blocks_of g us → new ≡ all ++ b ∷ [] → new ++ blocks_of g (drop (i + 1) us) ≡ blocks_of g us
  found us i u b all new at e so k =
      ap (λ bs. bs ++ blocks_of g (drop (i + 1) us)) k
      ∙ pushed all b (blocks_of g (drop (i + 1) us)) (blocks_of g (drop i us)) (blocks_of g us) (next_use us i u at ∙ ap (λ p. put_first p (blocks_of g (drop (i + 1) us))) e) so

  -- it has no parent
  pub missed : (us : List Site) (i : ℕ) (u : Site) (all : List (Ptr BasicBlock)) → slice_get us i ≡ Some u → parent_of (get g.operations (user u)) ≡ None → all ++ blocks_of g (drop i us) ≡ blocks_of g us → all ++ blocks_of g (drop (i + 1) us) ≡ blocks_of g us
  missed us i u all at e so = ap (λ bs. all ++ bs) (sym (next_use us i u at ∙ ap (λ p. put_first p (blocks_of g (drop (i + 1) us))) e)) ∙ so

  -- all uses were gone through
  pub all_met : (us : List Site) (i : ℕ) (all : List (Ptr BasicBlock)) → length us ≤ i → all ++ blocks_of g (drop i us) ≡ blocks_of g us → all ≡ blocks_of g us
  all_met us i all end so = sym (append-nil all) ∙ ap (λ xs. all ++ blocks_of g xs) (sym (drop_all i us end)) ∙ so
