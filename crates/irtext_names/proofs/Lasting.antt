-- The open objects are still live if only placeholders are lost.
use Rattle.std.proofs.Common.{◌≡◌, ◌<◌, ◌≤◌, ◌∙◌, ℕ, Bool, true, false, nat_lt, ltb-true, refl, sym, subst, arith, zero, suc, List, [], ◌∷◌, Option, Some, None, IsSome, length, slice_get}
use Rattle.std.specs.Prelude.{option_and_then}
use Rattle.std.specs.Option.{option_map}
use Rattle.irtext_context.specs.Context.{ContextView, operation, operation_of, view_of, OperationView, block, block_of}
use Rattle.irtext_context.specs.declared.base.block.BlockData.{BlockData}
use Rattle.irtext_context.specs.declared.base.operation.OperationData.{OperationData}
use Rattle.irtext_graph.specs.declared.arena.Entry.{Entry}
use Rattle.irtext_graph.specs.declared.arena.Ptr.{Ptr}
use Rattle.irtext_graph.specs.declared.object.BasicBlock.{BasicBlock}
use Rattle.irtext_graph.specs.declared.object.Operation.{Operation}
use Rattle.irtext_graph.specs.declared.object.Region.{Region}
use Rattle.irtext_graph.specs.declared.object.Object.{Object}
use Rattle.irtext_graph.specs.declared.object.Object.TheVariants.{TheBlock}
use Rattle.irtext_graph.specs.declared.object.Value.{Value}
use Rattle.irtext_graph.specs.declared.object.Value.TheVariants.{Result}
use Rattle.irtext_graph.specs.Content.{Node, Content, Content.{ABlock}, OperationContent, BlockContent}
use Rattle.irtext_graph.specs.Graph.{content_of, parent, IsLive}
use Rattle.irtext_graph.specs.Parts.{operation_at, results}
use Rattle.irtext_graph.specs.Store.{get}
use Rattle.irtext_scopes.specs.Scopes.{Scope}
use Rattle.irtext_names.specs.Tied.{MatchesGraph}
use Rattle.irtext_names.specs.Rows.{ValuesReady}
use Rattle.irtext_names.specs.LosesPlaceholders.{LosesPlaceholders}
use Rattle.irtext_names.specs.Items.{KeepsLive}

-- a number is not below one that is no greater
pub not_below : (a b : ℕ) → b ≤ a → nat_lt a b ≡ false
not_below a b le = go (nat_lt a b) refl
  where
    go : (t : Bool) → nat_lt a b ≡ t → t ≡ false
    go false e = refl
    go true e = let l = ltb-true a b e in absurd (omega arith)

-- ---- one after another
pub lasts_then : {T A : Type 0} (a b c : ContextView T A) → KeepsLive a b → KeepsLive b c → KeepsLive a c
lasts_then a b c s t = record {
  operations = λ p h. t.operations p (s.operations p h);
  results = λ p h. t.results p (s.operations p h) ∙ s.results p h;
  blocks = λ k h x. let r = s.blocks k h x in let q = t.blocks k r.0 (subst IsSome (sym r.1) x) in (q.0, q.1 ∙ r.1);
  regions = λ r h. t.regions r (s.regions r h);
  newer = λ m q le n. let up = s.made in t.newer m q (omega (arith, le, up)) (s.newer m q le n);
  made = let up = s.made in let on = t.made in omega (arith, up, on);
  dialects = t.dialects ∙ s.dialects;
}

pub lasts_itself : {T A : Type 0} (a : ContextView T A) → KeepsLive a a
lasts_itself a = record {
  operations = λ p h. h;
  results = λ p h. refl;
  blocks = λ k h x. (h, refl);
  regions = λ r h. h;
  newer = λ m q le n. n;
  made = omega arith;
  dialects = refl;
}

-- ---- in a context
slice_there : {X : Type 0} (xs : List X) (i : ℕ) → i < length xs → IsSome (slice_get xs i)
slice_there [] i l = absurd (omega (arith, l))
slice_there (x ∷ xs) zero l = refl
slice_there (x ∷ xs) (suc i) l = slice_there xs i (omega (arith, l))

module _ {T A : Type 0} where
  -- a block, as what an object is
  abbrev a_block : ℕ × BlockContent (BlockData A) (Option T) → Content (Option (OperationData A)) (BlockData A) (Option T)
  a_block d = ABlock d.0 d.1

  -- what is seen of an operation has data
  pub data_there : (c : ContextView T A) (p : Ptr Operation) → IsSome (operation c p) → (x : OperationData A) × (option_map (λ c. c.data_of) (operation_at c.graph p) ≡ Some (Some x))
  data_there c p h = go (get c.graph.operations p) h
    where
      data_in : (f : OperationData A → OperationView T A) (d : Option (OperationData A)) → IsSome (option_map f d) → (x : OperationData A) × (Some d ≡ Some (Some x))
      data_in f None s = absurd (cc)
      data_in f (Some x) s = (x, refl)

      go : (e : Option (Entry (Node BasicBlock Region (OperationContent (Option (OperationData A)) (Option T))))) → IsSome (option_and_then operation_of e) → (x : OperationData A) × (option_map (λ c. c.data_of) (option_map (λ e. e.content.content) e) ≡ Some (Some x))
      go None s = absurd (cc)
      go (Some e) s = data_in (view_of e.content.content.results e.content.children) e.content.content.data_of s

  -- and what has data is seen
  pub there_data : (c : ContextView T A) (p : Ptr Operation) (x : OperationData A) → option_map (λ c. c.data_of) (operation_at c.graph p) ≡ Some (Some x) → IsSome (operation c p)
  there_data c p x h = go (get c.graph.operations p) h
    where
      data_in : (f : OperationData A → OperationView T A) (d : Option (OperationData A)) → Some d ≡ Some (Some x) → IsSome (option_map f d)
      data_in f None s = absurd (cc)
      data_in f (Some y) s = refl

      go : (e : Option (Entry (Node BasicBlock Region (OperationContent (Option (OperationData A)) (Option T))))) → option_map (λ c. c.data_of) (option_map (λ e. e.content.content) e) ≡ Some (Some x) → IsSome (option_and_then operation_of e)
      go None s = absurd (cc)
      go (Some e) s = data_in (view_of e.content.content.results e.content.children) e.content.content.data_of s

  -- a block with a view is live, and conversely
  pub block_is_live : (c : ContextView T A) (b : Ptr BasicBlock) → IsSome (block c b) → IsLive c.graph (TheBlock b)
  block_is_live c b h = go (get c.graph.blocks b) h
    where
      go : (e : Option (Entry (Node Region Operation (BlockContent (BlockData A) (Option T))))) → IsSome (option_map block_of e) → IsSome (option_map a_block (content_of e))
      go None s = absurd (cc)
      go (Some e) s = refl

  pub live_block_view : (c : ContextView T A) (b : Ptr BasicBlock) → IsLive c.graph (TheBlock b) → IsSome (block c b)
  live_block_view c b h = go (get c.graph.blocks b) h
    where
      go : (e : Option (Entry (Node Region Operation (BlockContent (BlockData A) (Option T))))) → IsSome (option_map a_block (content_of e)) → IsSome (option_map block_of e)
      go None s = absurd (cc)
      go (Some e) s = refl

  -- the open objects are still live
  pub loses_lasts : (old new : ContextView T A) → LosesPlaceholders old.graph new.graph → new.dialects ≡ old.dialects → KeepsLive old new
  loses_lasts old new l same = record {
    operations = λ p h. let x = data_there old p h in there_data new p x.0 (l.operations p x.0 x.1);
    results = λ p h. let x = data_there old p h in l.results p x.0 x.1;
    blocks = λ b h s. stays b (parent old.graph (TheBlock b)) refl h s;
    regions = l.regions;
    newer = λ m q le n. l.newer m q n;
    made = let e = l.made in omega (arith, e);
    dialects = same;
  }
    where
      stays : (b : Ptr BasicBlock) (o : Option Object) → parent old.graph (TheBlock b) ≡ o → IsSome (block old b) → IsSome o → IsSome (block new b) × (parent new.graph (TheBlock b) ≡ parent old.graph (TheBlock b))
      stays b None e h s = absurd (cc)
      stays b (Some o) e h s = let r = l.blocks b o e in (live_block_view new b (r.1 (block_is_live old b h)), r.0 ∙ sym e)

  -- the results of an operation that has data wait for no name
  pub results_ready : (c : ContextView T A) (p : Ptr Operation) (count : ℕ) (vs : List (Scope Value)) (ls : List (Scope (Ptr BasicBlock))) → IsSome (operation c p) → length (results c.graph p) ≡ count → MatchesGraph vs ls c.graph
      → ValuesReady (λ i. Result p i) count vs c.graph
  results_ready c p count vs ls h n t = λ i l. (
    slice_there (results c.graph p) i (subst (λ k. i < k) (sym n) l),
    λ k m e.
        let x = data_there c p h in let b = (t.value_ties.held k m (Result p i) e).blank in let z = sym b ∙ x.1 in cc,
  )
