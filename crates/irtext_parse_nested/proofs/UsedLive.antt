-- What an operation that begins leaves of a context, step by step: where names were used, where it was made, and where it was appended to a
-- block.
use Rattle.std.proofs.Common.{◌≡◌, ◌≤◌, ◌∙◌, inl, inr, ℕ, Bool, true, false, List, [], length, Option, Some, None, IsSome, nat_lt, if◌then◌else◌, refl, sym, ap, subst, arith}
use Rattle.std.specs.Prelude.{option_and_then}
use Rattle.std.specs.Option.{option_map}
use Rattle.irtext_context.specs.Context.{ContextView, operation, operation_of, block, block_of, region, region_of, MakesOperation}
use Rattle.irtext_context.specs.declared.base.block.BlockData.{BlockData}
use Rattle.irtext_context.specs.declared.base.operation.OperationData.{OperationData}
use Rattle.irtext_graph.specs.Arena.{older}
use Rattle.irtext_graph.specs.Back.{AllOlder}
use Rattle.irtext_graph.specs.Chained.{Among}
use Rattle.irtext_graph.specs.Content.{Node, Content, Content.{AnOperation, ABlock, ARegion}, OperationContent, BlockContent, RegionContent, Typed}
use Rattle.irtext_graph.specs.Graph as graphs
use Rattle.irtext_graph.specs.Graph.{GraphView, Appends, IsNew, IsLive, content, content_of, parent, parent_of}
use Rattle.irtext_graph.specs.Objects.{is_older}
use Rattle.irtext_graph.specs.Parts.{results, results_of}
use Rattle.irtext_graph.specs.Store.{Store, get, before}
use Rattle.irtext_graph.specs.declared.arena.Entry.{Entry}
use Rattle.irtext_graph.specs.declared.arena.Ptr.{Ptr}
use Rattle.irtext_graph.specs.declared.object.BasicBlock.{BasicBlock}
use Rattle.irtext_graph.specs.declared.object.Operation.{Operation}
use Rattle.irtext_graph.specs.declared.object.Region.{Region}
use Rattle.irtext_graph.specs.declared.object.Object.{Object}
use Rattle.irtext_graph.specs.declared.object.Object.TheVariants.{TheOperation, TheBlock, TheRegion}
use Rattle.irtext_graph.specs.declared.object.Value.{Value}
use Rattle.irtext_graph.specs.Erasing.{without_uses}
use Rattle.irtext_graph.proofs.Arenas.{from_older}
use Rattle.irtext_graph.proofs.Frames.{new_operation, new_block}
use Rattle.irtext_graph.proofs.Nests.{same_or_other}
use Rattle.irtext_graph.proofs.Same.{ptr_tells}
use Rattle.irtext_names.proofs.Gained.{fresh_place}
use Rattle.irtext_names.proofs.SameBut.{data_in, data_is}
use Rattle.irtext_grammar.specs.Unchanged.{IsThere, IsAsItWas, ModifiesOnly}
use Rattle.irtext_grammar.proofs.Edits.{kept_as_many}
use Rattle.irtext_names.specs.Uses.{BringsNone}
use Rattle.irtext_names.specs.Items.{KeepsLive}
use Rattle.irtext_names.proofs.Steady.{seen_region}
use Rattle.irtext_names.proofs.Lasting.{not_below, data_there, there_data, block_is_live, live_block_view}

-- what is seen of an operation
abbrev seen_operation : (O B T : Type 0) → Option (ℕ × OperationContent O T) → Option (Content O B T)
seen_operation O B T o = option_map (λ d. AnOperation d.0 d.1) o

-- what is no older than a mark is so by its number
young : {X : Type 0} (m : ℕ) (e : Entry X) → older m (Some e) ≡ None → nat_lt e.born m ≡ false
young m e n = go (nat_lt e.born m) refl n
  where
    go : (b : Bool) → nat_lt e.born m ≡ b → (if b then Some e else None) ≡ None → b ≡ false
    go true f n = absurd (cc)
    go false f n = refl

-- ---- names were used
module _ {T A : Type 0} (old used : ContextView T A) (all_older : AllOlder old.graph.made old.graph) (kept : (m : ℕ) → m ≤ old.graph.made → graphs.KeepsOlder m old.graph used.graph)
    (brings : BringsNone old.graph used.graph) (same : used.dialects ≡ old.dialects) where
  stays : {X K : Type 0} (m : ℕ) (s t : Store X) (p : Ptr K) (e : Entry X) → before m t p ≡ before m s p → before m s p ≡ get s p → get s p ≡ Some e → get t p ≡ Some e
  stays m s t p e k a f = from_older m (get t p) e (k ∙ (a ∙ f))

  now : graphs.KeepsOlder old.graph.made old.graph used.graph
  now = kept old.graph.made (omega arith)

  operation_stays : (p : Ptr Operation) → IsSome (operation old p) → get used.graph.operations p ≡ get old.graph.operations p
  operation_stays p h = go (get old.graph.operations p) refl h
    where
      go : (e : Option (Entry (Node BasicBlock Region (OperationContent (Option (OperationData A)) (Option T))))) → get old.graph.operations p ≡ e → IsSome (option_and_then operation_of e) → get used.graph.operations p ≡ get old.graph.operations p
      go None f h = absurd (cc)
      go (Some e) f h = stays old.graph.made old.graph.operations used.graph.operations p e (now.operations p) (all_older.operations p) f ∙ sym f

  block_stays : (b : Ptr BasicBlock) → IsSome (block old b) → get used.graph.blocks b ≡ get old.graph.blocks b
  block_stays b h = go (get old.graph.blocks b) refl h
    where
      go : (e : Option (Entry (Node Region Operation (BlockContent (BlockData A) (Option T))))) → get old.graph.blocks b ≡ e → IsSome (option_map block_of e) → get used.graph.blocks b ≡ get old.graph.blocks b
      go None f h = absurd (cc)
      go (Some e) f h = stays old.graph.made old.graph.blocks used.graph.blocks b e (now.blocks b) (all_older.blocks b) f ∙ sym f

  region_stays : (r : Ptr Region) → IsSome (region old r) → get used.graph.regions r ≡ get old.graph.regions r
  region_stays r h = go (get old.graph.regions r) refl h
    where
      go : (e : Option (Entry (Node Operation BasicBlock RegionContent))) → get old.graph.regions r ≡ e → IsSome (option_map region_of e) → get used.graph.regions r ≡ get old.graph.regions r
      go None f h = absurd (cc)
      go (Some e) f h = stays old.graph.made old.graph.regions used.graph.regions r e (now.regions r) (all_older.regions r) f ∙ sym f

  region_seen : (r : Ptr Region) → IsLive old.graph (TheRegion r) → IsSome (region old r)
  region_seen r h = go (get old.graph.regions r) h
    where
      go : (e : Option (Entry (Node Operation BasicBlock RegionContent))) → IsSome (seen_region (Option (OperationData A)) (BlockData A) (Option T) (content_of e)) → IsSome (option_map region_of e)
      go None h = absurd (cc)
      go (Some e) h = refl

  -- every object that was present is unchanged, and none was created
  pub used_spares : ModifiesOnly [] old used
  used_spares = record { spared = go; brought = λ q there. inl (was q there) }
    where
      go : (q : Object) → IsThere old q → (Among q [] → ⊥) → IsAsItWas old used q
      go (TheOperation p) there apart = (ap (option_and_then operation_of) (operation_stays p there), kept_as_many old.graph used.graph p (operation_stays p there))
      go (TheBlock b) there apart = (ap (option_map block_of) (block_stays b there.0), ap (λ x. option_map TheRegion (parent_of x)) (block_stays b there.0))
      go (TheRegion r) there apart = ap (option_map region_of) (region_stays r there)

      in_parent : (b : Ptr BasicBlock) (o : Option Object) → parent used.graph (TheBlock b) ≡ o → IsSome o → IsThere old (TheBlock b)
      in_parent b None e there = absurd (cc)
      in_parent b (Some o) e there = let up = brings.blocks b o e in (block_of_parent (get old.graph.blocks b) o up, subst IsSome (sym up) refl)
        where
          block_of_parent : (e : Option (Entry (Node Region Operation (BlockContent (BlockData A) (Option T))))) (o : Object) → option_map TheRegion (parent_of e) ≡ Some o → IsSome (option_map block_of e)
          block_of_parent None o f = absurd (cc)
          block_of_parent (Some e) o f = refl

      live_region : (c : ContextView T A) (r : Ptr Region) → IsSome (region c r) → IsLive c.graph (TheRegion r)
      live_region c r h = of (get c.graph.regions r) h
        where
          of : (e : Option (Entry (Node Operation BasicBlock RegionContent))) → IsSome (option_map region_of e) → IsSome (seen_region (Option (OperationData A)) (BlockData A) (Option T) (content_of e))
          of None h = absurd (cc)
          of (Some e) h = refl

      was : (q : Object) → IsThere used q → IsThere old q
      was (TheOperation p) there = let x = data_there used p there in there_data old p x.0 (brings.operations p x.0 x.1)
      was (TheBlock b) there = in_parent b (parent used.graph (TheBlock b)) refl there.1
      was (TheRegion r) there = region_seen r (brings.regions r (live_region used r there))

  newer_used : (m : ℕ) (q : Object) → m ≤ old.graph.made → IsNew m old.graph q → IsNew m used.graph q
  newer_used m (TheOperation p) le n = go (get used.graph.operations p) ((kept m le).operations p ∙ new_operation m old.graph p n)
    where
      go : (e : Option (Entry (Node BasicBlock Region (OperationContent (Option (OperationData A)) (Option T))))) → older m e ≡ None → is_older {O = Option (OperationData A)} {B = BlockData A} {T = Option T} m (option_map (λ d. AnOperation d.0 d.1) (content_of e)) ≡ false
      go None f = refl
      go (Some e) f = young m e f
  newer_used m (TheBlock b) le n = go (get used.graph.blocks b) ((kept m le).blocks b ∙ new_block m old.graph b n)
    where
      go : (e : Option (Entry (Node Region Operation (BlockContent (BlockData A) (Option T))))) → older m e ≡ None → is_older {O = Option (OperationData A)} {B = BlockData A} {T = Option T} m (option_map (λ d. ABlock d.0 d.1) (content_of e)) ≡ false
      go None f = refl
      go (Some e) f = young m e f
  newer_used m (TheRegion r) le n = go (get used.graph.regions r) ((kept m le).regions r ∙ was (get old.graph.regions r) n)
    where
      was : (e : Option (Entry (Node Operation BasicBlock RegionContent))) → is_older {O = Option (OperationData A)} {B = BlockData A} {T = Option T} m (option_map (λ d. ARegion d.0 d.1) (content_of e)) ≡ false → older m e ≡ None
      was None f = refl
      was (Some e) f = ap (λ b. if b then Some e else None) f

      go : (e : Option (Entry (Node Operation BasicBlock RegionContent))) → older m e ≡ None → is_older {O = Option (OperationData A)} {B = BlockData A} {T = Option T} m (option_map (λ d. ARegion d.0 d.1) (content_of e)) ≡ false
      go None f = refl
      go (Some e) f = young m e f

  -- the open objects are still live
  pub used_lasts : KeepsLive old used
  used_lasts = record {
    operations = λ p h. subst (λ e. IsSome (option_and_then operation_of e)) (sym (operation_stays p h)) h;
    results = λ p h. ap (λ e. length (results_of (option_map (λ e. e.content.content) e))) (operation_stays p h);
    blocks = λ b h x. (subst (λ e. IsSome (option_map block_of e)) (sym (block_stays b h)) h, ap (λ e. option_map TheRegion (parent_of e)) (block_stays b h));
    regions = λ r h. subst (λ e. IsSome (seen_region (Option (OperationData A)) (BlockData A) (Option T) (content_of e))) (sym (region_stays r (region_seen r h))) h;
    newer = newer_used;
    made = now.made;
    dialects = same;
  }

-- ---- the operation was made
module _ {T A : Type 0} (old new : ContextView T A) (op : Ptr Operation) (held : OperationData A) (types : List T) {vs : List Value} {bs : List (Ptr BasicBlock)} (makes : MakesOperation old new op held types vs bs) where
  was_none : get old.graph.operations op ≡ None
  was_none = fresh_place old.graph.operations new.graph.operations op makes.graph.operations

  other : (p : Ptr Operation) → IsSome (operation old p) → get new.graph.operations p ≡ get old.graph.operations p
  other p h = makes.graph.operations.updates.others p (λ e. let none = subst (λ e. IsSome (option_and_then operation_of e)) (ap (get old.graph.operations) e ∙ was_none) h in absurd (cc))

  -- it is no older than a mark that what was made reached
  pub made_new : (m : ℕ) → m ≤ old.graph.made → IsNew m new.graph (TheOperation op)
  made_new m le = ap (λ e. is_older {O = Option (OperationData A)} {B = BlockData A} {T = Option T} m (option_map (λ d. AnOperation d.0 d.1) (content_of e))) makes.graph.operations.updates.changed ∙ not_below old.graph.made m le

  newer_made : (m : ℕ) (q : Object) → m ≤ old.graph.made → IsNew m old.graph q → IsNew m new.graph q
  newer_made m (TheOperation p) le n = elim (same_or_other ptr_tells p op) [
    | inl e ↦ subst (λ q. IsNew m new.graph (TheOperation q)) (sym e) (made_new m le)
    | inr ne ↦ ap (λ e. is_older {O = Option (OperationData A)} {B = BlockData A} {T = Option T} m (option_map (λ d. AnOperation d.0 d.1) (content_of e))) (makes.graph.operations.updates.others p ne) ∙ n
  ]
  newer_made m (TheBlock b) le n = ap (λ s. is_older {O = Option (OperationData A)} {B = BlockData A} {T = Option T} m (option_map (λ d. ABlock d.0 d.1) (content_of (get s b)))) makes.graph.blocks ∙ n
  newer_made m (TheRegion r) le n = ap (λ s. is_older {O = Option (OperationData A)} {B = BlockData A} {T = Option T} m (option_map (λ d. ARegion d.0 d.1) (content_of (get s r)))) makes.graph.regions ∙ n

  pub made_lasts : KeepsLive old new
  made_lasts = record {
    operations = λ p h. subst (λ e. IsSome (option_and_then operation_of e)) (sym (other p h)) h;
    results = λ p h. ap (λ e. length (results_of (option_map (λ e. e.content.content) e))) (other p h);
    blocks = λ b h x. (subst (λ s. IsSome (option_map block_of (get s b))) (sym makes.graph.blocks) h, ap (λ s. option_map TheRegion (parent_of (get s b))) makes.graph.blocks);
    regions = λ r h. subst (λ s. IsSome (seen_region (Option (OperationData A)) (BlockData A) (Option T) (content_of (get s r)))) (sym makes.graph.regions) h;
    newer = newer_made;
    made = let e = makes.graph.made in omega (arith, e);
    dialects = makes.dialects;
  }

-- the results of an object, by what it is
abbrev results_seen : {O B T : Type 0} → Option (Content O B T) → List (Typed T)
results_seen (Some (AnOperation n c)) = c.results
results_seen _ = []

-- ---- it was appended to a block
module _ {T A : Type 0} (old new : ContextView T A) (b : Ptr BasicBlock) (op : Ptr Operation) (a : Appends old.graph new.graph (TheBlock b) (TheOperation op)) (same : new.dialects ≡ old.dialects) where
  pub placed_lasts : KeepsLive old new
  placed_lasts = record {
    operations = λ p h. let x = data_there old p h in there_data new p x.0 (data_is new.graph p ∙ (ap (λ c. data_in (option_map without_uses c)) (a.objects.contents (TheOperation p)) ∙ (sym (data_is old.graph p) ∙ x.1)));
    results = λ p h. ap length (results_same p);
    blocks = λ k h x. (live_block_view new k (subst IsSome (sym (a.objects.contents (TheBlock k))) (block_is_live old k h)), a.parents (TheBlock k) (λ e. cc));
    regions = λ r h. subst IsSome (sym (a.objects.contents (TheRegion r))) h;
    newer = λ m q le n. ap (is_older m) (a.objects.contents q) ∙ n;
    made = let e = a.objects.rest.made in omega (arith, e);
    dialects = same;
  }
    where
      seen : (g : GraphView (Option (OperationData A)) (BlockData A) (Option T)) (p : Ptr Operation) → results g p ≡ results_seen (content g (TheOperation p))
      seen g p = go (get g.operations p)
        where
          go : (e : Option (Entry (Node BasicBlock Region (OperationContent (Option (OperationData A)) (Option T))))) → results_of (option_map (λ e. e.content.content) e) ≡ results_seen (seen_operation (Option (OperationData A)) (BlockData A) (Option T) (content_of e))
          go None = refl
          go (Some e) = refl

      results_same : (p : Ptr Operation) → results new.graph p ≡ results old.graph p
      results_same p = seen new.graph p ∙ (ap results_seen (a.objects.contents (TheOperation p)) ∙ sym (seen old.graph p))
