-- What is older than a mark is unchanged, if all objects that were live then were older; and what is no older was not there.
use Rattle.std.proofs.Common.{◌≡◌, ◌∙◌, ◌⊎◌, ℕ, Bool, true, false, cond, Option, Some, None, IsSome, option_map, refl, sym, ap, subst, inl, inr}
use Rattle.std.specs.Prelude.{nat_lt}
use Rattle.irtext_graph.specs.declared.arena.Entry.{Entry}
use Rattle.irtext_graph.specs.declared.arena.Ptr.{Ptr}
use Rattle.irtext_graph.specs.declared.object.Operation.{Operation}
use Rattle.irtext_graph.specs.declared.object.BasicBlock.{BasicBlock}
use Rattle.irtext_graph.specs.declared.object.Region.{Region}
use Rattle.irtext_graph.specs.declared.object.Object.{Object}
use Rattle.irtext_graph.specs.declared.object.Object.TheVariants.{TheOperation, TheBlock, TheRegion}
use Rattle.irtext_graph.specs.Arena.{older}
use Rattle.irtext_graph.specs.Back.{AllOlder}
use Rattle.irtext_graph.specs.Content.{Node, Content, Content.{AnOperation, ABlock, ARegion}, OperationContent, BlockContent, RegionContent}
use Rattle.irtext_graph.specs.Graph.{GraphView, content, content_of, parent_of, parent, IsLive, IsNew, KeepsOlder}
use Rattle.irtext_graph.specs.Objects.{is_older}
use Rattle.irtext_graph.specs.Store.{Store, get, before}

module _ {X : Type 0} where
  older_is : (m : ℕ) (x : Option (Entry X)) (e : Entry X) → older m x ≡ Some e → x ≡ Some e
  older_is m None e h = absurd (cc)
  older_is m (Some x) e h = go (nat_lt x.born m) h
    where
      go : (b : Bool) → cond b (Some x) None ≡ Some e → Some x ≡ Some e
      go true k = k
      go false k = absurd (cc)

  older_there : (m : ℕ) (x : Entry X) → nat_lt x.born m ≡ true → older m (Some x) ≡ Some x
  older_there m x h = ap (λ b. cond b (Some x) None) h

  -- what was live then is unchanged
  module _ {K : Type 0} (m : ℕ) (old new : Store X) (p : Ptr K) (kept : before m new p ≡ before m old p) where
    stays_same : before m old p ≡ get old p → IsSome (get old p) → get new p ≡ get old p
    stays_same all h = go (get old p) refl h
      where
        go : (x : Option (Entry X)) → get old p ≡ x → IsSome x → get new p ≡ get old p
        go None e s = absurd (cc)
        go (Some x) e s = older_is m (get new p) x (kept ∙ (all ∙ e)) ∙ sym e

    -- an older object was live then
    older_was_live : (x : Entry X) → get new p ≡ Some x → nat_lt x.born m ≡ true → get old p ≡ Some x
    older_was_live x e h = older_is m (get old p) x (sym kept ∙ (ap (older m) e ∙ older_there m x h))

module _ {O B T : Type 0} (m : ℕ) (g k : GraphView O B T) (all : AllOlder m g) (kept : KeepsOlder m g k) where
  pub operation_stays : (p : Ptr Operation) → IsSome (get g.operations p) → get k.operations p ≡ get g.operations p
  operation_stays p = stays_same m g.operations k.operations p (kept.operations p) (all.operations p)

  pub block_stays : (b : Ptr BasicBlock) → IsSome (get g.blocks b) → get k.blocks b ≡ get g.blocks b
  block_stays b = stays_same m g.blocks k.blocks b (kept.blocks b) (all.blocks b)

  pub region_stays : (r : Ptr Region) → IsSome (get g.regions r) → get k.regions r ≡ get g.regions r
  region_stays r = stays_same m g.regions k.regions r (kept.regions r) (all.regions r)

module _ {O B T : Type 0} (m : ℕ) (g k : GraphView O B T) (kept : KeepsOlder m g k) where
  -- a live object is new, or was live then
  operation_was_live : (x : Option (Entry (Node BasicBlock Region (OperationContent O T)))) (p : Ptr Operation) → get k.operations p ≡ x → is_older {O = O} {B = B} {T = T} m (option_map (λ d. AnOperation d.0 d.1) (content_of x)) ≡ true → IsSome (get g.operations p)
  operation_was_live None p e h = absurd (cc)
  operation_was_live (Some x) p e h = let w = older_was_live m g.operations k.operations p (kept.operations p) x e h in subst IsSome (sym w) refl

  block_was_live : (x : Option (Entry (Node Region Operation (BlockContent B T)))) (b : Ptr BasicBlock) → get k.blocks b ≡ x → is_older {O = O} {B = B} {T = T} m (option_map (λ d. ABlock d.0 d.1) (content_of x)) ≡ true → IsSome (get g.blocks b)
  block_was_live None b e h = absurd (cc)
  block_was_live (Some x) b e h = let w = older_was_live m g.blocks k.blocks b (kept.blocks b) x e h in subst IsSome (sym w) refl

  region_was_live : (x : Option (Entry (Node Operation BasicBlock RegionContent))) (r : Ptr Region) → get k.regions r ≡ x → is_older {O = O} {B = B} {T = T} m (option_map (λ d. ARegion d.0 d.1) (content_of x)) ≡ true → IsSome (get g.regions r)
  region_was_live None r e h = absurd (cc)
  region_was_live (Some x) r e h = let w = older_was_live m g.regions k.regions r (kept.regions r) x e h in subst IsSome (sym w) refl

-- an object is in its arena
abbrev pub IsHere : {O B T : Type 0} → GraphView O B T → Object → Type 0
IsHere g (TheOperation p) = IsSome (get g.operations p)
IsHere g (TheBlock b) = IsSome (get g.blocks b)
IsHere g (TheRegion r) = IsSome (get g.regions r)

module _ {O B T : Type 0} where
  -- what an object is, by its kind
  abbrev an_operation : ℕ × OperationContent O T → Content O B T
  an_operation d = AnOperation d.0 d.1

  abbrev a_block : ℕ × BlockContent B T → Content O B T
  a_block d = ABlock d.0 d.1

  abbrev a_region : ℕ × RegionContent → Content O B T
  a_region d = ARegion d.0 d.1

  pub here_is_live : (g : GraphView O B T) (q : Object) → IsHere g q → IsLive g q
  here_is_live g (TheOperation p) h = go (get g.operations p) h
    where
      go : (x : Option (Entry (Node BasicBlock Region (OperationContent O T)))) → IsSome x → IsSome (option_map an_operation (content_of x))
      go None h = absurd (cc)
      go (Some x) h = refl
  here_is_live g (TheBlock b) h = go (get g.blocks b) h
    where
      go : (x : Option (Entry (Node Region Operation (BlockContent B T)))) → IsSome x → IsSome (option_map a_block (content_of x))
      go None h = absurd (cc)
      go (Some x) h = refl
  here_is_live g (TheRegion r) h = go (get g.regions r) h
    where
      go : (x : Option (Entry (Node Operation BasicBlock RegionContent))) → IsSome x → IsSome (option_map a_region (content_of x))
      go None h = absurd (cc)
      go (Some x) h = refl

  pub live_here : (g : GraphView O B T) (q : Object) → IsLive g q → IsHere g q
  live_here g (TheOperation p) h = go (get g.operations p) h
    where
      go : (x : Option (Entry (Node BasicBlock Region (OperationContent O T)))) → IsSome (option_map an_operation (content_of x)) → IsSome x
      go None h = absurd (cc)
      go (Some x) h = refl
  live_here g (TheBlock b) h = go (get g.blocks b) h
    where
      go : (x : Option (Entry (Node Region Operation (BlockContent B T)))) → IsSome (option_map a_block (content_of x)) → IsSome x
      go None h = absurd (cc)
      go (Some x) h = refl
  live_here g (TheRegion r) h = go (get g.regions r) h
    where
      go : (x : Option (Entry (Node Operation BasicBlock RegionContent))) → IsSome (option_map a_region (content_of x)) → IsSome x
      go None h = absurd (cc)
      go (Some x) h = refl

  -- a live object was live then, or is new
  pub was_live_or_new : (m : ℕ) (g k : GraphView O B T) → KeepsOlder m g k → (q : Object) → IsLive k q → IsLive g q ⊎ IsNew m k q
  was_live_or_new m g k kept q s = go (is_older m (content k q)) refl
    where
      older_here : (q : Object) → is_older m (content k q) ≡ true → IsHere g q
      older_here (TheOperation p) e = operation_was_live m g k kept (get k.operations p) p refl e
      older_here (TheBlock b) e = block_was_live m g k kept (get k.blocks b) b refl e
      older_here (TheRegion r) e = region_was_live m g k kept (get k.regions r) r refl e

      go : (b : Bool) → is_older m (content k q) ≡ b → IsLive g q ⊎ IsNew m k q
      go true e = inl (here_is_live g q (older_here q e))
      go false e = inr e

  -- an object that was live has the parent that it had
  pub same_parent : (m : ℕ) (g k : GraphView O B T) → AllOlder m g → KeepsOlder m g k → (q : Object) → IsLive g q → parent k q ≡ parent g q
  same_parent m g k all kept q s = go q (live_here g q s)
    where
      go : (q : Object) → IsHere g q → parent k q ≡ parent g q
      go (TheOperation p) h = ap (λ x. option_map TheBlock (parent_of x)) (operation_stays m g k all kept p h)
      go (TheBlock b) h = ap (λ x. option_map TheRegion (parent_of x)) (block_stays m g k all kept b h)
      go (TheRegion r) h = ap (λ x. option_map TheOperation (parent_of x)) (region_stays m g k all kept r h)
