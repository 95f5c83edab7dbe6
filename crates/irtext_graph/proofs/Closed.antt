-- When no object older than a mark has a newer child, parent or use.
use Rattle.std.proofs.Common.{◌≡◌, ◌∙◌, inl, inr, ℕ, refl, sym, ap, arith, cond, nat_lt, is_some, true, false, Bool, Option, Some, None, IsSome, map, slice_get}
use Rattle.std.specs.Option.{option_map}
use Rattle.irtext_graph.specs.declared.graph.Counters.{Counters}
use Rattle.irtext_graph.specs.Arena.{get, found, born_in, older, AtLeast, AreOlder}
use Rattle.irtext_graph.specs.Back.{owner, operands_of, successors_of, IsClosedBelow, AllOlder, RollsBack}
use Rattle.irtext_graph.specs.Content.{Node, Content, Content.{AnOperation, ABlock, ARegion}, node_of, operation_content, block_content, region_content}
use Rattle.irtext_graph.specs.Graph.{GraphView, graph_of, parent_of, children_of, content_of, parent, children, content, IsNew, KeepsOlder}
use Rattle.irtext_graph.specs.Log.{age}
use Rattle.irtext_graph.specs.Objects.{born_of, is_older, Lives}
use Rattle.irtext_graph.specs.Sound.{IsSound}
use Rattle.irtext_graph.specs.Store as store
use Rattle.irtext_graph.specs.Uses.{use_at, head_at, val, operand_in, successor_in, either, first_of, result_in, argument_in, preds_in}
use Rattle.irtext_graph.specs.declared.arena.Arena.{Arena}
use Rattle.irtext_graph.specs.declared.arena.Entry.{Entry}
use Rattle.irtext_graph.specs.declared.arena.Ptr.{Ptr}
use Rattle.irtext_graph.specs.declared.object.BasicBlock.{BasicBlock}
use Rattle.irtext_graph.specs.declared.object.Operation.{Operation}
use Rattle.irtext_graph.specs.declared.object.Region.{Region}
use Rattle.irtext_graph.specs.declared.object.Object.{Object}
use Rattle.irtext_graph.specs.declared.object.Object.TheVariants.{TheOperation, TheBlock, TheRegion}
use Rattle.irtext_graph.specs.declared.object.Value.TheVariants.{Result, Argument}
use Rattle.irtext_graph.specs.declared.object.Defined.{Defined}
use Rattle.irtext_graph.specs.declared.object.Defined.TheVariants.{OfValue, OfBlock}
use Rattle.irtext_graph.specs.declared.object.Site.{Site}
use Rattle.irtext_graph.specs.declared.object.Site.TheVariants.{AtOperand, AtSuccessor}
use Rattle.irtext_graph.specs.declared.objects.Objects.{Objects}
use Rattle.irtext_graph.specs.declared.objects.Use.{Use}
use Rattle.irtext_graph.proofs.Arenas.{from_older}
use Rattle.irtext_graph.proofs.Backs.{owner_of, new_is, operand_seen, successor_seen, op_lives}
use Rattle.irtext_graph.proofs.Erased.{up_lives}
use Rattle.irtext_graph.proofs.Kept.{datum_there}
use Rattle.irtext_graph.proofs.Linked.{used_def}
use Rattle.irtext_graph.proofs.Nests.{seen, some_eq}
use Rattle.irtext_graph.proofs.Places.{parent_lives}
use Rattle.irtext_graph.proofs.Stores.{older_all_seen}
use Rattle.irtext_graph.proofs.Views.{up_seen, kids_seen}
use Rattle.irtext_graph.proofs.Once.{gives_on}

some_if : {X : Type 0} (e : Option X) → (e ≡ None → ⊥) → IsSome e
some_if None n = absurd (n refl)
some_if (Some x) n = refl

named : {D : Type 0} (f : D → Defined) (s : Option (Use D)) (d : D) → option_map (λ o. o.def) s ≡ Some d → (o : Use Defined) × (option_map (either f) s ≡ Some o) × (o.def ≡ f d)
named f None d e = absurd (cc)
named f (Some o) d e = (either f o, refl, ap f (some_eq e))

low : {X : Type 0} (made : ℕ) (a : Arena X) → AreOlder made a → (i g : ℕ) → AtLeast made (born_in (found (slice_get a.slots.items i) g)) → ⊥
low made a h i g l = go (found (slice_get a.slots.items i) g) refl l
  where
    go : (e : Option (Entry _)) → found (slice_get a.slots.items i) g ≡ e → AtLeast made (born_in e) → ⊥
    go None e l = l
    go (Some o) e l = let n = h i g o e in omega (arith, n, l)

module _ {P C E : Type 0} where
  -- what is unchanged before a mark and was made before it is the same
  entry_was : (m : ℕ) (s t : Option (Entry (Node P C E))) → older m t ≡ older m s → is_some (older m t) ≡ true → t ≡ s
  entry_was m s t e old = elim (seen (older m t)) [
    | inl none ↦ absurd (let k : is_some (older m t) ≡ false = ap is_some none in cc)
    | inr (x, f) ↦ from_older m t x f ∙ sym (from_older m s x (sym e ∙ f))
  ]

  -- whether an object was made before a mark
  aged : {O B T : Type 0} (m : ℕ) (f : ℕ × E → Content O B T) → ((d : ℕ × E) → born_of (f d) ≡ d.0) → (t : Option (Entry (Node P C E))) → is_older m (option_map f (content_of t)) ≡ is_some (older m t)
  aged m f same None = refl
  aged m f same (Some x) = ap (λ n. nat_lt n m) (same (x.born, x.content.content)) ∙ go (nat_lt x.born m)
    where
      go : (b : Bool) → b ≡ is_some (cond b (Some x) None)
      go true = refl
      go false = refl

-- what was kept twice was kept
pub older_on : {O B T : Type 0} (m : ℕ) (a b c : GraphView O B T) → KeepsOlder m a b → KeepsOlder m b c → KeepsOlder m a c
older_on m a b c s t = record {
  operations = λ p. t.operations p ∙ s.operations p;
  blocks = λ p. t.blocks p ∙ s.blocks p;
  regions = λ p. t.regions p ∙ s.regions p;
  made = let e = s.made in let f = t.made in omega (arith, e, f);
  values = let e = s.values in let f = t.values in omega (arith, e, f);
  first_place = t.first_place ∙ s.first_place;
  pointers = gives_on a b c s.pointers t.pointers;
}

module _ {O B T : Type 0} (m : ℕ) (g h : GraphView O B T) (k : KeepsOlder m g h) where
  age_operation : (v : GraphView O B T) (p : Ptr Operation) → is_older m (content v (TheOperation p)) ≡ is_some (older m (store.get v.operations p))
  age_operation v p = aged m (λ d. AnOperation d.0 d.1) (λ d. refl) (store.get v.operations p)

  age_block : (v : GraphView O B T) (p : Ptr BasicBlock) → is_older m (content v (TheBlock p)) ≡ is_some (older m (store.get v.blocks p))
  age_block v p = aged m (λ d. ABlock d.0 d.1) (λ d. refl) (store.get v.blocks p)

  age_region : (v : GraphView O B T) (p : Ptr Region) → is_older m (content v (TheRegion p)) ≡ is_some (older m (store.get v.regions p))
  age_region v p = aged m (λ d. ARegion d.0 d.1) (λ d. refl) (store.get v.regions p)

  -- who was made before the mark is who was
  same_age : (o : Object) → is_older m (content h o) ≡ is_older m (content g o)
  same_age (TheOperation p) = age_operation h p ∙ ap is_some (k.operations p) ∙ sym (age_operation g p)
  same_age (TheBlock p) = age_block h p ∙ ap is_some (k.blocks p) ∙ sym (age_block g p)
  same_age (TheRegion p) = age_region h p ∙ ap is_some (k.regions p) ∙ sym (age_region g p)

  was_operation : (p : Ptr Operation) → is_older m (content h (TheOperation p)) ≡ true → store.get h.operations p ≡ store.get g.operations p
  was_operation p old = entry_was m (store.get g.operations p) (store.get h.operations p) (k.operations p) (sym (age_operation h p) ∙ old)

  was_block : (p : Ptr BasicBlock) → is_older m (content h (TheBlock p)) ≡ true → store.get h.blocks p ≡ store.get g.blocks p
  was_block p old = entry_was m (store.get g.blocks p) (store.get h.blocks p) (k.blocks p) (sym (age_block h p) ∙ old)

  was_region : (p : Ptr Region) → is_older m (content h (TheRegion p)) ≡ true → store.get h.regions p ≡ store.get g.regions p
  was_region p old = entry_was m (store.get g.regions p) (store.get h.regions p) (k.regions p) (sym (age_region h p) ∙ old)

  same_parent : (o : Object) → is_older m (content h o) ≡ true → parent h o ≡ parent g o
  same_parent (TheOperation p) old = ap (λ e. option_map TheBlock (parent_of e)) (was_operation p old)
  same_parent (TheBlock p) old = ap (λ e. option_map TheRegion (parent_of e)) (was_block p old)
  same_parent (TheRegion p) old = ap (λ e. option_map TheOperation (parent_of e)) (was_region p old)

  same_children : (o : Object) → is_older m (content h o) ≡ true → children h o ≡ children g o
  same_children (TheOperation p) old = ap (λ e. map TheRegion (children_of e)) (was_operation p old)
  same_children (TheBlock p) old = ap (λ e. map TheOperation (children_of e)) (was_block p old)
  same_children (TheRegion p) old = ap (λ e. map TheBlock (children_of e)) (was_region p old)

  -- an object is new, or what follows from its not being new
  new_if : (o : Object) → (is_older m (content h o) ≡ true → IsNew m g o) → IsNew m h o
  new_if o f = go (is_older m (content h o)) refl
    where
      go : (b : Bool) → is_older m (content h o) ≡ b → is_older m (content h o) ≡ false
      go true e = same_age o ∙ f e
      go false e = e

  new_was : (o : Object) → IsNew m h o → IsNew m g o
  new_was o n = sym (same_age o) ∙ n

  -- what keeps all that is older keeps it closed
  pub closed_kept : IsClosedBelow m g → IsClosedBelow m h
  closed_kept c = record {
    parents = λ o q e n. new_if o (λ old. c.parents o q (sym (same_parent o old) ∙ e) (new_was q n));
    children = λ o q i e n. new_if o (λ old. c.children o q i (ap (λ cs. slice_get cs i) (sym (same_children o old)) ∙ e) (new_was q n));
    operands = λ p i v e n. new_if (TheOperation p) (λ old. c.operands p i v (ap (λ s. slice_get (operands_of s) i) (sym (was_operation p old)) ∙ e) (new_was (owner v) n));
    successors = λ p i b e n. new_if (TheOperation p) (λ old. c.successors p i b (ap (λ s. slice_get (successors_of s) i) (sym (was_operation p old)) ∙ e) (new_was (TheBlock b) n));
  }

  -- if all was older than the mark, a roll-back restores each live object
  pub back_to : AllOlder m g → {f : GraphView O B T} → RollsBack m h f
      → ((p : Ptr Operation) → store.get f.operations p ≡ store.get g.operations p) × ((p : Ptr BasicBlock) → store.get f.blocks p ≡ store.get g.blocks p) × ((p : Ptr Region) → store.get f.regions p ≡ store.get g.regions p)
  back_to a r = (
    λ p. r.operations.at p ∙ k.operations p ∙ a.operations p,
    λ p. r.blocks.at p ∙ k.blocks p ∙ a.blocks p,
    λ p. r.regions.at p ∙ k.regions p ∙ a.regions p,
  )

module _ {O B T : Type 0} (made : ℕ) (values : Counters) (x : Objects O B T) (s : IsSound made x) where
  pub all_older : AllOlder made (graph_of made values x)
  all_older = record {
    operations = older_all_seen (node_of operation_content) made x.operations s.older_operations;
    blocks = older_all_seen (node_of block_content) made x.blocks s.older_blocks;
    regions = older_all_seen (node_of region_content) made x.regions s.older_regions;
  }

  none_new : (o : Object) → AtLeast made (age x o) → ⊥
  none_new (TheOperation p) l = low made x.operations s.older_operations p.index p.generation l
  none_new (TheBlock p) l = low made x.blocks s.older_blocks p.index p.generation l
  none_new (TheRegion p) l = low made x.regions s.older_regions p.index p.generation l

  not_new : (o : Object) → Lives x o → IsNew made (graph_of made values x) o → ⊥
  not_new o l n = none_new o (new_is made values made x o l n)

  block_lives : (b : Ptr BasicBlock) → (get x.blocks b ≡ None → ⊥) → Lives x (TheBlock b)
  block_lives b n = datum_there (λ d. ABlock d.0 (block_content d.1)) (get x.blocks b) (some_if (get x.blocks b) n)

  used_lives : (d : Defined) (u : Site) → val x u ≡ Some d → Lives x (owner_of d)
  used_lives (OfValue (Result p i)) u e =
      op_lives x p (λ n. let k : head_at x (OfValue (Result p i)) ≡ None = ap (λ s. first_of (result_in s i)) n in let h = (s.uses.alive u (OfValue (Result p i)) e).1 in cc)
  used_lives (OfValue (Argument b i)) u e =
      block_lives b (λ n. let k : head_at x (OfValue (Argument b i)) ≡ None = ap (λ s. first_of (argument_in s i)) n in let h = (s.uses.alive u (OfValue (Argument b i)) e).1 in cc)
  used_lives (OfBlock b) u e =
      block_lives b (λ n. let k : head_at x (OfBlock b) ≡ None = ap preds_in n in let h = (s.uses.alive u (OfBlock b) e).1 in cc)

  named_lives : (u : Site) (d : Defined) → (o : Use Defined) × (use_at x u ≡ Some o) × (o.def ≡ d) → Lives x (owner_of d)
  named_lives u d n = used_lives d u (used_def (use_at x u) n.0 n.1 (s.all_used u (rw n.1 refl)) ∙ ap Some n.2)

  -- no object has a child, parent or use that was not made yet
  pub closed_all : IsClosedBelow made (graph_of made values x)
  closed_all = record {
    parents = λ o q e n. absurd (not_new q (parent_lives x o q s.forest (sym (up_seen made values x o) ∙ e)) n);
    children = λ o c i e n. absurd (not_new c (up_lives x c o (s.forest.down o i c (ap (λ cs. slice_get cs i) (sym (kids_seen made values x o)) ∙ e))) n);
    operands = λ p i v e n. absurd (not_new (owner v) (named_lives (AtOperand p i) (OfValue v) (named OfValue (operand_in (get x.operations p) i) v (sym (operand_seen x.operations p i) ∙ e))) n);
    successors = λ p i b e n. absurd (not_new (TheBlock b) (named_lives (AtSuccessor p i) (OfBlock b) (named OfBlock (successor_in (get x.operations p) i) b (sym (successor_seen x.operations p i) ∙ e))) n);
  }
