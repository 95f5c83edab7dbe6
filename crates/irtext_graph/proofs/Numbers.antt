-- Every value's number stays below the counter, and no two values get the same number.
use Rattle.std.proofs.Common.{◌≡◌, ◌<◌, ◌≤◌, ◌+◌, ◌∙◌, ◌⊎◌, ◌∷◌, inl, inr, ℕ, zero, suc, refl, sym, ap, arith, Bool, true, false, cond, nat_lt, Option, Some, None, List, [], map, length, slice_get}
use Rattle.std.specs.Option.{option_map}
use Rattle.irtext_graph.specs.declared.graph.Counters.{Counters}
use Rattle.irtext_graph.specs.declared.arena.Entry.{Entry}
use Rattle.irtext_graph.specs.declared.arena.Ptr.{Ptr}
use Rattle.irtext_graph.specs.declared.object.BasicBlock.{BasicBlock}
use Rattle.irtext_graph.specs.declared.object.Operation.{Operation}
use Rattle.irtext_graph.specs.declared.object.Region.{Region}
use Rattle.irtext_graph.specs.declared.object.Object.{Object}
use Rattle.irtext_graph.specs.declared.object.Value.{Value}
use Rattle.irtext_graph.specs.declared.object.Value.TheVariants.{Result, Argument}
use Rattle.irtext_graph.specs.declared.object.Defined.{Defined}
use Rattle.irtext_graph.specs.declared.objects.Objects.{Objects}
use Rattle.irtext_graph.specs.Arena.{older}
use Rattle.irtext_graph.specs.Back.{owner, RollsBack}
use Rattle.irtext_graph.specs.Content.{Content, Content.{AnOperation, ABlock, ARegion}, Node, OperationContent, BlockContent, Typed, node_of, operation_content, block_content}
use Rattle.irtext_graph.specs.Data.{with_data, with_block, EditsOperation, EditsBlock}
use Rattle.irtext_graph.specs.Erasing.{without_uses, DropsUses, Erases}
use Rattle.irtext_graph.specs.Graph.{GraphView, graph_of, numbered, content, content_of, IsInside, MakesBlock, MakesOperation}
use Rattle.irtext_graph.specs.Numbers.{AreNumbered}
use Rattle.irtext_graph.specs.Objects.{what}
use Rattle.irtext_graph.specs.Parts.{value_at, results_of, arguments_of}
use Rattle.irtext_graph.specs.Store.{get, object_of, object_in, cell_of}
use Rattle.irtext_graph.specs.Used as used
use Rattle.irtext_graph.specs.Used.{Replaces, without_uses_in}
use Rattle.irtext_graph.proofs.Logs.{logged_same}
use Rattle.irtext_graph.proofs.Nests.{same_or_other}
use Rattle.irtext_graph.proofs.Same.{ptr_tells}
use Rattle.irtext_graph.proofs.Sounds.{sound_moved}
use Rattle.irtext_graph.specs.Objects as objects
use Rattle.irtext_graph.specs.Objects.{SameData, IsForest}
use Rattle.irtext_graph.specs.Sound.{IsKept}
use Rattle.irtext_graph.proofs.Stores.{get_mapped, seen_mapped, edited_same}
use Rattle.irtext_graph.proofs.Views.{what_seen}

-- the numbers of values that are made together go up by one
numbered_at : {T : Type 0} (n : ℕ) (ts : List T) (i : ℕ) (t : Typed T) → slice_get (numbered n ts) i ≡ Some t → (t.number ≡ n + i) × (i < length ts)
numbered_at n [] i t e = absurd (cc)
numbered_at n (x ∷ xs) zero t e = let k : t.number ≡ n = cc in (omega (arith, k), omega arith)
numbered_at n (x ∷ xs) (suc i) t e = let k = numbered_at (n + 1) xs i t e in let one = k.0 in let two = k.1 in (omega (arith, one), omega (arith, two))

-- what is not older is removed, and all else is unchanged
older_or_gone : {X Y : Type 0} (m : ℕ) (f : Option (Entry X) → Option Y) → f None ≡ None → (s : Option (Entry X)) → (f (older m s) ≡ f s) ⊎ (f (older m s) ≡ None)
older_or_gone m f none None = inl refl
older_or_gone {X} {Y} m f none (Some e) = go (nat_lt e.born m)
  where
    go : (b : Bool) → (f (cond b (Some e) None) ≡ f (Some e)) ⊎ (f (cond b (Some e) None) ≡ None)
    go true = inl refl
    go false = inr none

module _ {O T : Type 0} where
  -- a result of an operation, where there is one
  abbrev result_of : ℕ → Option (Entry (Node BasicBlock Region (OperationContent O T))) → Option (Typed T)
  result_of i s = slice_get (results_of (option_map (λ e. e.content.content) s)) i

module _ {B T : Type 0} where
  -- an argument of a block, where there is one
  abbrev argument_of : ℕ → Option (Entry (Node Region Operation (BlockContent B T))) → Option (Typed T)
  argument_of i s = slice_get (arguments_of (option_map (λ e. e.content.content) s)) i

module _ {O B T : Type 0} where
  -- a value by what its object is
  abbrev value_in : Option (Content O B T) → Value → Option (Typed T)
  value_in None v = None
  value_in (Some (AnOperation b c)) (Result p i) = slice_get c.results i
  value_in (Some (AnOperation b c)) (Argument p i) = None
  value_in (Some (ABlock b c)) (Result p i) = None
  value_in (Some (ABlock b c)) (Argument p i) = slice_get c.arguments i
  value_in (Some (ARegion b c)) v = None

  value_is : (g : GraphView O B T) (v : Value) → value_at g v ≡ value_in (content g (owner v)) v
  value_is g (Result p i) = go (get g.operations p)
    where
      go : (s : Option (Entry (Node BasicBlock Region (OperationContent O T)))) → result_of i s ≡ value_in (option_map (λ d. AnOperation d.0 d.1) (content_of s)) (Result p i)
      go None = refl
      go (Some e) = refl
  value_is g (Argument p i) = go (get g.blocks p)
    where
      go : (s : Option (Entry (Node Region Operation (BlockContent B T)))) → argument_of i s ≡ value_in (option_map (λ d. ABlock d.0 d.1) (content_of s)) (Argument p i)
      go None = refl
      go (Some e) = refl

  -- an object that uses nothing defines what it did
  idle_value : (k : Option (Content O B T)) (v : Value) → value_in (option_map without_uses k) v ≡ value_in k v
  idle_value None v = refl
  idle_value (Some (AnOperation b c)) (Result p i) = refl
  idle_value (Some (AnOperation b c)) (Argument p i) = refl
  idle_value (Some (ABlock b c)) (Result p i) = refl
  idle_value (Some (ABlock b c)) (Argument p i) = refl
  idle_value (Some (ARegion b c)) v = refl

  -- each value is unchanged, or is removed, and the counter does not decrease
  pub record KeepsNumbers (old new : GraphView O B T) : Type 0 where
    pub values : old.values ≤ new.values
    pub at : (v : Value) → (value_at new v ≡ value_at old v) ⊎ (value_at new v ≡ None)

  pub numbers_kept : (old new : GraphView O B T) → KeepsNumbers old new → AreNumbered old → AreNumbered new
  numbers_kept old new k n = record {
    below = λ v t e. let l = n.below v t (was v t e) in let c = k.values in omega (arith, l, c);
    differ = λ v w t u e f s. n.differ v w t u (was v t e) (was w u f) s;
  }
    where
      was : (v : Value) (t : Typed T) → value_at new v ≡ Some t → value_at old v ≡ Some t
      was v t e = elim (k.at v) [
        | inl same ↦ sym same ∙ e
        | inr gone ↦ let none = gone in absurd (cc)
      ]

  -- what an object is stayed, whatever else did not
  pub contents_keep : (old new : GraphView O B T) → new.values ≡ old.values → ((q : Object) → content new q ≡ content old q) → KeepsNumbers old new
  contents_keep old new values same = record {
    values = omega (arith, values);
    at = λ v. inl (value_is new v ∙ ap (λ k. value_in k v) (same (owner v)) ∙ sym (value_is old v));
  }

  -- the same by what the arenas hold
  pub what_kept : (m n : ℕ) (v : Counters) (x y : Objects O B T) → ((q : Object) → what y q ≡ what x q) → AreNumbered (graph_of m v x) → AreNumbered (graph_of n v y)
  what_kept m n v x y same k = numbers_kept _ _ (contents_keep (graph_of m v x) (graph_of n v y) refl (λ q. what_seen n v y q ∙ same q ∙ sym (what_seen m v x q))) k

  -- where the same objects have other parents and children, all is kept
  pub moved_kept : (made : ℕ) (v : Counters) (log : List Object) (x y : Objects O B T) → SameData x y → IsForest y → objects.SamePlaces x y → ((q : Object) → what y q ≡ what x q) → IsKept made v log x → IsKept made v log y
  moved_kept made v log x y alike forest places same i = record {
    sound = sound_moved x y alike made i.sound forest places;
    logged = logged_same made log x y i.logged same;
    numbered = what_kept made made v x y same i.numbered;
  }

  -- without objects there are no values
  pub numbered_empty : (m : ℕ) (v : Counters) (x : Objects O B T) → x.operations.slots.items ≡ [] → x.blocks.slots.items ≡ [] → AreNumbered (graph_of m v x)
  numbered_empty m v x eo eb = record {
    below = λ w t e. let n = none w in absurd (cc);
    differ = λ v w t u e f s. let n = none v in absurd (cc);
  }
    where
      none : (w : Value) → value_at (graph_of m v x) w ≡ None
      none (Result p i) = ap (λ slots. result_of i (object_in (slice_get (map (cell_of (node_of operation_content)) slots) p.index) p.generation)) eo
      none (Argument p i) = ap (λ slots. argument_of i (object_in (slice_get (map (cell_of (node_of block_content)) slots) p.index) p.generation)) eb

  pub dropped_numbers : (old new : GraphView O B T) (o : Object) → ((q : Object) → (IsInside old o q) ⊎ (IsInside old o q → ⊥)) → DropsUses old new o → KeepsNumbers old new
  dropped_numbers old new o known d = record {
    values = let k = d.rest.values in omega (arith, k);
    at = λ v. elim (known (owner v)) [
      | inl w ↦ inl (value_is new v ∙ ap (λ k. value_in k v) (d.inside (owner v) w) ∙ idle_value (content old (owner v)) v ∙ sym (value_is old v))
      | inr out ↦ inl (value_is new v ∙ ap (λ k. value_in k v) (d.others (owner v) out) ∙ sym (value_is old v))
    ];
  }

  pub erased_numbers : (old new : GraphView O B T) (o : Object) → ((q : Object) → (IsInside old o q) ⊎ (IsInside old o q → ⊥)) → Erases old new o → KeepsNumbers old new
  erased_numbers old new o known d = record {
    values = let k = d.values in omega (arith, k);
    at = λ v. elim (known (owner v)) [
      | inl w ↦ inr (value_is new v ∙ ap (λ k. value_in k v) (d.gone (owner v) w))
      | inr out ↦ inl (value_is new v ∙ ap (λ k. value_in k v) (d.contents (owner v) out) ∙ sym (value_is old v))
    ];
  }

  pub rolled_numbers : (mark : ℕ) (old new : GraphView O B T) → RollsBack mark old new → KeepsNumbers old new
  rolled_numbers mark old new r = record { values = let k = r.values in omega (arith, k); at = at }
    where
      moved : {Y : Type 0} (a b c : Option Y) → a ≡ b → (b ≡ c) ⊎ (b ≡ None) → (a ≡ c) ⊎ (a ≡ None)
      moved a b c e (inl f) = inl (e ∙ f)
      moved a b c e (inr f) = inr (e ∙ f)

      at : (v : Value) → (value_at new v ≡ value_at old v) ⊎ (value_at new v ≡ None)
      at (Result p i) = moved _ _ _ (ap (result_of i) (r.operations.at p)) (older_or_gone mark (result_of i) refl (get old.operations p))
      at (Argument p i) = moved _ _ _ (ap (argument_of i) (r.blocks.at p)) (older_or_gone mark (argument_of i) refl (get old.blocks p))

  pub bare_numbers : (old new : GraphView O B T) → used.without_uses new ≡ used.without_uses old → KeepsNumbers old new
  bare_numbers old new rest = record {
    values = let k = ap (λ (g : GraphView O B T). g.values) rest in omega (arith, k);
    at = λ v. inl (sym (bare new v) ∙ ap (λ g. value_at g v) rest ∙ bare old v);
  }
    where
      bare : (g : GraphView O B T) (v : Value) → value_at (used.without_uses g) v ≡ value_at g v
      bare g (Result p i) = ap (result_of i) (get_mapped without_uses_in g.operations p) ∙ seen_mapped (object_of without_uses_in) (result_of i) (result_of i) refl (λ o. refl) (get g.operations p)
      bare g (Argument p i) = refl

  pub replaced_numbers : (old new : GraphView O B T) (d e : Defined) → Replaces old new d e → KeepsNumbers old new
  replaced_numbers old new d e r = bare_numbers old new r.rest

  pub edited_numbers : (old new : GraphView O B T) (p : Ptr Operation) (change : O → O) → EditsOperation old new p change → KeepsNumbers old new
  edited_numbers old new p change e = record { values = let k = e.values in omega (arith, k); at = λ v. inl (at v) }
    where
      at : (v : Value) → value_at new v ≡ value_at old v
      at (Result q i) = edited_same old.operations new.operations p (with_data change) (result_of i) (λ o. refl) e.operations q
      at (Argument q i) = ap (λ s. argument_of i (get s q)) e.blocks

  pub edited_block_numbers : (old new : GraphView O B T) (p : Ptr BasicBlock) (change : B → B) → EditsBlock old new p change → KeepsNumbers old new
  edited_block_numbers old new p change e = record { values = let k = e.values in omega (arith, k); at = λ v. inl (at v) }
    where
      at : (v : Value) → value_at new v ≡ value_at old v
      at (Result q i) = ap (λ s. result_of i (get s q)) e.operations
      at (Argument q i) = edited_same old.blocks new.blocks p (with_block change) (argument_of i) (λ o. refl) e.blocks q

  -- values were added that have the next numbers, and each other value is unchanged
  module _ (old new : GraphView O B T) (types : List T) (made : ℕ → Value) (values : new.values ≡ old.values + length types)
      (at : (v : Value) → (value_at new v ≡ value_at old v) ⊎ ((i : ℕ) × (v ≡ made i) × (value_at new v ≡ slice_get (numbered old.values types) i))) where
    -- the value was there before, or is one of those
    abbrev IsOldOrMade : Value → Typed T → Type 0
    IsOldOrMade v t = (value_at old v ≡ Some t) ⊎ ((i : ℕ) × (v ≡ made i) × (t.number ≡ old.values + i) × (i < length types))

    came : (v : Value) (t : Typed T) → value_at new v ≡ Some t → IsOldOrMade v t
    came v t e = elim (at v) [
      | inl same ↦ inl (sym same ∙ e)
      | inr (i, is, n) ↦ let k = numbered_at old.values types i t (sym n ∙ e) in inr (i, is, k.0, k.1)
    ]

    low : AreNumbered old → (v : Value) (t : Typed T) → IsOldOrMade v t → t.number < new.values
    low n v t (inl e) = let l = n.below v t e in omega (arith, l, values)
    low n v t (inr (i, is, number, within)) = omega (arith, number, within, values)

    apart : AreNumbered old → (v w : Value) (t u : Typed T) → t.number ≡ u.number → IsOldOrMade v t → IsOldOrMade w u → v ≡ w
    apart n v w t u s (inl e) (inl f) = n.differ v w t u e f s
    apart n v w t u s (inl e) (inr (j, is, number, within)) = absurd (let l = n.below v t e in omega (arith, l, number, s))
    apart n v w t u s (inr (i, is, number, within)) (inl f) = absurd (let l = n.below w u f in omega (arith, l, number, s))
    apart n v w t u s (inr (i, is, number, within)) (inr (j, is', number', within')) = is ∙ ap made (omega (arith, number, number', s)) ∙ sym is'

    numbers_made : AreNumbered old → AreNumbered new
    numbers_made n = record {
      below = λ v t e. low n v t (came v t e);
      differ = λ v w t u e f s. apart n v w t u s (came v t e) (came w u f);
    }

  pub block_numbers : (old new : GraphView O B T) (p : Ptr BasicBlock) (value : B) (types : List T) → MakesBlock old new p value types → AreNumbered old → AreNumbered new
  block_numbers old new p value types k = numbers_made old new types (Argument p) k.values at
    where
      at : (v : Value) → (value_at new v ≡ value_at old v) ⊎ ((i : ℕ) × (v ≡ Argument p i) × (value_at new v ≡ slice_get (numbered old.values types) i))
      at (Result q i) = inl (ap (λ s. result_of i (get s q)) k.operations)
      at (Argument q i) = elim (same_or_other ptr_tells q p) [
        | inl here ↦ inr (i, ap (λ r. Argument r i) here, ap (λ r. argument_of i (get new.blocks r)) here ∙ ap (argument_of i) k.blocks.updates.changed)
        | inr ne ↦ inl (ap (argument_of i) (k.blocks.updates.others q ne))
      ]

  pub operation_numbers : (old new : GraphView O B T) (p : Ptr Operation) (value : O) (types : List T) (operands : List Value) (successors : List (Ptr BasicBlock)) → MakesOperation old new p value types operands successors → AreNumbered old → AreNumbered new
  operation_numbers old new p value types operands successors k = numbers_made old new types (Result p) k.values at
    where
      at : (v : Value) → (value_at new v ≡ value_at old v) ⊎ ((i : ℕ) × (v ≡ Result p i) × (value_at new v ≡ slice_get (numbered old.values types) i))
      at (Result q i) = elim (same_or_other ptr_tells q p) [
        | inl here ↦ inr (i, ap (λ r. Result r i) here, ap (λ r. result_of i (get new.operations r)) here ∙ ap (result_of i) k.operations.updates.changed)
        | inr ne ↦ inl (ap (result_of i) (k.operations.updates.others q ne))
      ]
      at (Argument q i) = inl (ap (λ s. argument_of i (get s q)) k.blocks)
