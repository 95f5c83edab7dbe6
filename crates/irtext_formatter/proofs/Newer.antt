-- Everything nested in a root was made since the mark that was taken before the root was parsed.
use Rattle.std.proofs.Common.{◌≡◌, ◌∙◌, ℕ, Bool, true, false, cond, nat_lt, Option, Some, None, IsSome, is_some, refl, sym, ap}
use Rattle.std.specs.Option.{option_map}
use Rattle.irtext_context.specs.Context.{ContextView, KeepsOlder}
use Rattle.irtext_graph.specs.Arena.{older}
use Rattle.irtext_graph.specs.Content.{Node, Content, Content.{AnOperation, ABlock, ARegion}}
use Rattle.irtext_graph.specs.Graph as graph
use Rattle.irtext_graph.specs.Graph.{GraphView, content_of, content, IsLive, IsInside, IsNew}
use Rattle.irtext_graph.specs.Objects.{born_of, is_older}
use Rattle.irtext_graph.specs.Store.{get, before}
use Rattle.irtext_graph.specs.Throughout.{IsNewInside}
use Rattle.irtext_graph.specs.declared.arena.Entry.{Entry}
use Rattle.irtext_graph.specs.declared.arena.Ptr.{Ptr}
use Rattle.irtext_graph.specs.declared.object.Object.{Object}
use Rattle.irtext_graph.specs.declared.object.Object.TheVariants.{TheOperation, TheBlock, TheRegion}
use Rattle.irtext_graph.specs.declared.object.Operation.{Operation}
use Rattle.irtext_names.specs.OnlyNew.{OnlyNew}

module _ {P C E : Type 0} where
  -- whether an object was made before a mark
  aged : {O B T : Type 0} (m : ℕ) (f : ℕ × E → Content O B T) → ((d : ℕ × E) → born_of (f d) ≡ d.0) → (t : Option (Entry (Node P C E))) → is_older m (option_map f (content_of t)) ≡ is_some (older m t)
  aged m f same None = refl
  aged m f same (Some x) = ap (λ n. nat_lt n m) (same (x.born, x.content.content)) ∙ go (nat_lt x.born m)
    where
      go : (b : Bool) → b ≡ is_some (cond b (Some x) None)
      go true = refl
      go false = refl

none_there : {X : Type 0} (o : Option X) → is_some o ≡ false → o ≡ None
none_there None e = refl
none_there (Some x) e = absurd (cc)

lives_older : {O B T : Type 0} (m : ℕ) (c : Option (Content O B T)) → is_older m c ≡ true → IsSome c
lives_older m None e = absurd (cc)
lives_older m (Some k) e = refl

module _ {O B T : Type 0} (m : ℕ) (g h : GraphView O B T) (k : graph.KeepsOlder m g h) where
  same_age : (o : Object) → is_older m (content h o) ≡ is_older m (content g o)
  same_age (TheOperation p) = aged m (λ d. AnOperation d.0 d.1) (λ d. refl) (get h.operations p) ∙ ap is_some (k.operations p) ∙ sym (aged m (λ d. AnOperation d.0 d.1) (λ d. refl) (get g.operations p))
  same_age (TheBlock p) = aged m (λ d. ABlock d.0 d.1) (λ d. refl) (get h.blocks p) ∙ ap is_some (k.blocks p) ∙ sym (aged m (λ d. ABlock d.0 d.1) (λ d. refl) (get g.blocks p))
  same_age (TheRegion p) = aged m (λ d. ARegion d.0 d.1) (λ d. refl) (get h.regions p) ∙ ap is_some (k.regions p) ∙ sym (aged m (λ d. ARegion d.0 d.1) (λ d. refl) (get g.regions p))

module _ {T A : Type 0} where
  -- if an operation and what is nested in it is all that is new, and what is older is kept, all of it is new
  pub new_inside : (m : ℕ) (op : Ptr Operation) (old new : ContextView T A) → KeepsOlder m old new → OnlyNew op old new → IsNewInside m new.graph (TheOperation op)
  new_inside m op old new kept only q inside = go (is_older m (content new.graph q)) refl
    where
      go : (b : Bool) → is_older m (content new.graph q) ≡ b → is_older m (content new.graph q) ≡ false
      go true e = absurd (only.is_new q inside (lives_older m (content old.graph q) (sym (same_age m old.graph new.graph kept.graph q) ∙ e)))
      go false e = e

  -- an operation in which everything is new is new itself
  pub new_itself : (m : ℕ) (op : Ptr Operation) (c : ContextView T A) → IsNewInside m c.graph (TheOperation op) → before m c.graph.operations op ≡ None
  new_itself m op c inside =
      none_there (older m (get c.graph.operations op)) (sym (aged m (λ d. AnOperation d.0 d.1) (λ d. refl) (get c.graph.operations op)) ∙ inside (TheOperation op) (0, refl))
