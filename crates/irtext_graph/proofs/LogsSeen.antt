-- The list of what was made has all live objects if objects are seen as before, except what operations use.
use Rattle.std.proofs.Common.{◌≡◌, ◌∙◌, ℕ, inl, inr, refl, sym, ap, Option, Some, None, List}
use Rattle.std.specs.Option.{option_map}
use Rattle.irtext_graph.specs.Arena as arena
use Rattle.irtext_graph.specs.Arena.{born_in}
use Rattle.irtext_graph.specs.declared.arena.Entry.{Entry}
use Rattle.irtext_graph.specs.declared.object.Object.{Object}
use Rattle.irtext_graph.specs.declared.object.Object.TheVariants.{TheOperation, TheBlock, TheRegion}
use Rattle.irtext_graph.specs.declared.objects.Objects.{Objects}
use Rattle.irtext_graph.specs.Content.{Content, Content.{AnOperation, ABlock, ARegion}, node_of, operation_content, block_content, region_content}
use Rattle.irtext_graph.specs.Erasing as erasing
use Rattle.irtext_graph.specs.Graph.{GraphView, seen}
use Rattle.irtext_graph.specs.Log.{age, IsLogged}
use Rattle.irtext_graph.specs.Nested.{Within}
use Rattle.irtext_graph.specs.Objects.{up, what, born_of, IsForest, IsGone, eq_object}
use Rattle.irtext_graph.specs.Store.{get, object_of}
use Rattle.irtext_graph.specs.Used.{bare, without_uses_in}
use Rattle.irtext_graph.proofs.Inside.{within_or}
use Rattle.irtext_graph.proofs.Logs.{age_what, same_age, logged_kept}
use Rattle.irtext_graph.proofs.Same.{object_tells}
use Rattle.irtext_graph.proofs.Stores.{get_mapped, get_seen}

-- another content is as old
as_old : {X Y : Type 0} (f : X → Y) (e : Option (Entry X)) → born_in (option_map (object_of f) e) ≡ born_in e
as_old f None = refl
as_old f (Some e) = refl

module _ {O B T : Type 0} where
  -- how many objects were made before an object, where it is seen
  abbrev age_in : GraphView O B T → Object → Option ℕ
  age_in g (TheOperation p) = born_in (get g.operations p)
  age_in g (TheBlock p) = born_in (get g.blocks p)
  age_in g (TheRegion p) = born_in (get g.regions p)

  age_bare : (x : Objects O B T) (o : Object) → age_in (bare x) o ≡ age x o
  age_bare x (TheOperation p) =
      ap born_in (get_mapped without_uses_in (seen x).operations p)
      ∙ as_old without_uses_in (get (seen x).operations p)
      ∙ ap born_in (get_seen (node_of operation_content) x.operations p)
      ∙ as_old (node_of operation_content) (arena.get x.operations p)
  age_bare x (TheBlock p) = ap born_in (get_seen (node_of block_content) x.blocks p) ∙ as_old (node_of block_content) (arena.get x.blocks p)
  age_bare x (TheRegion p) = ap born_in (get_seen (node_of region_content) x.regions p) ∙ as_old (node_of region_content) (arena.get x.regions p)

  pub logged_bare : (made : ℕ) (log : List Object) (x y : Objects O B T) → bare y ≡ bare x → IsLogged made log x → IsLogged made log y
  logged_bare made log x y e i = logged_kept made log x y i (λ o b f. sym (age_bare x o) ∙ ap (λ g. age_in g o) (sym e) ∙ age_bare y o ∙ f)

  -- what all inside an object used was dropped
  pub logged_dropped : (made : ℕ) (log : List Object) (x y : Objects O B T) (o : Object) → IsForest x
      → ((q : Object) → Within (up x) o q → what y q ≡ option_map erasing.without_uses (what x q)) → ((q : Object) → (Within (up x) o q → ⊥) → what y q ≡ what x q)
      → IsLogged made log x → IsLogged made log y
  logged_dropped made log x y o f inside others i = logged_kept made log x y i (λ q b e. sym (same q) ∙ e)
    where
      as_before : (c : Option (Content O B T)) → option_map born_of (option_map erasing.without_uses c) ≡ option_map born_of c
      as_before None = refl
      as_before (Some (AnOperation b c)) = refl
      as_before (Some (ABlock b c)) = refl
      as_before (Some (ARegion b c)) = refl

      same : (q : Object) → age y q ≡ age x q
      same q = elim (within_or eq_object object_tells (up x) f.ends o q) [
        | inl w ↦ age_what y q ∙ ap (option_map born_of) (inside q w) ∙ as_before (what x q) ∙ sym (age_what x q)
        | inr out ↦ same_age x y q (others q out)
      ]

  -- all objects inside an object are erased
  pub logged_erased : (made : ℕ) (log : List Object) (x y : Objects O B T) (o : Object) → IsForest x
      → ((q : Object) → Within (up x) o q → IsGone y q) → ((q : Object) → (Within (up x) o q → ⊥) → what y q ≡ what x q)
      → IsLogged made log x → IsLogged made log y
  logged_erased made log x y o f gone others i = logged_kept made log x y i old
    where
      old : (q : Object) (b : ℕ) → age y q ≡ Some b → age x q ≡ Some b
      old q b e = elim (within_or eq_object object_tells (up x) f.ends o q) [
        | inl w ↦ let n : age y q ≡ None = age_what y q ∙ ap (option_map born_of) ((gone q w).gone_what) in absurd (cc)
        | inr out ↦ sym (same_age x y q (others q out)) ∙ e
      ]
