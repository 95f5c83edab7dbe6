-- What two graphs have in common that differ in their use lists alone.
use Rattle.std.proofs.Common.{◌≡◌, ◌<◌, ◌∙◌, ℕ, refl, sym, ap, subst, arith, Option, Some, None, length, slice_get, IsSome}
use Rattle.std.specs.Option.{option_map}
use Rattle.std.proofs.lemmas.Option.{slice_get-map}
use Rattle.irtext_graph.specs.Arena.{HasFew, AreOlder, found}
use Rattle.irtext_graph.specs.declared.arena.Arena.{Arena}
use Rattle.irtext_graph.specs.declared.arena.Entry.{Entry}
use Rattle.irtext_graph.specs.declared.object.Defined.{Defined}
use Rattle.irtext_graph.specs.declared.object.Site.{Site}
use Rattle.irtext_graph.specs.declared.objects.Use.{Use}
use Rattle.irtext_graph.specs.declared.objects.Objects.{Objects}
use Rattle.irtext_graph.specs.Store.{store_of, cell_of, object_in, object_of}
use Rattle.irtext_graph.specs.Objects.{IsForest, eq_object}
use Rattle.irtext_graph.specs.Graph.{no_counters, seen, parent, children}
use Rattle.irtext_graph.specs.Uses.{use_at, head_at, val}
use Rattle.irtext_graph.proofs.Same.{object_tells}
use Rattle.irtext_graph.proofs.Nests.{renested}
use Rattle.irtext_graph.proofs.Stores.{held, length_seen}
use Rattle.irtext_graph.proofs.Views.{up_seen, kids_seen}
use Rattle.irtext_graph.proofs.PartsSeen.{some_of, of_some}
use Rattle.irtext_graph.proofs.UsesSeen.{used_seen, head_there, head_is_defined}
use Rattle.irtext_graph.specs.Used.{used_at, IsDefined}

module _ {X Y : Type 0} (see : X → Y) (a b : Arena X) (same : store_of see b ≡ store_of see a) where
  pub few_seen : HasFew a → HasFew b
  few_seen few =
      let n : length b.slots.items ≡ length a.slots.items = sym (length_seen see b.slots.items) ∙ ap (λ s. length s.cells) same ∙ length_seen see a.slots.items in
      omega (arith, n, few)

  found_seen : (c : Arena X) (i g : ℕ) → object_in (slice_get (store_of see c).cells i) g ≡ option_map (object_of see) (found (slice_get c.slots.items i) g)
  found_seen c i g = ap (λ s. object_in s g) (slice_get-map (cell_of see) c.slots.items i) ∙ held see (slice_get c.slots.items i) g

  pub older_seen : (mark : ℕ) → AreOlder mark a → AreOlder mark b
  older_seen mark h i g y e =
      go (found (slice_get a.slots.items i) g) refl
      (sym (ap (option_map (object_of see)) e) ∙ sym (found_seen b i g) ∙ ap (λ s. object_in (slice_get s.cells i) g) same ∙ found_seen a i g)
    where
      go : (s : Option (Entry X)) → found (slice_get a.slots.items i) g ≡ s → Some (object_of see y) ≡ option_map (object_of see) s → y.born < mark
      go None f k = absurd (cc)
      go (Some z) f k =
          let born : y.born ≡ z.born = ap (λ (s : Option (Entry Y)). born_or s) k in
          subst (λ n. n < mark) (sym born) (h i g z f)
        where
          born_or : Option (Entry Y) → ℕ
          born_or None = 0
          born_or (Some o) = o.born

module _ {O B T : Type 0} where
  module _ (x y : Objects O B T) (same : seen y ≡ seen x) where
    pub same_def : (u : Site) → option_map (λ o. o.def) (use_at y u) ≡ option_map (λ o. o.def) (use_at x u)
    same_def u = sym (used_seen 0 no_counters y u) ∙ ap (λ g. used_at g u) same ∙ used_seen 0 no_counters x u

    pub same_there : (u : Site) → IsSome (use_at x u) → IsSome (use_at y u)
    same_there u h = some_of (λ o. o.def) (use_at y u) (subst (λ o. IsSome o) (sym (same_def u)) (of_some (λ o. o.def) (use_at x u) h))

    pub same_back : (u : Site) → IsSome (use_at y u) → IsSome (use_at x u)
    same_back u h = some_of (λ o. o.def) (use_at x u) (subst (λ o. IsSome o) (same_def u) (of_some (λ o. o.def) (use_at y u) h))

    pub same_head_there : (d : Defined) → IsSome (head_at x d) → IsSome (head_at y d)
    same_head_there d h = head_there 0 no_counters y d (subst (λ g. IsDefined g d) (sym same) (head_is_defined 0 no_counters x d h))

    -- what a use names is there, if it was
    pub same_is_defined : (u : Site) → ((o : Use Defined) → use_at x u ≡ Some o → IsSome (head_at x o.def)) → (o : Use Defined) → use_at y u ≡ Some o → IsSome (head_at y o.def)
    same_is_defined u h o e = go (use_at x u) refl (sym (ap (option_map (λ o. o.def)) e) ∙ same_def u)
      where
        go : (s : Option (Use Defined)) → use_at x u ≡ s → Some o.def ≡ option_map (λ o. o.def) s → IsSome (head_at y o.def)
        go None f k = absurd (cc)
        go (Some w) f k = let d : w.def ≡ o.def = cc in same_head_there o.def (subst (λ d. IsSome (head_at x d)) d (h w f))

    pub same_forest : IsForest x → IsForest y
    same_forest f =
        renested eq_object object_tells f (λ q. sym (kids_seen 0 no_counters y q) ∙ ap (λ g. children g q) same ∙ kids_seen 0 no_counters x q)
        (λ q. sym (up_seen 0 no_counters y q) ∙ ap (λ g. parent g q) same ∙ up_seen 0 no_counters x q)

  -- what is in the list of what it names is in a list
  pub used_of : (x y : Objects O B T) (u : Site) → IsSome (use_at x u) → ((o : Use Defined) → use_at x u ≡ Some o → val y u ≡ Some o.def) → IsSome (val y u)
  used_of x y u h f = go (use_at x u) refl h
    where
      go : (s : Option (Use Defined)) → use_at x u ≡ s → IsSome s → IsSome (val y u)
      go None e k = absurd (cc)
      go (Some o) e k = subst (λ v. IsSome v) (sym (f o e)) refl
