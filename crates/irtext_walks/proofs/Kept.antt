-- Walks are as before where only data, operands or successors change.
use Rattle.std.proofs.Common.{◌≡◌, ◌∙◌, ◌+◌, ◌++◌, ◌∷◌, ℕ, zero, suc, refl, sym, ap, subst}
use Rattle.std.proofs.Common.{inl, inr, arith, Bool, cond, Option, Some, None, IsSome, List, [], length, map}
use Rattle.std.specs.Option.{option_map}
use Rattle.std.proofs.lemmas.List.{length-map}
use Rattle.irtext_graph.specs.declared.arena.Entry.{Entry}
use Rattle.irtext_graph.specs.declared.object.BasicBlock.{BasicBlock}
use Rattle.irtext_graph.specs.declared.object.Object.{Object}
use Rattle.irtext_graph.specs.declared.object.Object.TheVariants.{TheOperation, TheBlock, TheRegion}
use Rattle.irtext_graph.specs.declared.object.Region.{Region}
use Rattle.irtext_graph.specs.Content.{Content.{AnOperation}, Node, OperationContent}
use Rattle.irtext_graph.specs.Graph.{GraphView, parent, children, content, children_of, content_of, IsLive}
use Rattle.irtext_graph.specs.Objects.{eq_object}
use Rattle.irtext_graph.specs.Preorder.{flat, past, onward}
use Rattle.irtext_graph.specs.Store.{Cell, get, object_of}
use Rattle.irtext_graph.specs.Throughout.{places, EditsObject}
use Rattle.irtext_graph.specs.Used.{without_uses, without_uses_in}
use Rattle.irtext_graph.proofs.Bare.{parent_bare}
use Rattle.irtext_graph.proofs.Nests.{same_or_other, climb-same}
use Rattle.irtext_graph.proofs.Preorders.{onward_same}
use Rattle.irtext_graph.proofs.Same.{object_tells}
use Rattle.irtext_graph.proofs.Stores.{get_mapped}
use Rattle.irtext_walks.specs.Kinds.{put_first}
use Rattle.irtext_walks.specs.Postorder.{postorder, later, upward}
use Rattle.irtext_walks.specs.Walks.{KeepsWalks}
use Rattle.irtext_walks.proofs.Postorders.{flat_same}

module _ {O : Type 0} (eq : O → O → Bool) (kids kids' : O → List O) (up up' : O → Option O) (same_kids : (x : O) → kids' x ≡ kids x)
    (same_up : (x : O) → up' x ≡ up x) where
  postorder_same : (n : ℕ) (x : O) → postorder kids' n x ≡ postorder kids n x
  postorder_same zero x = refl
  postorder_same (suc n) x =
      ap (λ ys. ys ++ x ∷ []) (flat_same (postorder kids' n) (postorder kids n) (kids' x) (λ i c e. postorder_same n c)
      ∙ ap (flat (postorder kids n)) (same_kids x))

  later_same : (n : ℕ) (x : O) (k : Option O) → later eq kids' n x k ≡ later eq kids n x k
  later_same n x None = refl
  later_same n x (Some k) =
      flat_same (postorder kids' n) (postorder kids n) (past eq x (kids' k)) (λ i c e. postorder_same n c)
      ∙ ap (λ ys. flat (postorder kids n) (past eq x ys)) (same_kids k)

  upward_same : (depth : ℕ) (o : O) (n : ℕ) (x : Option O) → upward eq kids' up' depth o n x ≡ upward eq kids up depth o n x
  upward_same depth o zero x = refl
  upward_same depth o (suc n) None = refl
  upward_same depth o (suc n) (Some x) =
      ap (λ u. cond (eq x o) [] (later eq kids' depth x u ++ put_first u (upward eq kids' up' depth o n u))) (same_up x)
      ∙ ap (λ ys. cond (eq x o) [] (ys ++ put_first (up x) (upward eq kids' up' depth o n (up x)))) (later_same depth x (up x))
      ∙ ap (λ ys. cond (eq x o) [] (later eq kids depth x (up x) ++ put_first (up x) ys)) (upward_same depth o n (up x))

some_mapped : {X Y : Type 0} (f : X → Y) (k : Option X) → IsSome k → IsSome (option_map f k)
some_mapped f None h = absurd (cc)
some_mapped f (Some x) h = refl

module _ {O T : Type 0} where
  -- the children of an operation without operands and successors
  kids_bare : (s : Option (Entry (Node BasicBlock Region (OperationContent O T))))
      → map TheRegion (children_of (option_map (object_of without_uses_in) s)) ≡ map TheRegion (children_of s)
  kids_bare None = refl
  kids_bare (Some x) = refl

  -- such an operation is live if, and only if, the operation is
  there : {K : Type 0} (h : ℕ × OperationContent O T → K) (s : Option (Entry (Node BasicBlock Region (OperationContent O T))))
      → IsSome (option_map h (content_of s)) → IsSome s
  there h None l = absurd (cc)
  there h (Some x) l = refl

  back : {K : Type 0} (h : ℕ × OperationContent O T → K) (s : Option (Entry (Node BasicBlock Region (OperationContent O T))))
      → IsSome (option_map (object_of without_uses_in) s) → IsSome (option_map h (content_of s))
  back h None l = absurd (cc)
  back h (Some x) l = refl

module _ {O B T : Type 0} where
  -- walks depend on parents, children and the number of places alone
  same_walks : (old new : GraphView O B T) → ((q : Object) → children new q ≡ children old q) → ((q : Object) → parent new q ≡ parent old q)
      → places new ≡ places old → ((q : Object) → IsLive old q → IsLive new q) → KeepsWalks old new
  same_walks old new kids ups n lives = record {
    preorder = λ o at. ap (λ (k : ℕ). onward eq_object (children new) (parent new) (suc k) o at) n
        ∙ onward_same eq_object (children old) (children new) (parent old) (parent new) kids ups (suc (places old)) o at;
    postorder = λ o at. ap (λ (k : ℕ). put_first at (upward eq_object (children new) (parent new) (suc k) o (suc k) at)) n
        ∙ ap (put_first at) (upward_same eq_object (children old) (children new) (parent old) (parent new) kids ups (suc (places old)) o (suc (places old)) at);
    all = λ o. ap (λ (k : ℕ). postorder (children new) (suc k) o) n
        ∙ postorder_same eq_object (children old) (children new) (parent old) (parent new) kids ups (suc (places old)) o;
    inside = λ o q l. record { alive = lives q l.alive; within = (l.within.0, climb-same (parent old) (parent new) ups l.within.0 (Some q) ∙ l.within.1) };
  }

  -- the data of one object changed
  pub edited_walks : (old new : GraphView O B T) (o : Object) (f : O → O) (h : B → B) → EditsObject old new o f h → KeepsWalks old new
  edited_walks old new o f h e = same_walks old new kids ups many lives
    where
      kids : (q : Object) → children new q ≡ children old q
      kids q = elim (same_or_other object_tells q o) [
        | inl same ↦ ap (children new) same ∙ e.here.items ∙ sym (ap (children old) same)
        | inr other ↦ (e.others q other).items
      ]

      ups : (q : Object) → parent new q ≡ parent old q
      ups q = elim (same_or_other object_tells q o) [
        | inl same ↦ ap (parent new) same ∙ e.here.holder ∙ sym (ap (parent old) same)
        | inr other ↦ (e.others q other).holder
      ]

      many : places new ≡ places old
      many =
          let a = e.rest.operation_places.len in
          let b = e.rest.block_places.len in
          let c = e.rest.region_places.len in
          omega (arith, a, b, c)

      lives : (q : Object) → IsLive old q → IsLive new q
      lives q l = elim (same_or_other object_tells q o) [
        | inl same ↦ subst (IsLive new) (sym same) (subst (λ k. IsSome k) (sym e.here.what) (some_mapped _ (content old o) (subst (IsLive old) same l)))
        | inr other ↦ subst (λ k. IsSome k) (sym (e.others q other).what) l
      ]

  children_bare : (g : GraphView O B T) (q : Object) → children (without_uses g) q ≡ children g q
  children_bare g (TheOperation p) = ap (λ s. map TheRegion (children_of s)) (get_mapped without_uses_in g.operations p) ∙ kids_bare (get g.operations p)
  children_bare g (TheBlock p) = refl
  children_bare g (TheRegion p) = refl

  places_bare : (g : GraphView O B T) → places (without_uses g) ≡ places g
  places_bare g = ap (λ (n : ℕ). n + length g.blocks.cells + length g.regions.cells)
      (length-map g.operations.cells (λ (c : Cell (Node BasicBlock Region (OperationContent O T))). record {
        generation = c.generation;
        object = option_map
            (object_of without_uses_in) c.object;
      }))

  -- only operands and successors changed
  pub bare_walks : (old new : GraphView O B T) → without_uses new ≡ without_uses old → KeepsWalks old new
  bare_walks old new same = same_walks old new
      (λ q. sym (children_bare new q) ∙ ap (λ v. children v q) same ∙ children_bare old q)
      (λ q. sym (parent_bare new q) ∙ ap (λ v. parent v q) same ∙ parent_bare old q)
      (sym (places_bare new) ∙ ap places same ∙ places_bare old)
      lives
    where
      lives : (q : Object) → IsLive old q → IsLive new q
      lives (TheOperation p) l =
          let moved : option_map (object_of without_uses_in) (get old.operations p) ≡ option_map (object_of without_uses_in) (get new.operations p) =
          sym (get_mapped without_uses_in old.operations p) ∙ ap (λ (v : GraphView O B T). get v.operations p) (sym same)
          ∙ get_mapped without_uses_in new.operations p in
          back (λ d. AnOperation d.0 d.1) (get new.operations p)
          (subst (λ s. IsSome s) moved (some_mapped (object_of without_uses_in) (get old.operations p)
          (there (λ d. AnOperation d.0 d.1) (get old.operations p) l)))
      lives (TheBlock p) l = subst (λ (v : GraphView O B T). IsLive v (TheBlock p)) (sym same) l
      lives (TheRegion p) l = subst (λ (v : GraphView O B T). IsLive v (TheRegion p)) (sym same) l
