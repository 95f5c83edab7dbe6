-- What the operations inside an object use is dropped, and all else is unchanged.
use Rattle.std.proofs.Common.{◌≡◌, ◌≢◌, ◌<◌, ◌∙◌, ◌⊎◌, ◌∷◌, suc, refl, sym, ap, arith, inl, inr, subst, Option, Some, None, IsSome, map, length, option_map}
use Rattle.irtext_graph.specs.declared.arena.Ptr.{Ptr}
use Rattle.irtext_graph.specs.declared.arena.Entry.{Entry}
use Rattle.irtext_graph.specs.declared.object.Operation.{Operation}
use Rattle.irtext_graph.specs.declared.object.BasicBlock.{BasicBlock}
use Rattle.irtext_graph.specs.declared.object.Region.{Region}
use Rattle.irtext_graph.specs.declared.object.Object.{Object}
use Rattle.irtext_graph.specs.declared.object.Object.TheVariants.{TheOperation, TheBlock, TheRegion}
use Rattle.irtext_graph.specs.declared.object.Site.{Site}
use Rattle.irtext_graph.specs.declared.objects.Objects.{Objects}
use Rattle.irtext_graph.specs.Nested.{Within}
use Rattle.irtext_graph.specs.Chained.{Among}
use Rattle.irtext_graph.specs.Store.{Edits, get, object_of}
use Rattle.irtext_graph.specs.Content.{Content, Content.{AnOperation, ABlock, ARegion}, Node, OperationContent}
use Rattle.irtext_graph.specs.Graph.{no_counters, seen, content, parent, children, parent_of, children_of, content_of}
use Rattle.irtext_graph.specs.Objects.{up, kids, what, Lives, IsForest, SamePlaces, eq_object}
use Rattle.irtext_graph.specs.Uses.{use_at, val, AreUsesLinked}
use Rattle.irtext_graph.specs.Erasing.{without_uses}
use Rattle.irtext_graph.specs.Used.{without_uses_in}
use Rattle.irtext_graph.specs.Preorder.{left, slots}
use Rattle.irtext_graph.proofs.Nests.{same_or_other, some_eq, renested, climb-same}
use Rattle.irtext_graph.proofs.Same.{object_tells}
use Rattle.irtext_graph.proofs.Inside.{within_self}
use Rattle.irtext_graph.proofs.Views.{up_seen, kids_seen, what_seen}
use Rattle.irtext_graph.proofs.Kept.{places_on, places_self}
use Rattle.irtext_graph.proofs.Afters.{all_left, same_left}
use Rattle.irtext_graph.proofs.Stores.{edited_same}

module _ {O B T : Type 0} where
  content_dropped : (e : Option (Entry (Node BasicBlock Region (OperationContent O T))))
      → ◌≡◌ {A = Option (Content O B T)} (option_map (λ d. AnOperation d.0 d.1) (content_of (option_map (object_of without_uses_in) e))) (option_map without_uses (option_map (λ d. AnOperation d.0 d.1) (content_of e)))
  content_dropped None = refl
  content_dropped (Some e) = refl

  without_twice : (k : Option (Content O B T)) → option_map without_uses (option_map without_uses k) ≡ option_map without_uses k
  without_twice None = refl
  without_twice (Some (AnOperation b c)) = refl
  without_twice (Some (ABlock b c)) = refl
  without_twice (Some (ARegion b c)) = refl

  module _ (x y : Objects O B T) (p : Ptr Operation) (e : Edits (seen x).operations (seen y).operations p without_uses_in) (blocks : (seen y).blocks ≡ (seen x).blocks) (regions : (seen y).regions ≡ (seen x).regions) where
    edit_up : (q : Object) → parent (seen y) q ≡ parent (seen x) q
    edit_up (TheOperation q) = ap (option_map TheBlock) (edited_same (seen x).operations (seen y).operations p without_uses_in parent_of (λ s. refl) e q)
    edit_up (TheBlock q) = ap (λ s. option_map TheRegion (parent_of (get s q))) blocks
    edit_up (TheRegion q) = ap (λ s. option_map TheOperation (parent_of (get s q))) regions

    edit_kids : (q : Object) → children (seen y) q ≡ children (seen x) q
    edit_kids (TheOperation q) = ap (map TheRegion) (edited_same (seen x).operations (seen y).operations p without_uses_in children_of (λ s. refl) e q)
    edit_kids (TheBlock q) = ap (λ s. map TheOperation (children_of (get s q))) blocks
    edit_kids (TheRegion q) = ap (λ s. map TheBlock (children_of (get s q))) regions

    edit_others : (q : Object) → q ≢ TheOperation p → content (seen y) q ≡ content (seen x) q
    edit_others (TheOperation q) ne = ap (λ s. option_map (λ d. AnOperation d.0 d.1) (content_of s)) (e.updates.others q (λ s. ne (ap TheOperation s)))
    edit_others (TheBlock q) ne = ap (λ s. option_map (λ d. ABlock d.0 d.1) (content_of (get s q))) blocks
    edit_others (TheRegion q) ne = ap (λ s. option_map (λ d. ARegion d.0 d.1) (content_of (get s q))) regions

    pub dropped_up : (q : Object) → up y q ≡ up x q
    dropped_up q = sym (up_seen 0 no_counters y q) ∙ edit_up q ∙ up_seen 0 no_counters x q

    pub dropped_kids : (q : Object) → kids y q ≡ kids x q
    dropped_kids q = sym (kids_seen 0 no_counters y q) ∙ edit_kids q ∙ kids_seen 0 no_counters x q

    pub dropped_others : (q : Object) → q ≢ TheOperation p → what y q ≡ what x q
    dropped_others q ne = sym (what_seen 0 no_counters y q) ∙ edit_others q ne ∙ what_seen 0 no_counters x q

    pub dropped_here : what y (TheOperation p) ≡ option_map without_uses (what x (TheOperation p))
    dropped_here = sym (what_seen 0 no_counters y (TheOperation p)) ∙ ap (λ s. option_map (λ d. AnOperation d.0 d.1) (content_of s)) e.updates.changed ∙ content_dropped (get (seen x).operations p)
        ∙ ap (option_map without_uses) (what_seen 0 no_counters x (TheOperation p))

  -- what inside o comes before `at` uses nothing
  pub record Dropping (x0 x : Objects O B T) (o : Object) (at : Option Object) : Type 0 where
    pub linked : AreUsesLinked x
    pub used : (u : Site) → IsSome (use_at x u) → IsSome (val x u)
    pub same_up : (q : Object) → up x q ≡ up x0 q
    pub same_kids : (q : Object) → kids x q ≡ kids x0 q
    pub places : SamePlaces x0 x
    pub inside : (q : Object) → Within (up x0) o q → Among q (left x0 o at) ⊎ (what x q ≡ option_map without_uses (what x0 q))
    pub either : (q : Object) → (what x q ≡ what x0 q) ⊎ (Within (up x0) o q × (what x q ≡ option_map without_uses (what x0 q)))
    pub at_inside : (q : Object) → at ≡ Some q → Within (up x0) o q
    pub at_lives : (q : Object) → at ≡ Some q → Lives x q

  pub dropping_begins : (x : Objects O B T) (o : Object) → IsForest x → Lives x o → AreUsesLinked x → ((u : Site) → IsSome (use_at x u) → IsSome (val x u)) → Dropping x x o (Some o)
  dropping_begins x o s l linked used = record {
    linked = linked;
    used = used;
    same_up = λ q. refl;
    same_kids = λ q. refl;
    places = places_self x;
    inside = λ q w. inl (all_left x o q s w);
    either = λ q. inl refl;
    at_inside = λ q e. subst (Within (up x) o) (some_eq e) (within_self (up x) o);
    at_lives = λ q e. subst (Lives x) (some_eq e) l;
  }

  pub as_many : (x y : Objects O B T) → SamePlaces x y → slots y ≡ slots x
  as_many x y p = let a = p.operation_places.len in let b = p.block_places.len in let c = p.region_places.len in omega (arith, a, b, c)

  pub forest_kept : (x0 x : Objects O B T) (o : Object) (at : Option Object) → IsForest x0 → Dropping x0 x o at → IsForest x
  forest_kept x0 x o at s d = renested eq_object object_tells s d.same_kids d.same_up

  pub way_same : (x0 x : Objects O B T) (o q : Object) → ((r : Object) → up x r ≡ up x0 r) → Within (up x0) o q → Within (up x) o q
  way_same x0 x o q same w = (w.0, climb-same (up x0) (up x) same w.0 (Some q) ∙ w.1)

  module _ (x0 x y : Objects O B T) (o q : Object) (next : Option Object) (d : Dropping x0 x o (Some q)) (linked : AreUsesLinked y) (used : (u : Site) → IsSome (use_at y u) → IsSome (val y u))
      (here : what y q ≡ option_map without_uses (what x q)) (others : (r : Object) → r ≢ q → what y r ≡ what x r) (ups : (r : Object) → up y r ≡ up x r) (lists : (r : Object) → kids y r ≡ kids x r)
      (places : SamePlaces x y) where
    y_up : (r : Object) → up y r ≡ up x0 r
    y_up r = ups r ∙ d.same_up r

    y_kids : (r : Object) → kids y r ≡ kids x0 r
    y_kids r = lists r ∙ d.same_kids r

    y_places : SamePlaces x0 y
    y_places = places_on d.places places

    pub left_same : (at : Option Object) → left y o at ≡ left x0 o at
    left_same at = same_left x0 y o at y_kids y_up (as_many x0 y y_places)

    now_here : what y q ≡ option_map without_uses (what x0 q)
    now_here = elim (d.either q) [
      | inl e ↦ here ∙ ap (option_map without_uses) e
      | inr e ↦ here ∙ ap (option_map without_uses) e.1 ∙ without_twice (what x0 q)
    ]

    pub q_inside : Within (up y) o q
    q_inside = way_same x0 y o q y_up (d.at_inside q refl)

    pub q_lives : Lives y q
    q_lives = go (what x q) (d.at_lives q refl) here
      where
        go : (k : Option (Content O B T)) → IsSome k → what y q ≡ option_map without_uses k → Lives y q
        go None l e = absurd (cc)
        go (Some k) l e = rw e refl

    pub dropping_goes_on : left y o (Some q) ≡ q ∷ left y o next → ((r : Object) → next ≡ Some r → Within (up y) o r) → ((r : Object) → next ≡ Some r → Lives y r) → Dropping x0 y o next
    dropping_goes_on step found lives = record {
      linked = linked;
      used = used;
      same_up = y_up;
      same_kids = y_kids;
      places = y_places;
      inside = λ r w. elim (same_or_other object_tells r q) [
        | inl e ↦ inr (subst (λ z. what y z ≡ option_map without_uses (what x0 z)) (sym e) now_here)
        | inr ne ↦ elim (d.inside r w) [
          | inr done ↦ inr (others r ne ∙ done)
          | inl left_in ↦ elim (subst (Among r) (sym (left_same (Some q)) ∙ step) left_in) [
            | inl e ↦ absurd (ne e)
            | inr later ↦ inl (subst (Among r) (left_same next) later)
          ]
        ]
      ];
      either = λ r. elim (same_or_other object_tells r q) [
        | inl e ↦ inr (subst (λ z. Within (up x0) o z × (what y z ≡ option_map without_uses (what x0 z))) (sym e) (d.at_inside q refl, now_here))
        | inr ne ↦ elim (d.either r) [ inl e ↦ inl (others r ne ∙ e) | inr e ↦ inr (e.0, others r ne ∙ e.1) ]
      ];
      at_inside = λ r e. let w = found r e in (w.0, sym (climb-same (up x0) (up y) y_up w.0 (Some r)) ∙ w.1);
      at_lives = lives;
    }

    pub fewer_left : left y o (Some q) ≡ q ∷ left y o next → length (left y o next) < length (left x o (Some q))
    fewer_left step =
        let a : length (left x o (Some q)) ≡ length (left y o (Some q)) = ap length (same_left x0 x o (Some q) d.same_kids d.same_up (as_many x0 x d.places) ∙ sym (left_same (Some q))) in
        let b : length (left y o (Some q)) ≡ suc (length (left y o next)) = ap length step in
        omega (arith, a, b)

  pub dropped_inside : (x0 x : Objects O B T) (o : Object) → Dropping x0 x o None → (q : Object) → Within (up x0) o q → what x q ≡ option_map without_uses (what x0 q)
  dropped_inside x0 x o d q w = elim (d.inside q w) [ inl none ↦ absurd none | inr e ↦ e ]

  pub dropped_outside : (x0 x : Objects O B T) (o : Object) (at : Option Object) → Dropping x0 x o at → (q : Object) → (Within (up x0) o q → ⊥) → what x q ≡ what x0 q
  dropped_outside x0 x o at d q out = elim (d.either q) [ inl e ↦ e | inr e ↦ absurd (out e.0) ]
