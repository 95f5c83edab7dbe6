-- The data of all objects inside an object are changed, one object after another: what is done so far, and that all is done at the end.
use Rattle.std.proofs.Common.{◌≡◌, ◌≢◌, ◌<◌, ◌∙◌, ◌⊎◌, ◌∷◌, ℕ, suc, refl, sym, ap, arith, inl, inr, subst, Option, Some, None, IsSome, IfSome, length, map}
use Rattle.std.specs.Option.{option_map}
use Rattle.irtext_graph.specs.declared.arena.Ptr.{Ptr}
use Rattle.irtext_graph.specs.declared.object.Operation.{Operation}
use Rattle.irtext_graph.specs.declared.object.BasicBlock.{BasicBlock}
use Rattle.irtext_graph.specs.declared.object.Region.{Region}
use Rattle.irtext_graph.specs.declared.object.Object.{Object}
use Rattle.irtext_graph.specs.declared.object.Object.TheVariants.{TheOperation, TheBlock, TheRegion}
use Rattle.irtext_graph.specs.Chained.{Among}
use Rattle.irtext_graph.specs.Content.{Content, Content.{AnOperation, ABlock, ARegion}, RegionContent}
use Rattle.irtext_graph.specs.Data.{with_data, with_block, with_operation_data, with_block_data, EditsOperation, EditsBlock}
use Rattle.irtext_graph.specs.Graph.{GraphView, KeepsRest, SamePlaces, parent, children, content, parent_of, children_of, content_of, IsLive, IsInside, IsNew, KeepsOlder}
use Rattle.irtext_graph.specs.Nested.{Nested}
use Rattle.irtext_graph.specs.Objects.{eq_object, is_older}
use Rattle.irtext_graph.specs.Parts.{operation_at, block_at}
use Rattle.irtext_graph.specs.Preorder.{onward}
use Rattle.irtext_graph.specs.Store.{Store, Edits, get, object_of}
use Rattle.irtext_graph.specs.Throughout.{changed, places, all_from, IsNewInside, SameObject, ChangedObject, EditsObject, EditsInside}
use Rattle.irtext_graph.proofs.Data.{edited, edited_block}
use Rattle.irtext_graph.proofs.Frames.{older_or_kept}
use Rattle.irtext_graph.proofs.Inside.{within_self, within_or}
use Rattle.irtext_graph.proofs.Nests.{same_or_other, climb-same}
use Rattle.irtext_graph.proofs.Preorders.{onward_same}
use Rattle.irtext_graph.proofs.Same.{object_tells}
use Rattle.irtext_graph.proofs.Stores.{seen_mapped}
use Rattle.irtext_graph.proofs.Once.{gives_rest}

module _ {X : Type 0} where
  places_self : (s : Store X) → SamePlaces s s
  places_self s = record { generations = λ i. refl; free = refl; len = refl }

  places_is : (s t : Store X) → t ≡ s → SamePlaces s t
  places_is s t e = subst (SamePlaces s) (sym e) (places_self s)

  places_on : (s t u : Store X) → SamePlaces s t → SamePlaces t u → SamePlaces s u
  places_on s t u a b = record { generations = λ i. b.generations i ∙ a.generations i; free = b.free ∙ a.free; len = b.len ∙ a.len }

  places_edited : {K : Type 0} (s t : Store X) (p : Ptr K) (change : X → X) → Edits s t p change → SamePlaces s t
  places_edited s t p change e = record { generations = e.generations; free = e.free; len = e.len }

module _ {O B T : Type 0} where
  rest_self : (g : GraphView O B T) → KeepsRest g g
  rest_self g = record { operation_places = places_self g.operations; block_places = places_self g.blocks; region_places = places_self g.regions; made = refl; values = refl; first_place = refl }

  rest_of : (g h : GraphView O B T) → SamePlaces g.operations h.operations → SamePlaces g.blocks h.blocks → SamePlaces g.regions h.regions → h.made ≡ g.made → h.values ≡ g.values → h.first_place ≡ g.first_place → KeepsRest g h
  rest_of g h operations blocks regions made values first = record { operation_places = operations; block_places = blocks; region_places = regions; made = made; values = values; first_place = first }

  rest_on : (g h k : GraphView O B T) → KeepsRest g h → KeepsRest h k → KeepsRest g k
  rest_on g h k a b = record {
    operation_places = places_on g.operations h.operations k.operations a.operation_places b.operation_places;
    block_places = places_on g.blocks h.blocks k.blocks a.block_places b.block_places;
    region_places = places_on g.regions h.regions k.regions a.region_places b.region_places;
    made = b.made ∙ a.made;
    values = b.values ∙ a.values;
    first_place = b.first_place ∙ a.first_place;
  }

  object_self : (g : GraphView O B T) (q : Object) → SameObject g g q
  object_self g q = record { what = refl; holder = refl; items = refl }

  operation_same : (g h : GraphView O B T) (q : Ptr Operation) → get h.operations q ≡ get g.operations q → SameObject g h (TheOperation q)
  operation_same g h q e = record {
    what = ap (λ s. option_map (λ d. AnOperation d.0 d.1) (content_of s)) e;
    holder = ap (λ s. option_map TheBlock (parent_of s)) e;
    items = ap (λ s. map TheRegion (children_of s)) e;
  }

  block_same : (g h : GraphView O B T) (q : Ptr BasicBlock) → get h.blocks q ≡ get g.blocks q → SameObject g h (TheBlock q)
  block_same g h q e = record {
    what = ap (λ s. option_map (λ d. ABlock d.0 d.1) (content_of s)) e;
    holder = ap (λ s. option_map TheRegion (parent_of s)) e;
    items = ap (λ s. map TheOperation (children_of s)) e;
  }

  region_same : (g h : GraphView O B T) (q : Ptr Region) → get h.regions q ≡ get g.regions q → SameObject g h (TheRegion q)
  region_same g h q e = record {
    what = ap (λ s. option_map (λ d. ARegion d.0 d.1) (content_of s)) e;
    holder = ap (λ s. option_map TheOperation (parent_of s)) e;
    items = ap (λ s. map TheBlock (children_of s)) e;
  }

  module _ (f : O → O) (h : B → B) where
    operation_changed : (old new : GraphView O B T) (p : Ptr Operation) → get new.operations p ≡ option_map (object_of (with_data f)) (get old.operations p) → ChangedObject old new (TheOperation p) f h
    operation_changed old new p e = record {
      what = ap (λ s. option_map (λ d. AnOperation d.0 d.1) (content_of s)) e ∙ seen_mapped (object_of (with_data f)) (λ s. option_map (λ d. AnOperation d.0 d.1) (content_of s)) (λ s. option_map (changed f h) (option_map (λ d. AnOperation d.0 d.1) (content_of s))) refl (λ x. refl) (get old.operations p);
      holder = ap (λ s. option_map TheBlock (parent_of s)) e ∙ seen_mapped (object_of (with_data f)) (λ s. option_map TheBlock (parent_of s)) (λ s. option_map TheBlock (parent_of s)) refl (λ x. refl) (get old.operations p);
      items = ap (λ s. map TheRegion (children_of s)) e ∙ seen_mapped (object_of (with_data f)) (λ s. map TheRegion (children_of s)) (λ s. map TheRegion (children_of s)) refl (λ x. refl) (get old.operations p);
    }

    block_changed : (old new : GraphView O B T) (p : Ptr BasicBlock) → get new.blocks p ≡ option_map (object_of (with_block h)) (get old.blocks p) → ChangedObject old new (TheBlock p) f h
    block_changed old new p e = record {
      what = ap (λ s. option_map (λ d. ABlock d.0 d.1) (content_of s)) e ∙ seen_mapped (object_of (with_block h)) (λ s. option_map (λ d. ABlock d.0 d.1) (content_of s)) (λ s. option_map (changed f h) (option_map (λ d. ABlock d.0 d.1) (content_of s))) refl (λ x. refl) (get old.blocks p);
      holder = ap (λ s. option_map TheRegion (parent_of s)) e ∙ seen_mapped (object_of (with_block h)) (λ s. option_map TheRegion (parent_of s)) (λ s. option_map TheRegion (parent_of s)) refl (λ x. refl) (get old.blocks p);
      items = ap (λ s. map TheOperation (children_of s)) e ∙ seen_mapped (object_of (with_block h)) (λ s. map TheOperation (children_of s)) (λ s. map TheOperation (children_of s)) refl (λ x. refl) (get old.blocks p);
    }

    -- the data of one operation are written
    pub edits_operation : (old new : GraphView O B T) (p : Ptr Operation) → EditsOperation old new p f → EditsObject old new (TheOperation p) f h
    edits_operation old new p e = record {
      here = operation_changed old new p e.operations.updates.changed;
      others = others;
      rest = rest_of old new (places_edited old.operations new.operations p (with_data f) e.operations) (places_is old.blocks new.blocks e.blocks) (places_is old.regions new.regions e.regions) e.made e.values e.first_place;
    }
      where
        others : (q : Object) → q ≢ TheOperation p → SameObject old new q
        others (TheOperation q) ne = operation_same old new q (e.operations.updates.others q (λ s. ne (ap TheOperation s)))
        others (TheBlock q) ne = block_same old new q (ap (λ s. get s q) e.blocks)
        others (TheRegion q) ne = region_same old new q (ap (λ s. get s q) e.regions)

    -- the data of one block are written
    pub edits_block : (old new : GraphView O B T) (p : Ptr BasicBlock) → EditsBlock old new p h → EditsObject old new (TheBlock p) f h
    edits_block old new p e = record {
      here = block_changed old new p e.blocks.updates.changed;
      others = others;
      rest = rest_of old new (places_is old.operations new.operations e.operations) (places_edited old.blocks new.blocks p (with_block h) e.blocks) (places_is old.regions new.regions e.regions) e.made e.values e.first_place;
    }
      where
        others : (q : Object) → q ≢ TheBlock p → SameObject old new q
        others (TheOperation q) ne = operation_same old new q (ap (λ s. get s q) e.operations)
        others (TheBlock q) ne = block_same old new q (e.blocks.updates.others q (λ s. ne (ap TheBlock s)))
        others (TheRegion q) ne = region_same old new q (ap (λ s. get s q) e.regions)

    -- what was read of an operation, changed and written back
    pub written_operation : (g : GraphView O B T) (o : Object) (p : Ptr Operation) (d : O) → o ≡ TheOperation p → option_map (λ c. c.data_of) (operation_at g p) ≡ Some d → EditsObject g (with_operation_data g p (f d)) o f h
    written_operation g o p d is e = subst (λ q. EditsObject g (with_operation_data g p (f d)) q f h) (sym is) (edits_operation g (with_operation_data g p (f d)) p (edited g p d f e))

    -- the same of a block
    pub written_block : (g : GraphView O B T) (o : Object) (p : Ptr BasicBlock) (d : B) → o ≡ TheBlock p → option_map (λ c. c.data_of) (block_at g p) ≡ Some d → EditsObject g (with_block_data g p (h d)) o f h
    written_block g o p d is e = subst (λ q. EditsObject g (with_block_data g p (h d)) q f h) (sym is) (edits_block g (with_block_data g p (h d)) p (edited_block g p d h e))

    region_idle : (k : Option (ℕ × RegionContent)) → ◌≡◌ {A = Option (Content O B T)} (option_map (λ d. ARegion d.0 d.1) k) (option_map (changed f h) (option_map (λ d. ARegion d.0 d.1) k))
    region_idle None = refl
    region_idle (Some d) = refl

    -- a region has no data
    edits_region : (g : GraphView O B T) (p : Ptr Region) → EditsObject g g (TheRegion p) f h
    edits_region g p = record {
      here = record { what = region_idle (content_of (get g.regions p)); holder = refl; items = refl };
      others = λ q ne. object_self g q;
      rest = rest_self g;
    }

    pub written_region : (g : GraphView O B T) (o : Object) (p : Ptr Region) → o ≡ TheRegion p → EditsObject g g o f h
    written_region g o p is = subst (λ q. EditsObject g g q f h) (sym is) (edits_region g p)

    -- what inside o comes before `at` is changed
    pub record Going (old now : GraphView O B T) (o : Object) (at : Option Object) : Type 0 where
      pub inside : (q : Object) → IsInside old o q → Among q (all_from old o at) ⊎ ChangedObject old now q f h
      pub either : (q : Object) → SameObject old now q ⊎ (IsInside old o q × ChangedObject old now q f h)
      pub rest : KeepsRest old now
      pub at_inside : IfSome at (λ q. IsInside old o q)
      pub at_is_live : IfSome at (λ q. IsLive now q)

    pub going_begins : (g : GraphView O B T) (o : Object) → IsLive g o → ((o q : Object) → IsInside g o q → Among q (all_from g o (Some o))) → Going g g o (Some o)
    going_begins g o l all = record {
      inside = λ q w. inl (all o q w);
      either = λ q. inl (object_self g q);
      rest = rest_self g;
      at_inside = within_self (parent g) o;
      at_is_live = l;
    }

    module _ (old now : GraphView O B T) (o : Object) (at : Option Object) (d : Going old now o at) where
      now_holder : (q : Object) → parent now q ≡ parent old q
      now_holder q = elim (d.either q) [ inl s ↦ s.holder | inr s ↦ s.1.holder ]

      now_items : (q : Object) → children now q ≡ children old q
      now_items q = elim (d.either q) [ inl s ↦ s.items | inr s ↦ s.1.items ]

      was_inside : (q : Object) → IsInside now o q → IsInside old o q
      was_inside q w = (w.0, sym (climb-same (parent old) (parent now) now_holder w.0 (Some q)) ∙ w.1)

      all_same : (r : Option Object) → all_from now o r ≡ all_from old o r
      all_same r =
          let a = d.rest.operation_places.len in
          let b = d.rest.block_places.len in
          let c = d.rest.region_places.len in
          let n : places now ≡ places old = omega (arith, a, b, c) in
          ap (λ (k : ℕ). onward eq_object (children now) (parent now) (suc k) o r) n
          ∙ onward_same eq_object (children old) (children now) (parent old) (parent now) now_items now_holder (suc (places old)) o r

    going_is_live : (k : Option (Content O B T)) → IsSome k → IsSome (option_map (changed f h) k)
    going_is_live None l = l
    going_is_live (Some k) l = refl

    module _ (again_f : (x : O) → f (f x) ≡ f x) (again_h : (x : B) → h (h x) ≡ h x) where
      twice : (k : Option (Content O B T)) → option_map (changed f h) (option_map (changed f h) k) ≡ option_map (changed f h) k
      twice None = refl
      twice (Some (AnOperation n c)) = ap (λ x. Some (AnOperation n (record c { data_of = x }))) (again_f c.data_of)
      twice (Some (ABlock n c)) = ap (λ x. Some (ABlock n (record c { data_of = x }))) (again_h c.data_of)
      twice (Some (ARegion n c)) = refl

      module _ (old now then : GraphView O B T) (o q : Object) (next : Option Object) (d : Going old now o (Some q)) (step : all_from now o (Some q) ≡ q ∷ all_from now o next) where
        was_step : all_from old o (Some q) ≡ q ∷ all_from old o next
        was_step = sym (all_same old now o (Some q) d (Some q)) ∙ step ∙ ap (λ xs. q ∷ xs) (all_same old now o (Some q) d next)

        pub going_shrinks : length (all_from old o next) < length (all_from old o (Some q))
        going_shrinks = let n : length (all_from old o (Some q)) ≡ suc (length (all_from old o next)) = ap length was_step in omega (arith, n)

        module _ (found : IfSome next (λ r. IsInside now o r)) (there : IfSome next (λ r. IsLive now r)) (e : EditsObject now then q f h) where
          here : ChangedObject old then q f h
          here = elim (d.either q) [
            | inl s ↦ record { what = e.here.what ∙ ap (option_map (changed f h)) s.what; holder = e.here.holder ∙ s.holder; items = e.here.items ∙ s.items }
            | inr s ↦ record { what = e.here.what ∙ ap (option_map (changed f h)) s.1.what ∙ twice (content old q); holder = e.here.holder ∙ s.1.holder; items = e.here.items ∙ s.1.items }
          ]

          same_on : (r : Object) → SameObject old now r → SameObject now then r → SameObject old then r
          same_on r a b = record { what = b.what ∙ a.what; holder = b.holder ∙ a.holder; items = b.items ∙ a.items }

          changed_on : (r : Object) → ChangedObject old now r f h → SameObject now then r → ChangedObject old then r f h
          changed_on r a b = record { what = b.what ∙ a.what; holder = b.holder ∙ a.holder; items = b.items ∙ a.items }

          still : (r : Object) → IsLive now r → IsLive then r
          still r l = elim (same_or_other object_tells r q) [
            | inl s ↦ subst (λ z. IsLive then z) (sym s) (subst IsSome (sym e.here.what) (going_is_live (content now q) (subst (λ z. IsLive now z) s l)))
            | inr ne ↦ subst IsSome (sym (e.others r ne).what) l
          ]

          found_was : (r : Option Object) → IfSome r (λ r. IsInside now o r) → IfSome r (λ r. IsInside old o r)
          found_was None w = w
          found_was (Some r) w = was_inside old now o (Some q) d r w

          found_is_live : (r : Option Object) → IfSome r (λ r. IsLive now r) → IfSome r (λ r. IsLive then r)
          found_is_live None l = l
          found_is_live (Some r) l = still r l

          -- the data of the object that comes next are changed
          pub going_on : Going old then o next
          going_on = record {
            inside = λ r w. elim (same_or_other object_tells r q) [
              | inl s ↦ inr (subst (λ z. ChangedObject old then z f h) (sym s) here)
              | inr ne ↦ elim (d.inside r w) [
                | inr done ↦ inr (changed_on r done (e.others r ne))
                | inl comes ↦ elim (subst (Among r) was_step comes) [ inl s ↦ absurd (ne s) | inr later ↦ inl later ]
              ]
            ];
            either = λ r. elim (same_or_other object_tells r q) [
              | inl s ↦ inr (subst (λ z. IsInside old o z × ChangedObject old then z f h) (sym s) (d.at_inside, here))
              | inr ne ↦ elim (d.either r) [ inl s ↦ inl (same_on r s (e.others r ne)) | inr s ↦ inr (s.0, changed_on r s.1 (e.others r ne)) ]
            ];
            rest = rest_on old now then d.rest e.rest;
            at_inside = found_was next found;
            at_is_live = found_is_live next there;
          }

    -- after the last object all is changed
    pub going_ends : (old now : GraphView O B T) (o : Object) → Going old now o None → EditsInside old now o f h
    going_ends old now o d = record {
      inside = λ q w. elim (d.inside q w) [ inl none ↦ absurd none | inr done ↦ done ];
      others = λ q out. elim (d.either q) [ inl s ↦ s | inr s ↦ absurd (out s.0) ];
      rest = d.rest;
    }

    as_old : (m : ℕ) (k : Option (Content O B T)) → is_older m (option_map (changed f h) k) ≡ is_older m k
    as_old m None = refl
    as_old m (Some (AnOperation n c)) = refl
    as_old m (Some (ABlock n c)) = refl
    as_old m (Some (ARegion n c)) = refl

    -- what is older than all objects inside is unchanged
    pub edited_inside-keeps : (m : ℕ) (old new : GraphView O B T) (o : Object) → Nested (children old) (parent old) → EditsInside old new o f h → IsNewInside m old o → KeepsOlder m old new
    edited_inside-keeps m old new o s e young = older_or_kept m old new at (let k = e.rest.made in omega (arith, k)) (let k = e.rest.values in omega (arith, k)) e.rest.first_place
        (gives_rest old new e.rest (λ q none. elim (within_or eq_object object_tells (parent old) s.ends o q) [ inl w ↦ (e.inside q w).what ∙ ap (option_map (changed f h)) none | inr out ↦ (e.others q out).what ∙ none ]))
      where
        at : (q : Object) → (IsNew m old q × IsNew m new q) ⊎ ((parent new q ≡ parent old q) × (children new q ≡ children old q) × (content new q ≡ content old q))
        at q = elim (within_or eq_object object_tells (parent old) s.ends o q) [
          | inl w ↦ inl (young q w, ap (is_older m) (e.inside q w).what ∙ as_old m (content old q) ∙ young q w)
          | inr out ↦ let k = e.others q out in inr (k.holder, k.items, k.what)
        ]
