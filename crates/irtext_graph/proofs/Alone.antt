-- If no block is inside an operation, the change of all data inside it is a change of its own data only.
use Rattle.std.proofs.Common.{◌≡◌, ◌≢◌, ◌∙◌, ℕ, zero, suc, refl, sym, ap, arith, inl, inr, cond, List, [], ◌∷◌, Option, Some, None, length, slice_get}
use Rattle.std.specs.Option.{option_map}
use Rattle.std.proofs.lemmas.Bool.{eq-eqb}
use Rattle.irtext_graph.specs.declared.arena.Entry.{Entry}
use Rattle.irtext_graph.specs.declared.arena.Ptr.{Ptr}
use Rattle.irtext_graph.specs.declared.object.Operation.{Operation}
use Rattle.irtext_graph.specs.declared.object.BasicBlock.{BasicBlock}
use Rattle.irtext_graph.specs.declared.object.Region.{Region}
use Rattle.irtext_graph.specs.declared.object.Object.TheVariants.{TheOperation, TheBlock, TheRegion}
use Rattle.irtext_graph.specs.Content.{Node, Content, Content.{AnOperation, ARegion}, OperationContent, RegionContent}
use Rattle.irtext_graph.specs.Data.{with_data, EditsOperation}
use Rattle.irtext_graph.specs.Graph.{GraphView, SamePlaces, parent, children, parent_of, children_of, content_of, IsInside}
use Rattle.irtext_graph.specs.Nested.{Nested, climb}
use Rattle.irtext_graph.specs.Objects.{eq_object}
use Rattle.irtext_graph.specs.Store.{Store, Cell, get, object_of, object_in, drawn}
use Rattle.irtext_graph.specs.Throughout.{changed, SameObject, EditsInside, HoldsNoBlocks}
use Rattle.irtext_graph.proofs.Frames.{option_same, map_same, entry_same, operation_content_same, block_content_same, region_content_same, block_same, region_same, operation_same}
use Rattle.irtext_graph.proofs.Inside.{within_self, within_or}
use Rattle.irtext_graph.proofs.Nests.{some_eq, climb-none}
use Rattle.irtext_graph.proofs.Same.{object_tells}

module _ {X : Type 0} where
  cell_same : (c d : Cell X) → d.generation ≡ c.generation → ((g : ℕ) → object_in (Some d) g ≡ object_in (Some c) g) → d ≡ c
  cell_same c d e f =
      let x : object_in (Some d) c.generation ≡ d.object = ap (λ b. cond b d.object None) (eq-eqb d.generation c.generation e) in
      let y : object_in (Some c) c.generation ≡ c.object = ap (λ b. cond b c.object None) (eq-eqb c.generation c.generation refl) in
      one d.generation c.generation d.object c.object e (sym x ∙ f c.generation ∙ y)
    where
      one : (g k : ℕ) (s t : Option (Entry X)) → g ≡ k → s ≡ t → ◌≡◌ {A = Cell X} (record { generation = g; object = s }) (record { generation = k; object = t })
      one g k s t e f = rw (e, f) refl

  cells_same : (xs ys : List (Cell X)) → length ys ≡ length xs → ((i : ℕ) → drawn (slice_get ys i) ≡ drawn (slice_get xs i)) → ((i g : ℕ) → object_in (slice_get ys i) g ≡ object_in (slice_get xs i) g) → ys ≡ xs
  cells_same [] [] n e f = refl
  cells_same [] (y ∷ ys) n e f = absurd (omega (arith, n))
  cells_same (x ∷ xs) [] n e f = absurd (omega (arith, n))
  cells_same (x ∷ xs) (y ∷ ys) n e f = ap (λ z. z ∷ ys) (cell_same x y (e zero) (f zero)) ∙ ap (λ zs. x ∷ zs) (cells_same xs ys (omega (arith, n)) (λ i. e (suc i)) (λ i. f (suc i)))

  -- the same objects under all pointers, at the same places
  store_same : (K : Type 0) (s t : Store X) → SamePlaces s t → ((p : Ptr K) → get t p ≡ get s p) → t ≡ s
  store_same K s t p e =
      one t.cells s.cells t.free s.free (cells_same s.cells t.cells p.len p.generations (λ i g. e (record { index = i; generation = g; of = record {} }))) p.free
    where
      one : (c d : List (Cell X)) (f h : Option ℕ) → c ≡ d → f ≡ h → ◌≡◌ {A = Store X} (record { cells = c; free = f }) (record { cells = d; free = h })
      one c d f h a b = rw (a, b) refl

module _ {O B T : Type 0} (f : O → O) (h : B → B) (old new : GraphView O B T) (p : Ptr Operation) (e : EditsInside old new (TheOperation p) f h) (none : HoldsNoBlocks old (TheOperation p)) (s : Nested (children old) (parent old)) where
  abbrev Of : Type 0
  Of = Option (Entry (Node BasicBlock Region (OperationContent O T)))

  -- no other operation is inside it
  no_other : (q : Ptr Operation) → q ≢ p → IsInside old (TheOperation p) (TheOperation q) → ⊥
  no_other q ne w = go w.0 w.1
    where
      above : (n : ℕ) (k : Option (Ptr BasicBlock)) → climb (parent old) n (option_map TheBlock k) ≡ Some (TheOperation p) → ⊥
      above n None c = let k = climb-none (parent old) n in cc
      above n (Some b) c = none b (n, c)

      go : (n : ℕ) → climb (parent old) n (Some (TheOperation q)) ≡ Some (TheOperation p) → ⊥
      go zero c = let k : TheOperation q ≡ TheOperation p = some_eq c in ne (operation_same q p k)
      go (suc n) c = above n (parent_of (get old.operations q)) c

  operation_kept : (q : Ptr Operation) → SameObject old new (TheOperation q) → get new.operations q ≡ get old.operations q
  operation_kept q k = entry_same (get new.operations q) (get old.operations q)
      (option_same TheBlock block_same (parent_of (get new.operations q)) (parent_of (get old.operations q)) k.holder)
      (map_same TheRegion region_same (children_of (get new.operations q)) (children_of (get old.operations q)) k.items)
      (operation_content_same old new q k.what)

  block_kept : (q : Ptr BasicBlock) → get new.blocks q ≡ get old.blocks q
  block_kept q =
      let k = e.others (TheBlock q) (none q) in
      entry_same (get new.blocks q) (get old.blocks q)
      (option_same TheRegion region_same (parent_of (get new.blocks q)) (parent_of (get old.blocks q)) k.holder)
      (map_same TheOperation operation_same (children_of (get new.blocks q)) (children_of (get old.blocks q)) k.items)
      (block_content_same old new q k.what)

  idle : (k : Option (ℕ × RegionContent)) → ◌≡◌ {A = Option (Content O B T)} (option_map (changed f h) (option_map (λ d. ARegion d.0 d.1) k)) (option_map (λ d. ARegion d.0 d.1) k)
  idle None = refl
  idle (Some d) = refl

  region_same_at : (q : Ptr Region) → SameObject old new (TheRegion q)
  region_same_at q = elim (within_or eq_object object_tells (parent old) s.ends (TheOperation p) (TheRegion q)) [
    | inl w ↦ let k = e.inside (TheRegion q) w in record { what = k.what ∙ idle (content_of (get old.regions q)); holder = k.holder; items = k.items }
    | inr out ↦ e.others (TheRegion q) out
  ]

  region_kept : (q : Ptr Region) → get new.regions q ≡ get old.regions q
  region_kept q =
      let k = region_same_at q in
      entry_same (get new.regions q) (get old.regions q)
      (option_same TheOperation operation_same (parent_of (get new.regions q)) (parent_of (get old.regions q)) k.holder)
      (map_same TheBlock block_same (children_of (get new.regions q)) (children_of (get old.regions q)) k.items)
      (region_content_same old new q k.what)

  -- the operation itself, from what is seen of it
  changed_here : (a b : Of) → ◌≡◌ {A = Option (Content O B T)} (option_map (λ d. AnOperation d.0 d.1) (content_of b)) (option_map (changed f h) (option_map (λ d. AnOperation d.0 d.1) (content_of a)))
      → parent_of b ≡ parent_of a → children_of b ≡ children_of a → b ≡ option_map (object_of (with_data f)) a
  changed_here None None w u i = refl
  changed_here None (Some y) w u i = absurd (cc)
  changed_here (Some x) None w u i = absurd (cc)
  changed_here (Some x) (Some y) w u i =
      let k : AnOperation y.born y.content.content ≡ AnOperation x.born (record x.content.content { data_of = f x.content.content.data_of }) = some_eq w in
      let a : y.born ≡ x.born = cc in
      let d : y.content.content ≡ record x.content.content { data_of = f x.content.content.data_of } = cc in
      one y.born x.born y.content.parent x.content.parent y.content.children x.content.children y.content.content (record x.content.content { data_of = f x.content.content.data_of }) a u i d
    where
      one : (b b' : ℕ) (p p' : Option (Ptr BasicBlock)) (c c' : List (Ptr Region)) (d d' : OperationContent O T) → b ≡ b' → p ≡ p' → c ≡ c' → d ≡ d'
          → ◌≡◌ {A = Of} (Some (record { born = b; content = record { parent = p; children = c; content = d } })) (Some (record { born = b'; content = record { parent = p'; children = c'; content = d' } }))
      one b b' p p' c c' d d' e f g h = rw (e, f, g, h) refl

  pub edited_alone : EditsOperation old new p f
  edited_alone =
      let k = e.inside (TheOperation p) (within_self (parent old) (TheOperation p)) in
      record {
        operations = record {
          updates = record {
            changed = changed_here (get old.operations p) (get new.operations p) k.what
                (option_same TheBlock block_same (parent_of (get new.operations p)) (parent_of (get old.operations p)) k.holder)
                (map_same TheRegion region_same (children_of (get new.operations p)) (children_of (get old.operations p)) k.items);
            others = λ q ne. operation_kept q (e.others (TheOperation q) (no_other q ne));
          };
          generations = e.rest.operation_places.generations;
          free = e.rest.operation_places.free;
          len = e.rest.operation_places.len;
        };
        blocks = store_same BasicBlock old.blocks new.blocks e.rest.block_places block_kept;
        regions = store_same Region old.regions new.regions e.rest.region_places region_kept;
        made = e.rest.made;
        values = e.rest.values;
        first_place = e.rest.first_place;
      }
