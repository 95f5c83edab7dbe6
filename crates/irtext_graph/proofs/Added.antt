-- A region that is appended to an operation as it is made: all is sound, and nothing else changed.
use Rattle.std.proofs.Common.{◌≡◌, ◌<◌, ◌≤◌, ◌+◌, ◌∙◌, ◌++◌, ◌∷◌, ◌⊎◌, inl, inr, ℕ, zero, suc, refl, ap, arith, Option, Some, None, List, [], map, IsSome}
use Rattle.std.specs.Option.{option_map}
use Rattle.std.proofs.lemmas.List.{map-append}
use Rattle.irtext_few.specs.Growing.{listed}
use Rattle.irtext_graph.specs.declared.graph.Counters.{Counters}
use Rattle.irtext_graph.specs.Arena as arena
use Rattle.irtext_graph.specs.Arena.{HasFew, KeepsPlaces}
use Rattle.irtext_graph.specs.declared.arena.Arena.{Arena}
use Rattle.irtext_graph.specs.declared.arena.Entry.{Entry}
use Rattle.irtext_graph.specs.declared.arena.Ptr.{Ptr}
use Rattle.irtext_graph.specs.declared.nest.Nest.{Nest}
use Rattle.irtext_graph.specs.declared.object.BasicBlock.{BasicBlock}
use Rattle.irtext_graph.specs.declared.object.Operation.{Operation}
use Rattle.irtext_graph.specs.declared.object.Region.{Region}
use Rattle.irtext_graph.specs.declared.object.Object.{Object}
use Rattle.irtext_graph.specs.declared.object.Object.TheVariants.{TheOperation, TheBlock, TheRegion}
use Rattle.irtext_graph.specs.declared.objects.Objects.{Objects}
use Rattle.irtext_graph.specs.declared.objects.OperationData.{OperationData}
use Rattle.irtext_graph.specs.declared.objects.RegionData.{RegionData}
use Rattle.irtext_graph.specs.Store.{Edits, before}
use Rattle.irtext_graph.specs.Content.{Content.{AnOperation}, operation_content, region_content}
use Rattle.irtext_graph.specs.Graph.{GraphView, graph_of, KeepsOlder}
use Rattle.irtext_graph.specs.Nest.{kids as children_at, parent_in, children_in, HasRoom, OnlyLists}
use Rattle.irtext_graph.specs.Nested.{Within, climb}
use Rattle.irtext_graph.specs.Objects.{up, kids, what, eq_object, SameData, IsForest}
use Rattle.irtext_graph.specs.Regions.{with_child, AddsRegion}
use Rattle.irtext_graph.specs.Sound.{IsSound, IsKept}
use Rattle.irtext_graph.specs.Uses.{operations_seen}
use Rattle.irtext_graph.proofs.Arenas.{older_later, older_inserted, new_view, was_none}
use Rattle.irtext_graph.proofs.Logs.{logged_same, logged_list, logged_kept, region_noted, region_ages}
use Rattle.irtext_graph.proofs.Made.{regions_same, node_inserted}
use Rattle.irtext_graph.proofs.Nests.{attached, renested, some_eq}
use Rattle.irtext_graph.proofs.Numbers.{what_kept, moved_kept}
use Rattle.irtext_graph.proofs.Same.{object_tells}
use Rattle.irtext_graph.proofs.Sounds.{same_use, uses_kept, sound_same}
use Rattle.irtext_graph.proofs.Stores.{inserted-keeps, edited-keeps}
use Rattle.irtext_graph.proofs.Once.{once_same, once_edited, once_inserted}

-- the places of an arena that did not change are kept
same_places : {X : Type 0} (a : Arena X) → KeepsPlaces a a
same_places a = record { generations = λ i. refl; free = refl; len = refl; age = λ mark h. h }

places_on : {X : Type 0} (a b c : Arena X) → KeepsPlaces a b → KeepsPlaces b c → KeepsPlaces a c
places_on a b c k l = record {
  generations = λ i. l.generations i ∙ k.generations i;
  free = l.free ∙ k.free;
  len = l.len ∙ k.len;
  age = λ mark h. l.age mark (k.age mark h);
}

-- what has room is live
pub room_live : {P C D : Type 0} (s : Option (Entry (Nest P C D))) → HasRoom s → IsSome s
room_live None h = absurd h
room_live (Some e) h = refl

-- what is reached upwards is where the way began, or something's parent
reached : {U : Type 0} (up : U → Option U) (n : ℕ) (s : Option U) (c : U) → climb up n s ≡ Some c → (s ≡ Some c) ⊎ ((q : U) × (up q ≡ Some c))
reached up zero s c e = inl e
reached up (suc n) None c e = absurd (cc)
reached up (suc n) (Some x) c e = elim (reached up n (up x) c e) [ inl f ↦ inr (x, f) | inr q ↦ inr q ]

module _ {O B T : Type 0} where
  -- the same operations, with more room in one
  pub record Roomier (x : Objects O B T) (room : Arena (Nest BasicBlock Region (OperationData O T))) (op : Ptr Operation) : Type 0 where
    pub lists : (q : Ptr Operation) → children_at room q ≡ children_at x.operations q
    pub only : OnlyLists x.operations room op

  module _ (x : Objects O B T) (room : Arena (Nest BasicBlock Region (OperationData O T))) {op : Ptr Operation} (r : Roomier x room op) where
    abbrev roomy : Objects O B T
    roomy = record x { operations = room }

    room_up : (q : Object) → up roomy q ≡ up x q
    room_up (TheOperation q) = ap (option_map TheBlock) (r.only.ups q)
    room_up (TheBlock q) = refl
    room_up (TheRegion q) = refl

    room_kids : (q : Object) → kids roomy q ≡ kids x q
    room_kids (TheOperation q) = ap (map TheRegion) (r.lists q)
    room_kids (TheBlock q) = refl
    room_kids (TheRegion q) = refl

    room_what : (q : Object) → what roomy q ≡ what x q
    room_what (TheOperation q) = ap (option_map (λ d. AnOperation d.0 (operation_content d.1))) (r.only.all_data q)
    room_what (TheBlock q) = refl
    room_what (TheRegion q) = refl

    -- with more room all is kept
    pub room_kept : (made : ℕ) (v : Counters) (log : List Object) → IsKept made v log x → IsKept made v log roomy
    room_kept made v log i =
        moved_kept made v log x roomy (record { operation_data = r.only.all_data; block_data = λ q. refl }) (renested eq_object object_tells i.sound.forest room_kids room_up)
        (record { operation_places = r.only.places; block_places = same_places x.blocks; region_places = same_places x.regions }) room_what i

    -- if inserting the region is an error, all is unchanged too
    pub refused_kept : (made : ℕ) (v : Counters) (log after : List Object) (a : Arena (Nest Operation BasicBlock RegionData)) → after ≡ log → a.slots.items ≡ x.regions.slots.items → IsKept made v log x
        → IsKept made v after (record x { operations = room; regions = a })
    refused_kept made v log after a f e i =
        let k = room_kept made v log i in
        record {
          sound = sound_same made roomy (record roomy { regions = a }) refl refl e k.sound;
          logged = logged_list made log after (record roomy { regions = a }) f (logged_kept made log roomy (record roomy { regions = a }) k.logged (region_ages roomy a e));
          numbered = record { below = k.numbered.below; differ = k.numbered.differ };
        }

    -- more room is not seen
    pub room_seen : (m : ℕ) (v : Counters) → operations_seen room ≡ operations_seen x.operations → graph_of m v roomy ≡ graph_of m v x
    room_seen m v e = ap (λ s. record (graph_of m v x) { operations = s }) e

    pub refused_seen : (m : ℕ) (v : Counters) (a : Arena (Nest Operation BasicBlock RegionData)) → operations_seen room ≡ operations_seen x.operations → a.slots.items ≡ x.regions.slots.items → a.free ≡ x.regions.free
        → graph_of m v (record x { operations = room; regions = a }) ≡ graph_of m v x
    refused_seen m v a s e f = regions_same m v roomy a e f ∙ room_seen m v s

  -- the same operations with one more child of one
  pub record Grown (x : Objects O B T) (grown : Arena (Nest BasicBlock Region (OperationData O T))) (op : Ptr Operation) (p : Ptr Region) : Type 0 where
    pub here : children_at grown op ≡ children_at x.operations op ++ p ∷ []
    pub only : OnlyLists x.operations grown op

  pub grown_in : (x : Objects O B T) (room grown : Arena (Nest BasicBlock Region (OperationData O T))) (op : Ptr Operation) (p : Ptr Region) → Roomier x room op → Grown (record x { operations = room }) grown op p → Grown x grown op p
  grown_in x room grown op p r g = record {
    here = g.here ∙ ap (λ cs. cs ++ p ∷ []) (r.lists op);
    only = record {
      others = λ q n. g.only.others q n ∙ r.lists q;
      ups = λ q. g.only.ups q ∙ r.only.ups q;
      all_data = λ q. g.only.all_data q ∙ r.only.all_data q;
      places = places_on x.operations room grown r.only.places g.only.places;
    };
  }

  module _ (x : Objects O B T) (made : ℕ) (grown : Arena (Nest BasicBlock Region (OperationData O T))) (after : Arena (Nest Operation BasicBlock RegionData)) (op : Ptr Operation) (p : Ptr Region)
      (e : Entry (Nest Operation BasicBlock RegionData)) (g : Grown x grown op p) (i : arena.Inserts x.regions after p e) (alive : e.content.parent ≡ Some op) (empty : listed e.content.children ≡ []) where
    abbrev added : Objects O B T
    added = record x { operations = grown; regions = after }

    free : up x (TheRegion p) ≡ None
    free = ap (λ s. option_map TheOperation (parent_in s)) (was_none x.regions after p e i)

    childless : kids x (TheRegion p) ≡ []
    childless = ap (λ s. map TheBlock (children_in s)) (was_none x.regions after p e i)

    -- nothing is nested in an object that is not there yet
    apart : IsForest x → Within (up x) (TheRegion p) (TheOperation op) → ⊥
    apart f w = elim (reached (up x) w.0 (Some (TheOperation op)) (TheRegion p) w.1) [
      | inl same ↦ let k : TheOperation op ≡ TheRegion p = some_eq same in cc
      | inr (q, e) ↦ let l = f.listed q (TheRegion p) e in let n = childless in let h = l.1 in let m = rw n at h in cc
    ]

    kids_others : (q : Object) → (q ≡ TheOperation op → ⊥) → kids added q ≡ kids x q
    kids_others (TheOperation q) n = ap (map TheRegion) (g.only.others q (λ s. n (ap TheOperation s)))
    kids_others (TheBlock q) n = refl
    kids_others (TheRegion q) n = new_view (λ s. map TheBlock (children_in s)) x.regions after p e i (ap (map TheBlock) empty) q

    up_others : (q : Object) → (q ≡ TheRegion p → ⊥) → up added q ≡ up x q
    up_others (TheOperation q) n = ap (option_map TheBlock) (g.only.ups q)
    up_others (TheBlock q) n = refl
    up_others (TheRegion q) n = ap (λ s. option_map TheOperation (parent_in s)) (i.updates.others q (λ s. n (ap TheRegion s)))

    forest : IsForest x → IsForest added
    forest f = attached eq_object object_tells f (record {
      free = free;
      apart = apart f;
      here = ap (map TheRegion) g.here ∙ map-append TheRegion (children_at x.operations op) (p ∷ []);
      others = kids_others;
      up_here = ap (λ s. option_map TheOperation (parent_in s)) i.updates.changed ∙ ap (option_map TheOperation) alive;
      ups = up_others;
    })

    same : SameData x added
    same = record { operation_data = g.only.all_data; block_data = λ q. refl }

    sound_added : IsSound made x → e.born < made + 1 → HasFew after → IsSound (made + 1) added
    sound_added s young few = record {
      forest = forest s.forest;
      uses = uses_kept x added same s.uses;
      all_used = λ u l. rw (same_use x added same u) (s.all_used u (rw (same_use x added same u) at l));
      few_operations = let n = g.only.places.len in let m = s.few_operations in omega (arith, n, m);
      few_blocks = s.few_blocks;
      few_regions = few;
      older_operations = older_later made (made + 1) grown (g.only.places.age made s.older_operations) (omega arith);
      older_blocks = older_later made (made + 1) x.blocks s.older_blocks (omega arith);
      older_regions = older_inserted made (made + 1) x.regions after p e s.older_regions (omega arith) young i.updates;
    }

    what_same : (q : Object) → what (record x { operations = grown }) q ≡ what x q
    what_same (TheOperation q) = ap (option_map (λ d. AnOperation d.0 (operation_content d.1))) (g.only.all_data q)
    what_same (TheBlock q) = refl
    what_same (TheRegion q) = refl

    -- with the region all is kept
    pub added_kept : (v : Counters) (log noted : List Object) → noted ≡ log ++ TheRegion p ∷ [] → e.born ≡ made → HasFew after → IsKept made v log x → IsKept (made + 1) v noted added
    added_kept v log noted n born few k = record {
      sound = sound_added k.sound (omega (arith, born)) few;
      logged = region_noted made log noted (record x { operations = grown }) after p e n (logged_same made log x (record x { operations = grown }) k.logged what_same) i.updates born;
      numbered = let same = what_kept made made v x (record x { operations = grown }) what_same k.numbered in record { below = same.below; differ = same.differ };
    }

    -- what is seen of it
    pub adds_seen : (v : Counters) → e.born ≡ made → Edits (operations_seen x.operations) (operations_seen grown) op (with_child p) → AddsRegion (graph_of made v x) (graph_of (made + 1) v added) op p
    adds_seen v born d = record {
      operations = d;
      regions = node_inserted region_content x.regions after p e i born alive empty refl;
      blocks = refl;
      made = refl;
      values = refl;
      first_place = refl;
    }

  -- what is older than the region and its operation is unchanged
  pub added-keeps : (m : ℕ) (old new : GraphView O B T) (op : Ptr Operation) (p : Ptr Region) → m ≤ old.made → before m old.operations op ≡ None → AddsRegion old new op p → KeepsOlder m old new
  added-keeps m old new op p up none k = record {
    operations = edited-keeps m old.operations new.operations op (with_child p) none k.operations;
    blocks = λ q. ap (λ s. before m s q) k.blocks;
    regions = inserted-keeps m old.regions new.regions p _ up k.regions;
    made = let c = k.made in omega (arith, c);
    values = let c = k.values in omega (arith, c);
    first_place = k.first_place;
    pointers = record { operations = once_edited old.operations new.operations op (with_child p) k.operations; blocks = once_same old.blocks new.blocks k.blocks; regions = once_inserted old.regions new.regions p _ k.regions };
  }
