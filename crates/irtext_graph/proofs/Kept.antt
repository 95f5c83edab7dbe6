-- Steps that leave the places and the data unchanged, one after another.
use Rattle.std.proofs.Common.{◌≡◌, ◌≢◌, ◌∙◌, inl, inr, sym, ap, length, ℕ, refl, Option, Some, None, IsSome}
use Rattle.std.specs.Option.{option_map}
use Rattle.irtext_graph.specs.Arena.{get, generation_at, KeepsPlaces, ShedsPlaces}
use Rattle.irtext_graph.specs.declared.arena.Arena.{Arena}
use Rattle.irtext_graph.specs.declared.arena.Entry.{Entry}
use Rattle.irtext_graph.specs.declared.nest.Nest.{Nest}
use Rattle.irtext_graph.specs.declared.objects.Objects.{Objects}
use Rattle.irtext_graph.specs.Nest.{datum_in, HasRoom}
use Rattle.irtext_graph.specs.Objects.{SamePlaces, SameData, SameDatum, Sheds, Renumbers, IsForest, Lives, HasRoomFor, KeepsRoom, what, eq_object}
use Rattle.irtext_graph.specs.declared.object.Object.{Object}
use Rattle.irtext_graph.specs.declared.object.Object.TheVariants.{TheOperation, TheBlock, TheRegion}
use Rattle.irtext_graph.specs.declared.arena.Ptr.{Ptr}
use Rattle.irtext_graph.proofs.Pointers.{ptr_or}
use Rattle.irtext_graph.proofs.Nests.{renested}
use Rattle.irtext_graph.proofs.Same.{object_tells}

keeps_on : {X : Type 0} {a b c : Arena X} → KeepsPlaces a b → KeepsPlaces b c → KeepsPlaces a c
keeps_on h k = record {
  generations = λ i. k.generations i ∙ h.generations i;
  free = k.free ∙ h.free;
  len = k.len ∙ h.len;
  age = λ m o. k.age m (h.age m o);
}

pub keeps_self : {X : Type 0} (a : Arena X) → KeepsPlaces a a
keeps_self a = record { generations = λ i. refl; free = refl; len = refl; age = λ m o. o }

shed_on : {X : Type 0} {a b c : Arena X} → ShedsPlaces a b → ShedsPlaces b c → ShedsPlaces a c
shed_on h k = record { generations = λ i. k.generations i ∙ h.generations i; len = k.len ∙ h.len; age = λ m o. k.age m (h.age m o) }

shed_none : {X : Type 0} {a b : Arena X} → KeepsPlaces a b → ShedsPlaces a b
shed_none h = record { generations = h.generations; len = h.len; age = h.age }

-- one object goes
pub shed_one : {X K : Type 0} (a b : Arena X) (p : Ptr K) → ((i : ℕ) → generation_at b i ≡ generation_at a i) → length b.slots.items ≡ length a.slots.items → get b p ≡ None → ((q : Ptr K) → q ≢ p → get b q ≡ get a q) → ShedsPlaces a b
shed_one {X} {K} a b p generations len gone others = record {
  generations = generations;
  len = len;
  age = λ m old i g o e.
      let q : Ptr K = record { index = i; generation = g; of = p.of } in
      elim (ptr_or q p) [
        | inl s ↦ absurd (let f : get b q ≡ None = ap (get b) s ∙ gone in cc)
        | inr n ↦ old i g o (sym (others q n) ∙ e)
      ];
}

module _ {O B T : Type 0} where
  pub places_on : {x y z : Objects O B T} → SamePlaces x y → SamePlaces y z → SamePlaces x z
  places_on h k = record {
    operation_places = keeps_on h.operation_places k.operation_places;
    block_places = keeps_on h.block_places k.block_places;
    region_places = keeps_on h.region_places k.region_places;
  }

  pub places_self : (x : Objects O B T) → SamePlaces x x
  places_self x = record { operation_places = keeps_self x.operations; block_places = keeps_self x.blocks; region_places = keeps_self x.regions }

  pub sheds_on : {x y z : Objects O B T} → Sheds x y → Sheds y z → Sheds x z
  sheds_on h k = record {
    operation_places = shed_on h.operation_places k.operation_places;
    block_places = shed_on h.block_places k.block_places;
    region_places = shed_on h.region_places k.region_places;
  }

  -- what keeps its places loses none
  pub sheds_none : {x y : Objects O B T} → SamePlaces x y → Sheds x y
  sheds_none h = record {
    operation_places = shed_none h.operation_places;
    block_places = shed_none h.block_places;
    region_places = shed_none h.region_places;
  }

  pub datum_at : {x y : Objects O B T} → SameData x y → (q : Object) → SameDatum x y q
  datum_at h q = record { operation = λ p e. h.operation_data p; block = λ p e. h.block_data p }

  pub datum_on : {x y z : Objects O B T} {q : Object} → SameDatum x y q → SameDatum y z q → SameDatum x z q
  datum_on h k = record { operation = λ p e. k.operation p e ∙ h.operation p e; block = λ p e. k.block p e ∙ h.block p e }

  pub datum_self : (x : Objects O B T) (q : Object) → SameDatum x x q
  datum_self x q = record { operation = λ p e. refl; block = λ p e. refl }

  pub data_on : {x y z : Objects O B T} → SameData x y → SameData y z → SameData x z
  data_on h k = record { operation_data = λ p. k.operation_data p ∙ h.operation_data p; block_data = λ p. k.block_data p ∙ h.block_data p }

module _ {O B T : Type 0} where
  pub same_self : (x : Objects O B T) → Renumbers x x
  same_self x = record {
    at = λ q. record { same_up = refl; same_kids = refl; same_what = refl };
    as_many = refl;
    places = places_self x;
    all_data = record { operation_data = λ p. refl; block_data = λ p. refl };
  }

  pub same_then : {x y z : Objects O B T} → Renumbers x y → Renumbers y z → Renumbers x z
  same_then h k = record {
    at = λ q. record { same_up = (k.at q).same_up ∙ (h.at q).same_up; same_kids = (k.at q).same_kids ∙ (h.at q).same_kids; same_what = (k.at q).same_what ∙ (h.at q).same_what };
    as_many = k.as_many ∙ h.as_many;
    places = places_on h.places k.places;
    all_data = data_on h.all_data k.all_data;
  }

  pub forest_then : {x y : Objects O B T} → IsForest x → Renumbers x y → IsForest y
  forest_then s h = renested eq_object object_tells s (λ q. (h.at q).same_kids) (λ q. (h.at q).same_up)

  pub room_on : {x y z : Objects O B T} → KeepsRoom x y → KeepsRoom y z → KeepsRoom x z
  room_on h k = record {
    operations = λ p r. k.operations p (h.operations p r);
    blocks = λ p r. k.blocks p (h.blocks p r);
    regions = λ p r. k.regions p (h.regions p r);
  }

  pub room_self : (x : Objects O B T) → KeepsRoom x x
  room_self x = record { operations = λ p r. r; blocks = λ p r. r; regions = λ p r. r }

  pub room_for : (x y : Objects O B T) (k : Object) → KeepsRoom x y → HasRoomFor x k → HasRoomFor y k
  room_for x y (TheOperation p) h r = h.operations p r
  room_for x y (TheBlock p) h r = h.blocks p r
  room_for x y (TheRegion p) h r = h.regions p r

-- what has room is there
room_there : {P C D V : Type 0} (f : ℕ × D → V) (e : Option (Entry (Nest P C D))) → HasRoom e → IsSome (option_map f (datum_in e))
room_there f None r = absurd r
room_there f (Some e) r = refl

module _ {O B T : Type 0} where
  pub room_lives : (x : Objects O B T) (k : Object) → HasRoomFor x k → Lives x k
  room_lives x (TheOperation p) r = room_there _ (get x.operations p) r
  room_lives x (TheBlock p) r = room_there _ (get x.blocks p) r
  room_lives x (TheRegion p) r = room_there _ (get x.regions p) r

-- an object that has data is there, and conversely
pub datum_there : {P C D V : Type 0} (f : ℕ × D → V) (e : Option (Entry (Nest P C D))) → IsSome e → IsSome (option_map f (datum_in e))
datum_there f None l = absurd (cc)
datum_there f (Some e) l = refl

pub datum_back : {P C D V : Type 0} (f : ℕ × D → V) (e : Option (Entry (Nest P C D))) → IsSome (option_map f (datum_in e)) → IsSome e
datum_back f None l = absurd (cc)
datum_back f (Some e) l = refl
