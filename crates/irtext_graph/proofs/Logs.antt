-- The list of what was made keeps all live objects.
use Rattle.std.proofs.Common.{◌≡◌, ◌<◌, ◌≤◌, ◌+◌, ◌∙◌, ◌⊎◌, ◌++◌, ◌∷◌, ℕ, zero, suc, refl, sym, ap, arith, inl, inr, Option, Some, None, List, [], length, map, slice_get, subst, take, Result, Ok, Err, OnOk, OnErr}
use Rattle.std.proofs.lemmas.List.{map-append, take-map}
use Rattle.std.proofs.lemmas.Option.{slice_get-map}
use Rattle.std.specs.Option.{option_map}
use Rattle.irtext_graph.specs.Arena.{get, born_in, found, AtLeast, Updates}
use Rattle.irtext_graph.specs.declared.arena.Arena.{Arena}
use Rattle.irtext_graph.specs.declared.arena.Entry.{Entry}
use Rattle.irtext_graph.specs.declared.arena.Ptr.{Ptr}
use Rattle.irtext_graph.specs.declared.nest.Nest.{Nest}
use Rattle.irtext_graph.specs.declared.object.BasicBlock.{BasicBlock}
use Rattle.irtext_graph.specs.declared.object.Operation.{Operation}
use Rattle.irtext_graph.specs.declared.object.Region.{Region}
use Rattle.irtext_graph.specs.declared.object.Object.{Object}
use Rattle.irtext_graph.specs.declared.object.Object.TheVariants.{TheOperation, TheBlock, TheRegion}
use Rattle.irtext_graph.specs.declared.objects.Objects.{Objects}
use Rattle.irtext_graph.specs.declared.objects.BlockData.{BlockData}
use Rattle.irtext_graph.specs.declared.objects.OperationData.{OperationData}
use Rattle.irtext_graph.specs.declared.objects.RegionData.{RegionData}
use Rattle.irtext_graph.specs.Content.{Content.{AnOperation, ABlock, ARegion}, operation_content, block_content, region_content}
use Rattle.irtext_graph.specs.Log.{Made, age, IsByAge, IsBelow, IsListed, IsLogged}
use Rattle.irtext_graph.specs.Nest.{datum_in}
use Rattle.irtext_graph.specs.Objects.{what, born_of}
use Rattle.irtext_graph.proofs.Moves.{lower}
use Rattle.irtext_graph.proofs.Nests.{get-last, get-before, get-either, some_eq}
use Rattle.irtext_graph.proofs.Pointers.{ptr_or}

-- the object of an entry
abbrev object_of : Made → Object
object_of m = m.object

-- the first items of a list are the list's
pub get_taken : {X : Type 0} (xs : List X) (n k : ℕ) (x : X) → slice_get (take n xs) k ≡ Some x → slice_get xs k ≡ Some x
get_taken [] zero k x e = e
get_taken [] (suc n) k x e = e
get_taken (y ∷ ys) zero k x e = absurd (cc)
get_taken (y ∷ ys) (suc n) zero x e = e
get_taken (y ∷ ys) (suc n) (suc k) x e = get_taken ys n k x e

pub taken_get : {X : Type 0} (xs : List X) (n k : ℕ) (x : X) → k < n → slice_get xs k ≡ Some x → slice_get (take n xs) k ≡ Some x
taken_get [] n k x low e = absurd (cc)
taken_get (y ∷ ys) zero k x low e = absurd (omega (arith, low))
taken_get (y ∷ ys) (suc n) zero x low e = e
taken_get (y ∷ ys) (suc n) (suc k) x low e = taken_get ys n k x (omega (arith, low)) e

aged : {P C D V : Type 0} (f : ℕ × D → V) (b : V → ℕ) → ((d : ℕ × D) → b (f d) ≡ d.0) → (e : Option (Entry (Nest P C D))) → born_in e ≡ option_map b (option_map f (datum_in e))
aged f b same None = refl
aged f b same (Some e) = ap Some (sym (same (e.born, e.content.data)))

module _ {O B T : Type 0} where
  -- an object's age is part of what it is
  pub age_what : (x : Objects O B T) (o : Object) → age x o ≡ option_map born_of (what x o)
  age_what x (TheOperation p) = aged (λ d. AnOperation d.0 (operation_content d.1)) born_of (λ d. refl) (get x.operations p)
  age_what x (TheBlock p) = aged (λ d. ABlock d.0 (block_content d.1)) born_of (λ d. refl) (get x.blocks p)
  age_what x (TheRegion p) = aged (λ d. ARegion d.0 (region_content d.1)) born_of (λ d. refl) (get x.regions p)

  pub same_age : (x y : Objects O B T) (o : Object) → what y o ≡ what x o → age y o ≡ age x o
  same_age x y o e = age_what y o ∙ ap (option_map born_of) e ∙ sym (age_what x o)

  -- the object of an entry is in the log at the same index
  pub in_log : (made : ℕ) (log : List Object) (x : Objects O B T) (i : IsLogged made log x) (k : ℕ) (a : Made) → slice_get i.entries k ≡ Some a → slice_get log k ≡ Some a.object
  in_log made log x i k a e = ap (λ os. slice_get os k) i.objects ∙ slice_get-map object_of i.entries k ∙ ap (option_map object_of) e

  -- objects that are as old as they were, or are erased
  pub logged_kept : (made : ℕ) (log : List Object) (x y : Objects O B T) → IsLogged made log x → ((o : Object) (b : ℕ) → age y o ≡ Some b → age x o ≡ Some b) → IsLogged made log y
  logged_kept made log x y i same = record {
    entries = i.entries;
    objects = i.objects;
    all = record { listed = λ o b e. i.all.listed o b (same o b e); by_age = i.all.by_age; below = i.all.below; reached = λ k a b f e. i.all.reached k a b f (same a.object b e) };
  }

  -- another list of the same
  pub logged_list : (made : ℕ) (log after : List Object) (x : Objects O B T) → after ≡ log → IsLogged made log x → IsLogged made after x
  logged_list made log after x e i = rw e i

  -- objects that are what they were
  pub logged_same : (made : ℕ) (log : List Object) (x y : Objects O B T) → IsLogged made log x → ((o : Object) → what y o ≡ what x o) → IsLogged made log y
  logged_same made log x y i same = logged_kept made log x y i (λ o b e. sym (same_age x y o (same o)) ∙ e)

  pub logged_empty : (x : Objects O B T) → x.operations.slots.items ≡ [] → x.blocks.slots.items ≡ [] → x.regions.slots.items ≡ [] → (log : List Object) → log ≡ [] → IsLogged 0 log x
  logged_empty x eo eb er log e = record {
    entries = [];
    objects = e;
    all = record { listed = λ o b f. absurd (let n = none o in cc); by_age = λ j k a b le f g. absurd (cc); below = λ k a f. absurd (cc); reached = λ k a b f g. absurd (cc) };
  }
    where
      empty : {X K : Type 0} (a : Arena X) (p : Ptr K) → a.slots.items ≡ [] → get a p ≡ None
      empty a p e = ap (λ xs. found (slice_get xs p.index) p.generation) e

      none : (o : Object) → age x o ≡ None
      none (TheOperation p) = ap born_in (empty x.operations p eo)
      none (TheBlock p) = ap born_in (empty x.blocks p eb)
      none (TheRegion p) = ap born_in (empty x.regions p er)

  -- one object was made, and is listed
  pub logged_noted : (made : ℕ) (log after : List Object) (x y : Objects O B T) (o : Object) → after ≡ log ++ o ∷ [] → IsLogged made log x
      → ((q : Object) (b : ℕ) → age y q ≡ Some b → (age x q ≡ Some b) ⊎ ((q ≡ o) × (b ≡ made))) → ((b : ℕ) → age y o ≡ Some b → b ≡ made) → IsLogged (made + 1) after y
  logged_noted made log after x y o noted i came born = record {
    entries = i.entries ++ last ∷ [];
    objects = noted ∙ ap (λ os. os ++ o ∷ []) i.objects ∙ sym (map-append object_of i.entries (last ∷ []));
    all = record { listed = listed; by_age = by_age; below = below; reached = reached };
  }
    where
      last : Made
      last = record { born = made; object = o }

      listed : (q : Object) (b : ℕ) → age y q ≡ Some b → (k : ℕ) × (slice_get (i.entries ++ last ∷ []) k ≡ Some (record { born = b; object = q }))
      listed q b e = elim (came q b e) [
        | inl was ↦ let f = i.all.listed q b was in (f.0, get-before i.entries last (record { born = b; object = q }) f.0 f.1)
        | inr new ↦ (length i.entries, get-last i.entries last ∙ same q b new.0 new.1)
      ]
        where
          same : (q : Object) (b : ℕ) → q ≡ o → b ≡ made → ◌≡◌ {A = Option Made} (Some last) (Some (record { born = b; object = q }))
          same q b e f = rw (e, f) refl

      below : (k : ℕ) (a : Made) → slice_get (i.entries ++ last ∷ []) k ≡ Some a → a.born < made + 1
      below k a e = elim (get-either i.entries last a k e) [
        | inl was ↦ let l = i.all.below k a was in omega (arith, l)
        | inr new ↦ let f : a.born ≡ made = ap (λ (a : Made). a.born) new.1 in omega (arith, f)
      ]

      reached : (k : ℕ) (a : Made) (b : ℕ) → slice_get (i.entries ++ last ∷ []) k ≡ Some a → age y a.object ≡ Some b → a.born ≤ b
      reached k a b e g = elim (get-either i.entries last a k e) [
        | inl was ↦ elim (came a.object b g) [
          | inl old ↦ i.all.reached k a b was old
          | inr new ↦ let l = i.all.below k a was in let m = new.1 in omega (arith, l, m)
        ]
        | inr new ↦
            let f : a.born ≡ made = ap (λ (a : Made). a.born) new.1 in
            let m = born b (ap (age y) (sym (ap object_of new.1)) ∙ g) in
            omega (arith, f, m)
      ]

      by_age : IsByAge (i.entries ++ last ∷ [])
      by_age j k a b le e f = elim (get-either i.entries last b k f) [
        | inr new ↦ let l = below j a e in let g : b.born ≡ made = ap (λ (a : Made). a.born) new.1 in omega (arith, l, g)
        | inl was ↦ elim (get-either i.entries last a j e) [
          | inl first ↦ i.all.by_age j k a b le first was
          | inr last ↦ absurd (past i.entries k b was (let n = last.0 in omega (arith, n, le)))
        ]
      ]
        where
          past : (xs : List Made) (k : ℕ) (b : Made) → slice_get xs k ≡ Some b → length xs ≤ k → ⊥
          past [] k b e le = cc
          past (x ∷ xs) zero b e le = omega (arith, le)
          past (x ∷ xs) (suc k) b e le = past xs k b e (omega (arith, le))

  -- the list was cut after all live objects
  pub logged_cut : (made n : ℕ) (mark : ℕ) (log : List Object) (x y : Objects O B T) → IsLogged made log x
      → ((k : ℕ) (o : Object) → n ≤ k → slice_get log k ≡ Some o → IsBelow mark (age x o) → ⊥)
      → ((o : Object) (b : ℕ) → age y o ≡ Some b → (age x o ≡ Some b) × (b < mark)) → IsLogged made (take n log) y
  logged_cut made n mark log x y i since left = record {
    entries = take n i.entries;
    objects = ap (take n) i.objects ∙ take-map object_of n i.entries;
    all = record {
      listed = λ o b e.
          let h = left o b e in
          let f = i.all.listed o b h.0 in
          (f.0, taken_get i.entries n f.0 _ (low f.0 o b f.1 h.0 h.1) f.1);
      by_age = λ j k a b le e f. i.all.by_age j k a b le (get_taken i.entries n j a e) (get_taken i.entries n k b f);
      below = λ k a e. i.all.below k a (get_taken i.entries n k a e);
      reached = λ k a b f e. i.all.reached k a b (get_taken i.entries n k a f) ((left a.object b e).0);
    };
  }
    where
      low : (k : ℕ) (o : Object) (b : ℕ) → slice_get i.entries k ≡ Some (record { born = b; object = o }) → age x o ≡ Some b → b < mark → k < n
      low k o b e f less = elim (lower k n) [
        | inl l ↦ l
        | inr h ↦ absurd (since k o h (in_log made log x i k _ e) (subst (IsBelow mark) (sym f) less))
      ]

  -- what is no older than the mark comes after an object that is older
  pub later : (made mark n : ℕ) (log : List Object) (x : Objects O B T) (q : Object) → IsLogged made log x → slice_get log n ≡ Some q → IsBelow mark (age x q)
      → (o : Object) → AtLeast mark (age x o) → (k : ℕ) × (n + 1 ≤ k) × (slice_get log k ≡ Some o)
  later made mark n log x q i at old o young = go (age x o) (age x q) refl refl young old
    where
      first : (e : Option Made) → slice_get i.entries n ≡ e → option_map object_of e ≡ Some q → (a : Made) × (slice_get i.entries n ≡ Some a) × (a.object ≡ q)
      first None f g = absurd (cc)
      first (Some a) f g = (a, f, some_eq g)

      go : (s t : Option ℕ) → age x o ≡ s → age x q ≡ t → AtLeast mark s → IsBelow mark t → (k : ℕ) × (n + 1 ≤ k) × (slice_get log k ≡ Some o)
      go None t e f l m = absurd l
      go (Some b) None e f l m = absurd m
      go (Some b) (Some d) e f l m =
          let a = first (slice_get i.entries n) refl (sym (slice_get-map object_of i.entries n) ∙ ap (λ os. slice_get os n) (sym i.objects) ∙ at) in
          let r = i.all.reached n a.0 d a.1 (ap (age x) a.2 ∙ f) in
          let k = i.all.listed o b e in (
            k.0,
            elim (lower n k.0) [
              | inl past ↦ omega (arith, past)
              | inr early ↦ absurd (let s = i.all.by_age k.0 n _ a.0 early k.1 a.1 in omega (arith, s, r, l, m))
            ],
            in_log made log x i k.0 _ k.1,
          )

  -- all that is live is in the log
  pub in_all : (made mark : ℕ) (log : List Object) (x : Objects O B T) → IsLogged made log x → (o : Object) → AtLeast mark (age x o) → (k : ℕ) × (0 ≤ k) × (slice_get log k ≡ Some o)
  in_all made mark log x i o young = go (age x o) refl young
    where
      go : (s : Option ℕ) → age x o ≡ s → AtLeast mark s → (k : ℕ) × (0 ≤ k) × (slice_get log k ≡ Some o)
      go None e l = absurd l
      go (Some b) e l = let k = i.all.listed o b e in (k.0, omega arith, in_log made log x i k.0 _ k.1)

module _ {X K : Type 0} (kind : Ptr K → Object) (o : Object) (made : ℕ) where
  -- each object of one kind was there with its age, or is o and was made then
  abbrev IsOldOrMade : Arena X → Arena X → Type 0
  IsOldOrMade a b = (q : Ptr K) (n : ℕ) → born_in (get b q) ≡ Some n → (born_in (get a q) ≡ Some n) ⊎ ((kind q ≡ o) × (n ≡ made))

  came_in : (a b : Arena X) (p : Ptr K) (x : Entry X) → Updates a b p (Some x) → x.born ≡ made → kind p ≡ o → IsOldOrMade a b
  came_in a b p x u born is q n e = elim (ptr_or q p) [
    | inr away ↦ inl (ap born_in (sym (u.others q away)) ∙ e)
    | inl here ↦ inr (ap kind here ∙ is, let f : Some x.born ≡ Some n = sym (ap born_in (ap (get b) here ∙ u.changed)) ∙ e in let g : n ≡ x.born = cc in g ∙ born)
  ]

-- what was inserted is as old as it was made
born_is : {X K : Type 0} (made : ℕ) (a b : Arena X) (p : Ptr K) (x : Entry X) → Updates a b p (Some x) → x.born ≡ made → (n : ℕ) → born_in (get b p) ≡ Some n → n ≡ made
born_is made a b p x u born n e = let f : Some x.born ≡ Some n = sym (ap born_in u.changed) ∙ e in sym (some_eq f) ∙ born

module _ {O B T : Type 0} where
  came_by : (x y : Objects O B T) (o : Object) (made : ℕ) → IsOldOrMade TheOperation o made x.operations y.operations → IsOldOrMade TheBlock o made x.blocks y.blocks → IsOldOrMade TheRegion o made x.regions y.regions
      → (q : Object) (b : ℕ) → age y q ≡ Some b → (age x q ≡ Some b) ⊎ ((q ≡ o) × (b ≡ made))
  came_by x y o made operations blocks regions (TheOperation q) = operations q
  came_by x y o made operations blocks regions (TheBlock q) = blocks q
  came_by x y o made operations blocks regions (TheRegion q) = regions q

  pub region_noted : (made : ℕ) (log after : List Object) (x : Objects O B T) (a : Arena (Nest Operation BasicBlock RegionData)) (p : Ptr Region) (e : Entry (Nest Operation BasicBlock RegionData))
      → after ≡ log ++ TheRegion p ∷ [] → IsLogged made log x → Updates x.regions a p (Some e) → e.born ≡ made → IsLogged (made + 1) after (record x { regions = a })
  region_noted made log after x a p e noted i u born = logged_noted made log after x (record x { regions = a }) (TheRegion p) noted i (came_by x (record x { regions = a }) (TheRegion p) made (λ q n f. inl f) (λ q n f. inl f) (came_in TheRegion (TheRegion p) made x.regions a p e u born refl)) (born_is made x.regions a p e u born)

  pub block_noted : (made : ℕ) (log after : List Object) (x : Objects O B T) (a : Arena (Nest Region Operation (BlockData B T))) (p : Ptr BasicBlock) (e : Entry (Nest Region Operation (BlockData B T)))
      → after ≡ log ++ TheBlock p ∷ [] → IsLogged made log x → Updates x.blocks a p (Some e) → e.born ≡ made → IsLogged (made + 1) after (record x { blocks = a })
  block_noted made log after x a p e noted i u born = logged_noted made log after x (record x { blocks = a }) (TheBlock p) noted i (came_by x (record x { blocks = a }) (TheBlock p) made (λ q n f. inl f) (came_in TheBlock (TheBlock p) made x.blocks a p e u born refl) (λ q n f. inl f)) (born_is made x.blocks a p e u born)

  pub operation_noted : (made : ℕ) (log after : List Object) (x : Objects O B T) (a : Arena (Nest BasicBlock Region (OperationData O T))) (p : Ptr Operation) (e : Entry (Nest BasicBlock Region (OperationData O T)))
      → after ≡ log ++ TheOperation p ∷ [] → IsLogged made log x → Updates x.operations a p (Some e) → e.born ≡ made → IsLogged (made + 1) after (record x { operations = a })
  operation_noted made log after x a p e noted i u born = logged_noted made log after x (record x { operations = a }) (TheOperation p) noted i (came_by x (record x { operations = a }) (TheOperation p) made (came_in TheOperation (TheOperation p) made x.operations a p e u born refl) (λ q n f. inl f) (λ q n f. inl f)) (born_is made x.operations a p e u born)

  pub region_ages : (x : Objects O B T) (a : Arena (Nest Operation BasicBlock RegionData)) → a.slots.items ≡ x.regions.slots.items → (o : Object) (b : ℕ) → age (record x { regions = a }) o ≡ Some b → age x o ≡ Some b
  region_ages x a e (TheOperation p) b f = f
  region_ages x a e (TheBlock p) b f = f
  region_ages x a e (TheRegion p) b f = sym (ap (λ xs. born_in (found (slice_get xs p.index) p.generation)) e) ∙ f
