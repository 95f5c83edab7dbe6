-- What is older than a mark is unchanged if newer objects are added only to newer ones.
use Rattle.std.proofs.Common.{◌≡◌, ◌≤◌, ◌∙◌, ◌∷◌, ◌⊎◌, ℕ, refl, sym, ap, arith, inl, inr, false, cond, nat_lt, Option, Some, None, List, [], map, Result, Ok, Err, OnOk, OnErr}
use Rattle.std.specs.Option.{option_map}
use Rattle.irtext_graph.specs.Arena.{older}
use Rattle.irtext_graph.specs.declared.arena.Entry.{Entry}
use Rattle.irtext_graph.specs.declared.arena.Ptr.{Ptr}
use Rattle.irtext_graph.specs.declared.object.Operation.{Operation}
use Rattle.irtext_graph.specs.declared.object.BasicBlock.{BasicBlock}
use Rattle.irtext_graph.specs.declared.object.Region.{Region}
use Rattle.irtext_graph.specs.declared.object.Object.{Object}
use Rattle.irtext_graph.specs.declared.object.Object.TheVariants.{TheOperation, TheBlock, TheRegion}
use Rattle.irtext_graph.specs.Store.{get, before}
use Rattle.irtext_graph.specs.Content.{Node, Content, Content.{AnOperation, ABlock, ARegion}, OperationContent, BlockContent, RegionContent}
use Rattle.irtext_graph.specs.Objects.{is_older}
use Rattle.irtext_graph.specs.Graph.{GraphView, parent_of, children_of, content_of, parent, children, content, IsNew, KeepsOlder, GivesOnce, Appends, Unlinks}
use Rattle.irtext_graph.proofs.Nests.{same_or_other, seen, some_eq}
use Rattle.irtext_graph.proofs.Same.{object_tells}
use Rattle.irtext_graph.proofs.Made.{same_keeps}
use Rattle.irtext_graph.proofs.Once.{gives_rest}

pub map_same : {X Y : Type 0} (f : X → Y) → ((a b : X) → f a ≡ f b → a ≡ b) → (xs ys : List X) → map f xs ≡ map f ys → xs ≡ ys
map_same f one [] [] e = refl
map_same f one [] (y ∷ ys) e = absurd (cc)
map_same f one (x ∷ xs) [] e = absurd (cc)
map_same f one (x ∷ xs) (y ∷ ys) e =
    let h : f x ≡ f y = cc in
    let t : map f xs ≡ map f ys = cc in
    rw (one x y h, map_same f one xs ys t) refl

pub option_same : {X Y : Type 0} (f : X → Y) → ((a b : X) → f a ≡ f b → a ≡ b) → (x y : Option X) → option_map f x ≡ option_map f y → x ≡ y
option_same f one None None e = refl
option_same f one None (Some y) e = absurd (cc)
option_same f one (Some x) None e = absurd (cc)
option_same f one (Some x) (Some y) e = let h : f x ≡ f y = cc in ap Some (one x y h)

pair : {X Y : Type 0} {a b : X × Y} → a.0 ≡ b.0 → a.1 ≡ b.1 → a ≡ b
pair {X} {Y} {a} {b} e f = go a.0 b.0 a.1 b.1 e f
  where
    go : (x x' : X) (y y' : Y) → x ≡ x' → y ≡ y' → ◌≡◌ {A = X × Y} (x, y) (x', y')
    go x x' y y' e f = rw (e, f) refl

pub block_same : (a b : Ptr BasicBlock) → TheBlock a ≡ TheBlock b → a ≡ b
block_same a b e = cc

pub region_same : (a b : Ptr Region) → TheRegion a ≡ TheRegion b → a ≡ b
region_same a b e = cc

pub operation_same : (a b : Ptr Operation) → TheOperation a ≡ TheOperation b → a ≡ b
operation_same a b e = cc

module _ {P C E : Type 0} where
  -- an object is determined by its parent, its children and its content
  pub entry_same : (x y : Option (Entry (Node P C E))) → parent_of x ≡ parent_of y → children_of x ≡ children_of y → content_of x ≡ content_of y → x ≡ y
  entry_same None None p c e = refl
  entry_same None (Some y) p c e = absurd (cc)
  entry_same (Some x) None p c e = absurd (cc)
  entry_same (Some x) (Some y) p c e =
      let q = some_eq e in
      let b : x.born ≡ y.born = ap (λ (d : ℕ × E). d.0) q in
      let d : x.content.content ≡ y.content.content = ap (λ (d : ℕ × E). d.1) q in
      go x.born y.born x.content.parent y.content.parent x.content.children y.content.children x.content.content y.content.content b p c d
    where
      go : (b b' : ℕ) (p p' : Option (Ptr P)) (c c' : List (Ptr C)) (d d' : E) → b ≡ b' → p ≡ p' → c ≡ c' → d ≡ d'
          → ◌≡◌ {A = Option (Entry (Node P C E))} (Some (record { born = b; content = record { parent = p; children = c; content = d } })) (Some (record { born = b'; content = record { parent = p'; children = c'; content = d' } }))
      go b b' p p' c c' d d' e f g h = rw (e, f, g, h) refl

  -- an entry is what is seen of its parent, its children and its content
  pub entry_alike : {K L : Type 0} (up : Ptr P → K) → ((p q : Ptr P) → up p ≡ up q → p ≡ q) → (down : Ptr C → L) → ((p q : Ptr C) → down p ≡ down q → p ≡ q) → (x y : Option (Entry (Node P C E)))
      → option_map up (parent_of x) ≡ option_map up (parent_of y) → map down (children_of x) ≡ map down (children_of y) → content_of x ≡ content_of y → x ≡ y
  entry_alike up same_up down same_down x y p c d = entry_same x y (option_same up same_up (parent_of x) (parent_of y) p) (map_same down same_down (children_of x) (children_of y) c) d

  -- the object is made before the mark or is not there before it
  older_none : (m : ℕ) (x : Option (Entry (Node P C E))) → ((d : ℕ × E) → content_of x ≡ Some d → nat_lt d.0 m ≡ false) → older m x ≡ None
  older_none m None h = refl
  older_none m (Some x) h = ap (λ b. cond b (Some x) None) (h (x.born, x.content.content) refl)

module _ {O B T : Type 0} where
  abbrev pub as_operation : ℕ × OperationContent O T → Content O B T
  as_operation d = AnOperation d.0 d.1

  abbrev pub as_block : ℕ × BlockContent B T → Content O B T
  as_block d = ABlock d.0 d.1

  abbrev pub as_region : ℕ × RegionContent → Content O B T
  as_region d = ARegion d.0 d.1

  pub operation_content_same : (g h : GraphView O B T) (p : Ptr Operation) → content h (TheOperation p) ≡ content g (TheOperation p) → content_of (get h.operations p) ≡ content_of (get g.operations p)
  operation_content_same g h p e = option_same as_operation one (content_of (get h.operations p)) (content_of (get g.operations p)) e
    where
      one : (a b : ℕ × OperationContent O T) → ◌≡◌ {A = Content O B T} (AnOperation a.0 a.1) (AnOperation b.0 b.1) → a ≡ b
      one a b e = let x : a.0 ≡ b.0 = cc in let y : a.1 ≡ b.1 = cc in pair x y

  pub block_content_same : (g h : GraphView O B T) (p : Ptr BasicBlock) → content h (TheBlock p) ≡ content g (TheBlock p) → content_of (get h.blocks p) ≡ content_of (get g.blocks p)
  block_content_same g h p e = option_same as_block one (content_of (get h.blocks p)) (content_of (get g.blocks p)) e
    where
      one : (a b : ℕ × BlockContent B T) → ◌≡◌ {A = Content O B T} (ABlock a.0 a.1) (ABlock b.0 b.1) → a ≡ b
      one a b e = let x : a.0 ≡ b.0 = cc in let y : a.1 ≡ b.1 = cc in pair x y

  pub region_content_same : (g h : GraphView O B T) (p : Ptr Region) → content h (TheRegion p) ≡ content g (TheRegion p) → content_of (get h.regions p) ≡ content_of (get g.regions p)
  region_content_same g h p e = option_same as_region one (content_of (get h.regions p)) (content_of (get g.regions p)) e
    where
      one : (a b : ℕ × RegionContent) → ◌≡◌ {A = Content O B T} (ARegion a.0 a.1) (ARegion b.0 b.1) → a ≡ b
      one a b e = let x : a.0 ≡ b.0 = cc in let y : a.1 ≡ b.1 = cc in pair x y

  -- an object is unchanged, or is no older than the mark
  pub record Framed (m : ℕ) (g h : GraphView O B T) : Type 0 where
    pub contents : (q : Object) → content h q ≡ content g q
    pub same : (q : Object) → (IsNew m g q) ⊎ ((parent h q ≡ parent g q) × (children h q ≡ children g q))

  pub new_operation : (m : ℕ) (g : GraphView O B T) (p : Ptr Operation) → IsNew m g (TheOperation p) → before m g.operations p ≡ None
  new_operation m g p n = older_none m (get g.operations p) (λ d e. let k : is_older m (content g (TheOperation p)) ≡ nat_lt d.0 m = ap (λ c. is_older m (option_map as_operation c)) e in sym k ∙ n)

  pub new_block : (m : ℕ) (g : GraphView O B T) (p : Ptr BasicBlock) → IsNew m g (TheBlock p) → before m g.blocks p ≡ None
  new_block m g p n = older_none m (get g.blocks p) (λ d e. let k : is_older m (content g (TheBlock p)) ≡ nat_lt d.0 m = ap (λ c. is_older m (option_map as_block c)) e in sym k ∙ n)

  new_region : (m : ℕ) (g : GraphView O B T) (p : Ptr Region) → IsNew m g (TheRegion p) → before m g.regions p ≡ None
  new_region m g p n = older_none m (get g.regions p) (λ d e. let k : is_older m (content g (TheRegion p)) ≡ nat_lt d.0 m = ap (λ c. is_older m (option_map as_region c)) e in sym k ∙ n)

  still_new : (m : ℕ) (g h : GraphView O B T) (q : Object) → content h q ≡ content g q → IsNew m g q → IsNew m h q
  still_new m g h q e n = ap (is_older m) e ∙ n

  -- each object is no older than the mark, or as it was
  pub older_or_kept : (m : ℕ) (g h : GraphView O B T)
      → ((q : Object) → (IsNew m g q × IsNew m h q) ⊎ ((parent h q ≡ parent g q) × (children h q ≡ children g q) × (content h q ≡ content g q)))
      → g.made ≤ h.made → g.values ≤ h.values → h.first_place ≡ g.first_place → GivesOnce g h → KeepsOlder m g h
  older_or_kept m g h f made values first pointers = record {
    operations = λ p. elim (f (TheOperation p)) [
      | inl n ↦ new_operation m h p n.1 ∙ sym (new_operation m g p n.0)
      | inr s ↦ ap (older m) (entry_alike TheBlock block_same TheRegion region_same (get h.operations p) (get g.operations p) s.0 s.1 (operation_content_same g h p s.2))
    ];
    blocks = λ p. elim (f (TheBlock p)) [
      | inl n ↦ new_block m h p n.1 ∙ sym (new_block m g p n.0)
      | inr s ↦ ap (older m) (entry_alike TheRegion region_same TheOperation operation_same (get h.blocks p) (get g.blocks p) s.0 s.1 (block_content_same g h p s.2))
    ];
    regions = λ p. elim (f (TheRegion p)) [
      | inl n ↦ new_region m h p n.1 ∙ sym (new_region m g p n.0)
      | inr s ↦ ap (older m) (entry_alike TheOperation operation_same TheBlock block_same (get h.regions p) (get g.regions p) s.0 s.1 (region_content_same g h p s.2))
    ];
    made = made;
    values = values;
    first_place = first;
    pointers = pointers;
  }

  pub framed_keeps : (m : ℕ) (g h : GraphView O B T) → Framed m g h → g.made ≤ h.made → g.values ≤ h.values → h.first_place ≡ g.first_place → GivesOnce g h → KeepsOlder m g h
  framed_keeps m g h f made values first pointers = older_or_kept m g h (λ q. elim (f.same q) [ inl n ↦ inl (n, still_new m g h q (f.contents q) n) | inr s ↦ inr (s.0, s.1, f.contents q) ]) made values first pointers

  pub unlinked-keeps : (m : ℕ) (g h : GraphView O B T) (c : Object) → IsNew m g c → ((k : Object) → parent g c ≡ Some k → IsNew m g k) → Unlinks g h c → KeepsOlder m g h
  unlinked-keeps m g h c nc nk a = framed_keeps m g h (record { contents = a.objects.contents; same = same }) (let e = a.objects.rest.made in omega (arith, e)) (let e = a.objects.rest.values in omega (arith, e)) a.objects.rest.first_place (gives_rest g h a.objects.rest (λ q e. a.objects.contents q ∙ e))
    where
      same : (q : Object) → (IsNew m g q) ⊎ ((parent h q ≡ parent g q) × (children h q ≡ children g q))
      same q = elim (same_or_other object_tells q c) [
        | inl e ↦ inl (ap (λ q. is_older m (content g q)) e ∙ nc)
        | inr apart ↦ elim (seen (parent g c)) [
          | inl none ↦ inr (a.parents q apart, a.others q (λ e. let f = none in cc))
          | inr (k, at) ↦ elim (same_or_other object_tells q k) [
            | inl e ↦ inl (ap (λ q. is_older m (content g q)) e ∙ nk k at)
            | inr away ↦ inr (a.parents q apart, a.others q (λ e. away (some_eq (sym e ∙ at))))
          ]
        ]
      ]
