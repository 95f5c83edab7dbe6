-- What was made since a point is rolled back: what is older is unchanged, and all is sound.
use Rattle.std.proofs.Common.{◌≡◌, ◌<◌, ◌≤◌, ◌∙◌, ◌⊎◌, inl, inr, ℕ, zero, suc, refl, sym, ap, arith, false, Option, Some, None, IsSome, List, [], map, slice_get}
use Rattle.std.specs.Option.{option_map}
use Rattle.std.proofs.lemmas.Bool.{ltb-false, le-ltb}
use Rattle.std.proofs.lemmas.Option.{slice_get-map}
use Rattle.irtext_graph.specs.declared.graph.Counters.{Counters}
use Rattle.irtext_graph.specs.Arena.{get, born_in, AtLeast, HasFew, Sheds}
use Rattle.irtext_graph.specs.Used.{user}
use Rattle.irtext_graph.specs.Back.{ShedsAll, owner, operands_of, successors_of, IsClosedBelow, RollsBack}
use Rattle.irtext_graph.specs.Content.{Content, Content.{AnOperation}, node_of, operation_content, block_content, region_content}
use Rattle.irtext_graph.specs.Graph.{no_counters, GraphView, graph_of, seen, parent, children, content, IsNew}
use Rattle.irtext_graph.specs.Graph as graph
use Rattle.irtext_graph.specs.Log.{age, IsBelow, IsLogged}
use Rattle.irtext_graph.specs.Nest.{parent_in, children_in}
use Rattle.irtext_graph.specs.Nested.{climb}
use Rattle.irtext_graph.specs.Objects.{up, kids, what, born_of, is_older, IsForest, Lives}
use Rattle.irtext_graph.specs.Sound.{IsSound}
use Rattle.irtext_graph.specs.Store as store
use Rattle.irtext_graph.specs.Store.{store_of, object_of}
use Rattle.irtext_graph.specs.Uses.{use_at, head_at, val, operand_in, successor_in, def_of, prev_of, next_of, either, first_of, result_in, argument_in, preds_in, AreUsesLinked}
use Rattle.irtext_graph.specs.declared.arena.Arena.{Arena}
use Rattle.irtext_graph.specs.declared.arena.Entry.{Entry}
use Rattle.irtext_graph.specs.declared.arena.Ptr.{Ptr}
use Rattle.irtext_graph.specs.declared.nest.Nest.{Nest}
use Rattle.irtext_graph.specs.declared.object.BasicBlock.{BasicBlock}
use Rattle.irtext_graph.specs.declared.object.Operation.{Operation}
use Rattle.irtext_graph.specs.declared.object.Region.{Region}
use Rattle.irtext_graph.specs.declared.object.Object.{Object}
use Rattle.irtext_graph.specs.declared.object.Object.TheVariants.{TheOperation, TheBlock, TheRegion}
use Rattle.irtext_graph.specs.declared.object.Value.{Value}
use Rattle.irtext_graph.specs.declared.object.Value.TheVariants.{Result, Argument}
use Rattle.irtext_graph.specs.declared.object.Defined.{Defined}
use Rattle.irtext_graph.specs.declared.object.Defined.TheVariants.{OfValue, OfBlock}
use Rattle.irtext_graph.specs.declared.object.Site.{Site}
use Rattle.irtext_graph.specs.declared.object.Site.TheVariants.{AtOperand, AtSuccessor}
use Rattle.irtext_graph.specs.declared.objects.Objects.{Objects}
use Rattle.irtext_graph.specs.declared.objects.OperationData.{OperationData}
use Rattle.irtext_graph.specs.declared.objects.Use.{Use}
use Rattle.irtext_graph.proofs.Chains.{reframed}
use Rattle.irtext_graph.proofs.Erased.{up_lives}
use Rattle.irtext_graph.proofs.Kept.{datum_there}
use Rattle.irtext_graph.proofs.Linked.{site_tells, defined_tells}
use Rattle.irtext_graph.proofs.Logs.{age_what}
use Rattle.irtext_graph.proofs.Nests.{some_eq, climb-none}
use Rattle.irtext_graph.proofs.Nests as nests
use Rattle.irtext_graph.proofs.Places.{kids_live}
use Rattle.irtext_graph.proofs.Sheds.{shed_all, shed_object, older_shed}
use Rattle.irtext_graph.proofs.Stores.{get_seen, returns_seen}
use Rattle.irtext_graph.proofs.Views.{up_seen, kids_seen, what_seen}
use Rattle.irtext_graph.proofs.Stores.{length_seen, returned-keeps, older_of}
use Rattle.irtext_graph.proofs.Logs.{same_age, logged_cut}
use Rattle.irtext_graph.proofs.Moves.{lower}
use Rattle.std.proofs.lemmas.Option.{cond_some}
use Rattle.irtext_graph.specs.Uses.{eq_site, eq_defined}
use Rattle.std.proofs.Common.{subst, length, take}
use Rattle.irtext_graph.proofs.Once.{gives_back}

-- the object that is used
abbrev pub owner_of : Defined → Object
owner_of (OfValue v) = owner v
owner_of (OfBlock b) = TheBlock b

some_through : {A B C : Type 0} (f : A → B) (g : A → C) (o o' : Option A) → option_map f o ≡ option_map f o' → IsSome (option_map g o') → IsSome (option_map g o)
some_through f g None None e l = l
some_through f g None (Some b) e l = absurd (cc)
some_through f g (Some a) o' e l = refl

unmapped : {A B : Type 0} (f : A → B) (o o' : Option A) → option_map f o ≡ option_map f o' → IsSome o' → IsSome o
unmapped f None None e l = l
unmapped f None (Some b) e l = absurd (cc)
unmapped f (Some a) o' e l = refl

module _ {O T : Type 0} where
  operand_named : (e : Option (Entry (Nest BasicBlock Region (OperationData O T)))) (i : ℕ) → slice_get (operands_of (option_map (object_of (node_of operation_content)) e)) i ≡ option_map (λ o. o.def) (operand_in e i)
  operand_named None i = refl
  operand_named (Some e) i = slice_get-map (λ (o : Use Value). o.def) e.content.data.operands i

  successor_named : (e : Option (Entry (Nest BasicBlock Region (OperationData O T)))) (i : ℕ) → slice_get (successors_of (option_map (object_of (node_of operation_content)) e)) i ≡ option_map (λ o. o.def) (successor_in e i)
  successor_named None i = refl
  successor_named (Some e) i = slice_get-map (λ (o : Use (Ptr BasicBlock)). o.def) e.content.data.successors i

  pub operand_seen : (a : Arena (Nest BasicBlock Region (OperationData O T))) (p : Ptr Operation) (i : ℕ) → slice_get (operands_of (store.get (store_of (node_of operation_content) a) p)) i ≡ option_map (λ o. o.def) (operand_in (get a p) i)
  operand_seen a p i = ap (λ e. slice_get (operands_of e) i) (get_seen (node_of operation_content) a p) ∙ operand_named (get a p) i

  pub successor_seen : (a : Arena (Nest BasicBlock Region (OperationData O T))) (p : Ptr Operation) (i : ℕ) → slice_get (successors_of (store.get (store_of (node_of operation_content) a) p)) i ≡ option_map (λ o. o.def) (successor_in (get a p) i)
  successor_seen a p i = ap (λ e. slice_get (successors_of e) i) (get_seen (node_of operation_content) a p) ∙ successor_named (get a p) i

module _ {X Y : Type 0} (see : X → Y) where
  few_of : (a b : Arena X) → store_of see b ≡ store_of see a → HasFew a → HasFew b
  few_of a b e f =
      let l : length (store_of see b).cells ≡ length (store_of see a).cells = ap (λ s. length s.cells) e in
      let m = length_seen see a.slots.items in
      let n = length_seen see b.slots.items in
      omega (arith, f, l, m, n)

pub op_lives : {O B T : Type 0} (x : Objects O B T) (p : Ptr Operation) → (get x.operations p ≡ None → ⊥) → Lives x (TheOperation p)
op_lives x p n = datum_there (λ d. AnOperation d.0 (operation_content d.1)) (get x.operations p) (go (get x.operations p) n)
  where
    go : {X : Type 0} (e : Option X) → (e ≡ None → ⊥) → IsSome e
    go None n = absurd (n refl)
    go (Some e) n = refl

pub not_some : {X : Type 0} (o : Option X) → o ≡ None → IsSome o → ⊥
not_some None e l = cc
not_some (Some x) e l = cc

ends_fewer : (up up' : Object → Option Object) → ((o k : Object) → up' o ≡ Some k → up o ≡ Some k) → (n : ℕ) (o : Object) → climb up n (Some o) ≡ None → climb up' n (Some o) ≡ None
ends_fewer up up' step zero o e = absurd (cc)
ends_fewer up up' step (suc n) o e = elim (nests.seen (up' o)) [
  | inl none ↦ ap (climb up' n) none ∙ climb-none up' n
  | inr (k, f) ↦ ap (climb up' n) f ∙ ends_fewer up up' step n k (ap (climb up n) (sym (step o k f)) ∙ e)
]

sides : {P C D K : Type 0} (mark : ℕ) (f : Ptr P → Object) (h : Ptr C → Object) (a b : Arena (Nest P C D)) (p : Ptr K) → Sheds mark a b → (AtLeast mark (born_in (get b p)) → ⊥)
    → ((option_map f (parent_in (get b p)) ≡ option_map f (parent_in (get a p))) × (map h (children_in (get b p)) ≡ map h (children_in (get a p))) × (AtLeast mark (born_in (get a p)) → ⊥))
    ⊎ ((option_map f (parent_in (get b p)) ≡ None) × (map h (children_in (get b p)) ≡ []) × AtLeast mark (born_in (get a p)))
sides mark f h a b p s n = elim (s.at p.index p.generation) [
  | inl e ↦ inl (ap (λ x. option_map f (parent_in x)) e, ap (λ x. map h (children_in x)) e, λ l. n (subst (λ x. AtLeast mark (born_in x)) (sym e) l))
  | inr g ↦ inr (ap (λ x. option_map f (parent_in x)) g.0, ap (λ x. map h (children_in x)) g.0, g.1)
]

module _ {O B T : Type 0} where
  -- a use is in the same place in arenas that are seen to be the same
  pub use_there : (x y : Objects O B T) → seen y ≡ seen x → (u : Site) → IsSome (use_at x u) → IsSome (use_at y u)
  use_there x y e (AtOperand p i) l =
      some_through (λ o. o.def) (either OfValue) (operand_in (get y.operations p) i) (operand_in (get x.operations p) i)
      (sym (operand_seen y.operations p i) ∙ ap (λ (g : GraphView O B T). slice_get (operands_of (store.get g.operations p)) i) e ∙ operand_seen x.operations p i) l
  use_there x y e (AtSuccessor p i) l =
      some_through (λ o. o.def) (either OfBlock) (successor_in (get y.operations p) i) (successor_in (get x.operations p) i)
      (sym (successor_seen y.operations p i) ∙ ap (λ (g : GraphView O B T). slice_get (successors_of (store.get g.operations p)) i) e ∙ successor_seen x.operations p i) l

  pub seen_there : (x y : Objects O B T) → seen y ≡ seen x → (p : Ptr Operation) → IsSome (get x.operations p) → IsSome (get y.operations p)
  seen_there x y e p l =
      unmapped (object_of (node_of operation_content)) (get y.operations p) (get x.operations p)
      (sym (get_seen (node_of operation_content) y.operations p) ∙ ap (λ (g : GraphView O B T). store.get g.operations p) e ∙ get_seen (node_of operation_content) x.operations p) l

  pub seen_what : (x y : Objects O B T) → seen y ≡ seen x → (o : Object) → what y o ≡ what x o
  seen_what x y e o = sym (what_seen 0 no_counters y o) ∙ ap (λ (g : GraphView O B T). content g o) e ∙ what_seen 0 no_counters x o

  -- an object that is no older than the mark is new, and conversely
  pub is_new : (made : ℕ) (values : Counters) (mark : ℕ) (x : Objects O B T) (o : Object) → AtLeast mark (age x o) → IsNew mark (graph_of made values x) o
  is_new made values mark x o l = ap (is_older mark) (what_seen made values x o) ∙ go (what x o) (subst (AtLeast mark) (age_what x o) l)
    where
      go : (c : Option (Content O B T)) → AtLeast mark (option_map born_of c) → is_older mark c ≡ false
      go None l = absurd l
      go (Some c) l = le-ltb (born_of c) mark l

  pub new_is : (made : ℕ) (values : Counters) (mark : ℕ) (x : Objects O B T) (o : Object) → Lives x o → IsNew mark (graph_of made values x) o → AtLeast mark (age x o)
  new_is made values mark x o l n = subst (AtLeast mark) (sym (age_what x o)) (go (what x o) l (ap (is_older mark) (sym (what_seen made values x o)) ∙ n))
    where
      go : (c : Option (Content O B T)) → IsSome c → is_older mark c ≡ false → AtLeast mark (option_map born_of c)
      go None l e = absurd (cc)
      go (Some c) l e = ltb-false (born_of c) mark e

  -- what uses something new is new
  pub uses_closed : (made : ℕ) (values : Counters) (mark : ℕ) (x : Objects O B T) → IsClosedBelow mark (graph_of made values x) → (u : Site) (d : Defined) → val x u ≡ Some d
      → IsNew mark (graph_of made values x) (owner_of d) → IsNew mark (graph_of made values x) (TheOperation (user u))
  uses_closed made values mark x c (AtOperand p i) d e n = go (operand_in (get x.operations p) i) refl e
    where
      go : (o : Option (Use Value)) → operand_in (get x.operations p) i ≡ o → def_of (option_map (either OfValue) o) ≡ Some d → IsNew mark (graph_of made values x) (TheOperation p)
      go None f g = absurd (cc)
      go (Some o) f g =
          let k = cond_some o.links.linked (OfValue o.def) d g in
          c.operands p i o.def (operand_seen x.operations p i ∙ ap (option_map (λ (o : Use Value). o.def)) f) (subst (λ d. IsNew mark (graph_of made values x) (owner_of d)) (sym k.1) n)
  uses_closed made values mark x c (AtSuccessor p i) d e n = go (successor_in (get x.operations p) i) refl e
    where
      go : (o : Option (Use (Ptr BasicBlock))) → successor_in (get x.operations p) i ≡ o → def_of (option_map (either OfBlock) o) ≡ Some d → IsNew mark (graph_of made values x) (TheOperation p)
      go None f g = absurd (cc)
      go (Some o) f g =
          let k = cond_some o.links.linked (OfBlock o.def) d g in
          c.successors p i o.def (successor_seen x.operations p i ∙ ap (option_map (λ (o : Use (Ptr BasicBlock)). o.def)) f) (subst (λ d. IsNew mark (graph_of made values x) (owner_of d)) (sym k.1) n)

  -- x as it was, d without the uses of what is new, y without what is new
  pub record Backs (made : ℕ) (values : Counters) (mark : ℕ) (x d y : Objects O B T) : Type 0 where
    pub sound : IsSound made x
    pub same : seen d ≡ seen x
    pub linked : AreUsesLinked d
    pub gone : (u : Site) → AtLeast mark (age x (TheOperation (user u))) → val d u ≡ None
    pub kept : (u : Site) → (AtLeast mark (age x (TheOperation (user u))) → ⊥) → val d u ≡ val x u
    pub sheds : ShedsAll mark d y
    pub none : (o : Object) → AtLeast mark (age y o) → ⊥
    pub closed : IsClosedBelow mark (graph_of made values x)

  module _ (made : ℕ) (values : Counters) (mark : ℕ) (x d y : Objects O B T) (r : Backs made values mark x d y) where
    abbrev young : Object → Type 0
    young o = AtLeast mark (age d o)

    d_age : (o : Object) → age d o ≡ age x o
    d_age o = same_age x d o (seen_what x d r.same o)

    same_up : (o : Object) → up d o ≡ up x o
    same_up o = sym (up_seen 0 no_counters d o) ∙ ap (λ (g : GraphView O B T). parent g o) r.same ∙ up_seen 0 no_counters x o

    same_kids : (o : Object) → kids d o ≡ kids x o
    same_kids o = sym (kids_seen 0 no_counters d o) ∙ ap (λ (g : GraphView O B T). children g o) r.same ∙ kids_seen 0 no_counters x o

    new_of : (o : Object) → young o → IsNew mark (graph_of made values x) o
    new_of o l = is_new made values mark x o (subst (AtLeast mark) (d_age o) l)

    young_of : (o : Object) → Lives x o → IsNew mark (graph_of made values x) o → young o
    young_of o l n = subst (AtLeast mark) (sym (d_age o)) (new_is made values mark x o l n)

    c_up : (o k : Object) → up x o ≡ Some k → young k → young o
    c_up o k e l = young_of o (up_lives x o k e) (r.closed.parents o k (up_seen made values x o ∙ e) (new_of k l))

    c_kids : (o c : Object) (i : ℕ) → slice_get (kids x o) i ≡ Some c → young c → young o
    c_kids o c i e l = young_of o (kids_live x o i c e) (r.closed.children o c i (ap (λ cs. slice_get cs i) (kids_seen made values x o) ∙ e) (new_of c l))

    left : (o : Object) → ((up y o ≡ up x o) × (kids y o ≡ kids x o) × (young o → ⊥)) ⊎ ((up y o ≡ None) × (kids y o ≡ []) × young o)
    left o = elim (go o) [
      | inl a ↦ inl (a.0 ∙ same_up o, a.1 ∙ same_kids o, a.2)
      | inr a ↦ inr a
    ]
      where
        go : (o : Object) → ((up y o ≡ up d o) × (kids y o ≡ kids d o) × (young o → ⊥)) ⊎ ((up y o ≡ None) × (kids y o ≡ []) × young o)
        go (TheOperation p) = sides mark TheBlock TheRegion d.operations y.operations p r.sheds.operations (r.none (TheOperation p))
        go (TheBlock p) = sides mark TheRegion TheOperation d.blocks y.blocks p r.sheds.blocks (r.none (TheBlock p))
        go (TheRegion p) = sides mark TheOperation TheBlock d.regions y.regions p r.sheds.regions (r.none (TheRegion p))

    step : (o k : Object) → up y o ≡ Some k → up x o ≡ Some k
    step o k e = elim (left o) [ inl a ↦ sym a.0 ∙ e | inr a ↦ absurd (let n = a.0 in cc) ]

    pub forest_left : IsForest y
    forest_left = record {
      down = λ k i c e. elim (left k) [
        | inl a ↦
            let f : slice_get (kids x k) i ≡ Some c = ap (λ cs. slice_get cs i) (sym a.1) ∙ e in
            elim (left c) [ inl b ↦ b.0 ∙ r.sound.forest.down k i c f | inr b ↦ absurd (a.2 (c_kids k c i f b.2)) ]
        | inr a ↦ absurd (let n : slice_get (kids y k) i ≡ None = ap (λ cs. slice_get cs i) a.1 in cc)
      ];
      listed = λ c k e. elim (left c) [
        | inl b ↦
            let f : up x c ≡ Some k = sym b.0 ∙ e in
            elim (left k) [
              | inl a ↦ let l = r.sound.forest.listed c k f in (l.0, ap (λ cs. slice_get cs l.0) a.1 ∙ l.1)
              | inr a ↦ absurd (b.2 (c_up c k f a.2))
            ]
        | inr b ↦ absurd (let n = b.0 in cc)
      ];
      once = λ k i j c e f. elim (left k) [
        | inl a ↦ r.sound.forest.once k i j c (ap (λ cs. slice_get cs i) (sym a.1) ∙ e) (ap (λ cs. slice_get cs j) (sym a.1) ∙ f)
        | inr a ↦ absurd (let n : slice_get (kids y k) i ≡ None = ap (λ cs. slice_get cs i) a.1 in cc)
      ];
      ends = λ o. let n = r.sound.forest.ends o in (n.0, ends_fewer (up x) (up y) step n.0 o n.1);
    }

    use_left : (u : Site) → ((use_at y u ≡ use_at d u) × (young (TheOperation (user u)) → ⊥)) ⊎ ((use_at y u ≡ None) × young (TheOperation (user u)))
    use_left (AtOperand p i) = elim (r.sheds.operations.at p.index p.generation) [
      | inl e ↦ inl (ap (λ s. option_map (either OfValue) (operand_in s i)) e, λ l. r.none (TheOperation p) (subst (λ s. AtLeast mark (born_in s)) (sym e) l))
      | inr g ↦ inr (ap (λ s. option_map (either OfValue) (operand_in s i)) g.0, g.1)
    ]
    use_left (AtSuccessor p i) = elim (r.sheds.operations.at p.index p.generation) [
      | inl e ↦ inl (ap (λ s. option_map (either OfBlock) (successor_in s i)) e, λ l. r.none (TheOperation p) (subst (λ s. AtLeast mark (born_in s)) (sym e) l))
      | inr g ↦ inr (ap (λ s. option_map (either OfBlock) (successor_in s i)) g.0, g.1)
    ]

    none_of : (u : Site) → young (TheOperation (user u)) → val d u ≡ None
    none_of u l = r.gone u (subst (AtLeast mark) (d_age (TheOperation (user u))) l)

    was_of : (u : Site) → (young (TheOperation (user u)) → ⊥) → val d u ≡ val x u
    was_of u n = r.kept u (λ l. n (subst (AtLeast mark) (sym (d_age (TheOperation (user u)))) l))

    use_lives : (u : Site) (e : Defined) → val x u ≡ Some e → Lives x (TheOperation (user u))
    use_lives (AtOperand p i) e f = op_lives x p (λ n. let k : val x (AtOperand p i) ≡ None = ap (λ s. def_of (option_map (either OfValue) (operand_in s i))) n in cc)
    use_lives (AtSuccessor p i) e f = op_lives x p (λ n. let k : val x (AtSuccessor p i) ≡ None = ap (λ s. def_of (option_map (either OfBlock) (successor_in s i))) n in cc)

    unused : (e : Defined) → young (owner_of e) → (u : Site) → val d u ≡ Some e → ⊥
    unused e l u used =
        let old : young (TheOperation (user u)) → ⊥ = λ m. let n = none_of u m in cc in
        let before : val x u ≡ Some e = sym (was_of u old) ∙ used in
        old (young_of (TheOperation (user u)) (use_lives u e before) (uses_closed made values mark x r.closed u e before (new_of (owner_of e) l)))

    heads_left : (e : Defined) → (head_at y e ≡ head_at d e) ⊎ (((u : Site) → val d u ≡ Some e → ⊥) × ((u : Site) → head_at y e ≡ Some (Some u) → ⊥))
    heads_left (OfValue (Result p i)) = elim (r.sheds.operations.at p.index p.generation) [
      | inl e ↦ inl (ap (λ s. first_of (result_in s i)) e)
      | inr g ↦ inr (unused (OfValue (Result p i)) g.1, λ u f. let n : head_at y (OfValue (Result p i)) ≡ None = ap (λ s. first_of (result_in s i)) g.0 in cc)
    ]
    heads_left (OfValue (Argument p i)) = elim (r.sheds.blocks.at p.index p.generation) [
      | inl e ↦ inl (ap (λ s. first_of (argument_in s i)) e)
      | inr g ↦ inr (unused (OfValue (Argument p i)) g.1, λ u f. let n : head_at y (OfValue (Argument p i)) ≡ None = ap (λ s. first_of (argument_in s i)) g.0 in cc)
    ]
    heads_left (OfBlock p) = elim (r.sheds.blocks.at p.index p.generation) [
      | inl e ↦ inl (ap preds_in e)
      | inr g ↦ inr (unused (OfBlock p) g.1, λ u f. let n : head_at y (OfBlock p) ≡ None = ap preds_in g.0 in cc)
    ]

    val_left : (u : Site) → val y u ≡ val d u
    val_left u = elim (use_left u) [ inl e ↦ ap def_of e.0 | inr g ↦ ap def_of g.0 ∙ sym (none_of u g.1) ]

    uses_left : AreUsesLinked y
    uses_left = reframed eq_site site_tells eq_defined defined_tells r.linked (record {
      vals = val_left;
      prevs = λ u e used. elim (use_left u) [ inl s ↦ ap prev_of s.0 | inr g ↦ absurd (let n = none_of u g.1 in cc) ];
      nexts = λ u e used. elim (use_left u) [ inl s ↦ ap next_of s.0 | inr g ↦ absurd (let n = none_of u g.1 in cc) ];
      same_heads = heads_left;
    })

    used_left : (u : Site) → IsSome (use_at y u) → IsSome (val y u)
    used_left u l = elim (use_left u) [
      | inl s ↦ subst IsSome (sym (val_left u ∙ was_of u s.1)) (r.sound.all_used u (use_there d x (sym r.same) u (subst IsSome s.0 l)))
      | inr g ↦ absurd (not_some (use_at y u) g.0 l)
    ]

    -- what is left is sound
    pub sound_left : IsSound made y
    sound_left = record {
      forest = forest_left;
      uses = uses_left;
      all_used = used_left;
      few_operations = r.sheds.operations.few (few_of (node_of operation_content) x.operations d.operations (ap (λ (g : GraphView O B T). g.operations) r.same) r.sound.few_operations);
      few_blocks = r.sheds.blocks.few (few_of (node_of block_content) x.blocks d.blocks (ap (λ (g : GraphView O B T). g.blocks) r.same) r.sound.few_blocks);
      few_regions = r.sheds.regions.few (few_of (node_of region_content) x.regions d.regions (ap (λ (g : GraphView O B T). g.regions) r.same) r.sound.few_regions);
      older_operations = older_shed made mark d.operations y.operations (older_of (node_of operation_content) made x.operations d.operations (ap (λ (g : GraphView O B T). g.operations) r.same) r.sound.older_operations) r.sheds.operations;
      older_blocks = older_shed made mark d.blocks y.blocks (older_of (node_of block_content) made x.blocks d.blocks (ap (λ (g : GraphView O B T). g.blocks) r.same) r.sound.older_blocks) r.sheds.blocks;
      older_regions = older_shed made mark d.regions y.regions (older_of (node_of region_content) made x.regions d.regions (ap (λ (g : GraphView O B T). g.regions) r.same) r.sound.older_regions) r.sheds.regions;
    }

    -- what is seen of it
    pub back_seen : RollsBack mark (graph_of made values x) (graph_of made values y)
    back_seen = record {
      operations = subst (λ s. store.Returns Operation mark s (graph_of made values y).operations) (ap (λ (g : GraphView O B T). g.operations) r.same)
          (returns_seen (node_of operation_content) mark d.operations y.operations (shed_all mark d.operations y.operations r.sheds.operations (λ p. r.none (TheOperation p))) r.sheds.operations.generations);
      blocks = subst (λ s. store.Returns BasicBlock mark s (graph_of made values y).blocks) (ap (λ (g : GraphView O B T). g.blocks) r.same)
          (returns_seen (node_of block_content) mark d.blocks y.blocks (shed_all mark d.blocks y.blocks r.sheds.blocks (λ p. r.none (TheBlock p))) r.sheds.blocks.generations);
      regions = subst (λ s. store.Returns Region mark s (graph_of made values y).regions) (ap (λ (g : GraphView O B T). g.regions) r.same)
          (returns_seen (node_of region_content) mark d.regions y.regions (shed_all mark d.regions y.regions r.sheds.regions (λ p. r.none (TheRegion p))) r.sheds.regions.generations);
      made = refl;
      values = refl;
      first_place = refl;
    }

    was_age : (o : Object) (b : ℕ) → age y o ≡ Some b → age d o ≡ Some b
    was_age (TheOperation p) b e = elim (r.sheds.operations.at p.index p.generation) [ inl s ↦ ap born_in (sym s) ∙ e | inr g ↦ absurd (let n : age y (TheOperation p) ≡ None = ap born_in g.0 in cc) ]
    was_age (TheBlock p) b e = elim (r.sheds.blocks.at p.index p.generation) [ inl s ↦ ap born_in (sym s) ∙ e | inr g ↦ absurd (let n : age y (TheBlock p) ≡ None = ap born_in g.0 in cc) ]
    was_age (TheRegion p) b e = elim (r.sheds.regions.at p.index p.generation) [ inl s ↦ ap born_in (sym s) ∙ e | inr g ↦ absurd (let n : age y (TheRegion p) ≡ None = ap born_in g.0 in cc) ]

    -- the list of what was made, cut at what is new
    pub logged_left : (n : ℕ) (log : List Object) → IsLogged made log x → ((k : ℕ) (o : Object) → n ≤ k → slice_get log k ≡ Some o → IsBelow mark (age x o) → ⊥) → IsLogged made (take n log) y
    logged_left n log i since = logged_cut made n mark log x y i since (λ o b e.
        (sym (d_age o) ∙ was_age o b e, elim (lower b mark) [ inl l ↦ l | inr h ↦ absurd (r.none o (subst (AtLeast mark) (sym e) h)) ]))

-- what is older than an earlier mark is unchanged
pub back_keeps : {O B T : Type 0} (m mark : ℕ) (g h : GraphView O B T) → m ≤ mark → RollsBack mark g h → graph.KeepsOlder m g h
back_keeps m mark g h up r = record {
  operations = returned-keeps m mark g.operations h.operations up r.operations;
  blocks = returned-keeps m mark g.blocks h.blocks up r.blocks;
  regions = returned-keeps m mark g.regions h.regions up r.regions;
  made = let e = r.made in omega (arith, e);
  values = let e = r.values in omega (arith, e);
  first_place = r.first_place;
  pointers = gives_back mark g h r;
}

module _ {O B T : Type 0} where
  -- what a roll-back leaves
  pub record GivenBack (made : ℕ) (values : Counters) (mark : ℕ) (log : List Object) (x y : Objects O B T) : Type 0 where
    pub sound : IsSound made y
    pub logged : IsLogged made log y
    pub view : RollsBack mark (graph_of made values x) (graph_of made values y)

  -- the steps of a roll-back, put together
  pub given_back : (made : ℕ) (values : Counters) (mark n : ℕ) (log : List Object) (x d y : Objects O B T) → IsSound made x → IsLogged made log x → IsClosedBelow mark (graph_of made values x)
      → ((o : Object) → AtLeast mark (age x o) → (k : ℕ) × (n ≤ k) × (slice_get log k ≡ Some o)) → ((k : ℕ) (o : Object) → n ≤ k → slice_get log k ≡ Some o → IsBelow mark (age x o) → ⊥) → seen d ≡ seen x → AreUsesLinked d
      → ((k : ℕ) (o : Object) (u : Site) → n ≤ k → slice_get log k ≡ Some o → o ≡ TheOperation (user u) → AtLeast mark (age x o) → val d u ≡ None)
      → ((u : Site) → (AtLeast mark (age x (TheOperation (user u))) → ⊥) → val d u ≡ val x u) → ShedsAll mark d y
      → ((k : ℕ) (o : Object) → n ≤ k → slice_get log k ≡ Some o → AtLeast mark (age y o) → ⊥) → GivenBack made values mark (take n log) x y
  given_back made values mark n log x d y s i closed all since same linked gone kept sheds out =
      record {
        sound = sound_left made values mark x d y r;
        logged = logged_left made values mark x d y r n log i since;
        view = back_seen made values mark x d y r;
      }
    where
      r : Backs made values mark x d y
      r = record {
        sound = s;
        same = same;
        linked = linked;
        gone = λ u l. let f = all (TheOperation (user u)) l in gone f.0 (TheOperation (user u)) u f.1 f.2 refl l;
        kept = kept;
        sheds = sheds;
        none = λ o l.
            let was : AtLeast mark (age x o) = subst (AtLeast mark) (same_age x d o (seen_what x d same o)) (shed_object mark d y sheds o l) in
            let f = all o was in
            out f.0 o f.1 f.2 l;
        closed = closed;
      }
