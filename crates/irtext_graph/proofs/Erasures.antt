-- What is seen of a graph whose uses were dropped, and of one in which an object went; both are sound.
use Rattle.std.proofs.Common.{◌≡◌, ◌≢◌, ◌∙◌, ◌⊎◌, ℕ, refl, sym, ap, arith, inl, inr, subst, Bool, true, false, cond, Option, Some, None, IsSome, slice_get, option_map}
use Rattle.std.specs.List.{remove}
use Rattle.irtext_graph.specs.declared.graph.Counters.{Counters}
use Rattle.irtext_graph.specs.declared.object.Object.{Object}
use Rattle.irtext_graph.specs.declared.object.Object.TheVariants.{TheOperation, TheBlock, TheRegion}
use Rattle.irtext_graph.specs.declared.object.Defined.{Defined}
use Rattle.irtext_graph.specs.declared.object.Site.{Site}
use Rattle.irtext_graph.specs.declared.object.Site.TheVariants.{AtOperand, AtSuccessor}
use Rattle.irtext_graph.specs.declared.objects.Objects.{Objects}
use Rattle.irtext_graph.specs.declared.objects.Use.{Use}
use Rattle.irtext_graph.specs.declared.arena.Entry.{Entry}
use Rattle.irtext_graph.specs.declared.nest.Nest.{Nest}
use Rattle.irtext_graph.specs.declared.object.Operation.{Operation}
use Rattle.irtext_graph.specs.declared.object.BasicBlock.{BasicBlock}
use Rattle.irtext_graph.specs.declared.object.Region.{Region}
use Rattle.irtext_graph.specs.declared.object.Value.TheVariants.{Result, Argument}
use Rattle.irtext_graph.specs.declared.object.Defined.TheVariants.{OfValue, OfBlock}
use Rattle.irtext_graph.specs.declared.objects.OperationData.{OperationData}
use Rattle.irtext_graph.specs.declared.objects.BlockData.{BlockData}
use Rattle.irtext_graph.specs.Arena as arena
use Rattle.irtext_graph.specs.Nest.{datum_in}
use Rattle.irtext_graph.specs.Nested.{Within}
use Rattle.irtext_graph.specs.Content.{Content, Content.{AnOperation, ABlock, ARegion}, operation_content, block_content, region_content}
use Rattle.irtext_graph.specs.Graph.{GraphView, graph_of, parent, children, content, IsInside, IsNew, KeepsOlder}
use Rattle.irtext_graph.specs.Objects.{up, kids, what, Lives, IsForest, SameAt, SameDatum, SamePlaces, Sheds, IsGone, is_older, eq_object}
use Rattle.irtext_graph.specs.Uses.{use_at, val, head_at, first_of, result_in, argument_in, preds_in, def_of, prev_of, next_of, AreUsesLinked, eq_site, eq_defined}
use Rattle.irtext_graph.specs.Sound.{IsSound}
use Rattle.irtext_graph.specs.Erasing.{user, owner, named_at, without_uses, DropsUses, CanErase, Erases, IsAllUsedInside}
use Rattle.irtext_graph.proofs.Nests.{same_or_other, some_eq, seen as none_or}
use Rattle.irtext_graph.proofs.Same.{object_tells}
use Rattle.irtext_graph.proofs.Linked.{site_tells, defined_tells}
use Rattle.irtext_graph.proofs.Chains.{reframed}
use Rattle.irtext_graph.proofs.Inside.{within_or}
use Rattle.irtext_graph.proofs.Stores.{generation_seen}
use Rattle.irtext_graph.specs.Content.{node_of}
use Rattle.irtext_graph.proofs.Views.{up_seen, kids_seen, what_seen, within_at, within_seen, rest_seen}
use Rattle.irtext_graph.proofs.Sounds.{use_same, head_same}
use Rattle.irtext_graph.proofs.Frames.{older_or_kept}
use Rattle.irtext_graph.proofs.Dropped.{named_what}
use Rattle.irtext_graph.proofs.Dropping.{way_same}
use Rattle.irtext_graph.proofs.Once.{gives_rest, gives_where}

module _ {O B T : Type 0} where
  pub drops_seen : (m : ℕ) (v : Counters) (x y : Objects O B T) (o : Object) → ((q : Object) → Within (up x) o q → what y q ≡ option_map without_uses (what x q)) → ((q : Object) → (Within (up x) o q → ⊥) → what y q ≡ what x q)
      → ((q : Object) → up y q ≡ up x q) → ((q : Object) → kids y q ≡ kids x q) → SamePlaces x y → DropsUses (graph_of m v x) (graph_of m v y) o
  drops_seen m v x y o inside others ups lists p = record {
    inside = λ q w. what_seen m v y q ∙ inside q (within_at m v x o q w) ∙ ap (option_map without_uses) (sym (what_seen m v x q));
    others = λ q out. what_seen m v y q ∙ others q (λ w. out (within_seen m v x o q w)) ∙ sym (what_seen m v x q);
    parents = λ q. up_seen m v y q ∙ ups q ∙ sym (up_seen m v x q);
    lists = λ q. kids_seen m v y q ∙ lists q ∙ sym (kids_seen m v x q);
    rest = rest_seen m v x y p;
  }

  as_old : (m : ℕ) (k : Option (Content O B T)) → is_older m (option_map without_uses k) ≡ is_older m k
  as_old m None = refl
  as_old m (Some (AnOperation b c)) = refl
  as_old m (Some (ABlock b c)) = refl
  as_old m (Some (ARegion b c)) = refl

  pub dropped-keeps : (m : ℕ) (g h : GraphView O B T) (o : Object) → DropsUses g h o → ((q : Object) → (IsInside g o q) ⊎ (IsInside g o q → ⊥))
      → ((p : _) → IsInside g o (TheOperation p) → IsNew m g (TheOperation p)) → KeepsOlder m g h
  dropped-keeps m g h o d known new = older_or_kept m g h (λ q. at q (known q)) (let e = d.rest.made in omega (arith, e)) (let e = d.rest.values in omega (arith, e)) d.rest.first_place
      (gives_rest g h d.rest (λ q e. elim (known q) [ inl w ↦ d.inside q w ∙ ap (option_map without_uses) e | inr out ↦ d.others q out ∙ e ]))
    where
      same : (q : Object) → content h q ≡ content g q → (IsNew m g q × IsNew m h q) ⊎ ((parent h q ≡ parent g q) × (children h q ≡ children g q) × (content h q ≡ content g q))
      same q e = inr (d.parents q, d.lists q, e)

      block_idle : {X : Type 0} (f : X → Content O B T) → ((x : X) → without_uses (f x) ≡ f x) → (k : Option X) → option_map without_uses (option_map f k) ≡ option_map f k
      block_idle f e None = refl
      block_idle f e (Some x) = ap Some (e x)

      at : (q : Object) → (IsInside g o q) ⊎ (IsInside g o q → ⊥) → (IsNew m g q × IsNew m h q) ⊎ ((parent h q ≡ parent g q) × (children h q ≡ children g q) × (content h q ≡ content g q))
      at q (inr out) = same q (d.others q out)
      at (TheOperation p) (inl w) = let n = new p w in inl (n, ap (is_older m) (d.inside (TheOperation p) w) ∙ as_old m (content g (TheOperation p)) ∙ n)
      at (TheBlock p) (inl w) = same (TheBlock p) (d.inside (TheBlock p) w ∙ block_idle (λ e. ABlock e.0 e.1) (λ e. refl) _)
      at (TheRegion p) (inl w) = same (TheRegion p) (d.inside (TheRegion p) w ∙ block_idle (λ e. ARegion e.0 e.1) (λ e. refl) _)

  -- being inside is decided
  pub inside_known : (m : ℕ) (v : Counters) (x : Objects O B T) (o q : Object) → IsForest x → (IsInside (graph_of m v x) o q) ⊎ (IsInside (graph_of m v x) o q → ⊥)
  inside_known m v x o q s = elim (within_or eq_object object_tells (up x) s.ends o q) [
    | inl w ↦ inl (within_seen m v x o q w)
    | inr out ↦ inr (λ w. out (within_at m v x o q w))
  ]

  -- an object that uses nothing names nothing
  names_none : (k : Option (Content O B T)) (u : Site) → named_at (option_map without_uses k) u ≡ None
  names_none None u = refl
  names_none (Some (AnOperation b c)) (AtOperand p i) = refl
  names_none (Some (AnOperation b c)) (AtSuccessor p i) = refl
  names_none (Some (ABlock b c)) u = refl
  names_none (Some (ARegion b c)) u = refl

  unnamed : (x : Objects O B T) (u : Site) → named_at (what x (user u)) u ≡ None → use_at x u ≡ None
  unnamed x u e = go (use_at x u) (sym (named_what x u) ∙ e)
    where
      go : (s : Option (Use Defined)) → option_map (λ o. o.def) s ≡ None → s ≡ None
      go None e = refl
      go (Some s) e = absurd (cc)

  -- what is used is named
  named : (x : Objects O B T) (u : Site) (d : Defined) → val x u ≡ Some d → named_at (what x (user u)) u ≡ Some d
  named x u d e = named_what x u ∙ go (use_at x u) e
    where
      go : (s : Option (Use Defined)) → def_of s ≡ Some d → option_map (λ o. o.def) s ≡ Some d
      go None e = absurd (cc)
      go (Some s) e = on s.links.linked e
        where
          on : (b : Bool) → cond b (Some s.def) None ≡ Some d → Some s.def ≡ Some d
          on true e = e
          on false e = absurd (cc)

  -- a value or a block of an erased object is not there
  headless : (x : Objects O B T) (d : Defined) → what x (owner d) ≡ None → head_at x d ≡ None
  headless x (OfValue (Result p i)) e = on (arena.get x.operations p) e
    where
      on : (s : Option (Entry (Nest BasicBlock Region (OperationData O T)))) → ◌≡◌ {A = Option (Content O B T)} (option_map (λ d. AnOperation d.0 (operation_content d.1)) (datum_in s)) None → first_of (result_in s i) ≡ None
      on None e = refl
      on (Some s) e = absurd (cc)
  headless x (OfValue (Argument b i)) e = on (arena.get x.blocks b) e
    where
      on : (s : Option (Entry (Nest Region Operation (BlockData B T)))) → ◌≡◌ {A = Option (Content O B T)} (option_map (λ d. ABlock d.0 (block_content d.1)) (datum_in s)) None → first_of (argument_in s i) ≡ None
      on None e = refl
      on (Some s) e = absurd (cc)
  headless x (OfBlock b) e = on (arena.get x.blocks b) e
    where
      on : (s : Option (Entry (Nest Region Operation (BlockData B T)))) → ◌≡◌ {A = Option (Content O B T)} (option_map (λ d. ABlock d.0 (block_content d.1)) (datum_in s)) None → preds_in s ≡ None
      on None e = refl
      on (Some s) e = absurd (cc)

  -- y is x where nothing inside o uses anything, and z is y without o
  module _ (made m : ℕ) (v : Counters) (x y z : Objects O B T) (o : Object) (s : IsSound made x) (can : CanErase (graph_of m v x) o)
      (inside : (q : Object) → Within (up x) o q → what y q ≡ option_map without_uses (what x q)) (others : (q : Object) → (Within (up x) o q → ⊥) → what y q ≡ what x q)
      (ups : (q : Object) → up y q ≡ up x q) (lists : (q : Object) → kids y q ≡ kids x q)
      (places : SamePlaces x y) (linked : AreUsesLinked y) (used : (u : Site) → IsSome (use_at y u) → IsSome (val y u))
      (forest : IsForest z) (gone : (q : Object) → Within (up y) o q → IsGone z q) (kept : (q : Object) → (Within (up y) o q → ⊥) → up y o ≢ Some q → SameAt y z q)
      (parent_kept : (k : Object) → up y o ≡ Some k → up z k ≡ up y k) (whats : (q : Object) → (Within (up y) o q → ⊥) → what z q ≡ what y q)
      (datums : (q : Object) → (Within (up y) o q → ⊥) → SameDatum y z q) (sheds : Sheds y z)
      (closed : (k : Object) (i : ℕ) → up y o ≡ Some k → slice_get (kids y k) i ≡ Some o → kids z k ≡ remove (kids y k) i) where
    down : (q : Object) → Within (up x) o q → Within (up y) o q
    down q w = way_same x y o q ups w

    back : (q : Object) → Within (up y) o q → Within (up x) o q
    back q w = way_same y x o q (λ r. sym (ups r)) w

    known : (q : Object) → (Within (up y) o q) ⊎ (Within (up y) o q → ⊥)
    known q = elim (within_or eq_object object_tells (up x) s.forest.ends o q) [ inl w ↦ inl (down q w) | inr out ↦ inr (λ w. out (back q w)) ]

    -- no use inside o is left
    no_use : (u : Site) → Within (up y) o (user u) → use_at y u ≡ None
    no_use u w = unnamed y u (ap (λ k. named_at k u) (inside (user u) (back (user u) w)) ∙ names_none (what x (user u)) u)

    z_use : (u : Site) → use_at z u ≡ use_at y u
    z_use u = elim (known (user u)) [
      | inl w ↦ unnamed z u (ap (λ k. named_at k u) (gone (user u) w).gone_what) ∙ sym (no_use u w)
      | inr out ↦ use_same y z u (datums (user u) out)
    ]

    -- no use of what is inside o is left
    unused_inside : (d : Defined) → Within (up y) o (owner d) → (u : Site) → val y u ≡ Some d → ⊥
    unused_inside d w u e = elim (known (user u)) [
      | inl i ↦ let n : val y u ≡ None = ap def_of (no_use u i) in cc
      | inr out ↦
          let away = λ (i : Within (up x) o (user u)). out (down (user u) i) in
          let f : named_at (content (graph_of m v x) (user u)) u ≡ Some d = ap (λ k. named_at k u) (what_seen m v x (user u) ∙ sym (others (user u) away)) ∙ named y u d e in
          away (within_at m v x o (user u) (can u d f (within_seen m v x o (owner d) (back (owner d) w))))
    ]

    z_linked : AreUsesLinked z
    z_linked = reframed eq_site site_tells eq_defined defined_tells linked (record {
      vals = λ u. ap def_of (z_use u);
      prevs = λ u d e. ap prev_of (z_use u);
      nexts = λ u d e. ap next_of (z_use u);
      same_heads = λ d. elim (known (owner d)) [
        | inr out ↦ inl (head_same y z d (datums (owner d) out))
        | inl w ↦ inr (unused_inside d w, λ u e. let n = headless z d (gone (owner d) w).gone_what in cc)
      ];
    })

    pub sound_erased : IsSound made z
    sound_erased =
        let p = places in
        record {
          forest = forest;
          uses = z_linked;
          all_used = λ u l. rw (ap def_of (z_use u)) (used u (rw (z_use u) at l));
          few_operations = let n = p.operation_places.len in let k = sheds.operation_places.len in let m = s.few_operations in omega (arith, n, k, m);
          few_blocks = let n = p.block_places.len in let k = sheds.block_places.len in let m = s.few_blocks in omega (arith, n, k, m);
          few_regions = let n = p.region_places.len in let k = sheds.region_places.len in let m = s.few_regions in omega (arith, n, k, m);
          older_operations = sheds.operation_places.age made (p.operation_places.age made s.older_operations);
          older_blocks = sheds.block_places.age made (p.block_places.age made s.older_blocks);
          older_regions = sheds.region_places.age made (p.region_places.age made s.older_regions);
        }

    out_of : (q : Object) → (IsInside (graph_of m v x) o q → ⊥) → Within (up y) o q → ⊥
    out_of q out w = out (within_seen m v x o q (back q w))

    up_z : (q : Object) → (Within (up y) o q → ⊥) → up z q ≡ up y q
    up_z q out = elim (none_or (up y o)) [
      | inl none ↦ (kept q out (λ e. let f = none in cc)).same_up
      | inr (k, e) ↦ elim (same_or_other object_tells q k) [
        | inl same ↦ parent_kept q (e ∙ ap Some (sym same))
        | inr ne ↦ (kept q out (λ f. ne (some_eq (sym f ∙ e)))).same_up
      ]
    ]

    pub erases_seen : Erases (graph_of m v x) (graph_of m v z) o
    erases_seen = record {
      gone = λ q w. what_seen m v z q ∙ (gone q (down q (within_at m v x o q w))).gone_what;
      contents = λ q out.
          what_seen m v z q ∙ whats q (out_of q out) ∙ others q (λ w. out (within_seen m v x o q w)) ∙ sym (what_seen m v x q);
      parents = λ q out. up_seen m v z q ∙ up_z q (out_of q out) ∙ ups q ∙ sym (up_seen m v x q);
      left = λ k i e f.
          kids_seen m v z k ∙ closed k i (ups o ∙ sym (up_seen m v x o) ∙ e) (ap (λ cs. slice_get cs i) (lists k ∙ sym (kids_seen m v x k)) ∙ f) ∙ ap (λ cs. remove cs i) (lists k ∙ sym (kids_seen m v x k));
      others = λ q out ne.
          kids_seen m v z q ∙ (kept q (out_of q out) (λ e. ne (up_seen m v x o ∙ sym (ups o) ∙ e))).same_kids ∙ lists q ∙ sym (kids_seen m v x q);
      operation_generations = λ i. generation_seen (node_of operation_content) z.operations i ∙ sheds.operation_places.generations i ∙ places.operation_places.generations i ∙ sym (generation_seen (node_of operation_content) x.operations i);
      block_generations = λ i. generation_seen (node_of block_content) z.blocks i ∙ sheds.block_places.generations i ∙ places.block_places.generations i ∙ sym (generation_seen (node_of block_content) x.blocks i);
      region_generations = λ i. generation_seen (node_of region_content) z.regions i ∙ sheds.region_places.generations i ∙ places.region_places.generations i ∙ sym (generation_seen (node_of region_content) x.regions i);
      made = refl;
      values = refl;
      first_place = refl;
    }

  pub erased-keeps : (m : ℕ) (g h : GraphView O B T) (o : Object) → Erases g h o → ((q : Object) → (IsInside g o q) ⊎ (IsInside g o q → ⊥))
      → ((q : Object) → IsInside g o q → IsNew m g q) → ((k : Object) → parent g o ≡ Some k → IsNew m g k) → KeepsOlder m g h
  erased-keeps m g h o d known new above = older_or_kept m g h (λ q. at q (known q)) (let e = d.made in omega (arith, e)) (let e = d.values in omega (arith, e)) d.first_place
      (gives_where g h d.operation_generations d.block_generations d.region_generations (λ q e. elim (known q) [ inl w ↦ d.gone q w | inr out ↦ d.contents q out ∙ e ]))
    where
      at : (q : Object) → (IsInside g o q) ⊎ (IsInside g o q → ⊥) → (IsNew m g q × IsNew m h q) ⊎ ((parent h q ≡ parent g q) × (children h q ≡ children g q) × (content h q ≡ content g q))
      at q (inl w) = inl (new q w, ap (is_older m) (d.gone q w))
      at q (inr out) = elim (none_or (parent g o)) [
        | inl none ↦ inr (d.parents q out, d.others q out (λ e. let f = none in cc), d.contents q out)
        | inr (k, e) ↦ elim (same_or_other object_tells q k) [
          | inl same ↦ let n : IsNew m g q = above q (e ∙ ap Some (sym same)) in inl (n, ap (is_older m) (d.contents q out) ∙ n)
          | inr ne ↦ inr (d.parents q out, d.others q out (λ f. ne (some_eq (sym f ∙ e))), d.contents q out)
        ]
      ]

  pub still_lives : (x y : Objects O B T) (o : Object) → what y o ≡ option_map without_uses (what x o) → Lives x o → Lives y o
  still_lives x y o e l = go (what x o) e l
    where
      go : (k : Option (Content O B T)) → what y o ≡ option_map without_uses k → IsSome k → Lives y o
      go None e l = absurd (cc)
      go (Some k) e l = rw e refl

  -- what is named at a place of use is in its use list
  linked_there : (x : Objects O B T) (u : Site) (d : Defined) → (IsSome (use_at x u) → IsSome (val x u)) → named_at (what x (user u)) u ≡ Some d → val x u ≡ Some d
  linked_there x u d used e = go (use_at x u) used (sym (named_what x u) ∙ e)
    where
      go : (s : Option (Use Defined)) → (IsSome s → IsSome (def_of s)) → option_map (λ o. o.def) s ≡ Some d → def_of s ≡ Some d
      go None l e = absurd (cc)
      go (Some s) l e = on s.links.linked (l refl) e
        where
          on : (b : Bool) → IsSome (cond b (Some s.def) None) → Some s.def ≡ Some d → cond b (Some s.def) None ≡ Some d
          on true l e = e
          on false l e = absurd (cc)

  pub can_seen : {made : ℕ} (m : ℕ) (v : Counters) (x : Objects O B T) (o : Object) → IsSound made x → ((q : Object) → Within (up x) o q → IsAllUsedInside x o q) → CanErase (graph_of m v x) o
  can_seen m v x o s all = λ u d e w.
      let k : named_at (what x (user u)) u ≡ Some d = ap (λ k. named_at k u) (sym (what_seen m v x (user u))) ∙ e in
      within_seen m v x o (user u) (((all (owner d) (within_at m v x o (owner d) w)).all d refl).uses u (linked_there x u d (s.all_used u) k))

  pub can_at : (m : ℕ) (v : Counters) (x : Objects O B T) (o : Object) → CanErase (graph_of m v x) o → (q : Object) → Within (up x) o q → IsAllUsedInside x o q
  can_at m v x o can q w = record {
    all = λ d e. record {
      uses = λ u f.
          within_at m v x o (user u) (can u d (ap (λ k. named_at k u) (what_seen m v x (user u)) ∙ named x u d f) (within_seen m v x o (owner d) (subst (Within (up x) o) (sym e) w)));
    };
  }
