-- What is always true of the objects stays true where only what is used changed.
use Rattle.std.proofs.Common.{◌≡◌, ◌∙◌, ℕ, refl, sym, ap, arith, Bool, true, false, cond, Option, Some, None, List, [], ◌∷◌, suc, slice_get, map}
use Rattle.std.specs.Option.{option_map}
use Rattle.irtext_graph.specs.declared.graph.Counters.{Counters}
use Rattle.irtext_graph.specs.Arena as arena
use Rattle.irtext_graph.specs.declared.arena.Entry.{Entry}
use Rattle.irtext_graph.specs.declared.arena.Ptr.{Ptr}
use Rattle.irtext_graph.specs.declared.object.Operation.{Operation}
use Rattle.irtext_graph.specs.declared.object.BasicBlock.{BasicBlock}
use Rattle.irtext_graph.specs.declared.object.Region.{Region}
use Rattle.irtext_graph.specs.declared.object.Value.{Value}
use Rattle.irtext_graph.specs.declared.object.Object.{Object}
use Rattle.irtext_graph.specs.declared.object.Object.TheVariants.{TheOperation, TheBlock, TheRegion}
use Rattle.irtext_graph.specs.declared.object.Defined.{Defined}
use Rattle.irtext_graph.specs.declared.object.Defined.TheVariants.{OfValue, OfBlock}
use Rattle.irtext_graph.specs.declared.object.Site.{Site}
use Rattle.irtext_graph.specs.declared.object.Site.TheVariants.{AtOperand, AtSuccessor}
use Rattle.irtext_graph.specs.declared.objects.Objects.{Objects}
use Rattle.irtext_graph.specs.Content.{Typed, Node, node_of, OperationContent, operation_content, block_content, region_content, Content.{AnOperation}}
use Rattle.irtext_graph.specs.Graph.{no_counters, GraphView, graph_of, seen, parent, children, content, parent_of, children_of, content_of, KeepsOlder}
use Rattle.irtext_graph.specs.Objects.{up, kids, is_older, eq_object}
use Rattle.irtext_graph.specs.Parts.{operands_of, successors_of, operands, successors}
use Rattle.irtext_graph.specs.Sound.{IsSound}
use Rattle.irtext_graph.specs.Store.{store_of, object_of, get, before}
use Rattle.irtext_graph.specs.Used.{without_uses, without_uses_in, bare, used_at, user, replaced, Replaces, IsUnusedBelow}
use Rattle.irtext_graph.specs.Uses.{val, eq_defined, AreUsesLinked, AreAllUsed}
use Rattle.irtext_graph.proofs.Frames.{option_same, new_operation}
use Rattle.irtext_graph.proofs.Linked.{defined_tells}
use Rattle.irtext_graph.proofs.Nests.{renested, some_eq}
use Rattle.irtext_graph.proofs.Redirected.{replaced_kept}
use Rattle.irtext_graph.proofs.Same.{object_tells}
use Rattle.irtext_graph.proofs.Stores.{get_mapped, mapped_seen, seen_mapped}
use Rattle.irtext_graph.proofs.SameSeen.{few_seen, older_seen}
use Rattle.irtext_graph.proofs.UsesSeen.{val_seen}
use Rattle.irtext_graph.proofs.Views.{up_seen, kids_seen}
use Rattle.irtext_graph.proofs.Once.{gives_replaced}

itself : (d e x : Defined) → d ≡ e → replaced d e x ≡ x
itself d e x same = go (eq_defined x d) refl
  where
    go : (t : Bool) → eq_defined x d ≡ t → cond t e x ≡ x
    go true s = sym (defined_tells.sound x d s ∙ same)
    go false s = refl

module _ {O B T : Type 0} where
  pub parent_bare : (g : GraphView O B T) (q : Object) → parent (without_uses g) q ≡ parent g q
  parent_bare g (TheOperation p) = ap (λ s. option_map TheBlock (parent_of s)) (get_mapped without_uses_in g.operations p) ∙ seen_mapped (object_of without_uses_in) (λ s. option_map TheBlock (parent_of s)) (λ s. option_map TheBlock (parent_of s)) refl (λ e. refl) (get g.operations p)
  parent_bare g (TheBlock p) = refl
  parent_bare g (TheRegion p) = refl

  children_bare : (g : GraphView O B T) (q : Object) → children (without_uses g) q ≡ children g q
  children_bare g (TheOperation p) = ap (λ s. map TheRegion (children_of s)) (get_mapped without_uses_in g.operations p) ∙ seen_mapped (object_of without_uses_in) (λ s. map TheRegion (children_of s)) (λ s. map TheRegion (children_of s)) refl (λ e. refl) (get g.operations p)
  children_bare g (TheBlock p) = refl
  children_bare g (TheRegion p) = refl

  module _ (x y : Objects O B T) (same : bare y ≡ bare x) where
    up_same : (q : Object) → up y q ≡ up x q
    up_same q = sym (up_seen 0 no_counters y q) ∙ sym (parent_bare (seen y) q) ∙ ap (λ g. parent g q) same ∙ parent_bare (seen x) q ∙ up_seen 0 no_counters x q

    kids_same : (q : Object) → kids y q ≡ kids x q
    kids_same q = sym (kids_seen 0 no_counters y q) ∙ sym (children_bare (seen y) q) ∙ ap (λ g. children g q) same ∙ children_bare (seen x) q ∙ kids_seen 0 no_counters x q

    operations_same : store_of (λ n. without_uses_in (node_of operation_content n)) y.operations ≡ store_of (λ n. without_uses_in (node_of operation_content n)) x.operations
    operations_same = sym (mapped_seen (node_of operation_content) without_uses_in y.operations) ∙ ap (λ (g : GraphView O B T). g.operations) same ∙ mapped_seen (node_of operation_content) without_uses_in x.operations

    pub sound_bare : (made : ℕ) → IsSound made x → AreUsesLinked y → AreAllUsed y → IsSound made y
    sound_bare made s linked all =
        let blocks_same = ap (λ (g : GraphView O B T). g.blocks) same in
        let regions_same = ap (λ (g : GraphView O B T). g.regions) same in
        record {
          forest = renested eq_object object_tells s.forest kids_same up_same;
          uses = linked;
          all_used = all;
          few_operations = few_seen _ x.operations y.operations operations_same s.few_operations;
          few_blocks = few_seen (node_of block_content) x.blocks y.blocks blocks_same s.few_blocks;
          few_regions = few_seen (node_of region_content) x.regions y.regions regions_same s.few_regions;
          older_operations = older_seen _ x.operations y.operations operations_same made s.older_operations;
          older_blocks = older_seen (node_of block_content) x.blocks y.blocks blocks_same made s.older_blocks;
          older_regions = older_seen (node_of region_content) x.regions y.regions regions_same made s.older_regions;
        }

    pub replaces_seen : (made : ℕ) (v : Counters) (d e : Defined) → IsSound made x → AreAllUsed y → ((u : Site) → val y u ≡ option_map (replaced d e) (val x u)) → Replaces (graph_of made v x) (graph_of made v y) d e
    replaces_seen made v d e s all vals = record {
      uses = λ u. sym (val_seen made v y all u) ∙ vals u ∙ ap (option_map (replaced d e)) (val_seen made v x s.all_used u);
      rest = ap (λ (g : GraphView O B T). record g { made = made; values = v.values; first_place = v.first_place }) same;
    }

  -- one in its own place changes nothing
  pub replaces_self : (g : GraphView O B T) (d e : Defined) → d ≡ e → Replaces g g d e
  replaces_self g d e same = record { uses = λ u. sym (go (used_at g u)); rest = refl }
    where
      go : (o : Option Defined) → option_map (replaced d e) o ≡ o
      go None = refl
      go (Some x) = ap Some (itself d e x same)

-- an operation with the same children and uses is unchanged
entry_alike : {O T : Type 0} (a b : Option (Entry (Node BasicBlock Region (OperationContent O T)))) → option_map (object_of without_uses_in) b ≡ option_map (object_of without_uses_in) a
    → operands_of (option_map (λ e. e.content.content) b) ≡ operands_of (option_map (λ e. e.content.content) a) → successors_of (option_map (λ e. e.content.content) b) ≡ successors_of (option_map (λ e. e.content.content) a) → b ≡ a
entry_alike None None r os ss = refl
entry_alike None (Some y) r os ss = absurd (cc)
entry_alike (Some x) None r os ss = absurd (cc)
entry_alike {O} {T} (Some x) (Some y) r os ss =
    let e = some_eq r in
    go y.born x.born y.content.parent x.content.parent y.content.children x.content.children y.content.content.data_of x.content.content.data_of
    y.content.content.operands x.content.content.operands y.content.content.successors x.content.content.successors y.content.content.results x.content.content.results
    (ap (λ e. e.born) e) (ap (λ e. e.content.parent) e) (ap (λ e. e.content.children) e) (ap (λ e. e.content.content.data_of) e) os ss (ap (λ e. e.content.content.results) e)
  where
    go : (b b' : ℕ) (p p' : Option (Ptr BasicBlock)) (c c' : List (Ptr Region)) (d d' : O) (o o' : List Value) (s s' : List (Ptr BasicBlock)) (t t' : List (Typed T))
        → b ≡ b' → p ≡ p' → c ≡ c' → d ≡ d' → o ≡ o' → s ≡ s' → t ≡ t'
        → ◌≡◌ {A = Option (Entry (Node BasicBlock Region (OperationContent O T)))}
        (Some (record { born = b; content = record { parent = p; children = c; content = record { data_of = d; operands = o; successors = s; results = t } } }))
        (Some (record { born = b'; content = record { parent = p'; children = c'; content = record { data_of = d'; operands = o'; successors = s'; results = t' } } }))
    go b b' p p' c c' d d' o o' s s' t t' e f g h i j k = rw (e, f, g, h, i, j, k) refl

-- lists with the same items
same_items : {X : Type 0} (xs ys : List X) → ((i : ℕ) → slice_get xs i ≡ slice_get ys i) → xs ≡ ys
same_items [] [] e = refl
same_items [] (y ∷ ys) e = let k = e 0 in absurd (cc)
same_items (x ∷ xs) [] e = let k = e 0 in absurd (cc)
same_items (x ∷ xs) (y ∷ ys) e = let h : x ≡ y = some_eq (e 0) in ap (λ z. z ∷ xs) h ∙ ap (λ zs. y ∷ zs) (same_items xs ys (λ i. e (suc i)))

module _ {O B T : Type 0} where
  age_bare : (m : ℕ) (g : GraphView O B T) (p : Ptr Operation) → is_older m (content (without_uses g) (TheOperation p)) ≡ is_older m (content g (TheOperation p))
  age_bare m g p = ap (λ s. is_older {O = O} {B = B} {T = T} m (option_map (λ d. AnOperation d.0 d.1) (content_of s))) (get_mapped without_uses_in g.operations p) ∙ go (get g.operations p)
    where
      go : (s : Option (Entry (Node BasicBlock Region (OperationContent O T)))) → is_older {O = O} {B = B} {T = T} m (option_map (λ d. AnOperation d.0 d.1) (content_of (option_map (object_of without_uses_in) s))) ≡ is_older {O = O} {B = B} {T = T} m (option_map (λ d. AnOperation d.0 d.1) (content_of s))
      go None = refl
      go (Some e) = refl

  -- what is older and uses what it used is unchanged
  pub bare_keeps : (m : ℕ) (g h : GraphView O B T) → without_uses h ≡ without_uses g → ((u : Site) → is_older m (content g (TheOperation (user u))) ≡ true → used_at h u ≡ used_at g u) → KeepsOlder m g h
  bare_keeps m g h rest kept = record {
    operations = λ p. cases p (is_older m (content g (TheOperation p))) refl;
    blocks = λ p. ap (λ (k : GraphView O B T). before m k.blocks p) rest;
    regions = λ p. ap (λ (k : GraphView O B T). before m k.regions p) rest;
    made = let k = ap (λ (k : GraphView O B T). k.made) rest in omega (arith, k);
    values = let k = ap (λ (k : GraphView O B T). k.values) rest in omega (arith, k);
    first_place = ap (λ (k : GraphView O B T). k.first_place) rest;
    pointers = gives_replaced g h rest;
  }
    where
      cases : (p : Ptr Operation) (t : Bool) → is_older m (content g (TheOperation p)) ≡ t → before m h.operations p ≡ before m g.operations p
      cases p false n = new_operation m h p (sym (age_bare m h p) ∙ ap (λ k. is_older m (content k (TheOperation p))) rest ∙ age_bare m g p ∙ n) ∙ sym (new_operation m g p n)
      cases p true old = ap (arena.older m) (entry_alike (get g.operations p) (get h.operations p)
          (sym (get_mapped without_uses_in h.operations p) ∙ ap (λ (k : GraphView O B T). get k.operations p) rest ∙ get_mapped without_uses_in g.operations p)
          (same_items (operands h p) (operands g p) (λ i. option_same OfValue (λ a b e. cc) (slice_get (operands h p) i) (slice_get (operands g p) i) (kept (AtOperand p i) old)))
          (same_items (successors h p) (successors g p) (λ i. option_same OfBlock (λ a b e. cc) (slice_get (successors h p) i) (slice_get (successors g p) i) (kept (AtSuccessor p i) old))))

  -- what is older and does not use d is unchanged
  pub replaces_keeps : (m : ℕ) (g h : GraphView O B T) (d e : Defined) → Replaces g h d e → IsUnusedBelow m g d → KeepsOlder m g h
  replaces_keeps m g h d e r unused = bare_keeps m g h r.rest (λ u old. r.uses u ∙ replaced_kept d e (used_at g u) (λ is. let n = unused u is in absurd (cc)))
