-- No pointer is given twice: what each change of a store or of a graph leaves of that.
use Rattle.std.proofs.Common.{◌≡◌, ◌∙◌, inl, inr, ℕ, refl, sym, ap, subst, arith, Option, Some, None, slice_get}
use Rattle.std.specs.Option.{option_map}
use Rattle.std.proofs.lemmas.Option.{slice_get-map}
use Rattle.irtext_graph.specs.declared.arena.Entry.{Entry}
use Rattle.irtext_graph.specs.declared.arena.Ptr.{Ptr}
use Rattle.irtext_graph.specs.declared.object.Object.{Object}
use Rattle.irtext_graph.specs.declared.object.Object.TheVariants.{TheOperation, TheBlock, TheRegion}
use Rattle.irtext_graph.specs.Arena.{older}
use Rattle.irtext_graph.specs.Content.{Node, Content.{AnOperation, ABlock, ARegion}}
use Rattle.irtext_graph.specs.Store.{Cell, Store, object_of, mapped, get, drawn, generation_at, GivenOnce, Inserts, Edits, Returns}
use Rattle.irtext_graph.specs.Graph.{GraphView, content, content_of, KeepsRest, GivesOnce}
use Rattle.irtext_graph.specs.Back.{RollsBack}
use Rattle.irtext_graph.specs.Used.{without_uses, without_uses_in}
use Rattle.irtext_graph.proofs.Pointers.{equal_or_not, ptr_or}
use Rattle.irtext_graph.proofs.Stores.{get_mapped}

module _ {X K : Type 0} where
  pub once_itself : (s : Store X) → GivenOnce K s s
  once_itself s = record { rises = λ i. omega arith; gone = λ p given e. e }

  pub once_same : (s t : Store X) → t ≡ s → GivenOnce K s t
  once_same s t e = subst (GivenOnce K s) (sym e) (once_itself s)

  pub once_on : (s t u : Store X) → GivenOnce K s t → GivenOnce K t u → GivenOnce K s u
  once_on s t u a b = record {
    rises = λ i. let k = a.rises i in let l = b.rises i in omega (arith, k, l);
    gone = λ p given e. b.gone p (let k = a.rises p.index in omega (arith, k, given)) (a.gone p given e);
  }

  -- the slots have the generations that they had, and what is gone is gone
  pub once_where : (s t : Store X) → ((i : ℕ) → generation_at t i ≡ generation_at s i) → ((p : Ptr K) → get s p ≡ None → get t p ≡ None) → GivenOnce K s t
  once_where s t same gone = record { rises = λ i. let k = same i in omega (arith, k); gone = λ p given e. gone p e }

  pub once_inserted : (s t : Store X) (p : Ptr K) (x : Entry X) → Inserts s t p x → GivenOnce K s t
  once_inserted s t p x i = record {
    rises = λ n. elim (equal_or_not n p.index) [
      | inl here ↦ let k : generation_at t n ≡ p.generation = ap (generation_at t) here ∙ i.drawn_here in let l = i.next in let m : generation_at s n ≡ generation_at s p.index = ap (generation_at s) here in omega (arith, k, l, m)
      | inr away ↦ let k = i.drawn_elsewhere n away in omega (arith, k)
    ];
    gone = λ q given e. elim (ptr_or q p) [
      | inl here ↦ absurd (let l = i.next in let g : q.generation ≡ p.generation = ap (λ (r : Ptr K). r.generation) here in let m : generation_at s q.index ≡ generation_at s p.index = ap (λ (r : Ptr K). generation_at s r.index) here in omega (arith, given, l, g, m))
      | inr away ↦ i.updates.others q away ∙ e
    ];
  }

  pub once_edited : (s t : Store X) (p : Ptr K) (change : X → X) → Edits s t p change → GivenOnce K s t
  once_edited s t p change e = once_where s t e.generations (λ q none. elim (ptr_or q p) [
    | inl here ↦ ap (get t) here ∙ e.updates.changed ∙ ap (option_map (object_of change)) (sym (ap (get s) here) ∙ none)
    | inr away ↦ e.updates.others q away ∙ none
  ])

  pub once_returned : (mark : ℕ) (s t : Store X) → Returns K mark s t → GivenOnce K s t
  once_returned mark s t r = once_where s t r.generations (λ p none. r.at p ∙ ap (older mark) none)

-- the last generation of a slot in a store with other contents
drawn_mapped : {X Y : Type 0} (f : X → Y) (s : Store X) (i : ℕ) → generation_at (mapped f s) i ≡ generation_at s i
drawn_mapped {X} f s i = ap drawn (slice_get-map (λ (c : Cell X). record { generation = c.generation; object = option_map (object_of f) c.object }) s.cells i) ∙ go (slice_get s.cells i)
  where
    go : (c : Option (Cell X)) → drawn (option_map (λ c. record { generation = c.generation; object = option_map (object_of f) c.object }) c) ≡ drawn c
    go None = refl
    go (Some c) = refl

-- stores that are the same with other contents
pub once_mapped : {X Y K : Type 0} (f : X → Y) (s t : Store X) → mapped f t ≡ mapped f s → GivenOnce K s t
once_mapped {X} {Y} {K} f s t e = once_where s t (λ i. sym (drawn_mapped f t i) ∙ ap (λ u. generation_at u i) e ∙ drawn_mapped f s i)
    (λ p none. none_seen (get t p) (sym (get_mapped f t p) ∙ ap (λ u. get u p) e ∙ get_mapped f s p ∙ ap (option_map (object_of f)) none))
  where
    none_seen : (o : Option (Entry X)) → option_map (object_of f) o ≡ None → o ≡ None
    none_seen None e = refl
    none_seen (Some x) e = absurd (cc)

module _ {P C E V : Type 0} (f : ℕ × E → V) where
  -- there is no object where there is no content
  none_there : (o : Option (Entry (Node P C E))) → option_map f (content_of o) ≡ None → o ≡ None
  none_there None e = refl
  none_there (Some x) e = absurd (cc)

module _ {O B T : Type 0} where
  pub gives_itself : (g : GraphView O B T) → GivesOnce g g
  gives_itself g = record { operations = once_itself g.operations; blocks = once_itself g.blocks; regions = once_itself g.regions }

  pub gives_same : (g h : GraphView O B T) → h ≡ g → GivesOnce g h
  gives_same g h e = subst (GivesOnce g) (sym e) (gives_itself g)

  pub gives_on : (g h k : GraphView O B T) → GivesOnce g h → GivesOnce h k → GivesOnce g k
  gives_on g h k a b = record {
    operations = once_on g.operations h.operations k.operations a.operations b.operations;
    blocks = once_on g.blocks h.blocks k.blocks a.blocks b.blocks;
    regions = once_on g.regions h.regions k.regions a.regions b.regions;
  }

  -- the slots have the generations that they had, and no object came
  pub gives_where : (g h : GraphView O B T) → ((i : ℕ) → generation_at h.operations i ≡ generation_at g.operations i) → ((i : ℕ) → generation_at h.blocks i ≡ generation_at g.blocks i)
      → ((i : ℕ) → generation_at h.regions i ≡ generation_at g.regions i) → ((q : Object) → content g q ≡ None → content h q ≡ None) → GivesOnce g h
  gives_where g h operations blocks regions gone = record {
    operations = once_where g.operations h.operations operations (λ p none. none_there _ (get h.operations p) (gone (TheOperation p) (ap (λ s. option_map (λ d. AnOperation d.0 d.1) (content_of s)) none)));
    blocks = once_where g.blocks h.blocks blocks (λ p none. none_there _ (get h.blocks p) (gone (TheBlock p) (ap (λ s. option_map (λ d. ABlock d.0 d.1) (content_of s)) none)));
    regions = once_where g.regions h.regions regions (λ p none. none_there _ (get h.regions p) (gone (TheRegion p) (ap (λ s. option_map (λ d. ARegion d.0 d.1) (content_of s)) none)));
  }

  pub gives_rest : (g h : GraphView O B T) → KeepsRest g h → ((q : Object) → content g q ≡ None → content h q ≡ None) → GivesOnce g h
  gives_rest g h r gone = gives_where g h r.operation_places.generations r.block_places.generations r.region_places.generations gone

  pub gives_back : (mark : ℕ) (g h : GraphView O B T) → RollsBack mark g h → GivesOnce g h
  gives_back mark g h r = record {
    operations = once_returned mark g.operations h.operations r.operations;
    blocks = once_returned mark g.blocks h.blocks r.blocks;
    regions = once_returned mark g.regions h.regions r.regions;
  }

  pub gives_replaced : (g h : GraphView O B T) → without_uses h ≡ without_uses g → GivesOnce g h
  gives_replaced g h e = record {
    operations = once_mapped without_uses_in g.operations h.operations (ap (λ (k : GraphView O B T). k.operations) e);
    blocks = once_same g.blocks h.blocks (ap (λ (k : GraphView O B T). k.blocks) e);
    regions = once_same g.regions h.regions (ap (λ (k : GraphView O B T). k.regions) e);
  }
