-- What the view says of uses is what the arenas hold.
use Rattle.std.proofs.Common.{◌≡◌, ◌∙◌, ℕ, refl, sym, ap, subst, inl, inr, arith, Option, Some, None, List, slice_get, IsSome}
use Rattle.std.specs.Option.{option_map}
use Rattle.std.proofs.lemmas.Option.{slice_get-map}
use Rattle.irtext_graph.specs.declared.graph.Counters.{Counters}
use Rattle.irtext_graph.specs.Arena as arena
use Rattle.irtext_graph.specs.declared.arena.Entry.{Entry}
use Rattle.irtext_graph.specs.declared.arena.Ptr.{Ptr}
use Rattle.irtext_graph.specs.declared.nest.Nest.{Nest}
use Rattle.irtext_graph.specs.declared.object.Operation.{Operation}
use Rattle.irtext_graph.specs.declared.object.BasicBlock.{BasicBlock}
use Rattle.irtext_graph.specs.declared.object.Region.{Region}
use Rattle.irtext_graph.specs.declared.object.Object.TheVariants.{TheBlock}
use Rattle.irtext_graph.specs.declared.object.Value.TheVariants.{Result, Argument}
use Rattle.irtext_graph.specs.declared.object.Defined.{Defined}
use Rattle.irtext_graph.specs.declared.object.Defined.TheVariants.{OfValue, OfBlock}
use Rattle.irtext_graph.specs.declared.object.Site.{Site}
use Rattle.irtext_graph.specs.declared.object.Site.TheVariants.{AtOperand, AtSuccessor}
use Rattle.irtext_graph.specs.declared.objects.Objects.{Objects}
use Rattle.irtext_graph.specs.declared.objects.OperationData.{OperationData}
use Rattle.irtext_graph.specs.declared.objects.BlockData.{BlockData}
use Rattle.irtext_graph.specs.declared.objects.Definition.{Definition}
use Rattle.irtext_graph.specs.declared.objects.Use.{Use}
use Rattle.irtext_graph.specs.Content.{Node, OperationContent, Content.{ABlock}, operation_content, block_content}
use Rattle.irtext_graph.specs.Store.{get, object_of}
use Rattle.irtext_graph.proofs.Stores.{get_mapped}
use Rattle.irtext_graph.specs.Graph.{no_counters, GraphView, graph_of, seen as all_seen}
use Rattle.irtext_graph.specs.Uses.{operand_in, successor_in, preds_in, first_of, use_at, head_at, val, def_of, either, AreAllUsed}
use Rattle.irtext_graph.specs.Parts.{operands_of, successors_of, results, results_of}
use Rattle.irtext_graph.specs.Used.{used_at, IsUse, IsDefined, without_uses, without_uses_in, bare}
use Rattle.irtext_graph.specs.Chained.{Lists}
use Rattle.irtext_graph.specs.Sound.{IsSound}
use Rattle.irtext_graph.proofs.Chains.{none_left}
use Rattle.irtext_graph.proofs.Listed.{lists_alike}
use Rattle.irtext_graph.proofs.Kept.{datum_there}
use Rattle.irtext_graph.proofs.Linked.{used_def}
use Rattle.irtext_graph.proofs.Nests.{seen}
use Rattle.irtext_graph.proofs.PartsSeen.{seen_of, value_there, value_is_defined, block_there}
use Rattle.irtext_graph.proofs.Views.{lives_seen}

-- what a use names, whichever kind of use it is
named : {D : Type 0} (f : D → Defined) (o : Option (Use D)) → option_map f (option_map (λ u. u.def) o) ≡ option_map (λ u. u.def) (option_map (either f) o)
named f None = refl
named f (Some u) = refl

first_there : {T : Type 0} (o : Option (Definition T)) → IsSome o → IsSome (first_of o)
first_there None h = absurd (cc)
first_there (Some d) h = refl

first_back : {T : Type 0} (o : Option (Definition T)) → IsSome (first_of o) → IsSome o
first_back None h = absurd (cc)
first_back (Some d) h = refl

preds_there : {B T : Type 0} (e : Option (Entry (Nest Region Operation (BlockData B T)))) → IsSome e → IsSome (preds_in e)
preds_there None h = absurd (cc)
preds_there (Some e) h = refl

preds_back : {B T : Type 0} (e : Option (Entry (Nest Region Operation (BlockData B T)))) → IsSome (preds_in e) → IsSome e
preds_back None h = absurd (cc)
preds_back (Some e) h = refl

module _ {O B T : Type 0} (m : ℕ) (v : Counters) (x : Objects O B T) where
  -- what an operand or a successor names
  pub used_seen : (u : Site) → used_at (graph_of m v x) u ≡ option_map (λ o. o.def) (use_at x u)
  used_seen (AtOperand p i) = ap (λ c. option_map OfValue (slice_get (operands_of c) i)) (seen_of operation_content x.operations p) ∙ go (arena.get x.operations p)
    where
      go : (s : Option (Entry (Nest BasicBlock Region (OperationData O T)))) → option_map OfValue (slice_get (operands_of (option_map (λ o. operation_content o.content.data) s)) i) ≡ option_map (λ o. o.def) (option_map (either OfValue) (operand_in s i))
      go None = refl
      go (Some o) = ap (option_map OfValue) (slice_get-map (λ u. u.def) o.content.data.operands i) ∙ named OfValue (slice_get o.content.data.operands i)
  used_seen (AtSuccessor p i) = ap (λ c. option_map OfBlock (slice_get (successors_of c) i)) (seen_of operation_content x.operations p) ∙ go (arena.get x.operations p)
    where
      go : (s : Option (Entry (Nest BasicBlock Region (OperationData O T)))) → option_map OfBlock (slice_get (successors_of (option_map (λ o. operation_content o.content.data) s)) i) ≡ option_map (λ o. o.def) (option_map (either OfBlock) (successor_in s i))
      go None = refl
      go (Some o) = ap (option_map OfBlock) (slice_get-map (λ u. u.def) o.content.data.successors i) ∙ named OfBlock (slice_get o.content.data.successors i)

  -- where every use is in a use list, what is named is used
  pub val_seen : AreAllUsed x → (u : Site) → val x u ≡ used_at (graph_of m v x) u
  val_seen all u = elim (seen (use_at x u)) [
    | inl none ↦ ap def_of none ∙ sym (used_seen u ∙ ap (option_map (λ o. o.def)) none)
    | inr (o, e) ↦ used_def (use_at x u) o e (all u (rw e refl)) ∙ sym (used_seen u ∙ ap (option_map (λ o. o.def)) e)
  ]

  -- a live definition has a use list
  pub head_there : (d : Defined) → IsDefined (graph_of m v x) d → IsSome (head_at x d)
  head_there (OfValue (Result p i)) s = first_there _ (value_there m v x (Result p i) s)
  head_there (OfValue (Argument b i)) s = first_there _ (value_there m v x (Argument b i) s)
  head_there (OfBlock b) s = preds_there _ (block_there m v x b s)

  pub head_is_defined : (d : Defined) → IsSome (head_at x d) → IsDefined (graph_of m v x) d
  head_is_defined (OfValue (Result p i)) s = value_is_defined m v x (Result p i) (first_back _ s)
  head_is_defined (OfValue (Argument b i)) s = value_is_defined m v x (Argument b i) (first_back _ s)
  head_is_defined (OfBlock b) s = lives_seen m v x (TheBlock b) (datum_there (λ d. ABlock d.0 (block_content d.1)) (arena.get x.blocks b) (preds_back _ s))

  -- a use list holds what names d
  pub lists_seen : AreAllUsed x → (d : Defined) (us : List Site) → Lists (λ u. val x u ≡ Some d) us → Lists (IsUse (graph_of m v x) d) us
  lists_seen all d us l = lists_alike us (λ u e. sym (val_seen all u) ∙ e) (λ u e. val_seen all u ∙ e) l

  -- what is used is there
  pub use_is_defined : IsSound m x → (u : Site) (d : Defined) → IsUse (graph_of m v x) d u → IsDefined (graph_of m v x) d
  use_is_defined s u d e =
      let k = s.uses.alive u d (val_seen s.all_used u ∙ e) in
      head_is_defined d (rw k.1 refl)

  -- what has a first use is used, and what is used has one
  pub is_used : IsSound m x → (d : Defined) (h : Option Site) → head_at x d ≡ Some h → IsSome h → (u : Site) × IsUse (graph_of m v x) d u
  is_used s d None at l = absurd (cc)
  is_used s d (Some u) at l = (u, sym (val_seen s.all_used u) ∙ (s.uses.head_ok d u at).0)

  pub has_head : IsSound m x → (d : Defined) (h : Option Site) → head_at x d ≡ Some h → (u : Site) × IsUse (graph_of m v x) d u → IsSome h
  has_head s d (Some w) at k = refl
  has_head s d None at k = absurd (none_left s.uses d at s.uses.bound k.0 (omega arith) (val_seen s.all_used k.0 ∙ k.1))

-- what is the same where all that is seen is the same but for what is used
module _ {O B T : Type 0} where
  results_bare : (g : GraphView O B T) (p : Ptr Operation) → results (without_uses g) p ≡ results g p
  results_bare g p = ap (λ s. results_of (option_map (λ e. e.content.content) s)) (get_mapped without_uses_in g.operations p) ∙ go (get g.operations p)
    where
      go : (s : Option (Entry (Node BasicBlock Region (OperationContent O T)))) → results_of (option_map (λ e. e.content.content) (option_map (object_of without_uses_in) s)) ≡ results_of (option_map (λ e. e.content.content) s)
      go None = refl
      go (Some e) = refl

  pub defined_bare : (g : GraphView O B T) (d : Defined) → IsDefined (without_uses g) d ≡ IsDefined g d
  defined_bare g (OfValue (Result p i)) = ap (λ rs. IsSome (slice_get rs i)) (results_bare g p)
  defined_bare g (OfValue (Argument b i)) = refl
  defined_bare g (OfBlock b) = refl

  pub head_bare : (x y : Objects O B T) → bare y ≡ bare x → (d : Defined) → IsSome (head_at x d) → IsSome (head_at y d)
  head_bare x y same d s =
      let was : IsDefined (bare x) d = rw (defined_bare (all_seen x) d) (head_is_defined 0 no_counters x d s) in
      let now : IsDefined (bare y) d = subst (λ g. IsDefined g d) (sym same) was in
      head_there 0 no_counters y d (rw (defined_bare (all_seen y) d) at now)
