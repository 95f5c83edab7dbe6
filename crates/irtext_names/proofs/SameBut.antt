-- Two graphs that differ in one object alone, and in what operations use.
use Rattle.std.proofs.Common.{◌≡◌, ◌∙◌, ℕ, refl, sym, ap, subst, List, [], Option, Some, None, IsSome, slice_get}
use Rattle.std.specs.Option.{option_map}
use Rattle.irtext_graph.specs.declared.object.BasicBlock.{BasicBlock}
use Rattle.irtext_graph.specs.declared.object.Operation.{Operation}
use Rattle.irtext_graph.specs.declared.arena.Ptr.{Ptr}
use Rattle.irtext_graph.specs.declared.object.Object.{Object}
use Rattle.irtext_graph.specs.declared.object.Object.TheVariants.{TheOperation, TheBlock}
use Rattle.irtext_graph.specs.declared.object.Value.TheVariants.{Result, Argument}
use Rattle.irtext_graph.specs.declared.object.Defined.{Defined}
use Rattle.irtext_graph.specs.declared.object.Defined.TheVariants.{OfValue, OfBlock}
use Rattle.irtext_graph.specs.Content.{Typed, Content, Content.{AnOperation, ABlock, ARegion}}
use Rattle.irtext_graph.specs.Erasing.{without_uses, owner}
use Rattle.irtext_graph.specs.Graph.{GraphView, content, content_of, parent, children, IsLive}
use Rattle.irtext_graph.specs.Objects.{is_older}
use Rattle.irtext_graph.specs.Parts.{operation_at, results, results_of, arguments, arguments_of}
use Rattle.irtext_graph.specs.Store.{get}
use Rattle.irtext_graph.specs.Used.{IsDefined}
use Rattle.irtext_graph.proofs.PartsSeen.{some_of, of_some}
use Rattle.irtext_names.specs.Placeholders.{IsBlank, IsPlaceholder}

module _ {O B T : Type 0} where
  -- the results of an operation, by what it is
  abbrev pub results_in : Option (Content O B T) → List (Typed T)
  results_in None = []
  results_in (Some (AnOperation b c)) = c.results
  results_in (Some (ABlock b c)) = []
  results_in (Some (ARegion b c)) = []

  -- the arguments of a block, by what it is
  abbrev arguments_in : Option (Content O B T) → List (Typed T)
  arguments_in None = []
  arguments_in (Some (AnOperation b c)) = []
  arguments_in (Some (ABlock b c)) = c.arguments
  arguments_in (Some (ARegion b c)) = []

  -- the data of an operation, by what it is
  abbrev pub data_in : Option (Content O B T) → Option O
  data_in None = None
  data_in (Some (AnOperation b c)) = Some c.data_of
  data_in (Some (ABlock b c)) = None
  data_in (Some (ARegion b c)) = None

  pub results_are : (g : GraphView O B T) (p : Ptr Operation) → results g p ≡ results_in (option_map without_uses (content g (TheOperation p)))
  results_are g p = elim (get g.operations p) as (λ e. results_of (option_map (λ e. e.content.content) e) ≡ results_in (option_map without_uses (option_map (λ d. AnOperation d.0 d.1) (content_of e)))) [ None ↦ refl | Some e ↦ refl ]

  arguments_are : (g : GraphView O B T) (b : Ptr BasicBlock) → arguments g b ≡ arguments_in (option_map without_uses (content g (TheBlock b)))
  arguments_are g b = elim (get g.blocks b) as (λ e. arguments_of (option_map (λ e. e.content.content) e) ≡ arguments_in (option_map without_uses (option_map (λ d. ABlock d.0 d.1) (content_of e)))) [ None ↦ refl | Some e ↦ refl ]

  pub data_is : (g : GraphView O B T) (p : Ptr Operation) → option_map (λ c. c.data_of) (operation_at g p) ≡ data_in (option_map without_uses (content g (TheOperation p)))
  data_is g p = elim (get g.operations p) as (λ e. option_map (λ c. c.data_of) (option_map (λ e. e.content.content) e) ≡ data_in (option_map without_uses (option_map (λ d. AnOperation d.0 d.1) (content_of e)))) [ None ↦ refl | Some e ↦ refl ]

  age_bare : (m : ℕ) (c : Option (Content O B T)) → is_older m c ≡ is_older m (option_map without_uses c)
  age_bare m None = refl
  age_bare m (Some (AnOperation b c)) = refl
  age_bare m (Some (ABlock b c)) = refl
  age_bare m (Some (ARegion b c)) = refl

  -- what an object defines does not depend on what it uses
  pub same_defined : (g k : GraphView O B T) (x : Defined) → option_map without_uses (content k (owner x)) ≡ option_map without_uses (content g (owner x)) → IsDefined g x → IsDefined k x
  same_defined g k (OfValue (Result p i)) e d = subst (λ ts. IsSome (slice_get ts i)) (results_are g p ∙ sym (ap results_in e) ∙ sym (results_are k p)) d
  same_defined g k (OfValue (Argument b i)) e d = subst (λ ts. IsSome (slice_get ts i)) (arguments_are g b ∙ sym (ap arguments_in e) ∙ sym (arguments_are k b)) d
  same_defined g k (OfBlock b) e d = some_of without_uses (content k (TheBlock b)) (subst IsSome (sym e) (of_some without_uses (content g (TheBlock b)) d))

  -- nothing is defined by what is not there
  pub none_defined : (g : GraphView O B T) (x : Defined) → content g (owner x) ≡ None → IsDefined g x → ⊥
  none_defined g (OfValue (Result p i)) e d = let k : IsSome (slice_get (results_in None) i) = subst (λ ts. IsSome (slice_get ts i)) (results_are g p ∙ ap (λ c. results_in (option_map without_uses c)) e) d in cc
  none_defined g (OfValue (Argument b i)) e d = let k : IsSome (slice_get (arguments_in None) i) = subst (λ ts. IsSome (slice_get ts i)) (arguments_are g b ∙ ap (λ c. arguments_in (option_map without_uses c)) e) d in cc
  none_defined g (OfBlock b) e d = let k = subst IsSome e d in cc

  -- what is defined belongs to an object that is there
  pub defined_is_live : (g : GraphView O B T) (x : Defined) → IsDefined g x → IsLive g (owner x)
  defined_is_live g x d = go (content g (owner x)) refl
    where
      go : (c : Option (Content O B T)) → content g (owner x) ≡ c → IsSome c
      go None e = absurd (none_defined g x e d)
      go (Some c) e = refl

  pub same_age : (m : ℕ) (g k : GraphView O B T) (q : Object) → option_map without_uses (content k q) ≡ option_map without_uses (content g q) → is_older m (content k q) ≡ is_older m (content g q)
  same_age m g k q e = age_bare m (content k q) ∙ ap (is_older m) e ∙ sym (age_bare m (content g q))

module _ {O B T : Type 0} where
  pub same_blank : (g k : GraphView (Option O) B T) (x : Defined) → option_map without_uses (content k (owner x)) ≡ option_map without_uses (content g (owner x)) → parent k (owner x) ≡ parent g (owner x) → IsBlank g x → IsBlank k x
  same_blank g k (OfValue (Result p i)) e f b = data_is k p ∙ ap data_in e ∙ sym (data_is g p) ∙ b
  same_blank g k (OfValue (Argument c i)) e f b = b
  same_blank g k (OfBlock c) e f b = f ∙ b

  -- each object but this one is unchanged, except for what it uses; this one is erased
  pub record SameBut (g k : GraphView (Option O) B T) (o : Option Object) : Type 0 where
    pub contents : (q : Object) → (o ≡ Some q → ⊥) → option_map without_uses (content k q) ≡ option_map without_uses (content g q)
    pub parents : (q : Object) → (o ≡ Some q → ⊥) → parent k q ≡ parent g q
    pub lists : (q : Object) → (o ≡ Some q → ⊥) → children k q ≡ children g q
    pub gone : (q : Object) → o ≡ Some q → content k q ≡ None

  pub same_self : (g : GraphView (Option O) B T) → SameBut g g None
  same_self g = record { contents = λ q n. refl; parents = λ q n. refl; lists = λ q n. refl; gone = λ q e. cc }

  -- nothing is erased, and then one object
  pub same_then : {g k h : GraphView (Option O) B T} {o : Option Object} → SameBut g k None → SameBut k h o → SameBut g h o
  same_then s t = record {
    contents = λ q n. t.contents q n ∙ s.contents q (λ e. cc);
    parents = λ q n. t.parents q n ∙ s.parents q (λ e. cc);
    lists = λ q n. t.lists q n ∙ s.lists q (λ e. cc);
    gone = t.gone;
  }

  module _ {g k : GraphView (Option O) B T} {o : Option Object} (s : SameBut g k o) where
    pub still_defined : (x : Defined) → (o ≡ Some (owner x) → ⊥) → IsDefined g x → IsDefined k x
    still_defined x n d = same_defined g k x (s.contents (owner x) n) d

    pub not_gone : (x : Defined) → IsDefined k x → o ≡ Some (owner x) → ⊥
    not_gone x d e = none_defined k x (s.gone (owner x) e) d

    pub was_defined : (x : Defined) → IsDefined k x → IsDefined g x
    was_defined x d = same_defined k g x (sym (s.contents (owner x) (not_gone x d))) d

    pub still_blank : (x : Defined) → (o ≡ Some (owner x) → ⊥) → IsBlank g x → IsBlank k x
    still_blank x n b = same_blank g k x (s.contents (owner x) n) (s.parents (owner x) n) b

    pub was_blank : (x : Defined) → (o ≡ Some (owner x) → ⊥) → IsBlank k x → IsBlank g x
    was_blank x n b = same_blank k g x (sym (s.contents (owner x) n)) (sym (s.parents (owner x) n)) b

    pub still_placeholder : (x : Defined) → (o ≡ Some (owner x) → ⊥) → IsPlaceholder g x → IsPlaceholder k x
    still_placeholder x n p = record {
      alive = still_defined x n p.alive;
      blank = still_blank x n p.blank;
      free = s.parents (owner x) n ∙ p.free;
      empty = s.lists (owner x) n ∙ p.empty;
      alone = λ y d e. p.alone y (was_defined y d) e;
    }

    pub was_placeholder : (x : Defined) → IsPlaceholder k x → IsPlaceholder g x
    was_placeholder x p =
        let n : o ≡ Some (owner x) → ⊥ = not_gone x p.alive in
        record {
          alive = was_defined x p.alive;
          blank = was_blank x n p.blank;
          free = sym (s.parents (owner x) n) ∙ p.free;
          empty = sym (s.lists (owner x) n) ∙ p.empty;
          alone = λ y d e. p.alone y (still_defined y (λ f. n (f ∙ ap Some e)) d) e;
        }
