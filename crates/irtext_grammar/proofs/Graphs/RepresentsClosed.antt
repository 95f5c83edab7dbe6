-- A root of the arenas that represents what a tree builds is closed, if each operand and successor that is built refers to something.
use Rattle.std.proofs.Common.{◌≡◌, ℕ, zero, suc, Bool, true, cond, ◌&&◌, ◌==◌, List, [], ◌∷◌, map, drop, length, slice_get, Option, Some, None, is_some, refl, sym, ap, ap₂, ◌∙◌, subst, arith}
use Rattle.std.specs.Prelude.{⊤}
use Rattle.std.specs.List.{list_all}
use Rattle.std.proofs.lemmas.Bool.Decides.{nat_tests}
use Rattle.irtext_base.specs.Format as format
use Rattle.irtext_base.specs.Format.{Format, Directive, operand_places, successor_places, Id}
use Rattle.irtext_grammar.specs.Spelling.Spellable.{Each}
use Rattle.irtext_grammar.specs.Grammar.Forest.{Regions, no_regions, region, Blocks, no_blocks, block, Operations, no_operations, operation, Root, MatchRegions, MatchBlocks, MatchOperations, AllRegions, AllBlocks, AllOperations}
use Rattle.irtext_grammar.specs.Graphs.Graph.{Graph, GraphOp, GraphBlock, Printing}
use Rattle.irtext_grammar.specs.Names.Script.{Path, Script, done, does_all}
use Rattle.irtext_grammar.specs.Names.Scopes as scopes
use Rattle.irtext_grammar.specs.Names.Scopes.{Fact, facts}
use Rattle.irtext_grammar.specs.Names.Acts.{all_of}
use Rattle.irtext_grammar.specs.Graphs.Build.{BuiltOp, BuiltBlock, Built}
use Rattle.irtext_grammar.specs.Graphs.Links.{OpLinked, Linked}
use Rattle.irtext_grammar.specs.Graphs.Closed.{Thing, a_value, a_block, same_thing, uses_of_values, uses_of_blocks, defined_results, defined_arguments, use_if, use_block_if, directives_script, body_script, graph_regions, graph_blocks, graph_operations, graph_script, Closed}
use Rattle.irtext_grammar.specs.Graphs.Same.{ResolvedOp, ResolvedBlock, OpFound, Found, resolved_regions, resolved_blocks, resolved_operations, resolved_root}
use Rattle.irtext_grammar.specs.Graphs.Represents.{made, Distinct, RepresentsOp, RepresentsBlock, Represents}
use Rattle.irtext_grammar.specs.Spelling.Writable.{has_region}
use Rattle.irtext_grammar.proofs.Lists.Fresh.{distinct_fresh}
use Rattle.irtext_grammar.proofs.Names.UsesMean.{meant, Means}
use Rattle.irtext_grammar.proofs.Names.Definite.{Names, OnlyRegions, outer_clean}
use Rattle.irtext_grammar.proofs.Graphs.FitsFormat.{and_left, and_right}
use Rattle.irtext_grammar.proofs.Lists.Each.{each_both, each_drop, OfOption, each_at}

unequal : {X : Type 0} (x : X) (xs : List X) → x ∷ xs ≡ [] → ⊥
unequal x xs e = cc

same_number : (m n : ℕ) → (m == n) ≡ (n == m)
same_number m n = grind (arith, nat_tests)

-- the test of values and blocks goes both ways
pub thing_symmetric : (x y : Thing) → same_thing x y ≡ same_thing y x
thing_symmetric (a_value v) (a_value w) = same_number v w
thing_symmetric (a_value v) (a_block b) = refl
thing_symmetric (a_block b) (a_value v) = refl
thing_symmetric (a_block b) (a_block c) = ap₂ ◌&&◌ (same_number b.0 c.0) (same_number b.1 c.1)

-- names alone, of which each means something, in these scopes
abbrev Sound : List (Fact Thing) → List (Fact Thing) → Script Thing ⊤ → Type 0
Sound v l x = Names x × Each (Means same_thing) (meant same_thing v l x)

module _ (v l : List (Fact Thing)) where
  abbrev HasValue : ℕ → Type 0
  HasValue x = is_some (scopes.lookup same_thing (a_value x) v) ≡ true

  abbrev HasBlock : ℕ × ℕ → Type 0
  HasBlock b = is_some (scopes.lookup same_thing (a_block b) l) ≡ true

  values_there : (xs : List ℕ) → list_all is_some (map (λ x. scopes.lookup same_thing (a_value x) v) xs) ≡ true → Each HasValue xs
  values_there [] h = tt
  values_there (x ∷ xs) h = (and_left (is_some (scopes.lookup same_thing (a_value x) v)) _ h, values_there xs (and_right (is_some (scopes.lookup same_thing (a_value x) v)) _ h))

  blocks_there : (bs : List (ℕ × ℕ)) → list_all is_some (map (λ b. scopes.lookup same_thing (a_block b) l) bs) ≡ true → Each HasBlock bs
  blocks_there [] h = tt
  blocks_there (b ∷ bs) h = (and_left (is_some (scopes.lookup same_thing (a_block b) l)) _ h, blocks_there bs (and_right (is_some (scopes.lookup same_thing (a_block b) l)) _ h))

  uses_sound : (p : Path) (k : ℕ) (vs : List ℕ) (g : Script Thing ⊤) → Each HasValue vs → Sound v l g → Sound v l (does_all (uses_of_values p k vs) g)
  uses_sound p k [] g e a = a
  uses_sound p k (x ∷ vs) g e a = let r = uses_sound p (suc k) vs g e.1 a in ((tt, r.0), (e.0, r.1))

  blocks_sound : (p : Path) (k : ℕ) (bs : List (ℕ × ℕ)) (g : Script Thing ⊤) → Each HasBlock bs → Sound v l g → Sound v l (does_all (uses_of_blocks p k bs) g)
  blocks_sound p k [] g e a = a
  blocks_sound p k (x ∷ bs) g e a = let r = blocks_sound p (suc k) bs g e.1 a in ((tt, r.0), (e.0, r.1))

  results_sound : {T : Type 0} (p : Path) (k : ℕ) (rs : List (ℕ × T)) (g : Script Thing ⊤) → Sound v l g → Sound v l (does_all (defined_results p k rs) g)
  results_sound p k [] g a = a
  results_sound p k (r ∷ rs) g a = let s = results_sound p (suc k) rs g a in ((tt, s.0), s.1)

  arguments_sound : {T : Type 0} (p : Path) (k : ℕ) (rs : List (ℕ × T)) (g : Script Thing ⊤) → Sound v l g → Sound v l (does_all (defined_arguments p k rs) g)
  arguments_sound p k [] g a = a
  arguments_sound p k (r ∷ rs) g a = let s = arguments_sound p (suc k) rs g a in ((tt, s.0), s.1)

  use_sound : (p : Path) (i : ℕ) (x : Option ℕ) (g : Script Thing ⊤) → OfOption HasValue x → Sound v l g → Sound v l (does_all (use_if p i x) g)
  use_sound p i None g e a = a
  use_sound p i (Some x) g e a = ((tt, a.0), (e, a.1))

  use_block_sound : (p : Path) (i : ℕ) (x : Option (ℕ × ℕ)) (g : Script Thing ⊤) → OfOption HasBlock x → Sound v l g → Sound v l (does_all (use_block_if p i x) g)
  use_block_sound p i None g e a = a
  use_block_sound p i (Some x) g e a = ((tt, a.0), (e, a.1))

-- for regions, whatever the labels around them
abbrev SoundAll : List (Fact Thing) → List (Script Thing ⊤ → Script Thing ⊤) → Type 0
SoundAll v [] = ⊤
SoundAll v (s ∷ ss) = ((l : List (Fact Thing)) (g : Script Thing ⊤) → Sound v l g → Sound v l (s g)) × SoundAll v ss

all_sound : (v l : List (Fact Thing)) (ss : List (Script Thing ⊤ → Script Thing ⊤)) (g : Script Thing ⊤) → SoundAll v ss → Sound v l g → Sound v l (all_of ss g)
all_sound v l [] g e a = a
all_sound v l (s ∷ ss) g e a = e.0 l (all_of ss g) (all_sound v l ss g e.1 a)

module _ {T A : Type 0} (C : Printing T A) (isolated : Id → Bool) where
  module _ (v l : List (Fact Thing)) (ds : List Directive) (p : Path) (o : GraphOp T A) (e : Each (HasValue v l) o.operands) (f : Each (HasBlock v l) o.successors) where
    directives_sound : (rest : List Directive) (ss : List (Script Thing ⊤ → Script Thing ⊤)) (g : Script Thing ⊤) → SoundAll v ss → Sound v l g → Sound v l (directives_script ds p o rest ss g)
    directives_sound [] ss g s a = a
    directives_sound (format.operand i ∷ rest) ss g s a = use_sound v l p i (slice_get o.operands i) _ (each_at _ o.operands i e) (directives_sound rest ss g s a)
    directives_sound (format.operands ∷ rest) ss g s a = uses_sound v l p _ _ _ (each_drop _ (length (operand_places ds)) o.operands e) (directives_sound rest ss g s a)
    directives_sound (format.successor i ∷ rest) ss g s a = use_block_sound v l p i (slice_get o.successors i) _ (each_at _ o.successors i f) (directives_sound rest ss g s a)
    directives_sound (format.successors ∷ rest) ss g s a = blocks_sound v l p _ _ _ (each_drop _ (length (successor_places ds)) o.successors f) (directives_sound rest ss g s a)
    directives_sound (format.region i ∷ rest) [] g s a = directives_sound rest [] g s a
    directives_sound (format.region i ∷ rest) (r ∷ ss) g s a = s.0 l _ (directives_sound rest ss g s.1 a)
    directives_sound (format.regions ∷ rest) ss g s a = all_sound v l ss _ s (directives_sound rest [] g tt a)
    directives_sound (_ ∷ rest) ss g s a = directives_sound rest ss g s a

  body_sound : (v l : List (Fact Thing)) (f : Option Format) (p : Path) (o : GraphOp T A) (ss : List (Script Thing ⊤ → Script Thing ⊤)) (g : Script Thing ⊤) → Each (HasValue v l) o.operands → Each (HasBlock v l) o.successors
      → SoundAll v ss → Sound v l g → Sound v l (body_script f p o ss g)
  body_sound v l None p o ss g e f s a = uses_sound v l p 0 o.operands _ e (blocks_sound v l p 0 o.successors _ f (all_sound v l ss g s a))
  body_sound v l (Some format.canonical) p o ss g e f s a = uses_sound v l p 0 o.operands _ e (blocks_sound v l p 0 o.successors _ f (all_sound v l ss g s a))
  body_sound v l (Some (format.custom ds)) p o ss g e f s a = directives_sound v l ds p o e f ds ss g s a

  abbrev F : Path → Blocks (GraphOp T A) (GraphBlock T A) ⊤ → scopes.Facts Thing
  F p bs = facts same_thing (graph_blocks C isolated p 0 bs)

  mutual
    found_regions : (v : List (Fact Thing)) (p : Path) (j : ℕ) (iso : Bool) (rs : Regions (GraphOp T A) (GraphBlock T A) ⊤) → AllRegions OpFound (λ h. ⊤) (λ r. ⊤) (resolved_regions C isolated v p j iso rs) → SoundAll v (graph_regions C isolated p j iso rs)
    found_regions v p j iso no_regions h = tt
    found_regions v p j iso (region r bs rs) h =
        let b = found_blocks (cond iso (F (j ∷ p) bs).values v) (F (j ∷ p) bs).labels (j ∷ p) 0 bs h.1 in (
          (λ l g a. ((b.0, a.0), each_both (Means same_thing) (meant same_thing (cond iso (F (j ∷ p) bs).values v) (F (j ∷ p) bs).labels (graph_blocks C isolated (j ∷ p) 0 bs)) (meant same_thing v l g) b.1 a.1)),
          found_regions v p (suc j) iso rs h.2,
        )

    found_blocks : (v l : List (Fact Thing)) (p : Path) (k : ℕ) (bs : Blocks (GraphOp T A) (GraphBlock T A) ⊤) → AllBlocks OpFound (λ h. ⊤) (λ r. ⊤) (resolved_blocks C isolated v l p k bs) → Sound v l (graph_blocks C isolated p k bs)
    found_blocks v l p k no_blocks h = (tt, tt)
    found_blocks v l p k (block b os bs) h =
        let r = found_operations v l (k ∷ p) 0 os _ h.1 (found_blocks v l p (suc k) bs h.2) in
        arguments_sound v l (k ∷ p) 0 b.arguments _ ((tt, r.0), r.1)

    found_operations : (v l : List (Fact Thing)) (p : Path) (i : ℕ) (os : Operations (GraphOp T A) (GraphBlock T A) ⊤) (g : Script Thing ⊤) → AllOperations OpFound (λ h. ⊤) (λ r. ⊤) (resolved_operations C isolated v l p i os) → Sound v l g
        → Sound v l (graph_operations C isolated p i os g)
    found_operations v l p i no_operations g h a = a
    found_operations v l p i (operation o rs os) g h a =
        body_sound v l (C.format_of o.id) (i ∷ p) o _ _ (values_there v l o.operands h.0.0) (blocks_there v l o.successors h.0.1) (found_regions v (i ∷ p) 0 (isolated o.id) rs h.1)
        (results_sound v l (i ∷ p) 0 o.results _ (found_operations v l p (suc i) os g h.2 a))

  graph_sound : (g : Graph T A) → Found (resolved_root C isolated g) → Sound [] [] (graph_script C isolated g)
  graph_sound g h =
      body_sound [] [] (C.format_of g.own.id) [] g.own _ _ (values_there [] [] g.own.operands h.0.0) (blocks_there [] [] g.own.successors h.0.1) (found_regions [] [] 0 (isolated g.own.id) g.regions h.1)
      (results_sound [] [] [] 0 g.own.results _ (tt, tt))

  -- in a root that represents one in which each operand and successor refers to something, each of them is found
  module _ {X : Type 0} where
    own_found : (a : ResolvedOp T A) (b : BuiltOp T A X) → RepresentsOp a b → OpLinked b → OpFound a
    own_found a b s h = (ap (list_all is_some) s.shape.operands ∙ h.0, ap (list_all is_some) s.shape.successors ∙ h.1)

    mutual
      regions_found : (rs : Regions (ResolvedOp T A) (ResolvedBlock T A) ⊤) (cs : Regions (BuiltOp T A X) (BuiltBlock T A X) ⊤) → MatchRegions RepresentsOp RepresentsBlock (λ r s. ⊤) rs cs → AllRegions OpLinked (λ h. ⊤) (λ r. ⊤) cs → AllRegions OpFound (λ h. ⊤) (λ r. ⊤) rs
      regions_found no_regions cs s h = tt
      regions_found (region r bs rs) no_regions s h = absurd s
      regions_found (region r bs rs) (region q cs ds) s h = (tt, blocks_found bs cs s.1 h.1, regions_found rs ds s.2 h.2)

      blocks_found : (bs : Blocks (ResolvedOp T A) (ResolvedBlock T A) ⊤) (cs : Blocks (BuiltOp T A X) (BuiltBlock T A X) ⊤) → MatchBlocks RepresentsOp RepresentsBlock (λ r s. ⊤) bs cs → AllBlocks OpLinked (λ h. ⊤) (λ r. ⊤) cs → AllBlocks OpFound (λ h. ⊤) (λ r. ⊤) bs
      blocks_found no_blocks cs s h = tt
      blocks_found (block b os bs) no_blocks s h = absurd s
      blocks_found (block b os bs) (block c xs cs) s h = (tt, operations_found os xs s.1 h.1, blocks_found bs cs s.2 h.2)

      operations_found : (os : Operations (ResolvedOp T A) (ResolvedBlock T A) ⊤) (xs : Operations (BuiltOp T A X) (BuiltBlock T A X) ⊤) → MatchOperations RepresentsOp RepresentsBlock (λ r s. ⊤) os xs → AllOperations OpLinked (λ h. ⊤) (λ r. ⊤) xs → AllOperations OpFound (λ h. ⊤) (λ r. ⊤) os
      operations_found no_operations xs s h = tt
      operations_found (operation o rs os) no_operations s h = absurd s
      operations_found (operation o rs os) (operation b cs xs) s h = (own_found o b s.0 h.0, regions_found rs cs s.1 h.1, operations_found os xs s.2 h.2)

    root_found : (a : Root (ResolvedOp T A) (ResolvedBlock T A) ⊤) (b : Built T A X) → Represents a b → Linked b → Found a
    root_found a b s h = (own_found a.own b.own s.0 h.0, regions_found a.regions b.regions s.1 h.1)

  -- ---- a root without results, operands and successors
  abbrev OnlyAll : List (Script Thing ⊤ → Script Thing ⊤) → Type 0
  OnlyAll [] = ⊤
  OnlyAll (s ∷ ss) = ((g : Script Thing ⊤) → OnlyRegions g → OnlyRegions (s g)) × OnlyAll ss

  all_only : (ss : List (Script Thing ⊤ → Script Thing ⊤)) (g : Script Thing ⊤) → OnlyAll ss → OnlyRegions g → OnlyRegions (all_of ss g)
  all_only [] g e a = a
  all_only (s ∷ ss) g e a = e.0 (all_of ss g) (all_only ss g e.1 a)

  regions_only : (p : Path) (j : ℕ) (iso : Bool) (rs : Regions (GraphOp T A) (GraphBlock T A) ⊤) → (has_region rs ≡ true → iso ≡ true) → OnlyAll (graph_regions C isolated p j iso rs)
  regions_only p j iso no_regions h = tt
  regions_only p j iso (region r bs rs) h = ((λ g a. (h refl, a)), regions_only p (suc j) iso rs (λ e. h refl))

  no_use : (p : Path) (i : ℕ) (xs : List ℕ) → xs ≡ [] → use_if p i (slice_get xs i) ≡ []
  no_use p zero [] e = refl
  no_use p (suc i) [] e = refl
  no_use p i (x ∷ xs) e = absurd (unequal x xs e)

  no_block_use : (p : Path) (i : ℕ) (xs : List (ℕ × ℕ)) → xs ≡ [] → use_block_if p i (slice_get xs i) ≡ []
  no_block_use p zero [] e = refl
  no_block_use p (suc i) [] e = refl
  no_block_use p i (x ∷ xs) e = absurd (unequal x xs e)

  dropped : {Y : Type 0} (n : ℕ) (xs : List Y) → xs ≡ [] → drop n xs ≡ []
  dropped zero xs e = e
  dropped (suc n) [] e = refl
  dropped (suc n) (x ∷ xs) e = absurd (unequal x xs e)

  module _ (p : Path) (o : GraphOp T A) (e : o.operands ≡ []) (f : o.successors ≡ []) where
    directives_only : (ds rest : List Directive) (ss : List (Script Thing ⊤ → Script Thing ⊤)) (g : Script Thing ⊤) → OnlyAll ss → OnlyRegions g → OnlyRegions (directives_script ds p o rest ss g)
    directives_only ds [] ss g s a = a
    directives_only ds (format.operand i ∷ rest) ss g s a = subst (λ z. OnlyRegions (does_all z (directives_script ds p o rest ss g))) (sym (no_use p i o.operands e)) (directives_only ds rest ss g s a)
    directives_only ds (format.operands ∷ rest) ss g s a =
        subst (λ z. OnlyRegions (does_all (uses_of_values p (length (operand_places ds)) z) (directives_script ds p o rest ss g))) (sym (dropped (length (operand_places ds)) o.operands e)) (directives_only ds rest ss g s a)
    directives_only ds (format.successor i ∷ rest) ss g s a = subst (λ z. OnlyRegions (does_all z (directives_script ds p o rest ss g))) (sym (no_block_use p i o.successors f)) (directives_only ds rest ss g s a)
    directives_only ds (format.successors ∷ rest) ss g s a =
        subst (λ z. OnlyRegions (does_all (uses_of_blocks p (length (successor_places ds)) z) (directives_script ds p o rest ss g))) (sym (dropped (length (successor_places ds)) o.successors f)) (directives_only ds rest ss g s a)
    directives_only ds (format.region i ∷ rest) [] g s a = directives_only ds rest [] g s a
    directives_only ds (format.region i ∷ rest) (r ∷ ss) g s a = s.0 _ (directives_only ds rest ss g s.1 a)
    directives_only ds (format.regions ∷ rest) ss g s a = all_only ss _ s (directives_only ds rest [] g tt a)
    directives_only ds (_ ∷ rest) ss g s a = directives_only ds rest ss g s a

    all_uses_only : (ss : List (Script Thing ⊤ → Script Thing ⊤)) (g : Script Thing ⊤) → OnlyAll ss → OnlyRegions g → OnlyRegions (does_all (uses_of_values p 0 o.operands) (does_all (uses_of_blocks p 0 o.successors) (all_of ss g)))
    all_uses_only ss g s a =
        subst (λ z. OnlyRegions (does_all (uses_of_values p 0 z) (does_all (uses_of_blocks p 0 o.successors) (all_of ss g)))) (sym e)
        (subst (λ z. OnlyRegions (does_all (uses_of_blocks p 0 z) (all_of ss g))) (sym f) (all_only ss g s a))

    body_only : (d : Option Format) (ss : List (Script Thing ⊤ → Script Thing ⊤)) (g : Script Thing ⊤) → OnlyAll ss → OnlyRegions g → OnlyRegions (body_script d p o ss g)
    body_only None ss g s a = all_uses_only ss g s a
    body_only (Some format.canonical) ss g s a = all_uses_only ss g s a
    body_only (Some (format.custom ds)) ss g s a = directives_only ds ds ss g s a

  graph_only : (g : Graph T A) → g.own.results ≡ [] → g.own.operands ≡ [] → g.own.successors ≡ [] → (has_region g.regions ≡ true → isolated g.own.id ≡ true) → OnlyRegions (graph_script C isolated g)
  graph_only g r o s i =
      body_only [] g.own o s (C.format_of g.own.id) _ _ (regions_only [] 0 (isolated g.own.id) g.regions i) (subst (λ z. OnlyRegions (does_all (defined_results [] 0 z) done)) (sym r) tt)

  -- a root without results, operands and successors is closed, if each operand and successor inside is found in the scopes around it
  pub found_closed : (g : Graph T A) → Found (resolved_root C isolated g) → Distinct C isolated g
      → g.own.results ≡ [] → g.own.operands ≡ [] → g.own.successors ≡ [] → (has_region g.regions ≡ true → isolated g.own.id ≡ true) → Closed C isolated g
  found_closed g h d r o t i =
      let q = graph_sound g h in
      outer_clean same_thing thing_symmetric [] [] [] [] [] (graph_script C isolated g) (graph_only g r o t i) q.0 q.1 (distinct_fresh same_thing thing_symmetric (made (graph_script C isolated g)) d)

  -- a root that represents what a tree builds is closed, if each operand and successor refers to something
  pub represents_closed : {X : Type 0} (g : Graph T A) (b : Built T A X) → Represents (resolved_root C isolated g) b → Linked b → Distinct C isolated g
      → g.own.results ≡ [] → g.own.operands ≡ [] → g.own.successors ≡ [] → (has_region g.regions ≡ true → isolated g.own.id ≡ true) → Closed C isolated g
  represents_closed g b s h d r o t i = found_closed g (root_found (resolved_root C isolated g) b s h) d r o t i
