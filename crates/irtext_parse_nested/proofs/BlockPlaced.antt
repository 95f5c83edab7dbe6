-- A block that was made and appended to its region: names and graph still agree with the state of the machine, with the block and its
-- arguments at places of the text.
use Rattle.std.proofs.Common.{◌≡◌, ◌<◌, ◌+◌, ◌∙◌, inl, inr, ℕ, List, [], ◌∷◌, ◌++◌, length, Option, refl, sym, ap, subst, arith}
use Rattle.std.specs.Option.{option_map}
use Rattle.irtext_graph.specs.declared.arena.Ptr.{Ptr}
use Rattle.irtext_graph.specs.declared.object.BasicBlock.{BasicBlock}
use Rattle.irtext_graph.specs.declared.object.Region.{Region}
use Rattle.irtext_graph.specs.declared.object.Object.TheVariants.{TheBlock, TheRegion}
use Rattle.irtext_graph.specs.declared.object.Value.{Value}
use Rattle.irtext_graph.specs.declared.object.Value.TheVariants.{Argument}
use Rattle.irtext_graph.specs.declared.object.Defined.{Defined}
use Rattle.irtext_graph.specs.declared.object.Defined.TheVariants.{OfValue, OfBlock}
use Rattle.irtext_graph.specs.Chained.{Among}
use Rattle.irtext_graph.specs.Erasing.{owner, without_uses}
use Rattle.irtext_graph.specs.Graph.{GraphView, MakesBlock, Appends}
use Rattle.irtext_graph.specs.Used.{IsDefined}
use Rattle.irtext_scopes.specs.declared.tracker.NameTracker.{NameTracker}
use Rattle.irtext_scopes.specs.Scopes.{Scope}
use Rattle.irtext_grammar.specs.Names.Script.{Path, Place, User, argument, block_at}
use Rattle.irtext_grammar.specs.Names.History.{State}
use Rattle.irtext_names.specs.Linked.{Known, NamesAgree}
use Rattle.irtext_names.specs.Tied.{MatchesGraph, ArePending, IsNoPlaceholder}
use Rattle.irtext_names.proofs.Added.{made_none, added_ties, block_waits}
use Rattle.irtext_names.proofs.Gained.{block_added}
use Rattle.irtext_names.proofs.SameBut.{same_defined}
use Rattle.irtext_names.specs.Rows.{made_values, ValuesReady}
use Rattle.irtext_names.proofs.Made.{value_made, numbered_there}
use Rattle.irtext_names.proofs.Linked.Steps.{block_made}
use Rattle.irtext_names.proofs.Linked.Placed.{block_placed, block_placed_ties, block_placed_waits}

-- the arguments of the block at a path from i on, one for each of these, and what they were made into
abbrev pub arguments_made : {X : Type 0} → Path → Ptr BasicBlock → ℕ → List X → List (Place × Value)
arguments_made p b = made_values (argument p) (Argument b)

-- what is made, and besides it the block at a path with its arguments
abbrev pub with_block : {X : Type 0} → Path → Ptr BasicBlock → List X → Known → Known
with_block p b types known = record { values = known.values ++ arguments_made p b 0 types; blocks = known.blocks ++ (block_at p, b) ∷ []; sites = known.sites }

module _ {O B T : Type 0} {g m k : GraphView (Option O) B T} (r : Ptr Region) (b : Ptr BasicBlock) (x : B) (types : List T) (make : MakesBlock g m b x types) (a : Appends m k (TheRegion r) (TheBlock b)) where
  argument_here : (i : ℕ) → i < length types → IsDefined m (OfValue (Argument b i))
  argument_here i l = rw make.blocks.updates.changed (numbered_there g.values i types l)

  block_here : IsDefined m (OfBlock b)
  block_here = rw make.blocks.updates.changed refl

  -- no label waits with it
  block_none : (vs : List (Scope Value)) (ls : List (Scope (Ptr BasicBlock))) → MatchesGraph vs ls g → IsNoPlaceholder ls b
  block_none vs ls t = made_none OfBlock ls b t.label_ties (block_added b make)

  -- names still match the graph, and wait for the same definitions
  pub placed_ties : (vs : List (Scope Value)) (ls : List (Scope (Ptr BasicBlock))) → MatchesGraph vs ls g → MatchesGraph vs ls k
  placed_ties vs ls t = block_placed_ties r b a vs ls (block_none vs ls t) (added_ties (block_added b make) vs ls t)

  pub placed_waits : (n : ℕ) (vs : List (Scope Value)) (ls : List (Scope (Ptr BasicBlock))) → MatchesGraph vs ls g → ArePending n [] vs ls g → ArePending n [] vs ls k
  placed_waits n vs ls t w = block_placed_waits r b a n (b ∷ []) [] vs ls (λ y s. s) (block_waits b x types make n [] vs ls t w)

  -- its arguments are there, and no name waits with one of them
  pub arguments_ready : (vs : List (Scope Value)) (ls : List (Scope (Ptr BasicBlock))) → MatchesGraph vs ls g → ValuesReady (λ i. Argument b i) (length types) vs k
  arguments_ready vs ls t = λ i l. (
    same_defined m k (OfValue (Argument b i)) (ap (option_map without_uses) (a.objects.contents (TheBlock b))) (argument_here i l),
    λ n j e. ((placed_ties vs ls t).value_ties.held n j (Argument b i) e).blank,
  )

  -- names and graph agree with the state of the machine
  pub placed_agrees : (names : NameTracker Value (Ptr BasicBlock)) (known : Known) (p : Path) (held : List (User × Defined)) (st : State) → NamesAgree names g known held st → NamesAgree names k (with_block p b types known) held st
  placed_agrees names known p held st s = block_placed r b a names (with_block p b types known) held st (block_none names.values names.labels s.tied)
      (block_made g m names known held st b x types (arguments_made p b 0 types) ((block_at p, b) ∷ []) make arguments blocks s)
    where
      arguments : (q : Place) (v : Value) → Among (q, v) (arguments_made p b 0 types) → (owner (OfValue v) ≡ TheBlock b) × IsDefined m (OfValue v)
      arguments q v h = let i = value_made (argument p) (Argument b) 0 types q v h in let l = i.2 in
          (ap (λ z. owner (OfValue z)) i.1, subst (λ z. IsDefined m (OfValue z)) (sym i.1) (argument_here (0 + i.0) (omega (arith, l))))

      blocks : (q : Place) (c : Ptr BasicBlock) → Among {U = Place × Ptr BasicBlock} (q, c) ((block_at p, b) ∷ []) → (c ≡ b) × IsDefined m (OfBlock c)
      blocks q c (inl e) = let same : c ≡ b = ap (λ z. z.1) e in (same, subst (λ z. IsDefined m (OfBlock z)) (sym same) block_here)
      blocks q c (inr none) = absurd none
