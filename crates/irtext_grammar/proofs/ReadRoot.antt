-- A root that was parsed is closed, where its operations fit their formats.
use Rattle.std.proofs.Common.{◌≡◌, ℕ, suc, Bool, not, ◌&&◌, List, [], ◌∷◌, length, Option, Some, None, refl, sym, ap, ap₂, ◌∙◌, subst}
use Rattle.std.specs.Prelude.{⊤}
use Rattle.std.specs.List.{list_all}
use Rattle.irtext_base.specs.Text.{Text}
use Rattle.irtext_base.specs.Format as format
use Rattle.irtext_base.specs.Format.{Accepted, Format, Id, same_text, block_label_key}
use Rattle.irtext_base.specs.Own.{Language}
use Rattle.irtext_grammar.specs.Grammar.Forest.{Regions, no_regions, region, Blocks, no_blocks, block, Operations, no_operations, operation, MatchRegions, MatchBlocks, MatchOperations, AllRegions, AllBlocks, AllOperations, regions_list}
use Rattle.irtext_grammar.specs.Grammar.Reads.{reads}
use Rattle.irtext_grammar.specs.Grammar.Section.{Entry}
use Rattle.irtext_grammar.specs.Grammar.Tree.{Op, Head, Brace, Tree, Attribute}
use Rattle.irtext_grammar.specs.Graphs.Build.{built_regions, built_blocks, built_operations, build}
use Rattle.irtext_grammar.specs.Graphs.Closed.{FitsFormat, FitRegions, FitBlocks, FitOperations, Fit}
use Rattle.irtext_grammar.specs.Graphs.Graph.{Graph, GraphOp, GraphBlock, Printing}
use Rattle.irtext_grammar.specs.Graphs.Regained.{Named}
use Rattle.irtext_grammar.specs.Graphs.ReservedKeys.{KeepsRule, OpKeepsKeys, BlockKeepsKeys}
use Rattle.irtext_grammar.specs.Graphs.Same.{resolved_root, resolved_regions, resolved_blocks, resolved_operations}
use Rattle.irtext_grammar.specs.Graphs.Represents.{Distinct, RepresentsOp, RepresentsBlock, Represents}
use Rattle.irtext_grammar.specs.Names.Acts.{failures_of, section_acts, rule_of, may_hold, block_may_hold}
use Rattle.irtext_grammar.specs.Names.Scopes.{Fact}
use Rattle.irtext_grammar.specs.Names.Script.{Path, done, does_all}
use Rattle.irtext_grammar.specs.Graphs.Closed as closed
use Rattle.irtext_grammar.proofs.Grammar.PartsOfFormats.{NoneLeftOut, KnownAccepted, AllAccepted, formed_read}
use Rattle.irtext_grammar.proofs.Grammar.WholeTree.{whole}
use Rattle.irtext_grammar.proofs.Graphs.BuiltNamed.{built_named, built_kept, no_results, no_operands, no_successors, isolated_if}
use Rattle.irtext_grammar.proofs.Graphs.FitsFormat.{and_left, and_right}
use Rattle.irtext_grammar.proofs.Graphs.Links.{all_there}
use Rattle.irtext_grammar.proofs.Graphs.RepresentsClosed.{represents_closed}
use Rattle.irtext_grammar.proofs.Names.ResolvedRoot.{resolves}
use Rattle.irtext_grammar.specs.RootParts.{HasNoLabel}
use Rattle.irtext_grammar.specs.Back.{ClosedRoot}

-- ---- dictionaries without labels

no_label : {A : Type 0} (es : List (Text × Attribute A)) → KeepsRule block_may_hold es → HasNoLabel es
no_label [] h = refl
no_label (e ∷ es) h =
    let here = and_left (block_may_hold e.0 e.1) (list_all (λ e. block_may_hold e.0 e.1) es) h in
    ap₂ ◌&&◌ (and_right (may_hold e.0 e.1) (not (same_text e.0 block_label_key)) here) (no_label es (and_right (block_may_hold e.0 e.1) (list_all (λ e. block_may_hold e.0 e.1) es) h))

module _ {T A : Type 0} where
  abbrev Unlabelled : GraphBlock T A → Type 0
  Unlabelled h = HasNoLabel h.attributes

  mutual
    regions_free : (rs : Regions (GraphOp T A) (GraphBlock T A) ⊤) → AllRegions OpKeepsKeys BlockKeepsKeys (λ r. ⊤) rs → AllRegions (λ o. ⊤) Unlabelled (λ r. ⊤) rs
    regions_free no_regions h = tt
    regions_free (region r bs rs) h = (tt, blocks_free bs h.1, regions_free rs h.2)

    blocks_free : (bs : Blocks (GraphOp T A) (GraphBlock T A) ⊤) → AllBlocks OpKeepsKeys BlockKeepsKeys (λ r. ⊤) bs → AllBlocks (λ o. ⊤) Unlabelled (λ r. ⊤) bs
    blocks_free no_blocks h = tt
    blocks_free (block b os bs) h = (no_label b.attributes h.0, operations_free os h.1, blocks_free bs h.2)

    operations_free : (os : Operations (GraphOp T A) (GraphBlock T A) ⊤) → AllOperations OpKeepsKeys BlockKeepsKeys (λ r. ⊤) os → AllOperations (λ o. ⊤) Unlabelled (λ r. ⊤) os
    operations_free no_operations h = tt
    operations_free (operation o rs os) h = (tt, regions_free rs h.1, operations_free os h.2)

-- ---- formats

-- the format of an operation of a tree is accepted, where an operation of a graph with the same id fits it
module _ {P T A : Type 0} (L : Language P T A) (C : Printing T A) (formats : (i : Id) → L.format_of i ≡ C.format_of i) (isolated : Id → Bool) where
  pub accepted_at : (o : GraphOp T A) (x : Op P T A) (n : ℕ) → FitsFormat C isolated (C.format_of o.id) o n → o.id ≡ x.id → KnownAccepted L x
  accepted_at o x n h e f known = of (C.format_of o.id) h f (ap C.format_of e ∙ (sym (formats x.id) ∙ known))
    where
      same : (a b : Format) → Some a ≡ Some b → a ≡ b
      same a b q = cc

      here : (f : Format) → FitsFormat C isolated (Some f) o n → Accepted f
      here format.canonical h = refl
      here (format.custom ds) h = h.0

      of : (known : Option Format) → FitsFormat C isolated known o n → (f : Format) → known ≡ Some f → Accepted f
      of None h f q = absurd h
      of (Some y) h f q = subst Accepted (same y f q) (here y h)

module _ {P T A X : Type 0} (L : Language P T A) (none : NoneLeftOut L) (C : Printing T A) (formats : (i : Id) → L.format_of i ≡ C.format_of i) (isolated : Id → Bool) (first : P → X) (es : List (Entry P A X)) where
  abbrev Facts : Type 0
  Facts = List (Fact closed.Thing)

  mutual
    regions_accepted : (v : Facts) (w : List (Fact Text)) (p q : Path) (i j : ℕ) (a b : Bool) (rs : Regions (GraphOp T A) (GraphBlock T A) ⊤) (xs : Regions (Op P T A) (Head P T A) (Brace P)) → FitRegions C isolated rs
        → MatchRegions RepresentsOp RepresentsBlock (λ r s. ⊤) (resolved_regions C isolated v p i a rs) (built_regions isolated first es w q j b xs) → AllRegions (KnownAccepted L) (λ h. ⊤) (λ r. ⊤) xs
    regions_accepted v w p q i j a b rs no_regions f m = tt
    regions_accepted v w p q i j a b no_regions (region y ys xs) f m = absurd m
    regions_accepted v w p q i j a b (region r bs rs) (region y ys xs) f m = (tt, blocks_accepted _ _ _ _ (i ∷ p) (j ∷ q) 0 0 bs ys f.0 m.1, regions_accepted v w p q (suc i) (suc j) a b rs xs f.1 m.2)

    blocks_accepted : (v u : Facts) (w l : List (Fact Text)) (p q : Path) (i j : ℕ) (bs : Blocks (GraphOp T A) (GraphBlock T A) ⊤) (xs : Blocks (Op P T A) (Head P T A) (Brace P)) → FitBlocks C isolated bs
        → MatchBlocks RepresentsOp RepresentsBlock (λ r s. ⊤) (resolved_blocks C isolated v u p i bs) (built_blocks isolated first es w l q j xs) → AllBlocks (KnownAccepted L) (λ h. ⊤) (λ r. ⊤) xs
    blocks_accepted v u w l p q i j bs no_blocks f m = tt
    blocks_accepted v u w l p q i j no_blocks (block h ys xs) f m = absurd m
    blocks_accepted v u w l p q i j (block b os bs) (block h ys xs) f m = (tt, operations_accepted v u w l (i ∷ p) (j ∷ q) 0 0 os ys f.0 m.1, blocks_accepted v u w l p q (suc i) (suc j) bs xs f.1 m.2)

    operations_accepted : (v u : Facts) (w l : List (Fact Text)) (p q : Path) (i j : ℕ) (os : Operations (GraphOp T A) (GraphBlock T A) ⊤) (xs : Operations (Op P T A) (Head P T A) (Brace P)) → FitOperations C isolated os
        → MatchOperations RepresentsOp RepresentsBlock (λ r s. ⊤) (resolved_operations C isolated v u p i os) (built_operations isolated first es w l q j xs) → AllOperations (KnownAccepted L) (λ h. ⊤) (λ r. ⊤) xs
    operations_accepted v u w l p q i j os no_operations f m = tt
    operations_accepted v u w l p q i j no_operations (operation x ys xs) f m = absurd m
    operations_accepted v u w l p q i j (operation o rs os) (operation x ys xs) f m = (
      accepted_at L C formats isolated o x (length (regions_list rs)) f.0 m.0.shape.id,
      regions_accepted v w (i ∷ p) (j ∷ q) 0 0 (isolated o.id) (isolated x.id) rs ys f.1 m.1,
      operations_accepted v u w l p q (suc i) (suc j) os xs f.2 m.2,
    )

  -- the formats in a parsed tree are accepted, if a root that represents the tree fits
  all_accepted : (t : Tree P T A) (g : Graph T A) → Fit C isolated g → Represents (resolved_root C isolated g) (build isolated first es t) → AllAccepted L t
  all_accepted t g f s = (
    accepted_at L C formats isolated g.own t.own (length (regions_list g.regions)) f.0 s.0.shape.id,
    regions_accepted [] [] [] [] 0 0 (isolated g.own.id) (isolated t.own.id) g.regions t.regions f.1 s.1,
  )

module _ {P T A X : Type 0} (L : Language P T A) (none : NoneLeftOut L) (C : Printing T A) (formats : (i : Id) → L.format_of i ≡ C.format_of i) (isolated : Id → Bool) (first : P → X) where
  -- a root that was parsed and fits is closed, and all that can have a name has one
  pub closed_where_read : (t : Tree P T A) (es : List (Entry P A X)) (g : Graph T A) (source rest : Text) → reads L t source rest → failures_of isolated t es ≡ []
      → Represents (resolved_root C isolated g) (build isolated first es t) → Distinct C isolated g → Fit C isolated g → ClosedRoot C isolated g × Named C g
  closed_where_read t es g source rest r e s d fit =
      let f = formed_read L none t source rest (all_accepted L none C formats isolated first es t g fit s) r in
      let q = resolves isolated t es (whole L none t source rest r) e in
      let h = all_there isolated first es t f (does_all (section_acts (rule_of t) es) done) e in
      let keys = built_kept C isolated first es g t s f q in (
        record {
          closed = represents_closed C isolated g (build isolated first es t) s h d (no_results C isolated first es g t s f q) (no_operands C isolated first es g t s f q) (no_successors C isolated first es g t s f q) (isolated_if C isolated first es g t s f q);
          fits = fit;
          unlabelled = regions_free g.regions keys.1;
        },
        built_named C isolated first es g t s f q,
      )
