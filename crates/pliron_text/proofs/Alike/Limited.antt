-- The text of a root that was printed under a limit parses as nothing where a region was left out, in any context that knows the operations
-- of the root alike.
use Rattle.std.specs.Prelude.{◌≡◌, ◌++◌, ◌<◌, ◌^◌, ◌+◌, ℕ, Bool, true, false, cond, List, [], length, refl, ⊤, codes}
use Rattle.std.proofs.Common.{inr, inl, ap, sym, subst, ◌∙◌, append-nil}
use Rattle.irtext_base.specs.Answers.{Outcome}
use Rattle.irtext_base.specs.Format.{Id}
use Rattle.irtext_base.specs.Locations.{AttrView}
use Rattle.irtext_base.specs.Own.{Texts, Lawful, Unreserved, language, unplaced}
use Rattle.irtext_base.specs.Paths.{Written}
use Rattle.irtext_base.specs.Reading.{literal}
use Rattle.irtext_base.specs.Text.{Text}
use Rattle.irtext_context.specs.Dialects.{Table}
use Rattle.irtext_grammar.specs.Back.{IsTextOf}
use Rattle.irtext_grammar.specs.Contexts.Formats.{format_of}
use Rattle.irtext_grammar.specs.Grammar.Bare.{bare, bare_regions, bare_blocks, bare_operations}
use Rattle.irtext_grammar.specs.Grammar.Forest.{Regions, no_regions, region, Blocks, no_blocks, block, Operations, no_operations, operation, AllRegions, AllBlocks, AllOperations}
use Rattle.irtext_grammar.specs.Grammar.Marked.{AllShown, reads_root}
use Rattle.irtext_grammar.specs.Grammar.Reads.{reads}
use Rattle.irtext_grammar.specs.Grammar.Section.{Entry}
use Rattle.irtext_grammar.specs.Grammar.Tree.{Op, Head, Brace, Tree, shown, elided}
use Rattle.irtext_grammar.specs.Graphs.Graph.{Graph, GraphOp, GraphBlock, Limit, Printing, inside, is_elided, op_outlined, block_outlined, own_marks, marks_in_regions, marks_in_blocks, marks_in_operations, tree_regions, tree_blocks, tree_operations, written, entries_of}
use Rattle.irtext_grammar.specs.Promises.Supported.{supported, location_verdict}
use Rattle.irtext_grammar.specs.Spelling.Section.{section}
use Rattle.irtext_grammar.specs.Spelling.Spell.{spelled}
use Rattle.irtext_grammar.proofs.Grammar.BackTree as back
use Rattle.irtext_grammar.proofs.Grammar.Lenient.{lenient, lenient_reads, bare_all_shown}
use Rattle.irtext_grammar.proofs.Grammar.Placed as placed
use Rattle.irtext_grammar.proofs.Grammar.Unique as unique
use Rattle.irtext_grammar.proofs.Graphs.WrittenSpellable.{written_fine_at}
use Rattle.irtext_grammar.proofs.Lengths.{small_marks}
use Rattle.irtext_grammar.proofs.Sections.AfterRoot.{section_after}
use Rattle.pliron_text.specs.Alike.{IsKnownAlike, AreKnownAlike}
use Rattle.pliron_text.proofs.Alike.Reads.{AlikeTree, alike_reads}

module _ {T A : Type 0} (P : Id → Type 0) where
  -- what holds of the id of each operation of a graph, and of a tree
  abbrev OfGraph : Regions (GraphOp T A) (GraphBlock T A) ⊤ → Type 0
  OfGraph = AllRegions (λ o. P o.id) (λ h. ⊤) (λ r. ⊤)

  abbrev OfGraphBlocks : Blocks (GraphOp T A) (GraphBlock T A) ⊤ → Type 0
  OfGraphBlocks = AllBlocks (λ o. P o.id) (λ h. ⊤) (λ r. ⊤)

  abbrev OfGraphOperations : Operations (GraphOp T A) (GraphBlock T A) ⊤ → Type 0
  OfGraphOperations = AllOperations (λ o. P o.id) (λ h. ⊤) (λ r. ⊤)

  abbrev OfTree : {Q : Type 0} → Regions (Op Q T A) (Head Q T A) (Brace Q) → Type 0
  OfTree = AllRegions (λ o. P o.id) (λ h. ⊤) (λ r. ⊤)

  abbrev OfTreeBlocks : {Q : Type 0} → Blocks (Op Q T A) (Head Q T A) (Brace Q) → Type 0
  OfTreeBlocks = AllBlocks (λ o. P o.id) (λ h. ⊤) (λ r. ⊤)

  abbrev OfTreeOperations : {Q : Type 0} → Operations (Op Q T A) (Head Q T A) (Brace Q) → Type 0
  OfTreeOperations = AllOperations (λ o. P o.id) (λ h. ⊤) (λ r. ⊤)

  module _ (C : Printing T A) where
    either : (b : Bool) (xs ys : Regions (Op ⊤ T A) (Head ⊤ T A) (Brace ⊤)) → OfTree xs → OfTree ys → OfTree (cond b xs ys)
    either true xs ys p q = p
    either false xs ys p q = q

    -- it holds of what is printed of the graph
    mutual
      of_regions : (l : Limit) (n : ℕ) (rs : Regions (GraphOp T A) (GraphBlock T A) ⊤) → OfGraph rs → OfTree (tree_regions C l n rs)
      of_regions l n no_regions a = tt
      of_regions l n (region r bs rs) a =
          either (is_elided C l) (region elided no_blocks (tree_regions C l n rs)) (region (shown tt) (tree_blocks C (inside C l) n bs) (tree_regions C l (n + marks_in_blocks C (inside C l) bs) rs))
          (tt, tt, of_regions l n rs a.2) (tt, of_blocks (inside C l) n bs a.1, of_regions l (n + marks_in_blocks C (inside C l) bs) rs a.2)

      of_blocks : (l : Limit) (n : ℕ) (bs : Blocks (GraphOp T A) (GraphBlock T A) ⊤) → OfGraphBlocks bs → OfTreeBlocks (tree_blocks C l n bs)
      of_blocks l n no_blocks a = tt
      of_blocks l n (block h os bs) a =
          let m = n + own_marks C h.location (block_outlined C h) in
          (tt, of_operations l m os a.1, of_blocks l (m + marks_in_operations C l os) bs a.2)

      of_operations : (l : Limit) (n : ℕ) (os : Operations (GraphOp T A) (GraphBlock T A) ⊤) → OfGraphOperations os → OfTreeOperations (tree_operations C l n os)
      of_operations l n no_operations a = tt
      of_operations l n (operation o rs os) a =
          let m = n + marks_in_regions C l rs in
          (a.0, of_regions l n rs a.1, of_operations l (m + own_marks C o.location (op_outlined C o)) os a.2)

  module _ {Q : Type 0} where
    -- what holds of a tree without its places holds of the tree
    mutual
      from_regions : (rs : Regions (Op Q T A) (Head Q T A) (Brace Q)) → OfTree (bare_regions rs) → OfTree rs
      from_regions no_regions a = tt
      from_regions (region r bs rs) a = (tt, from_blocks bs a.1, from_regions rs a.2)

      from_blocks : (bs : Blocks (Op Q T A) (Head Q T A) (Brace Q)) → OfTreeBlocks (bare_blocks bs) → OfTreeBlocks bs
      from_blocks no_blocks a = tt
      from_blocks (block h os bs) a = (tt, from_operations os a.1, from_blocks bs a.2)

      from_operations : (os : Operations (Op Q T A) (Head Q T A) (Brace Q)) → OfTreeOperations (bare_operations os) → OfTreeOperations os
      from_operations no_operations a = tt
      from_operations (operation o rs os) a = (a.0, from_regions rs a.1, from_operations os a.2)

  -- what holds of the ids of a root's operations holds of those of a tree that is printed of it
  printed_ids : {Q : Type 0} (C : Printing T A) (l : Limit) (g : Graph T A) (t : Tree Q T A) → bare t ≡ written C l g → P g.own.id × OfGraph g.regions → P t.own.id × OfTree t.regions
  printed_ids C l g t is a =
      let printed : P (bare t).own.id × OfTree (bare t).regions = subst (λ (z : Tree ⊤ T A). P z.own.id × OfTree z.regions) (sym is) (a.0, of_regions C l 0 g.regions a.1) in
      (printed.0, from_regions t.regions printed.1)

-- the text parses as nothing by the dialects e, which know the operations of the root as d do
pub limited_refused_there : {T A : Type 0} (types : Texts T) (owns : Texts A) → Lawful T types → Lawful A owns → Unreserved A owns → (attr : Text → Outcome (AttrView A)) (C : Printing T A) (d e : List (Text × Table)) → C.format_of ≡ format_of d
    → (isolated : Id → Bool) (g : Graph T A) → AreKnownAlike e d g → (width n : ℕ) (limit : Limit) (t rest : Text) (tree : Tree ℕ T A) (entries : List (Entry ℕ A (Written A)))
    → IsTextOf types owns attr C isolated g width n limit t → (AllShown (written C limit g) → ⊥) → reads_root (supported e types owns) (location_verdict attr) tree entries t rest → ⊥
limited_refused_there types owns types_law owns_law unreserved attr C d e formats isolated x known width n limit t u tree entries printed left a =
    let here = language types owns C.format_of in
    let there = supported e types owns in
    let l = unplaced types owns C.format_of in
    let y = written C limit x in
    let s = section l C (entries_of C limit x) in
    let z = spelled l width n y ++ (s ++ []) in
    let few = subst (λ (z : List ℕ). length z < 2 ^ 64) printed.is printed.few in
    let fine = written_fine_at C isolated (lenient l) (λ i. refl) limit (inr (λ f. refl)) x printed.kept.given printed.kept.label printed.kept.own printed.kept.inside (small_marks l C limit x width n few) printed.fits printed.kept.small in
    let r = back.root_reads_back (lenient l) types_law owns_law unreserved (λ p t. tt) width n y (s ++ []) fine (section_after C isolated (lenient l) (λ i. refl) limit x [] printed.fits (record { ends = inl refl; one = λ e. inl refl })) in
    let q = placed.placed (lenient here) length (λ t. refl) y z r.0 r.1 in
    let alike : AlikeTree d e q.0 = printed_ids (IsKnownAlike e d) C limit x q.0 q.2 known in
    let carried = alike_reads types owns d e (literal (codes "{..}")) q.0 alike z r.0 (subst (λ f. reads (lenient (language types owns f)) q.0 z r.0) formats q.1) in
    let whole = printed.is ∙ ap (λ v. spelled l width n y ++ v) (sym (append-nil s)) in
    let b = lenient_reads there (λ t u k. k) tree z a.0 (subst (λ v. reads there tree v a.0) whole a.1) in
    let same = unique.one_tree (lenient there) types_law owns_law (λ p q t e f. e ∙ sym f) (λ t u k. k) tree q.0 z a.0 r.0 b.0 carried in
    left (subst AllShown (ap bare same.0 ∙ q.2) (bare_all_shown tree b.1))
