-- The failures of a root and its section, from what the parsers of the operation and of the section leave, or from their errors.
use Rattle.std.proofs.Common.{◌≡◌, ◌∙◌, ℕ, List, [], ◌++◌, sym, ap, subst}
use Rattle.irtext_base.specs.Text.{Text}
use Rattle.irtext_base.specs.Format.{Id}
use Rattle.irtext_base.specs.Own.{texts_of}
use Rattle.irtext_base.specs.Paths.{Written}
use Rattle.irtext_base.specs.Stream.{StreamView}
use Rattle.irtext_base.specs.declared.location.Location.{Location}
use Rattle.irtext_base.specs.declared.parsable.fault.ParseFault.{ParseFault}
use Rattle.irtext_base.specs.Answers.{Outcome}
use Rattle.irtext_context.specs.Context.{ContextView}
use Rattle.irtext_context.specs.Dialects.{Table}
use Rattle.irtext_graph.specs.declared.arena.Ptr.{Ptr}
use Rattle.irtext_graph.specs.declared.object.Operation.{Operation}
use Rattle.irtext_tokens.specs.AttrTexts.{attr_at}
use Rattle.irtext_grammar.specs.Contexts.Formats.{format_of, isolated, IsAccepted}
use Rattle.irtext_grammar.specs.Contexts.Held.{whole}
use Rattle.irtext_grammar.specs.Grammar.Forest.{operation, no_operations}
use Rattle.irtext_grammar.specs.Grammar.Marked.{marked, section_if, reads_root}
use Rattle.irtext_grammar.specs.Grammar.Reads as grammar
use Rattle.irtext_grammar.specs.Grammar.Section.{Entry}
use Rattle.irtext_grammar.specs.Grammar.Tree.{Tree}
use Rattle.irtext_grammar.specs.Names.Acts.{rule_of, failures_of}
use Rattle.irtext_grammar.proofs.Names.InScripts.{WholeOperations}
use Rattle.irtext_grammar.specs.Promises.Section.{is_noted}
use Rattle.irtext_grammar.specs.Promises.Supported.{location_verdict}
use Rattle.irtext_grammar.proofs.Joins.Answers.{Splits}
use Rattle.irtext_grammar.specs.Exact.{NeedsWord}
use Rattle.irtext_grammar.specs.Reached.{Advanced}
use Rattle.irtext_grammar.proofs.Knot.Whole as knot
use Rattle.irtext_grammar.proofs.Naming.Shorter.{Shortens}
use Rattle.irtext_grammar.specs.Building.{building, nothing_open, finished}
use Rattle.irtext_grammar.proofs.Built.{tree_finished}
use Rattle.irtext_grammar.proofs.Whole.{whole_read}
use Rattle.irtext_names.specs.Leaves.{LeavesTree}
use Rattle.irtext_names.specs.Promises.{IsFirst, HasFault, RefusesRoot, tree_marks}
use Rattle.irtext_names.specs.WithSection.{refused}
use Rattle.irtext_names.proofs.Kept as kept
use Rattle.irtext_names.proofs.Refuses.{refuses_root}
use Rattle.irtext_names.proofs.WithSection.{section_alone, tree_noted}

came_with : {X S : Type 0} (x y : X) (s t : S) (a b : Text) → Advanced x s a ≡ Advanced y t b → (s ≡ t) × (a ≡ b)
came_with x y s t a b e = (cc, cc)

module _ {T A : Type 0} (types_at : Text → Outcome T) (types_written : T → Text) (reading : Text → Outcome A) (written : A → Text) (dialects : List (Text × Table)) (types_split : Splits types_at) (splits : Splits reading) (words : NeedsWord reading)
    (short_types : Shortens (texts_of types_at types_written)) (short_owns : Shortens (texts_of reading written)) (accepted : (id : Id) → IsAccepted dialects id) where
  -- the tree that a text parses as is one, and so is what it leaves
  pub one_tree : (x y : Tree ℕ T A) (text a b : Text) → grammar.reads (knot.L types_at types_written reading written dialects) x text a → grammar.reads (knot.L types_at types_written reading written dialects) y text b → (x ≡ y) × (a ≡ b)
  one_tree x y text a b r q =
      let types = texts_of types_at types_written in
      let owns = texts_of reading written in
      let found = λ (z : Tree ℕ T A) (rest : Text) (k : grammar.reads (knot.L types_at types_written reading written dialects) z text rest).
      knot.tree_found types_at types_written reading written dialects types_split splits (building (format_of dialects)) words z text rest nothing_open k
      ∙ ap (λ s. Advanced tt s rest) (tree_finished (format_of dialects) (isolated dialects) z (whole_read types owns (format_of dialects) z text rest k)) in
      let e = came_with tt tt (finished x) (finished y) a b (sym (found x a r) ∙ found y b q) in
      (kept.finished_same x y e.0, e.1)

  module _ (L : ℕ → Location A → Type 0) (op : Ptr Operation) (earlier marks : List ℕ) (old mid : ContextView T A) (text rest : Text) (leaves : LeavesTree types_at (attr_at reading) dialects earlier L op marks old mid text rest) (none : earlier ≡ []) where
    abbrev reads_it : grammar.reads (knot.L types_at types_written reading written dialects) leaves.tree text rest
    reads_it = kept.reads_tree types_at types_written reading written dialects types_split splits words short_types short_owns accepted L op earlier marks old mid text rest leaves

    abbrev whole_tree : WholeOperations (operation leaves.tree.own leaves.tree.regions no_operations)
    whole_tree = kept.whole_tree types_at types_written reading written dialects types_split splits words short_types short_owns accepted L op earlier marks old mid text rest leaves

    -- the recorded marks are those of the tree
    pub marks_alone : marks ≡ tree_marks dialects leaves.tree
    marks_alone = kept.marks_are types_at types_written reading written dialects types_split splits words short_types short_owns accepted L op earlier marks old mid text rest leaves ∙ ap (λ ms. ms ++ tree_marks dialects leaves.tree) none

    -- whether its section is looked for is whether a mark was recorded
    pub marked_noted : is_noted marks ≡ marked leaves.tree
    marked_noted = ap is_noted marks_alone ∙ tree_noted (isolated dialects) leaves.tree whole_tree

    -- the failures of a section after it are the failures of both
    pub section_failures : (es : List (Entry ℕ A (Written A))) → failures_of (isolated dialects) leaves.tree es ≡ refused marks (rule_of leaves.tree) es
    section_failures es =
        section_alone (isolated dialects) leaves.tree es whole_tree (kept.tree_resolves types_at types_written reading written dialects types_split splits words short_types short_owns accepted L op earlier marks old mid text rest leaves)
        ∙ ap (λ ms. refused ms (rule_of leaves.tree) es) (sym marks_alone)

    -- a fault of the section is the first failure of whatever the text parses as
    pub section_refuses : (all : Text) (fault : ParseFault A)
        → ((es : List (Entry ℕ A (Written A))) (left : Text) → section_if (knot.L types_at types_written reading written dialects) (location_verdict (attr_at reading)) (marked leaves.tree) es rest left → IsFirst all (refused marks (rule_of leaves.tree) es) fault)
        → (x : Tree ℕ T A) (es : List (Entry ℕ A (Written A))) (left : Text) → reads_root (knot.L types_at types_written reading written dialects) (location_verdict (attr_at reading)) x es text left → IsFirst all (failures_of (isolated dialects) x es) fault
    section_refuses all fault first x es left (between, r, s) =
        let same = one_tree leaves.tree x text rest between reads_it r in
        let moved = subst (λ z. section_if (knot.L types_at types_written reading written dialects) (location_verdict (attr_at reading)) (marked leaves.tree) es z left) (sym same.1)
        (subst (λ z. section_if (knot.L types_at types_written reading written dialects) (location_verdict (attr_at reading)) (marked z) es between left) (sym same.0) s) in
        subst (λ z. IsFirst all (failures_of (isolated dialects) z es) fault) same.0 (subst (λ fs. IsFirst all fs fault) (sym (section_failures es)) (first es left moved))

module _ {T A : Type 0} (types_at : Text → Outcome T) (types_written : T → Text) (reading : Text → Outcome A) (written : A → Text) (dialects : List (Text × Table)) (types_split : Splits types_at) (splits : Splits reading) (words : NeedsWord reading)
    (short_types : Shortens (texts_of types_at types_written)) (short_owns : Shortens (texts_of reading written)) where
  -- if the operation itself is an error, whatever root the text parses as has this failure first
  pub root_refused : (old : StreamView) (fault : ParseFault A) → HasFault {T = T} types_at (attr_at reading) dialects [] (whole old) old.rest fault → RefusesRoot (texts_of types_at types_written) (texts_of reading written) types_at (attr_at reading) dialects old fault
  root_refused old fault h = record {
    first = λ tree es rest (between, r, s). refuses_root types_at types_written reading written dialects types_split splits words short_types short_owns old fault h tree es between r;
  }

  -- and if it was parsed, and the section after it is an error
  pub root_refused_after : ((id : Id) → IsAccepted dialects id) → (L : ℕ → Location A → Type 0) (op : Ptr Operation) (earlier marks : List ℕ) (before mid : ContextView T A) (old : StreamView) (rest : Text) (leaves : LeavesTree types_at (attr_at reading) dialects earlier L op marks before mid old.rest rest) → earlier ≡ [] → (fault : ParseFault A)
      → ((es : List (Entry ℕ A (Written A))) (left : Text) → section_if (knot.L types_at types_written reading written dialects) (location_verdict (attr_at reading)) (marked leaves.tree) es rest left → IsFirst (whole old) (refused marks (rule_of leaves.tree) es) fault)
      → RefusesRoot (texts_of types_at types_written) (texts_of reading written) types_at (attr_at reading) dialects old fault
  root_refused_after accepted L op earlier marks before mid old rest leaves none fault first = record {
    first = λ tree es left h. section_refuses types_at types_written reading written dialects types_split splits words short_types short_owns accepted L op earlier marks before mid old.rest rest leaves none (whole old) fault first tree es left h;
  }
