-- An operation that was parsed with all that nests in it, with no section, where marks may have been recorded before: the text parses as a
-- tree, which resolves by itself; what it builds is under the pointer, and only that is new; and its marks are recorded after the others.
use Rattle.std.proofs.Common.{◌≡◌, ◌∙◌, ℕ, List, [], ◌++◌, Option, Some, None, sym, ap, subst, append-nil}
use Rattle.std.specs.Prelude.{IfSome}
use Rattle.irtext_base.specs.Text.{Text}
use Rattle.irtext_base.specs.Format.{Format, Id, Accepted}
use Rattle.irtext_base.specs.Answers.{Outcome}
use Rattle.irtext_base.specs.Own.{texts_of}
use Rattle.irtext_base.specs.Paths.{Written}
use Rattle.irtext_base.specs.declared.location.Location.{Location}
use Rattle.irtext_context.specs.Context.{ContextView}
use Rattle.irtext_context.specs.Dialects.{Table}
use Rattle.irtext_graph.specs.declared.arena.Ptr.{Ptr}
use Rattle.irtext_graph.specs.declared.object.Operation.{Operation}
use Rattle.irtext_tokens.specs.AttrTexts.{attr_at}
use Rattle.irtext_grammar.specs.Contexts.Formats.{format_of, isolated, IsAccepted}
use Rattle.irtext_grammar.specs.Contexts.Held.{location_over}
use Rattle.irtext_grammar.specs.Contexts.Nested.{pointers}
use Rattle.irtext_grammar.specs.Grammar.Forest.{operation, no_operations}
use Rattle.irtext_grammar.specs.Grammar.Reads as grammar
use Rattle.irtext_grammar.specs.Grammar.Section.{Entry}
use Rattle.irtext_grammar.specs.Grammar.Tree.{Tree}
use Rattle.irtext_grammar.specs.Graphs.Build.{build}
use Rattle.irtext_grammar.specs.Graphs.Links.{links}
use Rattle.irtext_grammar.specs.Names.Acts.{tree_script, failures_of}
use Rattle.irtext_grammar.specs.Names.History as history
use Rattle.irtext_grammar.specs.Names.History.{going, start, run, events, after}
use Rattle.irtext_grammar.specs.Names.Script.{Path, done}
use Rattle.irtext_grammar.specs.Names.TextScopes.{Script, facts}
use Rattle.irtext_grammar.proofs.Grammar.PartsOfFormats.{Formed, each_accepted, formed_read}
use Rattle.irtext_grammar.proofs.Grammar.WholeTree as trees
use Rattle.irtext_grammar.proofs.Names.InScripts.{WholeOperations}
use Rattle.irtext_grammar.proofs.Names.TreeClaims.{root_entryless}
use Rattle.irtext_grammar.proofs.Joins.Answers.{Splits}
use Rattle.irtext_grammar.specs.Exact.{NeedsWord}
use Rattle.irtext_grammar.specs.Naming.{naming, Names}
use Rattle.irtext_grammar.specs.Reached.{Advanced}
use Rattle.irtext_grammar.proofs.Knot.Whole as knot
use Rattle.irtext_grammar.proofs.Naming.Places.{names_exist}
use Rattle.irtext_grammar.proofs.Naming.Scripts.{read_runs}
use Rattle.irtext_grammar.proofs.Naming.Shorter.{Shortens}
use Rattle.irtext_grammar.specs.Building.{Building, building, nothing_open, finished}
use Rattle.irtext_grammar.proofs.Built.{tree_finished}
use Rattle.irtext_grammar.proofs.Whole.{whole_read}
use Rattle.irtext_names.specs.Linked.{NamesAgree}
use Rattle.irtext_names.proofs.Linked.Passes.{ran_through}
use Rattle.irtext_names.specs.Held.{held_root, placed_under}
use Rattle.irtext_names.specs.Leaves.{MachineFrom, LeavesTree, LeavesClosed}
use Rattle.irtext_names.specs.OnlyNew.{OnlyNew}
use Rattle.irtext_names.specs.Placed.{RootIs}
use Rattle.irtext_names.specs.Promises.{start_with, tree_marks}
use Rattle.irtext_names.proofs.AfterTree.{values_shut, labels_shut}
use Rattle.irtext_names.proofs.Builds as builds
use Rattle.irtext_names.proofs.Equal.{Keeps}
use Rattle.irtext_names.proofs.FewerMarks.{ran_without}
use Rattle.irtext_names.proofs.News.{only_new}

-- where two texts were processed alike, the states after them are the same
pub came_same : {X S : Type 0} (x y : X) (s t : S) (a b : Text) → Advanced x s a ≡ Advanced y t b → s ≡ t
came_same x y s t a b e = cc

pub finished_same : {T A : Type 0} (x y : Tree ℕ T A) → finished x ≡ finished y → x ≡ y
finished_same x y e = let f = ap (λ (b : Building _ _). b.tree) e in some_same x y f
  where
    some_same : {X : Type 0} (x y : X) → Some x ≡ Some y → x ≡ y
    some_same x y f = cc

-- a format that is known is accepted
pub accepts : (o : Option Format) (f : Format) → IfSome o Accepted → o ≡ Some f → Accepted f
accepts None f h e = absurd (cc)
accepts (Some g) f h e = let same : g ≡ f = cc in subst Accepted same h

module _ {T A : Type 0} (types_at : Text → Outcome T) (types_written : T → Text) (reading : Text → Outcome A) (written : A → Text) (dialects : List (Text × Table)) (types_split : Splits types_at) (splits : Splits reading) (words : NeedsWord reading)
    (short_types : Shortens (texts_of types_at types_written)) (short_owns : Shortens (texts_of reading written)) (accepted : (id : Id) → IsAccepted dialects id)
    (L : ℕ → Location A → Type 0) (op : Ptr Operation) (earlier marks : List ℕ) (old new : ContextView T A) (text rest : Text) (leaves : LeavesTree types_at (attr_at reading) dialects earlier L op marks old new text rest) where
  -- the text parses as the tree
  pub reads_tree : grammar.reads (knot.L types_at types_written reading written dialects) leaves.tree text rest
  reads_tree =
      let types = texts_of types_at types_written in
      let owns = texts_of reading written in
      let x = knot.tree_read types_at types_written reading written dialects types_split splits (building (format_of dialects)) accepted text nothing_open (finished leaves.tree) rest leaves.built in
      let e = x.2 ∙ tree_finished (format_of dialects) (isolated dialects) x.0 (whole_read types owns (format_of dialects) x.0 text rest x.1) in
      subst (λ z. grammar.reads (knot.L types_at types_written reading written dialects) z text rest) (sym (finished_same leaves.tree x.0 e)) x.1

  pub formed : Formed leaves.tree
  formed = formed_read (knot.L types_at types_written reading written dialects) (λ p q h. h) leaves.tree text rest
      (each_accepted (knot.L types_at types_written reading written dialects) (λ id f e. accepts (format_of dialects id) f (accepted id) e) leaves.tree) reads_tree

  pub named : (path : ℕ → Path) × Names path leaves.tree
  named = names_exist (texts_of types_at types_written) (texts_of reading written) (format_of dialects) short_types short_owns leaves.tree text rest reads_tree

  pub whole_tree : WholeOperations (operation leaves.tree.own leaves.tree.regions no_operations)
  whole_tree = trees.whole (knot.L types_at types_written reading written dialects) (λ p q h. h) leaves.tree text rest reads_tree

  -- what it does with names
  abbrev script : Script
  script = tree_script (isolated dialects) leaves.tree done

  abbrev pub following : MachineFrom types_at (attr_at reading) dialects earlier leaves.items marks new text rest named.0
  following = leaves.machine named.0

  -- the machine ran the tree's script without failure
  ran : run (going (start_with earlier)) (events script) ≡ going following.state
  ran =
      let found = knot.tree_found types_at types_written reading written dialects types_split splits (naming (format_of dialects) named.0) words leaves.tree text rest (going (start_with earlier)) reads_tree in
      let runs = read_runs (texts_of types_at types_written) (texts_of reading written) (format_of dialects) named.0 (isolated dialects) leaves.tree text rest named.1 reads_tree (going (start_with earlier)) in
      let comes = knot.tree_comes types_at types_written reading written dialects types_split splits (naming (format_of dialects) named.0) words accepted text (going (start_with earlier)) (going following.state) rest following.came in
      sym runs ∙ came_same tt tt _ _ rest rest (sym found ∙ comes)

  -- so it does where nothing was marked
  alone : (st : history.State) × (run (going start) (events script) ≡ going st) × (following.state ≡ record st { marks = earlier ++ st.marks })
  alone = ran_without earlier script start following.state (root_entryless (isolated dialects) leaves.tree whole_tree) (ap (λ ms. run (going (start_with ms)) (events script)) (append-nil earlier) ∙ ran)

  stopped : alone.0 ≡ after start (facts script)
  stopped = (ran_through script alone.0 alone.1).1

  agreed : NamesAgree following.names new.graph following.known [] alone.0
  agreed = subst (λ z. NamesAgree following.names new.graph following.known [] z) alone.2 following.agreed

  -- it resolves
  pub tree_resolves : failures_of {X = Written A} (isolated dialects) leaves.tree [] ≡ []
  tree_resolves = (ran_through script alone.0 alone.1).0

  -- no scope is open
  pub no_values : following.names.values ≡ []
  no_values = values_shut following.names new.graph following.known [] alone.0 agreed (ap (λ (z : history.State). z.values) stopped)

  pub no_labels : following.names.labels ≡ []
  no_labels = labels_shut following.names new.graph following.known [] alone.0 agreed (ap (λ (z : history.State). z.labels) stopped)

  -- its marks are recorded after the earlier ones
  pub marks_are : marks ≡ earlier ++ tree_marks dialects leaves.tree
  marks_are = sym following.marked ∙ ap (λ (z : history.State). z.marks) alone.2 ∙ ap (λ (z : history.State). earlier ++ z.marks) stopped

  module _ (closed : LeavesClosed old new) (first : ℕ → Written A) where
    -- the forest of pointers is the tree's
    pub is_tree : RootIs L new leaves.items (pointers new.graph op) leaves.tree
    is_tree = builds.is_tree L old new leaves.items leaves.whole op leaves.tree leaves.held closed.nest named.0 named.1 first (isolated dialects) formed following.names following.known following.are alone.0 agreed alone.1

    -- each of the links that it builds is in the context
    pub keeps : (es : List (Entry ℕ A (Written A))) → Keeps new first es (isolated dialects) (placed_under (pointers new.graph op)) (links (build (isolated dialects) first es leaves.tree))
    keeps = builds.keeps L old new leaves.items leaves.whole op leaves.tree leaves.held closed.nest named.0 named.1 first (isolated dialects) formed following.names following.known following.are alone.0 agreed alone.1

    module _ (tells : (n : ℕ) (l : Location A) → L n l → location_over new.paths l ≡ first n) where
      -- what it builds is under the pointer
      pub tree_builds : held_root new op ≡ Some (build (isolated dialects) first [] leaves.tree)
      tree_builds = builds.builds L old new leaves.items leaves.whole op leaves.tree leaves.held closed.nest named.0 named.1 first (isolated dialects) formed following.names following.known following.are alone.0 agreed alone.1 tells

      -- and only that is new
      pub tree_only : OnlyNew op old new
      tree_only = only_new L old new leaves.items leaves.whole op leaves.tree leaves.held closed.nest is_tree (build (isolated dialects) first [] leaves.tree) tree_builds
          (builds.linked L old new leaves.items leaves.whole op leaves.tree leaves.held closed.nest named.0 named.1 first (isolated dialects) formed following.names following.known following.are alone.0 agreed alone.1)
          old.graph.made closed.older closed.kept closed.none closed.blanks closed.holders named.0 named.1
