-- A text whose roots are printed has none that is rejected or cannot be printed: each text parses as one row of roots, and what a root's tree
-- builds decides whether it can be printed.
use Rattle.std.proofs.Common.{◌≡◌, ◌∙◌, ℕ, zero, suc, true, false, true≢false, List, [], Bool, Some, IsSome, is_some, refl, sym, ap, subst}
use Rattle.std.specs.Str.{chars}
use Rattle.irtext_base.specs.Own.{Lawful}
use Rattle.irtext_base.specs.Paths.{Written}
use Rattle.irtext_base.specs.Stream.{StreamView}
use Rattle.irtext_base.specs.Text.{Text, after_space}
use Rattle.irtext_base.specs.declared.parsable.fault.ParseFault.{ParseFault}
use Rattle.irtext_base.specs.declared.text.AttrText as attr_text
use Rattle.irtext_base.specs.declared.text.IrText as ir_text
use Rattle.irtext_context.specs.Context.{ContextView, operation}
use Rattle.irtext_context.specs.Dialects.{Table}
use Rattle.irtext_graph.specs.declared.arena.Ptr.{Ptr}
use Rattle.irtext_graph.specs.declared.object.Operation.{Operation}
use Rattle.irtext_grammar.proofs.Grammar.UniqueRoot.{one_root}
use Rattle.irtext_grammar.specs.Contexts.Formats.{isolated}
use Rattle.irtext_grammar.specs.Grammar.Marked.{reads_root}
use Rattle.irtext_grammar.specs.Grammar.Section.{Entry}
use Rattle.irtext_grammar.specs.Grammar.Tree.{Tree}
use Rattle.irtext_grammar.specs.Graphs.Build.{build}
use Rattle.irtext_grammar.specs.Names.Acts.{failures_of}
use Rattle.irtext_grammar.specs.Promises.Root.{location_of}
use Rattle.irtext_grammar.specs.Promises.Supported.{supported, location_verdict}
use Rattle.irtext_grammar.specs.Contexts.Held.{whole}
use Rattle.irtext_names.specs.Held.{held_root, IsWhole}
use Rattle.irtext_names.specs.Promises.{IsFirst}
use Rattle.irtext_parse_root.specs.Parses.{texts, attr}
use Rattle.irtext_print.specs.declared.printable.refusal.Refusal.{Refusal}
use Rattle.irtext_print.specs.declared.printable.refusal.Refusal.TheVariants.{Misfit}
use Rattle.irtext_print_ops.specs.Heads as heads
use Rattle.irtext_stream.specs.Classes.{after_spaces}
use Rattle.irtext_formatter.proofs.Fitted.{TreeFault, shown_fault, tree_fault}
use Rattle.irtext_formatter.proofs.Stays.{RootStays, laid_stays}
use Rattle.pliron_text.specs.Unprinted.{plain}
use Rattle.irtext_formatter.specs.Rows.{follows, ReadsRoot, RefusesAt, HasRoot, GivesRoot, FailsHere, Rows, Rows.{none, more}, Formats, Formats.{empty, roots}, FailsAfter}
use Rattle.irtext_formatter.specs.declared.fault.Fault as fault
use Rattle.irtext_formatter.specs.declared.fault.Fault.TheVariants as of_fault
use Rattle.irtext_formatter.specs.declared.layout.Layout.{Layout}
use Rattle.irtext_formatter.specs.declared.misfit.Misfit as misfits

module _ {T A : Type 0} (types : ir_text.Ghosts T A) (owns : ir_text.Ghosts A A) (types_law : Lawful T (texts types)) (owns_law : Lawful A (texts owns)) (dialects : List (Text × Table)) (attributes : attr_text.Ghosts A A) (same : A → A → Bool) where
  -- a text begins with a root that resolves
  record Root (t u : Text) : Type 0 where
    tree : Tree ℕ T A
    entries : List (Entry ℕ A (Written A))
    reads : reads_root (supported dialects (texts types) (texts owns)) (location_verdict (attr owns)) tree entries t u
    resolves : failures_of (isolated dialects) tree entries ≡ []

  same_root : (t u v : Text) (a : Root t u) (b : Root t v) → (a.tree ≡ b.tree) × (a.entries ≡ b.entries) × (u ≡ v)
  same_root t u v a b = one_root (supported dialects (texts types) (texts owns)) types_law owns_law (λ p q t e f. e ∙ sym f) (λ t u e. absurd e) (location_verdict (attr owns)) a.tree b.tree a.entries b.entries t u v a.reads b.reads

  -- the root that a text begins with cannot be printed, for this reason
  abbrev RootFault : Refusal → (t u : Text) → Root t u → Type 0
  RootFault e t u r = TreeFault types owns attributes same dialects e r.tree r.entries

  -- a text begins with a root that resolves and can be printed
  record Fine (t u : Text) : Type 0 where
    root : Root t u
    fits : RootFault Misfit t u root → ⊥

  one_rest : (t u v : Text) → Fine t u → Fine t v → u ≡ v
  one_rest t u v a b = (same_root t u v a.root b.root).2

  -- so many roots from a text on, each of which is followed by another
  abbrev Chain : ℕ → Text → Text → Type 0
  Chain zero t v = t ≡ v
  Chain (suc n) t v = (u : Text) × (follows t ≡ true) × Fine (after_space t) u × (follows u ≡ true) × Chain n u v

  one_more : (n : ℕ) (t u v : Text) → Chain n t u → follows u ≡ true → Fine (after_space u) v → follows v ≡ true → Chain (suc n) t v
  one_more zero t u v c f root g = (v, subst (λ z. follows z ≡ true) (sym c) f, subst (λ z. Fine (after_space z) v) (sym c) root, g, refl)
  one_more (suc n) t u v c f root g = (c.0, c.1, c.2, c.3, one_more n c.0 u v c.4 f root g)

  -- a root that ends the text, and a place with no root that is fine, do not come after rows of roots of one text
  apart : (n m : ℕ) (t u v w : Text) → Chain n t u → Chain m t v → Fine (after_space u) w → follows w ≡ false → ((x : Text) → Fine (after_space v) x → ⊥) → ⊥
  apart zero zero t u v w c d root last misses = misses w (subst (λ z. Fine (after_space z) w) (sym c ∙ d) root)
  apart zero (suc m) t u v w c d root last misses =
      let same = one_rest (after_space t) w d.0 (subst (λ z. Fine (after_space z) w) (sym c) root) d.2 in
      true≢false (sym d.3 ∙ (ap follows (sym same) ∙ last))
  apart (suc n) zero t u v w c d root last misses = misses c.0 (subst (λ z. Fine (after_space z) c.0) d c.2)
  apart (suc n) (suc m) t u v w c d root last misses =
      apart n m c.0 u v w c.4 (subst (λ z. Chain m z v) (sym (one_rest (after_space t) c.0 d.0 c.2 d.2)) d.4) root last misses

  -- a text of white space has no root
  bare : (m : ℕ) (t v : Text) → Chain m t v → follows t ≡ false → follows v ≡ true → ⊥
  bare zero t v c blank some = true≢false (sym some ∙ (ap follows (sym c) ∙ blank))
  bare (suc m) t v c blank some = true≢false (sym c.1 ∙ blank)

  root_reads : (op : Ptr Operation) (at next : StreamView) (before after : ContextView T A) → before.dialects ≡ dialects → (r : ReadsRoot types owns op at next before after)
      → reads_root (supported dialects (texts types) (texts owns)) (location_verdict (attr owns)) r.builds.tree r.builds.entries at.rest next.rest
  root_reads op at next before after is r =
      let b = r.builds in
      subst (λ z. reads_root (supported dialects (texts types) (texts owns)) (location_verdict (attr owns)) b.tree b.entries at.rest z) (ap (λ v. v.rest) r.to)
      (subst (λ z. reads_root (supported dialects (texts types) (texts owns)) (location_verdict (attr owns)) b.tree b.entries z r.new.stream.rest) (ap (λ v. v.rest) r.from)
      (subst (λ z. reads_root (supported z (texts types) (texts owns)) (location_verdict (attr owns)) b.tree b.entries r.old.stream.rest r.new.stream.rest) (ap (λ c. c.dialects) r.context ∙ is) b.reads))

  -- the root that was parsed
  abbrev root_of : (op : Ptr Operation) (at next : StreamView) (before after : ContextView T A) → before.dialects ≡ dialects → ReadsRoot types owns op at next before after → Root at.rest next.rest
  root_of op at next before after is r = record {
    tree = r.builds.tree;
    entries = r.builds.entries;
    reads = root_reads op at next before after is r;
    resolves = subst (λ z. failures_of (isolated z) r.builds.tree r.builds.entries ≡ []) (ap (λ c. c.dialects) r.context ∙ is) r.builds.resolves;
  }

  -- the contexts around a root, as its locations are laid out
  stays_of : (layout : Layout) (op : Ptr Operation) (at next : StreamView) (before shown : ContextView T A) (has : HasRoot types owns attributes same layout at before op next shown) → RootStays has.after shown op
  stays_of layout op at next before shown has =
      let r = has.reads in
      let live = subst (λ (c : ContextView T A). IsSome (operation c op)) r.left (ap is_some r.builds.is_whole.0.is) in
      laid_stays has.after shown op r.sound.nested layout (follows next.rest) at.passed live has.laid

  module _ (layout : Layout) (op : Ptr Operation) (at next : StreamView) (before shown : ContextView T A) (is : before.dialects ≡ dialects) (has : HasRoot types owns attributes same layout at before op next shown) where
    abbrev its_root : Root at.rest next.rest
    its_root = root_of op at next before has.after is has.reads

    whole_there : IsWhole has.after op
    whole_there = subst (λ (c : ContextView T A). IsWhole c op) has.reads.left has.reads.builds.is_whole

    same_dialects : shown.dialects ≡ dialects
    same_dialects =
        let r = has.reads in
        (stays_of layout op at next before shown has).dialects ∙ (sym (ap (λ (c : ContextView T A). c.dialects) r.left) ∙ (r.builds.only.dialects ∙ (ap (λ (c : ContextView T A). c.dialects) r.context ∙ is)))

    abbrev first : ℕ → Written A
    first = location_of {A = A} has.reads.new.state.ctx.now.paths has.reads.old.state.src (whole has.reads.old.stream)

    builds_there : held_root has.after op ≡ Some (build (isolated dialects) first its_root.entries its_root.tree)
    builds_there =
        let r = has.reads in
        subst (λ (c : ContextView T A). held_root c op ≡ Some (build (isolated dialects) first r.builds.entries r.builds.tree)) r.left
        (subst (λ d. held_root r.new.state.ctx.now op ≡ Some (build (isolated d) first r.builds.entries r.builds.tree)) (ap (λ (c : ContextView T A). c.dialects) r.context ∙ is) r.builds.builds)

    -- it cannot be printed for a reason exactly if its tree cannot
    its_fault : (e : Refusal) → heads.FaultUnder types owns attributes same shown op plain e → RootFault e at.rest next.rest its_root
    its_fault = shown_fault types owns attributes same has.after shown op (stays_of layout op at next before shown has) whole_there has.reads.sound.used dialects same_dialects first its_root.entries its_root.tree builds_there

    fault_there : (e : Refusal) → RootFault e at.rest next.rest its_root → heads.FaultUnder types owns attributes same shown op plain e
    fault_there = tree_fault types owns attributes same has.after shown op (stays_of layout op at next before shown has) whole_there has.reads.sound.used dialects same_dialects first its_root.entries its_root.tree builds_there

  fine_of : (layout : Layout) (at next : StreamView) (before shown : ContextView T A) (printed : List ℕ) → before.dialects ≡ dialects → GivesRoot types owns attributes same layout at before printed next shown → Fine at.rest next.rest
  fine_of layout at next before shown printed is gives = record {
    root = its_root layout gives.op at next before shown is gives.has;
    fits = λ x. gives.prints.fits (fault_there layout gives.op at next before shown is gives.has Misfit x);
  }

  -- ---- where a place fails, no root is fine
  rejected_at : (before : ContextView T A) (at : StreamView) (fault : ParseFault A) → before.dialects ≡ dialects → RefusesAt types owns before at fault → (x : Text) → Fine at.rest x → ⊥
  rejected_at before at fault is refuses x fine =
      let says = subst (λ z. (tree : Tree ℕ T A) (entries : List (Entry ℕ A (Written A))) (rest : Text) → reads_root (supported z (texts types) (texts owns)) (location_verdict (attr owns)) tree entries at.rest rest
      → IsFirst (whole at) (failures_of (isolated z) tree entries) fault) is refuses.first in
      subst (λ fs. IsFirst (whole at) fs fault) fine.root.resolves (says fine.root.tree fine.root.entries x fine.root.reads)

  unfit_at : (layout : Layout) (op : Ptr Operation) (at next : StreamView) (before shown : ContextView T A) → before.dialects ≡ dialects → HasRoot types owns attributes same layout at before op next shown
      → heads.MisfitsUnder types owns attributes same shown op plain → (x : Text) → Fine at.rest x → ⊥
  unfit_at layout op at next before shown is has misfits x fine =
      let root = its_root layout op at next before shown is has in
      let one = same_root at.rest next.rest x root fine.root in
      fine.fits (subst (λ tree. TreeFault types owns attributes same dialects Misfit tree fine.root.entries) one.0
      (subst (λ entries. TreeFault types owns attributes same dialects Misfit root.tree entries) one.1 (its_fault layout op at next before shown is has Misfit misfits)))

  module _ (text : List ℕ) (ctx : ContextView T A) (is : ctx.dialects ≡ dialects) where
    chain_of : (layout : Layout) (so_far : List ℕ) (at : StreamView) (before : ContextView T A) → Rows types owns attributes same layout text ctx so_far at before → (n : ℕ) × Chain n (chars text) at.rest × (before.dialects ≡ dialects)
    chain_of layout _ _ _ none = (zero, refl, is)
    chain_of layout _ _ _ (more {so_far} {root} {at} {next} {before} {shown} {left} rows some gives follow objects) =
        let c = chain_of layout so_far at before rows in
        (suc c.0, one_more c.0 (chars text) at.rest next.rest c.1 some (fine_of layout (after_spaces at) next before shown root c.2 gives) follow, objects.dialects ∙ c.2)

    -- the roots of a text are not printed if one fails, of which this is known
    failing : (layout other : Layout) (out : List ℕ) (after : ContextView T A) (f : fault.Fault A) → Formats types owns attributes same layout text ctx out after → (fails : FailsAfter types owns attributes same other text ctx f)
        → ((before : ContextView T A) → before.dialects ≡ dialects → FailsHere types owns attributes same other (after_spaces fails.at) before f → (x : Text) → Fine (after_space fails.at.rest) x → ⊥) → ⊥
    failing layout other _ _ f (empty blank) fails never =
        let c = chain_of other fails.so_far fails.at fails.before fails.rows in
        bare c.0 (chars text) fails.at.rest c.1 blank fails.more
    failing layout other _ _ f (roots {so_far} {root} {at} {next} {before} {shown} rows some gives last) fails never =
        let c = chain_of layout so_far at before rows in
        let d = chain_of other fails.so_far fails.at fails.before fails.rows in
        apart c.0 d.0 (chars text) at.rest fails.at.rest next.rest c.1 d.1 (fine_of layout (after_spaces at) next before shown root c.2 gives) last
        (never fails.before d.2 fails.fails)

    -- none is rejected
    pub none_rejected : (layout other : Layout) (out : List ℕ) (after : ContextView T A) (f : ParseFault A) → Formats types owns attributes same layout text ctx out after
        → FailsAfter types owns attributes same other text ctx (of_fault.Rejected f) → ⊥
    none_rejected layout other out after f formats fails = failing layout other out after (of_fault.Rejected f) formats fails (λ before d refuses. rejected_at before (after_spaces fails.at) f d refuses)

    -- all fit their formats
    pub all_fit : (layout other : Layout) (out : List ℕ) (after : ContextView T A) (m : misfits.Misfit) → Formats types owns attributes same layout text ctx out after
        → FailsAfter types owns attributes same other text ctx (of_fault.Misfit m) → ⊥
    all_fit layout other out after m formats fails = failing layout other out after (of_fault.Misfit m) formats fails (λ before d stops. unfit_at other stops.op (after_spaces fails.at) stops.next before stops.shown d stops.has stops.why.0)
