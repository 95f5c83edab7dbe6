-- A root that was parsed is closed where its operations fit their formats, and all that can have a name has one.
use Rattle.std.proofs.Common.{◌≡◌, ℕ, Bool, [], Some, refl, sym, subst}
use Rattle.irtext_base.specs.Answers.{Outcome}
use Rattle.irtext_base.specs.Format.{Id}
use Rattle.irtext_base.specs.Own.{Language, Texts, texts_of, language}
use Rattle.irtext_base.specs.Paths.{Written}
use Rattle.irtext_base.specs.Text.{Text}
use Rattle.irtext_graph.specs.declared.arena.Ptr.{Ptr}
use Rattle.irtext_graph.specs.declared.object.Operation.{Operation}
use Rattle.irtext_graph.specs.declared.object.BasicBlock.{BasicBlock}
use Rattle.irtext_context.specs.Context.{BlockView, block}
use Rattle.irtext_grammar.specs.Contexts.Formats.{format_of, isolated}
use Rattle.irtext_grammar.specs.Contexts.Held.{whole}
use Rattle.irtext_grammar.specs.Contexts.Nested.{printing_over, seen_root}
use Rattle.irtext_grammar.specs.Grammar.Reads.{reads}
use Rattle.irtext_grammar.specs.Graphs.Build.{build}
use Rattle.irtext_grammar.specs.Graphs.Closed.{Fit}
use Rattle.irtext_grammar.specs.Graphs.Graph.{Graph, Printing}
use Rattle.irtext_grammar.specs.Graphs.Same.{resolved_root}
use Rattle.irtext_grammar.specs.Graphs.Regained.{Named}
use Rattle.irtext_grammar.specs.Graphs.Represents.{Distinct, Represents}
use Rattle.irtext_grammar.specs.Names.Acts.{failures_of, section_acts, rule_of}
use Rattle.irtext_grammar.specs.Names.Script.{done, does_all}
use Rattle.irtext_grammar.proofs.Grammar.PartsOfFormats.{formed_read}
use Rattle.irtext_grammar.proofs.Grammar.WholeTree as trees
use Rattle.irtext_grammar.proofs.Graphs.Links.{all_there}
use Rattle.irtext_grammar.proofs.Names.ResolvedRoot.{resolves}
use Rattle.irtext_grammar.specs.ContextParts.{KeepsCounters}
use Rattle.irtext_grammar.specs.Promises.Root.{location_of}
use Rattle.irtext_names.specs.Held.{held_root}
use Rattle.irtext_names.specs.Promises.{BuildsRoot}
use Rattle.irtext_tokens.specs.AttrTexts.{attr_at}
use Rattle.irtext_grammar.specs.Back.{ClosedRoot}
use Rattle.irtext_grammar.proofs.ReadRoot.{closed_where_read}
use Rattle.irtext_parse_state.specs.declared.parsable.state.StateStream.{StateStream}
use Rattle.irtext_names.proofs.Accepts.{tree_accepted}
use Rattle.pliron_text.proofs.HeldRepresents.{many_held, represents_held, label_found}

module _ {T A U : Type 0} (types : Texts T) (reading : Text → Outcome A) (text_of : A → Text) (outlined once : A → Bool) (eq : A → A → Bool) (p : Ptr Operation) (before after : StateStream T A U) (g : Graph T A) where
  abbrev C : Printing T A
  C = printing_over after.state.ctx.now outlined once eq

  abbrev iso : Id → Bool
  iso = isolated after.state.ctx.now.dialects

  abbrev first : ℕ → Written A
  first = location_of {A = A} after.state.ctx.now.paths before.state.src (whole before.stream)

  module _ (built : BuildsRoot types (texts_of reading text_of) (attr_at reading) p before after) (counters : KeepsCounters after.state.ctx.now.graph) (sees : seen_root text_of after.state.ctx.now p ≡ Some g) (fits : Fit C iso g) where
    abbrev L : Language ℕ T A
    L = language types (texts_of reading text_of) (format_of after.state.ctx.now.dialects)

    read_there : reads L built.tree before.stream.rest built.reads.0
    read_there = subst (λ d. reads (language types (texts_of reading text_of) (format_of d)) built.tree before.stream.rest built.reads.0) (sym built.only.dialects) built.reads.1

    clean : failures_of iso built.tree built.entries ≡ []
    clean = subst (λ d. failures_of (isolated d) built.tree built.entries ≡ []) (sym built.only.dialects) built.resolves

    -- what the tree builds by the dialects that are there now is held
    pub builds_there : held_root after.state.ctx.now p ≡ Some (build iso first built.entries built.tree)
    builds_there = subst (λ d. held_root after.state.ctx.now p ≡ Some (build (isolated d) first built.entries built.tree)) (sym built.only.dialects) built.builds

    -- what printing sees represents it
    pub printed_represents : Represents (resolved_root C iso g) (build iso first built.entries built.tree)
    printed_represents =
        let t = built.tree in
        let es = built.entries in
        let enough = trees.whole L (λ p q h. h) t before.stream.rest built.reads.0 read_there in
        let right = resolves iso t es enough clean in
        let label = λ (b : Ptr BasicBlock) (view : BlockView T A) (e : block after.state.ctx.now b ≡ Some view). label_found after.state.ctx.now outlined once eq b view e in
        let many = many_held after.state.ctx.now counters text_of p C label iso first es t built.is_whole builds_there right.counts enough g sees in
        let formed = formed_read L (λ p q h. h) t before.stream.rest built.reads.0 (tree_accepted L C (λ i. refl) iso t g many fits) read_there in
        let linked = all_there iso first es t formed (does_all (section_acts (rule_of t) es) done) clean in
        represents_held after.state.ctx.now counters text_of p C label iso first es t built.is_whole builds_there right.counts enough linked g sees fits

    -- it is closed, and all has names
    pub read_closed : Distinct C iso g → ClosedRoot C iso g × Named C g
    read_closed distinct = closed_where_read L (λ p q h. h) C (λ i. refl) iso first built.tree built.entries g before.stream.rest built.reads.0 read_there clean printed_represents distinct fits
