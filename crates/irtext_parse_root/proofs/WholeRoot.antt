-- The promise of a whole text on a fresh state, from what the parse of its operation leaves and what follows it.
use Rattle.std.proofs.Common.{◌≡◌, ◌∙◌, ℕ, true, true≢false, cond, List, [], ◌∷◌, refl, sym, ap, subst, inl, inr}
use Rattle.irtext_base.specs.Text.{Text}
use Rattle.irtext_base.specs.declared.parsable.fault.ParseFault.{ParseFault}
use Rattle.irtext_base.specs.declared.text.IrText as ir_text
use Rattle.irtext_context.specs.Context.{KeepsOlder}
use Rattle.irtext_context.specs.declared.base.item.Item.{Item}
use Rattle.irtext_graph.specs.declared.arena.Ptr.{Ptr}
use Rattle.irtext_graph.specs.declared.object.Operation.{Operation}
use Rattle.irtext_parse_state.specs.States.{marks_of}
use Rattle.irtext_parse_state.specs.declared.parsable.state.State as code
use Rattle.irtext_parse_state.specs.declared.parsable.state.StateStream.{StateStream}
use Rattle.irtext_grammar.specs.Contexts.Held.{whole}
use Rattle.irtext_grammar.specs.Grammar.Marked.{reads_root}
use Rattle.irtext_grammar.specs.Promises.Root.{UnlessMemory}
use Rattle.irtext_grammar.specs.Promises.Section.{is_noted}
use Rattle.irtext_grammar.specs.Promises.Supported.{supported, location_verdict}
use Rattle.irtext_names.specs.Promises.{BuildsRoot}
use Rattle.irtext_parse_pieces.proofs.Meanings.{takes_whole}
use Rattle.irtext_tokens.proofs.Steps.{alone}
use Rattle.irtext_parse_section.specs.Section.{ReadsSection}
use Rattle.irtext_parse_root.specs.AnyState.{ReadsTree}
use Rattle.irtext_parse_root.specs.Ended.{EndsAny, MissesEnd, wrong_section, not_ended}
use Rattle.irtext_parse_root.specs.Parses.{attr, texts}
use Rattle.irtext_parse_root.specs.Whole.{ExpectsEnd, BuildsWhole, LeavesMore, RefusesWhole}
use Rattle.irtext_parse_root.specs.WholeAny.{HasSection}
use Rattle.irtext_parse_root.proofs.Laws.{Laws}
use Rattle.irtext_parse_root.proofs.Sectioned.{root_unmarked, root_marked, section_refused, reads_marked, resolves_marked}
use Rattle.irtext_parse_root.proofs.WholeSteps.{whole_refused}

-- where some mark is recorded, there are marks
some_noted : {X : Type 0} (marks : List X) → is_noted marks ≡ true → marks ≡ [] → ⊥
some_noted marks e none = true≢false (sym e ∙ ap is_noted none)

module _ {T A U : Type 0} {types : ir_text.Ghosts T A} {owns : ir_text.Ghosts A A} (laws : Laws types owns) (op : Ptr Operation) (old mid : StateStream T A U) (m : ReadsTree types.reading (attr owns) op old mid) (none : marks_of old.state ≡ []) where
  -- the text of the operation is that of the whole
  same_whole : whole mid.stream ≡ whole old.stream
  same_whole = takes_whole alone old.stream mid.stream m.moves.taken mid.stream.rest m.moves.takes

  module _ (new : StateStream T A U) (e : EndsAny (attr owns) mid new) (later : KeepsOlder old.state.ctx.now.graph.made mid.state.ctx.now new.state.ctx.now) where
    root_built : (marks : List (ℕ × Item)) → marks_of mid.state ≡ marks → cond (is_noted marks) (ReadsSection (attr owns) mid e.end) (e.end ≡ mid) → BuildsRoot (texts types) (texts owns) (attr owns) op old e.end
    root_built [] n s = subst (λ z. BuildsRoot (texts types) (texts owns) (attr owns) op old z) (sym s)
        (root_unmarked laws op old mid m none n)
    root_built (x ∷ marks) n s = root_marked laws op old mid m none (some_noted (marks_of mid.state) (ap is_noted n))
        e.end s (subst (λ (z : code.State T A U). KeepsOlder old.state.ctx.now.graph.made mid.state.ctx.now z.ctx.now) e.state later)

    -- a root, and nothing but white space after it
    pub whole_built : BuildsWhole (texts types) (texts owns) types.reading (attr owns) op old new
    whole_built = record { end = e.end; parsed = root_built (marks_of mid.state) refl e.parsed; ends = e.ends; state = e.state }

  module _ (fault : ParseFault A) where
    -- a root, and more text after it
    more_there : (rest : Text) → ExpectsEnd (whole mid.stream) rest fault → (marks : List (ℕ × Item)) → marks_of mid.state ≡ marks → cond (is_noted marks) (HasSection (attr owns) mid rest) (rest ≡ mid.stream.rest)
        → LeavesMore (texts types) (texts owns) types.reading (attr owns) old fault
    more_there rest x [] n s =
        let b = root_unmarked laws op old mid m none n in
        record {
          tree = b.tree;
          entries = b.entries;
          rest = rest;
          reads = subst (λ z. reads_root (supported old.state.ctx.now.dialects (texts types) (texts owns)) (location_verdict (attr owns)) b.tree b.entries old.stream.rest z) (sym s) b.reads;
          resolves = b.resolves;
          more = subst (λ text. ExpectsEnd text rest fault) same_whole x;
        }
    more_there rest x (y ∷ marks) n (entries, taken, reads) =
        let some = some_noted (marks_of mid.state) (ap is_noted n) in
        record {
          tree = m.leaves.tree;
          entries = entries;
          rest = rest;
          reads = reads_marked laws op old mid m none some entries taken rest reads;
          resolves = resolves_marked laws op old mid m none some entries taken rest reads;
          more = subst (λ text. ExpectsEnd text rest fault) same_whole x;
        }

    -- why a whole text was not parsed after its operation
    pub rest_refused : UnlessMemory (MissesEnd (attr owns) mid) fault → UnlessMemory (RefusesWhole (texts types) (texts owns) types.reading (attr owns) old) fault
    rest_refused (inl ran_out) = inl ran_out
    rest_refused (inr (wrong_section noted f)) = whole_refused (texts types) (texts owns) types.reading (attr owns)
        (section_refused laws op old mid m none (some_noted (marks_of mid.state) noted) fault f)
    rest_refused (inr (not_ended rest is x)) = inr (inr (more_there rest x (marks_of mid.state) refl is))
