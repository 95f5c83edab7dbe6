-- What a context with the demo dialects is, and what the parse of a text in memory says.
use Rattle.std.proofs.Common.{◌≡◌, ◌∙◌, ℕ, true, false, List, Option, Some, option_map, IsSome, Result, Ok, Err, inl, inr, refl, sym, ap, subst}
use Rattle.std.specs.Prelude.{IfOk, IfErr, ⊤}
use Rattle.irtext_base.specs.Stream.{StreamView}
use Rattle.irtext_base.specs.Text.{Text}
use Rattle.irtext_base.specs.declared.parsable.fault.ParseFault.{ParseFault}
use Rattle.irtext_base.specs.declared.result.Error.{Error}
use Rattle.irtext_base.specs.declared.text.IrText as ir_text
use Rattle.irtext_context.specs.Context.{ContextView, OperationView, operation}
use Rattle.irtext_graph.specs.Graph.{children, parent}
use Rattle.irtext_graph.specs.Nested.{Nested}
use Rattle.irtext_graph.specs.declared.arena.Ptr.{Ptr}
use Rattle.irtext_graph.specs.declared.object.Operation.{Operation}
use Rattle.irtext_grammar.specs.Contexts.Held.{whole}
use Rattle.irtext_grammar.specs.Contexts.Nested.{pointers, seen_operation, seen_regions, seen_root}
use Rattle.irtext_grammar.specs.Graphs.Graph.{Graph}
use Rattle.irtext_grammar.specs.Names.Script.{Failure}
use Rattle.irtext_grammar.specs.Promises.Root.{UnlessMemory}
use Rattle.irtext_names.specs.OnlyNew.{OnlyNew}
use Rattle.irtext_names.specs.Promises.{BuildsRoot, IsFirst, RefusesRoot}
use Rattle.irtext_parse_root.specs.AnyState.{MissesAny}
use Rattle.irtext_parse_root.specs.Parses.{ResolvesRoot, FirstOfOperation, texts, attr}
use Rattle.irtext_parse_state.specs.FromText.{at_beginning, Begins, IsOutOfMemory, Passes}
use Rattle.irtext_parse_state.specs.States.{IsFresh}
use Rattle.irtext_parse_state.specs.declared.parsable.state.StateStream.{StateStream}
use Rattle.irtext_demo.specs.DemoDialects.{demo_operations, with_all}
use Rattle.pliron_text.proofs.Nowhere.{root_nowhere}
use Rattle.irtext.specs.Formatting.{no_parts, demo_context}
use Rattle.irtext.specs.Roots.{ReadsRoot, RejectsText, IsNotRead, IsSeen}

-- registering the demo dialects with a context without parts makes it
pub registered : {T A : Type 0} (old new : ContextView T A) → old ≡ no_parts → new ≡ record old { dialects = new.dialects } → new.dialects ≡ with_all old.dialects demo_operations → new ≡ demo_context
registered {T} {A} old new is rest ok =
    rest ∙ ap (λ d. record old { dialects = d }) ok ∙ ap (λ (o : ContextView T A). record o { dialects = with_all o.dialects demo_operations }) is

-- An operation is live, and this is what printing sees of it.
record IsLiveGraph {T A : Type 0} (written : A → Text) (ctx : ContextView T A) (op : Ptr Operation) : Type 0 where
  live : IsSome (operation ctx op)
  graph : Graph T A
  sees : seen_root written ctx op ≡ Some graph

module _ {T A : Type 0} (types : ir_text.Ghosts T A) (owns : ir_text.Ghosts A A) (bytes : List ℕ) (ctx : ContextView T A) where
  -- a root that was parsed is there to be printed
  pub is_seen : (op : Ptr Operation) (after : ContextView T A) → Nested (children ctx.graph) (parent ctx.graph) → Nested (children after.graph) (parent after.graph) → ReadsRoot types owns bytes ctx op after → IsSeen owns.written after op
  is_seen op after nested still reads =
      let there = reads.new.state.ctx.now in
      let only : OnlyNew op ctx after = subst (λ (z : ContextView T A). OnlyNew op z after) reads.begins.context (subst (λ (z : ContextView T A). OnlyNew op reads.old.state.ctx.now z) (sym reads.ends) reads.builds.only) in
      let w = reads.builds.is_whole.0 in
      let seen : IsLiveGraph owns.written there op = record {
        live = subst (λ (z : Option (OperationView T A)). IsSome z) (sym w.is) refl;
        graph = record { own = seen_operation owns.written there op w.view; regions = seen_regions owns.written there (pointers there.graph op).regions };
        sees = ap (option_map (λ (o : OperationView T A). record { own = seen_operation owns.written there op o; regions = seen_regions owns.written there (pointers there.graph op).regions })) w.is;
      } in
      let here : IsLiveGraph owns.written after op = subst (λ (z : ContextView T A). IsLiveGraph owns.written z op) (sym reads.ends) seen in
      record { live = here.live; nowhere = root_nowhere ctx after op nested still only; graph = here.graph; sees = here.sees }

  module _ (start finish : StateStream T A ⊤) (begins : Begins (at_beginning bytes) ctx start) (after : ContextView T A) (ends : after ≡ finish.state.ctx.now) where
    fine : start.stream.failed ≡ false
    fine = ap (λ s. s.failed) begins.stream_is

    fresh : IsFresh start
    fresh = record { marks = begins.fresh; fine = fine }

    reads_from : (answer : Result (Ptr Operation) (ParseFault A)) → IfOk answer (λ op. BuildsRoot (texts types) (texts owns) (attr owns) op start finish)
        → (result : Result (Ptr Operation) (Error A)) → Passes answer result → IfOk result (λ op. ReadsRoot types owns bytes ctx op after)
    reads_from (Ok x) builds (Ok y) passed = subst (λ z. ReadsRoot types owns bytes ctx z after) (sym passed) (record { old = start; new = finish; begins = begins; builds = builds; ends = ends })
    reads_from (Ok x) builds (Err e) passed = absurd passed
    reads_from (Err f) builds (Ok y) passed = absurd passed
    reads_from (Err f) builds (Err e) passed = tt

    never : (f : ParseFault A) → RefusesRoot (texts types) (texts owns) types.reading (attr owns) start.state.ctx.now.dialects start.stream f
        → (op : Ptr Operation) (left : ContextView T A) → ReadsRoot types owns bytes ctx op left → ⊥
    never f refuses op left read =
        let there = read.builds in
        let over = subst (λ (c : ContextView T A). RefusesRoot (texts types) (texts owns) types.reading (attr owns) c.dialects start.stream f) (begins.context ∙ sym read.begins.context) refuses in
        let here = subst (λ (s : StreamView). RefusesRoot (texts types) (texts owns) types.reading (attr owns) read.old.state.ctx.now.dialects s f) (begins.stream_is ∙ sym read.begins.stream_is) over in
        subst (λ (fs : List (Failure Text ℕ)). IsFirst (whole read.old.stream) fs f) there.resolves (here.first there.tree there.entries read.new.stream.rest there.reads)

    because : (f : ParseFault A) → UnlessMemory (MissesAny types.reading (attr owns) true start) f → UnlessMemory (RefusesRoot (texts types) (texts owns) types.reading (attr owns) start.state.ctx.now.dialects start.stream) f
        → UnlessMemory (RejectsText types owns bytes ctx) f
    because f (inl memory) refuses = inl memory
    because f (inr missed) (inl memory) = inl memory
    because f (inr missed) (inr refuses) = inr (record { old = start; begins = begins; missed = missed; refuses = refuses; never = never f refuses })

    rejected_from : (answer : Result (Ptr Operation) (ParseFault A)) → IfErr answer (UnlessMemory (MissesAny types.reading (attr owns) true start))
        → IfErr answer (UnlessMemory (RefusesRoot (texts types) (texts owns) types.reading (attr owns) start.state.ctx.now.dialects start.stream))
        → (result : Result (Ptr Operation) (Error A)) → Passes answer result → IfErr result (IsNotRead types owns bytes ctx)
    rejected_from (Ok x) missed refuses (Ok y) passed = tt
    rejected_from (Ok x) missed refuses (Err e) passed = absurd passed
    rejected_from (Err f) missed refuses (Ok y) passed = absurd passed
    rejected_from (Err f) missed refuses (Err e) passed = inr (record { fault = f; because = because f missed refuses; is_error = passed })

    -- what was parsed, or why nothing was
    pub is_read : (answer : Result (Ptr Operation) (ParseFault A)) → ResolvesRoot types owns start answer finish → FirstOfOperation types owns true start answer finish → (result : Result (Ptr Operation) (Error A)) → Passes answer result
        → IfOk result (λ op. ReadsRoot types owns bytes ctx op after) × IfErr result (IsNotRead types owns bytes ctx)
    is_read answer resolves first result passed = (reads_from answer (resolves.builds fresh) result passed, rejected_from answer (first.missed fine) (first.fails fresh) result passed)

  -- there was no memory to begin with the text
  pub not_begun : (after : ContextView T A) (result : Result (Ptr Operation) (Error A)) → IsOutOfMemory result → IfOk result (λ op. ReadsRoot types owns bytes ctx op after) × IfErr result (IsNotRead types owns bytes ctx)
  not_begun after (Ok x) memory = absurd memory
  not_begun after (Err e) memory = (tt, inl memory)

  -- so the root that was parsed is there
  pub all_seen : (after : ContextView T A) → Nested (children ctx.graph) (parent ctx.graph) → Nested (children after.graph) (parent after.graph) → (result : Result (Ptr Operation) (Error A))
      → IfOk result (λ op. ReadsRoot types owns bytes ctx op after) → IfOk result (IsSeen owns.written after)
  all_seen after nested still (Ok op) reads = is_seen op after nested still reads
  all_seen after nested still (Err e) reads = tt
