-- A block that is begun: its header was parsed, it was made, and its names are defined.
use Rattle.std.proofs.Common.{◌≡◌, ◌<◌, ◌≤◌, ◌∙◌, ℕ, true, List, [], ◌∷◌, ◌++◌, map, length, Ok, IsSome, refl, sym, ap, subst}
use Rattle.std.proofs.lemmas.List.{length-map}
use Rattle.irtext_base.specs.Text.{Text}
use Rattle.irtext_base.specs.Stream.{StreamView}
use Rattle.irtext_base.specs.Answers.{Outcome, Read}
use Rattle.irtext_base.specs.Locations.{AttrView}
use Rattle.irtext_base.specs.declared.parsable.fault.ParseFault.{ParseFault}
use Rattle.irtext_context.specs.Context.{ContextView, KeepsOlder, block}
use Rattle.irtext_context.specs.declared.base.item.Item.TheVariants as item
use Rattle.irtext_context.proofs.Kept.{kept_trans, kept_closed}
use Rattle.irtext_graph.specs.declared.arena.Ptr.{Ptr}
use Rattle.irtext_graph.specs.declared.object.BasicBlock.{BasicBlock}
use Rattle.irtext_graph.specs.declared.object.Region.{Region}
use Rattle.irtext_graph.specs.declared.object.Object.TheVariants.{TheBlock, TheRegion}
use Rattle.irtext_graph.specs.declared.object.Value.TheVariants.{Argument}
use Rattle.irtext_graph.specs.Back.{IsClosedBelow}
use Rattle.irtext_graph.specs.Graph.{IsLive, IsNew, parent}
use Rattle.irtext_parse_state.specs.States.{marks_of}
use Rattle.irtext_parse_state.specs.declared.parsable.state.State as code
use Rattle.irtext_parse_state.specs.declared.parsable.state.StateStream.{StateStream}
use Rattle.irtext_scopes.specs.Names.{AreDistinct}
use Rattle.irtext_grammar.specs.Contexts.Held.{whole}
use Rattle.irtext_grammar.specs.Grammar.Tree.{Head}
use Rattle.irtext_names.specs.Tied.{MatchesGraph, ArePending}
use Rattle.irtext_grammar.specs.Promises.Root.{UnlessMemory}
use Rattle.irtext_grammar.specs.Readers.Streams.{itself, replaced}
use Rattle.irtext_grammar.specs.Heads.{head_at}
use Rattle.irtext_grammar.specs.Grows.{BlockCame, RegionGains}
use Rattle.irtext_grammar.specs.Unchanged.{ModifiesOnly}
use Rattle.irtext_names.specs.Rows.{AreKnown, ValuesReady}
use Rattle.irtext_parse_pieces.specs.declared.headers.BlockHead.{BlockHead}
use Rattle.irtext_grammar.specs.declared.parsed.ReadName.{ReadName}
use Rattle.irtext_parse_pieces.specs.Headers.{MustHead}
use Rattle.irtext_parse_pieces.specs.Named.{NamesRead}
use Rattle.irtext_names.specs.Gathering.{entries_in}
use Rattle.irtext_parse_nested.specs.Blocks.{MakesHead, NamesHead, RefusesHead}
use Rattle.irtext_names.specs.LosesPlaceholders.{LosesPlaceholders}
use Rattle.irtext_names.specs.Definitions.{numbers_of}
use Rattle.irtext_names.specs.Carriers.{noted_as}
use Rattle.irtext_names.specs.Items.{Names, IsSound, KeepsLive}
use Rattle.irtext_names.specs.Located.{IsLocated}
use Rattle.irtext_parse_nested.specs.Read.{BeginsBlock, RefusesBlock}
use Rattle.irtext_parse_nested.proofs.BlockBegun as begun
use Rattle.irtext_parse_nested.proofs.BlockReady.{within, named_known, made_ties, made_ready, made_inside, made_there, made_sound}
use Rattle.irtext_parse_nested.proofs.BlockTurn.{made, same_head, names_refused, block_begun, block_noted}
use Rattle.irtext_parse_nested.proofs.Faults.{named_each}
use Rattle.irtext_parse_nested.proofs.HeadNamed.{inside_stays, block_stays}
use Rattle.irtext_parse_nested.proofs.Headers.{arguments_named}
use Rattle.irtext_names.proofs.Lasting.{live_block_view}

-- ---- other names that were parsed
-- they match the graph
pub read_tied : {T A : Type 0} (before names : Names) → NamesRead before names → (c : ContextView T A) → MatchesGraph before.values before.labels c.graph → MatchesGraph names.values names.labels c.graph
read_tied before names reads c t = subst (λ ls. MatchesGraph names.values ls c.graph) (sym reads.labels) (subst (λ vs. MatchesGraph vs before.labels c.graph) (sym reads.values) t)

-- and sound
pub read_sound : {T A U : Type 0} (before names : Names) → NamesRead before names → (n : ℕ) (s : code.State T A U) → IsSound n before s → IsSound n names s
read_sound before names reads n s h = record {
  tied = read_tied before names reads s.ctx.now h.tied;
  waiting = subst (λ ls. ArePending n [] names.values ls s.ctx.now.graph) (sym reads.labels) (subst (λ vs. ArePending n [] vs before.labels s.ctx.now.graph) (sym reads.values) h.waiting);
  blanks = h.blanks;
}

-- ---- a header
module _ {T A U : Type 0} (types_at : Text → Outcome T) (attr : Text → Outcome (AttrView A)) (before names : Names) (old : StateStream T A U) (v : StreamView) (read : BlockHead T A)
    (h : MustHead {A = A} itself replaced names.names types_at attr old.stream (Ok read) v) (reads : NamesRead before names) (distinct : AreDistinct names.names) where
  -- its label and its arguments are known
  pub label_known : read.label.name < length names.names
  label_known = within names.names read.label.name (h.meant read).label.text h.means.label.named

  pub arguments_known : AreKnown (length names.names) (numbers_of (map (λ a. a.0) read.arguments))
  arguments_known = named_known names.names (numbers_of (map (λ a. a.0) read.arguments)) (map (λ a. a.0) (h.meant read).arguments)
      (named_each names.names (whole old.stream) (map (λ a. a.0) read.arguments) (map (λ a. a.0) (h.meant read).arguments) (arguments_named names.names (whole old.stream) read.arguments (h.meant read).arguments h.means.arguments))

  module _ (m : code.State T A U) (r : Ptr Region) (b : Ptr BasicBlock) (makes : MakesHead names.names old.state.src (whole v) read.label read.arguments (entries_in read.attributes) old.state.ctx.now m.ctx.now r b) where
    -- ---- the block before its names are defined
    pub opened_tied : MatchesGraph before.values before.labels old.state.ctx.now.graph → MatchesGraph names.values names.labels m.ctx.now.graph
    opened_tied t = made_ties old.state.ctx.now m.ctx.now r b makes.held (map (λ a. a.1) read.arguments) makes.places names.values names.labels (read_tied before names reads old.state.ctx.now t)

    pub opened_ready : (arguments : List ReadName) → arguments ≡ map (λ a. a.0) read.arguments → MatchesGraph before.values before.labels old.state.ctx.now.graph → ValuesReady (λ i. Argument b i) (length arguments) names.values m.ctx.now.graph
    opened_ready arguments e t = made_ready old.state.ctx.now m.ctx.now r b makes.held (map (λ a. a.1) read.arguments) makes.places names.values names.labels (length arguments)
        (ap length e ∙ (length-map read.arguments (λ a. a.0) ∙ sym (length-map read.arguments (λ a. a.1)))) (read_tied before names reads old.state.ctx.now t)

    pub opened_inside : IsSome (parent m.ctx.now.graph (TheBlock b))
    opened_inside = made_inside old.state.ctx.now m.ctx.now r b makes.held (map (λ a. a.1) read.arguments) makes.places

    pub opened_there : IsLive m.ctx.now.graph (TheBlock b)
    opened_there = made_there old.state.ctx.now m.ctx.now r b makes.held (map (λ a. a.1) read.arguments) makes.places

    pub opened_sound : (n : ℕ) → IsSound n before old.state → IsSound n names m
    opened_sound n s = made_sound old.state.ctx.now m.ctx.now r b makes.held (map (λ a. a.1) read.arguments) makes.places names old.state m refl refl n (read_sound before names reads n old.state s)

    -- what is older stays
    pub opened_kept : (new : ContextView T A) (n : ℕ) → IsClosedBelow n old.state.ctx.now.graph → IsSound n before old.state → KeepsOlder n old.state.ctx.now m.ctx.now → (IsClosedBelow n m.ctx.now.graph → IsSound n names m → KeepsOlder n m.ctx.now new) → KeepsOlder n old.state.ctx.now new
    opened_kept new n closed s k f = kept_trans k (f (kept_closed closed k) (opened_sound n s))

    -- ---- and after them
    module _ (new : ContextView T A) (loses : LosesPlaceholders m.ctx.now.graph new.graph) where
      pub opened_new : (n : ℕ) → n ≤ old.state.ctx.now.graph.made → IsNew n new.graph (TheBlock b)
      opened_new = begun.begun_new old.state.ctx.now m.ctx.now r b makes.held (map (λ a. a.1) read.arguments) makes.places new loses

      pub opened_lasts : new.dialects ≡ m.ctx.now.dialects → KeepsLive old.state.ctx.now new
      opened_lasts = begun.begun_lasts old.state.ctx.now m.ctx.now r b makes.held (map (λ a. a.1) read.arguments) makes.places new loses

      pub opened_spares : ModifiesOnly (TheBlock b ∷ TheRegion r ∷ []) old.state.ctx.now new
      opened_spares = begun.begun_spares old.state.ctx.now m.ctx.now r b makes.held (map (λ a. a.1) read.arguments) makes.places new loses

      pub opened_gains : IsLive old.state.ctx.now.graph (TheRegion r) → RegionGains old.state.ctx.now new r b
      opened_gains = begun.begun_gains old.state.ctx.now m.ctx.now r b makes.held (map (λ a. a.1) read.arguments) makes.places new loses

      -- it has the header that was parsed from the text
      pub opened_came : marks_of m ≡ marks_of old.state → (z : StreamView) → z ≡ v → (g : Head ℕ T A) (taken : Text) → head_at types_at attr old.stream.rest ≡ Read g taken z.rest → BlockCame old.state.ctx.now new (IsLocated old.state.src (whole old.stream)) b g
      opened_came same z e g taken is =
          let whole_makes = made types_at attr before names old v read h reads distinct m r b makes same in
          subst (λ y. BlockCame old.state.ctx.now new (IsLocated old.state.src (whole old.stream)) b y) (same_head types_at attr before names old v read h reads distinct g taken z e is)
          (begun.begun_came old.state.ctx.now m.ctx.now r b whole_makes.held (map (λ a. a.1) read.arguments) whole_makes.places new loses (IsLocated old.state.src (whole old.stream)) (h.meant read)
          (begun.has_head names.names old.state.src (whole old.stream) read (h.meant read) h.means old.state.ctx.now m.ctx.now r b whole_makes))

    -- a name of it is an error
    pub opened_refused : marks_of m ≡ marks_of old.state → (arguments : List ReadName) → arguments ≡ map (λ a. a.0) read.arguments → (text : Text) → text ≡ whole v → (fault : ParseFault A)
        → UnlessMemory (RefusesHead b read.label arguments read.mark names m text) fault → UnlessMemory (RefusesBlock types_at attr before old) fault
    opened_refused same arguments are text e fault u =
        names_refused types_at attr before names old v read h reads distinct m r b makes same fault
        (subst (λ t. UnlessMemory (RefusesHead b read.label (map (λ a. a.0) read.arguments) read.mark names m t) fault) e
        (subst (λ ns. UnlessMemory (RefusesHead b read.label ns read.mark names m text) fault) are u))

    -- the mark that was recorded is the one in the text
    pub opened_noted : marks_of m ≡ marks_of old.state → (z : code.State T A U) (after : Names) (arguments : List ReadName) → arguments ≡ map (λ a. a.0) read.arguments → NamesHead b read.label arguments read.mark names m after z
        → (w : StreamView) → w ≡ v → (g : Head ℕ T A) (taken : Text) → head_at types_at attr old.stream.rest ≡ Read g taken w.rest → marks_of z ≡ marks_of old.state ++ noted_as g.mark (item.Block b)
    opened_noted same z after arguments are named w e g taken is =
        block_noted types_at attr before names old v read h reads distinct m r b makes same z after (subst (λ ns. NamesHead b read.label ns read.mark names m after z) are named)
        ∙ ap (λ y. marks_of old.state ++ noted_as y.mark (item.Block b)) (same_head types_at attr before names old v read h reads distinct g taken w e is)

    -- it was begun
    pub opened_begins : marks_of m ≡ marks_of old.state → (new : StateStream T A U) (after : Names) (arguments : List ReadName) → arguments ≡ map (λ a. a.0) read.arguments → LosesPlaceholders m.ctx.now.graph new.state.ctx.now.graph
        → new.stream ≡ v → NamesHead b read.label arguments read.mark names m after new.state → BeginsBlock types_at attr (record { block = b; first = true }) before old after new
    opened_begins same new after arguments are loses stream named =
        block_begun types_at attr before names old v read h reads distinct m r b makes same new after (record { block = b; first = true }) refl refl stream
        (subst (λ ns. NamesHead b read.label ns read.mark names m after new.state) are named)
        (live_block_view new.state.ctx.now b (block_stays m.ctx.now.graph new.state.ctx.now.graph loses b opened_inside opened_there))
        (inside_stays m.ctx.now.graph new.state.ctx.now.graph loses b opened_inside)
