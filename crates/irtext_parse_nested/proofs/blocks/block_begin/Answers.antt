use Rattle.std.proofs.Common.{◌≡◌, ◌∙◌, true, length, refl, sym, ap, subst}
use Rattle.irtext_tokens.specs.AttrTexts.{attr_at}
use Rattle.irtext_grammar.specs.Contexts.Held.{whole}
use Rattle.irtext_scopes.specs.Scopes.{is_open}
use Rattle.irtext_names.specs.Rows.{AreKnown}
use Rattle.irtext_parse_pieces.specs.Named.{AreWords}
use Rattle.irtext_grammar.specs.Promises.Root.{UnlessMemory}
use Rattle.irtext_names.specs.Gathering.{entries_in}
use Rattle.irtext_parse_nested.specs.Blocks.{IsRefusalFault}
use Rattle.irtext_names.specs.Definitions.{numbers_of}
use Rattle.irtext_parse_nested.specs.Ends.{GainsMarks}
use Rattle.irtext_parse_nested.proofs.BlockOpened.{label_known, arguments_known, opened_tied, opened_ready, opened_inside, opened_there, opened_sound, opened_kept, opened_new, opened_lasts, opened_spares, opened_gains, opened_came, opened_refused, opened_noted, opened_begins}
use Rattle.irtext_parse_nested.proofs.BlockTurn.{head_unread, keys_refused, keys_commit, of_entries}
use Rattle.irtext_parse_nested.proofs.Depths.{depths_read, depths_on}
use Rattle.irtext_parse_nested.proofs.Ended.{must_commit}
use Rattle.irtext_parse_nested.proofs.Marking.{gains_nothing}
use Rattle.irtext_parse_state.specs.States.{marks_of}
use Rattle.irtext_parse_nested.proofs.blocks.block_begin.Goals as goal

-- ---- the text has no header there
pub returns-in-Err-clause-refused : goal.returns-in-Err-clause-refused
returns-in-Err-clause-refused g c =
    head_unread g.T.IrText.reading g.A.IrText.reading g.met.T.IrText.sincere g.met.A.IrText.sincere c.args.names.now c.head_parse.new.names.names c.args.s.now c.head_parse.new.stream _ c.requires.fine c.in-Err.ensures.read

pub returns-in-Err-clause-committed : goal.returns-in-Err-clause-committed
returns-in-Err-clause-committed g c = (must_commit c.requires.fine c.in-Err.ensures.read.read)

pub returns-in-Err-clause-names : goal.returns-in-Err-clause-names
returns-in-Err-clause-names g c = depths_read c.args.names.now c.head_parse.new.names c.in-Err.ensures.names

pub returns-in-Err-clause-words : goal.returns-in-Err-clause-words
returns-in-Err-clause-words g c = c.in-Err.ensures.names.words

pub returns-in-Err-clause-unnoted : goal.returns-in-Err-clause-unnoted
returns-in-Err-clause-unnoted g c = (gains_nothing refl)

-- ---- a key is an error
pub head_made-requires-clause-label : goal.head_made-requires-clause-label
head_made-requires-clause-label g c = label_known g.T.IrText.reading (attr_at g.A.IrText.reading) c.args.names.now c.head_parse.new.names c.args.s.now c.head_parse.new.stream c.in-Ok.head c.in-Ok.ensures.read c.in-Ok.ensures.names c.in-Ok.ensures.distinct

pub head_made-requires-clause-known : goal.head_made-requires-clause-known
head_made-requires-clause-known g c = arguments_known g.T.IrText.reading (attr_at g.A.IrText.reading) c.args.names.now c.head_parse.new.names c.args.s.now c.head_parse.new.stream c.in-Ok.head c.in-Ok.ensures.read c.in-Ok.ensures.names c.in-Ok.ensures.distinct

pub refusal_fault-requires : goal.refusal_fault-requires
refusal_fault-requires g c = of_entries (entries_in c.in-Ok.head.attributes) c.in-Err-head_made.refusal c.in-Err-head_made.ensures.refused

pub returns-in-Err-head_made-clause-refused : goal.returns-in-Err-head_made-clause-refused
returns-in-Err-head_made-clause-refused g c =
    keys_refused g.T.IrText.reading (attr_at g.A.IrText.reading) c.args.names.now c.head_parse.new.names c.args.s.now c.head_parse.new.stream c.in-Ok.head c.in-Ok.ensures.read c.in-Ok.ensures.names c.in-Ok.ensures.distinct
    c.in-Err-head_made.refusal c.refusal_fault.result c.in-Err-head_made.ensures.refused (subst (λ v. UnlessMemory (IsRefusalFault (whole v) c.in-Err-head_made.refusal) c.refusal_fault.result) c.in-Err-head_made.ensures.stream c.refusal_fault.ensures)

pub returns-in-Err-head_made-clause-committed : goal.returns-in-Err-head_made-clause-committed
returns-in-Err-head_made-clause-committed g c = keys_commit (whole c.head_made.new.s.stream) c.in-Err-head_made.refusal c.refusal_fault.result c.refusal_fault.ensures

pub returns-in-Err-head_made-clause-names : goal.returns-in-Err-head_made-clause-names
returns-in-Err-head_made-clause-names g c = depths_read c.args.names.now c.head_parse.new.names c.in-Ok.ensures.names

pub returns-in-Err-head_made-clause-words : goal.returns-in-Err-head_made-clause-words
returns-in-Err-head_made-clause-words g c = c.in-Ok.ensures.names.words

pub returns-in-Err-head_made-clause-kept : goal.returns-in-Err-head_made-clause-kept
returns-in-Err-head_made-clause-kept g c = λ m le closed sound new. c.in-Err-head_made.ensures.kept m le new

-- ---- its names
pub head_named-requires-clause-values : goal.head_named-requires-clause-values
head_named-requires-clause-values g c = subst (λ vs. is_open vs ≡ true) (sym c.in-Ok.ensures.names.values) c.requires.values

pub head_named-requires-clause-labels : goal.head_named-requires-clause-labels
head_named-requires-clause-labels g c = subst (λ ls. is_open ls ≡ true) (sym c.in-Ok.ensures.names.labels) c.requires.labels

pub head_named-requires-clause-known : goal.head_named-requires-clause-known
head_named-requires-clause-known g c = subst (λ ns. AreKnown (length c.head_parse.new.names.names) (numbers_of ns)) (sym c.in-Ok-head_made.ensures.names) (arguments_known g.T.IrText.reading (attr_at g.A.IrText.reading) c.args.names.now c.head_parse.new.names c.args.s.now c.head_parse.new.stream c.in-Ok.head c.in-Ok.ensures.read c.in-Ok.ensures.names c.in-Ok.ensures.distinct)

pub head_named-requires-clause-label : goal.head_named-requires-clause-label
head_named-requires-clause-label g c = label_known g.T.IrText.reading (attr_at g.A.IrText.reading) c.args.names.now c.head_parse.new.names c.args.s.now c.head_parse.new.stream c.in-Ok.head c.in-Ok.ensures.read c.in-Ok.ensures.names c.in-Ok.ensures.distinct

pub head_named-requires-clause-tied : goal.head_named-requires-clause-tied
head_named-requires-clause-tied g c = opened_tied g.T.IrText.reading (attr_at g.A.IrText.reading) c.args.names.now c.head_parse.new.names c.args.s.now c.head_parse.new.stream c.in-Ok.head c.in-Ok.ensures.read c.in-Ok.ensures.names c.in-Ok.ensures.distinct c.head_made.new.s.state c.args.region c.in-Ok-head_made.made.0 c.in-Ok-head_made.ensures.makes c.requires.tied

pub head_named-requires-clause-ready : goal.head_named-requires-clause-ready
head_named-requires-clause-ready g c = opened_ready g.T.IrText.reading (attr_at g.A.IrText.reading) c.args.names.now c.head_parse.new.names c.args.s.now c.head_parse.new.stream c.in-Ok.head c.in-Ok.ensures.read c.in-Ok.ensures.names c.in-Ok.ensures.distinct c.head_made.new.s.state c.args.region c.in-Ok-head_made.made.0 c.in-Ok-head_made.ensures.makes c.in-Ok-head_made.made.1 c.in-Ok-head_made.ensures.names c.requires.tied

pub head_named-requires-clause-inside : goal.head_named-requires-clause-inside
head_named-requires-clause-inside g c = opened_inside g.T.IrText.reading (attr_at g.A.IrText.reading) c.args.names.now c.head_parse.new.names c.args.s.now c.head_parse.new.stream c.in-Ok.head c.in-Ok.ensures.read c.in-Ok.ensures.names c.in-Ok.ensures.distinct c.head_made.new.s.state c.args.region c.in-Ok-head_made.made.0 c.in-Ok-head_made.ensures.makes

pub head_named-requires-clause-there : goal.head_named-requires-clause-there
head_named-requires-clause-there g c = opened_there g.T.IrText.reading (attr_at g.A.IrText.reading) c.args.names.now c.head_parse.new.names c.args.s.now c.head_parse.new.stream c.in-Ok.head c.in-Ok.ensures.read c.in-Ok.ensures.names c.in-Ok.ensures.distinct c.head_made.new.s.state c.args.region c.in-Ok-head_made.made.0 c.in-Ok-head_made.ensures.makes

pub returns-in-Err-head_named-clause-refused : goal.returns-in-Err-head_named-clause-refused
returns-in-Err-head_named-clause-refused g c =
    opened_refused g.T.IrText.reading (attr_at g.A.IrText.reading) c.args.names.now c.head_parse.new.names c.args.s.now c.head_parse.new.stream c.in-Ok.head c.in-Ok.ensures.read c.in-Ok.ensures.names c.in-Ok.ensures.distinct c.head_made.new.s.state c.args.region c.in-Ok-head_made.made.0 c.in-Ok-head_made.ensures.makes c.in-Ok-head_made.ensures.marks c.in-Ok-head_made.made.1 c.in-Ok-head_made.ensures.names (whole c.head_made.new.s.stream) (ap whole c.in-Ok-head_made.ensures.stream) _ c.in-Err-head_named.ensures.refused

pub returns-in-Err-head_named-clause-names : goal.returns-in-Err-head_named-clause-names
returns-in-Err-head_named-clause-names g c = let e = c.in-Err-head_named.ensures in depths_on c.args.names.now c.head_parse.new.names c.head_named.new.names (depths_read c.args.names.now c.head_parse.new.names c.in-Ok.ensures.names) e.same e.values e.labels

pub returns-in-Err-head_named-clause-words : goal.returns-in-Err-head_named-clause-words
returns-in-Err-head_named-clause-words g c = λ w. subst AreWords (sym c.in-Err-head_named.ensures.same) (c.in-Ok.ensures.names.words w)

pub returns-in-Err-head_named-clause-kept : goal.returns-in-Err-head_named-clause-kept
returns-in-Err-head_named-clause-kept g c = λ m le closed sound new.
    opened_kept g.T.IrText.reading (attr_at g.A.IrText.reading) c.args.names.now c.head_parse.new.names c.args.s.now c.head_parse.new.stream c.in-Ok.head c.in-Ok.ensures.read c.in-Ok.ensures.names c.in-Ok.ensures.distinct c.head_made.new.s.state c.args.region c.in-Ok-head_made.made.0 c.in-Ok-head_made.ensures.makes c.head_named.new.s.state.ctx.now m closed sound (c.in-Ok-head_made.ensures.kept m le new) (λ there waits. c.in-Err-head_named.ensures.kept m there waits)

pub returns-in-Err-head_named-clause-unnoted : goal.returns-in-Err-head_named-clause-unnoted
returns-in-Err-head_named-clause-unnoted g c = (subst (λ ms. GainsMarks ms (marks_of c.head_named.new.s.state)) c.in-Ok-head_made.ensures.marks c.in-Err-head_named.ensures.unnoted)

-- ---- after an error, its mark may be recorded
pub returns-in-Err-head_made-clause-unnoted : goal.returns-in-Err-head_made-clause-unnoted
returns-in-Err-head_made-clause-unnoted g c = gains_nothing c.in-Err-head_made.ensures.marks

-- ---- the block is begun
pub returns-clause-names : goal.returns-clause-names
returns-clause-names g c = let e = c.in_default.ensures in depths_on c.args.names.now c.head_parse.new.names c.head_named.new.names (depths_read c.args.names.now c.head_parse.new.names c.in-Ok.ensures.names) e.same e.values e.labels

pub returns-clause-words : goal.returns-clause-words
returns-clause-words g c = λ w. subst AreWords (sym c.in_default.ensures.same) (c.in-Ok.ensures.names.words w)

pub returns-clause-kept : goal.returns-clause-kept
returns-clause-kept g c = λ m le closed sound new.
    opened_kept g.T.IrText.reading (attr_at g.A.IrText.reading) c.args.names.now c.head_parse.new.names c.args.s.now c.head_parse.new.stream c.in-Ok.head c.in-Ok.ensures.read c.in-Ok.ensures.names c.in-Ok.ensures.distinct c.head_made.new.s.state c.args.region c.in-Ok-head_made.made.0 c.in-Ok-head_made.ensures.makes c.head_named.new.s.state.ctx.now m closed sound (c.in-Ok-head_made.ensures.kept m le new) (λ there waits. c.in_default.ensures.kept m there waits)

pub returns-clause-begins : goal.returns-clause-begins
returns-clause-begins g c = opened_begins g.T.IrText.reading (attr_at g.A.IrText.reading) c.args.names.now c.head_parse.new.names c.args.s.now c.head_parse.new.stream c.in-Ok.head c.in-Ok.ensures.read c.in-Ok.ensures.names c.in-Ok.ensures.distinct c.head_made.new.s.state c.args.region c.in-Ok-head_made.made.0 c.in-Ok-head_made.ensures.makes c.in-Ok-head_made.ensures.marks c.head_named.new.s c.head_named.new.names c.in-Ok-head_made.made.1 c.in-Ok-head_made.ensures.names c.in_default.ensures.loses (c.in_default.ensures.stream ∙ c.in-Ok-head_made.ensures.stream) c.in_default.ensures.names

pub returns-clause-came : goal.returns-clause-came
returns-clause-came g c = λ h taken is. opened_came g.T.IrText.reading (attr_at g.A.IrText.reading) c.args.names.now c.head_parse.new.names c.args.s.now c.head_parse.new.stream c.in-Ok.head c.in-Ok.ensures.read c.in-Ok.ensures.names c.in-Ok.ensures.distinct c.head_made.new.s.state c.args.region c.in-Ok-head_made.made.0 c.in-Ok-head_made.ensures.makes c.head_named.new.s.state.ctx.now c.in_default.ensures.loses c.in-Ok-head_made.ensures.marks c.head_named.new.s.stream (c.in_default.ensures.stream ∙ c.in-Ok-head_made.ensures.stream) h taken is

pub returns-clause-gains : goal.returns-clause-gains
returns-clause-gains g c = opened_gains g.T.IrText.reading (attr_at g.A.IrText.reading) c.args.names.now c.head_parse.new.names c.args.s.now c.head_parse.new.stream c.in-Ok.head c.in-Ok.ensures.read c.in-Ok.ensures.names c.in-Ok.ensures.distinct c.head_made.new.s.state c.args.region c.in-Ok-head_made.made.0 c.in-Ok-head_made.ensures.makes c.head_named.new.s.state.ctx.now c.in_default.ensures.loses c.requires.region

pub returns-clause-spares : goal.returns-clause-spares
returns-clause-spares g c = opened_spares g.T.IrText.reading (attr_at g.A.IrText.reading) c.args.names.now c.head_parse.new.names c.args.s.now c.head_parse.new.stream c.in-Ok.head c.in-Ok.ensures.read c.in-Ok.ensures.names c.in-Ok.ensures.distinct c.head_made.new.s.state c.args.region c.in-Ok-head_made.made.0 c.in-Ok-head_made.ensures.makes c.head_named.new.s.state.ctx.now c.in_default.ensures.loses

pub returns-clause-new : goal.returns-clause-new
returns-clause-new g c = opened_new g.T.IrText.reading (attr_at g.A.IrText.reading) c.args.names.now c.head_parse.new.names c.args.s.now c.head_parse.new.stream c.in-Ok.head c.in-Ok.ensures.read c.in-Ok.ensures.names c.in-Ok.ensures.distinct c.head_made.new.s.state c.args.region c.in-Ok-head_made.made.0 c.in-Ok-head_made.ensures.makes c.head_named.new.s.state.ctx.now c.in_default.ensures.loses

pub returns-clause-noted : goal.returns-clause-noted
returns-clause-noted g c = λ h taken is. opened_noted g.T.IrText.reading (attr_at g.A.IrText.reading) c.args.names.now c.head_parse.new.names c.args.s.now c.head_parse.new.stream c.in-Ok.head c.in-Ok.ensures.read c.in-Ok.ensures.names c.in-Ok.ensures.distinct c.head_made.new.s.state c.args.region c.in-Ok-head_made.made.0 c.in-Ok-head_made.ensures.makes c.in-Ok-head_made.ensures.marks c.head_named.new.s.state c.head_named.new.names c.in-Ok-head_made.made.1 c.in-Ok-head_made.ensures.names c.in_default.ensures.names c.head_named.new.s.stream (c.in_default.ensures.stream ∙ c.in-Ok-head_made.ensures.stream) h taken is

pub returns-clause-lasts : goal.returns-clause-lasts
returns-clause-lasts g c = opened_lasts g.T.IrText.reading (attr_at g.A.IrText.reading) c.args.names.now c.head_parse.new.names c.args.s.now c.head_parse.new.stream c.in-Ok.head c.in-Ok.ensures.read c.in-Ok.ensures.names c.in-Ok.ensures.distinct c.head_made.new.s.state c.args.region c.in-Ok-head_made.made.0 c.in-Ok-head_made.ensures.makes c.head_named.new.s.state.ctx.now c.in_default.ensures.loses c.in_default.ensures.dialects

pub returns-clause-sound : goal.returns-clause-sound
returns-clause-sound g c = λ m le h. c.in_default.ensures.sound m (opened_sound g.T.IrText.reading (attr_at g.A.IrText.reading) c.args.names.now c.head_parse.new.names c.args.s.now c.head_parse.new.stream c.in-Ok.head c.in-Ok.ensures.read c.in-Ok.ensures.names c.in-Ok.ensures.distinct c.head_made.new.s.state c.args.region c.in-Ok-head_made.made.0 c.in-Ok-head_made.ensures.makes m h)
