use Rattle.std.proofs.Common.{◌∙◌, true, is_some, [], refl, sym, subst, true≢false}
use Rattle.irtext_graph.specs.Back.{AllOlder}
use Rattle.irtext_grammar.specs.Contexts.Held.{whole}
use Rattle.irtext_grammar.specs.Promises.Root.{UnlessMemory}
use Rattle.irtext_tokens.specs.AttrTexts.{attr_at}
use Rattle.irtext_tokens.proofs.Steps.{alone}
use Rattle.irtext_parse_pieces.proofs.Meanings.{takes_whole}
use Rattle.irtext_names.specs.Tied.{ArePending}
use Rattle.irtext_parse_nested.specs.Beginning.{NotGatheredAs}
use Rattle.irtext_parse_nested.specs.Read.{RefusesOperation}
use Rattle.irtext_parse_nested.proofs.BeginRead.{if_ok_both, on_ok_by}
use Rattle.irtext_parse_nested.proofs.BlockOpened.{read_tied}
use Rattle.irtext_parse_nested.proofs.Depths.{depths_read, depths_on}
use Rattle.irtext_names.proofs.Outcomes.{if_err}
use Rattle.irtext_parse_nested.proofs.OperationBegun.{comes_where, located_here, front_can, front_own, front_begun, front_came, front_begins, front_misses, front_fails, ungathered_commits}
use Rattle.irtext_parse_nested.proofs.OperationMade.{begun_lasts, begun_new, begun_ties, begun_waits, begun_blanks}
use Rattle.irtext_parse_nested.proofs.beginning.operation_begin.Goals as goal

pub returns-in-Err-clause-refused : goal.returns-in-Err-clause-refused
returns-in-Err-clause-refused g c =
    let old = c.args.s.now in
    let names = c.args.names.now in
    subst (λ w. UnlessMemory (RefusesOperation g.T.IrText.reading (attr_at g.A.IrText.reading) w names old) c.in-Err.fault) c.is_some.ensures (front_misses g.T.IrText.reading (attr_at g.A.IrText.reading) c.is_some.result old names c.in-Err.fault c.in-Err.ensures.unmet)

pub returns-in-Err-clause-unread : goal.returns-in-Err-clause-unread
returns-in-Err-clause-unread g c = c.in-Err.ensures.unread

pub returns-in-Ok-clause-unread : goal.returns-in-Ok-clause-unread
returns-in-Ok-clause-unread g c =
    if_err c.begin_read.result (λ fault u e. absurd (true≢false (sym (ungathered_commits g.T.IrText.reading (attr_at g.A.IrText.reading) (is_some c.args.block) c.args.s.now c.in-Ok.front.pieces c.front_read.new.names (whole c.front_read.new.stream) fault u) ∙ e))) c.begin_read.ensures.refused

pub begin_read-requires-clause-can : goal.begin_read-requires-clause-can
begin_read-requires-clause-can g c =
    let front = c.in-Ok.ensures in
    record {
      can = front_can g.T.IrText.reading (attr_at g.A.IrText.reading) c.is_some.result c.args.s.now front.alive c.front_read.new.names refl;
      text = whole c.args.s.now.stream;
      parts = front.alive.parts;
      are = front.alive.are;
      tied = read_tied c.args.names.now c.front_read.new.names c.front_read.ensures.names c.args.s.now.state.ctx.now c.requires.tied;
      key_is = front.key;
    }

pub begin_read-requires-clause-block : goal.begin_read-requires-clause-block
begin_read-requires-clause-block g c = c.requires.block

pub returns-in-Ok-clause-begins : goal.returns-in-Ok-clause-begins
returns-in-Ok-clause-begins g c =
    let old = c.args.s.now in
    let f = comes_where g.T.IrText.reading (attr_at g.A.IrText.reading) old.state.ctx.now.dialects c.is_some.result (is_some c.args.block) c.is_some.ensures c.in-Ok.ensures.alive in
    if_ok_both c.begin_read.result (λ b m s. front_begins g.T.IrText.reading (attr_at g.A.IrText.reading) (is_some c.args.block) old f c.begin_read.new.s m (subst (λ n. AllOlder n old.state.ctx.now.graph) c.made.ensures.made c.made.ensures.older) c.requires.block
    c.front_read.ensures.names c.in-Ok.ensures.distinct c.begin_read.ensures.marks c.in-Ok.ensures.counted c.in-Ok.ensures.coming c.in-Ok.ensures.isolated c.front_read.new.stream.rest refl s
    (record { passed = old.stream.passed; rest = old.stream.rest; same = refl; positioned = c.position-at.ensures; counts = refl })) c.begin_read.ensures.makes c.begin_read.ensures.stream

pub returns-in-Ok-clause-refused : goal.returns-in-Ok-clause-refused
returns-in-Ok-clause-refused g c =
    let old = c.args.s.now in
    let f = comes_where g.T.IrText.reading (attr_at g.A.IrText.reading) old.state.ctx.now.dialects c.is_some.result (is_some c.args.block) c.is_some.ensures c.in-Ok.ensures.alive in
    let same = takes_whole alone old.stream c.front_read.new.stream f.moves.taken c.front_read.new.stream.rest f.moves.takes in
    if_err c.begin_read.result (λ fault u. front_fails g.T.IrText.reading (attr_at g.A.IrText.reading) (is_some c.args.block) old f c.front_read.ensures.names c.in-Ok.ensures.distinct fault
    (subst (λ t. NotGatheredAs c.in-Ok.front.pieces c.front_read.new.names old.state.ctx.now.graph t fault) same u)) c.begin_read.ensures.refused

pub returns-in-Ok-clause-came : goal.returns-in-Ok-clause-came
returns-in-Ok-clause-came g c =
    let old = c.args.s.now in
    let f = comes_where g.T.IrText.reading (attr_at g.A.IrText.reading) old.state.ctx.now.dialects c.is_some.result (is_some c.args.block) c.is_some.ensures c.in-Ok.ensures.alive in
    if_ok_both c.begin_read.result (λ b m s read. (
      front_own g.T.IrText.reading (attr_at g.A.IrText.reading) (is_some c.args.block) old f,
      front_begun g.T.IrText.reading (attr_at g.A.IrText.reading) (is_some c.args.block) old f c.begin_read.new.s.stream.rest read,
      front_came g.T.IrText.reading (attr_at g.A.IrText.reading) (is_some c.args.block) old f c.begin_read.new.s m (subst (λ n. AllOlder n old.state.ctx.now.graph) c.made.ensures.made c.made.ensures.older) c.requires.block (located_here old.stream old.state.src c.loc-loc.result c.loc-loc.ensures),
    )) c.begin_read.ensures.makes c.begin_read.ensures.stream

pub returns-in-Ok-clause-lasts : goal.returns-in-Ok-clause-lasts
returns-in-Ok-clause-lasts g c =
    let old = c.args.s.now.state.ctx.now in
    on_ok_by c.begin_read.result (λ b m. begun_lasts m
    (subst (λ n. AllOlder n old.graph) c.made.ensures.made c.made.ensures.older)) c.begin_read.ensures.makes

pub returns-in-Err-clause-names : goal.returns-in-Err-clause-names
returns-in-Err-clause-names g c = depths_read c.args.names.now c.front_read.new.names c.front_read.ensures.names

pub returns-in-Ok-clause-names : goal.returns-in-Ok-clause-names
returns-in-Ok-clause-names g c = let e = c.begin_read.ensures in depths_on c.args.names.now c.front_read.new.names c.begin_read.new.names (depths_read c.args.names.now c.front_read.new.names c.front_read.ensures.names) e.names e.values e.labels

pub returns-in-Ok-clause-sound : goal.returns-in-Ok-clause-sound
returns-in-Ok-clause-sound g c =
    let old = c.args.s.now.state.ctx.now in
    let older = subst (λ n. AllOlder n old.graph) c.made.ensures.made c.made.ensures.older in
    let read = c.front_read.ensures.names in
    on_ok_by c.begin_read.result (λ b m n le sound.
    let waits = subst (λ ls. ArePending n [] c.front_read.new.names.values ls old.graph) (sym read.labels) (subst (λ vs. ArePending n [] vs c.args.names.now.labels old.graph) (sym read.values) sound.waiting) in
    record {
      tied = begun_ties m older c.requires.block;
      waiting = begun_waits m older c.requires.block n le waits;
      blanks = begun_blanks m older n sound.blanks;
    }) c.begin_read.ensures.makes

pub returns-in-Ok-clause-new : goal.returns-in-Ok-clause-new
returns-in-Ok-clause-new g c =
    let old = c.args.s.now.state.ctx.now in
    let older = subst (λ n. AllOlder n old.graph) c.made.ensures.made c.made.ensures.older in
    if_ok_both c.begin_read.result (λ b m s n le. begun_new m older n le) c.begin_read.ensures.makes c.begin_read.ensures.stream
