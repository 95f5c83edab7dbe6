use Rattle.std.proofs.Common.{inl, inr, true, rules, subst, string_bytes}
use Rattle.irtext_graph.specs.Graph.{children, parent}
use Rattle.irtext_graph.specs.Nested.{Nested}
use Rattle.irtext_parse_root.specs.Parses.{ResolvesRoot, FirstOfOperation}
use Rattle.irtext.proofs.Reading.{is_read, not_begun, all_seen}
use Rattle.irtext.proofs.root.read_root.Goals as goal

pub returns : goal.returns
returns g c =
    let after = c.parse_from_string-answer.new.ctx in
    let result = c.parse_from_string-answer.result in
    let nested = subst (λ z. Nested (children z) (parent z)) c.graph.ensures c.keeps_nesting.ensures.forest in
    let still = subst (λ z. Nested (children z) (parent z)) c.graph-2.ensures c.keeps_nesting-2.ensures.forest in
    elim c.parse_from_string-answer.ensures [
      | inl ran ↦
          let resolves : ResolvesRoot g.T.IrText g.A.IrText ran.runs.start.now ran.answer ran.runs.finish.now = search rules in
          let first : FirstOfOperation g.T.IrText g.A.IrText true ran.runs.start.now ran.answer ran.runs.finish.now = search rules in
          let found = is_read g.T.IrText g.A.IrText (string_bytes c.args.text) c.args.ctx.now ran.runs.start.now ran.runs.finish.now ran.runs.begins after ran.runs.context ran.answer resolves first result ran.passed in
          record { reads = found.0; seen = all_seen g.T.IrText g.A.IrText (string_bytes c.args.text) c.args.ctx.now after nested still result found.0; rejected = found.1 }
      | inr memory ↦
          let found = not_begun g.T.IrText g.A.IrText (string_bytes c.args.text) c.args.ctx.now after result memory.0 in
          record { reads = found.0; seen = all_seen g.T.IrText g.A.IrText (string_bytes c.args.text) c.args.ctx.now after nested still result found.0; rejected = found.1 }
    ]
