use Rattle.std.proofs.Common.{sym, subst}
use Rattle.irtext_grammar.specs.Readers.Refusals.{Refusal}
use Rattle.irtext_tokens.specs.AttrTexts.{attr_at}
use Rattle.irtext_parse_root.proofs.Laws.{laws_of}
use Rattle.irtext_parse_root.proofs.Closed.{reads_tree}
use Rattle.irtext_parse_root.proofs.Fresh.{fresh_once, keeps_all}
use Rattle.irtext_parse_root.proofs.NestedWhole.{has_fault}
use Rattle.irtext_parse_root.proofs.Refused.{says_text, refusal_by}
use Rattle.irtext_parse_root.proofs.tree.tree_parse.Goals as goal

pub nested_parse-requires-clause-sound : goal.nested_parse-requires-clause-sound
nested_parse-requires-clause-sound g c = fresh_once c.with_seed-names.result c.args.s.now.state c.with_seed-names.ensures.names c.with_seed-names.ensures.values c.with_seed-names.ensures.labels c.context_keeps.ensures.older

pub returns-in-Ok-clause-kept : goal.returns-in-Ok-clause-kept
returns-in-Ok-clause-kept g c = keeps_all c.with_seed-names.result c.args.s.now.state c.with_seed-names.ensures.names c.with_seed-names.ensures.values c.with_seed-names.ensures.labels c.context_keeps.ensures.older c.context_keeps.ensures.closed (λ m le closed sound. c.in-Ok.ensures.spares.kept m le closed sound tt)

pub returns-in-Ok-clause-read : goal.returns-in-Ok-clause-read
returns-in-Ok-clause-read g c =
    let laws = laws_of g.T.IrText g.A.IrText g.met.T.IrText.sincere g.met.A.IrText.sincere g.met.A.IrText.lawful in
    let before = c.context_keeps.ensures in
    let e = c.with_seed-names.ensures in
    rw c.ended.ensures (reads_tree g.T.IrText.reading g.T.IrText.written g.A.IrText.reading g.A.IrText.written laws.types_split laws.splits laws.words laws.short_types laws.short_owns
    c.with_seed-names.result c.nested_parse.new.names c.args.s.now c.nested_parse.new.s e.names e.values e.labels c.in-Ok.op c.in-Ok.ensures.read
    before.accepted before.older (returns-in-Ok-clause-kept g c) c.in-Ok.ensures.carries c.context_keeps-in-Ok.ensures.nest before.holders)

pub returns-in-Ok-clause-undone : goal.returns-in-Ok-clause-undone
returns-in-Ok-clause-undone g c = rw c.ended.ensures (record { rest = c.in-Ok.ensures.rest; refused = tt; noted = tt; kept = tt })

pub returns-in-Ok-clause-missed : goal.returns-in-Ok-clause-missed
returns-in-Ok-clause-missed g c = rw c.ended.ensures tt

pub returns-in-Ok-clause-moves : goal.returns-in-Ok-clause-moves
returns-in-Ok-clause-moves g c = rw c.ended.ensures c.in-Ok.ensures.carries.moves

pub returns-in-Ok-clause-noted : goal.returns-in-Ok-clause-noted
returns-in-Ok-clause-noted g c = c.in-Ok.ensures.carries.gains

pub returns-in-Err-clause-missed : goal.returns-in-Err-clause-missed
returns-in-Err-clause-missed g c =
    let e = c.with_seed-names.ensures in
    rw c.refused.ensures.same (has_fault g.T.IrText.reading (attr_at g.A.IrText.reading) c.with_seed-names.result c.args.s.now e.names e.values e.labels c.in-Err.fault c.in-Err.ensures.refused)

pub returns-in-Err-clause-read : goal.returns-in-Err-clause-read
returns-in-Err-clause-read g c = rw c.refused.ensures.same tt

pub returns-in-Err-clause-moves : goal.returns-in-Err-clause-moves
returns-in-Err-clause-moves g c = rw c.refused.ensures.same tt

pub returns-in-Err-clause-kept : goal.returns-in-Err-clause-kept
returns-in-Err-clause-kept g c = keeps_all c.with_seed-names.result c.args.s.now.state c.with_seed-names.ensures.names c.with_seed-names.ensures.values c.with_seed-names.ensures.labels c.context_keeps.ensures.older c.context_keeps.ensures.closed (λ m le closed sound. c.in-Err.ensures.spares.kept m le closed sound tt)

pub returns-in-Err-clause-undone : goal.returns-in-Err-clause-undone
returns-in-Err-clause-undone g c =
    let e = c.with_seed-names.ensures in
    let f = c.in-Err.ensures in
    let says = says_text g.T.IrText.reading g.A.IrText.reading g.met.T.IrText.sincere g.met.A.IrText.sincere c.with_seed-names.result c.args.s.now e.names e.values e.labels c.in-Err.fault f.refused in
    rw c.refused.ensures.same (record {
      rest = f.rest;
      refused = subst (Refusal c.args.s.now.stream c.in-Err.fault) (sym c.refused.ensures.fails) (refusal_by c.args.s.now.stream c.nested_parse.new.s.stream c.in-Err.fault says f.unread);
      noted = f.spares.remains.gains;
      kept = returns-in-Err-clause-kept g c;
    })

pub returns-in-Err-clause-noted : goal.returns-in-Err-clause-noted
returns-in-Err-clause-noted g c = c.in-Err.ensures.spares.remains.gains
