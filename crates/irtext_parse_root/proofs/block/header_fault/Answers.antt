use Rattle.std.proofs.Common.{inl, inr, arith}
use Rattle.irtext_grammar.specs.Contexts.Held.{whole}
use Rattle.irtext_grammar.specs.Promises.Section.{indices_of}
use Rattle.irtext_parse_state.specs.States.{marks_of}
use Rattle.irtext_names.proofs.Numbered.{item_there}
use Rattle.irtext_parse_root.proofs.BlockHeads.{key_outside, argument_outside, mark_outside, label_outside, named_within, argument_within}
use Rattle.irtext_parse_root.proofs.block.header_fault.Goals as goal

-- ---- a key
pub returns-in-Some-clause-first : goal.returns-in-Some-clause-first
returns-in-Some-clause-first g c = λ h is. elim c.key_fault.ensures.says [
  | inl ran_out ↦ inl ran_out
  | inr k ↦ inr (record { first = key_outside (whole c.args.stream.now) c.key_fault.result c.args.names.now.names c.args.head.now h is (indices_of (marks_of c.args.state.now)) c.in-Some.key.now c.in-Some.ensures k; flag = k.flag })
]

-- ---- an argument
pub no_scope_error-requires-clause-known : goal.no_scope_error-requires-clause-known
no_scope_error-requires-clause-known g c =
    let read = c.args.head.now in
    let r = c.requires.read in
    argument_within c.args.names.now.names (whole c.args.stream.now) read.arguments r.head.arguments c.index.result.now r.is.arguments
    (item_there read.arguments 0 c.index.result.now (omega (arith, c.len.ensures, c.if-len-ne0.true)) c.index.ensures)

pub returns-then-len-ne0-clause-first : goal.returns-then-len-ne0-clause-first
returns-then-len-ne0-clause-first g c = λ h is.
    let read = c.args.head.now in
    let there = item_there read.arguments 0 c.index.result.now (omega (arith, c.len.ensures, c.if-len-ne0.true)) c.index.ensures in
    elim c.no_scope_error.ensures.says [
      | inl ran_out ↦ inl ran_out
      | inr k ↦ inr (record {
        first = argument_outside (whole c.args.stream.now) c.no_scope_error.result c.args.names.now.names read h is (indices_of (marks_of c.args.state.now)) c.index.result.now c.in_default.ensures there k;
        flag = k.flag;
      })
    ]

-- ---- the mark
pub returns-in-Some-noted_twice-clause-first : goal.returns-in-Some-noted_twice-clause-first
returns-in-Some-noted_twice-clause-first g c = λ h is.
    let f = c.mark_fault.ensures in
    inr (record {
      first = mark_outside (whole c.args.stream.now) c.mark_fault.result c.args.names.now.names c.args.head.now h is (marks_of c.args.state.now) c.in_default.ensures (omega (arith, c.len.ensures, c.if-len-ne0.false))
          c.in-Some-noted_twice.mark c.in-Some-noted_twice.ensures (f.cause, f.place);
      flag = f.flag;
    })

-- ---- the label
pub no_scope_error-requires-in-None-clause-known : goal.no_scope_error-requires-in-None-clause-known
no_scope_error-requires-in-None-clause-known g c =
    let label = c.requires.read.is.label in
    named_within c.args.names.now.names c.args.head.now.label.name c.requires.read.head.label.text label.named

pub returns-in-None-clause-first : goal.returns-in-None-clause-first
returns-in-None-clause-first g c = λ h is. elim c.no_scope_error-in-None.ensures.says [
  | inl ran_out ↦ inl ran_out
  | inr k ↦ inr (record {
    first = label_outside (whole c.args.stream.now) c.no_scope_error-in-None.result c.args.names.now.names c.args.head.now h is (marks_of c.args.state.now) c.in_default.ensures (omega (arith, c.len.ensures, c.if-len-ne0.false)) c.in-None.ensures k;
    flag = k.flag;
  })
]
