use Rattle.std.proofs.Common.{◌∙◌, sym, subst}
use Rattle.irtext_base.specs.Answers.{Passes}
use Rattle.irtext_base.specs.Faults.{Unexpected}
use Rattle.irtext_base.specs.Stream.{first_of}
use Rattle.irtext_tokens.specs.AttrTexts.{attr_at}
use Rattle.irtext_grammar.specs.Readers.Streams.{itself, replaced}
use Rattle.irtext_parse_pieces.proofs.Meanings.{names_none}
use Rattle.irtext_parse_root.proofs.BlockHeads.{begun_mean, none_begins, none_runs_out}
use Rattle.irtext_parse_root.proofs.block.header_parse.Goals as goal

pub returns-then-next_is-clause-read : goal.returns-then-next_is-clause-read
returns-then-next_is-clause-read g c =
    begun_mean g.T.IrText.reading (attr_at g.A.IrText.reading) c.args.stream.now c.block_head_parse.new.stream c.requires.fine c.block_head_parse.result (sym c.next_is.ensures ∙ c.if-next_is.true) c.block_head_parse.ensures.read

pub returns-in-Ok-clause-read : goal.returns-in-Ok-clause-read
returns-in-Ok-clause-read g c =
    none_begins g.T.IrText.reading (attr_at g.A.IrText.reading) c.args.stream.now c.args.stream.now c.requires.fine c.unexpected.result (sym c.next_is.ensures ∙ c.if-next_is.false)
    (subst (λ d. Passes itself replaced (Unexpected (first_of c.args.stream.now.rest) d) c.args.stream.now c.unexpected.result c.args.stream.now) c.in-Ok.ensures c.unexpected.ensures)

pub returns-in-Ok-clause-names : goal.returns-in-Ok-clause-names
returns-in-Ok-clause-names g c = names_none c.args.names.now

pub returns-in-Err-clause-read : goal.returns-in-Err-clause-read
returns-in-Err-clause-read g c = none_runs_out g.T.IrText.reading (attr_at g.A.IrText.reading) c.args.stream.now c.out_of_memory.new.stream c.requires.fine c.out_of_memory.result c.out_of_memory.ensures

pub returns-in-Err-clause-names : goal.returns-in-Err-clause-names
returns-in-Err-clause-names g c = names_none c.args.names.now
