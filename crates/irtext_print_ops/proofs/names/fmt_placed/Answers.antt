use Rattle.std.proofs.Common.{option_copied, string_bytes}
use Rattle.irtext_print.proofs.Printers.Appended.{then}
use Rattle.irtext_print_ops.proofs.NamesWritten.{block_first, block_placed}
use Rattle.irtext_print_ops.proofs.names.fmt_placed.Goals as goal

pub returns-clause-text : goal.returns-clause-text
returns-clause-text c =
    then c.fmt_number-2.result (λ q. block_placed (option_copied c.args.label) c.args.place c.args.generation (string_bytes c.args.f.now) (string_bytes c.fmt_block_front.new.f) (string_bytes c.fmt_number.new.f) (string_bytes c.push_str-2.new.text)
    (string_bytes c.fmt_number-2.new.f) c.in_ok-fmt_block_front.ensures.text c.in_ok-fmt_number.ensures.text c.in_ok-push_str-2.ensures.bytes q) c.fmt_number-2.ensures.text

pub returns-then-generation-eq1-clause-text : goal.returns-then-generation-eq1-clause-text
returns-then-generation-eq1-clause-text c =
    block_first (option_copied c.args.label) c.args.place c.args.generation (string_bytes c.args.f.now) (string_bytes c.fmt_block_front.new.f) (string_bytes c.fmt_number.new.f) (string_bytes c.push_str.new.text)
    c.if-generation-eq1.true c.in_ok-fmt_block_front.ensures.text c.in_ok-fmt_number.ensures.text c.in_ok-push_str.ensures.bytes
