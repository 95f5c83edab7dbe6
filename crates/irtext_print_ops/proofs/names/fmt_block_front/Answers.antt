use Rattle.std.proofs.Common.{string_bytes}
use Rattle.irtext_print_ops.proofs.NamesWritten.{labelled_front, plain_front}
use Rattle.irtext_print_ops.proofs.names.fmt_block_front.Goals as goal

pub returns-in_ok-push_str-in-Some-3-clause-text : goal.returns-in_ok-push_str-in-Some-3-clause-text
returns-in_ok-push_str-in-Some-3-clause-text c =
    rw c.in-Some.is (labelled_front c.in-Some.label.now c.as_str.result.now (string_bytes c.args.f.now) (string_bytes c.push_str.new.text) (string_bytes c.push_str-in-Some.new.text) (string_bytes c.push_str-in-Some-2.new.text)
    c.as_str.ensures.fits c.as_str.ensures.text c.in_ok-push_str-in-Some.ensures.bytes c.in_ok-push_str-in-Some-2.ensures.bytes c.in_ok-push_str-in-Some-3.ensures.bytes)

pub returns-in_ok-push_str-in-None-clause-text : goal.returns-in_ok-push_str-in-None-clause-text
returns-in_ok-push_str-in-None-clause-text c = rw c.in-None.is (plain_front (string_bytes c.args.f.now) (string_bytes c.push_str-in-None.new.text) c.in_ok-push_str-in-None.ensures.bytes)
