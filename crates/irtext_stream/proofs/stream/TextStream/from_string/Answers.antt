use Rattle.std.proofs.Common.{rules, arith}
use Rattle.std.proofs.lemmas.Str.{chars-nil, IsUtf8-nil, IsUtf8-string_bytes}
use Rattle.irtext_stream.proofs.stream.TextStream.from_string.Goals as goal

pub invariant_of-result : goal.invariant_of-result
invariant_of-result c = (omega arith, IsUtf8-nil, IsUtf8-string_bytes c.args.text, rw (← c.as_str.ensures.value) c.in_ok-index.ensures)

pub returns : goal.returns
returns c = search (rules, chars-nil)
