use Rattle.std.proofs.Common.{◌≡◌, length, string_bytes}
use Rattle.std.specs.Str.{encode_utf8_all}
use Rattle.irtext_base.specs.Text.{Text}
use Rattle.irtext_tokens.proofs.QuotedSteps.{Within}
use Rattle.irtext_tokens.proofs.irfmt.parsers.quoted.units_parse.Given as goal

abbrev pub invariant-loop-stream : goal.invariant-loop-stream
invariant-loop-stream g l = (cs : Text) × (taken : Text) × (string_bytes l.text ≡ encode_utf8_all cs) × Within g.S.CharStream.view g.S.CharStream.at l.fn.stream l.stream cs taken

abbrev pub decreases-loop-stream : goal.decreases-loop-stream
decreases-loop-stream g l = length (g.S.CharStream.view l.stream).rest
