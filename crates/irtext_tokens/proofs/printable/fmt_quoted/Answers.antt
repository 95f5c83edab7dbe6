use Rattle.std.proofs.Common.{string_bytes}
use Rattle.irtext_tokens.proofs.QuotedText.{quoted-appended}
use Rattle.irtext_tokens.proofs.printable.fmt_quoted.Goals as goal

pub returns-clause-text : goal.returns-clause-text
returns-clause-text c =
    quoted-appended c.args.text.now (string_bytes c.args.f.now) (string_bytes c.push_str.new.text) (string_bytes c.fmt_images.new.f) (string_bytes c.push_str-2.new.text) c.utf8.text
    c.in_ok-push_str.ensures.bytes c.in_ok-fmt_images.ensures.text c.in_ok-push_str-2.ensures.bytes
