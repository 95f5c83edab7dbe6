use Rattle.std.proofs.Common.{◌∙◌, ap, string_bytes}
use Rattle.irtext_tokens.proofs.QuotedText.{code-appended, digit-appended}
use Rattle.irtext_tokens.proofs.printable.fmt_code.Goals as goal
use Rattle.irtext_tokens.proofs.printable.fmt_code.Goals.{then-byte-ge16+in_ok-push_str, else-byte-ge16}

pub returns-clause-text : goal.returns-clause-text
returns-clause-text c =
    let low = c.digit-2.ensures in
    elim c.if-byte-ge16.branch [
      | then-byte-ge16+in_ok-push_str w ↦
          code-appended c.args.byte (string_bytes c.args.f.now) (string_bytes c.if-byte-ge16.f) (string_bytes c.push_str-2.new.text) w.digit.result.now c.digit-2.result.now w.if-byte-ge16.true c.requires w.digit.ensures low
          (ap string_bytes w.f-is ∙ w.in_ok-push_str.ensures.bytes) c.in_ok-push_str-2.ensures.bytes
      | else-byte-ge16 w ↦
          digit-appended c.args.byte (string_bytes c.args.f.now) (string_bytes c.if-byte-ge16.f) (string_bytes c.push_str-2.new.text) c.digit-2.result.now w.if-byte-ge16.false low (ap string_bytes w.f-is) c.in_ok-push_str-2.ensures.bytes
    ]
