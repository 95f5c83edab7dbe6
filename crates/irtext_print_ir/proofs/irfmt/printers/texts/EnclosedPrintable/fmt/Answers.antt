use Rattle.std.proofs.Common.{inl, inr}
use Rattle.irtext_print_ir.proofs.Printers.Refused.{always}
use Rattle.irtext_print_ir.proofs.irfmt.printers.texts.EnclosedPrintable.fmt.Goals as goal

pub returns-in_err-fmt-clause-refused : goal.returns-in_err-fmt-clause-refused
returns-in_err-fmt-clause-refused g c =
    always c.from_residual-in_err-fmt.result (inr (c.push_str.new.self, c.in_ok-push_str.ensures.bytes, c.push_str.ensures.capacity, inl c.in_err-fmt.ensures.refused))

pub returns-in_err-push_str-2-clause-refused : goal.returns-in_err-push_str-2-clause-refused
returns-in_err-push_str-2-clause-refused g c =
    always c.from_residual-in_err-push_str-2.result (inr (c.push_str.new.self, c.in_ok-push_str.ensures.bytes, c.push_str.ensures.capacity, inr (c.fmt.new.f, c.in_ok-fmt.ensures.prints, c.in_err-push_str-2.ensures.bytes, c.in_err-push_str-2.ensures.full)))
