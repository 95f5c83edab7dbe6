use Rattle.std.proofs.Common.{◌≡◌, ◌<◌, ◌+◌, ◌++◌, ◌∙◌, [], ◌∷◌, arith, inr, length, refl, string_bytes, string_capacity, string_len, subst}
use Rattle.std.specs.Char.{encode_utf8}
use Rattle.irtext_print_ir.proofs.Printers.Refused.{always, full_both}
use Rattle.irtext_print_ir.proofs.printable.plain.ListSeparatorPrintable.fmt.Goals as goal

pub returns-in_err-push-in-CharSpace-2-clause-refused : goal.returns-in_err-push-in-CharSpace-2-clause-refused
returns-in_err-push-in-CharSpace-2-clause-refused g c =
    let text = c.push-in-CharSpace.new.self in
    let space = subst (λ space. string_capacity text < string_len text + length space) (c.push-in-CharSpace-2.ensures.ascii (omega arith)) c.in_err-push-in-CharSpace-2.ensures.full in
    let full = full_both (encode_utf8 c.in-CharSpace.c) (32 ∷ []) (string_len c.args.f.now) c.push-in-CharSpace.ensures.capacity c.in_ok-push-in-CharSpace.ensures.len space in
    let kept : string_bytes c.push-in-CharSpace-2.new.self ≡ string_bytes c.args.f.now ++ encode_utf8 c.in-CharSpace.c = c.in_err-push-in-CharSpace-2.ensures.bytes ∙ c.in_ok-push-in-CharSpace.ensures.bytes in
    always c.from_residual-in_err-push-in-CharSpace-2.result (rw c.in-CharSpace.is (inr (refl, kept, full)))
