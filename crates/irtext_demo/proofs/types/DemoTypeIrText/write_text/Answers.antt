use Rattle.std.proofs.Common.{◌++◌, ◌∙◌, sym, ap, string_bytes}
use Rattle.std.specs.Str.{encode_utf8_all}
use Rattle.irtext_demo.specs.Types.{type_text}
use Rattle.irtext_demo.proofs.TypeTexts.{then, encodes-type}
use Rattle.irtext_demo.proofs.types.DemoTypeIrText.write_text.Goals as goal

pub returns-in-Integer-clause-text : goal.returns-in-Integer-clause-text
returns-in-Integer-clause-text g c =
    then c.write_integer_type.result (λ w. w ∙ ap (λ z. string_bytes c.args.f.now ++ z) (sym (encodes-type c.in-Integer.ty))
    ∙ ap (λ t. string_bytes c.args.f.now ++ encode_utf8_all (type_text t)) (sym c.in-Integer.is)) c.write_integer_type.ensures.text
