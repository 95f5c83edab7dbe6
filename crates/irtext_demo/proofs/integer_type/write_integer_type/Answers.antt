use Rattle.std.proofs.Common.{codes, ◌++◌, ◌∙◌, ap, string_bytes}
use Rattle.std.specs.Fmt.{decimal}
use Rattle.irtext_demo.proofs.TypeTexts.{then, joined_type}
use Rattle.irtext_demo.proofs.integer_type.write_integer_type.Goals as goal

pub returns-clause-text : goal.returns-clause-text
returns-clause-text c =
    then c.write_width.result (λ w. joined_type c.args.ty.now (string_bytes c.args.f.now) (string_bytes c.write_front.new.f) (string_bytes c.write_width.new.f) (codes "builtin.integer ") c.in_ok-write_front.ensures.text
    (w ∙ ap (λ n. string_bytes c.write_front.new.f ++ decimal n) c.bits.ensures)) c.write_width.ensures.text
