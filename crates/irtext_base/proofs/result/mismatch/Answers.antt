use Rattle.std.proofs.Common.{◌++◌, codes, ◌∙◌, ap, sym, append_assoc, encode_utf8}
use Rattle.std.proofs.Output.{has_written_of_eq}
use Rattle.irtext_base.specs.Causes.{expected_text, mismatch_text}
use Rattle.irtext_base.proofs.result.mismatch.Goals as goal

pub returns-in-Some : goal.returns-in-Some
returns-in-Some g c plain ok =
    let expected = c.args.expected.now in
    let whole = append_assoc (encode_utf8 c.in-Some.c) (codes "`") (codes ", expected " ++ expected_text expected) in
    let same = ap (λ z. codes "Unexpected `" ++ z) (sym whole) ∙ ap (λ found. mismatch_text found expected) (sym c.in-Some.is) in
    has_written_of_eq _ _ _ _ _ same (c.write.ensures.writes plain ok)

pub returns-in-None : goal.returns-in-None
returns-in-None g c plain ok =
    has_written_of_eq _ _ _ _ _ (ap (λ found. mismatch_text found c.args.expected.now) (sym c.in-None.is)) (c.write-in-None.ensures.writes plain ok)
