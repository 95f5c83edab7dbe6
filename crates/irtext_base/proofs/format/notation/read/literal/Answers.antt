use Rattle.std.proofs.Common.{◌≡◌, [], false, length, arith, string_bytes}
use Rattle.std.proofs.lemmas.Bool.Decides.{nat_tests}
use Rattle.std.proofs.lemmas.Str.{IsUtf8-string_bytes}
use Rattle.irtext_base.specs.FormatViews.{directive_of}
use Rattle.irtext_base.specs.Notation.{literal_at, filled}
use Rattle.irtext_stream.specs.NotationPieces.{letters_after}
use Rattle.irtext_stream.specs.NotationFaults.{whole}
use Rattle.irtext_stream.specs.declared.notation.fault.NotationPart.TheVariants as part
use Rattle.irtext_stream.proofs.NotationSteps.{unmet_back, handed}
use Rattle.irtext_base.proofs.NotationDirectives.{literal_empty, literal_some, faults_followed}
use Rattle.irtext_base.proofs.format.notation.read.literal.Goals as goal

pub returns-in_err-text : goal.returns-in_err-text
returns-in_err-text c =
    let old = c.args.stream.now in
    handed directive_of (whole old) (literal_at old.rest) c.letters.new.stream c.from_residual.result c.in_err-text.field-0.0 c.from_residual.ensures.1 (faults_followed (whole old) (letters_after [] false old.rest) (filled old.rest) c.in_err-text.field-0.0 c.in_err-text.ensures)

pub returns-then-is_empty : goal.returns-then-is_empty
returns-then-is_empty c =
    let old = c.args.stream.now in
    let bytes = string_bytes c.in_ok-text.text in
    let e : length bytes ≡ 0 = grind (arith, nat_tests, c.as_str.ensures.value, c.is_empty.ensures, c.if-is_empty.true) in
    let q = literal_empty old.rest c.letters.new.stream.rest bytes (IsUtf8-string_bytes c.in_ok-text.text) e c.in_ok-text.ensures.0 in
    unmet_back old c.letters.new.stream c.position-place.result part.Character (literal_at old.rest) c.lack_at.result q c.in_ok-text.ensures.1 c.position-place.ensures c.lack_at.ensures

pub returns : goal.returns
returns c =
    let old = c.args.stream.now in
    let bytes = string_bytes c.in_ok-text.text in
    let n : length bytes ≡ 0 → ⊥ = λ e. grind (arith, nat_tests, c.as_str.ensures.value, c.is_empty.ensures, c.if-is_empty.false) in
    (literal_some old.rest c.letters.new.stream.rest bytes (IsUtf8-string_bytes c.in_ok-text.text) n c.in_ok-text.ensures.0, c.in_ok-text.ensures.1)
