use Rattle.std.proofs.Common.{Err, refl}
use Rattle.irtext_base.specs.Answers.{unless_failed, mapped}
use Rattle.irtext_base.proofs.Compose.{answers_demanded, answers_second, refuses_mapped_demanded}
use Rattle.irtext_tokens.proofs.Exits.{propagated}
use Rattle.irtext_demo.specs.IntegerTypes.{signedness_at, width_at, integer_type_with}
use Rattle.irtext_demo.proofs.integer_type.integer_type_parse.Goals as goal

pub returns-in_err-width : goal.returns-in_err-width
returns-in_err-width g c =
    let mid = c.signedness_parse.new.stream in
    let end = c.committed.new.stream in
    let kind = c.in_ok-kind.kind in
    let n = answers_demanded (λ s. s) (λ s v. v) (λ s v. refl) (λ s v w. refl) (λ w. w) (unless_failed mid.failed (width_at mid.rest)) mid c.digits_parse-width.new.stream end c.digits_parse-width.result (Err c.in_err-width.field-0.0) c.digits_parse-width.ensures.answers c.in_err-width.ensures in
    let k = refuses_mapped_demanded (λ s. s) (λ s v. v) (λ s v. refl) (λ s v w. refl) (integer_type_with kind) mid.failed (width_at mid.rest) mid end c.in_err-width.field-0.0 n in
    rw (propagated c.from_residual-in_err-width.result c.from_residual-in_err-width.ensures.1) (answers_second (λ s. s) (λ s v. v) (λ s v. refl) (λ s v w. refl) (λ k. k) (λ t. t) (signedness_at c.args.stream.now.rest) (λ kind text. mapped (integer_type_with kind) (width_at text)) c.args.stream.now mid end kind (Err c.in_err-width.field-0.0) c.in_ok-kind.ensures k)
