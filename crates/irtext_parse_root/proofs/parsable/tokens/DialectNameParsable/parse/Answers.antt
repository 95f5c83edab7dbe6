use Rattle.std.proofs.Common.{◌∙◌, sym, ap, inr}
use Rattle.irtext_base.specs.Faults.{fault_of}
use Rattle.irtext_tokens.specs.Tokens.{identifier_at}
use Rattle.irtext_tokens.proofs.Exits.{propagated}
use Rattle.irtext_parse_root.proofs.DialectReads.{unnamed, registered, unregistered}
use Rattle.irtext_parse_root.proofs.parsable.tokens.DialectNameParsable.parse.Goals as goal

pub returns-in_err-name-clause-read : goal.returns-in_err-name-clause-read
returns-in_err-name-clause-read g c =
    let old = c.args.stream.now.stream in
    rw (propagated c.from_residual.result c.from_residual.ensures.1)
    (record { answers = unnamed c.args.stream.now.state.ctx.now.dialects old.failed (identifier_at old.rest) old _ _ c.in_err-name.ensures })

pub returns-then-not-has_dialect-clause-read : goal.returns-then-not-has_dialect-clause-read
returns-then-not-has_dialect-clause-read g c =
    let old = c.args.stream.now.stream in
    let r = c.refuse_at.ensures in
    record {
      answers = inr (unregistered c.args.stream.now.state.ctx.now.dialects old.failed (identifier_at old.rest) c.in_ok-name.name c.position-at.result old _ _ _ c.in_ok-name.ensures (sym c.has_dialect.ensures ∙ c.if-not-has_dialect.true) c.position-at.ensures
          (record { because = ap fault_of r.cause; committed = r.committed; position = λ passed rest e p. r.at passed rest e p; left = r.left }));
    }

pub returns-clause-read : goal.returns-clause-read
returns-clause-read g c =
    let old = c.args.stream.now.stream in
    record { answers = rw c.from.ensures (registered c.args.stream.now.state.ctx.now.dialects old.failed (identifier_at old.rest) old _ c.in_ok-name.name c.in_ok-name.ensures (sym c.has_dialect.ensures ∙ c.if-not-has_dialect.false)) }
