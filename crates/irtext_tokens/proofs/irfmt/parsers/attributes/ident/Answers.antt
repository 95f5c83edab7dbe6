use Rattle.std.proofs.Common.{refl}
use Rattle.irtext_tokens.specs.AttrTexts.{spaced_identifier_at}
use Rattle.irtext_tokens.specs.Tokens.{identifier_at}
use Rattle.irtext_tokens.proofs.Steps.{lens, starts, spaced, last}
use Rattle.irtext_tokens.proofs.irfmt.parsers.attributes.ident.Goals as goal

pub returns : goal.returns
returns g c = λ fine.
    let m = g.met.S.CharStream in
    let l = lens g.S.CharStream.view g.S.CharStream.at m.view_at m.at_view m.at_at in
    last l (spaced l (λ _ u. identifier_at u) (starts l spaced_identifier_at spaced_identifier_at c.args.stream.now fine refl) c.skip_white_space.ensures) c.identifier_demanded.ensures
