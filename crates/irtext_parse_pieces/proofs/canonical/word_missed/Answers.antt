use Rattle.std.proofs.Common.{refl}
use Rattle.irtext_base.specs.Faults.{characters}
use Rattle.irtext_tokens.specs.Infix.{◌▷◌}
use Rattle.irtext_tokens.specs.Tokens.{space_at, text_at}
use Rattle.irtext_tokens.proofs.Steps.{starts, spaced, last}
use Rattle.irtext_parse_pieces.proofs.Lenses.{lens_of}
use Rattle.irtext_parse_pieces.proofs.canonical.word_missed.Goals as goal

pub returns : goal.returns
returns g c = λ fine.
    let l = lens_of g.world g.met.S.CharStream in
    let word = space_at ▷ text_at (characters c.args.text.now) in
    last l (spaced l (λ _ u. text_at (characters c.args.text.now) u) (starts l word word c.args.stream.now fine refl) c.skip_white_space.ensures) c.text_demanded.ensures
