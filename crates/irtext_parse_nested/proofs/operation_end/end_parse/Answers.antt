use Rattle.std.proofs.Common.{refl, subst, IfOk}
use Rattle.irtext_tokens.specs.Infix.{◌▷◌}
use Rattle.irtext_tokens.specs.Tokens.{space_at}
use Rattle.irtext_tokens.proofs.Steps.{alone, starts, spaced, last}
use Rattle.irtext_grammar.specs.Heads.{mark_if_at}
use Rattle.irtext_grammar.specs.Parsed.{IsMarkIf}
use Rattle.irtext_parse_pieces.proofs.Meanings.{passed_whole}
use Rattle.irtext_parse_nested.proofs.operation_end.end_parse.Goals as goal

pub returns : goal.returns
returns g c =
    let h = c.mark_parse.ensures in
    let p = spaced alone (λ _ t. mark_if_at t) (starts alone (space_at ▷ mark_if_at) (space_at ▷ mark_if_at) c.args.stream.now c.requires.fine refl) c.skip_white_space.ensures in
    record {
      meant = h.meant;
      means = subst (λ t. IfOk c.mark_parse.result (λ y. IsMarkIf t y (h.meant y))) (passed_whole alone p) h.means;
      read = last alone p h.read;
    }
