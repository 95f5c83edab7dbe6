use Rattle.std.proofs.Common.{false, refl, Err, []}
use Rattle.irtext_tokens.proofs.Exits.{propagated}
use Rattle.irtext_tokens.proofs.Steps.{Lens, lens}
use Rattle.irtext_grammar.specs.Parsed.{Represents}
use Rattle.irtext_parse_pieces.proofs.Meanings.{may_miss, insisted_mean}
use Rattle.irtext_parse_pieces.proofs.NameSteps.{nobody, target_after, target_refused}
use Rattle.irtext_parse_root.proofs.names.block_opd_parse.Given as given
use Rattle.irtext_parse_root.proofs.names.block_opd_parse.Goals as goal

-- the stream's view, and the rules that it keeps
abbrev stream : (g : given.Over) → Lens g.row.S.Denot
stream g = let m = g.met.S.CharStream in lens g.S.CharStream.view g.S.CharStream.at m.view_at m.at_view m.at_at

pub returns-in_err-text_parse-clause-refused : goal.returns-in_err-text_parse-clause-refused
returns-in_err-text_parse-clause-refused g c = rw (propagated c.from_residual.result c.from_residual.ensures.1) ((target_refused (stream g) {Means = Represents [] []} false c.in_err-text_parse.ensures.answers).read.answers)

pub returns-clause-refused : goal.returns-clause-refused
returns-clause-refused g c =
    (target_after (stream g) false [] c.in_ok-text_parse.ensures.answers
    (insisted_mean (stream g) (Err c.used_outside-fault.result) (Err c.commit.result) (may_miss (stream g) nobody c.used_outside-fault.ensures) (c.commit.result, refl, c.commit.ensures))).read.answers
