use Rattle.std.proofs.Common.{ℕ, List, [], refl, subst}
use Rattle.irtext_base.specs.Text.{Text}
use Rattle.irtext_base.specs.Answers.{Outcome, mapped, followed}
use Rattle.irtext_tokens.specs.Tokens.{space_at}
use Rattle.irtext_grammar.specs.Grammar.Tree.{Name}
use Rattle.irtext_grammar.specs.Heads.{lead_at}
use Rattle.irtext_grammar.specs.Parsed.{Represents, Each}
use Rattle.irtext_parse_pieces.specs.Results.{results_if_at}
use Rattle.irtext_parse_pieces.proofs.Meanings.{must_refuse, passed_whole}
use Rattle.irtext_tokens.proofs.Steps.{starts, spaced, more, refuses, last_spaced}
use Rattle.irtext_parse_pieces.proofs.Lenses.{lens_of}
use Rattle.irtext_parse_pieces.proofs.ids.lead_parse.Goals as goal

-- what follows the results
abbrev after_results : List (Name ℕ) → Text → Outcome (List (Name ℕ))
after_results x v = mapped (λ _. x) (space_at v)

pub returns-in-Err-clause-read : goal.returns-in-Err-clause-read
returns-in-Err-clause-read g c = λ fine.
    let l = lens_of g.world g.met.S.CharStream in
    let p = spaced l (λ _ u. followed (results_if_at u) after_results) (starts l lead_at lead_at c.args.stream.now fine refl) c.skip_white_space.ensures in
    must_refuse l (refuses l {sees = λ _. []} after_results p c.in-Err.ensures.read.read)

pub returns-in-Ok-clause-read : goal.returns-in-Ok-clause-read
returns-in-Ok-clause-read g c = λ fine.
    let l = lens_of g.world g.met.S.CharStream in
    let h = c.in-Ok.ensures.read in
    let ns = c.in-Ok.results in
    let p = spaced l (λ _ u. followed (results_if_at u) after_results) (starts l lead_at lead_at c.args.stream.now fine refl) c.skip_white_space.ensures in
    record {
      meant = λ _. h.meant ns;
      means = subst (λ t. Each (Represents c.results_parse.new.names.names t) ns (h.meant ns)) (passed_whole l p) h.means;
      read = last_spaced l (λ _. h.meant ns) (λ _. h.meant ns) ns refl (more l after_results p h.read) c.skip_white_space-in-Ok.ensures;
    }
