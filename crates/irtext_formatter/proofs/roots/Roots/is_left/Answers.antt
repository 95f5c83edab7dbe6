use Rattle.std.proofs.Common.{◌∙◌, ◌++◌, sym, ap}
use Rattle.irtext_formatter.proofs.Stepping.{same_text}
use Rattle.irtext_formatter.proofs.roots.Roots.is_left.Goals as goal

pub returns-clause-begin : goal.returns-clause-begin
returns-clause-begin g c = λ begin b. record { at = b.at; rest = b.rest; same = b.same ∙ (sym (same_text c.args.self.now.stream.stream) ∙ ap (λ v. v.passed ++ v.rest) (sym c.skip.ensures)) }
