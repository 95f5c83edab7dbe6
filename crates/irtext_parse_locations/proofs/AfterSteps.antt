-- What follows a location inside of another one, where it is a word: the word is an error, or it was parsed; then the location is made,
-- or memory runs out.
use Rattle.std.proofs.Common.{◌≡◌, sym, subst, Result, Ok, Err}
use Rattle.irtext_base.specs.Text.{Text}
use Rattle.irtext_base.specs.Stream.{StreamView}
use Rattle.irtext_base.specs.Answers.{Outcome, mapped}
use Rattle.irtext_base.specs.Locations.{LocationOf}
use Rattle.irtext_base.specs.declared.location.Location.{Location}
use Rattle.irtext_base.specs.declared.location.Source.{Source}
use Rattle.irtext_base.specs.declared.parsable.fault.ParseFault.{ParseFault}
use Rattle.irtext_tokens.specs.MustRead.{MustRead}
use Rattle.irtext_grammar.specs.Readers.NewPaths.{Makes}
use Rattle.irtext_grammar.specs.Readers.Streams.{itself, replaced}
use Rattle.irtext_grammar.proofs.Readers.PartSteps.{part_read, part_refused, part_ran_out}
use Rattle.irtext_grammar.proofs.Readers.PlainStream.{alone}
use Rattle.irtext_grammar.proofs.Readers.Steps.{seen_alone}
use Rattle.irtext_parse_locations.specs.declared.location.frame.Progress.{Progress}
use Rattle.irtext_parse_locations.specs.Frames.{FrameOf, ProgressOf, whole, progress_view, after_at, to_its_end}
use Rattle.irtext_parse_locations.proofs.FrameSteps.{made_whole}

module _ {A : Type 0} (f : FrameOf Source A) (l : LocationOf Source A) (end : Text → Outcome (Unit {0})) {old : StreamView} where
  module _ (p : ProgressOf Source A) (is : after_at f l ≡ (λ t. mapped (λ _. p) (end t))) where
    as_after : {r : Result (Progress A) (ParseFault A)} {new : StreamView} → MustRead itself replaced progress_view (λ t. mapped (λ _. p) (end t)) old r new → MustRead itself replaced progress_view (after_at f l) old r new
    as_after {r = r} {new = new} h = subst (λ outcome. MustRead itself replaced progress_view outcome old r new) (sym is) h

    -- the word is an error
    pub refused : {new : StreamView} {fault : ParseFault A} → MustRead {Y = Unit {0}} itself replaced (λ u. u) end old (Err fault) new → MustRead {Y = Progress A} itself replaced progress_view (after_at f l) old (Err fault) new
    refused h = as_after (part_refused (λ _. p) h)

    -- the word was parsed, and this is how far the location was
    pub parsed : {new : StreamView} (far : Progress A) → progress_view far ≡ p → MustRead {A = A} {Y = Unit {0}} itself replaced (λ u. u) end old (Ok tt) new → MustRead {A = A} itself replaced progress_view (after_at f l) old (Ok far) new
    parsed far same h = as_after (seen_alone alone progress_view (λ _. p) far same h)

  module _ (view : LocationOf Source A) (is : after_at f l ≡ (λ t. mapped (λ _. whole view) (end t))) {mid : StreamView} (h : MustRead {A = A} {Y = Unit {0}} itself replaced (λ u. u) end old (Ok tt) mid) where
    -- the word was parsed, and the location is made of it, unless memory runs out
    pub made : (r : Result (Location A) (ParseFault A)) {q : Result (Progress A) (ParseFault A)} {new : StreamView} → q ≡ to_its_end r → Makes view mid r new → MustRead itself replaced progress_view (after_at f l) old q new
    made (Ok location) e k = rw e (as_after (whole view) is (made_whole (part_read (λ _. whole view) h) k))
    made (Err fault) e k = rw e (as_after (whole view) is (part_ran_out (λ _. whole view) h k))
