-- Each function of the state performs the recorded actions of items as the items themselves do; and what was recorded before remains after
-- what is recorded.
use Rattle.std.proofs.Common.{◌≡◌, ◌∙◌, ℕ, false, List, [], ◌∷◌, ◌++◌, Option, refl, sym, ap, subst}
use Rattle.irtext_base.specs.Text.{Text}
use Rattle.irtext_base.specs.Faults.{Fault}
use Rattle.irtext_base.specs.Answers.{Outcome}
use Rattle.irtext_base.specs.Locations.{AttrView}
use Rattle.irtext_context.specs.Dialects.{Table}
use Rattle.irtext_grammar.specs.Reached.{Actions}
use Rattle.irtext_grammar.specs.Resume.{Open, Goes, StoppedAt}
use Rattle.irtext_grammar.specs.Both.{seen_as}
use Rattle.irtext_grammar.proofs.Seen.{Shows, seen_whole}
use Rattle.irtext_parse_root.specs.Recorded.{Did, did_use, did_late, did_enter, did_leave, did_close, did_mark, did_head, recorder, one_done, all_done}

module _ {T A S : Type 0} (does : Actions T A S) where
  -- recorded actions are performed
  pub tells_does : (s : S) → Shows (λ ds. all_done does ds s) recorder does
  tells_does s = record {
    uses = λ place id parts ds. refl;
    late = λ place id piece ds. refl;
    enters = λ iso ds. refl;
    leaves = λ iso place ds. refl;
    closes = λ place names id parts ds. refl;
    marks = λ mark ds. refl;
    heads = λ head ds. refl;
  }

  -- one list of actions after another
  pub done_both : (ds es : List (Did T A)) (s : S) → all_done does (ds ++ es) s ≡ all_done does ds (all_done does es s)
  done_both [] es s = refl
  done_both (d ∷ ds) es s = ap (one_done does d) (done_both ds es s)

-- recorded once more, they are in front of what was recorded before
module _ {T A : Type 0} where
  one_recorded : (d : Did T A) (es : List (Did T A)) → one_done recorder d es ≡ d ∷ es
  one_recorded (did_use place id parts) es = refl
  one_recorded (did_late place id piece) es = refl
  one_recorded (did_enter iso) es = refl
  one_recorded (did_leave iso place) es = refl
  one_recorded (did_close place names id parts) es = refl
  one_recorded (did_mark mark) es = refl
  one_recorded (did_head head) es = refl

  all_recorded : (ds es : List (Did T A)) → all_done recorder ds es ≡ ds ++ es
  all_recorded [] es = refl
  all_recorded (d ∷ ds) es = one_recorded d (all_done recorder ds es) ∙ ap (λ z. d ∷ z) (all_recorded ds es)

module _ {T A : Type 0} {dialects : List (Text × Table)} {types_at : Text → Outcome T} {attr : Text → Outcome (AttrView A)} {next : Option (Open T A)} {frames : List (Open T A)} {text : Text} where
  -- where the recording parse goes, the parse with other actions goes too, where keys are tested
  pub goes_recorded : {S : Type 0} (does : Actions T A S) → false ≡ does.any_key → {next' : Option (Open T A)} {frames' : List (Open T A)} {text' : Text} {did : List (Did T A)}
      → Goes dialects types_at attr recorder next frames [] text next' frames' did text' → (s : S) → Goes dialects types_at attr does next frames s text next' frames' (all_done does did s) text'
  goes_recorded does same {next'} {frames'} {text'} {did} g s = record {
    so = sym (seen_whole dialects types_at attr (λ ds. all_done does ds s) recorder does (tells_does does s) same next frames [] text)
        ∙ (ap (seen_as (λ ds. all_done does ds s)) g.so ∙ seen_whole dialects types_at attr (λ ds. all_done does ds s) recorder does (tells_does does s) same next' frames' did text');
  }

  pub stuck_recorded : {S : Type 0} (does : Actions T A S) → false ≡ does.any_key → {did : List (Did T A)} {cause : Fault} {place : ℕ}
      → StoppedAt dialects types_at attr recorder next frames [] text did cause place → (s : S) → StoppedAt dialects types_at attr does next frames s text (all_done does did s) cause place
  stuck_recorded does same g s = record {
    so = sym (seen_whole dialects types_at attr (λ ds. all_done does ds s) recorder does (tells_does does s) same next frames [] text) ∙ ap (seen_as (λ ds. all_done does ds s)) g.so;
  }

  -- the same with what was recorded before
  pub goes_after : {next' : Option (Open T A)} {frames' : List (Open T A)} {text' : Text} {did : List (Did T A)}
      → Goes dialects types_at attr recorder next frames [] text next' frames' did text' → (es : List (Did T A)) → Goes dialects types_at attr recorder next frames es text next' frames' (did ++ es) text'
  goes_after {next'} {frames'} {text'} {did} g es = subst (λ z. Goes dialects types_at attr recorder next frames es text next' frames' z text') (all_recorded did es) (goes_recorded recorder refl g es)

  pub stuck_after : {did : List (Did T A)} {cause : Fault} {place : ℕ}
      → StoppedAt dialects types_at attr recorder next frames [] text did cause place → (es : List (Did T A)) → StoppedAt dialects types_at attr recorder next frames es text (did ++ es) cause place
  stuck_after {did} {cause} {place} g es = subst (λ z. StoppedAt dialects types_at attr recorder next frames es text z cause place) (all_recorded did es) (stuck_recorded recorder refl g es)
