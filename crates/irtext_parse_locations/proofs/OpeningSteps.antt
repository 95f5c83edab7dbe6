-- A location is opened, for each kind of location that its first character tells; no path is named in what is opened.
use Rattle.std.proofs.Common.{◌≡◌, ◌∙◌, ap, refl, sym, ℕ, true, false, Ok, Err, List, [], codes, length, string_bytes, String}
use Rattle.std.specs.Global.{Global}
use Rattle.irtext_base.specs.Text.{Text, begins}
use Rattle.irtext_base.specs.Reading.{the}
use Rattle.irtext_base.specs.Stream.{StreamView, first_of}
use Rattle.irtext_base.specs.Faults.{Unexpected, ALocation, Failed}
use Rattle.irtext_base.specs.Answers.{Outcome, Missing, Commits, Passes, Demands, mapped}
use Rattle.irtext_base.specs.Locations.{AttrView, unknown, sourced, location_view}
use Rattle.irtext_base.specs.Moves.{all_kept}
use Rattle.irtext_base.specs.Paths.{path_of, are_known}
use Rattle.irtext_base.specs.declared.location.Location.{Location}
use Rattle.irtext_base.specs.declared.location.Location.TheVariants.{Unknown}
use Rattle.irtext_base.specs.declared.parsable.fault.ParseFault.{ParseFault}
use Rattle.irtext_base.proofs.LocationViews.{seen-unknown}
use Rattle.irtext_tokens.specs.MustRead.{MustRead}
use Rattle.irtext_tokens.specs.Tokens.{text_at}
use Rattle.irtext_grammar.specs.Readers.Locations.{begins_source, name_at}
use Rattle.irtext_grammar.specs.Readers.NewPaths.{MustReadOver}
use Rattle.irtext_grammar.specs.Readers.Streams.{itself, replaced}
use Rattle.irtext_grammar.proofs.Readers.PartSteps.{part_refused}
use Rattle.irtext_grammar.proofs.Readers.PlainStream.{alone}
use Rattle.irtext_grammar.proofs.Readers.Steps.{seen_alone}
use Rattle.irtext_parse_locations.specs.declared.location.frame.Frame.TheVariants as frame
use Rattle.irtext_parse_locations.specs.declared.location.frame.Progress.TheVariants as progress
use Rattle.irtext_parse_locations.specs.Frames.{for_name, for_callee, whole, inside, progress_over, progress_kept, known_progress, opening_at, call_site_head_at}
use Rattle.irtext_parse_locations.proofs.Refusals.{in_words, had_failed, none_comes}

-- what a location is opened as, where its first character is known
module _ {A : Type 0} (attr : Text → Outcome (AttrView A)) (text : Text) (not_source : begins begins_source text ≡ false) (not_fused : begins (the 102) text ≡ false) where
  is_name : begins (the 110) text ≡ true → mapped (λ name. inside (for_name name)) (name_at text) ≡ opening_at attr text
  is_name b = rw (not_source, not_fused, b) refl

  is_call_site : begins (the 110) text ≡ false → begins (the 99) text ≡ true → mapped (λ _. inside for_callee) (call_site_head_at text) ≡ opening_at attr text
  is_call_site not_name b = rw (not_source, not_fused, not_name, b) refl

  is_unknown : begins (the 110) text ≡ false → begins (the 99) text ≡ false → begins (the 63) text ≡ true → mapped (λ _. whole unknown) (text_at (codes "?") text) ≡ opening_at attr text
  is_unknown not_name not_call_site b = rw (not_source, not_fused, not_name, not_call_site, b) refl

  is_nothing : begins (the 110) text ≡ false → begins (the 99) text ≡ false → begins (the 63) text ≡ false → opening_at attr text ≡ Missing (Unexpected (first_of text) ALocation)
  is_nothing not_name not_call_site b = rw (not_source, not_fused, not_name, not_call_site, b) refl

module _ {A B : Type 0} (attr : Text → Outcome (AttrView A)) (paths : List (List ℕ)) {old new : StreamView} where
  -- the stream had failed
  pub failed_opens : {fault : ParseFault B} → old.failed ≡ true → Commits itself replaced Failed [] old fault new → MustReadOver known_progress progress_over (opening_at attr) paths old (Err fault) new
  failed_opens b h = record { known = tt; read = had_failed (progress_over paths) (opening_at attr) b h }

  module _ (not_source : begins begins_source old.rest ≡ false) (not_fused : begins (the 102) old.rest ≡ false) where
    pub name_refused : {fault : ParseFault B} → begins (the 110) old.rest ≡ true → MustRead {Y = String Global} itself replaced (λ s. string_bytes s) name_at old (Err fault) new → MustReadOver known_progress progress_over (opening_at attr) paths old (Err fault) new
    name_refused b h = record { known = tt; read = in_words (opening_at attr) (is_name attr old.rest not_source not_fused b) (part_refused (λ name. inside (for_name name)) h) }

    pub name_opens : (name : String Global) → begins (the 110) old.rest ≡ true → MustRead {A = B} itself replaced (λ s. string_bytes s) name_at old (Ok name) new → MustReadOver {A = B} known_progress progress_over (opening_at attr) paths old (Ok (progress.Inside (frame.Named name))) new
    name_opens name b h = record { known = refl; read = in_words (opening_at attr) (is_name attr old.rest not_source not_fused b) (seen_alone alone (progress_over paths) (λ name. inside (for_name name)) (progress.Inside (frame.Named name)) refl h) }

    module _ (not_name : begins (the 110) old.rest ≡ false) where
      pub call_site_refused : {fault : ParseFault B} → begins (the 99) old.rest ≡ true → MustRead {Y = Unit {0}} itself replaced (λ u. u) call_site_head_at old (Err fault) new → MustReadOver known_progress progress_over (opening_at attr) paths old (Err fault) new
      call_site_refused b h = record { known = tt; read = in_words (opening_at attr) (is_call_site attr old.rest not_source not_fused not_name b) (part_refused (λ _. inside for_callee) h) }

      pub call_site_opens : begins (the 99) old.rest ≡ true → MustRead {A = B} {Y = Unit {0}} itself replaced (λ u. u) call_site_head_at old (Ok tt) new → MustReadOver {A = B} known_progress progress_over (opening_at attr) paths old (Ok (progress.Inside frame.Callee)) new
      call_site_opens b h = record { known = refl; read = in_words (opening_at attr) (is_call_site attr old.rest not_source not_fused not_name b) (seen_alone alone (progress_over paths) (λ _. inside for_callee) (progress.Inside frame.Callee) refl h) }

      module _ (not_call_site : begins (the 99) old.rest ≡ false) where
        pub unknown_refused : {fault : ParseFault B} → begins (the 63) old.rest ≡ true → MustRead {Y = Unit {0}} itself replaced (λ u. u) (text_at (codes "?")) old (Err fault) new → MustReadOver known_progress progress_over (opening_at attr) paths old (Err fault) new
        unknown_refused b h = record { known = tt; read = in_words (opening_at attr) (is_unknown attr old.rest not_source not_fused not_name not_call_site b) (part_refused (λ _. whole unknown) h) }

        pub unknown_opens : begins (the 63) old.rest ≡ true → MustRead {A = B} {Y = Unit {0}} itself replaced (λ u. u) (text_at (codes "?")) old (Ok tt) new → MustReadOver {A = B} known_progress progress_over (opening_at attr) paths old (Ok (progress.Whole Unknown)) new
        unknown_opens b h = record {
          known = ap (are_known (length paths)) seen-unknown;
          read = in_words (opening_at attr) (is_unknown attr old.rest not_source not_fused not_name not_call_site b) (seen_alone alone (progress_over paths) (λ _. whole unknown) (progress.Whole Unknown) (ap (λ v. whole (sourced (path_of paths) v)) seen-unknown) h);
        }

        -- nothing that is a location comes next
        pub nothing_opens : {mid : StreamView} {fault last : ParseFault B} → old.failed ≡ false → begins (the 63) old.rest ≡ false → Passes itself replaced (Unexpected (first_of old.rest) ALocation) old fault mid → Demands itself replaced fault mid last new
            → MustReadOver known_progress progress_over (opening_at attr) paths old (Err last) new
        nothing_opens fine b h k = record { known = tt; read = none_comes (progress_over paths) (opening_at attr) (Unexpected (first_of old.rest) ALocation) fine (is_nothing attr old.rest not_source not_fused not_name not_call_site b) h k }

-- no path is kept for an unknown location
pub unknown_keeps : {A : Type 0} (paths : List (List ℕ)) (l : Location A) → l ≡ Unknown → paths ≡ progress_kept paths (progress_over paths (progress.Whole l))
unknown_keeps paths l is = sym (ap (λ v. all_kept paths (sourced (path_of paths) v)) (ap location_view is ∙ seen-unknown))
