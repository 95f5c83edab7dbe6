use Rattle.std.proofs.Common.{refl, sym, ◌∙◌, Option, Some, codes}
use Rattle.irtext_base.specs.Answers.{Outcome, mapped, followed}
use Rattle.irtext_base.specs.Locations.{AttrView}
use Rattle.irtext_base.specs.Paths.{Written}
use Rattle.irtext_base.specs.Stream.{StreamView}
use Rattle.irtext_base.specs.Text.{Text}
use Rattle.irtext_tokens.specs.AttrTexts.{attr_at}
use Rattle.irtext_tokens.specs.Tokens.{space_at, text_at}
use Rattle.irtext_grammar.specs.Readers.Locations.{location_at}
use Rattle.irtext_grammar.specs.Readers.Positions.{spaced_at}
use Rattle.irtext_grammar.specs.Contexts.Held.{location_over}
use Rattle.irtext_grammar.specs.Promises.Section.{given_over}
use Rattle.irtext_grammar.specs.Readers.Section.{entry_location_at}
use Rattle.irtext_tokens.proofs.Exits.{propagated}
use Rattle.irtext_tokens.proofs.Steps.{Passed}
use Rattle.irtext_grammar.proofs.Locations.Bounds.{at_length}
use Rattle.irtext_grammar.proofs.Readers.PlainStream.{alone}
use Rattle.irtext_grammar.proofs.Readers.Steps.{starts, turned, more, spaced, refuses, refuses_seen, last_seen}
use Rattle.irtext_parse_section.specs.Entries.{location_end_at}
use Rattle.irtext_parse_section.proofs.PlainEntries.{end_mapped}
use Rattle.irtext_parse_section.proofs.given.entry_location.Goals as goal

-- what follows an entry's location
abbrev after_location : {A : Type 0} → Written A → Text → Outcome (Option (Written A))
after_location l text = followed (spaced_at (codes "]") text) (λ _ t. followed (text_at (codes ",") t) (λ _ u. mapped (λ _. Some l) (space_at u)))

-- an entry's location, after `@`
abbrev located : {A : Type 0} → (Text → Outcome (AttrView A)) → Text → Outcome (Option (Written A))
located attr text = followed (text_at (codes "@[") text) (λ _ t. followed (space_at t) (λ _ u. followed (location_at attr u) after_location))

-- it follows `@[` and white space
abbrev placed : {A : Type 0} → (Text → Outcome (AttrView A)) → Text → Outcome (Option (Written A))
placed attr text = followed (location_at attr text) after_location

-- what ends it comes next
ending : {A : Type 0} (attr : Text → Outcome (AttrView A)) {old mid : StreamView} (l : Written A) → Passed alone (entry_location_at attr) (after_location l) old mid → Passed alone (entry_location_at attr) (λ t. mapped (λ _. Some l) (location_end_at t)) old mid
ending attr {mid = mid} l p = turned alone (λ t. mapped (λ _. Some l) (location_end_at t)) (sym (end_mapped (Some l) mid.rest)) p

pub returns-in_err-text_demanded-clause-read : goal.returns-in_err-text_demanded-clause-read
returns-in_err-text_demanded-clause-read g c =
    let attr = attr_at g.A.IrText.reading in
    let q = starts alone (entry_location_at attr) (located attr) c.args.stream.now (sym c.has_failed.ensures ∙ c.if-has_failed.false) (rw (sym c.next_is.ensures ∙ c.if-not-next_is.false) refl) in
    rw (propagated c.from_residual.result c.from_residual.ensures.1) (record { known = tt; read = refuses alone _ q c.in_err-text_demanded.ensures })

pub returns-in_err-location-clause-read : goal.returns-in_err-location-clause-read
returns-in_err-location-clause-read g c =
    let attr = attr_at g.A.IrText.reading in
    let q = starts alone (entry_location_at attr) (located attr) c.args.stream.now (sym c.has_failed.ensures ∙ c.if-has_failed.false) (rw (sym c.next_is.ensures ∙ c.if-not-next_is.false) refl) in
    rw (propagated c.from_residual-in_err-location.result c.from_residual-in_err-location.ensures.1) (record { known = tt; read = refuses alone _ (spaced alone (λ _ t. placed attr t) (more alone _ q c.in_ok-text_demanded.ensures) c.skip_white_space.ensures) (at_length attr c.in_err-location.ensures.read).read })

pub returns-in_err-location_ended-clause-read : goal.returns-in_err-location_ended-clause-read
returns-in_err-location_ended-clause-read g c =
    let attr = attr_at g.A.IrText.reading in
    let paths = c.location_demanded.new.ctx.paths in
    let q = starts alone (entry_location_at attr) (located attr) c.args.stream.now (sym c.has_failed.ensures ∙ c.if-has_failed.false) (rw (sym c.next_is.ensures ∙ c.if-not-next_is.false) refl) in
    let l = (at_length attr c.in_ok-location.ensures.read).read in
    let p = more alone after_location (spaced alone (λ _ t. placed attr t) (more alone _ q c.in_ok-text_demanded.ensures) c.skip_white_space.ensures) l in
    rw (propagated c.from_residual-in_err-location_ended.result c.from_residual-in_err-location_ended.ensures.1) (record { known = tt; read = refuses_seen alone _ (ending attr (location_over paths c.in_ok-location.location) p) c.in_err-location_ended.ensures })

pub returns-clause-read : goal.returns-clause-read
returns-clause-read g c =
    let attr = attr_at g.A.IrText.reading in
    let paths = c.location_demanded.new.ctx.paths in
    let q = starts alone (entry_location_at attr) (located attr) c.args.stream.now (sym c.has_failed.ensures ∙ c.if-has_failed.false) (rw (sym c.next_is.ensures ∙ c.if-not-next_is.false) refl) in
    let l = at_length attr c.in_ok-location.ensures.read in
    let p = more alone after_location (spaced alone (λ _ t. placed attr t) (more alone _ q c.in_ok-text_demanded.ensures) c.skip_white_space.ensures) l.read in
    record {
      known = l.known;
      read = last_seen alone (given_over paths) (λ _. Some (location_over paths c.in_ok-location.location)) (Some c.in_ok-location.location) refl
          (ending attr (location_over paths c.in_ok-location.location) p) c.in_ok-location_ended.ensures;
    }
