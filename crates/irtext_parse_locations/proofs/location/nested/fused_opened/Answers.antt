use Rattle.std.proofs.Common.{ap, sym, ◌∙◌, codes, Ok, Option}
use Rattle.std.specs.Char.{is_whitespace}
use Rattle.irtext_base.specs.Answers.{Outcome, Takes, followed}
use Rattle.irtext_base.specs.Locations.{AttrView, attr_view_in}
use Rattle.irtext_base.specs.Stream.{StreamView}
use Rattle.irtext_base.specs.Text.{Text, front, after}
use Rattle.irtext_base.specs.declared.base.attributes.AttrObj.{AttrObj}
use Rattle.irtext_base.specs.declared.location.Source.{Source}
use Rattle.irtext_tokens.specs.AttrTexts.{attr_at}
use Rattle.irtext_tokens.specs.MustRead.{MustRead}
use Rattle.irtext_tokens.specs.Tokens.{text_at}
use Rattle.irtext_grammar.specs.Readers.Locations.{metadata_at}
use Rattle.irtext_grammar.specs.Readers.Positions.{space_at}
use Rattle.irtext_grammar.specs.Readers.Streams.{itself, replaced}
use Rattle.irtext_tokens.proofs.Exits.{propagated}
use Rattle.irtext_grammar.proofs.Readers.PlainStream.{alone}
use Rattle.irtext_grammar.proofs.Readers.Steps.{Passed, first, more, spaced, refuses, ran_out}
use Rattle.irtext_parse_locations.specs.Frames.{ProgressOf, row_opening_at, fused_opening_at}
use Rattle.irtext_parse_locations.proofs.FrameSteps.{row_starts, row_is_empty}
use Rattle.irtext_parse_locations.proofs.location.nested.fused_opened.Goals as goal

module _ {A : Type 0} where
  -- what follows the bracket
  abbrev opened : Option (AttrView A) → Unit {0} → Text → Outcome (ProgressOf Source A)
  opened m u text = row_opening_at m text

  -- what follows the metadata, or the position where there is none
  abbrev after_metadata : Option (AttrView A) → Text → Outcome (ProgressOf Source A)
  after_metadata m text = followed (text_at (codes "[") text) (λ _ t. followed (space_at t) (opened m))

  -- what follows the word and white space
  abbrev after_word : (Text → Outcome (AttrView A)) → Unit {0} → Text → Outcome (ProgressOf Source A)
  after_word attr u text = followed (metadata_at attr text) after_metadata

  -- the bracket was consumed, and the white space after it
  bracket_passed : (attr : Text → Outcome (AttrView A)) {metadata : Option (AttrObj A)} {old s0 s1 s2 s3 now : StreamView} → MustRead {A = A} itself replaced (λ u. u) (text_at (codes "fused")) old (Ok tt) s0 → Takes itself replaced (front is_whitespace s0.rest) (after is_whitespace s0.rest) s0 s1
      → MustRead {A = A} itself replaced attr_view_in (metadata_at attr) s1 (Ok metadata) s2 → MustRead {A = A} itself replaced (λ u. u) (text_at (codes "[")) s2 (Ok tt) s3 → Takes itself replaced (front is_whitespace s3.rest) (after is_whitespace s3.rest) s3 now
      → Passed alone (fused_opening_at attr {S = Source}) (row_opening_at (attr_view_in metadata)) old now
  bracket_passed attr {metadata = metadata} h space k b more_space =
      let m = attr_view_in metadata in
      let word = first alone (λ _ t. followed (space_at t) (after_word attr)) h in
      let bracket = more alone after_metadata (spaced alone (after_word attr) word space) k in
      spaced alone (opened m) (more alone (λ _ t. followed (space_at t) (opened m)) bracket b) more_space

pub returns-in_err-metadata : goal.returns-in_err-metadata
returns-in_err-metadata g c =
    let attr = attr_at g.A.IrText.reading in
    rw (propagated c.from_residual-in_err-metadata.result c.from_residual-in_err-metadata.ensures.1) (refuses alone after_metadata (spaced alone (after_word attr) (first alone (λ _ t. followed (space_at t) (after_word attr)) c.in_ok-text_demanded.ensures) c.skip_white_space.ensures) c.in_err-metadata.ensures)

pub returns-in_err-text_demanded-2 : goal.returns-in_err-text_demanded-2
returns-in_err-text_demanded-2 g c =
    let attr = attr_at g.A.IrText.reading in
    let m = attr_view_in c.in_ok-metadata.metadata in
    rw (propagated c.from_residual-in_err-text_demanded-2.result c.from_residual-in_err-text_demanded-2.ensures.1) (refuses alone (λ _ t. followed (space_at t) (opened m)) (more alone after_metadata (spaced alone (after_word attr) (first alone (λ _ t. followed (space_at t) (after_word attr)) c.in_ok-text_demanded.ensures) c.skip_white_space.ensures) c.in_ok-metadata.ensures) c.in_err-text_demanded-2.ensures)

pub returns-then-begins_location : goal.returns-then-begins_location
returns-then-begins_location g c =
    let q = bracket_passed (attr_at g.A.IrText.reading) c.in_ok-text_demanded.ensures c.skip_white_space.ensures c.in_ok-metadata.ensures c.in_ok-text_demanded-2.ensures c.skip_white_space-2.ensures in
    rw c.row_opened.ensures (row_starts (attr_view_in c.in_ok-metadata.metadata) c.in-Ok.metadata c.new-locations.result (ap attr_view_in c.in-Ok.ensures.ok) c.new-locations.ensures.items (sym c.begins_location.ensures ∙ c.if-begins_location.true) q)

pub returns : goal.returns
returns g c =
    let q = bracket_passed (attr_at g.A.IrText.reading) c.in_ok-text_demanded.ensures c.skip_white_space.ensures c.in_ok-metadata.ensures c.in_ok-text_demanded-2.ensures c.skip_white_space-2.ensures in
    row_is_empty (attr_view_in c.in_ok-metadata.metadata) c.in-Ok.metadata c.new-locations.result (ap attr_view_in c.in-Ok.ensures.ok) c.new-locations.ensures.items (sym c.begins_location.ensures ∙ c.if-begins_location.false) q c.row_ended.ensures

pub returns-in_default : goal.returns-in_default
returns-in_default g c =
    let attr = attr_at g.A.IrText.reading in
    ran_out alone (more alone after_metadata (spaced alone (after_word attr) (first alone (λ _ t. followed (space_at t) (after_word attr)) c.in_ok-text_demanded.ensures) c.skip_white_space.ensures) c.in_ok-metadata.ensures) c.out_of_memory.ensures
