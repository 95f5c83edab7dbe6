-- Between functions: the parser of locations, which is one loop with a stack of the open locations.
use Rattle.std.specs.Prelude.{ℕ, Bool, true, Option, Some, Result, Ok, Err, List, [], ◌∷◌, codes, length, map, string_bytes}
use Rattle.irtext_base.specs.Text.{Text, begins}
use Rattle.irtext_base.specs.Reading.{the}
use Rattle.irtext_base.specs.Stream.{StreamView, first_of}
use Rattle.irtext_base.specs.Faults.{Unexpected, ALocation}
use Rattle.irtext_base.specs.Answers.{Outcome, Missing, followed}
use Rattle.irtext_base.specs.Locations.{AttrView, LocationOf, fused, named, call_site, unknown, LocationsOf, no_location, location, location_view, attr_view_in, in_row, sourced, row_sourced}
use Rattle.irtext_base.specs.Moves.{all_kept, row_kept}
use Rattle.irtext_base.specs.Paths.{Written, path_of, are_known, row_known}
use Rattle.irtext_base.specs.declared.location.Location.{Location}
use Rattle.irtext_base.specs.declared.location.Source.{Source}
use Rattle.irtext_base.specs.declared.parsable.fault.ParseFault.{ParseFault}
use Rattle.irtext_context.specs.Context.{ContextView}
use Rattle.irtext_tokens.specs.AttrTexts.{attr_at}
use Rattle.irtext_tokens.specs.Infix.{Reader, nothing, either, ◌▷◌, ◌▶◌, ◌⇒◌}
use Rattle.irtext_tokens.specs.MustRead.{MustRead}
use Rattle.irtext_tokens.specs.Tokens.{word}
use Rattle.irtext_grammar.specs.Readers.Locations.{WrittenRow, begins_source, begins_location, name_at, place_at, metadata_at, after_location, location_at, more_within}
use Rattle.irtext_grammar.specs.Readers.NewPaths.{joined_rows}
use Rattle.irtext_grammar.specs.Readers.Positions.{space_at, spaced_at}
use Rattle.irtext_grammar.specs.Readers.Streams.{itself, replaced}
use Rattle.irtext_parse_locations.specs.Sourced.{KeepsWhatIsRead}
use Rattle.irtext_parse_locations.specs.declared.location.frame.Frame.{Frame}
use Rattle.irtext_parse_locations.specs.declared.location.frame.Frame.TheVariants as frame
use Rattle.irtext_parse_locations.specs.declared.location.frame.Progress.{Progress}
use Rattle.irtext_parse_locations.specs.declared.location.frame.Progress.TheVariants as progress

-- what was parsed of a location that contains another one: its name; nothing, before its callee's location; the callee's location; or the
-- metadata and the locations before
pub data FrameOf (S A : Type 0) : Type 0 where
  for_name : List ℕ → FrameOf S A
  for_callee : FrameOf S A
  for_caller : LocationOf S A → FrameOf S A
  for_row : Option (AttrView A) → LocationsOf S A → FrameOf S A

-- how far a location was parsed: whole, or up to a location inside of it
pub data ProgressOf (S A : Type 0) : Type 0 where
  whole : LocationOf S A → ProgressOf S A
  inside : FrameOf S A → ProgressOf S A

-- ---- what the code holds
module _ {A : Type 0} where
  -- a frame of the code, in the form of the definitions
  abbrev pub frame_view : Frame A → FrameOf Source A
  frame_view (frame.Named name) = for_name (string_bytes name)
  frame_view frame.Callee = for_callee
  frame_view (frame.Caller callee) = for_caller (location_view callee)
  frame_view (frame.Fused metadata locations) = for_row (attr_view_in metadata.value) (in_row (map location_view locations.items))

  -- how far a location was parsed, in the form of the definitions
  abbrev pub progress_view : Progress A → ProgressOf Source A
  progress_view (progress.Whole l) = whole (location_view l)
  progress_view (progress.Inside f) = inside (frame_view f)

module _ {S R A : Type 0} (see : S → R) where
  -- a frame with another kind of sources
  abbrev pub frame_sourced : FrameOf S A → FrameOf R A
  frame_sourced (for_name name) = for_name name
  frame_sourced for_callee = for_callee
  frame_sourced (for_caller callee) = for_caller (sourced see callee)
  frame_sourced (for_row metadata row) = for_row metadata (row_sourced see row)

  -- the progress with another kind of sources
  abbrev pub progress_sourced : ProgressOf S A → ProgressOf R A
  progress_sourced (whole l) = whole (sourced see l)
  progress_sourced (inside f) = inside (frame_sourced f)

module _ {A : Type 0} where
  -- a frame in the form of its text, with these paths
  abbrev pub frame_over : List (List ℕ) → Frame A → FrameOf (Option (List ℕ)) A
  frame_over paths f = frame_sourced (path_of paths) (frame_view f)

  -- the progress in the form of its text, with these paths
  abbrev pub progress_over : List (List ℕ) → Progress A → ProgressOf (Option (List ℕ)) A
  progress_over paths p = progress_sourced (path_of paths) (progress_view p)

  -- whether the keys of the files in a frame are below this count
  abbrev pub frame_known : ℕ → FrameOf Source A → Bool
  frame_known count (for_name name) = true
  frame_known count for_callee = true
  frame_known count (for_caller callee) = are_known count callee
  frame_known count (for_row metadata row) = row_known count row

  -- whether the keys of the files in the progress are below this count
  abbrev pub progress_known : ℕ → ProgressOf Source A → Bool
  progress_known count (whole l) = are_known count l
  progress_known count (inside f) = frame_known count f

  -- the same for the progress of the code
  abbrev pub known_progress : ℕ → Progress A → Bool
  known_progress count p = progress_known count (progress_view p)

  -- the paths, once those of a frame are kept
  abbrev pub frame_kept : List (List ℕ) → FrameOf (Option (List ℕ)) A → List (List ℕ)
  frame_kept paths (for_name name) = paths
  frame_kept paths for_callee = paths
  frame_kept paths (for_caller callee) = all_kept paths callee
  frame_kept paths (for_row metadata row) = row_kept paths row

  -- the paths, once those of the progress are kept
  abbrev pub progress_kept : List (List ℕ) → ProgressOf (Option (List ℕ)) A → List (List ℕ)
  progress_kept paths (whole l) = all_kept paths l
  progress_kept paths (inside f) = frame_kept paths f

-- ---- one step
-- what comes before a callee's location
abbrev pub call_site_head_at : Reader Unit
call_site_head_at = word (codes "callsite") ▷ spaced_at (codes "(")

module _ {S A : Type 0} where
  -- a list with one more location
  abbrev pub with_one : LocationsOf S A → LocationOf S A → LocationsOf S A
  with_one row l = joined_rows row (location l no_location)

  -- the end of a fused location, which makes one of the locations in the list
  abbrev pub row_end_at : Option (AttrView A) → LocationsOf S A → Reader (ProgressOf S A)
  row_end_at metadata row = word (codes "]") ⇒ λ _. whole (fused metadata row)

  -- after the list so far: `,` before one more location, or the end
  abbrev pub row_after_at : Option (AttrView A) → LocationsOf S A → Reader (ProgressOf S A)
  row_after_at metadata row = space_at ▷ either (begins (the 44))
      (word (codes ",") ▷ space_at ⇒ λ _. inside (for_row metadata row))
      (row_end_at metadata row)

  -- what follows a location inside of a frame, up to the end of the frame's location or to its next location
  abbrev pub after_at : FrameOf S A → LocationOf S A → Reader (ProgressOf S A)
  after_at (for_name name) l = word (codes ")") ⇒ λ _. whole (named name l)
  after_at for_callee l = spaced_at (codes "at") ⇒ λ _. inside (for_caller l)
  after_at (for_caller callee) l = spaced_at (codes ")") ⇒ λ _. whole (call_site callee l)
  after_at (for_row metadata row) l = row_after_at metadata (with_one row l)

  -- the first location of a list comes next, or the list is empty
  abbrev pub row_opening_at : Option (AttrView A) → Reader (ProgressOf S A)
  row_opening_at metadata = either (begins begins_location) (nothing (inside (for_row metadata no_location))) (row_end_at metadata no_location)

module _ {A : Type 0} (attr : Reader (AttrView A)) where
  -- an attribute in `<` and `>`
  abbrev pub metadata_in : Reader (Option (AttrView A))
  metadata_in = word (codes "<") ▷ space_at ▷ attr ▶ λ a. space_at ▷ word (codes ">") ⇒ λ _. Some a

  -- a fused location up to its first location
  abbrev pub fused_opening_at : {S : Type 0} → Reader (ProgressOf S A)
  fused_opening_at = word (codes "fused") ▷ space_at ▷ metadata_at attr ▶ λ metadata. word (codes "[") ▷ space_at ▷ row_opening_at metadata

  -- a location up to the first location inside of it
  abbrev pub opening_at : Reader (ProgressOf (Option (List ℕ)) A)
  opening_at =
      either (begins begins_source) (place_at ⇒ whole)
      (either (begins (the 102)) fused_opening_at
      (either (begins (the 110)) (name_at ⇒ λ name. inside (for_name name))
      (either (begins (the 99)) (call_site_head_at ⇒ λ _. inside for_callee)
      (either (begins (the 63)) (word (codes "?") ⇒ λ _. whole unknown)
      (λ text. Missing (Unexpected (first_of text) ALocation))))))

  -- ---- what is left to parse
  -- further locations of a list, as long as `,` comes next
  abbrev pub further_at : Reader (WrittenRow A)
  further_at text = more_within attr (length text) text

  -- after a location inside of a frame: everything that is left of the frame's location
  abbrev pub frame_rest : FrameOf (Option (List ℕ)) A → Written A → Reader (Written A)
  frame_rest (for_name name) l = word (codes ")") ⇒ λ _. named name l
  frame_rest for_callee l = spaced_at (codes "at") ▷ location_at attr ▶ λ caller. spaced_at (codes ")") ⇒ λ _. call_site l caller
  frame_rest (for_caller callee) l = spaced_at (codes ")") ⇒ λ _. call_site callee l
  frame_rest (for_row metadata row) l = after_location (location_at attr) further_at l ▶ λ ls. word (codes "]") ⇒ λ _. fused metadata (joined_rows row ls)

  -- what is left of a location that was parsed so far
  abbrev pub progress_rest : ProgressOf (Option (List ℕ)) A → Reader (Written A)
  progress_rest (whole l) = nothing l
  progress_rest (inside f) = location_at attr ▶ frame_rest f

  -- given the outcome of the innermost location, the outcome of the outermost, whose frame is first in the list
  abbrev pub resumed : List (FrameOf (Option (List ℕ)) A) → Outcome (Written A) → Outcome (Written A)
  resumed [] o = o
  resumed (f ∷ frames) o = followed (resumed frames o) (frame_rest f)

  -- what is left of the outermost location
  abbrev pub left_of : List (FrameOf (Option (List ℕ)) A) → ProgressOf (Option (List ℕ)) A → Reader (Written A)
  left_of frames p text = resumed frames (progress_rest p text)

-- ---- what the functions of the code parse
module _ {A : Type 0} where
  -- the text is parsed as stated, to the end of a location or to a location inside of it
  abbrev pub ReadsProgress : Reader (ProgressOf Source A) → StreamView → Result (Progress A) (ParseFault A) → StreamView → Type 0
  ReadsProgress = MustRead itself replaced progress_view

  -- the same for what follows a location inside of a frame
  abbrev pub ReadsAfter : Frame A → Location A → StreamView → Result (Progress A) (ParseFault A) → StreamView → Type 0
  ReadsAfter f l = ReadsProgress (after_at (frame_view f) (location_view l))

  -- a location that was made is parsed to its end
  abbrev pub to_its_end : Result (Location A) (ParseFault A) → Result (Progress A) (ParseFault A)
  to_its_end (Ok l) = Ok (progress.Whole l)
  to_its_end (Err fault) = Err fault

  -- a location is parsed up to the first location inside of it, and of the context only its paths were added
  abbrev pub OpensLocation : {T : Type 0} → (Text → Outcome A) → ContextView T A → StreamView → ContextView T A → Result (Progress A) (ParseFault A) → StreamView → Type 0
  OpensLocation reading = KeepsWhatIsRead known_progress progress_over progress_kept (opening_at (attr_at reading))
