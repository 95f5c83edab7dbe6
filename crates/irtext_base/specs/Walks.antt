-- Copies of locations with other sources: what they are, and what the open frames still make of the copy inside them.
use Rattle.std.specs.Prelude.{◌≡◌, ℕ, ◌+◌, suc, Bool, true, false, ◌&&◌, List, [], ◌∷◌, fold, length, map, string_bytes}
use Rattle.irtext_base.specs.declared.location.Location.{Location}
use Rattle.irtext_base.specs.declared.location.Source.{Source}
use Rattle.irtext_base.specs.declared.location.walk.Row.{Row}
use Rattle.irtext_base.specs.declared.location.walk.Frame.{Frame}
use Rattle.irtext_base.specs.declared.location.walk.Frame.TheVariants as frame
use Rattle.irtext_base.specs.declared.location.walk.Turn.{Turn}
use Rattle.irtext_base.specs.declared.location.walk.Turn.TheVariants.{Inside, Done, Last}
use Rattle.irtext_base.specs.Locations.{LocationOf, LocationsOf, LocationView, LocationViews, src_pos, fused, named, call_site, unknown, no_location, location, location_view, attr_view_in, in_row}
use Rattle.irtext_base.specs.Paths.{is_known, path_of}
use Rattle.irtext_base.specs.Moves.{source_under, path_kept}

-- how the sources of a location are replaced, where W is the state that changes from source to source
pub record Rule (W : Type 0) : Type 0 where
  -- whether the source is known
  pub known : Source → Bool
  -- the source in the copy
  pub image : W → Source → Source
  -- the state after it
  pub after : W → Source → W

-- each source is unchanged
abbrev pub same_sources : {W : Type 0} → Rule W
same_sources = record { known = λ _. true; image = λ _ s. s; after = λ w _. w }

-- each file has the key that its path has or gets among other paths
abbrev pub moving : List (List ℕ) → Rule (List (List ℕ))
moving from = record {
  known = is_known (length from);
  image = λ to s. source_under to (path_of from s);
  after = λ to s. path_kept to (path_of from s);
}

-- a value that is built, the state after it, and whether all its sources are known
pub record Taken (W X : Type 0) : Type 0 where
  pub known : Bool
  pub value : X
  pub after : W

-- a value that takes no source: the state is unchanged
abbrev pub still : {W X : Type 0} → X → W → Taken W X
still x w = record { known = true; value = x; after = w }

-- a value built of another
abbrev pub made : {W X Y : Type 0} → (X → Y) → Taken W X → Taken W Y
made make t = record { known = t.known; value = make t.value; after = t.after }

-- a value built of two that are built one after the other
abbrev pub joined : {W X Y Z : Type 0} → (X → Y → Z) → Taken W X → (W → Taken W Y) → Taken W Z
joined make t next = record {
  known = t.known && (next t.after).known;
  value = make t.value (next t.after).value;
  after = (next t.after).after;
}

abbrev mutual
  -- the copy of a location, whose sources are replaced in the order in which it mentions them
  pub taken : {W A : Type 0} → Rule W → W → LocationView A → Taken W (LocationView A)
  taken r w (src_pos src pos) = record { known = r.known src; value = src_pos (r.image w src) pos; after = r.after w src }
  taken r w (fused metadata locations) = made (fused metadata) (row_taken r w locations)
  taken r w (named name child) = made (named name) (taken r w child)
  taken r w (call_site callee caller) = joined call_site (taken r w callee) (λ u. taken r u caller)
  taken r w unknown = still unknown w

  -- the same for each location of a row
  pub row_taken : {W A : Type 0} → Rule W → W → LocationViews A → Taken W (LocationViews A)
  row_taken r w no_location = still no_location w
  row_taken r w (location l ls) = joined location (taken r w l) (λ u. row_taken r u ls)

-- the new state is the old one after some sources were replaced
pub record Reached {W : Type 0} (r : Rule W) (old new : W) : Type 0 where
  pub sources : List Source
  pub by_sources : new ≡ fold r.after old sources

-- the row with these locations in front of it
abbrev pub in_front : {S A : Type 0} → List (LocationOf S A) → LocationsOf S A → LocationsOf S A
in_front [] ls = ls
in_front (k ∷ ks) ls = location k (in_front ks ls)

-- the copy of an open row with these locations after its copies
abbrev pub row_with : {A : Type 0} → Row A → LocationViews A → LocationView A
row_with row ls = fused (attr_view_in row.metadata.now) (in_front (map location_view row.copies.items) ls)

-- the locations of an open row that are left to copy
abbrev pub row_left : {A : Type 0} → Row A → LocationViews A
row_left row = in_row (map location_view row.left.now)

-- the copy of an open row: the copies so far, and those of the locations that are left
abbrev pub row_rest : {W A : Type 0} → Row A → Rule W → W → Taken W (LocationView A)
row_rest row r w = made (row_with row) (row_taken r w (row_left row))

-- what an open frame makes of the copy inside it
abbrev pub closed : {W A : Type 0} → Rule W → Frame A → Taken W (LocationView A) → Taken W (LocationView A)
closed r (frame.Named name) t = made (named (string_bytes name.now)) t
closed r (frame.Callee caller) t = joined call_site t (λ u. taken r u (location_view caller.now))
closed r (frame.Caller callee) t = made (call_site (location_view callee)) t
closed r (frame.Fused row) t = made (row_with row) (joined location t (λ u. row_taken r u (row_left row)))

-- what all open frames, the outermost first in the list, make of the copy inside them
abbrev pub resume : {W A : Type 0} → Rule W → List (Frame A) → Taken W (LocationView A) → Taken W (LocationView A)
resume r [] t = t
resume r (f ∷ frames) t = closed r f (resume r frames t)

-- this is the copy of the location, and the state after it
abbrev pub Copies : {W A : Type 0} → Rule W → Location A → W → Location A → W → Type 0
Copies r l w copy u = still (location_view copy) u ≡ taken r w (location_view l)

-- what a turn makes: a finished copy, or that of a location inside the frame that it opens. The last turn makes nothing that is known.
abbrev pub begun : {W A : Type 0} → Rule W → Turn A → W → Taken W (LocationView A)
begun r (Inside f l) w = closed r f (taken r w (location_view l.now))
begun r (Done l) w = still (location_view l) w
begun r (Last l) w = record { known = false; value = location_view l; after = w }

-- what an open frame makes of this finished copy inside it
abbrev pub closing : {W A : Type 0} → Frame A → Location A → Rule W → W → Taken W (LocationView A)
closing f copy r w = closed r f (still (location_view copy) w)

-- from any state, the turn makes this
abbrev pub Begins : {W A : Type 0} → Rule W → Turn A → (Rule W → W → Taken W (LocationView A)) → Type 0
Begins {W} r t rest = (w : W) → begun r t w ≡ rest r w

-- from the state after it, the turn makes the copy of this location
abbrev pub Opens : {W A : Type 0} → Rule W → LocationView A → W → Turn A → W → Type 0
Opens r l w t u = begun r t u ≡ taken r w l

-- whether a turn is not the last one
abbrev pub is_open : {A : Type 0} → Turn A → Bool
is_open (Inside f l) = true
is_open (Done l) = true
is_open (Last l) = false

-- what a turn makes inside the open frames; the last one is the copy of the whole
abbrev pub whole : {W A : Type 0} → Rule W → List (Frame A) → Turn A → W → Taken W (LocationView A)
whole r frames (Inside f l) w = resume r frames (begun r (Inside f l) w)
whole r frames (Done l) w = resume r frames (begun r (Done l) w)
whole r frames (Last l) w = still (location_view l) w

abbrev mutual
  -- the steps of the loop that a location takes: one to open it, and one after each location directly nested in it
  pub turns : {A : Type 0} → LocationView A → ℕ
  turns (src_pos src pos) = 1
  turns (fused metadata locations) = suc (all_turns locations)
  turns (named name child) = suc (suc (turns child))
  turns (call_site callee caller) = suc (suc (suc (turns callee + turns caller)))
  turns unknown = 1

  -- the steps of a row
  pub all_turns : {A : Type 0} → LocationViews A → ℕ
  all_turns no_location = 0
  all_turns (location l ls) = suc (turns l + all_turns ls)

-- the steps that are left of an open row
abbrev pub row_turns : {A : Type 0} → Row A → ℕ
row_turns row = all_turns (row_left row)

-- the steps that an open frame takes after the copy inside it
abbrev pub frame_turns : {A : Type 0} → Frame A → ℕ
frame_turns (frame.Named name) = 1
frame_turns (frame.Callee caller) = suc (suc (turns (location_view caller.now)))
frame_turns (frame.Caller callee) = 1
frame_turns (frame.Fused row) = suc (row_turns row)

-- the steps of all open frames
abbrev pub stack_turns : {A : Type 0} → List (Frame A) → ℕ
stack_turns [] = 0
stack_turns (f ∷ frames) = frame_turns f + stack_turns frames

-- the steps of a turn
abbrev pub turn_turns : {A : Type 0} → Turn A → ℕ
turn_turns (Inside f l) = suc (frame_turns f + turns (location_view l.now))
turn_turns (Done l) = 1
turn_turns (Last l) = 0

-- all steps that are left
abbrev pub work : {A : Type 0} → List (Frame A) → Turn A → ℕ
work frames t = stack_turns frames + turn_turns t
