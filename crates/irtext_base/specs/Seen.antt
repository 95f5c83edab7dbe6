-- How many distinct sources were seen so far: none, one, or several; and whether all of them are known.
use Rattle.std.specs.Prelude.{cond, ◌&&◌, Option, Some, None, List, [], ◌∷◌}
use Rattle.irtext_base.specs.declared.location.Source.{Source}
use Rattle.irtext_base.specs.declared.location.sources.Seen.{Seen}
use Rattle.irtext_base.specs.declared.location.sources.Seen.TheVariants.{Nothing, One, Several}
use Rattle.irtext_base.specs.declared.location.files.Among.{Among}
use Rattle.irtext_base.specs.Locations.{LocationView, LocationViews, same_source}
use Rattle.irtext_base.specs.Paths.{is_known}
use Rattle.irtext_base.specs.Visits.{visited, row_visited, of_sources}

-- how many sources a list of distinct sources has
abbrev pub seen_of : List Source → Seen
seen_of [] = Nothing
seen_of (s ∷ []) = One s
seen_of (s ∷ t ∷ more) = Several

-- the same with one more source
abbrev pub more_seen : Seen → Source → Seen
more_seen Nothing s = One s
more_seen (One t) s = cond (same_source s t) (One t) Several
more_seen Several s = Several

-- the same with the sources that a location mentions
abbrev pub all_seen : {A : Type 0} → Seen → LocationView A → Seen
all_seen = visited (of_sources more_seen)

-- the same with the sources that the locations of a row mention
abbrev pub row_seen : {A : Type 0} → Seen → LocationViews A → Seen
row_seen = row_visited (of_sources more_seen)

-- the source, if exactly one was seen
abbrev pub one_seen : Seen → Option Source
one_seen Nothing = None
one_seen (One s) = Some s
one_seen Several = None

-- whether all sources are known, with one more source
abbrev pub more_among : Among → Source → Among
more_among among s = record among { all = among.all && is_known among.count s }
