use Rattle.std.proofs.Common.{refl, arith}
use Rattle.std.specs.Prelude.{codes}
use lib.Utf8.{encode}
use Rattle.irtext_base.specs.Locations.{own}
use Rattle.irtext_grammar.specs.Promises.LocationsBack.{AllFit, AllRead, AttrReads}
use Rattle.irtext_tests_names.specs.LocationRows.{nested, note_at, note_text}
use Rattle.irtext_tests_names.proofs.location_rows.premises_of_a_location.Goals as goal

note_reads : AttrReads note_at note_text (own tt)
note_reads = record { starts = λ rest. refl; again = λ rest e. (rest, record { taken = codes "note"; is = refl; whole = refl }, refl) }

read : AllRead note_at note_text nested
read = ((tt, tt), (note_reads, (tt, (tt, tt))))

fit : AllFit nested
unfolding encode
fit = (((codes "f", (refl, refl)), (tt, tt)), ((tt, record { line = omega arith; column = omega arith }), (tt, tt)))

pub returns : goal.returns
returns c = (read, fit)
