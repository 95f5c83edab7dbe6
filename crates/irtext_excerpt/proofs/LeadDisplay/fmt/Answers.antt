use Rattle.std.proofs.Common.{true, refl}
use Rattle.std.proofs.Output.{has_written_append, has_written_of_eq}
use Rattle.irtext_excerpt.proofs.Excerpts.{lead-bytes}
use Rattle.irtext_excerpt.proofs.LeadDisplay.fmt.Goals as goal

pub returns-clause-writes : goal.returns-clause-writes
returns-clause-writes g c = λ plain ok.
    let e = c.args.self.now.excerpt in
    let left = c.in_ok-fmt_left.ensures plain (refl {a = true}) in
    let right = c.in_ok-fmt_right.ensures left.plain (refl {a = true}) in
    let newline = c.in_ok-write_str.ensures.writes right.plain (refl {a = true}) in
    let margin = c.fmt_margin.ensures newline.plain ok in
    has_written_of_eq _ _ _ _ _ (lead-bytes e.text.now e.position.line e.position.column c.preceding-lines.result c.preceding-characters.result _ _ c.preceding-lines.ensures c.preceding-characters.ensures c.place_in.ensures)
    (has_written_append _ _ _ _ _ _ left (has_written_append _ _ _ _ _ _ right (has_written_append _ _ _ _ _ _ newline margin)))
