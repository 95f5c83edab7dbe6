use Rattle.std.proofs.Common.{◌≡◌, ◌∙◌, ap, sym, refl, false, Option, Some, None, is_some, true≢false}
use Rattle.std.specs.Map.{lookup}
use Rattle.irtext_parse_state.proofs.NumberedPlaces.{not_other}
use Rattle.irtext_parse_state.specs.States.{same_index}
use Rattle.irtext_parse_state.proofs.parsable.numbered.Numbered.note.Goals as goal

none_of : {X : Type 0} (o : Option X) → is_some o ≡ false → o ≡ None
none_of None e = refl
none_of (Some x) e = absurd (true≢false e)

pub note_last-requires : goal.note_last-requires
note_last-requires g c =
    not_other c.args.index c.self.inside.dense.items c.self.inside.others.entries
    (ap (lookup (same_index c.args.index)) c.self.view_is ∙ none_of _ (sym c.contains.ensures ∙ c.if-contains.false))
