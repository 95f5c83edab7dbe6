use Rattle.std.proofs.Common.{◌∙◌, refl, sym}
use Rattle.std.proofs.lemmas.Str.{chars_from_encodes}
use Rattle.irtext_base.specs.Faults.{characters}
use Rattle.irtext_tokens.specs.Tokens.{space_at}
use Rattle.irtext_tokens.proofs.Characters.{encodes-characters}
use Rattle.irtext_tokens.proofs.Steps.{lens, spaced_whole, last_spaced}
use Rattle.irtext_tokens.proofs.irfmt.demanded.spaced_text_demanded.Goals as goal

pub returns-then-accept_spaced : goal.returns-then-accept_spaced
returns-then-accept_spaced g c =
    let m = g.met.S.CharStream in
    let l = lens g.S.CharStream.view g.S.CharStream.at m.view_at m.at_view m.at_at in
    let bytes = c.args.text.now in
    let h = rw (← chars_from_encodes (characters bytes) bytes c.utf8.text (encodes-characters bytes c.utf8.text)) at c.if-accept_spaced.ensures in
    let p = spaced_whole l (λ _ t. space_at t) (characters bytes) h.0 c.args.stream.now c.accept_spaced.new.self (sym c.has_failed.ensures ∙ c.if-has_failed.false) h.1 h.2 in
    last_spaced l {A = g.row.A.Denot} (λ u. u) (λ u. u) tt refl p c.skip_white_space.ensures
