use Rattle.std.proofs.Common.{refl, sym, ◌∙◌, subst}
use Rattle.std.proofs.lemmas.Str.{chars_from_encodes}
use Rattle.irtext_base.specs.Answers.{Gives, unless_failed}
use Rattle.irtext_base.specs.Faults.{characters}
use Rattle.irtext_tokens.proofs.Characters.{encodes-characters}
use Rattle.irtext_tokens.proofs.Spelling.{whole_gives}
use Rattle.irtext_tokens.specs.Tokens.{word}
use Rattle.irtext_demo.proofs.integer_type.text_there.Goals as goal

pub returns : goal.returns
returns c =
    let bytes = c.args.text.now in
    let old = c.args.stream.now in
    let new = c.accept.new.self in
    let h = rw (← chars_from_encodes (characters bytes) bytes c.utf8.text (encodes-characters bytes c.utf8.text)) at c.if-not-accept.ensures in
    subst (λ b. Gives (λ s. s) (λ s v. v) (unless_failed b (word (characters bytes) old.rest)) old tt new) (sym (sym c.has_failed.ensures ∙ c.if-has_failed.false))
    (whole_gives (λ s. s) (λ s v. v) (λ s v. refl) (λ s. refl) (λ s v w. refl) (characters bytes) h.0 old new h.1 h.2)
