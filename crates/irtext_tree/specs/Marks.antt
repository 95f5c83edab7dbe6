-- Fixed texts as heads: brackets, and what comes between the items of a list.
use Rattle.std.specs.Prelude.{ℕ, [], ◌∷◌}
use Rattle.irtext_base.specs.Reading.{the}
use Rattle.irtext_base.specs.Text.{Text, begins}
use Rattle.irtext_tokens.specs.Infix.{Reader, nothing, either, ◌▷◌, ◌⇒◌}
use Rattle.irtext_tokens.specs.Tokens.{space_at, text_at}

-- this text, which is the head
abbrev pub mark_at : {H : Type 0} → Text → H → Reader H
mark_at text h = text_at text ⇒ λ _. h

-- the separator, which is the head for one more item, and otherwise the closing text
abbrev pub more_at : {H : Type 0} → ℕ → H → Text → H → Reader H
more_at separator more closer end = either (begins (the separator)) (mark_at (separator ∷ []) more) (mark_at closer end)

-- if the closing character comes next, after any white space, it is consumed, and the head is that of an empty list; otherwise it is that of
-- a list with an item
abbrev pub closed_at : {H : Type 0} → H → ℕ → H → Reader H
closed_at filled closer empty = space_at ▷ either (begins (the closer)) (mark_at (closer ∷ []) empty) (nothing filled)

-- the opening text of a list, after any white space, and the closing character if the list is empty
abbrev pub opened_at : {H : Type 0} → Text → H → ℕ → H → Reader H
opened_at opener filled closer empty = space_at ▷ text_at opener ▷ closed_at filled closer empty
