-- The texts of the caller's types and attributes as parts.
use Rattle.std.specs.Prelude.{Bool, true, [], ◌∷◌}
use Rattle.irtext_base.specs.Text.{Text}
use Rattle.irtext_base.specs.Own.{can_follow}
use Rattle.irtext_tokens.specs.Infix.{Reader, ◌⇒◌}
use Rattle.irtext_syntax.specs.declared.own.Own.{Own}

-- this value as a part
abbrev pub own_with : {T : Type 0} → T → Own T
own_with x = record { value = x }

-- what a text is to it
abbrev pub own_at : {T : Type 0} → Reader T → Reader (Own T)
own_at reading = reading ⇒ own_with

-- the text that is printed for it
abbrev pub own_text : {T : Type 0} → (T → Text) → Own T → Text
own_text written x = written x.value

-- the text of a type or an attribute can end before this text
abbrev pub ends_text : Text → Bool
ends_text [] = true
ends_text (c ∷ text) = can_follow c
