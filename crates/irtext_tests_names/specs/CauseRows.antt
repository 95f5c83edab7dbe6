-- A small dialect for worked errors: an operation with one region, one that uses a value, and one with a type after `:`.
use Rattle.std.specs.Prelude.{◌≡◌, true, false, cond, ◌==◌, List, [], ◌∷◌, codes, length, ⊤}
use Rattle.irtext_base.specs.Text.{Text}
use Rattle.irtext_base.specs.Format as format
use Rattle.irtext_base.specs.Format.{Id}
use Rattle.irtext_base.specs.Answers.{Outcome, Read, Missing}
use Rattle.irtext_base.specs.Faults.{Fault, OwnText}
use Rattle.irtext_context.specs.Dialects.{Table}
use Rattle.irtext_tokens.specs.AttrTexts.{attr_at}
use Rattle.irtext_grammar.specs.Contexts.Formats.{op_id}
use Rattle.irtext_grammar.specs.Promises.ErrorCauses.{CauseAt}
use Rattle.irtext_grammar.specs.Reached.{Stopped, Actions, operation_at}

-- an id of the dialect `t`
abbrev pub t : Text → Id
t name = record { dialect = codes "t"; name = name }

-- `t.h` has one region and is isolated; `t.u` uses a value; `t.m` has `:` and a type
abbrev pub known : List (Text × Table)
known = (
  codes "t",
  record {
    name = codes "t";
    entries =
        (op_id (t (codes "h")), record { format = format.custom (format.region 0 ∷ []); isolated = true })
        ∷ (op_id (t (codes "u")), record { format = format.custom (format.operand 0 ∷ []); isolated = false })
        ∷ (op_id (t (codes "m")), record { format = format.custom (format.word (codes ":") ∷ format.result_type 0 ∷ []); isolated = false }) ∷ [];
  },
) ∷ []

-- the one type is parsed as an `i`; any other text is an error with a message of its own
abbrev pub type_at : Text → Outcome ⊤
type_at [] = Missing (OwnText (codes "no type"))
type_at (c ∷ text) = cond (c == 105) (Read tt (c ∷ []) text) (Missing (OwnText (codes "no type")))

-- no attribute is parsed
abbrev pub own_at : Text → Outcome ⊤
own_at text = Missing (OwnText (codes "no attribute"))

-- nothing is done
abbrev pub nothing : Actions ⊤ ⊤ ⊤
nothing = record {
  uses = λ place id parts s. s;
  late = λ place id p s. s;
  enters = λ iso s. s;
  leaves = λ iso place s. s;
  closes = λ place names id parts s. s;
  marks = λ mark s. s;
  heads = λ h s. s;
  any_key = false;
}

-- a text is no operation, for this cause at this place, which is one that an error of the text can have there
abbrev pub Errs : Text → Fault → Text → Type 0
Errs text cause left = (operation_at known type_at (attr_at own_at) nothing false text tt ≡ Stopped tt cause (length left)) × CauseAt known type_at own_at text cause left
