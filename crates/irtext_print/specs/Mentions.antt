-- For callers: the print-once attributes of a section, as they are recorded while items are printed.
use Rattle.std.specs.Prelude.{Bool, true, cond, List, [], ◌∷◌, ◌++◌, map, Option, Some, None, ⊤}
use Rattle.std.specs.HashSet.{HashSet}
use Rattle.std.specs.Borrow.{Bor}
use Rattle.irtext_base.specs.Text.{Text}
use Rattle.irtext_base.specs.Format.{has}
use Rattle.irtext_grammar.specs.Grammar.Tree.{Attribute, own}
use Rattle.irtext_grammar.specs.Graphs.Graph.{Printing, Entry}

-- what printing needs to know of the caller's attributes alone
abbrev pub asking : {A : Type 0} → (A → Bool) → (A → A → Bool) → Printing ⊤ A
asking once same = record { given = λ v. None; label = λ b. None; type_of = λ v. None; own_outlined = λ a. true; own_once = once; same_own = same; format_of = λ id. None }

-- what the references in a set refer to, in their order
abbrev pub known_in : {A S : Type 0} → HashSet (Bor A) S → List A
known_in set = map (λ r. r.now) set.keys

module _ {T A : Type 0} (C : Printing T A) where
  -- the known attributes, and one that is mentioned
  abbrev pub with_mention : List A → A → List A
  with_mention known a = cond (has C.same_own a known) known (known ++ a ∷ [])

  -- the same, if the attribute is a print-once one
  abbrev pub noted : List A → Attribute A → List A
  noted known (own a) = cond (C.own_once a) (with_mention known a) known
  noted known _ = known

  -- the attributes that are known after an item's attributes
  abbrev pub all_noted : List A → List (Text × Attribute A) → List A
  all_noted known [] = known
  all_noted known (e ∷ es) = all_noted (noted known e.1) es

  -- the same after an item; one that is not live mentions none
  abbrev pub one_noted : List A → Option (Entry C) → List A
  one_noted known None = known
  one_noted known (Some e) = all_noted known e.attributes

  -- the same after several items
  abbrev pub items_noted : List A → List (Option (Entry C)) → List A
  items_noted known [] = known
  items_noted known (g ∷ gs) = items_noted (one_noted known g) gs
