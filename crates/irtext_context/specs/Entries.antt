-- What an iterator over a dictionary has still to yield.
use Rattle.std.specs.Prelude.{List, drop}
use Rattle.irtext_base.specs.Text.{Text}
use Rattle.irtext_base.specs.declared.base.attributes.AttrObj.{AttrObj}
use Rattle.irtext_context.specs.declared.base.attributes.Iter.{Iter}

-- the entries from the position of the iterator on
abbrev pub entries_left : {A : Type 0} → Iter A → List (Text × AttrObj A)
entries_left it = drop it.at it.dict.now
