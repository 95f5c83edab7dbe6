-- The arena after the content of an object was borrowed as `&mut`.
use Rattle.std.specs.Prelude.{ℕ, Option, Some, None, slice_get}
use Rattle.std.specs.Borrow.{Lends, Fml, RattleType, MutBor}
use Rattle.std.specs.Vec.{with_item}
use Rattle.irtext_graph.specs.declared.arena.Arena.{Arena}
use Rattle.irtext_graph.specs.declared.arena.Slot.{Slot}
use Rattle.irtext_graph.specs.contracts.arena.Arena.{the_row}
use Rattle.irtext_graph.specs.Arena.{with_content}

module _ {X : Type 0} where
  -- the arena with another content of the object in this slot, if there is one
  abbrev pub with_content_of : Option (Slot X) → Arena X → ℕ → X → Arena X
  with_content_of None a i x = a
  with_content_of (Some s) a i x = record a { slots = with_item a.slots i (with_content s x) }

  -- the arena with another content of the object in the slot at an index
  abbrev pub with_content_at : Arena X → ℕ → X → Arena X
  with_content_at a i x = with_content_of (slice_get a.slots.items i) a i x

-- when the borrow ends, the content of the object in this slot is the reference's last value
abbrev pub LendsContent : (X : RattleType) → MutBor (Arena X.Denot) → ℕ → MutBor X.Denot → Fml
LendsContent X a i r = Lends (the_row X) X a r (with_content_at a.now i)
