-- For callers: objects that use nothing outside of themselves, isolated scope by isolated scope.
use Rattle.std.specs.Prelude.{◌≡◌, ◌↔◌, Bool, true, false, Option, Some, None}
use Rattle.irtext_graph.specs.declared.object.Defined.{Defined}
use Rattle.irtext_graph.specs.declared.object.Defined.TheVariants.{OfValue, OfBlock}
use Rattle.irtext_graph.specs.declared.object.Object.{Object}
use Rattle.irtext_graph.specs.declared.object.Object.TheVariants.{TheBlock}
use Rattle.irtext_graph.specs.declared.object.Site.{Site}
use Rattle.irtext_graph.specs.Content.{Content, Content.{AnOperation, ABlock, ARegion}}
use Rattle.irtext_graph.specs.Erasing.{owner, user}
use Rattle.irtext_graph.specs.Graph.{GraphView, parent, ancestor, content, IsInside}
use Rattle.irtext_graph.specs.Used.{used_at}

-- `isolated` tells by its data whether an operation is isolated from above
module _ {O B T : Type 0} (isolated : O → Bool) where
  -- whether an object is an isolated operation
  abbrev pub is_isolated : Option (Content O B T) → Bool
  is_isolated (Some (AnOperation n c)) = isolated c.data_of
  is_isolated (Some (ABlock n c)) = false
  is_isolated (Some (ARegion n c)) = false
  is_isolated None = false

  module _ (g : GraphView O B T) where
    -- the object is a region of an isolated operation
    pub record IsBarrier (r : Object) : Type 0 where
      pub holder : Object
      pub held : parent g r ≡ Some holder
      pub closes : is_isolated (content g holder) ≡ true

    -- the innermost isolated region that is around an object or is it, if there is one
    abbrev pub IsScope : Object → Option Object → Type 0
    IsScope o None = (r : Object) → IsBarrier r → IsInside g r o → ⊥
    IsScope o (Some s) = IsBarrier s × IsInside g s o × ((r : Object) → IsBarrier r → IsInside g r o → IsInside g r s)

    -- both are in the same isolated scope: the same isolated regions are around them
    abbrev pub Shares : Object → Object → Type 0
    Shares a b = (r : Object) → IsBarrier r → IsInside g r a ↔ IsInside g r b

    -- the operation of a use can name d: a value of its isolated scope, or a block of its own region
    abbrev pub Reaches : Site → Defined → Type 0
    Reaches u (OfValue v) = Shares (user u) (owner (OfValue v))
    Reaches u (OfBlock b) = parent g (TheBlock b) ≡ ancestor g 2 (user u)

    -- the operation of a use can name what is used there, if there is such a use
    abbrev pub IsReached : Site → Type 0
    IsReached u = (d : Defined) → used_at g u ≡ Some d → Reaches u d

    -- o is in no other object, uses nothing itself, and is isolated if it has a region; and each operation in it names only what it reaches
    pub record IsSelfContained (o : Object) : Type 0 where
      pub alone : parent g o ≡ None
      pub bare : (u : Site) (d : Defined) → user u ≡ o → used_at g u ≡ Some d → ⊥
      pub barrier : (r : Object) → parent g r ≡ Some o → is_isolated (content g o) ≡ true
      pub uses : (u : Site) → IsInside g o (user u) → IsReached u
