-- The log of what was made.
use Rattle.std.specs.Prelude.{◌≡◌, ◌<◌, ◌≤◌, ℕ, Bool, List, Option, Some, None, is_some, map, slice_get}
use Rattle.irtext_graph.specs.declared.object.Object.{Object}
use Rattle.irtext_graph.specs.declared.object.Object.TheVariants.{TheOperation, TheBlock, TheRegion}
use Rattle.irtext_graph.specs.declared.objects.Objects.{Objects}
use Rattle.irtext_graph.specs.Arena.{get, born_in}
use Rattle.irtext_graph.specs.Objects.{what}

-- an object that was made, and how many objects were made before it
pub record Made : Type 0 where
  pub born : ℕ
  pub object : Object

-- the objects are in the order in which they were made
abbrev pub IsByAge : List Made → Type 0
IsByAge entries = (j k : ℕ) (a b : Made) → j ≤ k → slice_get entries j ≡ Some a → slice_get entries k ≡ Some b → a.born ≤ b.born

-- there is a number, and it is less than the mark
abbrev pub IsBelow : ℕ → Option ℕ → Type 0
IsBelow mark None = ⊥
IsBelow mark (Some n) = n < mark

module _ {O B T : Type 0} where
  -- how many objects were made before an object, if there is one
  abbrev pub age : Objects O B T → Object → Option ℕ
  age x (TheOperation p) = born_in (get x.operations p)
  age x (TheBlock p) = born_in (get x.blocks p)
  age x (TheRegion p) = born_in (get x.regions p)

  -- each live object is among the entries with its age; they are ordered by age, of what was made before the mark, and no older than what is live
  pub record IsListed (made : ℕ) (entries : List Made) (x : Objects O B T) : Type 0 where
    pub listed : (o : Object) (b : ℕ) → age x o ≡ Some b → (k : ℕ) × (slice_get entries k ≡ Some (record { born = b; object = o }))
    pub by_age : IsByAge entries
    pub below : (k : ℕ) (a : Made) → slice_get entries k ≡ Some a → a.born < made
    pub reached : (k : ℕ) (a : Made) (b : ℕ) → slice_get entries k ≡ Some a → age x a.object ≡ Some b → a.born ≤ b

  -- the log has the objects of such entries
  pub record IsLogged (made : ℕ) (log : List Object) (x : Objects O B T) : Type 0 where
    pub entries : List Made
    pub objects : log ≡ map (λ m. m.object) entries
    pub all : IsListed made entries x

  -- whether an object is live
  abbrev pub is_live : Objects O B T → Object → Bool
  is_live x o = is_some (what x o)
