-- A text that is kept last.
use Rattle.std.proofs.Common.{◌≡◌, refl, ℕ, false, List, [], ◌∷◌, ◌++◌}
use Rattle.std.specs.List.{list_any}
use Rattle.std.specs.Str.{bytes_eq}
use Rattle.indexmap.specs.IndexSet.{insert_key}

-- a text that none of the texts has is put last
pub put_last : (texts : List (List ℕ)) (text : List ℕ) → list_any (bytes_eq text) texts ≡ false → insert_key bytes_eq texts text ≡ texts ++ text ∷ []
put_last texts text none = rw none refl
