-- Ids compared by their two texts.
use Rattle.std.specs.Prelude.{◌≡◌, true, ◌&&◌, ◌++◌}
use Rattle.std.specs.Cmp.{first_so, second_so}
use Rattle.std.specs.Cmp.Lexicographic.{bytes_decides}
use Rattle.std.specs.Hash as fed
use Rattle.std.specs.Str.{bytes_eq}
use Rattle.irtext_base.specs.Text.{Text}
use Rattle.irtext_context.specs.Dialects.{same_id}
use Rattle.irtext_base.specs.declared.base.identifier.OpId.{OpId}

-- the id with these two texts
abbrev pub id_of_texts : Text → Text → OpId
id_of_texts dialect name = record { dialect = dialect; name = name }

-- ids that `same_id` accepts have equal texts
pub same_texts : (x y : OpId) → same_id x y ≡ true → (x.dialect ≡ y.dialect) × (x.name ≡ y.name)
same_texts x y h =
    let d = bytes_eq x.dialect y.dialect in
    let n = bytes_eq x.name y.name in
    ((bytes_decides x.dialect y.dialect).0 (first_so d n h), (bytes_decides x.name y.name).0 (second_so d n h))

-- ids that `same_id` accepts give a hasher the same input
pub fed_alike : (x y : OpId) → same_id x y ≡ true → (fed.str x.dialect ++ fed.str x.name) ≡ (fed.str y.dialect ++ fed.str y.name)
fed_alike x y h = let s = same_texts x y h in λ i. fed.str (s.0 i) ++ fed.str (s.1 i)

-- `same_id` gives the same result for both of two ids that it accepts
pub tested_alike : (x y z : OpId) → same_id x y ≡ true → same_id x z ≡ same_id y z
tested_alike x y z h = let s = same_texts x y h in λ i. bytes_eq (s.0 i) z.dialect && bytes_eq (s.1 i) z.name
