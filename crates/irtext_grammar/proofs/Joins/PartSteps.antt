-- Which order of directives is allowed in a format.
use Rattle.std.proofs.Common.{◌≡◌, true, false, not, List, [], ◌∷◌}
use Rattle.std.specs.Prelude.{⊤}
use Rattle.std.specs.List.{list_all}
use Rattle.irtext_base.specs.Format as format
use Rattle.irtext_base.specs.Format.{Directive, same_text, given_names_key, is_any_region}

-- the directive may precede these: its key is not the reserved one, and after a directive of all regions no directive of regions follows
abbrev pub MayPrecede : Directive → List Directive → Type 0
MayPrecede (format.attribute k) ds = same_text k given_names_key ≡ false
MayPrecede format.regions ds = list_all (λ d. not (is_any_region d)) ds ≡ true
MayPrecede _ ds = ⊤

-- each directive may precede those after it
abbrev pub Orderly : List Directive → Type 0
Orderly [] = ⊤
Orderly (d ∷ ds) = MayPrecede d ds × Orderly ds
