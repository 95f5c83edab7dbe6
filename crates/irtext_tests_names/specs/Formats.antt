-- The condition that a format breaks.
use Rattle.std.specs.Prelude.{◌≡◌, ℕ, List}
use Rattle.irtext_base.specs.Format.{Directive, custom, first_fault}

-- the condition that these directives break first, by its number
abbrev pub Breaks : ℕ → List Directive → Type 0
Breaks condition directives = first_fault (custom directives) ≡ condition

-- these directives break no condition
abbrev pub Kept : List Directive → Type 0
Kept directives = first_fault (custom directives) ≡ 0
