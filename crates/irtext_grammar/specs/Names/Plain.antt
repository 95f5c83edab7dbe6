-- For theorems: a script without its marks, entries and claims; and that those do not fail.
use Rattle.std.specs.Prelude.{◌≡◌, Bool, true, false, cond, [], ⊤}
use Rattle.irtext_grammar.specs.Names.Script.{Act, use_value, use_label, define_value, define_label, Script, done, does, within}
use Rattle.irtext_grammar.specs.Names.Scopes.{Scopes, fact_of, ◌⊳◌, inside, outward, facts, act_failures}

-- the act uses or defines a name
abbrev pub names_one : {N P : Type 0} → Act N P → Bool
names_one (use_value w u) = true
names_one (use_label w u) = true
names_one (define_value w p) = true
names_one (define_label w p) = true
names_one _ = false

-- the script with only such acts
abbrev pub plain : {N P : Type 0} → Script N P → Script N P
plain done = done
plain (does a k) = cond (names_one a) (does a (plain k)) (plain k)
plain (within iso p body k) = within iso p (plain body) (plain k)

-- the acts that neither use nor define a name do not fail
abbrev pub Kept : {N P : Type 0} → (N → N → Bool) → Scopes N → Script N P → Type 0
Kept eq s done = ⊤
Kept eq s (does a k) = (names_one a ≡ false → act_failures eq s a ≡ []) × Kept eq (s ⊳ fact_of a) k
Kept eq s (within iso p body k) = Kept eq (inside iso s) body × Kept eq (s ⊳ outward eq iso (facts eq body)) k
