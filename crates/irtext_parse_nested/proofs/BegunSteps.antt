-- What an operation that was begun has so far, as its steps are parsed, and at its end.
use Rattle.std.proofs.Common.{◌≡◌, ◌∙◌, ℕ, List, [], ◌∷◌, ◌++◌, length, Option, refl, sym, ap, subst, append_assoc}
use Rattle.irtext_base.specs.Text.{Text}
use Rattle.irtext_base.specs.Format.{Format, Id}
use Rattle.irtext_grammar.specs.Grammar.Tree.{Part, Attribute, views, parts_of, operand_names, successor_labels}
use Rattle.irtext_grammar.specs.Graphs.Build.{put, put_all, stored}
use Rattle.irtext_grammar.specs.Names.Acts.{result_types}
use Rattle.irtext_grammar.specs.Heads.{Step}
use Rattle.irtext_grammar.specs.Naming.{body_of, unmarked}
use Rattle.irtext_grammar.specs.Resume.{OpenOperation, with_steps}
use Rattle.irtext_grammar.specs.Unchanged.{OwnSoFar}
use Rattle.irtext_parse_nested.specs.Beginning.{HasBegun, IsPartOf, ArePartsOf}
use Rattle.irtext_parse_nested.proofs.BegunParts.{views_both}

-- entries that are put in after others
put_both : {V : Type 0} (ds es cs : List (Text × V)) → put_all es (ds ++ cs) ≡ put_all (put_all es ds) cs
put_both [] es cs = refl
put_both (d ∷ ds) es cs = put_both ds (put d es) cs

-- the same own with these entries
abbrev pub with_entries : {T A : Type 0} → OwnSoFar T A → List (Text × Attribute A) → OwnSoFar T A
with_entries own es = record { place = own.place; id = own.id; operands = own.operands; successors = own.successors; types = own.types; entries = es }

module _ {T A : Type 0} (formats : Id → Option Format) (o : OpenOperation T A) (own : OwnSoFar T A) (h : HasBegun formats o own) where
  -- ---- one more step was parsed
  module _ (s : Step) (ss : List Step) (steps : o.steps ≡ s ∷ ss) (part : Part ℕ T A) (is : IsPartOf s part) where
    following : (later : List (Part ℕ T A)) → ArePartsOf ss later → ArePartsOf o.steps (part ∷ later)
    following later a = subst (λ zs. ArePartsOf zs (part ∷ later)) (sym steps) (is, a)

    moved : (later : List (Part ℕ T A)) → (o.parts ++ part ∷ []) ++ later ≡ o.parts ++ part ∷ later
    moved later = append_assoc o.parts (part ∷ []) later

    -- its own has the entries of that part besides
    pub begun_step : HasBegun formats (with_steps o ss (o.parts ++ part ∷ [])) (with_entries own (put_all own.entries (views stored (part ∷ []))))
    begun_step = record {
      place = h.place;
      id = h.id;
      entries = ap (λ es. put_all es (views stored (part ∷ []))) h.entries ∙ (sym (put_both (views stored o.parts) [] (views stored (part ∷ []))) ∙ ap (put_all []) (sym (views_both stored o.parts (part ∷ []))));
      operands = λ later a. ap (λ ps. length (operand_names (unmarked o.place o.names o.id (body_of (formats o.id) ps)))) (moved later) ∙ h.operands (part ∷ later) (following later a);
      successors = λ later a. ap (λ ps. length (successor_labels (unmarked o.place o.names o.id (body_of (formats o.id) ps)))) (moved later) ∙ h.successors (part ∷ later) (following later a);
      types = λ later a. ap (λ ps. result_types (body_of (formats o.id) ps)) (moved later) ∙ h.types (part ∷ later) (following later a);
      stores = λ later a. ap (λ ps. views stored (parts_of (body_of (formats o.id) ps))) (moved later) ∙ (h.stores (part ∷ later) (following later a) ∙ ap (views stored) (sym (moved later)));
    }
