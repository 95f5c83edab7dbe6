-- Entries of a dictionary that are stored one after another, under a rule which keys may have which attributes.
use Rattle.std.proofs.Common.{◌≡◌, ◌∙◌, List, [], ◌∷◌, map, Result, IsErrAnd, IfErr, sym, ap, subst}
use Rattle.irtext_base.specs.Text.{Text}
use Rattle.irtext_base.specs.declared.base.attributes.AttrObj.{AttrObj}
use Rattle.irtext_grammar.specs.Grammar.Tree.{Attribute}
use Rattle.irtext_grammar.specs.Graphs.Build.{put_all}
use Rattle.irtext_grammar.specs.Names.Acts.{Rule}
use Rattle.irtext_grammar.specs.declared.parsed.Key.{Key}
use Rattle.irtext_names.specs.declared.operation_parts.NotGathered.{NotGathered}
use Rattle.irtext_names.specs.Gathering.{entry_read, AreAllowed, Forbids}
use Rattle.irtext_names.proofs.BlockEntries.{all_allowed, first_forbidden, later_forbidden}
use Rattle.irtext_names.proofs.Stored.{exit_from}

-- What is left, stored in what is stored now, is all of it stored in what was there; what is allowed and what is forbidden is that of all.
pub record StoresEntries {A : Type 0} (rule : Rule A) (old now : List (Text × Attribute A)) (all left : List (Key × AttrObj A)) : Type 0 where
  pub stored : put_all now (map entry_read left) ≡ put_all old (map entry_read all)
  pub allowed : AreAllowed rule left → AreAllowed rule all
  pub refused : (r : NotGathered) → Forbids rule left r → Forbids rule all r

module _ {A : Type 0} (rule : Rule A) where
  pub stores_none : (old : List (Text × Attribute A)) (all left : List (Key × AttrObj A)) → left ≡ all → StoresEntries rule old old all left
  stores_none old all left e = record {
    stored = ap (λ es. put_all old (map entry_read es)) e;
    allowed = λ h. subst (AreAllowed rule) e h;
    refused = λ r h. subst (λ es. Forbids rule es r) e h;
  }

  -- none is left
  pub all_stored : {old now : List (Text × Attribute A)} {all left : List (Key × AttrObj A)} → StoresEntries rule old now all left → left ≡ [] → (now ≡ put_all old (map entry_read all)) × AreAllowed rule all
  all_stored {now = now} i e = (ap (λ es. put_all now (map entry_read es)) (sym e) ∙ i.stored, i.allowed (subst (AreAllowed rule) (sym e) tt))

  module _ {old now : List (Text × Attribute A)} {all left rest : List (Key × AttrObj A)} {e : Key × AttrObj A} (i : StoresEntries rule old now all left) (steps : left ≡ e ∷ rest) where
    -- the next entry was stored
    pub stores_more : {new : List (Text × Attribute A)} → new ≡ put_all now (entry_read e ∷ []) → AreAllowed rule (e ∷ []) → StoresEntries rule old new all rest
    stores_more stored allowed = record {
      stored = ap (λ d. put_all d (map entry_read rest)) stored ∙ (ap (λ es. put_all now (map entry_read es)) (sym steps) ∙ i.stored);
      allowed = λ k. i.allowed (subst (AreAllowed rule) (sym steps) (all_allowed rule e rest allowed k));
      refused = λ r k. i.refused r (subst (λ es. Forbids rule es r) (sym steps) (later_forbidden rule e rest r allowed k));
    }

    -- or it is forbidden
    pub stores_refused : {X : Type 0} (result : Result X NotGathered) (fault : NotGathered) → IsErrAnd result (λ y. y ≡ fault) → Forbids rule (e ∷ []) fault → IfErr result (Forbids rule all)
    stores_refused result fault is h = exit_from result is (Forbids rule (e ∷ [])) (Forbids rule all)
        (λ r h. i.refused r (subst (λ es. Forbids rule es r) (sym steps) (first_forbidden rule e rest r h))) h
