-- What is found by texts.
use Rattle.std.proofs.Common.{◌≡◌, Bool, true, false, cond, List, [], ◌∷◌, Option, Some, None, refl, sym, ap, subst, ◌∙◌}
use Rattle.std.specs.Prelude.{IfSome, option_map}
use Rattle.std.specs.Cmp.Lexicographic.{bytes_decides}
use Rattle.std.specs.Map.{lookup, lookup_key}
use Rattle.std.specs.Str.{bytes_eq}
use denote.Ref.{Bor}
use Rattle.irtext_base.specs.Text.{Text}
use Rattle.irtext_base.specs.Format.{Accepted}
use Rattle.irtext_base.specs.FormatViews.{format_of}
use Rattle.irtext_context.specs.Dialects.{AreAccepted, IsKeyed, AreKeyed, known_of, known_entries, same_id}
use Rattle.irtext_context.specs.Named.{id_of_texts, same_texts}
use Rattle.irtext_base.specs.declared.base.identifier.OpId.{OpId}
use Rattle.irtext_context.specs.declared.dialect.OpInfo.{OpInfo}
use Rattle.irtext_context.proofs.Dialects.{IsAccepted, known_found, accepted_found, keyed_found}

module _ {K X : Type 0} (test : K → Bool) where
  passes : (es : List (K × X)) → IfSome (lookup_key test es) (λ k. test k ≡ true)
  passes [] = tt
  passes (e ∷ es) = go (test e.0) refl (passes es)
    where
      go : (b : Bool) → test e.0 ≡ b → IfSome (lookup_key test es) (λ k. test k ≡ true) → IfSome (cond b (Some e.0) (lookup_key test es)) (λ k. test k ≡ true)
      go true e h = e
      go false e h = h

  -- a key that is found passes the test
  key_passes : (r : Option (Bor K × Bor X)) (es : List (K × X)) → option_map (λ e. e.0.now) r ≡ lookup_key test es → IfSome r (λ e. test e.0.now ≡ true)
  key_passes r es e = by r (subst (λ o. IfSome o (λ k. test k ≡ true)) (sym e) (passes es))
    where
      by : (r : Option (Bor K × Bor X)) → IfSome (option_map (λ e. e.0.now) r) (λ k. test k ≡ true) → IfSome r (λ e. test e.0.now ≡ true)
      by None h = tt
      by (Some p) h = h

-- a name that is found by a text has it
pub name_found : {X : Type 0} (name : Text) (r : Option (Bor Text × Bor X)) (es : List (Text × X)) → option_map (λ e. e.0.now) r ≡ lookup_key (bytes_eq name) es → IfSome r (λ e. e.0.now ≡ name)
name_found {X} name r es e = by r (key_passes (bytes_eq name) r es e)
  where
    by : (r : Option (Bor Text × Bor X)) → IfSome r (λ e. bytes_eq name e.0.now ≡ true) → IfSome r (λ e. e.0.now ≡ name)
    by None h = tt
    by (Some p) h = sym ((bytes_decides name p.0.now).0 h)

-- an id that is found by two texts has them
pub id_found : {X : Type 0} (dialect name : Text) (r : Option (Bor OpId × Bor X)) (es : List (OpId × X)) → option_map (λ e. e.0.now) r ≡ lookup_key (same_id (id_of_texts dialect name)) es → IfSome r (λ e. e.0.now ≡ id_of_texts dialect name)
id_found {X} dialect name r es e = by r (key_passes (same_id (id_of_texts dialect name)) r es e)
  where
    by : (r : Option (Bor OpId × Bor X)) → IfSome r (λ e. same_id (id_of_texts dialect name) e.0.now ≡ true) → IfSome r (λ e. e.0.now ≡ id_of_texts dialect name)
    by None h = tt
    by (Some p) h = let s = same_texts (id_of_texts dialect name) p.0.now h in sym (λ i. id_of_texts (s.0 i) (s.1 i))

-- and what is known of it is what the dialect has
pub known_with_id : (r : Option (Bor OpId × Bor OpInfo)) (test : OpId → Bool) (es : List (OpId × OpInfo)) → option_map (λ e. e.1.now) r ≡ lookup test es → option_map (λ e. known_of e.1.now) r ≡ lookup test (known_entries es)
known_with_id r test es e = go r ∙ ap (option_map known_of) e ∙ sym (known_found test es)
  where
    go : (r : Option (Bor OpId × Bor OpInfo)) → option_map (λ e. known_of e.1.now) r ≡ option_map known_of (option_map (λ e. e.1.now) r)
    go None = refl
    go (Some e) = refl

-- and was accepted
pub accepted_with_id : (r : Option (Bor OpId × Bor OpInfo)) (name : Text) (test : OpId → Bool) (es : List (OpId × OpInfo)) → option_map (λ e. e.1.now) r ≡ lookup test es → AreAccepted name (known_entries es) → IfSome r (λ e. Accepted (format_of e.1.now.format))
accepted_with_id r name test es e a = by r (subst (λ o. IsAccepted o) (sym (known_with_id r test es e)) (accepted_found name test (known_entries es) a))
  where
    by : (r : Option (Bor OpId × Bor OpInfo)) → IsAccepted (option_map (λ e. known_of e.1.now) r) → IfSome r (λ e. Accepted (format_of e.1.now.format))
    by None h = tt
    by (Some e) h = h

-- and a key is kept exactly if it has a symbol's name
pub keyed_with_id : (r : Option (Bor OpId × Bor OpInfo)) (test : OpId → Bool) (es : List (OpId × OpInfo)) → option_map (λ e. e.1.now) r ≡ lookup test es → AreKeyed es → IfSome r (λ e. IsKeyed e.1.now)
keyed_with_id r test es e a = by r (subst (λ o. IfSome o IsKeyed) (sym e) (keyed_found test es a))
  where
    by : (r : Option (Bor OpId × Bor OpInfo)) → IfSome (option_map (λ e. e.1.now) r) IsKeyed → IfSome r (λ e. IsKeyed e.1.now)
    by None h = tt
    by (Some e) h = h
