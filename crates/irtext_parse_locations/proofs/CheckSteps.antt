-- Steps of the check of references.
use Rattle.std.proofs.Common.{◌≡◌, ◌∙◌, ℕ, List, [], ◌∷◌, ◌++◌, sym, ap, subst}
use Rattle.irtext_base.specs.Stream.{StreamView}
use Rattle.irtext_base.specs.declared.parsable.fault.ParseFault.{ParseFault}
use Rattle.irtext_parse_locations.specs.Checked.{Wrong, RefusesFirst}

-- nothing is wrong with the first of those that are left
pub none_wrong : (all left ws vs : List Wrong) → all ≡ left → left ≡ ws ++ vs → ws ≡ [] → all ≡ vs
none_wrong all left ws vs e f k = e ∙ (f ∙ ap (λ us. us ++ vs) k)

module _ {A : Type 0} where
  -- the first failure of some is the first of them and of those after them
  first_of : (ws vs : List Wrong) (old new : StreamView) (fault : ParseFault A) → RefusesFirst ws old fault new → RefusesFirst (ws ++ vs) old fault new
  first_of [] vs old new fault h = absurd h
  first_of (w ∷ ws) vs old new fault h = h

  -- the first of what is left is the first of all, as long as nothing was wrong
  pub refused_first : (all left ws vs : List Wrong) (start old new : StreamView) (fault : ParseFault A) → all ≡ left → left ≡ ws ++ vs → old ≡ start → RefusesFirst ws old fault new → RefusesFirst all start fault new
  refused_first all left ws vs start old new fault e f s h =
      subst (λ us. RefusesFirst us start fault new) (sym (e ∙ f)) (subst (λ v. RefusesFirst (ws ++ vs) v fault new) s (first_of ws vs old new fault h))
