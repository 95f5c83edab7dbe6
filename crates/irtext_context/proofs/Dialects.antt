-- The operations of a dialect stay accepted, one by one, and what is known of them is what the code keeps.
use Rattle.std.proofs.Common.{◌≡◌, ℕ, zero, suc, drop, slice_get, Bool, true, false, cond, List, [], ◌∷◌, Option, Some, None, Result, Ok, Err, refl, sym, ap, subst, ◌∙◌}
use Rattle.std.specs.Prelude.{OnOk, OnErr, IfSome, option_copied, option_map}
use Rattle.std.specs.Map.{lookup, values_of}
use denote.Ref.{Bor}
use Rattle.indexmap.specs.IndexMap.{insert_entry}
use Rattle.irtext_base.specs.Text.{Text}
use Rattle.irtext_base.specs.Format.{Accepted}
use Rattle.irtext_base.specs.FormatViews.{format_of}
use Rattle.irtext_context.specs.Dialects.{Known, Table, AreAccepted, AllAccepted, IsKeyed, AreKeyed, known_of, known_entries, same_id}
use Rattle.irtext_base.specs.declared.base.identifier.OpId.{OpId}
use Rattle.irtext_context.specs.declared.dialect.OpInfo.{OpInfo}

-- what is known once an entry was put
pub known_put : (es : List (OpId × OpInfo)) (id : OpId) (info : OpInfo) → known_entries (insert_entry same_id es id info) ≡ insert_entry same_id (known_entries es) id (known_of info)
known_put [] id info = refl
known_put (e ∷ es) id info = go (same_id id e.0) (known_put es id info)
  where
    go : (b : Bool) → known_entries (insert_entry same_id es id info) ≡ insert_entry same_id (known_entries es) id (known_of info)
        → known_entries (cond b ((e.0, info) ∷ es) (e ∷ insert_entry same_id es id info)) ≡ cond b ((e.0, known_of info) ∷ known_entries es) ((e.0, known_of e.1) ∷ insert_entry same_id (known_entries es) id (known_of info))
    go true r = refl
    go false r = ap (λ l. (e.0, known_of e.1) ∷ l) r

-- what is known of the entry that is found
pub known_found : (test : OpId → Bool) (es : List (OpId × OpInfo)) → lookup test (known_entries es) ≡ option_map known_of (lookup test es)
known_found test [] = refl
known_found test (e ∷ es) = go (test e.0) (known_found test es)
  where
    go : (b : Bool) → lookup test (known_entries es) ≡ option_map known_of (lookup test es)
        → cond b (Some (known_of e.1)) (lookup test (known_entries es)) ≡ option_map known_of (cond b (Some e.1) (lookup test es))
    go true r = refl
    go false r = r

-- the same for the value under the reference that a look-up returns
pub known_after : (r : Option (Bor OpInfo)) (test : OpId → Bool) (es : List (OpId × OpInfo)) → option_copied r ≡ lookup test es → option_map (λ info. known_of info.now) r ≡ lookup test (known_entries es)
known_after r test es e = go r ∙ ap (option_map known_of) e ∙ sym (known_found test es)
  where
    go : (r : Option (Bor OpInfo)) → option_map (λ info. known_of info.now) r ≡ option_map known_of (option_copied r)
    go None = refl
    go (Some info) = refl

-- one more entry
pub accepted_more : (name : Text) (es : List (OpId × Known)) (id : OpId) (known : Known) → AreAccepted name es → id.dialect ≡ name → Accepted known.format → AreAccepted name (insert_entry same_id es id known)
accepted_more name [] id known a d f = (d, f, tt)
accepted_more name (e ∷ es) id known a d f = go (same_id id e.0) (accepted_more name es id known a.2 d f)
  where
    go : (b : Bool) → AreAccepted name (insert_entry same_id es id known) → AreAccepted name (cond b ((e.0, known) ∷ es) (e ∷ insert_entry same_id es id known))
    go true r = (a.0, f, a.2)
    go false r = (a.0, a.1, r)

-- what a look-up of an entry gives, if it gives anything
abbrev pub IsAccepted : Option Known → Type 0
IsAccepted None = Unit {0}
IsAccepted (Some known) = Accepted known.format

-- what is found was accepted
pub accepted_found : (name : Text) (test : OpId → Bool) (es : List (OpId × Known)) → AreAccepted name es → IsAccepted (lookup test es)
accepted_found name test [] a = tt
accepted_found name test (e ∷ es) a = go (test e.0) (accepted_found name test es a.2)
  where
    go : (b : Bool) → IsAccepted (lookup test es) → IsAccepted (cond b (Some e.1) (lookup test es))
    go true r = a.1
    go false r = r

-- the same for the value under the reference that a look-up returns
pub accepted_after : (r : Option (Bor OpInfo)) → IsAccepted (option_map (λ info. known_of info.now) r) → IfSome r (λ info. Accepted (format_of info.now.format))
accepted_after None a = tt
accepted_after (Some info) a = a

-- the entries after one was put, or not
pub accepted_put : {X E : Type 0} (r : Result X E) (name : Text) (old new : List (OpId × OpInfo)) (id : OpId) (known : Known)
    → OnOk r (known_entries new ≡ insert_entry same_id (known_entries old) id known) → OnErr r (new ≡ old)
    → AreAccepted name (known_entries old) → id.dialect ≡ name → OnOk r (Accepted known.format) → AreAccepted name (known_entries new)
accepted_put (Ok x) name old new id known e f a d k = subst (λ es. AreAccepted name es) (sym e) (accepted_more name (known_entries old) id known a d k)
accepted_put (Err x) name old new id known e f a d k = subst (λ es. AreAccepted name (known_entries es)) (sym f) a

-- one more entry for which a key is kept exactly if it has a symbol's name
pub keyed_more : (es : List (OpId × OpInfo)) (id : OpId) (info : OpInfo) → AreKeyed es → IsKeyed info → AreKeyed (insert_entry same_id es id info)
keyed_more [] id info a k = (k, tt)
keyed_more (e ∷ es) id info a k = go (same_id id e.0) (keyed_more es id info a.1 k)
  where
    go : (b : Bool) → AreKeyed (insert_entry same_id es id info) → AreKeyed (cond b ((e.0, info) ∷ es) (e ∷ insert_entry same_id es id info))
    go true r = (k, a.1)
    go false r = (a.0, r)

-- the entries after one was put, or not
pub keyed_put : {X E : Type 0} (r : Result X E) (old new : List (OpId × OpInfo)) (id : OpId) (info : OpInfo)
    → OnOk r (new ≡ insert_entry same_id old id info) → OnErr r (new ≡ old) → IsKeyed info → AreKeyed old → AreKeyed new
keyed_put (Ok x) old new id info e f k a = subst AreKeyed (sym e) (keyed_more old id info a k)
keyed_put (Err x) old new id info e f k a = subst AreKeyed (sym f) a

-- what is found is such an entry
pub keyed_found : (test : OpId → Bool) (es : List (OpId × OpInfo)) → AreKeyed es → IfSome (lookup test es) IsKeyed
keyed_found test [] a = tt
keyed_found test (e ∷ es) a = go (test e.0) (keyed_found test es a.1)
  where
    go : (b : Bool) → IfSome (lookup test es) IsKeyed → IfSome (cond b (Some e.1) (lookup test es)) IsKeyed
    go true r = a.0
    go false r = r

-- the same for the value under the reference that a look-up returns
pub keyed_after : (r : Option (Bor OpInfo)) (test : OpId → Bool) (es : List (OpId × OpInfo)) → option_copied r ≡ lookup test es → AreKeyed es → IfSome r (λ info. IsKeyed info.now)
keyed_after r test es e a = by r (subst (λ o. IfSome o IsKeyed) (sym e) (keyed_found test es a))
  where
    by : (r : Option (Bor OpInfo)) → IfSome (option_copied r) IsKeyed → IfSome r (λ info. IsKeyed info.now)
    by None h = tt
    by (Some info) h = h

-- what holds of the dialect at an index and of those after it holds from that index on
pub accepted_from : (i : ℕ) (ds : List (Text × Table)) (x : Table) → slice_get (values_of ds) i ≡ Some x → AreAccepted x.name x.entries → AllAccepted (drop (suc i) ds) → AllAccepted (drop i ds)
accepted_from zero [] x e a more = absurd (cc)
accepted_from zero (d ∷ ds) x e a more = let same : d.1 ≡ x = cc e in (subst (λ (t : Table). AreAccepted t.name t.entries) (sym same) a, more)
accepted_from (suc i) [] x e a more = absurd (cc)
accepted_from (suc i) (d ∷ ds) x e a more = accepted_from i ds x e a more
