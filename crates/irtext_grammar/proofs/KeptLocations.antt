-- A location of several others has the properties that a context keeps if those before the last one have them, and the last one.
use Rattle.std.proofs.Common.{◌≡◌, ◌∙◌, ap, refl, sym, subst, ℕ, ◌+◌, ◌<◌, true, false, nat_lt, true≢false, List, [], ◌∷◌, ◌++◌, map, length, slice_get, arith, Box, Vec, Global, String, Option, Some, None}
use Rattle.std.proofs.lemmas.Bool.Decides.{nat_tests}
use Rattle.std.proofs.lemmas.Option.{slice_get_within}
use Rattle.std.proofs.lemmas.Str.{IsUtf8-string_bytes}
use Rattle.std.specs.Prelude.{IfSome}
use Rattle.irtext_base.specs.declared.base.attributes.AttrObj.{AttrObj}
use Rattle.irtext_base.specs.declared.location.Location.{Location}
use Rattle.irtext_base.specs.declared.location.Location.TheVariants.{SrcPos, Fused, Named, CallSite, Unknown}
use Rattle.irtext_base.specs.declared.location.Source.{Source}
use Rattle.irtext_base.specs.declared.location.Source.TheVariants.{File, InMemory}
use Rattle.irtext_base.specs.Locations.{LocationView, location_view, in_row, attr_view_in, sourced, row_sourced}
use Rattle.irtext_base.specs.Paths.{path_of, is_known}
use Rattle.irtext_base.specs.Weights.{weight, weight_of}
use Rattle.irtext_base.proofs.LocationViews.{seen-src_pos, seen-unknown, at-fused, at-named, at-call_site}
use Rattle.std.specs.Str.{IsUtf8}
use Rattle.irtext_stream.specs.declared.position.SourcePosition.{SourcePosition}
use Rattle.irtext_grammar.specs.Spelling.AttrText.{IsSpellableAttr}
use Rattle.irtext_grammar.specs.Promises.KeptRoot.{AllHold}
use Rattle.irtext_grammar.specs.Promises.LocationsBack.{AllFit}
use Rattle.irtext_grammar.specs.Promises.PrintedBack.{Fits32}
use Rattle.irtext_grammar.proofs.KeptParts.{RowIsKept}

-- what is known of a location, as definitions see it
abbrev pub ViewIsKept : {A : Type 0} → List (List ℕ) → LocationView A → Type 0
ViewIsKept paths v = AllFit (sourced (path_of paths) v) × AllHold IsSpellableAttr (sourced (path_of paths) v)

-- what is known of a location
abbrev pub WholeIsKept : {A : Type 0} → List (List ℕ) → Location A → Type 0
WholeIsKept paths l = ViewIsKept paths (location_view l)

-- what is known of several locations
abbrev pub ManyAreKept : {A : Type 0} → List (List ℕ) → List (Location A) → Type 0
ManyAreKept paths ls = RowIsKept (row_sourced (path_of paths) (in_row (map location_view ls)))

-- a source that the context does not know has no path there
pub none_known : (paths : List (List ℕ)) (src : Source) → is_known (length paths) src ≡ false → IfSome (path_of paths src) IsUtf8
none_known paths InMemory e = tt
none_known paths (File key) e = go (slice_get paths key.index) refl
  where
    less : (i n : ℕ) → i < n → nat_lt i n ≡ true
    less i n h = grind (arith, nat_tests)

    go : (o : Option (List ℕ)) → slice_get paths key.index ≡ o → IfSome o IsUtf8
    go None t = tt
    go (Some path) t = absurd (true≢false (sym (less key.index (length paths) (slice_get_within paths key.index path t)) ∙ e))

module _ {A : Type 0} where
  with_last : (paths : List (List ℕ)) (others : List (Location A)) (last : Location A) → ManyAreKept paths others → WholeIsKept paths last → ManyAreKept paths (others ++ last ∷ [])
  with_last paths [] last h k = ((k.0, tt), (k.1, tt))
  with_last paths (x ∷ xs) last h k = let rest = with_last paths xs last (h.0.1, h.1.1) k in ((h.0.0, rest.0), (h.1.0, rest.1))

  none_kept : (paths : List (List ℕ)) (items : List (Location A)) → length items ≡ 0 → ManyAreKept paths items
  none_kept paths [] none = (tt, tt)
  none_kept paths (x ∷ xs) none = absurd (omega (arith, none))

  -- a place in a source is kept if the path and the numbers are
  pub src_pos_kept : (l : Location A) (src : Source) (pos : SourcePosition) → l ≡ SrcPos src pos → (paths : List (List ℕ)) → IfSome (path_of paths src) IsUtf8 → Fits32 pos → WholeIsKept paths l
  src_pos_kept l src pos is paths path numbers = subst (ViewIsKept paths) (sym (ap location_view is ∙ seen-src_pos src pos)) ((path, numbers), tt)

  -- nothing in an unknown location has to be kept
  pub unknown_kept : (l : Location A) → l ≡ Unknown → (paths : List (List ℕ)) → WholeIsKept paths l
  unknown_kept l is paths = subst (ViewIsKept paths) (sym (ap location_view is ∙ seen-unknown)) (tt, tt)

  module _ (l : Location A) (m : Box (Option (AttrObj A)) Global) (ls : Box (Vec (Location A) Global) Global) (items : List (Location A)) (is : l ≡ Fused m ls) (all : items ≡ ls.value.items) where
    -- of several locations, all are kept and the metadata
    fused_kept : (paths : List (List ℕ)) (inside : Option (AttrObj A)) → inside ≡ m.value → IfSome (attr_view_in inside) IsSpellableAttr → ManyAreKept paths items → WholeIsKept paths l
    fused_kept paths inside same about rows =
        subst (ViewIsKept paths) (sym (at-fused l m ls items is all)) (rows.0, (subst (λ z. IfSome (attr_view_in z) IsSpellableAttr) same about, rows.1))

    -- the same of none
    pub fused_none_kept : (paths : List (List ℕ)) (inside : Option (AttrObj A)) → length items ≡ 0 → inside ≡ m.value → IfSome (attr_view_in inside) IsSpellableAttr → WholeIsKept paths l
    fused_none_kept paths inside none same about = fused_kept paths inside same about (none_kept paths items none)

    -- the same, all before the last and the last
    pub fused_last_kept : (paths : List (List ℕ)) (inside : Option (AttrObj A)) (others : List (Location A)) (last : Location A) → items ≡ others ++ last ∷ [] → inside ≡ m.value → IfSome (attr_view_in inside) IsSpellableAttr → ManyAreKept paths others
        → WholeIsKept paths last → WholeIsKept paths l
    fused_last_kept paths inside others last parts same about before end =
        fused_kept paths inside same about (subst (ManyAreKept paths) (sym parts) (with_last paths others last before end))

  module _ (l : Location A) (name : Box (String Global) Global) (child : Box (Location A) Global) (inside : Location A) (is : l ≡ Named name child) (same : inside ≡ child.value) where
    pub named_weight : weight_of l ≡ 1 + weight_of inside
    named_weight = ap weight (at-named l name child inside is same)

    pub named_kept : (paths : List (List ℕ)) → WholeIsKept paths inside → WholeIsKept paths l
    named_kept paths h = subst (ViewIsKept paths) (sym (at-named l name child inside is same)) ((IsUtf8-string_bytes name.value, h.0), h.1)

  module _ (l : Location A) (callee caller : Box (Location A) Global) (one other : Location A) (is : l ≡ CallSite callee caller) (same : one ≡ callee.value) (also : other ≡ caller.value) where
    pub call_site_weight : weight_of l ≡ 2 + (weight_of one + weight_of other)
    call_site_weight = ap weight (at-call_site l callee caller one other is same also)

    pub call_site_kept : (paths : List (List ℕ)) → WholeIsKept paths one → WholeIsKept paths other → WholeIsKept paths l
    call_site_kept paths h k = subst (ViewIsKept paths) (sym (at-call_site l callee caller one other is same also)) ((h.0, k.0), (h.1, k.1))
