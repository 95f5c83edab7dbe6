-- What definitions see of a location of each kind.
use Rattle.std.proofs.Common.{◌≡◌, ◌∙◌, ap, ap₂, sym, List, map, string_bytes, Box, Global, String, Vec, Option}
use Rattle.irtext_base.specs.declared.base.attributes.AttrObj.{AttrObj}
use Rattle.irtext_base.specs.declared.location.Location.{Location, fold-roll-Location}
use Rattle.irtext_base.specs.declared.location.Location.TheOpen.{Location-F}
use Rattle.irtext_base.specs.declared.location.Location.TheVariants.{SrcPos, Fused, Named, CallSite, Unknown, rolls-SrcPos, rolls-Fused, rolls-Named, rolls-CallSite, rolls-Unknown}
use Rattle.irtext_base.specs.declared.location.Source.{Source}
use Rattle.irtext_stream.specs.declared.position.SourcePosition.{SourcePosition}
use Rattle.irtext_base.specs.Locations.{LocationView, location_view, view_step, attr_view_in, in_row, src_pos, fused, named, call_site, unknown}

pub seen-src_pos : {A : Type 0} (src : Source) (pos : SourcePosition) → location_view {A = A} (SrcPos src pos) ≡ src_pos src pos
seen-src_pos {A} src pos = ap location_view (sym (rolls-SrcPos src pos)) ∙ fold-roll-Location A (LocationView A) view_step (Location-F.SrcPos src pos)

pub seen-fused : {A : Type 0} (m : Box (Option (AttrObj A)) Global) (ls : Box (Vec (Location A) Global) Global) → location_view (Fused m ls) ≡ fused (attr_view_in m.value) (in_row (map location_view ls.value.items))
seen-fused {A} m ls = ap location_view (sym (rolls-Fused m ls)) ∙ fold-roll-Location A (LocationView A) view_step (Location-F.Fused m ls)

pub seen-named : {A : Type 0} (name : Box (String Global) Global) (child : Box (Location A) Global) → location_view (Named name child) ≡ named (string_bytes name.value) (location_view child.value)
seen-named {A} name child = ap location_view (sym (rolls-Named name child)) ∙ fold-roll-Location A (LocationView A) view_step (Location-F.Named name child)

pub seen-call_site : {A : Type 0} (callee caller : Box (Location A) Global) → location_view (CallSite callee caller) ≡ call_site (location_view callee.value) (location_view caller.value)
seen-call_site {A} callee caller = ap location_view (sym (rolls-CallSite callee caller)) ∙ fold-roll-Location A (LocationView A) view_step (Location-F.CallSite callee caller)

pub seen-unknown : {A : Type 0} → location_view {A = A} Unknown ≡ unknown
seen-unknown {A} = ap location_view (sym rolls-Unknown) ∙ fold-roll-Location A (LocationView A) view_step Location-F.Unknown

-- the same of a location that was found to be of the kind
pub at-fused : {A : Type 0} (l : Location A) (m : Box (Option (AttrObj A)) Global) (ls : Box (Vec (Location A) Global) Global) (items : List (Location A)) → l ≡ Fused m ls → items ≡ ls.value.items → location_view l ≡ fused (attr_view_in m.value) (in_row (map location_view items))
at-fused l m ls items e h = ap location_view e ∙ (seen-fused m ls ∙ ap (λ all. fused (attr_view_in m.value) (in_row (map location_view all))) (sym h))

pub at-named : {A : Type 0} (l : Location A) (name : Box (String Global) Global) (child : Box (Location A) Global) (inside : Location A) → l ≡ Named name child → inside ≡ child.value → location_view l ≡ named (string_bytes name.value) (location_view inside)
at-named l name child inside e h = ap location_view e ∙ (seen-named name child ∙ ap (λ k. named (string_bytes name.value) (location_view k)) (sym h))

pub at-call_site : {A : Type 0} (l : Location A) (callee caller : Box (Location A) Global) (a b : Location A) → l ≡ CallSite callee caller → a ≡ callee.value → b ≡ caller.value → location_view l ≡ call_site (location_view a) (location_view b)
at-call_site l callee caller a b e h k = ap location_view e ∙ (seen-call_site callee caller ∙ ap₂ (λ x y. call_site (location_view x) (location_view y)) (sym h) (sym k))
