-- Copies of locations by a walk: what each turn leaves of the open locations.
use Rattle.std.proofs.Common.{◌≡◌, ◌∙◌, ap, ap₂, refl, sym, subst, ◌+◌, ◌<◌, suc, arith, List, [], ◌∷◌, ◌++◌, map, fold, length, true, string_bytes, Box, Bor, Global, String, ◌≤◌, true≢false}
use Rattle.std.proofs.lemmas.List.{map-append}
use Rattle.std.proofs.lemmas.List.Sums.{fold-append}
use Rattle.irtext_base.specs.declared.location.Location.{Location}
use Rattle.irtext_base.specs.declared.location.Location.TheVariants.{SrcPos, Named, CallSite, Unknown}
use Rattle.irtext_base.specs.declared.location.Source.{Source}
use Rattle.irtext_stream.specs.declared.position.SourcePosition.{SourcePosition}
use Rattle.irtext_base.specs.declared.location.walk.Row.{Row}
use Rattle.irtext_base.specs.declared.location.walk.Frame.{Frame}
use Rattle.irtext_base.specs.declared.location.walk.Frame.TheVariants as frame
use Rattle.irtext_base.specs.declared.location.walk.Turn.{Turn}
use Rattle.irtext_base.specs.declared.location.walk.Turn.TheVariants.{Inside, Done, Last}
use Rattle.irtext_base.specs.Locations.{LocationOf, LocationsOf, LocationView, LocationViews, src_pos, fused, named, call_site, unknown, no_location, location, location_view, attr_view_in, in_row}
use Rattle.irtext_base.specs.Walks.{Rule, same_sources, Taken, still, made, joined, taken, row_taken, Reached, Begins, in_front, row_with, row_left, row_rest, closed, closing, resume, begun, whole, turns, all_turns, row_turns, frame_turns, stack_turns, turn_turns, work}
use Rattle.irtext_base.proofs.Characters.{and_left}
use Rattle.irtext_base.proofs.LocationViews.{seen-src_pos, seen-named, seen-call_site, seen-unknown}

mutual
  -- a location whose sources stay is the same
  pub same_taken : {W A : Type 0} (w : W) (l : LocationView A) → taken same_sources w l ≡ still l w
  same_taken w (src_pos src pos) = refl
  same_taken w (fused metadata locations) = ap (made (fused metadata)) (same_row_taken w locations)
  same_taken w (named name child) = ap (made (named name)) (same_taken w child)
  same_taken w (call_site callee caller) =
      ap (λ t. joined call_site t (λ u. taken same_sources u caller)) (same_taken w callee) ∙ ap (made (call_site callee)) (same_taken w caller)
  same_taken w unknown = refl

  pub same_row_taken : {W A : Type 0} (w : W) (ls : LocationViews A) → row_taken same_sources w ls ≡ still ls w
  same_row_taken w no_location = refl
  same_row_taken w (location l ls) = ap (λ t. joined location t (λ u. row_taken same_sources u ls)) (same_taken w l) ∙ ap (made (location l)) (same_row_taken w ls)

-- one source was visited
pub reached_one : {W : Type 0} (r : Rule W) (s : Source) (old new : W) → new ≡ r.after old s → Reached r old new
reached_one r s old new e = record { sources = s ∷ []; by_sources = e }

-- some sources were visited, and then some more
pub reached_again : {W : Type 0} {r : Rule W} {a b c : W} → Reached r a b → Reached r b c → Reached r a c
reached_again {W} {r} {a} {b} {c} h k = record {
  sources = h.sources ++ k.sources;
  by_sources = k.by_sources ∙ (ap (λ w. fold r.after w k.sources) h.by_sources ∙ sym (fold-append r.after a h.sources k.sources));
}

in_front_last : {S A : Type 0} (ks : List (LocationOf S A)) (k : LocationOf S A) (ls : LocationsOf S A) → in_front (ks ++ k ∷ []) ls ≡ in_front ks (location k ls)
in_front_last [] k ls = refl
in_front_last (j ∷ ks) k ls = ap (location j) (in_front_last ks k ls)

in_front_none : {S A : Type 0} (ks : List (LocationOf S A)) → in_front ks no_location ≡ in_row ks
in_front_none [] = refl
in_front_none (k ∷ ks) = ap (location k) (in_front_none ks)

-- the open frames, with one more location inside
resume_push : {W A : Type 0} (r : Rule W) (frames : List (Frame A)) (f : Frame A) (t : Taken W (LocationView A)) → resume r (frames ++ f ∷ []) t ≡ resume r frames (closed r f t)
resume_push r [] f t = refl
resume_push r (g ∷ frames) f t = ap (closed r g) (resume_push r frames f t)

stack_push : {A : Type 0} (frames : List (Frame A)) (f : Frame A) → stack_turns (frames ++ f ∷ []) ≡ stack_turns frames + frame_turns f
stack_push [] f = omega arith
stack_push (g ∷ frames) f = omega (arith, stack_push frames f)

closed_known : {W A : Type 0} (r : Rule W) (f : Frame A) (t : Taken W (LocationView A)) → (closed r f t).known ≡ true → t.known ≡ true
closed_known r (frame.Named name) t h = h
closed_known r (frame.Callee caller) t h = and_left t.known _ h
closed_known r (frame.Caller callee) t h = h
closed_known r (frame.Fused row) t h = and_left t.known _ h

resume_known : {W A : Type 0} (r : Rule W) (frames : List (Frame A)) (t : Taken W (LocationView A)) → (resume r frames t).known ≡ true → t.known ≡ true
resume_known r [] t h = h
resume_known r (f ∷ frames) t h = resume_known r frames t (closed_known r f (resume r frames t) h)

-- a turn whose sources are known is not the last one
pub whole_of : {W A : Type 0} (r : Rule W) (frames : List (Frame A)) (t : Turn A) (w : W) → (begun r t w).known ≡ true → whole r frames t w ≡ resume r frames (begun r t w)
whole_of r frames (Inside f l) w h = refl
whole_of r frames (Done l) w h = refl
whole_of r frames (Last l) w h = absurd (true≢false (sym h))

-- a frame is opened
module _ {A : Type 0} (old new : List (Frame A)) (f : Frame A) (e : new ≡ old ++ f ∷ []) (u : Turn A) (l : Bor (Location A)) (is : u ≡ Inside f l) where
  pub inside_known : {W : Type 0} (r : Rule W) (w : W) → (whole r old u w).known ≡ true → (taken r w (location_view l.now)).known ≡ true
  inside_known r w h = closed_known r f (taken r w (location_view l.now)) (resume_known r old (closed r f (taken r w (location_view l.now))) (ap (λ v. (whole r old v w).known) (sym is) ∙ h))

  pub turn_opens : {W : Type 0} (r : Rule W) (w : W) → (whole r old u w).known ≡ true → (t : Turn A) (v : W) → begun r t v ≡ taken r w (location_view l.now) → whole r new t v ≡ whole r old u w
  turn_opens r w k t v h =
      whole_of r new t v (ap (λ x. x.known) h ∙ inside_known r w k) ∙ (ap₂ (resume r) e h ∙ (resume_push r old f (taken r w (location_view l.now)) ∙ ap (λ x. whole r old x w) (sym is)))

  pub opening_less : (t : Turn A) → turn_turns t ≤ turns (location_view l.now) → work new t < work old u
  opening_less t h =
      let more : stack_turns new ≡ stack_turns old + frame_turns f = ap stack_turns e ∙ stack_push old f in
      let before : turn_turns u ≡ suc (frame_turns f + turns (location_view l.now)) = ap turn_turns is in
      omega (arith, h, more, before)

-- a copy is put into the innermost open frame
module _ {A : Type 0} (old left : List (Frame A)) (f : Frame A) (e : old ≡ left ++ f ∷ []) (u : Turn A) (copy : Location A) (is : u ≡ Done copy) where
  closing_whole : {W : Type 0} (r : Rule W) (w : W) → resume r left (closing f copy r w) ≡ whole r old u w
  closing_whole r w = sym (resume_push r left f (still (location_view copy) w)) ∙ ap₂ (λ fs v. whole r fs v w) (sym e) (sym is)

  pub turn_closes : {W : Type 0} (r : Rule W) (w : W) → (whole r old u w).known ≡ true → (t : Turn A) → Begins r t (closing f copy) → whole r left t w ≡ whole r old u w
  turn_closes r w k t h =
      let known : (closing f copy r w).known ≡ true = resume_known r left (closing f copy r w) (ap (λ x. x.known) (closing_whole r w) ∙ k) in
      whole_of r left t w (ap (λ x. x.known) (h w) ∙ known) ∙ (ap (resume r left) (h w) ∙ closing_whole r w)

  pub closing_less : (t : Turn A) → turn_turns t ≤ frame_turns f → work left t < work old u
  closing_less t h =
      let before : work old u ≡ stack_turns (left ++ f ∷ []) + 1 = ap₂ work e is in
      omega (arith, h, before, stack_push left f)

-- a list goes on with the next of its locations
module _ {A : Type 0} (row : Row A) (next : Bor (Location A)) (others : Bor (List (Location A))) (s : row.left.now ≡ next.now ∷ others.now) where
  pub row_goes_on : {W : Type 0} (r : Rule W) (w : W) → begun r (Inside (frame.Fused (record { metadata = row.metadata; copies = row.copies; left = others })) next) w ≡ row_rest row r w
  row_goes_on r w = ap (λ ls. made (row_with row) (row_taken r w (in_row (map location_view ls)))) (sym s)

  pub row_turns_on : suc (suc (all_turns (in_row (map location_view others.now))) + turns (location_view next.now)) ≤ suc (row_turns row)
  row_turns_on =
      let left : row_turns row ≡ suc (turns (location_view next.now) + all_turns (in_row (map location_view others.now))) = ap (λ ls. all_turns (in_row (map location_view ls))) s in
      omega (arith, left)

none : {X : Type 0} (xs : List X) → length xs ≡ 0 → xs ≡ []
none [] h = refl
none (x ∷ xs) h = absurd (omega (arith, h))

-- a row of which none is left
module _ {A : Type 0} (row : Row A) (h : length row.left.now ≡ 0) where
  pub row_ends : {W : Type 0} (r : Rule W) (w : W) (l : Location A) → location_view l ≡ fused (attr_view_in row.metadata.now) (in_row (map location_view row.copies.items))
      → still (location_view l) w ≡ row_rest row r w
  row_ends r w l e =
      ap (λ v. still v w) (e ∙ ap (fused (attr_view_in row.metadata.now)) (sym (in_front_none (map location_view row.copies.items))))
      ∙ ap (λ ls. made (row_with row) (row_taken r w (in_row (map location_view ls)))) (sym (none row.left.now h))

-- a row with one copy more
pub row_noted : {W A : Type 0} (r : Rule W) (w : W) (row later : Row A) (copy : Location A) → later.metadata ≡ row.metadata → later.left ≡ row.left
    → later.copies.items ≡ row.copies.items ++ copy ∷ [] → row_rest later r w ≡ closing (frame.Fused row) copy r w
row_noted r w row later copy m l e =
    let left = row_taken r w (row_left row) in
    let before = map location_view row.copies.items in
    let front : in_front (map location_view later.copies.items) left.value ≡ in_front before (location (location_view copy) left.value)
    = ap (λ ks. in_front (map location_view ks) left.value) e ∙ (ap (λ ks. in_front ks left.value) (map-append location_view row.copies.items (copy ∷ [])) ∙ in_front_last before (location_view copy) left.value) in
    ap₂ (λ x y. made (λ ls. fused (attr_view_in x.now) (in_front (map location_view later.copies.items) ls)) (row_taken r w (in_row (map location_view y.now)))) m l
    ∙ ap (λ ls. record { known = left.known; value = fused (attr_view_in row.metadata.now) ls; after = left.after }) front

-- what an open frame makes of a finished copy, by the kind of the frame
pub closes_as : {W A : Type 0} (r : Rule W) (t : Turn A) (f g : Frame A) (copy : Location A) → f ≡ g → Begins r t (closing g copy) → Begins r t (closing f copy)
closes_as r t f g copy is h = subst (λ k. Begins r t (closing k copy)) (sym is) h

-- a name is opened
module _ {A : Type 0} (l : Location A) (name : Box (String Global) Global) (child : Box (Location A) Global) (is : l ≡ Named name child)
    (text : Bor (String Global)) (n : text.now ≡ name.value) (inside : Bor (Location A)) (i : inside.now ≡ child.value) where
  look : location_view l ≡ named (string_bytes text.now) (location_view inside.now)
  look = ap location_view is ∙ (seen-named name child ∙ sym (ap₂ (λ x y. named (string_bytes x) (location_view y)) n i))

  pub name_opens : {W : Type 0} (r : Rule W) (w : W) → begun r (Inside (frame.Named text) inside) w ≡ taken r w (location_view l)
  name_opens r w = ap (taken r w) (sym look)

  pub name_less : suc (1 + turns (location_view inside.now)) ≤ turns (location_view l)
  name_less =
      let all : turns (location_view l) ≡ suc (suc (turns (location_view inside.now))) = ap turns look in
      omega (arith, all)

-- a callee is opened, whose caller waits
module _ {A : Type 0} (l : Location A) (callee caller : Box (Location A) Global) (is : l ≡ CallSite callee caller)
    (inside : Bor (Location A)) (i : inside.now ≡ callee.value) (waits : Bor (Location A)) (j : waits.now ≡ caller.value) where
  seen : location_view l ≡ call_site (location_view inside.now) (location_view waits.now)
  seen = ap location_view is ∙ (seen-call_site callee caller ∙ sym (ap₂ (λ x y. call_site (location_view x) (location_view y)) i j))

  pub call_site_opens : {W : Type 0} (r : Rule W) (w : W) → begun r (Inside (frame.Callee waits) inside) w ≡ taken r w (location_view l)
  call_site_opens r w = ap (taken r w) (sym seen)

  pub call_site_less : suc (suc (suc (turns (location_view waits.now))) + turns (location_view inside.now)) ≤ turns (location_view l)
  call_site_less =
      let all : turns (location_view l) ≡ suc (suc (suc (turns (location_view inside.now) + turns (location_view waits.now)))) = ap turns seen in
      omega (arith, all)

-- a location that is not known
pub unknown_taken : {W A : Type 0} (r : Rule W) (w : W) (l : Location A) → l ≡ Unknown → still (location_view {A = A} Unknown) w ≡ taken r w (location_view l)
unknown_taken {W} {A} r w l is = ap (λ v. still v w) (seen-unknown {A = A}) ∙ ap (taken r w) (sym (ap location_view is ∙ seen-unknown))

-- a place of a source that is known
module _ {A : Type 0} (l : Location A) (s : Source) (pos : SourcePosition) (is : l ≡ SrcPos s pos) where
  place_seen : location_view l ≡ src_pos s pos
  place_seen = ap location_view is ∙ seen-src_pos s pos

  pub place_taken : {W : Type 0} (r : Rule W) (w v : W) (t : Source) → (taken r w (location_view l)).known ≡ true → t ≡ r.image w s → v ≡ r.after w s
      → still (location_view {A = A} (SrcPos t pos)) v ≡ taken r w (location_view l)
  place_taken r w v t h e f =
      let known : r.known s ≡ true = ap (λ z. (taken r w z).known) (sym place_seen) ∙ h in
      let copy : still (src_pos t pos) v ≡ taken r w (src_pos s pos) = (λ i. record { known = sym known i; value = src_pos (e i) pos; after = f i }) in
      ap (λ z. still z v) (seen-src_pos {A = A} t pos) ∙ (copy ∙ ap (taken r w) (sym place_seen))

  pub place_less : 1 ≤ turns (location_view l)
  place_less = let one : turns (location_view l) ≡ 1 = ap turns place_seen in omega (arith, one)

-- an unknown location
pub unknown_less : {A : Type 0} (l : Location A) → l ≡ Unknown → 1 ≤ turns (location_view l)
unknown_less {A} l is =
    let one : turns (location_view l) ≡ 1 = ap turns (ap location_view is ∙ seen-unknown {A = A}) in
    omega (arith, one)
